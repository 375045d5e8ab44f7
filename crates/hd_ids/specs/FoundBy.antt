-- The IDs that a finder finds.
-- Source: this project.
use Rattle.std.specs.Prelude.{ℕ, List}
use Rattle.hd_ids.specs.declared.finder.FoundBy.{FoundBy}
use Rattle.hd_ids.specs.declared.finder.FoundBy.TheVariants.{Pages, Plain}

-- the IDs by number
abbrev pub ids_found : FoundBy → List ℕ
ids_found (Pages ids) = ids
ids_found (Plain ids) = ids.now
