-- The IDs of either index.
-- Source: this project.
use Rattle.std.specs.Prelude.{ℕ, List}
use Rattle.hd_ids.specs.declared.ids.Index.{Index}
use Rattle.hd_ids.specs.declared.ids.Index.TheVariants.{Paged, Plain}

-- the IDs by number
abbrev pub ids_of : Index → List ℕ
ids_of (Paged ids) = ids
ids_of (Plain ids) = ids
