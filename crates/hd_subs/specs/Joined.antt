-- Lists of sub-records, one after another.
use Rattle.std.specs.Prelude.{List}
use Rattle.std.specs.List.{flat_map}
use Rattle.hd_terms.specs.SubRecords.{Sub}

abbrev pub joined : List (List Sub) → List Sub
joined parts = flat_map (λ (part : List Sub). part) parts
