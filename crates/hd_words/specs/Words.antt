-- The words of a line.
-- Source: this project.
use Rattle.std.specs.Prelude.{ℕ, ◌==◌, nat_lt, List, length, filter}
use Rattle.std.specs.List.{slice_split}

-- the words between spaces
abbrev pub words_between : List ℕ → List (List ℕ)
words_between bytes = filter (λ word. nat_lt 0 (length word)) (slice_split (λ b. b == 32) bytes)
