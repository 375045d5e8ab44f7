-- Groups that are found by their names, as they are shown.
-- Source: this project's protocol (docs/PROTOCOL.md).
use Rattle.std.specs.Prelude.{◌≡◌, ◌↔◌, ℕ, Bool, true, is_some, All, List, filter}
use Rattle.std.specs.Str.Iter.{HasSubslice}
use Rattle.hd_terms.specs.declared.Group.{Group}
use Rattle.hd_terms.specs.Dump.{Dump}
use Rattle.hd_lines.specs.Names.{group_name, IsNamedWith}
use Rattle.hd_lines.specs.Replies.{found_line}
use Rattle.hd_state.specs.Solution.{Solution}
use Rattle.hd_totals.specs.Members.{member_count}
use Rattle.memchr.specs.Find.{matches, first_of}

-- the line of a group under a state
abbrev pub found_text : Solution → Group → List ℕ
found_text state group = found_line state.dump (member_count state.dump state.kept) group

-- a search finds a text in a name
abbrev pub has_match : (name text : List ℕ) → Bool
has_match name text = is_some (first_of (matches name text 0))

-- an answer tells whether a search finds the text, and that is whether the name contains it
pub record TellsFound (name text : List ℕ) (found : Bool) : Type 0 where
  pub match : found ≡ has_match name text
  pub contains : (found ≡ true) ↔ HasSubslice name text

-- the name of a group has a match
abbrev pub is_named : Dump → (text : List ℕ) → Group → Bool
is_named dump text group = has_match (group_name dump group) text

-- those of the groups whose names have one, which contain the text
pub record AreNamed (dump : Dump) (text : List ℕ) (groups named : List Group) : Type 0 where
  pub is : named ≡ filter (is_named dump text) groups
  pub contains : All (λ group. (is_named dump text group ≡ true) ↔ IsNamedWith dump text group) groups
