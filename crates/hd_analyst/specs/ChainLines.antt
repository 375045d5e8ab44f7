-- Chains as they are shown.
-- Source: this project's protocol (docs/PROTOCOL.md).
use Rattle.std.specs.Prelude.{ℕ, Bool, List, [], ◌∷◌, ◌++◌, map}
use Rattle.hd_terms.specs.Dump.{Dump, object_at}
use Rattle.hd_lines.specs.Names.{id_text, name_at, slot_place, with_columns}
use Rattle.hd_lines.specs.Replies.{chain_start, kind_name, slot_name}
use Rattle.hd_queries.specs.declared.chain.Chain.{Chain}
use Rattle.hd_queries.specs.declared.chain.Link.{Link}
use Rattle.hd_queries.specs.ChainFound.{root_of}

-- the line of a link
abbrev pub plain_link_text : Dump → Link → List ℕ
plain_link_text dump link = slot_name link.slot ++ 32 ∷ kind_name link.kind ++ 32 ∷ id_text (object_at dump link.target).id

abbrev pub link_text : Dump → (names : Bool) → Link → List ℕ
link_text dump names link = with_columns names (plain_link_text dump link) (name_at dump link.target ∷ slot_place dump link.source link.slot ∷ [])

-- the lines of a chain: its root, and then a line for each link
abbrev pub lines_of : Dump → (names : Bool) → Chain → List (List ℕ)
lines_of dump names chain = chain_start dump names (root_of chain) ∷ map (link_text dump names) chain.links.items
