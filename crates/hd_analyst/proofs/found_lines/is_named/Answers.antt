use Rattle.std.proofs.Common.{◌≡◌, ◌∙◌, ℕ, List, ◌++◌, sym, ap, subst}
use Rattle.std.specs.Prelude.{is_some}
use Rattle.hd_lines.specs.Names.{group_name}
use Rattle.hd_analyst.specs.Found.{TellsFound}
use Rattle.hd_analyst.proofs.FoundLemmas.{tells}
use Rattle.hd_analyst.proofs.found_lines.is_named.Goals as goal

pub returns : goal.returns
returns c =
    let name_is : c.as_bytes.result.now ≡ group_name c.args.graph.now c.args.group =
    c.as_bytes.ensures.value ∙ c.in_ok-put_group_name.ensures
    ∙ ap (λ (bytes : List ℕ). bytes ++ group_name c.args.graph.now c.args.group) c.new-name.ensures.bytes in
    subst (TellsFound (group_name c.args.graph.now c.args.group) c.args.text.now) (sym c.is_some.ensures)
    (subst (λ (name : List ℕ). TellsFound name c.args.text.now (is_some c.find.result)) name_is
    (tells c.as_bytes.result.now c.args.text.now c.find.result c.find.ensures))
