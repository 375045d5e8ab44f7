use Rattle.std.proofs.Common.{◌∙◌, [], ◌∷◌, Ok, refl, ap}
use Rattle.hd_terms.specs.Dump.{Dump}
use Rattle.hd_lines.specs.Replies.{answered, object_line}
use Rattle.hd_terms.specs.Listed.{first_items}
use Rattle.hd_analyst.proofs.texts.object_text.Goals as goal

pub returns : goal.returns
returns c =
    let dump = c.args.state.now.dump in
    let s = c.strength.result in (
      Ok (object_line dump c.args.object s ∷ []),
      (s, c.strength.ensures, refl),
      c.in_ok-text.ensures.lines ∙ ap (λ (d : Dump). answered (first_items c.args.showing.most (object_line d c.args.object s ∷ []))) c.graph.ensures,
    )
