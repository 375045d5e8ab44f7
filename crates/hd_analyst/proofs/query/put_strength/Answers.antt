use Rattle.std.proofs.Common.{◌∙◌, [], ◌∷◌, Ok, refl, ap, sym, append-nil}
use Rattle.hd_terms.specs.Edges.{index_of}
use Rattle.hd_lines.specs.Replies.{AnswersStrength, answer_text, answered, strength_name}
use Rattle.hd_analyst.specs.Replying.{answered_head}
use Rattle.hd_analyst.proofs.QueryLemmas.{about_none, about_object, first_of_one}
use Rattle.hd_analyst.proofs.query.put_strength.Goals as goal

pub returns-in_default : goal.returns-in_default
returns-in_default c =
    let state = c.args.state.now in
    about_none (AnswersStrength state.dump state.log) c.args.most
    (index_of state.dump.objects c.args.id) c.find_object.new.out refl c.in_default.ensures.0 c.in_default.ensures.1

pub returns-then-is_none_wanted : goal.returns-then-is_none_wanted
returns-then-is_none_wanted c =
    let state = c.args.state.now in
    let s = c.strength-strength.result in
    about_object (AnswersStrength state.dump state.log) c.args.most
    (index_of state.dump.objects c.args.id) c.in-Some.object c.put_head.new.out c.in-Some.ensures (
      Ok (strength_name s ∷ []),
      (s, c.strength-strength.ensures, refl),
      c.put_head.ensures.bytes ∙ sym (append-nil (answered_head 0)) ∙ ap (λ most. answer_text most (Ok (strength_name s ∷ [])))
          (sym (c.is_none_wanted.ensures.yes c.if-is_none_wanted.true)),
    )

pub returns-else-is_none_wanted : goal.returns-else-is_none_wanted
returns-else-is_none_wanted c =
    let state = c.args.state.now in
    let s = c.strength-strength.result in
    about_object (AnswersStrength state.dump state.log) c.args.most
    (index_of state.dump.objects c.args.id) c.in-Some.object c.put_line.new.out c.in-Some.ensures (
      Ok (strength_name s ∷ []),
      (s, c.strength-strength.ensures, refl),
      c.put_line.ensures ∙ ap (λ line. answered (line ∷ [])) (c.as_bytes.ensures.value ∙ c.strength_text.ensures.name)
          ∙ ap answered (sym (first_of_one c.args.most (strength_name s) (c.is_none_wanted.ensures.no c.if-is_none_wanted.false))),
    )
