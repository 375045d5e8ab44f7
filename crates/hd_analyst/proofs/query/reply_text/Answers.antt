use Rattle.std.proofs.Common.{rules, ◌≡◌, ℕ, Option, String, Vec, Global, sym, ap, subst}
use Rattle.std.specs.String.{string_bytes}
use Rattle.std.specs.Option.{option_map}
use Rattle.hd_analyst.specs.Replying.{IsAnswerIn, IsQueryReply}
use Rattle.hd_analyst.proofs.query.reply_text.Goals as goal

pub returns-in-Some : goal.returns-in-Some
returns-in-Some c =
    let state = c.args.state.now in
    let marks = c.args.marks.now in
    let showing = c.args.showing in
    let word = c.args.question.text.now in
    let query = c.args.question.query in
    subst (IsQueryReply state marks showing word query) (sym (ap (λ (v : Vec ℕ Global). v.items) c.into_bytes.ensures.value))
    (subst (λ (text : Option (String Global)). IsAnswerIn state marks showing word query (option_map string_bytes text) c.answer_query.new.out) c.in-Some.is
    c.in_ok-text.ensures)

pub returns : goal.returns
returns c =
    let state = c.args.state.now in
    let marks = c.args.marks.now in
    let showing = c.args.showing in
    let word = c.args.question.text.now in
    let query = c.args.question.query in
    let same : c.in_ok-text-in-None.text.items ≡ c.answer_query.new.out = search rules in
    subst (IsQueryReply state marks showing word query) (sym same)
    (subst (λ (text : Option (String Global)). IsAnswerIn state marks showing word query (option_map string_bytes text) c.answer_query.new.out) c.in-None.is
    c.in_ok-text.ensures)
