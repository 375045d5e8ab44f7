use Rattle.std.proofs.Common.{◌≡◌, ◌∙◌, ℕ, ◌<◌, ◌≤◌, List, get_or, length, sym, subst, arith}
use Rattle.std.proofs.lemmas.List.{get_or_default}
use Rattle.hd_totals.specs.GroupPages.{PageMarks, first_bucket, second_bucket, HasBucket, IsNoted}
use Rattle.hd_totals.proofs.GroupPageLemmas.{lowered}
use Rattle.hd_totals.proofs.group_pages.GroupPages.note.Goals as goal

pub returns-clause-kept : goal.returns-clause-kept
returns-clause-kept c p g i noted =
    let marks : List ℕ = c.self.inside.marks.items in
    let least : List ℕ = c.self.inside.least.items in
    let page : ℕ = c.args.page in
    let room : page < length least = subst (λ (q : PageMarks). page < length q.least) (sym c.self.view_is) c.requires.page in
    let before : IsNoted (record { marks = marks; least = least }) p g i = subst (λ (q : PageMarks). IsNoted q p g i) (sym c.self.view_is) noted in
    let keeps = λ (b : ℕ) (had : HasBucket marks p b). c.mark-2.ensures.kept p b (c.mark.ensures.kept p b had) in
    let at : c.index.result.now ≡ get_or least page 0 = c.index.ensures ∙ get_or_default least page c.index.result.now 0 room in
    let le : c.min.result ≤ get_or least page 0 = omega (arith, at, c.min.ensures) in
    let lower = lowered least page c.min.result room le p in
    record {
      marked = (keeps (first_bucket g) before.marked.0, keeps (second_bucket g) before.marked.1);
      above = omega (arith, lower, before.above);
    }
