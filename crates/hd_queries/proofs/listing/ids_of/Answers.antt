-- One object or one page after another: what is left out is not listed, or its ID comes behind `most` that are.
-- So what is kept are the first IDs of all that are listed.
use Rattle.std.proofs.Common.{◌≡◌, ◌∙◌, ℕ, ◌+◌, ◌-◌, ◌/◌, ◌%◌, ◌≤◌, length, sym, ap, subst, arith, true≢false}
use Rattle.hd_terms.specs.Dump.{object_at}
use Rattle.hd_queries.specs.Listed.{is_listed, least_of, AreGatheredBefore, IsQuiet}
use Rattle.hd_queries.proofs.GatheredLemmas.{all-left-out}
use Rattle.hd_queries.proofs.ListedLemmas.{ids-alike, same-page}
use Rattle.hd_queries.proofs.listing.ids_of.Goals as goal
use Rattle.hd_queries.proofs.listing.ids_of.Goals.{else-not-is_quiet-via-then-not-is_quiet+else-not-leaves_out, else-not-is_quiet-via-else-not-is_quiet}

pub loop-first-preserved : goal.loop-first-preserved
loop-first-preserved c =
    let dump = c.args.graph.now in
    let listed = c.args.listed in
    let test = is_listed dump listed in
    let first = c.loop-first.first in
    let end : ℕ = first + c.min.result in
    let kept = c.loop-first.ids in
    let most = c.args.most in
    let up_to : end ≤ first + (1024 - first % 1024) = omega (arith, c.min.ensures) in
    let within : end ≤ length dump.objects = omega (arith, c.min.ensures, c.loop-first.invariant.within) in
    let left_out = all-left-out dump test most kept first end (omega arith) in
    record {
      within = within;
      ids = elim c.else-not-is_quiet.branch [
        | else-not-is_quiet-via-then-not-is_quiet+else-not-leaves_out w ↦
            left_out
            (λ o after before passes all h.
            let page : o / 1024 ≡ first / 1024 = same-page first end o up_to after before in
            let least : w.least.result ≤ (object_at dump o).id =
            omega (arith, w.least.ensures, ap (least_of listed) page, c.requires.quiet.above o (omega (arith, within, before))) in
            w.leaves_out.ensures w.if-not-leaves_out.false most all (object_at dump o).id least h)
            c.loop-first.invariant.ids
        | else-not-is_quiet-via-else-not-is_quiet w ↦
            let quiet : IsQuiet listed (first / 1024) = c.is_quiet.ensures.0 w.if-not-is_quiet.false in
            left_out
            (λ o after before passes.
            let here : IsQuiet listed (o / 1024) = subst (IsQuiet listed) (sym (same-page first end o up_to after before)) quiet in
            absurd (true≢false (sym passes ∙ c.requires.quiet.none o (omega (arith, within, before)) here)))
            c.loop-first.invariant.ids
      ];
    }

pub returns : goal.returns
returns c =
    let dump = c.args.graph.now in
    let test = is_listed dump c.args.listed in
    let n = length dump.objects in
    let most = c.args.most in
    let end : c.loop-first.first ≡ n = omega (arith, c.loop-first.invariant.within, c.objects.ensures, c.loop-first-test.false) in
    let all = subst (λ (k : ℕ). AreGatheredBefore dump test most k c.loop-first.ids) end c.loop-first.invariant.ids in
    let found = c.in_ok-ids.ensures most all.0 all.2 in
    (found.0, (ids-alike dump test n all.0 found.0 (λ x. (found.1.same x).1) (λ x. (found.1.same x).0) all.1, found.1.rises), found.2)
