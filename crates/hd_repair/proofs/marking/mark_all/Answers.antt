-- One object after another is marked.
use Rattle.std.proofs.Common.{◌≡◌, ◌∙◌, ℕ, List, Contains, take, get_or, subst, sym}
use Rattle.std.proofs.lemmas.List.{take_all, take_more}
use Rattle.std.proofs.lemmas.List.Elements.{Contains-get_or}
use Rattle.hd_repair.specs.Marking.{known_at}
use Rattle.hd_repair.proofs.MarkingLemmas.{marked_more, others_more}
use Rattle.hd_repair.proofs.marking.mark_all.Goals as goal

pub mark-requires : goal.mark-requires
mark-requires c =
    let objects = c.args.objects.now in
    let i = c.loop-o.o-index in
    rw c.loop-o.invariant.count (c.requires (get_or objects i 0) (Contains-get_or objects i 0 c.loop-o-test.true))

pub loop-o-preserved : goal.loop-o-preserved
loop-o-preserved c =
    let objects = c.args.objects.now in
    let i = c.loop-o.o-index in
    let o = get_or objects i 0 in
    let within = Contains-get_or objects i 0 c.loop-o-test.true in
    let h = c.mark.ensures in
    record {
      count = h.count ∙ c.loop-o.invariant.count;
      here = subst (λ (front : List ℕ). (x : ℕ) → Contains front x → known_at c.mark.new.known x ≡ c.args.found)
          (sym (take_more objects i 0 c.loop-o-test.true))
          (marked_more c.args.known.now c.loop-o.known c.mark.new.known objects (take i objects) o c.args.found within h.here h.others c.loop-o.invariant.here);
      others = others_more c.args.known.now c.loop-o.known c.mark.new.known objects (take i objects) o c.args.found within h.here h.others
          c.loop-o.invariant.others;
    }

pub returns-clause-here : goal.returns-clause-here
returns-clause-here c = subst (λ (front : List ℕ). (x : ℕ) → Contains front x → known_at c.loop-o.known x ≡ c.args.found)
    (take_all c.loop-o.o-index c.args.objects.now c.loop-o-test.false) c.loop-o.invariant.here
