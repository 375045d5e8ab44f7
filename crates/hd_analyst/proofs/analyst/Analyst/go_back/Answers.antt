-- The private part ends that was open.
use Rattle.std.proofs.Common.{◌≡◌, ◌∙◌, ◌-◌, ℕ, length, Option, None, Some, sym, ap, subst, length-drop}
use Rattle.hd_analyst.specs.declared.analyst.Analyst.TheInside.{Inside}
use Rattle.hd_analyst.specs.declared.analyst.PrivatePart.{PrivatePart}
use Rattle.hd_analyst.specs.AnalystInside.{IsPartOf, home_of, work_of}
use Rattle.hd_analyst.specs.Marking.{GoesBack}
use Rattle.hd_analyst.specs.Work.{Work, memory_at}
use Rattle.hd_analyst.proofs.EditLemmas.{same_at}
use Rattle.hd_analyst.proofs.analyst.Analyst.go_back.Goals as goal

-- the desk to which the part goes back, with no part
abbrev gone : Inside → PrivatePart → Option PrivatePart → Inside
gone a part private = record a { desk = part.home; private = private }

goes_back : (old : Work) (a : Inside) (part : PrivatePart) (private : Option PrivatePart) (k : ℕ) → work_of a ≡ old → IsPartOf a.desk a.private
    → Some part ≡ a.private → private ≡ None
    → k ≡ length a.desk.seen - length part.home.seen → GoesBack old (work_of (gone a part private)) k
goes_back old a part private k view inv was none is =
    let p : IsPartOf a.desk (Some part) = subst (IsPartOf a.desk) (sym was) inv in
    subst (λ (w : Work). GoesBack w (work_of (gone a part private)) k) view
    (record {
      home = part.home.seen;
      was_open = ap home_of (sym was);
      number = is ∙ sym (length-drop (length part.home.seen) a.desk.seen);
      ended = record {
        same_analyst = same_at a.board.now a.desk part.home p.0 p.1;
        memory_is = ap (λ (x : Option PrivatePart). memory_at part.home.seen a.marks.items (home_of x) a.names) none;
      };
    })

pub returns : goal.returns
returns c =
    let k : c.saturating_sub.result ≡ length c.self.inside.desk.seen - length c.in-Some.part.home.seen =
    cc (c.saturating_sub.ensures, c.len-events.ensures.len, c.len-begun.ensures.len, c.seen.ensures, c.seen-2.ensures) in
    goes_back c.args.self.now c.self.inside c.in-Some.part c.take.new.self c.saturating_sub.result c.self.view_is c.self.invariant.part c.in-Some.ensures.value
    c.in-Some.ensures.after k
