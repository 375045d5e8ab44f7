-- Nothing is supported from the object any more (`none_from`), so it may be unreachable for the time being.
-- Its edges and those that lead to it were looked at once each.
use Rattle.std.proofs.Common.{◌≡◌, ◌∙◌, ℕ, inl, inr, List, ap, sym, refl}
use Rattle.std.proofs.lemmas.Bool.{cases_eq}
use Rattle.hd_terms.specs.declared.Slot.{Slot}
use Rattle.hd_terms.specs.declared.Strength.TheVariants as strengths
use Rattle.hd_terms.specs.declared.Support.TheVariants as supports
use Rattle.hd_terms.specs.EdgeRows.{AreRows}
use Rattle.hd_terms.specs.Settled.{Reached, reached_at}
use Rattle.hd_terms.specs.EdgeRows.{Rows}
use Rattle.hd_repair.specs.Hanging.{NoneLate}
use Rattle.hd_repair.specs.Losing.{before_all, progress_of, without_support, IsUnderway, Progress, SupportNone}
use Rattle.hd_repair.proofs.UnderwayLemmas.{loosened_strength, underway_loosened, with_waiting}
use Rattle.hd_repair.proofs.DetachLemmas.{since_gone, since_loosened, supports_none, underway_gone}
use Rattle.hd_repair.proofs.waiting.detach.Goals as goal

-- nothing is supported from the object any more
none_from : (r : Rows) → AreRows r → (n : ℕ) (ks : List Reached) (o : ℕ) (p : Progress) → IsUnderway r.standing n ks p NoneLate → SupportNone ks o (r.out o)
    → (x : ℕ) (slot : Slot) → (reached_at ks x).support ≡ supports.Edge o slot → ⊥
none_from r laws n ks o p h none x slot is = elim (h.backed x) [
  | inl c ↦ let nothing : supports.Nothing ≡ supports.Edge o slot = sym (h.waiting x c).0 ∙ is in absurd cc
  | inr b ↦ supports_none r laws ks o none x (reached_at ks x).strength (reached_at ks x).support refl b slot is
]

pub returns-clause-underway : goal.returns-clause-underway
returns-clause-underway g c =
    let rows = g.E.Edges.rows in
    let r = rows c.args.edges.now in
    let laws : AreRows r = g.met.E.Edges.lawful c.args.edges.now in
    let ks = c.args.kept.now in
    let ks1 = c.loosen_below.new.kept in
    let ks2 = c.put.new.self in
    let o = c.args.o in
    let p = progress_of c.args.losing.now in
    let waiting' = c.loosen_below.new.waiting.items in
    let h = underway_loosened r.standing r.objects ks ks1 o p waiting' c.requires.underway c.in_ok-loosen_below.ensures.loosened in
    let here : reached_at ks2 o ≡ without_support (reached_at ks1 o) =
    c.in_ok-put.ensures.here ∙ ap (λ (s : ℕ). record { strength = strengths.Unreachable; support = supports.Nothing; stamp = s })
    c.stamp-stamp.ensures.stamp in
    rw (c.in_ok-push.ensures.items, c.in_ok-push-2.ensures.items)
    (underway_gone r.standing r.objects ks1 ks2 o (with_waiting waiting' p) c.strength-strength.result h
    (none_from r laws r.objects ks1 o (before_all o (with_waiting waiting' p)) h c.in_ok-loosen_below.ensures.none) c.put.ensures.count here
    c.in_ok-put.ensures.others)

pub returns-clause-since : goal.returns-clause-since
returns-clause-since g c ks0 lost f =
    let rows = g.E.Edges.rows in
    let r = rows c.args.edges.now in
    let laws : AreRows r = g.met.E.Edges.lawful c.args.edges.now in
    let ks = c.args.kept.now in
    let ks1 = c.loosen_below.new.kept in
    let ks2 = c.put.new.self in
    let o = c.args.o in
    let p = progress_of c.args.losing.now in
    let waiting' = c.loosen_below.new.waiting.items in
    let a = c.in_ok-loosen_below.ensures.loosened in
    let h = underway_loosened r.standing r.objects ks ks1 o p waiting' c.requires.underway a in
    let here : reached_at ks2 o ≡ without_support (reached_at ks1 o) =
    c.in_ok-put.ensures.here ∙ ap (λ (s : ℕ). record { strength = strengths.Unreachable; support = supports.Nothing; stamp = s })
    c.stamp-stamp.ensures.stamp in
    rw (c.in_ok-push.ensures.items, c.in_ok-push-2.ensures.items)
    (since_gone r.standing r.objects ks1 ks2 o (with_waiting waiting' p) c.strength-strength.result h
    (none_from r laws r.objects ks1 o (before_all o (with_waiting waiting' p)) h c.in_ok-loosen_below.ensures.none) c.put.ensures.count here
    c.in_ok-put.ensures.others ks0 lost
    (since_loosened r.standing r.objects ks ks1 o p waiting' c.requires.underway a ks0 lost f) c.strength-strength.ensures)

pub returns-clause-unreachable : goal.returns-clause-unreachable
returns-clause-unreachable g c = ap (λ (k : Reached). k.strength) c.in_ok-put.ensures.here

pub returns-clause-at_most : goal.returns-clause-at_most
returns-clause-at_most g c x =
    let rows = g.E.Edges.rows in
    let r = rows c.args.edges.now in
    let o = c.args.o in
    elim (cases_eq x o) [
      | inl same ↦ inr (rw same (ap (λ (k : Reached). k.strength) c.in_ok-put.ensures.here))
      | inr other ↦ inl (ap (λ (k : Reached). k.strength) (c.in_ok-put.ensures.others x other) ∙
          loosened_strength r.standing r.objects c.args.kept.now c.loosen_below.new.kept o (progress_of c.args.losing.now)
          c.loosen_below.new.waiting.items c.requires.underway c.in_ok-loosen_below.ensures.loosened x)
    ]
