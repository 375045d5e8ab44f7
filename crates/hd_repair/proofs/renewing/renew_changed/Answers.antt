-- Strengths are those of the search; where they didn't change, supports stand that stood before the gain (`gain_settled`).
use Rattle.std.proofs.Common.{◌∙◌, inl, inr, length, ap, arith}
use Rattle.hd_terms.specs.Settled.{Reached}
use Rattle.hd_repair.proofs.RenewLemmas.{all_noted, each_changed, gain_settled, stamps_renewed}
use Rattle.hd_repair.proofs.renewing.renew_changed.Goals as goal

pub returns-clause-settled : goal.returns-clause-settled
returns-clause-settled c now gained was settled =
    let r = c.in_ok-renewal.ensures in
    let marks = c.in_ok-marks.ensures in
    let ks = c.args.kept.now in
    gain_settled was.before now gained ks c.args.found.now _ r.base was.without was.settled settled r.greatest
    (each_changed ks c.args.found.now _ c.in_ok-marks.marks.known.items r.base (length ks) r.renewed (omega (arith, marks.count)) marks.each)

pub returns-clause-changes : goal.returns-clause-changes
returns-clause-changes c =
    let r = c.in_ok-renewal.ensures in
    let ks = c.args.kept.now in
    all_noted ks c.args.found.now _ c.in_ok-marks.marks.known.items r.base (length ks) r.renewed (omega (arith, c.in_ok-marks.ensures.count)) _ r.told

pub returns-clause-strengths : goal.returns-clause-strengths
returns-clause-strengths c o =
    let r = c.in_ok-renewal.ensures in
    let marks = c.in_ok-marks.ensures in
    let ks = c.args.kept.now in
    elim (each_changed ks c.args.found.now _ c.in_ok-marks.marks.known.items r.base (length ks) r.renewed (omega (arith, marks.count)) marks.each o) [
      | inl is ↦ ap (λ (k : Reached). k.strength) is.1
      | inr is ↦ ap (λ (k : Reached). k.strength) is.1 ∙ is.0
    ]

pub returns-clause-outside : goal.returns-clause-outside
returns-clause-outside c o same =
    let r = c.in_ok-renewal.ensures in
    let marks = c.in_ok-marks.ensures in
    let ks = c.args.kept.now in
    elim (each_changed ks c.args.found.now _ c.in_ok-marks.marks.known.items r.base (length ks) r.renewed (omega (arith, marks.count)) marks.each o) [
      | inl is ↦ absurd (is.0 (same ∙ ap (λ (k : Reached). k.strength) is.1))
      | inr is ↦ is.1
    ]

pub returns-clause-stamps : goal.returns-clause-stamps
returns-clause-stamps c m high o =
    let r = c.in_ok-renewal.ensures in
    let ks = c.args.kept.now in
    stamps_renewed ks c.args.found.now _ c.in_ok-marks.marks.known.items r.base (length ks) r.renewed (omega (arith, c.in_ok-marks.ensures.count)) r.greatest
    (length ks) c.requires.stamps m high o

pub returns-clause-count : goal.returns-clause-count
returns-clause-count c = c.in_ok-renewal.ensures.renewed.count
