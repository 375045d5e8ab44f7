use Rattle.std.proofs.Common.{inr}
use Rattle.hd_terms.specs.declared.errors.Cause.TheVariants.{ShortSub}
use Rattle.hd_subs.proofs.PackedLemmas.{of-some, of-ok, packed-instance, packed-array, packed-primitive-array}
use Rattle.hd_subs.proofs.reading.behind_packed.Goals as goal

pub returns-in-33 : goal.returns-in-33
returns-in-33 c =
    let size = c.args.id_size in
    let fields = c.args.fields.now in
    rw c.in-33.is (of-some c.behind_instance.result _ _ _ _ c.behind_instance.ensures (λ stuck. inr (ShortSub, stuck))
    (λ after h. packed-instance size fields after.now h))

pub returns-in-34 : goal.returns-in-34
returns-in-34 c =
    let size = c.args.id_size in
    let fields = c.args.fields.now in
    rw c.in-34.is (of-some c.behind_array.result _ _ _ _ c.behind_array.ensures (λ stuck. inr (ShortSub, stuck))
    (λ after h. packed-array size fields after.now h))

pub returns-in-35 : goal.returns-in-35
returns-in-35 c =
    let size = c.args.id_size in
    let fields = c.args.fields.now in
    rw (c.in-35.is, c.ok.ensures.value)
    (of-ok c.behind_primitive_array.result _ _ _ _ c.behind_primitive_array.ensures.ok c.behind_primitive_array.ensures.err (λ cause stuck. inr (cause, stuck))
    (λ after h. packed-primitive-array size fields after.now h.0 h.1))
