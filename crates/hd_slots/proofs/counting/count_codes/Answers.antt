use Rattle.std.proofs.Common.{◌≡◌, ◌∙◌, length, ltb, eqb, sym, ap, arith}
use Rattle.std.specs.Prelude.{count_by}
use Rattle.hd_slots.specs.Table.{null_code}
use Rattle.hd_slots.proofs.CountLemmas.{count-known, count-all}
use Rattle.hd_slots.proofs.counting.count_codes.Goals as goal

pub overflow_sub-others-then-has_no_null : goal.overflow_sub-others-then-has_no_null
overflow_sub-others-then-has_no_null c =
    let ids = c.args.ids.now in
    let codes = c.args.codes.now in
    let all = count-all ids c.args.absent.now c.requires.few (c.has_no_null.ensures.0 c.if-has_no_null.true) codes c.requires.codes in
    let below : c.from-objects.result ≡ count_by (λ code. ltb code (length ids)) codes = c.from-objects.ensures ∙ c.count_known_and_nulls-known.ensures.known
    ∙ ap (λ n. count_by (λ code. ltb code n) codes) c.len.ensures.len in
    let nulls : c.from.result ≡ count_by (λ code. eqb code null_code) codes = c.from.ensures ∙ c.count_known_and_nulls-known.ensures.nulls in
    omega (arith, all, below, nulls)

pub returns-then-has_no_null-clause-objects : goal.returns-then-has_no_null-clause-objects
returns-then-has_no_null-clause-objects c =
    let ids = c.args.ids.now in
    let codes = c.args.codes.now in
    c.from-objects.ensures ∙ c.count_known_and_nulls-known.ensures.known ∙ ap (λ n. count_by (λ code. ltb code n) codes) c.len.ensures.len
    ∙ sym (count-known ids c.args.absent.now codes c.requires.codes)

pub returns-then-has_no_null-clause-others : goal.returns-then-has_no_null-clause-others
returns-then-has_no_null-clause-others c =
    let ids = c.args.ids.now in
    let codes = c.args.codes.now in
    let all = count-all ids c.args.absent.now c.requires.few (c.has_no_null.ensures.0 c.if-has_no_null.true) codes c.requires.codes in
    let below : c.from-objects.result ≡ count_by (λ code. ltb code (length ids)) codes = c.from-objects.ensures ∙ c.count_known_and_nulls-known.ensures.known
    ∙ ap (λ n. count_by (λ code. ltb code n) codes) c.len.ensures.len in
    let nulls : c.from.result ≡ count_by (λ code. eqb code null_code) codes = c.from.ensures ∙ c.count_known_and_nulls-known.ensures.nulls in
    omega (arith, all, below, nulls)

pub returns-else-has_no_null-clause-objects : goal.returns-else-has_no_null-clause-objects
returns-else-has_no_null-clause-objects c =
    let ids = c.args.ids.now in
    let codes = c.args.codes.now in
    c.from-objects.ensures ∙ c.count_known_and_nulls-known.ensures.known ∙ ap (λ n. count_by (λ code. ltb code n) codes) c.len.ensures.len
    ∙ sym (count-known ids c.args.absent.now codes c.requires.codes)
