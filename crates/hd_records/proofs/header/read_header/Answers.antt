-- One check after another, in the order of the definition: each early return is the fault of one of them,
-- and no check before it failed.
use Rattle.std.proofs.Common.{◌≡◌, ◌≤◌, true, false, List, ℕ, length, inl, inr, refl, sym, ◌∙◌, arith}
use Rattle.std.proofs.lemmas.Bool.{cases_lt}
use Rattle.std.proofs.lemmas.Result.{err_from_is_err_and}
use Rattle.hd_terms.specs.declared.errors.Cause.TheVariants.{TooLarge}
use Rattle.hd_terms.specs.declared.errors.ReadFault.{ReadFault}
use Rattle.hd_terms.specs.Records.{largest_file}
use Rattle.hd_terms.specs.ReadFaults.{fault, IsRecordsFault, too_large, no_header, other_text, other_id_size}
use Rattle.hd_records.proofs.header.read_header.Goals as goal

is_too_large : (bytes : List ℕ) (f : ReadFault) → f ≡ fault TooLarge 0 → (length bytes ≤ largest_file → false ≡ true) → IsRecordsFault bytes f
is_too_large bytes f is refused =
    rw is (elim (cases_lt largest_file (length bytes)) [
      | inl lt ↦ too_large lt
      | inr le ↦ let e : false ≡ true = refused (omega arith) in absurd cc
    ])

pub returns-in_err-check_size-clause-err : goal.returns-in_err-check_size-clause-err
returns-in_err-check_size-clause-err c =
    let p = err_from_is_err_and c.from_residual.result c.from_residual.ensures.1 in
    rw (p.1, p.2) (is_too_large c.args.bytes.now c.in_err-check_size.field-0.0 c.in_err-check_size.ensures.err c.in_err-check_size.ensures.ok.1)

pub returns-then-bytes-lt-HEADER_LEN-clause-err : goal.returns-then-bytes-lt-HEADER_LEN-clause-err
returns-then-bytes-lt-HEADER_LEN-clause-err c = no_header (omega arith)

pub returns-then-not-has_magic-clause-err : goal.returns-then-not-has_magic-clause-err
returns-then-not-has_magic-clause-err c =
    other_text (c.in_ok-check_size.ensures.ok.0 refl) (omega arith) (sym c.has_magic.ensures ∙ c.if-not-has_magic.true)

pub returns-in-4-clause-ok : goal.returns-in-4-clause-ok
returns-in-4-clause-ok c = record {
  fits = c.in_ok-check_size.ensures.ok.0 refl;
  long = c.if-bytes-lt-HEADER_LEN.false;
  magic = sym c.has_magic.ensures ∙ c.if-not-has_magic.false;
  id_size = sym c.number_at.ensures ∙ c.in-4.is;
}

pub returns-in-8-clause-ok : goal.returns-in-8-clause-ok
returns-in-8-clause-ok c = record {
  fits = c.in_ok-check_size.ensures.ok.0 refl;
  long = c.if-bytes-lt-HEADER_LEN.false;
  magic = sym c.has_magic.ensures ∙ c.if-not-has_magic.false;
  id_size = sym c.number_at.ensures ∙ c.in-8.is;
}

pub returns-in_default-clause-err : goal.returns-in_default-clause-err
returns-in_default-clause-err c =
    other_id_size (c.in_ok-check_size.ensures.ok.0 refl) c.if-bytes-lt-HEADER_LEN.false (sym c.has_magic.ensures ∙ c.if-not-has_magic.false)
    (λ e. let is : c.number_at.result ≡ 4 = c.number_at.ensures ∙ e in absurd (omega arith)) (λ e. let is : c.number_at.result ≡ 8 = c.number_at.ensures ∙ e in
    absurd (omega arith))
