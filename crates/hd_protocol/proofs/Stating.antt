-- Lemmas on the text of `stat`.
use Rattle.std.proofs.Common.{◌≡◌, ◌∙◌, ℕ, List, [], ◌++◌, Option, Result, Err, length, take, sym, ap, subst, append_assoc, append-nil, take_all, arith}
use Rattle.std.specs.List.{flat_map}
use Rattle.std.specs.Io.KnownBytes.{Keeps, Appends}
use Rattle.std.proofs.lemmas.List.Concat.{flat_map-append}
use Rattle.hd_terms.specs.declared.Event.{Event}
use Rattle.hd_terms.specs.declared.Mode.{Mode}
use Rattle.hd_terms.specs.declared.Counts.{Counts}
use Rattle.hd_terms.specs.declared.Strength.{Strength}
use Rattle.hd_terms.specs.Dump.{Dump}
use Rattle.hd_terms.specs.Counts.{counts_of}
use Rattle.hd_terms.specs.Totals.{IsTotal}
use Rattle.hd_lines.specs.Replies.{with_newline}
use Rattle.hd_lines.specs.Stat.{IsStat, count_lines, total_line, total_lines}
use Rattle.hd_totals.specs.declared.total.Total.{Total}
use Rattle.hd_totals.specs.declared.total.StrengthTotals.{StrengthTotals}
use Rattle.hd_totals.specs.Totals.{total_for}
use Rattle.hd_protocol.specs.declared.run.RunFault.{RunFault}
use Rattle.hd_protocol.specs.declared.run.RunFault.TheVariants as faults
use Rattle.hd_protocol.specs.declared.serving.ServeFault.TheVariants as serve_faults
use Rattle.hd_protocol.specs.Stating.{shown_total, IsStatOf, StatsDump}
use Rattle.hd_protocol.proofs.Writing.{appends_kept}

-- six pieces, grouped to the right
grouped : (t a b c d e f : List ℕ) → (((((t ++ a) ++ b) ++ c) ++ d) ++ e) ++ f ≡ t ++ (a ++ (b ++ (c ++ (d ++ (e ++ (f ++ []))))))
grouped t a b c d e f = simp (append_assoc, append-nil)

-- six pieces, one behind another
pub six : (t t1 t2 t3 t4 t5 t6 a b c d e f : List ℕ) → t1 ≡ t ++ a → t2 ≡ t1 ++ b → t3 ≡ t2 ++ c → t4 ≡ t3 ++ d → t5 ≡ t4 ++ e → t6 ≡ t5 ++ f
    → t6 ≡ t ++ (a ++ (b ++ (c ++ (d ++ (e ++ (f ++ []))))))
six t t1 t2 t3 t4 t5 t6 a b c d e f h1 h2 h3 h4 h5 h6 =
    h6 ∙ ap (λ l. l ++ f) (h5 ∙ ap (λ l. l ++ e) (h4 ∙ ap (λ l. l ++ d) (h3 ∙ ap (λ l. l ++ c) (h2 ∙ ap (λ l. l ++ b) h1)))) ∙ grouped t a b c d e f

-- one more line, of a total that is another's equal
pub one_total : (old new : List ℕ) (s : Strength) (t t' : Total) → t ≡ t' → new ≡ old ++ with_newline (total_line s (shown_total t)) → new ≡ old
    ++ with_newline (total_line s (shown_total t'))
one_total old new s t t' same h = h ∙ ap (λ (x : Total). old ++ with_newline (total_line s (shown_total x))) same

-- counts and then totals
pub is_stat : (dump : Dump) (log : List Event) (counts : Counts) (totals : StrengthTotals) (t t1 t2 : List ℕ) → log ≡ [] → t ≡ [] → counts ≡ counts_of dump
    → ((s : Strength) → IsTotal dump log s (total_for totals s).count (total_for totals s).bytes)
    → t1 ≡ t ++ flat_map with_newline (count_lines counts) → t2 ≡ t1 ++ flat_map with_newline (total_lines (λ (s : Strength). shown_total (total_for totals s)))
    → IsStat dump t2
is_stat dump log counts totals t t1 t2 none empty same are first second = record {
  totals = λ (s : Strength). shown_total (total_for totals s);
  are = λ s. subst (λ (l : List Event). IsTotal dump l s (total_for totals s).count (total_for totals s).bytes) none (are s);
  text_is = second
      ∙ ap (λ l. l ++ flat_map with_newline (total_lines (λ (s : Strength). shown_total (total_for totals s))))
      (first ∙ ap (λ l. l ++ flat_map with_newline (count_lines counts)) empty ∙ ap (λ (c : Counts). flat_map with_newline (count_lines c)) same)
      ∙ sym (flat_map-append with_newline (count_lines (counts_of dump)) (total_lines (λ (s : Strength). shown_total (total_for totals s))));
}

-- the whole text was written, but can't be handed on
pub not_handed_on : (mode : Mode) (bytes text : List ℕ) (before mid after : Option (List ℕ)) (result : Result (Unit {0}) RunFault) → IsStatOf mode bytes text
    → Appends before mid text → Keeps mid after
    → result ≡ Err (faults.Serve serve_faults.Write) → StatsDump mode bytes before after result
not_handed_on mode bytes text before mid after result stat wrote same is =
    let whole : take (length text) text ≡ text = take_all (length text) text (omega arith) in
    subst (StatsDump mode bytes before after) (sym is)
    (text, stat, length text, subst (Appends before after) (sym whole) (appends_kept before mid after text wrote same))
