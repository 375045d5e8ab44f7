-- Names of fields and of statics are numbers of texts, once all texts are there; each list has a row for each class.
-- What is said of the rows so far holds of any later texts that begin with these.
use Rattle.std.proofs.Common.{◌∙◌, ℕ, List, Option, length, map, sym, ap}
use Rattle.std.specs.List.{slice_get}
use Rattle.std.proofs.lemmas.List.{length-map}
use Rattle.hd_names.specs.declared.field_table.FieldRow.{FieldRow}
use Rattle.hd_names.specs.declared.field_table.FieldTable.{FieldTable}
use Rattle.hd_names.specs.Tables.{named_of}
use Rattle.hd_terms.specs.Objects.{text_in}
use Rattle.hd_classes.specs.declared.first_class.FirstClass.{FirstClass}
use Rattle.hd_classes.specs.Sources.{table_of}
use Rattle.hd_classes.specs.Naming.{field_row, field_names, first_of, static_names}
use Rattle.hd_classes.proofs.NamingLemmas.{goes-nowhere}
use Rattle.hd_classes.proofs.NamedTableLemmas.{named-all, rows-earlier, as-many}
use Rattle.hd_classes.proofs.naming.named_classes.Goals as goal

-- the numbers of fields, and those of statics, once all texts are there
pub new-requires-clause-statics : goal.new-requires-clause-statics
new-requires-clause-statics c =
    let t = table_of c.args.source.now in
    let texts = c.statics_of.new.names.texts in
    let entries = c.args.source.now.classes.entries in
    ap (λ (nss : List (List ℕ)). length nss) c.shrunk-statics.ensures
    ∙ as-many (map (slice_get texts)) (map (text_in t)) c.in_ok-statics.statics (map static_names entries)
    (c.in_ok-statics.ensures.statics texts (goes-nowhere texts c.in_ok-statics.ensures.more.noted.few))
    ∙ length-map entries static_names
    ∙ sym (ap (λ (fs : List (ℕ × Option ℕ)). length fs) c.in_ok-firsts.ensures
    ∙ length-map entries (λ (e : ℕ × FirstClass). (e.0, first_of c.args.known.now.entries e.0)))

pub new-requires-clause-rows : goal.new-requires-clause-rows
new-requires-clause-rows c =
    let t = table_of c.args.source.now in
    let texts = c.statics_of.new.names.texts in
    let rows = c.args.known.now.entries in
    ap (λ (nss : List (List ℕ)). length nss) c.shrunk-fields.ensures
    ∙ as-many (map (slice_get texts)) (map (text_in t)) c.in_ok-rows.fields (map field_names rows)
    (c.in_ok-rows.ensures.fields texts c.in_ok-statics.ensures.more.more)
    ∙ length-map rows field_names
    ∙ sym (ap (λ (rs : List FieldRow). length rs) c.in_ok-rows.ensures.rows ∙ length-map rows field_row)

pub new-requires-clause-earlier : goal.new-requires-clause-earlier
new-requires-clause-earlier c =
    let t = table_of c.args.source.now in
    let texts = c.statics_of.new.names.texts in
    let h = c.requires.known.kept in
    let table : FieldTable = record { rows = c.in_ok-rows.rows; fields = c.in_ok-rows.fields; texts = texts } in
    rows-earlier t c.args.known.now.entries h.linked h.owned table c.in_ok-rows.ensures.rows
    (c.in_ok-rows.ensures.fields texts c.in_ok-statics.ensures.more.more)

pub returns : goal.returns
returns c =
    let texts = c.statics_of.new.names.texts in
    let table : FieldTable = record { rows = c.in_ok-rows.rows; fields = c.in_ok-rows.fields; texts = texts } in
    let table_with : List (List ℕ) → List (List ℕ) → FieldTable = λ (fs ts : List (List ℕ)). record { rows = c.in_ok-rows.rows; fields = fs; texts = ts } in
    let firsts = c.in_ok-firsts.firsts.entries in
    c.new.ensures
    ∙ ap (λ (nss : List (List ℕ)). named_of firsts nss (table_with c.shrunk-fields.result c.shrunk-texts.result)) c.shrunk-statics.ensures
    ∙ ap (λ (fs : List (List ℕ)). named_of firsts c.in_ok-statics.statics (table_with fs c.shrunk-texts.result)) c.shrunk-fields.ensures
    ∙ ap (λ (ts : List (List ℕ)). named_of firsts c.in_ok-statics.statics (table_with c.in_ok-rows.fields ts)) c.shrunk-texts.ensures
    ∙ named-all c.args.source.now c.requires.source c.args.known.now.entries c.requires.known table c.in_ok-rows.ensures.rows
    (c.in_ok-rows.ensures.fields texts c.in_ok-statics.ensures.more.more)
    c.in_ok-statics.statics (c.in_ok-statics.ensures.statics texts (goes-nowhere texts c.in_ok-statics.ensures.more.noted.few)) c.in_ok-firsts.firsts.entries
    c.in_ok-firsts.ensures
