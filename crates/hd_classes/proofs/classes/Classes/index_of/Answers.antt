use Rattle.std.proofs.Common.{◌≡◌, ◌∙◌, ℕ, [], Some, eqb, ap, sym}
use Rattle.std.specs.List.{position, slice_get}
use Rattle.std.specs.Map.{keys_of}
use Rattle.std.specs.Option.{option_map}
use Rattle.hd_ids.proofs.RowLemmas.{position-of-place}
use Rattle.hd_classes.specs.Known.{Known, number_of}
use Rattle.hd_classes.specs.Links.{views}
use Rattle.hd_classes.proofs.LinkLemmas.{views-keys}
use Rattle.hd_classes.proofs.LookLemmas.{position-keys, key-at}
use Rattle.hd_classes.proofs.classes.Classes.index_of.Goals as goal

-- the guess is right: no other class has the ID
pub returns : goal.returns
returns c =
    let rows = c.self.inside.known.entries in
    let test = λ (x : ℕ). eqb c.args.id x in
    let entry : slice_get rows c.number-guess.result ≡ Some (c.in-Some.guessed.now, c.in-Some.field-0-1.now) =
    sym (ap (λ (es : _). slice_get es c.number-guess.result) c.as_slice-known.ensures.entries) ∙ sym c.get_index.ensures.entry
    ∙ ap (option_map (λ (p : _). (p.0.now, p.1.now))) c.in-Some.is in
    let key = key-at rows c.number-guess.result _ entry in
    sym (position-of-place (keys_of rows) c.args.id c.number-guess.result c.as_slice-known.ensures.unique key.0 (key.1 ∙ c.if-guessed-id.true))
    ∙ ap (position test) (sym (views-keys rows []))
    ∙ sym (position-keys test (views rows))
    ∙ ap (λ (k : Known). number_of k c.args.id) c.self.view_is

pub returns-2 : goal.returns-2
returns-2 c =
    let rows = c.self.inside.known.entries in
    let test = λ (x : ℕ). eqb c.args.id x in
    c.get_index_of.ensures.index
    ∙ ap (position test) (sym (views-keys rows []))
    ∙ sym (position-keys test (views rows))
    ∙ ap (λ (k : Known). number_of k c.args.id) c.self.view_is
