use Rattle.std.proofs.Common.{◌≡◌, ◌∙◌, ◌-◌, refl, length}
use Rattle.std.proofs.lemmas.List.{take_rest}
use Rattle.hd_slots.specs.Table.{id_at}
use Rattle.hd_slots.specs.Resolving.{mark}
use Rattle.hd_slots.proofs.ResolvingLemmas.{marked}
use Rattle.hd_slots.proofs.resolving.number_for.Goals as goal

pub returns-clause-code : goal.returns-clause-code
returns-clause-code c =
    let id : c.read.result ≡ id_at c.args.bytes.now c.args.id_size (c.args.item - mark) = c.read.ensures
    ∙ rw (take_rest c.args.bytes.now (c.args.item - mark)) refl in
    let len : c.len-2.result ≡ length c.args.absent.now.items = c.len-2.ensures ∙ c.args.absent.now.ok.0 in
    rw (c.in_ok-push.ensures.items, id, c.len.ensures.len, len)
    (marked c.args.ids.now c.args.bytes.now c.args.id_size c.args.absent.now.items c.args.item c.requires.few c.requires.room c.requires.found
    c.requires.marked.0 c.requires.marked.1)
