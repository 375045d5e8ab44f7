-- The parts are joined one after another (`IsJoining`). Once the iterator has none left, all sub-records are numbered, and the rows
-- and shapes are theirs.
use Rattle.std.proofs.Common.{◌≡◌, ◌<◌, length, arith}
use Rattle.std.proofs.lemmas.Result.{err_from_is_err_and}
use Rattle.hd_classes.specs.Known.{known_at}
use Rattle.hd_graph.proofs.PartLemmas.{none-joined, have-room, first-fault, next-joined, all-joined, all-parts, all-rows}
use Rattle.hd_graph.proofs.sharing.numbers_and_rows.Given.{Over}
use Rattle.hd_graph.proofs.sharing.numbers_and_rows.Goals as goal
use Rattle.hd_graph.proofs.sharing.numbers_and_rows.Goals.{After-drop-part-iterator-2}

pub loop-part-init : goal.loop-part-init
loop-part-init g c =
    let some : 0 < c.args.parts = omega (arith, c.requires.some) in
    let many : length c.in_ok-made.made.items ≡ c.args.parts = omega (arith, c.in_ok-made.ensures.len, c.in_ok-made.made.ok.0) in
    let none = c.in_ok-numbers.ensures in
    rw (c.into_iter-part-iterator.ensures.into_iter_gives.0, c.in_ok-rows.ensures.slot_tables, c.in_ok-rows.ensures.shapes)
    (none-joined (known_at c.args.classes.now) c.args.bytes.now c.args.id_size c.args.list.now c.args.parts _ c.in_ok-numbers.numbers some many
    (λ k d lt. (c.in_ok-made.ensures.each k d lt).1.met) none.0 none.1 none.2)

pub join_part-requires : goal.join_part-requires
join_part-requires g c = have-room c.loop-part.invariant c.in-Some.ensures.steps.0 c.requires.within

pub returns-in_err-joined-clause-err : goal.returns-in_err-joined-clause-err
returns-in_err-joined-clause-err g c =
    let p = err_from_is_err_and c.from_residual-in_err-joined.result c.from_residual-in_err-joined.ensures.1 in
    rw (p.1, p.2) (first-fault c.loop-part.invariant c.in-Some.ensures.steps.0 c.in_err-joined.field-0.0 c.in_err-joined.ensures.err)

pub loop-part-preserved : goal.loop-part-preserved
loop-part-preserved g c = next-joined c.loop-part.invariant c.in-Some.ensures.steps.0 (rw c.in-Some-2.is at c.in_ok-joined.ensures.ok)

-- once no part is left
none-left : (g : Over) (c : After-drop-part-iterator-2 g) → length c.loop-part.part-iterator.rest.items ≡ 0
none-left g c = omega (arith, c.in-None.ensures.steps.0, c.loop-part.part-iterator.rest.ok.0)

pub join-requires : goal.join-requires
join-requires g c =
    let none = none-left g (goal.at.join-requires g c).After-drop-part-iterator-2 in
    all-parts c.loop-part.invariant c.requires.some none c.requires.few c.requires.within

pub returns-clause-numbers : goal.returns-clause-numbers
returns-clause-numbers g c =
    let none = none-left g (goal.at.returns-clause-numbers g c).After-drop-part-iterator-2 in
    rw c.indexed.ensures (all-joined c.loop-part.invariant c.requires.some none).numbers

pub returns-clause-rows : goal.returns-clause-rows
returns-clause-rows g c =
    rw c.in_ok-rows-2.ensures.rows (all-rows c.loop-part.invariant c.requires.some (none-left g (goal.at.returns-clause-rows g c).After-drop-part-iterator-2))

pub returns-clause-shapes : goal.returns-clause-shapes
returns-clause-shapes g c =
    let none = none-left g (goal.at.returns-clause-shapes g c).After-drop-part-iterator-2 in
    rw c.in_ok-rows-2.ensures.shapes (all-joined c.loop-part.invariant c.requires.some none).shapes
