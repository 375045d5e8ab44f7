-- The shares are all segments in order (`shares`), and each worker's part is that of its share.
-- So the parts in order are the sub-records of all, or the first fault is that of the first part that has one.
use Rattle.std.proofs.Common.{[], Ok, arith}
use Rattle.std.proofs.lemmas.Result.{err_from_is_err_and}
use Rattle.hd_decode.specs.Bodies.{IsSpanWithin}
use Rattle.hd_decode.specs.Shares.{AreShares}
use Rattle.hd_decode.proofs.Spans.{spans-within, spans-few}
use Rattle.hd_decode.proofs.PartLemmas.{AreParts, all-of-share, parts-by-number, joined-reads, fault-is-first, subs-in-few}
use Rattle.hd_decode.proofs.decoding.decode.Goals as goal
use Rattle.hd_decode.proofs.decoding.decode.Goals.{In_ok-parts, After-as_slice-shares}

pub shares_of-requires-clause-few : goal.shares_of-requires-clause-few
shares_of-requires-clause-few g c =
    rw c.as_slice.ensures (spans-few c.args.bytes.now c.args.records.now.id_size _ _ c.args.records.now.segments c.requires.records)

-- the shares are all segments
shares : (g : _) (c : After-as_slice-shares g) → AreShares c.args.records.now.segments c.args.workers c.as_slice-shares.result.now
shares g c = rw (c.as_slice-shares.ensures.value, ← c.as_slice.ensures) c.in_ok-shares.ensures.all

pub map_indices-requires-after_bounds : goal.map_indices-requires-after_bounds
map_indices-requires-after_bounds g c κs within = λ i lt.
    let are = shares g (goal.at.map_indices-requires-after_bounds g c).After-as_slice-shares in
    let all = spans-within c.args.bytes.now c.args.records.now.id_size _ _ c.args.records.now.segments c.requires.records in
    (omega (arith, are.many), (lt, all-of-share (IsSpanWithin c.args.bytes.now) c.as_slice-shares.result.now i lt (rw are.all all)))

-- each worker's part is that of its share
parts : (g : _) (c : In_ok-parts g) → AreParts c.args.records.now.id_size c.args.bytes.now c.as_slice-shares.result.now c.in_ok-parts.parts.items
parts g c = parts-by-number c.args.records.now.id_size c.args.bytes.now (Ok []) c.as_slice-shares.result.now c.in_ok-parts.parts.items
    (omega (arith, c.in_ok-parts.ensures.len))
    (λ i lt. (c.in_ok-parts.ensures.each i (Ok []) lt).1.met)

pub join_parts-requires : goal.join_parts-requires
join_parts-requires g c =
    let are = shares g (goal.at.join_parts-requires g c).After-as_slice-shares in
    let few = spans-few c.args.bytes.now c.args.records.now.id_size _ _ c.args.records.now.segments c.requires.records in
    omega (
      arith,
      few,
      subs-in-few c.args.records.now.id_size c.args.bytes.now c.args.records.now.segments c.args.workers c.as_slice-shares.result.now are
          c.in_ok-parts.parts.items (parts g c),
    )

pub returns-in_err-list-clause-err : goal.returns-in_err-list-clause-err
returns-in_err-list-clause-err g c =
    let at = goal.at.returns-in_err-list-clause-err g c in
    let p = err_from_is_err_and c.from_residual-in_err-list.result c.from_residual-in_err-list.ensures.1 in
    rw (p.1, p.2) (fault-is-first c.args.records.now.id_size c.args.bytes.now c.args.records.now.segments c.args.workers c.as_slice-shares.result.now
    (shares g at.After-as_slice-shares) c.in_ok-parts.parts.items (parts g at.In_ok-parts) c.in_err-list.field-0.0 c.in_err-list.ensures.err)

pub returns-clause-ok : goal.returns-clause-ok
returns-clause-ok g c =
    let at = goal.at.returns-clause-ok g c in
    joined-reads c.args.records.now.id_size c.args.bytes.now c.args.records.now.segments c.args.workers c.as_slice-shares.result.now
    (shares g at.After-as_slice-shares) c.in_ok-parts.parts.items (parts g at.In_ok-parts) c.in_ok-list.list c.in_ok-list.ensures.ok
