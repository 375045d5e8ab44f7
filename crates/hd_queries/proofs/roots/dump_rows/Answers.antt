use Rattle.std.proofs.Common.{◌≡◌, ◌<◌, length, get_or, Some, slice_get, arith}
use Rattle.std.proofs.lemmas.Option.{slice_get-get_or}
use Rattle.hd_terms.specs.declared.RootKind.TheVariants as kinds
use Rattle.hd_terms.specs.Dump.{Root}
use Rattle.hd_queries.proofs.RootLemmas.{dump-pushed}
use Rattle.hd_queries.proofs.roots.dump_rows.Goals as goal

pub loop-r-preserved : goal.loop-r-preserved
loop-r-preserved c =
    let dump = c.args.edited.graph.now in
    let r = c.loop-r.r in
    let lt : r < length dump.roots = omega (arith, c.loop-r-test.true, c.roots_len-r-end.ensures) in
    let none : Root = record { kind = kinds.Unknown; id = 0 } in
    let root : Root = get_or dump.roots r none in
    let at : slice_get dump.roots r ≡ Some root = slice_get-get_or dump.roots r none lt in
    dump-pushed dump c.args.edited.front.now r root c.loop-r.rows.items c.push.new.self.items c.dump_row.result at c.loop-r.invariant
    (c.dump_row.ensures root at) c.in_ok-push.ensures.items
