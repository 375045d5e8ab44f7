use Rattle.hd_totals.proofs.TopLemmas.{rising-distinct, top-rows}
use Rattle.hd_totals.specs.Rows.{row_key}
use Rattle.std.specs.Prelude.{map}
use Rattle.hd_state.proofs.state.State.top.Goals as goal

pub ranked-requires : goal.ranked-requires
ranked-requires c = rising-distinct (map row_key c.in_ok-rows.rows.items) c.in_ok-rows.ensures.in_order

pub returns : goal.returns
returns c =
    top-rows c.args.self.now.dump c.args.self.now.log c.args.strength c.in_ok-rows.rows.items c.ranked.result.items c.in_ok-rows.ensures c.ranked.ensures.same
    c.ranked.ensures.ranked
