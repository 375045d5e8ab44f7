use Rattle.std.proofs.Common.{◌∙◌, arith}
use Rattle.hd_terms.specs.EditedDump.{standing}
use Rattle.hd_state.proofs.repairing.renewed.Goals as goal

pub returns : goal.returns
returns g c lost was large =
    let renewed = c.in_ok-supports.ensures in
    record {
      kept = record {
        count = renewed.count ∙ c.requires.count;
        settled = renewed.settled (standing c.args.after.graph.now c.args.after.front.now) lost was large.marks c.in_ok-found.ensures.settled;
      };
      changes = renewed.changes;
      outside = renewed.outside lost large.marks;
      looks = λ region all. omega (arith, large.few region all);
      stamps = λ m high o. omega (arith, renewed.stamps m high o, c.requires.count);
    }
