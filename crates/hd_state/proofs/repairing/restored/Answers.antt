use Rattle.std.proofs.Common.{◌∙◌, refl, arith}
use Rattle.hd_terms.specs.EditedDump.{standing}
use Rattle.hd_state.proofs.repairing.restored.Goals as goal

pub returns : goal.returns
returns g c gained was =
    let renewed = c.in_ok-supports.ensures in
    record {
      kept = record {
        count = renewed.count ∙ c.requires.count;
        settled = renewed.settled (standing c.args.after.graph.now c.args.after.front.now) gained was c.in_ok-found.ensures.settled;
      };
      changes = renewed.changes;
      outside = renewed.outside;
      charged = refl;
      stamps = λ m high o. omega (arith, renewed.stamps m high o, c.requires.count);
    }
