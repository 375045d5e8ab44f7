use Rattle.std.proofs.Common.{arith}
use Rattle.std.proofs.lemmas.List.Elements.{All-replicate}
use Rattle.hd_ids.specs.AtHand.{HasRow}
use Rattle.hd_ids.proofs.near.NearIds.new.Goals as goal

pub invariant_of-result : goal.invariant_of-result
invariant_of-result c =
    let r = c.requires.rows in
    record {
      numbers_are = r.numbers_are;
      few = omega (arith, r.numbers_are.rows, r.small, r.few_ids);
      told_is = c.requires.told;
      rows = All-replicate (HasRow c.args.pages.now.keys) 256 (record { page = c.args.page; row = c.args.row }) (record { row = r.last; within = r.within });
    }
