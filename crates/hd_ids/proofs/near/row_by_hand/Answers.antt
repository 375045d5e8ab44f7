use Rattle.std.proofs.Common.{◌/◌, ◌%◌, sym}
use Rattle.std.proofs.lemmas.List.Elements.{All-set}
use Rattle.hd_ids.specs.AtHand.{HasRow}
use Rattle.hd_ids.proofs.near.row_by_hand.Goals as goal

pub returns-clause-at_hand : goal.returns-clause-at_hand
returns-clause-at_hand c =
    All-set (HasRow c.args.pages.now.keys) c.args.at_hand.now (c.args.page / 8 % 256) (record { page = c.args.page; row = c.row_of-row.result })
    (record { row = sym c.row_of-row.ensures.row; within = c.row_of-row.ensures.within })
    c.requires
