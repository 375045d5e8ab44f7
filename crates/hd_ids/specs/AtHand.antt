-- Rows of pages that a finder has at hand.
-- Source: this project.
use Rattle.std.specs.Prelude.{◌≡◌, ℕ, ◌≤◌, ◌^◌, List, length, All}
use Rattle.hd_ids.specs.declared.near.PageRow.{PageRow}
use Rattle.hd_ids.specs.Rows.{row_of, AreNumbers}
use Rattle.hd_ids.specs.Directory.{Entries, TellsRows}

-- a page has this row, or it has none, and this is one past the last
pub record HasRow (pages : List ℕ) (p : PageRow) : Type 0 where
  pub row : row_of pages p.page ≡ p.row
  pub within : p.row ≤ length pages

-- rows of numbers that can be looked up by four bytes, what is told of rows, and some rows of pages
pub record AreAtHand (pages numbers ids : List ℕ) (directory : Entries) (at_hand : List PageRow) : Type 0 where
  pub numbers_are : AreNumbers pages numbers ids
  pub few : length pages ≤ 2 ^ 32
  pub told_is : TellsRows pages directory
  pub rows : All (HasRow pages) at_hand
