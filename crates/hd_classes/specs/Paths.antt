-- Paths up the chains of classes.
use denote.Ref.{Bor}
use Rattle.std.specs.Prelude.{◌≡◌, ℕ, ◌==◌, false, List, length, map, Some}
use Rattle.std.specs.List.{list_any}
use Rattle.hd_terms.specs.SubRecords.{ClassItem}
use Rattle.hd_terms.specs.Classes.{ClassTable, LeadUp, class_at}
use Rattle.hd_subs.specs.declared.class.ClassDump.{ClassDump}
use Rattle.hd_subs.specs.Views.{class_view}
use Rattle.hd_classes.specs.declared.path.Path.{Path}
use Rattle.hd_classes.specs.Links.{Row, is_kept}

-- the classes of a path
abbrev pub path_view : List (Bor ClassDump) → List ClassItem
path_view classes = map (λ (c : Bor ClassDump). class_view c.now) classes

abbrev pub Leads : ClassTable → Path → Type 0
Leads t p = LeadUp t.classes p.start (path_view p.classes.items) p.end

-- the path from an ID: it ends at an ID that is kept, that is known to be broken, or that is no class's, or has as many classes
-- as there are
pub record IsPath (t : ClassTable) (rows : List Row) (broken : List ℕ) (start : ℕ) (p : Path) : Type 0 where
  pub starts : p.start ≡ start
  pub leads : Leads t p
  pub stops : is_kept rows p.end ≡ false → list_any (λ (id : ℕ). p.end == id) broken ≡ false → (c : ClassItem) → class_at t.classes p.end ≡ Some c
      → length p.classes.items ≡ length t.classes
