-- Rows over classes, of which there come more.
use Rattle.std.proofs.Common.{◌≡◌, ◌∙◌, ℕ, zero, suc, ◌<◌, List, [], ◌∷◌, ◌++◌, length, map, refl, ap, arith, All}
use Rattle.std.proofs.lemmas.List.{map-append}
use Rattle.std.proofs.lemmas.List.Elements.{All-head, All-tail}
use Rattle.hd_terms.specs.SubRecords.{Item, ClassItem, Sub}
use Rattle.hd_terms.specs.SubRecords as subs
use Rattle.hd_subs.specs.declared.class.ClassDump.{ClassDump}
use Rattle.hd_subs.specs.declared.row.Kind.{Kind}
use Rattle.hd_subs.specs.declared.row.Kind.TheVariants as kinds
use Rattle.hd_subs.specs.declared.row.Row.{Row}
use Rattle.hd_subs.specs.Views.{class_view}
use Rattle.hd_subs.specs.Rows.{class_at, item_of, row_view, HasClass, IsRowOver}

-- a class stays at its place
class_at-kept : (cs : List ClassDump) (c : ClassDump) (k : ℕ) → k < length cs → class_at (cs ++ c ∷ []) k ≡ class_at cs k
class_at-kept [] c k lt = absurd (omega arith)
class_at-kept (x ∷ cs) c zero lt = refl
class_at-kept (x ∷ cs) c (suc k) lt = class_at-kept cs c k (omega arith)

-- the new one stands last
pub class_at-new : (cs : List ClassDump) (c : ClassDump) → class_at (cs ++ c ∷ []) (length cs) ≡ class_view c
class_at-new [] c = refl
class_at-new (x ∷ cs) c = class_at-new cs c

item-kept : (cs : List ClassDump) (c : ClassDump) (k : Kind) (offset id class count : ℕ) → HasClass (length cs) k class
    → item_of (cs ++ c ∷ []) k offset id class count ≡ item_of cs k offset id class count
item-kept cs c (kinds.Root kind) offset id class count has = refl
item-kept cs c kinds.Class offset id class count has = ap (λ (x : ClassItem). subs.Class x) (class_at-kept cs c class has)
item-kept cs c kinds.InstanceOfFour offset id class count has = refl
item-kept cs c kinds.InstanceOfEight offset id class count has = refl
item-kept cs c kinds.ArrayOfFour offset id class count has = refl
item-kept cs c kinds.ArrayOfEight offset id class count has = refl
item-kept cs c (kinds.PrimArray element) offset id class count has = refl

row-kept : (cs : List ClassDump) (c : ClassDump) (r : Row) → IsRowOver (length cs) r → row_view (cs ++ c ∷ []) r ≡ row_view cs r
row-kept cs c r is = ap (λ (i : Item). let s : Sub = record { offset = r.offset; item = i } in s) (item-kept cs c r.kind r.offset r.id r.class r.count is)

-- so do the rows
pub rows-kept : (cs : List ClassDump) (c : ClassDump) (rs : List Row) → All (IsRowOver (length cs)) rs → map (row_view (cs ++ c ∷ [])) rs ≡ map (row_view cs) rs
rows-kept cs c [] all = refl
rows-kept cs c (r ∷ rs) all =
    ap (λ (s : Sub). s ∷ map (row_view (cs ++ c ∷ [])) rs) (row-kept cs c r (All-head (IsRowOver (length cs)) r rs all))
    ∙ ap (λ (ss : List Sub). row_view cs r ∷ ss) (rows-kept cs c rs (All-tail (IsRowOver (length cs)) r rs all))

-- a class at the end
pub class-push : (cs : List ClassDump) (c : ClassDump) (rs : List Row) (r : Row) → All (IsRowOver (length cs)) rs → r.kind ≡ kinds.Class → r.class ≡ length cs
    → map (row_view (cs ++ c ∷ [])) (rs ++ r ∷ []) ≡ map (row_view cs) rs ++ (record { offset = r.offset; item = subs.Class (class_view c) }) ∷ []
class-push cs c rs r all kind place =
    map-append (row_view (cs ++ c ∷ [])) rs (r ∷ [])
    ∙ ap (λ (ss : List Sub). ss ++ row_view (cs ++ c ∷ []) r ∷ []) (rows-kept cs c rs all)
    ∙ ap (λ (i : Item). map (row_view cs) rs ++ (record { offset = r.offset; item = i }) ∷ [])
    (ap (λ (k : Kind). item_of (cs ++ c ∷ []) k r.offset r.id r.class r.count) kind
    ∙ ap (λ (x : ClassItem). subs.Class x) (ap (class_at (cs ++ c ∷ [])) place ∙ class_at-new cs c))
