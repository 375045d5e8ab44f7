use Rattle.std.proofs.Common.{◌≡◌, ℕ, ◌+◌, cond, List, subst}
use Rattle.hd_terms.specs.declared.Edit.{Edit}
use Rattle.hd_terms.specs.declared.EdgeKind.{EdgeKind}
use Rattle.hd_terms.specs.Log.{live_edits}
use Rattle.hd_strength.specs.Cleared.{clears, clear_count}
use Rattle.hd_strength.specs.Multiset.{multiplicity, is_number}
use Rattle.hd_strength.specs.Removed.{Removals}
use Rattle.hd_strength.proofs.RemovedLemmas.{slots_more, kinds_more, fields_more, roots_more, is_removed_by}
use Rattle.hd_strength.proofs.removed.Removed.with.Goals as goal

pub returns : goal.returns
returns c before after is more =
    let dump = c.args.graph.now in
    let old : Removals = c.args.self.now in
    let new : Removals =
    record { slots = c.in_ok-slots.slots; cleared = c.in_ok-cleared.cleared; fields = c.in_ok-fields.fields; roots = c.in_ok-roots.roots } in
    let edit : Edit = c.args.edit in
    let key = c.edited_key.result in
    let field = c.field_key.result in
    let root = c.dropped_root.result in
    let slots : (n : ℕ) → multiplicity n new.slots ≡ multiplicity n old.slots + (cond (is_number key n) 1 0) =
    subst (λ (t : Removals). (n : ℕ) → multiplicity n new.slots ≡ multiplicity n t.slots + (cond (is_number key n) 1 0)) c.self.view_is c.in_ok-slots.ensures in
    let kinds : (kind : EdgeKind) → clear_count new.cleared kind ≡ clear_count old.cleared kind + (cond (clears kind edit) 1 0) =
    subst (λ (t : Removals). (kind : EdgeKind) → clear_count new.cleared kind ≡ clear_count t.cleared kind + (cond (clears kind edit) 1 0)) c.self.view_is
    c.in_ok-cleared.ensures in
    let fields : (n : ℕ) → multiplicity n new.fields ≡ multiplicity n old.fields + (cond (is_number field n) 1 0) =
    subst (λ (t : Removals). (n : ℕ) → multiplicity n new.fields ≡ multiplicity n t.fields + (cond (is_number field n) 1 0)) c.self.view_is
    c.in_ok-fields.ensures in
    let roots : (n : ℕ) → multiplicity n new.roots ≡ multiplicity n old.roots + (cond (is_number root n) 1 0) =
    subst (λ (t : Removals). (n : ℕ) → multiplicity n new.roots ≡ multiplicity n t.roots + (cond (is_number root n) 1 0)) c.self.view_is
    c.in_ok-roots.ensures in
    let es : List Edit = live_edits before in
    let fs : List Edit = live_edits after in
    is_removed_by dump after new
    (slots_more es fs edit more dump key old.slots new.slots c.edited_key.ensures slots is.slot_counts)
    (kinds_more es fs edit more old.cleared new.cleared kinds is.kind_counts)
    (fields_more es fs edit more field old.fields new.fields c.field_key.ensures fields is.field_counts)
    (roots_more es fs edit more root old.roots new.roots c.dropped_root.ensures roots is.root_counts)
