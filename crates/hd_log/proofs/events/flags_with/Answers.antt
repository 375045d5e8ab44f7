use Rattle.std.proofs.Common.{◌≡◌, ◌∙◌, ◌++◌, ◌∷◌, [], List, Bool, ap}
use Rattle.hd_log.specs.Flags.{is_edit, cleared}
use Rattle.hd_terms.specs.Log.{live_flags}
use Rattle.hd_log.proofs.FlagLemmas.{flags_with, undoes_within}
use Rattle.hd_log.proofs.events.flags_with.Goals as goal

pub clear_undone-requires : goal.clear_undone-requires
clear_undone-requires c =
    let read : c.extend_from_slice.new.self.items ≡ live_flags c.args.events.now = c.in_ok-extend_from_slice.ensures.items
    ∙ ap (λ (bs : List Bool). bs ++ c.args.live.now) c.in_ok-flags.ensures.items ∙ c.requires.flags in
    undoes_within c.args.events.now c.extend_from_slice.new.self.items c.args.event read c.requires.takes

pub returns : goal.returns
returns c =
    let read : c.extend_from_slice.new.self.items ≡ live_flags c.args.events.now = c.in_ok-extend_from_slice.ensures.items
    ∙ ap (λ (bs : List Bool). bs ++ c.args.live.now) c.in_ok-flags.ensures.items ∙ c.requires.flags in
    c.in_ok-push.ensures.items
    ∙ ap (λ (b : Bool). c.clear_undone.new.flags.items ++ b ∷ []) c.is_edit.ensures
    ∙ ap (λ (bs : List Bool). bs ++ is_edit c.args.event.what ∷ []) (c.clear_undone.ensures ∙ ap (cleared c.args.event.what) read)
    ∙ flags_with c.args.events.now c.args.event c.requires.lawful c.requires.takes
