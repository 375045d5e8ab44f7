use Rattle.std.proofs.Common.{◌≡◌, ◌∙◌, ℕ, ◌+◌, ◌*◌, ◌/◌, ◌%◌, ◌^◌, List, get_or, sym, subst, arith}
use Rattle.std.specs.Int.{bit_at}
use Rattle.std.specs.Int.RustNames.{bit_or}
use Rattle.std.proofs.Math.ListN.{set}
use Rattle.std.proofs.lemmas.List.{get_or_default}
use Rattle.std.proofs.lemmas.Nat.{one_shl, mod_below}
use Rattle.hd_totals.proofs.GroupPageLemmas.{taken-has, taken-keeps}
use Rattle.hd_totals.proofs.group_pages.mark.Goals as goal

pub returns-clause-marked : goal.returns-clause-marked
returns-clause-marked c =
    let marks : List ℕ = c.args.marks.now.items in
    let b : ℕ = c.args.bucket in
    let i : ℕ = c.args.page * 64 + b / 64 in
    let m : ℕ = 1 * 2 ^ (b % 64) % 18446744073709551616 in
    let word : c.index_mut.result.now ≡ get_or marks i 0 = c.index_mut.ensures.value ∙ get_or_default marks i c.index_mut.result.now 0 c.requires in
    let has = taken-has marks i m c.requires (b % 64) (one_shl (b % 64) 64 (mod_below b 64 (omega arith))) in
    subst (λ (w : ℕ). bit_at (get_or (set marks i (bit_or w m)) i 0) (b % 64) ≡ 1) (sym word) has

pub returns-clause-kept : goal.returns-clause-kept
returns-clause-kept c p b' had =
    let marks : List ℕ = c.args.marks.now.items in
    let b : ℕ = c.args.bucket in
    let i : ℕ = c.args.page * 64 + b / 64 in
    let m : ℕ = 1 * 2 ^ (b % 64) % 18446744073709551616 in
    let word : c.index_mut.result.now ≡ get_or marks i 0 = c.index_mut.ensures.value ∙ get_or_default marks i c.index_mut.result.now 0 c.requires in
    let keeps = taken-keeps marks i m c.requires (p * 64 + b' / 64) (b' % 64) had in
    subst (λ (w : ℕ). bit_at (get_or (set marks i (bit_or w m)) (p * 64 + b' / 64) 0) (b' % 64) ≡ 1) (sym word) keeps
