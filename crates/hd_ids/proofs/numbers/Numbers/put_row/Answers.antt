use Rattle.std.proofs.Common.{◌≡◌, ℕ, ◌+◌, ◌*◌, Bool, subst, arith}
use Rattle.std.specs.Prelude.{MatchBool}
use Rattle.hd_ids.specs.Put.{ArePut, Meet}
use Rattle.hd_ids.proofs.PutLemmas.{put-more, meet-more}
use Rattle.hd_ids.proofs.numbers.Numbers.put_row.Goals as goal

pub returns-then-not-branch : goal.returns-then-not-branch
returns-then-not-branch c =
    let i = c.loop-i.i in
    let mid = c.loop-i.self in
    let new = c.put_block.new.self in
    let more = c.args.more.now in
    let start : ℕ = c.args.row * 512 in
    let from : ℕ = c.args.from * 512 in
    let here : (c.args.row * 16 + i) * 32 ≡ start + i * 32 = omega arith in
    let there : (c.args.from * 16 + i) * 32 ≡ from + i * 32 = omega arith in
    let meet = subst (λ (b : Bool). MatchBool b (ArePut mid new ((c.args.row * 16 + i) * 32) more ((c.args.from * 16 + i) * 32) c.args.base 32)
    (Meet mid ((c.args.row * 16 + i) * 32) more ((c.args.from * 16 + i) * 32) 32)) c.if-not-branch.true c.in_ok-put_block.ensures in
    let at_start = subst (λ (s : ℕ). Meet mid s more ((c.args.from * 16 + i) * 32) 32) here meet in
    let at_both = subst (λ (f : ℕ). Meet mid (start + i * 32) more f 32) there at_start in
    meet-more c.args.self.now mid new start more from c.args.base (i * 32) 32 c.loop-i.invariant at_both 512 (omega arith)

pub loop-i-preserved : goal.loop-i-preserved
loop-i-preserved c =
    let i = c.loop-i.i in
    let mid = c.loop-i.self in
    let new = c.put_block.new.self in
    let more = c.args.more.now in
    let start : ℕ = c.args.row * 512 in
    let from : ℕ = c.args.from * 512 in
    let here : (c.args.row * 16 + i) * 32 ≡ start + i * 32 = omega arith in
    let there : (c.args.from * 16 + i) * 32 ≡ from + i * 32 = omega arith in
    let block = subst (λ (b : Bool). MatchBool b (ArePut mid new ((c.args.row * 16 + i) * 32) more ((c.args.from * 16 + i) * 32) c.args.base 32)
    (Meet mid ((c.args.row * 16 + i) * 32) more ((c.args.from * 16 + i) * 32) 32)) c.if-not-branch.false c.in_ok-put_block.ensures in
    let at_start = subst (λ (s : ℕ). ArePut mid new s more ((c.args.from * 16 + i) * 32) c.args.base 32) here block in
    let at_both = subst (λ (f : ℕ). ArePut mid new (start + i * 32) more f c.args.base 32) there at_start in
    let next : i * 32 + 32 ≡ (i + 1) * 32 = omega arith in
    subst (ArePut c.args.self.now new start more from c.args.base) next
    (put-more c.args.self.now mid new start more from c.args.base (i * 32) 32 c.loop-i.invariant at_both)
