-- The queues stand behind one another, the greatest strength first, so the first one that has an offer gives the most.
use Rattle.std.proofs.Common.{◌≡◌, ◌<◌, length, arith}
use Rattle.hd_terms.specs.declared.Strength.TheVariants as strengths
use Rattle.hd_repair.proofs.QueueLemmas.{most_behind, most_first, most_last, from_soft, from_weak, from_final, from_phantom}
use Rattle.hd_repair.proofs.offers.Offers.most.Goals as goal

pub returns-then-len-gt0-clause-some : goal.returns-then-len-gt0-clause-some
returns-then-len-gt0-clause-some c =
    let a = c.self.inside in
    let some : 0 < length a.strong.items = omega (arith, c.if-len-gt0.true, c.len.ensures) in
    rw (← c.self.view_is) (most_first 4 strengths.Strong a.strong.items _ some (omega arith)
    (from_soft a.soft.items a.weak.items a.finals.items a.phantom.items))

pub returns-then-len-gt0-2-clause-some : goal.returns-then-len-gt0-2-clause-some
returns-then-len-gt0-2-clause-some c =
    let a = c.self.inside in
    let none1 : length a.strong.items ≡ 0 = omega (arith, c.if-len-gt0.false, c.len.ensures) in
    let some : 0 < length a.soft.items = omega (arith, c.if-len-gt0-2.true, c.len-2.ensures) in
    rw (← c.self.view_is) (most_behind strengths.Strong strengths.Soft a.strong.items _ none1
    (most_first 3 strengths.Soft a.soft.items _ some (omega arith) (from_weak a.weak.items a.finals.items a.phantom.items)))

pub returns-then-len-gt0-3-clause-some : goal.returns-then-len-gt0-3-clause-some
returns-then-len-gt0-3-clause-some c =
    let a = c.self.inside in
    let none1 : length a.strong.items ≡ 0 = omega (arith, c.if-len-gt0.false, c.len.ensures) in
    let none2 : length a.soft.items ≡ 0 = omega (arith, c.if-len-gt0-2.false, c.len-2.ensures) in
    let some : 0 < length a.weak.items = omega (arith, c.if-len-gt0-3.true, c.len-3.ensures) in
    rw (← c.self.view_is) (most_behind strengths.Strong strengths.Weak a.strong.items _ none1
    (most_behind strengths.Soft strengths.Weak a.soft.items _ none2
    (most_first 2 strengths.Weak a.weak.items _ some (omega arith) (from_final a.finals.items a.phantom.items))))

pub returns-then-len-gt0-4-clause-some : goal.returns-then-len-gt0-4-clause-some
returns-then-len-gt0-4-clause-some c =
    let a = c.self.inside in
    let none1 : length a.strong.items ≡ 0 = omega (arith, c.if-len-gt0.false, c.len.ensures) in
    let none2 : length a.soft.items ≡ 0 = omega (arith, c.if-len-gt0-2.false, c.len-2.ensures) in
    let none3 : length a.weak.items ≡ 0 = omega (arith, c.if-len-gt0-3.false, c.len-3.ensures) in
    let some : 0 < length a.finals.items = omega (arith, c.if-len-gt0-4.true, c.len-4.ensures) in
    rw (← c.self.view_is) (most_behind strengths.Strong strengths.Final a.strong.items _ none1
    (most_behind strengths.Soft strengths.Final a.soft.items _ none2
    (most_behind strengths.Weak strengths.Final a.weak.items _ none3
    (most_first 1 strengths.Final a.finals.items _ some (omega arith) (from_phantom a.phantom.items)))))

pub returns-then-len-gt0-5-clause-some : goal.returns-then-len-gt0-5-clause-some
returns-then-len-gt0-5-clause-some c =
    let a = c.self.inside in
    let none1 : length a.strong.items ≡ 0 = omega (arith, c.if-len-gt0.false, c.len.ensures) in
    let none2 : length a.soft.items ≡ 0 = omega (arith, c.if-len-gt0-2.false, c.len-2.ensures) in
    let none3 : length a.weak.items ≡ 0 = omega (arith, c.if-len-gt0-3.false, c.len-3.ensures) in
    let none4 : length a.finals.items ≡ 0 = omega (arith, c.if-len-gt0-4.false, c.len-4.ensures) in
    let some : 0 < length a.phantom.items = omega (arith, c.if-len-gt0-5.true, c.len-5.ensures) in
    rw (← c.self.view_is) (most_behind strengths.Strong strengths.Phantom a.strong.items _ none1
    (most_behind strengths.Soft strengths.Phantom a.soft.items _ none2
    (most_behind strengths.Weak strengths.Phantom a.weak.items _ none3
    (most_behind strengths.Final strengths.Phantom a.finals.items _ none4
    (most_last strengths.Phantom a.phantom.items some)))))
