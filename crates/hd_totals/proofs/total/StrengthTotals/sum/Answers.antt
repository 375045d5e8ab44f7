use Rattle.hd_terms.specs.declared.Strength.TheVariants as strengths
use Rattle.hd_totals.proofs.total.StrengthTotals.sum.Goals as goal

pub sum-requires-clause-count : goal.sum-requires-clause-count
sum-requires-clause-count c = c.requires.count strengths.Strong

pub sum-requires-clause-bytes : goal.sum-requires-clause-bytes
sum-requires-clause-bytes c = c.requires.bytes strengths.Strong

pub sum-requires-2-clause-count : goal.sum-requires-2-clause-count
sum-requires-2-clause-count c = c.requires.count strengths.Soft

pub sum-requires-2-clause-bytes : goal.sum-requires-2-clause-bytes
sum-requires-2-clause-bytes c = c.requires.bytes strengths.Soft

pub sum-requires-3-clause-count : goal.sum-requires-3-clause-count
sum-requires-3-clause-count c = c.requires.count strengths.Weak

pub sum-requires-3-clause-bytes : goal.sum-requires-3-clause-bytes
sum-requires-3-clause-bytes c = c.requires.bytes strengths.Weak

pub sum-requires-4-clause-count : goal.sum-requires-4-clause-count
sum-requires-4-clause-count c = c.requires.count strengths.Final

pub sum-requires-4-clause-bytes : goal.sum-requires-4-clause-bytes
sum-requires-4-clause-bytes c = c.requires.bytes strengths.Final

pub sum-requires-5-clause-count : goal.sum-requires-5-clause-count
sum-requires-5-clause-count c = c.requires.count strengths.Phantom

pub sum-requires-5-clause-bytes : goal.sum-requires-5-clause-bytes
sum-requires-5-clause-bytes c = c.requires.bytes strengths.Phantom

pub sum-requires-6-clause-count : goal.sum-requires-6-clause-count
sum-requires-6-clause-count c = c.requires.count strengths.Unreachable

pub sum-requires-6-clause-bytes : goal.sum-requires-6-clause-bytes
sum-requires-6-clause-bytes c = c.requires.bytes strengths.Unreachable
