use Rattle.std.proofs.Common.{◌<◌, ℕ, List, length, ap, arith}
use Rattle.std.proofs.lemmas.List.{length-map}
use Rattle.hd_shapes.proofs.JoinLemmas.{part-seen}
use Rattle.hd_shapes.proofs.joined_shapes.JoinedShapes.part_of.Goals as goal

pub returns-clause-stand : goal.returns-clause-stand
returns-clause-stand c =
    let many = ap (λ (lens : List ℕ). length lens) c.self.invariant.lens_are in
    let there : c.find-part.result.0 < length c.self.inside.parts.items = omega (arith, c.find-part.ensures.part, simp length-map at many) in
    part-seen c.self.inside.parts.items c.self.inside.index c.self.inside.count c.args.self.now c.find-part.result.0 c.find-part.result.1 c.index.result.now
    c.self.invariant c.self.view_is there c.index.ensures c.find-part.ensures.first
