use Rattle.std.proofs.Common.{◌≡◌, ℕ, ◌+◌, ◌-◌, List, ◌∷◌, length, ap, subst}
use Rattle.hd_subs.specs.ParsedSubs.{LiesAt}
use Rattle.hd_subs.specs.Reading.{Reader}
use Rattle.hd_subs.proofs.Steps.{rest-lies, read-next}
use Rattle.hd_subs.proofs.reader.SegmentReader.append_body.Goals as goal

pub append-requires-clause-at : goal.append-requires-clause-at
append-requires-clause-at c =
    let bytes : c.loop-tag.self.bytes ≡ c.args.self.now.bytes = ap (λ (r : Reader). r.bytes) c.loop-tag.invariant.same in
    let at : ℕ = c.args.base + (length c.args.body.now - length c.loop-tag.rest.now) in
    rw bytes (subst (λ (text : List ℕ). LiesAt c.args.self.now.bytes at text) c.in-Some.ensures.cases.0
    (rest-lies c.args.self.now.bytes c.args.base c.args.body.now c.loop-tag.rest.now c.args.self.now c.loop-tag.self c.loop-tag.invariant c.requires.at))

pub loop-tag-preserved : goal.loop-tag-preserved
loop-tag-preserved c =
    read-next c.args.base c.args.body.now c.loop-tag.rest.now (c.in-Some.tag.now ∷ c.in-Some.fields.now) c.in_ok-rest.rest.now
    c.args.self.now c.loop-tag.self c.append.new.self c.loop-tag.invariant c.in-Some.ensures.cases.0 c.in_ok-rest.ensures.ok
