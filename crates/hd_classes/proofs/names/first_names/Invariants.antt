use Rattle.std.proofs.Common.{◌≡◌, take}
use Rattle.hd_terms.specs.declared.Load.{Load}
use Rattle.hd_terms.specs.FirstRecords.{repeats}
use Rattle.hd_classes.specs.Sources.{HasFirstNames}
use Rattle.hd_classes.proofs.names.first_names.Given as goal

-- the loaded classes so far
abbrev pub invariant-loop-load : goal.invariant-loop-load
invariant-loop-load l = HasFirstNames (take l.load-index l.load-items) l.names.entries
    × (l.repeated ≡ repeats (λ (x : Load). x.class) (take l.load-index l.load-items))
