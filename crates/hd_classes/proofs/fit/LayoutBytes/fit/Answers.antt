use Rattle.std.proofs.Common.{◌∙◌, sym, ap, arith}
use Rattle.hd_classes.specs.Known.{number_of}
use Rattle.hd_classes.specs.Fits.{SizedClasses}
use Rattle.hd_classes.proofs.FitLemmas.{unnumbered, fits-class, is-misfit}
use Rattle.hd_classes.proofs.fit.LayoutBytes.fit.Goals as goal

pub returns-in_default-clause-fit : goal.returns-in_default-clause-fit
returns-in_default-clause-fit c = rw (← c.self.view_is) (unnumbered c.self.inside.classes.now c.args.class (sym c.index_of.ensures ∙ c.in_default.is))

pub returns-in-Some-bytes_of-clause-fit : goal.returns-in-Some-bytes_of-clause-fit
returns-in-Some-bytes_of-clause-fit c =
    fits-class c.args.self.now.size c.args.self.now.classes c.args.class c.in-Some.number c.args.len c.in-Some-bytes_of.bytes
    (ap (λ (s : SizedClasses). number_of s.classes c.args.class) (sym c.self.view_is) ∙ sym c.index_of.ensures ∙ c.in-Some.is)
    c.in-Some-bytes_of.ensures.bytes c.if-bytes-len.true

pub returns-in_default-bytes_of-clause-fit : goal.returns-in_default-bytes_of-clause-fit
returns-in_default-bytes_of-clause-fit c =
    is-misfit c.args.self.now.size c.args.self.now.classes c.args.class c.in-Some.number c.args.len
    (ap (λ (s : SizedClasses). number_of s.classes c.args.class) (sym c.self.view_is) ∙ sym c.index_of.ensures ∙ c.in-Some.is)
    (λ e. c.if-bytes-len.false (c.in-Some-bytes_of.ensures.bytes ∙ sym e))

pub returns-in_default-bytes_of-2-clause-fit : goal.returns-in_default-bytes_of-2-clause-fit
returns-in_default-bytes_of-2-clause-fit c =
    let over = c.in_default-bytes_of.ensures.bytes in
    is-misfit c.args.self.now.size c.args.self.now.classes c.args.class c.in-Some.number c.args.len
    (ap (λ (s : SizedClasses). number_of s.classes c.args.class) (sym c.self.view_is) ∙ sym c.index_of.ensures ∙ c.in-Some.is)
    (λ e. absurd (omega (arith, over, e)))
