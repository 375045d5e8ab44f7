use Rattle.std.proofs.Common.{◌∙◌, ap, sym}
use Rattle.std.specs.Option.{option_map}
use Rattle.hd_terms.specs.Classes.{first_classes}
use Rattle.hd_classes.specs.declared.first_class.FirstClass.{FirstClass}
use Rattle.hd_classes.specs.FirstClass.{first_class_view}
use Rattle.hd_classes.proofs.FirstClassLemmas.{class-found, class_at-some}
use Rattle.hd_classes.proofs.source.Source.class_of.Goals as goal

pub returns-in-Some : goal.returns-in-Some
returns-in-Some c =
    ap (option_map (λ (s : FirstClass). (first_class_view s).class)) c.in-Some.ensures.value
    ∙ class-found c.args.id c.args.self.now.list.now c.args.self.now.classes.entries c.requires.classes
    ∙ sym (class_at-some (first_classes c.args.self.now.list.now) c.args.id c.if-id-eq0.false)

pub returns-in-None : goal.returns-in-None
returns-in-None c =
    ap (option_map (λ (s : FirstClass). (first_class_view s).class)) c.in-None.ensures.value
    ∙ class-found c.args.id c.args.self.now.list.now c.args.self.now.classes.entries c.requires.classes
    ∙ sym (class_at-some (first_classes c.args.self.now.list.now) c.args.id c.if-id-eq0.false)
