use Rattle.std.proofs.Common.{◌^◌, ℕ, Option, sym, subst, arith, length}
use Rattle.hd_classes.specs.Links.{Row, IsBelow, first_declaring}
use Rattle.hd_classes.proofs.LinkLemmas.{first-declares}
use Rattle.hd_classes.proofs.KeptLemmas.{declares-below}
use Rattle.hd_classes.proofs.NamedTableLemmas.{below-more}
use Rattle.hd_classes.proofs.naming.first_row.Goals as goal

pub four_bytes-requires : goal.four_bytes-requires
four_bytes-requires c =
    let rows = c.args.known.now.entries in
    let at = c.in-Some.ensures.entry in
    let row : Row = (c.in-Some.field-0-1.now, c.in-Some.class.now) in
    let first = first_declaring c.in-Some.number c.in-Some.class.now in
    let below : IsBelow (length rows) first = declares-below rows row first (first-declares rows c.requires.linked c.in-Some.number row at) in
    subst (λ (o : Option ℕ). IsBelow (2 ^ 32) o) (sym c.first_declaring.ensures) (below-more (length rows) (2 ^ 32) first (omega (arith, c.requires.few)) below)
