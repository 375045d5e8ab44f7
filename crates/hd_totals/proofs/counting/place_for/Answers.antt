use Rattle.std.proofs.Common.{◌≡◌, ◌∙◌, [], ◌∷◌, ◌++◌, length, refl, ap, arith}
use Rattle.hd_totals.specs.declared.total.StrengthTotals.{StrengthTotals}
use Rattle.hd_totals.specs.Totals.{no_totals}
use Rattle.hd_totals.proofs.RowLemmas.{is-placed}
use Rattle.hd_totals.proofs.counting.place_for.Goals as goal

pub returns-in_ok-push : goal.returns-in_ok-push
returns-in_ok-push c =
    let keys = c.args.keys.now in
    let rows = c.args.rows.now.items in
    let rows_are : c.push.new.self.items ≡ rows ++ no_totals ∷ [] = c.in_ok-push.ensures.items ∙ ap (λ (x : StrengthTotals). rows ++ x ∷ []) c.none.ensures in
    is-placed keys rows c.requires.whole c.args.key c.add.new.self c.push.new.self.items c.in_ok-index.index c.in_ok-index.ensures.keys
    c.in_ok-index.ensures.index
    (λ e. rows_are) (λ ne. absurd (ne (omega (arith, c.if-index-len.true, c.len.ensures, c.args.rows.now.ok))))

pub returns-else-index-len : goal.returns-else-index-len
returns-else-index-len c =
    let keys = c.args.keys.now in
    let rows = c.args.rows.now.items in
    is-placed keys rows c.requires.whole c.args.key c.add.new.self rows c.in_ok-index.index c.in_ok-index.ensures.keys c.in_ok-index.ensures.index
    (λ (e : c.in_ok-index.index ≡ length rows). absurd (c.if-index-len.false (omega (arith, e, c.len.ensures, c.args.rows.now.ok)))) (λ ne. refl)
