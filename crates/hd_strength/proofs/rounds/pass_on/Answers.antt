use Rattle.std.proofs.Common.{◌≡◌, ◌∙◌, length, List, [], Some, slice_get, refl, sym, ap, subst, arith}
use Rattle.hd_strength.specs.declared.part.Part.{Part}
use Rattle.hd_strength.specs.Parts.{HaveComeTo, to_do_in}
use Rattle.hd_strength.proofs.Ending.{each_relaxed, all_go_on, all-no_more, all-less, lent}
use Rattle.hd_strength.proofs.rounds.pass_on.Goals as goal

pub relax_parts-requires-clause-fit : goal.relax_parts-requires-clause-fit
relax_parts-requires-clause-fit g c =
    λ κs within k p there. (c.requires.searching.holds.each k p (subst (λ (ps : List Part). slice_get ps k ≡ Some p) c.deref_mut.ensures.value there)).fit

pub returns : goal.returns
returns g c =
    let dump = c.args.edited.graph.now in
    let log = c.args.edited.front.now in
    let s = c.args.strength in
    let old = c.args.search.now.parts.items in
    let new = c.relax_parts.new.parts in
    let is = lent old new c.args.search.now.parts.len c.args.search.now.parts.ok.0 (c.relax_parts.ensures.count ∙ ap length c.deref_mut.ensures.value) in
    let each = each_relaxed dump log s old c.deref_mut.result.now new c.deref-2.result.now c.deref_mut.ensures.value
    (c.deref-2.ensures.value ∙ is) c.relax_parts.ensures.count c.relax_parts.ensures.each (c.has_failed.ensures c.if-has_failed.false) in
    record {
      searching = subst (HaveComeTo dump log c.args.search.now.whole s) (sym is)
          (all_go_on dump log c.args.search.now.whole s [] old new each c.requires.searching);
      same = record {
        whole = refl;
        count = ap length is ∙ c.relax_parts.ensures.count ∙ ap length c.deref_mut.ensures.value;
        no_more = omega (arith, ap to_do_in is, all-no_more dump log s old new each);
      };
      less = λ queued. omega (arith, ap to_do_in is, all-less dump log s old new queued.index queued.part each queued.there queued.some);
    }
