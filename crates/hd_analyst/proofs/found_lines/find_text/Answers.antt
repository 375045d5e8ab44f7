use Rattle.std.proofs.Common.{◌≡◌, ◌∙◌, List, map, Ok, sym, ap, subst}
use Rattle.std.specs.String.{string_bytes}
use Rattle.hd_terms.specs.declared.Group.{Group}
use Rattle.hd_lines.specs.Replies.{answered, found_line}
use Rattle.hd_terms.specs.Listed.{first_items}
use Rattle.hd_totals.specs.Members.{member_count}
use Rattle.hd_analyst.specs.Found.{AreNamed}
use Rattle.hd_analyst.proofs.FoundLemmas.{found}
use Rattle.hd_analyst.proofs.found_lines.find_text.Goals as goal

pub returns : goal.returns
returns c =
    let state = c.args.state.now in
    let groups = c.in_ok-groups.groups.items in
    let named = c.in_ok-named.named.items in
    let counts = member_count state.dump state.kept in
    let are : AreNamed state.dump c.args.text.now groups named = rw (sym c.graph.ensures, sym c.as_slice.ensures.value) c.in_ok-named.ensures in (
      Ok (map (found_line state.dump counts) named),
      found state.dump c.args.text.now groups named c.in_ok-groups.ensures.groups are state.log counts c.in_ok-groups.ensures.counts,
      c.in_ok-reply.ensures.lines
          ∙ ap (λ (gs : List Group). answered (first_items c.args.showing.most (map (found_line state.dump counts) gs))) c.as_slice-2.ensures.value,
    )
