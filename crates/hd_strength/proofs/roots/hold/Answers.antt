use Rattle.std.proofs.Common.{◌≡◌, get_or, refl}
use Rattle.std.proofs.lemmas.Option.{get_or_from_slice_get}
use Rattle.hd_strength.proofs.roots.hold.Goals as goal

pub returns : goal.returns
returns c =
    let parts = c.args.parts.now in
    let k = c.holder-k.result in
    let p = c.holder-k.ensures.part in
    let read : get_or parts k c.index-parts-k.result ≡ p = get_or_from_slice_get parts k p c.index-parts-k.result c.holder-k.ensures.there in
    let here : get_or parts k c.index-parts-k-2.result ≡ p = get_or_from_slice_get parts k p c.index-parts-k-2.result c.holder-k.ensures.there in
    rw (here, c.put.ensures, here, read, c.by_root.ensures) (record {
      index = k;
      holder = c.holder-k.ensures;
      is = refl;
    })
