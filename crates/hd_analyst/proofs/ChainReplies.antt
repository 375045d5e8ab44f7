-- Lemmas on the answer to `chain`.
use Rattle.std.proofs.Common.{◌≡◌, ◌∙◌, ℕ, zero, suc, List, [], ◌∷◌, ◌++◌, ◌+◌, ◌-◌, ◌<◌, inl, inr, length, map, take, min, Option, None, Some, Ok, refl, sym}
use Rattle.std.proofs.Common.{ap, arith}
use Rattle.std.specs.Prelude.{Bool}
use Rattle.std.specs.List.{flat_map}
use Rattle.std.proofs.lemmas.List.{length-map, length-take, take_all, take_min, take-map}
use Rattle.std.proofs.lemmas.Simd.{map-map}
use Rattle.hd_terms.specs.declared.Event.{Event}
use Rattle.hd_terms.specs.declared.Strength.TheVariants as strengths
use Rattle.hd_terms.specs.Paths.{Edge}
use Rattle.hd_terms.specs.Dump.{Dump}
use Rattle.hd_terms.specs.Settled.{Reached}
use Rattle.hd_lines.specs.Replies.{AnswersChain, answer_text, chain_start, chain_lines}
use Rattle.hd_terms.specs.Listed.{first_items}
use Rattle.hd_queries.specs.declared.chain.Chain.{Chain}
use Rattle.hd_queries.specs.ChainFound.{IsChainFound, IsFoundChain, link_of, root_of}
use Rattle.hd_analyst.specs.ChainLines.{lines_of, link_text}
use Rattle.hd_analyst.specs.Replying.{IsWritten}

module _ (dump : Dump) (names : Bool) (log : List Event) (ks : List Reached) (o : ℕ) (most : Option ℕ) (reply : List ℕ) where
  -- nothing leads to it
  pub unreachable_reply : IsChainFound dump log ks o None → reply ≡ answer_text most (Ok []) → IsWritten (AnswersChain dump names log (Some o)) most reply
  unreachable_reply found is = (Ok [], (strengths.Unreachable, found, inl (refl, refl)), is)

  -- the lines of the chain are those of its edges
  same_lines : (chain : Chain) (es : List Edge) → chain.links.items ≡ map link_of es → lines_of dump names chain ≡ chain_lines dump names (root_of chain) es
  same_lines chain es links =
      ap (λ (ls : List (List ℕ)). chain_start dump names (root_of chain) ∷ ls)
      (ap (map (link_text dump names)) links ∙ map-map (link_text dump names) link_of es)

  -- a chain leads to it
  pub chain_reply : (chain : Chain) → IsFoundChain dump log ks o chain → reply ≡ answer_text most (Ok (lines_of dump names chain))
      → IsWritten (AnswersChain dump names log (Some o)) most reply
  chain_reply chain is reply_is = (
    Ok (lines_of dump names chain),
    (is.strength, is.has_strength, inr (root_of chain, is.edges, is.is_chain, ap Ok (same_lines chain is.edges is.links))),
    reply_is,
  )
