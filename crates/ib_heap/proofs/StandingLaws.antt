-- Where a key stands, by the offsets at which its search ended.
use Rattle.std.proofs.Common.{◌≡◌, ◌≢◌, ℕ, ◌≤◌, List, length, take, drop, None, inl, inr, refl, sym, ap, ◌∙◌, arith}
use Rattle.std.proofs.lemmas.Bool.{cases_eq, eq-eqb, ne_eqb}
use Rattle.ib_map.specs.Keys.{MapKey}
use Rattle.ib_map.specs.Pairs.{index_of, value_at}
use Rattle.ib_heap.specs.Chain.{first_of, last_from, nodes_of, read_chain, used_in_chain}
use Rattle.ib_heap.specs.Image.{records_of}
use Rattle.ib_heap.specs.Standing.{standing_of}
use Rattle.ib_heap.specs.declared.search.KeyStanding.TheVariants.{Between, Outside}
use Rattle.ib_heap.proofs.FindLaws.{up_to-records, within-records}
use Rattle.ib_heap.proofs.SeekLaws.{Known, first-in, last-in}

module _ (ws : List ℕ) (key : MapKey) (before at : ℕ) (kn : Known ws) (before_is : before ≡ last_from 18 (take (index_of key (records_of ws)) (nodes_of ws))) (at_is : at ≡ first_of (drop (index_of key (records_of ws)) (nodes_of ws))) where
  fits : index_of key (records_of ws) ≤ length (nodes_of ws)
  fits = let le = up_to-records ws key before at kn before_is at_is in let long = kn.long in omega arith

  pub stands-first : value_at key (records_of ws) ≡ None → before ≡ 18 → Outside ≡ standing_of key (records_of ws)
  stands-first none front = elim (last-in (used_in_chain (read_chain ws)) 18 (nodes_of ws) (index_of key (records_of ws)) kn.few kn.offsets fits) [
    | inl first ↦ rw (none, eq-eqb (index_of key (records_of ws)) 0 first.0) refl
    | inr some ↦ absurd (let low = some.0 in omega arith)
  ]

  pub stands-last : value_at key (records_of ws) ≡ None → at ≡ 19 → Outside ≡ standing_of key (records_of ws)
  stands-last none end = elim (cases_eq (index_of key (records_of ws)) 0) [
    | inl first ↦ rw (none, eq-eqb (index_of key (records_of ws)) 0 first) refl
    | inr some ↦ elim (first-in (used_in_chain (read_chain ws)) (nodes_of ws) (index_of key (records_of ws)) kn.few kn.offsets fits) [
      | inl last ↦ rw (none, ne_eqb (index_of key (records_of ws)) 0 some, eq-eqb (index_of key (records_of ws)) (length (records_of ws)) (last.1 ∙ sym kn.long)) refl
      | inr low ↦ absurd (let above = low.0 in omega arith)
    ]
  ]

  pub stands-between : value_at key (records_of ws) ≡ None → before ≢ 18 → at ≢ 19 → Between ≡ standing_of key (records_of ws)
  stands-between none away on =
      let lt = within-records ws key before at kn before_is at_is on in
      let some : index_of key (records_of ws) ≢ 0 = λ first. away (before_is ∙ ap (λ k. last_from 18 (take k (nodes_of ws))) first) in
      let less : index_of key (records_of ws) ≢ length (records_of ws) = λ last. absurd (omega arith) in
      rw (none, ne_eqb (index_of key (records_of ws)) 0 some, ne_eqb (index_of key (records_of ws)) (length (records_of ws)) less) refl
