-- A record found where it stands in the chain.
use Rattle.std.proofs.Common.{◌≡◌, ℕ, suc, ◌+◌, ◌-◌, ◌<◌, ◌≤◌, ◌≢◌, ◌⊎◌, ◌∙◌, List, Option, length, take, drop, get_or, refl, ap, sym, arith, inl, inr, subst, Some, None, slice_get, IsSomeAnd, true}
use Rattle.std.proofs.lemmas.Option.{slice_get_past}
use Rattle.ib_map.specs.Keys.{MapKey, rank, end_rank}
use Rattle.ib_map.specs.Pairs.{value_at, index_of, index_after}
use Rattle.ib_map.proofs.IndexLaws.{index_of-le, value_at-found, value_at-past, value_at-differs}
use Rattle.ib_heap.proofs.RouteLaws.{routed-found, routed-absent, index-positive}
use Rattle.ib_heap.specs.Chain.{key_at, is_key_at, first_of, used_in_chain, read_chain, last_from, nodes_of}
use Rattle.ib_heap.specs.Image.{records_of}
use Rattle.ib_heap.proofs.SeekLaws.{Known, first-in, last-in, last-first, keyed-at, record-is}

module _ (ws : List ℕ) (key : MapKey) (before at : ℕ) (kn : Known ws) (before_is : before ≡ last_from 18 (take (index_of key (records_of ws)) (nodes_of ws))) (at_is : at ≡ first_of (drop (index_of key (records_of ws)) (nodes_of ws))) where
  abbrev k : ℕ
  k = index_of key (records_of ws)

  k_le : k ≤ length (nodes_of ws)
  k_le = let a = index_of-le key (records_of ws) in let l = kn.long in omega arith

  pub at-low : at ≤ 156
  at-low = elim (first-in (used_in_chain (read_chain ws)) (nodes_of ws) k kn.few kn.offsets k_le) [ inl e ↦ (let a = e.0 in let b = at_is in omega arith) | inr e ↦ (let a = e.1.0 in let b = at_is in omega arith) ]

  pub before-low : before ≤ 156
  before-low = elim (last-in (used_in_chain (read_chain ws)) 18 (nodes_of ws) k kn.few kn.offsets k_le) [ inl e ↦ (let a = e.1 in let b = before_is in omega arith) | inr e ↦ (let a = e.1 in let b = before_is in omega arith) ]

  within : at ≢ 19 → k < length (nodes_of ws)
  within ne = elim (first-in (used_in_chain (read_chain ws)) (nodes_of ws) k kn.few kn.offsets k_le) [ inl e ↦ absurd (ne (at_is ∙ e.0)) | inr e ↦ e.1.1 ]

  -- the record at the offset has a key
  pub at-keyed : at ≢ 19 → is_key_at ws at ≡ true
  at-keyed ne = keyed-at ws k at kn (within ne) at_is

  -- the record at the offset
  pub has-record : at ≢ 19 → slice_get (records_of ws) k ≡ Some (key_at ws at, get_or ws (at + 3) 0)
  has-record ne = record-is ws k at kn (within ne) at_is

  pub found : at ≢ 19 → rank (key_at ws at) ≡ rank key → value_at key (records_of ws) ≡ Some (get_or ws (at + 3) 0)
  found ne same =
      let some = subst (λ (o : Option (MapKey × ℕ)). IsSomeAnd o (λ r. rank r.0 ≡ rank key)) (sym (has-record ne)) same in
      let got = value_at-found key 0 (records_of ws) end_rank k kn.rises refl some in
      subst (λ (o : Option (MapKey × ℕ)). IsSomeAnd o (λ r. value_at key (records_of ws) ≡ Some r.1)) (has-record ne) got

  pub absent-end : at ≡ 19 → value_at key (records_of ws) ≡ None
  absent-end e = elim (first-in (used_in_chain (read_chain ws)) (nodes_of ws) k kn.few kn.offsets k_le) [
    | inl f ↦ value_at-past key 0 (records_of ws) end_rank k kn.rises refl (slice_get_past (records_of ws) k (let g = f.1 in let l = kn.long in omega arith))
    | inr f ↦ absurd (let a = f.0 in let b = at_is in omega arith)
  ]

  pub absent-other : at ≢ 19 → rank (key_at ws at) ≢ rank key → value_at key (records_of ws) ≡ None
  absent-other ne differs = value_at-differs key 0 (records_of ws) end_rank k _ kn.rises refl (has-record ne) differs

  -- the key is not at its offset
  pub absent-at : (at ≡ 19) ⊎ ((at ≢ 19) × (rank (key_at ws at) ≢ rank key)) → value_at key (records_of ws) ≡ None
  absent-at no_key = elim no_key [ inl e ↦ absent-end e | inr e ↦ absent-other e.0 e.1 ]

  pub within-records : at ≢ 19 → k < length (records_of ws)
  within-records ne = let lt = within ne in let l = kn.long in omega arith

  pub up_to-records : k ≤ length (records_of ws)
  up_to-records = index_of-le key (records_of ws)

  -- the last record that is not above the key
  pub routed-at : at ≢ 19 → key_at ws at ≡ key → slice_get (records_of ws) (index_after key (records_of ws) - 1) ≡ Some (key_at ws at, get_or ws (at + 3) 0)
  routed-at ne same =
      let some = subst (λ (o : Option (MapKey × ℕ)). IsSomeAnd o (λ r. r.0 ≡ key)) (sym (has-record ne)) same in
      let r = routed-found key (records_of ws) k kn.rises refl some in
      let p = r.index in
      ap (λ n. slice_get (records_of ws) n) (let e : index_after key (records_of ws) - 1 ≡ k = omega arith in e) ∙ has-record ne

  pub routed-before : value_at key (records_of ws) ≡ None → IsSomeAnd (slice_get (records_of ws) 0) (λ r. rank r.0 ≤ rank key) → slice_get (records_of ws) (index_after key (records_of ws) - 1) ≡ Some (key_at ws before, get_or ws (before + 3) 0)
  routed-before none first =
      let pos = index-positive key (records_of ws) k kn.rises refl none first in
      let r = routed-absent key (records_of ws) k kn.rises refl none first in
      let p = r.index in
      let e : k ≡ suc (k - 1) = omega arith in
      let le = k_le in
      let here : before ≡ first_of (drop (k - 1) (nodes_of ws)) = before_is ∙ (ap (λ n. last_from 18 (take n (nodes_of ws))) e ∙ last-first 18 (nodes_of ws) (k - 1) (omega arith)) in
      ap (λ n. slice_get (records_of ws) n) (let f : index_after key (records_of ws) - 1 ≡ k - 1 = omega arith in f) ∙ record-is ws (k - 1) before kn (omega arith) here

  pub routed-not_above : value_at key (records_of ws) ≡ None → IsSomeAnd (slice_get (records_of ws) 0) (λ r. rank r.0 ≤ rank key) → rank (key_at ws before) ≤ rank key
  routed-not_above none first =
      let pos = index-positive key (records_of ws) k kn.rises refl none first in
      let r = routed-absent key (records_of ws) k kn.rises refl none first in
      let e : k ≡ suc (k - 1) = omega arith in
      let le = k_le in
      let here : before ≡ first_of (drop (k - 1) (nodes_of ws)) = before_is ∙ (ap (λ n. last_from 18 (take n (nodes_of ws))) e ∙ last-first 18 (nodes_of ws) (k - 1) (omega arith)) in
      subst (λ (o : Option (MapKey × ℕ)). IsSomeAnd o (λ r. rank r.0 ≤ rank key)) (record-is ws (k - 1) before kn (omega arith) here) r.not_above
