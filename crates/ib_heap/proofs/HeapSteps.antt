-- What an insert and a removal leave, by the heap in place of the chain.
use Rattle.std.proofs.Common.{◌≡◌, ℕ, ◌<◌, ◌∙◌, List, length, get_or, ap, subst, arith}
use Rattle.ib_map.specs.Keys.{MapKey}
use Rattle.ib_map.specs.Pairs.{index_of}
use Rattle.ib_map.proofs.IndexLaws.{index_of-le}
use Rattle.ib_heap.specs.Page.{HoldsTree}
use Rattle.ib_heap.specs.Form.{page_of}
use Rattle.ib_heap.specs.Image.{records_of}
use Rattle.ib_heap.specs.Chain.{read_chain, nodes_of, used_in_chain}
use Rattle.ib_heap.specs.ChainPut.{chain_offset, put_in_chain}
use Rattle.ib_heap.specs.ChainTake.{remove_from_chain}
use Rattle.ib_heap.specs.Heap.{heap_of, read_heap, used_offsets}
use Rattle.ib_heap.specs.Put.{offset_for, put_in}
use Rattle.ib_heap.specs.Take.{remove_in}
use Rattle.ib_heap.specs.Kept.{IsKept, IsOutside}
use Rattle.ib_heap.proofs.SeekLaws.{known}
use Rattle.ib_heap.proofs.CutLaws.{used-same, offset-same}
use Rattle.ib_heap.proofs.PutCuts.{put-heap}
use Rattle.ib_heap.proofs.TakeCuts.{take-heap}

module _ (ws vs : List ℕ) where
  pub heap-put : (key : MapKey) → HoldsTree (page_of ws) → read_chain vs ≡ put_in_chain (index_of key (records_of ws)) (read_chain ws) → read_heap vs ≡ put_in (index_of key (records_of ws)) (read_heap ws)
  heap-put key holds is =
      let kn = known ws holds in let a = index_of-le key (records_of ws) in let b = kn.long in
      ap heap_of is ∙ put-heap (index_of key (records_of ws)) (read_chain ws) kn.is.owned (omega arith)

  pub kept-put : ((i : ℕ) → IsKept (used_in_chain (read_chain vs)) i → IsOutside (chain_offset (read_chain ws)) i → get_or vs i 0 ≡ get_or ws i 0)
      → (i : ℕ) → IsKept (used_offsets (read_heap vs)) i → IsOutside (offset_for (read_heap ws)) i → get_or vs i 0 ≡ get_or ws i 0
  kept-put same i kept out = same i (subst (λ (n : ℕ). IsKept n i) (used-same (read_chain vs)) kept) (subst (λ (q : ℕ). IsOutside q i) (offset-same (read_chain ws)) out)

  pub heap-take : (key : MapKey) → HoldsTree (page_of ws) → index_of key (records_of ws) < length (nodes_of ws) → read_chain vs ≡ remove_from_chain (index_of key (records_of ws)) (read_chain ws) → read_heap vs ≡ remove_in (index_of key (records_of ws)) (read_heap ws)
  heap-take key holds lt is = let kn = known ws holds in ap heap_of is ∙ take-heap (index_of key (records_of ws)) (read_chain ws) kn.is.owned lt

  pub kept-take : ((i : ℕ) → IsKept (used_in_chain (read_chain ws)) i → get_or vs i 0 ≡ get_or ws i 0) → (i : ℕ) → IsKept (used_offsets (read_heap ws)) i → get_or vs i 0 ≡ get_or ws i 0
  kept-take same i kept = same i (subst (λ (n : ℕ). IsKept n i) (used-same (read_chain ws)) kept)
