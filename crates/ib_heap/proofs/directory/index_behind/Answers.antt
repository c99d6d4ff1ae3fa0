-- One more slot's records.
use Rattle.std.proofs.Common.{arith, suc, ◌∙◌, ◌≡◌, ◌+◌, ◌/◌, ap, get_or, List, ℕ}
use Rattle.ib_heap.specs.Chain.{nodes_of, up_to}
use Rattle.ib_heap.proofs.SeekLaws.{known}
use Rattle.ib_heap.proofs.IndexLaws.{index-step, index-low}
use Rattle.ib_heap.proofs.directory.index_behind.Goals as goal

pub overflow_add-index : goal.overflow_add-index
overflow_add-index g c =
    let ws = g.W.PageWords.words c.args.page.now in
    let kn = known ws c.requires.page.tree in
    let t = c.loop-j-test.true in let r = c.requires.in_range in
    let step = index-step ws c.loop-j.j kn (omega arith) in
    let low = index-low ws (c.loop-j.j + 1) kn in
    let offset : c.owner-offset.result ≡ get_or ws (8 + (c.loop-j.j + 1)) 0 = c.owner-offset.ensures.word ∙ ap (λ (xs : List ℕ). get_or xs (8 + (c.loop-j.j + 1)) 0) c.loop-j.invariant.same in
    let same = c.owner-offset.ensures.still.same ∙ c.loop-j.invariant.same in
    let owned : c.owned_at-index.result ≡ get_or ws (get_or ws (8 + (c.loop-j.j + 1)) 0) 0 / 256 = c.owned_at-index.ensures.owned ∙ (ap (λ (xs : List ℕ). get_or xs c.owner-offset.result 0 / 256) same ∙ ap (λ n. get_or ws n 0 / 256) offset) in
    let i = c.loop-j.invariant.index in
    let next : up_to (suc c.loop-j.j) (nodes_of ws) ≡ up_to (c.loop-j.j + 1) (nodes_of ws) = ap (λ n. up_to n (nodes_of ws)) (let e : suc c.loop-j.j ≡ c.loop-j.j + 1 = omega arith in e) in
    let word : get_or ws (get_or ws (8 + suc c.loop-j.j) 0) 0 ≡ get_or ws (get_or ws (8 + (c.loop-j.j + 1)) 0) 0 = ap (λ n. get_or ws (get_or ws (8 + n) 0) 0) (let e : suc c.loop-j.j ≡ c.loop-j.j + 1 = omega arith in e) in
    omega arith

pub loop-j-preserved : goal.loop-j-preserved
loop-j-preserved g c =
    let ws = g.W.PageWords.words c.args.page.now in
    let kn = known ws c.requires.page.tree in
    let t = c.loop-j-test.true in let r = c.requires.in_range in
    let step = index-step ws c.loop-j.j kn (omega arith) in
    let offset : c.owner-offset.result ≡ get_or ws (8 + (c.loop-j.j + 1)) 0 = c.owner-offset.ensures.word ∙ ap (λ (xs : List ℕ). get_or xs (8 + (c.loop-j.j + 1)) 0) c.loop-j.invariant.same in
    let same = c.owner-offset.ensures.still.same ∙ c.loop-j.invariant.same in
    let owned : c.owned_at-index.result ≡ get_or ws (get_or ws (8 + (c.loop-j.j + 1)) 0) 0 / 256 = c.owned_at-index.ensures.owned ∙ (ap (λ (xs : List ℕ). get_or xs c.owner-offset.result 0 / 256) same ∙ ap (λ n. get_or ws n 0 / 256) offset) in
    let i = c.loop-j.invariant.index in
    let next : up_to (suc c.loop-j.j) (nodes_of ws) ≡ up_to (c.loop-j.j + 1) (nodes_of ws) = ap (λ n. up_to n (nodes_of ws)) (let e : suc c.loop-j.j ≡ c.loop-j.j + 1 = omega arith in e) in
    let word : get_or ws (get_or ws (8 + suc c.loop-j.j) 0) 0 ≡ get_or ws (get_or ws (8 + (c.loop-j.j + 1)) 0) 0 = ap (λ n. get_or ws (get_or ws (8 + n) 0) 0) (let e : suc c.loop-j.j ≡ c.loop-j.j + 1 = omega arith in e) in
    record { same = c.owned_at-index.ensures.still.same ∙ same; can = c.owned_at-index.ensures.still.can; read = g.met.W.PageWords.read_more _ _ _ c.loop-j.invariant.read (g.met.W.PageWords.read_more _ _ _ c.owner-offset.ensures.still.read c.owned_at-index.ensures.still.read); index = omega arith }
