-- A chain whose slots are well is the only one that is cut into its slots: of a page of the tree the heap says all that the chain does.
use Rattle.std.proofs.Common.{◌≡◌, ◌≢◌, ℕ, suc, ◌+◌, [], ◌∷◌, ◌∙◌, List, length, drop, refl, ap, sym, arith, inl, inr}
use Rattle.ib_heap.specs.Page.{HoldsTree}
use Rattle.ib_heap.specs.Form.{page_of}
use Rattle.ib_heap.specs.Chain.{Node, Chain, read_chain}
use Rattle.ib_heap.specs.Heap.{slots_of, heap_of, read_heap}
use Rattle.ib_heap.proofs.HeapLaws.{Owned}
use Rattle.ib_heap.proofs.SeekLaws.{known}
use Rattle.ib_heap.proofs.CutLaws.{slots-owner, is-cut, cut-inside}

abbrev first_length : List (List ℕ) → ℕ
first_length [] = 0
first_length (s ∷ ss) = length s

abbrev first_record : List (List ℕ) → ℕ
first_record [] = 0
first_record ([] ∷ ss) = 0
first_record ((p ∷ s) ∷ ss) = p

abbrev other_records : List (List ℕ) → List (List ℕ)
other_records [] = []
other_records ([] ∷ ss) = ss
other_records ((p ∷ s) ∷ ss) = s ∷ ss

node-same : (x y : Node) → x.offset ≡ y.offset → x.owned ≡ y.owned → x ≡ y
node-same x y e f = ap (λ p. let z : Node = record { offset = p; owned = x.owned } in z) e ∙ ap (λ n. let z : Node = record { offset = y.offset; owned = n } in z) f

-- no chain with a record is cut as one with none
not-none : (n : ℕ) (y : Node) (ys : List Node) (last : ℕ) → Owned n (y ∷ ys) last → slots_of [] ≡ slots_of (y ∷ ys) → ⊥
not-none n y ys last (inl h) is =
    let r = is-cut ys in let some = r.some in
    let long : 1 ≡ suc (length r.slot) = ap first_length (is ∙ cut-inside y ys r.slot r.slots h.0 r.is) in
    absurd (omega arith)
not-none n y ys last (inr h) is =
    let r = is-cut ys in let a = h.0.0 in
    let more = ap length r.is in
    let long : 1 ≡ suc (length (slots_of ys)) = ap length (is ∙ slots-owner y ys (λ z. omega arith)) in
    absurd (omega arith)

-- nor one whose first record owns a slot as one whose first record does not
not-owner : (x y : Node) (xs ys : List Node) → x.owned ≡ 0 → y.owned ≢ 0 → slots_of (x ∷ xs) ≡ slots_of (y ∷ ys) → ⊥
not-owner x y xs ys e ne is =
    let r = is-cut xs in let some = r.some in
    let long : suc (length r.slot) ≡ 1 = ap first_length (sym (cut-inside x xs r.slot r.slots e r.is) ∙ (is ∙ slots-owner y ys ne)) in
    absurd (omega arith)

pub nodes-same : (n : ℕ) (xs ys : List Node) (last end : ℕ) → Owned n xs last → Owned n ys end → slots_of xs ≡ slots_of ys → (xs ≡ ys) × (last ≡ end)
nodes-same n [] [] last end h k is = (refl, let a = h.0 in let b = k.0 in omega arith)
nodes-same n [] (y ∷ ys) last end h k is = absurd (not-none n y ys end k is)
nodes-same n (x ∷ xs) [] last end h k is = absurd (not-none n x xs last h (sym is))
nodes-same n (x ∷ xs) (y ∷ ys) last end (inl h) (inl k) is =
    let r = is-cut xs in let q = is-cut ys in
    let both = sym (cut-inside x xs r.slot r.slots h.0 r.is) ∙ (is ∙ cut-inside y ys q.slot q.slots k.0 q.is) in
    let rest = nodes-same (n + 1) xs ys last end h.1 k.1 (r.is ∙ (ap other_records both ∙ sym q.is)) in
    (ap (λ (z : Node). z ∷ xs) (node-same x y (ap first_record both) (h.0 ∙ sym k.0)) ∙ ap (λ (zs : List Node). y ∷ zs) rest.0, rest.1)
nodes-same n (x ∷ xs) (y ∷ ys) last end (inl h) (inr k) is = absurd (not-owner x y xs ys h.0 (let a = k.0.0 in λ z. omega arith) is)
nodes-same n (x ∷ xs) (y ∷ ys) last end (inr h) (inl k) is = absurd (not-owner y x ys xs k.0 (let a = h.0.0 in λ z. omega arith) (sym is))
nodes-same n (x ∷ xs) (y ∷ ys) last end (inr h) (inr k) is =
    let a = h.0.0 in let b = k.0.0 in
    let both = sym (slots-owner x xs (λ z. omega arith)) ∙ (is ∙ slots-owner y ys (λ z. omega arith)) in
    let rest = nodes-same 0 xs ys last end h.1 k.1 (ap (λ (ss : List (List ℕ)). drop 1 ss) both) in
    (ap (λ (z : Node). z ∷ xs) (node-same x y (ap first_record both) (omega arith)) ∙ ap (λ (zs : List Node). y ∷ zs) rest.0, rest.1)

pub chain-of-heap : (a b : Chain) → Owned 0 a.nodes a.last → Owned 0 b.nodes b.last → heap_of a ≡ heap_of b → a ≡ b
chain-of-heap a b h k is =
    let same = nodes-same 0 a.nodes b.nodes a.last b.last h k (ap (λ g. g.slots) is) in
    ap (λ (ns : List Node). let c : Chain = record { nodes = ns; last = a.last; free = a.free } in c) same.0
    ∙ (ap (λ n. let c : Chain = record { nodes = b.nodes; last = n; free = a.free } in c) same.1
    ∙ ap (λ (ps : List ℕ). let c : Chain = record { nodes = b.nodes; last = b.last; free = ps } in c) (ap (λ g. g.free) is))

-- two pages of the tree with one heap have one chain
pub read-same : (ws vs : List ℕ) → HoldsTree (page_of ws) → HoldsTree (page_of vs) → read_heap ws ≡ read_heap vs → read_chain ws ≡ read_chain vs
read-same ws vs t u is = chain-of-heap (read_chain ws) (read_chain vs) (known ws t).is.owned (known vs u).is.owned is
