-- A put, from the page that was read to the page that is left.
use Rattle.std.proofs.Common.{◌≡◌, ℕ, zero, suc, ◌+◌, ◌-◌, ◌*◌, ◌/◌, ◌%◌, ◌<◌, ◌≤◌, ◌≢◌, ◌⊎◌, [], ◌∷◌, ◌∙◌, List, length, take, drop, get_or, refl, ap, sym, arith, inl, inr, subst, None}
use Rattle.std.proofs.lemmas.Bool.{cases_eq, eq-eqb, ne_eqb, cases_lt}
use Rattle.ib_map.specs.Keys.{MapKey, rank, end_rank}
use Rattle.ib_map.specs.Pairs.{Pairs, put, value_at, index_of}
use Rattle.ib_map.proofs.IndexLaws.{index_of-le}
use Rattle.ib_heap.specs.Page.{Page, PageValue}
use Rattle.ib_heap.specs.Chain.{Node, Chain, first_of, owners, times, offsets_of, records_in, used_in_chain, page_with, read_chain, last_from, up_to, nodes_of}
use Rattle.ib_heap.specs.Form.{page_of}
use Rattle.ib_heap.specs.Image.{value_with_records, records_of}
use Rattle.ib_heap.specs.ChainPut.{owned_by, owner_from, own_one_more, put_node, put_last, rest_of}
use Rattle.ib_heap.specs.Page.PageValue.{Tree}
use Rattle.ib_heap.specs.Steps.{IsOffsetOfKey}
use Rattle.ib_heap.proofs.HeapLaws.{Chained, Owned, AreOffsets, AreOffsets-left, IsOffset, page-from, Shaped}
use Rattle.ib_heap.proofs.SeekLaws.{Known, directory-at, owner-at, link-at, last-first, last-in, first-in}
use Rattle.ib_heap.proofs.PutLaws.{one-same, OverAt, Over, over-put, over_at-room, owner-in, times-drop, Apart, apart-owner, apart-rest, owners-put, length-put, times-put, times-apart}
use Rattle.ib_heap.specs.Kept.{IsKept, IsOutside}
use Rattle.ib_heap.proofs.KeptLaws.{kept-fixed, kept-offset, outside-other}
use Rattle.ib_heap.proofs.SplitLaws.{InSlot, owner-slot, slot-put}
use Rattle.ib_heap.proofs.SplitShape.{Group, group}
use Rattle.ib_heap.proofs.ShapeLaws.{offsets-known, Gives, Written, put_heap}
use Rattle.ib_heap.proofs.PutShape.{NewOffset, new-offset, before-in, put-shaped, put-page, low-node}

-- the slot of an offset, by its number
pub in-slot : (slot k : ℕ) (xs : List Node) → 0 < slot → slot ≤ length (owners xs) → up_to (slot - 1) xs ≤ k → (k < up_to slot xs) ⊎ (slot ≡ length (owners xs)) → InSlot (slot - 1) k xs
in-slot slot k xs some le low high =
    let e : slot ≡ suc (slot - 1) = omega arith in
    (low, (subst (λ (n : ℕ). (k < up_to n xs) ⊎ (n ≡ length (owners xs))) e high, omega arith))

pub in-slot-put : (j k p : ℕ) (xs : List Node) → InSlot j k xs → k ≤ length xs → (k < up_to (suc j) (put_node k p xs)) ⊎ (suc j ≡ length (owners (put_node k p xs)))
in-slot-put j k p xs within le = elim within.1.0 [
  | inl lt ↦ inl (go j k xs lt le)
  | inr e ↦ inr (e ∙ ap length (sym (owners-put k p xs le)))
]
  where
    go : (i m : ℕ) (ys : List Node) → m < up_to (suc i) ys → m ≤ length ys → m < up_to (suc i) (put_node m p ys)
    go i zero ys lt l = omega arith
    go i (suc m) [] lt l = absurd (omega arith)
    go zero (suc m) (y ∷ ys) lt l = elim (cases_eq y.owned 0) [
      | inl f ↦ (let e = eq-eqb y.owned 0 f in let q : suc m < 1 + up_to 1 ys = rw e at lt in let r = go 0 m ys (omega arith) (omega arith) in rw e (omega arith))
      | inr f ↦ absurd (let e = ne_eqb y.owned 0 f in let q : suc m < 1 + up_to 0 ys = rw e at lt in omega arith)
    ]
    go (suc i) (suc m) (y ∷ ys) lt l = elim (cases_eq y.owned 0) [
      | inl f ↦ (let e = eq-eqb y.owned 0 f in let q : suc m < 1 + up_to (suc (suc i)) ys = rw e at lt in let r = go (suc i) m ys (omega arith) (omega arith) in rw e (omega arith))
      | inr f ↦ (let e = ne_eqb y.owned 0 f in let q : suc m < 1 + up_to (suc i) ys = rw e at lt in let r = go i m ys (omega arith) (omega arith) in rw e (omega arith))
    ]

-- the neighbours are two
pub neighbours-apart : (k : ℕ) (xs : List Node) → Apart xs → k ≤ length xs → last_from 18 (take k xs) ≢ owner_from (drop k xs)
neighbours-apart zero xs apart le = elim (owner-in xs) [ inl e ↦ (λ z. absurd (omega arith)) | inr m ↦ (λ z. absurd (let a = apart.above (owner_from xs) m in omega arith)) ]
neighbours-apart (suc k) xs apart le = go 18 k xs apart le
  where
    go : (b i : ℕ) (ys : List Node) → Apart ys → suc i ≤ length ys → last_from b (take (suc i) ys) ≢ owner_from (drop (suc i) ys)
    go b i [] ap1 l = absurd (omega arith)
    go b zero (y ∷ ys) ap1 l = apart-owner y ys 0 ap1
    go b (suc i) (y ∷ ys) ap1 l = go y.offset i ys (apart-rest y ys ap1) (omega arith)

pub middle-apart : (t : ℕ) (xs : List Node) → Apart xs → t < length xs → first_of (drop t xs) ≢ owner_from (drop (suc t) xs)
middle-apart t [] apart lt = absurd (omega arith)
middle-apart zero (x ∷ xs) apart lt = apart-owner x xs 0 apart
middle-apart (suc t) (x ∷ xs) apart lt = middle-apart t xs (apart-rest x xs apart) (omega arith)

-- the header of the last of the first k
pub record HeaderWord (word next most : ℕ) : Type 0 where
  pub owned : ℕ
  pub is : word ≡ owned * 256 + next
  pub few : owned ≤ most

pub before-word : (ws : List ℕ) (b n k : ℕ) (xs : List Node) (last : ℕ) → HeaderWord (get_or ws b 0) (first_of xs) 8 → Chained ws xs last → Owned n xs last → k ≤ length xs → HeaderWord (get_or ws (last_from b (take k xs)) 0) (first_of (drop k xs)) 8
before-word ws b n zero xs last h c o le = h
before-word ws b n (suc k) [] last h c o le = absurd (omega arith)
before-word ws b n (suc k) (x ∷ xs) last h c (inl o) le = before-word ws x.offset (n + 1) k xs last (record { owned = x.owned; is = c.0; few = let z = o.0 in omega arith }) c.1 o.1 (omega arith)
before-word ws b n (suc k) (x ∷ xs) last h c (inr o) le = before-word ws x.offset 0 k xs last (record { owned = x.owned; is = c.0; few = o.0.1.1 }) c.1 o.1 (omega arith)

-- the header of a slot's owner
pub record OwnerWord (word owned : ℕ) : Type 0 where
  pub next : ℕ
  pub is : word ≡ owned * 256 + next
  pub low : next < 256

pub owner-word : (ws : List ℕ) (n k : ℕ) (xs : List Node) (last : ℕ) → n ≤ 35 → AreOffsets n (offsets_of xs) → Chained ws xs last → k ≤ length xs → OwnerWord (get_or ws (owner_from (drop k xs)) 0) (owned_by (drop k xs) last)
owner-word ws n (suc k) [] last few offsets c le = absurd (omega arith)
owner-word ws n (suc k) (x ∷ xs) last few offsets c le = owner-word ws n k xs last few offsets.1 c.1 (omega arith)
owner-word ws n zero [] last few offsets c le = record { next = 0; is = let w : get_or ws 19 0 ≡ last * 256 = c in omega arith; low = omega arith }
owner-word ws n zero (x ∷ xs) last few offsets c le = elim (cases_eq x.owned 0) [
  | inl f ↦ (let e = eq-eqb x.owned 0 f in rw e (owner-word ws n zero xs last few offsets.1 c.1 (omega arith)))
  | inr f ↦ (let e = ne_eqb x.owned 0 f in rw e (record { next = first_of xs; is = c.0; low = elim (first-in n xs 0 few offsets.1 (omega arith)) [ inl z ↦ (let y = z.0 in omega arith) | inr z ↦ (let y = z.1.0 in omega arith) ] }))
]

pub owned-few : (n k : ℕ) (xs : List Node) (last : ℕ) → Owned n xs last → owned_by (drop k xs) last ≤ 8
owned-few n (suc k) [] last h = h.1
owned-few n (suc k) (x ∷ xs) last (inl h) = owned-few (n + 1) k xs last h.1
owned-few n (suc k) (x ∷ xs) last (inr h) = owned-few 0 k xs last h.1
owned-few n zero [] last h = h.1
owned-few n zero (x ∷ xs) last (inl h) = rw (eq-eqb x.owned 0 h.0) (owned-few (n + 1) zero xs last h.1)
owned-few n zero (x ∷ xs) last (inr h) = let a = h.0.0 in rw (ne_eqb x.owned 0 (λ z. omega arith)) h.0.1.1

pub owned-some : (n k : ℕ) (xs : List Node) (last : ℕ) → Owned n xs last → 1 ≤ owned_by (drop k xs) last
owned-some n (suc k) [] last h = let a = h.0 in omega arith
owned-some n (suc k) (x ∷ xs) last (inl h) = owned-some (n + 1) k xs last h.1
owned-some n (suc k) (x ∷ xs) last (inr h) = owned-some 0 k xs last h.1
owned-some n zero [] last h = let a = h.0 in omega arith
owned-some n zero (x ∷ xs) last (inl h) = rw (eq-eqb x.owned 0 h.0) (owned-some (n + 1) zero xs last h.1)
owned-some n zero (x ∷ xs) last (inr h) = let a = h.0.0 in rw (ne_eqb x.owned 0 (λ z. absurd (omega arith))) (omega arith)

pub over-few : (k n : ℕ) (xs : List Node) (last : ℕ) → OverAt k n xs last → owned_by (drop k xs) last ≤ 9
over-few zero n xs last h = go n xs h
  where
    go : (m : ℕ) (ys : List Node) → Over m ys last → owned_by ys last ≤ 9
    go m [] o = o.1
    go m (y ∷ ys) (inl o) = rw (eq-eqb y.owned 0 o.0) (go (m + 1) ys o.1)
    go m (y ∷ ys) (inr o) = let a = o.0.0 in rw (ne_eqb y.owned 0 (λ z. omega arith)) o.0.1.1
over-few (suc k) n [] last h = absurd h
over-few (suc k) n (x ∷ xs) last (inl h) = over-few k (n + 1) xs last h.1
over-few (suc k) n (x ∷ xs) last (inr h) = over-few k 0 xs last h.1

pub owner-drop : (k p : ℕ) (xs : List Node) → k ≤ length xs → owner_from (drop k (put_node k p xs)) ≡ owner_from (drop k xs)
owner-drop zero p xs le = go xs
  where
    go : (ys : List Node) → owner_from (own_one_more ys) ≡ owner_from ys
    go [] = refl
    go (y ∷ ys) = elim (cases_eq y.owned 0) [
      | inl f ↦ (let e = eq-eqb y.owned 0 f in rw e (rw e (go ys)))
      | inr f ↦ rw (ne_eqb y.owned 0 f) (rw (ne_eqb (y.owned + 1) 0 (λ z. absurd (omega arith))) refl)
    ]
owner-drop (suc k) p [] le = absurd (omega arith)
owner-drop (suc k) p (x ∷ xs) le = owner-drop k p xs (omega arith)

module _ (ws : List ℕ) (key : MapKey) (slot before at p : ℕ) (kn : Known ws) (st : IsOffsetOfKey ws key slot before at) (few : length (nodes_of ws) < 35) (gives : Gives (read_chain ws) p (rest_of (read_chain ws).free)) where
  abbrev pub k : ℕ
  k = index_of key (records_of ws)

  abbrev pub nodes : List Node
  nodes = nodes_of ws

  abbrev pub owner : ℕ
  owner = get_or ws (8 + slot) 0

  abbrev pub nodes1 : List Node
  nodes1 = put_node k p nodes

  abbrev pub last1 : ℕ
  last1 = put_last k nodes (read_chain ws).last

  pub k_le : k ≤ length nodes
  k_le = let a = index_of-le key (records_of ws) in let b = kn.long in omega arith

  pub within : InSlot (slot - 1) k nodes
  within = in-slot slot k nodes st.some st.in_range st.low st.high

  pub apart : Apart nodes
  apart = (offsets-known (read_chain ws) kn.is.shape.offsets kn.is.shape.once).apart

  new : NewOffset (read_chain ws) p (rest_of (read_chain ws).free)
  new = new-offset (read_chain ws) p (rest_of (read_chain ws).free) (offsets-known (read_chain ws) kn.is.shape.offsets kn.is.shape.once) kn.few gives

  pub owner_is : owner ≡ owner_from (drop k nodes)
  owner_is =
      let s = kn.slots in let r = st.in_range in let z = st.some in
      directory-at ws 10 8 (18 ∷ owners nodes) slot kn.is.shape.directory (omega arith)
      ∙ (ap (λ i. get_or (18 ∷ owners nodes) i 0) (let e : slot ≡ suc (slot - 1) = omega arith in e) ∙ owner-slot 18 (slot - 1) k nodes within k_le)

  p_offset : IsOffset (length nodes + 1 + length (rest_of (read_chain ws).free)) p
  p_offset = new.offset p (let o = one-same p in omega arith)

  not_p : (q : ℕ) → 0 < times q (offsets_of nodes) → IsOutside p q
  not_p q m =
      let l = low-node ws kn q m in let a = l.is in let pl = p_offset in let b = pl.is in
      outside-other p q q _ _ b a (λ z. times-apart p q (offsets_of nodes) new.not_node m (sym z)) (omega arith) (omega arith)

  pub before_facts : (18 ≤ before) × ((before ≤ 156) × IsOutside p before)
  before_facts =
      let e = st.before_is in let pl = p_offset in let b = pl.is in
      elim (before-in k nodes k_le) [
        | inl z ↦ (let f = z.1 in (omega arith, (omega arith, inl (omega arith))))
        | inr z ↦ subst (λ (q : ℕ). (18 ≤ q) × ((q ≤ 156) × IsOutside p q)) (sym e) (let l = low-node ws kn _ z.1 in let a = l.is in let d = l.below in (omega arith, (omega arith, not_p _ z.1)))
      ]

  pub owner_facts : (18 ≤ owner) × ((owner ≤ 156) × IsOutside p owner)
  owner_facts =
      let pl = p_offset in let b = pl.is in
      subst (λ (q : ℕ). (18 ≤ q) × ((q ≤ 156) × IsOutside p q)) (sym owner_is) (elim (owner-in (drop k nodes)) [
        | inl f ↦ (omega arith, (omega arith, inl (omega arith)))
        | inr m ↦ (let t = times-drop k (owner_from (drop k nodes)) nodes in let n : 0 < times (owner_from (drop k nodes)) (offsets_of nodes) = omega arith in let l = low-node ws kn _ n in let a = l.is in let d = l.below in (omega arith, (omega arith, not_p _ n)))
      ])

  pub two : before ≢ owner
  two z = neighbours-apart k nodes apart k_le (sym st.before_is ∙ (z ∙ owner_is))

  start_word : HeaderWord (get_or ws 18 0) (first_of nodes) 8
  start_word = let s = kn.is.shape.start in record { owned = 1; is = omega arith; few = omega arith }

  pub before_header : HeaderWord (get_or ws before 0) at 8
  before_header =
      let h = before-word ws 18 0 k nodes (read_chain ws).last start_word kn.is.shape.chained kn.is.owned k_le in
      let i = h.is in
      record { owned = h.owned; is = ap (λ n. get_or ws n 0) st.before_is ∙ (h.is ∙ ap (λ n. h.owned * 256 + n) (sym st.at_is)); few = h.few }

  pub at_low : at < 256
  at_low = let e = st.at_is in elim (first-in (used_in_chain (read_chain ws)) nodes k kn.few kn.offsets k_le) [ inl z ↦ (let y = z.0 in omega arith) | inr z ↦ (let y = z.1.0 in omega arith) ]

  pub owner_header : get_or ws owner 0 < 65536
  owner_header =
      let o = owner-word ws (used_in_chain (read_chain ws)) k nodes (read_chain ws).last kn.few kn.offsets kn.is.shape.chained k_le in
      let f = owned-few 0 k nodes (read_chain ws).last kn.is.owned in
      let i = o.is in let l = o.low in
      let e : get_or ws owner 0 ≡ get_or ws (owner_from (drop k nodes)) 0 = ap (λ n. get_or ws n 0) owner_is in omega arith

  -- the page after the record is written
  module _ (vs : List ℕ) (value : ℕ) (w : Written ws vs (read_chain ws) k p key value (rest_of (read_chain ws).free)) (none : value_at key (records_of ws) ≡ None) (in_range : rank key < end_rank) where
    abbrev pub heap1 : Chain
    heap1 = put_heap k p (rest_of (read_chain ws).free) (read_chain ws)

    at_key : k ≡ index_of key (records_in ws nodes)
    at_key = ap (λ (rs : Pairs). index_of key rs) kn.records

    pub shaped1 : Shaped vs heap1
    shaped1 = put-shaped ws vs (read_chain ws) k p key value (rest_of (read_chain ws).free) kn.is gives w k_le few at_key (subst (λ (rs : Pairs). value_at key rs ≡ None) kn.records none) in_range

    pub page1 : page_with vs (records_in vs nodes1) ≡ page_with ws (put key value (records_in ws nodes))
    page1 = put-page ws vs (read_chain ws) k p key value (rest_of (read_chain ws).free) kn.is gives w k_le few at_key

    pub over1 : OverAt k 0 nodes1 last1
    over1 = over-put k 0 p nodes (read_chain ws).last k_le kn.is.owned

    pub long1 : length nodes1 ≡ length nodes + 1
    long1 = length-put k p nodes k_le

    pub owner1 : OwnerWord (get_or vs owner 0) (owned_by (drop k nodes1) last1)
    owner1 =
        let l = long1 in let a = k_le in
        let o = owner-word vs (used_in_chain heap1) k nodes1 last1 shaped1.few (AreOffsets-left _ _ _ shaped1.offsets) shaped1.chained (omega arith) in
        let e : owner ≡ owner_from (drop k nodes1) = owner_is ∙ sym (owner-drop k p nodes k_le) in
        record { next = o.next; is = ap (λ n. get_or vs n 0) e ∙ o.is; low = o.low }

    -- the words that are kept are no offset of the chain
    pub member-apart : (i q : ℕ) → IsKept (used_in_chain heap1) i → 0 < times q (offsets_of nodes1) → i ≢ q
    member-apart i q kept m = kept-offset (used_in_chain heap1) i q kept ((offsets-known heap1 shaped1.offsets shaped1.once).offset q (omega arith))

    in-nodes1 : (q : ℕ) → 0 < times q (offsets_of nodes) → 0 < times q (offsets_of nodes1)
    in-nodes1 q m = let t = times-put k p q nodes k_le in omega arith

    before-apart : (i : ℕ) → IsKept (used_in_chain heap1) i → i ≢ before
    before-apart i kept = elim (before-in k nodes k_le) [
      | inl e ↦ (let b = st.before_is ∙ e.1 in kept-fixed _ i before kept (inr (omega arith, omega arith)))
      | inr m ↦ member-apart i before kept (in-nodes1 before (subst (λ (q : ℕ). 0 < times q (offsets_of nodes)) (sym st.before_is) m.1))
    ]

    pub own-apart : (i : ℕ) → IsKept (used_in_chain heap1) i → i ≢ owner
    own-apart i kept = elim (owner-in (drop k nodes)) [
      | inl e ↦ (let o = owner_is ∙ e in kept-fixed _ i owner kept (inr (omega arith, omega arith)))
      | inr m ↦ (let d = times-drop k (owner_from (drop k nodes)) nodes in member-apart i owner kept (in-nodes1 owner (subst (λ (q : ℕ). 0 < times q (offsets_of nodes)) (sym owner_is) (omega arith))))
    ]

    pub kept1 : (i : ℕ) → IsKept (used_in_chain heap1) i → IsOutside p i → get_or vs i 0 ≡ get_or ws i 0
    kept1 i kept out =
        w.other i (kept-fixed _ i 2 kept (inl refl)) (kept-fixed _ i 6 kept (inr (omega arith, omega arith))) (kept-fixed _ i 7 kept (inr (omega arith, omega arith)))
        out (λ z. before-apart i kept (z ∙ sym st.before_is)) (λ z. own-apart i kept (z ∙ sym owner_is))

    -- the page that is wanted
    pub wanted : value_with_records (put key value (records_of ws)) (page_of ws) ≡ Tree (page_with ws (put key value (records_in ws nodes)))
    wanted =
        let hh = page-from ws (read_chain ws) kn.is in
        ap (λ (v : PageValue). value_with_records (put key value (records_of ws)) v) hh
        ∙ ap (λ (rs : Pairs). Tree (page_with ws (put key value rs))) kn.records

    pub done_plain : get_or vs owner 0 / 256 ≤ 8 → page_of vs ≡ value_with_records (put key value (records_of ws)) (page_of ws)
    done_plain room =
        let o = owner1 in let i = o.is in let l = o.low in
        let owned : Owned 0 nodes1 last1 = over_at-room k 0 nodes1 last1 over1 (omega arith) in
        page-from vs heap1 (record { shape = shaped1; owned = owned }) ∙ (ap (λ (q : Page). Tree q) page1 ∙ sym wanted)

    pub nine : (get_or vs owner 0 / 256 ≤ 8 → ⊥) → owned_by (drop k nodes1) last1 ≡ 9
    nine full =
        let o = owner1 in let i = o.is in let l = o.low in let m = over-few k 0 nodes1 last1 over1 in
        elim (cases_lt 8 (owned_by (drop k nodes1) last1)) [ inl lt ↦ omega arith | inr le ↦ absurd (full (omega arith)) ]

    pub within1 : InSlot (slot - 1) k nodes1
    within1 = (
      let u = slot-put (slot - 1) k p nodes within k_le in let b = within.0 in omega arith,
      (in-slot-put (slot - 1) k p nodes within k_le, let b = within.1.1 in let e = ap length (owners-put k p nodes k_le) in omega arith),
    )

    abbrev pub t : ℕ
    t = up_to (slot - 1) nodes1 + 3

    pub group1 : owned_by (drop k nodes1) last1 ≡ 9 → Group (slot - 1) k t nodes1 last1
    group1 full = group (slot - 1) k 0 nodes1 last1 (λ z. refl) over1 full within1

    offsets1 : AreOffsets (used_in_chain heap1) (offsets_of nodes1)
    offsets1 = AreOffsets-left _ _ _ shaped1.offsets

    next1 : (i q : ℕ) → i < length nodes1 → q ≡ last_from 18 (take i nodes1) → get_or vs q 0 % 256 ≡ last_from 18 (take (suc i) nodes1)
    next1 i q lt e =
        let s = shaped1.start in
        let low : first_of nodes1 < 256 = elim (first-in (used_in_chain heap1) nodes1 0 shaped1.few offsets1 (omega arith)) [ inl z ↦ (let y = z.0 in omega arith) | inr z ↦ (let y = z.1.0 in omega arith) ] in
        ap (λ n. get_or vs n 0 % 256) e ∙ (link-at vs (used_in_chain heap1) 18 nodes1 last1 i shaped1.few offsets1 (omega arith) shaped1.chained (omega arith) ∙ sym (last-first 18 nodes1 i lt))

    pub low1 : (i q : ℕ) → i ≤ length nodes1 → q ≡ last_from 18 (take i nodes1) → q ≤ 156
    low1 i q le e = elim (last-in (used_in_chain heap1) 18 nodes1 i shaped1.few offsets1 le) [ inl z ↦ (let y = z.1 in omega arith) | inr z ↦ (let y = z.1 in omega arith) ]

    pub first_is : get_or ws (8 + (slot - 1)) 0 ≡ last_from 18 (take (up_to (slot - 1) nodes1) nodes1)
    first_is =
        let s = kn.slots in let r = st.in_range in let z = st.some in
        directory-at ws 10 8 (18 ∷ owners nodes) (slot - 1) kn.is.shape.directory (omega arith)
        ∙ (ap (λ (os : List ℕ). get_or (18 ∷ os) (slot - 1) 0) (sym (owners-put k p nodes k_le)) ∙ owner-at 18 nodes1 (slot - 1) (let b = within1.1.1 in omega arith))

    -- four steps from the slot before
    pub record Steps (q0 q1 q2 q3 q4 : ℕ) : Type 0 where
      pub low0 : q0 ≤ 156
      pub low1 : q1 ≤ 156
      pub low2 : q2 ≤ 156
      pub low3 : q3 ≤ 156
      pub low4 : q4 ≤ 156
      pub high4 : 20 ≤ q4
      pub is : q4 ≡ first_of (drop t nodes1)

    pub steps : owned_by (drop k nodes1) last1 ≡ 9 → (q0 q1 q2 q3 q4 : ℕ) → q0 ≡ get_or ws (8 + (slot - 1)) 0 → q1 ≡ get_or vs q0 0 % 256 → q2 ≡ get_or vs q1 0 % 256 → q3 ≡ get_or vs q2 0 % 256 → q4 ≡ get_or vs q3 0 % 256 → Steps q0 q1 q2 q3 q4
    steps full q0 q1 q2 q3 q4 e0 e1 e2 e3 e4 =
        let g = group1 full in let lt = g.in_range in
        let u = up_to (slot - 1) nodes1 in
        let p0 : q0 ≡ last_from 18 (take u nodes1) = e0 ∙ first_is in
        let p1 : q1 ≡ last_from 18 (take (suc u) nodes1) = e1 ∙ next1 u q0 (omega arith) p0 in
        let p2 : q2 ≡ last_from 18 (take (suc (suc u)) nodes1) = e2 ∙ next1 (suc u) q1 (omega arith) p1 in
        let p3 : q3 ≡ last_from 18 (take (suc (suc (suc u))) nodes1) = e3 ∙ next1 (suc (suc u)) q2 (omega arith) p2 in
        let p4 : q4 ≡ last_from 18 (take (suc (suc (suc (suc u)))) nodes1) = e4 ∙ next1 (suc (suc (suc u))) q3 (omega arith) p3 in
        let f4 : q4 ≡ first_of (drop (suc (suc (suc u))) nodes1) = p4 ∙ last-first 18 nodes1 (suc (suc (suc u))) (omega arith) in
        let e : suc (suc (suc u)) ≡ t = omega arith in
        record {
          low0 = low1 u q0 (omega arith) p0;
          low1 = low1 (suc u) q1 (omega arith) p1;
          low2 = low1 (suc (suc u)) q2 (omega arith) p2;
          low3 = low1 (suc (suc (suc u))) q3 (omega arith) p3;
          low4 = low1 (suc (suc (suc (suc u)))) q4 (omega arith) p4;
          high4 = elim (first-in (used_in_chain heap1) nodes1 (suc (suc (suc u))) shaped1.few offsets1 (omega arith)) [ inl z ↦ absurd (let y = z.1 in omega arith) | inr z ↦ (let y = z.0 in omega arith) ];
          is = f4 ∙ ap (λ n. first_of (drop n nodes1)) e;
        }
