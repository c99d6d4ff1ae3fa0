-- How what a page in heap form is, but for how many records each slot owns, is kept.
use Rattle.std.proofs.Common.{◌≡◌, ℕ, zero, suc, ◌+◌, ◌-◌, ◌*◌, ◌<◌, ◌≤◌, ◌≢◌, ◌⊎◌, [], ◌∷◌, ◌++◌, ◌∙◌, List, length, take, drop, get_or, refl, ap, arith, inl, inr, subst, Bool, true, ◌&&◌}
use Rattle.std.specs.List.{insert}
use Rattle.std.proofs.lemmas.Bool.{cases_eq, cases_lt, and_parts, and_from}
use Rattle.ib_map.specs.KeyWords.{is_key_words}
use Rattle.ib_map.specs.Keys.{MapKey, key_in}
use Rattle.ib_map.specs.Pairs.{Pairs}
use Rattle.ib_map.specs.declared.TheConstants.{PAGE_WORDS}
use Rattle.ib_heap.specs.Page.{Page}
use Rattle.ib_heap.specs.Chain.{key_at, Node, Chain, first_of, first_free, times, offsets_of, records_in, used_in_chain, page_with, last_from, are_keys, is_key_at}
use Rattle.ib_heap.specs.Kept.{IsOutside}
use Rattle.ib_heap.specs.ChainPut.{owner_from, own_one_more, put_node, put_last}
use Rattle.ib_heap.proofs.HeapLaws.{Freed, Directory, IsOffset, AreOffsets, EachOnce}
use Rattle.ib_heap.proofs.PutLaws.{one-same, one-other, offsets-own_one_more, times-append, Apart}

-- offsets, by what stands in a list
pub offset-member : (n : ℕ) (ps : List ℕ) (q : ℕ) → AreOffsets n ps → 0 < times q ps → IsOffset n q
offset-member n [] q h lt = absurd (omega arith)
offset-member n (p ∷ ps) q h lt = elim (cases_eq p q) [
  | inl e ↦ subst (λ (m : ℕ). IsOffset n m) e h.0
  | inr ne ↦ offset-member n ps q h.1 (let o = one-other p q ne in omega arith)
]

pub offsets-from : (n : ℕ) (ps : List ℕ) → ((q : ℕ) → 0 < times q ps → IsOffset n q) → AreOffsets n ps
offsets-from n [] each = tt
offsets-from n (p ∷ ps) each = (each p (let o = one-same p in omega arith), offsets-from n ps (λ q lt. each q (omega arith)))

pub once-at : (n : ℕ) (ps : List ℕ) (r : ℕ) → EachOnce n ps → r < n → times (20 + 4 * r) ps ≡ 1
once-at zero ps r h lt = absurd (omega arith)
once-at (suc n) ps r h lt = elim (cases_eq r n) [
  | inl e ↦ ap (λ m. times (20 + 4 * m) ps) e ∙ h.0
  | inr ne ↦ once-at n ps r h.1 (omega (arith, ne))
]

pub once-from : (n : ℕ) (ps : List ℕ) → ((r : ℕ) → r < n → times (20 + 4 * r) ps ≡ 1) → EachOnce n ps
once-from zero ps each = tt
once-from (suc n) ps each = (each n (omega arith), once-from n ps (λ r lt. each r (omega arith)))

pub at_most_once : (n : ℕ) (ps : List ℕ) (q : ℕ) → AreOffsets n ps → EachOnce n ps → times q ps ≤ 1
at_most_once n ps q offsets once = elim (cases_lt 0 (times q ps)) [
  | inl lt ↦ let p = offset-member n ps q offsets lt in let b = p.below in let o = once-at n ps p.number once b in let e : times q ps ≡ times (20 + 4 * p.number) ps = ap (λ m. times m ps) p.is in omega arith
  | inr ge ↦ omega arith
]

-- what is known of the offsets of a heap
pub record Offsets (h : Chain) : Type 0 where
  pub once : (q : ℕ) → times q (offsets_of h.nodes) + times q h.free ≤ 1
  pub offset : (q : ℕ) → 0 < times q (offsets_of h.nodes) + times q h.free → IsOffset (used_in_chain h) q
  pub each : (r : ℕ) → r < used_in_chain h → times (20 + 4 * r) (offsets_of h.nodes) + times (20 + 4 * r) h.free ≡ 1
  pub apart : Apart h.nodes

pub offsets-known : (h : Chain) → AreOffsets (used_in_chain h) (offsets_of h.nodes ++ h.free) → EachOnce (used_in_chain h) (offsets_of h.nodes ++ h.free) → Offsets h
offsets-known h offsets once =
    let both : (q : ℕ) → times q (offsets_of h.nodes ++ h.free) ≡ times q (offsets_of h.nodes) + times q h.free = λ q. times-append q (offsets_of h.nodes) h.free in
    let most : (q : ℕ) → times q (offsets_of h.nodes) + times q h.free ≤ 1 = λ q. let a = at_most_once (used_in_chain h) (offsets_of h.nodes ++ h.free) q offsets once in let b = both q in omega arith in
    let is : (q : ℕ) → 0 < times q (offsets_of h.nodes) + times q h.free → IsOffset (used_in_chain h) q = λ q lt. offset-member (used_in_chain h) (offsets_of h.nodes ++ h.free) q offsets (let b = both q in omega arith) in
    record {
      once = most;
      offset = is;
      each = λ r lt. let o = once-at (used_in_chain h) (offsets_of h.nodes ++ h.free) r once lt in let b = both (20 + 4 * r) in omega arith;
      apart = record { once = λ q. let m = most q in omega arith; above = λ q lt. let p = is q (omega arith) in let e = p.is in omega arith };
    }

-- frames
pub freed-same : (ws vs : List ℕ) (ps : List ℕ) → Freed ws ps → ((q : ℕ) → 0 < times q ps → get_or vs q 0 ≡ get_or ws q 0) → Freed vs ps
freed-same ws vs [] h same = tt
freed-same ws vs (p ∷ ps) h same = (same p (let o = one-same p in omega arith) ∙ h.0, freed-same ws vs ps h.1 (λ q lt. same q (omega arith)))

pub directory-same : (ws vs : List ℕ) (n i : ℕ) (slots : List ℕ) → Directory ws n i slots → ((j : ℕ) → i ≤ j → j < i + n → get_or vs j 0 ≡ get_or ws j 0) → Directory vs n i slots
directory-same ws vs zero i slots h same = h
directory-same ws vs (suc n) i [] h same = (same i (omega arith) (omega arith) ∙ h.0, directory-same ws vs n (i + 1) [] h.1 (λ j a b. same j (omega arith) (omega arith)))
directory-same ws vs (suc n) i (s ∷ slots) h same = (same i (omega arith) (omega arith) ∙ h.0, directory-same ws vs n (i + 1) slots h.1 (λ j a b. same j (omega arith) (omega arith)))

-- the words of a record stay
pub record SameRecord (ws vs : List ℕ) (q : ℕ) : Type 0 where
  pub first : get_or vs (q + 1) 0 ≡ get_or ws (q + 1) 0
  pub second : get_or vs (q + 2) 0 ≡ get_or ws (q + 2) 0
  pub value : get_or vs (q + 3) 0 ≡ get_or ws (q + 3) 0

-- so its key stays
key-same : (ws vs : List ℕ) (q : ℕ) → SameRecord ws vs q → key_at vs q ≡ key_at ws q
key-same ws vs q same = ap (λ n. key_in n (get_or vs (q + 2) 0)) same.first ∙ ap (λ n. key_in (get_or ws (q + 1) 0) n) same.second

is_key-same : (ws vs : List ℕ) (q : ℕ) → SameRecord ws vs q → is_key_at vs q ≡ is_key_at ws q
is_key-same ws vs q same = ap (λ n. is_key_words n (get_or vs (q + 2) 0)) same.first ∙ ap (λ n. is_key_words (get_or ws (q + 1) 0) n) same.second

pub records-same : (ws vs : List ℕ) (xs : List Node) → ((q : ℕ) → 0 < times q (offsets_of xs) → SameRecord ws vs q) → records_in vs xs ≡ records_in ws xs
records-same ws vs [] same = refl
records-same ws vs (x ∷ xs) same =
    let here = same x.offset (let o = one-same x.offset in omega arith) in
    ap (λ (k : MapKey). (k, get_or vs (x.offset + 3) 0) ∷ records_in vs xs) (key-same ws vs x.offset here) ∙ (ap (λ n. (key_at ws x.offset, n) ∷ records_in vs xs) here.value
    ∙ ap (λ (rs : Pairs). (key_at ws x.offset, get_or ws (x.offset + 3) 0) ∷ rs) (records-same ws vs xs (λ q lt. same q (omega arith))))

pub keys-same : (ws vs : List ℕ) (xs : List Node) → ((q : ℕ) → 0 < times q (offsets_of xs) → SameRecord ws vs q) → are_keys vs xs ≡ are_keys ws xs
keys-same ws vs [] same = refl
keys-same ws vs (x ∷ xs) same =
    let here = same x.offset (let o = one-same x.offset in omega arith) in
    ap (λ (b : Bool). b && are_keys vs xs) (is_key-same ws vs x.offset here) ∙ ap (λ (b : Bool). is_key_at ws x.offset && b) (keys-same ws vs xs (λ q lt. same q (omega arith)))

-- the page of these parts
abbrev pub page_of_parts : ℕ → ℕ → ℕ → ℕ → Pairs → Page
page_of_parts level prev next clock records = record { level = level; prev = prev; next = next; clock = clock; records = records }

pub page-parts : (ws : List ℕ) (rs : Pairs) (level prev next clock : ℕ) → get_or ws 1 0 ≡ level → get_or ws 3 0 ≡ prev → get_or ws 4 0 ≡ next → get_or ws 5 0 ≡ clock → page_with ws rs ≡ page_of_parts level prev next clock rs
page-parts ws rs level prev next clock l p n k =
    ap (λ i. page_of_parts i (get_or ws 3 0) (get_or ws 4 0) (get_or ws 5 0) rs) l
    ∙ (ap (λ i. page_of_parts level i (get_or ws 4 0) (get_or ws 5 0) rs) p
    ∙ (ap (λ i. page_of_parts level prev i (get_or ws 5 0) rs) n
    ∙ ap (λ i. page_of_parts level prev next i rs) k))

pub same-page : (ws vs : List ℕ) (rs : Pairs) → get_or vs 1 0 ≡ get_or ws 1 0 → get_or vs 3 0 ≡ get_or ws 3 0 → get_or vs 4 0 ≡ get_or ws 4 0 → get_or vs 5 0 ≡ get_or ws 5 0 → page_with vs rs ≡ page_with ws rs
same-page ws vs rs l p n k = page-parts vs rs _ _ _ _ l p n k

pub records-offsets : (ws : List ℕ) (xs ys : List Node) → offsets_of xs ≡ offsets_of ys → records_in ws xs ≡ records_in ws ys
records-offsets ws [] [] e = refl
records-offsets ws [] (y ∷ ys) e = cc
records-offsets ws (x ∷ xs) [] e = cc
records-offsets ws (x ∷ xs) (y ∷ ys) e =
    let first : x.offset ≡ y.offset = cc in
    let rest : offsets_of xs ≡ offsets_of ys = cc in
    ap (λ n. (key_at ws n, get_or ws (n + 3) 0) ∷ records_in ws xs) first ∙ ap (λ (rs : Pairs). (key_at ws y.offset, get_or ws (y.offset + 3) 0) ∷ rs) (records-offsets ws xs ys rest)

pub keys-offsets : (ws : List ℕ) (xs ys : List Node) → offsets_of xs ≡ offsets_of ys → are_keys ws xs ≡ are_keys ws ys
keys-offsets ws [] [] e = refl
keys-offsets ws [] (y ∷ ys) e = cc
keys-offsets ws (x ∷ xs) [] e = cc
keys-offsets ws (x ∷ xs) (y ∷ ys) e =
    let first : x.offset ≡ y.offset = cc in
    let rest : offsets_of xs ≡ offsets_of ys = cc in
    ap (λ n. is_key_at ws n && are_keys ws xs) first ∙ ap (λ (b : Bool). is_key_at ws y.offset && b) (keys-offsets ws xs ys rest)

pub records-put : (ws vs : List ℕ) (k p : ℕ) (xs : List Node) → k ≤ length xs → ((q : ℕ) → 0 < times q (offsets_of xs) → SameRecord ws vs q)
    → records_in vs (put_node k p xs) ≡ insert (records_in ws xs) k (key_at vs p, get_or vs (p + 3) 0)
records-put ws vs zero p xs le same = ap (λ (rs : Pairs). (key_at vs p, get_or vs (p + 3) 0) ∷ rs) (records-offsets vs (own_one_more xs) xs (offsets-own_one_more xs) ∙ records-same ws vs xs same)
records-put ws vs (suc k) p [] le same = absurd (omega arith)
records-put ws vs (suc k) p (x ∷ xs) le same =
    let here = same x.offset (let o = one-same x.offset in omega arith) in
    ap (λ (key : MapKey). (key, get_or vs (x.offset + 3) 0) ∷ records_in vs (put_node k p xs)) (key-same ws vs x.offset here) ∙ (ap (λ n. (key_at ws x.offset, n) ∷ records_in vs (put_node k p xs)) here.value
    ∙ ap (λ (rs : Pairs). (key_at ws x.offset, get_or ws (x.offset + 3) 0) ∷ rs) (records-put ws vs k p xs (omega arith) (λ q lt. same q (omega arith))))

pub keys-put : (ws vs : List ℕ) (k p : ℕ) (xs : List Node) → k ≤ length xs → ((q : ℕ) → 0 < times q (offsets_of xs) → SameRecord ws vs q) → is_key_at vs p ≡ true → are_keys ws xs ≡ true
    → are_keys vs (put_node k p xs) ≡ true
keys-put ws vs zero p xs le same new old = and_from _ _ new (keys-offsets vs (own_one_more xs) xs (offsets-own_one_more xs) ∙ (keys-same ws vs xs same ∙ old))
keys-put ws vs (suc k) p [] le same new old = absurd (omega arith)
keys-put ws vs (suc k) p (x ∷ xs) le same new old =
    let here = same x.offset (let o = one-same x.offset in omega arith) in
    let parts = and_parts (is_key_at ws x.offset) (are_keys ws xs) old in
    and_from _ _ (is_key-same ws vs x.offset here ∙ parts.0) (keys-put ws vs k p xs (omega arith) (λ q lt. same q (omega arith)) new parts.1)

-- an offset for a record: the first free one, or where there is none the one at the top
abbrev pub Gives : Chain → ℕ → List ℕ → Type 0
Gives h p free = (h.free ≡ p ∷ free) ⊎ ((h.free ≡ []) × ((p ≡ 20 + 4 * used_in_chain h) × (free ≡ [])))

-- what was written for a put
pub record Written (ws vs : List ℕ) (h : Chain) (k p : ℕ) (key : MapKey) (value : ℕ) (free : List ℕ) : Type 0 where
  pub size : length vs ≡ PAGE_WORDS
  pub offset_word : get_or vs p 0 ≡ first_of (drop k h.nodes)
  pub key_word : key_at vs p ≡ key
  pub is_key : is_key_at vs p ≡ true
  pub value_word : get_or vs (p + 3) 0 ≡ value
  pub link : get_or vs (last_from 18 (take k h.nodes)) 0 + first_of (drop k h.nodes) ≡ get_or ws (last_from 18 (take k h.nodes)) 0 + p
  pub raised : get_or vs (owner_from (drop k h.nodes)) 0 ≡ get_or ws (owner_from (drop k h.nodes)) 0 + 256
  pub count : get_or vs 2 0 ≡ get_or ws 2 0 + 1
  pub front : get_or vs 6 0 ≡ first_free free
  pub top : get_or vs 7 0 ≡ get_or ws 7 0 + 4 * (length h.nodes + 1 + length free - used_in_chain h)
  pub other : (i : ℕ) → i ≢ 2 → i ≢ 6 → i ≢ 7 → IsOutside p i → i ≢ last_from 18 (take k h.nodes) → i ≢ owner_from (drop k h.nodes) → get_or vs i 0 ≡ get_or ws i 0

abbrev pub put_heap : ℕ → ℕ → List ℕ → Chain → Chain
put_heap k p free h = record { nodes = put_node k p h.nodes; last = put_last k h.nodes h.last; free = free }
