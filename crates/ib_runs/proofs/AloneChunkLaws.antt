-- The chunks of a scan that all stand at one place are determined by the leaves there.
use Rattle.std.proofs.Common.{◌≡◌, ◌⊎◌, ◌∙◌, ℕ, ◌<◌, ◌≤◌, List, [], ◌∷◌, ◌++◌, length, refl, sym, ap, subst, arith, inl, inr, length-append}
use Rattle.std.specs.List.{AllByRecursion}
use Rattle.ib_map.specs.Keys.{MapKey, rank, key_after}
use Rattle.ib_map.specs.Pairs.{Pairs, cut}
use Rattle.ib_map.specs.History.{History}
use Rattle.ib_map.specs.Replies.{Span, AreChunks, FitsScan}
use Rattle.ib_map.specs.Runs.{first_span_place}
use Rattle.ib_walk.specs.Pages.{PageMemory}
use Rattle.ib_walk.specs.Walk.{Visit}
use Rattle.ib_walk.specs.Trees.{content_of}
use Rattle.ib_walk.specs.Chunk.{IsLastKey, AreBelow, EndsAt, IsChunk}
use Rattle.ib_walk.proofs.ChoiceLaws.{Some-same}
use Rattle.ib_tree.proofs.FitLaws.{last-same}
use Rattle.ib_walk.proofs.WalkLaws.{AllByRecursion-right}

-- of records that are below a key, the last is
last-below : (start last : MapKey) (records : Pairs) → AreBelow start records → IsLastKey records last → rank last < rank start
last-below start last records below is =
    (AllByRecursion-right (λ (x : MapKey × ℕ). rank x.0 < rank start) is.0 ((last, is.1) ∷ []) (subst (AreBelow start) is.2 below)).0

-- a chunk ends at one key
ends-one : (records : Pairs) (back : List Visit) (high a b : MapKey) → EndsAt records back high a → EndsAt records back high b → a ≡ b
ends-one records [] high a b one two = one ∙ sym two
ends-one records (next ∷ back) high a b one two =
    let last : one.0 ≡ two.0 = last-same records one.0 two.0 one.1 two.1 in
    let ranks : rank one.0 ≡ rank two.0 = ap rank last in
    elim one.2 [
      | inl up ↦ elim two.2 [
        | inl too ↦ up.1 ∙ sym too.1
        | inr below ↦ absurd (let le = up.0 in let lt = below.0 in omega arith)
      ]
      | inr below ↦ elim two.2 [
        | inl up ↦ absurd (let le = up.0 in let lt = below.0 in omega arith)
        | inr too ↦ below.1 ∙ (last ∙ sym too.1)
      ]
    ]

module _ (memory : PageMemory) (root : ℕ) (start : MapKey) where
  abbrev records : Visit → Pairs
  records v = (memory v.page).records

  -- no leaf is passed that a chunk stops at
  not-passed : (leaf : Visit) (rest front : List Visit) (other : Visit) (back : List Visit) → rest ≡ front ++ other ∷ back
      → (rest ≡ []) ⊎ ((last : MapKey) × IsLastKey (records leaf) last × (rank start ≤ rank last)) → AreBelow start (records leaf) → ⊥
  not-passed leaf rest front other back is (inl none) below =
      let long = ap length (sym none ∙ is) in let parts = length-append front (other ∷ back) in omega arith
  not-passed leaf rest front other back is (inr some) below = let lt = last-below start some.0 (records leaf) below some.1 in let le = some.2 in omega arith

  -- there is one leaf at which a chunk stops
  leaf-one : (front front' : List Visit) (leaf leaf' : Visit) (back back' : List Visit) → front ++ leaf ∷ back ≡ front' ++ leaf' ∷ back'
      → AllByRecursion (λ v. AreBelow start (records v)) front → AllByRecursion (λ v. AreBelow start (records v)) front'
      → (back ≡ []) ⊎ ((last : MapKey) × IsLastKey (records leaf) last × (rank start ≤ rank last))
      → (back' ≡ []) ⊎ ((last : MapKey) × IsLastKey (records leaf') last × (rank start ≤ rank last)) → (leaf ≡ leaf') × (back ≡ back')
  leaf-one [] [] leaf leaf' back back' is passed passed' stops stops' = (cc, cc)
  leaf-one [] (v ∷ front') leaf leaf' back back' is passed passed' stops stops' =
      let same : v ≡ leaf = cc in
      let rest : back ≡ front' ++ leaf' ∷ back' = cc in
      absurd (not-passed leaf back front' leaf' back' rest stops (subst (λ u. AreBelow start (records u)) same passed'.0))
  leaf-one (u ∷ front) [] leaf leaf' back back' is passed passed' stops stops' =
      let same : u ≡ leaf' = cc in
      let rest : back' ≡ front ++ leaf ∷ back = cc in
      absurd (not-passed leaf' back' front leaf back rest stops' (subst (λ v. AreBelow start (records v)) same passed.0))
  leaf-one (u ∷ front) (v ∷ front') leaf leaf' back back' is passed passed' stops stops' =
      let rest : front ++ leaf ∷ back ≡ front' ++ leaf' ∷ back' = cc in
      leaf-one front front' leaf leaf' back back' rest passed.1 passed'.1 stops stops'

  -- so a chunk from a key on has one end, and what the tree has up to there
  pub chunk-one : (high a b : MapKey) (xs ys : Pairs) → IsChunk memory root start high a xs → IsChunk memory root start high b ys → (a ≡ b) × (xs ≡ ys)
  chunk-one high a b xs ys c d =
      let leaf = leaf-one c.front d.front c.leaf d.leaf c.back d.back (sym c.at.leaves ∙ d.at.leaves) c.at.passed d.at.passed c.at.stops d.at.stops in
      let ends : EndsAt (records c.leaf) c.back high b =
      subst (λ v. EndsAt (records v) c.back high b) (sym leaf.0) (subst (λ vs. EndsAt (records d.leaf) vs high b) (sym leaf.1) d.ends) in
      let end : a ≡ b = ends-one (records c.leaf) c.back high a b c.ends ends in
      (end, c.holds ∙ (ap (λ e. cut (content_of memory root) start e) end ∙ sym d.holds))

-- places of chunks never fall, from the floor on to the last
floor-le : (h : History) (low high : MapKey) (floor : ℕ) (spans : List Span) (end : ℕ) → AreChunks h low high floor spans end → floor ≤ end
floor-le h low high floor [] end are = absurd are
floor-le h low high floor (x ∷ []) end are = let placed = are.0.placed in let at = are.2 in omega arith
floor-le h low high floor (x ∷ y ∷ spans) end are = let placed = are.0.placed in let rest = floor-le h y.low high x.place (y ∷ spans) end are.3 in omega arith

-- chunks whose first and last place are one all stand there
first-placed : (h : History) (low high : MapKey) (floor : ℕ) (x : Span) (spans : List Span) (end : ℕ) → AreChunks h low high floor (x ∷ spans) end → end ≤ x.place → x.place ≡ end
first-placed h low high floor x [] end are le = sym are.2
first-placed h low high floor x (y ∷ spans) end are le = let rest = floor-le h y.low high x.place (y ∷ spans) end are.3 in omega arith

span-is : MapKey → MapKey → ℕ → Pairs → Span
span-is low high place pairs = record { low = low; high = high; place = place; pairs = pairs }

span-same : (x y : Span) → x.low ≡ y.low → x.high ≡ y.high → x.place ≡ y.place → x.pairs ≡ y.pairs → x ≡ y
unfolding span-is
span-same x y low high place pairs =
    ap (λ l. span-is l x.high x.place x.pairs) low ∙ ap (λ u. span-is y.low u x.place x.pairs) high ∙ ap (λ n. span-is y.low y.high n x.pairs) place ∙ ap (span-is y.low y.high y.place) pairs

-- a chunk as the leaves have it at its place
abbrev pub FitsLeavesOf : (ℕ → PageMemory) → MapKey → Span → Type 0
FitsLeavesOf memories high span = IsChunk (memories span.place) 1 span.low high span.high span.pairs

module _ (h k : History) (memories others : ℕ → PageMemory) (high : MapKey) (place : ℕ) (same : memories place ≡ others place) where
  span-one : (x y : Span) → x.low ≡ y.low → x.place ≡ place → y.place ≡ place → FitsLeavesOf memories high x → FitsLeavesOf others high y → x ≡ y
  span-one x y low at too c d =
      let here : IsChunk (others place) 1 y.low high x.high x.pairs =
      subst (λ l. IsChunk (others place) 1 l high x.high x.pairs) low (subst (λ m. IsChunk m 1 x.low high x.high x.pairs) (ap memories at ∙ same) c) in
      let there : IsChunk (others place) 1 y.low high y.high y.pairs = subst (λ n. IsChunk (others n) 1 y.low high y.high y.pairs) too d in
      let one = chunk-one (others place) 1 y.low high x.high y.high x.pairs y.pairs here there in
      span-same x y low one.0 (at ∙ sym too) one.1

  chunks-one : (low : MapKey) (floor floor' : ℕ) (x y : Span) (xs ys : List Span) → AreChunks h low high floor (x ∷ xs) place → AreChunks k low high floor' (y ∷ ys) place
      → AllByRecursion (FitsLeavesOf memories high) (x ∷ xs) → AllByRecursion (FitsLeavesOf others high) (y ∷ ys) → place ≤ x.place → place ≤ y.place → x ∷ xs ≡ y ∷ ys
  chunks-one low floor floor' x y [] [] are also c d le too =
      ap (λ z. z ∷ []) (span-one x y (are.0.begins ∙ sym also.0.begins) (sym are.2) (sym also.2) c.0 d.0)
  chunks-one low floor floor' x y [] (y' ∷ ys) are also c d le too =
      let there : y.place ≡ place = first-placed k low high floor' y (y' ∷ ys) place also too in
      let one : x ≡ y = span-one x y (are.0.begins ∙ sym also.0.begins) (sym are.2) there c.0 d.0 in
      let ends : rank y.high ≡ rank high = ap rank (ap (λ (z : Span). z.high) (sym one) ∙ are.1) in
      let lt = also.1 in
      absurd (omega arith)
  chunks-one low floor floor' x y (x' ∷ xs) [] are also c d le too =
      let here : x.place ≡ place = first-placed h low high floor x (x' ∷ xs) place are le in
      let one : x ≡ y = span-one x y (are.0.begins ∙ sym also.0.begins) here (sym also.2) c.0 d.0 in
      let ends : rank x.high ≡ rank high = ap rank (ap (λ (z : Span). z.high) one ∙ also.1) in
      let lt = are.1 in
      absurd (omega arith)
  chunks-one low floor floor' x y (x' ∷ xs) (y' ∷ ys) are also c d le too =
      let here : x.place ≡ place = first-placed h low high floor x (x' ∷ xs) place are le in
      let there : y.place ≡ place = first-placed k low high floor' y (y' ∷ ys) place also too in
      let one : x ≡ y = span-one x y (are.0.begins ∙ sym also.0.begins) here there c.0 d.0 in
      let next : y'.low ≡ x'.low = Some-same y'.low x'.low (sym also.2 ∙ (ap (λ (z : Span). key_after z.high) (sym one) ∙ are.2)) in
      let rest = chunks-one x'.low x.place y.place x' y' xs ys are.3 (subst (λ l. AreChunks k l high y.place (y' ∷ ys) place) next also.3) c.1 d.1
      (let up = next-placed h x'.low x.place x' xs are.3 in omega arith) (let up = next-placed k y'.low y.place y' ys also.3 in omega arith) in
      ap (λ z. z ∷ x' ∷ xs) one ∙ ap (λ zs. y ∷ zs) rest
    where
      next-placed : (g : History) (l : MapKey) (floor : ℕ) (z : Span) (zs : List Span) → AreChunks g l high floor (z ∷ zs) place → floor ≤ z.place
      next-placed g l floor z [] are = are.0.placed
      next-placed g l floor z (w ∷ zs) are = are.0.placed

  -- a scan that stands at one place has one list of chunks
  pub scan-one : (reach : ℕ) (low : MapKey) (xs ys : List Span) → FitsScan h reach low high xs place → FitsScan k reach low high ys place
      → AllByRecursion (FitsLeavesOf memories high) xs → AllByRecursion (FitsLeavesOf others high) ys → place ≤ first_span_place xs place → place ≤ first_span_place ys place → xs ≡ ys
  scan-one reach low [] [] f g c d le too = refl
  scan-one reach low [] (y ∷ ys) f g c d le too = let lt = f.0 in let up = g.0 in absurd (omega arith)
  scan-one reach low (x ∷ xs) [] f g c d le too = let up = f.0 in let lt = g.0 in absurd (omega arith)
  scan-one reach low (x ∷ xs) (y ∷ ys) f g c d le too = chunks-one low 0 0 x y xs ys f.1 g.1 c d le too
