-- How far a planned insert has come at a page of the path: all that is left is a record, which belongs into this page.
use Rattle.std.proofs.Common.{◌≡◌, ◌≢◌, ◌∙◌, ℕ, ◌+◌, ◌<◌, ◌≤◌, Bool, true, false, cond, List, [], ◌∷◌, length, take, drop, None, refl, sym, ap, subst, arith, inl, inr}
use Rattle.std.specs.Prelude.{nat_lt, IsSome}
use Rattle.std.specs.List.{AllByRecursion}
use Rattle.std.proofs.lemmas.Bool.{cases_eq, cases_lt, ne_eqb, lt-ltb, le-ltb}
use Rattle.ib_map.specs.Keys.{MapKey, rank, end_rank}
use Rattle.ib_map.specs.Pairs.{Pairs, Rises, put, value_at}
use Rattle.ib_map.proofs.PairLaws.{length-put, value_at-below}
use Rattle.ib_heap.specs.declared.TheConstants.{MOST_RECORDS}
use Rattle.ib_page.specs.Work.{WorkPage, changed_of}
use Rattle.ib_walk.specs.Pages.{Tree, PageState, PageMemory}
use Rattle.ib_walk.specs.Search.{page_below}
use Rattle.ib_walk.specs.Trees.{height_of, content_of, IsLawful}
use Rattle.ib_walk.specs.Full.{need_of}
use Rattle.ib_walk.proofs.ChoiceLaws.{cond-eq, cond-ne}
use Rattle.ib_walk.proofs.SearchLaws.{above}
use Rattle.ib_plans.specs.Marks.{mark, untouched, with_clock, ticked}
use Rattle.ib_plans.specs.Moves.{Move, Puts, unmoved, with_move, HasMoved}
use Rattle.ib_plans.specs.Split.{with_records}
use Rattle.ib_plans.specs.Insert.{Growth, AreFresh, insert_below, put_at}
use Rattle.ib_plans.specs.Agreement.{IsThere, memory_in, reads_of, with_bits}
use Rattle.ib_plans.proofs.ClockLaws.{ticked-untouched}
use Rattle.ib_plans.proofs.InsertLaws.{IsInsertedBelow}
use Rattle.ib_plans.proofs.MoveLaws.{still}
use Rattle.ib_plans.proofs.NeedLaws.{IsInsertedBelow-need}
use Rattle.ib_plans.proofs.PathLaws.{PathPage, PathPage-below}

-- The record (k, v) belongs into this page, at this height, and all below it is done. `memory` are the pages of the plan without that record, `touched` those that it has touched, page 0 apart, and `moves` how their records moved. Of the fresh pages as many are used as there are levels below. The work set has these pages, with their clocks ticked and their records moved
pub record IsPending (key : MapKey) (value : ℕ) (fresh : List ℕ) (old : List WorkPage) (m : PageMemory) (bits : ℕ → ℕ) (height page : ℕ) (k : MapKey) (v : ℕ) (work : List WorkPage) : Type 0 where
  pub memory : PageMemory
  pub touched : ℕ → Bool
  pub memory_is : (n : ℕ) → (insert_below m bits fresh key value height page).memory n ≡ put_at memory page k v n
  pub moves : ℕ → Move
  pub touched_is : (n : ℕ) → n ≢ 0 → (insert_below m bits fresh key value height page).touched n ≡ mark page touched n
  pub zero_is : (insert_below m bits fresh key value height page).touched 0 ≡ nat_lt 0 height
  pub fresh_is : (insert_below m bits fresh key value height page).fresh ≡ drop height fresh
  pub bits_is : (n : ℕ) → (insert_below m bits fresh key value height page).bits n ≡ with_bits (take height fresh) 1 bits n
  pub moves_is : (n : ℕ) → (insert_below m bits fresh key value height page).moves n ≡ with_move page (Puts k) moves n
  pub few : height ≤ length fresh
  pub here : memory page ≡ m page
  pub clean : (n : ℕ) → n ≢ 0 → (m n).kind ≡ Tree → height ≤ (m n).level → touched n ≡ false
  pub unused : AllByRecursion (λ q. touched q ≡ false) (drop height fresh)
  pub reads : reads_of work ≡ reads_of old
  pub space : changed_of 0 work ≡ changed_of 0 old
  pub kept : (n : ℕ) → n ≢ 0 → touched n ≡ false → changed_of n work ≡ changed_of n old
  pub there : (n : ℕ) → n ≢ 0 → touched n ≡ true → IsThere work n
  pub same : (n : ℕ) → n ≢ 0 → IsThere work n → memory_in work n ≡ ticked m touched memory n
  pub moved : (n : ℕ) → n ≢ 0 → HasMoved (moves n) (changed_of n old) (changed_of n work)

-- a key that was put into a list which still rises was not there
pub value_at-put_rises : (key : MapKey) (value low : ℕ) (xs : Pairs) (high : ℕ) → Rises low (put key value xs) high → value_at key xs ≡ None
value_at-put_rises key value low [] high rises = refl
value_at-put_rises key value low (x ∷ xs) high rises = elim (cases_lt (rank x.0) (rank key)) [
  | inl lt ↦
      let below = lt-ltb (rank x.0) (rank key) lt in
      let no = ne_eqb (rank x.0) (rank key) (λ e. omega arith) in
      let rest : Rises (rank x.0 + 1) (put key value xs) high = (let r : Rises low (x ∷ put key value xs) high = rw below at rises in r.1) in
      rw no (value_at-put_rises key value (rank x.0 + 1) xs high rest)
  | inr ge ↦
      let over = le-ltb (rank x.0) (rank key) ge in
      let r : Rises low ((key, value) ∷ x ∷ xs) high = rw over at rises in
      value_at-below key (rank key + 1) (x ∷ xs) high r.1 (omega arith)
]

-- at the leaf nothing is done yet
pub IsPending-leaf : (key : MapKey) (value : ℕ) (fresh : List ℕ) (old : List WorkPage) (m : PageMemory) (bits : ℕ → ℕ) (page : ℕ)
    → page ≢ 0 → ((n : ℕ) → n ≢ 0 → IsThere old n → memory_in old n ≡ m n) → IsPending key value fresh old m bits 0 page key value old
IsPending-leaf key value fresh old m bits page some agrees = record {
  memory = m;
  touched = untouched;
  moves = unmoved;
  memory_is = λ n i. put_at m page key value n;
  touched_is = λ n here i. mark page untouched n;
  zero_is = cond-ne 0 page true false (λ e. some (sym e));
  fresh_is = λ i. fresh;
  bits_is = λ n i. bits n;
  moves_is = λ n i. with_move page (Puts key) unmoved n;
  few = omega arith;
  here = λ i. m page;
  clean = λ n here kind level i. false;
  unused = none fresh;
  reads = λ i. reads_of old;
  space = λ i. changed_of 0 old;
  kept = λ n here off i. changed_of n old;
  there = λ n here on. absurd (cc);
  same = agrees;
  moved = λ n some. still (changed_of n old);
}
  where
    none : (xs : List ℕ) → AllByRecursion (λ q. untouched q ≡ false) xs
    none [] = tt
    none (x ∷ xs) = (refl, none xs)

-- what is known of a memory into which a planned insert goes: lawful trees without the key, and as many fresh pages as it takes
pub record HasRoom (roots root : ℕ) (key : MapKey) (fresh : List ℕ) (m : PageMemory) (bits : ℕ → ℕ) : Type 0 where
  pub law : IsLawful m bits roots
  pub in_range : rank key < end_rank
  pub some : 0 < root
  pub le : root ≤ roots
  pub free : AreFresh bits fresh
  pub missing : value_at key (content_of m root) ≡ None
  pub room : need_of m key root ≤ length fresh

-- a page that is not touched is as it was, and one that is has its clock ticked
pub ticked-same : (m : PageMemory) (a b : ℕ → Bool) (p q : PageMemory) (n : ℕ) → a n ≡ b n → p n ≡ q n → ticked m a p n ≡ ticked m b q n
ticked-same m a b p q n touched planned =
    ap (λ c. cond c (with_clock ((m n).clock + 1) (p n)) (p n)) touched ∙ ap (λ x. cond (b n) (with_clock ((m n).clock + 1) x) x) planned

-- the page that a pending record belongs into
module _ (roots root : ℕ) (key : MapKey) (value : ℕ) (fresh : List ℕ) (old : List WorkPage) (m : PageMemory) (bits : ℕ → ℕ) (x : HasRoom roots root key fresh m bits)
    (height depth page : ℕ) (tall : height_of m root ≡ above depth height) (at : page_below m key depth root ≡ page) (k : MapKey) (v : ℕ) (work : List WorkPage)
    (p : IsPending key value fresh old m bits height page k v work) where
  abbrev pub grown : Growth
  grown = insert_below m bits fresh key value height page

  pub below : IsInsertedBelow m roots key value root height page (insert_below m bits fresh key value height page)
  below = IsInsertedBelow-need m bits roots x.law key value x.in_range root x.some x.le fresh x.free x.missing x.room height depth page tall at

  pub on-path : PathPage m height root page
  on-path = subst (PathPage m height root) at (PathPage-below (λ n. MOST_RECORDS) m bits roots x.law key x.in_range root x.some x.le depth height tall)

  pub clean-here : p.touched page ≡ false
  clean-here = p.clean page on-path.some on-path.kind (let l = on-path.level in omega arith)

  pub kept-here : changed_of page work ≡ changed_of page old
  kept-here = p.kept page on-path.some clean-here

  -- the page with the record that is left
  pub long-here : (insert_below m bits fresh key value height page).memory page ≡ with_records (put k v (m page).records) (m page)
  long-here =
      p.memory_is page ∙ (cond-eq page page (with_records (put k v (p.memory page).records) (p.memory page)) (p.memory page) refl
      ∙ ap (λ (q : PageState). with_records (put k v q.records) q) p.here)

  -- every other page of the plan
  pub memory-other : (n : ℕ) → n ≢ page → (insert_below m bits fresh key value height page).memory n ≡ p.memory n
  memory-other n ne = p.memory_is n ∙ cond-ne n page (with_records (put k v (p.memory page).records) (p.memory page)) (p.memory n) ne

  pub rest : (n : ℕ) → n ≢ 0 → p.touched n ≡ false → p.memory n ≡ m n
  rest n some off = elim (cases_eq n page) [
    | inl e ↦ ap p.memory e ∙ (p.here ∙ ap m (sym e))
    | inr ne ↦ sym (memory-other n ne) ∙ below.rest n (p.touched_is n some ∙ (cond-ne n page true (p.touched n) ne ∙ off))
  ]

  -- a page that is not touched is in the work set as it was
  pub now : (n : ℕ) → n ≢ 0 → p.touched n ≡ false → IsThere old n → memory_in work n ≡ m n
  now n some off there =
      p.same n some (subst IsSome (sym (p.kept n some off)) there) ∙ (ticked-untouched m p.touched p.memory n off ∙ rest n some off)

  -- the record's key is not in the page
  pub absent-here : value_at k (m page).records ≡ None
  absent-here =
      let rises = (below.lawful.sound page on-path.some).ascends in
      value_at-put_rises k v 0 (m page).records end_rank (subst (λ rs. Rises 0 rs end_rank) (ap (λ (q : PageState). q.records) long-here) rises)

  -- how many records it has with that one
  pub length-here : length ((insert_below m bits fresh key value height page).memory page).records ≡ length (m page).records + 1
  length-here = ap (λ (q : PageState). length q.records) long-here ∙ length-put k v (m page).records
