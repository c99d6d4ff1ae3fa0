-- Page 0 and the pages that it says are free, behind the paths of both keys: all is held that both inserts read and write.
use Rattle.std.specs.List.{All, AllByRecursion}
use Rattle.std.specs.Prelude.{IsSome, IsSomeAnd, ◌||◌}
use Rattle.std.proofs.Common.{◌≡◌, ◌≢◌, ℕ, zero, suc, ◌+◌, ◌<◌, ◌≤◌, true, false, List, [], ◌∷◌, ◌++◌, Option, Some, None, length, map, refl, sym, ap, subst, ◌∙◌, arith, ne_eqb, append_assoc, length-append}
use Rattle.std.proofs.lemmas.List.{map-append}
use Rattle.std.proofs.lemmas.List.Elements.{All-nil}
use Rattle.ib_map.specs.Keys.{MapKey}
use Rattle.ib_map.specs.Pairs.{value_at}
use Rattle.ib_map.specs.Space.{has_pages}
use Rattle.ib_second_key.specs.SecondKeys.{second_key_of}
use Rattle.ib_levels.specs.declared.level.Level.{Level}
use Rattle.ib_levels.specs.declared.level.Level.TheVariants.{Log, PageNew, Space}
use Rattle.ib_levels.specs.Level.{may_follow}
use Rattle.ib_layout.specs.Geometry.{Sizes}
use Rattle.ib_heap.specs.declared.TheConstants.{MOST_RECORDS}
use Rattle.ib_page.specs.Image.{IsTreePage}
use Rattle.ib_page.specs.Work.{WorkPage, changed_of}
use Rattle.ib_logrec.specs.declared.entry.Entry.{Entry}
use Rattle.ib_walk.specs.Full.{chosen, free_of, is_too_high, need_of}
use Rattle.ib_walk.specs.Pages.{PageMemory, PageState}
use Rattle.ib_walk.specs.Trees.{IsLawful, weight_of}
use Rattle.ib_walk.specs.Walk.{counts_page}
use Rattle.ib_walk.specs.Words.{bits_of, pages_of}
use Rattle.ib_walk.proofs.WalkLaws.{AllByRecursion-append}
use Rattle.ib_plans.specs.Agreement.{IsThere, bits_in, last_of, memory_in, state_or_free, with_bits}
use Rattle.ib_plans.proofs.ChosenLaws.{chosen-length}
use Rattle.ib_plans.proofs.MetLaws.{clear-some, met-set}
use Rattle.ib_split.specs.Inserts.{HasInsertImages}
use Rattle.ib_tree.specs.PageLists.{AreOnce, is_listed}
use Rattle.ib_rule.specs.declared.looks.Grants.{Grants}
use Rattle.ib_rule.specs.Pass.{PassState}
use Rattle.ib_cursor.specs.Claims.{claim_grant}
use Rattle.ib_cursor.specs.Grants.{Grant}
use Rattle.ib_cursor.proofs.LatchingLaws.{went_both, went_none}
use Rattle.ib_cursor.proofs.OnceLaws.{among_append}
use Rattle.ib_cursor.proofs.RowLaws.{once_left}
use Rattle.ib_pair_law.proofs.PushLaws.{lawful-before}
use Rattle.ib_pair_plans.proofs.TakenLaws.{chosen-both}
use Rattle.ib_pair_change.specs.PairCommits.{words_after}
use Rattle.ib_pair_change.proofs.BehindLaws.{map-all}
use Rattle.ib_index.proofs.FreshLaws.{free-none, free-once}
use Rattle.ib_second.specs.PairComes.{HasComeToPair, HasFoundTooFew, HasTakenFresh, IsChosenPair, LacksPages, NeedsPages}
use Rattle.ib_second.specs.PairReady.{bits_seen, pages_seen}
use Rattle.ib_second.specs.PathImages.{HasPathImages}
use Rattle.ib_index.specs.Grows.{held_grant, pages_held, tree_pages}
use Rattle.ib_second.specs.Stands.{HasTakenAt, HasTakenEach, at_level}
use Rattle.ib_index.proofs.ClaimedLaws.{pages-same}
use Rattle.ib_second.proofs.EachLaws.{follow-more, held-at, length-held}
use Rattle.ib_second.proofs.SpaceLaws.{bits-here, length-tree, some-pages}

-- pages with their bits set, page 0, and pages that are chosen are each another one
chosen-once : (pages need : ℕ) (bits : ℕ → ℕ) → 0 < pages → bits 0 ≢ 0 → (held : List ℕ) → AreOnce held pages → is_listed held 0 ≡ false → AllByRecursion (λ n. bits n ≢ 0) held
    → AreOnce (held ++ 0 ∷ chosen bits pages need) pages
chosen-once pages need bits some space [] once none set =
    let f = free-once bits 0 pages need in
    let end : 0 + pages ≡ pages = omega arith in
    (some, free-none bits 0 (chosen bits pages need) space f.1, subst (AreOnce (chosen bits pages need)) end f.0)
chosen-once pages need bits some space (x ∷ xs) once none set =
    let f = free-once bits 0 pages need in
    let apart = ne-zero x xs none in (
      once.0,
      among_append xs (0 ∷ chosen bits pages need) x once.1 (ap (λ b. b || is_listed (chosen bits pages need) x) (ne_eqb 0 x (λ e. apart.0 (sym e))) ∙ free-none bits x (chosen bits pages need) set.0 f.1),
      chosen-once pages need bits some space xs once.2 apart.1 set.1,
    )
  where
    ne-zero : (x : ℕ) (xs : List ℕ) → is_listed (x ∷ xs) 0 ≡ false → (x ≢ 0) × (is_listed xs 0 ≡ false)
    ne-zero zero xs none = cc
    ne-zero (suc x) xs none = ((λ e. cc), sym (ap (λ b. b || is_listed xs 0) (ne_eqb (suc x) 0 (λ e. cc))) ∙ none)

-- what holds of each page of one list and of another holds of all
each-set : (m : PageMemory) (bits : ℕ → ℕ) → IsLawful m bits 2 → (root : ℕ) → 0 < root → root ≤ 2 → (xs : List ℕ) → AllByRecursion (λ n. 0 < weight_of (counts_page n) m root) xs → AllByRecursion (λ n. bits n ≢ 0) xs
each-set m bits law root some le [] met = tt
each-set m bits law root some le (x ∷ xs) met =
    (met-set (λ n. MOST_RECORDS) m bits 2 law root some le x (let h = met.0 in omega arith), each-set m bits law root some le xs met.1)

-- pages of both trees and page 0, and what may follow them
pub space-held : (held : List ℕ) → pages_held (tree_pages held ++ (0, Space) ∷ []) ≡ held ++ 0 ∷ []
space-held held = map-append (λ (h : ℕ × Level). h.0) (tree_pages held) ((0, Space) ∷ []) ∙ ap (λ ns. ns ++ 0 ∷ []) (pages-same held)

pub follow-space_new : (held : List ℕ) → AllByRecursion (λ (g : Grant). may_follow g.level PageNew ≡ true) (map held_grant (tree_pages held ++ (0, Space) ∷ []))
follow-space_new [] = (refl, tt)
follow-space_new (h ∷ hs) = (refl, follow-space_new hs)

follow-space_log : (held : List ℕ) → AllByRecursion (λ (g : Grant). may_follow g.level Log ≡ true) (map held_grant (tree_pages held ++ (0, Space) ∷ []))
follow-space_log [] = (refl, tt)
follow-space_log (h ∷ hs) = (refl, follow-space_log hs)

follow-tree_log : (held : List ℕ) → AllByRecursion (λ (g : Grant). may_follow g.level Log ≡ true) (map held_grant (tree_pages held))
follow-tree_log [] = tt
follow-tree_log (h ∷ hs) = (refl, follow-tree_log hs)

length-space : (held : List ℕ) → length (tree_pages held ++ (0, Space) ∷ []) ≡ length held + 1
length-space held = let a = length-append (tree_pages held) ((0, Space) ∷ []) in let b = length-tree held in omega arith

some-there : (o : Option (List ℕ)) → IsSomeAnd o IsTreePage → IsSome o
some-there None h = absurd h
some-there (Some x) h = refl

-- the images of a path stay, and fresh pages come to them
images-later : (path held fresh : List ℕ) (old new : List WorkPage) → HasPathImages path held old → ((n : ℕ) → IsThere old n → changed_of n new ≡ changed_of n old) → All (IsThere new) fresh → (0 < length fresh → IsThere new 0)
    → HasInsertImages path fresh new
images-later path held fresh old new images same there space = record {
  path_there = map-all (λ n. IsSomeAnd (changed_of n old) IsTreePage) (λ n. IsSomeAnd (changed_of n new) IsTreePage) path
      (λ n tree. subst (λ (o : Option (List ℕ)). IsSomeAnd o IsTreePage) (sym (same n (some-there (changed_of n old) tree))) tree) images.trees;
  fresh_there = there;
  next_there = λ full ne.
      let e : memory_in new (last_of path) ≡ memory_in old (last_of path) = ap state_or_free (same (last_of path) images.leaf) in
      let next = ap (λ (s : PageState). s.next) e in
      let was = images.next (λ z. ne (next ∙ z)) in
      subst (IsThere new) (sym next) (subst IsSome (sym (same (memory_in old (last_of path)).next was)) was);
  space_there = space;
}

-- page 0 is held behind these pages and has this image, by which these are the fresh pages of both trees
pub record HasPicked (sizes : Sizes) (key : MapKey) (value : ℕ) (path path2 held : List ℕ) (first second : ℕ) (one two : List ℕ) (p s : PassState) : Type 0 where
  pub space : HasTakenAt sizes key path (second_key_of key value) path2 (tree_pages held) 0 Space p s
  pub image : List ℕ
  pub there : changed_of 0 s.work ≡ Some image
  pub chosen : IsChosenPair sizes.pages image first second one two

module _ (sizes : Sizes) (fits : has_pages sizes.pages ≡ true) (key : MapKey) (value : ℕ) (path path2 : List ℕ) (before p : PassState) (come : HasComeToPair sizes key path (second_key_of key value) path2 before p) where
  abbrev key2 : MapKey
  key2 = second_key_of key value

  abbrev pub pages-all : List ℕ
  pages-all = come.held ++ come.other_held

  abbrev pub with-space : List (ℕ × Level)
  with-space = tree_pages pages-all ++ (0, Space) ∷ []

  pub all-few : length pages-all ≤ 12
  all-few = let a = length-append come.held come.other_held in let b = come.images.few in let d = come.other_images.few in omega arith

  pub all-zero : is_listed pages-all 0 ≡ false
  all-zero = among_append come.held come.other_held 0 come.images.zero come.other_images.zero

  law : IsLawful (pages_seen sizes p) (bits_seen sizes p) 2
  law = (lawful-before sizes.pages fits p.view.memory.seen come.stands.known.legal).law

  all-set : AllByRecursion (λ n. bits_seen sizes p n ≢ 0) pages-all
  all-set = AllByRecursion-append (λ n. bits_seen sizes p n ≢ 0) come.held come.other_held (each-set (pages_seen sizes p) (bits_seen sizes p) law 1 (omega arith) (omega arith) come.held come.met)
      (each-set (pages_seen sizes p) (bits_seen sizes p) law 2 (omega arith) (omega arith) come.other_held come.other_met)

  whole-once : (need : ℕ) → AreOnce (pages-all ++ 0 ∷ chosen (bits_seen sizes p) sizes.pages need) sizes.pages
  whole-once need = chosen-once sizes.pages need (bits_seen sizes p) (some-pages sizes.pages fits) (λ z. clear-some _ (pages_seen sizes p) (bits_seen sizes p) 2 law 0 z refl) pages-all come.once all-zero all-set

  -- no fresh page is needed
  pub fresh-none : (first second : ℕ) → first + second ≡ 0 → NeedsPages sizes key value path first second p → HasTakenFresh sizes key value path path2 [] [] p p
  fresh-none first second none needs =
      let one : need_of (pages_seen sizes p) key 1 ≡ 0 = let n = needs.first_is in omega arith in
      let two : need_of (pages_seen sizes p) key2 2 ≡ 0 = let n = needs.second_is in omega arith in
      record {
        held = tree_pages pages-all;
        ready = record {
          stands = come.stands;
          fresh_are = sym (ap (chosen (bits_seen sizes p) sizes.pages) one);
          other_fresh_are = sym (ap (chosen (bits_seen sizes p) sizes.pages) two);
          enough = omega arith;
          low = needs.low;
          other_low = needs.other_low;
          images = images-later path come.held [] p.work p.work come.images (λ n there. refl) (All-nil (IsThere p.work)) (λ some. absurd (omega arith));
          other_images = images-later path2 come.other_held [] p.work p.work come.other_images (λ n there. refl) (All-nil (IsThere p.work)) (λ some. absurd (omega arith));
          missing = needs.missing;
        };
        few = let f = all-few in let l = length-tree pages-all in omega arith;
        follow = (refl, follow-tree_log pages-all);
        went = went_none p;
        claims = refl;
        grants = omega arith;
      }

  -- page 0 was taken
  module _ (s : PassState) (space : HasTakenAt sizes key path key2 path2 (tree_pages pages-all) 0 Space p s) (image : List ℕ) (there : changed_of 0 s.work ≡ Some image) where
    bits-are : bits_in sizes.pages image ≡ bits_seen sizes p
    bits-are = bits-here sizes fits key path key2 path2 with-space s space.stands image there ∙ ap (λ (es : List Entry). bits_of sizes.pages (words_after sizes.pages es)) space.seen

    -- too few are free
    fresh-short : (first second free : ℕ) → NeedsPages sizes key value path first second p → free ≡ free_of (bits_in sizes.pages image) sizes.pages → free_of (bits_in sizes.pages image) sizes.pages < first + second
        → LacksPages sizes key value free (first + second) s
    fresh-short first second free needs is less =
        let here : LacksPages sizes key value free (first + second) p = record {
          low = needs.low;
          other_low = needs.other_low;
          free_is = is ∙ ap (λ (b : ℕ → ℕ). free_of b sizes.pages) bits-are;
          need_is = let a = needs.first_is in let b = needs.second_is in omega arith;
          short = omega arith;
        } in
        record {
          low = subst (λ (es : List Entry). is_too_high 2 (pages_of (words_after sizes.pages es)) key 1 ≡ false) (sym space.seen) here.low;
          other_low = subst (λ (es : List Entry). is_too_high 2 (pages_of (words_after sizes.pages es)) key2 2 ≡ false) (sym space.seen) here.other_low;
          free_is = subst (λ (es : List Entry). free ≡ free_of (bits_of sizes.pages (words_after sizes.pages es)) sizes.pages) (sym space.seen) here.free_is;
          need_is = subst (λ (es : List Entry). first + second ≡ need_of (pages_of (words_after sizes.pages es)) key 1 + need_of (pages_of (words_after sizes.pages es)) key2 2) (sym space.seen) here.need_is;
          short = here.short;
        }

    later-space : (n : ℕ) → IsThere p.work n → changed_of n s.work ≡ changed_of n p.work
    later-space n is = space.same n is

    pub fresh-refused : (first second free : ℕ) → NeedsPages sizes key value path first second p → free ≡ free_of (bits_in sizes.pages image) sizes.pages → free_of (bits_in sizes.pages image) sizes.pages < first + second
        → HasFoundTooFew sizes key value path path2 free (first + second) p s
    fresh-refused first second free needs is less = record {
      held = with-space;
      stands = space.stands;
      trees = map-all (λ n. IsSomeAnd (changed_of n p.work) IsTreePage) (λ n. IsSomeAnd (changed_of n s.work) IsTreePage) path
          (λ n tree. subst (λ (o : Option (List ℕ)). IsSomeAnd o IsTreePage) (sym (later-space n (some-there (changed_of n p.work) tree))) tree) come.images.trees;
      missing = ap (λ (o : Option (List ℕ)). value_at key (state_or_free o).records) (later-space (last_of path) come.images.leaf) ∙ needs.missing;
      lacks = fresh-short first second free needs is less;
      went = space.went;
      claims = ap (λ (v : Grants). v.sx) space.grants;
      grants = let x = ap (λ (v : Grants). v.x) space.grants in let y = ap (λ (v : Grants). v.s) space.grants in let z = ap (λ (v : Grants). v.sx) space.grants in omega arith;
    }

  -- the fresh pages are chosen
  module _ (s : PassState) (first second : ℕ) (one two : List ℕ) (pick : HasPicked sizes key value path path2 pages-all first second one two p s) where
    abbrev space : HasTakenAt sizes key path key2 path2 (tree_pages pages-all) 0 Space p s
    space = pick.space

    abbrev image : List ℕ
    image = pick.image

    bits-same : bits_in sizes.pages image ≡ bits_seen sizes p
    bits-same = bits-are s space image pick.there

    one-is : one ≡ chosen (bits_in sizes.pages image) sizes.pages first
    one-is = pick.chosen.0

    two-is : two ≡ chosen (with_bits one 1 (bits_in sizes.pages image)) sizes.pages second
    two-is = pick.chosen.1

    enough : first + second ≤ free_of (bits_in sizes.pages image) sizes.pages
    enough = pick.chosen.2

    both-are : one ++ two ≡ chosen (bits_seen sizes p) sizes.pages (first + second)
    both-are =
        ap (λ xs. xs ++ two) one-is ∙ (ap (λ xs. chosen (bits_in sizes.pages image) sizes.pages first ++ xs) (two-is ∙ ap (λ xs. chosen (with_bits xs 1 (bits_in sizes.pages image)) sizes.pages second) one-is)
        ∙ (sym (chosen-both (bits_in sizes.pages image) sizes.pages first second) ∙ ap (λ (b : ℕ → ℕ). chosen b sizes.pages (first + second)) bits-same))

    all-once : AreOnce ((pages-all ++ 0 ∷ one) ++ two) sizes.pages
    all-once = subst (λ xs. AreOnce xs sizes.pages) (sym (append_assoc pages-all (0 ∷ one) two)) (subst (λ xs. AreOnce (pages-all ++ 0 ∷ xs) sizes.pages) (sym both-are) (whole-once (first + second)))

    pub first-once : AreOnce (pages_held with-space ++ one) sizes.pages
    first-once = subst (λ xs. AreOnce xs sizes.pages) (sym (ap (λ xs. xs ++ one) (space-held pages-all) ∙ append_assoc pages-all (0 ∷ []) one)) (once_left (pages-all ++ 0 ∷ one) two sizes.pages all-once)

    pub second-once : AreOnce (pages_held (with-space ++ at_level PageNew one) ++ two) sizes.pages
    second-once =
        subst (λ xs. AreOnce (xs ++ two) sizes.pages) (sym (held-at with-space PageNew one ∙ (ap (λ xs. xs ++ one) (space-held pages-all) ∙ append_assoc pages-all (0 ∷ []) one))) all-once

    pub one-long : length one ≡ first
    one-long = ap length one-is ∙ chosen-length (bits_in sizes.pages image) sizes.pages first (let le = enough in omega arith)

    pub first-follow : AllByRecursion (λ (g : Grant). may_follow g.level PageNew ≡ true) (claim_grant ∷ map held_grant with-space)
    first-follow = (refl, follow-space_new pages-all)

    pub second-follow : AllByRecursion (λ (g : Grant). may_follow g.level PageNew ≡ true) (claim_grant ∷ map held_grant (with-space ++ at_level PageNew one))
    second-follow = follow-more PageNew PageNew with-space one first-follow refl

    pub space-few : length with-space ≤ 13
    space-few = let a = length-space pages-all in let b = all-few in omega arith

    pub second-few : first + second ≤ 8 → length (with-space ++ at_level PageNew one) ≤ 21
    second-few few = let a = length-held with-space PageNew one in let b = space-few in let d = one-long in omega arith

    -- they were taken, those of the first tree first
    module _ (few : first + second ≤ 8) (needs : NeedsPages sizes key value path first second p) (t u : PassState) (taken : HasTakenEach sizes key path key2 path2 with-space one PageNew s t)
        (more : HasTakenEach sizes key path key2 path2 (with-space ++ at_level PageNew one) two PageNew t u) where
      seen-is : u.view.memory.seen ≡ p.view.memory.seen
      seen-is = more.seen ∙ (taken.seen ∙ space.seen)

      from-t : (n : ℕ) → IsThere t.work n → IsThere u.work n
      from-t n is = subst IsSome (sym (more.same n is)) is

      from-s : (n : ℕ) → IsThere s.work n → IsThere t.work n
      from-s n is = subst IsSome (sym (taken.same n is)) is

      later : (n : ℕ) → IsThere p.work n → changed_of n u.work ≡ changed_of n p.work
      later n is =
          let at-s = subst IsSome (sym (space.same n is)) is in
          more.same n (from-s n at-s) ∙ (taken.same n at-s ∙ space.same n is)

      zero-there : IsThere u.work 0
      zero-there = from-t 0 (from-s 0 space.there)

      one-there : All (IsThere u.work) one
      one-there = map-all (IsThere t.work) (IsThere u.work) one from-t taken.there

      two-long : length two ≤ second
      two-long = let a = ap length both-are in let b = chosen-length (bits_seen sizes p) sizes.pages (first + second) (let e = ap (λ (b : ℕ → ℕ). free_of b sizes.pages) bits-same in let le = enough in omega arith) in
          let d = length-append one two in let f = one-long in omega arith

      pub fresh-taken : HasTakenFresh sizes key value path path2 one two p u
      fresh-taken = record {
        held = (with-space ++ at_level PageNew one) ++ at_level PageNew two;
        ready = record {
          stands = more.stands;
          fresh_are = subst (λ (es : List Entry). one ≡ chosen (bits_of sizes.pages (words_after sizes.pages es)) sizes.pages (need_of (pages_of (words_after sizes.pages es)) key 1)) (sym seen-is)
              (one-is ∙ (ap (λ (b : ℕ → ℕ). chosen b sizes.pages first) bits-same ∙ ap (chosen (bits_seen sizes p) sizes.pages) needs.first_is));
          other_fresh_are = subst (λ (es : List Entry). two ≡ chosen (with_bits one 1 (bits_of sizes.pages (words_after sizes.pages es))) sizes.pages (need_of (pages_of (words_after sizes.pages es)) key2 2)) (sym seen-is)
              (two-is ∙ (ap (λ (b : ℕ → ℕ). chosen (with_bits one 1 b) sizes.pages second) bits-same ∙ ap (chosen (with_bits one 1 (bits_seen sizes p)) sizes.pages) needs.second_is));
          enough = subst (λ (es : List Entry). need_of (pages_of (words_after sizes.pages es)) key 1 + need_of (pages_of (words_after sizes.pages es)) key2 2 ≤ free_of (bits_of sizes.pages (words_after sizes.pages es)) sizes.pages)
              (sym seen-is) (let a = needs.first_is in let b = needs.second_is in let e = ap (λ (b : ℕ → ℕ). free_of b sizes.pages) bits-same in let le = enough in omega arith);
          low = subst (λ (es : List Entry). is_too_high 2 (pages_of (words_after sizes.pages es)) key 1 ≡ false) (sym seen-is) needs.low;
          other_low = subst (λ (es : List Entry). is_too_high 2 (pages_of (words_after sizes.pages es)) key2 2 ≡ false) (sym seen-is) needs.other_low;
          images = images-later path come.held one p.work u.work come.images later one-there (λ some. zero-there);
          other_images = images-later path2 come.other_held two p.work u.work come.other_images later more.there (λ some. zero-there);
          missing = ap (λ (o : Option (List ℕ)). value_at key (state_or_free o).records) (later (last_of path) come.images.leaf) ∙ needs.missing;
        };
        few = let a = second-few few in let b = length-held (with-space ++ at_level PageNew one) PageNew two in let d = two-long in let f = space-few in let g = length-held with-space PageNew one in let h = one-long in omega arith;
        follow = follow-more PageNew Log (with-space ++ at_level PageNew one) two (follow-more PageNew Log with-space one (refl, follow-space_log pages-all) refl) refl;
        went = went_both p t u (went_both p s t space.went taken.went) more.went;
        claims = more.claims ∙ (taken.claims ∙ ap (λ (v : Grants). v.sx) space.grants);
        grants = let a = taken.grants in let b = more.grants in let x = ap (λ (v : Grants). v.x) space.grants in let y = ap (λ (v : Grants). v.s) space.grants in let z = ap (λ (v : Grants). v.sx) space.grants in
            let l = one-long in let m = two-long in omega arith;
      }
