-- The test of a patch is its visits, and what is asked of each written page where it is met.
use Rattle.std.proofs.Common.{◌≡◌, ℕ, ◌<◌, ◌≤◌, Bool, true, false, cond, List, length, get_or, Some, None, refl, sym, ap, subst, ◌∙◌, arith, ltb, inl, inr}
use Rattle.std.proofs.lemmas.Bool.{cases_lt, cases_Bool, cond-true, cond-false, lt-ltb, le-ltb}
use Rattle.ib_map.specs.Keys.{MapKey, end_rank}
use Rattle.ib_map.specs.Pairs.{Pairs}
use Rattle.ib_map.specs.declared.TheConstants.{PAGE_WORDS}
use Rattle.ib_heap.specs.declared.TheConstants.{MOST_LEVEL}
use Rattle.ib_page.specs.Page.{Page, IsPage, PageValue}
use Rattle.ib_page.specs.Page.PageValue.{Malformed as MalformedValue, Free as FreeValue, Tree as TreeValue}
use Rattle.ib_page.specs.Form.{page_of}
use Rattle.ib_page.specs.Memory.{image_at, word_at}
use Rattle.ib_page.specs.Space.{is_taken, IsSpacePage}
use Rattle.ib_heap.proofs.FormLaws.{tree_fits}
use Rattle.ib_walk.specs.Words.{state_of, image_of, pages_of, bits_of, memory_of}
use Rattle.ib_validate.specs.PatchTest.{Positions, visited, all_back}
use Rattle.ib_validate.specs.PageTests.{PassesAt, bit_of}
use Rattle.ib_validate.specs.Positions.{is_good_at, marks_of, positions_of}
use Rattle.ib_validate.specs.TreeMemory.{TreeMemory, IsTreeMemory, PassesAtAll, IsTreePatch, image_bits}
use Rattle.ib_walk.proofs.ImageLaws.{image_of-images}
use Rattle.ib_validate.proofs.MemoryLaws.{image_of-same, memory_of-same}
use Rattle.ib_validate.proofs.PositionLaws.{marks_of-within, positions_of-past}
use Rattle.ib_validate.proofs.ListedLaws.{listed-each, listed-mine}

-- the bit of a page that is there, and of one that is not
pub image_bits-there : (images : List (List ℕ)) (page : ℕ) → page < length images → length (image_at images 0) ≡ PAGE_WORDS → image_bits images page ≡ bit_of (is_taken (image_at images 0) page)
unfolding bits_of
image_bits-there images page lt whole =
    cond-true (ltb page (length images)) _ 0 (lt-ltb page (length images) lt) ∙ ap (λ (ws : List ℕ). bit_of (is_taken ws page)) (image_of-images images 0 whole)

pub image_bits-past : (images : List (List ℕ)) (page : ℕ) → length images ≤ page → image_bits images page ≡ 0
unfolding bits_of
image_bits-past images page le = cond-false (ltb page (length images)) _ 0 (le-ltb page (length images) le)

image_bits-same : (before after : List (List ℕ)) (page : ℕ) → length after ≡ length before → image_at after 0 ≡ image_at before 0 → image_bits after page ≡ image_bits before page
unfolding bits_of
image_bits-same before after page size same =
    ap (λ n. bits_of n (word_at after) page) size ∙ ap (λ (ws : List ℕ). cond (ltb page (length before)) (cond (is_taken ws page) 1 0) 0) (image_of-same after before 0 same)

pub bit-once : (b : Bool) → bit_of b ≤ 1
bit-once true = omega arith
bit-once false = omega arith

bit-apart : (a b : Bool) → bit_of a ≡ bit_of b → a ≡ b
bit-apart true true e = refl
bit-apart true false e = absurd (omega arith)
bit-apart false true e = absurd (omega arith)
bit-apart false false e = refl

level-of : (v : PageValue) → ((p : Page) → v ≡ TreeValue p → IsPage p) → (state_of v).level ≤ MOST_LEVEL
level-of (TreeValue p) fits = (fits p refl).level
level-of (FreeValue clock) fits = omega arith
level-of MalformedValue fits = omega arith

-- whatever the words are, the level of their page is one that a tree has
pub low-level : (images : List (List ℕ)) (page : ℕ) → (memory_of images page).level ≤ MOST_LEVEL
unfolding pages_of
low-level images page = level-of (page_of (image_of (word_at images) page)) (λ p e. tree_fits (image_of (word_at images) page) p e)

-- what the law of a patch asks of its memory: a page that is not written is the same, and one that is written is there
pub unwritten-same : (t : TreeMemory) → IsTreeMemory t → (page : ℕ) → marks_of t.written page ≡ false → memory_of t.after page ≡ memory_of t.before page
unwritten-same t kept page w = memory_of-same t.after t.before page (kept.same page w)

pub written-few : (t : TreeMemory) → IsTreeMemory t → (page : ℕ) → marks_of t.written page ≡ true → page < length t.before
written-few t kept page w = let lt = marks_of-within t.written page w in let size = kept.written in omega arith

-- a page that is not there is not met
pub met-few : (t : TreeMemory) → IsTreeMemory t → (page : ℕ) → length t.before ≤ page → positions_of t.met_before page ≡ None
met-few t kept page le = positions_of-past t.met_before page (let size = kept.met_before in omega arith)

module _ (t : TreeMemory) (kept : IsTreeMemory t) (whole_before : length (image_at t.before 0) ≡ PAGE_WORDS) (whole_after : length (image_at t.after 0) ≡ PAGE_WORDS)
    (table : Positions) (key : MapKey) (target : Pairs) where
  there : (p : ℕ) → marks_of t.written p ≡ true → image_bits t.after p ≡ bit_of (is_taken (image_at t.after 0) p)
  there p w = image_bits-there t.after p (let lt = written-few t kept p w in let size = kept.after in omega arith) whole_after

  module _ (h : PassesAtAll t.before t.after table t.written t.pages key target) where
    at : (p : ℕ) → marks_of t.written p ≡ true → PassesAt (memory_of t.after) end_rank table (bit_of (is_taken (image_at t.after 0) p)) p
    at p w = listed-each (marks_of t.written) t.pages (length t.before) p (λ q. PassesAt (memory_of t.after) end_rank table (bit_of (is_taken (image_at t.after 0) q)) q) kept.listed (written-few t kept p w) w h.each

    others : (p : ℕ) → marks_of t.written p ≡ false → image_bits t.after p ≡ image_bits t.before p
    others p w = elim (cases_lt p (length t.before)) [
      | inr past ↦ image_bits-past t.after p (let size = kept.after in omega arith) ∙ sym (image_bits-past t.before p past)
      | inl lt ↦ elim (cases_Bool (marks_of t.written 0)) [
        | inr fails ↦ image_bits-same t.before t.after p kept.after (kept.same 0 fails)
        | inl holds ↦
            let same = (h.space holds).1 p (let size = kept.written in omega arith) w in
            image_bits-there t.after p (let size = kept.after in omega arith) whole_after ∙ (ap bit_of same ∙ sym (image_bits-there t.before p lt whole_before))
      ]
    ]

    pub passes-sound : visited (marks_of t.written) (memory_of t.before) (memory_of t.after) (is_good_at (memory_of t.after)) end_rank 1 t.pages (positions_of t.met_before) ≡ Some table
        → all_back (marks_of t.written) (memory_of t.before) (positions_of t.met_before) t.pages table ≡ true → IsTreePatch t table key target
    passes-sound went back = record {
      passes = record {
        levels = λ r some le. let one : r ≡ 1 = omega arith in let low = low-level t.after r in omega arith;
        visited_as = went;
        back = back;
        linked = λ p w. (at p w).linked;
        sound = λ p ne w. (at p w).sound ne;
        taken = λ p w. there p w ∙ (at p w).taken;
        once = λ p w. let e = there p w in let o = (at p w).once in omega arith;
        few = λ p le w. absurd (let lt = written-few t kept p w in let few = kept.few in omega arith);
        freed = λ p w e. (at p w).freed (sym (there p w) ∙ e);
        others = others;
      };
      sliced = h.sliced;
      space = λ w. subst (IsSpacePage (length t.after)) (sym (image_of-images t.after 0 whole_after)) (h.space w).0;
    }

  pub passes-complete : IsTreePatch t table key target → PassesAtAll t.before t.after table t.written t.pages key target
  passes-complete h = record {
    each = λ k d lt. let w = listed-mine (marks_of t.written) t.pages kept.listed.mine k d lt in let p : ℕ = get_or t.pages k d in record {
      linked = h.passes.linked p w;
      sound = λ ne. h.passes.sound p ne w;
      taken = sym (there p w) ∙ h.passes.taken p w;
      once = bit-once (is_taken (image_at t.after 0) p);
      freed = λ e. h.passes.freed p w (there p w ∙ e);
    };
    space = λ w. (
      subst (IsSpacePage (length t.after)) (image_of-images t.after 0 whole_after) (h.space w),
      λ p lt off. bit-apart _ _ (
          sym (image_bits-there t.after p (let a = kept.written in let b = kept.after in omega arith) whole_after)
          ∙ (h.passes.others p off ∙ image_bits-there t.before p (let a = kept.written in omega arith) whole_before)),
    );
    sliced = h.sliced;
  }
