-- What was loaded of a page stays as long as the page's latch is held.
use Rattle.std.proofs.Common.{◌≡◌, ℕ, zero, suc, ◌+◌, ◌<◌, Bool, true, false, cond, not, List, [], ◌∷◌, ◌++◌, length, get_or, refl, sym, subst, arith}
use Rattle.std.specs.Prelude.{◌==◌, ◌||◌, nat_lt, slice_index}
use Rattle.std.specs.List.{All, AllByRecursion, Contains, filter}
use Rattle.std.proofs.lemmas.List.Elements.{All-cons, All-head, All-nil, All-tail, Contains-append_left, Contains-append_right}
use mathlib.Core.Logic.{dite}
use native.Mathlib.Decide.{ℕ_discrete}
use Rattle.ib_map.specs.declared.TheConstants.{PAGE_WORDS}
use Rattle.ib_map.specs.Writes.{word_place}
use Rattle.ib_map.proofs.WriteLaws.{page_at-word}
use Rattle.ib_core.specs.declared.session.Session.{Session}
use Rattle.ib_core.specs.Sessions.{holdings}
use Rattle.ib_page.specs.Work.{WorkPage, with_changed, with_page}
use Rattle.ib_rule.specs.declared.memory.Loaded.{Loaded}
use Rattle.ib_rule.specs.Memory.{latch_at}
use Rattle.ib_frames.specs.Reads.{IsLoadedImage, loads_below}
use Rattle.ib_mtr.proofs.Lists.{All-filter_by}

-- an element that passes a test is among those that pass
passes_too : {A : Type 0} (f : A → Bool) (xs : List A) (k : ℕ) (x : A) → k < length xs → get_or xs k x ≡ x → f x ≡ true → Contains (filter f xs) x
passes_too f [] k x within is passes = absurd (omega arith)
passes_too f (y ∷ ys) zero x within is passes =
    subst (λ z. Contains (cond (f z) (z ∷ filter f ys) (filter f ys)) x) (sym is) (subst (λ b. Contains (cond b (x ∷ filter f ys) (filter f ys)) x) (sym passes) (0, omega arith, refl))
passes_too f (y ∷ ys) (suc k) x within is passes = by_test (f y) (passes_too f ys k x (omega arith) is passes)
  where
    by_test : (b : Bool) → Contains (filter f ys) x → Contains (cond b (y ∷ filter f ys) (filter f ys)) x
    by_test true has = Contains-append_right (y ∷ []) (filter f ys) x has
    by_test false has = has

-- each element is as all are
pub of_each : {A : Type 0} (P : A → Type 0) (xs : List A) (k : ℕ) (x : A) → AllByRecursion P xs → k < length xs → get_or xs k x ≡ x → P x
of_each P [] k x all within is = absurd (omega arith)
of_each P (y ∷ ys) zero x all within is = subst P is all.0
of_each P (y ∷ ys) (suc k) x all within is = of_each P ys k x all.1 (omega arith) is

-- a list of which each element would be absurd has none
pub none_of : {A : Type 0} (P : A → Type 0) (xs : List A) → ((x : A) → P x → ⊥) → AllByRecursion P xs → xs ≡ []
none_of P [] never all = refl
none_of P (x ∷ xs) never all = absurd (never x all.0)

-- where the latch is still held, or is another one, an image is what was loaded
pub image_left : (l : ℕ) (a : Session) (loaded : List Loaded) (page : ℕ) (image : List ℕ) → (not (page + 2 == l) || nat_lt 0 (holdings l a)) ≡ true → IsLoadedImage loaded page image
    → IsLoadedImage (filter (λ x. not (latch_at x.place == l) || nat_lt 0 (holdings l a)) loaded) page image
image_left l a loaded page image passes all index within =
    let has = all index within in
    passes_too _ loaded has.0 _ has.1 has.2 (subst (λ (n : ℕ). (not (n + 2 == l) || nat_lt 0 (holdings l a)) ≡ true) (sym (page_at-word page index within)) passes)

-- the pages that stay when a grant was given back
pub pages_read : (l : ℕ) (a : Session) (loaded : List Loaded) (pages : List WorkPage) → All (λ w. IsLoadedImage loaded w.page w.before) pages
    → All (λ w. IsLoadedImage (filter (λ x. not (latch_at x.place == l) || nat_lt 0 (holdings l a)) loaded) w.page w.before) (filter (λ w. not (w.page + 2 == l) || nat_lt 0 (holdings l a)) pages)
pages_read l a loaded pages all =
    All-filter_by (λ w. IsLoadedImage loaded w.page w.before) _ (λ w. not (w.page + 2 == l) || nat_lt 0 (holdings l a)) pages (λ w passes read. image_left l a loaded w.page w.before passes read) all

-- the words of a page that was loaded are among those that are loaded
word_loaded : (page : ℕ) (image : List ℕ) (n index : ℕ) → index < n → Contains (loads_below page image n) (record { place = word_place page index; value = slice_index image index; is_fresh = true })
unfolding loads_below
word_loaded page image zero index within = absurd (omega arith)
word_loaded page image (suc n) index within = dite (ℕ_discrete index n)
    (λ here. subst (λ (i : ℕ). Contains (loads_below page image (suc n)) (record { place = word_place page i; value = slice_index image i; is_fresh = true })) (sym here) (0, omega arith, refl))
    (λ before. Contains-append_right (record { place = word_place page n; value = slice_index image n; is_fresh = true } ∷ []) (loads_below page image n) _ (word_loaded page image n index (omega arith)))

pub image_loaded : (page : ℕ) (image : List ℕ) (rest : List Loaded) → IsLoadedImage (loads_below page image PAGE_WORDS ++ rest) page image
image_loaded page image rest index within = Contains-append_left (loads_below page image PAGE_WORDS) rest _ (word_loaded page image PAGE_WORDS index within)

pub image_behind : (more rest : List Loaded) (page : ℕ) (image : List ℕ) → IsLoadedImage rest page image → IsLoadedImage (more ++ rest) page image
image_behind more rest page image all index within = Contains-append_right more rest _ (all index within)

-- what holds of all pages holds with one more of which it holds ..
pub All-with_page : (P : WorkPage → Type 0) (q : WorkPage) (ps : List WorkPage) → P q → All P ps → All P (with_page q ps)
All-with_page P q [] new all = All-cons P q [] new (All-nil P)
All-with_page P q (p ∷ ps) new all = by_test (nat_lt p.page q.page) (All-with_page P q ps new (All-tail P p ps all))
  where
    by_test : (b : Bool) → All P (with_page q ps) → All P (cond b (p ∷ with_page q ps) (q ∷ p ∷ ps))
    by_test true rest = All-cons P p (with_page q ps) (All-head P p ps all) rest
    by_test false rest = All-cons P q (p ∷ ps) new all

-- .. and with another changed image, where it is said of pages and of images as read
pub All-with_changed : (P : ℕ → List ℕ → Type 0) (page : ℕ) (image : List ℕ) (ps : List WorkPage) → All (λ w. P w.page w.before) ps → All (λ w. P w.page w.before) (with_changed page image ps)
All-with_changed P page image [] all = All-nil (λ w. P w.page w.before)
All-with_changed P page image (p ∷ ps) all = by_test (p.page == page) (All-with_changed P page image ps (All-tail (λ (w : WorkPage). P w.page w.before) p ps all))
  where
    by_test : (b : Bool) → All (λ w. P w.page w.before) (with_changed page image ps) → All (λ w. P w.page w.before) (cond b (record p { changed = image } ∷ ps) (p ∷ with_changed page image ps))
    by_test true rest = All-cons (λ w. P w.page w.before) (record p { changed = image }) ps (All-head (λ (w : WorkPage). P w.page w.before) p ps all) (All-tail (λ (w : WorkPage). P w.page w.before) p ps all)
    by_test false rest = All-cons (λ w. P w.page w.before) p (with_changed page image ps) (All-head (λ (w : WorkPage). P w.page w.before) p ps all) rest
