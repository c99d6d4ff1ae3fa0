-- A change whose pages are lawful, and that leaves what it does not touch as it was, leads to lawful trees with the clocks ticked.
use Rattle.std.proofs.Common.{◌≡◌, ◌≢◌, ℕ, ◌<◌, ◌≤◌, ◌∙◌, Bool, false, ap, eqb}
use Rattle.std.proofs.lemmas.Bool.{ne_eqb}
use Rattle.ib_map.specs.Pairs.{Pairs}
use Rattle.ib_heap.specs.declared.TheConstants.{MOST_RECORDS}
use Rattle.ib_walk.specs.Pages.{PageMemory}
use Rattle.ib_walk.specs.Trees.{IsLawful, content_of, weight_of}
use Rattle.ib_walk.specs.Walk.{Visit, counts_visit}
use Rattle.ib_walk.proofs.ChoiceLaws.{cond-both}
use Rattle.ib_plans.specs.Leads.{LeadsTo}
use Rattle.ib_plans.specs.Marks.{ticked}
use Rattle.ib_plans.proofs.ClockLaws.{IsLawful-clocks, content_of-clocks, ticked-alike, ticked-links, ticked-untouched, weight_of-clocks}
use Rattle.ib_plans.proofs.PageLaws.{IsAway}

-- the weight of one visit is nothing on the touched pages, where its page is none of them
pub IsAway-visit : (touched : ℕ → Bool) (h : ℕ) (v : Visit) → touched v.page ≡ false → IsAway touched (counts_visit h v)
IsAway-visit touched h v off k u on =
    let ne : u.page ≢ v.page = λ e. (let x = ap touched e in cc) in
    let no : eqb u.page v.page ≡ false = ne_eqb u.page v.page ne in
    rw no (cond-both (eqb k h) 0)

-- so the planned pages, with their clocks ticked, are what the change leads to
pub LeadsTo-ticked : (m planned : PageMemory) (bits : ℕ → ℕ) (roots root : ℕ) (touched : ℕ → Bool) (content : Pairs) → 0 < root → root ≤ roots → IsLawful planned bits roots
    → content_of planned root ≡ content
    → ((r : ℕ) → 0 < r → r ≤ roots → r ≢ root → content_of planned r ≡ content_of m r)
    → ((f : ℕ → Visit → ℕ) → IsAway touched f → (r : ℕ) → 0 < r → r ≤ roots → weight_of f planned r ≡ weight_of f m r)
    → ((n : ℕ) → touched n ≡ false → planned n ≡ m n)
    → LeadsTo m (ticked m touched planned) bits roots root touched content
LeadsTo-ticked m planned bits roots root touched content some le law holds others ranges rest =
    let alike = ticked-alike m touched planned in
    let links = ticked-links m touched planned in
    record {
      lawful = IsLawful-clocks (λ n. MOST_RECORDS) planned (ticked m touched planned) bits roots law alike links;
      content_is = content_of-clocks (λ n. MOST_RECORDS) planned (ticked m touched planned) bits roots law alike links root some le ∙ holds;
      others = λ r a b ne. content_of-clocks (λ n. MOST_RECORDS) planned (ticked m touched planned) bits roots law alike links r a b ∙ others r a b ne;
      same = λ n off. ticked-untouched m touched planned n off ∙ rest n off;
      ranges = λ r h v a b off. weight_of-clocks (λ n. MOST_RECORDS) planned (ticked m touched planned) bits roots law alike links (counts_visit h v) r a b
          ∙ ranges (counts_visit h v) (IsAway-visit touched h v off) r a b;
    }
