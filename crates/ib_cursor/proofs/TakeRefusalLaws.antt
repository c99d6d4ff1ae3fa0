-- A page that was refused while the path of a key was read, or its pages taken.
use Rattle.std.specs.List.{AllByRecursion}
use Rattle.std.proofs.Common.{◌≡◌, ℕ, zero, suc, ◌+◌, ◌<◌, ◌≤◌, ◌==◌, ◌||◌, Bool, true, false, List, [], ◌∷◌, ◌++◌, length, get_or, refl, sym, ap, subst, ◌∙◌, arith, append-nil, length-append}
use Rattle.ib_map.specs.Keys.{MapKey, rank, end_rank}
use Rattle.ib_map.specs.Writes.{touches, word_place}
use Rattle.ib_map.proofs.WriteLaws.{page_at-word}
use Rattle.ib_levels.specs.declared.level.Mode.{Mode}
use Rattle.ib_levels.specs.declared.level.Mode.TheVariants.{S, Sx, X}
use Rattle.ib_layout.specs.Geometry.{Sizes}
use Rattle.ib_logrec.specs.declared.entry.Entry.{Entry}
use Rattle.ib_logrec.specs.Log.{memory_after}
use Rattle.ib_walk.specs.Pages.{PageMemory}
use Rattle.ib_walk.proofs.ImageLaws.{pages_of-same}
use Rattle.ib_tree.specs.Logs.{pages_after}
use Rattle.ib_tree.specs.PageLists.{is_listed}
use Rattle.ib_rule.specs.declared.looks.Grants.{Grants}
use Rattle.ib_rule.specs.Pass.{PassState}
use Rattle.ib_rule.specs.Views.{is_watched}
use Rattle.ib_rule.proofs.Watching.{word_stays}
use Rattle.ib_cursor.specs.declared.fault.NowaitFault.{NowaitFault}
use Rattle.ib_cursor.specs.Claims.{beside, claim_grant}
use Rattle.ib_cursor.specs.Contention.{refused_latch}
use Rattle.ib_cursor.specs.Going.{HasLatched, HasSeen, IsKnown, WentOn}
use Rattle.ib_cursor.specs.Refusals.{AreFewGrants, AreFewLooks, IsHeldByInsert, IsInsertRefusal, IsPageRefused, IsPathRefusal, IsRefusal, IsRefusedBehind, IsVainOnPath, IsVainTry, TakesFor, TakesPages, TakesPath}
use Rattle.ib_cursor.specs.Shapes.{HasReadPath, KeepsClaim, ShapeLaws, is_claimed}
use Rattle.ib_cursor.specs.Takings.{AreSteady, CanTakePage, HasTakenMore, HasTakenPage, MayTakeLeaves, TakesFirst, WillTake}
use Rattle.ib_cursor.proofs.ClaimLaws.{keeps_both}
use Rattle.ib_cursor.proofs.EndLaws.{keeps_links}
use Rattle.ib_cursor.proofs.LatchingLaws.{went_both, went_none}
use Rattle.ib_cursor.proofs.LevelLaws.{among-child, among-left, among_right}
use Rattle.ib_cursor.proofs.ReadLaws.{keeps_path}
use Rattle.ib_cursor.proofs.RefusalLaws.{few_both, few_none, refusal_after, refusal_by}
use Rattle.ib_cursor.proofs.TakeLaws.{IsRightLink, among_last, beside_few, can_first, more_one, right_link, will_rest}

-- a refusal of one of fewer latches
pub refusal_wider : (sizes : Sizes) (lawful : List Entry → Type 0) (few more : List Entry → Mode → ℕ → Type 0) (most : Grants) (f : NowaitFault) (p q : PassState) → ((log : List Entry) (mode : Mode) (l : ℕ) → few log mode l → more log mode l)
    → IsRefusal sizes lawful few most f p q → IsRefusal sizes lawful more most f p q
refusal_wider sizes lawful few more most f p q so v = record { went = v.went; looked = v.looked; known = v.known; mode = v.mode; taken = so q.view.memory.seen v.mode (refused_latch f) v.taken; refused = v.refused; few = v.few; grants = v.grants }

-- pages of a list
pub listed_at : (xs : List ℕ) (at : ℕ) → at < length xs → is_listed xs (get_or xs at 0) ≡ true
listed_at [] at within = absurd (omega arith)
listed_at (x ∷ xs) zero within = among-left (x ∷ []) xs x (among_last [] x)
listed_at (x ∷ xs) (suc at) within = among_right (x ∷ []) xs (get_or xs at 0) (listed_at xs at (omega arith))

-- .. and of a longer one
among_wider : (xs ys zs : List ℕ) (n : ℕ) → (is_listed ys n ≡ true → is_listed zs n ≡ true) → is_listed (xs ++ ys) n ≡ true → is_listed (xs ++ zs) n ≡ true
among_wider [] ys zs n so is = so is
among_wider (x ∷ xs) ys zs n so is = by_first (x == n) is (among_wider xs ys zs n so)
  where
    by_first : (t : Bool) → (t || is_listed (xs ++ ys) n) ≡ true → (is_listed (xs ++ ys) n ≡ true → is_listed (xs ++ zs) n ≡ true) → (t || is_listed (xs ++ zs) n) ≡ true
    by_first true is more = refl
    by_first false is more = more is

pub refused_among : (path items : List ℕ) (at n : ℕ) → items ≡ path → at + 1 < length items → is_listed (get_or items at 0 ∷ []) n ≡ true → is_listed path n ≡ true
refused_among path items at n same within is =
    subst (λ ps. is_listed ps n ≡ true) (append-nil items ∙ same) (among-child items [] (get_or items at 0) n (listed_at items at (omega arith)) is)

-- one page that was tried in vain behind the claimed index
pub page_refused : (sizes : Sizes) (lawful : List Entry → Type 0) (page : ℕ) (f : NowaitFault) (p q : PassState) → is_claimed p.view.memory.since ≡ true → IsVainTry sizes lawful X (page + 2) f p q → IsPageRefused sizes lawful (page ∷ []) f p q
page_refused sizes lawful page f p q claimed v = record {
  refusal = refusal_by sizes lawful (TakesPages (page ∷ [])) (record { s = 0; sx = 0; x = length (page ∷ []) }) f X (page + 2) p q v (refl, record { page = page; listed = among_last [] page; at = refl });
  keeps = v.looked_on.keeps claimed;
}

-- a look leaves the pages whose latches were watched
seen_steady : (sizes : Sizes) (lawful : List Entry → Type 0) (opening : ℕ → ℕ) (p q : PassState) → HasSeen sizes lawful p q → (held : List ℕ) → AllByRecursion (λ n. is_watched (n + 2) p.view.memory.since ≡ true) held → AreSteady opening held p q
seen_steady sizes lawful opening p q seen [] watched = tt
seen_steady sizes lawful opening p q seen (n ∷ ns) watched =
    let calm = seen.steady n watched.0 in (
      subst (λ l. pages_after opening l n ≡ pages_after opening p.view.memory.seen n) (sym seen.went.seen)
          (pages_of-same (memory_after opening p.view.memory.seen) (memory_after opening (p.view.memory.seen ++ seen.went.more)) n (λ index lt. word_stays opening p.view.memory.seen seen.went.more (word_place n index)
          (subst (λ (k : ℕ). AllByRecursion (λ (e : Entry). touches k e.writes ≡ false) seen.went.more) (sym (page_at-word n index lt)) calm))),
      seen_steady sizes lawful opening p q seen ns watched.1,
    )

-- one page that was tried in vain behind those that are held
pub page_behind : (sizes : Sizes) (lawful : List Entry → Type 0) (opening : ℕ → ℕ) (held : List ℕ) (page : ℕ) (f : NowaitFault) (p q : PassState) → CanTakePage sizes lawful opening held page p → IsVainTry sizes lawful X (page + 2) f p q
    → IsRefusedBehind sizes lawful opening held (page ∷ []) f p q
page_behind sizes lawful opening held page f p q can v = record {
  refused = page_refused sizes lawful page f p q can.holds.claimed v;
  steady = seen_steady sizes lawful opening p q v.looked_on.seen held can.holds.watched;
}

-- a page of a longer list
pub refused_wider : (sizes : Sizes) (lawful : List Entry → Type 0) (two all : List ℕ) (f : NowaitFault) (p q : PassState) → ((n : ℕ) → is_listed two n ≡ true → is_listed all n ≡ true) → length two ≤ length all
    → IsPageRefused sizes lawful two f p q → IsPageRefused sizes lawful all f p q
refused_wider sizes lawful two all f p q among long v =
    let r = refusal_wider sizes lawful (TakesPages two) (TakesPages all) (record { s = 0; sx = 0; x = length two }) f p q (λ log mode l t. (t.0, record { page = t.1.page; listed = among t.1.page t.1.listed; at = t.1.at })) v.refusal in
    let a = r.grants.s in let b = r.grants.sx in let d = r.grants.x in
    record {
      refusal = record { went = r.went; looked = r.looked; known = r.known; mode = r.mode; taken = r.taken; refused = r.refused; few = r.few; grants = record { s = omega arith; sx = omega arith; x = omega arith } };
      keeps = v.keeps;
    }

-- .. behind pages that were taken
pub refused_behind : (sizes : Sizes) (lawful : List Entry → Type 0) (opening : ℕ → ℕ) (held one two all : List ℕ) (f : NowaitFault) (p q r : PassState) → HasTakenMore sizes lawful opening held one p q → AreFewLooks 0 p.view q.view
    → ((n : ℕ) → is_listed two n ≡ true → is_listed all n ≡ true) → length one + length two ≤ length all → IsPageRefused sizes lawful two f q r → IsPageRefused sizes lawful all f p r
refused_behind sizes lawful opening held one two all f p q r taken few among long v =
    let w = refusal_wider sizes lawful (TakesPages two) (TakesPages all) (record { s = 0; sx = 0; x = length two }) f q r (λ log mode l t. (t.0, record { page = t.1.page; listed = among t.1.page t.1.listed; at = t.1.at })) v.refusal in
    let a = w.grants.s in let b = w.grants.sx in let d = w.grants.x in let e = taken.s in let h = taken.sx in let i = taken.x in
    record {
      refusal = refusal_after sizes lawful (TakesPages all) (record { s = 0; sx = 0; x = length all }) f (record { s = 0; sx = 0; x = length two }) p q r taken.went few w (record { s = omega arith; sx = omega arith; x = omega arith });
      keeps = keeps_both p q r taken.keeps v.keeps;
    }

-- the leaf level, from left to right: the first page of it is taken, and the leaf may be
module _ (sizes : Sizes) (lawful : List Entry → Type 0) (opening : ℕ → ℕ) (leaf left : ℕ) (p q : PassState) (r : MayTakeLeaves sizes lawful opening leaf left p) (first : TakesFirst sizes lawful opening (beside left) p q) where
  pub leaf_first : HasTakenMore sizes lawful opening r.held (beside left) p q
  leaf_first = first r.held (leaf ∷ beside r.right) r.will

  leaf_will : WillTake sizes lawful opening (r.held ++ beside left) (leaf ∷ beside r.right) q
  leaf_will = will_rest sizes lawful opening r.held (beside left) (leaf ∷ beside r.right) p q r.will leaf_first

  pub leaf_can : CanTakePage sizes lawful opening (r.held ++ beside left) leaf q × (leaf < sizes.pages)
  leaf_can = can_first sizes lawful opening (r.held ++ beside left) leaf (beside r.right) q leaf_will

  -- .. and it was, and the leaf behind it may be, which the leaf names
  module _ (t : PassState) (page : (held : List ℕ) → CanTakePage sizes lawful opening held leaf q → HasTakenPage sizes lawful opening held leaf q t) where
    here : HasTakenPage sizes lawful opening (r.held ++ beside left) leaf q t
    here = page (r.held ++ beside left) leaf_can.0

    pub leaf_second : HasTakenMore sizes lawful opening (r.held ++ beside left) (leaf ∷ []) q t
    leaf_second = more_one sizes lawful opening (r.held ++ beside left) leaf q t here

    pub leaf_last : WillTake sizes lawful opening ((r.held ++ beside left) ++ leaf ∷ []) (beside r.right) t
    leaf_last = will_rest sizes lawful opening (r.held ++ beside left) (leaf ∷ []) (beside r.right) q t leaf_will leaf_second

    pub leaf_link : IsRightLink opening t leaf r.right
    leaf_link =
        let names = r.names t here.holds.known (keeps_both p q t leaf_first.keeps here.keeps) in
        right_link sizes lawful opening ((r.held ++ beside left) ++ leaf ∷ []) leaf r.right t here.holds (among_last (r.held ++ beside left) leaf) names.0 names.1

-- a page of the path was refused, while the path was read
pub path_refusal : (sizes : Sizes) (lawful : List Entry → Type 0) (opening : ℕ → ℕ) (root : ℕ) (key : MapKey) (page level : ℕ) (f : NowaitFault) (p q r : PassState) → WentOn p q → AreFewLooks 0 p.view q.view
    → AreFewGrants (record { s = 8; sx = 0; x = 0 }) p.view q.view → IsVainOnPath sizes lawful opening root key S page level f q r → IsPathRefusal sizes lawful opening root key f p r
path_refusal sizes lawful opening root key page level f p q r went few grants v =
    let none = refusal_by sizes lawful (TakesPath opening root key) (record { s = 0; sx = 0; x = 0 }) f S (page + 2) q r v.vain (refl, (page, level, refl, v.on_path)) in
    let a = none.grants.s in let b = none.grants.sx in let d = none.grants.x in let e = grants.s in let h = grants.sx in let i = grants.x in
    refusal_after sizes lawful (TakesPath opening root key) (record { s = 8; sx = 0; x = 0 }) f (record { s = 0; sx = 0; x = 0 }) p q r went few none (record { s = omega arith; sx = omega arith; x = omega arith })

-- a search that ends with such pages held, so many of them at most, step by step
module _ (sizes : Sizes) (lawful : List Entry → Type 0) (opening : ℕ → ℕ) (root : ℕ) (key : MapKey) (holds : PageMemory → List ℕ → Type 0) (most : ℕ) (f : NowaitFault) where
  abbrev takes : List Entry → Mode → ℕ → Type 0
  takes = TakesFor holds opening root key

  abbrev grants : Grants
  grants = record { s = 8; sx = 1; x = most }

  -- the index was refused
  pub claim_refused : (p q : PassState) → IsVainTry sizes lawful Sx 1 f p q → IsRefusal sizes lawful takes grants f p q
  claim_refused p q v = refusal_by sizes lawful takes grants f Sx 1 p q v refl

  from_path : (log : List Entry) (mode : Mode) (l : ℕ) → TakesPath opening root key log mode l → takes log mode l
  from_path log mode l t = subst (λ (m : Mode). takes log m l) (sym t.0) t.1

  module _ (p q : PassState) (latched : HasLatched sizes lawful claim_grant p q) (few : AreFewLooks 0 p.view q.view) where
    -- .. a page of the path, while the path was read
    pub path_refused : (r : PassState) → IsPathRefusal sizes lawful opening root key f q r → IsRefusal sizes lawful takes grants f p r
    path_refused r v =
        let w = refusal_wider sizes lawful (TakesPath opening root key) takes (record { s = 8; sx = 0; x = 0 }) f q r from_path v in
        let s1 = ap (λ (g : Grants). g.s) latched.grants in let sx1 = ap (λ (g : Grants). g.sx) latched.grants in let x1 = ap (λ (g : Grants). g.x) latched.grants in
        let a = w.grants.s in let b = w.grants.sx in let d = w.grants.x in
        refusal_after sizes lawful takes grants f (record { s = 8; sx = 0; x = 0 }) p q r latched.seen.went few w (record { s = omega arith; sx = omega arith; x = omega arith })

    -- .. one of the pages that are held in the end, behind so many that were taken
    pub held_refused : (path : List ℕ) (leaf left : ℕ) (r : PassState) → HasReadPath sizes lawful opening root key path leaf left q r → AreFewLooks 0 q.view r.view
        → (pages held : List ℕ) (s t : PassState) → WentOn r s → AreFewLooks 0 r.view s.view → s.view.grants.s ≡ r.view.grants.s → s.view.grants.sx ≡ r.view.grants.sx → s.view.grants.x + length pages ≤ r.view.grants.x + most
        → holds (pages_after opening t.view.memory.seen) held → ((n : ℕ) → is_listed pages n ≡ true → is_listed held n ≡ true) → IsPageRefused sizes lawful pages f s t → IsRefusal sizes lawful takes grants f p t
    held_refused path leaf left r read few_read pages held s t went few_more same_s same_sx most_x are among v =
        let w = v.refusal in
        let x : IsRefusal sizes lawful takes (record { s = 0; sx = 0; x = length pages }) f s t = record {
          went = w.went;
          looked = w.looked;
          known = w.known;
          mode = w.mode;
          taken = subst (λ (m : Mode). takes t.view.memory.seen m (refused_latch f)) (sym w.taken.0) (held, are, record { page = w.taken.1.page; listed = among w.taken.1.page w.taken.1.listed; at = w.taken.1.at });
          refused = w.refused;
          few = w.few;
          grants = w.grants;
        } in
        let s1 = ap (λ (g : Grants). g.s) latched.grants in let sx1 = ap (λ (g : Grants). g.sx) latched.grants in let x1 = ap (λ (g : Grants). g.x) latched.grants in
        let s2 = read.s in let sx2 = read.sx in let x2 = read.x in
        let short = read.short in let long = ap length read.ends in let longer = length-append read.front (leaf ∷ []) in
        let a = w.grants.s in let b = w.grants.sx in let d = w.grants.x in
        refusal_after sizes lawful takes grants f (record { s = 0; sx = 0; x = length pages }) p s t
        (went_both p q s latched.seen.went (went_both q r s read.went went))
        (few_both 0 p.view q.view s.view few (few_both 0 q.view r.view s.view few_read few_more)) x
        (record { s = omega arith; sx = omega arith; x = omega arith })

-- the search for an insert, when the path is read
module _ (sizes : Sizes) (roots : ℕ) (lawful : List Entry → Type 0) (opening : ℕ → ℕ) (shape : ShapeLaws sizes.pages roots lawful opening) (root : ℕ) (some : 0 < root) (le : root ≤ roots) (key : MapKey) (lt : rank key < end_rank) (f : NowaitFault)
    (p q : PassState) (latched : HasLatched sizes lawful claim_grant p q) (few : AreFewLooks 0 p.view q.view) (path : List ℕ) (leaf left : ℕ) (r : PassState) (read : HasReadPath sizes lawful opening root key path leaf left q r) (few_read : AreFewLooks 0 q.view r.view) where
  -- the leaves that it takes, as they were read, and all pages that it holds in the end
  abbrev next : ℕ
  next = (pages_after opening r.view.memory.seen leaf).next

  abbrev leaves : List ℕ
  leaves = beside left ++ leaf ∷ beside next

  held_then : (s : PassState) → IsKnown sizes lawful s → KeepsClaim r s → IsHeldByInsert root key (pages_after opening s.view.memory.seen) (read.front ++ leaves)
  held_then s known keeps =
      let l = keeps_links sizes roots lawful opening shape root some le key lt r s known keeps leaf read.lowest in
      record {
        front = read.front;
        leaf = leaf;
        ends = keeps_path sizes roots lawful opening shape root some le key lt r s known keeps ∙ (sym read.on_path ∙ read.ends);
        are = ap (λ (x : ℕ × ℕ). read.front ++ (beside x.0 ++ leaf ∷ beside x.1)) (λ j. ((read.left_of ∙ sym l.prev) j, sym l.next j));
      }

  -- a node of the path was refused
  pub insert_node : (t : PassState) → IsPageRefused sizes lawful path f r t → IsInsertRefusal sizes lawful opening root key f p t
  insert_node t v =
      let short = read.short in let long = ap length read.ends in let longer = length-append read.front (leaf ∷ []) in
      held_refused sizes lawful opening root key (IsHeldByInsert root key) 10 f p q latched few path leaf left r read few_read path (read.front ++ leaves) r t (went_none r) (few_none r) refl refl (omega arith)
      (held_then t v.refusal.known v.keeps)
      (λ n is. among_wider read.front (leaf ∷ []) leaves n (λ here. among_right (beside left) (leaf ∷ beside next) n (among-left (leaf ∷ []) (beside next) n here)) (subst (λ ps. is_listed ps n ≡ true) read.ends is)) v

  -- .. a leaf, behind the nodes
  pub insert_leaf : (s t : PassState) → HasTakenMore sizes lawful opening [] read.front r s → AreFewLooks 0 r.view s.view → IsPageRefused sizes lawful leaves f s t → IsInsertRefusal sizes lawful opening root key f p t
  insert_leaf s t taken few_taken v =
      let short = read.short in let x = taken.x in let a = beside_few left in let b = beside_few next in let d = length-append (beside left) (leaf ∷ beside next) in
      held_refused sizes lawful opening root key (IsHeldByInsert root key) 10 f p q latched few path leaf left r read few_read leaves (read.front ++ leaves) s t taken.went few_taken taken.s taken.sx (omega arith)
      (held_then t v.refusal.known (keeps_both r s t taken.keeps v.keeps)) (λ n is. among_right read.front leaves n is) v
