-- How far a descent has come: at the root, one level lower, and at its end.
use Rattle.std.specs.Prelude.{◌==◌, ◌&&◌, nat_lt, not, IfSome, slice_get}
use Rattle.std.proofs.Common.{◌≡◌, ◌≢◌, inl, inr, ℕ, suc, ◌+◌, ◌-◌, ◌<◌, ◌≤◌, Bool, true, false, List, [], ◌∷◌, ◌++◌, Option, Some, length, refl, sym, ap, subst, ◌∙◌, arith, append_assoc, append-nil, length-append, eq-eqb, ne_eqb}
use Rattle.std.proofs.lemmas.Bool.{cases_eq, cases_lt, le-ltb, lt-ltb}
use Rattle.ib_map.specs.Keys.{MapKey, rank, end_rank}
use Rattle.ib_map.proofs.HistoryLaws.{slice_get-last}
use Rattle.ib_heap.specs.declared.TheConstants.{MOST_LEVEL}
use Rattle.ib_levels.specs.declared.level.Mode.TheVariants.{S, X}
use Rattle.ib_page.specs.Work.{with_read}
use Rattle.ib_layout.specs.Geometry.{Sizes}
use Rattle.ib_core.specs.Sessions.{holdings}
use Rattle.ib_logrec.specs.declared.entry.Entry.{Entry}
use Rattle.ib_logrec.specs.Log.{memory_after}
use Rattle.ib_rule.specs.declared.looks.Grants.{Grants}
use Rattle.ib_rule.specs.Pass.{PassState}
use Rattle.ib_rule.specs.Views.{with_grant}
use Rattle.ib_walk.specs.Trees.{height_of}
use Rattle.ib_walk.proofs.ChoiceLaws.{Some-same}
use Rattle.ib_tree.specs.Logs.{pages_after}
use Rattle.ib_mtr.specs.Mtr.{IsReleasedAt}
use Rattle.ib_cursor.specs.OnPath.{IsOnPath}
use Rattle.ib_cursor.specs.Grants.{index_grant, page_grant, HasGrants, HasTaken}
use Rattle.ib_cursor.specs.Going.{WentOn, HasSeen}
use Rattle.ib_cursor.specs.Modes.{mode_by}
use Rattle.ib_cursor.specs.Descent.{IsAt, IsDown, WasRaised, one_if, HasPage, HasReached, HasDescended}
use Rattle.ib_cursor.proofs.OnPathLaws.{leaf_on-path}
use Rattle.ib_cursor.proofs.LatchingLaws.{went_beside, went_both, known_beside, beside_taken, looked_first, looked_then, some_end}
use Rattle.ib_cursor.proofs.GrantLaws.{HasGiven, last_held, given, grants_left}
use Rattle.ib_cursor.specs.Laws.{Laws}
use Rattle.ib_cursor.proofs.LogLaws.{IsPathImage, path_image, path_stays}

-- a grant of S, or of X where the flag is set
grant-s : (b : Bool) (g : Grants) → (with_grant (Some (mode_by b)) g).s ≡ g.s + one_if (not b)
grant-s true g = omega arith
grant-s false g = refl

grant-x : (b : Bool) (g : Grants) → (with_grant (Some (mode_by b)) g).x ≡ g.x + one_if b
grant-x true g = refl
grant-x false g = omega arith

grant-sx : (b : Bool) (g : Grants) → (with_grant (Some (mode_by b)) g).sx ≡ g.sx
grant-sx true g = refl
grant-sx false g = refl

one-of : (b : Bool) → one_if (not b) + one_if b ≡ 1
one-of true = refl
one-of false = refl

one-le : (b : Bool) → one_if b ≤ 1
one-le true = omega arith
one-le false = omega arith

-- the flag: the page is a leaf and the search takes it in X
and-false : (b : Bool) → (b && false) ≡ false
and-false true = refl
and-false false = refl

and-true : (b : Bool) → (b && true) ≡ b
and-true true = refl
and-true false = refl

-- a path with pages above its last one has several
shift-lt : (above many : ℕ) → many ≡ above + 1 → nat_lt 1 many ≡ nat_lt 0 above
shift-lt above many is = elim (cases_lt 0 above) [
  | inl lt ↦ lt-ltb 1 many (omega arith) ∙ sym (lt-ltb 0 above lt)
  | inr le ↦ le-ltb 1 many (omega arith) ∙ sym (le-ltb 0 above le)
]

-- what was raised stays so
pub raised_more : (opening : ℕ → ℕ) (root : ℕ) (front seen more new : List Entry) → new ≡ seen ++ more → WasRaised opening root front seen → WasRaised opening root front new
raised_more opening root front seen more new e r = record {
  one = r.one;
  two = r.two;
  three = r.three ++ more;
  is = e ∙ (ap (λ xs. xs ++ more) r.is ∙ append_assoc (front ++ r.one ++ r.two) r.three more);
  leaf = r.leaf;
  node = r.node;
}

-- one level lower
pub child_level : (level : ℕ) → level - 1 + 1 - 1 ≡ level - 1
child_level level = omega arith

pub down_step : (sizes : Sizes) (lawful : List Entry → Type 0) (opening : ℕ → ℕ) (root : ℕ) (key : MapKey) (exclusive b : Bool) (above page child level : ℕ) (p q r : PassState)
    → b ≡ (exclusive && (level == 0)) → IsDown sizes lawful opening root key (index_grant ∷ []) exclusive above page (suc level) p q
    → IsAt sizes lawful opening root key (index_grant ∷ []) child level (mode_by b) r → WentOn q r → r.view.grants ≡ with_grant (Some (mode_by b)) q.view.grants
    → IsDown sizes lawful opening root key (index_grant ∷ []) exclusive (above + 1) child level p r
down_step sizes lawful opening root key exclusive b above page child level p q r is down here went grants =
    let gs = ap (λ (g : Grants). g.s) grants ∙ grant-s b q.view.grants in
    let gx = ap (λ (g : Grants). g.x) grants ∙ grant-x b q.view.grants in
    let gsx = ap (λ (g : Grants). g.sx) grants ∙ grant-sx b q.view.grants in
    let one = one-of b in let le = one-le (not b) in
    let upper : one_if (suc level == 0) ≡ 0 = ap one_if (ne_eqb (suc level) 0 (λ z. omega arith)) in
    let none : exclusive ≡ false → b ≡ false = λ e. is ∙ ap (λ (c : Bool). c && (level == 0)) e in
    let low : exclusive ≡ true → level ≡ 0 → b ≡ true = λ e z. is ∙ (ap (λ (c : Bool). c && (level == 0)) e ∙ eq-eqb level 0 z) in
    let high : level ≢ 0 → b ≡ false = λ ne. is ∙ (ap (λ (c : Bool). exclusive && c) (ne_eqb level 0 ne) ∙ and-false exclusive) in
    record {
      mode = mode_by b;
      here = here;
      shared = λ e. ap mode_by (none e);
      alone = λ e z. ap mode_by (low e z);
      went = went_both p q r down.went went;
      looked = looked_first p q r down.went went down.looked;
      short = let s = down.short in omega arith;
      low = λ most no. let l = down.low most no in omega arith;
      sx = let t = down.sx in omega arith;
      finds = λ e. let f = down.finds e in let f0 = f.0 in let f1 = f.1 in let z : b ≡ false = none e in
          let s1 : one_if (not b) ≡ 1 = ap (λ (b : Bool). one_if (not b)) z in let x1 : one_if b ≡ 0 = ap one_if z in (omega arith, omega arith);
      s = let t = down.s in omega arith;
      changes = λ e.
          let t = down.changes e in
          let was : one_if (nat_lt 0 above && (suc level == 0)) ≡ 0 = ap (λ (c : Bool). one_if (nat_lt 0 above && c)) (ne_eqb (suc level) 0 (λ z. omega arith)) ∙ ap one_if (and-false (nat_lt 0 above)) in
          let now : one_if (nat_lt 0 (above + 1) && (level == 0)) ≡ one_if b =
          ap (λ (c : Bool). one_if (c && (level == 0))) (lt-ltb 0 (above + 1) (omega arith)) ∙ sym (ap one_if (is ∙ ap (λ (c : Bool). c && (level == 0)) e)) in omega arith;
      x = λ e. elim (cases_eq level 0) [
        | inl z ↦
            let t : (level == 0) ≡ true = eq-eqb level 0 z in let x1 : one_if b ≡ 1 = ap one_if (low e z) in
            let o : one_if (level == 0) ≡ 1 = ap one_if t in
            elim (down.x e) [
              | inl y ↦ inl (omega arith)
              | inr y ↦ let y0 = y.0 in inr (omega arith, raised_more opening root p.view.memory.seen q.view.memory.seen went.more r.view.memory.seen went.seen y.1)
            ]
        | inr ne ↦
            let t : (level == 0) ≡ false = ne_eqb level 0 ne in let x1 : one_if b ≡ 0 = ap one_if (high ne) in
            let o : one_if (level == 0) ≡ 0 = ap one_if t in
            elim (down.x e) [
              | inl y ↦ inl (omega arith)
              | inr y ↦ let y0 = y.0 in inr (omega arith, raised_more opening root p.view.memory.seen q.view.memory.seen went.more r.view.memory.seen went.seen y.1)
            ]
      ];
      few = let t = down.few in omega arith;
    }

-- the root in S, where the search reads or the root is a node
pub down_root : (sizes : Sizes) (lawful : List Entry → Type 0) (opening : ℕ → ℕ) (root : ℕ) (key : MapKey) (exclusive : Bool) (level : ℕ) (p q r : PassState)
    → (exclusive ≡ true → 0 < level) → level ≤ MOST_LEVEL → HasTaken index_grant p q → HasSeen sizes lawful q r
    → IsAt sizes lawful opening root key (index_grant ∷ []) root level S r → r.view.grants ≡ with_grant (Some S) q.view.grants
    → IsDown sizes lawful opening root key (index_grant ∷ []) exclusive 0 root level p r
down_root sizes lawful opening root key exclusive level p q r node low taken seen here grants =
    let a = taken.taken.grants in
    let s : r.view.grants.s ≡ p.view.grants.s + 2 = ap (λ (g : Grants). g.s) grants ∙ (ap (λ (g : Grants). g.s + 1) a ∙ omega arith) in
    let sx : r.view.grants.sx ≡ p.view.grants.sx = ap (λ (g : Grants). g.sx) grants ∙ ap (λ (g : Grants). g.sx) a in
    let x : r.view.grants.x ≡ p.view.grants.x = ap (λ (g : Grants). g.x) grants ∙ ap (λ (g : Grants). g.x) a in
    record {
      mode = S;
      here = here;
      shared = λ e. refl;
      alone = λ e z. absurd (let n = node e in omega arith);
      went = went_both p q r (went_beside p q (beside_taken index_grant p q taken)) seen.went;
      looked = looked_then p q r (went_beside p q (beside_taken index_grant p q taken)) seen.went (some_end seen.one);
      short = omega arith;
      low = λ most no. let h = no r.view.memory.seen here.known.legal in let o = here.on_path.height in omega arith;
      sx = sx;
      finds = λ e. (omega arith, x);
      s = omega arith;
      changes = λ e. let none : one_if (nat_lt 0 0 && (level == 0)) ≡ 0 = refl in omega arith;
      x = λ e. let n = node e in let t : (level == 0) ≡ false = ne_eqb level 0 (λ z. omega arith) in let o : one_if (level == 0) ≡ 0 = ap one_if t in inl (omega arith);
      few = omega arith;
    }

-- the root in X, after it was given up as a leaf
pub down_again : (sizes : Sizes) (lawful : List Entry → Type 0) (opening : ℕ → ℕ) (root : ℕ) (key : MapKey) (first level : ℕ) (p q r s t : PassState)
    → first ≡ 0 → level ≤ MOST_LEVEL → HasTaken index_grant p q → HasSeen sizes lawful q r → first ≡ height_of (pages_after opening r.view.memory.seen) root
    → r.view.grants ≡ with_grant (Some S) q.view.grants → HasGiven (page_grant root S) r s → HasSeen sizes lawful s t → level ≡ height_of (pages_after opening t.view.memory.seen) root
    → IsAt sizes lawful opening root key (index_grant ∷ []) root level X t → t.view.grants ≡ with_grant (Some X) s.view.grants
    → IsDown sizes lawful opening root key (index_grant ∷ []) true 0 root level p t
down_again sizes lawful opening root key first level p q r s t leaf low taken seen height grants gave again later here more =
    let a = taken.taken.grants in
    let b = beside_taken index_grant p q taken in
    let to_r = went_both p q r (went_beside p q b) seen.went in
    let to_s = went_both p r s to_r (went_beside r s gave.beside) in
    let both : t.view.grants ≡ with_grant (Some X) (with_grant (Some S) (with_grant (Some S) p.view.grants)) = more ∙ ap (with_grant (Some X)) (gave.grants ∙ (grants ∙ ap (with_grant (Some S)) a)) in
    let gs : t.view.grants.s ≡ p.view.grants.s + 1 + 1 = ap (λ (g : Grants). g.s) both in
    let gsx : t.view.grants.sx ≡ p.view.grants.sx = ap (λ (g : Grants). g.sx) both in
    let gx : t.view.grants.x ≡ p.view.grants.x + 1 = ap (λ (g : Grants). g.x) both in
    let one : r.view.memory.seen ≡ p.view.memory.seen ++ seen.went.more = seen.went.seen ∙ ap (λ l. l ++ seen.went.more) b.seen in
    let two : t.view.memory.seen ≡ p.view.memory.seen ++ seen.went.more ++ again.went.more =
    again.went.seen ∙ ap (λ l. l ++ again.went.more) (gave.beside.seen ∙ one) in
    record {
      mode = X;
      here = here;
      shared = λ e. absurd (cc);
      alone = λ e z. refl;
      went = went_both p s t to_s again.went;
      looked = looked_then p s t to_s again.went (some_end again.one);
      short = omega arith;
      low = λ most no. let h = no t.view.memory.seen here.known.legal in let e = later in omega arith;
      sx = gsx;
      finds = λ e. absurd (cc);
      s = omega arith;
      changes = λ e. let none : one_if (nat_lt 0 0 && (level == 0)) ≡ 0 = refl in omega arith;
      x = λ e. elim (cases_eq level 0) [
        | inl z ↦ let o : one_if (level == 0) ≡ 1 = ap one_if (eq-eqb level 0 z) in inl (omega arith)
        | inr ne ↦ let o : one_if (level == 0) ≡ 0 = ap one_if (ne_eqb level 0 ne) in inr (
          omega arith,
          record {
            one = seen.went.more;
            two = again.went.more;
            three = [];
            is = two ∙ sym (append-nil (p.view.memory.seen ++ seen.went.more ++ again.went.more));
            leaf = ap (λ l. height_of (pages_after opening l) root) (sym one) ∙ (sym height ∙ leaf);
            node = subst (λ l. 0 < height_of (pages_after opening l) root) two (let e = later in omega arith);
          },
        )
      ];
      few = omega arith;
    }

-- the index is given up
module _ (sizes : Sizes) (lawful : List Entry → Type 0) (opening : ℕ → ℕ) (root : ℕ) (key : MapKey) (exclusive : Bool) (above leaf : ℕ) (p q r : PassState)
    (down : IsDown sizes lawful opening root key (index_grant ∷ []) exclusive above leaf 0 p q) (release : IsReleasedAt 0 q r) where
  mode-is : down.mode ≡ mode_by exclusive
  mode-is = by_flag exclusive refl
    where
      by_flag : (b : Bool) → exclusive ≡ b → down.mode ≡ mode_by b
      by_flag true e = down.alone e refl
      by_flag false e = down.shared e

  gave : HasGiven index_grant q r
  gave = given [] index_grant (page_grant leaf down.mode ∷ []) q r down.here.grants tt ((λ e. absurd (omega arith)), tt) release

  left : HasGrants (page_grant leaf down.mode ∷ []) r
  left = grants_left [] index_grant (page_grant leaf down.mode ∷ []) q r down.here.grants tt ((λ e. absurd (omega arith)), tt) release

  pub reached_work : r.work ≡ []
  reached_work = gave.work down.here.work

  pub reached : (front path : List ℕ) → above ≡ length front → path ≡ front ++ leaf ∷ [] → HasReached sizes lawful opening root key exclusive path p r
  reached front path many is =
      let on_path = subst (λ l. IsOnPath (pages_after opening l) root key leaf 0) (sym gave.beside.seen) down.here.on_path in
      let gs : r.view.grants.s ≡ q.view.grants.s = ap (λ (g : Grants). g.s) gave.grants in
      let gsx : r.view.grants.sx ≡ q.view.grants.sx = ap (λ (g : Grants). g.sx) gave.grants in
      let gx : r.view.grants.x ≡ q.view.grants.x = ap (λ (g : Grants). g.x) gave.grants in
      let long : length path ≡ length front + 1 = ap length is ∙ length-append front (leaf ∷ []) in
      record {
        leaf = leaf;
        front = front;
        ends = is;
        is_leaf = leaf_on-path (pages_after opening r.view.memory.seen) root key leaf on_path;
        grants = subst (λ m. HasGrants (page_grant leaf m ∷ []) r) mode-is left;
        watched = gave.watched (leaf + 2) (λ e. absurd (omega arith)) ∙ down.here.watched;
        went = went_both p q r down.went (went_beside q r gave.beside);
        looked = looked_first p q r down.went (went_beside q r gave.beside) down.looked;
        known = known_beside sizes lawful q r gave.beside down.here.known;
        sx = gsx ∙ down.sx;
        finds = λ e. let f = down.finds e in let f0 = f.0 in let f1 = f.1 in (omega arith, omega arith);
        s = let t = down.s in let h = down.short in omega arith;
        low = λ most no. let t = down.s in let l = down.low most no in omega arith;
        changes = λ e.
            let t = down.changes e in
            let same : one_if (nat_lt 1 (length path)) ≡ one_if (nat_lt 0 above && (0 == 0)) = ap one_if (shift-lt above (length path) (omega arith) ∙ sym (and-true (nat_lt 0 above))) in omega arith;
        x = λ e. elim (down.x e) [
          | inl y ↦ inl (let y1 : q.view.grants.x ≡ p.view.grants.x + 1 = y in omega arith)
          | inr y ↦ inr (let y1 : q.view.grants.x ≡ p.view.grants.x + 1 + 1 = y.0 in omega arith, subst (WasRaised opening root p.view.memory.seen) (sym gave.beside.seen) y.1)
        ];
      }

-- what is known of the leaf, and what its load or a search in it leaves
module _ (sizes : Sizes) (roots : ℕ) (lawful : List Entry → Type 0) (opening : ℕ → ℕ) (laws : Laws sizes.pages roots lawful opening) (root : ℕ) (some : 0 < root) (le : root ≤ roots) (key : MapKey) (lt : rank key < end_rank)
    (exclusive : Bool) (path : List ℕ) (p q : PassState) (reached : HasReached sizes lawful opening root key exclusive path p q) where
  pub leaf_held : 0 < holdings (reached.leaf + 2) q.view.session
  leaf_held = last_held [] (page_grant reached.leaf (mode_by exclusive)) q reached.grants

  pub leaf_path : IsOnPath (pages_after opening q.view.memory.seen) root key reached.leaf 0
  leaf_path = record { depth = height_of (pages_after opening q.view.memory.seen) root; height = omega arith; below = sym reached.is_leaf }

  pub leaf_image : IsPathImage sizes.pages (memory_after opening q.view.memory.seen) key reached.leaf 0
  leaf_image = path_image sizes.pages roots lawful opening laws root some le key lt q.view.memory.seen reached.leaf 0 reached.known.legal leaf_path

  pub descended : (s : PassState) → q.work ≡ [] → HasSeen sizes lawful q s → s.memo ≡ q.memo → s.view.session ≡ q.view.session → s.view.grants ≡ q.view.grants → HasPage opening reached.leaf q s
      → HasDescended sizes lawful opening root key exclusive path p s
  descended s none seen memo session grants loaded =
      let legal = subst lawful seen.went.seen seen.known.legal in
      let on = path_stays sizes.pages roots lawful opening laws root some le key lt q.view.memory.seen seen.went.more reached.leaf 0 legal (seen.steady reached.leaf reached.watched) leaf_path in
      let end = subst (λ l. IsOnPath (pages_after opening l) root key reached.leaf 0) (sym seen.went.seen) on in
      let held : HasGrants (page_grant reached.leaf (mode_by exclusive) ∷ []) s = record { memo = memo ∙ reached.grants.memo; session = session ∙ reached.grants.session } in
      let gs : s.view.grants.s ≡ q.view.grants.s = ap (λ (g : Grants). g.s) grants in
      let gsx : s.view.grants.sx ≡ q.view.grants.sx = ap (λ (g : Grants). g.sx) grants in
      let gx : s.view.grants.x ≡ q.view.grants.x = ap (λ (g : Grants). g.x) grants in
      record {
        reached = record {
          leaf = reached.leaf;
          front = reached.front;
          ends = reached.ends;
          is_leaf = leaf_on-path (pages_after opening s.view.memory.seen) root key reached.leaf end;
          grants = held;
          watched = seen.watched (reached.leaf + 2) (last_held [] (page_grant reached.leaf (mode_by exclusive)) s held);
          went = went_both p q s reached.went seen.went;
          looked = looked_first p q s reached.went seen.went reached.looked;
          known = seen.known;
          sx = gsx ∙ reached.sx;
          finds = λ e. let f = reached.finds e in let f0 = f.0 in let f1 = f.1 in (omega arith, omega arith);
          s = let t = reached.s in omega arith;
          low = λ most no. let t = reached.low most no in omega arith;
          changes = λ e. let t = reached.changes e in omega arith;
          x = λ e. elim (reached.x e) [
            | inl y ↦ inl (let y1 : q.view.grants.x ≡ p.view.grants.x + 1 = y in omega arith)
            | inr y ↦ inr (let y1 : q.view.grants.x ≡ p.view.grants.x + 2 = y.0 in omega arith, raised_more opening root p.view.memory.seen q.view.memory.seen seen.went.more s.view.memory.seen seen.went.seen y.1)
          ];
        };
        image = loaded.image;
        size = loaded.size;
        is_page = loaded.is_page;
        work = loaded.work ∙ ap (with_read reached.leaf loaded.image) none;
      }

-- the last page of a path
pub last_of_path : (o : Option ℕ) (r : ℕ) (path front : List ℕ) (leaf : ℕ) → path ≡ front ++ leaf ∷ [] → IfSome o (λ page. slice_get path (length path - 1) ≡ Some page) → o ≡ Some r → r ≡ leaf
last_of_path o r path front leaf is last got =
    let at : slice_get path (length path - 1) ≡ Some r = subst (λ (x : Option ℕ). IfSome x (λ page. slice_get path (length path - 1) ≡ Some page)) got last in
    let end : length path - 1 ≡ length front = (let a = ap length is in let b = length-append front (leaf ∷ []) in omega arith) in
    let there : slice_get path (length path - 1) ≡ Some leaf = ap (slice_get path) end ∙ (ap (λ (xs : List ℕ). slice_get xs (length front)) is ∙ slice_get-last front leaf) in
    Some-same r leaf (sym at ∙ there)
