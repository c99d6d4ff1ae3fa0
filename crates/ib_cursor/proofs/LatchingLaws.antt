-- A latch that is taken, and a look at the log's end.
use Rattle.std.specs.List.{AllByRecursion}
use Rattle.std.proofs.Common.{◌≡◌, ℕ, ◌+◌, ◌<◌, ◌≤◌, true, false, List, [], ◌∷◌, ◌++◌, length, refl, sym, ap, subst, ◌∙◌, arith, append_assoc, append-nil, length-append}
use Rattle.std.specs.Prelude.{nat_lt}
use Rattle.ib_levels.specs.declared.holding.Holding.{Holding}
use Rattle.ib_levels.specs.declared.latch.Latch.{Latch}
use Rattle.ib_levels.specs.declared.level.Level.{Level}
use Rattle.ib_levels.specs.declared.level.Mode.{Mode}
use Rattle.ib_levels.proofs.Counts.{on-none}
use Rattle.ib_layout.specs.Geometry.{Sizes}
use Rattle.ib_core.specs.declared.phase.Phase.TheVariants.{Free}
use Rattle.ib_core.specs.declared.session.Session.{Session}
use Rattle.ib_core.specs.Holders.{CanWish}
use Rattle.ib_core.specs.Sessions.{claims, holdings}
use Rattle.ib_core.specs.Takings.{holding_too}
use Rattle.ib_logrec.specs.declared.entry.Entry.{Entry}
use Rattle.ib_logrec.specs.Log.{used}
use Rattle.ib_rule.specs.declared.memory.Knowledge.{Knowledge}
use Rattle.ib_rule.specs.declared.view.Role.{Role}
use Rattle.ib_rule.specs.declared.view.Role.TheVariants.{Session as SessionRole}
use Rattle.ib_rule.specs.Memory.{entries_of}
use Rattle.ib_rule.specs.Pass.{PassState}
use Rattle.ib_rule.specs.Roles.{session_number_of}
use Rattle.ib_rule.specs.Views.{is_watched}
use Rattle.ib_rule.proofs.Watching.{untouched, watched_after}
use Rattle.ib_latch.specs.Tries.{HasTakenGrant, held_with}
use Rattle.ib_frames.specs.Reads.{with_page_loaded}
use Rattle.ib_mtr.specs.Loads.{HasLoadedPage, HasLooked}
use Rattle.ib_mtr.specs.Mtr.{IsGranted}
use Rattle.ib_cursor.specs.Grants.{Grant, HasTaken}
use Rattle.ib_cursor.specs.Going.{IsKnown, WentOn, HasSeen, HasLatched}

-- where nothing is held on the latch, a first grant of any mode is one holding more
fresh_held : (mode : Mode) (l : ℕ) (v : Level) (a : Session) → holdings l a ≡ 0 → held_with mode l v a ≡ holding_too mode l v a.held
fresh_held mode l v a none =
    let zero : nat_lt 0 (claims l a) ≡ false = ap (nat_lt 0) (on-none l (λ h. h.sx + h.x) a.held none) in rw zero refl

pub taken_claim : (mode : Mode) (latch : Latch) (v : Level) (p q : PassState) → CanWish latch.0 v p.view.session
    → IsGranted latch mode (held_with mode latch.0 v p.view.session) p q → HasTaken (record { latch = latch.0; mode = mode; level = v }) p q
taken_claim mode latch v p q may won = record {
  pass = won.pass;
  taken = subst (λ (held : List Holding). HasTakenGrant mode held Free p.view q.view) (fresh_held mode latch.0 v p.view.session may.none) won.taken;
}

-- how far a call went
pub went_none : (p : PassState) → WentOn p p
went_none p = record { table = refl; sizes = refl; number = refl; own = refl; more = []; seen = sym (append-nil p.view.memory.seen); added = []; ends = sym (append-nil p.view.memory.ends); bounds = tt }

bounds-wider : (ns : List ℕ) (low high a b : ℕ) → a ≤ low → high ≤ b → AllByRecursion (λ n. (low ≤ n) × (n ≤ high)) ns → AllByRecursion (λ n. (a ≤ n) × (n ≤ b)) ns
bounds-wider [] low high a b l h e = tt
bounds-wider (n ∷ ns) low high a b l h e = ((omega (arith, e.0.0), omega (arith, e.0.1)), bounds-wider ns low high a b l h e.1)

pub bounds-append : (P : ℕ → Type 0) (xs ys : List ℕ) → AllByRecursion P xs → AllByRecursion P ys → AllByRecursion P (xs ++ ys)
bounds-append P [] ys a b = b
bounds-append P (x ∷ xs) ys a b = (a.0, bounds-append P xs ys a.1 b)

pub seen_longer : (p q : PassState) → WentOn p q → length p.view.memory.seen ≤ length q.view.memory.seen
seen_longer p q w = let e = ap length w.seen in let l = length-append p.view.memory.seen w.more in omega arith

pub went_both : (p q r : PassState) → WentOn p q → WentOn q r → WentOn p r
went_both p q r a b = record {
  table = b.table ∙ a.table;
  sizes = b.sizes ∙ a.sizes;
  number = b.number ∙ a.number;
  own = b.own ∙ a.own;
  more = a.more ++ b.more;
  seen = b.seen ∙ (ap (λ xs. xs ++ b.more) a.seen ∙ append_assoc p.view.memory.seen a.more b.more);
  added = a.added ++ b.added;
  ends = b.ends ∙ (ap (λ xs. xs ++ b.added) a.ends ∙ append_assoc p.view.memory.ends a.added b.added);
  bounds = bounds-append (λ n. (length p.view.memory.seen ≤ n) × (n ≤ length r.view.memory.seen)) a.added b.added
      (bounds-wider a.added (length p.view.memory.seen) (length q.view.memory.seen) (length p.view.memory.seen) (length r.view.memory.seen) (omega arith) (seen_longer q r b) a.bounds)
      (bounds-wider b.added (length q.view.memory.seen) (length r.view.memory.seen) (length p.view.memory.seen) (length r.view.memory.seen) (seen_longer p q a) (omega arith) b.bounds);
}

-- what leaves the memory but for what is known of latches
pub record IsBeside (p q : PassState) : Type 0 where
  pub table : q.table ≡ p.table
  pub sizes : q.sizes ≡ p.sizes
  pub number : q.number ≡ p.number
  pub own : q.view.memory.own ≡ p.view.memory.own
  pub seen : q.view.memory.seen ≡ p.view.memory.seen
  pub ends : q.view.memory.ends ≡ p.view.memory.ends

pub went_beside : (p q : PassState) → IsBeside p q → WentOn p q
went_beside p q b = record {
  table = b.table;
  sizes = b.sizes;
  number = b.number;
  own = b.own;
  more = [];
  seen = b.seen ∙ sym (append-nil p.view.memory.seen);
  added = [];
  ends = b.ends ∙ sym (append-nil p.view.memory.ends);
  bounds = tt;
}

pub known_beside : (sizes : Sizes) (lawful : List Entry → Type 0) (p q : PassState) → IsBeside p q → IsKnown sizes lawful p → IsKnown sizes lawful q
known_beside sizes lawful p q b k =
    let known : (seen own : List Entry) (number : ℕ) → seen ≡ p.view.memory.seen → own ≡ p.view.memory.own → number ≡ p.number → entries_of number seen ≡ own = λ seen own number s o n. ap (λ n. entries_of n seen) n ∙ (ap (entries_of p.number) s ∙ (k.mine ∙ sym o)) in
    record { legal = subst lawful (sym b.seen) k.legal; room = subst (λ (log : List Entry). used log ≤ sizes.log_words) (sym b.seen) k.room; mine = known q.view.memory.seen q.view.memory.own q.number b.seen b.own b.number }

pub beside_taken : (g : Grant) (p q : PassState) → HasTaken g p q → IsBeside p q
beside_taken g p q t = record {
  table = ap (λ (r : PassState). r.table) t.pass;
  sizes = ap (λ (r : PassState). r.sizes) t.pass;
  number = ap (λ (r : PassState). r.number) t.pass;
  own = ap (λ (m : Knowledge). m.own) t.taken.memory;
  seen = ap (λ (m : Knowledge). m.seen) t.taken.memory;
  ends = ap (λ (m : Knowledge). m.ends) t.taken.memory;
}

-- a look
pub seen_by : (sizes : Sizes) (lawful : List Entry → Type 0) (opening : ℕ → ℕ) (p q : PassState) → p.view.role ≡ SessionRole p.number → HasLooked sizes lawful opening p q → HasSeen sizes lawful p q
seen_by sizes lawful opening p q role look =
    let is = look.pass in
    let log : List Entry = q.view.memory.seen in
    let own : q.view.memory.own ≡ p.view.memory.own = ap (λ (r : PassState). r.view.memory.own) is in
    let number : q.number ≡ p.number = ap (λ (r : PassState). r.number) is in
    record {
      went = record {
        table = ap (λ (r : PassState). r.table) is;
        sizes = ap (λ (r : PassState). r.sizes) is;
        number = number;
        own = own;
        more = look.looked.others;
        seen = sym look.looked.longer;
        added = length q.view.memory.seen ∷ [];
        ends = ap (λ (r : PassState). r.view.memory.ends) is;
        bounds = ((let e = ap length look.looked.longer in let l = length-append p.view.memory.seen look.looked.others in omega arith, omega arith), tt);
      };
      one = refl;
      known = record {
        legal = look.looked.legal;
        room = look.looked.room;
        mine = ap (λ n. entries_of n q.view.memory.seen) number ∙ (ap (λ (r : Role). entries_of (session_number_of r) q.view.memory.seen) (sym role) ∙ (look.looked.mine ∙ sym own));
      };
      steady = λ page watched. untouched (session_number_of p.view.role) page p.view.memory.since look.looked.others watched look.looked.harmless;
      watched = λ l held. subst (λ (r : PassState). is_watched l r.view.memory.since ≡ true) (sym is)
          (watched_after q.view.memory.seen p.view l (subst (λ (r : PassState). 0 < holdings l r.view.session) is held));
    }

-- a grant, and then a look
pub latched_by : (sizes : Sizes) (lawful : List Entry → Type 0) (g : Grant) (p q r : PassState) → HasTaken g p q → HasSeen sizes lawful q r
    → r.memo ≡ q.memo → r.view.session ≡ q.view.session → r.view.grants ≡ q.view.grants → r.work ≡ q.work → HasLatched sizes lawful g p r
unfolding went_beside went_both beside_taken
latched_by sizes lawful g p q r t s memo session grants work =
    let b = beside_taken g p q t in
    record {
      seen = record {
        went = went_both p q r (went_beside p q b) s.went;
        one = s.one;
        known = s.known;
        steady = λ page watched. s.steady page (subst (λ (m : Knowledge). is_watched (page + 2) m.since ≡ true) (sym t.taken.memory) watched);
        watched = s.watched;
      };
      memo = memo ∙ ap (λ (r : PassState). r.memo) t.pass;
      session = session ∙ t.taken.session;
      grants = grants ∙ t.taken.grants;
      work = work ∙ ap (λ (r : PassState). r.work) t.pass;
    }

-- a page that is loaded, and the look with it
pub seen_loaded : (sizes : Sizes) (lawful : List Entry → Type 0) (opening : ℕ → ℕ) (page : ℕ) (p q : PassState) → p.view.role ≡ SessionRole p.number → HasLoadedPage sizes lawful opening page p q → HasSeen sizes lawful p q
seen_loaded sizes lawful opening page p q role load =
    let is = load.pass in
    let own : q.view.memory.own ≡ p.view.memory.own = ap (λ (r : PassState). r.view.memory.own) is in
    let number : q.number ≡ p.number = ap (λ (r : PassState). r.number) is in
    record {
      went = record {
        table = ap (λ (r : PassState). r.table) is;
        sizes = ap (λ (r : PassState). r.sizes) is;
        number = number;
        own = own;
        more = load.looked.others;
        seen = sym load.looked.longer;
        added = length q.view.memory.seen ∷ [];
        ends = ap (λ (r : PassState). r.view.memory.ends) is;
        bounds = ((let e = ap length load.looked.longer in let l = length-append p.view.memory.seen load.looked.others in omega arith, omega arith), tt);
      };
      one = refl;
      known = record {
        legal = load.looked.legal;
        room = load.looked.room;
        mine = ap (λ n. entries_of n q.view.memory.seen) number ∙ (ap (λ (r : Role). entries_of (session_number_of r) q.view.memory.seen) (sym role) ∙ (load.looked.mine ∙ sym own));
      };
      steady = λ page watched. untouched (session_number_of p.view.role) page p.view.memory.since load.looked.others watched load.looked.harmless;
      watched = λ l held. subst (λ (r : PassState). is_watched l r.view.memory.since ≡ true) (sym is)
          (watched_after q.view.memory.seen (with_page_loaded page load.image p.view) l (subst (λ (r : PassState). 0 < holdings l r.view.session) is held));
    }

-- a look adds an end
pub some_end : {ends : List ℕ} {end : ℕ} → ends ≡ end ∷ [] → 0 < length ends
some_end one = let some = ap length one in omega arith

-- looks on the path
pub added_both : (p q r : PassState) (a : WentOn p q) (b : WentOn q r) → (went_both p q r a b).added ≡ a.added ++ b.added
unfolding went_both
added_both p q r a b = refl

pub looked_first : (p q r : PassState) (a : WentOn p q) (b : WentOn q r) → 0 < length a.added → 0 < length (went_both p q r a b).added
unfolding went_both
looked_first p q r a b some = let l = length-append a.added b.added in omega arith

pub looked_then : (p q r : PassState) (a : WentOn p q) (b : WentOn q r) → 0 < length b.added → 0 < length (went_both p q r a b).added
unfolding went_both
looked_then p q r a b some = let l = length-append a.added b.added in omega arith

-- a look after what changed nothing but looks
pub seen_after : (sizes : Sizes) (lawful : List Entry → Type 0) (p q r : PassState) → IsBeside p q → q.view.memory ≡ p.view.memory → HasSeen sizes lawful q r → HasSeen sizes lawful p r
unfolding went_both went_beside
seen_after sizes lawful p q r b memory s = record {
  went = went_both p q r (went_beside p q b) s.went;
  one = s.one;
  known = s.known;
  steady = λ page watched. s.steady page (subst (λ (m : Knowledge). is_watched (page + 2) m.since ≡ true) (sym memory) watched);
  watched = s.watched;
}
