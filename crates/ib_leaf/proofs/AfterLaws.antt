-- A call after looks that changed nothing is one from where they began on.
use Rattle.std.specs.List.{AllByRecursion}
use Rattle.std.proofs.Common.{◌≡◌, ℕ, ◌<◌, ◌≤◌, List, [], ◌∷◌, ◌++◌, length, refl, sym, ap, subst, ◌∙◌, arith, append_assoc, length-append}
use Rattle.ib_map.specs.History.{History}
use Rattle.ib_map.specs.Map.{is_made}
use Rattle.ib_map.specs.Replies.{FitsCall, full_record}
use Rattle.ib_map.specs.declared.call.Call.{Call}
use Rattle.ib_map.specs.declared.call.Record.{Record}
use Rattle.ib_map.specs.declared.call.Reply.{Reply}
use Rattle.ib_layout.specs.Geometry.{Sizes}
use Rattle.ib_logrec.specs.declared.entry.Entry.{Entry}
use Rattle.ib_logrec.specs.Log.{history_of}
use Rattle.ib_tree.specs.Fits.{FitsLog, TreeSpace}
use Rattle.ib_rule.specs.Pass.{PassState}
use Rattle.ib_cursor.specs.Going.{WentOn}
use Rattle.ib_cursor.specs.Spaces.{space_of}
use Rattle.ib_cursor.proofs.LatchingLaws.{bounds-append, seen_longer}
use Rattle.ib_leaf.specs.Calls.{HasCalled, MakesOwn}
use Rattle.ib_leaf.specs.Ends.{HasStopped}
use Rattle.ib_leaf.proofs.CallLaws.{bounds-wider}

-- whether an answer to this call fits has nothing to do with what its session had seen
abbrev pub IsFreeOfReach : Call → Type 0
IsFreeOfReach call = (h : History) (session one other : ℕ) (reply : Reply) (place : ℕ) → FitsCall h session one call reply place [] → FitsCall h session other call reply place []

fits-anew : (space : TreeSpace) (log : List Entry) (session one other : ℕ) (answer : Record) (call : Call) → answer.call ≡ call → IsFreeOfReach call
    → FitsLog space log session one (full_record answer []) → FitsLog space log session other (full_record answer [])
fits-anew space log session one other answer call is free fits = record {
  map = (
    fits.map.0,
    subst (λ c. FitsCall (history_of log) session other c answer.reply answer.place []) (sym is)
        (free (history_of log) session one other answer.reply answer.place (subst (λ c. FitsCall (history_of log) session one c answer.reply answer.place []) is fits.map.1)),
  );
  tree = fits.tree;
}

-- ends within what was seen later are within what was seen from the start on
bounds-lower : (ns : List ℕ) (low floor most : ℕ) → floor ≤ low → AllByRecursion (λ n. (low ≤ n) × (n ≤ most)) ns → AllByRecursion (λ n. (floor ≤ n) × (n ≤ most)) ns
bounds-lower [] low floor most le e = tt
bounds-lower (n ∷ ns) low floor most le e = ((let h = e.0.0 in omega arith, e.0.1), bounds-lower ns low floor most le e.1)

-- a call after looks that changed nothing is one from where they began on, with their first end
pub called-after_looks : (sizes : Sizes) (lawful : List Entry → Type 0) (opens : ℕ → ℕ) (call : Call) (answer : Record) (p q r : PassState) → IsFreeOfReach call → (went : WentOn p q) (n : ℕ) (ns : List ℕ) → went.added ≡ n ∷ ns
    → HasCalled sizes lawful opens call answer q r → (h : HasCalled sizes lawful opens call answer p r) × (h.first ≡ n)
called-after_looks sizes lawful opens call answer p q r free went n ns is called =
    let longer = seen_longer p q went in let from = called.from in
    let more = ap length called.seen in let sum = length-append q.view.memory.seen called.more in
    let bounds : AllByRecursion (λ k. (length p.view.memory.seen ≤ k) × (k ≤ length q.view.memory.seen)) (n ∷ ns) = subst (AllByRecursion (λ k. (length p.view.memory.seen ≤ k) × (k ≤ length q.view.memory.seen))) is went.bounds in
    let whole : HasCalled sizes lawful opens call answer p r = record {
      table = called.table ∙ went.table;
      sizes_are = called.sizes_are ∙ went.sizes;
      number = called.number ∙ went.number;
      more = went.more ++ called.more;
      seen = called.seen ∙ (ap (λ xs. xs ++ called.more) went.seen ∙ append_assoc p.view.memory.seen went.more called.more);
      known = called.known;
      first = n;
      rest = ns ++ called.first ∷ called.rest;
      ends = called.ends ∙ (ap (λ xs. xs ++ called.first ∷ called.rest) (went.ends ∙ ap (λ (xs : List ℕ). p.view.memory.ends ++ xs) is) ∙ append_assoc p.view.memory.ends (n ∷ ns) (called.first ∷ called.rest));
      bounds = bounds-append (λ k. (length p.view.memory.seen ≤ k) × (k ≤ length r.view.memory.seen)) (n ∷ ns) (called.first ∷ called.rest)
          (bounds-wider (n ∷ ns) (length p.view.memory.seen) (length q.view.memory.seen) (length r.view.memory.seen) (omega arith) bounds)
          (bounds-lower (called.first ∷ called.rest) (length q.view.memory.seen) (length p.view.memory.seen) (length r.view.memory.seen) longer called.bounds);
      call_is = called.call_is;
      from = omega arith;
      looked = let b = bounds.0.1 in omega arith;
      reach = called.reach;
      fits = fits-anew (space_of sizes opens) r.view.memory.seen r.number (length q.view.memory.seen) (length p.view.memory.seen) answer call called.call_is free called.fits;
      own = subst (λ o. MakesOwn (is_made answer.reply) r.view.memory.seen o r.view.memory.own) went.own called.own;
    } in (whole, refl)

-- .. and so is one after a call that stopped
pub called-after_stop : (sizes : Sizes) (lawful : List Entry → Type 0) (opens : ℕ → ℕ) (call : Call) (answer : Record) (p q r : PassState) → IsFreeOfReach call → HasStopped sizes p q
    → HasCalled sizes lawful opens call answer q r → HasCalled sizes lawful opens call answer p r
called-after_stop sizes lawful opens call answer p q r free stopped called = go stopped.went.added refl stopped.looked
  where
    go : (added : List ℕ) → stopped.went.added ≡ added → 0 < length added → HasCalled sizes lawful opens call answer p r
    go [] is some = absurd (omega arith)
    go (n ∷ ns) is some = (called-after_looks sizes lawful opens call answer p q r free stopped.went n ns is called).0
