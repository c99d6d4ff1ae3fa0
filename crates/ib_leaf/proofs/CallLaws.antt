-- A mini-transaction that ended, as the end of a call of the index.
use Rattle.std.specs.List.{AllByRecursion}
use Rattle.std.proofs.Common.{◌≡◌, ℕ, ◌<◌, ◌≤◌, List, [], ◌∷◌, ◌++◌, length, refl, sym, ap, subst, ◌∙◌, arith, length-append, append_assoc}
use Rattle.ib_map.specs.Map.{is_made}
use Rattle.ib_map.specs.Replies.{FullRecord, full_record}
use Rattle.ib_map.specs.Runs.{reach_after}
use Rattle.ib_map.specs.declared.call.Call.{Call}
use Rattle.ib_map.specs.declared.call.Reply.{Reply}
use Rattle.ib_page.specs.Work.{WorkPage}
use Rattle.ib_layout.specs.Geometry.{Sizes}
use Rattle.ib_logrec.specs.declared.entry.Entry.{Entry}
use Rattle.ib_logrec.specs.Log.{used}
use Rattle.ib_rule.specs.declared.looks.Grants.{Grants}
use Rattle.ib_rule.specs.declared.memory.Knowledge.{Knowledge}
use Rattle.ib_rule.specs.declared.view.Role.{Role}
use Rattle.ib_rule.specs.declared.view.Role.TheVariants.{Session}
use Rattle.ib_rule.specs.Memory.{entries_of}
use Rattle.ib_rule.specs.Pass.{PassState}
use Rattle.ib_rule.specs.Roles.{session_number_of}
use Rattle.ib_rule.specs.Stores.{IsLook}
use Rattle.ib_mtr.specs.Commits.{HasEnded}
use Rattle.ib_mtr.specs.Mtr.{with_work}
use Rattle.ib_cursor.specs.Going.{IsKnown, WentOn}
use Rattle.ib_cursor.proofs.LatchingLaws.{seen_longer}
use Rattle.ib_leaf.specs.Calls.{HasCalledBy, MakesOwn}
use Rattle.ib_leaf.specs.Ends.{IsEnd}

pub bounds-wider : (ns : List ℕ) (low high most : ℕ) → high ≤ most → AllByRecursion (λ n. (low ≤ n) × (n ≤ high)) ns → AllByRecursion (λ n. (low ≤ n) × (n ≤ most)) ns
bounds-wider [] low high most le e = tt
bounds-wider (n ∷ ns) low high most le e = ((e.0.0, let h = e.0.1 in omega arith), bounds-wider ns low high most le e.1)

pub bounds-push : (ns : List ℕ) (low high place : ℕ) → AllByRecursion (λ n. (low ≤ n) × (n ≤ high)) ns → low ≤ place → place ≤ high → AllByRecursion (λ n. (low ≤ n) × (n ≤ high)) (ns ++ place ∷ [])
bounds-push [] low high place e l h = ((l, h), tt)
bounds-push (n ∷ ns) low high place e l h = (e.0, bounds-push ns low high place e.1 l h)

-- so a call that went there and ended is one that was answered
pub called-by : (fits_log : List Entry → ℕ → ℕ → FullRecord → Type 0) (sizes : Sizes) (lawful : List Entry → Type 0) (call : Call) (reply : Reply) (place : ℕ) (p q r : PassState) (went : WentOn p q) → 0 < length went.added
    → IsEnd q r place → IsKnown sizes lawful r → length r.view.memory.seen ≡ reach_after (full_record (record { call = call; reply = reply; place = place }) [])
    → fits_log r.view.memory.seen r.number (length p.view.memory.seen) (full_record (record { call = call; reply = reply; place = place }) [])
    → MakesOwn (is_made reply) r.view.memory.seen q.view.memory.own r.view.memory.own
    → HasCalledBy fits_log sizes lawful call (record { call = call; reply = reply; place = place }) p r
called-by fits_log sizes lawful call reply place p q r went looked end known reach fits own =
    go went.added went.ends went.bounds looked
  where
    go : (added : List ℕ) → q.view.memory.ends ≡ p.view.memory.ends ++ added → AllByRecursion (λ n. (length p.view.memory.seen ≤ n) × (n ≤ length q.view.memory.seen)) added → 0 < length added
        → HasCalledBy fits_log sizes lawful call (record { call = call; reply = reply; place = place }) p r
    go [] ends bounds some = absurd (omega arith)
    go (n ∷ ns) ends bounds some =
        let longer = seen_longer p q went in let low = end.low in let high = end.high in
        record {
          table = end.table ∙ went.table;
          sizes_are = end.sizes ∙ went.sizes;
          number = end.number ∙ went.number;
          more = went.more ++ end.more;
          seen = end.seen ∙ (ap (λ xs. xs ++ end.more) went.seen ∙ append_assoc p.view.memory.seen went.more end.more);
          known = known;
          first = n;
          rest = ns ++ place ∷ [];
          ends = end.ends ∙ (ap (λ xs. xs ++ place ∷ []) ends ∙ append_assoc p.view.memory.ends (n ∷ ns) (place ∷ []));
          bounds = bounds-push (n ∷ ns) (length p.view.memory.seen) (length r.view.memory.seen) place
              (bounds-wider (n ∷ ns) (length p.view.memory.seen) (length q.view.memory.seen) (length r.view.memory.seen) (omega arith) bounds) (omega arith) high;
          call_is = refl;
          from = omega arith;
          looked = let b = bounds.0.1 in omega arith;
          reach = reach;
          fits = fits;
          own = subst (λ o. MakesOwn (is_made reply) r.view.memory.seen o r.view.memory.own) went.own own;
        }

-- the end of a mini-transaction that changed pages is that of one with its pages as they were
pub ended-before : (q r : PassState) (work : List WorkPage) (taken : Grants) (seen own : List Entry) (ends : List ℕ) → HasEnded (with_work work q) taken seen own ends r → HasEnded q taken seen own ends r
ended-before q r work taken seen own ends e = record { pass = e.pass; role = e.role; session = e.session; grants = e.grants; written = e.written; looks = e.looks; memory = e.memory }

-- a mini-transaction that ended after a look
module _ (sizes : Sizes) (lawful : List Entry → Type 0) (q r : PassState) (log : List Entry) (place : ℕ) (taken : Grants) (looked : IsLook sizes lawful q.view log) (at : place ≡ length log) where
  pub read-end : HasEnded q taken log q.view.memory.own (q.view.memory.ends ++ place ∷ []) r → IsEnd q r place
  read-end ended = let seen : r.view.memory.seen ≡ log = ap (λ (m : Knowledge). m.seen) ended.memory in record {
    table = ap (λ (s : PassState). s.table) ended.pass;
    sizes = ap (λ (s : PassState). s.sizes) ended.pass;
    number = ap (λ (s : PassState). s.number) ended.pass;
    more = looked.others;
    seen = seen ∙ sym looked.longer;
    ends = ap (λ (m : Knowledge). m.ends) ended.memory;
    low = let a = ap length looked.longer in let b = length-append q.view.memory.seen looked.others in omega arith;
    high = let a = ap length seen in omega arith;
  }

  pub push-end : (e : Entry) (own : List Entry) → HasEnded q taken (log ++ e ∷ []) own (q.view.memory.ends ++ place ∷ []) r → IsEnd q r place
  push-end e own ended = let seen : r.view.memory.seen ≡ log ++ e ∷ [] = ap (λ (m : Knowledge). m.seen) ended.memory in record {
    table = ap (λ (s : PassState). s.table) ended.pass;
    sizes = ap (λ (s : PassState). s.sizes) ended.pass;
    number = ap (λ (s : PassState). s.number) ended.pass;
    more = looked.others ++ e ∷ [];
    seen = seen ∙ (ap (λ xs. xs ++ e ∷ []) (sym looked.longer) ∙ append_assoc q.view.memory.seen looked.others (e ∷ []));
    ends = ap (λ (m : Knowledge). m.ends) ended.memory;
    low = let a = ap length looked.longer in let b = length-append q.view.memory.seen looked.others in omega arith;
    high = let a = ap length seen in let b = length-append log (e ∷ []) in omega arith;
  }

  pub read-known : q.view.role ≡ Session q.number → HasEnded q taken log q.view.memory.own (q.view.memory.ends ++ place ∷ []) r → IsKnown sizes lawful r
  read-known role ended =
      let seen : r.view.memory.seen ≡ log = ap (λ (m : Knowledge). m.seen) ended.memory in
      let own : r.view.memory.own ≡ q.view.memory.own = ap (λ (m : Knowledge). m.own) ended.memory in
      let number : r.number ≡ q.number = ap (λ (s : PassState). s.number) ended.pass in
      record {
        legal = subst lawful (sym seen) looked.legal;
        room = subst (λ (es : List Entry). used es ≤ sizes.log_words) (sym seen) looked.room;
        mine = ap (λ n. entries_of n r.view.memory.seen) number ∙ (ap (entries_of q.number) seen ∙ (ap (λ (s : Role). entries_of (session_number_of s) log) (sym role) ∙ (looked.mine ∙ sym own)));
      }
