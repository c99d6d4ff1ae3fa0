-- A pass after a step of its seat.
use Rattle.std.proofs.Common.{◌≡◌, ℕ, Bool, true, false, List, [], ◌*◌, ◌^◌, ◌≤◌, length, sym, ap, ◌∙◌, subst, arith}
use Rattle.std.specs.Prelude.{if◌then◌else◌, nat_lt}
use Rattle.atomic_table.specs.Table.{Me}
use Rattle.ib_word.specs.Word.{word_in}
use Rattle.ib_core.specs.declared.event.Event.{Event}
use Rattle.ib_core.specs.declared.event.Answer.{Answer}
use Rattle.ib_core.specs.declared.session.Session.{Session}
use Rattle.ib_core.specs.Good.{IsProper}
use Rattle.ib_core.specs.Member.{SessionAmong}
use Rattle.ib_core.specs.Responses.{Response, answered}
use Rattle.ib_core.specs.Sessions.{grants}
use Rattle.ib_core.specs.Table.{response_of}
use Rattle.ib_core.specs.Turns.{marks_found}
use Rattle.ib_core.specs.Debts.{wish_of, won}
use Rattle.ib_layout.specs.Geometry.{Sizes}
use Rattle.ib_layout.specs.Places.{latches_of}
use Rattle.ib_logrec.specs.declared.entry.Entry.{Entry}
use Rattle.ib_logrec.specs.declared.entry.TheConstants.{MOST_SESSIONS}
use Rattle.ib_logrec.specs.Log.{used}
use Rattle.ib_rule.specs.declared.looks.Looks.{Looks}
use Rattle.ib_rule.specs.declared.memory.Knowledge.{Knowledge}
use Rattle.ib_rule.specs.declared.pass.Pass.TheInside.{Inside}
use Rattle.ib_rule.specs.declared.pass.TheConstants.{MOST_HELD}
use Rattle.ib_rule.specs.declared.view.Role.TheVariants.{Session as Seated}
use Rattle.ib_rule.specs.declared.view.View.{View}
use Rattle.ib_rule.specs.Roles.{sessions_in}
use Rattle.ib_rule.specs.Views.{KnowsHeld, total, turned, with_grant, longer, with_looks, with_memory}
use Rattle.ib_rule.specs.Pass.{IsPass, IsFront, IsWatching}
use Rattle.ib_rule.proofs.Watching.{watching_turned}

drawn_as : (m n : ℕ) → n ≡ m → (1 ≤ m) × (m ≤ MOST_SESSIONS) → (1 ≤ n) × (n ≤ MOST_SESSIONS)
drawn_as m n same is = let a = is.0 in let b = is.1 in (omega arith, omega arith)

-- the same lists are a front of the same log
front_of : (g h : Sizes) (m k : Knowledge) → h ≡ g → k.seen ≡ m.seen → k.own ≡ m.own → IsFront g m → IsFront h k
front_of g h m k sizes seen own is = record {
  mine = let a = ap length seen in let b = ap length own in let c = is.mine in omega arith;
  short = let a = ap length seen in let b = ap used seen in let c = is.short in omega arith;
  room = let b = ap used seen in let d = ap (λ (z : Sizes). z.log_words) sizes in let c = is.room in omega arith;
}

-- the pass whose member makes the turn that its seat made
pub pass_turned : (p q : Inside) (e : Event) (n : ℕ) (answer : Answer) (looks : Looks) → IsPass p
    → q.seat.me.1 ≡ p.seat.me.1 → q.seat.me.0 ≡ with_looks looks (turned e n p.seat.me.0)
    → IsProper q.seat.me.0.session → KnowsHeld q.seat.me.0 → ((l : ℕ) → grants l q.seat.me.0.session ≤ MOST_HELD) → total q.seat.me.0.grants ≤ 2 ^ 52 * sessions_in q.seat.me.0.role
    → answered answer q.member.session ≡ response_of (word_in n) (marks_found n) e p.member.session
    → q.grants ≡ with_grant (won answer (wish_of p.member.session.phase e)) p.grants
    → q.member.latches ≡ p.member.latches → q.geometry ≡ p.geometry
    → q.number ≡ p.number → q.place ≡ p.place → q.used ≡ p.used → q.made ≡ p.made → q.looked_after ≡ p.looked_after → q.words ≡ p.words → q.holder ≡ p.holder
    → IsPass q
pass_turned p q e n answer looks is plain view proper known few taken turn counts latches geometry number place used_is made looked_after words holder =
    let seen : q.seat.me.0.memory.seen ≡ p.seat.me.0.memory.seen = ap (λ (v : View). v.memory.seen) view in
    let own : q.seat.me.0.memory.own ≡ p.seat.me.0.memory.own = ap (λ (v : View). v.memory.own) view in
    let turn' : answered answer q.member.session ≡ response_of (word_in n) (marks_found n) e p.seat.me.0.session = turn ∙ ap (λ (a : Session). response_of (word_in n) (marks_found n) e a) is.session in
    let role : q.seat.me.0.role ≡ Seated p.number = ap (λ (v : View). v.role) view ∙ is.role in
    let phase : p.member.session.phase ≡ p.seat.me.0.session.phase = ap (λ (a : Session). a.phase) is.session in
    record {
      plain = plain ∙ is.plain;
      role = role ∙ ap (λ (k : ℕ). Seated k) (sym number);
      drawn = drawn_as p.number q.number number is.drawn;
      latches = latches ∙ (is.latches ∙ sym (ap latches_of geometry));
      session = ap (λ (r : Response). r.session) turn' ∙ sym (ap (λ (v : View). v.session) view);
      counts = counts ∙ ((λ j. with_grant (won (turn' j).answer (wish_of (phase j) e)) (is.counts j)) ∙ sym (ap (λ (v : View). v.grants) view));
      place = place ∙ (is.place ∙ sym (ap length seen));
      used = used_is ∙ (is.used ∙ sym (ap used seen));
      made = made ∙ (is.made ∙ sym (ap length own));
      watches = subst (λ (z : ℕ × View). IsWatching z.0 z.1) (λ j. (sym looked_after j, sym view j))
          (watching_turned p.looked_after n p.seat.me.0 e looks is.proper (subst (λ (v : View). IsProper v.session) view proper) is.watches);
      front = front_of p.geometry q.geometry p.seat.me.0.memory q.seat.me.0.memory geometry seen own is.front;
      proper = proper;
      known = known;
      few = few;
      taken = let one : sessions_in q.seat.me.0.role ≡ 1 = ap sessions_in role in omega arith;
      sized = rw words is.sized;
      holder = rw holder is.holder;
    }

-- a pass whose seat knows more of the log and the pages, with its mirrors of that
pub pass_knows : (p q : Inside) (m : Knowledge) → IsPass p → q.seat.me ≡ (with_memory m p.seat.me.0, p.seat.me.1) → KnowsHeld q.seat.me.0 → q.place ≡ length m.seen → q.used ≡ used m.seen → q.made ≡ length m.own → IsFront p.geometry m
    → q.geometry ≡ p.geometry → q.number ≡ p.number → q.member ≡ p.member → q.grants ≡ p.grants → q.words ≡ p.words → q.holder ≡ p.holder → IsWatching q.looked_after q.seat.me.0 → IsPass q
pass_knows p q m is same known place used_is made front geometry number member grants_are words holder watches =
    let view : q.seat.me.0 ≡ with_memory m p.seat.me.0 = ap (λ (m : Me (Unit {0}) View). m.0) same in record {
      plain = ap (λ (m : Me (Unit {0}) View). m.1) same ∙ is.plain;
      role = ap (λ (v : View). v.role) view ∙ (is.role ∙ ap (λ (k : ℕ). Seated k) (sym number));
      drawn = drawn_as p.number q.number number is.drawn;
      latches = ap (λ (s : SessionAmong). s.latches) member ∙ (is.latches ∙ sym (ap latches_of geometry));
      session = ap (λ (s : SessionAmong). s.session) member ∙ (is.session ∙ sym (ap (λ (v : View). v.session) view));
      counts = grants_are ∙ (is.counts ∙ sym (ap (λ (v : View). v.grants) view));
      place = place ∙ sym (ap (λ (v : View). length v.memory.seen) view);
      used = used_is ∙ sym (ap (λ (v : View). used v.memory.seen) view);
      made = made ∙ sym (ap (λ (v : View). length v.memory.own) view);
      watches = watches;
      front = front_of p.geometry q.geometry m q.seat.me.0.memory geometry (ap (λ (v : View). v.memory.seen) view) (ap (λ (v : View). v.memory.own) view) front;
      proper = subst (λ a. IsProper a) (sym (ap (λ (v : View). v.session) view)) is.proper;
      known = known;
      few = subst (λ a. (l : ℕ) → grants l a ≤ MOST_HELD) (sym (ap (λ (v : View). v.session) view)) is.few;
      taken = subst (λ g. total g ≤ 2 ^ 52) (sym (ap (λ (v : View). v.grants) view)) is.taken;
      sized = rw words is.sized;
      holder = rw holder is.holder;
    }

-- of two lists, by their entries and words, the longer one
pub longer_front : (xs ys : List Entry) (m n : ℕ × ℕ) → m ≡ (length xs, used xs) → n ≡ (length ys, used ys) → (if nat_lt m.0 n.0 then n else m) ≡ (length (longer xs ys), used (longer xs ys))
longer_front xs ys m n a b = by_test (nat_lt (length xs) (length ys)) (nat_lt m.0 n.0) (λ j. nat_lt (a j).0 (b j).0)
  where
    by_test : (s t : Bool) → t ≡ s → (if t then n else m) ≡ (length (if s then ys else xs), used (if s then ys else xs))
    by_test true true is = b
    by_test false false is = a
    by_test true false is = absurd (cc)
    by_test false true is = absurd (cc)

pub longer_fits : (sizes : Sizes) (m k : Knowledge) → IsFront sizes m → IsFront sizes k → length m.seen ≤ length (longer m.seen k.seen)
    → IsFront sizes (record m { met = []; seen = longer m.seen k.seen })
longer_fits sizes m k is other more =
    let both = by_test (nat_lt (length m.seen) (length k.seen)) in record { mine = let a = is.mine in omega arith; short = both.0; room = both.1 }
  where
    by_test : (b : Bool) → (length (if b then k.seen else m.seen) ≤ used (if b then k.seen else m.seen)) × (used (if b then k.seen else m.seen) ≤ sizes.log_words)
    by_test true = (other.short, other.room)
    by_test false = (is.short, is.room)
