-- One session tells another what it has seen, between two looks of that one.
use Rattle.std.proofs.Common.{ap, ◌∙◌, ◌≤◌, ◌≡◌, length, subst, sym}
use Rattle.std.specs.List.{AllByRecursion}
use mathlib.Core.List.{IsPrefix}
use Rattle.atomic_table.specs.Table.{Me}
use Rattle.ib_rule.specs.declared.view.View.{View}
use Rattle.ib_rule.specs.Stores.{IsLook}
use Rattle.ib_rule.specs.Views.{forgets, with_memory, with_note}
use Rattle.ib_rule.proofs.Looking.{looked_twice}
use Rattle.ib_rule.proofs.Meeting.{notes, takes_note, meets, longest}
use Rattle.ib_rule.proofs.seats.tell.Goals as goal

pub act-requires-clause-allowed : goal.act-requires-clause-allowed
act-requires-clause-allowed g c = meets g.L.Law.lawful g.L.Law.opening _ _ _ _ _ c.requires.pages g.met.L.Law.begins

pub split_seat-note-requires : goal.split_seat-note-requires
split_seat-note-requires g c = (c.requires.table.1, c.requires.words, notes g.L.Law.lawful g.L.Law.opening _ _ _)

pub join_seat-requires : goal.join_seat-requires
join_seat-requires g c = (
  c.act.ensures.own.0 ∙ c.requires.table.0,
  c.split_seat-note.ensures.3 ∙ c.requires.table.1,
  ap (λ (m : Me (Unit {0}) View). m.1) c.split_seat-note.ensures.4,
  c.requires.words,
  takes_note g.L.Law.lawful g.L.Law.opening _ _ _ _ _ (ap (λ (m : Me (Unit {0}) View). m.0.role) c.split_seat-note.ensures.4) (ap (λ (m : Me (Unit {0}) View). m.0.session) c.split_seat-note.ensures.4)
      (ap (λ (m : Me (Unit {0}) View). m.0.memory.append) c.split_seat-note.ensures.4) (ap (λ (m : Me (Unit {0}) View). m.0.grants) c.split_seat-note.ensures.4),
)

pub act-requires-2-clause-allowed : goal.act-requires-2-clause-allowed
act-requires-2-clause-allowed g c = meets g.L.Law.lawful g.L.Law.opening _ _ _ _ _ c.requires.pages g.met.L.Law.begins

-- what was met is met in what is seen now
met_there : (v w j : View) → j ≡ with_note (with_memory (forgets v.memory) v) w → AllByRecursion (λ xs. length xs ≤ length j.memory.seen → IsPrefix xs j.memory.seen) j.memory.met → IsPrefix v.memory.seen j.memory.seen × IsPrefix w.memory.seen j.memory.seen
met_there v w j joined met =
    let all = subst (λ (u : View). AllByRecursion (λ xs. length xs ≤ length u.memory.seen → IsPrefix xs u.memory.seen) u.memory.met) joined met in
    let back = sym (ap (λ (u : View). u.memory.seen) joined) in
    let far = longest v.memory.seen w.memory.seen in
    (subst (λ xs. IsPrefix v.memory.seen xs) back (all.0 far.0), subst (λ xs. IsPrefix w.memory.seen xs) back (all.1.0 far.1.0))

pub returns-clause-looked : goal.returns-clause-looked
returns-clause-looked g c =
    let v : View = c.args.to.now.me.0 in let w : View = c.split_seat-note.result.me.0 in let j : View = c.join_seat.new.seat.me.0 in
    let first = c.act.ensures.told.0.view in let second = c.act-2.ensures.told.0.view in
    let joined : j ≡ with_note (with_memory (forgets v.memory) v) w = ap (λ (m : Me (Unit {0}) View). m.0) c.join_seat.ensures.2 ∙ ap (λ (u : View). with_note u w) first.0 in
    subst (λ es. IsLook c.args.shared.now.key (g.L.Law.lawful c.args.shared.now.key.pages) v es) (sym (ap (λ (u : View). u.memory.seen) second.0))
    (looked_twice c.args.shared.now.key (g.L.Law.lawful c.args.shared.now.key.pages) v j (ap (λ (u : View). u.role) joined) (ap (λ (u : View). u.session) joined) (ap (λ (u : View). u.memory.own) joined)
    (ap (λ (u : View). u.memory.since) joined) c.requires.number first.1 second.1 (met_there v w j joined second.1.met).0)

pub returns-clause-theirs : goal.returns-clause-theirs
returns-clause-theirs g c =
    let v : View = c.args.to.now.me.0 in let w : View = c.split_seat-note.result.me.0 in let j : View = c.join_seat.new.seat.me.0 in
    let first = c.act.ensures.told.0.view in let second = c.act-2.ensures.told.0.view in
    let joined : j ≡ with_note (with_memory (forgets v.memory) v) w = ap (λ (m : Me (Unit {0}) View). m.0) c.join_seat.ensures.2 ∙ ap (λ (u : View). with_note u w) first.0 in
    let theirs : w.memory.seen ≡ c.args.from.now.me.0.memory.seen = ap (λ (m : Me (Unit {0}) View). m.0.memory.seen) c.split_seat-note.ensures.4 in
    subst (λ xs. IsPrefix xs c.act-2.new.seat.me.0.memory.seen) theirs
    (subst (λ xs. IsPrefix w.memory.seen xs) (sym (ap (λ (u : View). u.memory.seen) second.0)) (met_there v w j joined second.1.met).1)
