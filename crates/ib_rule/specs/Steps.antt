-- What each kind of atomic step is: its word, its event of the latch machine, and the view after it.
use Rattle.std.specs.Prelude.{ℕ, ◌+◌, ◌-◌, ◌%◌, ◌^◌, Bool, false, ◌==◌, if◌then◌else◌, not, ◌∷◌, Option, Some, None}
use prog.Atomic.{either}
use Rattle.ib_word.specs.Word.{word_in}
use Rattle.ib_layout.specs.Places.{lock_place, waiters_place, writer_place, gen_place, ex_gen_place}
use Rattle.ib_core.specs.declared.latch_word.LatchWord.{LatchWord}
use Rattle.ib_core.specs.declared.latch_word.LatchWord.TheVariants.{Lock, Waiters, Writer, Generation, ExGeneration}
use Rattle.ib_core.specs.declared.phase.Phase.{Phase}
use Rattle.ib_core.specs.declared.phase.Phase.TheVariants.{Flagged}
use Rattle.ib_core.specs.declared.event.Event.{Event}
use Rattle.ib_core.specs.declared.event.Event.TheVariants.{Again, Arm, Exarm, Flag, Quit, Raise, Ready, Sleep}
use Rattle.ib_core.specs.declared.session.Session.{Session}
use Rattle.ib_core.specs.Responses.{latch_of}
use Rattle.ib_core.specs.Sessions.{holdings}
use Rattle.ib_core.specs.Takings.{is_given_at}
use Rattle.ib_core.specs.Turns.{word_for}
use Rattle.ib_rule.specs.declared.kind.StepKind.{StepKind}
use Rattle.ib_rule.specs.declared.kind.StepKind.TheVariants.{Turn, Try, Recheck, Look, StoreWriter, Enter, Count, Meet, LoadPage}
use Rattle.ib_rule.specs.declared.kind.WordOp.{WordOp}
use Rattle.ib_rule.specs.declared.kind.WordOp.TheVariants.{Load, Swap, Add, Sub, Exchange}
use Rattle.ib_rule.specs.declared.looks.Looks.{Looks}
use Rattle.ib_rule.specs.declared.view.View.{View}
use Rattle.ib_rule.specs.Roles.{entered}
use Rattle.ib_rule.specs.Views.{with_role, with_looks, with_memory, turned_by, signed, loading, forgets}

-- the place of a word of a latch
abbrev pub latch_word_place : LatchWord → ℕ → ℕ
latch_word_place Lock l = lock_place l
latch_word_place Waiters l = waiters_place l
latch_word_place Writer l = writer_place l
latch_word_place Generation l = gen_place l
latch_word_place ExGeneration l = ex_gen_place l

-- the word that a step leaves where it found n
abbrev pub run : WordOp → ℕ → ℕ
run Load n = n
run (Swap k) n = k
run (Add k) n = (n + k) % 2 ^ 64
run (Sub k) n = (n + (2 ^ 64 - k)) % 2 ^ 64
run (Exchange old new) n = either (n == old) new n

-- the wish of a session that has set the flag is refused at the word
abbrev pub refuses : Phase → ℕ → Bool
refuses (Flagged l mode v g) n = not (is_given_at mode (word_in n))
refuses _ n = false

-- the event that a step is, at the word found
abbrev pub event_at : StepKind → Session → ℕ → Option Event
event_at (Turn e) a n = Some e
event_at (Try e expected) a n = if n == expected then Some e else None
event_at (Recheck l) a n = if refuses a.phase n then Some (Again l) else None
event_at _ a n = None

-- a look more, of a session that holds this on the latch
abbrev pub looked : ℕ → ℕ → Option ℕ → ℕ → Looks → Looks
looked l found expected held k = record k { count = k.count + 1; steps = k.steps + 1; all = record { latch = l; found = found; expected = expected; at = k.steps; held = held } ∷ k.all }

-- a step more on a lock word, that is no look
abbrev pub stepped_on : Looks → Looks
stepped_on k = record k { steps = k.steps + 1 }

-- a step more of who waits
abbrev pub one_wait_more : Looks → Looks
one_wait_more k = record k { waits = k.waits + 1 }

-- a raise more, of this generation of the latch, which is this from then on
abbrev pub one_raise_more : ℕ → LatchWord → ℕ → Looks → Looks
one_raise_more l c now k = record k { raises = record { latch = l; word = c; now = now } ∷ k.raises }

-- the events on a flag or a generation, at the word found: the steps of who waits, and the raise. What else a release owes is no more than the words that it finds ask for
abbrev pub mark_looks : LatchWord → Event → ℕ → Looks → Looks
mark_looks c (Arm l mode v) n k = one_wait_more k
mark_looks c (Flag l) n k = one_wait_more k
mark_looks c (Quit l) n k = one_wait_more k
mark_looks c (Sleep l) n k = one_wait_more k
mark_looks c (Exarm l) n k = one_wait_more k
mark_looks c (Raise l) n k = one_raise_more l c (n + 1) k
mark_looks c e n k = k

-- a load of the lock word that is an event is a look all the same
abbrev pub turn_looks : LatchWord → Event → Session → ℕ → Looks → Looks
turn_looks Lock (Ready l) a n k = looked l n None (holdings l a) k
turn_looks Lock e a n k = stepped_on k
turn_looks c e a n k = mark_looks c e n k

abbrev pub looks_after : StepKind → Session → ℕ → Looks → Looks
looks_after (Turn e) a n k = turn_looks (word_for e a) e a n k
looks_after (Try e expected) a n k = looked (latch_of e) n (Some expected) (holdings (latch_of e) a) k
looks_after (Recheck l) a n k = looked l n None (holdings l a) k
looks_after (Look l) a n k = looked l n None (holdings l a) k
looks_after kind a n k = k

-- the view after a step of this kind that found this word, but for the steps of which `After` says more
abbrev pub view_after : StepKind → ℕ → View → View
view_after (StoreWriter l) n v = signed l v
view_after Enter n v = with_role (entered v.role) v
view_after Count n v = v
view_after Meet n v = with_memory (forgets v.memory) v
view_after (LoadPage q) n v = loading q n v
view_after kind n v = with_looks (looks_after kind v.session n v.looks) (turned_by (event_at kind v.session n) n v)
