-- What keeps it that each entry was written where the longest one had room.
use Rattle.std.proofs.Common.{◌≡◌, ◌⊎◌, ⊎_elim, inl, inr, ℕ, ◌+◌, ◌≤◌, List, [], ◌∷◌, ◌++◌, length, refl, sym, ap, ◌∙◌, arith, length-append, append_assoc}
use mathlib.Core.List.{IsPrefix}
use Rattle.ib_layout.specs.Geometry.{Sizes}
use Rattle.ib_logrec.specs.declared.entry.Entry.{Entry}
use Rattle.ib_logrec.specs.Words.{words_of_entry}
use Rattle.ib_logrec.specs.Log.{used}
use Rattle.ib_logrec.proofs.EntryLaws.{length-words_of_entry}
use Rattle.ib_core.specs.declared.session.Session.{Session}
use Rattle.ib_rule.specs.declared.pass.TheConstants.{ENTRY_WORDS}
use Rattle.ib_rule.specs.Room.{HadRoom}
use Rattle.ib_rule.specs.Memory.{MayComeBehind}

-- an element of a list one longer stands behind the whole of it, or in it
place-push : {A : Type 0} (xs front back : List A) (x y : A) → xs ++ x ∷ [] ≡ front ++ y ∷ back → (front ≡ xs) ⊎ ((rest : List A) × (xs ≡ front ++ y ∷ rest))
place-push [] [] back x y is = inl refl
place-push [] (z ∷ front) back x y is = let long = ap length is in let more = length-append front (y ∷ back) in absurd (omega arith)
place-push (z ∷ xs) [] back x y is = inr (xs, let q : z ≡ y = cc in λ i. q i ∷ xs)
place-push {A = A} (z ∷ xs) (w ∷ front) back x y is =
    let head : w ≡ z = cc in let tail : xs ++ x ∷ [] ≡ front ++ y ∷ back = cc in
    ⊎_elim (λ (same : front ≡ xs). inl (λ i. head i ∷ same i))
    (λ (more : (rest : List A) × (xs ≡ front ++ y ∷ rest)). inr (more.0, λ i. sym head i ∷ more.1 i))
    (place-push xs front back x y tail)

-- no entry was written
pub had_room-empty : (words : ℕ) → HadRoom words []
had_room-empty words [] e back is = absurd (cc)
had_room-empty words (x ∷ front) e back is = absurd (cc)

-- one entry more, where the longest one has room
pub had_room-push : (words : ℕ) (log : List Entry) (e : Entry) → HadRoom words log → used log + ENTRY_WORDS ≤ words → HadRoom words (log ++ e ∷ [])
had_room-push words log e had longest front x back is =
    ⊎_elim (λ (whole : front ≡ log). let same = ap used whole in omega arith)
    (λ (more : (rest : List Entry) × (log ≡ front ++ x ∷ rest)). had front x more.0 more.1)
    (place-push log front back e x is)

-- a log of more words
pub had_room-wider : (words more : ℕ) (log : List Entry) → words ≤ more → HadRoom words log → HadRoom more log
had_room-wider words more log wider had front e back is = let room = had front e back is in omega arith

-- a front of the log
pub had_room-front : (words : ℕ) (log longer : List Entry) → IsPrefix log longer → HadRoom words longer → HadRoom words log
had_room-front words log longer front had first e back is =
    had first e (back ++ front.0) (sym front.1 ∙ (ap (λ l. l ++ front.0) is ∙ append_assoc first (e ∷ back) front.0))

-- where the longest entry has room, the one that comes has
pub room-of : (sizes : Sizes) (lawful : List Entry → Type 0) (number made : ℕ) (a : Session) (log : List Entry) (e : Entry) → MayComeBehind sizes lawful number made a log e
    → used log + length (words_of_entry e) ≤ sizes.log_words
room-of sizes lawful number made a log e may = let long = length-words_of_entry e in let most = may.grammar.most_writes in let longest = may.longest in omega arith
