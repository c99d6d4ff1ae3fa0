-- The parts of the test, joined.
use Rattle.std.proofs.Common.{◌∙◌, ◌-◌, ◌/◌, ◌%◌, ◌&&◌, sym, ap, get_or, ℕ, List, eqb, inl, inr}
use Rattle.std.proofs.lemmas.Bool.{cases_Bool}
use Rattle.ib_heap.specs.Chain.{read_chain}
use Rattle.ib_heap.specs.Walks.{are_new, free_end}
use Rattle.ib_heap.proofs.HeapLaws.{IsHeap-Decides}
use Rattle.ib_heap.proofs.FormedParts.{refuse, header-of, limits-of, slots-of, chain-of, free-of, formed-from}
use Rattle.ib_heap.proofs.formed.has_heap.Goals as goal

pub returns-then-not-has_header : goal.returns-then-not-has_header
returns-then-not-has_header c = refuse c.args.words.now (λ k. absurd (let yes = c.has_header.ensures.1 (header-of c.args.words.now k) in let bad = c.if-not-has_header.true in cc))

pub returns-then-not-has_limits : goal.returns-then-not-has_limits
returns-then-not-has_limits c = refuse c.args.words.now (λ k. absurd (let yes = c.has_limits.ensures.1 (limits-of c.args.words.now k) in let bad = c.if-not-has_limits.true in cc))

pub returns-then-not-has_slots : goal.returns-then-not-has_slots
returns-then-not-has_slots c = refuse c.args.words.now (λ k. absurd (let yes = c.has_slots.ensures.1 (slots-of c.args.words.now k) in let bad = c.if-not-has_slots.true in cc))

pub returns-then-not-has_chain : goal.returns-then-not-has_chain
returns-then-not-has_chain c = refuse c.args.words.now (λ k. absurd (let yes = c.has_chain.ensures.holds ∙ chain-of c.args.words.now k c.unmet-met.result c.unmet-met.ensures in let bad = c.if-not-has_chain.true in cc))

pub returns : goal.returns
returns c =
    let ws = c.args.words.now in
    let met = c.has_chain.ensures.meets c.if-not-has_chain.false in
    let same = ap (λ (v : List ℕ). are_new ((get_or ws 7 0 % 256 - 20) / 4) v (read_chain ws).free && eqb (free_end ws ((get_or ws 7 0 % 256 - 20) / 4 - get_or ws 2 0) (get_or ws 6 0)) 0) met in
    elim (cases_Bool c.has_free.result) [
      | inl good ↦ good ∙ sym ((IsHeap-Decides ws (read_chain ws)).1 (formed-from ws c.unmet-met.result c.unmet-met.ensures c.requires (c.has_header.ensures.0 c.if-not-has_header.false) (c.has_limits.ensures.0 c.if-not-has_limits.false)
          (c.has_slots.ensures.0 c.if-not-has_slots.false) (sym c.has_chain.ensures.holds ∙ c.if-not-has_chain.false) (sym same ∙ (sym c.has_free.ensures ∙ good))))
      | inr bad ↦ bad ∙ refuse ws (λ k. absurd (let yes = c.has_free.ensures ∙ (same ∙ free-of ws k c.unmet-met.result c.unmet-met.ensures) in cc))
    ]
