-- Words that are no key's, a record without a slot, and one with a slot.
use Rattle.std.proofs.Common.{arith, refl, ◌≡◌, ◌≤◌, ◌+◌, ◌%◌, get_or, subst, sym, Some, suc}
use Rattle.ib_map.specs.Keys.{MapKey, rank}
use Rattle.ib_map.proofs.KeyLaws.{rank-lt_end}
use Rattle.ib_heap.specs.Chain.{key_at}
use Rattle.ib_heap.specs.declared.formed.ChainStep.{ChainStep}
use Rattle.ib_heap.specs.Walks.{chain_holds, low_of}
use Rattle.ib_heap.proofs.FormedSteps.{holds-keyless, holds-none, holds-some, holds-unowned}
use Rattle.ib_heap.proofs.formed.ChainStep.next.Goals as goal

pub returns-in_err-key : goal.returns-in_err-key
returns-in_err-key c = rw c.from_residual.ensures (λ m. holds-keyless c.args.words.now c.args.self m c.in_err-key.ensures)

pub returns-then-header-eq0 : goal.returns-then-header-eq0
returns-then-header-eq0 c =
    let ws = c.args.words.now in
    let s : ChainStep = c.args.self in
    let is = c.in_ok-key.ensures in
    let above : low_of s.last ≤ rank (key_at ws s.at) = subst (λ (k : MapKey). low_of s.last ≤ rank k) is.1 (c.is_above.ensures.0 c.if-not-is_above.false) in
    record {
      at = refl;
      holds = λ m. subst (λ (k : MapKey). chain_holds ws (suc m) s ≡ chain_holds ws m (let t : ChainStep = record { at = get_or ws s.at 0 % 256; owned = s.owned + 1; slot = s.slot; last = Some k } in t)) (sym is.1)
          (holds-none ws s m c.if-header-eq0.true above is.0);
      owned = omega arith;
      last = (let r = rank-lt_end c.in_ok-key.key in omega arith);
    }

pub returns : goal.returns
returns c =
    let ws = c.args.words.now in
    let s : ChainStep = c.args.self in
    let is = c.in_ok-key.ensures in
    let above : low_of s.last ≤ rank (key_at ws s.at) = subst (λ (k : MapKey). low_of s.last ≤ rank k) is.1 (c.is_above.ensures.0 c.if-not-is_above.false) in
    record {
      at = refl;
      holds = λ m. subst (λ (k : MapKey). chain_holds ws (suc m) s ≡ chain_holds ws m (let t : ChainStep = record { at = get_or ws s.at 0 % 256; owned = 0; slot = s.slot + 1; last = Some k } in t)) (sym is.1)
          (holds-some ws s m (λ z. absurd (let f = c.if-header-eq0.false in f z)) (c.is_slot.ensures.0 c.if-not-is_slot.false) (c.has_owner.ensures.0 c.if-not-has_owner.false) above is.0);
      owned = omega arith;
      last = (let r = rank-lt_end c.in_ok-key.key in omega arith);
    }

pub returns-then-not-has_owner : goal.returns-then-not-has_owner
returns-then-not-has_owner c m =
    holds-unowned c.args.words.now c.args.self m (λ z. absurd (let f = c.if-header-eq0.false in f z)) (λ both. absurd (let yes = c.has_owner.ensures.1 both in let bad = c.if-not-has_owner.true in cc))
