-- The next pair is put in behind those that are there.
use Rattle.std.proofs.Common.{◌≡◌, ◌∙◌, ◌++◌, ◌∷◌, [], ℕ, sym, ap, subst, append_assoc}
use Rattle.std.specs.Map.Iter.{deref_pair}
use Rattle.std.proofs.lemmas.Map.Iter.{rest_more}
use Rattle.ib_map.specs.Keys.{MapKey}
use Rattle.ib_map.specs.Map.{IsMap}
use Rattle.ib_map.specs.Pairs.{put}
use Rattle.ib_sorted_map.proofs.EntryLaws.{put-last}
use Rattle.ib_sorted_map.proofs.sorted.SortedMap.to_plain.Goals as goal

pub loop-key-preserved : goal.loop-key-preserved
loop-key-preserved c =
    let pair : MapKey × ℕ = (c.in-Some.key.now, c.in-Some.value.now) in
    let next = rest_more deref_pair c.loop-key.key-iterator c.next.new.self c.next.result (c.in-Some.key, c.in-Some.value) c.in-Some.is c.next.ensures.steps in
    let whole : c.loop-key.plain ++ pair ∷ c.next.new.self ≡ c.args.self.now = ap (λ xs. c.loop-key.plain ++ xs) (sym next) ∙ c.loop-key.invariant in
    let is_map : IsMap c.args.self.now = subst IsMap c.self.view_is c.self.invariant in
    let put_is = c.in_ok-put_last.ensures ∙ (ap (λ key. put key c.in-Some.value.now c.loop-key.plain) c.key.ensures ∙ put-last c.loop-key.plain pair c.next.new.self (subst IsMap (sym whole) is_map)) in
    ap (λ xs. xs ++ c.next.new.self) put_is ∙ (append_assoc c.loop-key.plain (pair ∷ []) c.next.new.self ∙ whole)
