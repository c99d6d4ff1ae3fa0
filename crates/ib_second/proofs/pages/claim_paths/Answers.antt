-- The descent ends on both paths.
use Rattle.std.proofs.Common.{◌≡◌, true, arith, subst}
use Rattle.ib_map.proofs.KeyLaws.{rank-lt_end}
use Rattle.ib_map.specs.Space.{has_pages}
use Rattle.ib_layout.specs.Geometry.{Sizes}
use Rattle.ib_second.proofs.ComeLaws.{has-come}
use Rattle.ib_second.proofs.pages.claim_paths.Goals as goal

pub descend_pair_to_insert-first-requires-clause-first : goal.descend_pair_to_insert-first-requires-clause-first
descend_pair_to_insert-first-requires-clause-first g c = record { some = omega arith; there = omega arith; is_key = rank-lt_end c.args.key }

pub descend_pair_to_insert-first-requires-clause-other : goal.descend_pair_to_insert-first-requires-clause-other
descend_pair_to_insert-first-requires-clause-other g c = record { some = omega arith; there = omega arith; is_key = rank-lt_end c.args.second }

pub returns-clause-come : goal.returns-clause-come
returns-clause-come g c =
    let sizes : Sizes = c.args.mtr.now.latches.now.sizes in
    let size : c.geometry.result ≡ sizes = c.geometry.ensures in
    let fits = subst (λ (s : Sizes). has_pages s.pages ≡ true) size (subst (λ n. has_pages n ≡ true) c.pages.ensures.pages c.pages.ensures.in_range) in
    has-come sizes fits c.args.key c.descend_pair_to_insert-first.result.0 c.args.second c.descend_pair_to_insert-first.result.1 c.args.mtr.now.pass.now c.descend_pair_to_insert-first.new.mtr.pass.now
    c.descend_pair_to_insert-first.ensures.claimed
