use Rattle.std.proofs.Common.{◌≡◌, length, take}
use Rattle.std.specs.List.{All}
use Rattle.ib_map.specs.declared.TheConstants.{PAGE_WORDS}
use Rattle.ib_planned_change.specs.Copies.{put_back}
use Rattle.ib_planned_change.proofs.copies.put_back.Given as goal

abbrev pub invariant-loop-place : goal.invariant-loop-place
invariant-loop-place l = record {
  put : l.images ≡ put_back (take l.place l.work) l.initial.images;
  whole : All (λ w. length w.changed ≡ PAGE_WORDS) (take l.place l.work);
}
