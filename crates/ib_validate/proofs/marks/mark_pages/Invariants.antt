use Rattle.std.proofs.Common.{◌≡◌, ◌≤◌, ◌||◌, ℕ, length, take}
use Rattle.std.specs.Vec.{vec_capacity}
use Rattle.ib_map.specs.Writes.{touches}
use Rattle.ib_validate.specs.PatchTest.{IsListed}
use Rattle.ib_validate.specs.Positions.{marks_of}
use Rattle.ib_validate.proofs.marks.mark_pages.Given as goal

abbrev pub invariant-loop-write : goal.invariant-loop-write
invariant-loop-write l = record {
  marks : (page : ℕ) → marks_of l.written page ≡ (marks_of l.fn.written page || touches page (take l.write-index l.writes));
  listed : IsListed (marks_of l.written) l.pages.items (length l.fn.written);
  room : length l.fn.written ≤ vec_capacity l.pages;
}
