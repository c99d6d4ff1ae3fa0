-- A whole scan that never waits, from its start to its end.
use Rattle.std.proofs.Common.{◌≡◌, inl, inr, ℕ, ◌+◌, ◌*◌, ◌≤◌, None, Some, List, [], ◌++◌, length, refl, sym, ap, subst, ◌∙◌, arith}
use Rattle.ib_map.specs.Chunks.{HeldChunks}
use Rattle.ib_map.specs.Keys.{MapKey, rank}
use Rattle.ib_levels.specs.declared.level.Mode.TheVariants.{S}
use Rattle.ib_layout.specs.Geometry.{Sizes}
use Rattle.ib_heap.specs.declared.TheConstants.{MOST_LEVEL}
use Rattle.ib_logrec.specs.declared.entry.Entry.{Entry}
use Rattle.ib_tree.specs.Logs.{pages_after}
use Rattle.ib_tree.specs.Scans.{AreFront}
use Rattle.ib_rule.specs.declared.looks.Grants.{Grants}
use Rattle.ib_rule.specs.Pass.{PassState}
use Rattle.ib_latch.proofs.RefusalLaws.{refused_later}
use Rattle.ib_mtr.specs.Mtr.{finished, started}
use Rattle.ib_cursor.specs.declared.fault.NowaitFault.{NowaitFault}
use Rattle.ib_cursor.specs.Contention.{IsContended, refused_latch}
use Rattle.ib_cursor.specs.Going.{WentOn}
use Rattle.ib_cursor.specs.Refusals.{AreFewLooks, looks_of, try_of}
use Rattle.ib_cursor.proofs.LatchingLaws.{IsBeside, added_both, known_beside, went_beside, went_both}
use Rattle.ib_cursor.proofs.RefusalLaws.{few_both}
use Rattle.ib_scan.specs.Scanning.{AreHeld}
use Rattle.ib_scan.specs.Scans.{HasAll}
use Rattle.ib_scan.specs.Steps.{HasBegun, HasRunToEnd, TookTwo}
use Rattle.ib_scan.proofs.FrontLaws.{appends_none, front_lower}
use Rattle.ib_scan.proofs.WholeLaws.{HasFirstLook, first_look, scanned_by, took_two}
use Rattle.ib_scan_nowait.specs.declared.halt.Halt.{Halt}
use Rattle.ib_scan_nowait.specs.declared.halt.Halt.TheVariants.{NoRoom, Refused}
use Rattle.ib_scan_nowait.specs.Halts.{HasHalted, HasStoppedAtOnce, IsLeafToCome, IsRefusedScan}
use Rattle.ib_scan_nowait.specs.Steps.{HasRunTo, HasRunToFull, HasRunToRefusal}
use Rattle.ib_scan_nowait.proofs.LookLaws.{HasGivenAll, few_as, refused_reader}

-- a latch was refused on the way to the first leaf
pub contended_scan : (sizes : Sizes) (lawful : List Entry → Type 0) (opening : ℕ → ℕ) (root : ℕ) (low high : MapKey) → rank low ≤ rank high → (f : NowaitFault) (out : HeldChunks) (p q t : PassState)
    → IsContended sizes lawful opening root low f (started p) q → AreFewLooks (looks_of f) p.view q.view → q.view.looks.count ≤ p.view.looks.count + 2 * (MOST_LEVEL + 2) → t ≡ finished q → IsRefusedScan sizes lawful opening root low high low f out out p t
contended_scan sizes lawful opening root low high le f out p q t h few looks is =
    let look = first_look h.went.added (length p.view.memory.seen) (length q.view.memory.seen) h.looked h.went.bounds in
    let s = h.s in
    subst (IsRefusedScan sizes lawful opening root low high low f out out p) (sym is) (record {
      gone = record {
        spans = [];
        appends = appends_none out;
        short = tt;
        went = record { table = h.went.table; sizes = h.went.sizes; number = h.went.number; own = h.went.own; more = h.went.more; seen = h.went.seen; added = h.went.added; ends = h.went.ends; bounds = h.went.bounds };
        first = look.first;
        rest = look.rest;
        looks = look.is;
        known = record { legal = h.known.legal; room = h.known.room; mine = h.known.mine };
        s = omega arith;
        sx = h.sx;
        x = h.x;
      };
      last = look.first;
      chunks = (refl, refl);
      held = tt;
      within = look.le;
      from = omega arith;
      to = le;
      none = λ e. refl;
      refused = refused_reader f p.view.looks q.view.looks h.refused;
      few = record { least = few.least; most = few.most; waits = few.waits };
      at = inl (record { none = refl; on_path = h.on_path; few = looks });
    })

-- from the start to the end: the pass as the caller sees it, as it was when the scan had its first leaf, as the loop left it, and once all was given up
module _ (sizes : Sizes) (lawful : List Entry → Type 0) (opening : ℕ → ℕ) (roots root : ℕ) (low high : MapKey) (leaf : ℕ) (out new : HeldChunks) (p q r s : PassState) (b : HasBegun sizes lawful opening roots root low leaf (started p) q)
    (gave : HasGivenAll r s) (two : p.view.grants.s + 2 ≤ q.view.grants.s) (few : AreFewLooks 0 p.view q.view) where
  abbrev end : PassState
  end = finished s

  pub few_all : AreFewLooks 0 q.view r.view → AreFewLooks 0 p.view end.view
  few_all looks = few_as 0 p.view r.view end.view gave.count gave.waits gave.aside.grants (few_both 0 p.view q.view r.view few looks)

  pub scanned_all : HasRunToEnd sizes lawful opening root leaf low high out new q r → HasAll sizes lawful opening root low high out new p end
  scanned_all h = scanned_by sizes lawful opening roots root low high leaf out new p q r s end b gave.aside refl None h

  pub two_all : HasRunToEnd sizes lawful opening root leaf low high out new q r → TookTwo p end
  two_all h = took_two p q r s end two h.run.least gave.aside refl

  stopped : (next : MapKey) → HasRunToFull sizes lawful opening roots root leaf low high next out new q r → HasStoppedAtOnce sizes lawful opening root low high next out new p end
  stopped next h = record {
    stopped = scanned_by sizes lawful opening roots root low high leaf out new p q r s end b gave.aside refl (Some (record { next = next; kept = h.kept })) h.run;
    least = (took_two p q r s end two h.run.run.least gave.aside refl).s;
    few = few_all h.few;
  }

  look : HasFirstLook b.went.added (length q.view.memory.seen)
  look = first_look b.went.added (length p.view.memory.seen) (length q.view.memory.seen) b.looked b.went.bounds

  beside : IsBeside r end
  beside = record { table = gave.aside.table; sizes = gave.aside.sizes; number = gave.aside.number; own = gave.aside.own; seen = gave.aside.seen; ends = gave.aside.ends }

  abbrev later : WentOn q r → WentOn q end
  later w = went_both q r end w (went_beside r end beside)

  abbrev went : WentOn q r → WentOn p end
  went w =
      let on = went_both (started p) q end b.went (later w) in
      record { table = on.table; sizes = on.sizes; number = on.number; own = on.own; more = on.more; seen = on.seen; added = on.added; ends = on.ends; bounds = on.bounds }

  refused : (next : MapKey) (f : NowaitFault) → HasRunToRefusal sizes lawful opening root low high next f out new q r → IsRefusedScan sizes lawful opening root low high next f out new p end
  refused next f h =
      let gs = ap (λ (g : Grants). g.s) gave.aside.grants in let gsx = ap (λ (g : Grants). g.sx) gave.aside.grants in let gx = ap (λ (g : Grants). g.x) gave.aside.grants in
      let bs = b.s in let bsx = b.sx in let bx = b.x in let hs = h.s in let hsx = h.sx in let hx = h.x in let least = h.least in
      let front = front_lower opening root high r.view.memory.seen low (length q.view.memory.seen) look.first h.spans next h.last look.le h.chunks in
      record {
        gone = record {
          spans = h.spans;
          appends = h.appends;
          short = h.short;
          went = went h.went;
          first = look.first;
          rest = look.rest ++ (later h.went).added;
          looks = added_both (started p) q end b.went (later h.went) ∙ ap (λ ns. ns ++ (later h.went).added) look.is;
          known = known_beside sizes lawful r end beside h.known;
          s = omega arith;
          sx = omega arith;
          x = omega arith;
        };
        last = front.last;
        chunks = subst (λ es. AreFront opening es root low high look.first h.spans next front.last) (sym gave.aside.seen) front.front;
        held = subst (λ es. AreHeld opening es root high h.spans (length es)) (sym gave.aside.seen) h.held;
        within = let a = front.le in let b = h.within in let c = ap length gave.aside.seen in omega arith;
        from = h.from;
        to = h.to;
        none = h.none;
        refused = refused_later S (refused_latch f) (try_of f) p.view.looks q.view.looks r.view.looks end.view.looks few.least h.refused gave.all gave.count;
        few = few_as (looks_of f) p.view r.view end.view gave.count gave.waits gave.aside.grants (few_both (looks_of f) p.view q.view r.view few h.few);
        at = inr (record {
          to_come = subst (λ es. IsLeafToCome (pages_after opening es) root next (refused_latch f)) (sym gave.aside.seen) h.to_come;
          spare = h.spare;
          least = omega arith;
        });
      }

  pub halted_so : (halt : Halt) → HasRunTo sizes lawful opening roots root leaf low high halt out new q r → HasHalted sizes lawful opening root low high halt out new p end
  halted_so (NoRoom next) h = stopped next h
  halted_so (Refused next f) h = refused next f h
