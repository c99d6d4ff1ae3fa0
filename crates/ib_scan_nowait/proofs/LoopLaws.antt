-- From leaf to leaf by tries, and from chunk to chunk.
use Rattle.std.proofs.Common.{◌≡◌, ◌⊎◌, inl, inr, ℕ, ◌<◌, ◌≤◌, List, [], ◌∷◌, ◌++◌, length, refl, sym, ap, subst, ◌∙◌, arith}
use Rattle.ib_map.specs.Chunks.{HeldChunks}
use Rattle.ib_map.specs.Keys.{MapKey, rank}
use Rattle.ib_levels.specs.declared.level.Mode.TheVariants.{S}
use Rattle.ib_layout.specs.Geometry.{Sizes}
use Rattle.ib_heap.specs.declared.TheConstants.{MOST_RECORDS}
use Rattle.ib_page.specs.Image.{next_of}
use Rattle.ib_page.specs.Work.{WorkPage}
use Rattle.ib_logrec.specs.declared.entry.Entry.{Entry}
use Rattle.ib_logrec.specs.Log.{memory_after}
use Rattle.ib_walk.specs.Words.{image_of}
use Rattle.ib_tree.specs.Logs.{pages_after}
use Rattle.ib_tree.specs.Scans.{AreFront}
use Rattle.ib_rule.specs.declared.looks.Grants.{Grants}
use Rattle.ib_rule.specs.Pass.{PassState}
use Rattle.ib_latch.proofs.RefusalLaws.{refused_later}
use Rattle.ib_cursor.specs.declared.fault.NowaitFault.{NowaitFault}
use Rattle.ib_cursor.specs.declared.position.Position.{Position}
use Rattle.ib_cursor.specs.Contention.{refused_latch}
use Rattle.ib_cursor.specs.Laws.{Laws}
use Rattle.ib_cursor.specs.Refusals.{AreFewLooks, looks_of, try_of}
use Rattle.ib_cursor.proofs.LatchingLaws.{seen_longer, went_both}
use Rattle.ib_cursor.proofs.RefusalLaws.{few_both}
use Rattle.ib_scan.specs.declared.walk.Found.{Found}
use Rattle.ib_scan.specs.Scanning.{AreHeld}
use Rattle.ib_scan.specs.Steps.{HasFront, HasReachedEnd, IsAlong, IsAside, IsOnLeaf, IsScannedTo}
use Rattle.ib_scan.specs.Walked.{IsReadOf, ReadLeaf, first_read}
use Rattle.ib_scan.proofs.FrontLaws.{front_longer}
use Rattle.ib_scan.proofs.HoldLaws.{held_on}
use Rattle.ib_scan.proofs.KeptLaws.{kept_here}
use Rattle.ib_scan.proofs.LoopLaws.{full, halted, span_read}
use Rattle.ib_scan.proofs.PassLaws.{first_push}
use Rattle.ib_scan.proofs.WalkedLaws.{walked_begins}
use Rattle.ib_scan_nowait.specs.Halts.{IsLeafToCome}
use Rattle.ib_scan_nowait.specs.Steps.{HasRunToFull, HasRunToRefusal, IsNextRefused, IsRefusedFrom, leaf_after, read_on}
use Rattle.ib_scan_nowait.proofs.NextLaws.{leaf_to_come}

-- the leaf that alone is loaded
abbrev leaf-in : List WorkPage → ReadLeaf
leaf-in [] = read_on 0 []
leaf-in (w ∷ ws) = read_on w.page w.before

module _ (sizes : Sizes) (roots : ℕ) (lawful : List Entry → Type 0) (opening : ℕ → ℕ) (laws : Laws sizes.pages roots lawful opening) where
  -- the next leaf was refused behind those that were passed over
  pub refused_from : (from : ℕ) (start : MapKey) (p : PassState) (h : IsOnLeaf sizes lawful opening roots from start p) (leaf passed : ℕ) (q : PassState) (a : IsAlong sizes lawful opening roots h.root start leaf passed p q) → AreFewLooks 0 p.view q.view
      → (f : NowaitFault) (r : PassState) → IsNextRefused sizes lawful opening roots h.root start a.ps a.last f q r → IsRefusedFrom sizes lawful opening h.root start (read_on from h.image) f p r
  refused_from from start p h leaf passed q a few f r n =
      let gs = ap (λ (g : Grants). g.s) n.grants in let gsx = ap (λ (g : Grants). g.sx) n.grants in let gx = ap (λ (g : Grants). g.x) n.grants in
      let s = a.s in let sx = a.sx in let x = a.x in let most = a.few in
      let there : ReadLeaf = leaf_after opening r.view.memory.seen (next_of a.last.image) in
      let first : first_read (a.ps ++ a.last ∷ []) there ≡ read_on from h.image = first_push a.ps a.last there ∙ ap (λ ws. leaf-in ws) (sym a.begins ∙ h.scans.work) in
      record {
        went = went_both p q r a.went n.went;
        known = n.known;
        least = omega arith;
        s = omega arith;
        sx = omega arith;
        x = omega arith;
        refused = refused_later S (refused_latch f) (try_of f) p.view.looks q.view.looks r.view.looks r.view.looks few.least n.refused refl refl;
        few = few_both (looks_of f) p.view q.view r.view few n.few;
        to_come = subst (IsLeafToCome (pages_after opening r.view.memory.seen) h.root start) (sym n.at)
            (leaf_to_come sizes roots lawful opening laws h.root start a.ps a.last r.view.memory.seen n.known.legal there n.walked);
        still = subst (IsReadOf opening r.view.memory.seen) first
            (walked_begins sizes.pages roots lawful opening laws h.root r.view.memory.seen n.known.legal start (a.ps ++ a.last ∷ []) there n.walked);
      }

  module _ (root begun leaf : ℕ) (low start high : MapKey) (out0 out : HeldChunks) (p0 p : PassState) (i : IsScannedTo sizes lawful opening roots root begun leaf low start high out0 out p0 p) (few : AreFewLooks 0 p0.view p.view) where
    -- a leaf was refused on the way to the next chunk
    pub run_refused : 0 < out.chunk_room → (f : NowaitFault) (q : PassState) → IsRefusedFrom sizes lawful opening root start (read_on leaf i.image) f p q → HasRunToRefusal sizes lawful opening root low high start f out0 out p0 q
    run_refused some f q h =
        let s = h.s in let sx = h.sx in let x = h.x in let least = h.least in let is = i.up_to.s in let isx = i.up_to.sx in let ix = i.up_to.x in let taken = i.up_to.taken in
        let room = i.up_to.appends.chunk_room in
        record {
          spans = i.up_to.spans;
          appends = i.up_to.appends;
          short = i.up_to.short;
          went = went_both p0 p q i.up_to.went h.went;
          known = h.known;
          least = omega arith;
          s = omega arith;
          sx = omega arith;
          x = omega arith;
          last = i.up_to.last;
          chunks = subst (λ es. AreFront opening es root low high (length p0.view.memory.seen) i.up_to.spans start i.up_to.last) (sym h.went.seen)
              (front_longer opening root high p.view.memory.seen h.went.more low (length p0.view.memory.seen) i.up_to.spans start i.up_to.last i.up_to.chunks);
          held = subst (λ es. AreHeld opening es root high i.up_to.spans (length es)) (sym h.went.seen)
              (held_on opening root high p.view.memory.seen h.went.more leaf i.image i.up_to.spans i.on (subst (λ es. i.image ≡ image_of (memory_after opening es) leaf) h.went.seen h.still));
          within = let a = i.up_to.within in let b = seen_longer p q h.went in omega arith;
          from = elim i.up_to.first [ inl at ↦ let e = ap rank at.1 in omega arith | inr lt ↦ omega arith ];
          to = i.up_to.to;
          none = λ e. elim i.up_to.first [ inl at ↦ at.0 | inr lt ↦ absurd (let z = ap rank e in omega arith) ];
          refused = refused_later S (refused_latch f) (try_of f) p0.view.looks p.view.looks q.view.looks q.view.looks few.least h.refused refl refl;
          few = few_both (looks_of f) p0.view p.view q.view few h.few;
          to_come = h.to_come;
          spare = some;
        }

    -- the position of the leaf on which the scan stands
    abbrev here : Position
    here = record { page = leaf; clock = (pages_after opening p.view.memory.seen leaf).clock; place = length p.view.memory.seen }

    -- no chunk place is spare
    pub run_full : out.chunk_room ≡ 0 → HasRunToFull sizes lawful opening roots root begun low high start out0 out p0 p
    run_full none = record {
      kept = here;
      run = full sizes roots lawful opening laws root begun leaf low start high out0 out p0 p i none here (kept_here sizes roots lawful opening root begun leaf low start high out0 out p0 p i here refl refl refl) refl refl;
      few = few;
    }

    -- the chunk has too many pairs
    pub run_halted : (found : Found) (q : PassState) (reached : HasReachedEnd sizes lawful opening roots root start high found p q) (r : PassState) → HasFront 0 found.leaf reached.along.last.image r → IsAside q r → 0 < out.chunk_room
        → (out.chunk_room ≡ 0) ⊎ (out.pair_room < length (span_read sizes roots lawful opening laws root begun leaf low start high out0 out p0 p i found q reached).pairs)
        → length (span_read sizes roots lawful opening laws root begun leaf low start high out0 out p0 p i found q reached).pairs ≤ MOST_RECORDS → AreFewLooks 0 p0.view r.view
        → HasRunToFull sizes lawful opening roots root begun low high start out0 out p0 r
    run_halted found q reached r front aside some none short looks = record {
      kept = here;
      run = halted sizes roots lawful opening laws root begun leaf low start high out0 out p0 p i found q reached r front aside some here
          (kept_here sizes roots lawful opening root begun leaf low start high out0 out p0 p i here refl refl refl) refl refl none short;
      few = looks;
    }
