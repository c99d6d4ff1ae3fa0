-- The leaf that a scan keeps.
use Rattle.std.proofs.Common.{◌≡◌, ℕ, ◌∙◌, List, ◌++◌, length, take, slice_index, refl, sym, ap, subst, arith, length-append}
use Rattle.std.proofs.Math.Seq.{take-length}
use Rattle.std.proofs.lemmas.List.{take-append-le}
use Rattle.ib_map.specs.Chunks.{HeldChunks}
use Rattle.ib_map.specs.Keys.{MapKey}
use Rattle.ib_layout.specs.Geometry.{Sizes}
use Rattle.ib_logrec.specs.declared.entry.Entry.{Entry}
use Rattle.ib_logrec.specs.Log.{memory_after}
use Rattle.ib_rule.specs.Pass.{PassState}
use Rattle.ib_walk.proofs.ImageLaws.{length-image_of, word_of_image}
use Rattle.ib_tree.specs.Logs.{HasRange, pages_after}
use Rattle.ib_cursor.specs.declared.position.Position.{Position}
use Rattle.ib_cursor.specs.Positions.{LoadedLeaf}
use Rattle.ib_scan.specs.Steps.{IsScannedTo}
use Rattle.ib_scan.specs.Stored.{IsKept}
use Rattle.ib_scan.proofs.PassLaws.{loaded_there}

-- what is kept stays so while the log grows
pub kept_longer : (lawful : List Entry → Type 0) (opening : ℕ → ℕ) (roots root : ℕ) (next : MapKey) (seen more : List Entry) (at : Position) → IsKept lawful opening roots root next seen at → IsKept lawful opening roots root next (seen ++ more) at
kept_longer lawful opening roots root next seen more at k =
    let front : take at.place (seen ++ more) ≡ take at.place seen = take-append-le at.place seen more k.position.within in
    record {
      position = record {
        within = let w = k.position.within in let l = length-append seen more in omega arith;
        legal = subst lawful (sym front) k.position.legal;
        range = k.position.range;
        lowest = k.position.lowest;
        met = subst (λ es. HasRange roots (pages_after opening es) at.page k.position.range) (sym front) k.position.met;
        clock = k.position.clock ∙ ap (λ es. (pages_after opening es at.page).clock) (sym front);
      };
      tree = k.tree;
      low = k.low;
    }

module _ (sizes : Sizes) (roots : ℕ) (lawful : List Entry → Type 0) (opening : ℕ → ℕ) (root begun leaf : ℕ) (low start high : MapKey) (out0 out : HeldChunks) (p0 p : PassState)
    (i : IsScannedTo sizes lawful opening roots root begun leaf low start high out0 out p0 p) where
  -- the leaf on which a scan stands is loaded
  pub on_loaded : LoadedLeaf sizes lawful opening roots leaf p
  on_loaded = record {
    image = i.image;
    loaded = loaded_there leaf leaf i.image p.work refl i.scans.work;
    size = ap length i.scans.walked.image ∙ length-image_of (memory_after opening p.view.memory.seen) leaf;
    is_page = λ index lt. ap (λ ws. slice_index ws index) i.scans.walked.image ∙ word_of_image (memory_after opening p.view.memory.seen) leaf index lt;
    known = i.scans.known;
    range = record { root = root; low = i.scans.walked.low; end = i.scans.walked.high; level = 0 };
    lowest = refl;
    met = i.scans.walked.met;
  }

  kept-now : IsKept lawful opening roots root start p.view.memory.seen (record { page = leaf; clock = (pages_after opening p.view.memory.seen leaf).clock; place = length p.view.memory.seen })
  kept-now =
      let all = take-length p.view.memory.seen in
      record {
        position = record {
          within = omega arith;
          legal = subst lawful (sym all) i.scans.known.legal;
          range = record { root = root; low = i.scans.walked.low; end = i.scans.walked.high; level = 0 };
          lowest = refl;
          met = subst (λ es. HasRange roots (pages_after opening es) leaf (record { root = root; low = i.scans.walked.low; end = i.scans.walked.high; level = 0 })) (sym all) i.scans.walked.met;
          clock = sym (ap (λ es. (pages_after opening es leaf).clock) all);
        };
        tree = refl;
        low = i.scans.walked.le;
      }

  -- .. and a position of it is kept
  pub kept_here : (at : Position) → at.page ≡ leaf → at.clock ≡ (pages_after opening p.view.memory.seen leaf).clock → at.place ≡ length p.view.memory.seen → IsKept lawful opening roots root start p.view.memory.seen at
  kept_here at page clock place =
      let is : at ≡ record { page = leaf; clock = (pages_after opening p.view.memory.seen leaf).clock; place = length p.view.memory.seen } = λ j. record { page = page j; clock = clock j; place = place j } in
      subst (IsKept lawful opening roots root start p.view.memory.seen) (sym is) kept-now
