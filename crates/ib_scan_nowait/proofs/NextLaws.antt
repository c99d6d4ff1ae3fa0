-- The leaf behind the one on which a scan stands is refused: it is behind it still, and the leaves that are held are as they were read.
use Rattle.std.proofs.Common.{◌≡◌, ℕ, ◌+◌, true, List, [], ◌∷◌, ◌++◌, length, refl, sym, ap, subst, ◌∙◌, arith, length-append}
use Rattle.std.proofs.lemmas.List.{length-map}
use Rattle.ib_map.specs.Keys.{MapKey}
use Rattle.ib_levels.specs.declared.level.Mode.TheVariants.{S}
use Rattle.ib_layout.specs.Geometry.{Sizes}
use Rattle.ib_page.specs.Image.{next_of}
use Rattle.ib_logrec.specs.declared.entry.Entry.{Entry}
use Rattle.ib_rule.specs.Pass.{PassState}
use Rattle.ib_rule.specs.Views.{is_watched}
use Rattle.ib_rule.proofs.Lists.{each_map, each_push}
use Rattle.ib_tree.specs.Logs.{HasRange, pages_after}
use Rattle.ib_mtr.specs.Mtr.{with_work}
use Rattle.ib_cursor.specs.declared.fault.NowaitFault.{NowaitFault}
use Rattle.ib_cursor.specs.Going.{HasSeen}
use Rattle.ib_cursor.specs.Grants.{page_grant}
use Rattle.ib_cursor.specs.Laws.{Laws}
use Rattle.ib_cursor.specs.Refusals.{IsVainTry}
use Rattle.ib_scan.specs.Walked.{ArePassed, IsReadOf, IsScanning, IsSkipped, IsWalked, ReadLeaf}
use Rattle.ib_scan.proofs.LatchingLaws.{grant_at}
use Rattle.ib_scan.proofs.PassLaws.{first_push}
use Rattle.ib_scan.proofs.WalkedLaws.{AreCalm, walked_stands, walked_stays}
use Rattle.ib_scan_nowait.specs.Halts.{IsLeafToCome}
use Rattle.ib_scan_nowait.specs.Steps.{IsNextRefused, leaf_after}

-- one leaf more was passed over
passed-more : (start : MapKey) (ps : List ReadLeaf) (last next : ReadLeaf) → ArePassed start ps last → IsSkipped start last.image → next_of last.image ≡ next.page → ArePassed start (ps ++ last ∷ []) next
passed-more start [] last next a skipped link = (skipped, link, tt)
passed-more start (p ∷ ps) last next a skipped link = (a.0, a.1 ∙ ap (λ (q : ReadLeaf). q.page) (sym (first_push ps last next)), passed-more start ps last next a.2 skipped link)

module _ (sizes : Sizes) (roots : ℕ) (lawful : List Entry → Type 0) (opening : ℕ → ℕ) (laws : Laws sizes.pages roots lawful opening) (root : ℕ) (start : MapKey) (ps : List ReadLeaf) (last : ReadLeaf) where
  module _ (p : PassState) (s : IsScanning sizes lawful opening roots root start ps last p) (skipped : IsSkipped start last.image) (q : PassState) where
    -- the leaves that are held, in the longer log
    stayed : (seen : HasSeen sizes lawful (with_work [] p) q) → IsWalked roots opening q.view.memory.seen root start ps last
    stayed seen = subst (λ es. IsWalked roots opening es root start ps last) (sym seen.went.seen)
        (walked_stays sizes.pages roots lawful opening laws root p.view.memory.seen seen.went.more start ps last (subst lawful seen.went.seen seen.known.legal)
        (each_map (λ (l : ReadLeaf). is_watched (l.page + 2) p.view.memory.since ≡ true) (λ (l : ReadLeaf). AreCalm seen.went.more l.page) ps (λ l w. seen.steady l.page w) s.watched)
        (seen.steady last.page s.here) s.walked)

    -- .. and the one behind them
    walked : HasSeen sizes lawful (with_work [] p) q → IsWalked roots opening q.view.memory.seen root start (ps ++ last ∷ []) (leaf_after opening q.view.memory.seen (next_of last.image))
    walked seen =
        let w = stayed seen in
        let there : ReadLeaf = leaf_after opening q.view.memory.seen (next_of last.image) in
        record {
          images = each_push (IsReadOf opening q.view.memory.seen) ps last w.images w.image;
          image = refl;
          passed = passed-more start ps last there w.passed skipped refl;
          low = w.low;
          high = w.high;
          met = subst (λ (f : ReadLeaf). HasRange roots (pages_after opening q.view.memory.seen) f.page (record { root = root; low = w.low; end = w.high; level = 0 })) (sym (first_push ps last there)) w.met;
          le = w.le;
        }

    pub next_refused : (f : NowaitFault) → IsVainTry sizes lawful S (next_of last.image + 2) f (with_work [] p) q → IsNextRefused sizes lawful opening roots root start ps last f p q
    next_refused f vain =
        let w = vain.looked_on.seen.went in
        record {
          went = record { table = w.table; sizes = w.sizes; number = w.number; own = w.own; more = w.more; seen = w.seen; added = w.added; ends = w.ends; bounds = w.bounds };
          known = vain.looked_on.seen.known;
          grants = vain.grants;
          at = vain.at;
          refused = vain.refused;
          few = vain.few;
          walked = walked vain.looked_on.seen;
        }

  -- the leaf behind those that are held is one to which the scan has come
  pub leaf_to_come : (log : List Entry) (legal : lawful log) (there : ReadLeaf) → IsWalked roots opening log root start (ps ++ last ∷ []) there → IsLeafToCome (pages_after opening log) root start (there.page + 2)
  leaf_to_come log legal there w =
      let s = walked_stands sizes.pages roots lawful opening laws root log legal start (ps ++ last ∷ []) there w in
      let long = length-append s.before s.passed in
      let held = length-append ps (last ∷ []) in
      let same : length (ps ++ last ∷ []) ≡ length s.passed = sym (length-map (ps ++ last ∷ []) (λ (q : ReadLeaf). page_grant q.page S)) ∙ (ap length s.grants ∙ length-map s.passed grant_at) in
      record {
        front = s.before ++ s.passed;
        leaf = s.visit;
        back = s.behind;
        leaves = s.is;
        at = ap (λ n. n + 2) (sym s.here);
        some = omega arith;
        passed = s.below;
      }
