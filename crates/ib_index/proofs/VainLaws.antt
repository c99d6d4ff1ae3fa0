-- A page that was tried in vain by an insert that changes the tree's structure: what is held is as it was.
use Rattle.std.specs.List.{All, AllByRecursion}
use Rattle.std.specs.Prelude.{IsSome, take, get_or}
use Rattle.std.proofs.Common.{◌≡◌, ℕ, ◌+◌, ◌<◌, ◌≤◌, ◌==◌, true, false, List, ◌∷◌, ◌++◌, length, refl, sym, ap, subst, ◌∙◌, arith}
use Rattle.ib_map.specs.Keys.{MapKey}
use Rattle.ib_map.specs.Space.{has_pages}
use Rattle.ib_map.specs.Writes.{touches, word_place}
use Rattle.ib_map.proofs.KeyLaws.{rank-lt_end}
use Rattle.ib_map.proofs.WriteLaws.{page_at-word}
use Rattle.ib_levels.specs.declared.level.Level.{Level}
use Rattle.ib_levels.specs.declared.level.Level.TheVariants.{Space}
use Rattle.ib_levels.specs.declared.level.Mode.{Mode}
use Rattle.ib_levels.specs.declared.level.Mode.TheVariants.{X}
use Rattle.ib_layout.specs.Geometry.{Sizes}
use Rattle.ib_core.specs.Sessions.{holdings}
use Rattle.ib_page.specs.Work.{WorkPage, changed_of}
use Rattle.ib_logrec.specs.declared.entry.Entry.{Entry}
use Rattle.ib_logrec.specs.Log.{by_place, memory_after}
use Rattle.ib_walk.specs.Full.{chosen}
use Rattle.ib_walk.specs.Pages.{PageMemory}
use Rattle.ib_walk.specs.Words.{bits_of}
use Rattle.ib_plans.specs.Agreement.{HasTreePages, IsThere, bits_in, last_of}
use Rattle.ib_tree.specs.PageLists.{is_listed}
use Rattle.ib_tree.specs.TreeLog.{opening}
use Rattle.ib_planned_log.specs.Kept.{IsKeptLog}
use Rattle.ib_planned_log.specs.LeafChange.{kept_pages}
use Rattle.ib_rule.specs.declared.looks.Grants.{Grants}
use Rattle.ib_rule.specs.Pass.{PassState}
use Rattle.ib_rule.proofs.Watching.{word_stays}
use Rattle.ib_mtr.specs.Loads.{IsPageAfter}
use Rattle.ib_mtr.proofs.Lists.{or_true}
use Rattle.ib_cursor.specs.declared.fault.NowaitFault.{NowaitFault}
use Rattle.ib_cursor.specs.Claims.{IsAsRead}
use Rattle.ib_cursor.specs.Refusals.{AreFewGrants, AreFewLooks, IsRefusal, IsVainTry, TakesPages}
use Rattle.ib_cursor.specs.Shapes.{KeepsClaim}
use Rattle.ib_cursor.specs.Takings.{IsHeldPage, is_loaded}
use Rattle.ib_cursor.proofs.EndLaws.{all-read}
use Rattle.ib_cursor.proofs.ReadLaws.{keeps_path}
use Rattle.ib_cursor.proofs.RefusalLaws.{refusal_after, refusal_by}
use Rattle.ib_cursor.proofs.TakeLaws.{all-both}
use Rattle.ib_cursor.proofs.TakeRefusalLaws.{listed_at}
use Rattle.ib_index.specs.Grows.{HasClaimedPath, HasGrown, HasTakenNew, IsGrowing, NeedsPages, new_pages, space_pages, tree_pages}
use Rattle.ib_index.specs.NowaitGrows.{IsNewRefused, TakesFresh}
use Rattle.ib_index.specs.Refusals.{fresh_after}
use Rattle.ib_index.proofs.AgreeLaws.{agrees-now, kept-shapes}
use Rattle.ib_index.proofs.FreshLaws.{agrees-less, bits-same}
use Rattle.ib_index.proofs.ReadyLaws.{image, image-there}

-- what is held is held still, as it was
module _ (sizes : Sizes) (fits : has_pages sizes.pages ≡ true) (key : MapKey) (path : List ℕ) (held : List (ℕ × Level)) (mode : Mode) (l : ℕ) (f : NowaitFault) (p q : PassState) (vain : IsVainTry sizes (IsKeptLog sizes.pages) mode l f p q)
    (now : All (λ w. 0 < holdings (w.page + 2) q.view.session) q.work) (can : IsGrowing sizes key path held p) where
  abbrev start : ℕ → ℕ
  start = by_place opening sizes.pages

  keeps : KeepsClaim p q
  keeps = vain.looked_on.keeps can.at.claimed

  still : (w : WorkPage) → IsHeldPage start p w → IsAsRead start q.view.memory.seen w
  still w h =
      let seen = vain.looked_on.seen in let calm = seen.steady w.page h.watched in
      record {
        size = h.read.size;
        is_page = subst (λ (log : List Entry). IsPageAfter start log w.page w.before) (sym seen.went.seen) (λ index lt. h.read.is_page index lt ∙ sym (word_stays start p.view.memory.seen seen.went.more (word_place w.page index)
            (subst (λ (n : ℕ). AllByRecursion (λ (e : Entry). touches n e.writes ≡ false) seen.went.more) (sym (page_at-word w.page index lt)) calm)));
        unchanged = h.read.unchanged;
      }

  images : All (IsAsRead start q.view.memory.seen) q.work
  images = subst (All (IsAsRead start q.view.memory.seen)) (sym vain.work) (all-read (IsHeldPage start p) (IsAsRead start q.view.memory.seen) p.work still can.at.read)

  pub growing-stays : IsGrowing sizes key path held q
  growing-stays = record {
    at = record {
      claimed = keeps.claimed;
      read = all-both (IsAsRead start q.view.memory.seen) (λ w. 0 < holdings (w.page + 2) q.view.session) (IsHeldPage start q) q.work (λ w a b. record { read = a; watched = vain.looked_on.seen.watched (w.page + 2) b }) images now;
      on_path = can.at.on_path ∙ sym (keeps_path sizes 1 (IsKeptLog sizes.pages) start (kept-shapes sizes.pages fits) 1 (omega arith) (omega arith) key (rank-lt_end key) p q vain.looked_on.seen.known keeps);
      known = vain.looked_on.seen.known;
    };
    grants = record { memo = vain.memo ∙ can.grants.memo; session = vain.session ∙ can.grants.session };
    loaded = λ n. ap (is_loaded n) vain.work ∙ can.loaded n;
    count = ap length vain.work ∙ can.count;
    within = subst (All (λ w. w.page < sizes.pages)) (sym vain.work) can.within;
    trees = subst (HasTreePages path) (sym vain.work) can.trees;
    leaf = subst (λ (ws : List WorkPage). IsThere ws (last_of path)) (sym vain.work) can.leaf;
  }

-- a fresh page was refused behind those that were taken
pub new-refused : (sizes : Sizes) (key : MapKey) (path held fresh items : List ℕ) (at : ℕ) (f : NowaitFault) (p q r : PassState) → items ≡ fresh → at < length items
    → HasTakenNew sizes key path (space_pages held) (take at fresh) p q → AreFewLooks 0 p.view q.view → AreFewGrants (record { s = 0; sx = 0; x = at }) p.view q.view
    → IsVainTry sizes (IsKeptLog sizes.pages) X (get_or items at 0 + 2) f q r → IsGrowing sizes key path (space_pages held ++ new_pages (take at fresh)) r → IsNewRefused sizes key path fresh f p r
new-refused sizes key path held fresh items at f p q r same within taken few grants vain kept =
    let page = get_or items at 0 in
    let among : is_listed fresh page ≡ true = subst (λ ns. is_listed ns page ≡ true) same (listed_at items at within) in
    let one = refusal_by sizes (IsKeptLog sizes.pages) (TakesPages fresh) (record { s = 0; sx = 0; x = 0 }) f X (page + 2) q r vain (refl, record { page = page; listed = among; at = refl }) in
    let long = ap length same in let a = grants.s in let b = grants.sx in let d = grants.x in let i = one.grants.s in let j = one.grants.sx in let k = one.grants.x in
    record {
      refusal = refusal_after sizes (IsKeptLog sizes.pages) (TakesPages fresh) (record { s = 0; sx = 0; x = length fresh }) f (record { s = 0; sx = 0; x = 0 }) p q r taken.went few one (record { s = omega arith; sx = omega arith; x = omega arith });
      at = kept.at;
      same = λ n there. ap (changed_of n) vain.work ∙ taken.same n there;
    }

-- page 0 was refused
pub space-refused : (sizes : Sizes) (key : MapKey) (f : NowaitFault) (p q : PassState) → IsVainTry sizes (IsKeptLog sizes.pages) X 2 f p q → IsRefusal sizes (IsKeptLog sizes.pages) (TakesFresh sizes key) (record { s = 0; sx = 0; x = 9 }) f p q
space-refused sizes key f p q vain =
    refusal_by sizes (IsKeptLog sizes.pages) (TakesFresh sizes key) (record { s = 0; sx = 0; x = 9 }) f X 2 p q vain (refl, record { page = 0; listed = refl; at = refl })

-- .. or one of the fresh pages behind it, which are those that the insert needs in the tree after all seen
module _ (sizes : Sizes) (fits : has_pages sizes.pages ≡ true) (key : MapKey) (path : List ℕ) (need : ℕ) (p q s : PassState) (reached : HasClaimedPath sizes key path p q) (g : HasGrown sizes key path (tree_pages reached.held) 0 Space q s) (needs : NeedsPages sizes.pages key path need q.work)
    (fresh : List ℕ) (are : fresh ≡ chosen (bits_in sizes.pages (image sizes fits key path need p q s reached g)) sizes.pages need) (few : AreFewLooks 0 q.view s.view) (long : length fresh ≤ 8) (f : NowaitFault) (r : PassState) (n : IsNewRefused sizes key path fresh f s r) where
  abbrev memory : PageMemory
  memory = kept_pages sizes.pages r.view.memory.seen

  abbrev bits : ℕ → ℕ
  bits = bits_of sizes.pages (memory_after (by_place opening sizes.pages) r.view.memory.seen)

  later : (k : ℕ) → IsThere q.work k → changed_of k r.work ≡ changed_of k q.work
  later k there = n.same k (subst IsSome (sym (g.same k there)) there) ∙ g.same k there

  fresh-is : fresh ≡ fresh_after sizes key r.view.memory.seen
  fresh-is =
      let a = agrees-now sizes fits key path r n.at in
      let b = agrees-less sizes.pages key path s.work r.work memory bits n.same a in
      let m = needs memory bits (agrees-less sizes.pages key path q.work r.work memory bits later a) in
      let same = bits-same sizes.pages key path s.work memory bits (image sizes fits key path need p q s reached g) b (image-there sizes fits key path need p q s reached g) in
      are ∙ (ap (λ (b : ℕ → ℕ). chosen b sizes.pages need) same ∙ ap (chosen bits sizes.pages) m.1)

  pub fresh-refused : IsRefusal sizes (IsKeptLog sizes.pages) (TakesFresh sizes key) (record { s = 0; sx = 0; x = 9 }) f q r
  fresh-refused =
      let v = n.refusal in let t = v.taken in let page = t.1.page in
      let among : is_listed (0 ∷ fresh_after sizes key r.view.memory.seen) page ≡ true = or_true (0 == page) (is_listed (fresh_after sizes key r.view.memory.seen) page) (subst (λ ns. is_listed ns page ≡ true) fresh-is t.1.listed) in
      let one : IsRefusal sizes (IsKeptLog sizes.pages) (TakesFresh sizes key) (record { s = 0; sx = 0; x = length fresh }) f s r =
      record { went = v.went; looked = v.looked; known = v.known; mode = v.mode; taken = (t.0, record { page = page; listed = among; at = t.1.at }); refused = v.refused; few = v.few; grants = v.grants } in
      let x = ap (λ (v : Grants). v.x) g.grants in let y = ap (λ (v : Grants). v.s) g.grants in let z = ap (λ (v : Grants). v.sx) g.grants in
      let a = v.grants.s in let b = v.grants.sx in let d = v.grants.x in
      refusal_after sizes (IsKeptLog sizes.pages) (TakesFresh sizes key) (record { s = 0; sx = 0; x = 9 }) f (record { s = 0; sx = 0; x = length fresh }) q s r g.went few one (record { s = omega arith; sx = omega arith; x = omega arith })
