-- A page that was refused while the rows below a path were taken.
use Rattle.std.specs.List.{AllByRecursion, flat_map}
use Rattle.std.proofs.Common.{◌≡◌, ℕ, ◌+◌, ◌<◌, ◌≤◌, true, List, [], ◌∷◌, ◌++◌, length, refl, sym, ap, subst, ◌∙◌, arith, append_assoc, length-append}
use Rattle.std.proofs.lemmas.Grind.{flat_map-append}
use Rattle.std.proofs.lemmas.List.{flat_map_more}
use Rattle.ib_map.specs.Keys.{MapKey, rank, end_rank}
use Rattle.ib_layout.specs.Geometry.{Sizes}
use Rattle.ib_logrec.specs.declared.entry.Entry.{Entry}
use Rattle.ib_walk.specs.Pages.{PageMemory}
use Rattle.ib_walk.specs.Trees.{height_of}
use Rattle.ib_plans.specs.Agreement.{last_of, path_of}
use Rattle.ib_tree.specs.Logs.{pages_after}
use Rattle.ib_tree.specs.PageLists.{is_listed}
use Rattle.ib_rule.specs.Pass.{PassState}
use Rattle.ib_cursor.specs.declared.fault.NowaitFault.{NowaitFault}
use Rattle.ib_cursor.specs.Claims.{beside, claim_grant}
use Rattle.ib_cursor.specs.Going.{HasLatched}
use Rattle.ib_cursor.specs.Refusals.{AreFewLooks, IsDeleteRefusal, IsHeldByDelete, IsPageRefused, IsRefusedBehind, IsRowRefused}
use Rattle.ib_cursor.specs.Rows.{HasTakenRows, MayTakeRows}
use Rattle.ib_cursor.specs.Shapes.{HasReadPath, ShapeLaws}
use Rattle.ib_cursor.specs.Siblings.{with_siblings}
use Rattle.ib_cursor.specs.Takings.{HasTakenMore}
use Rattle.ib_cursor.proofs.ClaimLaws.{keeps_both}
use Rattle.ib_cursor.proofs.LatchingLaws.{went_none}
use Rattle.ib_cursor.proofs.LevelLaws.{among-left, among_right}
use Rattle.ib_cursor.proofs.ReadLaws.{keeps_path}
use Rattle.ib_cursor.proofs.RefusalLaws.{few_none}
use Rattle.ib_cursor.proofs.TakeLaws.{beside_few, steady_at, steady_both}
use Rattle.ib_cursor.proofs.TakenLaws.{among, ends, few-own, held-last, many, own_rows, path-first, rows-few, rows_held, rows-same, steady-all}
use Rattle.ib_cursor.proofs.TakeRefusalLaws.{held_refused, refused_behind, refused_wider}

-- a page of a longer list
pub behind_wider : (sizes : Sizes) (lawful : List Entry → Type 0) (opening : ℕ → ℕ) (held two all : List ℕ) (f : NowaitFault) (p q : PassState) → ((n : ℕ) → is_listed two n ≡ true → is_listed all n ≡ true) → length two ≤ length all
    → IsRefusedBehind sizes lawful opening held two f p q → IsRefusedBehind sizes lawful opening held all f p q
behind_wider sizes lawful opening held two all f p q listed long v = record { refused = refused_wider sizes lawful two all f p q listed long v.refused; steady = v.steady }

-- .. and behind more, which were taken
pub behind_more : (sizes : Sizes) (lawful : List Entry → Type 0) (opening : ℕ → ℕ) (held one two all : List ℕ) (f : NowaitFault) (p q r : PassState) → HasTakenMore sizes lawful opening held one p q → AreFewLooks 0 p.view q.view
    → ((n : ℕ) → is_listed two n ≡ true → is_listed all n ≡ true) → length one + length two ≤ length all → IsRefusedBehind sizes lawful opening (held ++ one) two f q r → IsRefusedBehind sizes lawful opening held all f p r
behind_more sizes lawful opening held one two all f p q r taken few listed long v = record {
  refused = refused_behind sizes lawful opening held one two all f p q r taken few listed long v.refused;
  steady = steady_both opening held one p q r taken.steady v.steady;
}

-- the search for a delete, step by step
module _ (sizes : Sizes) (roots : ℕ) (lawful : List Entry → Type 0) (opening : ℕ → ℕ) (shape : ShapeLaws sizes.pages roots lawful opening) (root : ℕ) (some : 0 < root) (le : root ≤ roots) (key : MapKey) (lt : rank key < end_rank) (f : NowaitFault) where
  -- the root was refused
  pub root_refused : (path : List ℕ) (p q : PassState) → path ≡ path_of (pages_after opening p.view.memory.seen) key root → IsPageRefused sizes lawful (root ∷ []) f p q → IsRowRefused sizes lawful opening root key path f p q
  root_refused path p q on_path v =
      let first = path-first (pages_after opening p.view.memory.seen) key (height_of (pages_after opening p.view.memory.seen) root) root in
      record { above = []; node = root; rest = first.0; is = on_path ∙ first.1; refused = v }

  -- the row below a node was refused, behind the rows that are taken
  module _ (path held : List ℕ) (count last : ℕ) (p q : PassState) (may : MayTakeRows sizes lawful opening root path held p) (rows : HasTakenRows sizes lawful opening held root key path count last p q) (few : AreFewLooks 0 p.view q.view) where
    abbrev m : PageMemory
    m = pages_after opening q.view.memory.seen

    abbrev own : List ℕ
    own = own_rows sizes roots lawful opening shape root some le key lt path held count last p q may rows

    pub row_refused : count + 1 < length path → (t : PassState) → IsRefusedBehind sizes lawful opening (held ++ own) (with_siblings m key rows.node) f q t → IsRowRefused sizes lawful opening root key path f p t
    row_refused up t v =
        let later : PageMemory = pages_after opening t.view.memory.seen in
        let steady = steady-all opening (held ++ own) q t v.steady (rows.above ++ rows.node ∷ []) (among sizes roots lawful opening shape root some le key lt path held count last p q may rows) in
        let same : own ++ with_siblings m key rows.node ≡ root ∷ flat_map (with_siblings later key) (rows.above ++ rows.node ∷ []) =
        flat_map_more (with_siblings m key) (root ∷ []) rows.above rows.node ∙ ap (λ ps. root ∷ ps) (sym (rows-same m later key (rows.above ++ rows.node ∷ []) steady)) in
        let all = own ++ with_siblings m key rows.node in
        let long = length-append own (with_siblings m key rows.node) in
        let below = begins rows.rest (let a = many sizes roots lawful opening shape root some le key lt path held count last p q may rows in omega arith) in
        record {
          above = rows.above ++ rows.node ∷ [];
          node = below.0;
          rest = below.1;
          is = rows.is ∙ (ap (λ ps. rows.above ++ rows.node ∷ ps) below.2 ∙ sym (append_assoc rows.above (rows.node ∷ []) (below.0 ∷ below.1)));
          refused = subst (λ ps. IsPageRefused sizes lawful ps f p t) same
              (refused_behind sizes lawful opening held own (with_siblings m key rows.node) all f p q t rows.taken few (λ n is. among_right own (with_siblings m key rows.node) n is) (omega arith) v.refused);
        }
      where
        begins : (ps : List ℕ) → 0 < length ps → (x : ℕ) × (xs : List ℕ) × (ps ≡ x ∷ xs)
        begins [] lt = absurd (omega arith)
        begins (x ∷ xs) lt = (x, xs, refl)

  module _ (p q : PassState) (latched : HasLatched sizes lawful claim_grant p q) (few : AreFewLooks 0 p.view q.view) (path : List ℕ) (leaf left : ℕ) (r : PassState) (read : HasReadPath sizes lawful opening root key path leaf left q r) (few_read : AreFewLooks 0 q.view r.view) where
    -- one of the pages that a delete holds was refused
    delete_page : (pages held : List ℕ) (t : PassState) → IsHeldByDelete root key (pages_after opening t.view.memory.seen) held → ((n : ℕ) → is_listed pages n ≡ true → is_listed held n ≡ true) → length pages ≤ 23
        → IsPageRefused sizes lawful pages f r t → IsDeleteRefusal sizes lawful opening root key f p t
    delete_page pages held t holds listed long v =
        held_refused sizes lawful opening root key (IsHeldByDelete root key) 23 f p q latched few path leaf left r read few_read pages held r t (went_none r) (few_none r) refl refl (omega arith) holds listed v

    -- .. in a row
    pub delete_row : (t : PassState) → IsRowRefused sizes lawful opening root key path f r t → IsDeleteRefusal sizes lawful opening root key f p t
    delete_row t v =
        let later : PageMemory = pages_after opening t.view.memory.seen in
        let split = front_of v.above v.node v.rest in
        let levels : List ℕ = root ∷ flat_map (with_siblings later key) (v.above ++ split.0) in
        let same_path = keeps_path sizes roots lawful opening shape root some le key lt r t v.refused.refusal.known v.refused.keeps in
        let whole = flat_map-append (with_siblings later key) v.above split.0 in
        let rows = rows-few later key v.above in
        let a = ap length v.is in let b = length-append v.above (v.node ∷ v.rest) in
        let short = read.short in let ends_in = ap length read.ends in let longer = length-append read.front (leaf ∷ []) in
        delete_page (root ∷ flat_map (with_siblings later key) v.above) (levels ++ beside (later (last_of levels)).next) t
        (record { front = v.above ++ split.0; leaf = split.1; ends = same_path ∙ (sym read.on_path ∙ (v.is ∙ (ap (λ ps. v.above ++ ps) split.2 ∙ sym (append_assoc v.above split.0 (split.1 ∷ []))))); levels = levels; are = refl; behind = refl })
        (λ n is. among-left levels (beside (later (last_of levels)).next) n
        (subst (λ ps. is_listed ps n ≡ true) (ap (λ ps. root ∷ ps) (sym whole)) (among-left (root ∷ flat_map (with_siblings later key) v.above) (flat_map (with_siblings later key) split.0) n is)))
        (omega arith) v.refused
      where
        -- what stands behind the rows ends with a leaf
        front_of : (above : List ℕ) (node : ℕ) (rest : List ℕ) → (front : List ℕ) × (leaf : ℕ) × (node ∷ rest ≡ front ++ leaf ∷ [])
        front_of above node [] = ([], node, refl)
        front_of above node (x ∷ xs) = let s = front_of above x xs in (node ∷ s.0, s.1, ap (λ ps. node ∷ ps) s.2)

    -- .. the leaf behind the last row
    pub delete_behind : (count last : ℕ) (s t : PassState) (may : MayTakeRows sizes lawful opening root path [] r) (rows : HasTakenRows sizes lawful opening [] root key path count last r s) → count + 1 ≡ length path → AreFewLooks 0 r.view s.view
        → IsRefusedBehind sizes lawful opening (rows_held sizes roots lawful opening shape root some le key lt path [] count last r s may rows) (beside (pages_after opening s.view.memory.seen last).next) f s t → IsDeleteRefusal sizes lawful opening root key f p t
    delete_behind count last s t may rows done few_rows v =
        let m : PageMemory = pages_after opening s.view.memory.seen in let later : PageMemory = pages_after opening t.view.memory.seen in
        let own = own_rows sizes roots lawful opening shape root some le key lt path [] count last r s may rows in
        let next = (m last).next in
        let steady = steady-all opening own s t v.steady (rows.above ++ rows.node ∷ []) (among sizes roots lawful opening shape root some le key lt path [] count last r s may rows) in
        let levels : List ℕ = root ∷ flat_map (with_siblings later key) rows.above in
        let same : levels ≡ own = ap (λ ps. root ∷ ps) (rows-same m later key rows.above (left_of rows.above rows.node steady)) in
        let same_next : (later (last_of levels)).next ≡ next =
        ap (λ ps. (later (last_of ps)).next) same ∙ (ap (λ n. (later n).next) (sym rows.last_is) ∙ ap (λ k. k.next) (steady_at opening own s t v.steady last (held-last sizes roots lawful opening shape root some le key lt path [] count last r s may rows done))) in
        let known = v.refused.refusal.known in
        let keeps = keeps_both r s t rows.taken.keeps v.refused.keeps in
        let same_path = keeps_path sizes roots lawful opening shape root some le key lt r t known keeps in
        let w = refused_behind sizes lawful opening [] own (beside next) (own ++ beside next) f r s t rows.taken few_rows (λ n is. among_right own (beside next) n is) (let l = length-append own (beside next) in omega arith) v.refused in
        let a = few-own sizes roots lawful opening shape root some le key lt path [] count last r s may rows in let b = beside_few next in let l = length-append own (beside next) in
        let short = read.short in let ends_in = ap length read.ends in let longer = length-append read.front (leaf ∷ []) in
        delete_page (own ++ beside next) (levels ++ beside (later (last_of levels)).next) t
        (record { front = rows.above; leaf = rows.node; ends = same_path ∙ (sym read.on_path ∙ ends sizes roots lawful opening shape root some le key lt path [] count last r s may rows done); levels = levels; are = refl; behind = refl })
        (λ n is. subst (λ (x : List ℕ × ℕ). is_listed (x.0 ++ beside x.1) n ≡ true) (λ j. (sym same j, sym same_next j)) is)
        (omega arith) w
      where
        left_of : (xs : List ℕ) (x : ℕ) → AllByRecursion (λ n. pages_after opening t.view.memory.seen n ≡ pages_after opening s.view.memory.seen n) (xs ++ x ∷ []) → AllByRecursion (λ n. pages_after opening t.view.memory.seen n ≡ pages_after opening s.view.memory.seen n) xs
        left_of [] x all = tt
        left_of (y ∷ ys) x all = (all.0, left_of ys x all.1)
