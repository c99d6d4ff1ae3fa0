-- The records of the key's child and of its siblings are where a node's records have them.
use Rattle.std.proofs.Common.{◌≡◌, ℕ, ◌<◌, ◌≤◌, ◌∙◌, [], ◌∷◌, ◌++◌, true, false, cond, length, Option, Some, None, refl, sym, ap, arith, ltb, append_assoc}
use Rattle.std.proofs.lemmas.Bool.{le-ltb}
use Rattle.ib_map.specs.Keys.{MapKey, end_rank, rank}
use Rattle.ib_map.specs.Pairs.{Pairs, first_rank}
use Rattle.ib_walk.specs.Search.{child_for}
use Rattle.ib_plans.specs.Merge.{Siblings, siblings_from, siblings_of}

-- the record, where there is one
abbrev pub one_or_none : Option (MapKey × ℕ) → Pairs
one_or_none None = []
one_or_none (Some x) = x ∷ []

-- siblings side by side, with the child for the key between them
pub record HasSiblings (all : Pairs) (child : ℕ) (t : Siblings) : Type 0 where
  pub before : Pairs
  pub behind : Pairs
  pub is : all ≡ before ++ (one_or_none t.left ++ t.here ∷ (one_or_none t.right ++ behind))
  pub here : t.here.1 ≡ child

pub HasSiblings-from : (key : MapKey) (left : Option (MapKey × ℕ)) (here : MapKey × ℕ) (xs : Pairs)
    → HasSiblings (one_or_none left ++ here ∷ xs) (child_for key here.1 xs) (siblings_from key left here xs)
HasSiblings-from key left here [] = record { before = []; behind = []; is = refl; here = refl }
HasSiblings-from key left here (x ∷ xs) =
    elim (ltb (rank key) (rank x.0)) as (λ b. HasSiblings (one_or_none left ++ here ∷ x ∷ xs) (cond b here.1 (child_for key x.1 xs))
    (cond b (record { left = left; here = here; right = Some x }) (siblings_from key (Some here) x xs))) [
      | true ↦ record { before = []; behind = xs; is = refl; here = refl }
      | false ↦ let r = HasSiblings-from key (Some here) x xs in record {
        before = one_or_none left ++ r.before;
        behind = r.behind;
        is = ap (λ zs. one_or_none left ++ zs) r.is ∙ sym (append_assoc (one_or_none left) r.before _);
        here = r.here;
      }
    ]

-- a node's records have those of the child for a key of its range, and of its siblings
pub HasSiblings-of : (key : MapKey) (xs : Pairs) → 0 < length xs → first_rank xs end_rank ≤ rank key → HasSiblings xs (child_for key 0 xs) (siblings_of key xs)
HasSiblings-of key [] some le = absurd (omega arith)
HasSiblings-of key (x ∷ xs) some le =
    let no = le-ltb (rank key) (rank x.0) le in rw no (HasSiblings-from key None x xs)
