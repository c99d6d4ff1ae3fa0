-- Writing composes: to prove a further printer, join what its calls put.
use Rattle.std.proofs.Common.{◌<◌, get_or, subst, take, length, ◌≡◌, ◌∙◌, ◌⊎◌, inl, inr, ℕ, List, [], ◌∷◌, ◌++◌, Bool, true, false, ap, sym, append_assoc, ◌+◌, ◌≤◌, refl, arith}
use Rattle.std.proofs.lemmas.List.{append-nil, take_more}
use Rattle.std.proofs.lemmas.Grind.{flat_map-append}
use Rattle.std.proofs.KnownBytes.{Appends-nil, Appends-trans}
use Rattle.std.specs.Prelude.{Option, Result, Ok, Err, flat_map}
use Rattle.std.specs.Io.KnownBytes.{Appends}
use Rattle.ib_io.specs.Faults.{AppendsAll, AppendsFront, HasCause, Rose}
use Rattle.ib_io.specs.Writer.{Point, Grows, point_of, Puts, IsFresh, IsFinished, sink_of}
use Rattle.ib_io.specs.declared.writer.Writer.{Writer}

rest_on : (a x y s t r q : List ℕ) → a ++ x ≡ s ++ r → r ++ y ≡ t ++ q → a ++ (x ++ y) ≡ (s ++ t) ++ q
rest_on a x y s t r q h k = sym (append_assoc a x y) ∙ ap (λ z. z ++ y) h ∙ append_assoc s r y ∙ ap (λ z. s ++ z) k ∙ sym (append_assoc s t q)

Rose-later : (a b c : ℕ) → Rose a b → b ≤ c → Rose a c
Rose-later a b c h k = omega arith

Rose-earlier : (a b c : ℕ) → a ≤ b → Rose b c → Rose a c
Rose-earlier a b c h k = omega arith

bool_cases : (b : Bool) → (b ≡ true) ⊎ (b ≡ false)
bool_cases true = inl refl
bool_cases false = inr refl

cause_on : (a b c : Point) → a.faults ≤ b.faults → b.faults ≤ c.faults → (b.failed ≡ true → (a.failed ≡ true) ⊎ Rose a.faults b.faults) → (b.failed ≡ true) ⊎ Rose b.faults c.faults → (a.failed ≡ true) ⊎ Rose a.faults c.faults
cause_on a b c h k f (inl e) = elim (f e) [ inl d ↦ inl d | inr r ↦ inr (Rose-later a.faults b.faults c.faults r k) ]
cause_on a b c h k f (inr r) = inr (Rose-earlier a.faults b.faults c.faults h r)

-- nothing was put
pub grows_none : (a : Point) → Grows a a []
grows_none a = record {
  later = omega arith;
  sent = [];
  rest = a.pending;
  taken = Appends-nil a.written;
  whole = append-nil a.pending;
  good = λ h. (h, refl);
  calm = λ h. refl;
  cause = λ h. inl h;
  stays = λ h. (h, refl);
}

-- x was put, and then y
pub grows_on : (a b c : Point) (x y : List ℕ) → Grows a b x → Grows b c y → Grows a c (x ++ y)
grows_on a b c x y g h = elim (bool_cases b.failed) [
  | inl e ↦
      let gone : h.sent ≡ [] = (h.stays e).1 in
      record {
        later = omega arith;
        sent = g.sent ++ h.sent;
        rest = g.rest ++ y;
        taken = Appends-trans a.written b.written c.written g.sent h.sent g.taken h.taken;
        whole = rest_on a.pending x y g.sent h.sent g.rest (g.rest ++ y) g.whole (ap (λ z. z ++ (g.rest ++ y)) (sym gone));
        good = λ k. let back : b.failed ≡ false = (h.good k).0 in cc;
        calm = λ k. h.calm k ∙ g.calm (h.good k).0;
        cause = λ k. cause_on a b c g.later h.later g.cause (h.cause k);
        stays = λ k. ((h.stays e).0, ap (λ z. g.sent ++ z) gone ∙ ap (λ z. z ++ []) (g.stays k).1);
      }
  | inr e ↦
      record {
        later = omega arith;
        sent = g.sent ++ h.sent;
        rest = h.rest;
        taken = Appends-trans a.written b.written c.written g.sent h.sent g.taken h.taken;
        whole = rest_on a.pending x y g.sent h.sent g.rest h.rest g.whole (ap (λ z. z ++ y) (sym (g.good e).1) ∙ h.whole);
        good = λ k. ((g.good (h.good k).0).0, (h.good k).1);
        calm = λ k. h.calm k ∙ g.calm (h.good k).0;
        cause = λ k. cause_on a b c g.later h.later g.cause (h.cause k);
        stays = λ k. let on : b.failed ≡ true = (g.stays k).0 in absurd (cc);
      }
]

-- the bytes wait
pub grows_kept : (written : Option (List ℕ)) (faults : ℕ) (failed : Bool) (old new x : List ℕ) → new ≡ old ++ x
    → Grows (record { written = written; faults = faults; failed = failed; pending = old }) (record { written = written; faults = faults; failed = failed; pending = new }) x
grows_kept written faults failed old new x e = record {
  later = omega arith;
  sent = [];
  rest = old ++ x;
  taken = Appends-nil written;
  whole = refl;
  good = λ h. (h, e);
  calm = λ h. refl;
  cause = λ h. inl h;
  stays = λ h. (h, refl);
}

-- from an empty writer to one that holds nothing and has not failed, the sink took all
grows_whole : (a b : Point) (x : List ℕ) → Grows a b x → a.pending ≡ [] → b.failed ≡ false → b.pending ≡ [] → Appends a.written b.written x
grows_whole a b x g e f n =
    let r : g.rest ≡ [] = sym (g.good f).1 ∙ n in
    let w : x ≡ g.sent = sym (ap (λ z. z ++ x) e) ∙ g.whole ∙ ap (λ z. g.sent ++ z) r ∙ append-nil g.sent in
    subst (λ (z : List ℕ). Appends a.written b.written z) (sym w) g.taken

grows_front : (a b : Point) (x : List ℕ) → Grows a b x → a.pending ≡ [] → AppendsFront a.written b.written x
grows_front a b x g e = (g.sent, g.rest, g.taken, sym (ap (λ z. z ++ x) e) ∙ g.whole)

grows_fault : (a b : Point) (x : List ℕ) → Grows a b x → a.failed ≡ false → b.failed ≡ true → Rose a.faults b.faults
grows_fault a b x g e f = elim (g.cause f) [ inl d ↦ absurd (cc) | inr r ↦ r ]

module _ {K : Type 0} {written : K → Option (List ℕ)} {faults : K → ℕ} where
  -- nothing was put
  pub puts_none : (a : Writer K) → Puts written faults a a []
  puts_none a = record { same_reference = refl; grows = grows_none (point_of written faults a) }

  -- x was put, and then y
  pub puts_on : {a b c : Writer K} {x y : List ℕ} → Puts written faults a b x → Puts written faults b c y → Puts written faults a c (x ++ y)
  puts_on p q = record { same_reference = q.same_reference ∙ p.same_reference; grows = grows_on _ _ _ _ _ p.grows q.grows }

  -- x was put, and then nothing
  pub puts_end : {a b c : Writer K} {x : List ℕ} → Puts written faults a b x → Puts written faults b c [] → Puts written faults a c x
  puts_end {a} {b} {c} {x} p q = subst (Puts written faults a c) (append-nil x) (puts_on p q)

  -- The step of a loop over bytes: the first i were put, and then the next.
  pub puts_byte : {a b c : Writer K} (xs : List ℕ) (i : ℕ) → i < length xs → Puts written faults a b (take i xs) → Puts written faults b c (get_or xs i 0 ∷ []) → Puts written faults a c (take (i + 1) xs)
  puts_byte {a} {b} {c} xs i lt p q = subst (Puts written faults a c) (sym (take_more xs i 0 lt)) (puts_on p q)

  -- The step of a loop over elements: the texts of the first i were put, and then the text of the next.
  pub puts_each : {A : Type 0} {a b c : Writer K} (f : A → List ℕ) (xs : List A) (i : ℕ) (d : A) → i < length xs
      → Puts written faults a b (flat_map f (take i xs)) → Puts written faults b c (f (get_or xs i d)) → Puts written faults a c (flat_map f (take (i + 1) xs))
  puts_each {a} {b} {c} f xs i d lt p q =
      let text : flat_map f (take (i + 1) xs) ≡ flat_map f (take i xs) ++ f (get_or xs i d) =
      ap (flat_map f) (take_more xs i d lt) ∙ flat_map-append f (take i xs) (get_or xs i d ∷ []) ∙ ap (λ z. flat_map f (take i xs) ++ z) (append-nil (f (get_or xs i d))) in
      subst (Puts written faults a c) (sym text) (puts_on p q)

  -- A writer that printed x from the start, and then finished: at `Ok` the sink took all of x and never failed, and at `Err` a front of it and its count of faults rose.
  pub puts_finished : {T E : Type 0} {target : K} {a b c : Writer K} {x : List ℕ} (result : Result T E) → IsFresh target a → Puts written faults a b x → Puts written faults b c [] → IsFinished c result
      → AppendsAll (written target) (written (sink_of c)) result x × HasCause (faults target) (faults (sink_of c)) result
  puts_finished {T = T} {E = E} {a = a} {c = c} {x = x} (Ok r) fresh p q end =
      let all = (puts_end p q).grows in
      subst (λ (k : K). Appends (written k) (written (sink_of c)) x × HasCause {T = T} {E = E} (faults k) (faults (sink_of c)) (Ok r)) fresh.sink
      (grows_whole _ _ x all fresh.empty end.ok end.empty, record { later = all.later; calm = all.calm end.ok; failed = tt })
  puts_finished {T = T} {E = E} {a = a} {c = c} {x = x} (Err r) fresh p q end =
      let all = (puts_end p q).grows in
      subst (λ (k : K). AppendsFront (written k) (written (sink_of c)) x × HasCause {T = T} {E = E} (faults k) (faults (sink_of c)) (Err r)) fresh.sink
      (grows_front _ _ x all fresh.empty, record { later = all.later; calm = tt; failed = grows_fault _ _ x all fresh.good end.err })
