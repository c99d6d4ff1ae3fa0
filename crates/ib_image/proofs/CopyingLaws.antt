-- One page more is copied.
use Rattle.std.specs.Prelude.{set}
use Rattle.std.proofs.Common.{◌≡◌, ◌≢◌, ℕ, ◌+◌, ◌<◌, ◌∙◌, List, [], ◌∷◌, ◌++◌, map, length, take, sym, ap, subst, arith, inl, inr, append_assoc, length-append}
use Rattle.std.proofs.lemmas.Bool.{cases_eq}
use Rattle.std.proofs.lemmas.List.{take-append-le, take_more_set, get_or-set_same, get_or-set_other, map-append}
use Rattle.std.proofs.Math.Seq.{take-length}
use Rattle.ib_levels.specs.declared.level.Mode.TheVariants.{S}
use Rattle.ib_layout.specs.Geometry.{Sizes}
use Rattle.ib_core.specs.Takings.{is_given_at}
use Rattle.ib_logrec.specs.declared.entry.Entry.{Entry}
use Rattle.ib_logrec.specs.Log.{memory_after, used}
use Rattle.ib_rule.specs.declared.looks.Grants.{Grants}
use Rattle.ib_rule.specs.declared.memory.Knowledge.{Knowledge}
use Rattle.ib_latch.specs.Waits.{EndsWon}
use Rattle.ib_core.specs.Sessions.{idle}
use Rattle.ib_rule.specs.Pass.{IsAtRest, IsOf, PassState, with_view}
use Rattle.ib_rule.specs.Space.{SpaceState}
use Rattle.ib_walk.specs.Words.{image_of}
use Rattle.ib_image.specs.declared.copy.CopiedPage.{CopiedPage}
use Rattle.ib_image.specs.Copies.{IsCopiedPage, IsCopy, first_place, page_in}
use Rattle.ib_image.specs.Copying.{CopiesPage, HasCopied, HasOnlySeen}
use Rattle.ib_image.proofs.CopyLaws.{copied_longer}
use Rattle.ib_image.proofs.OnePageLaws.{only_seen, view_trans}

-- the last page that was copied stands at the end of what is seen
pub copied_now : (sizes : Sizes) (lawful : List Entry → Type 0) (opening : ℕ → ℕ) (page : ℕ) (c : CopiedPage) (p q : PassState) → CopiesPage sizes lawful opening page c p q → IsCopiedPage opening q.view.memory.seen page c
copied_now sizes lawful opening page c p q h =
    let place = h.place in
    record {
      within = omega arith;
      image = h.image ∙ ap (λ es. image_of (memory_after opening es) page) (sym (ap (λ n. take n q.view.memory.seen) place ∙ take-length q.view.memory.seen));
    }

-- page 0 was copied
pub copied_first : (sizes : Sizes) (lawful : List Entry → Type 0) (opening : ℕ → ℕ) (c : CopiedPage) (copy : List CopiedPage) (word : ℕ) (p q : PassState) → 0 < length copy
    → CopiesPage sizes lawful opening 0 c p q → word ≡ used q.view.memory.seen → HasCopied sizes lawful opening 1 (set copy 0 c) word p q
copied_first sizes lawful opening c copy word p q some h tail =
    let own : page_in (set copy 0 c) 0 ≡ c = get_or-set_same copy 0 c (record { image = []; place = 0 }) some in
    let at : first_place (set copy 0 c) ≡ length q.view.memory.seen = ap (λ (d : CopiedPage). d.place) own ∙ h.place in
    record {
      some = omega arith;
      pass = h.pass;
      idle = h.idle;
      more = h.more;
      seen = h.seen;
      memory = subst (λ (ns : List ℕ). HasOnlySeen ns p.view.memory q.view.memory) (sym (ap (map (λ (d : CopiedPage). d.place)) (take_more_set copy 0 c some))) h.memory;
      copied = λ page lt. subst (λ (n : ℕ). IsCopiedPage opening q.view.memory.seen n (page_in (set copy 0 c) n)) (omega arith)
          (subst (IsCopiedPage opening q.view.memory.seen 0) (sym own) (copied_now sizes lawful opening 0 c p q h));
      rises = λ page lt. absurd (omega arith);
      from = let e = ap length h.seen in let l = length-append p.view.memory.seen h.more in omega arith;
      tail = tail ∙ ap used (sym (ap (λ n. take n q.view.memory.seen) at ∙ take-length q.view.memory.seen));
      grants = h.grants;
      looks = h.looks;
      knows = h.knows;
    }

-- and one behind others
pub copied_more : (sizes : Sizes) (lawful : List Entry → Type 0) (opening : ℕ → ℕ) (count : ℕ) (c : CopiedPage) (copy : List CopiedPage) (word : ℕ) (p q r : PassState) → count < length copy
    → HasCopied sizes lawful opening count copy word p q → CopiesPage sizes lawful opening count c q r → HasCopied sizes lawful opening (count + 1) (set copy count c) word p r
copied_more sizes lawful opening count c copy word p q r lt old h =
    let none : CopiedPage = record { image = []; place = 0 } in
    let some = old.some in
    let here : page_in (set copy count c) count ≡ c = get_or-set_same copy count c none lt in
    let there : (page : ℕ) → page ≢ count → page_in (set copy count c) page ≡ page_in copy page = λ page ne. get_or-set_other copy count page c none ne in
    let first : first_place (set copy count c) ≡ first_place copy = ap (λ (d : CopiedPage). d.place) (there 0 (omega arith)) in
    let longer = ap length h.seen in
    let l = length-append q.view.memory.seen h.more in
    let zero_in = (old.copied 0 some).within in
    record {
      some = omega arith;
      pass = view_trans p q r old.pass h.pass;
      idle = h.idle;
      more = old.more ++ h.more;
      seen = h.seen ∙ (ap (λ es. es ++ h.more) old.seen ∙ append_assoc p.view.memory.seen old.more h.more);
      memory = only_seen (map (λ (d : CopiedPage). d.place) (take (count + 1) (set copy count c))) p.view.memory r.view.memory
          (ap (λ (m : Knowledge). m.met) h.memory ∙ ap (λ (m : Knowledge). m.met) old.memory)
          (ap (λ (m : Knowledge). m.own) h.memory ∙ ap (λ (m : Knowledge). m.own) old.memory)
          (ap (λ (m : Knowledge). m.append) h.memory ∙ ap (λ (m : Knowledge). m.append) old.memory)
          (ap (λ (m : Knowledge). m.ends) h.memory ∙ (ap (λ (m : Knowledge). m.ends ++ c.place ∷ []) old.memory
          ∙ (append_assoc p.view.memory.ends (map (λ (d : CopiedPage). d.place) (take count copy)) (c.place ∷ [])
          ∙ ap (λ ns. p.view.memory.ends ++ ns) (sym (map-append (λ (d : CopiedPage). d.place) (take count copy) (c ∷ [])) ∙ ap (map (λ (d : CopiedPage). d.place)) (sym (take_more_set copy count c lt))))));
      copied = λ page in_. elim (cases_eq page count) [
        | inl e ↦ subst (λ (n : ℕ). IsCopiedPage opening r.view.memory.seen n (page_in (set copy count c) n)) (sym e) (subst (IsCopiedPage opening r.view.memory.seen count) (sym here) (copied_now sizes lawful opening count c q r h))
        | inr ne ↦ subst (IsCopiedPage opening r.view.memory.seen page) (sym (there page ne))
            (copied_longer opening q.view.memory.seen h.more r.view.memory.seen page (page_in copy page) h.seen (old.copied page (omega (arith, in_, ne))))
      ];
      rises = λ page in_. elim (cases_eq (page + 1) count) [
        | inl e ↦
            let within = (old.copied page (omega arith)).within in
            let now : (page_in (set copy count c) (page + 1)).place ≡ length r.view.memory.seen = ap (λ (n : ℕ). (page_in (set copy count c) n).place) e ∙ (ap (λ (d : CopiedPage). d.place) here ∙ h.place) in
            let was : (page_in (set copy count c) page).place ≡ (page_in copy page).place = ap (λ (d : CopiedPage). d.place) (there page (omega arith)) in omega arith
        | inr ne ↦
            let up = old.rises page (omega (arith, in_, ne)) in
            let one : (page_in (set copy count c) page).place ≡ (page_in copy page).place = ap (λ (d : CopiedPage). d.place) (there page (omega (arith, in_, ne))) in
            let two : (page_in (set copy count c) (page + 1)).place ≡ (page_in copy (page + 1)).place = ap (λ (d : CopiedPage). d.place) (there (page + 1) ne) in omega arith
      ];
      from = let f = old.from in omega arith;
      tail = old.tail ∙ ap used (sym (ap (λ n. take n r.view.memory.seen) first ∙ (ap (take (first_place copy)) h.seen ∙ take-append-le (first_place copy) q.view.memory.seen h.more zero_in)));
      grants = h.grants ∙ (ap (λ (g : Grants). let b : Grants = record { s = g.s + 1; sx = g.sx; x = g.x } in b) old.grants ∙ ap (λ (n : ℕ). let b : Grants = record { s = n; sx = p.view.grants.sx; x = p.view.grants.x } in b) (let e : p.view.grants.s + count + 1 ≡ p.view.grants.s + (count + 1) = omega arith in e));
      looks = subst (λ (l : ℕ). EndsWon (is_given_at S) l r.view.looks) (let e : count + 2 ≡ count + 1 + 1 = omega arith in e) h.looks;
      knows = h.knows;
    }

-- all pages are copied
pub copied_all : (sizes : Sizes) (lawful : List Entry → Type 0) (opening : ℕ → ℕ) (copy : List CopiedPage) (word : ℕ) (p q : PassState) → length copy ≡ sizes.pages
    → HasCopied sizes lawful opening sizes.pages copy word p q → IsCopy opening sizes.pages q.view.memory.seen copy
copied_all sizes lawful opening copy word p q size h = record { size = size; copied = h.copied; rises = h.rises }

-- who was at rest is at rest again
pub rests-again : (space : SpaceState) (p q : PassState) → IsOf space q → q.view.session ≡ idle → q ≡ with_view p q.view → IsAtRest space p → IsAtRest space q
rests-again space p q own idle_now same rest = record { own = own; idle = idle_now; scratch = ap (λ (s : PassState). s.has_scratch) same ∙ rest.scratch }
