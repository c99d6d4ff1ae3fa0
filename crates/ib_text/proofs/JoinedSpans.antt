-- Neighbouring chunks of one place may be joined from the front.
use Rattle.std.proofs.Common.{◌≡◌, List, [], ◌∷◌, ◌++◌, true, false, ap, sym, refl, append_assoc}
use Rattle.std.specs.Prelude.{◌==◌, if◌then◌else◌}
use Rattle.std.proofs.lemmas.Bool.{eqb-true}
use Rattle.ib_map.specs.Replies.{Span}
use Rattle.ib_text.specs.Output.{span_and, joined_spans}

-- two neighbouring chunks as one
abbrev pub span_with : Span → Span → Span
span_with a b = record a { high = b.high; pairs = a.pairs ++ b.pairs }

span_with-assoc : (a b c : Span) → span_with a (span_with b c) ≡ span_with (span_with a b) c
span_with-assoc a b c = ap (λ pairs. let span : Span = record { low = a.low; high = c.high; place = a.place; pairs = pairs } in span) (sym (append_assoc a.pairs b.pairs c.pairs))

span_and-apart : (a b : Span) (spans : List Span) → (a.place == b.place) ≡ false → span_and a (span_and b spans) ≡ a ∷ span_and b spans
span_and-apart a b [] apart = rw apart refl
span_and-apart a b (c ∷ spans) apart =
    elim (b.place == c.place) as (λ t. span_and a (if t then span_with b c ∷ spans else b ∷ c ∷ spans) ≡ a ∷ (if t then span_with b c ∷ spans else b ∷ c ∷ spans)) [
      | true ↦ rw apart refl
      | false ↦ rw apart refl
    ]

span_and-together : (a b : Span) (spans : List Span) → (a.place == b.place) ≡ true → span_and a (span_and b spans) ≡ span_and (span_with a b) spans
span_and-together a b [] one = rw one refl
span_and-together a b (c ∷ spans) one =
    let same : (a.place == c.place) ≡ (b.place == c.place) = ap (λ place. place == c.place) (eqb-true a.place b.place one) in
    rw same (elim (b.place == c.place) as (λ t. span_and a (if t then span_with b c ∷ spans else b ∷ c ∷ spans) ≡ (if t then span_with (span_with a b) c ∷ spans else span_with a b ∷ c ∷ spans)) [
      | true ↦ rw one (ap (λ span. span ∷ spans) (span_with-assoc a b c))
      | false ↦ rw one refl
    ])

-- a chunk before others whose first is at another place stands alone
pub joined_spans-apart : (a b : Span) (spans : List Span) → (a.place == b.place) ≡ false → joined_spans (a ∷ b ∷ spans) ≡ a ∷ joined_spans (b ∷ spans)
joined_spans-apart a b spans apart = span_and-apart a b (joined_spans spans) apart

-- two at one place are one before the others
pub joined_spans-together : (a b : Span) (spans : List Span) → (a.place == b.place) ≡ true → joined_spans (a ∷ b ∷ spans) ≡ joined_spans (span_with a b ∷ spans)
joined_spans-together a b spans one = span_and-together a b (joined_spans spans) one
