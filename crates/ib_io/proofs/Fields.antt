-- A line with more fields than its word has.
use Rattle.std.proofs.Common.{◌≡◌, ◌∙◌, ℕ, List, ◌∷◌, ap}
use Rattle.std.specs.Prelude.{◌==◌}
use Rattle.ib_io.specs.Lines.{fields_of}
use Rattle.ib_io.proofs.Cuts.{split-some}

-- a function of fields that says this of each list with one more field than it takes
module _ {A : Type 0} (f : List (List ℕ) → A) (wrong : A) where
  pub one-more : ((a b : List ℕ) (more : List (List ℕ)) → f (a ∷ b ∷ more) ≡ wrong) → (fields : List (List ℕ)) (field rest : List ℕ)
      → fields ≡ field ∷ fields_of rest → f fields ≡ wrong
  one-more each fields field rest h =
      let more = split-some (λ byte. byte == 32) rest in
      ap f (h ∙ ap (λ fs. field ∷ fs) more.2) ∙ each field more.0 more.1

  pub two-more : ((a b c : List ℕ) (more : List (List ℕ)) → f (a ∷ b ∷ c ∷ more) ≡ wrong) → (fields : List (List ℕ)) (first behind second rest : List ℕ)
      → fields ≡ first ∷ fields_of behind → fields_of behind ≡ second ∷ fields_of rest → f fields ≡ wrong
  two-more each fields first behind second rest h k =
      let more = split-some (λ byte. byte == 32) rest in
      ap f (h ∙ ap (λ fs. first ∷ fs) (k ∙ ap (λ fs. second ∷ fs) more.2)) ∙ each first second more.0 more.1

  pub three-more : ((a b c d : List ℕ) (more : List (List ℕ)) → f (a ∷ b ∷ c ∷ d ∷ more) ≡ wrong) → (fields : List (List ℕ)) (first after second behind third rest : List ℕ)
      → fields ≡ first ∷ fields_of after → fields_of after ≡ second ∷ fields_of behind → fields_of behind ≡ third ∷ fields_of rest → f fields ≡ wrong
  three-more each fields first after second behind third rest h k l =
      let more = split-some (λ byte. byte == 32) rest in
      ap f (h ∙ ap (λ fs. first ∷ fs) (k ∙ ap (λ fs. second ∷ fs) (l ∙ ap (λ fs. third ∷ fs) more.2))) ∙ each first second third more.0 more.1
