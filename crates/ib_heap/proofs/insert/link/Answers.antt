-- Each word is written once.
use Rattle.std.proofs.Common.{ℕ, List, arith, ◌∙◌, ◌+◌, ◌≡◌, ◌<◌, ◌≤◌, ◌≢◌, sym, ap, get_or, true}
use Rattle.ib_map.specs.Keys.{MapKey, key_in}
use Rattle.ib_map.specs.KeyWords.{is_key_words}
use Rattle.ib_heap.specs.Kept.{IsOutside}
use Rattle.ib_heap.specs.Chain.{key_at, is_key_at}
use Rattle.ib_heap.proofs.KeptLaws.{outside-apart}
use Rattle.ib_heap.proofs.insert.link.Goals as goal

-- the key of the words that were written
written : (vs : List ℕ) (p a b : ℕ) (key : MapKey) → get_or vs (p + 1) 0 ≡ a → get_or vs (p + 2) 0 ≡ b → key_in a b ≡ key → is_key_words a b ≡ true → (key_at vs p ≡ key) × (is_key_at vs p ≡ true)
written vs p a b key first second is words = (
  ap (λ n. key_in n (get_or vs (p + 2) 0)) first ∙ (ap (λ n. key_in a n) second ∙ is),
  ap (λ n. is_key_words n (get_or vs (p + 2) 0)) first ∙ (ap (λ n. is_key_words a n) second ∙ words),
)

-- a word of the offset is no header that is written behind it
word-apart : (p i j : ℕ) → IsOutside p i → p ≤ j → j < p + 4 → j ≢ i
word-apart p i j out low high z = outside-apart p i j out low high (sym z)

pub returns : goal.returns
returns c =
    let r = c.requires in
    let p = c.args.offset in
    let a = r.offset_low in let b = r.before_header.low in let o = r.owner_header.low in
    let before : (j : ℕ) → p ≤ j → j < p + 4 → j ≢ c.args.cursor.before = λ j low high. word-apart p _ j r.before_apart low high in
    let owner : (j : ℕ) → p ≤ j → j < p + 4 → j ≢ c.args.owner = λ j low high. word-apart p _ j r.owner_apart low high in
    let first =
    c.write-7.ensures.other _ (λ z. absurd (omega arith)) ∙ (c.write-6.ensures.other _ (owner (p + 1) (omega arith) (omega arith)) ∙ (c.write-5.ensures.other _ (before (p + 1) (omega arith) (omega arith))
    ∙ (c.write-4.ensures.other _ (λ z. absurd (omega arith)) ∙ (c.write-3.ensures.other _ (λ z. absurd (omega arith)) ∙ c.write-2.ensures.here)))) in
    let second =
    c.write-7.ensures.other _ (λ z. absurd (omega arith)) ∙ (c.write-6.ensures.other _ (owner (p + 2) (omega arith) (omega arith)) ∙ (c.write-5.ensures.other _ (before (p + 2) (omega arith) (omega arith))
    ∙ (c.write-4.ensures.other _ (λ z. absurd (omega arith)) ∙ c.write-3.ensures.here))) in
    let key = written _ p _ _ c.args.key first second c.words-first.ensures.key c.words-first.ensures.are_words in
    record {
      offset_word = c.write-7.ensures.other _ (λ z. absurd (omega arith)) ∙ (c.write-6.ensures.other _ (owner p (omega arith) (omega arith)) ∙ (c.write-5.ensures.other _ (before p (omega arith) (omega arith))
          ∙ (c.write-4.ensures.other _ (λ z. absurd (omega arith)) ∙ (c.write-3.ensures.other _ (λ z. absurd (omega arith)) ∙ (c.write-2.ensures.other _ (λ z. absurd (omega arith)) ∙ c.write.ensures.here)))));
      key_word = key.0;
      is_key = key.1;
      value_word = c.write-7.ensures.other _ (λ z. absurd (omega arith)) ∙ (c.write-6.ensures.other _ (owner (p + 3) (omega arith) (omega arith)) ∙ (c.write-5.ensures.other _ (before (p + 3) (omega arith) (omega arith)) ∙ c.write-4.ensures.here));
      link = let at = r.reaches in let word = c.write-7.ensures.other _ (λ z. absurd (omega arith)) ∙ (c.write-6.ensures.other _ r.apart ∙ c.write-5.ensures.here) in omega arith;
      raised = c.write-7.ensures.other _ (λ z. absurd (omega arith)) ∙ c.write-6.ensures.here;
      count = c.write-7.ensures.here;
      other = λ i two out b o.
          let apart = outside-apart p i in
          c.write-7.ensures.other i two ∙ (c.write-6.ensures.other i o ∙ (c.write-5.ensures.other i b ∙ (c.write-4.ensures.other i (apart (p + 3) out (omega arith) (omega arith))
          ∙ (c.write-3.ensures.other i (apart (p + 2) out (omega arith) (omega arith)) ∙ (c.write-2.ensures.other i (apart (p + 1) out (omega arith) (omega arith)) ∙ c.write.ensures.other i (apart p out (omega arith) (omega arith)))))));
      size = c.write-7.ensures.size ∙ (c.write-6.ensures.size ∙ (c.write-5.ensures.size ∙ (c.write-4.ensures.size ∙ (c.write-3.ensures.size ∙ (c.write-2.ensures.size ∙ c.write.ensures.size)))));
    }
