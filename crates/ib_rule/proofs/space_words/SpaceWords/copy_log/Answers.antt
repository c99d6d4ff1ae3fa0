-- One word more of the log is copied, and at the end all of them: there is room for it.
use Rattle.std.proofs.Common.{◌≡◌, ◌+◌, ◌∙◌, ◌++◌, ◌∷◌, [], ℕ, List, suc, length, take, sym, ap, arith}
use Rattle.std.proofs.Math.Seq.{take-suc}
use Rattle.std.proofs.lemmas.List.{length-take}
use Rattle.ib_rule.specs.Closed.{log_in}
use Rattle.ib_rule.proofs.space_words.SpaceWords.copy_log.Goals as goal

pub push_reserved-requires : goal.push_reserved-requires
push_reserved-requires c =
    let log : List ℕ = log_in c.args.self.now.sizes c.args.self.now.words in
    let copied = ap length c.loop-number.invariant.copied ∙ length-take c.loop-number.number log in
    omega (arith, copied, c.loop-number.log.ok, c.loop-number.invariant.room)

pub loop-number-preserved : goal.loop-number-preserved
loop-number-preserved c =
    let log : List ℕ = log_in c.args.self.now.sizes c.args.self.now.words in
    let number : ℕ = c.loop-number.number in
    record {
      copied = c.push_reserved.ensures.items ∙ (ap (λ (ws : List ℕ). ws ++ c.log_word.result ∷ []) c.loop-number.invariant.copied ∙ (ap (λ (w : ℕ). take number log ++ w ∷ []) c.log_word.ensures ∙ (sym (take-suc log number 0 (omega arith)) ∙ ap (λ (n : ℕ). take n log) (let z : suc number ≡ number + 1 = omega arith in z))));
      room = omega (arith, c.push_reserved.ensures.capacity, c.loop-number.invariant.room);
    }
