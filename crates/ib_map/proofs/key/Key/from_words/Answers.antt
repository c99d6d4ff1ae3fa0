-- The key of words that are one's.
use Rattle.std.proofs.Common.{◌∙◌, sym, true}
use Rattle.ib_map.proofs.KeyLaws.{key_by-key}
use Rattle.ib_map.proofs.key.Key.from_words.Goals as goal

pub returns-then-are_key_words : goal.returns-then-are_key_words
returns-then-are_key_words c =
    (sym c.are_key_words.ensures ∙ c.if-are_key_words.true, key_by-key c.args.first c.args.second true _)
