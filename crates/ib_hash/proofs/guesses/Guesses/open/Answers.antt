-- Zeros are no guesses.
use Rattle.std.proofs.Common.{◌≡◌, ℕ, ◌<◌, true, replicate, sym, subst, ◌∙◌, arith, rules}
use Rattle.std.specs.Prelude.{nat_le}
use Rattle.std.proofs.lemmas.Bool.{leb-true, and_parts}
use Rattle.ib_map.specs.Space.{has_pages}
use Rattle.ib_map.specs.declared.TheConstants.{LEAST_PAGES, MOST_PAGES}
use Rattle.ib_hash.specs.declared.slots.TheConstants.{SLOTS}
use Rattle.ib_hash.specs.Rule.{AreGuesses}
use Rattle.ib_hash.proofs.Rules.{opens}
use Rattle.ib_hash.proofs.guesses.Guesses.open.Goals as goal

some-pages : (pages : ℕ) → has_pages pages ≡ true → 0 < pages
some-pages pages has = let least = leb-true LEAST_PAGES pages (and_parts (nat_le LEAST_PAGES pages) (nat_le pages MOST_PAGES) has).0 in omega arith

pub of_words-requires : goal.of_words-requires
of_words-requires c =
    let zeros : c.in_ok-words.words.items ≡ replicate SLOTS 0 = search rules in
    subst (AreGuesses c.args.pages) (sym (c.as_slice.ensures.value ∙ zeros)) (opens c.args.pages SLOTS (some-pages c.args.pages c.requires))
