-- The opening words meet the rule.
use Rattle.std.proofs.Common.{sym, subst}
use Rattle.ib_rule.specs.Rule.{IsOpening}
use Rattle.ib_rule.proofs.Sessions.{opens}
use Rattle.ib_rule.proofs.space.Space.open.Goals as goal

pub of_words-requires : goal.of_words-requires
of_words-requires g c =
    opens g.L.Law.lawful g.L.Law.opening c.args.geometry c.as_slice.result.now (g.met.L.Law.empty _ c.opening.ensures.pages)
    (subst (λ ws. IsOpening g.L.Law.opening c.args.geometry ws) (sym c.as_slice.ensures.value) c.in_ok-words.ensures.words)
