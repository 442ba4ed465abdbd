use Rattle.std.proofs.Common.{◌∙◌, [], ◌∷◌, ◌++◌, sym, ap, subst, refl}
use Rattle.order_axioms.specs.Closes.{is_gone}
use Rattle.race_search.specs.Failures.{AreFailures}
use Rattle.race_search.proofs.KeptFailures.{still, one_more}
use Rattle.race_search.proofs.failures.keep_failure.Goals as goal

pub returns-in_ok-push : goal.returns-in_ok-push
returns-in_ok-push c =
    subst (AreFailures c.args.n (c.args.before.now ++ c.args.e.now ∷ [])) (sym c.in_ok-push.ensures.items)
    (one_more c.args.n c.args.before.now c.args.failures.now.items c.args.e.now (record { image = c.args.e.now.image.0; closed = c.in_ok-closed.closed }) (ap is_gone (sym c.requires.ask) ∙ sym c.is_gone.ensures ∙ c.if-is_gone.true) refl c.in_ok-closed.ensures c.requires.failures)

pub returns-else-is_gone : goal.returns-else-is_gone
returns-else-is_gone c = still c.args.n c.args.before.now c.args.failures.now.items c.args.e.now (ap is_gone (sym c.requires.ask) ∙ sym c.is_gone.ensures ∙ c.if-is_gone.false) c.requires.failures
