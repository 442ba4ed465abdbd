use Rattle.std.proofs.Common.{◌∙◌, refl, ap}
use Rattle.race_watch.specs.ActParts.{as_act}
use Rattle.race_watch.proofs.Forgetting.{forgets_none}
use Rattle.race_watch.proofs.Stepping.{stays}
use Rattle.order_theory.specs.Acts.{goes_on}
use Rattle.race_watch.proofs.order.Order.step.Goals as goal

pub returns-in-GoesOn : goal.returns-in-GoesOn
returns-in-GoesOn c =
    stays c.args.n c.args.before.now c.args.self.now c.requires.act.ordered c.args.e.now c.requires.act.first c.requires.act.last goes_on (c.requires.act.act ∙ ap as_act c.in-GoesOn.is) _
    (record { rounds = λ t k. refl; locks = λ c p q. refl; constructs = λ k. refl; events = λ c p q. refl; pairs = λ j h. forgets_none _ _ _ refl; named_count = refl; named = λ j p q. refl }) refl refl refl
