use Rattle.std.proofs.Common.{◌∙◌, subst}
use Rattle.std.proofs.lemmas.Result.{IfOk-weaker}
use Rattle.order_theory.specs.Order.{Within}
use Rattle.race_watch.specs.Recorded.{IsTold}
use Rattle.race_search.specs.Known.{TellsOf}
use Rattle.race_search.proofs.JoinedClocks.{told_of}
use Rattle.race_search.proofs.told.Watcher.told.Goals as goal

pub clock_of-clock-requires-clause-known : goal.clock_of-clock-requires-clause-known
clock_of-clock-requires-clause-known c j w = c.requires.fits.spoken j (subst (Within j) (c.as_slice-2.ensures.value ∙ c.in_ok-images.ensures) w)

pub returns : goal.returns
returns c =
    IfOk-weaker c.clock_of-clock.result (TellsOf c.args.n c.args.before.now c.as_slice-2.result.now) (IsTold c.args.n c.args.before.now c.args.e.now)
    (told_of c.args.n c.args.before.now c.args.e.now c.as_slice-2.result.now (c.as_slice-2.ensures.value ∙ c.in_ok-images.ensures)) c.clock_of-clock.ensures
