use Rattle.std.proofs.Common.{refl}
use Rattle.caf_events.specs.declared.ask.Ask.TheVariants as asks
use Rattle.control_board.proofs.Keeping.{both}
use Rattle.control_board.proofs.Steps.{no_round, turned_steps}
use Rattle.control_board.proofs.step.exit.Goals as goal

pub returns : goal.returns
returns c line n h stamp b ready planned late =
    turned_steps c.args.parts.now _ c.args.image (asks.Exit c.args.construct) line (record { no_round = both _ (λ r. refl) (λ r. refl); no_pair = λ r. refl; no_value = λ r t j k. refl }) c.exit.ensures.turned (no_round c.args.parts.now _ c.args.image (asks.Exit c.args.construct) line (λ r. refl) refl refl refl refl refl) refl refl refl refl n h stamp b ready planned late
