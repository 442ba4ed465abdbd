use Rattle.std.proofs.Common.{ap, ◌∙◌}
use Rattle.caf_events.specs.declared.exchange.Whole.{Whole}
use Rattle.inert_laws.specs.InertSteps.{is_inert_step}
use Rattle.control_board.proofs.inert.is_inert.Goals as goal

pub returns : goal.returns
returns c n h b = c.is_inert_told.ensures n h b ∙ ap (λ (w : Whole). is_inert_step n h c.args.image.0 w.ask w.reply) c.told.ensures
