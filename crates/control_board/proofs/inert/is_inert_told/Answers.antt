use Rattle.std.proofs.Common.{ap, sym, ◌∙◌}
use Rattle.caf_events.specs.declared.exchange.Whole.{Whole}
use Rattle.inert_laws.specs.InertSteps.{is_inert_step}
use Rattle.control_board.proofs.inert.is_inert_told.Goals as goal

pub returns-in-Some : goal.returns-in-Some
returns-in-Some c n h b = c.is_inert_arrival.ensures n h b ∙ ap (λ (w : Whole). is_inert_step n h c.args.image.0 w.ask w.reply) (sym c.in-Some.ensures)
