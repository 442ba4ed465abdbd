use Rattle.caf_events.specs.declared.round.RoundKind.TheVariants as kinds
use Rattle.std.proofs.Common.{sym, subst, ap, ◌∙◌, length}
use Rattle.control_board.specs.Boards.{StepsTo}
use Rattle.control_board.proofs.Steps.{no_arrival, step_law}
use Rattle.control_board.proofs.step.step.Goals as goal

pub returns-in-Arrive : goal.returns-in-Arrive
returns-in-Arrive c = subst (λ a. StepsTo c.args.parts.now c.args.image a c.args.line c.arrive.new.parts) (sym c.in-Arrive.is) c.arrive.ensures

pub returns-in_default : goal.returns-in_default
returns-in_default c = step_law c.args.parts.now c.step_other.new.parts c.args.image c.args.ask c.args.line (no_arrival c.args.ask (λ t r e. c.in_default.not-Arrive t r e) (λ t op root kind vs e. c.in_default.not-Gather t op root kind vs e)) (c.step_other.ensures c.args.line)

pub returns-in-Gather : goal.returns-in-Gather
returns-in-Gather c =
    subst (λ a. StepsTo c.args.parts.now c.args.image a c.args.line c.gather.new.parts) (sym c.in-Gather.is)
    (c.gather.ensures c.in-Gather.op c.in-Gather.root c.in-Gather.kind (c.kind_with-what.ensures ∙ ap (λ vs. kinds.Collective c.in-Gather.op c.in-Gather.root c.in-Gather.kind (length vs)) c.as_slice.ensures))
