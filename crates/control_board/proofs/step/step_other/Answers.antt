use Rattle.std.proofs.Common.{sym, subst}
use Rattle.control_board.specs.Boards.{StepBy, CanStep}
use Rattle.control_board.proofs.step.step_other.Goals as goal

pub returns-in-Pair : goal.returns-in-Pair
returns-in-Pair c line = subst (λ a. StepBy c.args.parts.now c.args.image a line c.pair.new.parts) (sym c.in-Pair.is) (c.pair.ensures line)

pub returns-in-Enter : goal.returns-in-Enter
returns-in-Enter c line = subst (λ a. StepBy c.args.parts.now c.args.image a line c.enter.new.parts) (sym c.in-Enter.is) (c.enter.ensures line)

pub returns-in-Exit : goal.returns-in-Exit
returns-in-Exit c line = subst (λ a. StepBy c.args.parts.now c.args.image a line c.exit.new.parts) (sym c.in-Exit.is) (c.exit.ensures line)

pub returns-in-Gone : goal.returns-in-Gone
returns-in-Gone c line = subst (λ a. StepBy c.args.parts.now c.args.image a line c.fail.new.parts) (sym c.in-Gone.is) (c.fail.ensures line)

pub returns-in-Stop : goal.returns-in-Stop
returns-in-Stop c line = subst (λ a. StepBy c.args.parts.now c.args.image a line c.stop.new.parts) (sym c.in-Stop.is) (c.stop.ensures _ line)

pub stop-requires : goal.stop-requires
stop-requires c = record { code = c.in-Stop.code; step = subst (CanStep c.args.parts.now c.args.image.0) c.in-Stop.is c.requires }
