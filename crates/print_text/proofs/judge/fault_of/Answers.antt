use Rattle.print_text.proofs.Judging.{judged_fault, judged_right}
use Rattle.print_text.proofs.judge.fault_of.Goals as goal
use Rattle.print_text.specs.Items.{items_left}

pub returns-in-Some-clause-faults : goal.returns-in-Some-clause-faults
returns-in-Some-clause-faults c =
    judged_fault c.args.texts.now c.in-Some.number c.args.portions.now c.args.format c.text_in.result.now c.in-Some.is c.text_in.ensures (items_left c.new.result) c.new.ensures c.is_right.result (c.is_right.ensures c.args.texts.now)

pub returns-in-Some-clause-prints : goal.returns-in-Some-clause-prints
returns-in-Some-clause-prints c =
    judged_right c.args.texts.now c.in-Some.number c.args.portions.now c.args.format c.text_in.result.now c.in-Some.is c.text_in.ensures (items_left c.new.result) c.new.ensures c.is_right.result (c.is_right.ensures c.args.texts.now)
