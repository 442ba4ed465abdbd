use Rattle.decided_watch.proofs.Deciding.{decided}
use Rattle.order_lines.proofs.bar.bar_among.Goals as goal

pub returns-in-Some : goal.returns-in-Some
returns-in-Some c n race = (race, rw c.in-Some.is at c.in_ok-undecided.ensures)

pub returns-in-None : goal.returns-in-None
returns-in-None c n race = decided n c.args.trace.now race (rw c.in-None.is at c.in_ok-undecided.ensures)
