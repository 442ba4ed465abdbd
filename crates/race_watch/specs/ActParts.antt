-- The acts of the code as those of the theory.
use Rattle.order_theory.specs.Races.{Cell}
use Rattle.order_theory.specs.Acts as order
use Rattle.race_watch.specs.declared.act.CellName.{CellName}
use Rattle.race_watch.specs.declared.act.Act.{Act}
use Rattle.race_watch.specs.declared.act.Act.TheVariants as acts

abbrev pub as_cell : CellName → Cell
as_cell c = record { owner = c.owner.0; coarray = c.coarray; offset = c.offset }

abbrev pub as_act : Act → order.Act
as_act (acts.Arrives team round) = order.arrives team round
as_act (acts.Leaves team round whole) = order.leaves team round whole
as_act (acts.Pairs images) = order.pairs images.items
as_act (acts.Unpairs whole) = order.unpairs whole
as_act (acts.Gets cell) = order.gets (as_cell cell)
as_act (acts.Unlocks cell) = order.unlocks (as_cell cell)
as_act (acts.Enters construct) = order.enters construct
as_act (acts.Exits construct) = order.exits construct
as_act (acts.Posts cell) = order.posts (as_cell cell)
as_act (acts.Waits cell posts) = order.waits (as_cell cell) posts
as_act acts.Finishes = order.finishes
as_act (acts.Creates owner coarray) = order.creates owner.0 coarray
as_act (acts.Deletes owner coarray) = order.deletes owner.0 coarray
as_act acts.GoesOn = order.goes_on
