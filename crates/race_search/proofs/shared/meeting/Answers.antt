use Rattle.std.proofs.Common.{◌∙◌, sym}
use Rattle.race_watch.specs.ActParts.{as_cell}
use Rattle.race_search.proofs.Least.{never, least, none}
use Rattle.race_search.proofs.shared.meeting.Goals as goal

pub returns-then-not-may_meet : goal.returns-then-not-may_meet
returns-then-not-may_meet c =
    never c.args._n c.args._b.now c.args._x.now c.args._g.now c.args._e.now c.args.other.now c.args.touch.now c.requires.there c.requires.here (sym c.may_meet.ensures ∙ c.if-not-may_meet.true)

pub returns-in-Some : goal.returns-in-Some
returns-in-Some c =
    let l = c.least_in.ensures in
    least c.args._n c.args._b.now c.args._x.now c.args._g.now c.args._e.now c.args.other.now c.args.touch.now c.requires.there c.requires.here (sym c.may_meet.ensures ∙ c.if-not-may_meet.false)
    c.in-Some.offset (rw (c.as_slice.ensures.value, c.as_slice-2.ensures.value, c.in-Some.is) at l) (as_cell c.cell_at.result) c.cell_at.ensures

pub returns-in-None : goal.returns-in-None
returns-in-None c =
    let l = c.least_in.ensures in
    none c.args._n c.args._b.now c.args._x.now c.args._g.now c.args._e.now c.args.other.now c.args.touch.now c.requires.there c.requires.here (rw (c.as_slice.ensures.value, c.as_slice-2.ensures.value, c.in-None.is) at l)
