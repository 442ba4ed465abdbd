use Rattle.std.proofs.Common.{◌≡◌, true, false, ap, sym, ◌∙◌, subst}
use Rattle.std.specs.Prelude.{◌||◌}
use Rattle.caf_events.specs.Events.{counts_words}
use Rattle.image_lanes.specs.Lanes.{is_due, is_failure, is_full, by_program}
use Rattle.image_lanes.specs.LaneStates.{lane_of, Given}
use Rattle.image_lanes.specs.Holds.{course_of}
use Rattle.image_lanes.proofs.Giving.{given_past}
use Rattle.image_lanes.proofs.lane.Lane.go_on.Goals as goal

pub returns-then-is_recorded : goal.returns-then-is_recorded
returns-then-is_recorded g c =
    let l = lane_of g.M.Walker c.args.self.now in
    let by : l.course ≡ by_program = ap (course_of l.image l.held) c.requires.going in
    let free : (is_due l || is_failure c.args.event.now.ask) ≡ false = ap (λ a. is_due l || is_failure a) (sym c.requires.ask) ∙ sym c.begins_failure.ensures ∙ c.if-begins_failure.false in
    let room : is_full l ≡ false = sym c.is_full.ensures.is ∙ c.if-is_full.false in
    let counts : counts_words c.args.event.now.ask ≡ true = ap counts_words (sym c.requires.ask) ∙ sym c.is_recorded.ensures ∙ c.if-is_recorded.true in
    let e = c.go_past.ensures in
    subst (λ m. Given g.M.Walker.step l c.args.event.now.reply m) (sym e.past)
    (given_past g.M.Walker.step l by c.args.event.now.ask c.args.event.now.reply c.requires.asked free c.args.event.now.line c.requires.line room counts (g.M.Walker.config c.go_past.new.self.machine) e.goes e.rests)
