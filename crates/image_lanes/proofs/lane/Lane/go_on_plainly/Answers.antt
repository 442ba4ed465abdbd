use Rattle.std.proofs.Common.{◌≡◌, false, ap, sym, ◌∙◌, subst}
use Rattle.std.specs.Prelude.{◌||◌}
use Rattle.image_lanes.specs.Lanes.{is_due, is_failure, is_full, by_program}
use Rattle.image_lanes.specs.LaneStates.{lane_of, Given}
use Rattle.image_lanes.specs.Holds.{course_of}
use Rattle.image_lanes.proofs.Giving.{given_past}
use Rattle.image_lanes.proofs.Plainly.{recorded_goes_on}
use Rattle.image_lanes.proofs.lane.Lane.go_on_plainly.Goals as goal

pub returns-else-is_full : goal.returns-else-is_full
returns-else-is_full g c =
    let l = lane_of g.M.Walker c.args.self.now in
    let by : l.course ≡ by_program = ap (course_of l.image l.held) c.requires.going in
    let due : is_due l ≡ false = sym c.is_due.ensures ∙ c.if-is_due.false in
    let fails : is_failure c.args.event.now.ask ≡ false = recorded_goes_on c.args.event.now.ask c.requires.recorded in
    let free : (is_due l || is_failure c.args.event.now.ask) ≡ false = ap (λ b. b || is_failure c.args.event.now.ask) due ∙ fails in
    let room : is_full l ≡ false = sym c.is_full.ensures.is ∙ c.if-is_full.false in
    let e = c.go_past_plainly.ensures in
    subst (λ m. Given g.M.Walker.step l c.args.event.now.reply m) (sym e.past)
    (given_past g.M.Walker.step l by c.args.event.now.ask c.args.event.now.reply c.requires.asked free c.args.event.now.line c.requires.line room c.requires.recorded (g.M.Walker.config c.go_past_plainly.new.self.machine) e.goes e.rests)
