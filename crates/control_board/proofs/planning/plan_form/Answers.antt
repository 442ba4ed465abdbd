use Rattle.std.proofs.Common.{false, refl, sym, ◌∙◌}
use Rattle.caf_events.specs.declared.ask.Ask.TheVariants as asks
use Rattle.caf_events.specs.declared.round.Arriving.TheVariants as arrivings
use Rattle.object_rules.specs.Happenings.{control, happened}
use Rattle.control_board.proofs.Collecting.{ok_map}
use Rattle.control_board.proofs.Keeping.{can_expect}
use Rattle.control_board.proofs.Members.{member_there}
use Rattle.control_board.proofs.Steps.{ready_parts}
use Rattle.control_board.specs.Boards.{due}
use Rattle.control_board.proofs.Plans.{clash_makes, joins_as, joins_number, joins_form, joined_makes}
use Rattle.control_board.proofs.planning.plan_form.Goals as goal

pub expected-requires-clause-team : goal.expected-requires-clause-team
expected-requires-clause-team c =
    let k = c.requires in
    let r = ready_parts k.images k.history c.args.arg.image.0 (asks.Arrive c.args.team (arrivings.Form c.args.arg.number c.args.arg.new_index)) k.ready in
    let t = member_there k.images k.history c.args.parts.now k.board false c.args.team.0 c.args.arg.image.0 r.1 in
    (t.0, t.1)

pub expected-requires-clause-state : goal.expected-requires-clause-state
expected-requires-clause-state c =
    let k = c.requires in
    let r = ready_parts k.images k.history c.args.arg.image.0 (asks.Arrive c.args.team (arrivings.Form c.args.arg.number c.args.arg.new_index)) k.ready in
    let t = member_there k.images k.history c.args.parts.now k.board false c.args.team.0 c.args.arg.image.0 r.1 in
    can_expect k.images k.history c.args.parts.now k.board c.args.arg.image.0 r.0 false c.args.team.0 k.few

pub returns-in-Joined-clause-made : goal.returns-in-Joined-clause-made
returns-in-Joined-clause-made c =
    let k = c.requires in
    let r = ready_parts k.images k.history c.args.arg.image.0 (asks.Arrive c.args.team (arrivings.Form c.args.arg.number c.args.arg.new_index)) k.ready in
    let t = member_there k.images k.history c.args.parts.now k.board false c.args.team.0 c.args.arg.image.0 r.1 in
    ok_map c.plan_joined.result (λ o q n h b ready. (
    let e = sym c.in-Joined.is ∙ c.expected.ensures n (happened control h) (b.rounds false) in
    joined_makes n h c.args.parts.now b c.args.arg.image c.args.team (arrivings.Form c.args.arg.number c.args.arg.new_index) t.0 t.2 c.in-Joined.round e o
    (λ stamp line. q n h (due n h c.args.arg.image (asks.Arrive c.args.team (arrivings.Form c.args.arg.number c.args.arg.new_index)) stamp line) b refl refl
    (joins_as n h c.args.parts.now b c.args.arg.image c.args.team (arrivings.Form c.args.arg.number c.args.arg.new_index) t.0 t.2 c.in-Joined.round e line)
    (joins_number n h c.args.parts.now b c.args.arg.image c.args.team (arrivings.Form c.args.arg.number c.args.arg.new_index) t.0 t.2 c.in-Joined.round e)
    (joins_form n h c.args.parts.now b c.args.arg.image c.args.team (arrivings.Form c.args.arg.number c.args.arg.new_index) t.0 t.2 c.in-Joined.round e stamp line)))) c.plan_joined.ensures.made

pub returns-in-Clash-clause-made : goal.returns-in-Clash-clause-made
returns-in-Clash-clause-made c n h b ready =
    let k = c.requires in
    let r = ready_parts k.images k.history c.args.arg.image.0 (asks.Arrive c.args.team (arrivings.Form c.args.arg.number c.args.arg.new_index)) k.ready in
    let t = member_there k.images k.history c.args.parts.now k.board false c.args.team.0 c.args.arg.image.0 r.1 in
    clash_makes n h c.args.parts.now b c.args.arg.image c.args.team (arrivings.Form c.args.arg.number c.args.arg.new_index) t.0 t.2 c.in-Clash.image c.in-Clash.line (sym c.in-Clash.is ∙ c.expected.ensures n (happened control h) (b.rounds false))
