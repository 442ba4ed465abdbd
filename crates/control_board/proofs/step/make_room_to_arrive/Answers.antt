use Rattle.std.proofs.Common.{false, sym, ◌∙◌}
use Rattle.caf_events.specs.declared.ask.Ask.TheVariants as asks
use Rattle.control_board.proofs.Growing.{on_any, plan_given, plan_none}
use Rattle.control_board.proofs.Members.{member_there}
use Rattle.control_board.proofs.Steps.{ready_parts}
use Rattle.control_board.proofs.step.make_room_to_arrive.Goals as goal

pub make_room_to_join-requires-clause-team : goal.make_room_to_join-requires-clause-team
make_room_to_join-requires-clause-team c =
    let s = c.requires in
    let r = ready_parts s.images s.history c.args.image.0 (asks.Arrive c.args.team c.args.arriving.now) s.ready in
    let t = member_there s.images s.history c.args.parts.now s.board false c.args.team.0 c.args.image.0 r.1 in
    (t.0, t.1)

pub make_room_to_join-requires-clause-few : goal.make_room_to_join-requires-clause-few
make_room_to_join-requires-clause-few c = c.requires.board.few

pub returns-in-Some-clause-planned : goal.returns-in-Some-clause-planned
returns-in-Some-clause-planned c =
    plan_given c.make_room_to_form.result c.args.parts.now c.make_room_to_form.new.parts.plan c.args.image c.args.team c.args.arriving.now c.in-Some.arg (sym c.form_of.ensures ∙ c.in-Some.is) c.make_room_to_form.ensures.planned

pub returns-in-None-clause-planned : goal.returns-in-None-clause-planned
returns-in-None-clause-planned c =
    let s = c.requires in
    let r = ready_parts s.images s.history c.args.image.0 (asks.Arrive c.args.team c.args.arriving.now) s.ready in
    let t = member_there s.images s.history c.args.parts.now s.board false c.args.team.0 c.args.image.0 r.1 in
    on_any c.make_room_to_join.result (plan_none c.args.parts.now c.make_room_to_join.new.parts.plan c.args.image c.args.team c.args.arriving.now (sym c.form_of.ensures ∙ c.in-None.is) t.0 t.2 c.make_room_to_join.ensures.planned)
