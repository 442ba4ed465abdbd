use Rattle.std.proofs.Common.{◌<◌, true, false, sym, subst, arith}
use Rattle.std.specs.Prelude.{vec_len, vec_capacity}
use Rattle.std.specs.Global.{Vec}
use Rattle.caf_events.specs.declared.ask.Ask.TheVariants as asks
use Rattle.caf_events.specs.declared.round.Arriving.TheVariants as arrivings
use Rattle.control_board.specs.declared.forming.BadRound.{BadRound}
use Rattle.control_board.specs.declared.forming.Given.{Given}
use Rattle.control_board.specs.declared.forming.Plan.{Plan}
use Rattle.control_board.specs.Boards.{Planned}
use Rattle.control_board.proofs.Growing.{on_two, on_any, plan_fits}
use Rattle.control_board.proofs.Members.{member_there}
use Rattle.control_board.proofs.Steps.{ready_parts}
use Rattle.control_board.proofs.step.make_room_to_form.Goals as goal

pub make_room_for_teams-requires : goal.make_room_for_teams-requires
make_room_for_teams-requires c =
    let s = c.requires in
    let r = ready_parts s.images s.history c.args.arg.image.0 (asks.Arrive c.args.team (arrivings.Form c.args.arg.number c.args.arg.new_index)) s.ready in
    let t = member_there s.images s.history c.args.parts.now s.board false c.args.team.0 c.args.arg.image.0 r.1 in
    let u = member_there s.images s.history c.args.parts.now s.board true c.args.team.0 c.args.arg.image.0 r.1 in
    (t.0, t.1, u.1)

pub returns-clause-room : goal.returns-clause-room
returns-clause-room c =
    on_two c.make_room_for_teams.result (λ round room. record {
      rounds = round;
      forms = subst (λ (v : Vec Given). vec_len v < vec_capacity v) (sym c.make_room_for_teams.ensures.forms) (let f = c.in_ok-reserve.ensures.ok in omega arith);
      bad = subst (λ (v : Vec BadRound). vec_len v < vec_capacity v) (sym c.make_room_for_teams.ensures.bad) (let f = c.in_ok-reserve-2.ensures.ok in omega arith);
      plan = plan_fits c.args.parts.now.images c.make_room_for_teams.new.parts c.in_ok-parts.field-0 c.make_room_for_teams.ensures.plan c.make_room_for_teams.ensures.grown.images c.in_ok-parts.ensures.stock c.in_ok-parts.ensures.few room;
    })
    c.make_room_for_teams.ensures.round c.make_room_for_teams.ensures.room

pub returns-clause-planned : goal.returns-clause-planned
returns-clause-planned c =
    on_any c.make_room_for_teams.result (λ n h b ready. subst (λ (q : Plan). Planned n h q c.args.arg.image (asks.Arrive c.args.team (arrivings.Form c.args.arg.number c.args.arg.new_index))) (sym c.make_room_for_teams.ensures.plan) (c.in_ok-parts.ensures.planned n h b ready))
