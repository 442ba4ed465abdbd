use Rattle.std.proofs.Common.{sym, subst}
use Rattle.control_board.specs.declared.forming.Plan.{Plan}
use Rattle.control_board.specs.Boards.{Planned}
use Rattle.control_board.proofs.Growing.{on_two, on_any, plan_fits, first_there}
use Rattle.control_board.proofs.step.make_room_to_end.Goals as goal

pub make_room_for_teams-requires : goal.make_room_for_teams-requires
make_room_for_teams-requires c = let s = c.requires in first_there s.images s.history c.args.parts.now s.board

pub returns-clause-room : goal.returns-clause-room
returns-clause-room c =
    on_two c.make_room_for_teams.result (λ round room.
    plan_fits c.args.parts.now.images c.make_room_for_teams.new.parts c.in_ok-parts.field-0 c.make_room_for_teams.ensures.plan c.make_room_for_teams.ensures.grown.images c.in_ok-parts.ensures.stock c.in_ok-parts.ensures.few room)
    c.make_room_for_teams.ensures.round c.make_room_for_teams.ensures.room

pub returns-clause-planned : goal.returns-clause-planned
returns-clause-planned c =
    on_any c.make_room_for_teams.result (λ ask n h e b ready. subst (λ (q : Plan). Planned n h q c.args.image ask) (sym c.make_room_for_teams.ensures.plan) (c.in_ok-parts.ensures.planned ask n h e b ready))
