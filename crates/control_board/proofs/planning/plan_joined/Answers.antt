use Rattle.std.proofs.Common.{rules, ◌≡◌, ◌+◌, ◌-◌, ◌<◌, ◌≤◌, false, [], ◌∷◌, ◌++◌, length, ap, sym, ◌∙◌, subst, arith, to_z, of_z, w32}
use Rattle.std.specs.Prelude.{IfOk}
use Rattle.caf_events.specs.declared.ask.Ask.TheVariants as asks
use Rattle.caf_events.specs.declared.round.Arriving.TheVariants as arrivings
use Rattle.caf_events.specs.declared.round.RoundKind.TheVariants as kinds
use Rattle.object_rules.specs.Happenings.{arrives, control, happened}
use Rattle.object_rules.specs.TeamRounds.{arrivals}
use Rattle.team_round.specs.TeamStates.{closing_at}
use Rattle.control_board.specs.Boards.{IsFormed, args_in}
use Rattle.control_board.proofs.Collecting.{ok_map}
use Rattle.control_board.proofs.Keeping.{can_close}
use Rattle.control_board.proofs.Members.{get_there, member_there, rounds_members}
use Rattle.control_board.proofs.Steps.{ready_parts}
use Rattle.control_board.proofs.Plans.{joined_some, joined_none}
use Rattle.control_board.proofs.planning.plan_joined.Goals as goal

pub closing_by_arrival-requires-clause-team : goal.closing_by_arrival-requires-clause-team
closing_by_arrival-requires-clause-team c =
    let k = c.requires in
    let r = ready_parts k.images k.history c.args.arg.image.0 (asks.Arrive c.args.team (arrivings.Form c.args.arg.number c.args.arg.new_index)) k.ready in
    let t = member_there k.images k.history c.args.parts.now k.board false c.args.team.0 c.args.arg.image.0 r.1 in
    (t.0, t.1)

pub closing_by_arrival-requires-clause-state : goal.closing_by_arrival-requires-clause-state
closing_by_arrival-requires-clause-state c =
    let k = c.requires in
    let r = ready_parts k.images k.history c.args.arg.image.0 (asks.Arrive c.args.team (arrivings.Form c.args.arg.number c.args.arg.new_index)) k.ready in
    let t = member_there k.images k.history c.args.parts.now k.board false c.args.team.0 c.args.arg.image.0 r.1 in
    can_close k.images k.history c.args.parts.now k.board c.args.arg.image.0 r.0 false k.few (c.args.team.0 - 1)

pub formation_of-requires : goal.formation_of-requires
formation_of-requires c =
    let k = c.requires in
    let r = ready_parts k.images k.history c.args.arg.image.0 (asks.Arrive c.args.team (arrivings.Form c.args.arg.number c.args.arg.new_index)) k.ready in
    let t = member_there k.images k.history c.args.parts.now k.board false c.args.team.0 c.args.arg.image.0 r.1 in
    (t.0, t.2)

pub returns-in_ok-push-in-Some-clause-made : goal.returns-in_ok-push-in-Some-clause-made
returns-in_ok-push-in-Some-clause-made c =
    let k = c.requires in
    let r = ready_parts k.images k.history c.args.arg.image.0 (asks.Arrive c.args.team (arrivings.Form c.args.arg.number c.args.arg.new_index)) k.ready in
    let t = member_there k.images k.history c.args.parts.now k.board false c.args.team.0 c.args.arg.image.0 r.1 in
    let low : 0 < c.args.team.0 = t.0 in
    let high : c.args.team.0 ≤ length c.args.parts.now.control.teams = t.1 in
    let x = get_there c.args.parts.now.control.teams (c.args.team.0 - 1) (omega arith) in
    let args : c.as_slice.result.now ≡ args_in c.args.parts.now.forms.items c.args.team.0 c.args.round ++ c.args.arg ∷ [] = c.as_slice.ensures.value ∙ c.in_ok-push-in-Some.ensures.items ∙ ap (λ l. l ++ c.args.arg ∷ []) c.in_ok-args-in-Some.ensures in
    let e32 : to_z w32 (of_z w32 c.in-Some.status) ≡ c.in-Some.status = search rules in
    ok_map c.formation_of.result (λ o q n h e b image ask is number form.
    joined_some n h c.args.parts.now b c.args.team c.args.round c.args.arg e image ask is number form c.in-Some.status o
    (sym c.in-Some.is ∙ c.closing_by_arrival.ensures n kinds.Form e.event.line (happened control h) x.0 (b.rounds false) x.1
    ∙ ap (λ ms. closing_at ms c.args.team.0 (happened control h) (happened control h ++ arrives c.args.team.0 c.args.arg.image.0 kinds.Form e.event.line ∷ []) (arrivals c.args.team.0 c.args.arg.image.0 (happened control h) + 1)) (rounds_members n h c.args.parts.now b false c.args.team.0 x.0 low x.1))
    (subst (λ l. IsFormed c.args.parts.now c.args.team c.args.round c.in-Some.status l o) args q)) (subst (λ z. IfOk c.formation_of.result (λ o. IsFormed c.args.parts.now c.args.team c.args.round z c.as_slice.result.now o)) e32 c.formation_of.ensures.formed)

pub returns-in-None-clause-made : goal.returns-in-None-clause-made
returns-in-None-clause-made c n h e b image ask is number form =
    let k = c.requires in
    let r = ready_parts k.images k.history c.args.arg.image.0 (asks.Arrive c.args.team (arrivings.Form c.args.arg.number c.args.arg.new_index)) k.ready in
    let t = member_there k.images k.history c.args.parts.now k.board false c.args.team.0 c.args.arg.image.0 r.1 in
    let low : 0 < c.args.team.0 = t.0 in
    let high : c.args.team.0 ≤ length c.args.parts.now.control.teams = t.1 in
    let x = get_there c.args.parts.now.control.teams (c.args.team.0 - 1) (omega arith) in
    joined_none n h c.args.parts.now b c.args.team c.args.round c.args.arg e image ask is number form
    (sym c.in-None.is ∙ c.closing_by_arrival.ensures n kinds.Form e.event.line (happened control h) x.0 (b.rounds false) x.1
    ∙ ap (λ ms. closing_at ms c.args.team.0 (happened control h) (happened control h ++ arrives c.args.team.0 c.args.arg.image.0 kinds.Form e.event.line ∷ []) (arrivals c.args.team.0 c.args.arg.image.0 (happened control h) + 1)) (rounds_members n h c.args.parts.now b false c.args.team.0 x.0 low x.1))
