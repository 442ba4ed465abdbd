use Rattle.std.proofs.Common.{rules, ◌≡◌, ◌-◌, ◌<◌, ◌≤◌, false, [], ◌∷◌, ◌++◌, length, ap, sym, ◌∙◌, subst, arith, to_z, of_z, w32}
use Rattle.std.specs.Prelude.{IfOk}
use Rattle.object_rules.specs.Happenings.{control, happened}
use Rattle.team_round.specs.TeamStates.{closing_at}
use Rattle.failure_status.specs.Endings.{end_of}
use Rattle.control_board.specs.Boards.{IsFormed, args_in}
use Rattle.control_board.proofs.Collecting.{ok_map}
use Rattle.control_board.proofs.Keeping.{can_close}
use Rattle.control_board.proofs.Members.{get_there, rounds_members, rounds_count, teams_count}
use Rattle.control_board.proofs.Plans.{end_some, end_none, end_other}
use Rattle.control_board.proofs.planning.plan_round.Goals as goal

pub is_form_round-requires-clause-team : goal.is_form_round-requires-clause-team
is_form_round-requires-clause-team c =
    let k = c.requires.image in
    let rc = rounds_count k.images k.history c.args.parts.now k.board false in
    let tc = teams_count k.images k.history c.args.parts.now k.board in
    let low : 0 < c.args.team.0 = c.requires.team.0 in
    let top : c.args.team.0 ≤ length c.args.parts.now.teams.teams = c.requires.team.1 in
    let high : c.args.team.0 ≤ length c.args.parts.now.control.teams = omega arith in
    (low, high)

pub closing_by_end-requires-clause-team : goal.closing_by_end-requires-clause-team
closing_by_end-requires-clause-team c =
    let k = c.requires.image in
    let rc = rounds_count k.images k.history c.args.parts.now k.board false in
    let tc = teams_count k.images k.history c.args.parts.now k.board in
    let low : 0 < c.args.team.0 = c.requires.team.0 in
    let top : c.args.team.0 ≤ length c.args.parts.now.teams.teams = c.requires.team.1 in
    let high : c.args.team.0 ≤ length c.args.parts.now.control.teams = omega arith in
    (low, high)

pub closing_by_end-requires-clause-state : goal.closing_by_end-requires-clause-state
closing_by_end-requires-clause-state c = let k = c.requires.image in can_close k.images k.history c.args.parts.now k.board c.args.image.0 k.image false k.few (c.args.team.0 - 1)

pub returns-then-not-is_form_round-clause-made : goal.returns-then-not-is_form_round-clause-made
returns-then-not-is_form_round-clause-made c n h e b ends =
    end_other n h c.args.parts.now b c.args.team c.args.round c.args.image.0 c.args.failed c.requires.round e ends (sym (c.is_form_round.ensures n h b) ∙ c.if-not-is_form_round.true)

pub returns-in_ok-args-in-Some-clause-made : goal.returns-in_ok-args-in-Some-clause-made
returns-in_ok-args-in-Some-clause-made c =
    let k = c.requires.image in
    let rc = rounds_count k.images k.history c.args.parts.now k.board false in
    let tc = teams_count k.images k.history c.args.parts.now k.board in
    let low : 0 < c.args.team.0 = c.requires.team.0 in
    let top : c.args.team.0 ≤ length c.args.parts.now.teams.teams = c.requires.team.1 in
    let high : c.args.team.0 ≤ length c.args.parts.now.control.teams = omega arith in
    let x = get_there c.args.parts.now.control.teams (c.args.team.0 - 1) (omega arith) in
    let args : c.as_slice.result.now ≡ args_in c.args.parts.now.forms.items c.args.team.0 c.args.round = c.as_slice.ensures.value ∙ c.in_ok-args-in-Some.ensures in
    let e32 : to_z w32 (of_z w32 c.in-Some.status) ≡ c.in-Some.status = search rules in
    ok_map c.formation_of.result (λ o q n h e b ends.
    end_some n h c.args.parts.now b c.args.team c.args.round c.args.image.0 c.args.failed c.requires.round e ends c.in-Some.status o (sym (c.is_form_round.ensures n h b) ∙ c.if-not-is_form_round.false)
    (sym c.in-Some.is ∙ c.closing_by_end.ensures n (happened control h) x.0 (b.rounds false) x.1
    ∙ ap (λ ms. closing_at ms c.args.team.0 (happened control h) (happened control h ++ end_of c.args.image.0 c.args.failed ∷ []) c.args.round) (rounds_members n h c.args.parts.now b false c.args.team.0 x.0 low x.1))
    (subst (λ l. IsFormed c.args.parts.now c.args.team c.args.round c.in-Some.status l o) args q)) (subst (λ z. IfOk c.formation_of.result (λ o. IsFormed c.args.parts.now c.args.team c.args.round z c.as_slice.result.now o)) e32 c.formation_of.ensures.formed)

pub returns-in-None-clause-made : goal.returns-in-None-clause-made
returns-in-None-clause-made c n h e b ends =
    let k = c.requires.image in
    let rc = rounds_count k.images k.history c.args.parts.now k.board false in
    let tc = teams_count k.images k.history c.args.parts.now k.board in
    let low : 0 < c.args.team.0 = c.requires.team.0 in
    let top : c.args.team.0 ≤ length c.args.parts.now.teams.teams = c.requires.team.1 in
    let high : c.args.team.0 ≤ length c.args.parts.now.control.teams = omega arith in
    let x = get_there c.args.parts.now.control.teams (c.args.team.0 - 1) (omega arith) in
    end_none n h c.args.parts.now b c.args.team c.args.round c.args.image.0 c.args.failed c.requires.round e ends
    (sym c.in-None.is ∙ c.closing_by_end.ensures n (happened control h) x.0 (b.rounds false) x.1
    ∙ ap (λ ms. closing_at ms c.args.team.0 (happened control h) (happened control h ++ end_of c.args.image.0 c.args.failed ∷ []) c.args.round) (rounds_members n h c.args.parts.now b false c.args.team.0 x.0 low x.1))
