use Rattle.std.proofs.Common.{◌≡◌, suc, ◌+◌, ◌-◌, ◌<◌, ◌≤◌, false, ◌++◌, length, ap, sym, ◌∙◌, subst, arith, append_assoc}
use Rattle.object_rules.specs.Happenings.{control, happened}
use Rattle.object_rules.specs.BoardTeams.{teams_after, members_at}
use Rattle.team_round.specs.TeamStates.{Tells}
use Rattle.control_board.proofs.Keeping.{in_rounds}
use Rattle.control_board.proofs.Members.{get_there, rounds_count, teams_count}
use Rattle.std.specs.List.{range_with_len}
use Rattle.control_board.specs.Boards.{all_made, made_by_one, made_over}
use Rattle.control_board.proofs.Made.{over_next, team_ends}
use Rattle.control_board.proofs.planning.plan_team.Goals as goal

pub joined-from-requires-clause-team : goal.joined-from-requires-clause-team
joined-from-requires-clause-team c =
    let k = c.requires.image in
    let rc = rounds_count k.images k.history c.args.parts.now k.board false in
    let tc = teams_count k.images k.history c.args.parts.now k.board in
    let low : 0 < c.args.team.0 = c.requires.team.0 in
    let top : c.args.team.0 ≤ length c.args.parts.now.teams.teams = c.requires.team.1 in
    let high : c.args.team.0 ≤ length c.args.parts.now.control.teams = omega arith in
    (low, high)

pub joined-from-requires-clause-image : goal.joined-from-requires-clause-image
joined-from-requires-clause-image c x at = let k = c.requires.image in in_rounds k.images k.history c.args.parts.now k.board c.args.image.0 k.image false c.args.team.0 x at

pub count-round-end-requires : goal.count-round-end-requires
count-round-end-requires c =
    let k = c.requires.image in
    let rc = rounds_count k.images k.history c.args.parts.now k.board false in
    let tc = teams_count k.images k.history c.args.parts.now k.board in
    let low : 0 < c.args.team.0 = c.requires.team.0 in
    let top : c.args.team.0 ≤ length c.args.parts.now.teams.teams = c.requires.team.1 in
    let high : c.args.team.0 ≤ length c.args.parts.now.control.teams = omega arith in
    (low, high)

pub loop-round-preserved : goal.loop-round-preserved
loop-round-preserved c =
    let i = c.loop-round.invariant in
    let low = i.1 in (
      c.in_ok-add_made.ensures.few i.0,
      omega arith,
      λ n h e b ends. c.in_ok-add_made.ensures.made
          ∙ ap (λ l. l ++ made_by_one c.in_ok-made.made) (i.2 n h e b ends)
          ∙ append_assoc (all_made c.args.formations.now.items) (made_over c.args.team.0 (members_at (teams_after n h) c.args.team.0) h e (range_with_len (c.joined-from.result + 1) (c.loop-round.round - c.joined-from.result))) (made_by_one c.in_ok-made.made)
          ∙ ap (λ l. all_made c.args.formations.now.items ++ (made_over c.args.team.0 (members_at (teams_after n h) c.args.team.0) h e (range_with_len (c.joined-from.result + 1) (c.loop-round.round - c.joined-from.result)) ++ l)) (c.in_ok-made.ensures.made n h e b ends)
          ∙ ap (λ l. all_made c.args.formations.now.items ++ l) (over_next c.args.team.0 (members_at (teams_after n h) c.args.team.0) h e c.joined-from.result c.loop-round.round low),
    )

pub returns-clause-made : goal.returns-clause-made
returns-clause-made c n h e b ends =
    let k = c.requires.image in
    let rc = rounds_count k.images k.history c.args.parts.now k.board false in
    let tc = teams_count k.images k.history c.args.parts.now k.board in
    let low : 0 < c.args.team.0 = c.requires.team.0 in
    let top : c.args.team.0 ≤ length c.args.parts.now.teams.teams = c.requires.team.1 in
    let high : c.args.team.0 ≤ length c.args.parts.now.control.teams = omega arith in
    let x = get_there c.args.parts.now.control.teams (c.args.team.0 - 1) (omega arith) in
    let number : suc (c.args.team.0 - 1) ≡ c.args.team.0 = omega arith in
    let told = subst (λ u. Tells u x.0 (happened control h)) number ((b.rounds false).told (c.args.team.0 - 1) x.0 x.1) in
    let from = c.joined-from.ensures n (happened control h) (b.rounds false) in
    let count = c.count-round-end.ensures x.0 x.1 in
    let few = told.few c.args.image.0 in
    let past = c.loop-round-test.false in
    let near = c.loop-round.auto.round in
    let far = c.loop-round.auto.round-end in
    let same : c.loop-round.round - c.joined-from.result ≡ length x.0.rounds - c.joined-from.result = omega arith in
    c.loop-round.invariant.2 n h e b ends
    ∙ ap (λ l. all_made c.args.formations.now.items ++ made_over c.args.team.0 (members_at (teams_after n h) c.args.team.0) h e (range_with_len (c.joined-from.result + 1) l)) same
    ∙ ap (λ l. all_made c.args.formations.now.items ++ l) (sym (team_ends c.args.team.0 (members_at (teams_after n h) c.args.team.0) h e c.args.image.0 c.args.failed c.joined-from.result (length x.0.rounds) ends from told.few))
