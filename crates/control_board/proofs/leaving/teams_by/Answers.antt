use Rattle.std.proofs.Common.{◌+◌, ◌∷◌, ◌++◌, [], cond, refl, ap, sym, ◌∙◌, arith}
use Rattle.std.proofs.lemmas.List.{append-nil}
use Rattle.caf_events.specs.declared.reply.FormedTeam.{FormedTeam}
use Rattle.team_tree.specs.KnownTeams.{team_of}
use Rattle.object_rules.specs.BoardTeams.{teams_after, made_teams}
use Rattle.control_board.proofs.Made.{take_all}
use Rattle.control_board.proofs.Members.{teams_count}
use Rattle.control_board.proofs.Replying.{teams_more_told}
use Rattle.control_board.proofs.leaving.teams_by.Goals as goal
use Rattle.control_board.proofs.leaving.teams_by.Goals.{then-is_made_by+in_ok-told+in_ok-push, else-is_made_by}

pub loop-made-preserved : goal.loop-made-preserved
loop-made-preserved c n h b =
    let k = c.loop-made.made in
    let team = team_of c.args.parts.now.teams.teams (c.loop-made.made + 1) in
    let told : FormedTeam = record { team = record { 0 = c.loop-made.made + 1 }; number = (team_of c.args.parts.now.teams.teams (c.loop-made.made + 1)).number; members = (team_of c.args.parts.now.teams.teams (c.loop-made.made + 1)).members } in
    let end = c.len-made-end.ensures in
    let test = c.loop-made-test.true in
    teams_more_told n h c.args.parts.now b c.args.team.0 c.args.round k c.loop-made.teams c.if-is_made_by.teams c.is_made_by.result told (omega arith) (c.loop-made.invariant n h b) c.is_made_by.ensures (λ y. refl)
    (elim c.if-is_made_by.branch [
      | then-is_made_by+in_ok-told+in_ok-push w ↦ w.teams-is ∙ w.in_ok-push.ensures.pushed ∙ ap (λ f. c.loop-made.teams ++ f ∷ []) w.in_ok-told.ensures ∙ ap (λ z. c.loop-made.teams ++ cond z (told ∷ []) []) (sym w.if-is_made_by.true)
      | else-is_made_by w ↦ w.teams-is ∙ sym (append-nil c.loop-made.teams) ∙ ap (λ z. c.loop-made.teams ++ cond z (told ∷ []) []) (sym w.if-is_made_by.false)
    ])

pub returns : goal.returns
returns c n h b =
    let count = teams_count n h c.args.parts.now b in
    let end = c.len-made-end.ensures in
    let test = c.loop-made-test.false in
    c.loop-made.invariant n h b ∙ ap (λ ts. made_teams c.args.team.0 c.args.round 1 ts) (take_all (teams_after n h) c.loop-made.made (omega arith))
