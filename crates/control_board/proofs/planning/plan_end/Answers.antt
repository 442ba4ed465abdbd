use Rattle.std.proofs.Common.{◌+◌, ◌<◌, ◌≤◌, ◌++◌, length, ap, sym, ◌∙◌, arith}
use Rattle.object_rules.specs.BoardTeams.{teams_after, members_at}
use Rattle.control_board.proofs.Members.{teams_count}
use Rattle.object_rules.specs.BoardTeams.{made_by, made_in_team}
use Rattle.control_board.proofs.Made.{by_more, take_all}
use Rattle.control_board.proofs.planning.plan_end.Goals as goal

pub loop-t-preserved : goal.loop-t-preserved
loop-t-preserved c =
    let i = c.loop-t.invariant in
    let low = c.loop-t-test.true in (
      c.in_ok-plan_team.ensures.few,
      λ n h e b ends. (
          let tc = teams_count n h c.args.parts.now b in
          let end = c.len-t-end.ensures in
          let high : c.loop-t.t < length (teams_after n h) = omega arith in
          by_more (teams_after n h) c.loop-t.t h e high
          ∙ ap (λ l. l ++ made_in_team (c.loop-t.t + 1) (members_at (teams_after n h) (c.loop-t.t + 1)) h e) (i.1 n h e b ends)
          ∙ sym (c.in_ok-plan_team.ensures.made n h e b ends)),
    )

pub returns-clause-made : goal.returns-clause-made
returns-clause-made c n h e b ends =
    let tc = teams_count n h c.args.parts.now b in
    let end = c.len-t-end.ensures in
    let past = c.loop-t-test.false in
    let all : length (teams_after n h) ≤ c.loop-t.t = omega arith in
    sym (ap (λ ts. made_by 1 ts h e) (take_all (teams_after n h) c.loop-t.t all)) ∙ c.loop-t.invariant.1 n h e b ends
