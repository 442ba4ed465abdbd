use Rattle.std.proofs.Common.{◌≡◌, ℕ, List, take}
use Rattle.caf_events.specs.declared.event.Entry.{Entry}
use Rattle.object_rules.specs.BoardTeams.{teams_after, made_teams}
use Rattle.control_board.specs.Boards.{IsBoard}
use Rattle.control_board.proofs.leaving.teams_by.Given as goal

abbrev pub invariant-loop-made : goal.invariant-loop-made
invariant-loop-made l = (n : ℕ) (h : List Entry) → IsBoard n h l.parts → l.teams ≡ made_teams l.team.0 l.round 1 (take l.made (teams_after n h))
