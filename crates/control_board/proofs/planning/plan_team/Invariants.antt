use Rattle.std.proofs.Common.{◌≡◌, ℕ, ◌+◌, ◌-◌, ◌≤◌, ◌++◌, List}
use Rattle.std.specs.List.{range_with_len}
use Rattle.caf_events.specs.declared.event.Entry.{Entry}
use Rattle.object_rules.specs.BoardTeams.{teams_after, members_at}
use Rattle.control_board.specs.Boards.{IsBoard, Ends, AllFew, all_made, made_over}
use Rattle.control_board.proofs.planning.plan_team.Given as goal

abbrev pub invariant-loop-round : goal.invariant-loop-round
invariant-loop-round l =
    AllFew l.formations.items
    × (l.from ≤ l.round)
    × ((n : ℕ) (h : List Entry) (e : Entry) → IsBoard n h l.parts → Ends e l.image.0 l.failed
    → all_made l.formations.items ≡ all_made l.initial.formations.items ++ made_over l.team.0 (members_at (teams_after n h) l.team.0) h e (range_with_len (l.from + 1) (l.round - l.from)))
