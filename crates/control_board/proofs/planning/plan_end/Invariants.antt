use Rattle.std.proofs.Common.{◌≡◌, ℕ, List, take}
use Rattle.caf_events.specs.declared.event.Entry.{Entry}
use Rattle.object_rules.specs.BoardTeams.{teams_after, made_by}
use Rattle.control_board.specs.Boards.{IsBoard, Ends, AllFew, all_made}
use Rattle.control_board.proofs.planning.plan_end.Given as goal

abbrev pub invariant-loop-t : goal.invariant-loop-t
invariant-loop-t l =
    AllFew l.formations.items
    × ((n : ℕ) (h : List Entry) (e : Entry) → IsBoard n h l.parts → Ends e l.image.0 l.failed → made_by 1 (take l.t (teams_after n h)) h e ≡ all_made l.formations.items)
