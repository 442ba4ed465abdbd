use Rattle.std.proofs.Common.{◌≡◌, ◌+◌, ◌++◌, length, map}
use Rattle.std.specs.Prelude.{vec_len, vec_capacity}
use Rattle.object_rules.specs.BoardTeams.{Team}
use Rattle.team_tree.specs.KnownTeams.{all_known}
use Rattle.control_board.specs.Boards.{all_made}
use Rattle.control_board.proofs.forming.add_formed.Given as goal

abbrev pub invariant-loop-formation : goal.invariant-loop-formation
invariant-loop-formation l =
    (l.yielded ++ l.formation-iterator.rest.items ≡ l.fn.formations.items)
    × (l.teams.teams ≡ l.initial.teams.teams ++ all_known (all_made l.yielded))
    × (l.births.items ≡ l.initial.births.items ++ map (λ (x : Team). x.round) (all_made l.yielded))
    × (l.teams.room + length (all_made l.yielded) ≡ l.initial.teams.room)
    × (vec_len l.births ≡ vec_len l.initial.births + length (all_made l.yielded))
    × (vec_capacity l.births ≡ vec_capacity l.initial.births)
