use Rattle.std.proofs.Common.{rules, ◌≡◌, ◌++◌, ◌∷◌, []}
use Rattle.team_tables.proofs.CurrentLaws.{small_at, small_last}
use Rattle.team_tables.proofs.current.newest_of.Goals as goal

pub returns-in-Some-clause-small : goal.returns-in-Some-clause-small
returns-in-Some-clause-small c =
    let split : c.args.teams.now ≡ c.in-Some.field-0-1.now ++ c.in-Some.newest.now ∷ [] = search rules in
    λ h. small_last c.in-Some.field-0-1.now c.in-Some.newest.now (small_at _ _ split h)
