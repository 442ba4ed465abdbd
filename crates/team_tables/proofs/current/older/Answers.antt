use Rattle.std.proofs.Common.{rules, ◌≡◌, ◌++◌, ◌∷◌, []}
use Rattle.team_tables.proofs.CurrentLaws.{small_at, small_front}
use Rattle.team_tables.proofs.current.older.Goals as goal

pub returns-in-Some-clause-small : goal.returns-in-Some-clause-small
returns-in-Some-clause-small c =
    let split : c.args.teams.now ≡ c.in-Some.older.now ++ c.in-Some.field-0-0.now ∷ [] = search rules in
    λ h. small_front c.in-Some.older.now (c.in-Some.field-0-0.now ∷ []) (small_at _ _ split h)
