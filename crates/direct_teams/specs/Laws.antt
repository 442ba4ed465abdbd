-- What is claimed of CHANGE TEAM constructs.
use Rattle.std.specs.Prelude.{ℕ, List}
use Rattle.checked_tree.specs.Expressions as t
use Rattle.image_acts.specs.Core.{Core}
use Rattle.tree_meaning.specs.Environment.{Environment}
use Rattle.tree_meaning.specs.Sequences as walk
use Rattle.tree_meaning.specs.ImageControl as control
use Rattle.direct_meaning.specs.States.{state_of}
use Rattle.direct_meaning.specs.Outcomes.{Does}
use Rattle.direct_meaning.specs.Told.{told}
use Rattle.direct_meaning.specs.Values.{Value}
use Rattle.direct_meaning.specs.Expressions.{Passed}
use Rattle.direct_meaning.specs.Statements.{released, change_team, end_team}
use Rattle.direct_agreement.specs.Agreeing.{HasSpare}
use Rattle.direct_laws.specs.Laws.{IsCovered, ResultWithin}
use Rattle.direct_released.specs.Laws.{IsFree}
use Rattle.direct_control.specs.Meeting.{Meets, Lies}

-- The parts of a CHANGE TEAM in the walk, and those of its END TEAM, meet what they do, for each reply: behind them
-- nothing is left of what was evaluated but the state, and beside it what a reply told.
abbrev pub TeamLaw : Type 0
TeamLaw = (limit : ℕ) (e : Environment) (calls : ℕ → List Passed → Does Value) (l : ℕ) (c : Core) → HasSpare c → IsFree c
    → ((x : t.Expression) (stat : t.OptionalResult) → IsCovered x → ResultWithin 64 stat
    → Meets (Lies c) (released (change_team limit e calls x stat) l (state_of c)) (told (walk.released (control.change_team e x stat)) l c))
    × ((stat : t.OptionalResult) → ResultWithin 64 stat
    → Meets (Lies c) (released (end_team limit e calls stat) l (state_of c)) (told (walk.released (control.end_team e stat)) l c))
