-- A team that is entered is left again.
use Rattle.std.proofs.Common.{◌≡◌, ℕ, Bool, true, false, refl, ap, sym, ◌∙◌, ℤ, ◌∷◌, length}
use Rattle.std.specs.Prelude.{nat_lt}
use Rattle.caf_base.specs.Arithmetic.{natural}
use Rattle.walk_theory.specs.Language.{goes_to}
use Rattle.image_acts.specs.Statuses.{most_teams}
use Rattle.image_acts.specs.Faults.{room}
use Rattle.image_acts.specs.Acts as a
use Rattle.image_acts.specs.Core.{Core, pushed}
use Rattle.image_acts.specs.Taking.{Acted, unless}
use Rattle.image_acts.specs.Teams.{behind_first}
use Rattle.image_acts.specs.Meaning.{operate}

same_core : (c d : Core) (e : Acted) → e ≡ goes_to c → e ≡ goes_to d → c ≡ d
same_core c d e h k = cc

-- what went on behind a test passed it
passed : (k : ℕ) (test : Bool) (c d : Core) → unless k test (goes_to c) ≡ goes_to d → c ≡ d
passed k false c d h = cc
passed k true c d h = same_core c d (goes_to c) refl h

pub left_again : (t : ℤ) (c d e f : Core) → operate (a.team a.make_current) (pushed t c) ≡ goes_to d → e.teams ≡ d.teams → operate (a.team a.leave_team) e ≡ goes_to f
    → (d.teams ≡ natural t ∷ c.teams) × (f.teams ≡ c.teams)
left_again t c d e f h k g =
    let entered : natural t ∷ c.teams ≡ d.teams = ap (λ x. x.teams) (passed room (nat_lt (length c.teams) most_teams) (record c { teams = natural t ∷ c.teams }) d h) in
    let left : behind_first e.teams ≡ f.teams = ap (λ x. x.teams) (same_core (record e { teams = behind_first e.teams }) f (operate (a.team a.leave_team) e) refl g) in
    (sym entered, sym left ∙ (ap behind_first k ∙ ap behind_first (sym entered)))
