-- The steps on the current team.
use Rattle.std.proofs.Common.{◌≡◌, ℕ, ℤ, pos, Bool, true, false, ◌∷◌, length, drop, ◌<◌, refl, ap, sym, ◌∙◌, subst}
use Rattle.std.specs.Prelude.{Some, None, nat_lt}
use Rattle.std.proofs.lemmas.Bool.{ltb-true}
use Rattle.caf_base.specs.Arithmetic.{natural}
use Rattle.walk_theory.specs.Language.{goes_to}
use Rattle.image_acts.specs.Acts as a
use Rattle.image_acts.specs.Core.{Core, with_values}
use Rattle.image_acts.specs.Faults.{no_team, room}
use Rattle.image_acts.specs.Frames.{with_cell}
use Rattle.image_acts.specs.Statuses.{most_teams}
use Rattle.image_acts.specs.Taking.{unless}
use Rattle.image_acts.specs.Teams.{team_in}
use Rattle.image_acts.specs.Operate.Teaming.{team_effect}
use Rattle.team_tables.specs.Tables.{is_child, is_near, with_noted, with_teams}
use Rattle.team_tables.specs.Steps.{own_team, with_team_in}
use Rattle.team_tables.proofs.StepLaws.{notes}
use Rattle.image_state.specs.Kept.{Kept, table_of}
use Rattle.image_state.specs.declared.state.Acting.{Acting}
use Rattle.image_state.specs.declared.state.Acting.TheVariants as actings
use Rattle.image_state.specs.Acting.{with_core, Acts}

topped : (m e : Kept) (v : ℤ) (w : Acting) (x : a.TeamAct) → m.core.values ≡ v ∷ drop 1 m.core.values → Acts m (team_effect x (with_values m.core (v ∷ drop 1 m.core.values))) e w → Acts m (team_effect x m.core) e w
topped m e v w x h g = subst (λ vs. Acts m (team_effect x (with_values m.core vs)) e w) (sym h) g

module _ (m : Kept) (v : ℤ) where
  abbrev same : Core
  same = with_values m.core (v ∷ drop 1 m.core.values)

  abbrev tests : Bool → Acting → Type 0
  tests b w = Acts m (unless no_team b (goes_to same)) m w

  kept : m.core.values ≡ v ∷ drop 1 m.core.values → m ≡ with_core m same
  kept h = ap (λ vs. with_core m (with_values m.core vs)) h

  pub child_is : m.core.values ≡ v ∷ drop 1 m.core.values → is_child (table_of m) (team_in (natural v) m.core.known) ≡ true → Acts m (team_effect a.child_team m.core) m actings.Done
  child_is h f = topped m m v actings.Done a.child_team h (subst (λ b. tests b actings.Done) (sym f) (refl, kept h))

  pub child_not : m.core.values ≡ v ∷ drop 1 m.core.values → is_child (table_of m) (team_in (natural v) m.core.known) ≡ false → Acts m (team_effect a.child_team m.core) m (actings.Fault 8)
  child_not h f = topped m m v (actings.Fault 8) a.child_team h (subst (λ b. tests b (actings.Fault 8)) (sym f) (refl, refl))

  pub near_is : m.core.values ≡ v ∷ drop 1 m.core.values → is_near (table_of m) (natural v) ≡ true → Acts m (team_effect a.near_team m.core) m actings.Done
  near_is h f = topped m m v actings.Done a.near_team h (subst (λ b. tests b actings.Done) (sym f) (refl, kept h))

  pub near_not : m.core.values ≡ v ∷ drop 1 m.core.values → is_near (table_of m) (natural v) ≡ false → Acts m (team_effect a.near_team m.core) m (actings.Fault 8)
  near_not h f = topped m m v (actings.Fault 8) a.near_team h (subst (λ b. tests b (actings.Fault 8)) (sym f) (refl, refl))

  abbrev entered : Core
  entered = record (with_values m.core (drop 1 m.core.values)) { teams = natural v ∷ m.core.teams }

  pub made_current : (e : Kept) → m.core.values ≡ v ∷ drop 1 m.core.values → nat_lt (length m.core.teams) most_teams ≡ true → e ≡ with_core m entered → Acts m (team_effect a.make_current m.core) e actings.Done
  made_current e h f g = topped m e v actings.Done a.make_current h (subst (λ b. Acts m (unless room b (goes_to entered)) e actings.Done) (sym f) (refl, g))

  pub no_place : m.core.values ≡ v ∷ drop 1 m.core.values → nat_lt (length m.core.teams) most_teams ≡ false → Acts m (team_effect a.make_current m.core) m (actings.Fault 11)
  no_place h f = topped m m v (actings.Fault 11) a.make_current h (subst (λ b. Acts m (unless room b (goes_to entered)) m (actings.Fault 11)) (sym f) (refl, refl))

pub place_there : (n : ℕ) → nat_lt n most_teams ≡ true → n < most_teams
place_there n h = ltb-true n most_teams h

module _ (m : Kept) (s : a.Scope) (x : ℕ) where
  pub none_noted : m.core.round ≡ None → Acts m (team_effect (a.note_teams s x) m.core) m actings.Stuck
  none_noted h = rw h (refl, refl)

  pub teams_noted : (e : Kept) (r : ℕ) → m.core.round ≡ Some r → e ≡ with_core m (with_team_in s x (own_team r (table_of m)) (with_teams (with_noted r (table_of m)) m.core)) → Acts m (team_effect (a.note_teams s x) m.core) e actings.Done
  teams_noted e r h g = subst (λ y. Acts m y e actings.Done) (sym (notes (table_of m) m.core s x r h)) (refl, g)

module _ (m : Kept) (s : a.Scope) (x r : ℕ) where
  abbrev noted_core : Core
  noted_core = with_teams (with_noted r (table_of m)) m.core

  pub none_own : (e : Kept) → own_team r (table_of m) ≡ None → e ≡ with_core m noted_core → e ≡ with_core m (with_team_in s x (own_team r (table_of m)) noted_core)
  none_own e h g = g ∙ ap (λ o. with_core m (with_team_in s x o noted_core)) (sym h)

  pub own_put : (i e : Kept) (n : ℕ) → own_team r (table_of m) ≡ Some n → i ≡ with_core m noted_core → e ≡ with_core i (with_cell s x (pos n) i.core) → e ≡ with_core m (with_team_in s x (own_team r (table_of m)) noted_core)
  own_put i e n h f g = g ∙ ap (λ (k : Kept). with_core k (with_cell s x (pos n) k.core)) f ∙ ap (λ o. with_core m (with_team_in s x o noted_core)) (sym h)
