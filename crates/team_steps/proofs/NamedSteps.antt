-- The steps that name teams.
use Rattle.std.proofs.Common.{◌≡◌, ℕ, ℤ, pos, Bool, true, false, List, ◌∷◌, length, drop, refl, ap, sym, ◌∙◌, subst}
use Rattle.std.specs.Prelude.{Option, Some, None}
use Rattle.std.specs.Option.{option_map}
use Rattle.caf_base.specs.Arithmetic.{natural, truth}
use Rattle.image_acts.specs.Acts as a
use Rattle.image_acts.specs.Core.{Core, Team, with_values}
use Rattle.image_acts.specs.Faults.{no_team}
use Rattle.image_acts.specs.Taking.{unless, giving}
use Rattle.image_acts.specs.Teams.{is_in, team_in}
use Rattle.image_acts.specs.Operate.Selecting.{selector_effect}
use Rattle.team_tables.specs.Tables.{numbered_here, team_at_level, image_count_of_number, index_here, members_here, is_root}
use Rattle.team_tables.specs.Steps.{given_or_no_team}
use Rattle.team_tables.proofs.StepLaws.{found_of, counted, at_level}
use Rattle.image_state.specs.Kept.{Kept, table_of}
use Rattle.image_state.specs.declared.state.Acting.{Acting}
use Rattle.image_state.specs.declared.state.Acting.TheVariants as actings
use Rattle.image_state.specs.Acting.{with_core, Acts}

-- an act of a core with a number on top
module _ (m e : Kept) (v : ℤ) (w : Acting) where
  pub topped : (x : a.SelectorAct) → m.core.values ≡ v ∷ drop 1 m.core.values → Acts m (selector_effect x (with_values m.core (v ∷ drop 1 m.core.values))) e w → Acts m (selector_effect x m.core) e w
  topped x h g = subst (λ vs. Acts m (selector_effect x (with_values m.core vs)) e w) (sym h) g

module _ (m e : Kept) (v w : ℤ) where
  abbrev beneath : List ℤ
  beneath = drop 1 m.core.values

  -- what is found stands in the place of the number on top
  found_here : (x : a.SelectorAct) (o : Option ℤ) → selector_effect x (with_values m.core (v ∷ beneath)) ≡ given_or_no_team o (with_values m.core beneath) → m.core.values ≡ v ∷ beneath → o ≡ Some w → e ≡ with_core m (with_values m.core (w ∷ beneath)) → Acts m (selector_effect x m.core) e actings.Done
  found_here x o l h f g = topped m e v actings.Done x h (subst (λ y. Acts m y e actings.Done) (sym (l ∙ ap (λ p. given_or_no_team p (with_values m.core beneath)) f)) (refl, g))

  missing_here : (x : a.SelectorAct) (o : Option ℤ) → selector_effect x (with_values m.core (v ∷ beneath)) ≡ given_or_no_team o (with_values m.core beneath) → m.core.values ≡ v ∷ beneath → o ≡ None → Acts m (selector_effect x m.core) m (actings.Fault 8)
  missing_here x o l h f = topped m m v (actings.Fault 8) x h (subst (λ y. Acts m y m (actings.Fault 8)) (sym (l ∙ ap (λ p. given_or_no_team p (with_values m.core beneath)) f)) (refl, refl))

module _ (m : Kept) (v : ℤ) where
  abbrev below : Core
  below = with_values m.core (drop 1 m.core.values)

  pub value_is : m.core.values ≡ v ∷ drop 1 m.core.values → is_in (natural v) m.core.teams ≡ true → Acts m (selector_effect a.team_value m.core) m actings.Done
  value_is h f = topped m m v actings.Done a.team_value h (subst (λ b. Acts m (unless no_team b (giving v below)) m actings.Done) (sym f) (refl, ap (λ vs. with_core m (with_values m.core vs)) h))

  pub value_not : m.core.values ≡ v ∷ drop 1 m.core.values → is_in (natural v) m.core.teams ≡ false → Acts m (selector_effect a.team_value m.core) m (actings.Fault 8)
  value_not h f = topped m m v (actings.Fault 8) a.team_value h (subst (λ b. Acts m (unless no_team b (giving v below)) m (actings.Fault 8)) (sym f) (refl, refl))

pub sibling_team_found : (m e : Kept) (v w : ℤ) → m.core.values ≡ v ∷ drop 1 m.core.values → option_map (λ (k : Team). pos k.team) (numbered_here (table_of m) v) ≡ Some w → e ≡ with_core m (with_values m.core (w ∷ drop 1 m.core.values)) → Acts m (selector_effect a.sibling_team m.core) e actings.Done
sibling_team_found m e v w h f g = found_here m e v w a.sibling_team (option_map (λ (k : Team). pos k.team) (numbered_here (table_of m) v)) (found_of (λ k. pos k.team) (numbered_here (table_of m) v) (with_values m.core (drop 1 m.core.values))) h f g

pub sibling_team_missing : (m : Kept) (v : ℤ) → m.core.values ≡ v ∷ drop 1 m.core.values → option_map (λ (k : Team). pos k.team) (numbered_here (table_of m) v) ≡ None → Acts m (selector_effect a.sibling_team m.core) m (actings.Fault 8)
sibling_team_missing m v h f = missing_here m m v v a.sibling_team (option_map (λ (k : Team). pos k.team) (numbered_here (table_of m) v)) (found_of (λ k. pos k.team) (numbered_here (table_of m) v) (with_values m.core (drop 1 m.core.values))) h f

pub get_team_found : (m e : Kept) (v w : ℤ) → m.core.values ≡ v ∷ drop 1 m.core.values → option_map (λ (n : ℕ). pos n) (team_at_level (table_of m) v) ≡ Some w → e ≡ with_core m (with_values m.core (w ∷ drop 1 m.core.values)) → Acts m (selector_effect a.get_team m.core) e actings.Done
get_team_found m e v w h f g = found_here m e v w a.get_team (option_map (λ (n : ℕ). pos n) (team_at_level (table_of m) v)) (at_level (table_of m) m.core v (drop 1 m.core.values)) h f g

pub get_team_missing : (m : Kept) (v : ℤ) → m.core.values ≡ v ∷ drop 1 m.core.values → option_map (λ (n : ℕ). pos n) (team_at_level (table_of m) v) ≡ None → Acts m (selector_effect a.get_team m.core) m (actings.Fault 8)
get_team_missing m v h f = missing_here m m v v a.get_team (option_map (λ (n : ℕ). pos n) (team_at_level (table_of m) v)) (at_level (table_of m) m.core v (drop 1 m.core.values)) h f

pub team_number_found : (m e : Kept) (v w : ℤ) → m.core.values ≡ v ∷ drop 1 m.core.values → option_map (λ (k : Team). k.number) (team_in (natural v) m.core.known) ≡ Some w → e ≡ with_core m (with_values m.core (w ∷ drop 1 m.core.values)) → Acts m (selector_effect a.team_number m.core) e actings.Done
team_number_found m e v w h f g = found_here m e v w a.team_number (option_map (λ (k : Team). k.number) (team_in (natural v) m.core.known)) (found_of (λ k. k.number) (team_in (natural v) m.core.known) (with_values m.core (drop 1 m.core.values))) h f g

pub team_number_missing : (m : Kept) (v : ℤ) → m.core.values ≡ v ∷ drop 1 m.core.values → option_map (λ (k : Team). k.number) (team_in (natural v) m.core.known) ≡ None → Acts m (selector_effect a.team_number m.core) m (actings.Fault 8)
team_number_missing m v h f = missing_here m m v v a.team_number (option_map (λ (k : Team). k.number) (team_in (natural v) m.core.known)) (found_of (λ k. k.number) (team_in (natural v) m.core.known) (with_values m.core (drop 1 m.core.values))) h f

pub image_count_of_number_found : (m e : Kept) (v w : ℤ) → m.core.values ≡ v ∷ drop 1 m.core.values → option_map (λ (n : ℕ). pos n) (image_count_of_number (table_of m) v) ≡ Some w → e ≡ with_core m (with_values m.core (w ∷ drop 1 m.core.values)) → Acts m (selector_effect a.image_count_of_number m.core) e actings.Done
image_count_of_number_found m e v w h f g = found_here m e v w a.image_count_of_number (option_map (λ (n : ℕ). pos n) (image_count_of_number (table_of m) v)) (counted (table_of m) m.core v (drop 1 m.core.values)) h f g

pub image_count_of_number_missing : (m : Kept) (v : ℤ) → m.core.values ≡ v ∷ drop 1 m.core.values → option_map (λ (n : ℕ). pos n) (image_count_of_number (table_of m) v) ≡ None → Acts m (selector_effect a.image_count_of_number m.core) m (actings.Fault 8)
image_count_of_number_missing m v h f = missing_here m m v v a.image_count_of_number (option_map (λ (n : ℕ). pos n) (image_count_of_number (table_of m) v)) (counted (table_of m) m.core v (drop 1 m.core.values)) h f

pub own_index_told : (m e : Kept) (v w : ℤ) → m.core.values ≡ v ∷ drop 1 m.core.values → w ≡ pos (index_here (table_of m) (natural v)) → e ≡ with_core m (with_values m.core (w ∷ drop 1 m.core.values)) → Acts m (selector_effect a.own_index m.core) e actings.Done
own_index_told m e v w h f g = topped m e v actings.Done a.own_index h (refl, g ∙ ap (λ z. with_core m (with_values m.core (z ∷ drop 1 m.core.values))) f)

pub image_count_told : (m e : Kept) (v w : ℤ) → m.core.values ≡ v ∷ drop 1 m.core.values → w ≡ pos (length (members_here (table_of m) (natural v))) → e ≡ with_core m (with_values m.core (w ∷ drop 1 m.core.values)) → Acts m (selector_effect a.image_count m.core) e actings.Done
image_count_told m e v w h f g = topped m e v actings.Done a.image_count h (refl, g ∙ ap (λ z. with_core m (with_values m.core (z ∷ drop 1 m.core.values))) f)

pub root_told : (m e : Kept) (v : ℤ) (b : Bool) → m.core.values ≡ v ∷ drop 1 m.core.values → b ≡ is_root (table_of m) v → e ≡ with_core m (with_values m.core (truth b ∷ drop 1 m.core.values)) → Acts m (selector_effect a.is_root m.core) e actings.Done
root_told m e v b h f g = topped m e v actings.Done a.is_root h (refl, g ∙ ap (λ z. with_core m (with_values m.core (truth z ∷ drop 1 m.core.values))) f)
