-- The state of all teams, when an image arrives at one.
use Rattle.std.proofs.Common.{◌≡◌, ℕ, zero, suc, ◌-◌, ◌<◌, ◌≤◌, List, [], ◌∷◌, ◌++◌, inl, inr, length, refl, ap, sym, ◌∙◌, subst, arith, length-set}
use Rattle.std.specs.Prelude.{slice_get, slice_set, slice_index_or, Some}
use Rattle.std.proofs.lemmas.Bool.{cases_eq}
use Rattle.caf_events.specs.declared.round.RoundKind.{RoundKind}
use Rattle.object_rules.specs.Happenings.{Happening, arrives}
use Rattle.failure_status.specs.Endings.{TellsEnded}
use Rattle.failure_status.proofs.Noted.{tells_same}
use Rattle.team_round.specs.declared.round.Arrival.{Arrival}
use Rattle.team_round.specs.declared.round.Arrival.TheVariants as arrived
use Rattle.team_round.specs.TeamStates.{TeamState, RoundsState, CanArrive, happened_with, Tells, IsTold, TellsAll}
use Rattle.team_round.proofs.Trying.{get_same, get_other, get_within}
use Rattle.team_round.proofs.Telling.{same_some}
use Rattle.team_round.proofs.Foreign.{tells_foreign}

pub get_from : {A : Type 0} (xs : List A) (k : ℕ) (x : A) → k < length xs → x ≡ slice_index_or xs k x → slice_get xs k ≡ Some x
get_from [] k x h e = absurd (omega arith)
get_from (y ∷ ys) zero x h e = ap Some (sym e)
get_from (y ∷ ys) (suc k) x h e = get_from ys k x (omega arith) e

-- the state of a team that is there, with who has ended, is told
pub told_there : (n k : ℕ) (s : RoundsState) (x : TeamState) (hs : List Happening) → slice_get s.teams k ≡ Some x → TellsAll n s hs → IsTold (suc k) x s.ended hs
told_there n k s x hs at all = record {
  team_told = all.told k x at;
  ended_told = subst (λ m. TellsEnded m s.ended hs) (sym (all.sizes k x at)) all.ended_told;
}

module _ (n k i : ℕ) (kind : RoundKind) (line : ℕ) (s s' : RoundsState) (x y : TeamState) (hs : List Happening) (at : slice_get s.teams k ≡ Some x) (ended : s'.ended ≡ s.ended)
    (teams : s'.teams ≡ slice_set s.teams k y) (size : length y.joined ≡ length x.joined) (all : TellsAll n s hs) where
  within : k < length s.teams
  within = get_within s.teams k x at

  count : length s'.teams ≡ length s.teams
  count = ap length teams ∙ length-set s.teams k y

  same_or_other : (j : ℕ) (z : TeamState) → slice_get s'.teams j ≡ Some z → (P : ℕ → TeamState → Type 0) → P k y → ((w : TeamState) → slice_get s.teams j ≡ Some w → (k ≡ j → ⊥) → P j w) → P j z
  same_or_other j z h P here there = elim (cases_eq k j) [
    | inl same ↦ (
        let e : y ≡ z = same_some y z (sym (get_same s.teams k y within) ∙ ap (λ ts. slice_get ts k) (sym teams) ∙ ap (slice_get s'.teams) same ∙ h) in
        subst (λ q. P q z) same (subst (P k) e here))
    | inr other ↦ there z (sym (get_other s.teams k j y other) ∙ ap (λ ts. slice_get ts j) (sym teams) ∙ h) other
  ]

  sizes_now : (j : ℕ) (z : TeamState) → slice_get s'.teams j ≡ Some z → length z.joined ≡ n
  sizes_now j z h = same_or_other j z h (λ q w. length w.joined ≡ n) (size ∙ all.sizes k x at) (λ w g o. all.sizes j w g)

  -- what is told after an arrival at one team, whatever came of it
  pub all_arrival : (a : Arrival) → Tells (suc k) y (happened_with hs (suc k) i kind line a) → TellsAll n s' (happened_with hs (suc k) i kind line a)
  all_arrival (arrived.Joined r) told = record {
    ended_told = subst (λ q. TellsEnded n q (hs ++ arrives (suc k) i kind line ∷ [])) (sym ended) (tells_same n s.ended hs (arrives (suc k) i kind line) (λ j. refl) (λ j. refl) all.ended_told);
    told = λ j z h. same_or_other j z h (λ q w. Tells (suc q) w (hs ++ arrives (suc k) i kind line ∷ [])) told
        (λ w g o. tells_foreign (suc j) (suc k) i kind line w hs (λ e. o (omega arith)) (all.told j w g));
    sizes = sizes_now;
    fresh = λ t ms h. tells_foreign t (suc k) i kind line _ hs (λ e. (let c = count in let b = within in omega arith)) (all.fresh t ms (let c = count in omega arith));
  }
  all_arrival (arrived.Clash j l) told = record {
    ended_told = subst (λ q. TellsEnded n q hs) (sym ended) all.ended_told;
    told = λ q z h. same_or_other q z h (λ p w. Tells (suc p) w hs) told (λ w g o. all.told q w g);
    sizes = sizes_now;
    fresh = λ t ms h. all.fresh t ms (let c = count in omega arith);
  }

  -- the same by the team's number
  pub all_arrival_at : (t : ℕ) → suc k ≡ t → (a : Arrival) → Tells (suc k) y (happened_with hs (suc k) i kind line a) → TellsAll n s' (happened_with hs t i kind line a)
  all_arrival_at t e a told = subst (λ q. TellsAll n s' (happened_with hs q i kind line a)) e (all_arrival a told)

-- what the arrival asks holds of the team that is there
pub can_there : (s : RoundsState) (t : ℕ) (x : TeamState) (i : ℕ) → ((y : TeamState) → slice_get s.teams (t - 1) ≡ Some y → CanArrive s.ended y i) → 0 < t → t ≤ length s.teams → x ≡ slice_index_or s.teams (t - 1) x
    → (slice_get s.teams (t - 1) ≡ Some x) × CanArrive s.ended x i
can_there s t x i f low high e = let at = get_from s.teams (t - 1) x (omega arith) e in (at, f x at)

-- the number of the team at a place
pub number_is : (t : ℕ) → 0 < t → suc (t - 1) ≡ t
number_is t h = omega arith
