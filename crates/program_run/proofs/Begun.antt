-- The machines before the first step are those of the images by number, each with its room.
use Rattle.std.proofs.Common.{◌≡◌, ℕ, zero, suc, List, [], ◌∷◌, refl, sym, subst}
use Rattle.std.specs.Prelude.{Option, Some, None, map, slice_get, slice_index_or, MatchOption}
use Rattle.trace_theory.specs.Machines.{go, goes, Rests}
use Rattle.core_runs.proofs.Numbered.{item_within}
use Rattle.image_core.specs.Parts.{EachAt}
use Rattle.lane_parts.specs.FirstLanes.{HaveCome}
use Rattle.image_code.specs.Code.{Whole}
use Rattle.image_state.specs.declared.state.Rooms.{Rooms}
use Rattle.image_machine.specs.Engine.{Engine, bare, start_of}
use Rattle.image_machine.specs.Walk.{machine_step}
use Rattle.program_run.specs.Machines.{HasBegun}

pub get_item : {A : Type 0} (xs : List A) (k : ℕ) (x : A) → slice_get xs k ≡ Some x → x ≡ slice_index_or xs k x
get_item [] k x e = absurd (cc)
get_item (y ∷ ys) zero x e =
    let same : y ≡ x = cc in
    sym same
get_item (y ∷ ys) (suc k) x e = get_item ys k x e

get_bare : (xs : List Engine) (k : ℕ) (c : Engine) → slice_get (map bare xs) k ≡ Some c → (e : Engine) × (slice_get xs k ≡ Some e) × (bare e ≡ c)
get_bare [] k c h = absurd (cc)
get_bare (x ∷ xs) zero c h =
    let same : bare x ≡ c = cc in
    (x, refl, same)
get_bare (x ∷ xs) (suc k) c h = get_bare xs k c h

no_rooms : Rooms
no_rooms = record { numbers = 0; arrays = 0; texts = 0; scalars = 0; locals = 0 }

module _ (w : Whole) (limit n : ℕ) (xs : List Engine) (h : EachAt (HasBegun w limit n) xs) where
  begun_at : (k : ℕ) (c : Engine) → slice_get xs k ≡ Some c → HasBegun w limit n k c
  begun_at k c at = h k c (item_within xs k c at) (get_item xs k c at)

  rooms_in : (k : ℕ) (o : Option Engine) → slice_get xs k ≡ o → Rooms
  rooms_in k None e = no_rooms
  rooms_in k (Some c) e = (begun_at k c e).starts.0

  -- the room of each image's machine
  pub rooms_of : ℕ → Rooms
  rooms_of zero = no_rooms
  rooms_of (suc k) = rooms_in k (slice_get xs k) refl

  come_in : (k : ℕ) (o : Option Engine) (e : slice_get xs k ≡ o) → MatchOption o (Unit {0}) (λ c. (j : ℕ) × (go machine_step j (start_of w limit (rooms_in k o e) (suc k) n) ≡ goes (bare c)))
  unfolding rooms_in begun_at
  come_in k None e = tt
  come_in k (Some c) e =
      let starts = (begun_at k c e).starts in
      (starts.1, starts.2)

  pub have_come : HaveCome machine_step (λ i. start_of w limit (rooms_of i) i n) (map bare xs)
  unfolding rooms_of rooms_in
  have_come = record {
    starts = λ k c at. (
        let g = get_bare xs k c at in
        subst (λ d. (j : ℕ) × (go machine_step j (start_of w limit (rooms_of (suc k)) (suc k) n) ≡ goes d)) g.2
        (subst (λ o. MatchOption o (Unit {0}) (λ d. (j : ℕ) × (go machine_step j (start_of w limit (rooms_of (suc k)) (suc k) n) ≡ goes (bare d)))) g.1 (come_in k (slice_get xs k) refl)));
    rests = λ k c at. (
        let g = get_bare xs k c at in
        subst (λ d. Rests (machine_step d)) g.2 (begun_at k g.0 g.1).rests);
  }

-- a machine of the same code has begun
pub begun : (v w : Whole) (limit n k me : ℕ) (m : Engine) → v ≡ w → me ≡ suc k → (rooms : Rooms) × (steps : ℕ) × (go machine_step steps (start_of v limit rooms me n) ≡ goes (bare m)) → Rests (machine_step (bare m)) → HasBegun w limit n k m
begun v w limit n k me m same number starts rests = record {
  starts = (
    starts.0,
    starts.1,
    subst (λ x. go machine_step starts.1 (start_of w limit starts.0 x n) ≡ goes (bare m)) number (subst (λ x. go machine_step starts.1 (start_of x limit starts.0 me n) ≡ goes (bare m)) same starts.2),
  );
  rests = rests;
}
