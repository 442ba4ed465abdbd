-- The parts before the first step, of machines, memories and a board.
use Rattle.std.proofs.Common.{◌≡◌, ℕ, zero, suc, ◌<◌, ◌≤◌, ◌^◌, List, [], ◌∷◌, length, refl, ap, sym, ◌∙◌, subst, arith}
use Rattle.std.specs.Prelude.{map, replicate}
use Rattle.caf_events.specs.Histories.{last_stamp_of}
use Rattle.caf_events.specs.declared.event.Event.{Event}
use Rattle.caf_events.specs.declared.event.Entry.{Entry}
use Rattle.caf_events.specs.declared.object.Object as object
use Rattle.caf_events.specs.declared.walker.Walker as walker
use Rattle.core_runs.specs.Lists.{last_of}
use Rattle.core_runs.specs.Beginnings.{Beginning}
use Rattle.core_runs.specs.Kept.{IsKept}
use Rattle.core_runs.specs.Moments.{Moment, rules}
use Rattle.core_runs.proofs.Beginnings.{empty_at}
use Rattle.image_core.specs.declared.run.ImageRun.{ImageRun}
use Rattle.image_core.specs.declared.parts.PartsOf.{PartsOf}
use Rattle.image_core.specs.Parts.{moment, first_moment, total, event_lists, steps_made, EachAt, AreNumbered, IsBounded, AreSound}
use Rattle.image_core.proofs.Beginnings.{all_empty}
use Rattle.run_outlook.proofs.Slices.{map_length}

none_made : (n : ℕ) → total (λ (es : List Event). length es) (replicate n []) ≡ 0
none_made zero = refl
none_made (suc n) = (let z = none_made n in omega arith)

first_bounded : {C M B : Type 0} (left : C → ℕ) (configs : List C) (memories : List M) (board : B) → total left configs < 2 ^ 60 → IsBounded left (first_moment configs memories board)
first_bounded left configs memories board few = record {
  images = λ i. subst (λ es. last_of es ≤ steps_made (first_moment configs memories board)) (sym (empty_at (replicate (length configs) []) (length configs) i refl)) (omega arith);
  memories = λ i. subst (λ h. last_stamp_of h ≤ steps_made (first_moment configs memories board)) (sym (empty_at (replicate (length memories) []) (length memories) i refl)) (omega arith);
  board = omega arith;
  few = let z = none_made (length configs) in omega arith;
}

module _ {M O B : Type 0} (walks : walker.Ghosts M) (memory : object.Ghosts O) (control : object.Ghosts B) (p : PartsOf M O B) (machines : List M) (same : map (λ (r : ImageRun M). r.machine) p.images.items ≡ machines) where
  map_twice : {A D E : Type 0} (f : A → D) (g : D → E) (xs : List A) → map (λ x. g (f x)) xs ≡ map g (map f xs)
  map_twice f g [] = refl
  map_twice f g (x ∷ xs) = ap (λ ys. g (f x) ∷ ys) (map_twice f g xs)

  configs_are : map (λ (r : ImageRun M). walks.config r.machine) p.images.items ≡ map walks.config machines
  configs_are = map_twice (λ (r : ImageRun M). r.machine) walks.config p.images.items ∙ ap (map walks.config) same

  pub count_is : length p.images.items ≡ length machines
  count_is = sym (map_length (λ (r : ImageRun M). r.machine) p.images.items) ∙ ap length same

  events_are : EachAt (λ k (r : ImageRun M). r.events.items ≡ []) p.images.items → event_lists p.images.items ≡ replicate (length (map walks.config machines)) []
  events_are events = all_empty (λ (r : ImageRun M). r.events.items) p.images.items (length (map walks.config machines)) (count_is ∙ sym (map_length walks.config machines)) events

  module _ (events : EachAt (λ k (r : ImageRun M). r.events.items ≡ []) p.images.items) (unserved : map memory.history p.memories.items ≡ replicate (length p.memories.items) []) (idle : control.history p.board ≡ []) where
    pub stands_first : moment walks memory control p ≡ first_moment (map walks.config machines) (map memory.made p.memories.items) (control.made p.board)
    stands_first =
        same_moment configs_are (events_are events) (unserved ∙ ap (λ n. replicate n []) (sym (map_length memory.made p.memories.items))) idle
      where
        same_moment : {C D E : Type 0} {configs configs' : List C} {events events' : List (List Event)} {memories : List D} {histories histories' : List (List Entry)} {board : E} {entries entries' : List Entry}
            → configs ≡ configs' → events ≡ events' → histories ≡ histories' → entries ≡ entries'
            → ◌≡◌ {A = Moment C D E} (record { configs = configs; events = events; memories = memories; histories = histories; board = board; board_history = entries })
            (record { configs = configs'; events = events'; memories = memories; histories = histories'; board = board; board_history = entries' })
        same_moment a b c d = cc

    pub sound_first : length machines < 2 ^ 31 → AreNumbered p.images.items → total walks.asks_left (map walks.config machines) < 2 ^ 60 → (b : Beginning walks.Config memory.Made control.Made) → IsKept (rules walks memory control) b (moment walks memory control p) → AreSound walks memory control p
    sound_first small numbered few b kept = record {
      few = let c = count_is in omega arith;
      numbered = numbered;
      bounded = subst (IsBounded walks.asks_left) (sym stands_first) (first_bounded walks.asks_left (map walks.config machines) (map memory.made p.memories.items) (control.made p.board) few);
      kept = (b, kept);
    }
