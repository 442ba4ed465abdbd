-- Orders with few delays: one image as long as it can step, then the next by number; a delay puts an image off before a
-- step of the run.
use Rattle.std.specs.Prelude.{ℕ, suc, ◌<◌, ◌≤◌, ◌≡◌, Bool, true, false, nat_eq, nat_lt, ◌||◌, not, cond, List, [], ◌∷◌, ◌++◌, length, slice_index}
use Rattle.std.specs.List.{filter, list_any}
use Rattle.trace_theory.specs.Entries.{Each}
use Rattle.caf_base.specs.declared.place.Place.TheVariants.{Own}
use Rattle.caf_events.specs.declared.event.Event.{Event}
use Rattle.caf_events.specs.declared.event.Entry.{Entry}
use Rattle.caf_events.specs.Asks.{place_of}
use Rattle.core_runs.specs.Moments.{Rules, Moment, Steps}
use Rattle.core_runs.specs.Beginnings.{Beginning}
use Rattle.core_runs.specs.Orders.{Chooser, OrderRun, IsOrderTrace}

-- where the choices stand: the image that stepped last (0 before the first step), how many steps were chosen, and
-- before which steps, counted from 1, an image is put off, in rising order
pub record Delays : Type 0 where
  pub last : ℕ
  pub made : ℕ
  pub at : List ℕ

-- a delay is due before the next step
abbrev pub is_due : ℕ → List ℕ → Bool
is_due made [] = false
is_due made (d ∷ ds) = nat_eq d (suc made)

abbrev pub behind_due : ℕ → List ℕ → List ℕ
behind_due made [] = []
behind_due made (d ∷ ds) = cond (nat_eq d (suc made)) ds (d ∷ ds)

-- the image that stepped last, where it can step and isn't put off; else the first candidate above it, else the first
-- of all
abbrev pub kept_or_next : Bool → ℕ → List ℕ → ℕ
kept_or_next true last cs = last
kept_or_next false last cs = slice_index (filter (λ i. nat_lt last i) cs ++ cs) 0

abbrev pub delay_chosen : Delays → List ℕ → ℕ
delay_chosen s cs = kept_or_next (not (is_due s.made s.at || not (list_any (nat_eq s.last) cs))) s.last cs

abbrev pub delaying : Chooser Delays
delaying = record { chosen = delay_chosen; after = λ s cs. record { last = delay_chosen s cs; made = suc s.made; at = behind_due s.made s.at } }

abbrev pub delays : List ℕ → Delays
delays ds = record { last = 0; made = 0; at = ds }

-- no run with at most so many delays ends so
abbrev pub NoneWithin : {C M B : Type 0} → Rules C M B → Beginning C M B → ℕ → (List Entry → Type 0) → Type 0
NoneWithin r b k Bad = (ds : List ℕ) (t : List Entry) → length ds ≤ k → IsOrderTrace r b delaying (delays ds) t → Bad t → ⊥

-- a delay behind the last step of a run changes nothing: so for each list of delays those of the next one need be tried
-- up to the length of its run alone
abbrev pub TooLate : {C M B : Type 0} → Rules C M B → Beginning C M B → Type 0
TooLate r b = (ds : List ℕ) (d : ℕ) (steps : List Entry) → OrderRun r b delaying (delays ds) steps → length steps < d → Each (λ e. e < d) ds → OrderRun r b delaying (delays (ds ++ d ∷ [])) steps

-- two steps of different images, one behind the other, at different places (or each image's own) come to the same
-- moment in either order
abbrev pub Commutes : {C M B : Type 0} → Rules C M B → Type 0
Commutes {C} {M} {B} r =
    (m m1 m2 : Moment C M B) (i j : ℕ) (e f : Event) → Steps r m i e m1 → Steps r m1 j f m2 → (i ≡ j → ⊥) → (place_of e.ask ≡ place_of f.ask → place_of e.ask ≡ Own)
    → (m1' : Moment C M B) × Steps r m j f m1' × Steps r m1' i e m2
