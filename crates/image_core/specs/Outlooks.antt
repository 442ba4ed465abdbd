-- What is known of which images can step.
use Rattle.std.specs.Prelude.{ℕ, ◌≡◌, ◌+◌, false, length, Some}
use Rattle.caf_base.specs.declared.place.Place.{Place}
use Rattle.caf_events.specs.declared.ask.Ask.{Ask}
use Rattle.caf_events.specs.declared.event.Event.{Event}
use Rattle.caf_events.specs.Asks.{place_of}
use Rattle.caf_events.specs.Walkers.{AsksNext}
use Rattle.core_runs.specs.Moments.{Rules, Moment, item_at, can_step, ready_there, Steps}
use Rattle.run_outlook.specs.declared.outlook.Outlook.{Outlook}
use Rattle.run_outlook.specs.ImageSets.{has}
use Rattle.run_outlook.specs.Outlooks.{IsFiled, IsWell}
use Rattle.image_core.specs.NextAsks.{AreNextAsks}

-- what the outlook says of a moment is so: of each image that isn't stale, whether it can step, and of each ask that is
-- kept, that it is next. An image that isn't stale is filed at the object of its next ask.
pub record Knows {C M B : Type 0} (r : Rules C M B) (m : Moment C M B) (o : Outlook) : Type 0 where
  pub well : IsWell o
  pub images : o.images ≡ length m.configs
  pub files : length o.filed.items ≡ length m.memories + 1
  pub asked : AreNextAsks r m o.asks.kept.items
  pub known : (i : ℕ) → has o.stale.words.items i ≡ false → has o.can.words.items i ≡ can_step r m i
  pub filed : (i : ℕ) → has o.stale.words.items i ≡ false → (c : C) → item_at m.configs i ≡ Some c → (a : Ask) → AsksNext (r.step c) a → IsFiled o.filed.items (place_of a) i

-- the step that image i made last, at a place, left all other images' asks as ready as they were
abbrev pub LeavesOthers : {C M B : Type 0} → Rules C M B → ℕ → Place → Moment C M B → Type 0
LeavesOthers {C} {M} {B} r i place m' =
    (m : Moment C M B) (e : Event) → Steps r m i e m' → place_of e.ask ≡ place → (j : ℕ) → (j ≡ i → ⊥) → (a : Ask) (q : Place) → ready_there r m' j a q ≡ ready_there r m j a q

-- what was known before the step that image i made last, at a place, and is known after it
abbrev pub KnowsOn : {C M B : Type 0} → Rules C M B → ℕ → Place → Moment C M B → Outlook → Outlook → Type 0
KnowsOn {C} {M} {B} r i place m' o o' = (m : Moment C M B) (e : Event) → Steps r m i e m' → place_of e.ask ≡ place → Knows r m o → Knows r m' o'
