-- What one step makes of its image's lane, and at which places of a run it can stand.
use Rattle.std.proofs.Common.{◌≡◌, ℕ, zero, suc, ◌+◌, ◌<◌, ◌≤◌, IsTrue, List, [], ◌∷◌, ◌++◌, inl, inr, length, refl, ap, sym, ◌∙◌, arith}
use Rattle.std.specs.Prelude.{map, slice_get, Option, Some, None}
use Rattle.std.specs.List.{range_with_len}
use Rattle.std.proofs.lemmas.Bool.{cases_lt}
use Rattle.caf_base.specs.declared.place.Place.{Place}
use Rattle.caf_base.specs.declared.place.Place.TheVariants as places
use Rattle.caf_events.specs.declared.ask.Ask.{Ask}
use Rattle.caf_events.specs.declared.ask.Ask.TheVariants as forms
use Rattle.caf_events.specs.declared.reply.Reply.{Reply}
use Rattle.caf_events.specs.declared.reply.Reply.TheVariants as replies
use Rattle.caf_events.specs.declared.event.Event.{Event}
use Rattle.caf_events.specs.declared.event.Entry.{Entry}
use Rattle.caf_events.specs.Answers.{Answers}
use Rattle.caf_events.specs.Asks.{place_of}
use Rattle.caf_events.specs.Walkers.{AsksNext, IsAtLine, Continues}
use Rattle.trace_theory.specs.Machines.{Move, goes, asks, over, Said, WalkTo}
use Rattle.trace_theory.proofs.Machines.{walk_to_more}
use Rattle.core_runs.specs.Lists.{said, stamp_alone}
use Rattle.core_runs.specs.Sequences.{IsStampLimit}
use Rattle.core_runs.specs.Moments.{Rules, Moment, item_at, ready_there, memory_ready_at}
use Rattle.core_runs.specs.Beginnings.{Beginning, IsImage, IsPlace, numbers_to}
use Rattle.core_runs.specs.CoreRuns.{IsFit}
use Rattle.core_runs.proofs.Numbered.{item_within}

numbered_from : {A : Type 0} (f : ℕ → A) (a n k : ℕ) → k < n → slice_get (map f (range_with_len a n)) k ≡ Some (f (a + k))
numbered_from f a zero k h = absurd (omega arith)
numbered_from f a (suc n) zero h = let e : a ≡ a + 0 = omega arith in ap (λ j. Some (f j)) e
numbered_from f a (suc n) (suc k) h =
    let e : a + 1 + k ≡ a + suc k = omega arith in
    numbered_from f (a + 1) n k (omega arith) ∙ ap (λ j. Some (f j)) e

numbered_past : {A : Type 0} (f : ℕ → A) (a n k : ℕ) → n ≤ k → slice_get (map f (range_with_len a n)) k ≡ None
numbered_past f a zero k h = refl
numbered_past f a (suc n) zero h = absurd (omega arith)
numbered_past f a (suc n) (suc k) h = numbered_past f (a + 1) n k (omega arith)

-- what stands for the image of a number in a list of one item for each image
pub numbered_item : {A : Type 0} (f : ℕ → A) (n i : ℕ) → 0 < i → i ≤ n → item_at (map f (numbers_to n)) i ≡ Some (f i)
numbered_item f n zero low high = absurd (omega arith)
numbered_item f n (suc k) low high =
    let e : 1 + k ≡ suc k = omega arith in
    numbered_from f 1 n k (omega arith) ∙ ap (λ j. Some (f j)) e

is_numbered : {A : Type 0} (f : ℕ → A) (n i : ℕ) (x : A) → item_at (map f (numbers_to n)) i ≡ Some x → (0 < i) × (i ≤ n)
is_numbered f n zero x h = absurd (cc)
is_numbered f n (suc k) x h = elim (cases_lt k n) [
  | inl l ↦ (omega arith, omega arith)
  | inr g ↦ absurd (let e = sym (numbered_past f 1 n k g) ∙ h in cc)
]

-- an item of a list of one for each image is that of an image of the run
pub is_image : {A : Type 0} (xs : List A) (n i : ℕ) (x : A) → length xs ≡ n → item_at xs i ≡ Some x → (0 < i) × (i ≤ n)
is_image xs n zero x l h = absurd (cc)
is_image xs n (suc k) x l h = let w = item_within xs k x h in (omega arith, omega arith)

-- an image's own ask is answered by that it is done
pub own_answers : (a : Ask) → place_of a ≡ places.Own → Answers a replies.Done
own_answers (forms.Print text) h = tt
own_answers forms.Memory h = tt
own_answers forms.Fail h = tt
own_answers (forms.ErrorStop code) h = tt
own_answers (forms.Fault kind) h = tt
own_answers (forms.LimitStatements number) h = tt
own_answers (forms.LimitWords number) h = tt
own_answers (forms.LimitStamp number) h = tt
own_answers a h = absurd (cc)

-- the stamp of an image's own step rises by one, but that of a limit of stamps
pub alone_rises : (a : Ask) (n : ℕ) → (IsStampLimit a → ⊥) → stamp_alone a n ≡ suc n
alone_rises (forms.LimitStamp number) n h = absurd (h tt)
alone_rises a n h = refl

-- a walk of which the image stands at the ask goes on by the event
pub walk_on : {C : Type 0} (step : C → Move C Ask Reply) (first from to : C) (move : Move C Ask Reply) (es : List (Said Ask Reply)) (e : Event) → step from ≡ move → WalkTo step first es from
    → AsksNext move e.ask → IsAtLine move e.line → Continues step move e.reply to → WalkTo step first (es ++ said e ∷ []) to
walk_on {C} step first from to (goes c) es e h w a l n = absurd a
walk_on {C} step first from to (asks b m k) es e h w a l n =
    walk_to_more C Ask Reply step first from to es (said e) k w (h ∙ ap (λ q. asks q m k) (sym a) ∙ ap (λ q. asks e.ask q k) (sym l)) n.0 n.1
walk_on {C} step first from to over es e h w a l n = absurd a

-- the place of a step is one of the run, and its reply answers the ask
module _ {C M B : Type 0} (r : Rules C M B) (b : Beginning C M B) (m : Moment C M B) (fit : IsFit r b) (memories : m.memories ≡ map b.memory (numbers_to b.images)) (i : ℕ) (a : Ask) where
  -- a memory that is ready is that of an image of the run
  pub memory_of_run : (owner : ℕ) (h : List Entry) (v : Option M) → item_at m.memories owner ≡ v → IsTrue (memory_ready_at r h i a v)
      → IsImage b owner × (v ≡ Some (b.memory owner))
  memory_of_run owner h None e t = absurd (cc)
  memory_of_run owner h (Some x) e t =
      let here : item_at (map b.memory (numbers_to b.images)) owner ≡ Some x = ap (λ ms. item_at ms owner) (sym memories) ∙ e in
      let in_run = is_numbered b.memory b.images owner x here in
      (in_run, sym here ∙ numbered_item b.memory b.images owner in_run.0 in_run.1)

  pub place_of_run : (q : Place) → IsTrue (ready_there r m i a q) → IsPlace b q
  place_of_run (places.Memory owner) t = (memory_of_run owner.0 _ (item_at m.memories owner.0) refl t).0
  place_of_run places.Board t = tt
  place_of_run places.Own t = tt
