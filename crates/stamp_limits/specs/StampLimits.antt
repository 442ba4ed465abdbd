-- Limits of stamps: where an image ends since a stamp of its run has reached the bound.
use Rattle.std.specs.Prelude.{ℕ, ◌≡◌, ◌≤◌, ◌^◌, max, Bool, true, false, not, List, ◌∷◌, ◌++◌}
use Rattle.std.specs.List.{filter}
use Rattle.caf_events.specs.declared.ask.Ask.{Ask}
use Rattle.caf_events.specs.declared.ask.Ask.TheVariants as forms
use Rattle.caf_events.specs.declared.reply.Reply.{Reply}
use Rattle.caf_events.specs.declared.event.Entry.{Entry}
use Rattle.caf_events.specs.Asks.{place_of, object_of}
use Rattle.trace_theory.specs.Entries.{of, Each, last_or}
use Rattle.trace_theory.specs.Machines.{asks, Said, Comes, Walk}
use Rattle.trace_theory.specs.Runs.{place_last}
use Rattle.core_runs.specs.Lists.{image_of, key_of, stamp_of}
use Rattle.core_runs.specs.Moments.{Rules}
use Rattle.core_runs.specs.Beginnings.{Beginning, IsImage}
use Rattle.core_runs.specs.CoreRuns.{of_image, said_by, IsLawful}
use Rattle.core_runs.specs.Sequences.{IsStampLimit, NothingAfterEnd}

-- the bound of stamps, 2 to the 62nd: behind a last stamp that has reached it no further step is made
abbrev pub most_stamp : ℕ
most_stamp = 2 ^ 62

-- the last stamp of an object in these entries; an image's own place has none
abbrev pub last_at : ℕ → List Entry → ℕ
last_at object before = place_last stamp_of object (of key_of object before)

-- the last stamp before image i makes this ask: the greater of the last stamps of the image and of the ask's object
abbrev pub last_stamp : List Entry → ℕ → Ask → ℕ
last_stamp before i ask = max (last_or stamp_of 0 (of_image i before)) (last_at (object_of (place_of ask)) before)

-- a limit of stamps is due before image i makes this ask: that stamp has reached the bound
abbrev pub IsStampLimitDue : List Entry → ℕ → Ask → Type 0
IsStampLimitDue before i ask = most_stamp ≤ last_stamp before i ask

-- no entry is a limit of stamps
abbrev pub HasNoStampLimit : List Entry → Type 0
HasNoStampLimit t = Each (λ x. IsStampLimit x.event.ask → ⊥) t

-- the ask is a limit of recorded words
abbrev pub IsWordLimit : Ask → Type 0
IsWordLimit (forms.LimitWords number) = Unit {0}
IsWordLimit ask = ⊥

-- A limit of stamps with this number stands for the next step of image i at this line: the image's program comes to an
-- ask at this line before which a limit of stamps is due, other than a limit of recorded words, which goes first; and
-- the number is the last stamp before that ask.
pub record StandsForNext {C M B : Type 0} (r : Rules C M B) (b : Beginning C M B) (before : List Entry) (i line number : ℕ) : Type 0 where
  pub config : C
  pub walks : Walk r.step (b.first i) (said_by i before) config
  pub ask : Ask
  pub goes_on : Reply → C
  pub comes : Comes r.step config (asks ask line goes_on)
  pub no_word_limit : IsWordLimit ask → ⊥
  pub due : IsStampLimitDue before i ask
  pub number_is : number ≡ last_stamp before i ask

-- image i may make this ask at this line after these entries: a limit of stamps in place of its next step, a limit of
-- recorded words wherever its program asks it, and whatever else its program asks where no limit of stamps is due
abbrev pub MayStand : {C M B : Type 0} → Rules C M B → Beginning C M B → List Entry → ℕ → ℕ → Ask → Type 0
MayStand r b before i line (forms.LimitStamp number) = StandsForNext r b before i line number
MayStand r b before i line (forms.LimitWords number) = Unit {0}
MayStand r b before i line ask = IsStampLimitDue before i ask → ⊥

-- each entry may stand where it does: images end at limits of stamps, and nowhere else does such a limit stand
abbrev pub EndsAtStampLimits : {C M B : Type 0} → Rules C M B → Beginning C M B → List Entry → Type 0
EndsAtStampLimits r b t = (before after : List Entry) (x : Entry) → t ≡ before ++ x ∷ after → MayStand r b before (image_of x) x.event.line x.event.ask

-- whether the ask is a limit of stamps
abbrev pub is_stamp_limit : Ask → Bool
is_stamp_limit (forms.LimitStamp number) = true
is_stamp_limit ask = false

-- what image i said and heard by its program: all but a limit of stamps
abbrev pub said_by_program : ℕ → List Entry → List (Said Ask Reply)
said_by_program i t = filter (λ e. not (is_stamp_limit e.ask)) (said_by i t)

-- A run that ends at limits of stamps: a lawful trace in which each image's events are a walk of its program, but for a
-- limit of stamps, which stands where it is due and nowhere else; and nothing follows a step that ends the image, as a
-- limit does.
pub record IsStampLimitedRun {C M B : Type 0} (r : Rules C M B) (b : Beginning C M B) (t : List Entry) : Type 0 where
  pub lawful : IsLawful r b t
  pub walks : (i : ℕ) → IsImage b i → (c : C) × Walk r.step (b.first i) (said_by_program i t) c
  pub nothing_after : (i : ℕ) → NothingAfterEnd (said_by i t)
  pub limits : EndsAtStampLimits r b t
