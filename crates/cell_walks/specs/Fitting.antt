-- Which reads of coarrays, and which asks for one cell of a memory, fit (ISO/IEC 1539-1:2018, 9.6, 11.6.7, 11.6.8,
-- 11.6.10, 16.10.2), along the walk of a program.
use Rattle.std.specs.Prelude.{ℕ, ◌≡◌, ◌≤◌, ◌<◌, ℤ, Bool, true, map, slice_get, List, [], ◌∷◌, Option, Some, None}
use Rattle.trace_theory.specs.Entries.{Each}
use Rattle.trace_theory.specs.Machines.{Said}
use Rattle.coarray_types.specs.Places.{size_of}
use Rattle.caf_base.specs.declared.span.Span.{Span}
use Rattle.caf_events.specs.declared.ask.Ask.{Ask}
use Rattle.caf_events.specs.declared.ask.Ask.TheVariants as asking
use Rattle.caf_events.specs.declared.reply.FormedTeam.{FormedTeam}
use Rattle.caf_events.specs.declared.reply.Reply.{Reply}
use Rattle.caf_events.specs.declared.reply.Reply.TheVariants as replies
use Rattle.walk_theory.specs.Language as language
use Rattle.walk_theory.specs.Language.{Tested, no_value, holds, fails}
use Rattle.walk_theory.specs.Syntax.{Parts, end_parts, value, act, enter, either, Form, simple, choose, loop, around, exit, cycle, return, Branches, otherwise, branch, Steps, stop, also}
use Rattle.object_rules.specs.Cells.{Declared}
use Rattle.object_rules.specs.MemoryRules.{is_lock, is_event, suits_atomic, is_cell_of}
use Rattle.object_rules.specs.SpanTests.{is_span}
use Rattle.core_runs.specs.Beginnings.{IsOneOf}
use Rattle.core_runs.specs.Lawful.{made_memory}
use Rattle.image_acts.specs.Acts.{Act}
use Rattle.image_acts.specs.Core.{Core, Own, Team}
use Rattle.image_acts.specs.Frames.{joined}
use Rattle.image_acts.specs.Statuses.{most_cells}
use Rattle.image_acts.specs.Taking.{Acted, tested}
use Rattle.image_acts.specs.Meaning.{effect_of}
use Rattle.stack_laws.specs.Exact.{Stand}
use Rattle.told_walks.specs.Asked.{own_cells, sizes_by}

-- the reply tells of no team with a member that isn't an image of the run
abbrev pub TellsImages : ℕ → Reply → Type 0
TellsImages n (replies.Left status teams) = Each (λ (x : FormedTeam). Each (λ i. IsOneOf n i.0) x.members) teams
TellsImages n reply = Unit {0}

-- a coarray that is allocated has no more cells than an image has
abbrev pub IsSmall : Option Own → Type 0
IsSmall None = Unit {0}
IsSmall (Some o) = size_of o.bounds ≤ most_cells

-- how many cells each of an image's own coarrays has, by what it allocated and deallocated, none where it isn't there
abbrev pub Sizes : Type 0
Sizes = List (Option ℕ)

-- The invariant of a walk of image `me` of n, one of the run: each team that it knows has members of the run alone, and
-- its own coarrays have these sizes, none more cells than an image has.
pub record Sounds (n me : ℕ) (z : Sizes) (m : ℕ) (ts : List Team) (fs : List FormedTeam) (os : List (Option Own)) : Type 0 where
  pub own : m ≡ me
  pub image : IsOneOf n me
  pub known : Each (λ (x : Team). Each (IsOneOf n) x.members) ts
  pub formed : Each (λ (x : FormedTeam). Each (λ i. IsOneOf n i.0) x.members) fs
  pub coarrays : Each IsSmall os
  pub sizes : map own_cells os ≡ z

abbrev pub IsSound : ℕ → ℕ → Sizes → Core → Type 0
IsSound n me z c = Sounds n me z c.me c.known c.formed c.coarrays

-- the span's cell is one of this image's coarray as it is allocated
abbrev pub HasCell : Sizes → Span → Type 0
HasCell z span = (m : ℕ) × (joined (slice_get z span.coarray) ≡ Some m) × (span.start < m)

-- The ask of image `me`, whose own coarrays have these sizes, fits, as far as it is a read of a coarray that may be read,
-- or an ask for a lock, an event or an atom. EVENT WAIT and EVENT_QUERY name a cell that is there.
abbrev pub FitsCell : (n me : ℕ) → List Declared → (ℕ → Bool) → Sizes → Ask → Type 0
FitsCell n me coarrays readable z (asking.Read owner span) = IsOneOf n owner.0 × (is_span span ≡ true) × (readable span.coarray ≡ true)
FitsCell n me coarrays readable z (asking.Lock owner span) = IsOneOf n owner.0 × (is_cell_of (made_memory coarrays owner.0) is_lock span ≡ true)
FitsCell n me coarrays readable z (asking.TryLock owner span) = IsOneOf n owner.0 × (is_cell_of (made_memory coarrays owner.0) is_lock span ≡ true)
FitsCell n me coarrays readable z (asking.Unlock owner span) = IsOneOf n owner.0 × (is_cell_of (made_memory coarrays owner.0) is_lock span ≡ true)
FitsCell n me coarrays readable z (asking.Post owner span) = IsOneOf n owner.0 × (is_cell_of (made_memory coarrays owner.0) is_event span ≡ true)
FitsCell n me coarrays readable z (asking.Wait owner span threshold) =
    (owner.0 ≡ me) × (is_cell_of (made_memory coarrays owner.0) is_event span ≡ true) × (1 ≤ threshold) × HasCell z span
FitsCell n me coarrays readable z (asking.Query owner span) = (owner.0 ≡ me) × (is_cell_of (made_memory coarrays owner.0) is_event span ≡ true) × HasCell z span
FitsCell n me coarrays readable z (asking.Atomic owner op span x y) = IsOneOf n owner.0 × (is_cell_of (made_memory coarrays owner.0) (suits_atomic op x y) span ≡ true)
FitsCell n me coarrays readable z ask = Unit {0}

module _ (n me : ℕ) (coarrays : List Declared) (readable : ℕ → Bool) where
  -- what an act comes to asks for no cell that doesn't fit, and `After` holds behind it, whatever the reply is
  abbrev pub EffectFits : Acted → (Sizes → Core → Type 0) → Sizes → Type 0
  EffectFits (language.goes_to d) After z = After z d
  EffectFits (language.faults k) After z = Unit {0}
  EffectFits (language.asking a f) After z = FitsCell n me coarrays readable z a × ((r : Reply) → TellsImages n r → After (sizes_by z a) (f r))
  EffectFits (language.ends_with a) After z = FitsCell n me coarrays readable z a
  EffectFits language.stuck After z = Unit {0}

  abbrev pub TestFits : Tested Core → (so other : Core → Type 0) → Type 0
  TestFits no_value so other = Unit {0}
  TestFits (holds c) so other = so c
  TestFits (fails c) so other = other c

  -- the same of parts: a procedure begins where the invariant holds, and leaves the numbers of the stack as they were
  abbrev pub PartsFit : Parts Act → (Sizes → Core → Type 0) → Sizes → Core → Type 0
  PartsFit end_parts After z c = After z c
  PartsFit (value p q) After z c = PartsFit p (PartsFit q After) z c
  PartsFit (act a q) After z c = EffectFits (effect_of a c) (PartsFit q After) z
  PartsFit (enter k q) After z c = IsSound n me z c × ((y : Sizes) (d : Core) → IsSound n me y d → d.values ≡ c.values → PartsFit q After y d)
  PartsFit (either a b q) After z c = TestFits (tested c) (PartsFit a (PartsFit q After) z) (PartsFit b (PartsFit q After) z)

  -- parts that leave so many numbers on those that stand there
  abbrev pub Leave : ℕ → Parts Act → Type 0
  Leave m p = (vs : List ℤ) (z : Sizes) (c : Core) → IsSound n me z c → c.values ≡ vs → PartsFit p (λ y d. IsSound n me y d × Stand m vs d.values) z c

  -- ---- blocks: a statement leaves none, a test its truth value
  abbrev mutual
    pub FormFits : Form Act → Type 0
    FormFits (simple p) = Leave 0 p
    FormFits (choose p bs) = Leave 0 p × BranchesFit bs
    FormFits (loop s k t b) = Leave 0 s × Leave 0 k × Leave 1 t × StepsFit b
    FormFits (around p b m q) = Leave 0 p × StepsFit b × Leave 0 q
    FormFits (exit k) = Unit {0}
    FormFits (cycle k) = Unit {0}
    FormFits return = Unit {0}

    pub BranchesFit : Branches Act → Type 0
    BranchesFit (otherwise b) = StepsFit b
    BranchesFit (branch l p a rest) = Leave 1 p × StepsFit a × BranchesFit rest

    pub StepsFit : Steps Act → Type 0
    StepsFit stop = Unit {0}
    StepsFit (also l f rest) = FormFits f × StepsFit rest

  -- each ask of a walk fits, where the image's own coarrays had these sizes before all
  abbrev pub AllFit : Sizes → List (Said Ask Reply) → Type 0
  AllFit z [] = Unit {0}
  AllFit z (e ∷ es) = FitsCell n me coarrays readable z e.ask × AllFit (sizes_by z e.ask) es
