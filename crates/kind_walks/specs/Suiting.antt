-- Which asks bring values of the kind that they name (ISO/IEC 1539-1:2018, 9.6, 10.2.1.3, 16.6), along the walk of a
-- program.
use Rattle.std.specs.Prelude.{ℕ, ◌≡◌, ◌≤◌, true, slice_get, List, [], ◌∷◌, Option, None, Some}
use Rattle.std.specs.List.{list_all}
use Rattle.trace_theory.specs.Entries.{Each}
use Rattle.trace_theory.specs.Machines.{Said}
use Rattle.caf_base.specs.declared.value.Kind.{Kind}
use Rattle.caf_base.specs.declared.value.Kind.TheVariants as kinds
use Rattle.caf_base.specs.Arithmetic.{fits_kind}
use Rattle.caf_events.specs.declared.ask.Ask.{Ask}
use Rattle.caf_events.specs.declared.ask.Ask.TheVariants as asking
use Rattle.caf_events.specs.declared.reply.Reply.{Reply}
use Rattle.caf_events.specs.declared.reply.Reply.TheVariants as replies
use Rattle.walk_theory.specs.Language as language
use Rattle.walk_theory.specs.Language.{Tested, no_value, holds, fails}
use Rattle.walk_theory.specs.Syntax.{Parts, end_parts, value, act, enter, either, Form, simple, choose, loop, around, exit, cycle, return, Branches, otherwise, branch, Steps, stop, also}
use Rattle.object_rules.specs.Folds.{is_of_kind}
use Rattle.object_rules.specs.Cells.{Declared}
use Rattle.object_rules.specs.Answering.{is_held}
use Rattle.object_rules.specs.MemoryRules as memory
use Rattle.object_rules.specs.MemoryRules.{suits_values}
use Rattle.image_acts.specs.Acts.{Act}
use Rattle.image_acts.specs.Core.{Core}
use Rattle.image_acts.specs.Replies.{status_of}
use Rattle.image_acts.specs.Taking.{Acted, tested}
use Rattle.image_acts.specs.Meaning.{effect_of}
use Rattle.kind_walks.specs.Kinds.{Layout, last_layout, Typing, IsSo, with_number}

-- the kind of the collective at which an image arrived, directly behind that
abbrev pub Joined : Type 0
Joined = Option Kind

abbrev pub joined_by : Ask → Joined
joined_by (asking.Gather team op root kind values) = Some kind
joined_by ask = None

-- whether a value is one of the collective that was joined last
abbrev pub AreCollected : Joined → Reply → Type 0
AreCollected (Some k) (replies.Taken status vs) = list_all (is_of_kind k) vs ≡ true
AreCollected j reply = Unit {0}

-- a number of kind 4 that counts
abbrev pub IsSmall : ℕ → Type 0
IsSmall m = m ≤ 2147483647

module _ (coarrays : List Declared) where
  -- the values of a write are of the coarray's type and kind, and those of an arrival at a collective of its kind
  abbrev pub Suits : Ask → Type 0
  Suits (asking.Write owner span vs) = memory.holds (suits_values vs) (slice_get coarrays span.coarray) ≡ true
  Suits (asking.Gather team op root kind vs) = list_all (is_of_kind kind) vs ≡ true
  Suits ask = Unit {0}

  -- the reply brings such values as the ask is for: of the coarray's kind, of the collective's, counts and indices of
  -- kind 4
  abbrev pub Brings : Joined → Ask → Reply → Type 0
  Brings j (asking.Read owner span) (replies.Values vs) = list_all (is_held (slice_get coarrays span.coarray)) vs ≡ true
  Brings j (asking.Atomic owner op span x y) (replies.Old v) = is_held (slice_get coarrays span.coarray) v ≡ true
  Brings j (asking.Query owner span) (replies.Count count) = IsSmall count
  Brings j (asking.Take team round) reply = AreCollected j reply
  Brings j (asking.Failed team) (replies.Indices indices) = Each IsSmall indices
  Brings j (asking.Stopped team) (replies.Indices indices) = Each IsSmall indices
  Brings j ask reply = Unit {0}

  -- and a status of kind 4
  abbrev pub Tells : Joined → Ask → Reply → Type 0
  Tells j ask reply = (fits_kind kinds.I4 (status_of reply) ≡ true) × Brings j ask reply

  -- what an act comes to asks for nothing that doesn't suit, and `After` holds behind it, whatever such reply comes
  abbrev pub EffectSuits : Acted → (Joined → Core → Type 0) → Joined → Type 0
  EffectSuits (language.goes_to d) After j = After j d
  EffectSuits (language.faults k) After j = Unit {0}
  EffectSuits (language.asking a f) After j = Suits a × ((r : Reply) → Tells j a r → After (joined_by a) (f r))
  EffectSuits (language.ends_with a) After j = Suits a
  EffectSuits language.stuck After j = Unit {0}

  abbrev pub TestSuits : Tested Core → (so other : Core → Type 0) → Type 0
  TestSuits no_value so other = Unit {0}
  TestSuits (holds c) so other = so c
  TestSuits (fails c) so other = other c

  module _ (n : ℕ) (layouts : ℕ → Layout) where
    -- the body of procedure k runs, in a program whose first body is the main program's
    abbrev pub IsIn : ℕ → Typing → Type 0
    IsIn k s = (s.running ≡ layouts k) × (last_layout s.running s.callers ≡ layouts 0)

    -- the same of parts: the body of a procedure begins with the variables of its unit, and leaves the operands as they
    -- are
    abbrev pub PartsSuit : Parts Act → (Joined → Core → Type 0) → Joined → Core → Type 0
    PartsSuit end_parts After j c = After j c
    PartsSuit (value p q) After j c = PartsSuit p (PartsSuit q After) j c
    PartsSuit (act a q) After j c = EffectSuits (effect_of a c) (PartsSuit q After) j
    PartsSuit (enter k q) After j c = (s : Typing) × IsIn k s × IsSo n s c × ((i : Joined) (d : Core) → IsSo n s d → PartsSuit q After i d)
    PartsSuit (either a b q) After j c = TestSuits (tested c) (PartsSuit a (PartsSuit q After) j) (PartsSuit b (PartsSuit q After) j)

    -- parts that lead from the one to the other
    abbrev pub Leads : Typing → Parts Act → Typing → Type 0
    Leads s p t = (j : Joined) (c : Core) → IsSo n s c → PartsSuit p (λ i d. IsSo n t d) j c

    -- ---- blocks: a statement leaves no operand, a test its truth value
    abbrev mutual
      pub FormSuits : Typing → Form Act → Type 0
      FormSuits s (simple p) = Leads s p s
      FormSuits s (choose p bs) = Leads s p s × BranchesSuit s bs
      FormSuits s (loop b k t body) = Leads s b s × Leads s k s × Leads s t (with_number (Some kinds.L4) s) × StepsSuit s body
      FormSuits s (around p b m q) = Leads s p s × StepsSuit s b × Leads s q s
      FormSuits s (exit k) = Unit {0}
      FormSuits s (cycle k) = Unit {0}
      FormSuits s return = Unit {0}

      pub BranchesSuit : Typing → Branches Act → Type 0
      BranchesSuit s (otherwise b) = StepsSuit s b
      BranchesSuit s (branch l p a rest) = Leads s p (with_number (Some kinds.L4) s) × StepsSuit s a × BranchesSuit s rest

      pub StepsSuit : Typing → Steps Act → Type 0
      StepsSuit s stop = Unit {0}
      StepsSuit s (also l f rest) = FormSuits s f × StepsSuit s rest

    -- each body suits, wherever it runs
    abbrev pub BodiesSuit : (ℕ → Steps Act) → Type 0
    BodiesSuit procedures = (k : ℕ) (s : Typing) → IsIn k s → StepsSuit s (procedures k)

  -- each ask of a walk suits, and each reply brings what it should
  abbrev pub AllSuit : List (Said Ask Reply) → Type 0
  AllSuit es = Each (λ (e : Said Ask Reply). Suits e.ask) es

  abbrev pub AllTell : Joined → List (Said Ask Reply) → Type 0
  AllTell j [] = Unit {0}
  AllTell j (e ∷ es) = Tells j e.ask e.reply × AllTell (joined_by e.ask) es
