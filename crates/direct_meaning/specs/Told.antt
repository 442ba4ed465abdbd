-- The acts of the walk as an evaluation, and when a walk says what one comes to.
use Rattle.std.specs.Prelude.{ℕ, ◌≡◌, List, [], ◌∷◌}
use Rattle.trace_theory.specs.Machines as machine
use Rattle.trace_theory.specs.Machines.{goes, asks}
use Rattle.caf_events.specs.declared.reply.Reply.{Reply}
use Rattle.walk_theory.specs.Language.{goes_to, faults, asking, ends_with, stuck, Tested, no_value, holds, fails}
use Rattle.walk_theory.specs.Syntax.{Parts, end_parts, value, act, enter, either, Steps}
use Rattle.walk_theory.specs.Walks.{Task, Config, to, eval, step}
use Rattle.checked_tree.specs.Expressions as t
use Rattle.image_acts.specs.Acts.{Act}
use Rattle.image_acts.specs.Core.{Core}
use Rattle.image_acts.specs.Taking.{Acted, tested}
use Rattle.image_acts.specs.Meaning.{effect_of, image_language}
use Rattle.tree_meaning.specs.Environment.{Environment}
use Rattle.tree_meaning.specs.Expressions.{expression}
use Rattle.direct_meaning.specs.States.{state_of}
use Rattle.direct_meaning.specs.Outcomes.{Outcome, done, faults as faulty, asks as asked, over, unsaid, and_then}

-- what an act comes to
abbrev pub of_effect : ℕ → Core → Acted → Outcome Core
of_effect l c (goes_to d) = done d
of_effect l c (faults k) = faulty k l (state_of c)
of_effect l c (asking a f) = asked a l (state_of c) (λ r. done (f r))
of_effect l c (ends_with a) = asked a l (state_of c) (λ r. over (state_of c))
of_effect l c stuck = over (state_of c)

abbrev pub of_test : Tested Core → (so other : Core → Outcome Core) → Outcome Core
of_test no_value so other = unsaid
of_test (holds d) so other = so d
of_test (fails d) so other = other d

-- parts in their order, with their asks; nothing is said of a body that is entered
abbrev pub told : Parts Act → ℕ → Core → Outcome Core
told end_parts l c = done c
told (value p q) l c = and_then (told p l c) (told q l)
told (act a q) l c = and_then (of_effect l c (effect_of a c)) (told q l)
told (enter k q) l c = unsaid
told (either p q r) l c = and_then (of_test (tested c) (told p l) (told q l)) (told r l)

module _ (procedures : ℕ → Steps Act) (limit : ℕ) where
  -- the walk comes to this configuration without an ask
  abbrev pub ComesBy : (c e : Config Act Core) → Type 0
  ComesBy c e = (i : ℕ) × (machine.go (step image_language procedures limit) i c ≡ goes e)

  -- the walk says and hears what the acts come to, with this state where it stands at an ask, and comes to what is left
  -- to do
  abbrev pub Says : Outcome Core → List (Task Act) → (count : ℕ) → Config Act Core → Type 0
  Says (done d) ts n c = ComesBy c (to ts d n)
  Says (faulty k l z) ts n c = (e : Config Act Core) × ComesBy c e × (state_of e.core ≡ z) × (d : Core) × (step image_language procedures limit e ≡ asks (image_language.fault k) l (λ r. to [] d n))
  Says (asked a l z f) ts n c = (e : Config Act Core) × ComesBy c e × (state_of e.core ≡ z) × (g : Reply → Config Act Core) × (step image_language procedures limit e ≡ asks a l g) × ((r : Reply) → Says (f r) ts n (g r))
  Says (over z) ts n c = (e : Config Act Core) × ComesBy c e × (state_of e.core ≡ z) × (step image_language procedures limit e ≡ machine.over)
  Says unsaid ts n c = Unit {0}

-- the walk says what the acts come to
abbrev pub WalkLaw : Type 0
WalkLaw = (procedures : ℕ → Steps Act) (limit : ℕ) (e : Environment) (x : t.Expression) (l : ℕ) (ts : List (Task Act)) (n : ℕ) (c : Core) → Says procedures limit (told (expression e x) l c) ts n (to (eval l (expression e x) ∷ ts) c n)
