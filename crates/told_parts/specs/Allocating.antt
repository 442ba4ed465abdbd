-- Which coarrays a program allocates and deallocates (ISO/IEC 1539-1:2018, 9.7): those of a set alone.
use Rattle.std.specs.Prelude.{ℕ, ◌≡◌, Bool, true, List, [], ◌∷◌}
use Rattle.trace_theory.specs.Entries.{Each}
use Rattle.trace_theory.specs.Machines.{Said, Move, Walk}
use Rattle.caf_events.specs.declared.ask.Ask.{Ask}
use Rattle.caf_events.specs.declared.ask.Ask.TheVariants as asks
use Rattle.caf_events.specs.declared.reply.Reply.{Reply}
use Rattle.walk_theory.specs.Syntax.{Parts, end_parts, value, act, enter, either, Form, simple, choose, loop, around, exit, cycle, return, Branches, otherwise, branch, Steps, stop, also}
use Rattle.image_acts.specs.Acts as a
use Rattle.image_acts.specs.Acts.{Act, ask}

-- an ask that allocates or deallocates does so with a coarray of the set
abbrev pub IsOfSet : (ℕ → Bool) → Ask → Type 0
IsOfSet f (asks.Create owner coarray cells) = f coarray ≡ true
IsOfSet f (asks.Delete owner coarray) = f coarray ≡ true
IsOfSet f x = Unit {0}

-- so does an act
abbrev pub ActsOn : (ℕ → Bool) → Act → Type 0
ActsOn f (ask (a.create coarray depth rank)) = f coarray ≡ true
ActsOn f (ask (a.delete coarray)) = f coarray ≡ true
ActsOn f x = Unit {0}

-- and each act of these parts
abbrev pub PartsActOn : (ℕ → Bool) → Parts Act → Type 0
PartsActOn f end_parts = Unit {0}
PartsActOn f (value p q) = PartsActOn f p × PartsActOn f q
PartsActOn f (act x q) = ActsOn f x × PartsActOn f q
PartsActOn f (enter n q) = PartsActOn f q
PartsActOn f (either p q r) = PartsActOn f p × PartsActOn f q × PartsActOn f r

-- of a block of statements
abbrev mutual
  pub FormActsOn : (ℕ → Bool) → Form Act → Type 0
  FormActsOn f (simple p) = PartsActOn f p
  FormActsOn f (choose p bs) = PartsActOn f p × BranchesActOn f bs
  FormActsOn f (loop s n t b) = PartsActOn f s × PartsActOn f n × PartsActOn f t × StepsActOn f b
  FormActsOn f (around p b m q) = PartsActOn f p × StepsActOn f b × PartsActOn f q
  FormActsOn f (exit n) = Unit {0}
  FormActsOn f (cycle n) = Unit {0}
  FormActsOn f return = Unit {0}

  pub BranchesActOn : (ℕ → Bool) → Branches Act → Type 0
  BranchesActOn f (otherwise b) = StepsActOn f b
  BranchesActOn f (branch l p x rest) = PartsActOn f p × StepsActOn f x × BranchesActOn f rest

  pub StepsActOn : (ℕ → Bool) → Steps Act → Type 0
  StepsActOn f stop = Unit {0}
  StepsActOn f (also l x rest) = FormActsOn f x × StepsActOn f rest

-- of the bodies of a program, its main program first
abbrev pub BodiesActOn : (ℕ → Bool) → List (Steps Act) → Type 0
BodiesActOn f [] = Unit {0}
BodiesActOn f (b ∷ bs) = StepsActOn f b × BodiesActOn f bs

-- each walk from here on asks so, whatever the replies are
abbrev pub WalksOfSet : {C : Type 0} → (ℕ → Bool) → (C → Move C Ask Reply) → C → Type 0
WalksOfSet {C} f step first = (es : List (Said Ask Reply)) (c : C) → Walk step first es c → Each (λ (e : Said Ask Reply). IsOfSet f e.ask) es
