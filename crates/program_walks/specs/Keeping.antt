-- Parts, forms and blocks that keep the order of arrivals and departures, whatever has been computed and whatever the
-- replies are: what they ask may come, behind them no departure is owed, and they are over only behind the program's
-- last step.
use Rattle.std.specs.Prelude.{◌≡◌, List, [], ◌∷◌, None}
use Rattle.caf_events.specs.declared.ask.Ask.{Ask}
use Rattle.caf_events.specs.declared.reply.Reply.{Reply}
use Rattle.caf_events.specs.Answers.{Answers}
use Rattle.walk_theory.specs.Language.{Effect, goes_to, faults, asking, ends_with, stuck, Tested, no_value, holds, fails}
use Rattle.walk_theory.specs.Syntax.{Parts, end_parts, value, act, enter, either, Form, simple, choose, loop, around, exit, cycle, return, Branches, otherwise, branch, Steps, stop, also}
use Rattle.image_acts.specs.Acts.{Act}
use Rattle.image_acts.specs.Core.{Core}
use Rattle.image_acts.specs.Taking.{tested}
use Rattle.image_acts.specs.Meaning.{effect_of}
use Rattle.program_walks.specs.Dues.{Due, ended, owing, due_after, MayCome}

-- no departure is owed
abbrev pub IsClear : Due → Core → Type 0
IsClear due core = due ≡ owing None

-- what an act comes to may come, and `After` holds behind it; a run fault comes only where no departure is owed, and
-- behind a last ask nothing more does
abbrev pub EffectKeeps : Effect Core Ask Reply → (Due → Core → Type 0) → Due → Type 0
EffectKeeps (goes_to c) After due = After due c
EffectKeeps (faults k) After due = due ≡ owing None
EffectKeeps (asking a f) After due = MayCome due a × ((r : Reply) → Answers a r → After (due_after a r) (f r))
EffectKeeps (ends_with a) After due = MayCome due a × ((r : Reply) → due_after a r ≡ ended)
EffectKeeps stuck After due = due ≡ ended

abbrev pub TestKeeps : Tested Core → (so other : Core → Type 0) → Type 0
TestKeeps no_value so other = ⊥
TestKeeps (holds c) so other = so c
TestKeeps (fails c) so other = other c

-- the same of parts; a procedure begins and ends where no departure is owed
abbrev pub PartsKeep : Parts Act → (Due → Core → Type 0) → Due → Core → Type 0
PartsKeep end_parts After due c = After due c
PartsKeep (value p q) After due c = PartsKeep p (PartsKeep q After) due c
PartsKeep (act a q) After due c = EffectKeeps (effect_of a c) (PartsKeep q After) due
PartsKeep (enter k q) After due c = (due ≡ owing None) × ((e : Core) → PartsKeep q After (owing None) e)
PartsKeep (either a b q) After due c = TestKeeps (tested c) (PartsKeep a (PartsKeep q After) due) (PartsKeep b (PartsKeep q After) due)

-- parts that keep the order from where nothing is owed to where nothing is owed
abbrev pub KeepsOrder : Parts Act → Type 0
KeepsOrder p = (c : Core) → PartsKeep p IsClear (owing None) c

abbrev mutual
  pub FormKeeps : Form Act → Type 0
  FormKeeps (simple p) = KeepsOrder p
  FormKeeps (choose p bs) = KeepsOrder p × BranchesKeep bs
  FormKeeps (loop s n t b) = KeepsOrder s × KeepsOrder n × KeepsOrder t × StepsKeep b
  FormKeeps (around p b m q) = KeepsOrder p × StepsKeep b × KeepsOrder q
  FormKeeps (exit n) = Unit {0}
  FormKeeps (cycle n) = Unit {0}
  FormKeeps return = Unit {0}

  pub BranchesKeep : Branches Act → Type 0
  BranchesKeep (otherwise b) = StepsKeep b
  BranchesKeep (branch l p a rest) = KeepsOrder p × StepsKeep a × BranchesKeep rest

  pub StepsKeep : Steps Act → Type 0
  StepsKeep stop = Unit {0}
  StepsKeep (also l f rest) = FormKeeps f × StepsKeep rest

-- the bodies of a program, its main program first
abbrev pub BodiesKeep : List (Steps Act) → Type 0
BodiesKeep [] = Unit {0}
BodiesKeep (b ∷ bs) = StepsKeep b × BodiesKeep bs
