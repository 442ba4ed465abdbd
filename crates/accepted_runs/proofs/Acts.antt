-- Parts whose acts the machine does.
use Rattle.std.proofs.Common.{◌≡◌, ℕ, ℤ, Bool, true, false, List, [], ◌∷◌, refl}
use Rattle.std.specs.Prelude.{cond, ◌==◌, ◌||◌}
use Rattle.walk_theory.specs.Syntax.{Parts, end_parts, value, act, enter, either, Form, simple, choose, loop, around, exit, cycle, return, Branches, otherwise, branch, Steps, stop, also}
use Rattle.image_acts.specs.Acts.{Act}
use Rattle.tree_meaning.specs.Sequences as view
use Rattle.checked_run.specs.Doing.{DoesAct}

abbrev pub PartsDo : Parts Act → Type 0
PartsDo end_parts = Unit {0}
PartsDo (value p q) = PartsDo p × PartsDo q
PartsDo (act x q) = DoesAct x × PartsDo q
PartsDo (enter k q) = PartsDo q
PartsDo (either p q r) = PartsDo p × PartsDo q × PartsDo r

abbrev mutual
  pub StepsDo : Steps Act → Type 0
  StepsDo stop = Unit {0}
  StepsDo (also l f rest) = FormDoes f × StepsDo rest

  pub FormDoes : Form Act → Type 0
  FormDoes (simple p) = PartsDo p
  FormDoes (choose p bs) = PartsDo p × BranchesDo bs
  FormDoes (loop s n t b) = PartsDo s × PartsDo n × PartsDo t × StepsDo b
  FormDoes (around p b m q) = PartsDo p × StepsDo b × PartsDo q
  FormDoes (exit n) = Unit {0}
  FormDoes (cycle n) = Unit {0}
  FormDoes return = Unit {0}

  pub BranchesDo : Branches Act → Type 0
  BranchesDo (otherwise b) = StepsDo b
  BranchesDo (branch l p a rest) = PartsDo p × StepsDo a × BranchesDo rest

-- ---- choices
pub cond_does : (b : Bool) (p q : Parts Act) → PartsDo p → PartsDo q → PartsDo (cond b p q)
cond_does true p q h k = h
cond_does false p q h k = k

pub if_does : (b : Bool) (p q : Parts Act) → (b ≡ true → PartsDo p) → PartsDo q → PartsDo (cond b p q)
if_does true p q h k = h refl
if_does false p q h k = k

-- ---- moving numbers
pub dropping_does : (n : ℕ) → PartsDo (view.dropping n)
dropping_does n = cond_does (n == 0) _ _ tt (tt, tt)

pub copying_does : (depth n : ℕ) → PartsDo (view.copying depth n)
copying_does depth n = cond_does (n == 0) _ _ tt (tt, tt)

pub bringing_does : (depth n : ℕ) → PartsDo (view.bringing depth n)
bringing_does depth n = cond_does ((depth == 0) || (n == 0)) _ _ tt (tt, tt)

pub released_does : (p : Parts Act) → PartsDo p → PartsDo (view.released p)
released_does p h = cond_does (view.takes p) _ _ (h, (tt, tt)) h

is_one_of_does : (ss : List ℤ) → PartsDo (view.is_one_of ss)
is_one_of_does [] = tt
is_one_of_does (s ∷ ss) = ((tt, (tt, (tt, (tt, tt)))), is_one_of_does ss)

pub requiring_does : (ss : List ℤ) → PartsDo (view.requiring ss)
requiring_does ss = ((tt, (tt, (tt, tt))), (is_one_of_does ss, ((dropping_does 1), (tt, tt), tt)))
