-- The machine does each line of the code of bodies whose acts it does.
use Rattle.std.proofs.Common.{ℕ, zero, suc, ◌+◌, List, [], ◌∷◌, ◌++◌, subst}
use Rattle.walk_theory.specs.Syntax.{Parts, end_parts, value, act, enter, either, Form, simple, choose, loop, around, exit, cycle, return, Branches, otherwise, branch, Steps, stop, also}
use Rattle.walk_theory.specs.Code.{Line}
use Rattle.walk_theory.specs.Made as made
use Rattle.walk_theory.specs.Made.{Places}
use Rattle.image_acts.specs.Acts.{Act}
use Rattle.accepted_ranks.proofs.Means.{none_some, some_same}
use Rattle.checked_run.specs.Doing.{DoesAct, Does, DoesAll}
use Rattle.accepted_runs.proofs.Acts.{PartsDo, StepsDo, FormDoes, BranchesDo}
use Rattle.accepted_runs.proofs.Statements.{BodiesDo}

abbrev LinesDo : List (Line Act) → Type 0
LinesDo [] = Unit {0}
LinesDo (x ∷ xs) = Does x.instr × LinesDo xs

both_do : (xs ys : List (Line Act)) → LinesDo xs → LinesDo ys → LinesDo (xs ++ ys)
both_do [] ys h k = k
both_do (x ∷ xs) ys h k = (h.0, both_do xs ys h.1 k)

exit_does : (xs : List Places) (n : ℕ) → Does (made.exit_instr xs n)
exit_does [] n = tt
exit_does (x ∷ xs) zero = tt
exit_does (x ∷ xs) (suc n) = exit_does xs n

cycle_does : (xs : List Places) (n : ℕ) → Does (made.cycle_instr xs n)
cycle_does [] n = tt
cycle_does (x ∷ xs) zero = tt
cycle_does (x ∷ xs) (suc n) = cycle_does xs n

module _ (starts : ℕ → ℕ) where
  parts_do : (l : ℕ) (p : Parts Act) → PartsDo p → LinesDo (made.parts_code starts l p)
  parts_do l end_parts h = tt
  parts_do l (value p q) h = both_do _ _ (parts_do l p h.0) (parts_do l q h.1)
  parts_do l (act x q) h = (h.0, parts_do l q h.1)
  parts_do l (enter k q) h = (tt, parts_do l q h)
  parts_do l (either p q r) h = (tt, both_do _ _ (parts_do l p h.0) (tt, both_do _ _ (parts_do l q h.1) (parts_do l r h.2)))

  mutual
    pub steps_do : (xs : List Places) (p : ℕ) (b : Steps Act) → StepsDo b → LinesDo (made.steps_code starts xs p b)
    steps_do xs p stop h = tt
    steps_do xs p (also l f rest) h = (tt, both_do _ _ (form_does xs _ l f h.0) (steps_do xs _ rest h.1))

    form_does : (xs : List Places) (p l : ℕ) (f : Form Act) → FormDoes f → LinesDo (made.form_code starts xs p l f)
    form_does xs p l (simple q) h = parts_do l q h
    form_does xs p l (choose q bs) h = both_do _ _ (parts_do l q h.0) (branches_do xs _ bs h.1)
    form_does xs p l (loop s n t b) h = both_do _ _ (parts_do l s h.0) (tt, (tt, both_do _ _ (steps_do _ _ b h.3) (both_do _ _ (parts_do l n h.1) (both_do _ _ (parts_do l t h.2) (tt, tt)))))
    form_does xs p l (around q b m r) h = both_do _ _ (parts_do l q h.0) (both_do _ _ (steps_do xs _ b h.1) (tt, parts_do m r h.2))
    form_does xs p l (exit n) h = (exit_does xs n, tt)
    form_does xs p l (cycle n) h = (cycle_does xs n, tt)
    form_does xs p l return h = (tt, tt)

    branches_do : (xs : List Places) (p : ℕ) (bs : Branches Act) → BranchesDo bs → LinesDo (made.branches_code starts xs p bs)
    branches_do xs p (otherwise b) h = steps_do xs p b h
    branches_do xs p (branch l q x rest) h = both_do _ _ (parts_do l q h.0) (tt, both_do _ _ (steps_do xs _ x h.1) (tt, branches_do xs _ rest h.2))

  bodies_lines : (l p : ℕ) (bs : List (Steps Act)) → BodiesDo bs → LinesDo (made.bodies_code starts l p bs)
  bodies_lines l p [] h = (tt, tt)
  bodies_lines l p (b ∷ bs) h = both_do _ _ (steps_do [] p b h.0) (tt, bodies_lines l (p + made.steps_size b + 1) bs h.1)

each_does : (xs : List (Line Act)) → LinesDo xs → DoesAll xs
each_does [] h place x e = none_some x e
each_does (y ∷ xs) h zero x e = subst (λ z. Does z.instr) (some_same y x e) h.0
each_does (y ∷ xs) h (suc place) x e = each_does xs h.1 place x e

pub program_does : (last : Act) (l : ℕ) (bs : List (Steps Act)) → DoesAct last → BodiesDo bs → DoesAll (made.program_code last l bs)
program_does last l bs h k = each_does (made.program_code last l bs) (tt, (tt, (h, (tt, bodies_lines (made.start_of 4 bs) l 4 bs k))))
