-- What blocks and constructs add to code that is being made: each hands the draft on to the next. Their sizes stand
-- only in the jumps that go on.
use Rattle.std.specs.Prelude.{ℕ, ◌+◌, List, ◌∷◌}
use Rattle.walk_theory.specs.Syntax.{Form, simple, choose, loop, around, exit, cycle, return, Branches, otherwise, branch, Steps, stop, also}
use Rattle.walk_theory.specs.Code.{on, count_one, jump, jump_if, jump_unless, go_back}
use Rattle.walk_theory.specs.Made.{parts_size, steps_size, branches_size, Places, exit_instr, cycle_instr}
use Rattle.image_acts.specs.Acts.{Act}
use Rattle.expr_code.specs.Drafts.{Drafted, lines_in, with_line, written}

-- where a loop goes on whose iterations begin at this place, by the sizes of its body, of the way to the next
-- iteration, and of its test
abbrev pub places_at : (first body next test : ℕ) → Places
places_at p b n t = record { next = p + 1 + b; exit = p + 1 + b + n + t + 1 }

-- where the iterations of a loop begin whose start was written: behind a jump
abbrev pub first_iteration : Drafted → ℕ
first_iteration d = lines_in d.body + 1

-- that jump goes to the test, behind the body and the way to the next iteration; the count of an iteration comes next
abbrev pub iterations_begun : (line body next : ℕ) → Drafted → Drafted
iterations_begun l b n d = with_line (on l count_one) (with_line (on l (jump (first_iteration d + 1 + b + n))) d)

-- behind the test of a block of this size: the way past it, and past the jump behind it
abbrev pub passing : (line block : ℕ) → Drafted → Drafted
passing l b d = with_line (on l (jump_unless (lines_in d.body + 1 + b + 1))) d

-- The code of a block more, inside loops that go on at these places:
-- `with_lines (steps_code (starts_of d) xs (lines_in d.body) b) d`, form by form (law_steps_written). Branches have the
-- place behind all of them.
abbrev mutual
  pub steps_written : List Places → Steps Act → Drafted → Drafted
  steps_written xs stop d = d
  steps_written xs (also l f rest) d = steps_written xs rest (form_written xs l f (with_line (on l count_one) d))

  pub form_written : List Places → (line : ℕ) → Form Act → Drafted → Drafted
  form_written xs l (simple p) d = written l p d
  form_written xs l (choose p bs) d = branches_written xs (lines_in d.body + (parts_size p + branches_size bs)) bs (written l p d)
  form_written xs l (loop s n t b) d =
      let e : Drafted = written l s d in
      with_line (on l (jump_if (first_iteration e))) (written l t (written l n (steps_written (places_at (first_iteration e) (steps_size b) (parts_size n) (parts_size t) ∷ xs) b (iterations_begun l (steps_size b) (parts_size n) e))))
  form_written xs l (around p b m q) d = written m q (with_line (on m count_one) (steps_written xs b (written l p d)))
  form_written xs l (exit n) d = with_line (on l (exit_instr xs n)) d
  form_written xs l (cycle n) d = with_line (on l (cycle_instr xs n)) d
  form_written xs l return d = with_line (on l go_back) d

  pub branches_written : List Places → (behind : ℕ) → Branches Act → Drafted → Drafted
  branches_written xs e (otherwise b) d = steps_written xs b d
  branches_written xs e (branch l p b rest) d = branches_written xs e rest (with_line (on l (jump e)) (steps_written xs b (passing l (steps_size b) (written l p d))))

-- a block behind its test, and the jump behind all branches
abbrev pub branch_written : List Places → (behind line : ℕ) → Steps Act → Drafted → Drafted
branch_written xs e l b d = with_line (on l (jump e)) (steps_written xs b (passing l (steps_size b) d))

-- the body of a loop whose start was written, by the sizes of the way to the next iteration and of the test
abbrev pub body_written : List Places → (line next test : ℕ) → Steps Act → Drafted → Drafted
body_written xs l n t b d = steps_written (places_at (first_iteration d) (steps_size b) n t ∷ xs) b (iterations_begun l (steps_size b) n d)
