-- Code that is being made, and what parts add to it.
use Rattle.std.specs.Prelude.{ℕ, ◌+◌, ◌≡◌, ◌||◌, Bool, true, false, cond, List, [], ◌∷◌, ◌++◌, length, slice_index_or}
use Rattle.std.specs.List.{list_any}
use Rattle.walk_theory.specs.Syntax.{Parts, end_parts, value, act, enter, either}
use Rattle.walk_theory.specs.Code.{Instr, Line, on, does_act, call, skip, skip_unless}
use Rattle.walk_theory.specs.Made.{parts_size}
use Rattle.image_acts.specs.Acts.{Act, stack, release}
use Rattle.image_code.specs.declared.tables.Tables.{Tables}
use Rattle.image_code.specs.Code.{Program, code_of}
use Rattle.tree_meaning.specs.Sequences.{is_taking}

-- lines of code that are kept, or only counted
pub data Body : Type 0 where
  counted : ℕ → Body
  kept : List (Line Act) → Body

-- where the code of each procedure begins, and any other one's; what stands beside the code; the lines so far; and
-- whether one of them took evaluation cells since that was last looked at
pub record Drafted : Type 0 where
  pub starts : List ℕ
  pub end : ℕ
  pub tables : Tables
  pub body : Body
  pub took : Bool

-- where the code of a procedure begins
abbrev pub starts_of : Drafted → ℕ → ℕ
starts_of d k = slice_index_or d.starts k d.end

-- so many lines
abbrev pub lines_in : Body → ℕ
lines_in (counted n) = n
lines_in (kept is) = length is

abbrev pub body_with : Line Act → Body → Body
body_with i (counted n) = counted (n + 1)
body_with i (kept is) = kept (is ++ i ∷ [])

abbrev pub body_with_lines : List (Line Act) → Body → Body
body_with_lines is (counted n) = counted (n + length is)
body_with_lines is (kept js) = kept (js ++ is)

-- whether a line takes evaluation cells
abbrev pub instr_takes : Instr Act → Bool
instr_takes (does_act a) = is_taking a
instr_takes i = false

abbrev pub line_takes : Line Act → Bool
line_takes i = instr_takes i.instr

-- one line more, and these lines more
abbrev pub with_line : Line Act → Drafted → Drafted
with_line i d = record d { body = body_with i d.body; took = line_takes i || d.took }

abbrev pub with_lines : List (Line Act) → Drafted → Drafted
with_lines is d = record d { body = body_with_lines is d.body; took = list_any line_takes is || d.took }

-- The code of parts more, at a line: `with_lines (parts_code (starts_of d) l p) d`, part by part (law_written).
abbrev pub written : ℕ → Parts Act → Drafted → Drafted
written l end_parts d = d
written l (value p q) d = written l q (written l p d)
written l (act a q) d = written l q (with_line (on l (does_act a)) d)
written l (enter k q) d = written l q (with_line (on l (call (starts_of d k))) d)
written l (either p q r) d =
    written l r (written l q (with_line (on l (skip (parts_size q))) (written l p (with_line (on l (skip_unless (parts_size p + 1))) d))))

-- where a statement begins nothing has taken cells yet
abbrev pub looked : Drafted → Drafted
looked d = record d { took = false }

-- Where it ends, its evaluation cells are free again, if it took any (`written l (released p)`, released_written);
-- `before` is what was so before it.
abbrev pub ended : ℕ → (before : Bool) → Drafted → Drafted
ended l before d = let e : Drafted = cond d.took (with_line (on l (does_act (stack release))) d) d in record e { took = e.took || before }

-- a draft in memory: it keeps its code, or counts
abbrev pub body_of : Bool → ℕ → Program → Body
body_of true n p = kept (code_of p)
body_of false n p = counted n
