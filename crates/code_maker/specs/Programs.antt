-- What the whole program adds to code that is being made, and where its procedures begin.
use Rattle.std.specs.Prelude.{ℕ, ◌+◌, List, [], ◌∷◌}
use Rattle.walk_theory.specs.Syntax.{Steps}
use Rattle.walk_theory.specs.Code.{on, does_act, count_one, call, go_back}
use Rattle.walk_theory.specs.Made.{steps_size}
use Rattle.image_acts.specs.Acts.{Act}
use Rattle.expr_code.specs.Drafts.{Drafted, starts_of, with_line}
use Rattle.statement_code.specs.Texts.{AreTexts}
use Rattle.code_maker.specs.Blocks.{steps_written}

-- where procedures begin, the first one at p: behind each stands a step back; and where they end
abbrev pub starts_from : ℕ → List (Steps Act) → List ℕ
starts_from p [] = []
starts_from p (b ∷ bs) = p ∷ starts_from (p + steps_size b + 1) bs

abbrev pub end_from : ℕ → List (Steps Act) → ℕ
end_from p [] = p
end_from p (b ∷ bs) = end_from (p + steps_size b + 1) bs

-- a procedure, and the step back behind it
abbrev pub procedure_written : (line : ℕ) → Steps Act → Drafted → Drafted
procedure_written l b d = with_line (on l go_back) (steps_written [] b d)

abbrev pub procedures_written : (line : ℕ) → List (Steps Act) → Drafted → Drafted
procedures_written l [] d = d
procedures_written l (b ∷ bs) d = procedures_written l bs (procedure_written l b d)

-- the first four steps: the call of the main program, the count and the last act of its end, and a step back
abbrev pub beginning_written : Act → (line : ℕ) → Drafted → Drafted
beginning_written last l d = with_line (on l go_back) (with_line (on l (does_act last)) (with_line (on l count_one) (with_line (on l (call (starts_of d 0))) d)))

-- the whole code: `program_code` of walk_theory, in an empty draft that keeps it and knows where its procedures begin
-- (program_made)
abbrev pub program_written : Act → (line : ℕ) → List (Steps Act) → Drafted → Drafted
program_written last l bs d = with_line (on l go_back) (procedures_written l bs (beginning_written last l d))

-- the texts of a draft that keeps its lines are these literals
abbrev pub HasLiterals : List (List ℕ) → Drafted → Type 0
HasLiterals ls d = AreTexts d.body d.tables.texts ls
