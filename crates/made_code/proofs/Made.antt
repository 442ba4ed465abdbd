-- The code of a program is never bad where its ranks are right, and has its walks.
use Rattle.std.proofs.Common.{◌≡◌, ℕ, inl, inr, [], refl, ap, sym, ◌∙◌, subst}
use Rattle.caf_events.specs.Answers.{Answers}
use Rattle.walk_theory.specs.Made.{program_code}
use Rattle.walk_theory.specs.Programs.{HasWalksOf}
use Rattle.walk_theory.proofs.Programs.{has_walks}
use Rattle.checked_tree.specs.Statements as s
use Rattle.image_acts.specs.Acts.{ask, end_program}
use Rattle.image_acts.specs.Meaning.{image_language}
use Rattle.image_code.specs.Code.{Program, IsRefused, code_of}
use Rattle.image_code.specs.Draft.{shapes, IsBad}
use Rattle.image_code.specs.Table.{lines_of}
use Rattle.image_code.specs.Levels.{Part, of_numbers, of_arrays, of_texts, taken_of}
use Rattle.tree_meaning.specs.Forms.{bodies}
use Rattle.tree_meaning.specs.Start.{first_core}
use Rattle.made_code.specs.Ranks.{IsRankedProgram}
use Rattle.made_code.proofs.Blocks.{bodies_even}
use Rattle.made_code.proofs.Fine.{none_bad}

last_takes_none : (x : Part) → taken_of x (ask end_program) ≡ 0
last_takes_none of_numbers = refl
last_takes_none of_arrays = refl
last_takes_none of_texts = refl

pub never_bad : (p : s.Program) (made : Program) → IsRankedProgram p → code_of made ≡ program_code (ask end_program) p.end_line (bodies p) → (at : ℕ) → IsBad (shapes made.steps) at → ⊥
never_bad p made h e at b = none_bad (ask end_program) p.end_line (bodies p) last_takes_none refl (bodies_even p h) made.tables.texts made.steps made.lines e at b

pub walks : (p : s.Program) (made : Program) → code_of made ≡ program_code (ask end_program) p.end_line (bodies p)
    → (limit me images : ℕ) → HasWalksOf image_language Answers (ask end_program) (bodies p) p.end_line limit (first_core p me images) (code_of made)
walks p made e limit me images =
    subst (HasWalksOf image_language Answers (ask end_program) (bodies p) p.end_line limit (first_core p me images)) (sym e)
    (has_walks image_language Answers (ask end_program) (bodies p) p.end_line limit (first_core p me images))

-- so it is never refused
pub never_refused : (p : s.Program) (made : Program) → IsRankedProgram p → code_of made ≡ program_code (ask end_program) p.end_line (bodies p) → (at : ℕ) → IsRefused made.steps at → ⊥
never_refused p made h e at (inl x) = (let f : code_of made ≡ [] = ap (λ ss. lines_of made.tables.texts ss made.lines) x.0 in let g = sym f ∙ e in absurd (cc))
never_refused p made h e at (inr x) = never_bad p made h e at x.0
