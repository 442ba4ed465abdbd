-- Texts that are named by their numbers.
use Rattle.std.proofs.Common.{◌≡◌, ◌≢◌, ℕ, zero, suc, List, [], ◌∷◌, ◌++◌, refl, ap, subst, sym, ◌∙◌}
use Rattle.std.specs.Prelude.{slice_index_or}
use Rattle.caf_base.specs.declared.value.Kind.{Kind}
use Rattle.caf_base.specs.declared.value.Kind.TheVariants as kinds
use Rattle.walk_theory.specs.Code.{Line, on, does_act}
use Rattle.walk_theory.specs.Made.{parts_code}
use Rattle.walk_theory.specs.Syntax.{Parts}
use Rattle.image_acts.specs.Acts as a
use Rattle.image_acts.specs.Acts.{Act, print}
use Rattle.image_code.specs.Table.{text_in}
use Rattle.tree_meaning.specs.Environment.{Environment, literal_text}
use Rattle.tree_meaning.specs.Assignments as meaning
use Rattle.tree_meaning.specs.Sequences.{doing}
use Rattle.expr_code.specs.Drafts.{Body, counted, kept, Drafted, body_with, body_with_lines, with_line, starts_of, written}
use Rattle.expr_code.proofs.Lines.{written_code}
use Rattle.statement_code.specs.Texts.{AreTexts, HasTexts}

text_at : (ts : List (List ℕ)) (n : ℕ) → text_in ts n ≡ slice_index_or ts n []
text_at [] n = refl
text_at (t ∷ ts) zero = refl
text_at (t ∷ ts) (suc n) = text_at ts n

-- a line that names a text
line_named : (i : List ℕ → Line Act) (b : Body) (ts ls : List (List ℕ)) (n : ℕ) → AreTexts b ts ls → body_with (i (text_in ts n)) b ≡ body_with (i (slice_index_or ls n [])) b
line_named i (counted k) ts ls n h = refl
line_named i (kept is) ts ls n h = ap (λ t. kept (is ++ i t ∷ [])) (text_at ts n ∙ ap (λ us. slice_index_or us n []) h)

pub literal_written : (e : Environment) (d : Drafted) (l n : ℕ) → HasTexts e d →
    with_line (on l (does_act (print (a.print_literal n (text_in d.tables.texts n))))) d ≡ with_line (on l (does_act (print (a.print_literal n (literal_text e n))))) d
literal_written e d l n h = ap (λ (b : Body). record d { body = b }) (line_named (λ t. on l (does_act (print (a.print_literal n t)))) d.body d.tables.texts e.program.literals n h)

pub format_written : (e : Environment) (d : Drafted) (l n : ℕ) → HasTexts e d →
    with_line (on l (does_act (print (a.begin_format (text_in d.tables.texts n))))) d ≡ with_line (on l (does_act (print (a.begin_format (literal_text e n))))) d
format_written e d l n h = ap (λ (b : Body). record d { body = b }) (line_named (λ t. on l (does_act (print (a.begin_format t)))) d.body d.tables.texts e.program.literals n h)

more_lines : (is : List (Line Act)) (b : Body) (ts ls : List (List ℕ)) → AreTexts b ts ls → AreTexts (body_with_lines is b) ts ls
more_lines is (counted n) ts ls h = tt
more_lines is (kept js) ts ls h = h

-- what is written leaves the texts
pub texts_written : (e : Environment) (l : ℕ) (p : Parts Act) (d : Drafted) → HasTexts e d → HasTexts e (written l p d)
texts_written e l p d h =
    let P : Drafted → Type 0 = λ x. HasTexts e x in
    subst P (sym (written_code l p d)) (more_lines (parts_code (starts_of d) l p) d.body d.tables.texts e.program.literals h)

pub texts_kept : (e : Environment) (l : ℕ) (p : Parts Act) (d f : Drafted) → HasTexts e d → f ≡ written l p d → HasTexts e f
texts_kept e l p d f h k = let P : Drafted → Type 0 = λ x. HasTexts e x in subst P (sym k) (texts_written e l p d h)

-- an array is printed by one step
pub array_printed : (e : Environment) (k : Kind) (r : ℕ) → r ≢ 0 → meaning.printed e k r ≡ doing (print (a.print_array k) ∷ [])
array_printed e k zero h = absurd (h refl)
array_printed e kinds.L4 (suc r) h = refl
array_printed e k (suc r) h = refl
