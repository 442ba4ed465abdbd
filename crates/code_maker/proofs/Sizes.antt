-- Sizes of what was written, and of forms.
use Rattle.std.proofs.Common.{◌≡◌, ℕ, suc, ◌+◌, ◌<◌, ◌≤◌, List, ◌∷◌, length, drop, slice_index_or, ◌∙◌, arith, ap, sym}
use Rattle.std.proofs.Math.Seq.{drop-cons}
use Rattle.std.proofs.Math.ListN.{drop_of_length-le}
use Rattle.std.specs.Prelude.{Bool, true, false, Option}
use Rattle.std.specs.declared.alloc.Global.{Global}
use Rattle.std.specs.declared.vec.Vec.{Vec}
use Rattle.walk_theory.specs.Made.{parts_size, steps_size, form_size, branches_size}
use Rattle.walk_theory.specs.Syntax.{Form, simple, choose, loop, around, exit, cycle, return, Steps}
use Rattle.checked_tree.specs.ExpressionViews.{expression, maybe_result}
use Rattle.checked_tree.specs.StatementViews as view
use Rattle.checked_tree.specs.declared.expr.ResultVariable.{ResultVariable}
use Rattle.checked_tree.specs.declared.expr.TypedExpr.{TypedExpr}
use Rattle.checked_tree.specs.declared.statement.Case.{Case, out-Case}
use Rattle.checked_tree.specs.declared.statement.ElseIf.{ElseIf, out-ElseIf}
use Rattle.checked_tree.specs.declared.statement.StatementForm.{StatementForm}
use Rattle.checked_tree.specs.declared.statement.StatementForm.TheVariants as t
use Rattle.checked_tree.specs.declared.statement.TypedStatement.{TypedStatement}
use Rattle.image_acts.specs.Acts.{Act}
use Rattle.tree_meaning.specs.Environment.{Environment}
use Rattle.tree_meaning.specs.Expressions as meaning
use Rattle.tree_meaning.specs.Forms.{form, steps, else_ifs, cases, in_ranges}
use Rattle.tree_meaning.specs.ImageControl as control
use Rattle.tree_meaning.specs.Sequences.{doing, released}
use Rattle.expr_code.specs.Drafts.{Drafted, lines_in, written}
use Rattle.expr_code.proofs.Lines.{written_long}
use Rattle.statement_code.specs.Simple.{SimplyWritten}
use Rattle.code_maker.specs.Sizes.{SimpleSize}
use Rattle.code_maker.proofs.Blocks.{long_with}

-- a draft that had no lines has as many as the simple statement makes
pub simple_long : (f : Form Act) (l n : ℕ) (d e : Drafted) → SimplyWritten f l d e → lines_in d.body ≡ 0 → n ≡ lines_in e.body → SimpleSize f n
simple_long (simple p) l n d e h k m =
    let g = written_long l p d in
    let i : lines_in e.body ≡ lines_in (written l p d).body = ap (λ (x : Drafted). lines_in x.body) h in
    omega arith
simple_long (choose p bs) l n d e h k m = tt
simple_long (loop s i t b) l n d e h k m = tt
simple_long (around p b i q) l n d e h k m = tt
simple_long (exit i) l n d e h k m = tt
simple_long (cycle i) l n d e h k m = tt
simple_long return l n d e h k m = tt

pub ruleset long = (written_long, long_with)

abbrev pub is_simple : Form Act → Bool
is_simple (simple p) = true
is_simple (choose p bs) = false
is_simple (loop s n t b) = false
is_simple (around p b m q) = false
is_simple (exit n) = false
is_simple (cycle n) = false
is_simple return = false

pub simple_sized : (f : Form Act) (n : ℕ) → is_simple f ≡ true → SimpleSize f n → n ≡ form_size f
simple_sized (simple p) n k h = h
simple_sized (choose p bs) n k h = cc
simple_sized (loop s i t b) n k h = cc
simple_sized (around p b i q) n k h = cc
simple_sized (exit i) n k h = cc
simple_sized (cycle i) n k h = cc
simple_sized return n k h = cc

-- what is left of a list, at an item of it
pub item_drop : {A : Type 0} (xs : List A) (i : ℕ) (x : A) → x ≡ slice_index_or xs i x → i < length xs → drop i xs ≡ x ∷ drop (i + 1) xs
item_drop xs i x e h =
    let n : suc i ≡ i + 1 = omega arith in
    drop-cons xs i x h ∙ ap (λ y. y ∷ drop (suc i) xs) (sym e) ∙ ap (λ k. x ∷ drop k xs) n

-- one more ELSE IF was counted, and all of them were
pub else_ifs_on : (e : Environment) (xs : List ElseIf) (i : ℕ) (s : ElseIf) (total next n : ℕ) → s ≡ slice_index_or xs i s → i < length xs
    → n ≡ parts_size (released (meaning.expression e (expression (out-ElseIf s).condition))) + 1 + steps_size (steps e (view.statements (out-ElseIf s).body.items)) + 1 → next ≡ total + n
    → ((none : Steps Act) → branches_size (else_ifs e (view.else_ifs xs) none) ≡ total + branches_size (else_ifs e (view.else_ifs (drop i xs)) none))
    → (none : Steps Act) → branches_size (else_ifs e (view.else_ifs xs) none) ≡ next + branches_size (else_ifs e (view.else_ifs (drop (i + 1) xs)) none)
else_ifs_on e xs i s total next n is lt m k h none =
    let d = item_drop xs i s is lt in
    let g : branches_size (else_ifs e (view.else_ifs (drop i xs)) none) ≡ branches_size (else_ifs e (view.else_ifs (s ∷ drop (i + 1) xs)) none) = ap (λ ys. branches_size (else_ifs e (view.else_ifs ys) none)) d in
    let j = h none in
    omega arith

pub else_ifs_end : (e : Environment) (xs : List ElseIf) (i total : ℕ) → length xs ≤ i
    → ((none : Steps Act) → branches_size (else_ifs e (view.else_ifs xs) none) ≡ total + branches_size (else_ifs e (view.else_ifs (drop i xs)) none))
    → (none : Steps Act) → branches_size (else_ifs e (view.else_ifs xs) none) ≡ total + steps_size none
else_ifs_end e xs i total lt h none = h none ∙ ap (λ ys. total + branches_size (else_ifs e (view.else_ifs ys) none)) (drop_of_length-le xs lt)

-- the same of CASE
pub cases_on : (e : Environment) (x : ℕ) (xs : List Case) (i : ℕ) (s : Case) (total next n : ℕ) → s ≡ slice_index_or xs i s → i < length xs
    → n ≡ parts_size (doing (in_ranges x (out-Case s).ranges.items)) + 1 + steps_size (steps e (view.statements (out-Case s).body.items)) + 1 → next ≡ total + n
    → ((none : Steps Act) → branches_size (cases e x (view.cases xs) none) ≡ total + branches_size (cases e x (view.cases (drop i xs)) none))
    → (none : Steps Act) → branches_size (cases e x (view.cases xs) none) ≡ next + branches_size (cases e x (view.cases (drop (i + 1) xs)) none)
cases_on e x xs i s total next n is lt m k h none =
    let d = item_drop xs i s is lt in
    let g : branches_size (cases e x (view.cases (drop i xs)) none) ≡ branches_size (cases e x (view.cases (s ∷ drop (i + 1) xs)) none) = ap (λ ys. branches_size (cases e x (view.cases ys) none)) d in
    let j = h none in
    omega arith

pub cases_end : (e : Environment) (x : ℕ) (xs : List Case) (i total : ℕ) → length xs ≤ i
    → ((none : Steps Act) → branches_size (cases e x (view.cases xs) none) ≡ total + branches_size (cases e x (view.cases (drop i xs)) none))
    → (none : Steps Act) → branches_size (cases e x (view.cases xs) none) ≡ total + steps_size none
cases_end e x xs i total lt h none = h none ∙ ap (λ ys. total + branches_size (cases e x (view.cases ys) none)) (drop_of_length-le xs lt)

-- CHANGE TEAM
pub change_team_sized : (e : Environment) (l : ℕ) (x : StatementForm) (team : TypedExpr) (stat : Option ResultVariable) (body : Vec TypedStatement Global) (end_stat : Option ResultVariable) (m : ℕ) → x ≡ t.ChangeTeam team stat body end_stat m
    → (n a b k : ℕ) → n ≡ a + b + 1 + k → a ≡ parts_size (released (control.change_team e (expression team) (maybe_result stat))) → b ≡ steps_size (steps e (view.statements body.items)) → k ≡ parts_size (released (control.end_team e (maybe_result end_stat)))
    → n ≡ form_size (form e l (view.statement_form x))
change_team_sized e l x team stat body end_stat m is n a b k h f g i =
    h ∙ ap (λ y. y + b + 1 + k) f ∙ ap (λ y. parts_size (released (control.change_team e (expression team) (maybe_result stat))) + y + 1 + k) g
    ∙ ap (λ y. parts_size (released (control.change_team e (expression team) (maybe_result stat))) + steps_size (steps e (view.statements body.items)) + 1 + y) i
    ∙ sym (ap (λ y. form_size (form e l y)) (ap view.statement_form is ∙ view.statement_change_team team stat body end_stat m))
