-- What is written of the parts of constructs.
use Rattle.std.proofs.Common.{◌≡◌, ℕ, ◌+◌, ◌<◌, ◌≤◌, List, length, drop, slice_index_or, ◌∙◌, ap, ap₂, sym}
use Rattle.std.proofs.Math.ListN.{drop_of_length-le}
use Rattle.std.specs.Prelude.{Option}
use Rattle.std.specs.declared.alloc.Global.{Global}
use Rattle.std.specs.declared.vec.Vec.{Vec}
use Rattle.walk_theory.specs.Code.{on, count_one}
use Rattle.walk_theory.specs.Made.{Places}
use Rattle.walk_theory.specs.Syntax.{Steps}
use Rattle.checked_tree.specs.ExpressionViews.{expression, maybe_result}
use Rattle.checked_tree.specs.StatementViews as view
use Rattle.checked_tree.specs.declared.expr.ResultVariable.{ResultVariable}
use Rattle.checked_tree.specs.declared.expr.TypedExpr.{TypedExpr}
use Rattle.checked_tree.specs.declared.statement.Case.{Case, out-Case}
use Rattle.checked_tree.specs.declared.statement.CaseRange.{CaseRange}
use Rattle.checked_tree.specs.declared.statement.ElseIf.{ElseIf, out-ElseIf}
use Rattle.checked_tree.specs.declared.statement.StatementForm.{StatementForm}
use Rattle.checked_tree.specs.declared.statement.StatementForm.TheVariants as t
use Rattle.checked_tree.specs.declared.statement.TypedStatement.{TypedStatement}
use Rattle.image_acts.specs.Acts.{Act}
use Rattle.tree_meaning.specs.Environment.{Environment}
use Rattle.tree_meaning.specs.Expressions as meaning
use Rattle.tree_meaning.specs.Forms.{form, steps, else_ifs, cases, in_ranges}
use Rattle.tree_meaning.specs.ImageControl as control
use Rattle.tree_meaning.specs.Sequences.{doing, released}
use Rattle.expr_code.specs.Drafts.{Drafted, with_line, written}
use Rattle.code_maker.specs.Blocks.{steps_written, form_written, branches_written, branch_written}
use Rattle.code_maker.proofs.Sizes.{item_drop}

module _ (e : Environment) (xs : List Places) where
  -- one more statement is written
  pub steps_go_on : (ss : List TypedStatement) (i : ℕ) (s : TypedStatement) (d d1 d2 w : Drafted) → s ≡ slice_index_or ss i s → i < length ss
      → d1 ≡ with_line (on s.line count_one) d → d2 ≡ form_written xs s.line (form e s.line (view.statement_form s.form)) d1
      → steps_written xs (steps e (view.statements (drop i ss))) d ≡ w → steps_written xs (steps e (view.statements (drop (i + 1) ss))) d2 ≡ w
  steps_go_on ss i s d d1 d2 w is lt f g h =
      ap (λ y. steps_written xs (steps e (view.statements (drop (i + 1) ss))) y) (g ∙ ap (λ y. form_written xs s.line (form e s.line (view.statement_form s.form)) y) f)
      ∙ ap (λ ys. steps_written xs (steps e (view.statements ys)) d) (sym (item_drop ss i s is lt))
      ∙ h

module _ (e : Environment) (xs : List Places) (behind : ℕ) where
  -- one more ELSE IF is written, and all of them are
  pub else_ifs_go_on : (bs : List ElseIf) (i : ℕ) (s : ElseIf) (ys : List TypedStatement) (d d0 d1 d2 : Drafted) → ys ≡ (out-ElseIf s).body.items → s ≡ slice_index_or bs i s → i < length bs
      → d1 ≡ written (out-ElseIf s).line (released (meaning.expression e (expression (out-ElseIf s).condition))) d
      → d2 ≡ branch_written xs behind (out-ElseIf s).line (steps e (view.statements ys)) d1
      → ((none : Steps Act) → branches_written xs behind (else_ifs e (view.else_ifs bs) none) d0 ≡ branches_written xs behind (else_ifs e (view.else_ifs (drop i bs)) none) d)
      → (none : Steps Act) → branches_written xs behind (else_ifs e (view.else_ifs bs) none) d0 ≡ branches_written xs behind (else_ifs e (view.else_ifs (drop (i + 1) bs)) none) d2
  else_ifs_go_on bs i s ys d d0 d1 d2 k is lt f g h none =
      h none
      ∙ ap (λ ys. branches_written xs behind (else_ifs e (view.else_ifs ys) none) d) (item_drop bs i s is lt)
      ∙ ap (λ y. branches_written xs behind (else_ifs e (view.else_ifs (drop (i + 1) bs)) none) y) (sym (g ∙ ap₂ (λ zs y. branch_written xs behind (out-ElseIf s).line (steps e (view.statements zs)) y) k f))

  pub else_ifs_all : (bs : List ElseIf) (i : ℕ) (d d0 : Drafted) → length bs ≤ i
      → ((none : Steps Act) → branches_written xs behind (else_ifs e (view.else_ifs bs) none) d0 ≡ branches_written xs behind (else_ifs e (view.else_ifs (drop i bs)) none) d)
      → (none : Steps Act) → branches_written xs behind (else_ifs e (view.else_ifs bs) none) d0 ≡ steps_written xs none d
  else_ifs_all bs i d d0 lt h none = h none ∙ ap (λ ys. branches_written xs behind (else_ifs e (view.else_ifs ys) none) d) (drop_of_length-le bs lt)

  -- the same of CASE
  pub cases_go_on : (x : ℕ) (bs : List Case) (i : ℕ) (s : Case) (rs : List CaseRange) (ys : List TypedStatement) (d d0 d1 d2 : Drafted) → rs ≡ (out-Case s).ranges.items → ys ≡ (out-Case s).body.items → s ≡ slice_index_or bs i s → i < length bs
      → d1 ≡ written (out-Case s).line (doing (in_ranges x rs)) d
      → d2 ≡ branch_written xs behind (out-Case s).line (steps e (view.statements ys)) d1
      → ((none : Steps Act) → branches_written xs behind (cases e x (view.cases bs) none) d0 ≡ branches_written xs behind (cases e x (view.cases (drop i bs)) none) d)
      → (none : Steps Act) → branches_written xs behind (cases e x (view.cases bs) none) d0 ≡ branches_written xs behind (cases e x (view.cases (drop (i + 1) bs)) none) d2
  cases_go_on x bs i s rs ys d d0 d1 d2 j k is lt f g h none =
      h none
      ∙ ap (λ ys. branches_written xs behind (cases e x (view.cases ys) none) d) (item_drop bs i s is lt)
      ∙ ap (λ y. branches_written xs behind (cases e x (view.cases (drop (i + 1) bs)) none) y) (sym (g ∙ ap₂ (λ zs y. branch_written xs behind (out-Case s).line (steps e (view.statements zs)) y) k (f ∙ ap (λ zs. written (out-Case s).line (doing (in_ranges x zs)) d) j)))

  pub cases_all : (x : ℕ) (bs : List Case) (i : ℕ) (d d0 : Drafted) → length bs ≤ i
      → ((none : Steps Act) → branches_written xs behind (cases e x (view.cases bs) none) d0 ≡ branches_written xs behind (cases e x (view.cases (drop i bs)) none) d)
      → (none : Steps Act) → branches_written xs behind (cases e x (view.cases bs) none) d0 ≡ steps_written xs none d
  cases_all x bs i d d0 lt h none = h none ∙ ap (λ ys. branches_written xs behind (cases e x (view.cases ys) none) d) (drop_of_length-le bs lt)

-- CHANGE TEAM
pub change_team_written : (e : Environment) (xs : List Places) (l : ℕ) (x : StatementForm) (team : TypedExpr) (stat : Option ResultVariable) (body : Vec TypedStatement Global) (end_stat : Option ResultVariable) (m : ℕ) (ys : List TypedStatement) → ys ≡ body.items → x ≡ t.ChangeTeam team stat body end_stat m
    → (d0 d1 d2 d3 d4 : Drafted) → d1 ≡ written l (released (control.change_team e (expression team) (maybe_result stat))) d0 → d2 ≡ steps_written xs (steps e (view.statements ys)) d1 → d3 ≡ with_line (on m count_one) d2
    → d4 ≡ written m (released (control.end_team e (maybe_result end_stat))) d3 → d4 ≡ form_written xs l (form e l (view.statement_form x)) d0
change_team_written e xs l x team stat body end_stat m ys j is d0 d1 d2 d3 d4 f g h k =
    k ∙ ap (λ y. written m (released (control.end_team e (maybe_result end_stat))) y) (h ∙ ap (λ y. with_line (on m count_one) y) (g ∙ ap₂ (λ zs y. steps_written xs (steps e (view.statements zs)) y) j f))
    ∙ sym (ap (λ y. form_written xs l (form e l y) d0) (ap view.statement_form is ∙ view.statement_change_team team stat body end_stat m))
