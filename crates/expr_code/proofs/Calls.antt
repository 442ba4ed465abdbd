-- Calls as the code of them is made.
use Rattle.std.proofs.Common.{◌≡◌, ◌≢◌, ℕ, zero, suc, ◌+◌, ◌++◌, List, [], ◌∷◌, ◌≤◌, drop, length, refl, ap, sym, ◌∙◌, arith, append-nil}
use Rattle.std.proofs.Math.ListN.{drop_of_length-le}
use Rattle.std.specs.Prelude.{Bool, true, false, ◌==◌, Option, Some, None, slice_get, slice_index_or, map}
use Rattle.checked_tree.specs.declared.data.Variable.{Variable}
use Rattle.image_acts.specs.Acts.{Act}
use Rattle.image_acts.specs.Acts as a
use Rattle.tree_meaning.specs.Environment.{rank_of, rank_in}
use Rattle.tree_meaning.specs.Sequences.{doing}
use Rattle.tree_meaning.specs.Expressions.{Passed, copying_out_one, passed}
use Rattle.checked_tree.specs.Expressions as t
use Rattle.checked_tree.specs.declared.program.Dummy.{Dummy}
use Rattle.checked_tree.specs.declared.expr.Argument.{Argument}
use Rattle.checked_tree.specs.ExpressionViews as view
use Rattle.checked_tree.specs.StatementViews as statements
use Rattle.checked_tree.specs.declared.program.Procedure.{Procedure as ProcedureType}
use Rattle.expr_code.specs.Drafts.{Drafted, written}
use Rattle.expr_code.specs.Procedures.{no_procedure, procedure_found}

-- the rank of the variable that is there, if one is
abbrev pub rank_found : Option Variable → ℕ
rank_found None = 0
rank_found (Some v) = rank_of v.dimensions

pub rank_at : (vs : List Variable) (n : ℕ) → rank_in vs n ≡ rank_found (slice_get vs n)
rank_at [] n = refl
rank_at (v ∷ vs) zero = refl
rank_at (v ∷ vs) (suc n) = rank_at vs n

-- acts in two lots
pub written_acts : (xs ys : List Act) (l : ℕ) (d : Drafted) → written l (doing (xs ++ ys)) d ≡ written l (doing ys) (written l (doing xs) d)
written_acts [] ys l d = refl
written_acts (x ∷ xs) ys l d = written_acts xs ys l _

pub one_more : (n k : ℕ) → k ≡ n + 1 → k ≡ suc n
one_more n k h = omega arith

pub array_out : (r x : ℕ) → r ≢ 0 → copying_out_one r x ≡ doing (Act.call (a.copy_out x) ∷ [])
array_out zero x h = absurd (h refl)
array_out (suc r) x h = refl

pub procedure_at : (ps : List ProcedureType) (n : ℕ) → slice_index_or (map statements.procedure ps) n no_procedure ≡ procedure_found (slice_get ps n)
procedure_at [] n = refl
procedure_at (p ∷ ps) zero = refl
procedure_at (p ∷ ps) (suc n) = procedure_at ps n

-- without arguments none is passed
pub none_passed : (vs : List Variable) (ds : List Dummy) → passed vs ds t.no_arguments ≡ []
none_passed vs [] = refl
none_passed vs (d ∷ ds) = refl

-- where no argument is left, all are passed
pub passed_all : (done : List Passed) (vs : List Variable) (ds : List Dummy) (n i : ℕ) (es : List Argument) (whole : List Passed) → done ++ passed vs (drop n ds) (view.arguments (drop i es)) ≡ whole → length es ≤ i → done ≡ whole
passed_all done vs ds n i es whole h k =
    let e : drop i es ≡ [] = drop_of_length-le es k in
    let f : passed vs (drop n ds) (view.arguments (drop i es)) ≡ [] = ap (λ x. passed vs (drop n ds) (view.arguments x)) e ∙ none_passed vs (drop n ds) in
    sym (append-nil done) ∙ ap (λ x. done ++ x) (sym f) ∙ h
