-- The blocks of a SELECT so far, with those that follow, are all.
use Rattle.std.proofs.Common.{◌≡◌, ◌∙◌, ℕ, ◌+◌, ◌<◌, ◌≤◌, List, [], ◌∷◌, ◌++◌, length, drop, slice_index_or, refl, sym, ap}
use Rattle.std.proofs.lemmas.List.{append-nil, drop_all}
use Rattle.std.specs.Prelude.{Option, Some, None}
use Rattle.std.specs.Option.{option_map}
use Rattle.std.specs.declared.alloc.Global.{Global}
use Rattle.std.specs.declared.vec.Vec.{Vec}
use Rattle.checked_tree.specs.Expressions as t
use Rattle.checked_tree.specs.declared.statement.Case.{Case}
use Rattle.fortran_tree.specs.StatementViews.{case_selector, case_blocks, statement_list}
use Rattle.fortran_tree.specs.declared.statement.CaseBlock.{CaseBlock}
use Rattle.part_rules.specs.Views.{judgement, list_of}
use Rattle.part_rules.specs.declared.judged.Judged.{Judged}
use Rattle.rule_definitions.specs.Judgements.{Judgement, fine, made, is_there}
use Rattle.rule_definitions.specs.Statements.{Position, Selected, no_selected, past, judged_cases, judged_statements, counted_cases, counted_statements, case_joined, behind_case}
use Rattle.case_rules.specs.Blocks.{backwards, known, joined_cases, selection, with_cases, with_otherwise, whole}
use Rattle.statement_rules.specs.Parts.{no_cases_known}
use Rattle.statement_rules.specs.Positions.{numbered, numbers, numbers_past}
use Rattle.statement_rules.specs.declared.position.Numbers.{Numbers}
use Rattle.case_rules.specs.declared.selection.CaseList.{CaseList}
use Rattle.case_rules.specs.declared.selection.Selection.{Selection}
use Rattle.case_rules.proofs.Blocks.{alike}
use Rattle.statement_rules.proofs.Laws.{no_cases_judged, more_cases_judged}
use Rattle.statement_rules.proofs.Sequences.{past_both, past_nothing}
use Rattle.case_rules.proofs.Turns.{item_drop}

-- no blocks so far
abbrev joined_list : Option (List Case) → Option Selected → Option Selected
joined_list None r = None
joined_list (Some cs) r = made (with_cases cs) r

joined_is : (o : Option (Vec Case Global)) (r : Option Selected) → joined_cases o r ≡ joined_list (option_map list_of o) r
joined_is None r = refl
joined_is (Some v) r = refl

with_none : (r : Option Selected) → made (with_cases []) r ≡ r
with_none None = refl
with_none (Some x) = refl

joined_none_so_far : (o : Option (Vec Case Global)) (r : Option Selected) → option_map list_of o ≡ Some [] → joined_cases o r ≡ r
joined_none_so_far o r e = joined_is o r ∙ ap (λ p. joined_list p r) e ∙ with_none r

pub whole_new : (x : CaseList) → x.breaks.items ≡ [] → option_map list_of x.cases ≡ Some [] → x.otherwise ≡ None → x.repeated.items ≡ [] → (r : Judgement Selected) → whole x r ≡ r
whole_new x bs cs o rs r =
    alike _ _ _ _
    (ap (λ y. (y ++ r.breaks) ++ backwards x.repeated.items) bs ∙ ap (λ y. r.breaks ++ backwards y) rs ∙ append-nil r.breaks)
    (ap (λ y. joined_cases x.cases (with_otherwise y r.meaning)) o ∙ joined_none_so_far x.cases r.meaning cs)

pub known_new : (e : Option t.Expression) (x : CaseList) → x.otherwise ≡ None → x.ranges ≡ [] → known e x ≡ no_cases_known e
known_new e x o rs =
    ap (λ ys. record { selector = e; ranges = ys; has_default = is_there x.otherwise }) rs
    ∙ ap (λ p. record { selector = e; ranges = []; has_default = is_there p }) o

abbrev pub CasesSoFar : Position → CaseList → Numbers → Option t.Expression → List CaseBlock → List CaseBlock → Type 0
CasesSoFar x list n e rest all = record {
  judged : whole list (judged_cases (numbered x n) (known e list) (case_blocks rest)) ≡ judged_cases x (no_cases_known e) (case_blocks all);
  behind : numbers_past (numbered x n) (counted_cases (case_blocks rest)) ≡ numbers_past x (counted_cases (case_blocks all));
}

pub cases_begin : (x : Position) (list : CaseList) (n : Numbers) (e : Option t.Expression) (all : List CaseBlock)
    → list.breaks.items ≡ [] → option_map list_of list.cases ≡ Some [] → list.otherwise ≡ None → list.ranges ≡ [] → list.repeated.items ≡ [] → n ≡ numbers x
    → CasesSoFar x list n e all all
cases_begin x list n e all bs cs o rs again f = record {
  judged = whole_new list bs cs o again (judged_cases (numbered x n) (known e list) (case_blocks all))
      ∙ ap (λ m. judged_cases (numbered x m) (known e list) (case_blocks all)) f
      ∙ ap (λ k. judged_cases x k (case_blocks all)) (known_new e list o rs);
  behind = ap (λ m. numbers_past (numbered x m) (counted_cases (case_blocks all))) f;
}

-- one more block, that stands at y
pub cases_go_on : (x y : Position) (list new : CaseList) (n m : Numbers) (e : Option t.Expression) (all : List CaseBlock) (i : ℕ) (s : CaseBlock)
    → s ≡ slice_index_or all i s → i < length all → y ≡ numbered x n
    → ((r : Judgement Selected) → whole new r ≡ whole list (case_joined y.scope (known e list) (case_selector s.selector) s.at (judged_statements y (statement_list s.body.items)) r))
    → known e new ≡ behind_case y.scope (known e list) (case_selector s.selector)
    → m ≡ numbers_past y (counted_statements (statement_list s.body.items))
    → CasesSoFar x list n e (drop i all) all → CasesSoFar x new m e (drop (i + 1) all) all
cases_go_on x y list new n m e all i s is lt at_y adds knows counts sofar =
    let rest = drop (i + 1) all in
    let z = numbered x n in
    let k = known e list in
    let c = case_selector s.selector in
    let body = statement_list s.body.items in
    let d : drop i all ≡ s ∷ rest = item_drop all i s is lt in
    let b : m ≡ numbers_past z (counted_statements body) = counts ∙ ap (λ p. numbers_past p (counted_statements body)) at_y in
    let k' : known e new ≡ behind_case x.scope k c = knows ∙ ap (λ (p : Position). behind_case p.scope k c) at_y in
    let j = judged_cases (numbered x m) (known e new) (case_blocks rest) in
    let after : j ≡ judged_cases (past z (counted_statements body)) (behind_case x.scope k c) (case_blocks rest)
    = ap (λ p. judged_cases (numbered x p) (known e new) (case_blocks rest)) b ∙ ap (λ q. judged_cases (past z (counted_statements body)) q (case_blocks rest)) k' in
    record {
      judged = adds j
          ∙ ap (λ (p : Position). whole list (case_joined p.scope k c s.at (judged_statements p body) j)) at_y
          ∙ ap (λ r. whole list (case_joined x.scope k c s.at (judged_statements z body) r)) after
          ∙ ap (whole list) (sym (more_cases_judged z k c body s.at (case_blocks rest)))
          ∙ ap (λ bs. whole list (judged_cases z k (case_blocks bs))) (sym d)
          ∙ sofar.judged;
      behind = ap (λ p. numbers_past (numbered x p) (counted_cases (case_blocks rest))) b
          ∙ past_both z (counted_statements body) (counted_cases (case_blocks rest))
          ∙ ap (λ bs. numbers_past z (counted_cases (case_blocks bs))) (sym d)
          ∙ sofar.behind;
    }

pub cases_end_judged : (x : Position) (list : CaseList) (n : Numbers) (e : Option t.Expression) (all : List CaseBlock) (i : ℕ) (j : Judged Selection) → length all ≤ i
    → j.breaks.items ≡ (whole list (fine no_selected)).breaks → option_map selection j.meaning ≡ (whole list (fine no_selected)).meaning
    → CasesSoFar x list n e (drop i all) all → judgement selection j ≡ judged_cases x (no_cases_known e) (case_blocks all)
cases_end_judged x list n e all i j le bs m sofar =
    alike _ _ _ _ bs m
    ∙ ap (whole list) (sym (no_cases_judged (numbered x n) (known e list)))
    ∙ ap (λ cs. whole list (judged_cases (numbered x n) (known e list) (case_blocks cs))) (sym (drop_all i all le))
    ∙ sofar.judged

pub cases_end_behind : (x : Position) (list : CaseList) (n : Numbers) (e : Option t.Expression) (all : List CaseBlock) (i : ℕ) → length all ≤ i
    → CasesSoFar x list n e (drop i all) all → n ≡ numbers_past x (counted_cases (case_blocks all))
cases_end_behind x list n e all i le sofar =
    sym (past_nothing (numbered x n)) ∙ ap (λ cs. numbers_past (numbered x n) (counted_cases (case_blocks cs))) (sym (drop_all i all le)) ∙ sofar.behind
