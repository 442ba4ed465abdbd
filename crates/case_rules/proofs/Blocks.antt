-- Blocks with those that follow.
use Rattle.std.proofs.Common.{◌≡◌, ◌∙◌, ℕ, List, [], ◌∷◌, ◌++◌, Bool, true, refl, ap, sym}
use Rattle.std.proofs.lemmas.List.{append_assoc, append-nil}
use Rattle.std.specs.Prelude.{Option, Some, None, not, cond}
use Rattle.std.specs.Option.{option_map}
use Rattle.std.specs.declared.alloc.Global.{Global}
use Rattle.std.specs.declared.vec.Vec.{Vec}
use Rattle.caf_base.specs.declared.place.Pos.{Pos}
use Rattle.checked_tree.specs.Statements as ts
use Rattle.checked_tree.specs.StatementViews.{cases, typed_statement_forms}
use Rattle.checked_tree.specs.declared.statement.Case.{Case, out-roll-Case}
use Rattle.checked_tree.specs.declared.statement.CaseRange.{CaseRange}
use Rattle.checked_tree.specs.declared.statement.ElseIf.{out-roll-ElseIf}
use Rattle.checked_tree.specs.declared.statement.TypedStatement.{TypedStatement}
use Rattle.rule_definitions.specs.declared.broken.Broken.{Broken}
use Rattle.rule_definitions.specs.Judgements.{Judgement, both, three, made, is_there}
use Rattle.rule_definitions.specs.Statements.{Selected, no_selected, with_case, with_default}
use Rattle.case_rules.specs.Blocks.{block, cases_before, with_cases, with_otherwise, joined_cases, backwards}

-- a judgement by its parts
abbrev pub found : {T : Type 0} → List Broken → Option T → Judgement T
found bs m = record { breaks = bs; meaning = m }

pub alike : {T : Type 0} (bs cs : List Broken) (m n : Option T) → bs ≡ cs → m ≡ n → found bs m ≡ found cs n
alike bs cs m n e f = ap (λ x. found x m) e ∙ ap (found cs) f

pub backwards_more : (bs : List Broken) (b : Broken) → backwards (bs ++ b ∷ []) ≡ b ∷ backwards bs
backwards_more [] b = refl
backwards_more (x ∷ bs) b = ap (λ xs. xs ++ x ∷ []) (backwards_more bs b)

pub cases_before_more : (cs : List Case) (c : Case) (r : ts.Cases) → cases_before (cs ++ c ∷ []) r ≡ cases_before cs (cases_before (c ∷ []) r)
cases_before_more [] c r = refl
cases_before_more (x ∷ cs) c r = ap (cases_before (x ∷ [])) (cases_before_more cs c r)

pub cases_alone : (cs : List Case) → cases_before cs ts.no_cases ≡ cases cs
cases_alone [] = refl
cases_alone (c ∷ cs) = ap (cases_before (c ∷ [])) (cases_alone cs)

pub joined_none : (o : Option (Vec Case Global)) → joined_cases o None ≡ None
joined_none None = refl
joined_none (Some v) = refl

with_more : (cs : List Case) (c : Case) (x : Selected) → with_cases (cs ++ c ∷ []) x ≡ with_cases cs (with_cases (c ∷ []) x)
with_more cs c x = ap (λ y. record { cases = y; otherwise = x.otherwise }) (cases_before_more cs c x.cases)

-- a block behind those so far
pub pushed : (v w : Vec Case Global) (c : Case) (r : Option Selected) → w.items ≡ v.items ++ c ∷ [] → joined_cases (Some w) r ≡ joined_cases (Some v) (made (with_cases (c ∷ [])) r)
pushed v w c None e = refl
pushed v w c (Some x) e = ap Some (ap (λ cs. with_cases cs x) e ∙ with_more v.items c x)

pub made_alike : (f g : Selected → Selected) (r : Option Selected) → ((x : Selected) → f x ≡ g x) → made f r ≡ made g r
made_alike f g None e = refl
made_alike f g (Some x) e = ap Some (e x)

pub three_made : {A B : Type 0} (f : A → B → Selected → Selected) (x : A) (y : B) (r : Option Selected) → three f (Some x) (Some y) r ≡ made (f x y) r
three_made f x y None = refl
three_made f x y (Some r) = refl

-- CASE DEFAULT before the other blocks or behind them
pub commuted : (l : ℕ) (rs : Option (List CaseRange)) (body : Option ts.Statements) (o : Option (Option (Vec TypedStatement Global))) (r : Option Selected)
    → three (with_case l) rs body (with_otherwise o r) ≡ with_otherwise o (three (with_case l) rs body r)
commuted l rs body None r = refl
commuted l None body (Some None) r = refl
commuted l (Some rs) None (Some None) r = refl
commuted l (Some rs) (Some body) (Some None) r = refl
commuted l None body (Some (Some b)) r = refl
commuted l (Some rs) None (Some (Some b)) r = refl
commuted l (Some rs) (Some body) (Some (Some b)) None = refl
commuted l (Some rs) (Some body) (Some (Some b)) (Some x) = refl

pub otherwise_none : (o : Option (Option (Vec TypedStatement Global))) → with_otherwise o None ≡ None
otherwise_none None = refl
otherwise_none (Some None) = refl
otherwise_none (Some (Some b)) = refl

-- what breaks in a second CASE DEFAULT stands behind what breaks in the blocks that follow
pub second_breaks : (before body rest after : List Broken) (b : Broken) → ((before ++ body) ++ rest) ++ backwards (after ++ b ∷ []) ≡ (before ++ ((body ++ rest) ++ b ∷ [])) ++ backwards after
second_breaks before body rest after b =
    ap (λ x. ((before ++ body) ++ rest) ++ x) (backwards_more after b)
    ∙ append_assoc (before ++ body) rest (b ∷ backwards after)
    ∙ append_assoc before body (rest ++ b ∷ backwards after)
    ∙ ap (λ x. before ++ x) (sym (append_assoc body rest (b ∷ backwards after)) ∙ sym (append_assoc (body ++ rest) (b ∷ []) (backwards after)))
    ∙ sym (append_assoc before ((body ++ rest) ++ b ∷ []) (backwards after))

pub first_breaks : (before body rest after : List Broken) → ((before ++ body) ++ rest) ++ after ≡ (before ++ ((body ++ rest) ++ [])) ++ after
first_breaks before body rest after = ap (λ x. x ++ after) (append_assoc before body rest ∙ ap (λ x. before ++ x) (sym (append-nil (body ++ rest))))

pub ranges_breaks : (before ranges body rest after : List Broken) → (((before ++ ranges) ++ body) ++ rest) ++ after ≡ (before ++ (ranges ++ (body ++ rest))) ++ after
ranges_breaks before ranges body rest after =
    ap (λ x. x ++ after) (append_assoc (before ++ ranges) body rest ∙ append_assoc before ranges (body ++ rest))

pub ruleset block_laws = (typed_statement_forms, out-roll-Case, out-roll-ElseIf, joined_none, cases_alone, pushed, three_made)
