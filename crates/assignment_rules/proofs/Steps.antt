-- Assignments: the rules that are broken and the statement, step by step.
use Rattle.std.proofs.Common.{◌≡◌, ℕ, Bool, true, false, List, [], ◌++◌, refl, ap, ◌∙◌}
use Rattle.std.specs.Prelude.{Option, Some, None, cond, not, ◌||◌}
use Rattle.caf_base.specs.declared.place.Pos.{Pos}
use Rattle.checked_tree.specs.Expressions as t
use Rattle.checked_tree.specs.Statements as ts
use Rattle.rule_definitions.specs.declared.broken.Broken.{Broken}
use Rattle.rule_definitions.specs.Actions.{Site, assigned_breaks, assignment, form_judged, is_definable, is_listed_value, target_breaks}
use Rattle.rule_definitions.specs.Judgements.{Judgement, is_nothing, unless}
use Rattle.rule_definitions.specs.Parts.{Placed}
use Rattle.assignment_rules.specs.Assignments.{assigned_to, assignment_form, is_target, joined_sides}

judged_form_breaks : (o : Option ts.StatementForm) (bs : List Broken) → (form_judged o).breaks ++ bs ≡ bs
judged_form_breaks None bs = refl
judged_form_breaks (Some x) bs = refl

judged_form_means : (o : Option ts.StatementForm) → (form_judged o).meaning ≡ o
judged_form_means None = refl
judged_form_means (Some x) = refl

pub assigned_says : (s : Site) (p q : Pos) (m : t.Expression × t.Expression) → (assigned_to s p q m).breaks ≡ assigned_breaks s p q m.0 m.1
assigned_says s p q m = judged_form_breaks (assignment_form m.0 m.1) (assigned_breaks s p q m.0 m.1)

pub assigned_means : (s : Site) (p q : Pos) (m : t.Expression × t.Expression) → (assigned_to s p q m).meaning ≡ cond (is_nothing (assigned_breaks s p q m.0 m.1)) (assignment_form m.0 m.1) None
assigned_means s p q m = ap (λ o. cond (is_nothing (assigned_breaks s p q m.0 m.1)) o None) (judged_form_means (assignment_form m.0 m.1))

abbrev nothing_broken : List Broken
nothing_broken = []

no_break : (b : Bool) → cond b nothing_broken nothing_broken ≡ nothing_broken
no_break true = refl
no_break false = refl

one_break : (a b : Bool) (r : ℕ) (p : Pos) → cond a (unless b r p) [] ≡ unless (not a || b) r p
one_break true b r p = refl
one_break false b r p = refl

unless_holds : (b : Bool) (r : ℕ) (p : Pos) → is_nothing (unless b r p) ≡ b
unless_holds true r p = refl
unless_holds false r p = refl

target_said : (s : Site) (p : Pos) (v : Placed) (x : Option t.Expression) → target_breaks s p v x ≡ unless (is_target s x v.judged) 32 p
target_said s p v None = no_break (is_nothing v.judged.breaks)
target_said s p v (Some x) = one_break (is_nothing v.judged.breaks) (is_definable s x || is_listed_value v.judged.meaning) 32 p

pub assignment_breaks : (s : Site) (x : Judgement t.Expression) (p : Pos) (v : Placed) → (assignment s x p v).breaks ≡ (joined_sides s x p v).breaks ++ unless (is_target s x.meaning v.judged) 32 p
assignment_breaks s x p v = ap (λ bs. (joined_sides s x p v).breaks ++ bs) (target_said s p v x.meaning)

pub assignment_meaning : (s : Site) (x : Judgement t.Expression) (p : Pos) (v : Placed) → (assignment s x p v).meaning ≡ cond (is_target s x.meaning v.judged) (joined_sides s x p v).meaning None
assignment_meaning s x p v =
    ap (λ b. cond b (joined_sides s x p v).meaning None) (ap is_nothing (target_said s p v x.meaning) ∙ unless_holds (is_target s x.meaning v.judged) 32 p)

-- the same of what was found of the two sides

abbrev found : List Broken → Option t.Expression → Judgement t.Expression
found bs o = record { breaks = bs; meaning = o }

pub breaks_given : (s : Site) (x y : Judgement t.Expression) (p : Pos) (v w : Placed) → y.breaks ≡ x.breaks → y.meaning ≡ x.meaning → w ≡ v → (assignment s y p w).breaks ≡ (assignment s x p v).breaks
breaks_given s x y p v w e f g =
    ap (λ bs. (assignment s (found bs y.meaning) p w).breaks) e ∙ ap (λ o. (assignment s (found x.breaks o) p w).breaks) f ∙ ap (λ u. (assignment s x p u).breaks) g

pub meaning_given : (s : Site) (x y : Judgement t.Expression) (p : Pos) (v w : Placed) → y.breaks ≡ x.breaks → y.meaning ≡ x.meaning → w ≡ v → (assignment s y p w).meaning ≡ (assignment s x p v).meaning
meaning_given s x y p v w e f g =
    ap (λ bs. (assignment s (found bs y.meaning) p w).meaning) e ∙ ap (λ o. (assignment s (found x.breaks o) p w).meaning) f ∙ ap (λ u. (assignment s x p u).meaning) g
