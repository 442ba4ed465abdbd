-- Names of procedures, with what stands behind them.
use Rattle.std.proofs.Common.{◌≡◌, ◌<◌, ◌≤◌, refl, ap, ◌∙◌, arith}
use Rattle.std.specs.Prelude.{ℕ, Bool, true, false, not, cond, ◌||◌, ◌&&◌, List, [], ◌∷◌, ◌++◌, Option, Some, None, length}
use Rattle.std.proofs.lemmas.List.{append-nil}
use Rattle.caf_base.specs.declared.place.Pos.{Pos}
use Rattle.fortran_tree.specs.Expressions as f
use Rattle.fortran_tree.specs.ExpressionViews.{designator, designator_is, expressions, image_selector, image_selector_is, maybe_image_selector, section_subscripts, specifiers}
use Rattle.fortran_tree.specs.declared.name.Name.{Name}
use Rattle.fortran_tree.specs.declared.expr.Designator.{Designator, out-Designator}
use Rattle.fortran_tree.specs.declared.expr.Selector.{Selector, out-Selector}
use Rattle.fortran_tree.specs.declared.expr.Subscript.{Subscript}
use Rattle.checked_tree.specs.Expressions as t
use Rattle.rule_definitions.specs.declared.broken.Broken.{Broken}
use Rattle.rule_definitions.specs.Arguments.{Actual, breaks_in_all}
use Rattle.rule_definitions.specs.Expressions.{WrittenSelector, function_named, names_procedure, referenced, subroutine_named, unselected}
use Rattle.rule_definitions.specs.Judgements.{Judgement, breaks, is_nothing, is_there, made_of_both, refused, ruled, unknown, unless}
use Rattle.rule_definitions.specs.Names.{Meaning, Scope, denotes, is_procedure}
use Rattle.part_rules.proofs.Nothing.{nothing_in_both}
use Rattle.expr_rules.specs.Selections.{breaks_of_subroutine, unselected_by}

-- bare names

bare : (s : Scope) (n : Name) (xs : List Subscript) (o : Option Selector) → length xs < 1 → o ≡ None
    → names_procedure s (f.designator (f.part_ref n (section_subscripts xs) (maybe_image_selector o))) ≡ is_procedure (denotes s n.text)
bare s n [] None h e = refl
bare s n [] (Some c) h e = absurd (cc)
bare s n (x ∷ xs) o h e = absurd (omega (arith, h))

subscripted : (s : Scope) (n : Name) (xs : List Subscript) (o : Option Selector) → 1 ≤ length xs
    → names_procedure s (f.designator (f.part_ref n (section_subscripts xs) (maybe_image_selector o))) ≡ false
subscripted s n [] o h = absurd (omega (arith, h))
subscripted s n (x ∷ xs) o h = refl

coindexed : (s : Scope) (n : Name) (xs : List Subscript) (c : Selector)
    → names_procedure s (f.designator (f.part_ref n (section_subscripts xs) (image_selector c))) ≡ false
coindexed s n xs c = ap (λ k. names_procedure s (f.designator (f.part_ref n (section_subscripts xs) k))) (image_selector_is c) ∙ with_selector xs
  where
    with_selector : (xs : List Subscript) → names_procedure s (f.designator (f.part_ref n (section_subscripts xs) (f.image_selector (expressions (out-Selector c).cosubscripts.items) (specifiers (out-Selector c).specifiers.items)))) ≡ false
    with_selector [] = refl
    with_selector (x ∷ xs) = refl

pub bare_name : (s : Scope) (d : Designator) → length (out-Designator d).subscripts.items < 1 → (out-Designator d).selector ≡ None
    → names_procedure s (f.designator (designator d)) ≡ is_procedure (denotes s (out-Designator d).name.text)
bare_name s d h e =
    ap (λ x. names_procedure s (f.designator x)) (designator_is d)
    ∙ bare s (out-Designator d).name (out-Designator d).subscripts.items (out-Designator d).selector h e

pub subscripted_name : (s : Scope) (d : Designator) → 1 ≤ length (out-Designator d).subscripts.items → names_procedure s (f.designator (designator d)) ≡ false
subscripted_name s d h =
    ap (λ x. names_procedure s (f.designator x)) (designator_is d)
    ∙ subscripted s (out-Designator d).name (out-Designator d).subscripts.items (out-Designator d).selector h

pub coindexed_name : (s : Scope) (d : Designator) (c : Selector) → (out-Designator d).selector ≡ Some c → names_procedure s (f.designator (designator d)) ≡ false
coindexed_name s d c e =
    ap (λ x. names_procedure s (f.designator x)) (designator_is d)
    ∙ ap (λ o. names_procedure s (f.designator (f.part_ref (out-Designator d).name (section_subscripts (out-Designator d).subscripts.items) (maybe_image_selector o)))) e
    ∙ coindexed s (out-Designator d).name (out-Designator d).subscripts.items c

pub ruleset bare_laws = (bare_name, subscripted_name, coindexed_name)

-- functions

pub with_brackets : (s : Scope) (m : Meaning) (p : Pos) (ss : List Actual) (c : WrittenSelector) → 0 < length ss → function_named s m p ss c ≡ referenced s (Some m) p ss
with_brackets s m p [] c h = absurd (omega (arith, h))
with_brackets s m p (a ∷ ss) c h = refl

pub without_brackets : (s : Scope) (m : Meaning) (p : Pos) (ss : List Actual) (c : WrittenSelector) → length ss ≤ 0
    → function_named s m p ss c ≡ cond (is_nothing c.judged.breaks) (refused 47 p) unknown
without_brackets s m p [] c h = refl
without_brackets s m p (a ∷ ss) c h = absurd (omega (arith, h))

pub ruleset function_laws = (with_brackets, without_brackets)

-- subroutines

pub subroutine_laws : (bs : List Broken) (b : Bool) (p : Pos) → bs ++ unless (not (is_nothing bs && b)) 47 p ≡ cond (is_nothing bs && b) (breaks 47 p) bs
subroutine_laws [] true p = refl
subroutine_laws [] false p = refl
subroutine_laws (b ∷ bs) c p = append-nil (b ∷ bs)

-- selectors behind what is no variable

pub unsaid_breaks : (a t : Bool) (r : ℕ) (p : Pos) → cond a (unless (not t) r p) [] ≡ unless (not a || not t) r p
unsaid_breaks true t r p = refl
unsaid_breaks false t r p = refl

pub unsaid_holds : (a t : Bool) (r : ℕ) (p : Pos) → is_nothing (cond a (unless (not t) r p) []) ≡ (not a || not t)
unsaid_holds true true r p = refl
unsaid_holds true false r p = refl
unsaid_holds false t r p = refl

pub ruleset unsaid_laws = (unsaid_breaks, unsaid_holds)

pub unselected_is : (j : Judgement t.Expression) (ss : List Actual) (c : WrittenSelector) (p : Pos) → unselected j ss c p ≡ unselected_by (is_nothing (breaks_in_all ss)) j c p
unselected_is j ss c p = ap (λ b. made_of_both (λ x k. x) (ruled j (cond b (unless (not (is_there c.count)) 34 p) [])) c.judged) (nothing_in_both (breaks_in_all ss) c.judged.breaks)

pub subroutine_is : (p : Pos) (ss : List Actual) (c : WrittenSelector)
    → subroutine_named p ss c ≡ unselected_by (is_nothing (breaks_in_all ss)) (record { breaks = breaks_of_subroutine p ss c; meaning = None }) c p
subroutine_is p ss c =
    ap (λ b. made_of_both {A = t.Expression} {B = t.Selector} {C = t.Expression} (λ x k. x) (ruled (record { breaks = cond b (breaks 47 p) (breaks_in_all ss); meaning = None }) (cond b (unless (not (is_there c.count)) 34 p) [])) c.judged)
    (nothing_in_both (breaks_in_all ss) c.judged.breaks)
