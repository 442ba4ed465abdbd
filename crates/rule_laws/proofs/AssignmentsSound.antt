-- Assignments are judged soundly in a known scope.
use Rattle.std.proofs.Common.{◌≡◌, ◌∙◌, Bool, true, false, List, [], inr, refl, sym, ap}
use Rattle.std.specs.Prelude.{cond, not, nat_eq, ◌&&◌, ◌||◌, Option, Some, None}
use Rattle.caf_base.specs.declared.place.Pos.{Pos}
use Rattle.fortran_tree.specs.Expressions as f
use Rattle.checked_tree.specs.Expressions as t
use Rattle.checked_tree.specs.Statements as ts
use Rattle.checked_tree.specs.declared.data.DataType.TheVariants.{Intrinsic}
use Rattle.checked_tree.specs.declared.data.Object.TheVariants as objects
use Rattle.rule_definitions.specs.declared.broken.Broken.{Broken}
use Rattle.rule_definitions.specs.Judgements.{is_nothing, Judgement, both, is_there, said_of}
use Rattle.rule_definitions.specs.Names.{Scope, denotes, is_procedure, is_integer, symbol_of}
use Rattle.rule_definitions.specs.Parts.{Placed, is_listed, type_of, rank_of}
use Rattle.rule_definitions.specs.IntrinsicFunctions.{is_allocatable_symbol}
use Rattle.rule_definitions.specs.Expressions.{judged, judged_brackets, judged_specifiers}
use Rattle.rule_definitions.specs.Declarations.{is_like}
use Rattle.rule_definitions.specs.Actions.{Site, is_selected, bracket_breaks, left_side, is_definable, is_listed_value, definable_breaks, is_plain_array, kindred_breaks, is_list_target, is_whole, list_breaks, assigned_breaks, listed_assignment, plain_assignment, form_judged, assigned, target_breaks, assignment}
use Rattle.rule_laws.proofs.Sound.{is_numbered, AreNumbered, IsSound, none_numbered, breaks_numbered, cond_numbered, unless_numbered, both_numbered, said_numbered, right_nothing, fine_sound, unknown_sound, weaker, ruled_sound, around_sound, made_of_both_sound, then_sound, cond_plain, some_same, none_some}
use Rattle.rule_laws.proofs.Known.{IsTypedScope, IsKnownScope, and_left, no}
use Rattle.rule_laws.proofs.ArgumentsSound.{in_all_numbered, unless_nothing}
use Rattle.rule_laws.proofs.SpecifiersSound.{AllWritten}
use Rattle.rule_laws.proofs.ExpressionsSound.{judged_sound, judged_designator_sound, brackets_all, selector_all, specifiers_all}

-- a scope in which statements stand: all names are known, and each function has a typed result
abbrev pub IsSettled : Scope → Type 0
IsSettled s = IsKnownScope s × IsTypedScope s

pub settled_sound : (s : Scope) (e : f.Expression) → IsSound (IsSettled s) (judged s e)
settled_sound s e = judged_sound s (IsSettled s) e (λ h. (h.0, inr (h.1)))

pub written_all : (s : Scope) (ps : f.Specifiers) → AllWritten (IsSettled s) (judged_specifiers s ps)
written_all s ps = specifiers_all s (IsSettled s) ps (λ h. (h.0, inr (h.1)))

-- Assignment

number_selected : (c : f.ImageSelector) → is_numbered (cond (is_selected c) 34 47) ≡ true
number_selected f.no_image_selector = refl
number_selected (f.image_selector es ps) = refl

pub left_sound : (s : Scope) (d : f.Designator) → IsSound (IsSettled s) (left_side s d)
left_sound s (f.part_ref n ss c) = cond_plain (is_procedure (denotes s n.text))
    (around_sound (bracket_breaks s ss c) (cond (is_selected c) 34 47) n.at
    (both_numbered (in_all_numbered (IsSettled s) (judged_brackets s ss) (brackets_all s (IsSettled s) ss (λ h. (h.0, inr (h.1))))) (selector_all s (IsSettled s) c (λ h. (h.0, inr (h.1)))).numbered)
    (number_selected c))
    (judged_designator_sound s (IsSettled s) (f.part_ref n ss c) (λ h. (h.0, inr (h.1))))

kindred_numbered : (p q : Pos) (x v : t.Expression) → AreNumbered (kindred_breaks p q x v)
kindred_numbered p q x v = cond_numbered (is_like (type_of x) (type_of v))
    (cond_numbered (nat_eq (rank_of v) 0) none_numbered (cond_numbered (nat_eq (rank_of x) 0) (breaks_numbered 37 q refl) (unless_numbered (nat_eq (rank_of v) (rank_of x) && is_plain_array v) 38 q refl)))
    (breaks_numbered 32 p refl)

number_whole : (b : Bool) → is_numbered (cond b 38 56) ≡ true
number_whole true = refl
number_whole false = refl

assigned_numbered : (s : Site) (p q : Pos) (x v : t.Expression) → AreNumbered (assigned_breaks s p q x v)
assigned_numbered s p q x v = cond_numbered (is_listed v)
    (unless_numbered (is_list_target s x) (cond (is_whole x && not (nat_eq (rank_of x) 0 || nat_eq (rank_of x) 1)) 38 56) q (number_whole (is_whole x && not (nat_eq (rank_of x) 0 || nat_eq (rank_of x) 1))))
    (kindred_numbered p q x v)

listed_there : (s : Site) (x v : t.Expression) → is_list_target s x ≡ true → is_listed v ≡ true → is_there (listed_assignment x v) ≡ true
listed_there s (t.typed (t.designator (t.part (objects.Local l) ss c)) (Intrinsic k) r) (t.typed (t.intrinsic (t.failed_images m)) y q) h g = refl
listed_there s (t.typed (t.designator (t.part (objects.Local l) ss c)) (Intrinsic k) r) (t.typed (t.intrinsic (t.stopped_images m)) y q) h g = refl
listed_there s (t.typed (t.designator (t.part (objects.Local l) ss c)) (Intrinsic k) r) (t.typed v y q) h g = no g
listed_there s (t.typed (t.designator (t.part (objects.Local l) t.no_subscripts t.no_selector)) y r) v h g = no (and_left (is_integer y) (nat_eq r 1 && is_allocatable_symbol (symbol_of s.scope (objects.Local l))) h)
listed_there s (t.typed x y r) v h g = no h

plain_there : (s : Site) (x v : t.Expression) → is_definable s x ≡ true → is_there (plain_assignment x v) ≡ true
plain_there s (t.typed (t.designator (t.part o ss c)) y r) v h = refl
plain_there s (t.typed x y r) v h = no h

form_sound : {H : Type 0} (o : Option ts.StatementForm) → (H → is_there o ≡ true) → IsSound H (form_judged o)
form_sound None h = unknown_sound (λ k. no (h k))
form_sound (Some x) h = fine_sound x

or_false : (b : Bool) → b || false ≡ true → b ≡ true
or_false true e = refl
or_false false e = e

by_kind : {H : Type 0} (s : Site) (p q : Pos) (x v : t.Expression) (b : Bool) → is_listed v ≡ b → (H → is_definable s x || b ≡ true) → IsSound (H × (cond b (list_breaks s q x) (kindred_breaks p q x v) ≡ [])) (form_judged (cond b (listed_assignment x v) (plain_assignment x v)))
by_kind s p q x v true e h = form_sound (listed_assignment x v) (λ k. listed_there s x v (unless_nothing (is_list_target s x) _ q (k.1)) e)
by_kind s p q x v false e h = form_sound (plain_assignment x v) (λ k. plain_there s x v (or_false (is_definable s x) (h (k.0))))

-- the left side of an assignment is a variable, or a list of images is assigned
fits_sound : {H : Type 0} (s : Site) (p q : Pos) (x v : t.Expression) → (H → is_definable s x || is_listed v ≡ true) → IsSound H (assigned s p q x v)
fits_sound s p q x v h = ruled_sound (assigned_breaks s p q x v) (by_kind s p q x v (is_listed v) refl h) (assigned_numbered s p q x v)

pair_left : {A B : Type 0} (a : Option A) (b : Option B) (m : A × B) → both {C = A × B} (λ x y. (x, y)) a b ≡ Some m → a ≡ Some (m.0)
pair_left None b m e = none_some m e
pair_left (Some x) None m e = none_some m e
pair_left (Some x) (Some y) m e = ap (λ z. Some (z.0)) (some_same (x, y) m e)

pair_right : {A B : Type 0} (a : Option A) (b : Option B) (m : A × B) → both {C = A × B} (λ x y. (x, y)) a b ≡ Some m → b ≡ Some (m.1)
pair_right None b m e = none_some m e
pair_right (Some x) None m e = none_some m e
pair_right (Some x) (Some y) m e = ap (λ z. Some (z.1)) (some_same (x, y) m e)

-- what the rule on the left side says, where nothing broke
target_fits : (s : Site) (p : Pos) (bs : List Broken) (a b : Option t.Expression) (x v : t.Expression) → bs ≡ [] → a ≡ Some x → b ≡ Some v → cond (is_nothing bs) (said_of (definable_breaks s p b) a) [] ≡ [] → is_definable s x || is_listed v ≡ true
target_fits s p bs a b x v e f g h =
    let k : said_of (definable_breaks s p b) a ≡ [] = sym (ap (λ z. cond (is_nothing z) (said_of (definable_breaks s p b) a) []) e) ∙ h in
    let l : definable_breaks s p b x ≡ [] = sym (ap (said_of (definable_breaks s p b)) f) ∙ k in
    sym (ap (λ z. is_definable s x || is_listed_value z) g) ∙ unless_nothing (is_definable s x || is_listed_value b) 32 p l

pub assignment_sound : (H : Type 0) (s : Site) {x : Judgement t.Expression} (p : Pos) (v : Placed) → IsSound H x → IsSound H v.judged → IsSound H (assignment s x p v)
assignment_sound H s {x = x} p v h k =
    let bs = target_breaks s p v x.meaning in
    ruled_sound bs
    (then_sound {A = t.Expression × t.Expression} (λ m. assigned s p v.at (m.0) (m.1)) (weaker (λ z. z.0) (made_of_both_sound {C = t.Expression × t.Expression} (λ a b. (a, b)) h k))
    (λ m e. fits_sound s p v.at (m.0) (m.1) (λ z. target_fits s p v.judged.breaks x.meaning v.judged.meaning (m.0) (m.1) (right_nothing x.breaks v.judged.breaks (z.1)) (pair_left x.meaning v.judged.meaning m e) (pair_right x.meaning v.judged.meaning m e) ((z.0).1))))
    (cond_numbered (is_nothing v.judged.breaks) (said_numbered (definable_breaks s p v.judged.meaning) x.meaning (λ y e. unless_numbered (is_definable s y || is_listed_value v.judged.meaning) 32 p refl)) none_numbered)
