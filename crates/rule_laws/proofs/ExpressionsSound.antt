-- Each expression of a known scope is judged soundly, where it references no function of the program or each has a
-- typed result.
use Rattle.std.proofs.Common.{◌≡◌, ◌∙◌, ℕ, Bool, true, false, List, [], ◌∷◌, inl, inr, refl, sym, ap}
use Rattle.std.specs.Prelude.{◌&&◌, ◌||◌, Some}
use Rattle.fortran_tree.specs.Expressions as f
use Rattle.checked_tree.specs.Expressions as t
use Rattle.rule_definitions.specs.Judgements.{item_at}
use Rattle.rule_definitions.specs.Names
use Rattle.rule_definitions.specs.Names.{Scope, denotes}
use Rattle.rule_definitions.specs.Parts.{truth}
use Rattle.rule_definitions.specs.Arguments.{Actual}
use Rattle.rule_definitions.specs.Declarations.{is_function, has_brackets}
use Rattle.rule_definitions.specs.Expressions.{judged, judged_designator, judged_brackets, judged_bracket, judged_bound, judged_selector, judged_list, judged_specifiers, judged_arguments, placed}
use Rattle.rule_laws.proofs.Sound.{IsSound, fine_sound, weaker, made_sound, made_of_three_sound}
use Rattle.rule_laws.proofs.Known.{has_typed_result, IsKnownScope, no}
use Rattle.rule_laws.proofs.Calls.{calls, designator_calls, argument_calls, item_calls, subscript_calls, part_calls, bound_calls, selector_calls, specifier_calls, IsFree, free_left, free_right}
use Rattle.rule_laws.proofs.PartsSound.{number_sound, AllSound, parenthesized_sound, constructor_sound, prefix_sound, binary_sound, integer_sound}
use Rattle.rule_laws.proofs.ArgumentsSound.{PartSound, AllActuals}
use Rattle.rule_laws.proofs.SpecifiersSound.{AllWritten}
use Rattle.rule_laws.proofs.DesignatorsSound.{selector_sound, designated_sound, referenced_sound}

-- a known scope, and what is free in it
abbrev pub IsReady : Scope → Bool → Type 0
IsReady s b = IsKnownScope s × IsFree s b

left : (s : Scope) (a b : Bool) → IsReady s (a || b) → IsReady s a
left s a b h = (h.0, free_left s a b (h.1))

right : (s : Scope) (a b : Bool) → IsReady s (a || b) → IsReady s b
right s a b h = (h.0, free_right s a b (h.1))

nil_cons : (a : Actual) (rest : List Actual) → [] ≡ a ∷ rest → ⊥
nil_cons a rest e = cc

-- a function that is referenced has a typed result
typed_call : (s : Scope) (n : List ℕ) (k : ℕ) (b : Bool) → denotes s n ≡ Some (Names.function k) → b ≡ is_function (denotes s n) → IsFree s b → has_typed_result (item_at s.interfaces k) ≡ true
typed_call s n k b e f (inl g) = no (sym g ∙ f ∙ ap is_function e)
typed_call s n k b e f (inr h) = h.typed n k e

and_true : (b : Bool) → b && true ≡ b
and_true true = refl
and_true false = refl

brackets_there : (s : Scope) (ss : f.SectionSubscripts) (a : Actual) (rest : List Actual) → judged_brackets s ss ≡ a ∷ rest → has_brackets ss ≡ true
brackets_there s f.no_section_subscripts a rest e = absurd (nil_cons a rest e)
brackets_there s (f.more_section_subscripts x ss) a rest e = refl

typed_named : (s : Scope) (n : List ℕ) (k : ℕ) (b c : Bool) → denotes s n ≡ Some (Names.function k) → c ≡ true → b ≡ is_function (denotes s n) && c → IsFree s b → has_typed_result (item_at s.interfaces k) ≡ true
typed_named s n k b true e c f g = typed_call s n k b e (f ∙ and_true (is_function (denotes s n))) g
typed_named s n k b false e c f g = no c

mutual
  pub judged_sound : (s : Scope) (H : Type 0) (e : f.Expression) → (H → IsReady s (calls s e)) → IsSound H (judged s e)
  judged_sound s H (f.number n k p) h = weaker (λ z. (h z).0) (number_sound s k n p)
  judged_sound s H (f.logical b p) h = fine_sound (truth (t.logical b))
  judged_sound s H (f.designator d) h = judged_designator_sound s H d h
  judged_sound s H (f.function_reference n xs) h =
      let b = is_function (denotes s n.text) in
      let c = argument_calls s xs in
      referenced_sound H s (denotes s n.text) n.at (judged_arguments s xs) (λ k e z. typed_call s n.text k b e refl (free_left s b c ((h z).1)))
      (arguments_all s H xs (λ z. right s b c (h z)))
  judged_sound s H (f.parenthesized e p) h = parenthesized_sound (placed s e) (judged_sound s H e h)
  judged_sound s H (f.array_constructor es p) h = constructor_sound (judged_list s es) (list_all s H es h)
  judged_sound s H (f.prefix o e p) h = prefix_sound o (placed s e) (judged_sound s H e h)
  judged_sound s H (f.binary o a b p) h = binary_sound o (placed s a) (placed s b) (judged_sound s H a (λ z. left s (calls s a) (calls s b) (h z))) (judged_sound s H b (λ z. right s (calls s a) (calls s b) (h z)))

  pub judged_designator_sound : (s : Scope) (H : Type 0) (d : f.Designator) → (H → IsReady s (designator_calls s d)) → IsSound H (judged_designator s d)
  judged_designator_sound s H (f.part_ref n ss c) h =
      let b = is_function (denotes s n.text) && has_brackets ss in
      let x = subscript_calls s ss in
      let y = selector_calls s c in
      designated_sound H s (denotes s n.text) n.at (judged_brackets s ss) (judged_selector s c) (λ z. ((h z).0).known n.text)
      (λ k a rest e g z. typed_named s n.text k b (has_brackets ss) e (brackets_there s ss a rest g) refl (free_left s b (x || y) ((h z).1)))
      (brackets_all s H ss (λ z. left s x y (right s b (x || y) (h z))))
      (selector_all s H c (λ z. right s x y (right s b (x || y) (h z))))

  pub brackets_all : (s : Scope) (H : Type 0) (ss : f.SectionSubscripts) → (H → IsReady s (subscript_calls s ss)) → AllActuals H (judged_brackets s ss)
  brackets_all s H f.no_section_subscripts h = tt
  brackets_all s H (f.more_section_subscripts x rest) h = (bracket_sound s H x (λ k. left s (part_calls s x) (subscript_calls s rest) (h k)), brackets_all s H rest (λ k. right s (part_calls s x) (subscript_calls s rest) (h k)))

  bracket_sound : (s : Scope) (H : Type 0) (x : f.SectionSubscript) → (H → IsReady s (part_calls s x)) → PartSound H (judged_bracket s x).part
  bracket_sound s H (f.subscript e) h = judged_sound s H e h
  bracket_sound s H (f.triplet a b c p) h =
      let bc = bound_calls s b || bound_calls s c in
      made_of_three_sound t.triplet (bound_sound s H a (λ k. left s (bound_calls s a) bc (h k)))
      (bound_sound s H b (λ k. left s (bound_calls s b) (bound_calls s c) (right s (bound_calls s a) bc (h k))))
      (bound_sound s H c (λ k. right s (bound_calls s b) (bound_calls s c) (right s (bound_calls s a) bc (h k))))

  bound_sound : (s : Scope) (H : Type 0) (o : f.OptionalExpression) → (H → IsReady s (bound_calls s o)) → IsSound H (judged_bound s o)
  bound_sound s H f.missing h = fine_sound t.missing
  bound_sound s H (f.given e) h = made_sound t.given (integer_sound 31 refl (placed s e) (judged_sound s H e h))

  pub selector_all : (s : Scope) (H : Type 0) (c : f.ImageSelector) → (H → IsReady s (selector_calls s c)) → IsSound H (judged_selector s c).judged
  selector_all s H f.no_image_selector h = fine_sound t.no_selector
  selector_all s H (f.image_selector es ps) h = selector_sound H (judged_list s es) (judged_specifiers s ps) (list_all s H es (λ k. left s (item_calls s es) (specifier_calls s ps) (h k))) (specifiers_all s H ps (λ k. right s (item_calls s es) (specifier_calls s ps) (h k)))

  list_all : (s : Scope) (H : Type 0) (es : f.Expressions) → (H → IsReady s (item_calls s es)) → AllSound H (judged_list s es)
  list_all s H f.no_expressions h = tt
  list_all s H (f.more_expressions e rest) h = (judged_sound s H e (λ k. left s (calls s e) (item_calls s rest) (h k)), list_all s H rest (λ k. right s (calls s e) (item_calls s rest) (h k)))

  pub specifiers_all : (s : Scope) (H : Type 0) (ps : f.Specifiers) → (H → IsReady s (specifier_calls s ps)) → AllWritten H (judged_specifiers s ps)
  specifiers_all s H f.no_specifiers h = tt
  specifiers_all s H (f.more_specifiers n e rest) h = (judged_sound s H e (λ k. left s (calls s e) (specifier_calls s rest) (h k)), specifiers_all s H rest (λ k. right s (calls s e) (specifier_calls s rest) (h k)))

  pub arguments_all : (s : Scope) (H : Type 0) (xs : f.Arguments) → (H → IsReady s (argument_calls s xs)) → AllActuals H (judged_arguments s xs)
  arguments_all s H f.no_arguments h = tt
  arguments_all s H (f.more_arguments k e rest) h = (judged_sound s H e (λ z. left s (calls s e) (argument_calls s rest) (h z)), arguments_all s H rest (λ z. right s (calls s e) (argument_calls s rest) (h z)))
