-- What a name with brackets and a selector stands for is judged soundly.
use Rattle.std.proofs.Common.{◌≡◌, ◌∙◌, ℕ, true, false, List, [], ◌∷◌, ◌++◌, refl, sym, ap}
use Rattle.std.specs.Prelude.{codes, cond, not, nat_eq, ◌&&◌, ◌||◌, Option, Some, None, length}
use Rattle.caf_base.specs.declared.place.Pos.{Pos}
use Rattle.caf_base.specs.declared.value.Kind.TheVariants.{I4}
use Rattle.caf_base.specs.declared.value.Value.{Value}
use Rattle.caf_base.specs.declared.value.Value.TheVariants.{Int, Bool as Truth}
use Rattle.checked_tree.specs.Expressions as t
use Rattle.checked_tree.specs.declared.data.DataType.{DataType}
use Rattle.checked_tree.specs.declared.data.DataType.TheVariants.{Intrinsic}
use Rattle.checked_tree.specs.declared.data.Object.TheVariants as objects
use Rattle.rule_definitions.specs.declared.broken.Broken.{Broken}
use Rattle.rule_definitions.specs.Judgements.{breaks, is_nothing, Judgement, fine, unknown, refused, made_of, is_there, item_at}
use Rattle.rule_definitions.specs.Names
use Rattle.rule_definitions.specs.Names.{Scope, Symbol, ConstantSymbol, ConstantValue, KnownBounds, Interface, Meaning}
use Rattle.rule_definitions.specs.Parts.{Placed, integer}
use Rattle.rule_definitions.specs.Arguments.{Part, expression, triplet, Actual, breaks_in_all}
use Rattle.rule_definitions.specs.Specifiers.{Written, selector_specifiers}
use Rattle.rule_definitions.specs.Expressions.{WrittenSelector, subscripts_of, rank_behind, subscript_breaks, selection_breaks, typed_as, variable_part, scalar_value, constant_form, constant_part, unselected, unsubscripted, call_typed, function_called, referenced, function_named, subroutine_named, designated, cosubscripts, selector_written}
use Rattle.rule_laws.proofs.Sound.{AreNumbered, IsSound, none_numbered, breaks_numbered, cond_numbered, unless_numbered, both_numbered, cons_nil, breaks_some, fine_sound, refused_sound, unknown_sound, weaker, ruled_sound, ruled_plain, formed_sound, around_sound, made_sound, made_of_both_sound, made_of_both_given, made_of_three_sound, then_plain, cond_sound}
use Rattle.rule_laws.proofs.Known.{has_type, has_typed_result, is_known_value, AreKnown, and_left, and_right, no}
use Rattle.rule_laws.proofs.PartsSound.{integer_sound, AllSound}
use Rattle.rule_laws.proofs.ArgumentsSound.{PartSound, AllActuals, in_all_numbered, arguments_sound}
use Rattle.rule_laws.proofs.FunctionsSound.{intrinsic_sound}
use Rattle.rule_laws.proofs.SpecifiersSound.{AllWritten, all_numbered, stat_sound, selected_sound}

-- Brackets and selectors

subscript_any : {H : Type 0} (x : Part) → PartSound H x → IsSound H (elim x [ expression e ↦ made_of t.element (integer 31 e) | triplet j ↦ j ])
subscript_any (expression e) h = made_sound t.element (integer_sound 31 refl e h)
subscript_any (triplet j) h = h

subscripts_sound : (H : Type 0) (ss : List Actual) → AllActuals H ss → IsSound H (subscripts_of ss)
subscripts_sound H [] h = fine_sound t.no_subscripts
subscripts_sound H (a ∷ rest) h = made_of_both_sound t.more_subscripts (subscript_any a.part (h.0)) (subscripts_sound H rest (h.1))

selection_numbered : (rank corank k : ℕ) (o : Option ℕ) (p : Pos) → AreNumbered (selection_breaks rank corank k o p)
selection_numbered rank corank k None p = none_numbered
selection_numbered rank corank k (Some m) p = cond_numbered (nat_eq corank 0) (breaks_numbered 34 p refl) (unless_numbered (nat_eq m corank && (not (nat_eq k 0) || nat_eq rank 0)) 33 p refl)

form_numbered : (rank corank k : ℕ) (o : Option ℕ) (p : Pos) → AreNumbered (subscript_breaks rank k p ++ selection_breaks rank corank k o p)
form_numbered rank corank k o p = both_numbered (unless_numbered (nat_eq k 0 || nat_eq k rank) 33 p refl) (selection_numbered rank corank k o p)

cosubscripts_sound : (H : Type 0) (es : List Placed) → AllSound H es → IsSound H (cosubscripts es)
cosubscripts_sound H [] h = fine_sound t.no_expressions
cosubscripts_sound H (e ∷ rest) h = made_of_both_sound t.more_expressions (integer_sound 31 refl e (h.0)) (cosubscripts_sound H rest (h.1))

abbrev allowed : List (List ℕ)
allowed = codes "stat" ∷ codes "team" ∷ codes "team_number" ∷ []

pub selector_sound : (H : Type 0) (es : List Placed) (ws : List Written) → AllSound H es → AllWritten H ws → IsSound H (selector_written es ws).judged
selector_sound H es ws h k = ruled_sound (selector_specifiers ws)
    (made_of_three_sound t.selector (weaker (λ z. z.0) (cosubscripts_sound H es h)) (selected_sound H allowed ws k) (stat_sound H allowed ws k)) (all_numbered H allowed ws k)

-- Variables and constants

typed_sound : {H : Type 0} (o : Option DataType) (r : ℕ) (d : t.Designator) → (H → is_there o ≡ true) → IsSound H (typed_as o r d)
typed_sound None r d h = unknown_sound (λ k. no (h k))
typed_sound (Some y) r d h = fine_sound (t.typed (t.designator d) y r)

variable_sound : (H : Type 0) (x : Symbol) (p : Pos) (ss : List Actual) (c : WrittenSelector) → (H → is_there x.of_type ≡ true) → AllActuals H ss → IsSound H c.judged → IsSound H (variable_part x p ss c)
variable_sound H x p ss c f h k = then_plain (typed_as x.of_type (rank_behind (length x.bounds) ss))
    (formed_sound _ (weaker (λ z. z.0) (made_of_both_sound (t.part x.object) (subscripts_sound H ss h) k)) (form_numbered (length x.bounds) x.corank (length ss) c.count p))
    (λ d. typed_sound x.of_type (rank_behind (length x.bounds) ss) d f)

scalar_sound : {H : Type 0} (v : Value) (o : Option DataType) → (H → is_there o ≡ true) → IsSound H (scalar_value v o)
scalar_sound (Int n) None h = unknown_sound (λ k. no (h k))
scalar_sound (Truth b) None h = unknown_sound (λ k. no (h k))
scalar_sound (Int n) (Some y) h = fine_sound (t.typed (t.number n) y 0)
scalar_sound (Truth b) (Some y) h = fine_sound (t.typed (t.logical b) y 0)

constant_any : {H : Type 0} (v : ConstantValue) (o : Option DataType) (ds : List KnownBounds) (r : ℕ) (ss : t.Subscripts) → (H → is_there o && is_known_value ds v ≡ true)
    → IsSound H (elim v [ Names.unknown_value ↦ unknown {T = t.Expression} | Names.scalar_constant w ↦ scalar_value w o | Names.array_constant n ↦ typed_as o r (t.part (objects.Constant n) ss t.no_selector) ])
constant_any Names.unknown_value o ds r ss h = unknown_sound (λ k. no (and_right (is_there o) false (h k)))
constant_any (Names.scalar_constant w) o ds r ss h = scalar_sound w o (λ k. and_left (is_there o) true (h k))
constant_any (Names.array_constant n) o ds r ss h = typed_sound o r (t.part (objects.Constant n) ss t.no_selector) (λ k. and_left (is_there o) (is_known_value ds (Names.array_constant n)) (h k))

constant_sound : (H : Type 0) (x : ConstantSymbol) (p : Pos) (ss : List Actual) (c : WrittenSelector) → (H → is_there x.of_type && is_known_value x.bounds x.value ≡ true) → AllActuals H ss → IsSound H c.judged → IsSound H (constant_part x p ss c)
constant_sound H x p ss c f h k = then_plain (constant_form x ss)
    (formed_sound _ (weaker (λ z. z.0) (made_of_both_sound (λ y z. y) (subscripts_sound H ss h) k)) (form_numbered (length x.bounds) 0 (length ss) c.count p))
    (λ y. constant_any x.value x.of_type x.bounds (rank_behind (length x.bounds) ss) y f)

-- Names of other things

unselected_sound : (H : Type 0) {j : Judgement t.Expression} (ss : List Actual) (c : WrittenSelector) (p : Pos) → IsSound (H × (c.judged.breaks ≡ [])) j → IsSound H c.judged → IsSound H (unselected j ss c p)
unselected_sound H ss c p h k = made_of_both_given (λ x y. x) (ruled_plain h (cond_numbered (is_nothing (breaks_in_all ss ++ c.judged.breaks)) (unless_numbered (not (is_there c.count)) 34 p refl) none_numbered)) k

unsubscripted_sound : (H : Type 0) {j : Judgement t.Expression} (ss : List Actual) (p : Pos) → IsSound H j → AllActuals H ss → IsSound H (unsubscripted j ss p)
unsubscripted_sound H ss p h k = ruled_plain h (cond_numbered (is_nothing (breaks_in_all ss)) (unless_numbered (nat_eq (length ss) 0) 33 p refl) (in_all_numbered H ss k))

result_sound : {H : Type 0} (o : Option DataType) (n : ℕ) (xs : t.Arguments) (ds : List KnownBounds) → (H → is_there o ≡ true)
    → IsSound H (elim o [ None ↦ unknown {T = t.Expression} | Some y ↦ fine (t.typed (t.call n xs) y (length ds)) ])
result_sound None n xs ds h = unknown_sound (λ k. no (h k))
result_sound (Some y) n xs ds h = fine_sound (t.typed (t.call n xs) y (length ds))

call_sound : {H : Type 0} (o : Option Symbol) (n : ℕ) (xs : t.Arguments) → (H → has_type o ≡ true) → IsSound H (call_typed o n xs)
call_sound None n xs h = unknown_sound (λ k. no (h k))
call_sound (Some x) n xs h = result_sound x.of_type n xs x.bounds h

function_sound : (H : Type 0) (s : Scope) (o : Option Interface) (n : ℕ) (xs : List Actual) (p : Pos) → (H → has_typed_result o ≡ true) → AllActuals H xs → IsSound H (function_called s o n xs p)
function_sound H s None n xs p f h = record { numbered = in_all_numbered H xs h; decided = λ k e. no (f k) }
function_sound H s (Some i) n xs p f h = then_plain (call_typed i.result n) (arguments_sound H s i.dummies xs p h) (λ y. call_sound i.result n y f)

pub referenced_sound : (H : Type 0) (s : Scope) (o : Option Meaning) (p : Pos) (xs : List Actual) → ((n : ℕ) → o ≡ Some (Names.function n) → H → has_typed_result (item_at s.interfaces n) ≡ true) → AllActuals H xs → IsSound H (referenced s o p xs)
referenced_sound H s None p xs f h = refused_sound 20 p refl
referenced_sound H s (Some (Names.function n)) p xs f h = function_sound H s (item_at s.interfaces n) n xs p (f n refl) h
referenced_sound H s (Some (Names.intrinsic_function n)) p xs f h = intrinsic_sound s n xs p h
referenced_sound H s (Some (Names.subroutine n)) p xs f h = around_sound (breaks_in_all xs) 47 p (in_all_numbered H xs h) refl
referenced_sound H s (Some (Names.intrinsic_subroutine n)) p xs f h = around_sound (breaks_in_all xs) 47 p (in_all_numbered H xs h) refl
referenced_sound H s (Some (Names.module_type y)) p xs f h = refused_sound 20 p refl
referenced_sound H s (Some m) p xs f h = around_sound (breaks_in_all xs) 33 p (in_all_numbered H xs h) refl

-- a bare name is refused where nothing breaks in its selector
bare_sound : {H : Type 0} (bs : List Broken) (p : Pos) → IsSound (H × (bs ≡ [])) (cond (is_nothing bs) (refused {T = t.Expression} 47 p) unknown)
bare_sound bs p = cond_sound (is_nothing bs) (refused_sound 47 p refl) (unknown_sound (λ h. no (sym (h.1) ∙ ap is_nothing ((h.0).1))))

same_meaning : (a b : Meaning) → Some a ≡ Some b → a ≡ b
same_meaning a b e = cc

named_sound : (H : Type 0) (s : Scope) (m : Meaning) (p : Pos) (ss : List Actual) (c : WrittenSelector) → ((n : ℕ) (a : Actual) (rest : List Actual) → m ≡ Names.function n → ss ≡ a ∷ rest → H → has_typed_result (item_at s.interfaces n) ≡ true)
    → AllActuals H ss → IsSound (H × (c.judged.breaks ≡ [])) (function_named s m p ss c)
named_sound H s m p [] c f h = bare_sound c.judged.breaks p
named_sound H s m p (a ∷ rest) c f h = weaker (λ z. z.0) (referenced_sound H s (Some m) p (a ∷ rest) (λ n e. f n a rest (same_meaning m (Names.function n) e) refl) h)

subroutine_some : (xs ys : List Broken) (p : Pos) → ys ≡ [] → cond (is_nothing (xs ++ ys)) (breaks 47 p) xs ≡ [] → ⊥
subroutine_some [] ys p f e = breaks_some 47 p (sym (ap (λ k. cond (is_nothing k) (breaks 47 p) []) f) ∙ e)
subroutine_some (x ∷ xs) ys p f e = cons_nil x xs e

subroutine_sound : (H : Type 0) (p : Pos) (ss : List Actual) (c : WrittenSelector) → AllActuals H ss → IsSound H c.judged → IsSound H (subroutine_named p ss c)
subroutine_sound H p ss c h k = unselected_sound H ss c p (record {
  numbered = cond_numbered (is_nothing (breaks_in_all ss ++ c.judged.breaks)) (breaks_numbered 47 p refl) (in_all_numbered H ss h);
  decided = λ g e. absurd (subroutine_some (breaks_in_all ss) c.judged.breaks p (g.1) e);
}) k

pub designated_sound : (H : Type 0) (s : Scope) (o : Option Meaning) (p : Pos) (ss : List Actual) (c : WrittenSelector) → (H → AreKnown s.interfaces o)
    → ((n : ℕ) (a : Actual) (rest : List Actual) → o ≡ Some (Names.function n) → ss ≡ a ∷ rest → H → has_typed_result (item_at s.interfaces n) ≡ true)
    → AllActuals H ss → IsSound H c.judged → IsSound H (designated s o p ss c)
designated_sound H s None p ss c f g h k = refused_sound 20 p refl
designated_sound H s (Some (Names.variable x)) p ss c f g h k = variable_sound H x p ss c (λ z. and_left (is_there x.of_type) _ ((f z).known (Names.variable x) refl)) h k
designated_sound H s (Some (Names.constant x)) p ss c f g h k = constant_sound H x p ss c (λ z. (f z).known (Names.constant x) refl) h k
designated_sound H s (Some (Names.module_constant n)) p ss c f g h k = unselected_sound H ss c p (weaker (λ z. z.0) (unsubscripted_sound H ss p (fine_sound (t.typed (t.number n) (Intrinsic I4) 0)) h)) k
designated_sound H s (Some (Names.module_type y)) p ss c f g h k = refused_sound 20 p refl
designated_sound H s (Some (Names.subroutine n)) p ss c f g h k = subroutine_sound H p ss c h k
designated_sound H s (Some (Names.intrinsic_subroutine n)) p ss c f g h k = subroutine_sound H p ss c h k
designated_sound H s (Some m) p ss c f g h k = unselected_sound H ss c p (named_sound H s m p ss c (λ n a rest e. g n a rest (ap (λ z. Some z) e)) h) k
