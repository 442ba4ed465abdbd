-- What breaks in an expression, and the typed expression that it stands for.
use Rattle.std.specs.Prelude.{ℕ, Bool, false, not, cond, nat_eq, ◌+◌, List, [], ◌∷◌, ◌++◌, ◌||◌, ◌&&◌, Option, Some, None, length}
use Rattle.caf_base.specs.declared.place.Pos.{Pos}
use Rattle.caf_base.specs.declared.value.Kind.TheVariants.{I4}
use Rattle.caf_base.specs.declared.value.Value.{Value}
use Rattle.caf_base.specs.declared.value.Value.TheVariants.{Int, Bool as Truth}
use Rattle.fortran_tree.specs.Expressions as f
use Rattle.fortran_tree.specs.declared.name.Name.{Name}
use Rattle.checked_tree.specs.Expressions as t
use Rattle.checked_tree.specs.declared.data.DataType.{DataType}
use Rattle.checked_tree.specs.declared.data.DataType.TheVariants.{Intrinsic}
use Rattle.checked_tree.specs.declared.data.Object.TheVariants as objects
use Rattle.rule_definitions.specs.declared.broken.Broken.{Broken}
use Rattle.rule_definitions.specs.Judgements.{breaks, unless, is_nothing, Judgement, fine, refused, refused_around, unknown, ruled, formed, made_of, made_of_both, made_of_three, then, is_there, item_at}
use Rattle.rule_definitions.specs.Names
use Rattle.rule_definitions.specs.Names.{Scope, Symbol, ConstantSymbol, ConstantValue, Interface, Meaning, KnownBounds, denotes, is_procedure}
use Rattle.rule_definitions.specs.Parts.{Placed, place_of, number, truth, prefix, binary, parenthesized, constructor, integer}
use Rattle.rule_definitions.specs.Arguments.{Actual, expression, triplet, arguments, breaks_in_all, is_triplet}
use Rattle.rule_definitions.specs.IntrinsicFunctions.{intrinsic_reference}
use Rattle.rule_definitions.specs.Specifiers.{Written, selector_specifiers, selected_team, stat_variable}

-- an image selector as it stands: how many cosubscripts it has, where there is one, and what it stands for
pub record WrittenSelector : Type 0 where
  pub count : Option ℕ
  pub judged : Judgement t.Selector

-- Rule 31 (9.5.3.1): a subscript is an integer
abbrev pub subscript_of : Actual → Judgement t.Subscript
subscript_of a = elim a.part [ expression e ↦ made_of t.element (integer 31 e) | triplet j ↦ j ]

abbrev pub subscripts_of : List Actual → Judgement t.Subscripts
subscripts_of [] = fine t.no_subscripts
subscripts_of (a ∷ rest) = made_of_both t.more_subscripts (subscript_of a) (subscripts_of rest)

-- the rank of a section: its triplets (9.5.3.3)
abbrev pub triplets_in : List Actual → ℕ
triplets_in [] = 0
triplets_in (a ∷ rest) = cond (is_triplet a) (triplets_in rest + 1) (triplets_in rest)

abbrev pub rank_behind : ℕ → List Actual → ℕ
rank_behind r [] = r
rank_behind r (a ∷ rest) = triplets_in (a ∷ rest)

-- Rule 33 (9.5.3.1): as many subscripts as the rank, where there are some
abbrev pub subscript_breaks : ℕ → ℕ → Pos → List Broken
subscript_breaks rank k p = unless (nat_eq k 0 || nat_eq k rank) 33 p

-- Rule 34 (9.6): an image selector on what is no coarray. Rule 33 (9.6): as many cosubscripts as the corank; a
-- coindexed array has subscripts
abbrev pub selection_breaks : ℕ → ℕ → ℕ → Option ℕ → Pos → List Broken
selection_breaks rank corank k None p = []
selection_breaks rank corank k (Some m) p = cond (nat_eq corank 0) (breaks 34 p) (unless (nat_eq m corank && (not (nat_eq k 0) || nat_eq rank 0)) 33 p)

abbrev pub typed_as : Option DataType → ℕ → t.Designator → Judgement t.Expression
typed_as None r d = unknown
typed_as (Some y) r d = fine (t.typed (t.designator d) y r)

-- a variable or a part of it
abbrev pub variable_part : Symbol → Pos → List Actual → WrittenSelector → Judgement t.Expression
variable_part x p ss c = then
    (formed (made_of_both (t.part x.object) (subscripts_of ss) c.judged)
    (subscript_breaks (length x.bounds) (length ss) p ++ selection_breaks (length x.bounds) x.corank (length ss) c.count p))
    (typed_as x.of_type (rank_behind (length x.bounds) ss))

abbrev pub scalar_value : Value → Option DataType → Judgement t.Expression
scalar_value v None = unknown
scalar_value (Int n) (Some y) = fine (t.typed (t.number n) y 0)
scalar_value (Truth b) (Some y) = fine (t.typed (t.logical b) y 0)

abbrev pub constant_form : ConstantSymbol → List Actual → t.Subscripts → Judgement t.Expression
constant_form c as' ss = elim c.value [
  | Names.unknown_value ↦ unknown
  | Names.scalar_constant v ↦ scalar_value v c.of_type
  | Names.array_constant n ↦ typed_as c.of_type (rank_behind (length c.bounds) as') (t.part (objects.Constant n) ss t.no_selector)
]

-- a named constant or a part of it; it has no selector
abbrev pub constant_part : ConstantSymbol → Pos → List Actual → WrittenSelector → Judgement t.Expression
constant_part x p ss c = then
    (formed (made_of_both (λ y k. y) (subscripts_of ss) c.judged)
    (subscript_breaks (length x.bounds) (length ss) p ++ selection_breaks (length x.bounds) 0 (length ss) c.count p))
    (constant_form x ss)

-- Rule 34: a selector behind what is no variable
abbrev pub unselected : Judgement t.Expression → List Actual → WrittenSelector → Pos → Judgement t.Expression
unselected j ss c p = made_of_both (λ x k. x) (ruled j (cond (is_nothing (breaks_in_all ss ++ c.judged.breaks)) (unless (not (is_there c.count)) 34 p) [])) c.judged

-- Rule 33: brackets behind a scalar
abbrev pub unsubscripted : Judgement t.Expression → List Actual → Pos → Judgement t.Expression
unsubscripted j ss p = ruled j (cond (is_nothing (breaks_in_all ss)) (unless (nat_eq (length ss) 0) 33 p) (breaks_in_all ss))

abbrev pub result_typed : Symbol → ℕ → t.Arguments → Judgement t.Expression
result_typed x n as' = elim x.of_type [ None ↦ unknown | Some y ↦ fine (t.typed (t.call n as') y (length x.bounds)) ]

abbrev pub call_typed : Option Symbol → ℕ → t.Arguments → Judgement t.Expression
call_typed None n as' = unknown
call_typed (Some x) n as' = result_typed x n as'

-- a reference to a function of the program (15.5.1)
abbrev pub function_called : Scope → Option Interface → ℕ → List Actual → Pos → Judgement t.Expression
function_called s None n as' p = record { breaks = breaks_in_all as'; meaning = None }
function_called s (Some i) n as' p = then (arguments s i.dummies as' p) (call_typed i.result n)

-- a function's name with its arguments
abbrev pub referenced : Scope → Option Meaning → Pos → List Actual → Judgement t.Expression
referenced s None p as' = refused 20 p
referenced s (Some (Names.function n)) p as' = function_called s (item_at s.interfaces n) n as' p
referenced s (Some (Names.intrinsic_function n)) p as' = intrinsic_reference s n as' p
referenced s (Some (Names.subroutine n)) p as' = refused_around (breaks_in_all as') 47 p
referenced s (Some (Names.intrinsic_subroutine n)) p as' = refused_around (breaks_in_all as') 47 p
referenced s (Some (Names.module_type y)) p as' = refused 20 p
referenced s (Some m) p as' = refused_around (breaks_in_all as') 33 p

-- Rule 47 (15.5.1): the bare name of a function
abbrev pub function_named : Scope → Meaning → Pos → List Actual → WrittenSelector → Judgement t.Expression
function_named s m p [] c = cond (is_nothing c.judged.breaks) (refused 47 p) unknown
function_named s m p (a ∷ rest) c = referenced s (Some m) p (a ∷ rest)

-- Rule 47 (15.5.1): a subroutine as a value
abbrev pub subroutine_named : Pos → List Actual → WrittenSelector → Judgement t.Expression
subroutine_named p ss c = unselected (record { breaks = cond (is_nothing (breaks_in_all ss ++ c.judged.breaks)) (breaks 47 p) (breaks_in_all ss); meaning = None }) ss c p

-- what a designator is, by what its name stands for. Rule 20: for nothing, or for a type
abbrev pub designated : Scope → Option Meaning → Pos → List Actual → WrittenSelector → Judgement t.Expression
designated s None p ss c = refused 20 p
designated s (Some (Names.variable x)) p ss c = variable_part x p ss c
designated s (Some (Names.constant x)) p ss c = constant_part x p ss c
designated s (Some (Names.module_constant n)) p ss c = unselected (unsubscripted (fine (t.typed (t.number n) (Intrinsic I4) 0)) ss p) ss c p
designated s (Some (Names.module_type y)) p ss c = refused 20 p
designated s (Some (Names.subroutine n)) p ss c = subroutine_named p ss c
designated s (Some (Names.intrinsic_subroutine n)) p ss c = subroutine_named p ss c
designated s (Some m) p ss c = unselected (function_named s m p ss c) ss c p

abbrev pub cosubscripts : List Placed → Judgement t.Expressions
cosubscripts [] = fine t.no_expressions
cosubscripts (e ∷ rest) = made_of_both t.more_expressions (integer 31 e) (cosubscripts rest)

-- an image selector (9.6)
abbrev pub selector_written : List Placed → List Written → WrittenSelector
selector_written es ws = record {
  count = Some (length es);
  judged = ruled (made_of_three t.selector (cosubscripts es) (selected_team ws) (stat_variable ws)) (selector_specifiers ws);
}

abbrev pub first_token : Option Name → Pos → Pos
first_token None p = p
first_token (Some n) p = n.at

-- the bare name of a procedure
abbrev pub names_procedure : Scope → f.Expression → Bool
names_procedure s (f.designator (f.part_ref n f.no_section_subscripts f.no_image_selector)) = is_procedure (denotes s n.text)
names_procedure s e = false

-- an expression with its place
abbrev pub placed_as : Scope → f.Expression → Judgement t.Expression → Placed
placed_as s e j = record { judged = j; at = place_of e; is_procedure = names_procedure s e }

abbrev mutual
  pub judged : Scope → f.Expression → Judgement t.Expression
  judged s (f.number n k p) = number s k n p
  judged s (f.logical b p) = fine (truth (t.logical b))
  judged s (f.designator d) = judged_designator s d
  judged s (f.function_reference n as') = referenced s (denotes s n.text) n.at (judged_arguments s as')
  judged s (f.parenthesized e p) = parenthesized (placed_as s e (judged s e))
  judged s (f.array_constructor es p) = constructor (judged_list s es)
  judged s (f.prefix o e p) = prefix o (placed_as s e (judged s e))
  judged s (f.binary o a b p) = binary o (placed_as s a (judged s a)) (placed_as s b (judged s b))

  pub judged_designator : Scope → f.Designator → Judgement t.Expression
  judged_designator s (f.part_ref n ss c) = designated s (denotes s n.text) n.at (judged_brackets s ss) (judged_selector s c)

  -- what stands in the brackets behind a name
  pub judged_brackets : Scope → f.SectionSubscripts → List Actual
  judged_brackets s f.no_section_subscripts = []
  judged_brackets s (f.more_section_subscripts x rest) = judged_bracket s x ∷ judged_brackets s rest

  pub judged_bracket : Scope → f.SectionSubscript → Actual
  judged_bracket s (f.subscript e) = record { keyword = None; at = place_of e; part = expression (placed_as s e (judged s e)) }
  judged_bracket s (f.triplet a b c p) = record { keyword = None; at = p; part = triplet (made_of_three t.triplet (judged_bound s a) (judged_bound s b) (judged_bound s c)) }

  -- Rule 31 (9.5.3.3): a section bound or a stride is an integer
  pub judged_bound : Scope → f.OptionalExpression → Judgement t.OptionalExpression
  judged_bound s f.missing = fine t.missing
  judged_bound s (f.given e) = made_of t.given (integer 31 (placed_as s e (judged s e)))

  pub judged_selector : Scope → f.ImageSelector → WrittenSelector
  judged_selector s f.no_image_selector = record { count = None; judged = fine t.no_selector }
  judged_selector s (f.image_selector es ps) = selector_written (judged_list s es) (judged_specifiers s ps)

  pub judged_list : Scope → f.Expressions → List Placed
  judged_list s f.no_expressions = []
  judged_list s (f.more_expressions e rest) = placed_as s e (judged s e) ∷ judged_list s rest

  pub judged_specifiers : Scope → f.Specifiers → List Written
  judged_specifiers s f.no_specifiers = []
  judged_specifiers s (f.more_specifiers n e rest) = record { name = n; value = placed_as s e (judged s e) } ∷ judged_specifiers s rest

  pub judged_arguments : Scope → f.Arguments → List Actual
  judged_arguments s f.no_arguments = []
  judged_arguments s (f.more_arguments k e rest) = record { keyword = k; at = first_token k (place_of e); part = expression (placed_as s e (judged s e)) } ∷ judged_arguments s rest

abbrev pub placed : Scope → f.Expression → Placed
placed s e = placed_as s e (judged s e)
