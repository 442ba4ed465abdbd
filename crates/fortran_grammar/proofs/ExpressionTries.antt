-- Expressions that the grammar reads, and trees that it doesn't have for them, worked out by hand.
use Rattle.std.proofs.Common.{◌≡◌, ℕ, zero, suc, ◌+◌, true, false, List, [], ◌∷◌, ◌++◌, refl, codes, Some, None}
use Rattle.fortran_tokens.specs.declared.token.Sign.TheVariants as sign
use Rattle.fortran_tree.specs.declared.expr.NumberKind.TheVariants as kinds
use Rattle.fortran_tree.specs.declared.expr.Operator.TheVariants as o
use Rattle.fortran_tree.specs.declared.expr.PrefixOperator.TheVariants as b
use Rattle.fortran_tree.specs.Expressions as s
use Rattle.fortran_tree.specs.Expressions.{Expression}
use Rattle.fortran_grammar.specs.Tokens as t
use Rattle.fortran_grammar.specs.Tokens.{Token}
use Rattle.fortran_grammar.specs.ExpressionGrammar.{expr}
use Rattle.fortran_grammar.specs.Acceptance.{spelled}
use Rattle.fortran_grammar.proofs.SmallTrees.{here, n, v, i}
use Rattle.fortran_grammar.proofs.Trying.{cut}

-- differences are taken from the left
minus_left : spelled (expr (s.binary o.Subtract (s.binary o.Subtract (v (codes "a") 1) (v (codes "b") 5) (here 1)) (v (codes "c") 9) (here 1))) 64 (cut (codes "a - b - c")) ≡ true
minus_left = refl

-- and not from the right
minus_right : spelled (expr (s.binary o.Subtract (v (codes "a") 1) (s.binary o.Subtract (v (codes "b") 5) (v (codes "c") 9) (here 5)) (here 1))) 64 (cut (codes "a - b - c")) ≡ false
minus_right = refl

-- powers are taken from the right
power_right : spelled (expr (s.binary o.Power (i 2 1) (s.binary o.Power (i 3 6) (i 4 11) (here 6)) (here 1))) 64 (cut (codes "2 ** 3 ** 4")) ≡ true
power_right = refl

-- and not from the left
power_left : spelled (expr (s.binary o.Power (s.binary o.Power (i 2 1) (i 3 6) (here 1)) (i 4 11) (here 1))) 64 (cut (codes "2 ** 3 ** 4")) ≡ false
power_left = refl

-- a product binds tighter than a sum
product_first : spelled (expr (s.binary o.Add (v (codes "a") 1) (s.binary o.Multiply (v (codes "b") 5) (v (codes "c") 9) (here 5)) (here 1))) 64 (cut (codes "a + b * c")) ≡ true
product_first = refl

-- so the sum is no factor
sum_first : spelled (expr (s.binary o.Multiply (s.binary o.Add (v (codes "a") 1) (v (codes "b") 5) (here 1)) (v (codes "c") 9) (here 1))) 64 (cut (codes "a + b * c")) ≡ false
sum_first = refl

-- but in brackets
grouped : spelled (expr (s.binary o.Divide (s.parenthesized (s.binary o.Add (v (codes "a") 3) (v (codes "b") 7) (here 3)) (here 1)) (v (codes "c") 13) (here 1))) 64 (cut (codes "( a + b ) / c")) ≡ true
grouped = refl

-- a sign stands before a term
sign_of_term : spelled (expr (s.binary o.Add (s.prefix b.Minus (v (codes "a") 3) (here 1)) (v (codes "b") 7) (here 1))) 64 (cut (codes "- a + b")) ≡ true
sign_of_term = refl

-- and not before a sum
sign_of_sum : spelled (expr (s.prefix b.Minus (s.binary o.Add (v (codes "a") 3) (v (codes "b") 7) (here 3)) (here 1))) 64 (cut (codes "- a + b")) ≡ false
sign_of_sum = refl

-- a power binds tighter than a sign
sign_of_power : spelled (expr (s.prefix b.Plus (s.binary o.Power (i 2 3) (i 2 8) (here 3)) (here 1))) 64 (cut (codes "+ 2 ** 2")) ≡ true
sign_of_power = refl

-- a sign behind an operator isn't read
sign_behind_plus : spelled (expr (s.binary o.Add (v (codes "a") 1) (s.prefix b.Minus (v (codes "b") 7) (here 5)) (here 1))) 64 (cut (codes "a + - b")) ≡ false
sign_behind_plus = refl

-- nor behind a power
sign_behind_power : spelled (expr (s.binary o.Power (i 2 1) (s.prefix b.Minus (i 1 8) (here 6)) (here 1))) 64 (cut (codes "2 ** - 1")) ≡ false
sign_behind_power = refl

-- but behind a relation, where a sum begins
sign_behind_relation : spelled (expr (s.binary o.Equal (v (codes "a") 1) (s.prefix b.Minus (v (codes "b") 8) (here 6)) (here 1))) 64 (cut (codes "a == - b")) ≡ true
sign_behind_relation = refl

-- .not. isn't doubled
not_not : spelled (expr (s.prefix b.Not (s.prefix b.Not (v (codes "a") 13) (here 7)) (here 1))) 64 (cut (codes ".not. .not. a")) ≡ false
not_not = refl

-- .not. takes a relation
not_of_relation : spelled (expr (s.prefix b.Not (s.binary o.Less (v (codes "a") 7) (v (codes "b") 14) (here 7)) (here 1))) 64 (cut (codes ".not. a .lt. b")) ≡ true
not_of_relation = refl

-- and stands behind .and.
not_behind_and : spelled (expr (s.binary o.And (v (codes "a") 1) (s.prefix b.Not (v (codes "b") 15) (here 9)) (here 1))) 64 (cut (codes "a .and. .not. b")) ≡ true
not_behind_and = refl

-- one relation alone
two_relations : spelled (expr (s.binary o.Equal (s.binary o.NotEqual (v (codes "a") 1) (v (codes "b") 6) (here 1)) (v (codes "c") 11) (here 1))) 64 (cut (codes "a /= b == c")) ≡ false
two_relations = refl

-- each relation has two spellings
relations : spelled (expr (s.binary o.And (s.binary o.LessEqual (v (codes "a") 1) (v (codes "b") 8) (here 1)) (s.binary o.GreaterEqual (v (codes "c") 16) (v (codes "d") 21) (here 16)) (here 1))) 64 (cut (codes "a .le. b .and. c >= d")) ≡ true
relations = refl

-- .and. binds tighter than .or.
and_first : spelled (expr (s.binary o.Or (v (codes "a") 1) (s.binary o.And (v (codes "b") 8) (v (codes "c") 16) (here 8)) (here 1))) 64 (cut (codes "a .or. b .and. c")) ≡ true
and_first = refl

-- .eqv. and .neqv. bind alike, from the left
equivalences : spelled (expr (s.binary o.Neqv (s.binary o.Eqv (v (codes "a") 1) (v (codes "b") 9) (here 1)) (s.binary o.Greater (v (codes "c") 18) (v (codes "d") 22) (here 18)) (here 1))) 64 (cut (codes "a .eqv. b .neqv. c > d")) ≡ true
equivalences = refl

-- logical literals
truths : spelled (expr (s.binary o.Eqv (s.logical true (here 1)) (s.logical false (here 14)) (here 1))) 64 (cut (codes ".true. .eqv. .false.")) ≡ true
truths = refl

-- a function with empty brackets
function_of_nothing : spelled (expr (s.function_reference (n (codes "f") 1) s.no_arguments)) 64 (cut (codes "f ( )")) ≡ true
function_of_nothing = refl

-- a keyword makes it a function
function_by_keyword : spelled (expr (s.function_reference (n (codes "f") 1) (s.more_arguments None (v (codes "a") 5) (s.more_arguments (Some (n (codes "k") 9)) (v (codes "b") 13) s.no_arguments)))) 64 (cut (codes "f ( a , k = b )")) ≡ true
function_by_keyword = refl

-- a plain argument behind a keyword is read
plain_behind_keyword : spelled (expr (s.function_reference (n (codes "f") 1) (s.more_arguments (Some (n (codes "k") 5)) (v (codes "a") 9) (s.more_arguments None (v (codes "b") 13) s.no_arguments)))) 64 (cut (codes "f ( k = a , b )")) ≡ true
plain_behind_keyword = refl

-- plain expressions in brackets are no arguments
plain_function : spelled (expr (s.function_reference (n (codes "f") 1) (s.more_arguments None (v (codes "a") 5) s.no_arguments))) 64 (cut (codes "f ( a )")) ≡ false
plain_function = refl

-- but subscripts
plain_element : spelled (expr (s.designator (s.part_ref (n (codes "f") 1) (s.more_section_subscripts (s.subscript (v (codes "a") 5)) s.no_section_subscripts) s.no_image_selector))) 64 (cut (codes "f ( a )")) ≡ true
plain_element = refl

-- each part of a triplet may be missing
triplets : spelled (expr (s.designator (s.part_ref (n (codes "x") 1) (s.more_section_subscripts (s.triplet s.missing s.missing s.missing (here 5)) (s.more_section_subscripts (s.triplet (s.given (i 1 9)) s.missing (s.given (i 2 15)) (here 9)) (s.more_section_subscripts (s.triplet s.missing (s.given (i 3 21)) s.missing (here 19)) s.no_section_subscripts))) s.no_image_selector))) 64 (cut (codes "x ( : , 1 : : 2 , : 3 )")) ≡ true
triplets = refl

-- an image selector with a specifier
selected : spelled (expr (s.designator (s.part_ref (n (codes "x") 1) (s.more_section_subscripts (s.subscript (i 1 5)) s.no_section_subscripts) (s.image_selector (s.more_expressions (i 2 11) (s.more_expressions (i 3 15) s.no_expressions)) (s.more_specifiers (n (codes "stat") 19) (v (codes "e") 26) s.no_specifiers))))) 64 (cut (codes "x ( 1 ) [ 2 , 3 , stat = e ]")) ≡ true
selected = refl

-- (/ and /) stand for square brackets
selected_by_pairs : spelled (expr (s.designator (s.part_ref (n (codes "x") 1) s.no_section_subscripts (s.image_selector (s.more_expressions (i 2 6) s.no_expressions) s.no_specifiers)))) 64 (cut (codes "x (/ 2 /)")) ≡ true
selected_by_pairs = refl

-- but only both
mixed_pair : spelled (expr (s.designator (s.part_ref (n (codes "x") 1) s.no_section_subscripts (s.image_selector (s.more_expressions (i 2 6) s.no_expressions) s.no_specifiers)))) 64 (cut (codes "x (/ 2 ]")) ≡ false
mixed_pair = refl

-- a selector has a cosubscript
no_cosubscript : spelled (expr (s.designator (s.part_ref (n (codes "x") 1) s.no_section_subscripts (s.image_selector s.no_expressions s.no_specifiers)))) 64 (cut (codes "x [ ]")) ≡ false
no_cosubscript = refl

-- an array constructor
constructor : spelled (expr (s.array_constructor (s.more_expressions (i 1 3) (s.more_expressions (i 2 7) s.no_expressions)) (here 1))) 64 (cut (codes "[ 1 , 2 ]")) ≡ true
constructor = refl

-- in its other spelling
constructor_by_pairs : spelled (expr (s.array_constructor (s.more_expressions (s.parenthesized (i 1 6) (here 4)) s.no_expressions) (here 1))) 64 (cut (codes "(/ ( 1 ) /)")) ≡ true
constructor_by_pairs = refl

-- isn't empty
empty_constructor : spelled (expr (s.array_constructor s.no_expressions (here 1))) 64 (cut (codes "[ ]")) ≡ false
empty_constructor = refl

-- places are those of the tokens
other_place : spelled (expr (s.binary o.Add (v (codes "a") 1) (v (codes "b") 3) (here 1))) 64 (cut (codes "a + b")) ≡ false
other_place = refl

-- also that of an expression
other_first_place : spelled (expr (s.binary o.Add (v (codes "a") 1) (v (codes "b") 5) (here 3))) 64 (cut (codes "a + b")) ≡ false
other_first_place = refl

-- two brackets at a limit of two
two_levels : spelled (expr (s.parenthesized (s.parenthesized (v (codes "a") 5) (here 3)) (here 1))) 2 (cut (codes "( ( a ) )")) ≡ true
two_levels = refl

-- and of one
two_levels_of_one : spelled (expr (s.parenthesized (s.parenthesized (v (codes "a") 5) (here 3)) (here 1))) 1 (cut (codes "( ( a ) )")) ≡ false
two_levels_of_one = refl

-- the operand of a sign is a level
operand_level : spelled (expr (s.prefix b.Minus (v (codes "a") 3) (here 1))) 1 (cut (codes "- a")) ≡ true
operand_level = refl

-- which none allows
operand_too_deep : spelled (expr (s.prefix b.Minus (v (codes "a") 3) (here 1))) 0 (cut (codes "- a")) ≡ false
operand_too_deep = refl

-- so is the right operand of a power
power_too_deep : spelled (expr (s.binary o.Power (v (codes "a") 1) (v (codes "b") 6) (here 1))) 0 (cut (codes "a ** b")) ≡ false
power_too_deep = refl

-- a sum is none
sum_is_no_level : spelled (expr (s.binary o.Add (v (codes "a") 1) (v (codes "b") 5) (here 1))) 0 (cut (codes "a + b")) ≡ true
sum_is_no_level = refl

-- an open bracket is one, even where nothing stands in it
empty_brackets_level : spelled (expr (s.function_reference (n (codes "f") 1) s.no_arguments)) 0 (cut (codes "f ( )")) ≡ false
empty_brackets_level = refl

-- the kind of a number
kind_of_four : spelled (expr (s.number 7 kinds.Four (here 1))) 64 (record { tok = t.integer 7 kinds.Four; at = here 1 } ∷ []) ≡ true
kind_of_four = refl

kind_of_eight : spelled (expr (s.number 7 kinds.Four (here 1))) 64 (record { tok = t.integer 7 kinds.Eight; at = here 1 } ∷ []) ≡ false
kind_of_eight = refl

kind_by_name : spelled (expr (s.number 7 (kinds.Named (codes "k")) (here 1))) 64 (record { tok = t.integer 7 (kinds.Named (codes "k")); at = here 1 } ∷ []) ≡ true
kind_by_name = refl

-- `a` in so many brackets, the outermost at a column
bracketed : ℕ → ℕ → Expression
bracketed zero c = v (codes "a") c
bracketed (suc k) c = s.parenthesized (bracketed k (c + 1)) (here c)

bracket_tokens : ℕ → ℕ → List Token
bracket_tokens zero c = record { tok = t.word (codes "a"); at = here c } ∷ []
bracket_tokens (suc k) c = record { tok = t.sign sign.OpenRound; at = here c } ∷ bracket_tokens k (c + 1) ++ record { tok = t.sign sign.CloseRound; at = here 0 } ∷ []

-- 64 levels are read, and 65 aren't
at_the_limit : spelled (expr (bracketed 64 1)) 64 (bracket_tokens 64 1) ≡ true
unfolding bracketed bracket_tokens
at_the_limit = refl

past_the_limit : spelled (expr (bracketed 65 1)) 64 (bracket_tokens 65 1) ≡ false
unfolding bracketed bracket_tokens
past_the_limit = refl
