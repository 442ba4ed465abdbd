-- Arguments with the dummies of a procedure of the program, from the front of a list to its end.
use Rattle.std.proofs.Common.{◌≡◌, ◌∙◌, refl, ap, sym, ℕ, List, [], ◌∷◌}
use Rattle.std.specs.Prelude.{Bool, true, false, not, cond, nat_le, ◌||◌, ◌++◌, Some, None, length, map}
use Rattle.std.specs.Option.{option_map}
use Rattle.caf_base.specs.declared.place.Pos.{Pos}
use Rattle.checked_tree.specs.Expressions as t
use Rattle.checked_tree.specs.declared.data.DataType.{DataType}
use Rattle.checked_tree.specs.ExpressionViews.{argument, arguments as arguments_seen}
use Rattle.checked_tree.specs.declared.expr.Argument.{Argument as HeldArgument}
use Rattle.rule_definitions.specs.Arguments.{Actual, argument_for, breaks_in, breaks_in_all, number_breaks, paired, paired_all, takes_value}
use Rattle.rule_definitions.specs.Judgements.{Judgement, all_made, both, is_nothing, unless}
use Rattle.rule_definitions.specs.Names.{Scope, Symbol}
use Rattle.part_rules.proofs.Gathering.{folded, folded_both}
use Rattle.call_rules.specs.Pairs.{argument_as, argument_behind, argument_list, are_over, dummies_after, dummies_behind, over_after}

abbrev pub listed : List t.Argument → t.Arguments
listed xs = folded t.no_arguments t.more_arguments xs

pub listed_arguments : (xs : List HeldArgument) → arguments_seen xs ≡ listed (map argument xs)
listed_arguments [] = refl
listed_arguments (x ∷ xs) = ap (t.more_arguments (argument x)) (listed_arguments xs)

rest_over : (s : Scope) (as' : List Actual) → breaks_in_all as' ≡ (all_made (argument_list s [] true as')).breaks
rest_over s [] = refl
rest_over s (a ∷ rest) = ap (λ bs. breaks_in a ++ bs) (rest_over s rest)

pub paired_breaks : (s : Scope) (ds : List Symbol) (as' : List Actual) → (paired_all s ds as').breaks ≡ (all_made (argument_list s ds false as')).breaks
paired_breaks s [] [] = refl
paired_breaks s [] (a ∷ rest) = ap (λ bs. (argument_behind s [] false a).breaks ++ bs) (rest_over s rest)
paired_breaks s (d ∷ ds) [] = refl
paired_breaks s (d ∷ ds) (a ∷ rest) = ap (λ bs. (paired s d a).breaks ++ bs) (paired_breaks s ds rest)

pub paired_meaning : (s : Scope) (ds : List Symbol) (as' : List Actual) → (paired_all s ds as').meaning ≡ option_map listed (all_made (argument_list s ds false as')).meaning
paired_meaning s [] [] = refl
paired_meaning s [] (a ∷ rest) = refl
paired_meaning s (d ∷ ds) [] = refl
paired_meaning s (d ∷ ds) (a ∷ rest) =
    ap (both t.more_arguments (paired s d a).meaning) (paired_meaning s ds rest)
    ∙ sym (folded_both t.no_arguments t.more_arguments (paired s d a).meaning (all_made (argument_list s ds false rest)).meaning)

pub one_behind : (s : Scope) (ds : List Symbol) (over : Bool) (as' : List Actual) (a : Actual)
    → argument_list s ds over (as' ++ a ∷ []) ≡ argument_list s ds over as' ++ argument_behind s (dummies_after ds as') (over_after ds over as') a ∷ []
one_behind s ds over [] a = refl
one_behind s ds over (x ∷ xs) a = ap (λ js. argument_behind s ds over x ∷ js) (one_behind s (dummies_behind ds) (are_over ds) xs a)

pub dummies_left : (ds : List Symbol) (as' : List Actual) (a : Actual) → dummies_after ds (as' ++ a ∷ []) ≡ dummies_behind (dummies_after ds as')
dummies_left ds [] a = refl
dummies_left ds (x ∷ xs) a = dummies_left (dummies_behind ds) xs a

pub over_behind : (ds : List Symbol) (over : Bool) (as' : List Actual) (a : Actual) → over_after ds over (as' ++ a ∷ []) ≡ are_over (dummies_after ds as')
over_behind ds over [] a = refl
over_behind ds over (x ∷ xs) a = over_behind (dummies_behind ds) (are_over ds) xs a

said_if : (b c : Bool) (p : Pos) → cond b (unless c 45 p) [] ≡ unless (not b || c) 45 p
said_if true c p = refl
said_if false c p = refl

pub number_said : (ds : List Symbol) (as' : List Actual) (p : Pos) → number_breaks ds as' p ≡ unless (not (is_nothing (breaks_in_all as')) || nat_le (length ds) (length as')) 45 p
number_said ds as' p = said_if (is_nothing (breaks_in_all as')) (nat_le (length ds) (length as')) p

as_designator : (b : Bool) (v : t.Designator) (y : DataType) (r : ℕ) → cond b (t.value (t.typed (t.designator v) y r)) (t.variable v) ≡ argument_as b (t.typed (t.designator v) y r)
as_designator true v y r = refl
as_designator false v y r = refl

as_value : (b : Bool) (x : t.Expression) → t.value x ≡ argument_as false x → t.value x ≡ argument_as b x
as_value true x e = refl
as_value false x e = e

pub argument_is : (d : Symbol) (x : t.Expression) → argument_for d x ≡ argument_as (takes_value d) x
argument_is d (t.typed (t.designator v) y r) = as_designator (takes_value d) v y r
argument_is d (t.typed f y r) = as_value (takes_value d) (t.typed f y r) refl
