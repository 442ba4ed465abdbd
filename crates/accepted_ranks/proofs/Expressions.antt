-- Each expression of a scope with the program's ranks has its rank.
use Rattle.std.proofs.Common.{List, refl}
use Rattle.fortran_tree.specs.Expressions as f
use Rattle.checked_tree.specs.Expressions as t
use Rattle.checked_tree.specs.Statements.{Procedure}
use Rattle.rule_definitions.specs.Names.{Scope, denotes}
use Rattle.rule_definitions.specs.Parts.{truth}
use Rattle.rule_definitions.specs.Expressions.{judged, judged_designator, judged_brackets, judged_bracket, judged_bound, judged_selector, judged_list, judged_specifiers, judged_arguments, placed}
use Rattle.accepted_ranks.specs.Kinded as ranks
use Rattle.accepted_ranks.specs.Scopes.{AreRanks}
use Rattle.accepted_ranks.proofs.Means.{Means, fine_means, made_means, three_means}
use Rattle.accepted_ranks.proofs.Parts.{AllGood, number_means, parenthesized_means, constructor_means, prefix_means, binary_means, integer_means}
use Rattle.accepted_ranks.proofs.Specifiers.{AllWritten}
use Rattle.accepted_ranks.proofs.Arguments.{PartGood, AllActuals}
use Rattle.accepted_ranks.proofs.Designators.{selector_means, referenced_means, designated_means}

module _ (ps : List Procedure) (s : Scope) (r : AreRanks ps s) where
  mutual
    pub judged_means : (e : f.Expression) → Means (judged s e) (ranks.IsRanked ps)
    judged_means (f.number n k p) = number_means ps s k n p
    judged_means (f.logical b p) = fine_means (truth (t.logical b)) refl
    judged_means (f.designator d) = judged_designator_means d
    judged_means (f.function_reference n xs) = referenced_means ps s r (denotes s n.text) n.at (judged_arguments s xs) (arguments_all xs)
    judged_means (f.parenthesized e p) = parenthesized_means ps (placed s e) (judged_means e)
    judged_means (f.array_constructor es p) = constructor_means ps (judged_list s es) (list_all es)
    judged_means (f.prefix o e p) = prefix_means ps o (placed s e) (judged_means e)
    judged_means (f.binary o a b p) = binary_means ps o (placed s a) (placed s b) (judged_means a) (judged_means b)

    pub judged_designator_means : (d : f.Designator) → Means (judged_designator s d) (ranks.IsRanked ps)
    judged_designator_means (f.part_ref n ss c) = designated_means ps s r n.text (denotes s n.text) n.at (judged_brackets s ss) (judged_selector s c) refl (brackets_all ss) (selector_all c)

    pub brackets_all : (ss : f.SectionSubscripts) → AllActuals ps (judged_brackets s ss)
    brackets_all f.no_section_subscripts = tt
    brackets_all (f.more_section_subscripts x rest) = (bracket_good x, brackets_all rest)

    bracket_good : (x : f.SectionSubscript) → PartGood ps (judged_bracket s x).part
    bracket_good (f.subscript e) = judged_means e
    bracket_good (f.triplet a b c p) = three_means t.triplet (bound_means a) (bound_means b) (bound_means c) (λ x y z u v w. ((u, v, w), refl))

    bound_means : (o : f.OptionalExpression) → Means (judged_bound s o) (ranks.IsOptionalScalar ps)
    bound_means f.missing = fine_means t.missing tt
    bound_means (f.given e) = made_means t.given (integer_means ps 31 (placed s e) (judged_means e)) (λ x u. u)

    pub selector_all : (c : f.ImageSelector) → Means (judged_selector s c).judged (ranks.IsSelector ps)
    selector_all f.no_image_selector = fine_means t.no_selector tt
    selector_all (f.image_selector es xs) = selector_means ps (judged_list s es) (judged_specifiers s xs) (list_all es) (specifiers_all xs)

    pub list_all : (es : f.Expressions) → AllGood ps (judged_list s es)
    list_all f.no_expressions = tt
    list_all (f.more_expressions e rest) = (judged_means e, list_all rest)

    pub specifiers_all : (xs : f.Specifiers) → AllWritten ps (judged_specifiers s xs)
    specifiers_all f.no_specifiers = tt
    specifiers_all (f.more_specifiers n e rest) = (judged_means e, specifiers_all rest)

    pub arguments_all : (xs : f.Arguments) → AllActuals ps (judged_arguments s xs)
    arguments_all f.no_arguments = tt
    arguments_all (f.more_arguments k e rest) = (judged_means e, arguments_all rest)
