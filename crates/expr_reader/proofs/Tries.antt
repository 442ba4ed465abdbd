-- Some texts, with their answers worked out by hand.
use Rattle.std.proofs.Common.{◌≡◌, [], refl, codes}
use Rattle.reader_theory.specs.Words.{expected, too_deep, found, fault}
use Rattle.fortran_tree.specs.declared.expr.Operator.TheVariants as o
use Rattle.fortran_tree.specs.Expressions as s
use Rattle.fortran_grammar.proofs.SmallTrees.{here, n, v, i}
use Rattle.fortran_grammar.proofs.Trying.{cut}
use Rattle.expr_reader.specs.Reading.{tier}
use Rattle.expr_reader.specs.Full.{full}

from_left : (full 3).expression (cut (codes "a - b * c - d")) ≡ found (s.binary o.Subtract (s.binary o.Subtract (v (codes "a") 1) (s.binary o.Multiply (v (codes "b") 5) (v (codes "c") 9) (here 5)) (here 1)) (v (codes "d") 13) (here 1)) []
unfolding tier
from_left = refl

-- a sign isn't read behind `**`
no_sign : (full 3).expression (cut (codes "2 ** - 1")) ≡ fault expected (cut (codes "     - 1"))
unfolding tier
no_sign = refl

-- an argument with a keyword behind a triplet
no_keyword : (full 3).expression (cut (codes "x ( 1 : 2 , k = 3 )")) ≡ fault expected (cut (codes "              = 3 )"))
unfolding tier
no_keyword = refl

-- a function has no selector: the bracket is left over
no_selector : (full 3).expression (cut (codes "f ( ) [ 1 ]")) ≡ found (s.function_reference (n (codes "f") 1) s.no_arguments) (cut (codes "      [ 1 ]"))
unfolding tier
no_selector = refl

-- with one level left the second bracket is too deep, with two it isn't
second_bracket : (full 1).expression (cut (codes "( ( a ) )")) ≡ fault too_deep (cut (codes "  ( a ) )"))
unfolding tier
second_bracket = refl

-- the operand of a sign is a level, its first token the place
deep_operand : (full 0).expression (cut (codes "- a")) ≡ fault too_deep (cut (codes "  a"))
unfolding tier
deep_operand = refl

-- a selector with a specifier
selector : (full 2).expression (cut (codes "y [ 2 , stat = s ]")) ≡ found (s.designator (s.part_ref (n (codes "y") 1) s.no_section_subscripts (s.image_selector (s.more_expressions (i 2 5) s.no_expressions) (s.more_specifiers (n (codes "stat") 9) (v (codes "s") 16) s.no_specifiers)))) []
unfolding tier
selector = refl

-- with no level left a bracket behind a name is too deep, though the name alone is an expression
no_level : (full 0).expression (cut (codes "f ( 1 )")) ≡ fault too_deep (cut (codes "  ( 1 )"))
unfolding tier
no_level = refl

-- one relation alone: the second isn't read
one_relation : (full 3).expression (cut (codes "a == b == c")) ≡ found (s.binary o.Equal (v (codes "a") 1) (v (codes "b") 6) (here 1)) (cut (codes "       == c"))
unfolding tier
one_relation = refl

-- an operand is missing
no_operand : (full 3).expression (cut (codes "a + )")) ≡ fault expected (cut (codes "    )"))
unfolding tier
no_operand = refl
