-- Some texts, with their answers worked out by hand.
use Rattle.std.proofs.Common.{◌≡◌, [], ◌∷◌, refl, codes, Some, None}
use Rattle.checked_tree.specs.declared.format.Descriptor.TheVariants.{Integer, Logical, Character, Skip, Literal}
use Rattle.rule_definitions.specs.Formats.{descriptors}

each_kind : descriptors (codes "(I0, 3i5, L1, 2X, A, 'it''s')") ≡ Some (Integer 1 0 ∷ Integer 3 5 ∷ Logical 1 1 ∷ Skip 2 ∷ Character ∷ Literal (codes "it's") ∷ [])
each_kind = refl

greatest : descriptors (codes "(99i99,99l99,99x)") ≡ Some (Integer 99 99 ∷ Logical 99 99 ∷ Skip 99 ∷ [])
greatest = refl

-- 1 to 99
too_great : descriptors (codes "(100x)") ≡ None
too_great = refl

too_wide : descriptors (codes "(i100)") ≡ None
too_wide = refl

no_times : descriptors (codes "(0i3)") ≡ None
no_times = refl

no_width : descriptors (codes "(l0)") ≡ None
no_width = refl

-- no leading zero
zero_count : descriptors (codes "(05x)") ≡ None
zero_count = refl

zero_width : descriptors (codes "(i00)") ≡ None
zero_width = refl

-- what needs a number, and what has none
without_width : descriptors (codes "(i)") ≡ None
without_width = refl

without_count : descriptors (codes "(x)") ≡ None
without_count = refl

counted_character : descriptors (codes "(2a)") ≡ None
counted_character = refl

wide_character : descriptors (codes "(a5)") ≡ None
wide_character = refl

-- blanks are passed over, outside of literals
blanks : descriptors (codes " ( 1 0 I 5 , ' , )' ) ") ≡ Some (Integer 10 5 ∷ Literal (codes " , )") ∷ [])
blanks = refl

empty : descriptors (codes "( )") ≡ Some []
empty = refl

-- lists that are none
no_brackets : descriptors (codes "i0") ≡ None
no_brackets = refl

left_open : descriptors (codes "(i0") ≡ None
left_open = refl

more_behind : descriptors (codes "(i0)x") ≡ None
more_behind = refl

no_item : descriptors (codes "(i0,,i0)") ≡ None
no_item = refl

no_comma : descriptors (codes "('a' 'b')") ≡ None
no_comma = refl

group : descriptors (codes "(2(i0))") ≡ None
group = refl

open_literal : descriptors (codes "('a)") ≡ None
open_literal = refl
