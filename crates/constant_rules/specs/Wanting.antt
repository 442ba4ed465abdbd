-- Forms of which a value may be wanting (10.1.12).
use Rattle.std.specs.Prelude.{Bool, true, false, List, [], ◌∷◌, ◌||◌}
use Rattle.checked_tree.specs.Expressions as t
use Rattle.checked_tree.specs.declared.data.Object.{Object}
use Rattle.checked_tree.specs.declared.data.Object.TheVariants as objects
use Rattle.fortran_tree.specs.Expressions as f
use Rattle.fortran_tree.specs.ExpressionViews.{expression}
use Rattle.fortran_tree.specs.declared.expr.Link.{Link}
use Rattle.rule_definitions.specs.Names.{Scope}
use Rattle.rule_definitions.specs.Declarations.{lacks_value, is_inquired}

-- the operand of a further operator
abbrev pub link_lacks_value : Scope → List Link → Bool
link_lacks_value s [] = false
link_lacks_value s (k ∷ ks) = lacks_value s (expression k.operand) || link_lacks_value s ks

abbrev pub is_object_variable : Object → Bool
is_object_variable (objects.Constant n) = false
is_object_variable (objects.Local l) = true
is_object_variable (objects.Coarray n) = true

abbrev pub is_part_variable : t.Designator → Bool
is_part_variable (t.part o ss c) = is_object_variable o

-- a variable or a part of one
abbrev pub is_variable : t.Form → Bool
is_variable (t.designator d) = is_part_variable d
is_variable e = false

abbrev pub is_item_inquired : Scope → f.SectionSubscript → Bool
is_item_inquired s (f.subscript e) = is_inquired s e
is_item_inquired s (f.triplet a b c p) = true
