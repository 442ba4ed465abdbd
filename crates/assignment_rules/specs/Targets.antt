-- Left sides of assignments, part by part.
use Rattle.std.specs.Prelude.{ℕ, Bool, true, false, cond, nat_eq, not, ◌||◌, ◌&&◌, List, Option, Some, None}
use Rattle.fortran_tree.specs.Expressions as f
use Rattle.fortran_tree.specs.declared.name.Name.{Name}
use Rattle.checked_tree.specs.Expressions as t
use Rattle.checked_tree.specs.declared.data.DataType.{DataType}
use Rattle.checked_tree.specs.declared.data.Local.{Local}
use Rattle.checked_tree.specs.declared.data.Object.{Object}
use Rattle.checked_tree.specs.declared.data.Object.TheVariants as objects
use Rattle.rule_definitions.specs.declared.broken.Broken.{Broken}
use Rattle.rule_definitions.specs.Actions.{Site, bracket_breaks, is_definable_object, is_selected, is_value_type}
use Rattle.rule_definitions.specs.IntrinsicFunctions.{is_allocatable_symbol}
use Rattle.rule_definitions.specs.Judgements.{Judgement, refused_around}
use Rattle.rule_definitions.specs.Names.{Scope, is_integer, symbol_of}

abbrev pub name_of : f.Designator → Name
name_of (f.part_ref n ss c) = n

-- what breaks in the brackets and in the selector of a designator
abbrev pub parts_breaks : Scope → f.Designator → List Broken
parts_breaks s (f.part_ref n ss c) = bracket_breaks s ss c

-- Rules 34 and 47: a procedure as a left side
abbrev pub procedure_target : Scope → f.Designator → Judgement t.Expression
procedure_target s (f.part_ref n ss c) = refused_around (bracket_breaks s ss c) (cond (is_selected c) 34 47) n.at

-- whether a part of a variable of this type may be defined
abbrev pub is_definable_part : Site → t.Designator → DataType → Bool
is_definable_part x (t.part o ss c) y = is_definable_object x o && is_value_type y

abbrev pub is_definable_in : Site → Option t.Designator → DataType → Bool
is_definable_in x None y = false
is_definable_in x (Some d) y = is_definable_part x d y

-- the object that a designator is as a whole: without subscripts and selector (9.5.2)
abbrev pub whole_part : t.Designator → Option Object
whole_part (t.part o t.no_subscripts t.no_selector) = Some o
whole_part d = None

abbrev pub whole_in : Option t.Designator → Option Object
whole_in None = None
whole_in (Some d) = whole_part d

-- whether an object as a whole, of this type and rank, takes a list of images
abbrev pub takes_list : Scope → Option Object → DataType → ℕ → Bool
takes_list s (Some (objects.Local l)) y r = is_integer y && (nat_eq r 1 && is_allocatable_symbol (symbol_of s (objects.Local l)))
takes_list s o y r = false

-- the local variable that a designator is or is a part of
abbrev pub local_part : t.Designator → Option Local
local_part (t.part (objects.Local l) ss c) = Some l
local_part d = None

abbrev pub local_in : Option t.Designator → Option Local
local_in None = None
local_in (Some d) = local_part d
