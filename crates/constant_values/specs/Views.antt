-- What is known of an expression before the run, as the definitions say it.
use Rattle.std.specs.Prelude.{ℤ, Bool, true, false, cond, Option, Some, None}
use Rattle.caf_base.specs.declared.value.Value.{Value}
use Rattle.caf_base.specs.declared.value.Value.TheVariants.{Int, Bool as Truth}
use Rattle.rule_definitions.specs.Constants as k
use Rattle.rule_definitions.specs.Constants.{as_constant}
use Rattle.checked_tree.specs.Expressions as t
use Rattle.constant_values.specs.declared.constancy.Constancy.{Constancy}
use Rattle.constant_values.specs.declared.constancy.Constancy.TheVariants as constancies
use Rattle.constant_values.specs.declared.known.Known.{Known}
use Rattle.constant_values.specs.declared.part.Part.{Part}
use Rattle.constant_values.specs.declared.part.Part.TheVariants as parts
use Rattle.constant_values.specs.declared.part.Section.{Section}
use Rattle.constant_values.specs.declared.part.Section.TheVariants as sections

abbrev pub constancy : Constancy → k.Constancy
constancy (constancies.Value v) = k.value v
constancy (constancies.Values ns vs) = k.values ns vs
constancy constancies.NoConstant = k.no_constant

abbrev pub known : Known → k.Known
known x = record { constancy = constancy x.constancy; bounds = x.bounds }

-- a scalar, where there is one
abbrev pub as_scalar : Option Value → k.Constancy
as_scalar None = k.no_constant
as_scalar (Some v) = k.value v

abbrev pub as_truth : Option Bool → k.Constancy
as_truth None = k.no_constant
as_truth (Some b) = k.value (Truth b)

-- the integer that a constant is, the logical that it is
abbrev pub integer_of : k.Constancy → Option ℤ
integer_of (k.value (Int n)) = Some n
integer_of c = None

abbrev pub truth_of : k.Constancy → Option Bool
truth_of (k.value (Truth b)) = Some b
truth_of c = None

-- what is made of an integer, of two, of a logical, of two, where they are known
abbrev pub of_number : (ℤ → k.Constancy) → Option ℤ → k.Constancy
of_number f (Some a) = f a
of_number f None = k.no_constant

abbrev pub of_numbers : (ℤ → ℤ → k.Constancy) → Option ℤ → Option ℤ → k.Constancy
of_numbers f (Some a) (Some b) = f a b
of_numbers f a b = k.no_constant

abbrev pub of_truths : (Bool → Bool → Bool) → Option Bool → Option Bool → k.Constancy
of_truths f (Some a) (Some b) = k.value (Truth (f a b))
of_truths f a b = k.no_constant

-- a part of a subscript of which the integer alone is kept
abbrev pub part : Part → k.TripletPart
part parts.Unwritten = k.unwritten
part (parts.Written o) = k.written (as_constant o)

abbrev pub subscript : Section → k.KnownSubscript
subscript (sections.Element o) = k.known_element (as_constant o)
subscript (sections.Triplet a b c) = k.known_triplet (part a) (part b) (part c)

abbrev pub plain_part : k.TripletPart → k.TripletPart
plain_part k.unwritten = k.unwritten
plain_part (k.written c) = k.written (as_constant (integer_of c))

abbrev pub plain_subscript : k.KnownSubscript → k.KnownSubscript
plain_subscript (k.known_element c) = k.known_element (as_constant (integer_of c))
plain_subscript (k.known_triplet a b c) = k.known_triplet (plain_part a) (plain_part b) (plain_part c)

-- a selector, or none
abbrev pub some_selector : Bool → t.Selector
some_selector b = cond b (t.selector t.no_expressions t.current t.no_result) t.no_selector

abbrev pub is_there_selector : t.Selector → Bool
is_there_selector t.no_selector = false
is_there_selector (t.selector es y r) = true
