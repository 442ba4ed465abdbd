-- Attributes and units in memory, as the definitions say them.
use Rattle.std.specs.Prelude.{List, ℕ, Option, Some, None, map}
use Rattle.std.specs.Borrow.{Bor}
use Rattle.fortran_tree.specs.DeclarationViews.{dimension, coarray_spec}
use Rattle.fortran_tree.specs.Statements as d
use Rattle.fortran_tree.specs.declared.declaration.Coshape.{Coshape}
use Rattle.fortran_tree.specs.declared.name.Name.{Name}
use Rattle.rule_definitions.specs.Declarations as r
use Rattle.declaration_rules.specs.declared.attribute.Attributes.{Attributes}
use Rattle.declaration_rules.specs.declared.attribute.DeclaringUnit.{DeclaringUnit}

abbrev pub lent_coshape : Option (Bor Coshape) → Option d.CoarraySpec
lent_coshape None = None
lent_coshape (Some c) = Some (coarray_spec c.now)

abbrev pub lent_text : Option (Bor Name) → Option (List ℕ)
lent_text None = None
lent_text (Some n) = Some n.now.text

abbrev pub attributes : Attributes → r.Attributes
attributes a = record {
  is_parameter = a.is_parameter;
  is_allocatable = a.is_allocatable;
  is_saved = a.is_saved;
  intent = a.intent;
  dimensions = map dimension a.dimensions.now;
  coshape = lent_coshape a.coshape;
}

abbrev pub unit : DeclaringUnit → r.Unit'
unit u = record { is_procedure = u.is_procedure; dummies = u.dummies; answer = lent_text u.answer; is_answer_typed = u.is_answer_typed }
