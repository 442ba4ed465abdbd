-- What breaks in the attributes of a declaration, one behind the other.
use Rattle.std.specs.Prelude.{List, [], ◌∷◌, ◌++◌, Some}
use Rattle.fortran_tree.specs.Statements as d
use Rattle.rule_definitions.specs.declared.broken.Broken.{Broken}
use Rattle.rule_definitions.specs.Names.{Scope}
use Rattle.rule_definitions.specs.Declarations.{raw_coshape_breaks, raw_dimensions_breaks}

abbrev pub one_attribute_breaks : Scope → d.Attribute → List Broken
one_attribute_breaks s (d.dimension ds) = raw_dimensions_breaks s ds
one_attribute_breaks s (d.codimension c) = raw_coshape_breaks s (Some c)
one_attribute_breaks s d.parameter = []
one_attribute_breaks s d.allocatable = []
one_attribute_breaks s d.save = []
one_attribute_breaks s (d.intent i) = []
