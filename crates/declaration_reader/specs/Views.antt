-- What pieces of declarations in memory stand for.
use Rattle.std.specs.Prelude.{List, Option, map}
use Rattle.std.specs.declared.alloc.Global.{Global}
use Rattle.std.specs.declared.vec.Vec.{Vec}
use Rattle.fortran_tree.specs.ExpressionViews.{expression}
use Rattle.fortran_tree.specs.DeclarationViews.{attribute, declaration_type_spec, dimension, maybe_coarray_spec}
use Rattle.fortran_tree.specs.Statements as s
use Rattle.fortran_tree.specs.Units.{PrefixSpec}
use Rattle.fortran_tree.specs.UnitViews.{prefix_spec}
use Rattle.fortran_tree.specs.declared.name.Name.{Name}
use Rattle.fortran_tree.specs.declared.declaration.Coshape.{Coshape}
use Rattle.fortran_tree.specs.declared.declaration.Dimension.{Dimension}
use Rattle.statement_reader.specs.Dimensions as d
use Rattle.declaration_reader.specs.declared.cobound.Cobound.{Cobound}
use Rattle.declaration_reader.specs.declared.declaration.TypeWithAttributes.{TypeWithAttributes}
use Rattle.declaration_reader.specs.declared.function.FunctionParts.{FunctionParts}

abbrev pub bound_of : Cobound → d.Bound
bound_of b = (expression b.value, b.is_lower)

abbrev pub shape_of : Vec Dimension Global × Option Coshape → List s.Dimension × Option s.CoarraySpec
shape_of q = (map dimension q.0.items, maybe_coarray_spec q.1)

abbrev pub declared_of : TypeWithAttributes → s.DeclarationTypeSpec × List s.Attribute
declared_of q = (declaration_type_spec q.type_spec, map attribute q.attributes.items)

abbrev pub parts_of : FunctionParts → List PrefixSpec × (Name × (List Name × Option Name))
parts_of q = (map prefix_spec q.prefixes.items, (q.name, (q.dummies.items, q.result)))
