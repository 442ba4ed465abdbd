-- Entities, by what is asked of their expressions: the words of the definitions of declarations (8.2, 8.4, 8.5),
-- without the scope.
use Rattle.std.specs.Prelude.{ℕ, Bool, cond, length, nat_eq, List, [], ◌∷◌, ◌++◌, Option, Some, None, map}
use Rattle.caf_base.specs.declared.place.Pos.{Pos}
use Rattle.fortran_tree.specs.Statements as d
use Rattle.checked_tree.specs.declared.data.DataType.{DataType}
use Rattle.checked_tree.specs.declared.data.Codimensions.{Codimensions}
use Rattle.checked_tree.specs.declared.data.Home.TheVariants.{Own}
use Rattle.checked_tree.specs.declared.data.Object.{Object}
use Rattle.checked_tree.specs.declared.data.Object.TheVariants as objects
use Rattle.rule_definitions.specs.declared.broken.Broken.{Broken}
use Rattle.rule_definitions.specs.Judgements.{Judgement, breaks, fine, is_nothing, made_of}
use Rattle.rule_definitions.specs.Names.{KnownBounds, Named, Scope, named, variables_of}
use Rattle.rule_definitions.specs.Names
use Rattle.rule_definitions.specs.Constants.{Constancy}
use Rattle.rule_definitions.specs.Declarations.{Attributes, Unit', constant_entity, corank_of, effective_coshape, effective_dimensions, initial_of, is_named_constant, count_coarrays, role_of, whole_breaks, with_name}
use Rattle.declaration_rules.specs.Asked.{Asked}
use Rattle.declaration_rules.specs.Bounds.{maybe_asked, maybe_asked_of}
use Rattle.declaration_rules.specs.Initials.{initial_asked}
use Rattle.declaration_rules.specs.Shapes.{AskedDimension, asked_dimension, dimension_asked_of, dimensions_asked, known_dimension, raw_asked, raw_dimensions_asked}
use Rattle.unit_scopes.specs.Coshapes.{AskedCoshape, coshape_asked_breaks, coshape_asked_known, maybe_coshape, maybe_coshape_of, raw_coshape_asked}
use Rattle.unit_scopes.specs.declared.entity.AskedEntity.{AskedEntity as EntityInMemory}

pub record AskedEntity : Type 0 where
  pub dimensions : List AskedDimension
  pub coshape : Option AskedCoshape
  pub initial : Option Asked

abbrev pub asked_entity : EntityInMemory → AskedEntity
asked_entity q = record { dimensions = map asked_dimension q.dimensions.items; coshape = maybe_coshape q.coshape; initial = maybe_asked q.initial }

-- what is asked of an entity in a scope
unfoldable pub entity_asked_of : Scope → Attributes → d.Entity → AskedEntity
entity_asked_of s a e = record {
  dimensions = map (dimension_asked_of s) (effective_dimensions a e);
  coshape = maybe_coshape_of s (effective_coshape a e);
  initial = maybe_asked_of s e.initial;
}

-- what breaks in the expressions alone
abbrev pub raw_entity_asked : AskedEntity → List Broken
raw_entity_asked q = raw_dimensions_asked q.dimensions ++ (raw_coshape_asked q.coshape ++ raw_asked q.initial)

-- of an entity whose name is declared already
abbrev pub repeated_asked : AskedEntity → Pos → List Broken
repeated_asked q p = cond (is_nothing (raw_entity_asked q)) (breaks 21 p) (raw_entity_asked q)

abbrev pub known_shape : Attributes → AskedEntity → List KnownBounds
known_shape a q = map (known_dimension a.is_allocatable) q.dimensions

abbrev pub initial_of_asked : Unit' → Attributes → List ℕ → Option DataType → List KnownBounds → Option Asked → Judgement (Option Constancy)
initial_of_asked u a n y ds None = fine None
initial_of_asked u a n y ds (Some x) = made_of Some (initial_asked u (is_named_constant u a n) a.is_allocatable y ds x)

-- the rules on an entity as a whole, unless something breaks in its expressions
abbrev pub whole_unless_raw : Unit' → Attributes → Option DataType → d.Entity → AskedEntity → List Broken
whole_unless_raw u a y e q = cond (is_nothing (raw_entity_asked q)) (whole_breaks u a y e (effective_dimensions a e) (effective_coshape a e)) []

-- all rules that a new entity breaks
abbrev pub new_entity_breaks : Unit' → Attributes → Option DataType → d.Entity → AskedEntity → List Broken
new_entity_breaks u a y e q =
    whole_unless_raw u a y e q
    ++ (dimensions_asked a.is_allocatable q.dimensions
    ++ (coshape_asked_breaks a.is_allocatable q.coshape
    ++ (initial_of_asked u a e.name.text y (known_shape a q) q.initial).breaks))

-- the object that the next variable of a scope with these names is
abbrev pub object_behind : List Named → ℕ → Object
object_behind own corank = cond (nat_eq corank 0) (objects.Local (record { home = Own; variable = length (variables_of own) })) (objects.Coarray (count_coarrays (variables_of own)))

-- a variable with these bounds, this coshape and this initial value
abbrev pub variable_made : List Named → Unit' → Attributes → Option DataType → d.Entity → List KnownBounds → Codimensions → Option (Option Constancy) → Named
variable_made own u a y e ds c j = named e.name.text (Names.variable (record {
  name = e.name.text;
  at = e.name.at;
  object = object_behind own (corank_of (effective_coshape a e));
  of_type = y;
  bounds = ds;
  coshape = c;
  corank = corank_of (effective_coshape a e);
  is_allocatable = a.is_allocatable;
  role = role_of u a e.name.text;
  initial = initial_of j;
}))

-- the scope behind a new entity with these
abbrev pub scope_of_parts : Scope → Unit' → Attributes → Option DataType → d.Entity → List KnownBounds → Codimensions → Option (Option Constancy) → Scope
scope_of_parts s u a y e ds c j = cond (is_named_constant u a e.name.text) (constant_entity s ds y e j) (with_name s (variable_made s.own u a y e ds c j))

abbrev pub scope_behind : Scope → Unit' → Attributes → Option DataType → d.Entity → AskedEntity → Scope
scope_behind s u a y e q = scope_of_parts s u a y e (known_shape a q) (coshape_asked_known q.coshape) (initial_of_asked u a e.name.text y (known_shape a q) q.initial).meaning
