-- What is known behind declarations: the first of the rules that they break, and the scope that they make.
use Rattle.std.specs.Prelude.{List, Option, ◌++◌}
use Rattle.checked_tree.specs.declared.data.DataType.{DataType}
use Rattle.checked_tree.specs.declared.data.DataType.TheVariants.{Intrinsic}
use Rattle.fortran_tree.specs.Expressions as f
use Rattle.fortran_tree.specs.Statements as d
use Rattle.rule_definitions.specs.declared.broken.Broken.{Broken}
use Rattle.rule_definitions.specs.Judgements.{Judgement, first_of, made_of}
use Rattle.rule_definitions.specs.Names.{Scope}
use Rattle.rule_definitions.specs.Declarations.{Attributes, Declared, Unit', attribute_breaks, declared, declared_all, declared_entities, declared_entity, declared_kind, type_judged}
use Rattle.declaration_rules.specs.Bounds.{kinds_of}
use Rattle.declaration_rules.specs.declared.kind.KindOf.{KindOf}
use Rattle.unit_scopes.specs.declared.grown.Grown.{Grown}

pub record Told : Type 0 where
  pub first : Option Broken
  pub scope : Scope

-- a scope with other names of its own, and other array constants
unfoldable pub grown_scope : Scope → Grown → Scope
grown_scope s g = record s { own = g.own; constants = g.constants.items }

-- what is known, where what the scope has besides is this one's
unfoldable pub told : Scope → Grown → Told
told s g = record { first = g.first; scope = grown_scope s g }

-- what is known behind declarations
unfoldable pub behind : (Scope → Declared) → Told → Told
behind f k = record { first = first_of k.first (f k.scope).breaks; scope = (f k.scope).scope }

-- one entity, the entities of a declaration, one declaration
unfoldable pub of_entity : Unit' → Attributes → Option DataType → d.Entity → Scope → Declared
of_entity u a y e s = declared_entity s u a y e

unfoldable pub of_entities : Unit' → Attributes → Option DataType → List d.Entity → Scope → Declared
of_entities u a y es s = declared_entities u a y es s

unfoldable pub of_declaration : Unit' → d.Declaration → Scope → Declared
of_declaration u x s = declared u x s

unfoldable pub of_all : Unit' → List d.Declaration → Scope → Declared
of_all u xs s = declared_all u xs s

-- what breaks before the entities of a declaration: in its type and its attributes
unfoldable pub of_head : d.Declaration → Scope → Declared
of_head x s = record { breaks = (type_judged s x.type_spec).breaks ++ attribute_breaks s x.attributes; scope = s }

unfoldable pub head_type : d.Declaration → Told → Option DataType
head_type x k = (type_judged k.scope x.type_spec).meaning

-- a type of which the kind is written
abbrev pub kind_judged : Scope → KindOf → f.Expression → Judgement DataType
kind_judged s k e = made_of Intrinsic (declared_kind s (kinds_of k) e)

abbrev pub told_parts : Option Broken → Scope → Told
told_parts o s = record { first = o; scope = s }
