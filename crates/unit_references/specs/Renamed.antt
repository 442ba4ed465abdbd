-- A part of the source with each name of an entity spelled as a function says; all else, and all places, stay. Keywords
-- of arguments, names of specifiers, names of constructs and the names behind END aren't names of entities.
use Rattle.std.specs.Prelude.{ℕ, List, map}
use Rattle.std.specs.Option.{option_map}
use Rattle.fortran_tree.specs.declared.name.Name.{Name}
use Rattle.fortran_tree.specs.declared.expr.NumberKind.{NumberKind}
use Rattle.fortran_tree.specs.declared.expr.NumberKind.TheVariants as kinds
use Rattle.fortran_tree.specs.Expressions as s
use Rattle.fortran_tree.specs.Expressions.{Expression, Designator, Expressions, SectionSubscript, SectionSubscripts, OptionalExpression, ImageSelector, Specifiers, Arguments}
use Rattle.fortran_tree.specs.Statements as t
use Rattle.fortran_tree.specs.Statements.{DeclarationTypeSpec, Bounds, Dimension, CoarraySpec, Attribute, Entity, Declaration, Item, ImageSet, Allocation, ActionStatement, LoopControl, CaseRange, CaseSelector, BracketedSpecifier, Statement, Statements, ElseIfBlocks, ElseBlock, CaseBlocks}
use Rattle.fortran_tree.specs.Units as u
use Rattle.fortran_tree.specs.Units.{Body, PrefixSpec}

-- how a name is spelled
abbrev pub Spelling : Type 0
Spelling = List ℕ → List ℕ

abbrev pub name : Spelling → Name → Name
name r n = record { text = r n.text; at = n.at }

abbrev pub number_kind : Spelling → NumberKind → NumberKind
number_kind r (kinds.Named x) = kinds.Named (r x)
number_kind r k = k

abbrev mutual
  pub expression : Spelling → Expression → Expression
  expression r (s.number n k at) = s.number n (number_kind r k) at
  expression r (s.logical b at) = s.logical b at
  expression r (s.designator x) = s.designator (designator r x)
  expression r (s.function_reference f args) = s.function_reference (name r f) (arguments r args)
  expression r (s.parenthesized e at) = s.parenthesized (expression r e) at
  expression r (s.array_constructor es at) = s.array_constructor (expressions r es) at
  expression r (s.prefix o e at) = s.prefix o (expression r e) at
  expression r (s.binary o a b at) = s.binary o (expression r a) (expression r b) at

  pub designator : Spelling → Designator → Designator
  designator r (s.part_ref n subs c) = s.part_ref (name r n) (section_subscripts r subs) (image_selector r c)

  pub expressions : Spelling → Expressions → Expressions
  expressions r s.no_expressions = s.no_expressions
  expressions r (s.more_expressions e es) = s.more_expressions (expression r e) (expressions r es)

  pub section_subscripts : Spelling → SectionSubscripts → SectionSubscripts
  section_subscripts r s.no_section_subscripts = s.no_section_subscripts
  section_subscripts r (s.more_section_subscripts a more) = s.more_section_subscripts (section_subscript r a) (section_subscripts r more)

  pub section_subscript : Spelling → SectionSubscript → SectionSubscript
  section_subscript r (s.subscript e) = s.subscript (expression r e)
  section_subscript r (s.triplet a b c at) = s.triplet (optional_expression r a) (optional_expression r b) (optional_expression r c) at

  pub optional_expression : Spelling → OptionalExpression → OptionalExpression
  optional_expression r s.missing = s.missing
  optional_expression r (s.given e) = s.given (expression r e)

  pub image_selector : Spelling → ImageSelector → ImageSelector
  image_selector r s.no_image_selector = s.no_image_selector
  image_selector r (s.image_selector es ps) = s.image_selector (expressions r es) (specifiers r ps)

  pub specifiers : Spelling → Specifiers → Specifiers
  specifiers r s.no_specifiers = s.no_specifiers
  specifiers r (s.more_specifiers n e ps) = s.more_specifiers n (expression r e) (specifiers r ps)

  pub arguments : Spelling → Arguments → Arguments
  arguments r s.no_arguments = s.no_arguments
  arguments r (s.more_arguments k e more) = s.more_arguments k (expression r e) (arguments r more)

abbrev pub declaration_type_spec : Spelling → DeclarationTypeSpec → DeclarationTypeSpec
declaration_type_spec r (t.integer k) = t.integer (option_map (expression r) k)
declaration_type_spec r (t.logical k) = t.logical (option_map (expression r) k)
declaration_type_spec r (t.derived n) = t.derived (name r n)

abbrev pub bounds : Spelling → Bounds → Bounds
bounds r b = record { lower = option_map (expression r) b.lower; upper = expression r b.upper }

abbrev pub dimension : Spelling → Dimension → Dimension
dimension r (t.explicit b) = t.explicit (bounds r b)
dimension r (t.deferred at) = t.deferred at

abbrev pub coarray_spec : Spelling → CoarraySpec → CoarraySpec
coarray_spec r (t.explicit_coshape bs e) = t.explicit_coshape (map (bounds r) bs) (option_map (expression r) e)
coarray_spec r (t.deferred_coshape n) = t.deferred_coshape n

abbrev pub attribute : Spelling → Attribute → Attribute
attribute r (t.dimension ds) = t.dimension (map (dimension r) ds)
attribute r (t.codimension c) = t.codimension (coarray_spec r c)
attribute r a = a

abbrev pub entity : Spelling → Entity → Entity
entity r e = record {
  name = name r e.name;
  dimensions = map (dimension r) e.dimensions;
  coshape = option_map (coarray_spec r) e.coshape;
  initial = option_map (expression r) e.initial;
}

abbrev pub declaration : Spelling → Declaration → Declaration
declaration r d = record {
  type_spec = declaration_type_spec r d.type_spec;
  attributes = map (attribute r) d.attributes;
  entities = map (entity r) d.entities;
  at = d.at;
}

abbrev pub item : Spelling → Item → Item
item r (t.quoted x) = t.quoted x
item r (t.value e) = t.value (expression r e)

abbrev pub image_set : Spelling → ImageSet → ImageSet
image_set r t.all_images = t.all_images
image_set r (t.images e) = t.images (expression r e)

abbrev pub allocation : Spelling → Allocation → Allocation
allocation r a = record { name = name r a.name; bounds = map (dimension r) a.bounds; cobounds = option_map (coarray_spec r) a.cobounds }

abbrev pub action_statement : Spelling → ActionStatement → ActionStatement
action_statement r (t.assignment x e) = t.assignment (designator r x) (expression r e)
action_statement r (t.call n args) = t.call (name r n) (option_map (arguments r) args)
action_statement r (t.print f is) = t.print f (map (item r) is)
action_statement r (t.exit n) = t.exit n
action_statement r (t.cycle n) = t.cycle n
action_statement r t.return = t.return
action_statement r (t.stop e) = t.stop (option_map (expression r) e)
action_statement r (t.error_stop e) = t.error_stop (option_map (expression r) e)
action_statement r t.fail_image = t.fail_image
action_statement r (t.allocate os ps) = t.allocate (map (allocation r) os) (specifiers r ps)
action_statement r (t.deallocate ns ps) = t.deallocate (map (name r) ns) (specifiers r ps)
action_statement r (t.sync_all ps) = t.sync_all (option_map (specifiers r) ps)
action_statement r (t.sync_memory ps) = t.sync_memory (option_map (specifiers r) ps)
action_statement r (t.sync_images i ps) = t.sync_images (image_set r i) (specifiers r ps)
action_statement r (t.sync_team e ps) = t.sync_team (expression r e) (specifiers r ps)
action_statement r (t.form_team e n ps) = t.form_team (expression r e) (name r n) (specifiers r ps)
action_statement r (t.lock x ps) = t.lock (designator r x) (specifiers r ps)
action_statement r (t.unlock x ps) = t.unlock (designator r x) (specifiers r ps)
action_statement r (t.event_post x ps) = t.event_post (designator r x) (specifiers r ps)
action_statement r (t.event_wait x ps) = t.event_wait (designator r x) (specifiers r ps)
action_statement r (t.if_statement e a at) = t.if_statement (expression r e) (action_statement r a) at

abbrev pub loop_control : Spelling → LoopControl → LoopControl
loop_control r t.unlimited = t.unlimited
loop_control r (t.counted n a z step) = t.counted (name r n) (expression r a) (expression r z) (option_map (expression r) step)
loop_control r (t.while e) = t.while (expression r e)

abbrev pub case_range : Spelling → CaseRange → CaseRange
case_range r (t.single e) = t.single (expression r e)
case_range r (t.at_least e) = t.at_least (expression r e)
case_range r (t.at_most e at) = t.at_most (expression r e) at
case_range r (t.between a z) = t.between (expression r a) (expression r z)

abbrev pub case_selector : Spelling → CaseSelector → CaseSelector
case_selector r t.default = t.default
case_selector r (t.ranges rs) = t.ranges (map (case_range r) rs)

abbrev pub bracketed_specifier : Spelling → BracketedSpecifier → BracketedSpecifier
bracketed_specifier r t.absent = t.absent
bracketed_specifier r t.empty = t.empty
bracketed_specifier r (t.present n e) = t.present n (expression r e)

abbrev mutual
  pub statement : Spelling → Statement → Statement
  statement r (t.action a at) = t.action (action_statement r a) at
  statement r (t.if_construct e body others o at end) =
      t.if_construct (expression r e) (statements r body) (else_ifs r others) (else_block r o) at end
  statement r (t.do_construct n k body at end) = t.do_construct n (loop_control r k) (statements r body) at end
  statement r (t.case_construct e blocks at end) = t.case_construct (expression r e) (case_blocks r blocks) at end
  statement r (t.critical_construct p body at end) = t.critical_construct (bracketed_specifier r p) (statements r body) at end
  statement r (t.change_team_construct e ps body q at end) =
      t.change_team_construct (expression r e) (specifiers r ps) (statements r body) (bracketed_specifier r q) at end

  pub statements : Spelling → Statements → Statements
  statements r t.no_statements = t.no_statements
  statements r (t.more_statements a more) = t.more_statements (statement r a) (statements r more)

  pub else_ifs : Spelling → ElseIfBlocks → ElseIfBlocks
  else_ifs r t.no_else_ifs = t.no_else_ifs
  else_ifs r (t.more_else_ifs e body at more) = t.more_else_ifs (expression r e) (statements r body) at (else_ifs r more)

  pub else_block : Spelling → ElseBlock → ElseBlock
  else_block r t.no_else_block = t.no_else_block
  else_block r (t.else_block body at) = t.else_block (statements r body) at

  pub case_blocks : Spelling → CaseBlocks → CaseBlocks
  case_blocks r t.no_case_blocks = t.no_case_blocks
  case_blocks r (t.more_case_blocks c body at more) = t.more_case_blocks (case_selector r c) (statements r body) at (case_blocks r more)

abbrev pub body : Spelling → Body → Body
body r b = record {
  implicit_none = b.implicit_none;
  declarations = map (declaration r) b.declarations;
  statements = statements r b.statements;
}

abbrev pub prefix_spec : Spelling → PrefixSpec → PrefixSpec
prefix_spec r u.recursive = u.recursive
prefix_spec r (u.result_type x) = u.result_type (declaration_type_spec r x)
