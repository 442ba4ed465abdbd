-- A program without its places: each of them is set to one and the same.
use Rattle.std.specs.Prelude.{map}
use Rattle.std.specs.Option.{option_map}
use Rattle.caf_base.specs.declared.place.Pos.{Pos}
use Rattle.fortran_tree.specs.declared.name.Name.{Name}
use Rattle.fortran_tree.specs.declared.name.Literal.{Literal}
use Rattle.fortran_tree.specs.declared.statement.End.{End}
use Rattle.fortran_tree.specs.Expressions as s
use Rattle.fortran_tree.specs.Expressions.{Expression, Designator, Expressions, SectionSubscript, SectionSubscripts, OptionalExpression, ImageSelector, Specifiers, Arguments}
use Rattle.fortran_tree.specs.Statements as t
use Rattle.fortran_tree.specs.Statements.{DeclarationTypeSpec, Bounds, Dimension, CoarraySpec, Attribute, Entity, Declaration, Format, Item, ImageSet, Allocation, ActionStatement, LoopControl, CaseRange, CaseSelector, BracketedSpecifier, Statement, Statements, ElseIfBlocks, ElseBlock, CaseBlocks}
use Rattle.fortran_tree.specs.Units as u
use Rattle.fortran_grammar.specs.Tokens.{Token}
use Rattle.fortran_tree.specs.Units.{Use, Body, PrefixSpec, Heading, Procedure, Program}

-- no place of a file: lines and columns count from 1
abbrev pub nowhere : Pos
nowhere = record { line = 0; col = 0 }

-- a token at no place
abbrev pub token : Token → Token
token y = record { tok = y.tok; at = nowhere }

abbrev pub name : Name → Name
name n = record { text = n.text; at = nowhere }

abbrev pub literal : Literal → Literal
literal x = record { text = x.text; at = nowhere }

abbrev mutual
  pub expression : Expression → Expression
  expression (s.number n k at) = s.number n k nowhere
  expression (s.logical b at) = s.logical b nowhere
  expression (s.designator x) = s.designator (designator x)
  expression (s.function_reference f args) = s.function_reference (name f) (arguments args)
  expression (s.parenthesized e at) = s.parenthesized (expression e) nowhere
  expression (s.array_constructor es at) = s.array_constructor (expressions es) nowhere
  expression (s.prefix o e at) = s.prefix o (expression e) nowhere
  expression (s.binary o a b at) = s.binary o (expression a) (expression b) nowhere

  pub designator : Designator → Designator
  designator (s.part_ref n subs c) = s.part_ref (name n) (section_subscripts subs) (image_selector c)

  pub expressions : Expressions → Expressions
  expressions s.no_expressions = s.no_expressions
  expressions (s.more_expressions e es) = s.more_expressions (expression e) (expressions es)

  pub section_subscripts : SectionSubscripts → SectionSubscripts
  section_subscripts s.no_section_subscripts = s.no_section_subscripts
  section_subscripts (s.more_section_subscripts a more) = s.more_section_subscripts (section_subscript a) (section_subscripts more)

  pub section_subscript : SectionSubscript → SectionSubscript
  section_subscript (s.subscript e) = s.subscript (expression e)
  section_subscript (s.triplet a b c at) = s.triplet (optional_expression a) (optional_expression b) (optional_expression c) nowhere

  pub optional_expression : OptionalExpression → OptionalExpression
  optional_expression s.missing = s.missing
  optional_expression (s.given e) = s.given (expression e)

  pub image_selector : ImageSelector → ImageSelector
  image_selector s.no_image_selector = s.no_image_selector
  image_selector (s.image_selector es ps) = s.image_selector (expressions es) (specifiers ps)

  pub specifiers : Specifiers → Specifiers
  specifiers s.no_specifiers = s.no_specifiers
  specifiers (s.more_specifiers n e ps) = s.more_specifiers (name n) (expression e) (specifiers ps)

  pub arguments : Arguments → Arguments
  arguments s.no_arguments = s.no_arguments
  arguments (s.more_arguments k e more) = s.more_arguments (option_map name k) (expression e) (arguments more)

abbrev pub declaration_type_spec : DeclarationTypeSpec → DeclarationTypeSpec
declaration_type_spec (t.integer k) = t.integer (option_map expression k)
declaration_type_spec (t.logical k) = t.logical (option_map expression k)
declaration_type_spec (t.derived n) = t.derived (name n)

abbrev pub bounds : Bounds → Bounds
bounds b = record { lower = option_map expression b.lower; upper = expression b.upper }

abbrev pub dimension : Dimension → Dimension
dimension (t.explicit b) = t.explicit (bounds b)
dimension (t.deferred at) = t.deferred nowhere

abbrev pub coarray_spec : CoarraySpec → CoarraySpec
coarray_spec (t.explicit_coshape bs e) = t.explicit_coshape (map bounds bs) (option_map expression e)
coarray_spec (t.deferred_coshape n) = t.deferred_coshape n

abbrev pub attribute : Attribute → Attribute
attribute t.parameter = t.parameter
attribute t.allocatable = t.allocatable
attribute t.save = t.save
attribute (t.dimension ds) = t.dimension (map dimension ds)
attribute (t.codimension c) = t.codimension (coarray_spec c)
attribute (t.intent i) = t.intent i

abbrev pub entity : Entity → Entity
entity e = record { name = name e.name; dimensions = map dimension e.dimensions; coshape = option_map coarray_spec e.coshape; initial = option_map expression e.initial }

abbrev pub declaration : Declaration → Declaration
declaration d = record { type_spec = declaration_type_spec d.type_spec; attributes = map attribute d.attributes; entities = map entity d.entities; at = nowhere }

abbrev pub format : Format → Format
format t.free = t.free
format (t.written x) = t.written (literal x)

abbrev pub item : Item → Item
item (t.quoted x) = t.quoted (literal x)
item (t.value e) = t.value (expression e)

abbrev pub image_set : ImageSet → ImageSet
image_set t.all_images = t.all_images
image_set (t.images e) = t.images (expression e)

abbrev pub allocation : Allocation → Allocation
allocation a = record { name = name a.name; bounds = map dimension a.bounds; cobounds = option_map coarray_spec a.cobounds }

abbrev pub action_statement : ActionStatement → ActionStatement
action_statement (t.assignment x e) = t.assignment (designator x) (expression e)
action_statement (t.call n args) = t.call (name n) (option_map arguments args)
action_statement (t.print f is) = t.print (format f) (map item is)
action_statement (t.exit n) = t.exit (option_map name n)
action_statement (t.cycle n) = t.cycle (option_map name n)
action_statement t.return = t.return
action_statement (t.stop e) = t.stop (option_map expression e)
action_statement (t.error_stop e) = t.error_stop (option_map expression e)
action_statement t.fail_image = t.fail_image
action_statement (t.allocate os ps) = t.allocate (map allocation os) (specifiers ps)
action_statement (t.deallocate ns ps) = t.deallocate (map name ns) (specifiers ps)
action_statement (t.sync_all ps) = t.sync_all (option_map specifiers ps)
action_statement (t.sync_memory ps) = t.sync_memory (option_map specifiers ps)
action_statement (t.sync_images i ps) = t.sync_images (image_set i) (specifiers ps)
action_statement (t.sync_team e ps) = t.sync_team (expression e) (specifiers ps)
action_statement (t.form_team e n ps) = t.form_team (expression e) (name n) (specifiers ps)
action_statement (t.lock x ps) = t.lock (designator x) (specifiers ps)
action_statement (t.unlock x ps) = t.unlock (designator x) (specifiers ps)
action_statement (t.event_post x ps) = t.event_post (designator x) (specifiers ps)
action_statement (t.event_wait x ps) = t.event_wait (designator x) (specifiers ps)
action_statement (t.if_statement e a at) = t.if_statement (expression e) (action_statement a) nowhere

abbrev pub loop_control : LoopControl → LoopControl
loop_control t.unlimited = t.unlimited
loop_control (t.counted n a z step) = t.counted (name n) (expression a) (expression z) (option_map expression step)
loop_control (t.while e) = t.while (expression e)

abbrev pub case_range : CaseRange → CaseRange
case_range (t.single e) = t.single (expression e)
case_range (t.at_least e) = t.at_least (expression e)
case_range (t.at_most e at) = t.at_most (expression e) nowhere
case_range (t.between a z) = t.between (expression a) (expression z)

abbrev pub case_selector : CaseSelector → CaseSelector
case_selector t.default = t.default
case_selector (t.ranges rs) = t.ranges (map case_range rs)

abbrev pub bracketed_specifier : BracketedSpecifier → BracketedSpecifier
bracketed_specifier t.absent = t.absent
bracketed_specifier t.empty = t.empty
bracketed_specifier (t.present n e) = t.present (name n) (expression e)

abbrev pub end_statement : End → End
end_statement x = record { name = option_map name x.name; at = nowhere }

abbrev mutual
  pub statement : Statement → Statement
  statement (t.action a at) = t.action (action_statement a) nowhere
  statement (t.if_construct e body others o at end) = t.if_construct (expression e) (statements body) (else_ifs others) (else_block o) nowhere nowhere
  statement (t.do_construct n k body at end) = t.do_construct (option_map name n) (loop_control k) (statements body) nowhere (end_statement end)
  statement (t.case_construct e blocks at end) = t.case_construct (expression e) (case_blocks blocks) nowhere nowhere
  statement (t.critical_construct p body at end) = t.critical_construct (bracketed_specifier p) (statements body) nowhere nowhere
  statement (t.change_team_construct e ps body q at end) = t.change_team_construct (expression e) (specifiers ps) (statements body) (bracketed_specifier q) nowhere nowhere

  pub statements : Statements → Statements
  statements t.no_statements = t.no_statements
  statements (t.more_statements a more) = t.more_statements (statement a) (statements more)

  pub else_ifs : ElseIfBlocks → ElseIfBlocks
  else_ifs t.no_else_ifs = t.no_else_ifs
  else_ifs (t.more_else_ifs e body at more) = t.more_else_ifs (expression e) (statements body) nowhere (else_ifs more)

  pub else_block : ElseBlock → ElseBlock
  else_block t.no_else_block = t.no_else_block
  else_block (t.else_block body at) = t.else_block (statements body) nowhere

  pub case_blocks : CaseBlocks → CaseBlocks
  case_blocks t.no_case_blocks = t.no_case_blocks
  case_blocks (t.more_case_blocks c body at more) = t.more_case_blocks (case_selector c) (statements body) nowhere (case_blocks more)

abbrev pub use_statement : Use → Use
use_statement x = record { nature = x.nature; module_name = name x.module_name; only = option_map (map name) x.only; at = nowhere }

abbrev pub implicit_none : Pos → Pos
implicit_none at = nowhere

abbrev pub body : Body → Body
body b = record { implicit_none = option_map implicit_none b.implicit_none; declarations = map declaration b.declarations; statements = statements b.statements }

abbrev pub prefix_spec : PrefixSpec → PrefixSpec
prefix_spec u.recursive = u.recursive
prefix_spec (u.result_type x) = u.result_type (declaration_type_spec x)

abbrev pub heading : Heading → Heading
heading (u.subroutine r n ns) = u.subroutine r (name n) (option_map (map name) ns)
heading (u.function ps n ns r) = u.function (map prefix_spec ps) (name n) (map name ns) (option_map name r)

abbrev pub procedure : Procedure → Procedure
procedure x = record { heading = heading x.heading; body = body x.body; end = end_statement x.end; at = nowhere }

-- a program, and its places are gone
abbrev pub program : Program → Program
program x = record { name = option_map name x.name; uses = map use_statement x.uses; body = body x.body; procedures = option_map (map procedure) x.procedures; end = end_statement x.end }
