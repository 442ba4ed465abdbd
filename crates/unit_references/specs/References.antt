-- The names that stand in a part of the source for an entity of the scope around it (19.3), each at its place, in
-- source order. Not among them: what a part declares, keywords of arguments, names of specifiers, names of constructs,
-- and the names behind END.
use Rattle.std.specs.Prelude.{List, [], ◌∷◌, ◌++◌, Option, Some, None}
use Rattle.caf_base.specs.declared.place.Pos.{Pos}
use Rattle.fortran_tree.specs.declared.name.Name.{Name}
use Rattle.fortran_tree.specs.declared.expr.NumberKind.{NumberKind}
use Rattle.fortran_tree.specs.declared.expr.NumberKind.TheVariants as kinds
use Rattle.fortran_tree.specs.Expressions as s
use Rattle.fortran_tree.specs.Expressions.{Expression, Designator, Expressions, SectionSubscript, SectionSubscripts, OptionalExpression, ImageSelector, Specifiers, Arguments}
use Rattle.fortran_tree.specs.Statements as t
use Rattle.fortran_tree.specs.Statements.{DeclarationTypeSpec, Bounds, Dimension, CoarraySpec, Attribute, Entity, Declaration, Item, ImageSet, Allocation, ActionStatement, LoopControl, CaseRange, CaseSelector, BracketedSpecifier, Statement, Statements, ElseIfBlocks, ElseBlock, CaseBlocks}
use Rattle.fortran_tree.specs.Units as u
use Rattle.fortran_tree.specs.Units.{Body, PrefixSpec}

-- those of a part that may be missing, and of a list of parts
abbrev pub maybe : {A : Type 0} → (A → List Name) → Option A → List Name
maybe f None = []
maybe f (Some x) = f x

abbrev pub each : {A : Type 0} → (A → List Name) → List A → List Name
each f [] = []
each f (x ∷ xs) = f x ++ each f xs

-- the kind behind an integer literal is told at the literal
abbrev pub number_kind : NumberKind → Pos → List Name
number_kind (kinds.Named x) at = record { text = x; at = at } ∷ []
number_kind k at = []

abbrev mutual
  pub expression : Expression → List Name
  expression (s.number n k at) = number_kind k at
  expression (s.logical b at) = []
  expression (s.designator x) = designator x
  expression (s.function_reference f args) = f ∷ arguments args
  expression (s.parenthesized e at) = expression e
  expression (s.array_constructor es at) = expressions es
  expression (s.prefix o e at) = expression e
  expression (s.binary o a b at) = expression a ++ expression b

  pub designator : Designator → List Name
  designator (s.part_ref n subs c) = n ∷ section_subscripts subs ++ image_selector c

  pub expressions : Expressions → List Name
  expressions s.no_expressions = []
  expressions (s.more_expressions e es) = expression e ++ expressions es

  pub section_subscripts : SectionSubscripts → List Name
  section_subscripts s.no_section_subscripts = []
  section_subscripts (s.more_section_subscripts a more) = section_subscript a ++ section_subscripts more

  pub section_subscript : SectionSubscript → List Name
  section_subscript (s.subscript e) = expression e
  section_subscript (s.triplet a b c at) = optional_expression a ++ (optional_expression b ++ optional_expression c)

  pub optional_expression : OptionalExpression → List Name
  optional_expression s.missing = []
  optional_expression (s.given e) = expression e

  pub image_selector : ImageSelector → List Name
  image_selector s.no_image_selector = []
  image_selector (s.image_selector es ps) = expressions es ++ specifiers ps

  pub specifiers : Specifiers → List Name
  specifiers s.no_specifiers = []
  specifiers (s.more_specifiers n e ps) = expression e ++ specifiers ps

  pub arguments : Arguments → List Name
  arguments s.no_arguments = []
  arguments (s.more_arguments k e more) = expression e ++ arguments more

abbrev pub declaration_type_spec : DeclarationTypeSpec → List Name
declaration_type_spec (t.integer k) = maybe expression k
declaration_type_spec (t.logical k) = maybe expression k
declaration_type_spec (t.derived n) = n ∷ []

abbrev pub bounds : Bounds → List Name
bounds b = maybe expression b.lower ++ expression b.upper

abbrev pub dimension : Dimension → List Name
dimension (t.explicit b) = bounds b
dimension (t.deferred at) = []

abbrev pub coarray_spec : CoarraySpec → List Name
coarray_spec (t.explicit_coshape bs e) = each bounds bs ++ maybe expression e
coarray_spec (t.deferred_coshape n) = []

abbrev pub attribute : Attribute → List Name
attribute (t.dimension ds) = each dimension ds
attribute (t.codimension c) = coarray_spec c
attribute a = []

-- an entity without its own name
abbrev pub entity : Entity → List Name
entity e = each dimension e.dimensions ++ (maybe coarray_spec e.coshape ++ maybe expression e.initial)

abbrev pub declaration : Declaration → List Name
declaration d = declaration_type_spec d.type_spec ++ (each attribute d.attributes ++ each entity d.entities)

abbrev pub item : Item → List Name
item (t.quoted x) = []
item (t.value e) = expression e

abbrev pub image_set : ImageSet → List Name
image_set t.all_images = []
image_set (t.images e) = expression e

abbrev pub allocation : Allocation → List Name
allocation a = a.name ∷ each dimension a.bounds ++ maybe coarray_spec a.cobounds

abbrev pub action_statement : ActionStatement → List Name
action_statement (t.assignment x e) = designator x ++ expression e
action_statement (t.call n args) = n ∷ maybe arguments args
action_statement (t.print f is) = each item is
action_statement (t.exit n) = []
action_statement (t.cycle n) = []
action_statement t.return = []
action_statement (t.stop e) = maybe expression e
action_statement (t.error_stop e) = maybe expression e
action_statement t.fail_image = []
action_statement (t.allocate os ps) = each allocation os ++ specifiers ps
action_statement (t.deallocate ns ps) = ns ++ specifiers ps
action_statement (t.sync_all ps) = maybe specifiers ps
action_statement (t.sync_memory ps) = maybe specifiers ps
action_statement (t.sync_images i ps) = image_set i ++ specifiers ps
action_statement (t.sync_team e ps) = expression e ++ specifiers ps
action_statement (t.form_team e n ps) = expression e ++ n ∷ specifiers ps
action_statement (t.lock x ps) = designator x ++ specifiers ps
action_statement (t.unlock x ps) = designator x ++ specifiers ps
action_statement (t.event_post x ps) = designator x ++ specifiers ps
action_statement (t.event_wait x ps) = designator x ++ specifiers ps
action_statement (t.if_statement e a at) = expression e ++ action_statement a

abbrev pub loop_control : LoopControl → List Name
loop_control t.unlimited = []
loop_control (t.counted n a z step) = n ∷ expression a ++ (expression z ++ maybe expression step)
loop_control (t.while e) = expression e

abbrev pub case_range : CaseRange → List Name
case_range (t.single e) = expression e
case_range (t.at_least e) = expression e
case_range (t.at_most e at) = expression e
case_range (t.between a z) = expression a ++ expression z

abbrev pub case_selector : CaseSelector → List Name
case_selector t.default = []
case_selector (t.ranges rs) = each case_range rs

abbrev pub bracketed_specifier : BracketedSpecifier → List Name
bracketed_specifier t.absent = []
bracketed_specifier t.empty = []
bracketed_specifier (t.present n e) = expression e

abbrev mutual
  pub statement : Statement → List Name
  statement (t.action a at) = action_statement a
  statement (t.if_construct e body others o at end) = expression e ++ (statements body ++ (else_ifs others ++ else_block o))
  statement (t.do_construct n k body at end) = loop_control k ++ statements body
  statement (t.case_construct e blocks at end) = expression e ++ case_blocks blocks
  statement (t.critical_construct p body at end) = bracketed_specifier p ++ statements body
  statement (t.change_team_construct e ps body q at end) = expression e ++ (specifiers ps ++ (statements body ++ bracketed_specifier q))

  pub statements : Statements → List Name
  statements t.no_statements = []
  statements (t.more_statements a more) = statement a ++ statements more

  pub else_ifs : ElseIfBlocks → List Name
  else_ifs t.no_else_ifs = []
  else_ifs (t.more_else_ifs e body at more) = expression e ++ (statements body ++ else_ifs more)

  pub else_block : ElseBlock → List Name
  else_block t.no_else_block = []
  else_block (t.else_block body at) = statements body

  pub case_blocks : CaseBlocks → List Name
  case_blocks t.no_case_blocks = []
  case_blocks (t.more_case_blocks c body at more) = case_selector c ++ (statements body ++ case_blocks more)

abbrev pub body : Body → List Name
body b = each declaration b.declarations ++ statements b.statements

abbrev pub prefix_spec : PrefixSpec → List Name
prefix_spec u.recursive = []
prefix_spec (u.result_type x) = declaration_type_spec x
