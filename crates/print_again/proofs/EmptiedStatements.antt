-- Declarations, actions and constructs without their places.
use Rattle.std.proofs.Common.{ℕ, zero, suc, ◌&&◌, List, [], ◌∷◌, Option, Some, None, map}
use Rattle.std.specs.Option.{option_map}
use Rattle.fortran_tree.specs.declared.declaration.Intent.{Intent}
use Rattle.fortran_tree.specs.declared.declaration.Intent.TheVariants as intents
use Rattle.fortran_tree.specs.declared.name.Name.{Name}
use Rattle.fortran_tree.specs.Expressions.{Expression, Specifiers, no_specifiers, more_specifiers, Arguments}
use Rattle.fortran_tree.specs.Statements as s
use Rattle.fortran_tree.specs.Statements.{DeclarationTypeSpec, Bounds, Dimension, CoarraySpec, Attribute, Entity, Declaration, Format, Item, ImageSet, Allocation, ActionStatement, LoopControl, CaseRange, CaseSelector, BracketedSpecifier, Statement, Statements, ElseIfBlocks, ElseBlock, CaseBlocks}
use Rattle.fortran_grammar.specs.Phrases.{name, round, optional, listed}
use Rattle.fortran_grammar.specs.ExpressionGrammar.{expr}
use Rattle.fortran_grammar.specs.ActionGrammar as g
use Rattle.fortran_grammar.specs.StatementGrammar as h
use Rattle.print_again.specs.Unplaced as v
use Rattle.print_again.proofs.PlacedStatements.{initial_unplaced, attribute_unplaced}
use Rattle.print_again.proofs.Emptied.{Emptied, emptied_nothing, emptied_never, emptied_token, emptied_both, emptied_either, emptied_only, emptied_deeper, emptied_from, emptied_name, emptied_literal, emptied_joined, emptied_round, emptied_square, emptied_optional, emptied_followed, emptied_listed, emptied_maybe_listed, emptied_repeated}
use Rattle.print_again.proofs.EmptiedExpressions.{emptied_expr, emptied_designator, emptied_more_specifiers, emptied_arguments}

emptied_kind : (k : Option Expression) → Emptied (g.kind k) (g.kind (option_map v.expression k))
emptied_kind None = emptied_nothing
emptied_kind (Some e) = emptied_round (emptied_both (emptied_either emptied_nothing (emptied_both emptied_token emptied_token)) (emptied_expr e))

pub emptied_declaration_type_spec : (x : DeclarationTypeSpec) → Emptied (g.declaration_type_spec x) (g.declaration_type_spec (v.declaration_type_spec x))
emptied_declaration_type_spec (s.integer k) = emptied_both emptied_token (emptied_kind k)
emptied_declaration_type_spec (s.logical k) = emptied_both emptied_token (emptied_kind k)
emptied_declaration_type_spec (s.derived n) = emptied_both emptied_token (emptied_round (emptied_name n))

emptied_lower : (e : Expression) → Emptied (g.lower_bound e) (g.lower_bound (v.expression e))
emptied_lower e = emptied_both (emptied_expr e) emptied_token

emptied_bounds : (b : Bounds) → Emptied (g.bounds b) (g.bounds (v.bounds b))
emptied_bounds b = emptied_both (emptied_optional v.expression emptied_lower b.lower) (emptied_expr b.upper)

emptied_dimension : (x : Dimension) → Emptied (g.dimension x) (g.dimension (v.dimension x))
emptied_dimension (s.explicit b) = emptied_bounds b
emptied_dimension (s.deferred at) = emptied_from emptied_token

emptied_dims : (xs : List Dimension) → Emptied (round (listed g.dimension xs)) (round (listed g.dimension (map v.dimension xs)))
emptied_dims xs = emptied_round (emptied_listed v.dimension emptied_dimension xs)

emptied_shape : (xs : List Dimension) → Emptied (g.maybe_dimensions xs) (g.maybe_dimensions (map v.dimension xs))
emptied_shape [] = emptied_nothing
emptied_shape (x ∷ xs) = emptied_dims (x ∷ xs)

emptied_cobound : (b : Bounds) → Emptied (g.cobound b) (g.cobound (v.bounds b))
emptied_cobound b = emptied_both (emptied_bounds b) emptied_token

emptied_more_colons : (n : ℕ) → Emptied (g.more_colons n) (g.more_colons n)
emptied_more_colons zero = emptied_nothing
emptied_more_colons (suc n) = emptied_both emptied_token (emptied_both emptied_token (emptied_more_colons n))

emptied_colon_list : (n : ℕ) → Emptied (g.colon_list n) (g.colon_list n)
emptied_colon_list zero = emptied_never
emptied_colon_list (suc n) = emptied_both emptied_token (emptied_more_colons n)

emptied_coarray_spec : (c : CoarraySpec) → Emptied (g.coarray_spec c) (g.coarray_spec (v.coarray_spec c))
emptied_coarray_spec (s.explicit_coshape bs e) = emptied_both (emptied_repeated v.bounds emptied_cobound bs) (emptied_both (emptied_optional v.expression emptied_lower e) emptied_token)
emptied_coarray_spec (s.deferred_coshape n) = emptied_colon_list n

emptied_bracketed_coarray_spec : (c : CoarraySpec) → Emptied (g.bracketed_coarray_spec c) (g.bracketed_coarray_spec (v.coarray_spec c))
emptied_bracketed_coarray_spec c = emptied_square (emptied_coarray_spec c)

emptied_intent : (i : Intent) → Emptied (g.intent i) (g.intent i)
emptied_intent intents.In = emptied_token
emptied_intent intents.Out = emptied_token
emptied_intent intents.InOut = emptied_joined

emptied_attribute : (a : Attribute) → Emptied (g.attribute a) (g.attribute (v.attribute a))
emptied_attribute s.parameter = emptied_token
emptied_attribute s.allocatable = emptied_token
emptied_attribute s.save = emptied_token
emptied_attribute (s.dimension xs) = emptied_both emptied_token (emptied_dims xs)
emptied_attribute (s.codimension c) = emptied_both emptied_token (emptied_bracketed_coarray_spec c)
emptied_attribute (s.intent i) = emptied_both emptied_token (emptied_round (emptied_intent i))

emptied_initial : (e : Expression) → Emptied (g.initial e) (g.initial (v.expression e))
emptied_initial e = emptied_both emptied_token (emptied_expr e)

emptied_entity : (e : Entity) → Emptied (g.entity e) (g.entity (v.entity e))
emptied_entity e = emptied_both (emptied_name e.name) (emptied_both (emptied_shape e.dimensions) (emptied_both (emptied_optional v.coarray_spec emptied_bracketed_coarray_spec e.coshape) (emptied_optional v.expression emptied_initial e.initial)))

emptied_colons : (x : Declaration) → Emptied (g.colons x) (g.colons (v.declaration x))
emptied_colons x = emptied_either emptied_token (emptied_only (λ i. attribute_unplaced x.attributes i && initial_unplaced x.entities i) emptied_nothing)

pub emptied_declaration : (x : Declaration) → Emptied (g.declaration x) (g.declaration (v.declaration x))
emptied_declaration x = emptied_from (emptied_both (emptied_declaration_type_spec x.type_spec) (emptied_both (emptied_followed v.attribute emptied_attribute x.attributes) (emptied_both (emptied_colons x) (emptied_both (emptied_listed v.entity emptied_entity x.entities) emptied_token))))

emptied_format : (f : Format) → Emptied (g.format f) (g.format (v.format f))
emptied_format s.free = emptied_token
emptied_format (s.written x) = emptied_literal x

emptied_item : (i : Item) → Emptied (g.item i) (g.item (v.item i))
emptied_item (s.quoted x) = emptied_literal x
emptied_item (s.value e) = emptied_expr e

emptied_image_set : (i : ImageSet) → Emptied (g.image_set i) (g.image_set (v.image_set i))
emptied_image_set s.all_images = emptied_token
emptied_image_set (s.images e) = emptied_expr e

emptied_allocation : (a : Allocation) → Emptied (g.allocation a) (g.allocation (v.allocation a))
emptied_allocation a = emptied_both (emptied_name a.name) (emptied_both (emptied_shape a.bounds) (emptied_optional v.coarray_spec emptied_bracketed_coarray_spec a.cobounds))

emptied_specifiers : (ps : Specifiers) → Emptied (g.specifiers ps) (g.specifiers (v.specifiers ps))
emptied_specifiers no_specifiers = emptied_nothing
emptied_specifiers (more_specifiers n e ps) = emptied_both (emptied_name n) (emptied_both emptied_token (emptied_both (emptied_expr e) (emptied_more_specifiers ps)))

emptied_bracketed_specifiers : (ps : Specifiers) → Emptied (g.bracketed_specifiers ps) (g.bracketed_specifiers (v.specifiers ps))
emptied_bracketed_specifiers ps = emptied_round (emptied_specifiers ps)

emptied_bracketed_arguments : (x : Arguments) → Emptied (g.bracketed_arguments x) (g.bracketed_arguments (v.arguments x))
emptied_bracketed_arguments x = emptied_round (emptied_arguments x)

emptied_maybe_expr : (o : Option Expression) → Emptied (optional expr o) (optional expr (option_map v.expression o))
emptied_maybe_expr o = emptied_optional v.expression emptied_expr o

emptied_maybe_name : (o : Option Name) → Emptied (optional name o) (optional name (option_map v.name o))
emptied_maybe_name o = emptied_optional v.name emptied_name o

pub emptied_action : (a : ActionStatement) → Emptied (g.action_statement a) (g.action_statement (v.action_statement a))
emptied_action (s.assignment x e) = emptied_both (emptied_designator x) (emptied_both emptied_token (emptied_expr e))
emptied_action (s.call n args) = emptied_both emptied_token (emptied_both (emptied_name n) (emptied_optional v.arguments emptied_bracketed_arguments args))
emptied_action (s.print f is) = emptied_either (emptied_both emptied_token (emptied_both (emptied_format f) (emptied_followed v.item emptied_item is))) (emptied_both emptied_token (emptied_both (emptied_round (emptied_both emptied_token (emptied_both emptied_token (emptied_format f)))) (emptied_maybe_listed v.item emptied_item is)))
emptied_action (s.exit n) = emptied_both emptied_token (emptied_maybe_name n)
emptied_action (s.cycle n) = emptied_both emptied_token (emptied_maybe_name n)
emptied_action s.return = emptied_token
emptied_action (s.stop e) = emptied_both emptied_token (emptied_maybe_expr e)
emptied_action (s.error_stop e) = emptied_both emptied_token (emptied_both emptied_token (emptied_maybe_expr e))
emptied_action s.fail_image = emptied_both emptied_token emptied_token
emptied_action (s.allocate os ps) = emptied_both emptied_token (emptied_round (emptied_both (emptied_listed v.allocation emptied_allocation os) (emptied_more_specifiers ps)))
emptied_action (s.deallocate ns ps) = emptied_both emptied_token (emptied_round (emptied_both (emptied_listed v.name emptied_name ns) (emptied_more_specifiers ps)))
emptied_action (s.sync_all ps) = emptied_both emptied_token (emptied_both emptied_token (emptied_optional v.specifiers emptied_bracketed_specifiers ps))
emptied_action (s.sync_memory ps) = emptied_both emptied_token (emptied_both emptied_token (emptied_optional v.specifiers emptied_bracketed_specifiers ps))
emptied_action (s.sync_images i ps) = emptied_both emptied_token (emptied_both emptied_token (emptied_round (emptied_both (emptied_image_set i) (emptied_more_specifiers ps))))
emptied_action (s.sync_team e ps) = emptied_both emptied_token (emptied_both emptied_token (emptied_round (emptied_both (emptied_expr e) (emptied_more_specifiers ps))))
emptied_action (s.form_team e n ps) = emptied_both emptied_token (emptied_both emptied_token (emptied_round (emptied_both (emptied_expr e) (emptied_both emptied_token (emptied_both (emptied_name n) (emptied_more_specifiers ps))))))
emptied_action (s.lock x ps) = emptied_both emptied_token (emptied_round (emptied_both (emptied_designator x) (emptied_more_specifiers ps)))
emptied_action (s.unlock x ps) = emptied_both emptied_token (emptied_round (emptied_both (emptied_designator x) (emptied_more_specifiers ps)))
emptied_action (s.event_post x ps) = emptied_both emptied_token (emptied_both emptied_token (emptied_round (emptied_both (emptied_designator x) (emptied_more_specifiers ps))))
emptied_action (s.event_wait x ps) = emptied_both emptied_token (emptied_both emptied_token (emptied_round (emptied_both (emptied_designator x) (emptied_more_specifiers ps))))
emptied_action (s.if_statement e a at) = emptied_deeper (emptied_both emptied_token (emptied_both (emptied_round (emptied_expr e)) (emptied_from (emptied_action a))))

emptied_construct_name : (n : Name) → Emptied (h.construct_name n) (h.construct_name (v.name n))
emptied_construct_name n = emptied_both (emptied_name n) emptied_token

emptied_step : (e : Expression) → Emptied (h.step e) (h.step (v.expression e))
emptied_step e = emptied_both emptied_token (emptied_expr e)

emptied_loop_control : (k : LoopControl) → Emptied (h.loop_control k) (h.loop_control (v.loop_control k))
emptied_loop_control s.unlimited = emptied_nothing
emptied_loop_control (s.counted n a z e) = emptied_both (emptied_name n) (emptied_both emptied_token (emptied_both (emptied_expr a) (emptied_both emptied_token (emptied_both (emptied_expr z) (emptied_optional v.expression emptied_step e)))))
emptied_loop_control (s.while e) = emptied_both emptied_token (emptied_round (emptied_expr e))

emptied_case_range : (r : CaseRange) → Emptied (h.case_range r) (h.case_range (v.case_range r))
emptied_case_range (s.single e) = emptied_expr e
emptied_case_range (s.at_least e) = emptied_both (emptied_expr e) emptied_token
emptied_case_range (s.at_most e at) = emptied_from (emptied_both emptied_token (emptied_expr e))
emptied_case_range (s.between a z) = emptied_both (emptied_expr a) (emptied_both emptied_token (emptied_expr z))

emptied_case_selector : (c : CaseSelector) → Emptied (h.case_selector c) (h.case_selector (v.case_selector c))
emptied_case_selector s.default = emptied_token
emptied_case_selector (s.ranges rs) = emptied_round (emptied_listed v.case_range emptied_case_range rs)

emptied_bracketed_specifier : (x : BracketedSpecifier) → Emptied (h.bracketed_specifier x) (h.bracketed_specifier (v.bracketed_specifier x))
emptied_bracketed_specifier s.absent = emptied_nothing
emptied_bracketed_specifier s.empty = emptied_round emptied_nothing
emptied_bracketed_specifier (s.present n e) = emptied_round (emptied_both (emptied_name n) (emptied_both emptied_token (emptied_expr e)))

mutual
  emptied_statement : (x : Statement) → Emptied (h.statement x) (h.statement (v.statement x))
  emptied_statement (s.action a at) = emptied_both (emptied_from (emptied_action a)) emptied_token
  emptied_statement (s.if_construct e body others o at end) = emptied_from (emptied_deeper (emptied_both emptied_token (emptied_both (emptied_round (emptied_expr e)) (emptied_both emptied_token (emptied_both emptied_token
      (emptied_both (emptied_statements body) (emptied_both (emptied_else_ifs others) (emptied_both (emptied_else_block o) (emptied_both (emptied_from emptied_joined) emptied_token)))))))))
  emptied_statement (s.do_construct n k body at end) = emptied_from (emptied_deeper (emptied_both (emptied_optional v.name emptied_construct_name n) (emptied_both emptied_token (emptied_both (emptied_loop_control k) (emptied_both emptied_token
      (emptied_both (emptied_statements body) (emptied_both (emptied_from emptied_joined) (emptied_both (emptied_maybe_name end.name) emptied_token))))))))
  emptied_statement (s.case_construct e blocks at end) = emptied_from (emptied_deeper (emptied_both emptied_joined (emptied_both (emptied_round (emptied_expr e)) (emptied_both emptied_token
      (emptied_both (emptied_case_blocks blocks) (emptied_both (emptied_from emptied_joined) emptied_token))))))
  emptied_statement (s.critical_construct x body at end) = emptied_from (emptied_deeper (emptied_both emptied_token (emptied_both (emptied_bracketed_specifier x) (emptied_both emptied_token
      (emptied_both (emptied_statements body) (emptied_both (emptied_from emptied_joined) emptied_token))))))
  emptied_statement (s.change_team_construct e ps body q at end) = emptied_from (emptied_deeper (emptied_both emptied_token (emptied_both emptied_token (emptied_both (emptied_round (emptied_both (emptied_expr e) (emptied_more_specifiers ps))) (emptied_both emptied_token
      (emptied_both (emptied_statements body) (emptied_both (emptied_from emptied_joined) (emptied_both (emptied_bracketed_specifier q) emptied_token))))))))

  pub emptied_statements : (xs : Statements) → Emptied (h.statements xs) (h.statements (v.statements xs))
  emptied_statements s.no_statements = emptied_nothing
  emptied_statements (s.more_statements x xs) = emptied_both (emptied_statement x) (emptied_statements xs)

  emptied_else_ifs : (xs : ElseIfBlocks) → Emptied (h.else_ifs xs) (h.else_ifs (v.else_ifs xs))
  emptied_else_ifs s.no_else_ifs = emptied_nothing
  emptied_else_ifs (s.more_else_ifs e body at more) = emptied_both (emptied_from emptied_joined) (emptied_both (emptied_round (emptied_expr e)) (emptied_both emptied_token (emptied_both emptied_token
      (emptied_both (emptied_statements body) (emptied_else_ifs more)))))

  emptied_else_block : (x : ElseBlock) → Emptied (h.else_block x) (h.else_block (v.else_block x))
  emptied_else_block s.no_else_block = emptied_nothing
  emptied_else_block (s.else_block body at) = emptied_both (emptied_from emptied_token) (emptied_both emptied_token (emptied_statements body))

  emptied_case_blocks : (xs : CaseBlocks) → Emptied (h.case_blocks xs) (h.case_blocks (v.case_blocks xs))
  emptied_case_blocks s.no_case_blocks = emptied_nothing
  emptied_case_blocks (s.more_case_blocks c body at more) = emptied_both (emptied_from emptied_token) (emptied_both (emptied_case_selector c) (emptied_both emptied_token (emptied_both (emptied_statements body) (emptied_case_blocks more))))
