-- Where a declaration, an action or a construct is spelled, its canonical tokens spell it.
use Rattle.std.proofs.Common.{◌≡◌, ℕ, zero, suc, false, nat_lt, List, [], ◌∷◌, ◌++◌, codes, Option, Some, None, subst, arith}
use Rattle.std.proofs.lemmas.Bool.{le-ltb}
use Rattle.reader_theory.specs.Words.{Mark, Shallow}
use Rattle.fortran_tokens.specs.declared.token.Sign.TheVariants.{Colons, Comma, Star}
use Rattle.fortran_tree.specs.declared.declaration.Intent.{Intent}
use Rattle.fortran_tree.specs.declared.declaration.Intent.TheVariants as intents
use Rattle.fortran_tree.specs.declared.name.Name.{Name}
use Rattle.fortran_tree.specs.Expressions.{Expression, Specifiers, no_specifiers, more_specifiers, Arguments}
use Rattle.fortran_tree.specs.Statements as s
use Rattle.fortran_tree.specs.Statements.{DeclarationTypeSpec, Bounds, Dimension, CoarraySpec, Attribute, Entity, Declaration, Format, Item, ImageSet, Allocation, ActionStatement, LoopControl, CaseRange, CaseSelector, BracketedSpecifier, Statement, Statements, ElseIfBlocks, ElseBlock, CaseBlocks}
use Rattle.fortran_grammar.specs.Tokens as t
use Rattle.fortran_grammar.specs.Phrases.{◌▸◌, Words, name, key, sign, round, optional, followed, listed, maybe_listed}
use Rattle.fortran_grammar.specs.ExpressionGrammar.{expr}
use Rattle.fortran_grammar.specs.ActionGrammar as g
use Rattle.fortran_grammar.specs.StatementGrammar as h
use Rattle.reader_theory.proofs.Marks.{shallow_front, shallow_back}
use Rattle.fortran_grammar.proofs.Canonical.{Fair, Canon, canon, canon_nothing, canon_token, canon_at, canon_both, opened, fair_joined, fair_square, fair_optional, fair_followed, fair_listed, fair_repeated}
use Rattle.fortran_grammar.proofs.FairExpressions.{fair_expr, fair_designator, fair_more_specifiers, fair_arguments}

fair_name : (l d : ℕ) (n : Name) → Fair (name n) l d
fair_name l d n = tt

fair_kind : (k : Option Expression) (l d : ℕ) → Fair (g.kind k) l d
fair_kind None l d = tt
fair_kind (Some e) l d = (tt, (((tt, λ w x y. canon_nothing l (suc d)), fair_expr e l (suc d)), tt))

pub fair_declaration_type_spec : (x : DeclarationTypeSpec) (l d : ℕ) → Fair (g.declaration_type_spec x) l d
fair_declaration_type_spec (s.integer k) l d = (tt, fair_kind k l d)
fair_declaration_type_spec (s.logical k) l d = (tt, fair_kind k l d)
fair_declaration_type_spec (s.derived n) l d = (tt, (tt, (tt, tt)))

fair_lower : (l d : ℕ) (e : Expression) → Fair (g.lower_bound e) l d
fair_lower l d e = (fair_expr e l d, tt)

fair_bounds : (l d : ℕ) (b : Bounds) → Fair (g.bounds b) l d
fair_bounds l d b = (fair_optional g.lower_bound l d (fair_lower l d) b.lower, fair_expr b.upper l d)

fair_dimension : (l d : ℕ) (x : Dimension) → Fair (g.dimension x) l d
fair_dimension l d (s.explicit b) = fair_bounds l d b
fair_dimension l d (s.deferred at) = tt

fair_dims : (l d : ℕ) (xs : List Dimension) → Fair (round (listed g.dimension xs)) l d
fair_dims l d xs = (tt, (fair_listed g.dimension l (suc d) (fair_dimension l (suc d)) xs, tt))

fair_shape : (l d : ℕ) (xs : List Dimension) → Fair (g.maybe_dimensions xs) l d
fair_shape l d [] = tt
fair_shape l d (x ∷ xs) = fair_dims l d (x ∷ xs)

fair_cobound : (l d : ℕ) (b : Bounds) → Fair (g.cobound b) l d
fair_cobound l d b = (fair_bounds l d b, tt)

fair_more_colons : (n l d : ℕ) → Fair (g.more_colons n) l d
fair_more_colons zero l d = tt
fair_more_colons (suc n) l d = (tt, (tt, fair_more_colons n l d))

fair_colon_list : (n l d : ℕ) → Fair (g.colon_list n) l d
fair_colon_list zero l d = tt
fair_colon_list (suc n) l d = (tt, fair_more_colons n l d)

fair_coarray_spec : (l d : ℕ) (c : CoarraySpec) → Fair (g.coarray_spec c) l d
fair_coarray_spec l d (s.explicit_coshape bs e) = (fair_repeated g.cobound l d (fair_cobound l d) bs, (fair_optional g.lower_bound l d (fair_lower l d) e, tt))
fair_coarray_spec l d (s.deferred_coshape n) = fair_colon_list n l d

fair_bracketed_coarray_spec : (l d : ℕ) (c : CoarraySpec) → Fair (g.bracketed_coarray_spec c) l d
fair_bracketed_coarray_spec l d c = fair_square (g.coarray_spec c) l d (fair_coarray_spec l (suc d) c)

fair_intent : (l d : ℕ) (i : Intent) → Fair (g.intent i) l d
fair_intent l d intents.In = tt
fair_intent l d intents.Out = tt
fair_intent l d intents.InOut = fair_joined (codes "in") (codes "out") l d

fair_attribute : (l d : ℕ) (a : Attribute) → Fair (g.attribute a) l d
fair_attribute l d s.parameter = tt
fair_attribute l d s.allocatable = tt
fair_attribute l d s.save = tt
fair_attribute l d (s.dimension xs) = (tt, fair_dims l d xs)
fair_attribute l d (s.codimension c) = (tt, fair_bracketed_coarray_spec l d c)
fair_attribute l d (s.intent i) = (tt, (tt, (fair_intent l (suc d) i, tt)))

fair_initial : (l d : ℕ) (e : Expression) → Fair (g.initial e) l d
fair_initial l d e = (tt, fair_expr e l d)

fair_entity : (l d : ℕ) (e : Entity) → Fair (g.entity e) l d
fair_entity l d e = (tt, (fair_shape l d e.dimensions, (fair_optional g.bracketed_coarray_spec l d (fair_bracketed_coarray_spec l d) e.coshape, fair_optional g.initial l d (fair_initial l d) e.initial)))

-- no token stands too deep where no level is open
pub at_top : (l : ℕ) → nat_lt l 0 ≡ false
at_top l = le-ltb l 0 (omega arith)

fair_colons : (l : ℕ) (x : Declaration) → Fair (g.colons x) l 0
fair_colons l x = (tt, λ w a b. canon_token (t.sign Colons) l 0 (at_top l))

pub fair_declaration : (l : ℕ) (x : Declaration) → Fair (g.declaration x) l 0
fair_declaration l x = (fair_declaration_type_spec x.type_spec l 0, (fair_followed g.attribute l 0 (fair_attribute l 0) x.attributes, (fair_colons l x, (fair_listed g.entity l 0 (fair_entity l 0) x.entities, tt))))

fair_format : (f : Format) (l d : ℕ) → Fair (g.format f) l d
fair_format s.free l d = tt
fair_format (s.written x) l d = tt

fair_item : (l d : ℕ) (i : Item) → Fair (g.item i) l d
fair_item l d (s.quoted x) = tt
fair_item l d (s.value e) = fair_expr e l d

fair_image_set : (i : ImageSet) (l d : ℕ) → Fair (g.image_set i) l d
fair_image_set s.all_images l d = tt
fair_image_set (s.images e) l d = fair_expr e l d

fair_allocation : (l d : ℕ) (a : Allocation) → Fair (g.allocation a) l d
fair_allocation l d a = (tt, (fair_shape l d a.bounds, fair_optional g.bracketed_coarray_spec l d (fair_bracketed_coarray_spec l d) a.cobounds))

fair_specifiers : (ps : Specifiers) (l d : ℕ) → Fair (g.specifiers ps) l d
fair_specifiers no_specifiers l d = tt
fair_specifiers (more_specifiers n e ps) l d = (tt, (tt, (fair_expr e l d, fair_more_specifiers ps l d)))

fair_bracketed_specifiers : (l d : ℕ) (ps : Specifiers) → Fair (g.bracketed_specifiers ps) l d
fair_bracketed_specifiers l d ps = (tt, (fair_specifiers ps l (suc d), tt))

fair_bracketed_arguments : (l d : ℕ) (x : Arguments) → Fair (g.bracketed_arguments x) l d
fair_bracketed_arguments l d x = (tt, (fair_arguments x l (suc d), tt))

fair_maybe_expr : (l d : ℕ) (o : Option Expression) → Fair (optional expr o) l d
fair_maybe_expr l d o = fair_optional expr l d (λ e. fair_expr e l d) o

canon_format : (f : Format) (l d : ℕ) → nat_lt l d ≡ false → Canon (g.format f) l d
canon_format s.free l d o = canon_token (t.sign Star) l d o
canon_format (s.written x) l d o = canon_at x.at (t.literal x.text) l d o

-- the items of WRITE have no comma before the first
canon_items : (is : List Item) (l d : ℕ) (w : List (Mark t.Token)) → nat_lt l d ≡ false → Words (maybe_listed g.item is) l d w → Shallow w → Canon (followed g.item is) l d
canon_items [] l d w o h s = canon_nothing l d
canon_items (i ∷ is) l d w o (u, v, hu, hv, e) s =
    let c : Shallow (u ++ v) = subst Shallow e s in
    canon_both (sign Comma) (g.item i ▸ followed g.item is) l d (canon_token (t.sign Comma) l d o)
    (canon_both (g.item i) (followed g.item is) l d (canon (g.item i) l d u (fair_item l d i) hu (shallow_front u v c))
    (canon (followed g.item is) l d v (fair_followed g.item l d (fair_item l d) is) hv (shallow_back u v c)))

canon_print : (f : Format) (is : List Item) (l d : ℕ) (w : List (Mark t.Token))
    → Words (key (codes "write") ▸ round (sign Star ▸ sign Comma ▸ g.format f) ▸ maybe_listed g.item is) l d w → Shallow w
    → Canon (key (codes "print") ▸ g.format f ▸ followed g.item is) l d
canon_print f is l d w (u, v, hu, (x, y, hx, hy, k), e) s =
    let c : Shallow (u ++ v) = subst Shallow e s in
    let b : Shallow (x ++ y) = subst Shallow k (shallow_back u v c) in
    let o = opened (t.word (codes "write")) l d u hu (shallow_front u v c) in
    canon_both (key (codes "print")) (g.format f ▸ followed g.item is) l d (canon_token (t.word (codes "print")) l d o)
    (canon_both (g.format f) (followed g.item is) l d (canon_format f l d o) (canon_items is l d y o hy (shallow_back x y b)))

pub fair_action : (a : ActionStatement) (l d : ℕ) → Fair (g.action_statement a) l d
fair_action (s.assignment x e) l d = (fair_designator x l d, (tt, fair_expr e l d))
fair_action (s.call n args) l d = (tt, (tt, fair_optional g.bracketed_arguments l d (fair_bracketed_arguments l d) args))
fair_action (s.print f is) l d = ((tt, (fair_format f l d, fair_followed g.item l d (fair_item l d) is)), λ w x y. canon_print f is l d w x y)
fair_action (s.exit n) l d = (tt, fair_optional name l d (fair_name l d) n)
fair_action (s.cycle n) l d = (tt, fair_optional name l d (fair_name l d) n)
fair_action s.return l d = tt
fair_action (s.stop e) l d = (tt, fair_maybe_expr l d e)
fair_action (s.error_stop e) l d = (tt, (tt, fair_maybe_expr l d e))
fair_action s.fail_image l d = (tt, tt)
fair_action (s.allocate os ps) l d = (tt, (tt, ((fair_listed g.allocation l (suc d) (fair_allocation l (suc d)) os, fair_more_specifiers ps l (suc d)), tt)))
fair_action (s.deallocate ns ps) l d = (tt, (tt, ((fair_listed name l (suc d) (fair_name l (suc d)) ns, fair_more_specifiers ps l (suc d)), tt)))
fair_action (s.sync_all ps) l d = (tt, (tt, fair_optional g.bracketed_specifiers l d (fair_bracketed_specifiers l d) ps))
fair_action (s.sync_memory ps) l d = (tt, (tt, fair_optional g.bracketed_specifiers l d (fair_bracketed_specifiers l d) ps))
fair_action (s.sync_images i ps) l d = (tt, (tt, (tt, ((fair_image_set i l (suc d), fair_more_specifiers ps l (suc d)), tt))))
fair_action (s.sync_team e ps) l d = (tt, (tt, (tt, ((fair_expr e l (suc d), fair_more_specifiers ps l (suc d)), tt))))
fair_action (s.form_team e n ps) l d = (tt, (tt, (tt, ((fair_expr e l (suc d), (tt, (tt, fair_more_specifiers ps l (suc d)))), tt))))
fair_action (s.lock x ps) l d = (tt, (tt, ((fair_designator x l (suc d), fair_more_specifiers ps l (suc d)), tt)))
fair_action (s.unlock x ps) l d = (tt, (tt, ((fair_designator x l (suc d), fair_more_specifiers ps l (suc d)), tt)))
fair_action (s.event_post x ps) l d = (tt, (tt, (tt, ((fair_designator x l (suc d), fair_more_specifiers ps l (suc d)), tt))))
fair_action (s.event_wait x ps) l d = (tt, (tt, (tt, ((fair_designator x l (suc d), fair_more_specifiers ps l (suc d)), tt))))
fair_action (s.if_statement e a at) l d = (tt, ((tt, (fair_expr e l (suc (suc d)), tt)), fair_action a l (suc d)))

fair_construct_name : (l d : ℕ) (n : Name) → Fair (h.construct_name n) l d
fair_construct_name l d n = (tt, tt)

fair_step : (l d : ℕ) (e : Expression) → Fair (h.step e) l d
fair_step l d e = (tt, fair_expr e l d)

fair_loop_control : (k : LoopControl) (l d : ℕ) → Fair (h.loop_control k) l d
fair_loop_control s.unlimited l d = tt
fair_loop_control (s.counted n a z e) l d = (tt, (tt, (fair_expr a l d, (tt, (fair_expr z l d, fair_optional h.step l d (fair_step l d) e)))))
fair_loop_control (s.while e) l d = (tt, (tt, (fair_expr e l (suc d), tt)))

fair_case_range : (l d : ℕ) (r : CaseRange) → Fair (h.case_range r) l d
fair_case_range l d (s.single e) = fair_expr e l d
fair_case_range l d (s.at_least e) = (fair_expr e l d, tt)
fair_case_range l d (s.at_most e at) = (tt, fair_expr e l d)
fair_case_range l d (s.between a z) = (fair_expr a l d, (tt, fair_expr z l d))

fair_case_selector : (c : CaseSelector) (l d : ℕ) → Fair (h.case_selector c) l d
fair_case_selector s.default l d = tt
fair_case_selector (s.ranges rs) l d = (tt, (fair_listed h.case_range l (suc d) (fair_case_range l (suc d)) rs, tt))

fair_bracketed_specifier : (x : BracketedSpecifier) (l d : ℕ) → Fair (h.bracketed_specifier x) l d
fair_bracketed_specifier s.absent l d = tt
fair_bracketed_specifier s.empty l d = (tt, (tt, tt))
fair_bracketed_specifier (s.present n e) l d = (tt, ((tt, (tt, fair_expr e l (suc d))), tt))

mutual
  fair_statement : (x : Statement) (l d : ℕ) → Fair (h.statement x) l d
  fair_statement (s.action a at) l d = (fair_action a l d, tt)
  fair_statement (s.if_construct e body others o at end) l d = (
    tt,
    (
      (tt, (fair_expr e l (suc (suc d)), tt)),
      (
        tt,
        (
          tt,
          (
            fair_statements body l (suc d),
            (fair_else_ifs others l (suc d), (fair_else_block o l (suc d), (fair_joined (codes "end") (codes "if") l (suc d), tt))),
          ),
        ),
      ),
    ),
  )
  fair_statement (s.do_construct n k body at end) l d = (
    fair_optional h.construct_name l (suc d) (fair_construct_name l (suc d)) n,
    (
      tt,
      (
        fair_loop_control k l (suc d),
        (
          tt,
          (fair_statements body l (suc d), (fair_joined (codes "end") (codes "do") l (suc d), (fair_optional name l (suc d) (fair_name l (suc d)) end.name, tt))),
        ),
      ),
    ),
  )
  fair_statement (s.case_construct e blocks at end) l d = (
    fair_joined (codes "select") (codes "case") l (suc d),
    (
      (tt, (fair_expr e l (suc (suc d)), tt)),
      (
        tt,
        (fair_case_blocks blocks l (suc d), (fair_joined (codes "end") (codes "select") l (suc d), tt)),
      ),
    ),
  )
  fair_statement (s.critical_construct x body at end) l d = (tt, (fair_bracketed_specifier x l (suc d), (tt, (fair_statements body l (suc d), (fair_joined (codes "end") (codes "critical") l (suc d), tt)))))
  fair_statement (s.change_team_construct e ps body q at end) l d = (
    tt,
    (
      tt,
      (
        (tt, ((fair_expr e l (suc (suc d)), fair_more_specifiers ps l (suc (suc d))), tt)),
        (
          tt,
          (fair_statements body l (suc d), (fair_joined (codes "end") (codes "team") l (suc d), (fair_bracketed_specifier q l (suc d), tt))),
        ),
      ),
    ),
  )

  pub fair_statements : (xs : Statements) (l d : ℕ) → Fair (h.statements xs) l d
  fair_statements s.no_statements l d = tt
  fair_statements (s.more_statements x xs) l d = (fair_statement x l d, fair_statements xs l d)

  fair_else_ifs : (xs : ElseIfBlocks) (l d : ℕ) → Fair (h.else_ifs xs) l d
  fair_else_ifs s.no_else_ifs l d = tt
  fair_else_ifs (s.more_else_ifs e body at more) l d = (
    fair_joined (codes "else") (codes "if") l d,
    (
      (tt, (fair_expr e l (suc d), tt)),
      (
        tt,
        (
          tt,
          (fair_statements body l d, fair_else_ifs more l d),
        ),
      ),
    ),
  )

  fair_else_block : (x : ElseBlock) (l d : ℕ) → Fair (h.else_block x) l d
  fair_else_block s.no_else_block l d = tt
  fair_else_block (s.else_block body at) l d = (tt, (tt, fair_statements body l d))

  fair_case_blocks : (xs : CaseBlocks) (l d : ℕ) → Fair (h.case_blocks xs) l d
  fair_case_blocks s.no_case_blocks l d = tt
  fair_case_blocks (s.more_case_blocks c body at more) l d = (tt, (fair_case_selector c l d, (tt, (fair_statements body l d, fair_case_blocks more l d))))
