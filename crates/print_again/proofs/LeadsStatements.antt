-- The canonical tokens of declarations, actions and constructs.
use Rattle.std.proofs.Common.{◌≡◌, ℕ, zero, suc, Bool, true, false, List, [], ◌∷◌, ◌++◌, codes, Option, Some, None, refl, sym, subst, append_assoc}
use Rattle.caf_base.specs.declared.place.Pos.{Pos}
use Rattle.reader_theory.specs.Words.{Mark}
use Rattle.fortran_tokens.specs.declared.token.Sign.TheVariants as signs
use Rattle.fortran_tree.specs.declared.declaration.Intent.{Intent}
use Rattle.fortran_tree.specs.declared.declaration.Intent.TheVariants as intents
use Rattle.fortran_tree.specs.declared.name.Name.{Name}
use Rattle.fortran_tree.specs.Expressions.{Expression, Specifiers, no_specifiers, more_specifiers, Arguments}
use Rattle.fortran_tree.specs.Statements as s
use Rattle.fortran_tree.specs.Statements.{DeclarationTypeSpec, Bounds, Dimension, CoarraySpec, Attribute, Entity, Declaration, Format, Item, ImageSet, Allocation, ActionStatement, LoopControl, CaseRange, CaseSelector, BracketedSpecifier, Statement, Statements, ElseIfBlocks, ElseBlock, CaseBlocks}
use Rattle.fortran_grammar.specs.Tokens.{Tok, Token}
use Rattle.fortran_grammar.specs.Phrases.{Phrase, ◌▸◌, Words, canonical, from, name, key, sign, joined, round, optional, followed, listed, maybe_listed}
use Rattle.fortran_grammar.specs.ExpressionGrammar.{expr}
use Rattle.fortran_grammar.specs.ActionGrammar as g
use Rattle.fortran_grammar.specs.StatementGrammar as h
use Rattle.print_again.specs.Spelled.{is_plain_name, are_statements}
use Rattle.print_again.proofs.Leads.{Leads, fit_word, fit_parts, leads_nothing, leads_never, leads_both, leads_deeper, leads_from, leads_first, leads_either, leads_key, leads_sign, leads_over, leads_name, leads_literal, leads_joined, leads_round, leads_square, leads_optional, leads_followed, leads_listed, leads_maybe_listed, leads_repeated}
use Rattle.print_again.proofs.LeadsExpressions.{leads_expr, leads_designator, leads_more_specifiers, leads_arguments}

leads_kind : {m : ℕ} (k : Option Expression) → Leads true m (g.kind k) true m
leads_kind None = leads_nothing
leads_kind (Some e) = leads_round (leads_both (leads_first (λ ts a. a)) (leads_expr e))

pub leads_declaration_type_spec : {b : Bool} {m : ℕ} (x : DeclarationTypeSpec) → Leads b m (g.declaration_type_spec x) true m
leads_declaration_type_spec (s.integer k) = leads_both (leads_key (codes "integer") refl) (leads_kind k)
leads_declaration_type_spec (s.logical k) = leads_both (leads_key (codes "logical") refl) (leads_kind k)
leads_declaration_type_spec (s.derived n) = leads_both (leads_key (codes "type") refl) (leads_round (leads_name n))

leads_lower : {m : ℕ} (e : Expression) → Leads true m (g.lower_bound e) true m
leads_lower e = leads_both (leads_expr e) (leads_sign signs.Colon refl)

leads_bounds : {m : ℕ} (b : Bounds) → Leads true m (g.bounds b) true m
leads_bounds b = leads_both (leads_optional leads_lower b.lower) (leads_expr b.upper)

leads_dimension : {m : ℕ} (x : Dimension) → Leads true m (g.dimension x) true m
leads_dimension (s.explicit b) = leads_bounds b
leads_dimension (s.deferred at) = leads_from (leads_sign signs.Colon refl)

leads_dims : {m : ℕ} (xs : List Dimension) → Leads true m (round (listed g.dimension xs)) true m
leads_dims xs = leads_round (leads_listed leads_dimension xs)

leads_shape : {m : ℕ} (xs : List Dimension) → Leads true m (g.maybe_dimensions xs) true m
leads_shape [] = leads_nothing
leads_shape (x ∷ xs) = leads_dims (x ∷ xs)

leads_cobound : {m : ℕ} (b : Bounds) → Leads true m (g.cobound b) true m
leads_cobound b = leads_both (leads_bounds b) (leads_sign signs.Comma refl)

leads_more_colons : {m : ℕ} (n : ℕ) → Leads true m (g.more_colons n) true m
leads_more_colons zero = leads_nothing
leads_more_colons (suc n) = leads_both (leads_sign signs.Comma refl) (leads_both (leads_sign signs.Colon refl) (leads_more_colons n))

leads_colon_list : {m : ℕ} (n : ℕ) → Leads true m (g.colon_list n) true m
leads_colon_list zero = leads_never
leads_colon_list (suc n) = leads_both (leads_sign signs.Colon refl) (leads_more_colons n)

leads_coarray_spec : {m : ℕ} (c : CoarraySpec) → Leads true m (g.coarray_spec c) true m
leads_coarray_spec (s.explicit_coshape bs e) = leads_both (leads_repeated leads_cobound bs) (leads_both (leads_optional leads_lower e) (leads_sign signs.Star refl))
leads_coarray_spec (s.deferred_coshape n) = leads_colon_list n

leads_bracketed_coarray_spec : {m : ℕ} (c : CoarraySpec) → Leads true m (g.bracketed_coarray_spec c) true m
leads_bracketed_coarray_spec c = leads_square (leads_coarray_spec c)

leads_intent : {m : ℕ} (i : Intent) → Leads true m (g.intent i) true m
leads_intent intents.In = leads_key (codes "in") refl
leads_intent intents.Out = leads_key (codes "out") refl
leads_intent intents.InOut = leads_joined (codes "in") (codes "out") refl refl

leads_attribute : {m : ℕ} (a : Attribute) → Leads true m (g.attribute a) true m
leads_attribute s.parameter = leads_key (codes "parameter") refl
leads_attribute s.allocatable = leads_key (codes "allocatable") refl
leads_attribute s.save = leads_key (codes "save") refl
leads_attribute (s.dimension xs) = leads_both (leads_key (codes "dimension") refl) (leads_dims xs)
leads_attribute (s.codimension c) = leads_both (leads_key (codes "codimension") refl) (leads_bracketed_coarray_spec c)
leads_attribute (s.intent i) = leads_both (leads_key (codes "intent") refl) (leads_round (leads_intent i))

leads_initial : {m : ℕ} (e : Expression) → Leads true m (g.initial e) true m
leads_initial e = leads_both (leads_sign signs.Assign refl) (leads_expr e)

leads_entity : {m : ℕ} (e : Entity) → Leads true m (g.entity e) true m
leads_entity e = leads_both (leads_name e.name) (leads_both (leads_shape e.dimensions) (leads_both (leads_optional leads_bracketed_coarray_spec e.coshape) (leads_optional leads_initial e.initial)))

leads_colons : (x : Declaration) → Leads true 0 (g.colons x) true 0
leads_colons x = leads_first (λ ts a. a)

pub leads_declaration : (x : Declaration) → Leads false 0 (g.declaration x) false 0
leads_declaration x = leads_from (leads_both (leads_declaration_type_spec x.type_spec) (leads_both (leads_followed leads_attribute x.attributes) (leads_both (leads_colons x) (leads_both (leads_listed leads_entity x.entities) leads_over))))

leads_format : {m : ℕ} (f : Format) → Leads true m (g.format f) true m
leads_format s.free = leads_sign signs.Star refl
leads_format (s.written x) = leads_literal x

leads_item : {m : ℕ} (i : Item) → Leads true m (g.item i) true m
leads_item (s.quoted x) = leads_literal x
leads_item (s.value e) = leads_expr e

leads_image_set : {m : ℕ} (i : ImageSet) → Leads true m (g.image_set i) true m
leads_image_set s.all_images = leads_sign signs.Star refl
leads_image_set (s.images e) = leads_expr e

leads_allocation : {m : ℕ} (a : Allocation) → Leads true m (g.allocation a) true m
leads_allocation a = leads_both (leads_name a.name) (leads_both (leads_shape a.bounds) (leads_optional leads_bracketed_coarray_spec a.cobounds))

leads_specifiers : {m : ℕ} (ps : Specifiers) → Leads true m (g.specifiers ps) true m
leads_specifiers no_specifiers = leads_nothing
leads_specifiers (more_specifiers n e ps) = leads_both (leads_name n) (leads_both (leads_sign signs.Assign refl) (leads_both (leads_expr e) (leads_more_specifiers ps)))

leads_bracketed_specifiers : {m : ℕ} (ps : Specifiers) → Leads true m (g.bracketed_specifiers ps) true m
leads_bracketed_specifiers ps = leads_round (leads_specifiers ps)

leads_bracketed_arguments : {m : ℕ} (x : Arguments) → Leads true m (g.bracketed_arguments x) true m
leads_bracketed_arguments x = leads_round (leads_arguments x)

leads_maybe_expr : {m : ℕ} (o : Option Expression) → Leads true m (optional expr o) true m
leads_maybe_expr o = leads_optional leads_expr o

leads_maybe_name : {m : ℕ} (o : Option Name) → Leads true m (optional name o) true m
leads_maybe_name o = leads_optional leads_name o

-- the items of WRITE have no comma before the first
items_lead : (m : ℕ) (is : List Item) (l d : ℕ) (w : List (Mark Token)) → Words (maybe_listed g.item is) l d w → fit_word w ≡ true → (ts : List Tok) → are_statements true m ts ≡ true → are_statements true m (canonical (followed g.item is) ++ ts) ≡ true
items_lead m [] l d w e f ts a = a
items_lead m (i ∷ is) l d w e f ts a = (leads_maybe_listed leads_item (i ∷ is)).runs l d w e f ts a

written_leads : (b : Bool) (m : ℕ) (f : Format) (is : List Item) (l d : ℕ) (w : List (Mark Token)) → Words (key (codes "write") ▸ round (sign signs.Star ▸ sign signs.Comma ▸ g.format f) ▸ maybe_listed g.item is) l d w → fit_word w ≡ true
    → (ts : List Tok) → are_statements true m ts ≡ true → are_statements b m (canonical (key (codes "print") ▸ g.format f ▸ followed g.item is) ++ ts) ≡ true
written_leads b m f is l d w (x, v, hx, (y, z, (x1, v1, hx1, (y1, z1, (x2, v2, hx2, (y3, z3, hy3, hz3, k3), e2), hz1, k1), e1), hz, k), e) q ts a =
    let one = fit_parts x v w e q in
    let two = fit_parts y z v k one.1 in
    let three = fit_parts x1 v1 y e1 two.0 in
    let four = fit_parts y1 z1 v1 k1 three.1 in
    let five = fit_parts x2 v2 y1 e2 four.0 in
    let six = fit_parts y3 z3 v2 k3 five.1 in
    let items = items_lead m is l d z hz two.1 ts a in
    let format = (leads_format {m = m} f).runs l (suc d) z3 hz3 six.1 (canonical (followed g.item is) ++ ts) items in
    subst (λ i. are_statements true m i ≡ true) (sym (append_assoc (canonical (g.format f)) (canonical (followed g.item is)) ts)) format

pub leads_action : {b : Bool} {m : ℕ} (a : ActionStatement) → Leads b m (g.action_statement a) true m
leads_action (s.assignment x e) = leads_both (leads_designator x) (leads_both (leads_sign signs.Assign refl) (leads_expr e))
leads_action (s.call n args) = leads_both (leads_key (codes "call") refl) (leads_both (leads_name n) (leads_optional leads_bracketed_arguments args))
leads_action {b} {m} (s.print f is) = leads_either (leads_both (leads_key (codes "print") refl) (leads_both (leads_format f) (leads_followed leads_item is))) (written_leads b m f is)
leads_action (s.exit n) = leads_both (leads_key (codes "exit") refl) (leads_maybe_name n)
leads_action (s.cycle n) = leads_both (leads_key (codes "cycle") refl) (leads_maybe_name n)
leads_action s.return = leads_key (codes "return") refl
leads_action (s.stop e) = leads_both (leads_key (codes "stop") refl) (leads_maybe_expr e)
leads_action (s.error_stop e) = leads_both (leads_key (codes "error") refl) (leads_both (leads_key (codes "stop") refl) (leads_maybe_expr e))
leads_action s.fail_image = leads_both (leads_key (codes "fail") refl) (leads_key (codes "image") refl)
leads_action (s.allocate os ps) = leads_both (leads_key (codes "allocate") refl) (leads_round (leads_both (leads_listed leads_allocation os) (leads_more_specifiers ps)))
leads_action (s.deallocate ns ps) = leads_both (leads_key (codes "deallocate") refl) (leads_round (leads_both (leads_listed leads_name ns) (leads_more_specifiers ps)))
leads_action (s.sync_all ps) = leads_both (leads_key (codes "sync") refl) (leads_both (leads_key (codes "all") refl) (leads_optional leads_bracketed_specifiers ps))
leads_action (s.sync_memory ps) = leads_both (leads_key (codes "sync") refl) (leads_both (leads_key (codes "memory") refl) (leads_optional leads_bracketed_specifiers ps))
leads_action (s.sync_images i ps) = leads_both (leads_key (codes "sync") refl) (leads_both (leads_key (codes "images") refl) (leads_round (leads_both (leads_image_set i) (leads_more_specifiers ps))))
leads_action (s.sync_team e ps) = leads_both (leads_key (codes "sync") refl) (leads_both (leads_key (codes "team") refl) (leads_round (leads_both (leads_expr e) (leads_more_specifiers ps))))
leads_action (s.form_team e n ps) = leads_both (leads_key (codes "form") refl) (leads_both (leads_key (codes "team") refl) (leads_round (leads_both (leads_expr e) (leads_both (leads_sign signs.Comma refl) (leads_both (leads_name n) (leads_more_specifiers ps))))))
leads_action (s.lock x ps) = leads_both (leads_key (codes "lock") refl) (leads_round (leads_both (leads_designator x) (leads_more_specifiers ps)))
leads_action (s.unlock x ps) = leads_both (leads_key (codes "unlock") refl) (leads_round (leads_both (leads_designator x) (leads_more_specifiers ps)))
leads_action (s.event_post x ps) = leads_both (leads_key (codes "event") refl) (leads_both (leads_key (codes "post") refl) (leads_round (leads_both (leads_designator x) (leads_more_specifiers ps))))
leads_action (s.event_wait x ps) = leads_both (leads_key (codes "event") refl) (leads_both (leads_key (codes "wait") refl) (leads_round (leads_both (leads_designator x) (leads_more_specifiers ps))))
leads_action (s.if_statement e a at) = leads_deeper (leads_both (leads_key (codes "if") refl) (leads_both (leads_round (leads_expr e)) (leads_from (leads_action a))))

leads_construct_name : {b : Bool} {m : ℕ} (n : Name) → Leads b m (h.construct_name n) true m
leads_construct_name n = leads_both (leads_name n) (leads_sign signs.Colon refl)

-- a name may stand before what begins a statement
named : {m k : ℕ} {c : Bool} {P : Phrase} (n : Option Name) → ((b : Bool) → Leads b m P c k) → Leads false m (optional h.construct_name n ▸ P) c k
named None f = leads_both leads_nothing (f false)
named (Some n) f = leads_both (leads_construct_name n) (f true)

leads_step : {m : ℕ} (e : Expression) → Leads true m (h.step e) true m
leads_step e = leads_both (leads_sign signs.Comma refl) (leads_expr e)

leads_loop_control : {m : ℕ} (k : LoopControl) → Leads true m (h.loop_control k) true m
leads_loop_control s.unlimited = leads_nothing
leads_loop_control (s.counted n a z e) = leads_both (leads_name n) (leads_both (leads_sign signs.Assign refl) (leads_both (leads_expr a) (leads_both (leads_sign signs.Comma refl) (leads_both (leads_expr z) (leads_optional leads_step e)))))
leads_loop_control (s.while e) = leads_both (leads_key (codes "while") refl) (leads_round (leads_expr e))

leads_case_range : {m : ℕ} (r : CaseRange) → Leads true m (h.case_range r) true m
leads_case_range (s.single e) = leads_expr e
leads_case_range (s.at_least e) = leads_both (leads_expr e) (leads_sign signs.Colon refl)
leads_case_range (s.at_most e at) = leads_from (leads_both (leads_sign signs.Colon refl) (leads_expr e))
leads_case_range (s.between a z) = leads_both (leads_expr a) (leads_both (leads_sign signs.Colon refl) (leads_expr z))

leads_case_selector : {m : ℕ} (c : CaseSelector) → Leads true m (h.case_selector c) true m
leads_case_selector s.default = leads_key (codes "default") refl
leads_case_selector (s.ranges rs) = leads_round (leads_listed leads_case_range rs)

leads_bracketed_specifier : {m : ℕ} (x : BracketedSpecifier) → Leads true m (h.bracketed_specifier x) true m
leads_bracketed_specifier s.absent = leads_nothing
leads_bracketed_specifier s.empty = leads_round leads_nothing
leads_bracketed_specifier (s.present n e) = leads_round (leads_both (leads_name n) (leads_both (leads_sign signs.Assign refl) (leads_expr e)))

-- the END statement of a construct
leads_end : (at : Pos) (k : List ℕ) → is_plain_name k ≡ true → Leads false 0 (from at (joined (codes "end") k)) true 0
leads_end at k e = leads_from (leads_joined (codes "end") k refl e)

mutual
  leads_statement : (x : Statement) → Leads false 0 (h.statement x) false 0
  leads_statement (s.action a at) = leads_both (leads_from (leads_action a)) leads_over
  leads_statement (s.if_construct e body others o at end) = leads_from (leads_deeper (leads_both (leads_key (codes "if") refl) (leads_both (leads_round (leads_expr e)) (leads_both (leads_key (codes "then") refl) (leads_both leads_over
      (leads_both (leads_statements body) (leads_both (leads_else_ifs others) (leads_both (leads_else_block o) (leads_both (leads_end end (codes "if") refl) leads_over)))))))))
  leads_statement (s.do_construct n k body at end) = leads_from (leads_deeper (named n (λ b. leads_both (leads_key (codes "do") refl) (leads_both (leads_loop_control k) (leads_both leads_over
      (leads_both (leads_statements body) (leads_both (leads_end end.at (codes "do") refl) (leads_both (leads_maybe_name end.name) leads_over))))))))
  leads_statement (s.case_construct e blocks at end) = leads_from (leads_deeper (leads_both (leads_joined (codes "select") (codes "case") refl refl) (leads_both (leads_round (leads_expr e)) (leads_both leads_over
      (leads_both (leads_case_blocks blocks) (leads_both (leads_end end (codes "select") refl) leads_over))))))
  leads_statement (s.critical_construct x body at end) = leads_from (leads_deeper (leads_both (leads_key (codes "critical") refl) (leads_both (leads_bracketed_specifier x) (leads_both leads_over
      (leads_both (leads_statements body) (leads_both (leads_end end (codes "critical") refl) leads_over))))))
  leads_statement (s.change_team_construct e ps body q at end) = leads_from (leads_deeper (leads_both (leads_key (codes "change") refl) (leads_both (leads_key (codes "team") refl) (leads_both (leads_round (leads_both (leads_expr e) (leads_more_specifiers ps))) (leads_both leads_over
      (leads_both (leads_statements body) (leads_both (leads_end end (codes "team") refl) (leads_both (leads_bracketed_specifier q) leads_over))))))))

  pub leads_statements : (xs : Statements) → Leads false 0 (h.statements xs) false 0
  leads_statements s.no_statements = leads_nothing
  leads_statements (s.more_statements x xs) = leads_both (leads_statement x) (leads_statements xs)

  leads_else_ifs : (xs : ElseIfBlocks) → Leads false 0 (h.else_ifs xs) false 0
  leads_else_ifs s.no_else_ifs = leads_nothing
  leads_else_ifs (s.more_else_ifs e body at more) = leads_both (leads_from (leads_joined (codes "else") (codes "if") refl refl)) (leads_both (leads_round (leads_expr e)) (leads_both (leads_key (codes "then") refl) (leads_both leads_over
      (leads_both (leads_statements body) (leads_else_ifs more)))))

  leads_else_block : (x : ElseBlock) → Leads false 0 (h.else_block x) false 0
  leads_else_block s.no_else_block = leads_nothing
  leads_else_block (s.else_block body at) = leads_both (leads_from (leads_key (codes "else") refl)) (leads_both leads_over (leads_statements body))

  leads_case_blocks : (xs : CaseBlocks) → Leads false 0 (h.case_blocks xs) false 0
  leads_case_blocks s.no_case_blocks = leads_nothing
  leads_case_blocks (s.more_case_blocks c body at more) = leads_both (leads_from (leads_key (codes "case") refl)) (leads_both (leads_case_selector c) (leads_both leads_over (leads_both (leads_statements body) (leads_case_blocks more))))
