-- A word of a declaration's, an action's or a construct's phrase without its places is one of a tree that is the same
-- but for places.
use Rattle.std.proofs.Common.{◌≡◌, ℕ, zero, suc, Bool, true, ◌&&◌, List, [], ◌∷◌, codes, Option, Some, None, map, inl, inr, ◌⊎◌, refl, ap, sym, ◌∙◌, subst}
use Rattle.std.specs.Option.{option_map}
use Rattle.fortran_tree.specs.declared.name.Name.{Name}
use Rattle.fortran_tree.specs.declared.declaration.Intent.{Intent}
use Rattle.fortran_tree.specs.declared.declaration.Intent.TheVariants as intents
use Rattle.caf_base.specs.declared.place.Pos.{Pos}
use Rattle.reader_theory.specs.Words.{Mark}
use Rattle.fortran_grammar.specs.Tokens.{Token}
use Rattle.fortran_grammar.specs.Laws.{placeless}
use Rattle.fortran_tree.specs.Expressions.{part_ref, Expression, Specifiers, no_specifiers, more_specifiers, Arguments}
use Rattle.fortran_tree.specs.Statements as s
use Rattle.fortran_tree.specs.Statements.{DeclarationTypeSpec, Bounds, Dimension, CoarraySpec, Attribute, Entity, Declaration, Format, Item, ImageSet, Allocation, ActionStatement, LoopControl, CaseRange, CaseSelector, BracketedSpecifier, Statement, Statements, ElseIfBlocks, ElseBlock, CaseBlocks}
use Rattle.fortran_grammar.specs.Phrases.{Phrase, ◌▸◌, Words, FirstAt, from, name, key, over, joined, round, optional, followed, listed}
use Rattle.fortran_grammar.specs.ExpressionGrammar as grammar
use Rattle.fortran_grammar.specs.ExpressionGrammar.{expr, designator}
use Rattle.fortran_grammar.specs.ActionGrammar as g
use Rattle.fortran_grammar.specs.StatementGrammar as h
use Rattle.print_again.specs.Unplaced as u
use Rattle.print_again.proofs.Placing.{Placed, Some_token, starts, some_token, has_token, placed_name, placed_literal, placed_optional, placed_followed, placed_listed, placed_maybe_listed, placed_repeated}
use Rattle.print_again.proofs.PlacedExpressions.{placed_expr, placed_designator, placed_more_specifiers, placed_arguments}

-- the first token of a type
type_token : (x : DeclarationTypeSpec) (P : Phrase) → has_token (g.declaration_type_spec x ▸ P) ≡ true
type_token (s.integer k) P = refl
type_token (s.logical k) P = refl
type_token (s.derived n) P = refl

-- and of a DO construct
do_token : (n : Option Name) (P : Phrase) → has_token (optional h.construct_name n ▸ key (codes "do") ▸ P) ≡ true
do_token None P = refl
do_token (Some n) P = refl

first_is : {q : Mark Token} (at : Pos) (w : List (Mark Token)) → w ≡ q ∷ [] → q.token.at ≡ at → FirstAt at w
first_is {q} at w e f = subst (FirstAt at) (sym e) f

placed_kind : (k : Option Expression) → Placed g.kind (option_map u.expression) k
placed_kind None l d w e = (None, refl, e)
placed_kind (Some a) l d w (x, v, hx, (y, z, (y1, y2, h1, h2, k1), hz, k), e) = let r = placed_expr a l (suc d) y2 h2 in (Some r.0, λ i. Some (r.1 i), (x, v, hx, (y, z, (y1, y2, h1, r.2, k1), hz, k), e))

pub placed_declaration_type_spec : (x : DeclarationTypeSpec) → Placed g.declaration_type_spec u.declaration_type_spec x
placed_declaration_type_spec (s.integer k) l d w (x, v, hx, hv, e) = let r = placed_kind k l d v hv in (s.integer r.0, λ i. s.integer (r.1 i), (x, v, hx, r.2, e))
placed_declaration_type_spec (s.logical k) l d w (x, v, hx, hv, e) = let r = placed_kind k l d v hv in (s.logical r.0, λ i. s.logical (r.1 i), (x, v, hx, r.2, e))
placed_declaration_type_spec (s.derived n) l d w (x, v, hx, (x1, v1, hx1, (y, z, hy, hz, k), e1), e) =
    let r = placed_name n l (suc d) y hy in (s.derived r.0, λ i. s.derived (r.1 i), (x, v, hx, (x1, v1, hx1, (y, z, r.2, hz, k), e1), e))

placed_lower : (e : Expression) → Placed g.lower_bound u.expression e
placed_lower a l d w (x, v, hx, hv, e) = let r = placed_expr a l d x hx in (r.0, r.1, (x, v, r.2, hv, e))

placed_bounds : (b : Bounds) → Placed g.bounds u.bounds b
placed_bounds b l d w (x, v, hx, hv, e) =
    let r = placed_optional g.lower_bound u.expression placed_lower b.lower l d x hx in
    let q = placed_expr b.upper l d v hv in
    (record { lower = r.0; upper = q.0 }, λ i. record { lower = r.1 i; upper = q.1 i }, (x, v, r.2, q.2, e))

placed_dimension : (x : Dimension) → Placed g.dimension u.dimension x
placed_dimension (s.explicit b) l d w e = let r = placed_bounds b l d w e in (s.explicit r.0, λ i. s.explicit (r.1 i), r.2)
placed_dimension (s.deferred at) l d w e = let f = some_token (g.dimension (s.deferred at)) l d w refl e in (s.deferred f.0, refl, (f.1, e))

placed_dims : (xs : List Dimension) → Placed (λ z. round (listed g.dimension z)) (map u.dimension) xs
placed_dims xs l d w (x, v, hx, (y, z, hy, hz, k), e) = let r = placed_listed g.dimension u.dimension placed_dimension xs l (suc d) y hy in (r.0, r.1, (x, v, hx, (y, z, r.2, hz, k), e))

placed_shape : (xs : List Dimension) → Placed g.maybe_dimensions (map u.dimension) xs
placed_shape [] l d w e = ([], refl, e)
placed_shape (a ∷ more) l d w (x, v, hx, (y, z, (y1, y2, h1, h2, k1), hz, k), e) =
    let r = placed_dimension a l (suc d) y1 h1 in
    let q = placed_followed g.dimension u.dimension placed_dimension more l (suc d) y2 h2 in
    (r.0 ∷ q.0, λ i. r.1 i ∷ q.1 i, (x, v, hx, (y, z, (y1, y2, r.2, q.2, k1), hz, k), e))

placed_cobound : (b : Bounds) → Placed g.cobound u.bounds b
placed_cobound b l d w (x, v, hx, hv, e) = let r = placed_bounds b l d x hx in (r.0, r.1, (x, v, r.2, hv, e))

-- colons have no places
same_colons : (n l d : ℕ) (w : _) → Words (placeless (g.more_colons n)) l d w → Words (g.more_colons n) l d w
same_colons zero l d w e = e
same_colons (suc n) l d w (x, v, hx, (y, z, hy, hz, k), e) = (x, v, hx, (y, z, hy, same_colons n l d z hz, k), e)

same_colon_list : (n l d : ℕ) (w : _) → Words (placeless (g.colon_list n)) l d w → Words (g.colon_list n) l d w
same_colon_list zero l d w e = e
same_colon_list (suc n) l d w (x, v, hx, hv, e) = (x, v, hx, same_colons n l d v hv, e)

placed_coarray_spec : (c : CoarraySpec) → Placed g.coarray_spec u.coarray_spec c
placed_coarray_spec (s.explicit_coshape bs a) l d w (x, v, hx, (y, z, hy, hz, k), e) =
    let r = placed_repeated g.cobound u.bounds placed_cobound bs l d x hx in
    let q = placed_optional g.lower_bound u.expression placed_lower a l d y hy in
    (s.explicit_coshape r.0 q.0, λ i. s.explicit_coshape (r.1 i) (q.1 i), (x, v, r.2, (y, z, q.2, hz, k), e))
placed_coarray_spec (s.deferred_coshape n) l d w e = (s.deferred_coshape n, refl, same_colon_list n l d w e)

placed_bracketed_coarray_spec : (c : CoarraySpec) → Placed g.bracketed_coarray_spec u.coarray_spec c
placed_bracketed_coarray_spec c l d w (inl (x, v, hx, (y, z, hy, hz, k), e)) = let r = placed_coarray_spec c l (suc d) y hy in (r.0, r.1, inl (x, v, hx, (y, z, r.2, hz, k), e))
placed_bracketed_coarray_spec c l d w (inr (x, v, hx, (y, z, hy, hz, k), e)) = let r = placed_coarray_spec c l (suc d) y hy in (r.0, r.1, inr (x, v, hx, (y, z, r.2, hz, k), e))

same_intent : (i : Intent) (l d : ℕ) (w : _) → Words (placeless (g.intent i)) l d w → Words (g.intent i) l d w
same_intent intents.In l d w e = e
same_intent intents.Out l d w e = e
same_intent intents.InOut l d w e = e

placed_attribute : (a : Attribute) → Placed g.attribute u.attribute a
placed_attribute s.parameter l d w e = (s.parameter, refl, e)
placed_attribute s.allocatable l d w e = (s.allocatable, refl, e)
placed_attribute s.save l d w e = (s.save, refl, e)
placed_attribute (s.dimension xs) l d w (x, v, hx, hv, e) = let r = placed_dims xs l d v hv in (s.dimension r.0, λ i. s.dimension (r.1 i), (x, v, hx, r.2, e))
placed_attribute (s.codimension c) l d w (x, v, hx, hv, e) = let r = placed_bracketed_coarray_spec c l d v hv in (s.codimension r.0, λ i. s.codimension (r.1 i), (x, v, hx, r.2, e))
placed_attribute (s.intent a) l d w (x, v, hx, (y, z, hy, (y1, y2, h1, h2, k1), k), e) = (s.intent a, refl, (x, v, hx, (y, z, hy, (y1, y2, same_intent a l (suc d) y1 h1, h2, k1), k), e))

placed_initial : (e : Expression) → Placed g.initial u.expression e
placed_initial a l d w (x, v, hx, hv, e) = let r = placed_expr a l d v hv in (r.0, r.1, (x, v, hx, r.2, e))

placed_entity : (x : Entity) → Placed g.entity u.entity x
placed_entity n l d w (x, v, hx, (y, z, hy, (y1, y2, h1, h2, k1), k), e) =
    let a = placed_name n.name l d x hx in
    let b = placed_shape n.dimensions l d y hy in
    let c = placed_optional g.bracketed_coarray_spec u.coarray_spec placed_bracketed_coarray_spec n.coshape l d y1 h1 in
    let f = placed_optional g.initial u.expression placed_initial n.initial l d y2 h2 in (
      record { name = a.0; dimensions = b.0; coshape = c.0; initial = f.0 },
      λ i. record { name = a.1 i; dimensions = b.1 i; coshape = c.1 i; initial = f.1 i },
      (x, v, a.2, (y, z, b.2, (y1, y2, c.2, f.2, k1), k), e),
    )

-- whether `::` may be missing has nothing to do with places
none_unplaced : (x : Option Expression) → g.is_none (option_map u.expression x) ≡ g.is_none x
none_unplaced None = refl
none_unplaced (Some e) = refl

pub initial_unplaced : (xs : List Entity) → g.no_initial (map u.entity xs) ≡ g.no_initial xs
initial_unplaced [] = refl
initial_unplaced (e ∷ more) = λ i. none_unplaced e.initial i && initial_unplaced more i

pub attribute_unplaced : (xs : List Attribute) → g.no_attribute (map u.attribute xs) ≡ g.no_attribute xs
attribute_unplaced [] = refl
attribute_unplaced (a ∷ more) = refl

pub placed_declaration : (x : Declaration) → Placed g.declaration u.declaration x
placed_declaration n l d w (x, v, hx, (y, z, hy, (y1, y2, h1, (y3, y4, h3, h4, k3), k1), k), e) =
    let a = placed_declaration_type_spec n.type_spec l d x hx in
    let b = placed_followed g.attribute u.attribute placed_attribute n.attributes l d y hy in
    let c = placed_listed g.entity u.entity placed_entity n.entities l d y3 h3 in
    let first : g.no_attribute b.0 ≡ g.no_attribute n.attributes = sym (attribute_unplaced b.0) ∙ (ap g.no_attribute b.1 ∙ attribute_unplaced n.attributes) in
    let last : g.no_initial c.0 ≡ g.no_initial n.entities = sym (initial_unplaced c.0) ∙ (ap g.no_initial c.1 ∙ initial_unplaced n.entities) in
    let colons = same_missing (λ i. first i && last i) h1 in
    let f = some_token (g.declaration n) l d w (type_token n.type_spec (followed g.attribute n.attributes ▸ g.colons n ▸ listed g.entity n.entities ▸ over)) (x, v, hx, (y, z, hy, (y1, y2, h1, (y3, y4, h3, h4, k3), k1), k), e) in (
      record { type_spec = a.0; attributes = b.0; entities = c.0; at = f.0 },
      λ i. record { type_spec = a.1 i; attributes = b.1 i; entities = c.1 i; at = u.nowhere },
      (f.1, (x, v, a.2, (y, z, b.2, (y1, y2, colons, (y3, y4, c.2, h4, k3), k1), k), e)),
    )
  where
    same_missing : {A B : Type 0} {a b : Bool} → a ≡ b → A ⊎ ((b ≡ true) × B) → A ⊎ ((a ≡ true) × B)
    same_missing h (inl k) = inl k
    same_missing h (inr (k, m)) = inr (h ∙ k, m)

placed_format : (x : Format) → Placed g.format u.format x
placed_format s.free l d w e = (s.free, refl, e)
placed_format (s.written x) l d w e = let r = placed_literal x l d w e in (s.written r.0, λ i. s.written (r.1 i), r.2)

placed_item : (x : Item) → Placed g.item u.item x
placed_item (s.quoted x) l d w e = let r = placed_literal x l d w e in (s.quoted r.0, λ i. s.quoted (r.1 i), r.2)
placed_item (s.value a) l d w e = let r = placed_expr a l d w e in (s.value r.0, λ i. s.value (r.1 i), r.2)

placed_image_set : (x : ImageSet) → Placed g.image_set u.image_set x
placed_image_set s.all_images l d w e = (s.all_images, refl, e)
placed_image_set (s.images a) l d w e = let r = placed_expr a l d w e in (s.images r.0, λ i. s.images (r.1 i), r.2)

placed_allocation : (x : Allocation) → Placed g.allocation u.allocation x
placed_allocation n l d w (x, v, hx, (y, z, hy, hz, k), e) =
    let a = placed_name n.name l d x hx in
    let b = placed_shape n.bounds l d y hy in
    let c = placed_optional g.bracketed_coarray_spec u.coarray_spec placed_bracketed_coarray_spec n.cobounds l d z hz in
    (record { name = a.0; bounds = b.0; cobounds = c.0 }, λ i. record { name = a.1 i; bounds = b.1 i; cobounds = c.1 i }, (x, v, a.2, (y, z, b.2, c.2, k), e))

placed_specifiers : (ps : Specifiers) → Placed g.specifiers u.specifiers ps
placed_specifiers no_specifiers l d w e = (no_specifiers, refl, e)
placed_specifiers (more_specifiers n a ps) l d w (x, v, hx, (y, z, hy, (y1, y2, h1, h2, k1), k), e) =
    let f = placed_name n l d x hx in
    let r = placed_expr a l d y1 h1 in
    let q = placed_more_specifiers ps l d y2 h2 in
    (more_specifiers f.0 r.0 q.0, λ i. more_specifiers (f.1 i) (r.1 i) (q.1 i), (x, v, f.2, (y, z, hy, (y1, y2, r.2, q.2, k1), k), e))

placed_bracketed_specifiers : (ps : Specifiers) → Placed g.bracketed_specifiers u.specifiers ps
placed_bracketed_specifiers ps l d w (x, v, hx, (y, z, hy, hz, k), e) = let r = placed_specifiers ps l (suc d) y hy in (r.0, r.1, (x, v, hx, (y, z, r.2, hz, k), e))

placed_bracketed_arguments : (xs : Arguments) → Placed g.bracketed_arguments u.arguments xs
placed_bracketed_arguments xs l d w (x, v, hx, (y, z, hy, hz, k), e) = let r = placed_arguments xs l (suc d) y hy in (r.0, r.1, (x, v, hx, (y, z, r.2, hz, k), e))

placed_maybe_expr : (o : Option Expression) → Placed (optional expr) (option_map u.expression) o
placed_maybe_expr o = placed_optional expr u.expression placed_expr o

placed_maybe_name : (o : Option Name) → Placed (optional name) (option_map u.name) o
placed_maybe_name o = placed_optional name u.name placed_name o

placed_maybe_specifiers : (o : Option Specifiers) → Placed (optional g.bracketed_specifiers) (option_map u.specifiers) o
placed_maybe_specifiers o = placed_optional g.bracketed_specifiers u.specifiers placed_bracketed_specifiers o

-- brackets with something in them, and specifiers behind it
placed_with : {A : Type 0} (X : A → Phrase) (f : A → A) (a : A) (ps : Specifiers) → Placed X f a → (l d : ℕ) (w : List (Mark Token)) → Words (placeless (round (X a ▸ grammar.more_specifiers ps))) l d w
    → (b : A) × (qs : Specifiers) × (f b ≡ f a) × (u.specifiers qs ≡ u.specifiers ps) × Words (round (X b ▸ grammar.more_specifiers qs)) l d w
placed_with X f a ps m l d w (x, v, hx, (y, z, (y1, y2, h1, h2, k1), hz, k), e) =
    let r = m l (suc d) y1 h1 in
    let q = placed_more_specifiers ps l (suc d) y2 h2 in
    (r.0, q.0, r.1, q.1, (x, v, hx, (y, z, (y1, y2, r.2, q.2, k1), hz, k), e))

action_token : (x : ActionStatement) → has_token (g.action_statement x) ≡ true
action_token (s.assignment (part_ref n subs c) e) = refl
action_token (s.call n args) = refl
action_token (s.print f is) = refl
action_token (s.exit n) = refl
action_token (s.cycle n) = refl
action_token s.return = refl
action_token (s.stop e) = refl
action_token (s.error_stop e) = refl
action_token s.fail_image = refl
action_token (s.allocate os ps) = refl
action_token (s.deallocate ns ps) = refl
action_token (s.sync_all ps) = refl
action_token (s.sync_memory ps) = refl
action_token (s.sync_images i ps) = refl
action_token (s.sync_team e ps) = refl
action_token (s.form_team e n ps) = refl
action_token (s.lock x ps) = refl
action_token (s.unlock x ps) = refl
action_token (s.event_post x ps) = refl
action_token (s.event_wait x ps) = refl
action_token (s.if_statement e a at) = refl

placed_action : (a : ActionStatement) → Placed g.action_statement u.action_statement a
placed_action (s.assignment a b) l d w (x, v, hx, (y, z, hy, hz, k), e) =
    let r = placed_designator a l d x hx in
    let q = placed_expr b l d z hz in
    (s.assignment r.0 q.0, λ i. s.assignment (r.1 i) (q.1 i), (x, v, r.2, (y, z, hy, q.2, k), e))
placed_action (s.call n args) l d w (x, v, hx, (y, z, hy, hz, k), e) =
    let r = placed_name n l d y hy in
    let q = placed_optional g.bracketed_arguments u.arguments placed_bracketed_arguments args l d z hz in
    (s.call r.0 q.0, λ i. s.call (r.1 i) (q.1 i), (x, v, hx, (y, z, r.2, q.2, k), e))
placed_action (s.print f is) l d w (inl (x, v, hx, (y, z, hy, hz, k), e)) =
    let r = placed_format f l d y hy in
    let q = placed_followed g.item u.item placed_item is l d z hz in
    (s.print r.0 q.0, λ i. s.print (r.1 i) (q.1 i), inl (x, v, hx, (y, z, r.2, q.2, k), e))
placed_action (s.print f is) l d w (inr (x, v, hx, (y, z, (x1, v1, hx1, (y1, z1, (x2, v2, hx2, (y3, z3, hy3, hz3, k3), e2), hz1, k1), e1), hz, k), e)) =
    let r = placed_format f l (suc d) z3 hz3 in
    let q = placed_maybe_listed g.item u.item placed_item is l d z hz in
    (s.print r.0 q.0, λ i. s.print (r.1 i) (q.1 i), inr (x, v, hx, (y, z, (x1, v1, hx1, (y1, z1, (x2, v2, hx2, (y3, z3, hy3, r.2, k3), e2), hz1, k1), e1), q.2, k), e))
placed_action (s.exit n) l d w (x, v, hx, hv, e) = let r = placed_maybe_name n l d v hv in (s.exit r.0, λ i. s.exit (r.1 i), (x, v, hx, r.2, e))
placed_action (s.cycle n) l d w (x, v, hx, hv, e) = let r = placed_maybe_name n l d v hv in (s.cycle r.0, λ i. s.cycle (r.1 i), (x, v, hx, r.2, e))
placed_action s.return l d w e = (s.return, refl, e)
placed_action (s.stop a) l d w (x, v, hx, hv, e) = let r = placed_maybe_expr a l d v hv in (s.stop r.0, λ i. s.stop (r.1 i), (x, v, hx, r.2, e))
placed_action (s.error_stop a) l d w (x, v, hx, (y, z, hy, hz, k), e) = let r = placed_maybe_expr a l d z hz in (s.error_stop r.0, λ i. s.error_stop (r.1 i), (x, v, hx, (y, z, hy, r.2, k), e))
placed_action s.fail_image l d w e = (s.fail_image, refl, e)
placed_action (s.allocate os ps) l d w (x, v, hx, hv, e) =
    let r = placed_with (listed g.allocation) (map u.allocation) os ps (placed_listed g.allocation u.allocation placed_allocation os) l d v hv in
    (s.allocate r.0 r.1, λ i. s.allocate (r.2 i) (r.3 i), (x, v, hx, r.4, e))
placed_action (s.deallocate ns ps) l d w (x, v, hx, hv, e) =
    let r = placed_with (listed name) (map u.name) ns ps (placed_listed name u.name placed_name ns) l d v hv in
    (s.deallocate r.0 r.1, λ i. s.deallocate (r.2 i) (r.3 i), (x, v, hx, r.4, e))
placed_action (s.sync_all ps) l d w (x, v, hx, (y, z, hy, hz, k), e) = let r = placed_maybe_specifiers ps l d z hz in (s.sync_all r.0, λ i. s.sync_all (r.1 i), (x, v, hx, (y, z, hy, r.2, k), e))
placed_action (s.sync_memory ps) l d w (x, v, hx, (y, z, hy, hz, k), e) = let r = placed_maybe_specifiers ps l d z hz in (s.sync_memory r.0, λ i. s.sync_memory (r.1 i), (x, v, hx, (y, z, hy, r.2, k), e))
placed_action (s.sync_images a ps) l d w (x, v, hx, (y, z, hy, hz, k), e) =
    let r = placed_with g.image_set u.image_set a ps (placed_image_set a) l d z hz in
    (s.sync_images r.0 r.1, λ i. s.sync_images (r.2 i) (r.3 i), (x, v, hx, (y, z, hy, r.4, k), e))
placed_action (s.sync_team a ps) l d w (x, v, hx, (y, z, hy, hz, k), e) =
    let r = placed_with expr u.expression a ps (placed_expr a) l d z hz in
    (s.sync_team r.0 r.1, λ i. s.sync_team (r.2 i) (r.3 i), (x, v, hx, (y, z, hy, r.4, k), e))
placed_action (s.form_team a n ps) l d w (x, v, hx, (y, z, hy, (x1, v1, hx1, (y1, z1, (y2, z2, hy2, (y3, z3, hy3, (y4, z4, hy4, hz4, k4), k3), k2), hz1, k1), e1), k), e) =
    let r = placed_expr a l (suc d) y2 hy2 in
    let m = placed_name n l (suc d) y4 hy4 in
    let q = placed_more_specifiers ps l (suc d) z4 hz4 in (
      s.form_team r.0 m.0 q.0,
      λ i. s.form_team (r.1 i) (m.1 i) (q.1 i),
      (x, v, hx, (y, z, hy, (x1, v1, hx1, (y1, z1, (y2, z2, r.2, (y3, z3, hy3, (y4, z4, m.2, q.2, k4), k3), k2), hz1, k1), e1), k), e),
    )
placed_action (s.lock a ps) l d w (x, v, hx, hv, e) =
    let r = placed_with designator u.designator a ps (placed_designator a) l d v hv in
    (s.lock r.0 r.1, λ i. s.lock (r.2 i) (r.3 i), (x, v, hx, r.4, e))
placed_action (s.unlock a ps) l d w (x, v, hx, hv, e) =
    let r = placed_with designator u.designator a ps (placed_designator a) l d v hv in
    (s.unlock r.0 r.1, λ i. s.unlock (r.2 i) (r.3 i), (x, v, hx, r.4, e))
placed_action (s.event_post a ps) l d w (x, v, hx, (y, z, hy, hz, k), e) =
    let r = placed_with designator u.designator a ps (placed_designator a) l d z hz in
    (s.event_post r.0 r.1, λ i. s.event_post (r.2 i) (r.3 i), (x, v, hx, (y, z, hy, r.4, k), e))
placed_action (s.event_wait a ps) l d w (x, v, hx, (y, z, hy, hz, k), e) =
    let r = placed_with designator u.designator a ps (placed_designator a) l d z hz in
    (s.event_wait r.0 r.1, λ i. s.event_wait (r.2 i) (r.3 i), (x, v, hx, (y, z, hy, r.4, k), e))
placed_action (s.if_statement b a at) l d w (x, v, hx, (y, z, (x1, v1, hx1, (y1, z1, hy1, hz1, k1), e1), hz, k), e) =
    let r = placed_expr b l (suc (suc d)) y1 hy1 in
    let q = placed_action a l (suc d) z hz in
    let f = some_token (g.action_statement a) l (suc d) z (action_token a) hz in
    (s.if_statement r.0 q.0 f.0, λ i. s.if_statement (r.1 i) (q.1 i) u.nowhere, (x, v, hx, (y, z, (x1, v1, hx1, (y1, z1, r.2, hz1, k1), e1), (f.1, q.2), k), e))

placed_construct_name : (n : Name) → Placed h.construct_name u.name n
placed_construct_name n l d w (x, v, hx, hv, e) = let r = placed_name n l d x hx in (r.0, r.1, (x, v, r.2, hv, e))

placed_step : (e : Expression) → Placed h.step u.expression e
placed_step a l d w (x, v, hx, hv, e) = let r = placed_expr a l d v hv in (r.0, r.1, (x, v, hx, r.2, e))

placed_loop_control : (k : LoopControl) → Placed h.loop_control u.loop_control k
placed_loop_control s.unlimited l d w e = (s.unlimited, refl, e)
placed_loop_control (s.counted n a b c) l d w (x, v, hx, (y, z, hy, (y1, z1, h1, (y2, z2, h2, (y3, z3, h3, h4, k3), k2), k1), k), e) =
    let m = placed_name n l d x hx in
    let r = placed_expr a l d y1 h1 in
    let q = placed_expr b l d y3 h3 in
    let o = placed_optional h.step u.expression placed_step c l d z3 h4 in
    (s.counted m.0 r.0 q.0 o.0, λ i. s.counted (m.1 i) (r.1 i) (q.1 i) (o.1 i), (x, v, m.2, (y, z, hy, (y1, z1, r.2, (y2, z2, h2, (y3, z3, q.2, o.2, k3), k2), k1), k), e))
placed_loop_control (s.while a) l d w (x, v, hx, (y, z, hy, (y1, z1, h1, h2, k1), k), e) =
    let r = placed_expr a l (suc d) y1 h1 in (s.while r.0, λ i. s.while (r.1 i), (x, v, hx, (y, z, hy, (y1, z1, r.2, h2, k1), k), e))

placed_case_range : (x : CaseRange) → Placed h.case_range u.case_range x
placed_case_range (s.single a) l d w e = let r = placed_expr a l d w e in (s.single r.0, λ i. s.single (r.1 i), r.2)
placed_case_range (s.at_least a) l d w (x, v, hx, hv, e) = let r = placed_expr a l d x hx in (s.at_least r.0, λ i. s.at_least (r.1 i), (x, v, r.2, hv, e))
placed_case_range (s.at_most a at) l d w (x, v, hx, hv, e) =
    let r = placed_expr a l d v hv in
    let f = starts x v w hx.1 e in
    (s.at_most r.0 f.0, λ i. s.at_most (r.1 i) u.nowhere, (f.1, (x, v, hx, r.2, e)))
placed_case_range (s.between a b) l d w (x, v, hx, (y, z, hy, hz, k), e) =
    let r = placed_expr a l d x hx in
    let q = placed_expr b l d z hz in
    (s.between r.0 q.0, λ i. s.between (r.1 i) (q.1 i), (x, v, r.2, (y, z, hy, q.2, k), e))

placed_case_selector : (x : CaseSelector) → Placed h.case_selector u.case_selector x
placed_case_selector s.default l d w e = (s.default, refl, e)
placed_case_selector (s.ranges rs) l d w (x, v, hx, (y, z, hy, hz, k), e) =
    let r = placed_listed h.case_range u.case_range placed_case_range rs l (suc d) y hy in (s.ranges r.0, λ i. s.ranges (r.1 i), (x, v, hx, (y, z, r.2, hz, k), e))

placed_bracketed_specifier : (x : BracketedSpecifier) → Placed h.bracketed_specifier u.bracketed_specifier x
placed_bracketed_specifier s.absent l d w e = (s.absent, refl, e)
placed_bracketed_specifier s.empty l d w e = (s.empty, refl, e)
placed_bracketed_specifier (s.present n a) l d w (x, v, hx, (y, z, (y1, z1, h1, (y2, z2, h2, h3, k2), k1), hz, k), e) =
    let m = placed_name n l (suc d) y1 h1 in
    let r = placed_expr a l (suc d) z2 h3 in
    (s.present m.0 r.0, λ i. s.present (m.1 i) (r.1 i), (x, v, hx, (y, z, (y1, z1, m.2, (y2, z2, h2, r.2, k2), k1), hz, k), e))

-- two keywords at their place
first_joined : (j k : List ℕ) (l d : ℕ) (w : List (Mark Token)) → Words (joined j k) l d w → Some_token w
first_joined j k l d w e = some_token (joined j k) l d w refl e

mutual
  placed_statement : (x : Statement) → Placed h.statement u.statement x
  placed_statement (s.action a at) l d w (x, v, hx, hv, e) =
      let r = placed_action a l d x hx in
      let f = some_token (g.action_statement a) l d x (action_token a) hx in
      (s.action r.0 f.0, λ i. s.action (r.1 i) u.nowhere, (x, v, (f.1, r.2), hv, e))
  placed_statement (s.if_construct a body others o at end) l d w (x0, v0, h0, (x1, v1, (p1, q1, b1, (p2, q2, b2, b3, c2), c1), (x2, v2, h2, (x3, v3, h3, (x4, v4, h4, (x5, v5, h5, (x6, v6, h6, (x7, v7, h7, h8, k7), k6), k5), k4), k3), k2), k1), k0) =
      let f = starts x0 v0 w h0.1 k0 in
      let r = placed_expr a l (suc (suc d)) p2 b2 in
      let m = placed_statements body l (suc d) x4 h4 in
      let n = placed_else_ifs others l (suc d) x5 h5 in
      let q = placed_else_block o l (suc d) x6 h6 in
      let z = first_joined (codes "end") (codes "if") l (suc d) x7 h7 in (
        s.if_construct r.0 m.0 n.0 q.0 f.0 z.0,
        λ i. s.if_construct (r.1 i) (m.1 i) (n.1 i) (q.1 i) u.nowhere u.nowhere,
        (f.1, (x0, v0, h0, (x1, v1, (p1, q1, b1, (p2, q2, r.2, b3, c2), c1), (x2, v2, h2, (x3, v3, h3, (x4, v4, m.2, (x5, v5, n.2, (x6, v6, q.2, (x7, v7, (z.1, h7), h8, k7), k6), k5), k4), k3), k2), k1), k0)),
      )
  placed_statement (s.do_construct n c body at end) l d w (x0, v0, h0, (x1, v1, h1, (x2, v2, h2, (x3, v3, h3, (x4, v4, h4, (x5, v5, h5, (x6, v6, h6, h7, k6), k5), k4), k3), k2), k1), k0) =
      let a = placed_optional h.construct_name u.name placed_construct_name n l (suc d) x0 h0 in
      let b = placed_loop_control c l (suc d) x2 h2 in
      let m = placed_statements body l (suc d) x4 h4 in
      let z = first_joined (codes "end") (codes "do") l (suc d) x5 h5 in
      let q = placed_maybe_name end.name l (suc d) x6 h6 in
      let f = some_token (h.statement (s.do_construct n c body at end)) l d w (do_token n (h.loop_control c ▸ over ▸ h.statements body ▸ from end.at (joined (codes "end") (codes "do")) ▸ optional name end.name ▸ over)) (x0, v0, h0, (x1, v1, h1, (x2, v2, h2, (x3, v3, h3, (x4, v4, h4, (x5, v5, h5, (x6, v6, h6, h7, k6), k5), k4), k3), k2), k1), k0) in (
        s.do_construct a.0 b.0 m.0 f.0 (record { name = q.0; at = z.0 }),
        λ i. s.do_construct (a.1 i) (b.1 i) (m.1 i) u.nowhere (record { name = q.1 i; at = u.nowhere }),
        (f.1, (x0, v0, a.2, (x1, v1, h1, (x2, v2, b.2, (x3, v3, h3, (x4, v4, m.2, (x5, v5, (z.1, h5), (x6, v6, q.2, h7, k6), k5), k4), k3), k2), k1), k0)),
      )
  placed_statement (s.case_construct a blocks at end) l d w (x0, v0, h0, (x1, v1, (p1, q1, b1, (p2, q2, b2, b3, c2), c1), (x2, v2, h2, (x3, v3, h3, (x4, v4, h4, h5, k4), k3), k2), k1), k0) =
      let r = placed_expr a l (suc (suc d)) p2 b2 in
      let m = placed_case_blocks blocks l (suc d) x3 h3 in
      let z = first_joined (codes "end") (codes "select") l (suc d) x4 h4 in
      let f = some_token (h.statement (s.case_construct a blocks at end)) l d w refl (x0, v0, h0, (x1, v1, (p1, q1, b1, (p2, q2, b2, b3, c2), c1), (x2, v2, h2, (x3, v3, h3, (x4, v4, h4, h5, k4), k3), k2), k1), k0) in (
        s.case_construct r.0 m.0 f.0 z.0,
        λ i. s.case_construct (r.1 i) (m.1 i) u.nowhere u.nowhere,
        (f.1, (x0, v0, h0, (x1, v1, (p1, q1, b1, (p2, q2, r.2, b3, c2), c1), (x2, v2, h2, (x3, v3, m.2, (x4, v4, (z.1, h4), h5, k4), k3), k2), k1), k0)),
      )
  placed_statement (s.critical_construct c body at end) l d w (x0, v0, h0, (x1, v1, h1, (x2, v2, h2, (x3, v3, h3, (x4, v4, h4, h5, k4), k3), k2), k1), k0) =
      let f = starts x0 v0 w h0.1 k0 in
      let r = placed_bracketed_specifier c l (suc d) x1 h1 in
      let m = placed_statements body l (suc d) x3 h3 in
      let z = first_joined (codes "end") (codes "critical") l (suc d) x4 h4 in (
        s.critical_construct r.0 m.0 f.0 z.0,
        λ i. s.critical_construct (r.1 i) (m.1 i) u.nowhere u.nowhere,
        (f.1, (x0, v0, h0, (x1, v1, r.2, (x2, v2, h2, (x3, v3, m.2, (x4, v4, (z.1, h4), h5, k4), k3), k2), k1), k0)),
      )
  placed_statement (s.change_team_construct a ps body q at end) l d w (x0, v0, h0, (x1, v1, h1, (x2, v2, h2, (x3, v3, h3, (x4, v4, h4, (x5, v5, h5, (x6, v6, h6, h7, k6), k5), k4), k3), k2), k1), k0) =
      let f = starts x0 v0 w h0.1 k0 in
      let r = placed_with expr u.expression a ps (placed_expr a) l (suc d) x2 h2 in
      let m = placed_statements body l (suc d) x4 h4 in
      let z = first_joined (codes "end") (codes "team") l (suc d) x5 h5 in
      let n = placed_bracketed_specifier q l (suc d) x6 h6 in (
        s.change_team_construct r.0 r.1 m.0 n.0 f.0 z.0,
        λ i. s.change_team_construct (r.2 i) (r.3 i) (m.1 i) (n.1 i) u.nowhere u.nowhere,
        (f.1, (x0, v0, h0, (x1, v1, h1, (x2, v2, r.4, (x3, v3, h3, (x4, v4, m.2, (x5, v5, (z.1, h5), (x6, v6, n.2, h7, k6), k5), k4), k3), k2), k1), k0)),
      )

  pub placed_statements : (xs : Statements) → Placed h.statements u.statements xs
  placed_statements s.no_statements l d w e = (s.no_statements, refl, e)
  placed_statements (s.more_statements a more) l d w (x, v, hx, hv, e) =
      let r = placed_statement a l d x hx in
      let q = placed_statements more l d v hv in
      (s.more_statements r.0 q.0, λ i. s.more_statements (r.1 i) (q.1 i), (x, v, r.2, q.2, e))

  placed_else_ifs : (xs : ElseIfBlocks) → Placed h.else_ifs u.else_ifs xs
  placed_else_ifs s.no_else_ifs l d w e = (s.no_else_ifs, refl, e)
  placed_else_ifs (s.more_else_ifs a body at more) l d w (x0, v0, h0, (x1, v1, (p1, q1, b1, (p2, q2, b2, b3, c2), c1), (x2, v2, h2, (x3, v3, h3, (x4, v4, h4, h5, k4), k3), k2), k1), k0) =
      let z = first_joined (codes "else") (codes "if") l d x0 h0 in
      let r = placed_expr a l (suc d) p2 b2 in
      let m = placed_statements body l d x4 h4 in
      let q = placed_else_ifs more l d v4 h5 in (
        s.more_else_ifs r.0 m.0 z.0 q.0,
        λ i. s.more_else_ifs (r.1 i) (m.1 i) u.nowhere (q.1 i),
        (x0, v0, (z.1, h0), (x1, v1, (p1, q1, b1, (p2, q2, r.2, b3, c2), c1), (x2, v2, h2, (x3, v3, h3, (x4, v4, m.2, q.2, k4), k3), k2), k1), k0),
      )

  placed_else_block : (x : ElseBlock) → Placed h.else_block u.else_block x
  placed_else_block s.no_else_block l d w e = (s.no_else_block, refl, e)
  placed_else_block (s.else_block body at) l d w (x0, v0, (p0, h0), (x1, v1, h1, h2, k1), k0) =
      let m = placed_statements body l d v1 h2 in
      (s.else_block m.0 p0, λ i. s.else_block (m.1 i) u.nowhere, (x0, v0, (first_is p0 x0 h0 refl, (p0, h0)), (x1, v1, h1, m.2, k1), k0))

  placed_case_blocks : (xs : CaseBlocks) → Placed h.case_blocks u.case_blocks xs
  placed_case_blocks s.no_case_blocks l d w e = (s.no_case_blocks, refl, e)
  placed_case_blocks (s.more_case_blocks c body at more) l d w (x0, v0, (p0, h0), (x1, v1, h1, (x2, v2, h2, (x3, v3, h3, h4, k3), k2), k1), k0) =
      let r = placed_case_selector c l d x1 h1 in
      let m = placed_statements body l d x3 h3 in
      let q = placed_case_blocks more l d v3 h4 in (
        s.more_case_blocks r.0 m.0 p0 q.0,
        λ i. s.more_case_blocks (r.1 i) (m.1 i) u.nowhere (q.1 i),
        (x0, v0, (first_is p0 x0 h0 refl, (p0, h0)), (x1, v1, r.2, (x2, v2, h2, (x3, v3, m.2, q.2, k3), k2), k1), k0),
      )
