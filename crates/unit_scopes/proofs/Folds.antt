-- What is known behind declarations, one behind the other.
use Rattle.std.proofs.Common.{◌≡◌, ◌∙◌, ℕ, ◌+◌, Bool, true, false, ◌||◌, ◌&&◌, List, [], ◌∷◌, ◌++◌, drop, refl, sym, ap}
use Rattle.std.specs.Prelude.{Option, cond}
use Rattle.checked_tree.specs.declared.data.Codimensions.{Codimensions}
use Rattle.checked_tree.specs.declared.data.Constant.{Constant}
use Rattle.checked_tree.specs.declared.data.DataType.{DataType}
use Rattle.fortran_tree.specs.Statements as d
use Rattle.rule_definitions.specs.declared.broken.Broken.{Broken}
use Rattle.rule_definitions.specs.Judgements.{first_of, is_there}
use Rattle.rule_definitions.specs.Names.{KnownBounds, Named, Scope, denoted_in}
use Rattle.rule_definitions.specs.Constants.{Constancy}
use Rattle.rule_definitions.specs.Declarations.{Attributes, Declared, Unit', attribute_breaks, attributes_of, declared_entities, declared_entity, effective_coshape, effective_dimensions, entity_breaks, is_answer, no_attributes, repeated_breaks, scope_with, type_judged}
use Rattle.scope_table.proofs.First.{first_of_both}
use Rattle.unit_scopes.specs.Coshapes.{coshape_asked_known}
use Rattle.unit_scopes.specs.EntitiesAsked.{AskedEntity, entity_asked_of, initial_of_asked, known_shape, new_entity_breaks, repeated_asked, scope_behind, scope_of_parts}
use Rattle.unit_scopes.specs.Telling.{Told, behind, grown_scope, head_type, of_all, of_declaration, of_entities, of_entity, of_head, told, told_parts}
use Rattle.unit_scopes.specs.declared.grown.Grown.{Grown}
use Rattle.unit_scopes.proofs.Laws.{new_entity_are, repeated_are, scope_are}

abbrev names_and_constants : Scope → Grown → Scope
names_and_constants s g = record s { own = g.own; constants = g.constants.items }

pub entities_none : (u : Unit') (a : Attributes) (y : Option DataType) (k : Told) → behind (of_entities u a y []) k ≡ k
unfolding behind of_entities
entities_none u a y k = refl

pub entities_more : (u : Unit') (a : Attributes) (y : Option DataType) (e : d.Entity) (es : List d.Entity) (k : Told) → behind (of_entities u a y (e ∷ es)) k ≡ behind (of_entities u a y es) (behind (of_entity u a y e) k)
unfolding behind of_entities of_entity
entities_more u a y e es k =
    ap (λ o. told_parts o (declared_entities u a y es (declared_entity k.scope u a y e).scope).scope)
    (first_of_both k.first (declared_entity k.scope u a y e).breaks (declared_entities u a y es (declared_entity k.scope u a y e).scope).breaks)

pub all_none : (u : Unit') (k : Told) → behind (of_all u []) k ≡ k
unfolding behind of_all
all_none u k = refl

pub all_more : (u : Unit') (x : d.Declaration) (xs : List d.Declaration) (k : Told) → behind (of_all u (x ∷ xs)) k ≡ behind (of_all u xs) (behind (of_declaration u x) k)
unfolding behind of_all of_declaration
all_more u x xs k =
    ap (λ o. told_parts o (of_all u xs (of_declaration u x k.scope).scope).scope)
    (first_of_both k.first (of_declaration u x k.scope).breaks (of_all u xs (of_declaration u x k.scope).scope).breaks)

-- a turn of a loop that declares
pub turn_behind : {X : Type 0} (one : X → Scope → Declared) (all : List X → Scope → Declared) (more : (x : X) (xs : List X) (k : Told) → behind (all (x ∷ xs)) k ≡ behind (all xs) (behind (one x) k))
    (xs : List X) (i : ℕ) (x : X) (k l end : Told) → drop i xs ≡ x ∷ drop (i + 1) xs → l ≡ behind (one x) k → behind (all (drop i xs)) k ≡ end → behind (all (drop (i + 1) xs)) l ≡ end
turn_behind one all more xs i x k l end d e h =
    ap (behind (all (drop (i + 1) xs))) e ∙ sym (more x (drop (i + 1) xs) k) ∙ ap (λ z. behind (all z) k) (sym d) ∙ h

declaration_parts : (u : Unit') (x : d.Declaration) (k : Told) → behind (of_entities u (attributes_of no_attributes x.attributes) (head_type x k) x.entities) (behind (of_head x) k) ≡ behind (of_declaration u x) k
unfolding behind of_declaration of_entities of_head head_type
declaration_parts u x k =
    let h = (type_judged k.scope x.type_spec).breaks ++ attribute_breaks k.scope x.attributes in
    let es = declared_entities u (attributes_of no_attributes x.attributes) (type_judged k.scope x.type_spec).meaning x.entities k.scope in
    sym (ap (λ o. told_parts o es.scope) (first_of_both k.first h es.breaks))

-- a declaration: its type and attributes, and then its entities
pub declaration_told : (u : Unit') (x : d.Declaration) (k m n : Told) (a : Attributes) (y : Option DataType) → m ≡ behind (of_head x) k → y ≡ head_type x k → a ≡ attributes_of no_attributes x.attributes
    → n ≡ behind (of_entities u a y x.entities) m → n ≡ behind (of_declaration u x) k
declaration_told u x k m n a y p q r h =
    h ∙ ap (behind (of_entities u a y x.entities)) p ∙ ap (λ z. behind (of_entities u a z x.entities) (behind (of_head x) k)) q
    ∙ ap (λ z. behind (of_entities u z (head_type x k) x.entities) (behind (of_head x) k)) r ∙ declaration_parts u x k

-- an entity whose name is declared already
pub entity_repeated_told : (s : Scope) (u : Unit') (a : Attributes) (y : Option DataType) (e : d.Entity) (q : AskedEntity) (g : Grown) (o : Option Broken) → q ≡ entity_asked_of (grown_scope s g) a e
    → (is_there (denoted_in g.own e.name.text) || (u.is_answer_typed && is_answer u e.name.text)) ≡ true → o ≡ first_of g.first (repeated_asked q e.name.at) → told s (record g { first = o }) ≡ behind (of_entity u a y e) (told s g)
unfolding told behind of_entity grown_scope
entity_repeated_told s u a y e q g o p b h =
    let t = names_and_constants s g in
    let ds = effective_dimensions a e in
    let c = effective_coshape a e in
    let both : Bool → Declared = λ v. cond v (record { breaks = repeated_breaks t e ds c; scope = t }) (record { breaks = entity_breaks t u a y e ds c; scope = scope_with t u a y e }) in
    ap (λ k. told_parts k t) (h ∙ ap (λ z. first_of g.first (repeated_asked z e.name.at)) p ∙ ap (first_of g.first) (repeated_are t a e))
    ∙ ap (λ v. told_parts (first_of g.first (both v).breaks) (both v).scope) (sym b)

-- an entity whose name isn't declared yet
pub entity_new_told : (s : Scope) (u : Unit') (a : Attributes) (y : Option DataType) (e : d.Entity) (q : AskedEntity) (g g' : Grown) → q ≡ entity_asked_of (grown_scope s g) a e
    → (is_there (denoted_in g.own e.name.text) || (u.is_answer_typed && is_answer u e.name.text)) ≡ false → g'.first ≡ first_of g.first (new_entity_breaks u a y e q)
    → ((t : Scope) → grown_scope t g' ≡ scope_behind (grown_scope t g) u a y e q) → told s g' ≡ behind (of_entity u a y e) (told s g)
unfolding told behind of_entity grown_scope
entity_new_told s u a y e q g g' p b f h =
    let t = names_and_constants s g in
    let ds = effective_dimensions a e in
    let c = effective_coshape a e in
    let both : Bool → Declared = λ v. cond v (record { breaks = repeated_breaks t e ds c; scope = t }) (record { breaks = entity_breaks t u a y e ds c; scope = scope_with t u a y e }) in
    ap (λ k. told_parts k (names_and_constants s g')) (f ∙ ap (λ z. first_of g.first (new_entity_breaks u a y e z)) p ∙ ap (first_of g.first) (new_entity_are t u a y e))
    ∙ ap (told_parts (first_of g.first (entity_breaks t u a y e ds c))) (h s ∙ ap (scope_behind t u a y e) p ∙ scope_are t u a y e)
    ∙ ap (λ v. told_parts (first_of g.first (both v).breaks) (both v).scope) (sym b)

-- the scope behind a new entity, by what is known of it
pub new_scope : (s : Scope) (u : Unit') (a : Attributes) (y : Option DataType) (e : d.Entity) (q : AskedEntity) (g g' : Grown) (ds : List KnownBounds) (c : Codimensions) (j : Option (Option Constancy))
    → ds ≡ known_shape a q → c ≡ coshape_asked_known q.coshape → j ≡ (initial_of_asked u a e.name.text y (known_shape a q) q.initial).meaning
    → ((t : Scope) → names_and_constants t g' ≡ scope_of_parts (names_and_constants t g) u a y e ds c j) → grown_scope s g' ≡ scope_behind (grown_scope s g) u a y e q
unfolding grown_scope
new_scope s u a y e q g g' ds c j p r k h =
    h s ∙ ap (λ z. scope_of_parts (names_and_constants s g) u a y e z c j) p ∙ ap (λ z. scope_of_parts (names_and_constants s g) u a y e (known_shape a q) z j) r
    ∙ ap (scope_of_parts (names_and_constants s g) u a y e (known_shape a q) (coshape_asked_known q.coshape)) k

-- what is asked in the scope so far
pub asked_told : (s t : Scope) (g : Grown) (cs : List Constant) (a : Attributes) (e : d.Entity) (q : AskedEntity) → t ≡ record s { own = g.own; constants = cs } → cs ≡ g.constants.items → q ≡ entity_asked_of t a e
    → q ≡ entity_asked_of (grown_scope s g) a e
unfolding grown_scope
asked_told s t g cs a e q p k h = h ∙ ap (λ z. entity_asked_of z a e) (p ∙ ap (λ z. record s { own = g.own; constants = z }) k)

-- the type and the attributes of a declaration in the scope so far
pub head_told : (s t : Scope) (g g' : Grown) (cs : List Constant) (x : d.Declaration) → t ≡ record s { own = g.own; constants = cs } → cs ≡ g.constants.items
    → g'.first ≡ first_of g.first ((type_judged t x.type_spec).breaks ++ attribute_breaks t x.attributes) → g'.own ≡ g.own → g'.constants ≡ g.constants → told s g' ≡ behind (of_head x) (told s g)
unfolding told behind of_head grown_scope
head_told s t g g' cs x p k f o c =
    let whole : Scope → Option Broken = λ z. first_of g.first ((type_judged z x.type_spec).breaks ++ attribute_breaks z x.attributes) in
    ap (λ z. told_parts z (names_and_constants s g')) (f ∙ ap whole (p ∙ ap (λ z. record s { own = g.own; constants = z }) k))
    ∙ ap (λ z. told_parts (whole (names_and_constants s g)) (record s { own = z; constants = g'.constants.items })) o
    ∙ ap (λ z. told_parts (whole (names_and_constants s g)) (record s { own = g.own; constants = z.items })) c

pub head_type_told : (s t : Scope) (g : Grown) (cs : List Constant) (x : d.Declaration) (y : Option DataType) → t ≡ record s { own = g.own; constants = cs } → cs ≡ g.constants.items → y ≡ (type_judged t x.type_spec).meaning → y ≡ head_type x (told s g)
unfolding told head_type grown_scope
head_type_told s t g cs x y p k h = h ∙ ap (λ z. (type_judged z x.type_spec).meaning) (p ∙ ap (λ z. record s { own = g.own; constants = z }) k)

-- whether a name is declared, of an equal name
pub declared_test : (u : Unit') (own : List Named) (x y : List ℕ) (b v : Bool) → b ≡ (is_there (denoted_in own x) || (u.is_answer_typed && is_answer u x)) → x ≡ y → b ≡ v
    → (is_there (denoted_in own y) || (u.is_answer_typed && is_answer u y)) ≡ v
declared_test u own x y b v e p h = sym (e ∙ ap (λ z. is_there (denoted_in own z) || (u.is_answer_typed && is_answer u z)) p) ∙ h
