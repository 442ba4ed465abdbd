-- The words here over what is asked of expressions are those of the definitions.
use Rattle.std.proofs.Common.{◌≡◌, ◌∙◌, ℕ, ℤ, Bool, true, false, List, [], ◌∷◌, ◌++◌, refl, ap, sym, map}
use Rattle.std.specs.Prelude.{cond, Option, Some, None}
use Rattle.std.proofs.lemmas.List.{append_assoc}
use Rattle.caf_base.specs.declared.place.Pos.{Pos}
use Rattle.fortran_tree.specs.Expressions as f
use Rattle.fortran_tree.specs.Statements as d
use Rattle.checked_tree.specs.Expressions as t
use Rattle.checked_tree.specs.declared.data.DataType.{DataType}
use Rattle.checked_tree.specs.declared.data.Codimensions.{Codimensions}
use Rattle.rule_definitions.specs.declared.broken.Broken.{Broken}
use Rattle.rule_definitions.specs.Judgements.{Judgement, breaks, breaks_of, fine, is_nothing, made, made_of}
use Rattle.rule_definitions.specs.Names.{KnownBounds, Scope}
use Rattle.rule_definitions.specs.Parts.{Placed}
use Rattle.rule_definitions.specs.Constants.{Constancy, all_bounds}
use Rattle.rule_definitions.specs.Expressions.{placed}
use Rattle.rule_definitions.specs.Declarations.{Attributes, Unit', attribute_breaks, cobounds_value, coshape_breaks, coshape_known, coshape_of_bounds, dimensions_breaks, dimensions_known, effective_coshape, effective_dimensions, entity_breaks, initial_judged, lacks_value, lower_value, raw_bounds_breaks, raw_breaks, raw_coshape_breaks, raw_dimensions_breaks, raw_entity_breaks, repeated_breaks, scope_with, whole_breaks}
use Rattle.declaration_rules.specs.Asked.{Asked, Worth, asked_of, worth_of}
use Rattle.declaration_rules.specs.Bounds.{bounds_asked_of, cobounds_asked, lower_asked, maybe_asked_of}
use Rattle.declaration_rules.specs.Shapes.{AskedDimension, dimension_asked_of, dimensions_asked, raw_asked}
use Rattle.unit_scopes.specs.Heads.{one_attribute_breaks}
use Rattle.declaration_rules.proofs.Definitions.{cobounds_is, dimensions_are, initial_is, known_dimensions_are, lower_is, raw_dimensions_are, raw_is}
use Rattle.unit_scopes.specs.Coshapes.{AskedCoshape, cobounds_breaks, coshape_asked_breaks, coshape_asked_known, known_cobounds, maybe_coshape_of, raw_all_asked, raw_coshape_asked}
use Rattle.unit_scopes.specs.EntitiesAsked.{AskedEntity, entity_asked_of, initial_of_asked, known_shape, new_entity_breaks, raw_entity_asked, repeated_asked, scope_behind, scope_of_parts}

abbrev placed_parts : List Broken → Option t.Expression → Pos → Bool → Placed
placed_parts bs m p b = record { judged = record { breaks = bs; meaning = m }; at = p; is_procedure = b }

abbrev asked_parts : List Broken → Option Worth → Bool → Pos → Asked
asked_parts bs w l p = record { judged = record { breaks = bs; meaning = w }; lacks_value = l; at = p }

-- what is asked of an expression that was judged
pub asked_made : (s : Scope) (e : f.Expression) (bs : List Broken) (m : Option t.Expression) (w : Option Worth) (l : Bool) (p : Pos) (b : Bool)
    → placed_parts bs m p b ≡ placed s e → w ≡ made (worth_of s) m → l ≡ lacks_value s e → asked_parts bs w l p ≡ asked_of s e
unfolding asked_of
asked_made s e bs m w l p b g h k =
    ap (λ o. asked_parts bs o l p) h
    ∙ ap (λ v. asked_parts bs (made (worth_of s) m) v p) k
    ∙ ap (λ (x : Placed). asked_parts x.judged.breaks (made (worth_of s) x.judged.meaning) (lacks_value s e) x.at) g

raw_all_are : (s : Scope) (bs : List d.Bounds) → raw_all_asked (map (bounds_asked_of s) bs) ≡ raw_bounds_breaks s bs
raw_all_are s [] = refl
raw_all_are s (b ∷ bs) =
    append_assoc (raw_asked (maybe_asked_of s b.lower)) (raw_asked (Some (asked_of s b.upper))) (raw_all_asked (map (bounds_asked_of s) bs))
    ∙ ap (λ k. k ++ (raw_asked (Some (asked_of s b.upper)) ++ raw_all_asked (map (bounds_asked_of s) bs))) (raw_is s b.lower)
    ∙ ap (λ k. raw_breaks s b.lower ++ (k ++ raw_all_asked (map (bounds_asked_of s) bs))) (raw_is s (Some b.upper))
    ∙ ap (λ k. raw_breaks s b.lower ++ (raw_breaks s (Some b.upper) ++ k)) (raw_all_are s bs)

pub raw_coshape_are : (s : Scope) (c : Option d.CoarraySpec) → raw_coshape_asked (maybe_coshape_of s c) ≡ raw_coshape_breaks s c
raw_coshape_are s None = refl
raw_coshape_are s (Some (d.deferred_coshape n)) = refl
raw_coshape_are s (Some (d.explicit_coshape bs l)) = ap (λ k. k ++ raw_asked (maybe_asked_of s l)) (raw_all_are s bs) ∙ ap (λ k. raw_bounds_breaks s bs ++ k) (raw_is s l)

cobounds_breaks_are : (s : Scope) (bs : List d.Bounds) → cobounds_breaks (map (bounds_asked_of s) bs) ≡ breaks_of (map (cobounds_value s) bs)
cobounds_breaks_are s [] = refl
cobounds_breaks_are s (b ∷ bs) =
    ap (λ (k : Judgement (ℤ × ℤ)). k.breaks ++ cobounds_breaks (map (bounds_asked_of s) bs)) (cobounds_is s b) ∙ ap (λ k. (cobounds_value s b).breaks ++ k) (cobounds_breaks_are s bs)

known_cobounds_are : (s : Scope) (bs : List d.Bounds) → map known_cobounds (map (bounds_asked_of s) bs) ≡ map (λ b. (cobounds_value s b).meaning) bs
known_cobounds_are s [] = refl
known_cobounds_are s (b ∷ bs) =
    ap (λ (k : Judgement (ℤ × ℤ)). k.meaning ∷ map known_cobounds (map (bounds_asked_of s) bs)) (cobounds_is s b) ∙ ap (λ k. (cobounds_value s b).meaning ∷ k) (known_cobounds_are s bs)

pub coshape_breaks_are : (s : Scope) (a : Bool) (c : Option d.CoarraySpec) → coshape_asked_breaks a (maybe_coshape_of s c) ≡ coshape_breaks s a c
coshape_breaks_are s true c = raw_coshape_are s c
coshape_breaks_are s false None = refl
coshape_breaks_are s false (Some (d.deferred_coshape n)) = refl
coshape_breaks_are s false (Some (d.explicit_coshape bs l)) =
    ap (λ k. k ++ (lower_asked (maybe_asked_of s l)).breaks) (cobounds_breaks_are s bs)
    ∙ ap (λ (k : Judgement ℤ). breaks_of (map (cobounds_value s) bs) ++ k.breaks) (lower_is s l)

pub coshape_known_are : (s : Scope) (c : Option d.CoarraySpec) → coshape_asked_known (maybe_coshape_of s c) ≡ coshape_known s c
coshape_known_are s None = refl
coshape_known_are s (Some (d.deferred_coshape n)) = refl
coshape_known_are s (Some (d.explicit_coshape bs l)) =
    ap (λ k. coshape_of_bounds (all_bounds k) (lower_asked (maybe_asked_of s l)).meaning) (known_cobounds_are s bs)
    ∙ ap (λ (k : Judgement ℤ). coshape_of_bounds (all_bounds (map (λ b. (cobounds_value s b).meaning) bs)) k.meaning) (lower_is s l)

pub raw_entity_are : (s : Scope) (a : Attributes) (e : d.Entity) → raw_entity_asked (entity_asked_of s a e) ≡ raw_entity_breaks s e (effective_dimensions a e) (effective_coshape a e)
unfolding entity_asked_of
raw_entity_are s a e =
    ap (λ k. k ++ (raw_coshape_asked (maybe_coshape_of s (effective_coshape a e)) ++ raw_asked (maybe_asked_of s e.initial))) (raw_dimensions_are s (effective_dimensions a e))
    ∙ ap (λ k. raw_dimensions_breaks s (effective_dimensions a e) ++ (k ++ raw_asked (maybe_asked_of s e.initial))) (raw_coshape_are s (effective_coshape a e))
    ∙ ap (λ k. raw_dimensions_breaks s (effective_dimensions a e) ++ (raw_coshape_breaks s (effective_coshape a e) ++ k)) (raw_is s e.initial)

pub repeated_are : (s : Scope) (a : Attributes) (e : d.Entity) → repeated_asked (entity_asked_of s a e) e.name.at ≡ repeated_breaks s e (effective_dimensions a e) (effective_coshape a e)
repeated_are s a e = ap (λ k. cond (is_nothing k) (breaks 21 e.name.at) k) (raw_entity_are s a e)

initial_are : (s : Scope) (u : Unit') (a : Attributes) (n : List ℕ) (y : Option DataType) (ds : List KnownBounds) (o : Option f.Expression)
    → initial_of_asked u a n y ds (maybe_asked_of s o) ≡ initial_judged s u a n y ds o
initial_are s u a n y ds None = refl
initial_are s u a n y ds (Some e) = initial_is s u a n y ds e

shape_are : (s : Scope) (a : Attributes) (e : d.Entity) → known_shape a (entity_asked_of s a e) ≡ dimensions_known s a.is_allocatable (effective_dimensions a e)
unfolding entity_asked_of
shape_are s a e = known_dimensions_are s a.is_allocatable (effective_dimensions a e)

initial_entity : (s : Scope) (u : Unit') (a : Attributes) (y : Option DataType) (e : d.Entity)
    → initial_of_asked u a e.name.text y (known_shape a (entity_asked_of s a e)) (entity_asked_of s a e).initial ≡ initial_judged s u a e.name.text y (dimensions_known s a.is_allocatable (effective_dimensions a e)) e.initial
unfolding entity_asked_of
initial_entity s u a y e =
    ap (λ k. initial_of_asked u a e.name.text y k (maybe_asked_of s e.initial)) (shape_are s a e)
    ∙ initial_are s u a e.name.text y (dimensions_known s a.is_allocatable (effective_dimensions a e)) e.initial

abbrev four : List Broken → List Broken → List Broken → List Broken → List Broken → List Broken
four raw w x y z = cond (is_nothing raw) w [] ++ (x ++ (y ++ z))

pub new_entity_are : (s : Scope) (u : Unit') (a : Attributes) (y : Option DataType) (e : d.Entity)
    → new_entity_breaks u a y e (entity_asked_of s a e) ≡ entity_breaks s u a y e (effective_dimensions a e) (effective_coshape a e)
unfolding entity_asked_of
new_entity_are s u a y e =
    let q = entity_asked_of s a e in
    let ds = effective_dimensions a e in
    let c = effective_coshape a e in
    let w = whole_breaks u a y e ds c in
    let i = (initial_of_asked u a e.name.text y (known_shape a q) q.initial).breaks in
    ap (λ k. four k w (dimensions_asked a.is_allocatable q.dimensions) (coshape_asked_breaks a.is_allocatable q.coshape) i) (raw_entity_are s a e)
    ∙ ap (λ k. four (raw_entity_breaks s e ds c) w k (coshape_asked_breaks a.is_allocatable q.coshape) i) (dimensions_are s a.is_allocatable ds)
    ∙ ap (λ k. four (raw_entity_breaks s e ds c) w (dimensions_breaks s a.is_allocatable ds) k i) (coshape_breaks_are s a.is_allocatable c)
    ∙ ap (λ (k : Judgement (Option Constancy)). four (raw_entity_breaks s e ds c) w (dimensions_breaks s a.is_allocatable ds) (coshape_breaks s a.is_allocatable c) k.breaks) (initial_entity s u a y e)

pub scope_are : (s : Scope) (u : Unit') (a : Attributes) (y : Option DataType) (e : d.Entity) → scope_behind s u a y e (entity_asked_of s a e) ≡ scope_with s u a y e
unfolding entity_asked_of
scope_are s u a y e =
    let q = entity_asked_of s a e in
    let j = initial_of_asked u a e.name.text y (known_shape a q) q.initial in
    let ds = dimensions_known s a.is_allocatable (effective_dimensions a e) in
    ap (λ k. scope_of_parts s u a y e k (coshape_asked_known q.coshape) j.meaning) (shape_are s a e)
    ∙ ap (λ k. scope_of_parts s u a y e ds k j.meaning) (coshape_known_are s (effective_coshape a e))
    ∙ ap (λ (k : Judgement (Option Constancy)). scope_of_parts s u a y e ds (coshape_known s (effective_coshape a e)) k.meaning) (initial_entity s u a y e)

abbrev entity_parts : List AskedDimension → Option AskedCoshape → Option Asked → AskedEntity
entity_parts ds c i = record { dimensions = ds; coshape = c; initial = i }

-- what is asked of an entity, part by part
pub entity_made : (s : Scope) (a : Attributes) (e : d.Entity) (ds : List AskedDimension) (c : Option AskedCoshape) (i : Option Asked)
    → ds ≡ map (dimension_asked_of s) (effective_dimensions a e) → c ≡ maybe_coshape_of s (effective_coshape a e) → i ≡ maybe_asked_of s e.initial → entity_parts ds c i ≡ entity_asked_of s a e
unfolding entity_asked_of
entity_made s a e ds c i p q r =
    ap (λ k. entity_parts k c i) p ∙ ap (λ k. entity_parts (map (dimension_asked_of s) (effective_dimensions a e)) k i) q
    ∙ ap (λ k. entity_parts (map (dimension_asked_of s) (effective_dimensions a e)) (maybe_coshape_of s (effective_coshape a e)) k) r

pub attribute_more : (s : Scope) (x : d.Attribute) (xs : List d.Attribute) → attribute_breaks s (x ∷ xs) ≡ one_attribute_breaks s x ++ attribute_breaks s xs
attribute_more s (d.dimension ds) xs = refl
attribute_more s (d.codimension c) xs = refl
attribute_more s d.parameter xs = refl
attribute_more s d.allocatable xs = refl
attribute_more s d.save xs = refl
attribute_more s (d.intent i) xs = refl
