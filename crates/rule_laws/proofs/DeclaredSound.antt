-- Declarations that break nothing fill a scope with known names.
use Rattle.std.proofs.Common.{◌≡◌, ◌∙◌, ℕ, suc, Bool, true, false, List, [], ◌∷◌, ◌++◌, refl, sym, arith}
use Rattle.std.specs.Prelude.{cond, not, nat_eq, bytes_eq, ◌&&◌, ◌||◌, Option, Some, None, length}
use Rattle.std.proofs.lemmas.Bool.Decides.{nat_tests}
use Rattle.std.specs.Bool.{Decides}
use Rattle.std.proofs.lemmas.Slice.Eq.{bytes_eq-Decides}
use Rattle.caf_base.specs.declared.place.Pos.{Pos}
use Rattle.fortran_tree.specs.Statements as d
use Rattle.checked_tree.specs.declared.data.DataType.{DataType}
use Rattle.checked_tree.specs.declared.data.DataType.TheVariants.{Intrinsic, Team, Event, Lock}
use Rattle.checked_tree.specs.declared.data.Object.TheVariants as objects
use Rattle.checked_tree.specs.declared.data.Local.{Local}
use Rattle.rule_definitions.specs.declared.broken.Broken.{Broken}
use Rattle.rule_definitions.specs.Judgements.{breaks, is_nothing, Judgement, is_there}
use Rattle.rule_definitions.specs.Names
use Rattle.rule_definitions.specs.Names.{Scope, Symbol, Named, named, Meaning, KnownBounds, is_among, denoted_in, variables_of}
use Rattle.rule_definitions.specs.Constants.{all_bounds}
use Rattle.rule_definitions.specs.Declarations.{Unit', type_judged, Attributes, no_attributes, attributes_of, any_deferred, is_deferred_if, corank_of, dimensions_breaks, dimensions_known, is_shaped, special_type_breaks, is_answer, is_named_constant, initial_judged, effective_dimensions, effective_coshape, object_of, array_constant_of, constant_value, Declared, with_name, variable_entity, constant_entity, raw_entity_breaks, entity_breaks, is_declared, declared_entity, and_then, declared_entities, attribute_breaks, declared_with, declared, declared_all}
use Rattle.rule_laws.proofs.Sound.{AreNumbered, IsSound, none_numbered, both_numbered, left_nothing, right_nothing, cons_nil, breaks_some}
use Rattle.rule_laws.proofs.Known.{is_placed, is_known_value, and_left, and_right, no}
use Rattle.rule_laws.proofs.Calls.{or_left}
use Rattle.rule_laws.proofs.ArgumentsSound.{unless_nothing, and_both}
use Rattle.rule_laws.proofs.Filled.{is_data, IsFilled, filled_more}
use Rattle.rule_laws.proofs.DeclarationsSound.{type_sound, raw_dimensions_numbered, raw_coshape_numbered, dimensions_there}
use Rattle.rule_laws.proofs.InitialsSound.{constant_known}
use Rattle.rule_laws.proofs.EntitiesSound.{entity_numbered, repeated_numbered, entity_whole}

pub or_first : (a b : Bool) → a ≡ true → a || b ≡ true
or_first true true e = refl
or_first true false e = refl
or_first false b e = no e

pub or_second : (a b : Bool) → b ≡ true → a || b ≡ true
or_second true true e = refl
or_second false true e = refl
or_second a false e = no e

pub not_true : (b : Bool) → not b ≡ true → b ≡ false
not_true true e = sym e
not_true false e = refl

some_rank : (n : ℕ) → not (nat_eq (suc n) 0) ≡ true
some_rank n = grind (arith, nat_tests)

-- Bounds

abbrev bounded : Bool → List KnownBounds → Bool
bounded b ds = (b && not (nat_eq (length ds) 0)) || is_there (all_bounds ds)

bounds_known : (s : Scope) (b : Bool) (ds : List d.Dimension) (c : Option d.CoarraySpec) → IsFilled s → is_shaped b ds c ≡ true → dimensions_breaks s b ds ≡ [] → bounded b (dimensions_known s b ds) ≡ true
bounds_known s true [] c h k e = or_second (true && not (nat_eq 0 0)) true refl
bounds_known s true (x ∷ ds) c h k e = or_first (true && not (nat_eq (length (dimensions_known s true (x ∷ ds))) 0)) (is_there (all_bounds (dimensions_known s true (x ∷ ds)))) (and_both true (not (nat_eq (length (dimensions_known s true (x ∷ ds))) 0)) refl (some_rank (length (dimensions_known s true ds))))
bounds_known s false ds c h k e = or_second (false && not (nat_eq (length (dimensions_known s false ds)) 0)) (is_there (all_bounds (dimensions_known s false ds))) (dimensions_there s ds h (or_left (any_deferred ds) (is_deferred_if c) (not_true (any_deferred ds || is_deferred_if c) k)) e)

all_known : (b k x : Bool) → (b && k) || x ≡ true → b ≡ false → x ≡ true
all_known true k x e g = no (sym g)
all_known false true true e g = refl
all_known false true false e g = e
all_known false false true e g = refl
all_known false false false e g = e

-- Objects

placed_by : (y : Option DataType) (rank corank : ℕ) (p : Pos) (b : Bool) (l : Local) (n : ℕ) → nat_eq corank 0 ≡ b → special_type_breaks y rank corank p ≡ [] → is_placed y (cond b (objects.Local l) (objects.Coarray n)) ≡ true
placed_by y rank corank p true l n e h = refl
placed_by None rank corank p false l n e h = refl
placed_by (Some (Intrinsic k)) rank corank p false l n e h = refl
placed_by (Some Event) rank corank p false l n e h = refl
placed_by (Some Lock) rank corank p false l n e h = refl
placed_by (Some Team) rank corank p false l n e h = no (sym e ∙ and_right (nat_eq rank 0) (nat_eq corank 0) (unless_nothing (nat_eq rank 0 && nat_eq corank 0) 27 p h))

object_placed : (s : Scope) (y : Option DataType) (rank corank : ℕ) (p : Pos) → special_type_breaks y rank corank p ≡ [] → is_placed y (object_of s corank) ≡ true
object_placed s y rank corank p h = placed_by y rank corank p (nat_eq corank 0) _ _ refl h

-- Names: a variable has its own, and the result is no constant

abbrev pub own_named : Unit' → List ℕ → Meaning → Bool
own_named u n (Names.variable y) = bytes_eq y.name n
own_named u n (Names.constant c) = not (is_answer u n)
own_named u n m = false

abbrev pub all_own : Unit' → List Named → Bool
all_own u [] = true
all_own u (x ∷ xs) = own_named u x.name x.meaning && all_own u xs

pub own_both : (u : Unit') (xs ys : List Named) → all_own u xs ≡ true → all_own u ys ≡ true → all_own u (xs ++ ys) ≡ true
own_both u [] ys h k = k
own_both u (x ∷ xs) ys h k = and_both (own_named u x.name x.meaning) (all_own u (xs ++ ys)) (and_left (own_named u x.name x.meaning) (all_own u xs) h) (own_both u xs ys (and_right (own_named u x.name x.meaning) (all_own u xs) h) k)

same_name : (n : List ℕ) (b : Bool) → Decides b (n ≡ n) → b ≡ true
same_name n b h = h.1 refl

pub self_named : (n : List ℕ) → bytes_eq n n ≡ true
self_named n = same_name n (bytes_eq n n) (bytes_eq-Decides n n)

-- What a declaration does to a scope

pub record IsGrown (K : Type 0) (u : Unit') (s : Scope) (x : Declared) : Type 0 where
  pub numbered : AreNumbered x.breaks
  pub filled : K → IsFilled s → x.breaks ≡ [] → IsFilled x.scope
  pub kept : x.scope.procedures ≡ s.procedures
  pub named : all_own u s.own ≡ true → all_own u x.scope.own ≡ true

pub same_grown : {K : Type 0} (u : Unit') (s : Scope) (bs : List Broken) → AreNumbered bs → IsGrown K u s (record { breaks = bs; scope = s })
same_grown u s bs n = record { numbered = n; filled = λ k h e. h; kept = refl; named = λ h. h }

pub cond_grown : {K : Type 0} (u : Unit') (s : Scope) (b : Bool) {x y : Declared} → IsGrown K u s x → IsGrown K u s y → IsGrown K u s (cond b x y)
cond_grown u s true h k = h
cond_grown u s false h k = k

pub then_grown : {K : Type 0} (u : Unit') (s : Scope) (a : Declared) (next : Scope → Declared) → IsGrown K u s a → IsGrown K u a.scope (next a.scope) → IsGrown K u s (and_then a next)
then_grown u s a next h g = record {
  numbered = both_numbered h.numbered g.numbered;
  filled = λ k f e. g.filled k (h.filled k f (left_nothing a.breaks (next a.scope).breaks e)) (right_nothing a.breaks (next a.scope).breaks e);
  kept = g.kept ∙ h.kept;
  named = λ n. g.named (h.named n);
}

-- Entities

variable_data : (s : Scope) (u : Unit') (a : Attributes) (y : Option DataType) (e : d.Entity) → IsFilled s → is_there y ≡ true → entity_breaks s u a y e (effective_dimensions a e) (effective_coshape a e) ≡ [] → is_data (variable_entity s u a y e).meaning ≡ true
variable_data s u a y e h k b =
    let ds = effective_dimensions a e in
    let c = effective_coshape a e in
    let w = entity_whole s u a y e ds c b in
    let o = object_of s (corank_of c) in
    let bs = dimensions_known s a.is_allocatable ds in
    and_both (is_there y && is_placed y o) (bounded a.is_allocatable bs)
    (and_both (is_there y) (is_placed y o) k (object_placed s y (length ds) (corank_of c) e.name.at w.special))
    (bounds_known s a.is_allocatable ds c h w.shaped w.dimensions)

or_given : (a b : Bool) → not a || b ≡ true → a ≡ true → b ≡ true
or_given true true e f = refl
or_given true false e f = e
or_given false b e f = no f

constant_data : (s : Scope) (u : Unit') (a : Attributes) (y : Option DataType) (e : d.Entity) → IsFilled s → is_there y ≡ true → is_named_constant u a e.name.text ≡ true → entity_breaks s u a y e (effective_dimensions a e) (effective_coshape a e) ≡ []
    → is_there y && is_known_value (dimensions_known s a.is_allocatable (effective_dimensions a e))
    (constant_value s (dimensions_known s a.is_allocatable (effective_dimensions a e)) (initial_judged s u a e.name.text y (dimensions_known s a.is_allocatable (effective_dimensions a e)) e.initial).meaning
    (array_constant_of y (all_bounds (dimensions_known s a.is_allocatable (effective_dimensions a e))) (initial_judged s u a e.name.text y (dimensions_known s a.is_allocatable (effective_dimensions a e)) e.initial).meaning)) ≡ true
constant_data s u a y e h k i b =
    let ds = effective_dimensions a e in
    let c = effective_coshape a e in
    let w = entity_whole s u a y e ds c b in
    let bs = dimensions_known s a.is_allocatable ds in
    let j = (initial_judged s u a e.name.text y bs e.initial).meaning in
    let p = and_left a.is_parameter (not (is_among u.dummies e.name.text || is_answer u e.name.text)) i in
    and_both (is_there y) (is_known_value bs (constant_value s bs j (array_constant_of y (all_bounds bs) j))) k
    (constant_known s u a e.name.text y bs e.initial h k (or_given a.is_parameter (is_there e.initial) w.given p) w.initial
    (λ z. all_known a.is_allocatable (not (nat_eq (length bs) 0)) (is_there (all_bounds bs)) (bounds_known s a.is_allocatable ds c h w.shaped w.dimensions) z))

not_either : (a b : Bool) → not (a || b) ≡ true → not b ≡ true
not_either true true e = e
not_either true false e = refl
not_either false true e = e
not_either false false e = refl

entity_grown : (s : Scope) (u : Unit') (a : Attributes) (y : Option DataType) (e : d.Entity) (b : Bool) → is_named_constant u a e.name.text ≡ b
    → IsGrown (is_there y ≡ true) u s (record {
      breaks = entity_breaks s u a y e (effective_dimensions a e) (effective_coshape a e);
      scope = cond b (constant_entity s (dimensions_known s a.is_allocatable (effective_dimensions a e)) y e (initial_judged s u a e.name.text y (dimensions_known s a.is_allocatable (effective_dimensions a e)) e.initial).meaning) (with_name s (variable_entity s u a y e));
    })
entity_grown s u a y e true i = record {
  numbered = entity_numbered s u a y e (effective_dimensions a e) (effective_coshape a e);
  filled = λ k h b. filled_more s _ _ h (constant_data s u a y e h k i b);
  kept = refl;
  named = λ h. own_both u s.own _ h (and_both (not (is_answer u e.name.text)) true (not_either (is_among u.dummies e.name.text) (is_answer u e.name.text) (and_right a.is_parameter (not (is_among u.dummies e.name.text || is_answer u e.name.text)) i)) refl);
}
entity_grown s u a y e false i = record {
  numbered = entity_numbered s u a y e (effective_dimensions a e) (effective_coshape a e);
  filled = λ k h b. filled_more s (variable_entity s u a y e) s.constants h (variable_data s u a y e h k b);
  kept = refl;
  named = λ h. own_both u s.own (variable_entity s u a y e ∷ []) h (and_both (bytes_eq e.name.text e.name.text) true (self_named e.name.text) refl);
}

repeated_some : (xs : List Broken) (p : Pos) → cond (is_nothing xs) (breaks 21 p) xs ≡ [] → ⊥
repeated_some [] p e = breaks_some 21 p e
repeated_some (x ∷ xs) p e = cons_nil x xs e

declared_entity_grown : (s : Scope) (u : Unit') (a : Attributes) (y : Option DataType) (e : d.Entity) → IsGrown (is_there y ≡ true) u s (declared_entity s u a y e)
declared_entity_grown s u a y e = cond_grown u s (is_declared u s e.name.text)
    (record {
      numbered = repeated_numbered s e (effective_dimensions a e) (effective_coshape a e);
      filled = λ k h b. absurd (repeated_some (raw_entity_breaks s e (effective_dimensions a e) (effective_coshape a e)) e.name.at b);
      kept = refl;
      named = λ h. h;
    })
    (entity_grown s u a y e (is_named_constant u a e.name.text) refl)

entities_grown : (u : Unit') (a : Attributes) (y : Option DataType) (es : List d.Entity) (s : Scope) → IsGrown (is_there y ≡ true) u s (declared_entities u a y es s)
entities_grown u a y [] s = same_grown u s [] none_numbered
entities_grown u a y (e ∷ rest) s = then_grown u s (declared_entity s u a y e) (declared_entities u a y rest) (declared_entity_grown s u a y e) (entities_grown u a y rest (declared_entity s u a y e).scope)

attributes_numbered : (s : Scope) (xs : List d.Attribute) → AreNumbered (attribute_breaks s xs)
attributes_numbered s [] = none_numbered
attributes_numbered s (d.dimension ds ∷ rest) = both_numbered (raw_dimensions_numbered s ds) (attributes_numbered s rest)
attributes_numbered s (d.codimension c ∷ rest) = both_numbered (raw_coshape_numbered s (Some c)) (attributes_numbered s rest)
attributes_numbered s (x ∷ rest) = attributes_numbered s rest

with_grown : {K : Type 0} (u : Unit') (a : Attributes) (s : Scope) (j : Judgement DataType) (bs : List Broken) (es : List d.Entity) → IsSound (IsFilled s) j → AreNumbered bs → IsGrown K u s (declared_with u a j bs es s)
with_grown u a s j bs es h n =
    let g = entities_grown u a j.meaning es s in
    record {
      numbered = both_numbered (both_numbered h.numbered n) g.numbered;
      filled = λ k f e. g.filled (h.decided f (left_nothing j.breaks bs (left_nothing (j.breaks ++ bs) (declared_entities u a j.meaning es s).breaks e))) f (right_nothing (j.breaks ++ bs) (declared_entities u a j.meaning es s).breaks e);
      kept = g.kept;
      named = g.named;
    }

declaration_grown : {K : Type 0} (u : Unit') (x : d.Declaration) (s : Scope) → IsGrown K u s (declared u x s)
declaration_grown u x s = with_grown u (attributes_of no_attributes x.attributes) s (type_judged s x.type_spec) (attribute_breaks s x.attributes) x.entities (type_sound s x.type_spec) (attributes_numbered s x.attributes)

pub declarations_grown : {K : Type 0} (u : Unit') (xs : List d.Declaration) (s : Scope) → IsGrown K u s (declared_all u xs s)
declarations_grown u [] s = same_grown u s [] none_numbered
declarations_grown u (x ∷ xs) s = then_grown u s (declared u x s) (declared_all u xs) (declaration_grown u x s) (declarations_grown u xs (declared u x s).scope)
