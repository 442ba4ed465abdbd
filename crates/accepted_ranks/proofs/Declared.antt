-- What declarations that break nothing declare has at most rank 3, keeps locks and events in coarrays, and is numbered
-- in order in a procedure.
use Rattle.std.proofs.Common.{◌≡◌, ◌∙◌, ℕ, suc, ◌+◌, Bool, true, false, List, [], ◌∷◌, ◌++◌, length, refl, sym, ap, subst, arith}
use Rattle.std.proofs.lemmas.List.{length-map}
use Rattle.std.specs.Prelude.{cond, not, nat_eq, nat_le, ◌&&◌, ◌||◌, Option, Some, None}
use Rattle.caf_base.specs.declared.place.Pos.{Pos}
use Rattle.fortran_tree.specs.Expressions as f
use Rattle.fortran_tree.specs.Statements as d
use Rattle.checked_tree.specs.declared.data.DataType.{DataType}
use Rattle.checked_tree.specs.declared.data.DataType.TheVariants.{Intrinsic, Team, Event, Lock}
use Rattle.checked_tree.specs.declared.data.Local.{Local}
use Rattle.checked_tree.specs.declared.data.Object.{Object}
use Rattle.checked_tree.specs.declared.data.Object.TheVariants as objects
use Rattle.rule_definitions.specs.declared.broken.Broken.{Broken}
use Rattle.rule_definitions.specs.Judgements.{breaks, is_nothing, is_there}
use Rattle.rule_definitions.specs.Names
use Rattle.rule_definitions.specs.Names.{Scope, Symbol, Named, named, Meaning, variables_of, is_declared_role, is_among}
use Rattle.rule_definitions.specs.Declarations.{Unit', Attributes, no_attributes, attributes_of, corank_of, raw_breaks, raw_dimensions_breaks, raw_coshape_breaks, dimension_judged, dimensions_breaks, dimensions_known, coshape_breaks, rank_breaks, deferred_breaks, special_type_breaks, procedure_variable_breaks, intent_breaks, parameter_breaks, is_special, initialized_breaks, is_answer, is_named_constant, initial_value, constant_expression, initial_judged, effective_dimensions, effective_coshape, role_of, count_coarrays, object_of, Declared, with_name, variable_entity, constant_entity, raw_entity_breaks, whole_breaks, entity_breaks, is_declared, declared_entity, and_then, declared_entities, attribute_breaks, declared, declared_all, type_judged}
use Rattle.rule_definitions.specs.Parts.{place_of}
use Rattle.rule_definitions.specs.Units.{number_of}
use Rattle.rule_laws.proofs.Filled.{all_meant, meant_both}
use Rattle.rule_laws.proofs.DeclarationsSound.{dimensions_raw, coshape_raw}
use Rattle.rule_laws.proofs.InitialsSound.{initial_raw}
use Rattle.accepted_ranks.proofs.Means.{cons_nil, left_nothing, right_nothing, unless_nothing, formed_nothing, no, and_left}

pub both_true : (a b : Bool) → a ≡ true → b ≡ true → (a && b) ≡ true
both_true true b e g = g
both_true false b e g = no e

-- ---- names that stand for variables and constants as they must be
abbrev pub is_kept : Option DataType → Object → Bool
is_kept (Some Lock) (objects.Local l) = false
is_kept (Some Event) (objects.Local l) = false
is_kept y o = true

abbrev pub is_variable : Object → Bool
is_variable (objects.Constant n) = false
is_variable o = true

abbrev pub is_fit : Meaning → Bool
is_fit (Names.variable x) = nat_le (length x.bounds) 3 && (is_kept x.of_type x.object && (is_variable x.object && is_declared_role x.role))
is_fit (Names.constant c) = nat_le (length c.bounds) 3 && not (is_special c.of_type)
is_fit m = false

-- the variables of a procedure are numbered in order
abbrev pub ArePlaced : ℕ → List Symbol → Type 0
ArePlaced k [] = Unit {0}
ArePlaced k (x ∷ xs) = (number_of x ≡ k) × ArePlaced (suc k) xs

pub placed_more : (k : ℕ) (xs : List Symbol) (y : Symbol) → ArePlaced k xs → number_of y ≡ k + length xs → ArePlaced k (xs ++ y ∷ [])
placed_more k [] y h e = ((let g = e in omega arith), tt)
placed_more k (x ∷ xs) y h e = (h.0, placed_more (suc k) xs y h.1 (let g = e in omega arith))

variables_step : (m : Meaning) (xs ys : List Symbol) (y : Symbol) → ys ≡ xs ++ y ∷ [] → elim m [ Names.variable z ↦ z ∷ ys | o ↦ ys ] ≡ elim m [ Names.variable z ↦ z ∷ xs | o ↦ xs ] ++ y ∷ []
variables_step (Names.variable z) xs ys y e = ap (λ k. z ∷ k) e
variables_step (Names.constant c) xs ys y e = e
variables_step (Names.subroutine n) xs ys y e = e
variables_step (Names.function n) xs ys y e = e
variables_step (Names.module_constant n) xs ys y e = e
variables_step (Names.module_type n) xs ys y e = e
variables_step (Names.intrinsic_function n) xs ys y e = e
variables_step (Names.intrinsic_subroutine n) xs ys y e = e

pub variables_behind : (xs : List Named) (n : List ℕ) (y : Symbol) → variables_of (xs ++ named n (Names.variable y) ∷ []) ≡ variables_of xs ++ y ∷ []
variables_behind [] n y = refl
variables_behind (x ∷ xs) n y = variables_step x.meaning (variables_of xs) (variables_of (xs ++ named n (Names.variable y) ∷ [])) y (variables_behind xs n y)

abbrev with_meaning : Meaning → List Symbol → List Symbol
with_meaning m xs = elim m [ Names.variable z ↦ z ∷ xs | o ↦ xs ]

same_step : (m : Meaning) (xs ys : List Symbol) → ys ≡ xs → with_meaning m ys ≡ with_meaning m xs
same_step m xs ys e = ap (with_meaning m) e

constants_behind : (xs : List Named) (n : List ℕ) (y : Names.ConstantSymbol) → variables_of (xs ++ named n (Names.constant y) ∷ []) ≡ variables_of xs
constants_behind [] n y = refl
constants_behind (x ∷ xs) n y = same_step x.meaning (variables_of xs) (variables_of (xs ++ named n (Names.constant y) ∷ [])) (constants_behind xs n y)

-- ---- what an entity that breaks nothing is
pub record IsSound (s : Scope) (u : Unit') (a : Attributes) (y : Option DataType) (e : d.Entity) (ds : List d.Dimension) (c : Option d.CoarraySpec) : Type 0 where
  pub rank : nat_le (length ds) 3 ≡ true
  pub special : special_type_breaks y (length ds) (corank_of c) e.name.at ≡ []
  pub local : u.is_procedure ≡ true → nat_eq (corank_of c) 0 ≡ true
  pub given : (not a.is_parameter || is_there e.initial) ≡ true
  pub initial : (initial_judged s u a e.name.text y (dimensions_known s a.is_allocatable ds) e.initial).breaks ≡ []

join_nothing : (xs ys : List Broken) → xs ≡ [] → ys ≡ [] → xs ++ ys ≡ []
join_nothing xs ys e g = ap (λ z. z ++ ys) e ∙ g

uncoded : (p a b c : Bool) → not (p && (a || (b || not c))) ≡ true → p ≡ true → c ≡ true
uncoded true a b true e h = refl
uncoded true true b false e h = no e
uncoded true false true false e h = no e
uncoded true false false false e h = no e
uncoded false a b c e h = no h

entity_sound : (s : Scope) (u : Unit') (a : Attributes) (y : Option DataType) (e : d.Entity) (ds : List d.Dimension) (c : Option d.CoarraySpec) → entity_breaks s u a y e ds c ≡ [] → IsSound s u a y e ds c
entity_sound s u a y e ds c h =
    let raw = raw_entity_breaks s e ds c in
    let w = whole_breaks u a y e ds c in
    let ws = cond (is_nothing raw) w [] in
    let xs = dimensions_breaks s a.is_allocatable ds in
    let ys = coshape_breaks s a.is_allocatable c in
    let zs = (initial_judged s u a e.name.text y (dimensions_known s a.is_allocatable ds) e.initial).breaks in
    let r = right_nothing ws (xs ++ (ys ++ zs)) h in
    let x = left_nothing xs (ys ++ zs) r in
    let q = right_nothing xs (ys ++ zs) r in
    let z = right_nothing ys zs q in
    let n = join_nothing (raw_dimensions_breaks s ds) (raw_coshape_breaks s c ++ raw_breaks s e.initial) (dimensions_raw s a.is_allocatable ds x)
    (join_nothing (raw_coshape_breaks s c) (raw_breaks s e.initial) (coshape_raw s a.is_allocatable c (left_nothing ys zs q)) (initial_raw s u a e.name.text y (dimensions_known s a.is_allocatable ds) e.initial z)) in
    let k = formed_nothing raw w n (left_nothing ws (xs ++ (ys ++ zs)) h) in
    let b1 = rank_breaks (length ds) (corank_of c) e.name.at in
    let b2 = deferred_breaks a.is_allocatable ds c e.name.at in
    let b3 = special_type_breaks y (length ds) (corank_of c) e.name.at in
    let b4 = procedure_variable_breaks u a (corank_of c) e.name.at in
    let b5 = intent_breaks u a e.name in
    let b6 = parameter_breaks a e.initial e.name.at in
    let k2 = right_nothing b1 (b2 ++ (b3 ++ (b4 ++ (b5 ++ b6)))) k in
    let k3 = right_nothing b2 (b3 ++ (b4 ++ (b5 ++ b6))) k2 in
    let k4 = right_nothing b3 (b4 ++ (b5 ++ b6)) k3 in
    let k5 = right_nothing b4 (b5 ++ b6) k4 in
    let k6 = right_nothing b5 b6 k5 in
    record {
      rank = and_left (nat_le (length ds) 3) (nat_le (corank_of c) 3) (unless_nothing (nat_le (length ds) 3 && nat_le (corank_of c) 3) 24 e.name.at (left_nothing b1 (b2 ++ (b3 ++ (b4 ++ (b5 ++ b6)))) k));
      special = left_nothing b3 (b4 ++ (b5 ++ b6)) k3;
      local = λ m. uncoded u.is_procedure a.is_allocatable a.is_saved (nat_eq (corank_of c) 0)
          (unless_nothing (not (u.is_procedure && (a.is_allocatable || (a.is_saved || not (nat_eq (corank_of c) 0))))) 28 e.name.at (left_nothing b4 (b5 ++ b6) k4)) m;
      given = unless_nothing (not a.is_parameter || is_there e.initial) 22 e.name.at k6;
      initial = z;
    }

-- ---- variables
known_rank : (s : Scope) (b : Bool) (ds : List d.Dimension) → nat_le (length ds) 3 ≡ true → nat_le (length (dimensions_known s b ds)) 3 ≡ true
known_rank s b ds h = subst (λ n. nat_le n 3 ≡ true) (sym (length-map ds (λ x. cond b None (dimension_judged s x).meaning))) h

kept_by : (y : Option DataType) (rank corank : ℕ) (p : Pos) (b : Bool) (l : Local) (n : ℕ) → nat_eq corank 0 ≡ b → special_type_breaks y rank corank p ≡ [] → is_kept y (cond b (objects.Local l) (objects.Coarray n)) ≡ true
kept_by None rank corank p true l n e h = refl
kept_by (Some (Intrinsic k)) rank corank p true l n e h = refl
kept_by (Some Team) rank corank p true l n e h = refl
kept_by (Some Event) rank corank p true l n e h = no (sym (ap not e) ∙ unless_nothing (not (nat_eq corank 0)) 27 p h)
kept_by (Some Lock) rank corank p true l n e h = no (sym (ap not e) ∙ unless_nothing (not (nat_eq corank 0)) 27 p h)
kept_by None rank corank p false l n e h = refl
kept_by (Some (Intrinsic k)) rank corank p false l n e h = refl
kept_by (Some Team) rank corank p false l n e h = refl
kept_by (Some Event) rank corank p false l n e h = refl
kept_by (Some Lock) rank corank p false l n e h = refl

variable_by : (b : Bool) (l : Local) (n : ℕ) → is_variable (cond b (objects.Local l) (objects.Coarray n)) ≡ true
variable_by true l n = refl
variable_by false l n = refl

role_by : (b c : Bool) (i : _) → is_declared_role (cond b (Names.dummy i) (cond c Names.function_result Names.plain)) ≡ true
role_by true c i = refl
role_by false true i = refl
role_by false false i = refl

variable_fit : (s : Scope) (u : Unit') (a : Attributes) (y : Option DataType) (e : d.Entity) → IsSound s u a y e (effective_dimensions a e) (effective_coshape a e) → is_fit (variable_entity s u a y e).meaning ≡ true
variable_fit s u a y e w =
    let ds = effective_dimensions a e in
    let c = corank_of (effective_coshape a e) in
    let o = object_of s c in
    let l = role_of u a e.name.text in
    both_true (nat_le (length (dimensions_known s a.is_allocatable ds)) 3) (is_kept y o && (is_variable o && is_declared_role l)) (known_rank s a.is_allocatable ds w.rank)
    (both_true (is_kept y o) (is_variable o && is_declared_role l) (kept_by y (length ds) c e.name.at (nat_eq c 0) _ _ refl w.special)
    (both_true (is_variable o) (is_declared_role l) (variable_by (nat_eq c 0) _ _) (role_by (is_among u.dummies e.name.text) (is_answer u e.name.text) a.intent)))

number_by : (b : Bool) (l : Local) (n : ℕ) → b ≡ true → elim (cond b (objects.Local l) (objects.Coarray n)) [ objects.Local k ↦ k.variable | objects.Coarray m ↦ m | objects.Constant m ↦ m ] ≡ l.variable
number_by true l n e = refl
number_by false l n e = no e

-- ---- constants
plain_type : (s : Scope) (u : Unit') (a : Attributes) (n : List ℕ) (y : Option DataType) (ds : List Names.KnownBounds) (o : Option f.Expression) → is_there o ≡ true → (initial_judged s u a n y ds o).breaks ≡ [] → not (is_special y) ≡ true
plain_type s u a n y ds None h e = no h
plain_type s u a n y ds (Some x) h e =
    let raw = raw_breaks s (Some x) in
    let q = initialized_breaks u (is_named_constant u a n) a.is_allocatable y (place_of x) in
    let k = formed_nothing raw q (initial_raw s u a n y ds (Some x) e) (right_nothing (constant_expression s 22 x (initial_value s y ds x)).breaks (cond (is_nothing raw) q []) e) in
    unless_nothing (not (is_special y)) 27 (place_of x) (left_nothing _ _ k)

or_given : (a b : Bool) → (not a || b) ≡ true → a ≡ true → b ≡ true
or_given true b e g = e
or_given false b e g = no g

-- ---- what a declaration does to a scope
abbrev pub Fits : Bool → Scope → Type 0
Fits b s = (all_meant is_fit s.own ≡ true) × (b ≡ true → ArePlaced 0 (variables_of s.own))

pub record Grows (K : Type 0) (b : Bool) (s : Scope) (x : Declared) : Type 0 where
  pub fits : K → Fits b s → x.breaks ≡ [] → Fits b x.scope
  pub host : x.scope.host ≡ s.host
  pub procedures : x.scope.procedures ≡ s.procedures
  pub accessible : x.scope.accessible ≡ s.accessible

pub same_grows : {K : Type 0} (b : Bool) (s : Scope) (bs : List Broken) → Grows K b s (record { breaks = bs; scope = s })
same_grows b s bs = record { fits = λ k h e. h; host = refl; procedures = refl; accessible = refl }

pub cond_grows : {K : Type 0} (b : Bool) (s : Scope) (c : Bool) {x y : Declared} → Grows K b s x → Grows K b s y → Grows K b s (cond c x y)
cond_grows b s true h k = h
cond_grows b s false h k = k

pub then_grows : {K : Type 0} (b : Bool) (s : Scope) (a : Declared) (next : Scope → Declared) → Grows K b s a → Grows K b a.scope (next a.scope) → Grows K b s (and_then a next)
then_grows b s a next h g = record {
  fits = λ k f e. g.fits k (h.fits k f (left_nothing a.breaks (next a.scope).breaks e)) (right_nothing a.breaks (next a.scope).breaks e);
  host = g.host ∙ h.host;
  procedures = g.procedures ∙ h.procedures;
  accessible = g.accessible ∙ h.accessible;
}

one_meant : (m : Meaning) → is_fit m ≡ true → is_fit m && true ≡ true
one_meant m h = both_true (is_fit m) true h refl

-- one variable more
pub variable_more : (b : Bool) (xs : List Named) (n : List ℕ) (y : Symbol) → (all_meant is_fit xs ≡ true) × (b ≡ true → ArePlaced 0 (variables_of xs)) → is_fit (Names.variable y) ≡ true → (b ≡ true → number_of y ≡ length (variables_of xs))
    → (all_meant is_fit (xs ++ named n (Names.variable y) ∷ []) ≡ true) × (b ≡ true → ArePlaced 0 (variables_of (xs ++ named n (Names.variable y) ∷ [])))
variable_more b xs n y h k g = (
  meant_both is_fit xs (named n (Names.variable y) ∷ []) h.0 (one_meant (Names.variable y) k),
  λ e. subst (ArePlaced 0) (sym (variables_behind xs n y)) (placed_more 0 (variables_of xs) y (h.1 e) (let w = g e in omega arith)),
)

constant_more : (b : Bool) (xs : List Named) (n : List ℕ) (y : Names.ConstantSymbol) → (all_meant is_fit xs ≡ true) × (b ≡ true → ArePlaced 0 (variables_of xs)) → is_fit (Names.constant y) ≡ true
    → (all_meant is_fit (xs ++ named n (Names.constant y) ∷ []) ≡ true) × (b ≡ true → ArePlaced 0 (variables_of (xs ++ named n (Names.constant y) ∷ [])))
constant_more b xs n y h k = (
  meant_both is_fit xs (named n (Names.constant y) ∷ []) h.0 (one_meant (Names.constant y) k),
  λ e. subst (ArePlaced 0) (sym (constants_behind xs n y)) (h.1 e),
)

entity_grows : (s : Scope) (u : Unit') (a : Attributes) (y : Option DataType) (e : d.Entity) (b : Bool) → is_named_constant u a e.name.text ≡ b
    → Grows (Unit {0}) u.is_procedure s (record {
      breaks = entity_breaks s u a y e (effective_dimensions a e) (effective_coshape a e);
      scope = cond b (constant_entity s (dimensions_known s a.is_allocatable (effective_dimensions a e)) y e (initial_judged s u a e.name.text y (dimensions_known s a.is_allocatable (effective_dimensions a e)) e.initial).meaning) (with_name s (variable_entity s u a y e));
    })
entity_grows s u a y e true i = record {
  fits = λ k h g. (
      let ds = effective_dimensions a e in
      let w = entity_sound s u a y e ds (effective_coshape a e) g in
      let p = and_left a.is_parameter (not (is_among u.dummies e.name.text || is_answer u e.name.text)) i in
      constant_more u.is_procedure s.own e.name.text _ h (both_true (nat_le (length (dimensions_known s a.is_allocatable ds)) 3) (not (is_special y)) (known_rank s a.is_allocatable ds w.rank)
      (plain_type s u a e.name.text y (dimensions_known s a.is_allocatable ds) e.initial (or_given a.is_parameter (is_there e.initial) w.given p) w.initial)));
  host = refl;
  procedures = refl;
  accessible = refl;
}
entity_grows s u a y e false i = record {
  fits = λ k h g. (
      let c = corank_of (effective_coshape a e) in
      let w = entity_sound s u a y e (effective_dimensions a e) (effective_coshape a e) g in
      variable_more u.is_procedure s.own e.name.text _ h (variable_fit s u a y e w) (λ m. number_by (nat_eq c 0) _ (count_coarrays (variables_of s.own)) (w.local m)));
  host = refl;
  procedures = refl;
  accessible = refl;
}

repeated_some : (xs : List Broken) (p : Pos) → cond (is_nothing xs) (breaks 21 p) xs ≡ [] → ⊥
repeated_some [] p e = cons_nil _ [] e
repeated_some (x ∷ xs) p e = cons_nil x xs e

declared_entity_grows : (s : Scope) (u : Unit') (a : Attributes) (y : Option DataType) (e : d.Entity) → Grows (Unit {0}) u.is_procedure s (declared_entity s u a y e)
declared_entity_grows s u a y e = cond_grows u.is_procedure s (is_declared u s e.name.text)
    (record { fits = λ k h b. absurd (repeated_some (raw_entity_breaks s e (effective_dimensions a e) (effective_coshape a e)) e.name.at b); host = refl; procedures = refl; accessible = refl })
    (entity_grows s u a y e (is_named_constant u a e.name.text) refl)

entities_grow : (u : Unit') (a : Attributes) (y : Option DataType) (es : List d.Entity) (s : Scope) → Grows (Unit {0}) u.is_procedure s (declared_entities u a y es s)
entities_grow u a y [] s = same_grows u.is_procedure s []
entities_grow u a y (e ∷ rest) s = then_grows u.is_procedure s (declared_entity s u a y e) (declared_entities u a y rest) (declared_entity_grows s u a y e) (entities_grow u a y rest (declared_entity s u a y e).scope)

declaration_grows : (u : Unit') (x : d.Declaration) (s : Scope) → Grows (Unit {0}) u.is_procedure s (declared u x s)
declaration_grows u x s =
    let a = attributes_of no_attributes x.attributes in
    let j = type_judged s x.type_spec in
    then_grows u.is_procedure s (record { breaks = j.breaks ++ attribute_breaks s x.attributes; scope = s }) (declared_entities u a j.meaning x.entities) (same_grows u.is_procedure s (j.breaks ++ attribute_breaks s x.attributes)) (entities_grow u a j.meaning x.entities s)

pub declarations_grow : (u : Unit') (xs : List d.Declaration) (s : Scope) → Grows (Unit {0}) u.is_procedure s (declared_all u xs s)
declarations_grow u [] s = same_grows u.is_procedure s []
declarations_grow u (x ∷ xs) s = then_grows u.is_procedure s (declared u x s) (declared_all u xs) (declaration_grows u x s) (declarations_grow u xs (declared u x s).scope)
