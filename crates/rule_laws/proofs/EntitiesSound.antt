-- Declarations fill a scope with known names, and what breaks in them is numbered.
use Rattle.std.proofs.Common.{◌≡◌, ◌∙◌, ℕ, true, List, [], ◌++◌, refl, sym, ap}
use Rattle.std.specs.Prelude.{cond, not, nat_eq, nat_le, ◌&&◌, ◌||◌, Option, length}
use Rattle.caf_base.specs.declared.place.Pos.{Pos}
use Rattle.fortran_tree.specs.Statements as d
use Rattle.checked_tree.specs.declared.data.DataType.{DataType}
use Rattle.rule_definitions.specs.declared.broken.Broken.{Broken}
use Rattle.rule_definitions.specs.Judgements.{unless, is_nothing, is_there}
use Rattle.rule_definitions.specs.Names.{Scope, is_among}
use Rattle.rule_definitions.specs.Declarations.{Unit', Attributes, corank_of, raw_breaks, raw_dimensions_breaks, raw_coshape_breaks, dimensions_breaks, dimensions_known, coshape_breaks, rank_breaks, is_shaped, deferred_breaks, is_placed_type, special_type_breaks, procedure_variable_breaks, intent_breaks, parameter_breaks, initial_judged, raw_entity_breaks, whole_breaks, entity_breaks, repeated_breaks}
use Rattle.rule_laws.proofs.Sound.{AreNumbered, none_numbered, breaks_numbered, cond_numbered, unless_numbered, both_numbered, said_numbered, left_nothing, right_nothing}
use Rattle.rule_laws.proofs.ArgumentsSound.{unless_nothing}
use Rattle.rule_laws.proofs.DeclarationsSound.{raw_dimensions_numbered, raw_coshape_numbered, raw_numbered, dimensions_numbered, coshape_numbered, dimensions_raw, coshape_raw}
use Rattle.rule_laws.proofs.InitialsSound.{initial_sound, initial_raw}

-- Rules on one entity

pub special_numbered : (y : Option DataType) (rank corank : ℕ) (p : Pos) → AreNumbered (special_type_breaks y rank corank p)
special_numbered y rank corank p = said_numbered (λ x. unless (is_placed_type rank corank x) 27 p) y (λ x e. unless_numbered (is_placed_type rank corank x) 27 p refl)

whole_numbered : (u : Unit') (a : Attributes) (y : Option DataType) (e : d.Entity) (ds : List d.Dimension) (c : Option d.CoarraySpec) → AreNumbered (whole_breaks u a y e ds c)
whole_numbered u a y e ds c =
    both_numbered (unless_numbered (nat_le (length ds) 3 && nat_le (corank_of c) 3) 24 e.name.at refl)
    (both_numbered (unless_numbered (is_shaped a.is_allocatable ds c) 26 e.name.at refl)
    (both_numbered (special_numbered y (length ds) (corank_of c) e.name.at)
    (both_numbered (unless_numbered (not (u.is_procedure && (a.is_allocatable || (a.is_saved || not (nat_eq (corank_of c) 0))))) 28 e.name.at refl)
    (both_numbered (unless_numbered (not (is_there a.intent) || is_among u.dummies e.name.text) 29 e.name.at refl)
    (unless_numbered (not a.is_parameter || is_there e.initial) 22 e.name.at refl)))))

raw_entity_numbered : (s : Scope) (e : d.Entity) (ds : List d.Dimension) (c : Option d.CoarraySpec) → AreNumbered (raw_entity_breaks s e ds c)
raw_entity_numbered s e ds c = both_numbered (raw_dimensions_numbered s ds) (both_numbered (raw_coshape_numbered s c) (raw_numbered s e.initial))

pub entity_numbered : (s : Scope) (u : Unit') (a : Attributes) (y : Option DataType) (e : d.Entity) (ds : List d.Dimension) (c : Option d.CoarraySpec) → AreNumbered (entity_breaks s u a y e ds c)
entity_numbered s u a y e ds c =
    both_numbered (cond_numbered (is_nothing (raw_entity_breaks s e ds c)) (whole_numbered u a y e ds c) none_numbered)
    (both_numbered (dimensions_numbered s a.is_allocatable ds)
    (both_numbered (coshape_numbered s a.is_allocatable c)
    (initial_sound s u a e.name.text y (dimensions_known s a.is_allocatable ds) e.initial).numbered))

pub repeated_numbered : (s : Scope) (e : d.Entity) (ds : List d.Dimension) (c : Option d.CoarraySpec) → AreNumbered (repeated_breaks s e ds c)
repeated_numbered s e ds c = cond_numbered (is_nothing (raw_entity_breaks s e ds c)) (breaks_numbered 21 e.name.at refl) (raw_entity_numbered s e ds c)

-- What an entity that breaks nothing is

join_nothing : (xs ys : List Broken) → xs ≡ [] → ys ≡ [] → xs ++ ys ≡ []
join_nothing xs ys e f = ap (λ z. z ++ ys) e ∙ f

nothing_then : (xs ys : List Broken) → xs ≡ [] → cond (is_nothing xs) ys [] ≡ [] → ys ≡ []
nothing_then xs ys e f = sym (ap (λ z. cond (is_nothing z) ys []) e) ∙ f

-- the parts of the rules, where none is broken
pub record IsWhole (s : Scope) (u : Unit') (a : Attributes) (y : Option DataType) (e : d.Entity) (ds : List d.Dimension) (c : Option d.CoarraySpec) : Type 0 where
  pub shaped : is_shaped a.is_allocatable ds c ≡ true
  pub special : special_type_breaks y (length ds) (corank_of c) e.name.at ≡ []
  pub given : not a.is_parameter || is_there e.initial ≡ true
  pub dimensions : dimensions_breaks s a.is_allocatable ds ≡ []
  pub initial : (initial_judged s u a e.name.text y (dimensions_known s a.is_allocatable ds) e.initial).breaks ≡ []

pub entity_whole : (s : Scope) (u : Unit') (a : Attributes) (y : Option DataType) (e : d.Entity) (ds : List d.Dimension) (c : Option d.CoarraySpec) → entity_breaks s u a y e ds c ≡ [] → IsWhole s u a y e ds c
entity_whole s u a y e ds c h =
    let raw = raw_entity_breaks s e ds c in
    let w = whole_breaks u a y e ds c in
    let ws = cond (is_nothing raw) w [] in
    let xs = dimensions_breaks s a.is_allocatable ds in
    let ys = coshape_breaks s a.is_allocatable c in
    let zs = (initial_judged s u a e.name.text y (dimensions_known s a.is_allocatable ds) e.initial).breaks in
    let r = right_nothing ws (xs ++ (ys ++ zs)) h in
    let x = left_nothing xs (ys ++ zs) r in
    let q = right_nothing xs (ys ++ zs) r in
    let z = right_nothing ys zs q in
    let n = join_nothing (raw_dimensions_breaks s ds) (raw_coshape_breaks s c ++ raw_breaks s e.initial) (dimensions_raw s a.is_allocatable ds x)
    (join_nothing (raw_coshape_breaks s c) (raw_breaks s e.initial) (coshape_raw s a.is_allocatable c (left_nothing ys zs q)) (initial_raw s u a e.name.text y (dimensions_known s a.is_allocatable ds) e.initial z)) in
    let k = nothing_then raw w n (left_nothing ws (xs ++ (ys ++ zs)) h) in
    let b1 = rank_breaks (length ds) (corank_of c) e.name.at in
    let b2 = deferred_breaks a.is_allocatable ds c e.name.at in
    let b3 = special_type_breaks y (length ds) (corank_of c) e.name.at in
    let b4 = procedure_variable_breaks u a (corank_of c) e.name.at in
    let b5 = intent_breaks u a e.name in
    let b6 = parameter_breaks a e.initial e.name.at in
    let k2 = right_nothing b1 (b2 ++ (b3 ++ (b4 ++ (b5 ++ b6)))) k in
    let k3 = right_nothing b2 (b3 ++ (b4 ++ (b5 ++ b6))) k2 in
    let k4 = right_nothing b3 (b4 ++ (b5 ++ b6)) k3 in
    let k5 = right_nothing b4 (b5 ++ b6) k4 in
    let k6 = right_nothing b5 b6 k5 in
    record {
      shaped = unless_nothing (is_shaped a.is_allocatable ds c) 26 e.name.at (left_nothing b2 (b3 ++ (b4 ++ (b5 ++ b6))) k2);
      special = left_nothing b3 (b4 ++ (b5 ++ b6)) k3;
      given = unless_nothing (not a.is_parameter || is_there e.initial) 22 e.name.at k6;
      dimensions = x;
      initial = z;
    }
