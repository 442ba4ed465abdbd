-- What holds of a scope, and is kept by each entity that breaks nothing, holds behind all declarations that break
-- nothing. And what such an entity has.
use Rattle.std.proofs.Common.{◌≡◌, ◌∙◌, Bool, true, false, List, [], ◌∷◌, ◌++◌, length, ap}
use Rattle.std.specs.Prelude.{cond, nat_le, ◌&&◌, Option}
use Rattle.caf_base.specs.declared.place.Pos.{Pos}
use Rattle.fortran_tree.specs.Statements as d
use Rattle.checked_tree.specs.declared.data.DataType.{DataType}
use Rattle.rule_definitions.specs.declared.broken.Broken.{Broken}
use Rattle.rule_definitions.specs.Judgements.{breaks, is_nothing}
use Rattle.rule_definitions.specs.Names.{Scope}
use Rattle.rule_definitions.specs.Declarations.{Unit', Attributes, no_attributes, attributes_of, corank_of, raw_breaks, raw_dimensions_breaks, raw_coshape_breaks, dimensions_breaks, dimensions_known, coshape_breaks, is_shaped, rank_breaks, deferred_breaks, special_type_breaks, procedure_variable_breaks, intent_breaks, parameter_breaks, initial_judged, effective_dimensions, effective_coshape, Declared, raw_entity_breaks, whole_breaks, entity_breaks, is_declared, scope_with, declared_entity, and_then, declared_entities, attribute_breaks, declared, declared_all, type_judged}
use Rattle.rule_laws.proofs.DeclarationsSound.{dimensions_raw, coshape_raw}
use Rattle.rule_laws.proofs.InitialsSound.{initial_raw}
use Rattle.accepted_ranks.proofs.Means.{cons_nil, left_nothing, right_nothing, unless_nothing, formed_nothing, and_left, and_right}

-- ---- an entity
pub record IsSound (s : Scope) (u : Unit') (a : Attributes) (y : Option DataType) (e : d.Entity) : Type 0 where
  pub rank : nat_le (length (effective_dimensions a e)) 3 ≡ true
  pub corank : nat_le (corank_of (effective_coshape a e)) 3 ≡ true
  pub shaped : is_shaped a.is_allocatable (effective_dimensions a e) (effective_coshape a e) ≡ true
  pub coshape : coshape_breaks s a.is_allocatable (effective_coshape a e) ≡ []
  pub initial : (initial_judged s u a e.name.text y (dimensions_known s a.is_allocatable (effective_dimensions a e)) e.initial).breaks ≡ []

join_nothing : (xs ys : List Broken) → xs ≡ [] → ys ≡ [] → xs ++ ys ≡ []
join_nothing xs ys e g = ap (λ z. z ++ ys) e ∙ g

pub entity_sound : (s : Scope) (u : Unit') (a : Attributes) (y : Option DataType) (e : d.Entity) → entity_breaks s u a y e (effective_dimensions a e) (effective_coshape a e) ≡ [] → IsSound s u a y e
entity_sound s u a y e h =
    let ds = effective_dimensions a e in
    let c = effective_coshape a e in
    let raw = raw_entity_breaks s e ds c in
    let w = whole_breaks u a y e ds c in
    let ws = cond (is_nothing raw) w [] in
    let xs = dimensions_breaks s a.is_allocatable ds in
    let ys = coshape_breaks s a.is_allocatable c in
    let zs = (initial_judged s u a e.name.text y (dimensions_known s a.is_allocatable ds) e.initial).breaks in
    let r = right_nothing ws (xs ++ (ys ++ zs)) h in
    let x = left_nothing xs (ys ++ zs) r in
    let q = right_nothing xs (ys ++ zs) r in
    let z = right_nothing ys zs q in
    let n = join_nothing (raw_dimensions_breaks s ds) (raw_coshape_breaks s c ++ raw_breaks s e.initial) (dimensions_raw s a.is_allocatable ds x)
    (join_nothing (raw_coshape_breaks s c) (raw_breaks s e.initial) (coshape_raw s a.is_allocatable c (left_nothing ys zs q)) (initial_raw s u a e.name.text y (dimensions_known s a.is_allocatable ds) e.initial z)) in
    let k = formed_nothing raw w n (left_nothing ws (xs ++ (ys ++ zs)) h) in
    let b1 = rank_breaks (length ds) (corank_of c) e.name.at in
    let b2 = deferred_breaks a.is_allocatable ds c e.name.at in
    let b3 = special_type_breaks y (length ds) (corank_of c) e.name.at in
    let b4 = procedure_variable_breaks u a (corank_of c) e.name.at in
    let b5 = intent_breaks u a e.name in
    let b6 = parameter_breaks a e.initial e.name.at in
    let k2 = right_nothing b1 (b2 ++ (b3 ++ (b4 ++ (b5 ++ b6)))) k in
    let ranks = unless_nothing (nat_le (length ds) 3 && nat_le (corank_of c) 3) 24 e.name.at (left_nothing b1 (b2 ++ (b3 ++ (b4 ++ (b5 ++ b6)))) k) in
    record {
      rank = and_left (nat_le (length ds) 3) (nat_le (corank_of c) 3) ranks;
      corank = and_right (nat_le (length ds) 3) (nat_le (corank_of c) 3) ranks;
      shaped = unless_nothing (is_shaped a.is_allocatable ds c) 26 e.name.at (left_nothing b2 (b3 ++ (b4 ++ (b5 ++ b6))) k2);
      coshape = left_nothing ys zs q;
      initial = z;
    }

-- ---- declarations
repeated_some : (xs : List Broken) (p : Pos) → cond (is_nothing xs) (breaks 21 p) xs ≡ [] → ⊥
repeated_some [] p e = cons_nil _ [] e
repeated_some (x ∷ xs) p e = cons_nil x xs e

abbrev Keeps : (Scope → Type 0) → Scope → Declared → Type 0
Keeps H s x = H s → x.breaks ≡ [] → H x.scope

cond_keeps : (H : Scope → Type 0) (s : Scope) (b : Bool) {x y : Declared} → Keeps H s x → Keeps H s y → Keeps H s (cond b x y)
cond_keeps H s true h k = h
cond_keeps H s false h k = k

then_keeps : (H : Scope → Type 0) (s : Scope) (a : Declared) (next : Scope → Declared) → Keeps H s a → Keeps H a.scope (next a.scope) → Keeps H s (and_then a next)
then_keeps H s a next h g = λ i e. g (h i (left_nothing a.breaks (next a.scope).breaks e)) (right_nothing a.breaks (next a.scope).breaks e)

module _ (u : Unit') (H : Scope → Type 0) (step : (s : Scope) (a : Attributes) (y : Option DataType) (e : d.Entity) → H s → IsSound s u a y e → H (scope_with s u a y e)) where
  entity_keeps : (s : Scope) (a : Attributes) (y : Option DataType) (e : d.Entity) → Keeps H s (declared_entity s u a y e)
  entity_keeps s a y e = cond_keeps H s (is_declared u s e.name.text)
      (λ h b. absurd (repeated_some (raw_entity_breaks s e (effective_dimensions a e) (effective_coshape a e)) e.name.at b))
      (λ h b. step s a y e h (entity_sound s u a y e b))

  entities_keep : (a : Attributes) (y : Option DataType) (es : List d.Entity) (s : Scope) → Keeps H s (declared_entities u a y es s)
  entities_keep a y [] s = λ h b. h
  entities_keep a y (e ∷ rest) s = then_keeps H s (declared_entity s u a y e) (declared_entities u a y rest) (entity_keeps s a y e) (entities_keep a y rest (declared_entity s u a y e).scope)

  declaration_keeps : (x : d.Declaration) (s : Scope) → Keeps H s (declared u x s)
  declaration_keeps x s =
      let a = attributes_of no_attributes x.attributes in
      let j = type_judged s x.type_spec in
      then_keeps H s (record { breaks = j.breaks ++ attribute_breaks s x.attributes; scope = s }) (declared_entities u a j.meaning x.entities) (λ h b. h) (entities_keep a j.meaning x.entities s)

  pub declarations_keep : (xs : List d.Declaration) (s : Scope) → H s → (declared_all u xs s).breaks ≡ [] → H (declared_all u xs s).scope
  declarations_keep [] s = λ h b. h
  declarations_keep (x ∷ xs) s = then_keeps H s (declared u x s) (declared_all u xs) (declaration_keeps x s) (declarations_keep xs (declared u x s).scope)
