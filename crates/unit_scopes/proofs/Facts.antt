-- New entities, by what is known of them.
use Rattle.std.proofs.Common.{◌≡◌, ◌∙◌, ℕ, Bool, true, false, List, [], ◌∷◌, ◌++◌, refl, sym, ap}
use Rattle.std.specs.Prelude.{Option, Some, None, cond}
use Rattle.checked_tree.specs.declared.data.Codimensions.{Codimensions}
use Rattle.checked_tree.specs.declared.data.Constant.{Constant}
use Rattle.checked_tree.specs.declared.data.DataType.{DataType}
use Rattle.checked_tree.specs.declared.data.Initial.{Initial}
use Rattle.checked_tree.specs.declared.data.Object.{Object}
use Rattle.fortran_tree.specs.Statements as d
use Rattle.rule_definitions.specs.Constants as k
use Rattle.rule_definitions.specs.Constants.{Constancy, all_bounds}
use Rattle.rule_definitions.specs.Names as n
use Rattle.rule_definitions.specs.Names.{KnownBounds, Named, Role, Scope, named}
use Rattle.rule_definitions.specs.Declarations.{Attributes, Unit', array_constant_of, constant_entity, constant_value, corank_of, effective_coshape, further_constants, initial_of, is_named_constant, role_of, with_name}
use Rattle.unit_scopes.specs.EntitiesAsked.{object_behind, scope_of_parts, variable_made}
use Rattle.unit_scopes.specs.Founds.{array_more, array_value, constant_made, more_behind, scalar_of, value_behind}

abbrev variable_parts : Attributes → Option DataType → d.Entity → List KnownBounds → Codimensions → List ℕ → Object → ℕ → Role → Initial → Named
variable_parts a y e ds c x o r p i = named x (n.variable (record { name = x; at = e.name.at; object = o; of_type = y; bounds = ds; coshape = c; corank = r; is_allocatable = a.is_allocatable; role = p; initial = i }))

pub variable_told : (own : List Named) (u : Unit') (a : Attributes) (y : Option DataType) (e : d.Entity) (ds : List KnownBounds) (c : Codimensions) (j : Option (Option Constancy)) (x : List ℕ) (o : Object) (r : ℕ) (p : Role) (i : Initial)
    → x ≡ e.name.text → o ≡ object_behind own r → r ≡ corank_of (effective_coshape a e) → p ≡ role_of u a e.name.text → i ≡ initial_of j
    → named x (n.variable (record { name = x; at = e.name.at; object = o; of_type = y; bounds = ds; coshape = c; corank = r; is_allocatable = a.is_allocatable; role = p; initial = i })) ≡ variable_made own u a y e ds c j
variable_told own u a y e ds c j x o r p i hx ho hr hp hi =
    ap (λ z. variable_parts a y e ds c z o r p i) hx ∙ ap (λ z. variable_parts a y e ds c e.name.text z r p i) ho
    ∙ ap (λ z. variable_parts a y e ds c e.name.text (object_behind own z) z p i) hr
    ∙ ap (λ z. variable_parts a y e ds c e.name.text (object_behind own (corank_of (effective_coshape a e))) (corank_of (effective_coshape a e)) z i) hp
    ∙ ap (variable_parts a y e ds c e.name.text (object_behind own (corank_of (effective_coshape a e))) (corank_of (effective_coshape a e)) (role_of u a e.name.text)) hi

value_is : (s : Scope) (ds : List KnownBounds) (j : Option (Option Constancy)) (c : Option Constant) → value_behind s.constants ds j c ≡ constant_value s ds j c
value_is s [] None c = refl
value_is s [] (Some None) c = refl
value_is s [] (Some (Some (k.value v))) c = refl
value_is s [] (Some (Some (k.values ns vs))) c = refl
value_is s [] (Some (Some k.no_constant)) c = refl
value_is s (d ∷ ds) j None = refl
value_is s (d ∷ ds) j (Some c) = refl

more_is : (ds : List KnownBounds) (c : Option Constant) → more_behind ds c ≡ further_constants ds c
more_is [] c = refl
more_is (d ∷ ds) None = refl
more_is (d ∷ ds) (Some c) = refl

abbrev grown_by : Scope → List Named → List Constant → Scope
grown_by s own cs = record s { own = own; constants = cs }

abbrev constant_parts : List ℕ → Option DataType → List KnownBounds → n.ConstantValue → Named
constant_parts x y ds v = named x (n.constant (record { name = x; of_type = y; bounds = ds; value = v }))

abbrev either : Bool → Scope → Option DataType → d.Entity → List KnownBounds → Option (Option Constancy) → Named → Scope
either b s y e ds j v = cond b (constant_entity s ds y e j) (with_name s v)

-- a named constant
pub constant_told : (s : Scope) (own own' : List Named) (cs cs' : List Constant) (u : Unit') (a : Attributes) (y : Option DataType) (e : d.Entity) (ds : List KnownBounds) (c : Codimensions) (j : Option (Option Constancy))
    → is_named_constant u a e.name.text ≡ true → own' ≡ own ++ constant_made cs e.name.text y ds j ∷ [] → cs' ≡ cs ++ more_behind ds (array_constant_of y (all_bounds ds) j)
    → record s { own = own'; constants = cs' } ≡ scope_of_parts (record s { own = own; constants = cs }) u a y e ds c j
constant_told s own own' cs cs' u a y e ds c j b f g =
    let t = grown_by s own cs in
    let v = array_constant_of y (all_bounds ds) j in
    ap (λ z. grown_by s z cs') (f ∙ ap (λ z. own ++ constant_parts e.name.text y ds z ∷ []) (value_is t ds j v))
    ∙ ap (grown_by s (own ++ constant_parts e.name.text y ds (constant_value t ds j v) ∷ [])) (g ∙ ap (λ z. cs ++ z) (more_is ds v))
    ∙ ap (λ z. either z t y e ds j (variable_made own u a y e ds c j)) (sym b)

-- a variable
pub variable_scope : (s : Scope) (own own' : List Named) (cs : List Constant) (u : Unit') (a : Attributes) (y : Option DataType) (e : d.Entity) (ds : List KnownBounds) (c : Codimensions) (j : Option (Option Constancy)) (v : Named)
    → is_named_constant u a e.name.text ≡ false → own' ≡ own ++ v ∷ [] → v ≡ variable_made own u a y e ds c j
    → record s { own = own'; constants = cs } ≡ scope_of_parts (record s { own = own; constants = cs }) u a y e ds c j
variable_scope s own own' cs u a y e ds c j v b f h =
    ap (λ z. grown_by s z cs) (f ∙ ap (λ z. own ++ z ∷ []) h) ∙ ap (λ z. either z (grown_by s own cs) y e ds j (variable_made own u a y e ds c j)) (sym b)
