-- Initial values are judged soundly, and give each named constant its value.
use Rattle.std.proofs.Common.{◌≡◌, ◌∙◌, ℕ, ℤ, Bool, true, false, List, [], ◌∷◌, ◌++◌, refl, sym, ap, subst}
use Rattle.std.specs.Prelude.{cond, not, ◌||◌, Option, Some, None}
use Rattle.caf_base.specs.declared.place.Pos.{Pos}
use Rattle.caf_base.specs.declared.value.Value.{Value}
use Rattle.fortran_tree.specs.Expressions as f
use Rattle.checked_tree.specs.Expressions as t
use Rattle.checked_tree.specs.declared.data.DataType.{DataType}
use Rattle.checked_tree.specs.declared.data.DataType.TheVariants.{Intrinsic, Team, Event, Lock}
use Rattle.rule_definitions.specs.declared.broken.Broken.{Broken}
use Rattle.rule_definitions.specs.Judgements.{breaks, unless, is_nothing, fine, unknown, ruled, then_made, is_there}
use Rattle.rule_definitions.specs.Names.{Scope, KnownBounds}
use Rattle.rule_definitions.specs.Constants.{Constancy, value, values, no_constant, value_of, all_bounds}
use Rattle.caf_base.specs.declared.value.Kind.{Kind}
use Rattle.rule_definitions.specs.Parts.{place_of, plain, type_of}
use Rattle.rule_definitions.specs.Expressions.{judged, placed}
use Rattle.rule_definitions.specs.Declarations.{Unit', lacks_value, constant_expression, Attributes, raw_breaks, is_like, all_held, has_extents, type_breaks, extent_breaks, value_breaks, constant_breaks, initial_value, is_special, initialized_breaks, is_named_constant, initial_judged, array_constant_of, constant_value}
use Rattle.rule_laws.proofs.Sound.{AreNumbered, IsSound, none_numbered, breaks_numbered, cond_numbered, unless_numbered, both_numbered, left_nothing, right_nothing, breaks_some, fine_sound, unknown_sound, ruled_plain, made_sound, some_same, none_some}
use Rattle.rule_laws.proofs.Known.{is_known_value, no}
use Rattle.rule_laws.proofs.ArgumentsSound.{unless_nothing}
use Rattle.rule_laws.proofs.Yields.{Yields, ruled_meaning, made_yields, then_yields, cond_yields}
use Rattle.rule_laws.proofs.Filled.{IsFilled}
use Rattle.rule_laws.proofs.DeclarationsSound.{constant_within, constant_unbroken}

types_numbered : (y v : DataType) (vs : List Value) (p : Pos) → AreNumbered (type_breaks y v vs p)
types_numbered y v vs p = cond_numbered (is_like y v) (unless_numbered (all_held y vs) 22 p refl) (breaks_numbered 32 p refl)

extents_numbered : (ds : List KnownBounds) (ns : List ℕ) (p : Pos) → AreNumbered (extent_breaks ds ns p)
extents_numbered [] ns p = breaks_numbered 37 p refl
extents_numbered (d ∷ ds) ns p = unless_numbered (has_extents (d ∷ ds) ns) 38 p refl

value_numbered : (y : DataType) (ds : List KnownBounds) (v : DataType) (c : Constancy) (p : Pos) → AreNumbered (value_breaks y ds v c p)
value_numbered y ds v (value n) p = types_numbered y v (n ∷ []) p
value_numbered y ds v (values ns vs) p = both_numbered (types_numbered y v vs p) (extents_numbered ds ns p)
value_numbered y ds v no_constant p = breaks_numbered 22 p refl

constant_numbered : (c : Constancy) (p : Pos) → AreNumbered (constant_breaks c p)
constant_numbered no_constant p = breaks_numbered 22 p refl
constant_numbered (value v) p = none_numbered
constant_numbered (values ns vs) p = none_numbered

-- a type of which an initial value may be
abbrev pub is_plain_type : Option DataType → Bool
is_plain_type (Some (Intrinsic k)) = true
is_plain_type y = false

value_sound : {H : Type 0} (s : Scope) (y : Option DataType) (ds : List KnownBounds) (e : f.Expression) (x : t.Expression) → (H → is_plain_type y ≡ true) → IsSound H (initial_value s y ds e x)
value_sound s (Some (Intrinsic k)) ds e x h = ruled_plain (fine_sound (value_of s x)) (value_numbered (Intrinsic k) ds (type_of x) (value_of s x) (place_of e))
value_sound s y ds e x h = ruled_plain (unknown_sound (λ z. no (h z))) (constant_numbered (value_of s x) (place_of e))

initialized_numbered : (u : Unit') (b c : Bool) (y : Option DataType) (p : Pos) → AreNumbered (initialized_breaks u b c y p)
initialized_numbered u b c y p = both_numbered (unless_numbered (not (is_special y)) 27 p refl) (both_numbered (unless_numbered (b || not u.is_procedure) 28 p refl) (unless_numbered (not c) 22 p refl))

pub initial_sound : (s : Scope) (u : Unit') (a : Attributes) (n : List ℕ) (y : Option DataType) (ds : List KnownBounds) (o : Option f.Expression) → IsSound (IsFilled s × (is_plain_type y ≡ true)) (initial_judged s u a n y ds o)
initial_sound s u a n y ds None = fine_sound None
initial_sound s u a n y ds (Some e) = made_sound (λ x. Some x) (ruled_plain (constant_within (IsFilled s × (is_plain_type y ≡ true)) s 22 e (initial_value s y ds e) refl (λ h. h.0) (λ x. value_sound s y ds e x (λ h. h.1)))
    (cond_numbered (is_nothing (raw_breaks s (Some e))) (initialized_numbered u (is_named_constant u a n) a.is_allocatable y (place_of e)) none_numbered))

-- Values of named constants

-- a constant that these bounds can take
abbrev is_fitting : List KnownBounds → Constancy → Bool
is_fitting ds (value v) = true
is_fitting [] (values ns vs) = false
is_fitting (d ∷ ds) (values ns vs) = true
is_fitting ds no_constant = false

abbrev is_fit : List KnownBounds → Option Constancy → Bool
is_fit ds None = false
is_fit ds (Some c) = is_fitting ds c

ruled_holds : {T : Type 0} (bs : List Broken) (o : Option T) (x : T) → cond (is_nothing bs) o None ≡ Some x → bs ≡ []
ruled_holds [] o x e = refl
ruled_holds (b ∷ bs) o x e = none_some x e

fits : (y : DataType) (ds : List KnownBounds) (v : DataType) (c : Constancy) (p : Pos) → value_breaks y ds v c p ≡ [] → is_fitting ds c ≡ true
fits y ds v (value n) p h = refl
fits y [] v (values ns vs) p h = absurd (breaks_some 37 p (right_nothing (type_breaks y v vs p) (breaks 37 p) h))
fits y (d ∷ ds) v (values ns vs) p h = refl
fits y ds v no_constant p h = absurd (breaks_some 22 p h)

abbrev Fits : List KnownBounds → Constancy → Type 0
Fits ds c = is_fitting ds c ≡ true

value_yields : (s : Scope) (y : Option DataType) (ds : List KnownBounds) (e : f.Expression) (x : t.Expression) → Yields (Fits ds) (initial_value s y ds e x)
value_yields s (Some (Intrinsic k)) ds e x = record {
  each = λ c h. (
      let bs = value_breaks (Intrinsic k) ds (type_of x) (value_of s x) (place_of e) in
      subst (Fits ds) (some_same (value_of s x) c (ruled_meaning (fine (value_of s x)) bs c h)) (fits (Intrinsic k) ds (type_of x) (value_of s x) (place_of e) (ruled_holds bs (Some (value_of s x)) c h)));
}
value_yields s y ds e x = record { each = λ c h. none_some c (ruled_meaning (unknown {T = Constancy}) (constant_breaks (value_of s x) (place_of e)) c h) }

constant_yields : (s : Scope) (y : Option DataType) (ds : List KnownBounds) (e : f.Expression) → Yields (Fits ds) (constant_expression s 22 e (initial_value s y ds e))
constant_yields s y ds e = cond_yields (Fits ds) (lacks_value s e)
    (record { each = λ c h. none_some c (ruled_meaning (record { breaks = (judged s e).breaks; meaning = None }) (cond (is_nothing (judged s e).breaks) (breaks 22 (place_of e)) []) c h) })
    (then_yields (Fits ds) (plain (placed s e)) (initial_value s y ds e) (λ x h. value_yields s y ds e x))

initial_yields : (s : Scope) (u : Unit') (a : Attributes) (n : List ℕ) (y : Option DataType) (ds : List KnownBounds) (e : f.Expression) → Yields (λ o. is_fit ds o ≡ true) (initial_judged s u a n y ds (Some e))
initial_yields s u a n y ds e =
    let j = constant_expression s 22 e (initial_value s y ds e) in
    let bs = cond (is_nothing (raw_breaks s (Some e))) (initialized_breaks u (is_named_constant u a n) a.is_allocatable y (place_of e)) [] in
    made_yields (λ o. is_fit ds o ≡ true) (λ x. Some x) (ruled j bs) (λ c h. (constant_yields s y ds e).each c (ruled_meaning j bs c h))

abbrev Boundaries : Type 0
Boundaries = Option (List (ℤ × ℤ))

value_known : (s : Scope) (ds : List KnownBounds) (k : Kind) (b : Boundaries) (j : Option (Option Constancy)) → is_there j ≡ true → ((o : Option Constancy) → j ≡ Some o → is_fit ds o ≡ true) → is_there b ≡ true
    → is_known_value ds (constant_value s ds j (array_constant_of (Some (Intrinsic k)) b j)) ≡ true
value_known s ds k b None h f g = no h
value_known s ds k b (Some None) h f g = no (f None refl)
value_known s ds k None (Some (Some c)) h f g = no g
value_known s [] k (Some b) (Some (Some (value v))) h f g = refl
value_known s (d ∷ ds) k (Some b) (Some (Some (value v))) h f g = refl
value_known s [] k (Some b) (Some (Some (values ns vs))) h f g = no (f (Some (values ns vs)) refl)
value_known s (d ∷ ds) k (Some b) (Some (Some (values ns vs))) h f g = refl
value_known s ds k (Some b) (Some (Some no_constant)) h f g = no (f (Some no_constant) refl)

nothing_then : (xs ys : List Broken) → xs ≡ [] → cond (is_nothing xs) ys [] ≡ [] → ys ≡ []
nothing_then xs ys e f = sym (ap (λ z. cond (is_nothing z) ys []) e) ∙ f

not_true : (b : Bool) → not b ≡ true → b ≡ false
not_true true e = sym e
not_true false e = refl

-- what an initial value that breaks nothing says of its variable
pub initial_facts : (s : Scope) (u : Unit') (a : Attributes) (n : List ℕ) (y : Option DataType) (ds : List KnownBounds) (e : f.Expression) → (initial_judged s u a n y ds (Some e)).breaks ≡ []
    → (raw_breaks s (Some e) ≡ []) × (is_special y ≡ false) × (a.is_allocatable ≡ false)
initial_facts s u a n y ds e h =
    let j = constant_expression s 22 e (initial_value s y ds e) in
    let is = initialized_breaks u (is_named_constant u a n) a.is_allocatable y (place_of e) in
    let bs = cond (is_nothing (raw_breaks s (Some e))) is [] in
    let c = left_nothing j.breaks bs h in
    let r = left_nothing (plain (placed s e)).breaks (then_made (initial_value s y ds e) (plain (placed s e)).meaning).breaks ((constant_unbroken s 22 e (initial_value s y ds e) c).1) in
    let i = nothing_then (raw_breaks s (Some e)) is r (right_nothing j.breaks bs h) in
    let x = unless (not (is_special y)) 27 (place_of e) in
    let z = unless (is_named_constant u a n || not u.is_procedure) 28 (place_of e) in
    let w = unless (not a.is_allocatable) 22 (place_of e) in (
      r,
      not_true (is_special y) (unless_nothing (not (is_special y)) 27 (place_of e) (left_nothing x (z ++ w) i)),
      not_true a.is_allocatable (unless_nothing (not a.is_allocatable) 22 (place_of e) (right_nothing z w (right_nothing x (z ++ w) i))),
    )

-- a named constant whose declaration breaks nothing has a value
pub constant_known : (s : Scope) (u : Unit') (a : Attributes) (n : List ℕ) (y : Option DataType) (ds : List KnownBounds) (o : Option f.Expression) → IsFilled s → is_there y ≡ true → is_there o ≡ true
    → (initial_judged s u a n y ds o).breaks ≡ [] → (a.is_allocatable ≡ false → is_there (all_bounds ds) ≡ true)
    → is_known_value ds (constant_value s ds (initial_judged s u a n y ds o).meaning (array_constant_of y (all_bounds ds) (initial_judged s u a n y ds o).meaning)) ≡ true
constant_known s u a n y ds None h i k e b = no k
constant_known s u a n None ds (Some x) h i k e b = no i
constant_known s u a n (Some (Intrinsic l)) ds (Some x) h i k e b =
    let j = initial_judged s u a n (Some (Intrinsic l)) ds (Some x) in
    value_known s ds l (all_bounds ds) j.meaning ((initial_sound s u a n (Some (Intrinsic l)) ds (Some x)).decided (h, refl) e) ((initial_yields s u a n (Some (Intrinsic l)) ds x).each) (b ((initial_facts s u a n (Some (Intrinsic l)) ds x e).2))
constant_known s u a n (Some Team) ds (Some x) h i k e b = no (sym ((initial_facts s u a n (Some Team) ds x e).1))
constant_known s u a n (Some Event) ds (Some x) h i k e b = no (sym ((initial_facts s u a n (Some Event) ds x e).1))
constant_known s u a n (Some Lock) ds (Some x) h i k e b = no (sym ((initial_facts s u a n (Some Lock) ds x e).1))

-- where nothing breaks in an initial value, nothing breaks in its expression
pub initial_raw : (s : Scope) (u : Unit') (a : Attributes) (n : List ℕ) (y : Option DataType) (ds : List KnownBounds) (o : Option f.Expression) → (initial_judged s u a n y ds o).breaks ≡ [] → raw_breaks s o ≡ []
initial_raw s u a n y ds None h = refl
initial_raw s u a n y ds (Some e) h = (initial_facts s u a n y ds e h).0
