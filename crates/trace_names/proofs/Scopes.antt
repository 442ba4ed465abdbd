-- The variables of a scope that declarations make have the names of their entities, each its own.
use Rattle.std.proofs.Common.{◌≡◌, ◌∙◌, ℕ, Bool, true, false, cond, List, [], ◌∷◌, ◌++◌, map, refl, ap, sym, subst}
use Rattle.std.specs.Prelude.{bytes_eq, ◌&&◌, ◌||◌, Option, Some, None}
use Rattle.std.proofs.lemmas.Slice.Eq.{bytes_eq-Decides}
use Rattle.fortran_tree.specs.Statements.{Declaration, Entity}
use Rattle.checked_tree.specs.declared.data.DataType.{DataType}
use Rattle.rule_definitions.specs.Judgements.{is_there}
use Rattle.rule_definitions.specs.Names as names
use Rattle.rule_definitions.specs.Names.{Scope, Symbol, ConstantSymbol, Meaning, Named, named, denoted_in, variables_of}
use Rattle.rule_definitions.specs.Declarations.{Unit', Attributes, no_attributes, attributes_of, effective_dimensions, dimensions_known, is_answer, is_named_constant, initial_judged, Declared, with_name, variable_entity, constant_entity, scope_with, is_declared, declared_entity, declared_entities, declared, declared_all, type_judged}
use Rattle.trace_theory.specs.Entries.{Each}
use Rattle.trace_forms.specs.Names.{IsName}
use Rattle.trace_names.specs.Entities.{AreNamed, DeclareNames}
use Rattle.trace_names.proofs.Lists.{none_some, each_both, Apart, Differ, differ_more}

abbrev pub symbol_name : Symbol → List ℕ
symbol_name y = y.name

-- the names of the variables among names
abbrev pub names_among : List Named → List (List ℕ)
names_among xs = map symbol_name (variables_of xs)

-- a variable stands under its own name
abbrev IsItself : List ℕ → Meaning → Type 0
IsItself n (names.variable y) = y.name ≡ n
IsItself n (names.constant c) = Unit {0}
IsItself n (names.subroutine k) = Unit {0}
IsItself n (names.function k) = Unit {0}
IsItself n (names.module_constant k) = Unit {0}
IsItself n (names.module_type y) = Unit {0}
IsItself n (names.intrinsic_function f) = Unit {0}
IsItself n (names.intrinsic_subroutine f) = Unit {0}

-- the variables stand under their names, which are names, and no two of them are alike
pub record AreOwn (xs : List Named) : Type 0 where
  pub itself : Each (λ x. IsItself x.name x.meaning) xs
  pub each : Each IsName (names_among xs)
  pub differ : Differ (names_among xs)

pub none_own : AreOwn []
none_own = record { itself = tt; each = tt; differ = tt }

-- ---- one name more
variables_step : (m : Meaning) (xs ys : List Symbol) (zs : List (List ℕ)) → map symbol_name ys ≡ map symbol_name xs ++ zs
    → map symbol_name (elim m [ names.variable z ↦ z ∷ ys | o ↦ ys ]) ≡ map symbol_name (elim m [ names.variable z ↦ z ∷ xs | o ↦ xs ]) ++ zs
variables_step (names.variable z) xs ys zs e = ap (λ k. z.name ∷ k) e
variables_step (names.constant c) xs ys zs e = e
variables_step (names.subroutine k) xs ys zs e = e
variables_step (names.function k) xs ys zs e = e
variables_step (names.module_constant k) xs ys zs e = e
variables_step (names.module_type y) xs ys zs e = e
variables_step (names.intrinsic_function f) xs ys zs e = e
variables_step (names.intrinsic_subroutine f) xs ys zs e = e

variables_behind : (xs : List Named) (x : Named) (zs : List (List ℕ)) → names_among (x ∷ []) ≡ zs → names_among (xs ++ x ∷ []) ≡ names_among xs ++ zs
variables_behind [] x zs e = e
variables_behind (y ∷ xs) x zs e = variables_step y.meaning (variables_of xs) (variables_of (xs ++ x ∷ [])) zs (variables_behind xs x zs e)

-- what isn't denoted is none of the variables
unlike : (a n : List ℕ) (m : Meaning) (o : Option Meaning) → cond (bytes_eq a n) (Some m) o ≡ None → (a ≡ n → ⊥) × (o ≡ None)
unlike a n m o h = by_same (bytes_eq a n) refl h
  where
    by_same : (b : Bool) → b ≡ bytes_eq a n → cond b (Some m) o ≡ None → (a ≡ n → ⊥) × (o ≡ None)
    by_same true e k = none_some m (sym k)
    by_same false e k = ((λ q. absurd (differ (e ∙ (bytes_eq-Decides a n).1 q))), k)
      where
        differ : false ≡ true → ⊥
        differ f = cc

apart_step : (m : Meaning) (a n : List ℕ) (xs : List Symbol) → IsItself a m → (a ≡ n → ⊥) → Apart n (map symbol_name xs)
    → Apart n (map symbol_name (elim m [ names.variable z ↦ z ∷ xs | o ↦ xs ]))
apart_step (names.variable z) a n xs i d h = ((λ e. d (sym i ∙ e)), h)
apart_step (names.constant c) a n xs i d h = h
apart_step (names.subroutine k) a n xs i d h = h
apart_step (names.function k) a n xs i d h = h
apart_step (names.module_constant k) a n xs i d h = h
apart_step (names.module_type y) a n xs i d h = h
apart_step (names.intrinsic_function f) a n xs i d h = h
apart_step (names.intrinsic_subroutine f) a n xs i d h = h

not_denoted : (xs : List Named) (n : List ℕ) → Each (λ x. IsItself x.name x.meaning) xs → denoted_in xs n ≡ None → Apart n (names_among xs)
not_denoted [] n h e = tt
not_denoted (x ∷ xs) n h e =
    let u = unlike x.name n x.meaning (denoted_in xs n) e in
    apart_step x.meaning x.name n (variables_of xs) h.0 u.0 (not_denoted xs n h.1 u.1)

variable_more : (xs : List Named) (n : List ℕ) (y : Symbol) → AreOwn xs → IsName n → denoted_in xs n ≡ None → y.name ≡ n
    → AreOwn (xs ++ named n (names.variable y) ∷ [])
variable_more xs n y h k d e =
    let more = named n (names.variable y) in
    let all = sym (variables_behind xs more (n ∷ []) (ap (λ a. a ∷ []) e)) in
    record {
      itself = each_both (λ x. IsItself x.name x.meaning) xs (more ∷ []) h.itself (e, tt);
      each = subst (Each IsName) all (each_both IsName (names_among xs) (n ∷ []) h.each (k, tt));
      differ = subst Differ all (differ_more (names_among xs) n h.differ (not_denoted xs n h.itself d));
    }

append_nil : (ns : List (List ℕ)) → ns ≡ ns ++ []
append_nil [] = refl
append_nil (n ∷ ns) = ap (λ k. n ∷ k) (append_nil ns)

constant_more : (xs : List Named) (n : List ℕ) (c : ConstantSymbol) → AreOwn xs → AreOwn (xs ++ named n (names.constant c) ∷ [])
constant_more xs n c h =
    let more = named n (names.constant c) in
    let all = append_nil (names_among xs) ∙ sym (variables_behind xs more [] refl) in
    record {
      itself = each_both (λ x. IsItself x.name x.meaning) xs (more ∷ []) h.itself (tt, tt);
      each = subst (Each IsName) all h.each;
      differ = subst Differ all h.differ;
    }

-- ---- declarations
not_there : {T : Type 0} (o : Option T) (b : Bool) → (is_there o || b) ≡ false → o ≡ None
not_there None b h = refl
not_there (Some x) b h = absurd (cc)

scope_by : (b : Bool) (s t : Scope) → AreOwn s.own → AreOwn t.own → AreOwn (cond b s t).own
scope_by true s t h k = h
scope_by false s t h k = k

declared_by : (b : Bool) (x y : Declared) → AreOwn x.scope.own → (b ≡ false → AreOwn y.scope.own) → AreOwn (cond b x y).scope.own
declared_by true x y h k = h
declared_by false x y h k = k refl

scope_more : (s : Scope) (u : Unit') (a : Attributes) (y : Option DataType) (e : Entity) → AreOwn s.own → IsName e.name.text
    → denoted_in s.own e.name.text ≡ None → AreOwn (scope_with s u a y e).own
scope_more s u a y e h k d =
    let ds = dimensions_known s a.is_allocatable (effective_dimensions a e) in
    scope_by (is_named_constant u a e.name.text) (constant_entity s ds y e (initial_judged s u a e.name.text y ds e.initial).meaning)
    (with_name s (variable_entity s u a y e)) (constant_more s.own e.name.text _ h) (variable_more s.own e.name.text _ h k d refl)

entity_own : (s : Scope) (u : Unit') (a : Attributes) (y : Option DataType) (e : Entity) → AreOwn s.own → IsName e.name.text
    → AreOwn (declared_entity s u a y e).scope.own
entity_own s u a y e h k = declared_by (is_declared u s e.name.text) _ _ h
    (λ f. scope_more s u a y e h k (not_there (denoted_in s.own e.name.text) (u.is_answer_typed && is_answer u e.name.text) f))

entities_own : (u : Unit') (a : Attributes) (y : Option DataType) (es : List Entity) (s : Scope) → AreOwn s.own → AreNamed es
    → AreOwn (declared_entities u a y es s).scope.own
entities_own u a y [] s h k = h
entities_own u a y (e ∷ es) s h k = entities_own u a y es (declared_entity s u a y e).scope (entity_own s u a y e h k.0) k.1

declaration_own : (u : Unit') (x : Declaration) (s : Scope) → AreOwn s.own → AreNamed x.entities → AreOwn (declared u x s).scope.own
declaration_own u x s h k = entities_own u (attributes_of no_attributes x.attributes) (type_judged s x.type_spec).meaning x.entities s h k

pub declarations_own : (u : Unit') (xs : List Declaration) (s : Scope) → AreOwn s.own → DeclareNames xs → AreOwn (declared_all u xs s).scope.own
declarations_own u [] s h k = h
declarations_own u (x ∷ xs) s h k = declarations_own u xs (declared u x s).scope (declaration_own u x s h k.0) k.1
