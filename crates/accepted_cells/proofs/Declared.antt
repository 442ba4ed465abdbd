-- Coarrays are numbered in declared order, and a procedure declares none.
use Rattle.std.proofs.Common.{◌≡◌, ◌∙◌, ℕ, suc, ◌+◌, Bool, true, false, List, [], ◌∷◌, ◌++◌, length, refl, sym, ap, subst, arith}
use Rattle.std.specs.Prelude.{cond, not, nat_eq, ◌&&◌, ◌||◌, Option, Some, None}
use Rattle.fortran_tree.specs.Statements as d
use Rattle.fortran_tree.specs.Units as u
use Rattle.fortran_tree.specs.declared.name.Name.{Name}
use Rattle.checked_tree.specs.declared.data.DataType.{DataType}
use Rattle.checked_tree.specs.declared.data.Local.{Local}
use Rattle.checked_tree.specs.declared.data.Object.{Object}
use Rattle.checked_tree.specs.declared.data.Object.TheVariants as objects
use Rattle.rule_definitions.specs.declared.broken.Broken.{Broken}
use Rattle.rule_definitions.specs.Judgements.{breaks, is_nothing, is_there}
use Rattle.rule_definitions.specs.Names
use Rattle.rule_definitions.specs.Names.{Scope, Symbol, Named, named, Meaning, Role, variables_of, denoted_in}
use Rattle.rule_definitions.specs.Declarations.{Unit', Attributes, no_attributes, attributes_of, corank_of, raw_breaks, raw_dimensions_breaks, raw_coshape_breaks, dimensions_breaks, dimensions_known, coshape_breaks, rank_breaks, deferred_breaks, special_type_breaks, procedure_variable_breaks, intent_breaks, parameter_breaks, is_named_constant, initial_judged, effective_dimensions, effective_coshape, count_coarrays, Declared, with_name, variable_entity, constant_entity, raw_entity_breaks, whole_breaks, entity_breaks, is_declared, declared_entity, and_then, declared_entities, attribute_breaks, declared, declared_all, type_judged}
use Rattle.rule_definitions.specs.Units.{Headed, heading_breaks, bare, unit_of, opened, with_dummy, with_dummies, with_untyped, with_answer, is_typed, first_type, opened_procedure}
use Rattle.rule_laws.proofs.DeclarationsSound.{dimensions_raw, coshape_raw}
use Rattle.rule_laws.proofs.InitialsSound.{initial_raw}
use Rattle.accepted_ranks.proofs.Means.{cons_nil, left_nothing, right_nothing, unless_nothing, formed_nothing, no}
use Rattle.accepted_ranks.proofs.Declared.{variables_behind}

-- ---- numbers
-- a coarray has this number; what is none is a local variable
abbrev pub IsCounted : Bool → ℕ → Object → Type 0
IsCounted true k (objects.Local l) = Unit {0}
IsCounted true k o = ⊥
IsCounted false k (objects.Coarray m) = m ≡ k
IsCounted false k o = ⊥

abbrev pub AreCounted : ℕ → List Symbol → Type 0
AreCounted k [] = Unit {0}
AreCounted k (x ∷ xs) = IsCounted (nat_eq x.corank 0) k x.object × AreCounted (cond (nat_eq x.corank 0) k (suc k)) xs

abbrev pub Counted : Bool → List Symbol → Type 0
Counted b xs = AreCounted 0 xs × (b ≡ true → count_coarrays xs ≡ 0)

behind_one : (b : Bool) (k m : ℕ) → cond b k (suc k) + m ≡ k + cond b m (m + 1)
behind_one true k m = refl
behind_one false k m = omega arith

counted_more : (k : ℕ) (xs : List Symbol) (y : Symbol) → AreCounted k xs → IsCounted (nat_eq y.corank 0) (k + count_coarrays xs) y.object → AreCounted k (xs ++ y ∷ [])
counted_more k [] y h g = (subst (λ m. IsCounted (nat_eq y.corank 0) m y.object) (let e : k + 0 ≡ k = omega arith in e) g, tt)
counted_more k (x ∷ xs) y h g =
    (h.0, counted_more (cond (nat_eq x.corank 0) k (suc k)) xs y h.1 (subst (λ m. IsCounted (nat_eq y.corank 0) m y.object) (sym (behind_one (nat_eq x.corank 0) k (count_coarrays xs))) g))

count_more : (xs : List Symbol) (y : Symbol) → nat_eq y.corank 0 ≡ true → count_coarrays xs ≡ 0 → count_coarrays (xs ++ y ∷ []) ≡ 0
count_more [] y e h = ap (λ b. cond b 0 1) e
count_more (x ∷ xs) y e h = by (nat_eq x.corank 0) h (λ g. count_more xs y e g)
  where
    by : (b : Bool) → cond b (count_coarrays xs) (count_coarrays xs + 1) ≡ 0 → (count_coarrays xs ≡ 0 → count_coarrays (xs ++ y ∷ []) ≡ 0) → cond b (count_coarrays (xs ++ y ∷ [])) (count_coarrays (xs ++ y ∷ []) + 1) ≡ 0
    by true g more = more g
    by false g more = absurd (omega arith)

object_counted : (b : Bool) (l : Local) (k : ℕ) → IsCounted b k (cond b (objects.Local l) (objects.Coarray k))
object_counted true l k = tt
object_counted false l k = refl

-- one name more
variable_more : (b : Bool) (xs : List Named) (n : List ℕ) (y : Symbol) → Counted b (variables_of xs) → IsCounted (nat_eq y.corank 0) (count_coarrays (variables_of xs)) y.object → (b ≡ true → nat_eq y.corank 0 ≡ true)
    → Counted b (variables_of (xs ++ named n (Names.variable y) ∷ []))
variable_more b xs n y h g k = subst (Counted b) (sym (variables_behind xs n y)) (counted_more 0 (variables_of xs) y h.0 (subst (λ m. IsCounted (nat_eq y.corank 0) m y.object) (let z : count_coarrays (variables_of xs) ≡ 0 + count_coarrays (variables_of xs) = omega arith in z) g), λ e. count_more (variables_of xs) y (k e) (h.1 e))

abbrev with_meaning : Meaning → List Symbol → List Symbol
with_meaning m xs = elim m [ Names.variable z ↦ z ∷ xs | o ↦ xs ]

constant_step : (m : Meaning) (xs ys : List Symbol) → ys ≡ xs → with_meaning m ys ≡ with_meaning m xs
constant_step m xs ys e = ap (with_meaning m) e

constants_behind : (xs : List Named) (n : List ℕ) (y : Names.ConstantSymbol) → variables_of (xs ++ named n (Names.constant y) ∷ []) ≡ variables_of xs
constants_behind [] n y = refl
constants_behind (x ∷ xs) n y = constant_step x.meaning (variables_of xs) (variables_of (xs ++ named n (Names.constant y) ∷ [])) (constants_behind xs n y)

-- ---- an entity of a procedure is no coarray
join_nothing : (xs ys : List Broken) → xs ≡ [] → ys ≡ [] → xs ++ ys ≡ []
join_nothing xs ys e g = ap (λ z. z ++ ys) e ∙ g

uncoded : (p a b c : Bool) → not (p && (a || (b || not c))) ≡ true → p ≡ true → c ≡ true
uncoded true a b true e h = refl
uncoded true true b false e h = no e
uncoded true false true false e h = no e
uncoded true false false false e h = no e
uncoded false a b c e h = no h

local_entity : (s : Scope) (u : Unit') (a : Attributes) (y : Option DataType) (e : d.Entity) (ds : List d.Dimension) (c : Option d.CoarraySpec) → entity_breaks s u a y e ds c ≡ [] → u.is_procedure ≡ true → nat_eq (corank_of c) 0 ≡ true
local_entity s u a y e ds c h m =
    let raw = raw_entity_breaks s e ds c in
    let w = whole_breaks u a y e ds c in
    let ws = cond (is_nothing raw) w [] in
    let xs = dimensions_breaks s a.is_allocatable ds in
    let ys = coshape_breaks s a.is_allocatable c in
    let zs = (initial_judged s u a e.name.text y (dimensions_known s a.is_allocatable ds) e.initial).breaks in
    let r = right_nothing ws (xs ++ (ys ++ zs)) h in
    let x = left_nothing xs (ys ++ zs) r in
    let q = right_nothing xs (ys ++ zs) r in
    let z = right_nothing ys zs q in
    let n = join_nothing (raw_dimensions_breaks s ds) (raw_coshape_breaks s c ++ raw_breaks s e.initial) (dimensions_raw s a.is_allocatable ds x)
    (join_nothing (raw_coshape_breaks s c) (raw_breaks s e.initial) (coshape_raw s a.is_allocatable c (left_nothing ys zs q)) (initial_raw s u a e.name.text y (dimensions_known s a.is_allocatable ds) e.initial z)) in
    let k = formed_nothing raw w n (left_nothing ws (xs ++ (ys ++ zs)) h) in
    let b1 = rank_breaks (length ds) (corank_of c) e.name.at in
    let b2 = deferred_breaks a.is_allocatable ds c e.name.at in
    let b3 = special_type_breaks y (length ds) (corank_of c) e.name.at in
    let b4 = procedure_variable_breaks u a (corank_of c) e.name.at in
    let b5 = intent_breaks u a e.name in
    let b6 = parameter_breaks a e.initial e.name.at in
    let k2 = right_nothing b1 (b2 ++ (b3 ++ (b4 ++ (b5 ++ b6)))) k in
    let k3 = right_nothing b2 (b3 ++ (b4 ++ (b5 ++ b6))) k2 in
    let k4 = right_nothing b3 (b4 ++ (b5 ++ b6)) k3 in
    uncoded u.is_procedure a.is_allocatable a.is_saved (nat_eq (corank_of c) 0)
    (unless_nothing (not (u.is_procedure && (a.is_allocatable || (a.is_saved || not (nat_eq (corank_of c) 0))))) 28 e.name.at (left_nothing b4 (b5 ++ b6) k4)) m

-- ---- what a declaration does to a scope
abbrev Keeps : Bool → Scope → Declared → Type 0
Keeps b s x = Counted b (variables_of s.own) → x.breaks ≡ [] → Counted b (variables_of x.scope.own)

cond_keeps : (b : Bool) (s : Scope) (c : Bool) (x y : Declared) → Keeps b s x → Keeps b s y → Keeps b s (cond c x y)
cond_keeps b s true x y h k = h
cond_keeps b s false x y h k = k

then_keeps : (b : Bool) (s : Scope) (a : Declared) (next : Scope → Declared) → Keeps b s a → Keeps b a.scope (next a.scope) → Keeps b s (and_then a next)
then_keeps b s a next h g k e = g (h k (left_nothing a.breaks (next a.scope).breaks e)) (right_nothing a.breaks (next a.scope).breaks e)

repeated_some : (xs : List Broken) (p : _) → cond (is_nothing xs) (breaks 21 p) xs ≡ [] → ⊥
repeated_some [] p e = cons_nil _ [] e
repeated_some (x ∷ xs) p e = cons_nil x xs e

entity_keeps : (s : Scope) (u : Unit') (a : Attributes) (y : Option DataType) (e : d.Entity) (b : Bool)
    → Keeps u.is_procedure s (record {
      breaks = entity_breaks s u a y e (effective_dimensions a e) (effective_coshape a e);
      scope = cond b (constant_entity s (dimensions_known s a.is_allocatable (effective_dimensions a e)) y e (initial_judged s u a e.name.text y (dimensions_known s a.is_allocatable (effective_dimensions a e)) e.initial).meaning) (with_name s (variable_entity s u a y e));
    })
entity_keeps s u a y e true h g = subst (Counted u.is_procedure) (sym (constants_behind s.own e.name.text _)) h
entity_keeps s u a y e false h g =
    variable_more u.is_procedure s.own e.name.text _ h (object_counted (nat_eq (corank_of (effective_coshape a e)) 0) _ (count_coarrays (variables_of s.own))) (λ m. local_entity s u a y e (effective_dimensions a e) (effective_coshape a e) g m)

declared_entity_keeps : (s : Scope) (u : Unit') (a : Attributes) (y : Option DataType) (e : d.Entity) → Keeps u.is_procedure s (declared_entity s u a y e)
declared_entity_keeps s u a y e = cond_keeps u.is_procedure s (is_declared u s e.name.text) _ _
    (λ h b. absurd (repeated_some (raw_entity_breaks s e (effective_dimensions a e) (effective_coshape a e)) e.name.at b))
    (entity_keeps s u a y e (is_named_constant u a e.name.text))

entities_keep : (u : Unit') (a : Attributes) (y : Option DataType) (es : List d.Entity) (s : Scope) → Keeps u.is_procedure s (declared_entities u a y es s)
entities_keep u a y [] s = λ h e. h
entities_keep u a y (e ∷ rest) s = then_keeps u.is_procedure s (declared_entity s u a y e) (declared_entities u a y rest) (declared_entity_keeps s u a y e) (entities_keep u a y rest (declared_entity s u a y e).scope)

declaration_keeps : (u : Unit') (x : d.Declaration) (s : Scope) → Keeps u.is_procedure s (declared u x s)
declaration_keeps u x s =
    let a = attributes_of no_attributes x.attributes in
    let j = type_judged s x.type_spec in
    then_keeps u.is_procedure s (record { breaks = j.breaks ++ attribute_breaks s x.attributes; scope = s }) (declared_entities u a j.meaning x.entities) (λ h e. h) (entities_keep u a j.meaning x.entities s)

pub declarations_keep : (u : Unit') (xs : List d.Declaration) (s : Scope) → Keeps u.is_procedure s (declared_all u xs s)
declarations_keep u [] s = λ h e. h
declarations_keep u (x ∷ xs) s = then_keeps u.is_procedure s (declared u x s) (declared_all u xs) (declaration_keeps u x s) (declarations_keep u xs (declared u x s).scope)

-- ---- a procedure's dummies and result
dummy_keeps : (v : Unit') (s : Scope) (n : Name) → Keeps true s (with_dummy v s n)
dummy_keeps v s n = cond_keeps true s (is_declared v s n.text) _ _ (λ h e. h) (λ h e. cons_nil _ [] e)

dummies_keep : (v : Unit') (ns : List Name) (s : Scope) → Keeps true s (with_dummies v ns s)
dummies_keep v [] s = λ h e. h
dummies_keep v (n ∷ ns) s = then_keeps true s (with_dummy v s n) (with_dummies v ns) (dummy_keeps v s n) (dummies_keep v ns (with_dummy v s n).scope)

untyped_keeps : (s : Scope) (n : Name) → Keeps true s (with_untyped s n)
untyped_keeps s n = cond_keeps true s (is_there (denoted_in s.own n.text)) _ _ (λ h e. h) (λ h e. cons_nil _ [] e)

any_keeps : (s : Scope) (o : Option Name) → Keeps true s (elim o [ None ↦ record { breaks = []; scope = s } | Some n ↦ with_untyped s n ])
any_keeps s None = λ h e. h
any_keeps s (Some n) = untyped_keeps s n

no_more : (xs : List Named) → xs ++ [] ≡ xs
no_more [] = refl
no_more (x ∷ xs) = ap (λ k. x ∷ k) (no_more xs)

abbrev CountedNames : List Named → Type 0
CountedNames xs = Counted true (variables_of xs)

answer_list : (n : Option Name) (y : Option DataType) (xs : List Named) → CountedNames xs → CountedNames (xs ++ elim n [ None ↦ [] | Some m ↦ bare m y Names.function_result (length (variables_of xs)) ∷ [] ])
answer_list None y xs k = subst CountedNames (sym (no_more xs)) k
answer_list (Some m) y xs k = variable_more true xs m.text _ k tt (λ e. refl)

answer_more : (b : Bool) (n : Option Name) (y : Option DataType) (xs : List Named) → CountedNames xs → CountedNames (xs ++ cond b (elim n [ None ↦ [] | Some m ↦ bare m y Names.function_result (length (variables_of xs)) ∷ [] ]) [])
answer_more true n y xs k = answer_list n y xs k
answer_more false n y xs k = subst CountedNames (sym (no_more xs)) k

result_keeps : (host : Scope) (h : Headed) (s : Scope) → Keeps true s (with_answer host h s)
result_keeps host h s = cond_keeps true s (is_typed h) _ _ (λ k e. answer_more (is_typed h) h.answer (first_type host h.types).meaning s.own k) (any_keeps s h.answer)

-- the variables of a procedure are no coarrays
pub procedure_counted : (host : Scope) (h : Headed) (x : u.Procedure) → (opened_procedure host h x).breaks ≡ [] → Counted true (variables_of (opened_procedure host h x).scope.own)
procedure_counted host h x e =
    let v = unit_of h in
    let s0 = opened host h x.body.declarations in
    let a = declared_all v x.body.declarations s0 in
    let b = with_dummies v h.dummies a.scope in
    let c = with_answer host h b.scope in
    let bs = heading_breaks host h in
    let r = right_nothing bs (a.breaks ++ (b.breaks ++ c.breaks)) e in
    let q = right_nothing a.breaks (b.breaks ++ c.breaks) r in
    result_keeps host h b.scope (dummies_keep v h.dummies a.scope (declarations_keep v x.body.declarations s0 (tt, λ z. refl) (left_nothing a.breaks (b.breaks ++ c.breaks) r)) (left_nothing b.breaks c.breaks q)) (right_nothing b.breaks c.breaks q)
