-- The names of an accepted program stand for declared coarrays of their types, where they stand for coarrays; and for
-- these alone, where they stand for locks and events.
use Rattle.std.proofs.Common.{◌≡◌, ◌∙◌, ℕ, zero, suc, ◌+◌, Bool, true, false, List, [], ◌∷◌, refl, sym, ap, subst, arith}
use Rattle.std.specs.Prelude.{cond, not, map, nat_eq, nat_le, slice_get, length, ◌&&◌, Option, Some, None}
use Rattle.caf_base.specs.declared.value.Kind.{Kind}
use Rattle.caf_base.specs.declared.value.Kind.TheVariants.{I4, I8, L4}
use Rattle.fortran_tree.specs.Units as u
use Rattle.fortran_tree.specs.declared.name.Name.{Name}
use Rattle.checked_tree.specs.declared.data.DataType.{DataType}
use Rattle.checked_tree.specs.declared.data.DataType.TheVariants.{Intrinsic, Team, Event, Lock}
use Rattle.checked_tree.specs.declared.data.Initial.{Initial}
use Rattle.checked_tree.specs.declared.data.Object.{Object}
use Rattle.checked_tree.specs.declared.data.Object.TheVariants as objects
use Rattle.checked_tree.specs.declared.data.Variable.{Variable}
use Rattle.rule_definitions.specs.Judgements.{all_made, or_else}
use Rattle.rule_definitions.specs.Names
use Rattle.rule_definitions.specs.Names.{Scope, Symbol, ConstantSymbol, Named, named, Meaning, denotes, denoted_in, denoted_outside, intrinsic_procedures, module_names, is_among, is_declared_role, variables_of}
use Rattle.rule_definitions.specs.Declarations.{is_special, count_coarrays}
use Rattle.rule_definitions.specs.Units.{is_module, accessible_name, accessible_names, accessible_by, accessible_of, Headed, meaning_of_heading, procedure_names, hosted_object, hosted_meaning, hosted, type_known, dimensions_of, variable_of, coarray_numbers}
use Rattle.rule_laws.proofs.Filled.{all_meant, meant_in, meant_both}
use Rattle.accepted_ranks.proofs.Means.{none_some, some_same, no, of_both, and_left, and_right}
use Rattle.accepted_ranks.proofs.Declared.{both_true, is_kept, is_variable, is_fit}
use Rattle.image_acts.specs.Core.{Own}
use Rattle.image_code.specs.declared.tables.CellType.{CellType}
use Rattle.object_rules.specs.Cells.{Content, Declared}
use Rattle.object_rules.specs.Kinds.{same_value_kind}
use Rattle.object_rules.specs.MemoryRules.{holds, is_lock, is_event}
use Rattle.program_tables.specs.Tables.{cell_type, declared_coarray, coarray_found, coarray_at}
use Rattle.tree_meaning.specs.Environment.{declared_bounds}
use Rattle.cell_statements.specs.Typed.{is_of as is_of_kind}
use Rattle.tree_meaning.specs.Start.{own_of}
use Rattle.accepted_cells.specs.Scopes.{IsOfIfTyped, AreHeld}
use Rattle.accepted_cells.specs.Contents.{content_of, holding, content}
use Rattle.accepted_cells.proofs.Declared.{IsCounted, AreCounted}

-- ---- contents
same_self : (k : Kind) → same_value_kind k k ≡ true
same_self I4 = refl
same_self I8 = refl
same_self L4 = refl

holds_by : (os : List Declared) (k : ℕ) (test : Content → Bool) (t : Content) → slice_get (map content os) k ≡ Some t → test t ≡ true → holds test (slice_get os k) ≡ true
holds_by [] k test t e h = none_some t e
holds_by (x ∷ os) zero test t e h = subst (λ z. test z ≡ true) (sym (some_same x.content t e)) h
holds_by (x ∷ os) (suc k) test t e h = holds_by os k test t e h

made_type : (t : CellType) (i : Initial) (o : Option Own) → (declared_coarray t i o).of_type ≡ t
made_type t i None = refl
made_type t i (Some o) = refl

found_type : (ws : List Variable) (a : ℕ) (v : Variable) → slice_get ws a ≡ Some v → holding (coarray_at ws a) ≡ content_of (cell_type v.of_type)
found_type ws a v e =
    ap (λ o. holding (coarray_found o)) e ∙ ap content_of (made_type (cell_type v.of_type) v.initial (own_of (declared_bounds v.dimensions) v.codimensions))

known_type : (o : Option DataType) (y : DataType) → (type_known o).meaning ≡ Some y → o ≡ Some y
known_type None y e = none_some y e
known_type (Some x) y e = e

typed_variable : (x : Symbol) (v : Variable) → (variable_of x).meaning ≡ Some v → x.of_type ≡ Some v.of_type
typed_variable x v e = (let o = of_both _ (type_known x.of_type).meaning (dimensions_of x).meaning v e in known_type x.of_type o.0 o.2 ∙ ap (λ (z : Variable). Some z.of_type) o.4)

module _ (coarrays : List Declared) where
  -- ---- names
  abbrev pub is_of : Option DataType → Object → Bool
  is_of (Some Lock) (objects.Coarray n) = holds is_lock (slice_get coarrays n)
  is_of (Some Lock) o = false
  is_of (Some Event) (objects.Coarray n) = holds is_event (slice_get coarrays n)
  is_of (Some Event) o = false
  is_of (Some (Intrinsic i)) (objects.Coarray n) = holds (is_of_kind i) (slice_get coarrays n)
  is_of y o = true

  abbrev pub is_right : Meaning → Bool
  is_right (Names.variable x) = is_of x.of_type x.object
  is_right (Names.constant c) = not (is_special c.of_type)
  is_right m = true

  local_right : (y : Option DataType) (o : Object) (k : ℕ) → IsCounted true k o → is_kept y o ≡ true → is_of y o ≡ true
  local_right None (objects.Local l) k c h = refl
  local_right (Some (Intrinsic i)) (objects.Local l) k c h = refl
  local_right (Some Team) (objects.Local l) k c h = refl
  local_right (Some Event) (objects.Local l) k c h = no h
  local_right (Some Lock) (objects.Local l) k c h = no h
  local_right y (objects.Coarray m) k c h = absurd c
  local_right y (objects.Constant m) k c h = absurd c

  by_type : (y z : DataType) (m : ℕ) → y ≡ z → slice_get (map content coarrays) m ≡ Some (content_of (cell_type y)) → is_of (Some z) (objects.Coarray m) ≡ true
  by_type y (Intrinsic i) m e c =
      holds_by coarrays m (is_of_kind i) (content_of (cell_type (Intrinsic i))) (subst (λ t. slice_get (map content coarrays) m ≡ Some (content_of (cell_type t))) e c) (same_self i)
  by_type y Team m e c = refl
  by_type y Event m e c = holds_by coarrays m is_event (content_of (cell_type Event)) (subst (λ t. slice_get (map content coarrays) m ≡ Some (content_of (cell_type t))) e c) refl
  by_type y Lock m e c = holds_by coarrays m is_lock (content_of (cell_type Lock)) (subst (λ t. slice_get (map content coarrays) m ≡ Some (content_of (cell_type t))) e c) refl

  coarray_right : (o : Object) (k : ℕ) (y : DataType) → IsCounted false k o → slice_get (map content coarrays) k ≡ Some (content_of (cell_type y)) → is_of (Some y) o ≡ true
  coarray_right (objects.Local l) k y c h = absurd c
  coarray_right (objects.Coarray m) k y c h = by_type y y m refl (subst (λ z. slice_get (map content coarrays) z ≡ Some (content_of (cell_type y))) (sym c) h)
  coarray_right (objects.Constant m) k y c h = absurd c

  kept_part : (x : Symbol) → is_fit (Names.variable x) ≡ true → is_kept x.of_type x.object ≡ true
  kept_part x h =
      let b = is_kept x.of_type x.object in
      let c = is_variable x.object && is_declared_role x.role in
      and_left b c (and_right (nat_le (length x.bounds) 3) (b && c) h)

  -- ---- the main program's
  module _ (ws : List Variable) where
    abbrev At : ℕ → List Symbol → List Content
    At a xs = map holding (map (coarray_at ws) (coarray_numbers a xs))

    abbrev Follows : ℕ → ℕ → List Symbol → Type 0
    Follows k a xs = (j : ℕ) → slice_get (map content coarrays) (k + j) ≡ slice_get (At a xs) j

    abbrev Stands : ℕ → List Variable → Type 0
    Stands a vs = (i : ℕ) → slice_get ws (a + i) ≡ slice_get vs i

    abbrev Right : List Named → Type 0
    Right ns = (k a : ℕ) (vs : List Variable) → AreCounted k (variables_of ns) → (all_made (map variable_of (variables_of ns))).meaning ≡ Some vs → Stands a vs → Follows k a (variables_of ns) → all_meant is_right ns ≡ true

    later_ones : (a : ℕ) (v : Variable) (vs : List Variable) → Stands a (v ∷ vs) → Stands (a + 1) vs
    later_ones a v vs h i = ap (slice_get ws) (let e : (a + 1) + i ≡ a + suc i = omega arith in e) ∙ h (suc i)

    variable_step : (x : Symbol) (ns : List Named) → is_fit (Names.variable x) ≡ true → Right ns → (k a : ℕ) (vs : List Variable) → AreCounted k (x ∷ variables_of ns) → (all_made (map variable_of (x ∷ variables_of ns))).meaning ≡ Some vs
        → Stands a vs → Follows k a (x ∷ variables_of ns) → (is_right (Names.variable x) && all_meant is_right ns) ≡ true
    variable_step x ns fit more k a vs counted made stands follows = by (nat_eq x.corank 0) counted.0 counted.1 follows
      where
        xs : List Symbol
        xs = variables_of ns

        o : (v : Variable) × (rest : List Variable) × ((variable_of x).meaning ≡ Some v) × ((all_made (map variable_of (variables_of ns))).meaning ≡ Some rest) × (v ∷ rest ≡ vs)
        o = of_both (λ v rest. v ∷ rest) (variable_of x).meaning (all_made (map variable_of (variables_of ns))).meaning vs made

        here : Stands a (o.0 ∷ o.1)
        here = subst (Stands a) (sym o.4) stands

        found_here : slice_get ws a ≡ Some o.0
        found_here = ap (slice_get ws) (let e : a ≡ a + 0 = omega arith in e) ∙ here 0

        by : (b : Bool) → IsCounted b k x.object → AreCounted (cond b k (suc k)) (variables_of ns)
            → ((j : ℕ) → slice_get (map content coarrays) (k + j) ≡ slice_get (map holding (map (coarray_at ws) (cond b (coarray_numbers (a + 1) (variables_of ns)) (a ∷ coarray_numbers (a + 1) (variables_of ns))))) j)
            → (is_right (Names.variable x) && all_meant is_right ns) ≡ true
        by true c rest f = both_true (is_right (Names.variable x)) (all_meant is_right ns) (local_right x.of_type x.object k c (kept_part x fit)) (more k (a + 1) o.1 rest o.3 (later_ones a o.0 o.1 here) f)
        by false c rest f =
            both_true (is_right (Names.variable x)) (all_meant is_right ns)
            (subst (λ y. is_of y x.object ≡ true) (sym (typed_variable x o.0 o.2))
            (coarray_right x.object k o.0.of_type c (ap (slice_get (map content coarrays)) (let e : k ≡ k + 0 = omega arith in e) ∙ f 0 ∙ ap (λ t. Some t) (found_type ws a o.0 found_here))))
            (more (suc k) (a + 1) o.1 rest o.3 (later_ones a o.0 o.1 here) (λ j. ap (slice_get (map content coarrays)) (let e : suc k + j ≡ k + suc j = omega arith in e) ∙ f (suc j)))

    step : (m : Meaning) (ns : List Named) → is_fit m ≡ true → Right ns → (k a : ℕ) (vs : List Variable) → AreCounted k (elim m [ Names.variable y ↦ y ∷ variables_of ns | z ↦ variables_of ns ])
        → (all_made (map variable_of (elim m [ Names.variable y ↦ y ∷ variables_of ns | z ↦ variables_of ns ]))).meaning ≡ Some vs → Stands a vs → Follows k a (elim m [ Names.variable y ↦ y ∷ variables_of ns | z ↦ variables_of ns ])
        → (is_right m && all_meant is_right ns) ≡ true
    step (Names.variable x) ns fit more k a vs counted made stands follows = variable_step x ns fit more k a vs counted made stands follows
    step (Names.constant c) ns fit more k a vs counted made stands follows =
        both_true (not (is_special c.of_type)) (all_meant is_right ns) (and_right (nat_le (length c.bounds) 3) (not (is_special c.of_type)) fit) (more k a vs counted made stands follows)
    step m ns fit more k a vs counted made stands follows = no fit

    pub names_right : (ns : List Named) → all_meant is_fit ns ≡ true → Right ns
    names_right [] fit k a vs counted made stands follows = refl
    names_right (x ∷ ns) fit k a vs counted made stands follows =
        step x.meaning ns (and_left (is_fit x.meaning) (all_meant is_fit ns) fit) (names_right ns (and_right (is_fit x.meaning) (all_meant is_fit ns) fit)) k a vs counted made stands follows

  -- ---- a procedure's own: none is a coarray
  local_step : (m : Meaning) (ns : List Named) (k : ℕ) → is_fit m ≡ true → (AreCounted k (variables_of ns) → count_coarrays (variables_of ns) ≡ 0 → all_meant is_right ns ≡ true)
      → AreCounted k (elim m [ Names.variable y ↦ y ∷ variables_of ns | z ↦ variables_of ns ]) → count_coarrays (elim m [ Names.variable y ↦ y ∷ variables_of ns | z ↦ variables_of ns ]) ≡ 0 → (is_right m && all_meant is_right ns) ≡ true
  local_step (Names.variable x) ns k fit more counted none = by (nat_eq x.corank 0) counted.0 counted.1 none
    where
      by : (b : Bool) → IsCounted b k x.object → AreCounted (cond b k (suc k)) (variables_of ns) → cond b (count_coarrays (variables_of ns)) (count_coarrays (variables_of ns) + 1) ≡ 0 → (is_right (Names.variable x) && all_meant is_right ns) ≡ true
      by true c rest e = both_true (is_right (Names.variable x)) (all_meant is_right ns) (local_right x.of_type x.object k c (kept_part x fit)) (more rest e)
      by false c rest e = absurd (omega arith)
  local_step (Names.constant c) ns k fit more counted none = both_true (not (is_special c.of_type)) (all_meant is_right ns) (and_right (nat_le (length c.bounds) 3) (not (is_special c.of_type)) fit) (more counted none)
  local_step m ns k fit more counted none = no fit

  pub locals_right : (ns : List Named) (k : ℕ) → all_meant is_fit ns ≡ true → AreCounted k (variables_of ns) → count_coarrays (variables_of ns) ≡ 0 → all_meant is_right ns ≡ true
  locals_right [] k fit counted none = refl
  locals_right (x ∷ ns) k fit counted none = local_step x.meaning ns k (and_left (is_fit x.meaning) (all_meant is_fit ns) fit) (locals_right ns k (and_right (is_fit x.meaning) (all_meant is_fit ns) fit)) counted none

  -- ---- the host's
  hosted_of : (y : Option DataType) (o : Object) → is_of y o ≡ true → is_of y (hosted_object o) ≡ true
  hosted_of None (objects.Local l) h = refl
  hosted_of (Some (Intrinsic k)) (objects.Local l) h = refl
  hosted_of (Some Team) (objects.Local l) h = refl
  hosted_of (Some Event) (objects.Local l) h = no h
  hosted_of (Some Lock) (objects.Local l) h = no h
  hosted_of y (objects.Coarray n) h = h
  hosted_of y (objects.Constant n) h = h

  hosted_right : (m : Meaning) → is_right m ≡ true → is_right (hosted_meaning m) ≡ true
  hosted_right (Names.variable x) h = hosted_of x.of_type x.object h
  hosted_right (Names.constant c) h = h
  hosted_right m h = h

  pub hosted_all : (ns : List Named) → all_meant is_right ns ≡ true → all_meant is_right (map hosted ns) ≡ true
  hosted_all [] h = refl
  hosted_all (x ∷ ns) h =
      both_true (is_right (hosted_meaning x.meaning)) (all_meant is_right (map hosted ns)) (hosted_right x.meaning (and_left (is_right x.meaning) (all_meant is_right ns) h)) (hosted_all ns (and_right (is_right x.meaning) (all_meant is_right ns) h))

  -- ---- names of procedures, and those that USE makes accessible
  heading_right : (n : ℕ) (o : Option Name) → is_right (elim o [ None ↦ Names.subroutine n | Some r ↦ Names.function n ]) ≡ true
  heading_right n None = refl
  heading_right n (Some r) = refl

  pub headings_right : (n : ℕ) (hs : List Headed) → all_meant is_right (procedure_names n hs) ≡ true
  headings_right n [] = refl
  headings_right n (h ∷ hs) = both_true (is_right (meaning_of_heading n h)) (all_meant is_right (procedure_names (n + 1) hs)) (heading_right n h.answer) (headings_right (n + 1) hs)

  module_right : all_meant is_right module_names ≡ true
  module_right = refl

  one_right : (n : List ℕ) (o : Option Meaning) → ((m : Meaning) → o ≡ Some m → is_right m ≡ true) → all_meant is_right (elim o [ None ↦ [] | Some m ↦ named n m ∷ [] ]) ≡ true
  one_right n None h = refl
  one_right n (Some m) h = both_true (is_right m) true (h m refl) refl

  accessible_right : (ns : List Name) → all_meant is_right (accessible_names ns) ≡ true
  accessible_right [] = refl
  accessible_right (n ∷ ns) = meant_both is_right (accessible_name n.text) (accessible_names ns) (one_right n.text (denoted_in module_names n.text) (λ m e. meant_in is_right module_names n.text m module_right e)) (accessible_right ns)

  only_right : (o : Option (List Name)) → all_meant is_right (elim o [ None ↦ module_names | Some ns ↦ accessible_names ns ]) ≡ true
  only_right None = module_right
  only_right (Some ns) = accessible_right ns

  cond_right : (b : Bool) (xs : List Named) → all_meant is_right xs ≡ true → all_meant is_right (cond b xs []) ≡ true
  cond_right true xs h = h
  cond_right false xs h = refl

  pub uses_right : (xs : List u.Use) → all_meant is_right (accessible_of xs) ≡ true
  uses_right [] = refl
  uses_right (x ∷ xs) = meant_both is_right (accessible_by x) (accessible_of xs) (cond_right (is_module x.module_name.text) (elim x.only [ None ↦ module_names | Some ns ↦ accessible_names ns ]) (only_right x.only)) (uses_right xs)

  -- ---- a scope
  pub record IsRightScope (s : Scope) : Type 0 where
    pub own : all_meant is_right s.own ≡ true
    pub host : all_meant is_right s.host ≡ true
    pub procedures : all_meant is_right s.procedures ≡ true
    pub accessible : all_meant is_right s.accessible ≡ true

  else_cases : {T A : Type 0} (a b : Option T) (m : T) → or_else a b ≡ Some m → (a ≡ Some m → A) → (b ≡ Some m → A) → A
  else_cases None b m e f g = g e
  else_cases (Some x) b m e f g = f e

  unless_pending : {T : Type 0} (b : Bool) (o : Option T) (m : T) → cond b None o ≡ Some m → o ≡ Some m
  unless_pending true o m e = none_some m e
  unless_pending false o m e = e

  denoted_right : (s : Scope) → IsRightScope s → (n : List ℕ) (m : Meaning) → denotes s n ≡ Some m → is_right m ≡ true
  denoted_right s h n m e =
      else_cases (denoted_in s.own n) (cond (is_among s.pending n) None (denoted_outside s n)) m e
      (λ k. meant_in is_right s.own n m h.own k)
      (λ k. else_cases (denoted_in s.host n) (or_else (denoted_in s.procedures n) (or_else (denoted_in s.accessible n) (denoted_in intrinsic_procedures n))) m (unless_pending (is_among s.pending n) (denoted_outside s n) m k)
      (λ i. meant_in is_right s.host n m h.host i)
      (λ i. else_cases (denoted_in s.procedures n) (or_else (denoted_in s.accessible n) (denoted_in intrinsic_procedures n)) m i
      (λ j. meant_in is_right s.procedures n m h.procedures j)
      (λ j. else_cases (denoted_in s.accessible n) (denoted_in intrinsic_procedures n) m j
      (λ l. meant_in is_right s.accessible n m h.accessible l)
      (λ l. meant_in is_right intrinsic_procedures n m refl l))))

  of_right : (y : Option DataType) (o : Object) → is_of y o ≡ true → IsOfIfTyped coarrays y o
  of_right None o h = tt
  of_right (Some (Intrinsic i)) (objects.Local l) h = tt
  of_right (Some (Intrinsic i)) (objects.Coarray n) h = h
  of_right (Some (Intrinsic i)) (objects.Constant n) h = tt
  of_right (Some Team) o h = tt
  of_right (Some Event) (objects.Local l) h = no h
  of_right (Some Event) (objects.Coarray n) h = h
  of_right (Some Event) (objects.Constant n) h = no h
  of_right (Some Lock) (objects.Local l) h = no h
  of_right (Some Lock) (objects.Coarray n) h = h
  of_right (Some Lock) (objects.Constant n) h = no h

  plain_right : (y : Option DataType) (m : ℕ) → not (is_special y) ≡ true → IsOfIfTyped coarrays y (objects.Constant m)
  plain_right None m h = tt
  plain_right (Some (Intrinsic i)) m h = tt
  plain_right (Some Team) m h = tt
  plain_right (Some Event) m h = no h
  plain_right (Some Lock) m h = no h

  pub scope_held : (s : Scope) → IsRightScope s → AreHeld coarrays s
  scope_held s h = record {
    variables = λ n x e. of_right x.of_type x.object (denoted_right s h n (Names.variable x) e);
    constants = λ n x e m. plain_right x.of_type m (denoted_right s h n (Names.constant x) e);
  }
