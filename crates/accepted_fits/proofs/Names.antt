-- The ALLOCATABLE coarrays that names of an accepted program denote aren't there at the start.
use Rattle.std.proofs.Common.{◌≡◌, ◌∙◌, ℕ, zero, suc, ◌+◌, Bool, true, false, List, [], ◌∷◌, refl, sym, ap, subst, arith}
use Rattle.std.specs.Prelude.{cond, not, map, nat_eq, nat_le, slice_get, length, ℤ, ◌&&◌, ◌||◌, Option, Some, None}
use Rattle.fortran_tree.specs.Units as u
use Rattle.fortran_tree.specs.declared.name.Name.{Name}
use Rattle.checked_tree.specs.declared.data.Codimensions.{Codimensions}
use Rattle.checked_tree.specs.declared.data.Codimensions.TheVariants as coshapes
use Rattle.checked_tree.specs.declared.data.Object.{Object}
use Rattle.checked_tree.specs.declared.data.Object.TheVariants as objects
use Rattle.checked_tree.specs.declared.data.Variable.{Variable}
use Rattle.rule_definitions.specs.Judgements.{or_else}
use Rattle.rule_definitions.specs.Names
use Rattle.rule_definitions.specs.Names.{Scope, Symbol, Named, named, Meaning, denotes, denoted_in, denoted_outside, intrinsic_procedures, module_names, is_among, variables_of}
use Rattle.rule_definitions.specs.Declarations.{count_coarrays}
use Rattle.rule_definitions.specs.Units.{is_module, accessible_name, accessible_names, accessible_by, accessible_of, Headed, meaning_of_heading, procedure_names, hosted_object, hosted_meaning, hosted, type_known, dimensions_of, variable_of, coarray_numbers}
use Rattle.rule_laws.proofs.Filled.{all_meant, meant_in, meant_both}
use Rattle.accepted_ranks.proofs.Means.{none_some, some_same, no, of_both, and_left, and_right}
use Rattle.accepted_ranks.proofs.Declared.{both_true}
use Rattle.object_rules.specs.Cells.{Declared}
use Rattle.object_rules.specs.MemoryRules.{is_allocatable}
use Rattle.tree_meaning.specs.Environment.{declared_bounds}
use Rattle.tree_meaning.specs.Start.{own_of, own_of_variable, own_in}
use Rattle.told_walks.specs.Asked.{own_cells}
use Rattle.told_programs.specs.Allowed.{is_allocatable_variable, AreEnded}
use Rattle.walk_laws.specs.Fits.{first_cells}
use Rattle.accepted_cells.proofs.Declared.{IsCounted, AreCounted}
use Rattle.accepted_runs.proofs.Few.{is_few, AreFew, AreAt}
use Rattle.accepted_runs.proofs.Cobounds.{has_cobounds, is_open}
use Rattle.accepted_fits.proofs.Actions.{IsMade, AreMade}

-- ---- what isn't there at the start
open_none : (bs : Option (List (ℤ × ℤ))) (co : Codimensions) → is_open co ≡ true → own_of bs co ≡ None
open_none None (coshapes.Explicit co) h = refl
open_none (Some bs) (coshapes.Explicit co) h = no h
open_none None coshapes.Absent h = refl
open_none (Some bs) coshapes.Absent h = refl
open_none None (coshapes.Deferred n) h = refl
open_none (Some bs) (coshapes.Deferred n) h = refl

either : (b c : Bool) → not b || c ≡ true → b ≡ true → c ≡ true
either true c h e = h
either false c h e = no e

abbrev Shape : Variable → Symbol → Type 0
Shape v x = (v.codimensions ≡ x.coshape) × (v.is_allocatable ≡ x.is_allocatable)

shape_of : (x : Symbol) (v : Variable) → (variable_of x).meaning ≡ Some v → Shape v x
shape_of x v e = (let o = of_both _ (type_known x.of_type).meaning (dimensions_of x).meaning v e in subst (λ w. Shape w x) o.4 (refl, refl))

few_open : (x : Symbol) → is_few x ≡ true → x.is_allocatable ≡ true → is_open x.coshape ≡ true
few_open x h e =
    let a = nat_le (length x.bounds) 3 in
    let b = has_cobounds x.coshape in
    let c = not x.is_allocatable || is_open x.coshape in
    either x.is_allocatable (is_open x.coshape) (and_right b c (and_right a (b && c) h)) e

-- an ALLOCATABLE coarray has no cells of its own at the start
unowned : (ws : List Variable) (a : ℕ) (v : Variable) (x : Symbol) → slice_get ws a ≡ Some v → Shape v x → is_few x ≡ true
    → x.is_allocatable ≡ true → own_cells (own_in ws a) ≡ None
unowned ws a v x e g h k =
    ap (λ o. own_cells (own_of_variable o)) e ∙ ap own_cells
    (open_none (declared_bounds v.dimensions) v.codimensions (ap is_open g.0 ∙ few_open x h k))

no_cells : (b : Bool) (n : ℕ) → cond b None (Some n) ≡ None → b ≡ true
no_cells true n e = refl
no_cells false n e = none_some n (sym e)

found_allocatable : (os : List Declared) (k : ℕ) → slice_get (map first_cells os) k ≡ Some None → is_allocatable (slice_get os k) ≡ true
found_allocatable [] k e = none_some None e
found_allocatable (d ∷ os) zero e = no_cells d.allocatable d.cells (some_same (first_cells d) None e)
found_allocatable (d ∷ os) (suc k) e = found_allocatable os k e

or_true : (b : Bool) → not b || true ≡ true
or_true true = refl
or_true false = refl

module _ (f : ℕ → Bool) where
  -- ---- names
  abbrev pub is_in : Object → Bool
  is_in (objects.Coarray n) = f n
  is_in (objects.Local l) = true
  is_in (objects.Constant n) = true

  abbrev pub is_made : Meaning → Bool
  is_made (Names.variable x) = not x.is_allocatable || is_in x.object
  is_made m = true

  local_made : (b : Bool) (o : Object) (k : ℕ) → IsCounted true k o → not b || is_in o ≡ true
  local_made b (objects.Local l) k c = or_true b
  local_made b (objects.Coarray m) k c = absurd c
  local_made b (objects.Constant m) k c = absurd c

  coarray_made : (b : Bool) (o : Object) (k : ℕ) → IsCounted false k o → (b ≡ true → f k ≡ true) → not b || is_in o ≡ true
  coarray_made b (objects.Local l) k c h = absurd c
  coarray_made true (objects.Coarray m) k c h = ap f c ∙ h refl
  coarray_made false (objects.Coarray m) k c h = refl
  coarray_made b (objects.Constant m) k c h = absurd c

  -- ---- a procedure's own: none is a coarray
  local_step : (m : Meaning) (ns : List Named) (k : ℕ)
      → (AreCounted k (variables_of ns) → count_coarrays (variables_of ns) ≡ 0 → all_meant is_made ns ≡ true)
      → AreCounted k (elim m [ Names.variable y ↦ y ∷ variables_of ns | z ↦ variables_of ns ])
      → count_coarrays (elim m [ Names.variable y ↦ y ∷ variables_of ns | z ↦ variables_of ns ]) ≡ 0
      → (is_made m && all_meant is_made ns) ≡ true
  local_step (Names.variable x) ns k more counted none = by (nat_eq x.corank 0) counted.0 counted.1 none
    where
      by : (b : Bool) → IsCounted b k x.object → AreCounted (cond b k (suc k)) (variables_of ns)
          → cond b (count_coarrays (variables_of ns)) (count_coarrays (variables_of ns) + 1) ≡ 0
          → (is_made (Names.variable x) && all_meant is_made ns) ≡ true
      by true c rest e = both_true (is_made (Names.variable x)) (all_meant is_made ns) (local_made x.is_allocatable x.object k c)
          (more rest e)
      by false c rest e = absurd (omega arith)
  local_step m ns k more counted none = more counted none

  pub locals_made : (ns : List Named) (k : ℕ) → AreCounted k (variables_of ns) → count_coarrays (variables_of ns) ≡ 0
      → all_meant is_made ns ≡ true
  locals_made [] k counted none = refl
  locals_made (x ∷ ns) k counted none = local_step x.meaning ns k (locals_made ns k) counted none

  -- ---- the host's
  hosted_in : (b : Bool) (o : Object) → not b || is_in o ≡ true → not b || is_in (hosted_object o) ≡ true
  hosted_in b (objects.Local l) h = h
  hosted_in b (objects.Coarray n) h = h
  hosted_in b (objects.Constant n) h = h

  hosted_made : (m : Meaning) → is_made m ≡ true → is_made (hosted_meaning m) ≡ true
  hosted_made (Names.variable x) h = hosted_in x.is_allocatable x.object h
  hosted_made m h = h

  pub hosted_all : (ns : List Named) → all_meant is_made ns ≡ true → all_meant is_made (map hosted ns) ≡ true
  hosted_all [] h = refl
  hosted_all (x ∷ ns) h =
      both_true (is_made (hosted_meaning x.meaning)) (all_meant is_made (map hosted ns))
      (hosted_made x.meaning (and_left (is_made x.meaning) (all_meant is_made ns) h))
      (hosted_all ns (and_right (is_made x.meaning) (all_meant is_made ns) h))

  -- ---- names of procedures, and those that USE makes accessible
  heading_made : (n : ℕ) (o : Option Name) → is_made (elim o [ None ↦ Names.subroutine n | Some r ↦ Names.function n ]) ≡ true
  heading_made n None = refl
  heading_made n (Some r) = refl

  pub headings_made : (n : ℕ) (hs : List Headed) → all_meant is_made (procedure_names n hs) ≡ true
  headings_made n [] = refl
  headings_made n (h ∷ hs) = both_true (is_made (meaning_of_heading n h)) (all_meant is_made (procedure_names (n + 1) hs))
      (heading_made n h.answer) (headings_made (n + 1) hs)

  module_made : all_meant is_made module_names ≡ true
  module_made = refl

  one_made : (n : List ℕ) (o : Option Meaning) → ((m : Meaning) → o ≡ Some m → is_made m ≡ true)
      → all_meant is_made (elim o [ None ↦ [] | Some m ↦ named n m ∷ [] ]) ≡ true
  one_made n None h = refl
  one_made n (Some m) h = both_true (is_made m) true (h m refl) refl

  accessible_made : (ns : List Name) → all_meant is_made (accessible_names ns) ≡ true
  accessible_made [] = refl
  accessible_made (n ∷ ns) = meant_both is_made (accessible_name n.text) (accessible_names ns)
      (one_made n.text (denoted_in module_names n.text) (λ m e. meant_in is_made module_names n.text m module_made e)) (accessible_made ns)

  only_made : (o : Option (List Name)) → all_meant is_made (elim o [ None ↦ module_names | Some ns ↦ accessible_names ns ]) ≡ true
  only_made None = module_made
  only_made (Some ns) = accessible_made ns

  cond_made : (b : Bool) (xs : List Named) → all_meant is_made xs ≡ true → all_meant is_made (cond b xs []) ≡ true
  cond_made true xs h = h
  cond_made false xs h = refl

  pub uses_made : (xs : List u.Use) → all_meant is_made (accessible_of xs) ≡ true
  uses_made [] = refl
  uses_made (x ∷ xs) = meant_both is_made (accessible_by x) (accessible_of xs)
      (cond_made (is_module x.module_name.text) (elim x.only [ None ↦ module_names | Some ns ↦ accessible_names ns ]) (only_made x.only))
      (uses_made xs)

  -- ---- a scope
  pub record IsMadeScope (s : Scope) : Type 0 where
    pub own : all_meant is_made s.own ≡ true
    pub host : all_meant is_made s.host ≡ true
    pub procedures : all_meant is_made s.procedures ≡ true
    pub accessible : all_meant is_made s.accessible ≡ true

  else_cases : {T A : Type 0} (a b : Option T) (m : T) → or_else a b ≡ Some m → (a ≡ Some m → A) → (b ≡ Some m → A) → A
  else_cases None b m e f g = g e
  else_cases (Some x) b m e f g = f e

  unless_pending : {T : Type 0} (b : Bool) (o : Option T) (m : T) → cond b None o ≡ Some m → o ≡ Some m
  unless_pending true o m e = none_some m e
  unless_pending false o m e = e

  denoted_made : (s : Scope) → IsMadeScope s → (n : List ℕ) (m : Meaning) → denotes s n ≡ Some m → is_made m ≡ true
  denoted_made s h n m e =
      else_cases (denoted_in s.own n) (cond (is_among s.pending n) None (denoted_outside s n)) m e
      (λ k. meant_in is_made s.own n m h.own k)
      (λ k. else_cases (denoted_in s.host n) (or_else (denoted_in s.procedures n)
      (or_else (denoted_in s.accessible n) (denoted_in intrinsic_procedures n))) m
      (unless_pending (is_among s.pending n) (denoted_outside s n) m k)
      (λ i. meant_in is_made s.host n m h.host i)
      (λ i. else_cases (denoted_in s.procedures n) (or_else (denoted_in s.accessible n) (denoted_in intrinsic_procedures n)) m i
      (λ j. meant_in is_made s.procedures n m h.procedures j)
      (λ j. else_cases (denoted_in s.accessible n) (denoted_in intrinsic_procedures n) m j
      (λ l. meant_in is_made s.accessible n m h.accessible l)
      (λ l. meant_in is_made intrinsic_procedures n m refl l))))

  in_made : (b : Bool) (o : Object) → not b || is_in o ≡ true → b ≡ true → IsMade f o
  in_made b (objects.Local l) h e = tt
  in_made b (objects.Coarray n) h e = either b (f n) h e
  in_made b (objects.Constant n) h e = tt

  pub scope_made : (s : Scope) → IsMadeScope s → AreMade f s
  scope_made s h n x e k = in_made x.is_allocatable x.object (denoted_made s h n (Names.variable x) e) k

-- ---- the main program's, over coarrays that the program declares
module _ (coarrays : List Declared) (ws : List Variable) where
  abbrev pub is_one : ℕ → Bool
  is_one c = is_allocatable (slice_get coarrays c)

  abbrev pub Follows : ℕ → ℕ → List Symbol → Type 0
  Follows k a xs = (j : ℕ) → slice_get (map first_cells coarrays) (k + j) ≡ slice_get
      (map own_cells (map (own_in ws) (coarray_numbers a xs))) j

  -- the coarray of a variable, where it is one
  here_made : (x : Symbol) (k a : ℕ) (v : Variable) → is_few x ≡ true → slice_get ws a ≡ Some v → (variable_of x).meaning ≡ Some v
      → slice_get (map first_cells coarrays) (k + 0) ≡ Some (own_cells (own_in ws a)) → x.is_allocatable ≡ true → is_one k ≡ true
  here_made x k a v few there made e g =
      found_allocatable coarrays k (ap (slice_get (map first_cells coarrays)) (let z : k ≡ k + 0 = omega arith in z) ∙ e ∙ ap (λ o. Some o)
      (unowned ws a v x there (shape_of x v made) few g))

  later : (k a : ℕ) (xs : List Symbol) → ((j : ℕ)
      → slice_get (map first_cells coarrays) (k + j) ≡ slice_get (map own_cells (map (own_in ws) (a ∷ coarray_numbers (a + 1) xs))) j)
      → Follows (suc k) (a + 1) xs
  later k a xs h j = ap (slice_get (map first_cells coarrays)) (let e : suc k + j ≡ k + suc j = omega arith in e) ∙ h (suc j)

  abbrev AllMade : List Symbol → Type 0
  AllMade [] = Unit {0}
  AllMade (x ∷ xs) = (is_made is_one (Names.variable x) ≡ true) × AllMade xs

  symbols_made : (xs : List Symbol) (k a : ℕ) → AreCounted k xs → AreFew xs → AreAt ws a xs → Follows k a xs → AllMade xs
  symbols_made [] k a counted few at follows = tt
  symbols_made (x ∷ xs) k a counted few at follows = by (nat_eq x.corank 0) counted.0 counted.1 follows
      (λ i c h. symbols_made xs i (a + 1) c few.1 at.1 h)
    where
      by : (b : Bool) → IsCounted b k x.object → AreCounted (cond b k (suc k)) xs
          → ((j : ℕ) → slice_get (map first_cells coarrays) (k + j) ≡ slice_get
          (map own_cells (map (own_in ws) (cond b (coarray_numbers (a + 1) xs) (a ∷ coarray_numbers (a + 1) xs)))) j)
          → ((i : ℕ) → AreCounted i xs → Follows i (a + 1) xs → AllMade xs) → AllMade (x ∷ xs)
      by true c rest h more = (local_made is_one x.is_allocatable x.object k c, more k rest h)
      by false c rest h more = (
        coarray_made is_one x.is_allocatable x.object k c (here_made x k a at.0.0 few.0 at.0.1 at.0.2 (h 0)),
        more
            (suc k) rest (later k a xs h),
      )

  step : (m : Meaning) (ns : List Named) → (AllMade (variables_of ns) → all_meant (is_made is_one) ns ≡ true)
      → AllMade (elim m [ Names.variable y ↦ y ∷ variables_of ns | z ↦ variables_of ns ])
      → (is_made is_one m && all_meant (is_made is_one) ns) ≡ true
  step (Names.variable x) ns more h = both_true (is_made is_one (Names.variable x)) (all_meant (is_made is_one) ns) h.0 (more h.1)
  step m ns more h = more h

  all_names : (ns : List Named) → AllMade (variables_of ns) → all_meant (is_made is_one) ns ≡ true
  all_names [] h = refl
  all_names (x ∷ ns) h = step x.meaning ns (all_names ns) h

  pub names_made : (ns : List Named) → AreCounted 0 (variables_of ns) → AreFew (variables_of ns) → AreAt ws 0 (variables_of ns)
      → Follows 0 0 (variables_of ns) → all_meant (is_made is_one) ns ≡ true
  names_made ns counted few at follows = all_names ns (symbols_made (variables_of ns) 0 0 counted few at follows)

  -- ---- what END TEAM deallocates
  allocatable_at : (vs : List Variable) (a : ℕ) (v : Variable) → slice_get vs a ≡ Some v → is_allocatable_variable vs a ≡ true
      → v.is_allocatable ≡ true
  allocatable_at [] a v e h = no h
  allocatable_at (w ∷ vs) zero v e h = subst (λ z. z.is_allocatable ≡ true) (some_same w v e) h
  allocatable_at (w ∷ vs) (suc a) v e h = allocatable_at vs a v e h

  abbrev Ended : ℕ → Type 0
  Ended c = is_one c ≡ true

  pub all_ended : (xs : List Symbol) (k a : ℕ) → AreFew xs → AreAt ws a xs → Follows k a xs → AreEnded Ended ws (coarray_numbers a xs) k
  all_ended [] k a few at follows = tt
  all_ended (x ∷ xs) k a few at follows = by (nat_eq x.corank 0) follows (λ i h. all_ended xs i (a + 1) few.1 at.1 h)
    where
      by : (b : Bool) → ((j : ℕ) → slice_get (map first_cells coarrays) (k + j) ≡ slice_get
          (map own_cells (map (own_in ws) (cond b (coarray_numbers (a + 1) xs) (a ∷ coarray_numbers (a + 1) xs)))) j)
          → ((i : ℕ) → Follows i (a + 1) xs → AreEnded Ended ws (coarray_numbers (a + 1) xs) i)
          → AreEnded Ended ws (cond b (coarray_numbers (a + 1) xs) (a ∷ coarray_numbers (a + 1) xs)) k
      by true h more = more k h
      by false h more = (
        λ e. here_made x k a at.0.0 few.0 at.0.1 at.0.2 (h 0)
            (sym (shape_of x at.0.0 at.0.2).1 ∙ allocatable_at ws a at.0.0 at.0.1 e),
        more (suc k) (later k a xs h),
      )
