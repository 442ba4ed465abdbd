-- The acts of an assignment define its variable.
use Rattle.std.proofs.Common.{arith, ◌≡◌, refl, ap, sym, subst, ◌∙◌, ℕ, zero, suc, ◌+◌, ◌≤◌, ◌==◌, ℤ, Bool, true, false, cond, List, [], ◌∷◌, length, Option, None, Some, is_some}
use Rattle.caf_base.specs.declared.value.Kind.{Kind}
use Rattle.caf_base.specs.Arithmetic.{truth}
use Rattle.walk_theory.specs.Syntax.{Parts, end_parts}
use Rattle.walk_theory.specs.Language.{goes_to}
use Rattle.checked_tree.specs.declared.data.Object.TheVariants as objects
use Rattle.checked_tree.specs.Expressions as t
use Rattle.image_acts.specs.Acts as a
use Rattle.image_acts.specs.Acts.{Act, Scope, here, host, bounded, variable}
use Rattle.image_acts.specs.Core.{Core, Array, Local, pushed, with_values, with_array}
use Rattle.image_acts.specs.Places.{Place, Subscript, digits, numbers_of_form, place_within, place_numbers, place_size}
use Rattle.image_acts.specs.Taking.{Acted, found_in, put_down as put_numbers}
use Rattle.image_acts.specs.Operate.Variables.{allocated as allocated_act}
use Rattle.image_acts.specs.Meaning.{operate, settled}
use Rattle.tree_meaning.specs.Environment.{Environment, scope_of, kind_of}
use Rattle.tree_meaning.specs.Sequences.{◌▸◌, doing, choosing}
use Rattle.tree_meaning.specs.Expressions as parts
use Rattle.tree_meaning.specs.Expressions.{form_of, is_scalar, expression}
use Rattle.tree_meaning.specs.Assignments as acts
use Rattle.tree_meaning.specs.Assignments.{narrows, kind_in, rank_in, fitting, fitting_section, sectioning, agreeing, putting}
use Rattle.direct_meaning.specs.States.{State, state_of, with_state, array_in}
use Rattle.direct_meaning.specs.Outcomes.{Outcome, done, and_then, Does, giving, ◌▹◌}
use Rattle.direct_meaning.specs.Told.{of_effect, told}
use Rattle.direct_meaning.specs.Values.{Value, number, array, part_of, set_scalar}
use Rattle.direct_meaning.specs.Expressions.{Passed, value, all_of}
use Rattle.direct_meaning.specs.Statements.{converted, place_of_array, place_there, defined, of_rank, assigned, assignment}
use Rattle.direct_agreement.specs.Agreeing.{put_down, HasRoom}
use Rattle.direct_agreement.specs.Stacked.{numbers_of, form_in}
use Rattle.direct_agreement.proofs.Agreement.{Kept, Leaves, Comes, comes_agrees, comes_then, apart, said_apart, act_first, kept_more, room_beside, room_behind}
use Rattle.direct_agreement.proofs.Arrays.{section_acts, part_comes, same_array, put_subscripts}
use Rattle.direct_agreement.proofs.Inquiries.{fewer}
use Rattle.direct_agreement.proofs.Scalars.{Keeps}
use Rattle.direct_agreement.proofs.Sections.{kept_in, count_back}
use Rattle.direct_laws.specs.Laws.{HasDimensions, SubscriptsWithin}
use Rattle.direct_access.proofs.Owners.{rank_size, some_more}
use Rattle.direct_laws.proofs.Subscripts.{Shaped, all_comes}
use Rattle.direct_laws.proofs.Values.{value_comes, subscripts_come}
use Rattle.direct_statements.specs.Laws.{put_nothing, IsAssigned, AssignmentLaw}
use Rattle.direct_statements.proofs.Coarrays.{number_tail, array_tail, coarray_assigned}
use Rattle.direct_statements.proofs.Conversions.{over, number_fits, array_fits}
use Rattle.direct_statements.proofs.Defining.{scalar_stored, number_defines, array_defines}

-- a value that is put down as d over c, of rank 0 or more: its conversion, and its definition of a part
abbrev Fitted : Core → Core → ℕ → Value → ℕ → Kind → Kind → Type 0
Fitted c d n x r from k = (ns : List ℤ) (m : Does (Unit {0})) (l : ℕ) (z : State) (q : Core → Outcome Core)
    → Comes (put_nothing c) (Keeps n) (m l z) (q (over d ns z))
    → Comes (put_nothing c) (Keeps n) ((converted from k x ▹ (λ u. m)) l z)
    (and_then (told (fitting from k r (length ns)) l (over d ns z)) q)

abbrev Defines : Core → Core → ℕ → Value → ℕ → Scope → ℕ → ℕ → Type 0
Defines c d n x r s v rank = (p : Place) (l : ℕ) (z : State) → Kept n z → length p.dims ≡ rank
    → Comes (put_nothing c) (Keeps n) (defined s v (Some p) x l z)
    (told (agreeing r 0 rank ▸ putting r s v rank) l (over d (place_numbers p) z))

-- what doesn't narrow has no test
no_test : (from k : Kind) (r m l : ℕ) (d : Core) → narrows from k ≡ false → told (fitting from k r m) l d ≡ done d
no_test from k zero m l d e = rw e refl
no_test from k (suc r) m l d e = rw e refl

module _ (c d : Core) (n : ℕ) (x : Value) (r : ℕ) (from k : Kind) (s : Scope) (v rank : ℕ) (fits : Fitted c d n x r from k)
    (defines : Defines c d n x r s v rank) where
  abbrev Done : Does (Unit {0}) → ℕ → State → Outcome Core → Type 0
  Done m l z o = Comes (put_nothing c) (Keeps n) (m l z) o

  abbrev last : Parts Act
  last = agreeing r 0 rank ▸ putting r s v rank

  -- the value is converted, and goes where its place was found, or nowhere
  abbrev goes : Option Place → Does (Unit {0})
  goes p = converted from k x ▹ (λ u. defined s v p x)

  abbrev section : ℕ → Act
  section form = bounded (a.section s v form)

  abbrev found_or_not : List Subscript → State → Local → Acted
  found_or_not xs z w = found_in (place_within w.bounds xs) (λ p. goes_to (over d (place_numbers p) z))

  -- the section is looked for in the array
  looked_for : (xs : List Subscript) (l : ℕ) (z : State) (q : Core → Outcome Core) (m : Outcome (Unit {0} × State)) → length xs ≤ 3
      → Comes (put_nothing c) (Keeps n) m (and_then
      (of_effect l (over d (numbers_of xs) z) (settled (section (form_in xs)) (allocated_act (array_in s v z) (found_or_not xs z)))) q)
      → Comes (put_nothing c) (Keeps n) m (and_then (told (sectioning s v (form_in xs)) l (over d (numbers_of xs) z)) q)
  looked_for xs l z q m h g =
      let D : Core = over d (numbers_of xs) z in
      act_first (put_nothing c) (Keeps n) m (section (form_in xs)) l D q
      (subst (λ u. Comes (put_nothing c) (Keeps n) m (and_then (of_effect l D (settled (section (form_in xs)) u)) q))
      (sym (section_acts s v xs d.values (with_state z d) h))
      (subst (λ o. Comes (put_nothing c) (Keeps n) m
      (and_then (of_effect l D (settled (section (form_in xs)) (allocated_act o (found_or_not xs z)))) q)) (sym (same_array s v z d))
      g))

  -- where it is there
  in_array : (w : Local) (xs : List Subscript) (l : ℕ) (z : State) (q : Core → Outcome Core) → kept_in xs ≡ rank
      → ((p : Place) → length p.dims ≡ rank → Done (goes (Some p)) l z (q (over d (place_numbers p) z)))
      → Comes (put_nothing c) (Keeps n) ((place_of_array (Some w) xs ▹ goes) l z)
      (and_then (of_effect l (over d (numbers_of xs) z) (settled (section (form_in xs)) (found_or_not xs z w))) q)
  in_array w xs l z q j more =
      said_apart (put_nothing c) (Keeps n) (part_of w.bounds xs l z) (λ p. giving (Some p.0) l p.1) (λ p. goes p.0 l p.1)
      (and_then (of_effect l (over d (numbers_of xs) z) (settled (section (form_in xs)) (found_or_not xs z w))) q)
      (part_comes (put_nothing c) (Keeps n) w.bounds xs (λ p. goes (Some p)) (λ p. over d (place_numbers p) z) (section (form_in xs)) q l
      (over d (numbers_of xs) z) (λ p i. more p (i ∙ j)))

  -- without a test of the value
  plain_by : (o : Option Local) (xs : List Subscript) (l : ℕ) (z : State) → Kept n z → length xs ≤ 3 → kept_in xs ≡ rank
      → array_in s v z ≡ o → narrows from k ≡ false
      → Done (place_there s v xs ▹ goes) l z (and_then
      (of_effect l (over d (numbers_of xs) z) (settled (section (form_in xs)) (allocated_act o (found_or_not xs z)))) (told last l))
  plain_by None xs l z b h j i e = rw i (rw e refl)
  plain_by (Some w) xs l z b h j i e =
      subst (λ o. Comes (put_nothing c) (Keeps n) ((place_of_array o xs ▹ goes) l z)
      (and_then (of_effect l (over d (numbers_of xs) z) (settled (section (form_in xs)) (found_or_not xs z w))) (told last l))) (sym i)
      (in_array w xs l z (told last l) j
      (λ p g. subst (λ o. Comes (put_nothing c) (Keeps n) (goes (Some p) l z) (and_then o (told last l)))
      (no_test from k r (length (place_numbers p)) l (over d (place_numbers p) z) e)
      (fits (place_numbers p) (defined s v (Some p) x) l z (told last l) (defines p l z b g))))

  -- with a test: behind the bounds of an array that is there, before the fault of one that isn't
  abbrev tested_parts : ℕ → Parts Act
  tested_parts form = choosing (sectioning s v form ▸ fitting from k r (place_size rank))
      (fitting from k r (numbers_of_form (digits form)) ▸ sectioning s v form)

  narrow_by : (o : Option Local) (xs : List Subscript) (l : ℕ) (z : State) → Kept n z → length xs ≤ 3 → kept_in xs ≡ rank
      → array_in s v z ≡ o
      → Done (place_there s v xs ▹ goes) l z (and_then
      (told (tested_parts (form_in xs)) l (pushed (truth (is_some o)) (over d (numbers_of xs) z))) (told last l))
  narrow_by None xs l z b h j i =
      let D : Core = over d (numbers_of xs) z in
      let S : Parts Act = sectioning s v (form_in xs) in
      let K : Core → Outcome Core = told last l in
      let L : Option Local → Outcome (Unit {0} × State) = λ o. (place_of_array o xs ▹ goes) l z in
      apart (put_nothing c) (Keeps n) (L (array_in s v z))
      (and_then (told (fitting from k r (numbers_of_form (digits (form_in xs)))) l D) (told S l)) (told end_parts l) K
      (apart (put_nothing c) (Keeps n) (L (array_in s v z)) (told (fitting from k r (numbers_of_form (digits (form_in xs)))) l D) (told S l)
      K
      (subst (λ o. Comes (put_nothing c) (Keeps n) (L o)
      (and_then (told (fitting from k r (numbers_of_form (digits (form_in xs)))) l D) (λ f. and_then (told S l f) K))) (sym i)
      (subst (λ m. Comes (put_nothing c) (Keeps n) (L None) (and_then (told (fitting from k r m) l D) (λ f. and_then (told S l f) K)))
      (sym (count_back xs h))
      (fits (numbers_of xs) (defined s v None x) l z (λ f. and_then (told S l f) K)
      (looked_for xs l z K (defined s v None x l z) h
      (subst (λ o. Comes (put_nothing c) (Keeps n) (defined s v None x l z)
      (and_then (of_effect l D (settled (section (form_in xs)) (allocated_act o (found_or_not xs z)))) K)) (sym i) refl))))))
  narrow_by (Some w) xs l z b h j i =
      let D : Core = over d (numbers_of xs) z in
      let S : Parts Act = sectioning s v (form_in xs) in
      let T : Parts Act = fitting from k r (place_size rank) in
      let K : Core → Outcome Core = told last l in
      let L : Outcome (Unit {0} × State) = (place_there s v xs ▹ goes) l z in
      apart (put_nothing c) (Keeps n) L (and_then (told S l D) (told T l)) (told end_parts l) K
      (apart (put_nothing c) (Keeps n) L (told S l D) (told T l) K
      (looked_for xs l z (λ f. and_then (told T l f) K) L h
      (subst (λ o. Comes (put_nothing c) (Keeps n) ((place_of_array o xs ▹ goes) l z)
      (and_then (of_effect l D (settled (section (form_in xs)) (allocated_act o (found_or_not xs z)))) (λ f. and_then (told T l f) K)))
      (sym i)
      (in_array w xs l z (λ f. and_then (told T l f) K) j
      (λ p g. subst (λ m. Done (goes (Some p)) l z (and_then (told (fitting from k r m) l (over d (place_numbers p) z)) K))
      (sym (rank_size rank p g))
      (fits (place_numbers p) (defined s v (Some p) x) l z K (defines p l z b g)))))))

  there_acts : (l : ℕ) (z : State) (ns : List ℤ)
      → operate (bounded (a.is_there s v)) (over d ns z) ≡ goes_to (pushed (truth (is_some (array_in s v z))) (over d ns z))
  there_acts l z ns = ap (λ o. goes_to (pushed (truth (is_some o)) (over d ns z)))
      (same_array s v z (with_values d (put_numbers ns d.values)))

  section_by : (b : Bool) (xs : List Subscript) (l : ℕ) (z : State) → Kept n z → length xs ≤ 3 → kept_in xs ≡ rank → narrows from k ≡ b
      → Done (place_there s v xs ▹ goes) l z
      (and_then (told (cond b (doing (bounded (a.is_there s v) ∷ []) ▸ tested_parts (form_in xs)) (sectioning s v (form_in xs))) l
      (over d (numbers_of xs) z)) (told last l))
  section_by false xs l z b h j e = looked_for xs l z (told last l) ((place_there s v xs ▹ goes) l z) h
      (plain_by (array_in s v z) xs l z b h j refl e)
  section_by true xs l z b h j e =
      let D : Core = over d (numbers_of xs) z in
      let X : Act = bounded (a.is_there s v) in
      let L : Outcome (Unit {0} × State) = (place_there s v xs ▹ goes) l z in
      apart (put_nothing c) (Keeps n) L (told (doing (X ∷ [])) l D) (told (tested_parts (form_in xs)) l) (told last l)
      (act_first (put_nothing c) (Keeps n) L X l D (λ f. and_then (told (tested_parts (form_in xs)) l f) (told last l))
      (subst (λ u. Comes (put_nothing c) (Keeps n) L
      (and_then (of_effect l D (settled X u)) (λ f. and_then (told (tested_parts (form_in xs)) l f) (told last l))))
      (sym (there_acts l z (numbers_of xs)))
      (narrow_by (array_in s v z) xs l z b h j refl)))

  pub part_assigned : (xs : List Subscript) (l : ℕ) (z : State) → Kept n z → length xs ≤ 3 → kept_in xs ≡ rank
      → Done (place_there s v xs ▹ goes) l z (told (fitting_section from k r s v (form_in xs) rank ▸ last) l (over d (numbers_of xs) z))
  part_assigned xs l z b h j = section_by (narrows from k) xs l z b h j refl

-- an array of rank 1 or more is no scalar
not_scalar : (m : ℕ) → (suc m == 0) ≡ false
not_scalar m = some_more (suc m) (suc m == 0) refl (omega arith)

module _ (limit : ℕ) (e : Environment) (calls : ℕ → List Passed → Does Value) where
  -- a part of a local array, whose subscripts come first
  local_part_assigned : (c d : Core) (n m : ℕ) (x : Value) (r : ℕ) (from k : Kind) (s : Scope) (v rank : ℕ) (ss : t.Subscripts) (l : ℕ)
      → Fitted c d n x r from k → Defines c d n x r s v rank
      → HasRoom m d → Kept n (state_of d) → HasDimensions ss rank → SubscriptsWithin m ss
      → Comes (put_nothing c) (Keeps n) ((all_of e calls ss rank ▹
      (λ xs. place_there s v xs ▹ (λ p. converted from k x ▹ (λ u. defined s v p x)))) l (state_of d))
      (told (parts.subscripts e ss ▸ fitting_section from k r s v (form_of ss rank) rank ▸ agreeing r 0 rank ▸ putting r s v rank) l d)
  local_part_assigned c d n m x r from k s v rank ss l fits defines room b h w =
      let F : List Subscript → Does (Unit {0}) = λ xs. place_there s v xs ▹ (λ p. converted from k x ▹ (λ u. defined s v p x)) in
      let K : ℕ → Core → Outcome Core = λ form. told (fitting_section from k r s v form rank ▸ agreeing r 0 rank ▸ putting r s v rank) l in
      comes_then (put_subscripts d) (Shaped d.used ss rank) (put_nothing c) (Keeps n) (all_of e calls ss rank l (state_of d))
      (told (parts.subscripts e ss) l d) (λ q. F q.0 l q.1) (K (form_of ss rank))
      (all_comes e calls ss rank l d h room.0 (subscripts_come e calls m ss l d room w))
      (λ xs y j. subst (λ form. Comes (put_nothing c) (Keeps n) (F xs l y) (K form (put_subscripts d xs y))) j.0
      (part_assigned c d n x r from k s v rank fits defines xs l y (kept_more n (state_of d) y b j.3) j.1 j.2))

  abbrev part_of_local : Scope → ℕ → t.Subscripts → Kind → ℕ → Kind → Value → Does (Unit {0})
  part_of_local s i ss k rank from x = all_of e calls ss rank ▹
      (λ xs. place_there s i xs ▹ (λ p. converted from k x ▹ (λ u. defined s i p x)))

  abbrev part_acts : Scope → ℕ → t.Subscripts → Kind → ℕ → Kind → ℕ → Parts Act
  part_acts s i ss k rank from r = parts.subscripts e ss ▸ fitting_section from k r s i (form_of ss rank) rank ▸ agreeing r 0 rank ▸ putting
      r s i rank

  number_part : (s : Scope) (i : ℕ) (ss : t.Subscripts) (k : Kind) (rank : ℕ) (from : Kind) (v : ℤ) (l : ℕ) (z : State) (c : Core)
      → HasRoom 64 c → Kept c.used z → HasDimensions ss rank → SubscriptsWithin 64 ss
      → Comes (put_nothing c) (Keeps c.used) (part_of_local s i ss k rank from (number v) l z)
      (told (part_acts s i ss k rank from 0) l (pushed v (with_state z c)))
  number_part s i ss k rank from v l z c r b h w =
      local_part_assigned c (pushed v (with_state z c)) c.used 64 (number v) 0 from k s i rank ss l
      (λ ns m j y q g. number_fits (put_nothing c) (Keeps c.used) from k v ns m j y c q g)
      (λ p j y g f. number_defines s i rank v p j y c c.used g f) (room_beside 64 c z r b) b h w

  array_part : (s : Scope) (i : ℕ) (ss : t.Subscripts) (k : Kind) (rank : ℕ) (from : Kind) (x : Array) (m l : ℕ) (z : State) (c : Core)
      → HasRoom 64 c → Kept (c.used + length x.elements) z → HasDimensions ss rank → SubscriptsWithin 64 ss
      → Comes (put_nothing c) (Keeps c.used) (part_of_local s i ss k rank from (array x) l z)
      (told (part_acts s i ss k rank from (suc m)) l (with_array x (with_state z c)))
  array_part s i ss k rank from x m l z c r b h w =
      local_part_assigned c (with_array x (with_state z c)) c.used 64 (array x) (suc m) from k s i rank ss l
      (λ ns f j y q g. array_fits (put_nothing c) (Keeps c.used) from k x m ns (length ns) f j y c q g)
      (λ p j y g f. array_defines s i rank x m p j y c c.used g f) (room_behind 64 c x z r b) (fewer c.used (length x.elements) z b) h w

  -- a scalar variable or a part, by the rank of the left side
  abbrev local_acts : Bool → Scope → ℕ → t.Subscripts → Kind → ℕ → Kind → ℕ → Parts Act
  local_acts b s i ss k rank from r = cond b (fitting from k 0 0 ▸ doing (variable (a.store s i) ∷ [])) (part_acts s i ss k rank from r)

  number_assigned : (d : t.Designator) (k : Kind) (rank : ℕ) (from : Kind) (v : ℤ) (l : ℕ) (z : State) (c : Core) → HasRoom 64 c
      → Kept c.used z → IsAssigned d rank
      → Comes (put_nothing c) (Keeps c.used) (assigned limit e calls d k rank from (number v) l z)
      (told (acts.assigned e d k rank from 0) l (pushed v (with_state z c)))
  number_assigned (t.part (objects.Constant i) ss sel) k rank from v l z c r b h = tt
  number_assigned (t.part (objects.Coarray i) ss sel) k rank from v l z c r b h =
      coarray_assigned limit e calls c (pushed v (with_state z c)) c.used i ss sel rank 0 from k (number v) l
      (λ g t p j m y q f. number_tail c c.used i (is_scalar ss rank) sel rank from k g t v p j m z y q f)
      (room_beside 64 c z r b) b h.0 h.1 h.2
  number_assigned (t.part (objects.Local u) t.no_subscripts sel) k zero from v l z c r b h =
      number_fits (put_nothing c) (Keeps c.used) from k v [] (set_scalar (scope_of u.home) u.variable v) l z c
      (told (doing (variable (a.store (scope_of u.home) u.variable) ∷ [])) l)
      (scalar_stored (scope_of u.home) u.variable v l z c c.used b)
  number_assigned (t.part (objects.Local u) t.no_subscripts sel) k (suc m) from v l z c r b h =
      subst (λ i. Comes (put_nothing c) (Keeps c.used)
      (part_of_local (scope_of u.home) u.variable t.no_subscripts k (suc m) from (number v) l z)
      (told (local_acts i (scope_of u.home) u.variable t.no_subscripts k (suc m) from 0) l (pushed v (with_state z c))))
      (sym (not_scalar m)) (number_part (scope_of u.home) u.variable t.no_subscripts k (suc m) from v l z c r b h.0 h.1)
  number_assigned (t.part (objects.Local u) (t.more_subscripts s ss) sel) k rank from v l z c r b h = number_part (scope_of u.home)
      u.variable (t.more_subscripts s ss) k rank from v l z c r b h.0 h.1

  array_assigned : (d : t.Designator) (k : Kind) (rank : ℕ) (from : Kind) (x : Array) (m l : ℕ) (z : State) (c : Core) → HasRoom 64 c
      → Kept (c.used + length x.elements) z → IsAssigned d rank
      → Comes (put_nothing c) (Keeps c.used) (assigned limit e calls d k rank from (array x) l z)
      (told (acts.assigned e d k rank from (suc m)) l (with_array x (with_state z c)))
  array_assigned (t.part (objects.Constant i) ss sel) k rank from x m l z c r b h = tt
  array_assigned (t.part (objects.Coarray i) ss sel) k rank from x m l z c r b h =
      coarray_assigned limit e calls c (with_array x (with_state z c)) c.used i ss sel rank (suc m) from k (array x) l
      (λ g t p j f y q o. array_tail c c.used i (is_scalar ss rank) sel rank from k g t x m p j f z y q o)
      (room_behind 64 c x z r b) (fewer c.used (length x.elements) z b) h.0 h.1 h.2
  array_assigned (t.part (objects.Local u) t.no_subscripts sel) k zero from x m l z c r b h = tt
  array_assigned (t.part (objects.Local u) t.no_subscripts sel) k (suc j) from x m l z c r b h =
      subst (λ i. Comes (put_nothing c) (Keeps c.used)
      (part_of_local (scope_of u.home) u.variable t.no_subscripts k (suc j) from (array x) l z)
      (told (local_acts i (scope_of u.home) u.variable t.no_subscripts k (suc j) from (suc m)) l (with_array x (with_state z c))))
      (sym (not_scalar j)) (array_part (scope_of u.home) u.variable t.no_subscripts k (suc j) from x m l z c r b h.0 h.1)
  array_assigned (t.part (objects.Local u) (t.more_subscripts s ss) sel) k rank from x m l z c r b h = array_part (scope_of u.home)
      u.variable (t.more_subscripts s ss) k rank from x m l z c r b h.0 h.1

  -- a value of its expression's rank
  by_rank : (d : t.Designator) (k : Kind) (rank : ℕ) (from : Kind) (r : ℕ) (x : Value) (l : ℕ) (z : State) (c : Core) → HasRoom 64 c
      → Leaves c.used x z → IsAssigned d rank
      → Comes (put_nothing c) (Keeps c.used) ((of_rank r x ▹ assigned limit e calls d k rank from) l z)
      (told (acts.assigned e d k rank from r) l (put_down c x z))
  by_rank d k rank from zero (number v) l z c r b h = number_assigned d k rank from v l z c r b h
  by_rank d k rank from zero (array w) l z c r b h = tt
  by_rank d k rank from (suc m) (number v) l z c r b h = tt
  by_rank d k rank from (suc m) (array w) l z c r b h = array_assigned d k rank from w m l z c r b.0 h

pub assignment_law : AssignmentLaw
assignment_law limit e calls d type rank x l c r h w =
    let A : Value → Does (Unit {0}) = assigned limit e calls d (kind_of type) rank (kind_in x) in
    let R : Value → Does Value = of_rank (rank_in x) in
    let K : Core → Outcome Core = told (acts.assigned e d (kind_of type) rank (kind_in x) (rank_in x)) l in
    comes_agrees (put_nothing c) (Keeps c.used) (assignment limit e calls d type rank x l (state_of c))
    (told (acts.assignment e d type rank x) l c)
    (said_apart (put_nothing c) (Keeps c.used) (value e calls x l (state_of c)) (λ p. R p.0 l p.1) (λ p. A p.0 l p.1)
    (told (acts.assignment e d type rank x) l c)
    (comes_then (put_down c) (Leaves c.used) (put_nothing c) (Keeps c.used) (value e calls x l (state_of c)) (told (expression e x) l c)
    (λ p. (R p.0 ▹ A) l p.1) K (value_comes e calls 64 x l c r h)
    (λ y z j. by_rank limit e calls d (kind_of type) rank (kind_in x) (rank_in x) y l z c r j w)))
