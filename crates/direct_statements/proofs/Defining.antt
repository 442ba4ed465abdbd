-- The elements of a part of a local array get a value, and a scalar does.
use Rattle.std.proofs.Common.{arith, ◌≡◌, refl, ap, sym, subst, ◌∙◌, ℕ, zero, suc, ◌+◌, ◌*◌, ◌≤◌, ℤ, ◌+ℤ◌, cond, List, [], ◌∷◌, length, map, replicate, Option, None, Some, length-append}
use Rattle.caf_base.specs.Spans.{row_of, rows_of, offsets_from}
use Rattle.walk_theory.specs.Syntax.{end_parts}
use Rattle.walk_theory.specs.Language.{goes_to, faults as faulting}
use Rattle.image_acts.specs.Faults.{shape_fault}
use Rattle.image_acts.specs.Acts as a
use Rattle.image_acts.specs.Acts.{Act, Scope, here, host, variable, bounded}
use Rattle.image_acts.specs.Core.{Core, Array, Frame, Local, with_values, with_array}
use Rattle.image_acts.specs.Frames as frames
use Rattle.image_acts.specs.Places.{Place, place_numbers, extents_of, offsets, with_elements_at, product}
use Rattle.image_acts.specs.Taking.{Acted, put_down as put_numbers}
use Rattle.image_acts.specs.Operate.Variables.{allocated as allocated_act, elements_there}
use Rattle.image_acts.specs.Operate.Bounds.{same_extents}
use Rattle.image_acts.specs.Meaning.{operate, settled}
use Rattle.tree_meaning.specs.Sequences.{◌▸◌, doing}
use Rattle.tree_meaning.specs.Assignments.{agreeing, putting}
use Rattle.direct_meaning.specs.States as states
use Rattle.direct_meaning.specs.States.{State, state_of, with_state, scalar_in, with_scalar, array_in}
use Rattle.direct_meaning.specs.Outcomes.{Outcome, done, and_then, Does, giving, ◌▹◌, of_some, or_fault, changing}
use Rattle.direct_meaning.specs.Told.{of_effect, told}
use Rattle.direct_meaning.specs.Values.{number, array, set_elements, set_scalar}
use Rattle.direct_meaning.specs.Statements.{defined}
use Rattle.direct_agreement.proofs.Agreement.{Kept, Comes, act_first}
use Rattle.direct_agreement.proofs.Arrays.{there_then, same_array}
use Rattle.direct_agreement.proofs.Scalars.{Keeps}
use Rattle.direct_agreement.proofs.Sections.{taken_back, place_back}
use Rattle.direct_access.proofs.Owners.{test_then, rank_size}
use Rattle.direct_statements.specs.Laws.{put_nothing}
use Rattle.direct_statements.proofs.Conversions.{over_number, over_array}

-- a place has as many offsets as cells
row_length : (n : ℕ) (s o : ℤ) → length (row_of n s o) ≡ n
row_length zero s o = refl
row_length (suc n) s o = ap suc (row_length n s (o +ℤ s))

times_more : (n k : ℕ) → n + n * k ≡ n * suc k
times_more n k = grind arith

rows_length : (n : ℕ) (s : ℤ) (os : List ℤ) → length (rows_of n s os) ≡ n * length os
rows_length n s [] = grind arith
rows_length n s (o ∷ os) = length-append (row_of n s o) (rows_of n s os) ∙ ap (λ k. k + length (rows_of n s os)) (row_length n s o) ∙ ap
    (λ k. n + k) (rows_length n s os) ∙ times_more n (length os)

pub offsets_length : (start : ℤ) (ds : List (ℕ × ℤ)) → length (offsets_from start ds) ≡ product (map (λ d. d.0) ds)
offsets_length start [] = refl
offsets_length start (d ∷ ds) = rows_length d.0 d.1 (offsets_from start ds) ∙ ap (λ k. d.0 * k) (offsets_length start ds)

-- a scalar and an array are set, and no cell more is in use
host_stored : (gs : List Frame) (x : ℕ) (v : ℤ) (z : State) (c : Core)
    → (frames.with_cell host x v (with_state (record z { callers = gs }) c) ≡ with_state (with_scalar host x v (record z { callers = gs }))
    c) × (z.used ≡ (with_scalar host x v (record z { callers = gs })).used)
host_stored [] x v z c = (refl, refl)
host_stored (g ∷ gs) x v z c = (refl, refl)

pub stored : (s : Scope) (x : ℕ) (v : ℤ) (z : State) (c : Core)
    → (frames.with_cell s x v (with_state z c) ≡ with_state (with_scalar s x v z) c) × (z.used ≡ (with_scalar s x v z).used)
stored here x v z c = (refl, refl)
stored host x v z c = host_stored z.callers x v z c

host_put : (gs : List Frame) (x : ℕ) (w : Local) (z : State) (c : Core)
    → (frames.with_array_in host x (Some w) (with_state (record z { callers = gs }) c) ≡ with_state
    (states.with_array host x w (record z { callers = gs })) c) ×
    (z.used ≡ (states.with_array host x w (record z { callers = gs })).used)
host_put [] x w z c = (refl, refl)
host_put (g ∷ gs) x w z c = (refl, refl)

put_there : (s : Scope) (x : ℕ) (w : Local) (z : State) (c : Core)
    → (frames.with_array_in s x (Some w) (with_state z c) ≡ with_state (states.with_array s x w z) c) ×
    (z.used ≡ (states.with_array s x w z).used)
put_there here x w z c = (refl, refl)
put_there host x w z c = host_put z.callers x w z c

some_stored : (s : Scope) (x : ℕ) (v : ℤ) (q : Option ℤ) (l : ℕ) (z : State) (c : Core) (n : ℕ) → Kept n z
    → Comes (put_nothing c) (Keeps n) ((of_some q ▹ (λ w. changing (with_scalar s x v))) l z)
    (told (doing (variable (a.store s x) ∷ [])) l (over_number c v [] z))
some_stored s x v None l z c n k = tt
some_stored s x v (Some w) l z c n k = let p = stored s x v z c in (ap (λ d. done d) p.0, subst (λ m. (n ≤ m) × (m ≤ 65536)) p.1 k)

pub scalar_stored : (s : Scope) (x : ℕ) (v : ℤ) (l : ℕ) (z : State) (c : Core) (n : ℕ) → Kept n z
    → Comes (put_nothing c) (Keeps n) (set_scalar s x v l z) (told (doing (variable (a.store s x) ∷ [])) l (over_number c v [] z))
scalar_stored s x v l z c n k = some_stored s x v (scalar_in s x z) l z c n k

-- elements get other values
abbrev pub with_elements : Local → Place → List ℤ → Local
with_elements w p ws = record w { elements = with_elements_at (offsets p) ws w.elements }

abbrev pub put_at : Scope → ℕ → Place → List ℤ → Core → Acted
put_at s x p ws d = allocated_act (frames.array_in s x d)
    (λ w. elim (elements_there p w) [
      | None ↦ faulting shape_fault
      | Some vs ↦ goes_to
          (frames.with_array_in s x (Some (with_elements w p ws)) d)
    ])

some_put : (s : Scope) (x : ℕ) (p : Place) (ws : List ℤ) (w : Local) (q : Option (List ℤ)) (X : Act) (l : ℕ) (c d : Core) (n : ℕ)
    → Kept n (state_of d)
    → Comes (put_nothing c) (Keeps n) ((or_fault shape_fault q ▹ (λ vs. changing (states.with_array s x (with_elements w p ws)))) l
    (state_of d))
    (and_then (of_effect l d (settled X (elim q [
      | None ↦ faulting shape_fault
      | Some vs ↦ goes_to
          (frames.with_array_in s x (Some (with_elements w p ws)) (with_state (state_of d) c))
    ]))) (told end_parts l))
some_put s x p ws w None X l c d n k = refl
some_put s x p ws w (Some vs) X l c d n k =
    let t = put_there s x (with_elements w p ws) (state_of d) c in
    (ap (λ o. done o) t.0, subst (λ m. (n ≤ m) × (m ≤ 65536)) t.1 k)

pub elements_put : (s : Scope) (x : ℕ) (p : Place) (ws : List ℤ) (X : Act) (l : ℕ) (c d : Core) (n : ℕ) → Kept n (state_of d)
    → Comes (put_nothing c) (Keeps n) (set_elements s x p ws l (state_of d))
    (and_then (of_effect l d (settled X (put_at s x p ws (with_state (state_of d) c)))) (told end_parts l))
elements_put s x p ws X l c d n k =
    let F : Local → Does (Unit {0}) = λ w. or_fault shape_fault (elements_there p w) ▹
    (λ vs. changing (states.with_array s x (with_elements w p ws))) in
    let G : Local → Acted = λ w. elim (elements_there p w) [
      | None ↦ faulting shape_fault
      | Some vs ↦ goes_to
          (frames.with_array_in s x (Some (with_elements w p ws)) (with_state (state_of d) c))
    ] in
    subst (λ o. Comes (put_nothing c) (Keeps n) (set_elements s x p ws l (state_of d))
    (and_then (of_effect l d (settled X (allocated_act o G))) (told end_parts l))) (sym (same_array s x (state_of d) c))
    (there_then (put_nothing c) (Keeps n) (array_in s x (state_of d)) F G X (told end_parts l) l d
    (λ w e. some_put s x p ws w (elements_there p w) X l c d n k))

-- the acts, where a place is on top
pub put_acts : (s : Scope) (x rank : ℕ) (p : Place) (v : ℤ) (us : List ℤ) (d : Core) → length p.dims ≡ rank
    → operate (variable (a.put s x rank)) (with_values d (put_numbers (place_numbers p) (v ∷ us))) ≡ put_at s x p
    (replicate (length (offsets p)) v) (with_values d us)
put_acts here x rank p v us d h =
    rw (rank_size rank p h) (rw (taken_back (place_numbers p) (v ∷ us))
    (ap (λ q. put_at here x q (replicate (length (offsets q)) v) (with_values d us)) (place_back p)))
put_acts host x rank p v us d h =
    rw (rank_size rank p h) (rw (taken_back (place_numbers p) (v ∷ us))
    (ap (λ q. put_at host x q (replicate (length (offsets q)) v) (with_values d us)) (place_back p)))

put_array_acts : (s : Scope) (x rank : ℕ) (p : Place) (w : Array) (us : List ℤ) (d : Core) → length p.dims ≡ rank
    → operate (variable (a.put_array s x rank)) (with_array w (with_values d (put_numbers (place_numbers p) us))) ≡ put_at s x p w.elements
    (with_values d us)
put_array_acts here x rank p w us d h = rw (rank_size rank p h)
    (rw (taken_back (place_numbers p) us) (ap (λ q. put_at here x q w.elements (with_values d us)) (place_back p)))
put_array_acts host x rank p w us d h = rw (rank_size rank p h)
    (rw (taken_back (place_numbers p) us) (ap (λ q. put_at host x q w.elements (with_values d us)) (place_back p)))

shape_acts : (rank : ℕ) (p : Place) (w : Array) (us : List ℤ) (d : Core) → length p.dims ≡ rank
    → operate (bounded (a.same_shape 0 rank)) (with_array w (with_values d (put_numbers (place_numbers p) us)))
    ≡ cond (same_extents w.extents (extents_of p)) (goes_to (with_array w (with_values d (put_numbers (place_numbers p) us))))
    (faulting shape_fault)
shape_acts rank p w us d h =
    rw (rank_size rank p h) (rw (taken_back (place_numbers p) us)
    (ap (λ q. cond (same_extents w.extents (extents_of q)) (goes_to (with_array w (with_values d (put_numbers (place_numbers p) us))))
    (faulting shape_fault)) (place_back p)))

-- a scalar goes into each element of a part
pub number_defines : (s : Scope) (x rank : ℕ) (v : ℤ) (p : Place) (l : ℕ) (z : State) (c : Core) (n : ℕ) → Kept n z → length p.dims ≡ rank
    → Comes (put_nothing c) (Keeps n) (defined s x (Some p) (number v) l z)
    (told (agreeing 0 0 rank ▸ putting 0 s x rank) l (over_number c v (place_numbers p) z))
number_defines s x rank v p l z c n k h =
    let X : Act = variable (a.put s x rank) in
    let D : Core = over_number c v (place_numbers p) z in
    subst (λ m. Comes (put_nothing c) (Keeps n) (set_elements s x p (replicate m v) l z) (told (doing (X ∷ [])) l D))
    (offsets_length p.start p.dims)
    (subst (λ u. Comes (put_nothing c) (Keeps n) (set_elements s x p (replicate (length (offsets p)) v) l z)
    (and_then (of_effect l D (settled X u)) (told end_parts l))) (sym (put_acts s x rank p v c.values (with_state z c) h))
    (elements_put s x p (replicate (length (offsets p)) v) X l c D n k))

-- an array has to have the shape
pub array_defines : (s : Scope) (x rank : ℕ) (w : Array) (r : ℕ) (p : Place) (l : ℕ) (z : State) (c : Core) (n : ℕ) → Kept n z
    → length p.dims ≡ rank
    → Comes (put_nothing c) (Keeps n) (defined s x (Some p) (array w) l z)
    (told (agreeing (suc r) 0 rank ▸ putting (suc r) s x rank) l (over_array c w (place_numbers p) z))
array_defines s x rank w r p l z c n k h =
    let X : Act = variable (a.put_array s x rank) in
    let Y : Act = bounded (a.same_shape 0 rank) in
    let D : Core = over_array c w (place_numbers p) z in
    let K : Core → Outcome Core = told (doing (X ∷ [])) l in
    act_first (put_nothing c) (Keeps n) (defined s x (Some p) (array w) l z) Y l D K
    (subst (λ u. Comes (put_nothing c) (Keeps n) (defined s x (Some p) (array w) l z) (and_then (of_effect l D (settled Y u)) K))
    (sym (shape_acts rank p w c.values (with_state z c) h))
    (test_then (put_nothing c) (Keeps n) (same_extents w.extents (extents_of p)) (giving w.elements) (λ vs. set_elements s x p vs)
    shape_fault l D Y (goes_to D) K
    (subst (λ u. Comes (put_nothing c) (Keeps n) (set_elements s x p w.elements l z)
    (and_then (of_effect l D (settled X u)) (told end_parts l))) (sym (put_array_acts s x rank p w c.values (with_state z c) h))
    (elements_put s x p w.elements X l c D n k))))
