-- Variables, arrays and their bounds.
use Rattle.std.proofs.Common.{◌≡◌, ℕ, zero, suc, ◌+◌, cond, List, [], ◌∷◌, ◌++◌, length, refl, ap, sym, ◌∙◌, subst, append_assoc, arith}
use Rattle.std.specs.Prelude.{ℤ, pos, ◌-◌, ◌==◌, not, min, nat_le, replicate, slice_get, Option, None, Some}
use Rattle.std.specs.Ordering.{int_eq}
use Rattle.walk_theory.specs.Language.{goes_to, faults, stuck}
use Rattle.caf_base.specs.declared.value.Kind.TheVariants as kinds
use Rattle.caf_base.specs.Arithmetic.{fits_kind, truth, natural, iterations}
use Rattle.coarray_types.specs.Places.{extent_of}
use Rattle.image_acts.specs.Statuses.{most_cells, most_iterations, most_elements}
use Rattle.image_acts.specs.Faults.{room, shape_fault, zero_step, bounds_fault, overflow}
use Rattle.image_acts.specs.Acts as a
use Rattle.image_acts.specs.Core.{Core, Local, Own, with_values, with_array, pushed, elements_in}
use Rattle.image_acts.specs.Places.{Place, place_in, place_size, extents_of, cells_of, offsets, with_elements_at, digits, numbers_of_form, triplets, subscripts_in, place_within, no_place, place_numbers}
use Rattle.image_acts.specs.Frames.{pairs_in, array_in, with_array_in, with_cell}
use Rattle.image_acts.specs.Owning.{own_in}
use Rattle.image_acts.specs.Taking.{Acted, giving, telling, found_in, unless, put_down, taking_one, taking_array, seeing_array}
use Rattle.image_acts.specs.Operate.Variables.{variable_effect, value_at, allocated, elements_there, if_room}
use Rattle.image_acts.specs.Operate.Bounds.{bounds_effect, bounds_on_top, from_one, same_extents}
use Rattle.image_code.specs.Sizes.{variable_size, bounds_size_of, numbers_loaded}
use Rattle.stack_laws.specs.Exact.{No, Stand, Kept, kept_of}
use Rattle.stack_laws.proofs.Standing.{Fine, fine, goes, fault, no_operand, there_or, find_as, so, top_array, seen_array, allocates, takes, sees, of_none, of_one, framed, same_values, stand_of, stand_down, parted}
use Rattle.stack_laws.proofs.Places.{place_long, no_place_long}

-- an array in the place of another one
pub array_values : (s : a.Scope) (x : ℕ) (o : Option Local) (c : Core) → (with_array_in s x o c).values ≡ c.values
array_values s x o c = same_values s _ c

pub array_kept : (s : a.Scope) (x : ℕ) (o : Option Local) (c : Core) → kept_of (with_array_in s x o c) ≡ kept_of c
array_kept s x o c = framed s _ c

-- ---- variables
abbrev Held : a.VariableAct → Core → List ℤ → List ℤ → Type 0
Held x c xs vs = Fine No (kept_of c) (variable_size x).leaves.numbers vs (variable_effect x (with_values c (xs ++ vs)))

valued : (rank : ℕ) (p : Place) (us : List ℤ) (c : Core) → Fine No (kept_of c) (numbers_loaded rank) c.values (value_at rank p us c)
valued zero p [] c = no_operand No (kept_of c) 1 c.values
valued zero p (v ∷ us) c = goes No (kept_of c) 1 c.values (pushed v c) refl refl
valued (suc rank) p us c =
    let d = with_array (record { extents = extents_of p; elements = us }) c in
    so No (kept_of c) 0 c.values room (nat_le (elements_in c.arrays + length us) most_elements) (goes_to d) (goes No (kept_of c) 0 c.values d refl refl)

loaded : (o : Option Local) (rank : ℕ) (p : Place) (c : Core)
    → Fine No (kept_of c) (numbers_loaded rank) c.values (allocated o (λ l. elim (elements_there p l) [ None ↦ faults shape_fault | Some us ↦ value_at rank p us c ]))
loaded o rank p c =
    let m = numbers_loaded rank in
    allocates No (kept_of c) m c.values o (λ l. elim (elements_there p l) [ None ↦ faults shape_fault | Some us ↦ value_at rank p us c ])
    (λ l. there_or No (kept_of c) m c.values shape_fault (elements_there p l) (λ us. value_at rank p us c) (λ us. valued rank p us c))

abbrev put_at : a.Scope → ℕ → Place → List ℤ → Core → Acted
put_at s x p ws c = allocated (array_in s x c) (λ l. elim (elements_there p l) [ None ↦ faults shape_fault | Some vs ↦ goes_to (with_array_in s x (Some (record l { elements = with_elements_at (offsets p) ws l.elements })) c) ])

put_there : (s : a.Scope) (x : ℕ) (p : Place) (ws : List ℤ) (c : Core) → Fine No (kept_of c) 0 c.values (put_at s x p ws c)
put_there s x p ws c =
    let n : Local → Option Local = λ l. Some (record l { elements = with_elements_at (offsets p) ws l.elements }) in
    allocates No (kept_of c) 0 c.values (array_in s x c) (λ l. elim (elements_there p l) [ None ↦ faults shape_fault | Some vs ↦ goes_to (with_array_in s x (n l) c) ])
    (λ l. there_or No (kept_of c) 0 c.values shape_fault (elements_there p l) (λ vs. goes_to (with_array_in s x (n l) c))
    (λ vs. goes No (kept_of c) 0 c.values (with_array_in s x (n l) c) (array_values s x (n l) c) (array_kept s x (n l) c)))

put : (s : a.Scope) (x rank : ℕ) (c : Core) (ys zs vs : List ℤ) → length ys ≡ place_size rank → length zs ≡ 1 → Fine No (kept_of c) 0 vs (variable_effect (a.put s x rank) (with_values c (ys ++ (zs ++ vs))))
put s x rank c ys zs vs e f =
    takes No (kept_of c) 0 vs (place_size rank) c ys (zs ++ vs) (λ ns d. taking_one d (λ v e. put_at s x (place_in ns) (replicate (length (offsets (place_in ns))) v) e)) e
    (λ ns g. of_one No (kept_of c) 0 vs c (λ d. taking_one d (λ v e. put_at s x (place_in ns) (replicate (length (offsets (place_in ns))) v) e)) zs vs f
    (λ v. put_there s x (place_in ns) (replicate (length (offsets (place_in ns))) v) (with_values c vs)))

abbrev resized : a.Scope → ℕ → ℕ → List ℤ → Core → Acted
resized s x before vs c = unless room (nat_le ((c.local_cells - before) + length vs) most_cells)
    (if_room (record (with_array_in s x (Some (record { bounds = (pos 1, pos (length vs)) ∷ []; elements = vs })) c) { local_cells = (c.local_cells - before) + length vs }))

abbrev images_into : a.Scope → ℕ → Option Local → List ℤ → Core → Acted
images_into s x None vs c = resized s x 0 vs c
images_into s x (Some l) vs c = cond (length l.elements == length vs) (goes_to (with_array_in s x (Some (record l { elements = vs })) c)) (resized s x (length l.elements) vs c)

imaged : (s : a.Scope) (x : ℕ) (o : Option Local) (us : List ℤ) (c : Core) → Fine No (kept_of c) 0 c.values (images_into s x o us c)
imaged s x None us c = search fine
imaged s x (Some l) us c = search fine

abbrev begun : a.Scope → ℕ → ℕ → List ℤ → Core → Acted
begun s x t (first ∷ last ∷ step ∷ []) c =
    unless zero_step (not (int_eq step (pos 0))) (goes_to (with_cell a.here t (pos (min (iterations first last step) most_iterations)) (with_cell a.here (t + 1) step (with_cell s x first c))))
begun s x t vs c = stuck

begins : (s : a.Scope) (x t : ℕ) (us : List ℤ) (c : Core) → Fine No (kept_of c) 0 c.values (begun s x t us c)
begins s x t (first ∷ last ∷ step ∷ []) c = search fine
begins s x t us c = no_operand No (kept_of c) 0 c.values

pub exact_variable : (x : a.VariableAct) (c : Core) (xs vs : List ℤ) → length xs ≡ (variable_size x).takes.numbers → Held x c xs vs
exact_variable (a.cell s x) c xs vs h = of_none No (kept_of c) 1 vs c (variable_effect (a.cell s x)) xs vs h (search fine)
exact_variable (a.store s x) c xs vs h = of_one No (kept_of c) 0 vs c (variable_effect (a.store s x)) xs vs h (λ v. search fine)
exact_variable (a.load s x rank) c xs vs h =
    takes No (kept_of c) (numbers_loaded rank) vs (place_size rank) c xs vs (λ ns d. allocated (array_in s x d) (λ l. elim (elements_there (place_in ns) l) [ None ↦ faults shape_fault | Some us ↦ value_at rank (place_in ns) us d ])) h
    (λ ns e. loaded (array_in s x (with_values c vs)) rank (place_in ns) (with_values c vs))
exact_variable (a.put s x rank) c xs vs h =
    let p = parted (place_size rank) 1 xs h in
    let e : xs ++ vs ≡ p.0 ++ (p.1 ++ vs) = ap (λ z. z ++ vs) p.4 ∙ append_assoc p.0 p.1 vs in
    subst (λ z. Fine No (kept_of c) 0 vs (variable_effect (a.put s x rank) (with_values c z))) (sym e) (put s x rank c p.0 p.1 vs p.2 p.3)
exact_variable (a.put_array s x rank) c xs vs h =
    takes No (kept_of c) 0 vs (place_size rank) c xs vs (λ ns d. taking_array d (λ y e. put_at s x (place_in ns) y.elements e)) h
    (λ ns e. top_array No (kept_of c) 0 vs (with_values c vs) (λ y e. put_at s x (place_in ns) y.elements e) (λ y ys. put_there s x (place_in ns) y.elements (record (with_values c vs) { arrays = ys })))
exact_variable (a.put_images s x) c xs vs h =
    of_none No (kept_of c) 0 vs c (variable_effect (a.put_images s x)) xs vs h
    (top_array No (kept_of c) 0 vs (with_values c vs) (λ y d. images_into s x (array_in s x d) y.elements d)
    (λ y ys. (let d = record (with_values c vs) { arrays = ys } in imaged s x (array_in s x d) y.elements d)))
exact_variable (a.begin_iterations s x t) c xs vs h = takes No (kept_of c) 0 vs 3 c xs vs (λ us d. begun s x t us d) h (λ us e. begins s x t us (with_values c vs))
exact_variable (a.next_iteration s x t k) c xs vs h = of_none No (kept_of c) 0 vs c (variable_effect (a.next_iteration s x t k)) xs vs h (search fine depth 6)
exact_variable (a.more_iterations t) c xs vs h = of_none No (kept_of c) 1 vs c (variable_effect (a.more_iterations t)) xs vs h (search fine)

-- ---- places and bounds
abbrev Bounded : a.BoundsAct → Core → List ℤ → List ℤ → Type 0
Bounded x c xs vs = Fine No (kept_of c) (bounds_size_of x).leaves.numbers vs (bounds_effect x (with_values c (xs ++ vs)))

placed : (m : ℕ) (p : Place) (c : Core) → length (place_numbers p) ≡ m → Fine No (kept_of c) m c.values (goes_to (with_values c (put_down (place_numbers p) c.values)))
placed m p c e = goes No (kept_of c) m c.values (with_values c (put_down (place_numbers p) c.values)) (stand_down m (place_numbers p) [] c.values (omega arith)) refl

sectioned : (bs : List (ℤ × ℤ)) (ds : List ℕ) (us : List ℤ) (c : Core)
    → Fine No (kept_of c) (place_size (triplets ds)) c.values (found_in (place_within bs (subscripts_in ds us)) (λ p. goes_to (with_values c (put_down (place_numbers p) c.values))))
sectioned bs ds us c =
    find_as No (kept_of c) (place_size (triplets ds)) c.values (place_within bs (subscripts_in ds us)) (λ p. goes_to (with_values c (put_down (place_numbers p) c.values)))
    (λ p e. placed (place_size (triplets ds)) p c (place_long bs ds us p e))

abbrev co_placing : Option Own → List ℕ → List ℤ → Core → Acted
co_placing None ds vs c = goes_to (with_values c (put_down (place_numbers (no_place (triplets ds))) c.values))
co_placing (Some o) ds vs c = found_in (place_within o.bounds (subscripts_in ds vs)) (λ p. goes_to (with_values c (put_down (place_numbers p) c.values)))

co_placed : (o : Option Own) (ds : List ℕ) (us : List ℤ) (c : Core) → Fine No (kept_of c) (place_size (triplets ds)) c.values (co_placing o ds us c)
co_placed None ds us c = placed (place_size (triplets ds)) (no_place (triplets ds)) c (no_place_long (triplets ds))
co_placed (Some o) ds us c = sectioned o.bounds ds us c

abbrev numbered : List (ℤ × ℤ) → ℕ → (ℤ × ℤ → Acted) → Acted
numbered bs zero f = faults bounds_fault
numbered bs (suc i) f = elim (slice_get bs i) [ None ↦ faults bounds_fault | Some b ↦ f b ]

along_one : (k : Kept) (vs : List ℤ) (bs : List (ℤ × ℤ)) (n : ℕ) (f : ℤ × ℤ → Acted) → ((b : ℤ × ℤ) → Fine No k 1 vs (f b)) → Fine No k 1 vs (numbered bs n f)
along_one k vs bs zero f h = fault No k 1 vs bounds_fault
along_one k vs bs (suc i) f h = there_or No k 1 vs bounds_fault (slice_get bs i) f h

abbrev lower_of : ℤ × ℤ → ℤ
lower_of b = cond (extent_of b == 0) (pos 1) b.0

abbrev upper_of : ℤ × ℤ → ℤ
upper_of b = cond (extent_of b == 0) (pos 0) b.1

along : (c : Core) (g : ℤ × ℤ → ℤ) (v : ℤ)
    → Fine No (kept_of c) 1 c.values (taking_array c (λ x e. numbered (pairs_in x.elements) (natural v) (λ b. unless overflow (fits_kind kinds.I4 (g b)) (giving (g b) e))))
along c g v =
    top_array No (kept_of c) 1 c.values c (λ x e. numbered (pairs_in x.elements) (natural v) (λ b. unless overflow (fits_kind kinds.I4 (g b)) (giving (g b) e)))
    (λ x ys. (
    let e = record c { arrays = ys } in
    along_one (kept_of c) c.values (pairs_in x.elements) (natural v) (λ b. unless overflow (fits_kind kinds.I4 (g b)) (giving (g b) e))
    (λ b. so No (kept_of c) 1 c.values overflow (fits_kind kinds.I4 (g b)) (giving (g b) e) (goes No (kept_of c) 1 c.values (pushed (g b) e) refl refl))))

same_shape : (depth rank : ℕ) (c : Core) (m : ℕ) (vs : List ℤ) → Stand m vs c.values → Fine No (kept_of c) m vs (bounds_effect (a.same_shape depth rank) c)
same_shape depth rank c m vs s =
    sees No (kept_of c) m vs depth (place_size rank) c (λ ns. seeing_array c (λ x. unless shape_fault (same_extents x.extents (extents_of (place_in ns))) (goes_to c)))
    (λ ns e. seen_array No (kept_of c) m vs c (λ x. unless shape_fault (same_extents x.extents (extents_of (place_in ns))) (goes_to c))
    (λ x. so No (kept_of c) m vs shape_fault (same_extents x.extents (extents_of (place_in ns))) (goes_to c) (goes No (kept_of c) m vs c s refl)))

some_cells : (depth rank : ℕ) (c : Core) (xs vs : List ℤ) → length xs ≡ depth + place_size rank → Bounded (a.some_cells depth rank) c xs vs
some_cells depth rank c xs vs h =
    let d = with_values c (xs ++ vs) in
    let m = depth + place_size rank + 1 in
    sees No (kept_of c) m vs depth (place_size rank) d (λ ns. telling (not (cells_of (place_in ns) == 0)) d)
    (λ ns e. (let v = truth (not (cells_of (place_in ns) == 0)) in goes No (kept_of c) m vs (pushed v d) (stand_of m (v ∷ xs) vs (omega arith)) refl))

pub exact_bounds : (x : a.BoundsAct) (c : Core) (xs vs : List ℤ) → length xs ≡ (bounds_size_of x).takes.numbers → Bounded x c xs vs
exact_bounds (a.section s x form) c xs vs h =
    let ds = digits form in
    let m = place_size (triplets ds) in
    takes No (kept_of c) m vs (numbers_of_form ds) c xs vs (λ us d. allocated (array_in s x d) (λ l. found_in (place_within l.bounds (subscripts_in ds us)) (λ p. goes_to (with_values d (put_down (place_numbers p) d.values))))) h
    (λ us e. (
    let d = with_values c vs in
    allocates No (kept_of c) m vs (array_in s x d) (λ l. found_in (place_within l.bounds (subscripts_in ds us)) (λ p. goes_to (with_values d (put_down (place_numbers p) d.values)))) (λ l. sectioned l.bounds ds us d)))
exact_bounds (a.co_section k form) c xs vs h =
    let ds = digits form in
    takes No (kept_of c) (place_size (triplets ds)) vs (numbers_of_form ds) c xs vs (λ us d. co_placing (own_in d k) ds us d) h (λ us e. co_placed (own_in c k) ds us (with_values c vs))
exact_bounds (a.same_shape depth rank) c xs vs h = same_shape depth rank (with_values c (xs ++ vs)) (depth + place_size rank) vs (stand_of (depth + place_size rank) xs vs h)
exact_bounds (a.some_cells depth rank) c xs vs h = some_cells depth rank c xs vs h
exact_bounds (a.bounds s x) c xs vs h = of_none No (kept_of c) 0 vs c (bounds_effect (a.bounds s x)) xs vs h (search fine)
exact_bounds (a.co_bounds k) c xs vs h = of_none No (kept_of c) 0 vs c (bounds_effect (a.co_bounds k)) xs vs h (search fine)
exact_bounds (a.section_bounds rank) c xs vs h =
    takes No (kept_of c) 0 vs (place_size rank) c xs vs (λ ns d. bounds_on_top (from_one (extents_of (place_in ns))) d) h (λ ns e. search fine)
exact_bounds a.value_bounds c xs vs h = of_none No (kept_of c) 0 vs c (bounds_effect a.value_bounds) xs vs h (search fine)
exact_bounds a.size c xs vs h = of_none No (kept_of c) 1 vs c (bounds_effect a.size) xs vs h (search fine)
exact_bounds a.extent c xs vs h = of_one No (kept_of c) 1 vs c (bounds_effect a.extent) xs vs h (λ v. along (with_values c vs) (λ b. pos (extent_of b)) v)
exact_bounds a.lower_bound c xs vs h = of_one No (kept_of c) 1 vs c (bounds_effect a.lower_bound) xs vs h (λ v. along (with_values c vs) lower_of v)
exact_bounds a.upper_bound c xs vs h = of_one No (kept_of c) 1 vs c (bounds_effect a.upper_bound) xs vs h (λ v. along (with_values c vs) upper_of v)
exact_bounds (a.is_there s x) c xs vs h = of_none No (kept_of c) 1 vs c (bounds_effect (a.is_there s x)) xs vs h (search fine)
exact_bounds (a.co_is_there k) c xs vs h = of_none No (kept_of c) 1 vs c (bounds_effect (a.co_is_there k)) xs vs h (search fine)
exact_bounds (a.needs_own k) c xs vs h = of_none No (kept_of c) 0 vs c (bounds_effect (a.needs_own k)) xs vs h (search fine)
exact_bounds (a.made_in_team k) c xs vs h = of_none No (kept_of c) 1 vs c (bounds_effect (a.made_in_team k)) xs vs h (search fine)
exact_bounds a.every_index c xs vs h = of_none No (kept_of c) 0 vs c (bounds_effect a.every_index) xs vs h (search fine)
exact_bounds a.are_indices c xs vs h = of_none No (kept_of c) 1 vs c (bounds_effect a.are_indices) xs vs h (search fine)
exact_bounds a.is_index c xs vs h = of_one No (kept_of c) 1 vs c (bounds_effect a.is_index) xs vs h (λ v. search fine)
