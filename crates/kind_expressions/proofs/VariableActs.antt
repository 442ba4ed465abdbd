-- Acts on local variables: what is known behind each.
use Rattle.std.proofs.Common.{◌≡◌, ◌∙◌, ℕ, zero, suc, ◌+◌, Bool, true, false, cond, not, List, [], ◌∷◌, ◌++◌, length, replicate, slice_get, slice_set, refl, subst}
use Rattle.std.specs.Prelude.{ℤ, pos, ◌-◌, ◌+ℤ◌, int_lt, nat_le, ◌==◌, min, Option, None, Some}
use Rattle.std.specs.Ordering.{int_eq}
use Rattle.trace_theory.specs.Entries.{Each}
use Rattle.caf_base.specs.declared.value.Kind.{Kind}
use Rattle.caf_base.specs.declared.value.Kind.TheVariants as kinds
use Rattle.caf_base.specs.Arithmetic.{fits_kind, truth, iterations, natural}
use Rattle.walk_theory.specs.Language.{goes_to, faults}
use Rattle.object_rules.specs.Cells.{Declared}
use Rattle.image_acts.specs.Statuses.{most_cells, most_elements, most_iterations}
use Rattle.image_acts.specs.Faults.{room, overflow, zero_step, shape_fault}
use Rattle.image_acts.specs.Acts as a
use Rattle.image_acts.specs.Acts.{variable}
use Rattle.image_acts.specs.Core.{Core, Local, with_values, pushed, elements_in}
use Rattle.image_acts.specs.Frames.{cell_in, with_cell, array_in, with_array_in, cells_in_frames, arrays_of_frames}
use Rattle.image_acts.specs.Places.{Place, place_in, place_size, extents_of, cells_of, offsets, elements_at, with_elements_at}
use Rattle.image_acts.specs.Taking.{Acted, given, unless, put_down, taking_one, taking_array, giving, telling}
use Rattle.image_acts.specs.Operate.Variables.{allocated, elements_there, value_at, if_room, variable_effect}
use Rattle.image_acts.specs.Meaning.{effect_of}
use Rattle.kind_walks.specs.Kinds.{Widens, Typing, IsSo, IsOf, with_number, with_array}
use Rattle.kind_walks.specs.Suiting.{Joined}
use Rattle.kind_walks.proofs.Effects.{with_numbers, push, push_array, there, there_as, so, so_as, either_way, allocates, settles, one, top, many, takes}
use Rattle.kind_walks.proofs.Frames.{widened, all_widened, layout_of, cell_of, cell_so, array_of, array_so}
use Rattle.kind_walks.proofs.StackActs.{Acts, To}
pub use Rattle.kind_expressions.specs.Laws.{result}

-- ---- elements
each_get : (P : ℤ → Type 0) (vs : List ℤ) → Each P vs → (i : ℕ) (v : ℤ) → slice_get vs i ≡ Some v → P v
each_get P [] h i v e = absurd (cc)
each_get P (w ∷ vs) h zero v e = (let f : w ≡ v = cc in subst P f h.0)
each_get P (w ∷ vs) h (suc i) v e = each_get P vs h.1 i v e

each_set : (P : ℤ → Type 0) (vs : List ℤ) (i : ℕ) (v : ℤ) → Each P vs → P v → Each P (slice_set vs i v)
each_set P [] i v h g = tt
each_set P (w ∷ vs) zero v h g = (g, h.1)
each_set P (w ∷ vs) (suc i) v h g = (h.0, each_set P vs i v h.1 g)

pub each_same : (P : ℤ → Type 0) (m : ℕ) (v : ℤ) → P v → Each P (replicate m v)
each_same P zero v h = tt
each_same P (suc m) v h = (h, each_same P m v h)

abbrev beside : Option ℤ → Option (List ℤ) → Option (List ℤ)
beside None vs = None
beside (Some v) None = None
beside (Some v) (Some vs) = Some (v ∷ vs)

both_hold : (P : ℤ → Type 0) (v : Option ℤ) (vs : Option (List ℤ)) (ws : List ℤ) → ((x : ℤ) → v ≡ Some x → P x) → ((xs : List ℤ) → vs ≡ Some xs → Each P xs) → beside v vs ≡ Some ws → Each P ws
both_hold P None vs ws g h e = absurd (cc)
both_hold P (Some v) None ws g h e = absurd (cc)
both_hold P (Some v) (Some vs) ws g h e = (let f : v ∷ vs ≡ ws = cc in subst (Each P) f (g v refl, h vs refl))

elements_hold : (P : ℤ → Type 0) (os vs ws : List ℤ) → Each P vs → elements_at os vs ≡ Some ws → Each P ws
elements_hold P [] vs ws h e = (let f : [] ≡ ws = cc in subst (Each P) f tt)
elements_hold P (o ∷ os) vs ws h e = both_hold P (slice_get vs (natural o)) (elements_at os vs) ws (λ x f. each_get P vs h (natural o) x f) (λ xs f. elements_hold P os vs xs h f) e

pub there_hold : (P : ℤ → Type 0) (p : Place) (l : Local) (ws : List ℤ) → Each P l.elements → elements_there p l ≡ Some ws → Each P ws
there_hold P p l ws h e = by_test (nat_le (cells_of p) (length l.elements)) e
  where
    by_test : (b : Bool) → cond b (elements_at (offsets p) l.elements) None ≡ Some ws → Each P ws
    by_test true e = elements_hold P (offsets p) l.elements ws h e
    by_test false e = absurd (cc)

set_hold : (P : ℤ → Type 0) (os ws vs : List ℤ) → Each P ws → Each P vs → Each P (with_elements_at os ws vs)
set_hold P [] ws vs g h = h
set_hold P (o ∷ os) [] vs g h = h
set_hold P (o ∷ os) (w ∷ ws) vs g h = set_hold P os ws (slice_set vs (natural o) w) g.1 (each_set P vs (natural o) w h g.0)

module _ (coarrays : List Declared) (n : ℕ) where
  -- ---- scalars
  pub acts_cell : (x : a.Scope) (i : ℕ) (k : Option Kind) (s : Typing) → slice_get (layout_of x s).scalars i ≡ Some k → Acts coarrays n s (variable (a.cell x i)) (with_number k s)
  acts_cell x i k s e j c h =
      settles n coarrays (with_number k s) j (variable (a.cell x i)) (variable_effect (a.cell x i) c)
      (there_as n coarrays (with_number k s) j (cell_in x i c) (λ v. giving v c) (λ v f. push n k s c v (cell_of n s x i k e c v h f) h))

  -- of which nothing is known
  pub acts_cell_unknown : (x : a.Scope) (i : ℕ) (s : Typing) → Acts coarrays n s (variable (a.cell x i)) (with_number None s)
  acts_cell_unknown x i s j c h =
      settles n coarrays (with_number None s) j (variable (a.cell x i)) (variable_effect (a.cell x i) c) (there n coarrays (with_number None s) j (cell_in x i c) (λ v. giving v c) (λ v. push n None s c v tt h))

  pub acts_store : (x : a.Scope) (i : ℕ) (l : Option Kind) (s : Typing) → ((k : Option Kind) → slice_get (layout_of x s).scalars i ≡ Some k → Widens l k) → Acts coarrays n (with_number l s) (variable (a.store x i)) s
  acts_store x i l s w j c h = one n coarrays s j l s c h (effect_of (variable (a.store x i))) (λ v d hv hd. cell_so n s x i v d hd (λ k e. widened l k (w k e) v hv))

  -- ---- elements and sections
  valued : (k : Option Kind) (s : Typing) (rank : ℕ) (p : Place) (vs : List ℤ) (j : Joined) (c : Core) → Each (IsOf k) vs → IsSo n s c → To coarrays n (result k rank s) j (value_at rank p vs c)
  valued k s zero p [] j c g h = tt
  valued k s zero p (v ∷ vs) j c g h = push n k s c v g.0 h
  valued k s (suc rank) p vs j c g h =
      so n coarrays (with_array k s) j room (nat_le (elements_in c.arrays + length vs) most_elements) (goes_to (record c { arrays = record { extents = extents_of p; elements = vs } ∷ c.arrays }))
      (push_array n k s c (record { extents = extents_of p; elements = vs }) g h)

  loaded : (x : a.Scope) (i : ℕ) (k : Option Kind) (s : Typing) → slice_get (layout_of x s).arrays i ≡ Some k → (rank : ℕ) (p : Place) (j : Joined) (c : Core) → IsSo n s c
      → To coarrays n (result k rank s) j (allocated (array_in x i c) (λ l. elim (elements_there p l) [ None ↦ faults shape_fault | Some vs ↦ value_at rank p vs c ]))
  loaded x i k s e rank p j c h =
      allocates n coarrays (result k rank s) j (array_in x i c) (λ l. elim (elements_there p l) [ None ↦ faults shape_fault | Some vs ↦ value_at rank p vs c ])
      (λ l f. by_elements (elements_there p l) (λ vs g. there_hold (IsOf k) p l vs (array_of n s x i k e c l h f) g))
    where
      by_elements : (o : Option (List ℤ)) → ((vs : List ℤ) → o ≡ Some vs → Each (IsOf k) vs) → To coarrays n (result k rank s) j (elim o [ None ↦ faults shape_fault | Some vs ↦ value_at rank p vs c ])
      by_elements None g = tt
      by_elements (Some vs) g = valued k s rank p vs j c (g vs refl) h

  pub acts_load : (x : a.Scope) (i : ℕ) (k : Option Kind) (s : Typing) → slice_get (layout_of x s).arrays i ≡ Some k → (ks : List (Option Kind)) (rank : ℕ) → length ks ≡ place_size rank
      → Acts coarrays n (with_numbers ks s) (variable (a.load x i rank)) (result k rank s)
  acts_load x i k s e ks rank f j c h =
      let t = result k rank s in
      many n coarrays t j ks s c h (effect_of (variable (a.load x i rank))) (λ xs d l g hd.
      settles n coarrays t j (variable (a.load x i rank)) (variable_effect (a.load x i rank) (with_values d (xs ++ d.values)))
      (takes n coarrays t j (place_size rank) xs d.values
      (λ p. allocated (array_in x i (with_values d p.1)) (λ l. elim (elements_there (place_in p.0) l) [ None ↦ faults shape_fault | Some vs ↦ value_at rank (place_in p.0) vs (with_values d p.1) ])) (l ∙ f)
      (loaded x i k s e rank (place_in (put_down xs [])) j d hd)))

  -- these elements get other values
  abbrev put_at : a.Scope → ℕ → Place → List ℤ → Core → Acted
  put_at x i p ws c = allocated (array_in x i c) (λ l. elim (elements_there p l) [ None ↦ faults shape_fault | Some vs ↦ goes_to (with_array_in x i (Some (record l { elements = with_elements_at (offsets p) ws l.elements })) c) ])

  puts : (x : a.Scope) (i : ℕ) (s : Typing) (p : Place) (ws : List ℤ) (j : Joined) (c : Core) → ((k : Option Kind) → slice_get (layout_of x s).arrays i ≡ Some k → Each (IsOf k) ws) → IsSo n s c
      → To coarrays n s j (put_at x i p ws c)
  puts x i s p ws j c g h =
      allocates n coarrays s j (array_in x i c) (λ l. elim (elements_there p l) [ None ↦ faults shape_fault | Some vs ↦ goes_to (with_array_in x i (Some (record l { elements = with_elements_at (offsets p) ws l.elements })) c) ])
      (λ l f. by_elements l f (elements_there p l))
    where
      by_elements : (l : Local) → array_in x i c ≡ Some l → (o : Option (List ℤ))
          → To coarrays n s j (elim o [ None ↦ faults shape_fault | Some vs ↦ goes_to (with_array_in x i (Some (record l { elements = with_elements_at (offsets p) ws l.elements })) c) ])
      by_elements l f None = tt
      by_elements l f (Some vs) = array_so n s x i (Some (record l { elements = with_elements_at (offsets p) ws l.elements })) c h (λ k e. set_hold (IsOf k) (offsets p) ws l.elements (g k e) (array_of n s x i k e c l h f))

  pub acts_put : (x : a.Scope) (i : ℕ) (l : Option Kind) (s : Typing) → ((k : Option Kind) → slice_get (layout_of x s).arrays i ≡ Some k → Widens l k) → (ks : List (Option Kind)) (rank : ℕ) → length ks ≡ place_size rank
      → Acts coarrays n (with_numbers ks (with_number l s)) (variable (a.put x i rank)) s
  acts_put x i l s w ks rank f j c h =
      many n coarrays s j ks (with_number l s) c h (effect_of (variable (a.put x i rank))) (λ xs b m g hb.
      one n coarrays s j l s b hb (λ b. effect_of (variable (a.put x i rank)) (with_values b (xs ++ b.values))) (λ v d hv hd.
      settles n coarrays s j (variable (a.put x i rank)) (variable_effect (a.put x i rank) (with_values d (xs ++ (v ∷ d.values))))
      (takes n coarrays s j (place_size rank) xs (v ∷ d.values) (λ p. taking_one (with_values d p.1) (λ v e. put_at x i (place_in p.0) (replicate (length (offsets (place_in p.0))) v) e)) (m ∙ f)
      (puts x i s (place_in (put_down xs [])) (replicate (length (offsets (place_in (put_down xs [])))) v) j d (λ k e. each_same (IsOf k) (length (offsets (place_in (put_down xs [])))) v (widened l k (w k e) v hv)) hd))))

  pub acts_put_array : (x : a.Scope) (i : ℕ) (l : Option Kind) (s : Typing) → ((k : Option Kind) → slice_get (layout_of x s).arrays i ≡ Some k → Widens l k) → (ks : List (Option Kind)) (rank : ℕ) → length ks ≡ place_size rank
      → Acts coarrays n (with_numbers ks (with_array l s)) (variable (a.put_array x i rank)) s
  acts_put_array x i l s w ks rank f j c h =
      many n coarrays s j ks (with_array l s) c h (effect_of (variable (a.put_array x i rank))) (λ xs b m g hb.
      top n coarrays s j l s b hb (λ b. effect_of (variable (a.put_array x i rank)) (with_values b (xs ++ b.values))) (λ y d hy hd.
      let e = record d { arrays = y ∷ d.arrays } in
      settles n coarrays s j (variable (a.put_array x i rank)) (variable_effect (a.put_array x i rank) (with_values e (xs ++ e.values)))
      (takes n coarrays s j (place_size rank) xs d.values (λ p. taking_array (with_values e p.1) (λ y e. put_at x i (place_in p.0) y.elements e)) (m ∙ f)
      (puts x i s (place_in (put_down xs [])) y.elements j d (λ k q. all_widened l k (w k q) y.elements hy) hd))))

  -- ---- a whole array of indices
  abbrev resized : a.Scope → ℕ → ℕ → List ℤ → Core → Acted
  resized x i before vs c = unless room (nat_le ((c.local_cells - before) + length vs) most_cells)
      (if_room (record (with_array_in x i (Some (record { bounds = (pos 1, pos (length vs)) ∷ []; elements = vs })) c) { local_cells = (c.local_cells - before) + length vs }))

  abbrev images_into : a.Scope → ℕ → Option Local → List ℤ → Core → Acted
  images_into x i None vs c = resized x i 0 vs c
  images_into x i (Some l) vs c = cond (length l.elements == length vs) (goes_to (with_array_in x i (Some (record l { elements = vs })) c)) (resized x i (length l.elements) vs c)

  counted : (s : Typing) (c : Core) (m : ℕ) → IsSo n s c → IsSo n s (record c { local_cells = m })
  counted s c m h = record { numbers = h.numbers; arrays = h.arrays; running = h.running; callers = h.callers; images = h.images; known = h.known; formed = h.formed }

  resizes : (x : a.Scope) (i : ℕ) (s : Typing) (before : ℕ) (vs : List ℤ) (j : Joined) (c : Core) → ((k : Option Kind) → slice_get (layout_of x s).arrays i ≡ Some k → Each (IsOf k) vs) → IsSo n s c
      → To coarrays n s j (resized x i before vs c)
  resizes x i s before vs j c g h =
      let l : Local = record { bounds = (pos 1, pos (length vs)) ∷ []; elements = vs } in
      let d = record (with_array_in x i (Some l) c) { local_cells = (c.local_cells - before) + length vs } in
      so n coarrays s j room (nat_le ((c.local_cells - before) + length vs) most_cells) (if_room d)
      (so n coarrays s j room (nat_le (cells_in_frames (arrays_of_frames d)) d.array_room) (goes_to d) (counted s (with_array_in x i (Some l) c) ((c.local_cells - before) + length vs) (array_so n s x i (Some l) c h g)))

  imaged : (x : a.Scope) (i : ℕ) (s : Typing) (o : Option Local) (vs : List ℤ) (j : Joined) (c : Core) → ((k : Option Kind) → slice_get (layout_of x s).arrays i ≡ Some k → Each (IsOf k) vs) → IsSo n s c
      → To coarrays n s j (images_into x i o vs c)
  imaged x i s None vs j c g h = resizes x i s 0 vs j c g h
  imaged x i s (Some l) vs j c g h =
      either_way n coarrays s j (length l.elements == length vs) (goes_to (with_array_in x i (Some (record l { elements = vs })) c)) (resized x i (length l.elements) vs c)
      (array_so n s x i (Some (record l { elements = vs })) c h g) (resizes x i s (length l.elements) vs j c g h)

  pub acts_put_images : (x : a.Scope) (i : ℕ) (l : Option Kind) (s : Typing) → ((k : Option Kind) → slice_get (layout_of x s).arrays i ≡ Some k → Widens l k) → Acts coarrays n (with_array l s) (variable (a.put_images x i)) s
  acts_put_images x i l s w j c h =
      top n coarrays s j l s c h (effect_of (variable (a.put_images x i))) (λ y d hy hd.
      settles n coarrays s j (variable (a.put_images x i)) (variable_effect (a.put_images x i) (record d { arrays = y ∷ d.arrays }))
      (imaged x i s (array_in x i d) y.elements j d (λ k e. all_widened l k (w k e) y.elements hy) hd))

  -- ---- DO: the iteration count and the step stand in hidden cells
  pub acts_begin : (x : a.Scope) (i t : ℕ) (l m o : Option Kind) (s : Typing) → ((k : Option Kind) → slice_get (layout_of x s).scalars i ≡ Some k → Widens l k)
      → slice_get s.running.scalars t ≡ None → slice_get s.running.scalars (t + 1) ≡ None → Acts coarrays n (with_number o (with_number m (with_number l s))) (variable (a.begin_iterations x i t)) s
  acts_begin x i t l m o s w e f j c h =
      one n coarrays s j o (with_number m (with_number l s)) c h (effect_of (variable (a.begin_iterations x i t))) (λ step b hb sb.
      one n coarrays s j m (with_number l s) b sb (λ b. effect_of (variable (a.begin_iterations x i t)) (pushed step b)) (λ last c1 hc sc.
      one n coarrays s j l s c1 sc (λ b. effect_of (variable (a.begin_iterations x i t)) (pushed step (pushed last b))) (λ first d hd sd.
      let v = pos (min (iterations first last step) most_iterations) in
      let d1 = with_cell x i first d in
      let d2 = with_cell a.here (t + 1) step d1 in
      settles n coarrays s j (variable (a.begin_iterations x i t)) (variable_effect (a.begin_iterations x i t) (pushed step (pushed last (pushed first d))))
      (so n coarrays s j zero_step (not (int_eq step (pos 0))) (goes_to (with_cell a.here t v d2))
      (cell_so n s a.here t v d2 (cell_so n s a.here (t + 1) step d1 (cell_so n s x i first d sd (λ k q. widened l k (w k q) first hd)) (λ k q. absurd (cc))) (λ k q. absurd (cc)))))))

  pub acts_next : (x : a.Scope) (i t : ℕ) (kind : Kind) (s : Typing) → ((k : Option Kind) → slice_get (layout_of x s).scalars i ≡ Some k → Widens (Some kind) k) → slice_get s.running.scalars t ≡ None
      → Acts coarrays n s (variable (a.next_iteration x i t kind)) s
  acts_next x i t kind s w e j c h =
      settles n coarrays s j (variable (a.next_iteration x i t kind)) (variable_effect (a.next_iteration x i t kind) c)
      (there n coarrays s j (cell_in x i c)
      (λ v. given (cell_in a.here (t + 1) c) (λ step. given (cell_in a.here t c) (λ left. unless overflow (fits_kind kind (v +ℤ step)) (goes_to (with_cell a.here t (pos (natural left - 1)) (with_cell x i (v +ℤ step) c))))))
      (λ v. there n coarrays s j (cell_in a.here (t + 1) c)
      (λ step. given (cell_in a.here t c) (λ left. unless overflow (fits_kind kind (v +ℤ step)) (goes_to (with_cell a.here t (pos (natural left - 1)) (with_cell x i (v +ℤ step) c)))))
      (λ step. there n coarrays s j (cell_in a.here t c)
      (λ left. unless overflow (fits_kind kind (v +ℤ step)) (goes_to (with_cell a.here t (pos (natural left - 1)) (with_cell x i (v +ℤ step) c))))
      (λ left. so_as n coarrays s j overflow (fits_kind kind (v +ℤ step)) (goes_to (with_cell a.here t (pos (natural left - 1)) (with_cell x i (v +ℤ step) c)))
      (λ f. cell_so n s a.here t (pos (natural left - 1)) (with_cell x i (v +ℤ step) c) (cell_so n s x i (v +ℤ step) c h (λ k q. widened (Some kind) k (w k q) (v +ℤ step) f)) (λ k q. absurd (cc)))))))

  pub acts_more : (t : ℕ) (s : Typing) → Acts coarrays n s (variable (a.more_iterations t)) (with_number (Some kinds.L4) s)
  acts_more t s j c h =
      settles n coarrays (with_number (Some kinds.L4) s) j (variable (a.more_iterations t)) (variable_effect (a.more_iterations t) c)
      (there n coarrays (with_number (Some kinds.L4) s) j (cell_in a.here t c) (λ left. telling (int_lt (pos 0) left) c) (λ left. push n (Some kinds.L4) s c (truth (int_lt (pos 0) left)) refl h))
