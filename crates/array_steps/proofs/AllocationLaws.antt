-- Plans of allocations, and local arrays that are allocated, deallocated or laid out.
use Rattle.std.proofs.Common.{◌≡◌, ℕ, ◌+◌, ◌-◌, ◌<◌, ◌≤◌, ℤ, pos, Bool, true, false, List, [], ◌∷◌, length, take, drop, refl, ap, sym, ◌∙◌, subst, arith}
use Rattle.std.specs.Prelude.{Option, Some, None, ◌&&◌, not, is_some, nat_le, reverse, min, ◌^◌}
use Rattle.std.specs.Option.{option_map}
use Rattle.std.proofs.lemmas.Bool.{le-leb, lt-leb}
use Rattle.caf_base.specs.Arithmetic.{natural, truth, is_true}
use Rattle.coarray_types.specs.Places.{size_of}
use Rattle.walk_theory.specs.Language.{goes_to}
use Rattle.image_acts.specs.Acts as a
use Rattle.image_acts.specs.Acts.{Scope, here, host}
use Rattle.image_acts.specs.Core.{Core, Local, with_values}
use Rattle.image_acts.specs.Faults.{room}
use Rattle.image_acts.specs.Frames.{array_in, arrays_of_frames, cells_in_frames, pairs_in, with_array_in, zeros_in}
use Rattle.image_acts.specs.Taking.{Acted, given, put_down, taken, taking, unless}
use Rattle.image_acts.specs.Operate.Variables.{if_room}
use Rattle.image_acts.specs.Operate.Allocating.{allocation_effect, are_of_kind_4, bounds_size, is_well, laid, made, planned, sum_of_cells}
use Rattle.local_arrays.specs.Arrays.{elements_of}
use Rattle.local_arrays.specs.Frames.{with_array}
use Rattle.local_arrays.proofs.CoreLaws.{free_agrees, room_agrees}
use Rattle.image_state.specs.Kept.{Kept}
use Rattle.image_state.specs.declared.state.Acting.{Acting}
use Rattle.image_state.specs.declared.state.Acting.TheVariants as actings
use Rattle.image_state.specs.Acting.{with_core, Acts}
use Rattle.image_state.proofs.Taking.{took, took_none, taken_none}
use Rattle.array_steps.proofs.Changed.{same_array, with_beside}

-- cells that are counted as far as 128 bits hold them
pub counted : (n : ℤ) (k : ℕ) → pos (min (natural n + min k (2 ^ 128 - 1)) 65537) ≡ sum_of_cells n k
counted n k = ap pos (omega arith)

module _ (m : Kept) where
  -- numbers that are seen beneath others, by what is read of them
  seen_of : (e : Kept) (w : Acting) (f : List ℤ → Acted) (o : Option (List ℤ × List ℤ)) (ns : List ℤ) → Some ns ≡ option_map (λ p. p.0) o → Acts m (f ns) e w → Acts m (given o (λ p. f p.0)) e w
  seen_of e w f None ns h g = absurd (cc)
  seen_of e w f (Some p) ns h g = (let k : ns ≡ p.0 = cc in subst (λ ts. Acts m (f ts) e w) k g)

  unseen_of : (f : List ℤ → Acted) (o : Option (List ℤ × List ℤ)) → None ≡ option_map (λ p. p.0) o → Acts m (given o (λ p. f p.0)) m actings.Stuck
  unseen_of f None h = (refl, refl)
  unseen_of f (Some p) h = absurd (cc)

  abbrev sight : (d n : ℕ) → Option (List ℤ)
  sight d n = option_map (λ p. p.0) (taken n (drop d m.core.values) [])

  -- a plan
  pub plan_begun : (e : Kept) → e ≡ with_core m (with_values m.core (put_down (pos 1 ∷ pos m.core.coarray_cells ∷ pos m.core.local_cells ∷ []) m.core.values)) → Acts m (allocation_effect a.begin_plan m.core) e actings.Done
  plan_begun e g = (refl, g)

  pub plan_missing : length m.core.values < 3 → Acts m (allocation_effect a.end_plan m.core) m actings.Stuck
  plan_missing h = rw (taken_none 3 m.core.values [] h) (refl, refl)

  pub plan_ended : (e : Kept) (w k n : ℤ) (vs : List ℤ) (b : Bool) → m.core.values ≡ n ∷ k ∷ w ∷ vs → b ≡ is_well (w ∷ k ∷ n ∷ []) → e ≡ with_core m (with_values m.core (truth b ∷ vs)) → Acts m (allocation_effect a.end_plan m.core) e actings.Done
  plan_ended e w k n vs b h i g = rw h (refl, g ∙ ap (λ (t : Bool). with_core m (with_values m.core (truth t ∷ vs))) i)

  -- with so many local cells more, where all arrays have room
  module _ (s : Scope) (x : ℕ) where
    abbrev with_zeros : List ℤ → Core → Core
    with_zeros ns c = with_array_in s x (Some (zeros_in (pairs_in ns))) c

    abbrev cells_with : List ℤ → ℕ
    cells_with ns = cells_in_frames (with_array s x (Some (zeros_in (pairs_in ns))) (arrays_of_frames m.core))

    roomy : (e : Kept) (w : Acting) (o : Option Local) (n : ℕ) → Acts m (unless room (nat_le (cells_in_frames (with_array s x o (arrays_of_frames m.core))) m.core.array_room) (goes_to (record (with_array_in s x o m.core) { local_cells = n }))) e w
        → Acts m (if_room (with_array_in s x o (record m.core { local_cells = n }))) e w
    roomy e w o n g = subst (λ y. Acts m (if_room y) e w) (sym (with_beside m.core s x o n)) (subst (λ y. Acts m y e w) (sym (room_agrees s x n o m.core)) g)

    module _ (rank : ℕ) (ns : List ℤ) where
      pub made_too_many : 65536 < m.core.local_cells + size_of (pairs_in ns) → Acts m (made s x rank (pairs_in ns) m.core) m (actings.Fault 11)
      made_too_many h = rw (lt-leb (m.core.local_cells + size_of (pairs_in ns)) 65536 h) (refl, refl)

      made_few : (e : Kept) (w : Acting) → m.core.local_cells + size_of (pairs_in ns) ≤ 65536 → Acts m (laid s x rank (pairs_in ns) (record m.core { local_cells = m.core.local_cells + size_of (pairs_in ns) })) e w → Acts m (made s x rank (pairs_in ns) m.core) e w
      made_few e w h g = subst (λ t. Acts m (unless room t (laid s x rank (pairs_in ns) (record m.core { local_cells = m.core.local_cells + size_of (pairs_in ns) }))) e w) (sym (le-leb (m.core.local_cells + size_of (pairs_in ns)) 65536 h)) g

      laid_few : (c : Core) (e : Kept) (w : Acting) → rank ≤ 3 → Acts m (if_room (with_zeros ns c)) e w → Acts m (laid s x rank (pairs_in ns) c) e w
      laid_few c e w h g = subst (λ t. Acts m (unless room t (if_room (with_zeros ns c))) e w) (sym (le-leb rank 3 h)) g

      pub laid_high : (c : Core) → 3 < rank → Acts m (laid s x rank (pairs_in ns) c) m (actings.Fault 11)
      laid_high c h = rw (lt-leb rank 3 h) (refl, refl)

      made_high_of : (t : Bool) (c : Core) → 3 < rank → Acts m (unless room t (laid s x rank (pairs_in ns) c)) m (actings.Fault 11)
      made_high_of true c h = laid_high c h
      made_high_of false c h = (refl, refl)

      pub made_high : 3 < rank → Acts m (made s x rank (pairs_in ns) m.core) m (actings.Fault 11)
      made_high h = made_high_of (nat_le (m.core.local_cells + size_of (pairs_in ns)) 65536) (record m.core { local_cells = m.core.local_cells + size_of (pairs_in ns) }) h

      module _ (h : rank ≤ 3) (n : ℕ) (i : n ≡ m.core.local_cells + size_of (pairs_in ns)) (l : n ≤ 65536) where
        pub made_full : m.core.array_room < cells_with ns → Acts m (made s x rank (pairs_in ns) m.core) m (actings.Fault 11)
        made_full f = made_few m (actings.Fault 11) (omega arith) (laid_few (record m.core { local_cells = m.core.local_cells + size_of (pairs_in ns) }) m (actings.Fault 11) h
            (roomy m (actings.Fault 11) (Some (zeros_in (pairs_in ns))) (m.core.local_cells + size_of (pairs_in ns)) (rw (lt-leb (cells_with ns) m.core.array_room f) (refl, refl))))

        pub made_whole : (d e : Kept) → cells_with ns ≤ m.core.array_room → d ≡ with_core m (with_zeros ns m.core) → e ≡ with_core d (record d.core { local_cells = n }) → Acts m (made s x rank (pairs_in ns) m.core) e actings.Done
        made_whole d e f g j = made_few e actings.Done (omega arith) (laid_few (record m.core { local_cells = m.core.local_cells + size_of (pairs_in ns) }) e actings.Done h
            (roomy e actings.Done (Some (zeros_in (pairs_in ns))) (m.core.local_cells + size_of (pairs_in ns)) (rw (le-leb (cells_with ns) m.core.array_room f) (
              refl,
              j ∙ ap (λ (t : Kept). with_core t (record t.core { local_cells = n })) g ∙ ap (λ (t : ℕ). with_core m (record (with_zeros ns m.core) { local_cells = t })) i,
            ))))

  module _ (s : Scope) (x depth rank : ℕ) where
    abbrev plans : List ℤ → Acted
    plans ns = taking 3 m.core (λ plan d. planned (not (is_some (array_in s x d)) && are_of_kind_4 ns) 0 (size_of (pairs_in ns)) plan d)

    pub local_unseen : None ≡ sight (depth + 3) (bounds_size rank) → Acts m (allocation_effect (a.plan_local s x depth rank) m.core) m actings.Stuck
    local_unseen h = unseen_of plans (taken (bounds_size rank) (drop (depth + 3) m.core.values) []) h

    pub local_without_plan : (ns : List ℤ) → Some ns ≡ sight (depth + 3) (bounds_size rank) → length m.core.values < 3 → Acts m (allocation_effect (a.plan_local s x depth rank) m.core) m actings.Stuck
    local_without_plan ns h l = seen_of m actings.Stuck plans (taken (bounds_size rank) (drop (depth + 3) m.core.values) []) ns h
        (took_none m m.core 3 (λ plan d. planned (not (is_some (array_in s x d)) && are_of_kind_4 ns) 0 (size_of (pairs_in ns)) plan d) l)

    planned_of : (e : Kept) (ns : List ℤ) (w k n : ℤ) (us vs : List ℤ) (b : Bool) → us ≡ n ∷ k ∷ w ∷ vs → b ≡ (not (is_some (array_in s x m.core)) && are_of_kind_4 ns)
        → e ≡ with_core m (with_values m.core (put_down (truth (is_true w && b) ∷ sum_of_cells k 0 ∷ sum_of_cells n (size_of (pairs_in ns)) ∷ []) vs))
        → Acts m (given (taken 3 us []) (λ p. planned (not (is_some (array_in s x (with_values m.core p.1))) && are_of_kind_4 ns) 0 (size_of (pairs_in ns)) p.0 (with_values m.core p.1))) e actings.Done
    planned_of e ns w k n us vs b h i g =
        let t : b ≡ (not (is_some (array_in s x (with_values m.core vs))) && are_of_kind_4 ns) = i ∙ ap (λ o. not (is_some o) && are_of_kind_4 ns) (sym (same_array s x vs m.core)) in
        subst (λ ts. Acts m (given (taken 3 ts []) (λ p. planned (not (is_some (array_in s x (with_values m.core p.1))) && are_of_kind_4 ns) 0 (size_of (pairs_in ns)) p.0 (with_values m.core p.1))) e actings.Done) (sym h)
        (refl, g ∙ ap (λ (y : Bool). with_core m (with_values m.core (put_down (truth (is_true w && y) ∷ sum_of_cells k 0 ∷ sum_of_cells n (size_of (pairs_in ns)) ∷ []) vs))) t)

    pub local_planned : (e : Kept) (ns : List ℤ) (w k n : ℤ) (vs : List ℤ) (b : Bool) → Some ns ≡ sight (depth + 3) (bounds_size rank) → m.core.values ≡ n ∷ k ∷ w ∷ vs → b ≡ (not (is_some (array_in s x m.core)) && are_of_kind_4 ns)
        → e ≡ with_core m (with_values m.core (put_down (truth (is_true w && b) ∷ sum_of_cells k 0 ∷ sum_of_cells n (size_of (pairs_in ns)) ∷ []) vs)) → Acts m (allocation_effect (a.plan_local s x depth rank) m.core) e actings.Done
    local_planned e ns w k n vs b h i j g = seen_of e actings.Done plans (taken (bounds_size rank) (drop (depth + 3) m.core.values) []) ns h (planned_of e ns w k n m.core.values vs b i j g)

    -- an array of zeros that is allocated
    abbrev makes : List ℤ → Acted
    makes ns = made s x rank (pairs_in ns) m.core

    pub make_unseen : None ≡ sight depth (bounds_size rank) → Acts m (allocation_effect (a.make s x depth rank) m.core) m actings.Stuck
    make_unseen h = unseen_of makes (taken (bounds_size rank) (drop depth m.core.values) []) h

    pub make_seen : (e : Kept) (w : Acting) (ns : List ℤ) → Some ns ≡ sight depth (bounds_size rank) → Acts m (made s x rank (pairs_in ns) m.core) e w → Acts m (allocation_effect (a.make s x depth rank) m.core) e w
    make_seen e w ns h g = seen_of e w makes (taken (bounds_size rank) (drop depth m.core.values) []) ns h g

    pub make_high : (ns : List ℤ) → Some ns ≡ sight depth (bounds_size rank) → 3 < rank → Acts m (allocation_effect (a.make s x depth rank) m.core) m (actings.Fault 11)
    make_high ns h l = make_seen m (actings.Fault 11) ns h (made_high s x rank ns l)

  module _ (s : Scope) (x : ℕ) where
    -- an array that is deallocated
    pub free_missing : array_in s x m.core ≡ None → Acts m (allocation_effect (a.free s x) m.core) m actings.Stuck
    free_missing h = subst (λ y. Acts m y m actings.Stuck) (sym (free_agrees s x m.core)) (subst (λ o. Acts m (given o (λ l. goes_to (record (with_array_in s x None m.core) { local_cells = m.core.local_cells - length l.elements }))) m actings.Stuck) (sym h) (refl, refl))

    freed_of : (e : Kept) (o : Option Local) (xs : List ℤ) → elements_of o ≡ Some xs → e ≡ with_core m (record (with_array_in s x None m.core) { local_cells = m.core.local_cells - length xs })
        → Acts m (given o (λ l. goes_to (record (with_array_in s x None m.core) { local_cells = m.core.local_cells - length l.elements }))) e actings.Done
    freed_of e None xs h g = absurd (cc)
    freed_of e (Some l) xs h g = (refl, g ∙ ap (λ (ys : List ℤ). with_core m (record (with_array_in s x None m.core) { local_cells = m.core.local_cells - length ys })) (let k : xs ≡ l.elements = cc in k))

    pub freed : (d e : Kept) (xs : List ℤ) (n : ℕ) → elements_of (array_in s x m.core) ≡ Some xs → n ≡ m.core.local_cells - length xs → d ≡ with_core m (with_array_in s x None m.core)
        → e ≡ with_core d (record d.core { local_cells = n }) → Acts m (allocation_effect (a.free s x) m.core) e actings.Done
    freed d e xs n h i f g = subst (λ y. Acts m y e actings.Done) (sym (free_agrees s x m.core)) (freed_of e (array_in s x m.core) xs h
        (g ∙ ap (λ (t : Kept). with_core t (record t.core { local_cells = n })) f ∙ ap (λ (t : ℕ). with_core m (record (with_array_in s x None m.core) { local_cells = t })) i))

  -- an array of the frame with these bounds, and zeros
  module _ (x rank : ℕ) where
    abbrev lays : List ℤ → Core → Acted
    lays ns d = laid here x rank (pairs_in ns) d

    pub lay_missing : (n : ℕ) → n ≡ bounds_size rank → length m.core.values < n → Acts m (allocation_effect (a.lay_out x rank) m.core) m actings.Stuck
    lay_missing n i h = took_none m m.core (bounds_size rank) lays (omega arith)

    lay_by : (e : Kept) (w : Acting) (ns : List ℤ) → bounds_size rank ≤ length m.core.values → ns ≡ reverse (take (bounds_size rank) m.core.values)
        → Acts m (lays ns (with_values m.core (drop (bounds_size rank) m.core.values))) e w → Acts m (allocation_effect (a.lay_out x rank) m.core) e w
    lay_by e w ns h j g = took m e w m.core (bounds_size rank) lays h (subst (λ ts. Acts m (lays ts (with_values m.core (drop (bounds_size rank) m.core.values))) e w) j g)

    module _ (ns : List ℤ) (h : bounds_size rank ≤ length m.core.values) (j : ns ≡ reverse (take (bounds_size rank) m.core.values)) where
      pub lay_high : 3 < rank → Acts m (allocation_effect (a.lay_out x rank) m.core) m (actings.Fault 11)
      lay_high l = lay_by m (actings.Fault 11) ns h j (laid_high here x rank ns (with_values m.core (drop (bounds_size rank) m.core.values)) l)

      pub lay_full : rank ≤ 3 → m.core.array_room < cells_with here x ns → Acts m (allocation_effect (a.lay_out x rank) m.core) m (actings.Fault 11)
      lay_full l f = lay_by m (actings.Fault 11) ns h j (laid_few here x rank ns (with_values m.core (drop (bounds_size rank) m.core.values)) m (actings.Fault 11) l
          (rw (lt-leb (cells_with here x ns) m.core.array_room f) (refl, refl)))

      pub lay_done : (d e : Kept) (n : ℕ) → rank ≤ 3 → cells_with here x ns ≤ m.core.array_room → d ≡ with_core m (with_zeros here x ns m.core) → n ≡ bounds_size rank
          → e ≡ with_core d (with_values d.core (drop n d.core.values)) → Acts m (allocation_effect (a.lay_out x rank) m.core) e actings.Done
      lay_done d e n l f q i g = lay_by e actings.Done ns h j (laid_few here x rank ns (with_values m.core (drop (bounds_size rank) m.core.values)) e actings.Done l
          (rw (le-leb (cells_with here x ns) m.core.array_room f) (
            refl,
            g ∙ ap (λ (t : Kept). with_core t (with_values t.core (drop n t.core.values))) q ∙ ap (λ (t : ℕ). with_core m (with_values (with_zeros here x ns m.core) (drop t m.core.values))) i,
          )))
