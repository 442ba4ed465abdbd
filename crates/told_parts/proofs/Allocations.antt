-- ALLOCATE and DEALLOCATE: what is allocated isn't there and has room, and what is deallocated is there, by the tests
-- directly before.
use Rattle.std.proofs.Common.{◌≡◌, ℕ, suc, ◌+◌, ◌-◌, ◌≤◌, Bool, true, false, cond, ◌&&◌, not, List, [], ◌∷◌, take, drop, length, slice_get, slice_set, refl, sym, subst, ap, ◌∙◌, nat_le, nat_eq, arith}
use Rattle.std.specs.Prelude.{ℤ, pos, int_le, Option, None, Some, is_some}
use Rattle.std.proofs.lemmas.Bool.{and_parts, or_parts, eq-eqb}
use Rattle.caf_base.specs.Arithmetic.{truth, is_true, natural}
use Rattle.caf_events.specs.declared.ask.Ask.TheVariants as asks
use Rattle.coarray_types.specs.Places.{size_of}
use Rattle.walk_theory.specs.Language.{goes_to, asking}
use Rattle.walk_theory.specs.Syntax.{Parts, end_parts}
use Rattle.checked_tree.specs.declared.data.Object.{Object}
use Rattle.checked_tree.specs.declared.data.Object.TheVariants as objects
use Rattle.checked_tree.specs.Statements as s
use Rattle.image_acts.specs.Statuses.{bad_argument, most_cells}
use Rattle.image_acts.specs.Faults.{room}
use Rattle.image_acts.specs.Acts as a
use Rattle.image_acts.specs.Acts.{Act, constant, operator, bounded, allocation, selector, ask}
use Rattle.image_acts.specs.Core.{Core, Own, Local, Frame, with_values, pushed}
use Rattle.image_acts.specs.Frames.{joined, pairs_in, array_in, with_array_in, with_frame, with_last, zeros_in, arrays_of_frames, cells_in_frames}
use Rattle.image_acts.specs.Owning.{own_in, with_own}
use Rattle.image_acts.specs.Teams.{current_team}
use Rattle.image_acts.specs.Taking.{Acted, given, taken, taking, unless}
use Rattle.image_acts.specs.Meaning.{settled, effect_of}
use Rattle.image_acts.specs.Operate.Allocating.{bounds_size, cobounds_size, are_cobounds, are_of_kind_4, planned, sum_of_cells, is_well, own_of, laid, made, noted, freed, own_freed}
use Rattle.image_acts.specs.Operate.Variables.{if_room}
use Rattle.image_acts.specs.Operate.Asking.{cells_word}
use Rattle.tree_meaning.specs.Sequences.{◌▸◌, doing, nothing, pushing, choosing}
use Rattle.tree_meaning.specs.Allocation as alloc
use Rattle.told_walks.specs.Asked.{Told, IsKnown, EffectNames, PartsName, told_next, cells_in}
use Rattle.told_walks.proofs.CalmActs.{known_of, Known, framed}
use Rattle.told_walks.proofs.Acts.{as_known}
use Rattle.told_walks.proofs.Parts.{Within, Safe, no_parts, one, both}
use Rattle.told_parts.proofs.Sizes.{size_told, made_known, freed_known, set_other, bounds_beneath, small_sum, natural_most}
use Rattle.told_parts.proofs.Rounds.{allocate_round, deallocate_then}

-- ---- tests
unless_then : (x : Act) (n : ℕ) (b : Bool) (e : Acted) (After : Told → Core → Type 0) (k : Told) → EffectNames (settled x e) After k → EffectNames (settled x (unless n b e)) After k
unless_then x n true e After k h = h
unless_then x n false e After k h = tt

both_then : (b t : Bool) (After : Told → Core → Type 0) (k : Told) (c : Core) → After k (pushed (truth (b && t)) c) → EffectNames (effect_of (operator a.both) (pushed (truth t) (pushed (truth b) c))) After k
both_then true true After k c h = h
both_then true false After k c h = h
both_then false true After k c h = h
both_then false false After k c h = h

some_there : (x : Option Own) → is_some x ≡ true → (o : Own) × (x ≡ Some o)
some_there None h = absurd (cc)
some_there (Some o) h = (o, refl)

none_there : (x : Option Own) → not (is_some x) ≡ true → x ≡ None
none_there None h = refl
none_there (Some o) h = absurd (cc)

true_number : (b : Bool) → is_true (truth b) ≡ b
true_number true = refl
true_number false = refl

apart_from : (m n : ℕ) → nat_eq m n ≡ false → m ≡ n → ⊥
apart_from m n h e = let t = eq-eqb m n e in absurd (let z : false ≡ true = sym h ∙ t in cc)

-- ---- where no object stands twice, the choice is by the truth value on top; else the one is refused
module _ (xs : List Object) (p rest : Parts Act) (safe : Safe rest) where
  abbrev choice : Parts Act
  choice = choosing p (pushing bad_argument) ▸ rest

  refused : (k : Told) (c : Core) → IsKnown k c → PartsName (pushing bad_argument) (PartsName end_parts (PartsName rest IsKnown)) k c
  refused k c i = (both (one {x = constant bad_argument} tt refl) (both no_parts safe)).names k c i

  chosen : (k : Told) (c : Core) (b : Bool) → IsKnown k c → (b ≡ true → alloc.has_twice xs ≡ false → PartsName p (PartsName rest IsKnown) k c) → PartsName (alloc.named_once xs ▸ choice) IsKnown k (pushed (truth b) c)
  chosen k c b i h = by (alloc.has_twice xs) b refl refl
    where
      by : (t u : Bool) → alloc.has_twice xs ≡ t → b ≡ u → PartsName (cond t (doing (constant (pos 0) ∷ operator a.both ∷ [])) nothing) (PartsName choice IsKnown) k (pushed (truth u) c)
      by true true e f = refused k c i
      by true false e f = refused k c i
      by false true e f = h f e
      by false false e f = refused k c i

-- ---- the plan of ALLOCATE: these numbers stand beneath it, and these coarrays are there
module _ (vs : List ℤ) (os : List (Option Own)) where
  -- none of the coarrays is there, and with them so many cells have room
  abbrev pub Planned : List s.Allocation → ℕ → ℕ → Type 0
  Planned [] n cells = cells ≤ most_cells
  Planned (s.allocate_local v type bs ∷ xs) n cells = Planned xs n cells
  Planned (s.allocate_coarray c bs cs l ∷ xs) n cells =
      (joined (slice_get os c) ≡ None) × (p : List ℤ × List ℤ) × (taken (bounds_size (length bs) + cobounds_size (length cs + 1)) (drop (alloc.object_sizes xs + n) vs) [] ≡ Some p)
      × Planned xs n (cells + size_of (pairs_in (take (bounds_size (length bs)) p.0)))

  planned_room : (xs : List s.Allocation) (n cells : ℕ) → Planned xs n cells → cells ≤ most_cells
  planned_room [] n cells h = h
  planned_room (s.allocate_local v type bs ∷ xs) n cells h = planned_room xs n cells h
  planned_room (s.allocate_coarray c bs cs l ∷ xs) n cells h = let r = planned_room xs n (cells + size_of (pairs_in (take (bounds_size (length bs)) h.1.0))) h.3 in omega arith

-- what a part of the plan says of the whole one
abbrev So : (vs : List ℤ) (c : Core) → List s.Allocation → ℕ → (l m w : ℤ) → ℤ → ℤ → Type 0
So vs c xs n l m w m' w' = is_true w' ≡ true → natural m' ≤ most_cells → (is_true w ≡ true) × Planned vs c.coarrays xs n (natural m)

three_behind : (depth : ℕ) (l m w : ℤ) (vs : List ℤ) → drop (depth + 3) (l ∷ m ∷ w ∷ vs) ≡ drop depth vs
three_behind depth l m w vs = ap (λ z. drop z (l ∷ m ∷ w ∷ vs)) (let e : depth + 3 ≡ suc (suc (suc depth)) = omega arith in e)

module _ (n : ℕ) (After : Told → Core → Type 0) (k : Told) (c : Core) (vs : List ℤ) where
  abbrev at : ℤ → ℤ → ℤ → Core
  at l m w = with_values c (l ∷ m ∷ w ∷ vs)

  -- one object
  local_planned : (s' : a.Scope) (x depth rank : ℕ) (l m w : ℤ) (Next : Told → Core → Type 0)
      → ((l' : ℤ) (well : Bool) → Next k (at l' (sum_of_cells m 0) (truth (is_true w && well))))
      → EffectNames (effect_of (allocation (a.plan_local s' x depth rank)) (at l m w)) Next k
  local_planned s' x depth rank l m w Next h = by (taken (bounds_size rank) (drop (depth + 3) (l ∷ m ∷ w ∷ vs)) [])
    where
      by : (o : Option (List ℤ × List ℤ))
          → EffectNames (settled (allocation (a.plan_local s' x depth rank)) (given o (λ p. taking 3 (at l m w) (λ plan d. planned (not (is_some (array_in s' x d)) && are_of_kind_4 p.0) 0 (size_of (pairs_in p.0)) plan d)))) Next k
      by None = tt
      by (Some p) = h (sum_of_cells l (size_of (pairs_in p.0))) (not (is_some (array_in s' x (with_values c vs))) && are_of_kind_4 p.0)

  abbrev plan_one : ℕ → ℕ → (l m w : ℤ) → List ℤ × List ℤ → Acted
  plan_one y rank l m w p =
      taking 3 (at l m w) (λ plan d. planned (not (is_some (own_in d y)) && (are_of_kind_4 p.0 && are_cobounds (drop (bounds_size rank) p.0))) (size_of (pairs_in (take (bounds_size rank) p.0))) 0 plan d)

  coarray_planned : (y depth rank corank : ℕ) (l m w : ℤ) (Next : Told → Core → Type 0)
      → ((p : List ℤ × List ℤ) (well : Bool) → taken (bounds_size rank + cobounds_size corank) (drop depth vs) [] ≡ Some p
      → Next k (at (sum_of_cells l 0) (sum_of_cells m (size_of (pairs_in (take (bounds_size rank) p.0)))) (truth (is_true w && (not (is_some (own_in c y)) && well)))))
      → EffectNames (effect_of (allocation (a.plan_coarray y depth rank corank)) (at l m w)) Next k
  coarray_planned y depth rank corank l m w Next h =
      subst (λ us. EffectNames (settled (allocation (a.plan_coarray y depth rank corank)) (given (taken (bounds_size rank + cobounds_size corank) us []) (λ p. plan_one y rank l m w p))) Next k) (sym (three_behind depth l m w vs))
      (by (taken (bounds_size rank + cobounds_size corank) (drop depth vs) []) refl)
    where
      by : (o : Option (List ℤ × List ℤ)) → taken (bounds_size rank + cobounds_size corank) (drop depth vs) [] ≡ o
          → EffectNames (settled (allocation (a.plan_coarray y depth rank corank)) (given o (λ p. plan_one y rank l m w p))) Next k
      by None e = tt
      by (Some p) e = h p (are_of_kind_4 p.0 && are_cobounds (drop (bounds_size rank) p.0)) e

  -- all objects
  planning_then : (xs : List s.Allocation) (l m w : ℤ) → ((l' m' w' : ℤ) → So vs c xs n l m w m' w' → After k (at l' m' w')) → PartsName (alloc.planning xs n) After k (at l m w)
  planning_then [] l m w h = h l m w (λ t r. (t, r))
  planning_then (s.allocate_local v type bs ∷ xs) l m w h =
      local_planned _ v.variable (alloc.object_sizes xs + n) (length bs) l m w (PartsName (alloc.planning xs n) After)
      (λ l1 well. planning_then xs l1 (sum_of_cells m 0) (truth (is_true w && well))
      (λ l' m' w' f. h l' m' w' (λ t r. (
      let g = f t r in
      let small = small_sum (natural m + 0) most_cells (planned_room vs c.coarrays xs n (natural (sum_of_cells m 0)) g.1) in
      ((and_parts (is_true w) well (sym (true_number (is_true w && well)) ∙ g.0)).0, subst (Planned vs c.coarrays xs n) (small ∙ (let z : natural m + 0 ≡ natural m = omega arith in z)) g.1)))))
  planning_then (s.allocate_coarray y bs cs u ∷ xs) l m w h =
      coarray_planned y (alloc.object_sizes xs + n) (length bs) (length cs + 1) l m w (PartsName (alloc.planning xs n) After)
      (λ p well e. (
      let cells = size_of (pairs_in (take (bounds_size (length bs)) p.0)) in
      let free = not (is_some (own_in c y)) in
      planning_then xs (sum_of_cells l 0) (sum_of_cells m cells) (truth (is_true w && (free && well)))
      (λ l' m' w' f. h l' m' w' (λ t r. (
      let g = f t r in
      let small = small_sum (natural m + cells) most_cells (planned_room vs c.coarrays xs n (natural (sum_of_cells m cells)) g.1) in
      let q = and_parts (is_true w) (free && well) (sym (true_number (is_true w && (free && well))) ∙ g.0) in
      (q.0, (none_there (own_in c y) (and_parts free well q.1).0, p, e, subst (Planned vs c.coarrays xs n) small g.1)))))))

-- ---- the allocations
abbrev with_main : Frame → Core → List Frame → Core
with_main f c [] = record c { frame = f }
with_main f c (g ∷ gs) = record c { callers = with_last f c.callers }

main_values : (f : Frame) (c : Core) (gs : List Frame) → (with_main f c gs).values ≡ c.values
main_values f c [] = refl
main_values f c (g ∷ gs) = refl

framed_values : (s' : a.Scope) (f : Frame) (c : Core) → (with_frame s' f c).values ≡ c.values
framed_values a.here f c = refl
framed_values a.host f c = main_values f c c.callers

local_made : (s' : a.Scope) (x depth rank : ℕ) (After : Told → Core → Type 0) (k : Told) (c : Core) → ((d : Core) → d.values ≡ c.values → known_of d ≡ known_of c → After k d)
    → EffectNames (effect_of (allocation (a.make s' x depth rank)) c) After k
local_made s' x depth rank After k c h = by (taken (bounds_size rank) (drop depth c.values) [])
  where
    by : (o : Option (List ℤ × List ℤ)) → EffectNames (settled (allocation (a.make s' x depth rank)) (given o (λ p. made s' x rank (pairs_in p.0) c))) After k
    by None = tt
    by (Some p) =
        let act' = allocation (a.make s' x depth rank) in
        let bs = pairs_in p.0 in
        let d = record c { local_cells = c.local_cells + size_of bs } in
        let e = with_array_in s' x (Some (zeros_in bs)) d in
        unless_then act' room (nat_le (c.local_cells + size_of bs) most_cells) (laid s' x rank bs d) After k
        (unless_then act' room (nat_le rank 3) (if_room e) After k (unless_then act' room (nat_le (cells_in_frames (arrays_of_frames e)) e.array_room) (goes_to e) After k (h e (framed_values s' _ d) (framed s' _ d))))

local_freed : (s' : a.Scope) (x : ℕ) (After : Told → Core → Type 0) (k : Told) (c : Core) → ((d : Core) → known_of d ≡ known_of c → After k d) → EffectNames (effect_of (allocation (a.free s' x)) c) After k
local_freed s' x After k c h = by (array_in s' x c)
  where
    by : (o : Option Local) → EffectNames (settled (allocation (a.free s' x)) (freed s' x o c)) After k
    by None = tt
    by (Some l) = h (record (with_array_in s' x None c) { local_cells = c.local_cells - length l.elements }) (framed s' _ c)

coarrays_kept : (c d : Core) → known_of d ≡ known_of c → (d.coarrays ≡ c.coarrays) × (d.coarray_cells ≡ c.coarray_cells)
coarrays_kept c d e = (ap (λ (z : Known). z.1.1.1.1.0) e, ap (λ (z : Known). z.1.1.1.1.1) e)

-- what was planned of other objects is as before
planned_with : (vs : List ℤ) (os : List (Option Own)) (y : ℕ) (o : Option Own) (xs : List s.Allocation) (n cells : ℕ) → alloc.stands_in (objects.Coarray y) (alloc.objects_of xs) ≡ false → Planned vs os xs n cells → Planned vs (slice_set os y o) xs n cells
planned_with vs os y o [] n cells e h = h
planned_with vs os y o (s.allocate_local v type bs ∷ xs) n cells e h = planned_with vs os y o xs n cells e h
planned_with vs os y o (s.allocate_coarray z bs cs l ∷ xs) n cells e h =
    let q = or_parts (nat_eq y z) (alloc.stands_in (objects.Coarray y) (alloc.objects_of xs)) e in
    (ap joined (set_other os y z o (apart_from y z q.0)) ∙ h.0, h.1, h.2, planned_with vs os y o xs n (cells + size_of (pairs_in (take (bounds_size (length bs)) h.1.0))) q.1 h.3)

-- one coarray: the ask, and its note
module _ (y depth rank corank : ℕ) (After : Told → Core → Type 0) (k : Told) (c : Core) (i : IsKnown k c) (none : joined (slice_get c.coarrays y) ≡ None) (p : List ℤ × List ℤ)
    (there : taken (bounds_size rank + cobounds_size corank) (drop depth c.values) [] ≡ Some p) where
  abbrev bs : List (ℤ × ℤ)
  bs = pairs_in (take (bounds_size rank) p.0)

  abbrev o : Own
  o = own_of bs (drop (bounds_size rank) p.0) (current_team c)

  abbrev noted_so : Core
  noted_so = with_own y (Some o) (c.coarray_cells + size_of bs) c

  note_then : (j : Told) → After j noted_so → EffectNames (effect_of (allocation (a.note_made y depth rank corank)) c) After j
  note_then j h = subst (λ q. EffectNames (settled (allocation (a.note_made y depth rank corank)) (given q (λ u. noted y rank corank (pairs_in (take (bounds_size rank) u.0)) (drop (bounds_size rank) u.0) c))) After j) (sym there)
      (unless_then (allocation (a.note_made y depth rank corank)) room (nat_le rank 3 && nat_le corank 3) (unless room (nat_le (c.coarray_cells + size_of bs) most_cells) (goes_to noted_so)) After j
      (unless_then (allocation (a.note_made y depth rank corank)) room (nat_le (c.coarray_cells + size_of bs) most_cells) (goes_to noted_so) After j h))

  word_small : (m : ℕ) → m ≤ most_cells → cells_word m ≡ m
  word_small m h = omega arith

  create_then : c.coarray_cells + size_of bs ≤ most_cells → ((j : Told) → IsKnown j noted_so → After j noted_so)
      → PartsName (doing (ask (a.create y (depth + cobounds_size corank) rank) ∷ allocation (a.note_made y depth rank corank) ∷ [])) After k c
  create_then most h =
      let w = word_small (size_of bs) (omega arith) in
      let u = i.in_use in
      let wide : cells_in k.sizes + cells_word (size_of bs) ≤ most_cells = omega arith in
      subst (λ q. EffectNames (settled (ask (a.create y (depth + cobounds_size corank) rank)) (given q (λ v. asking (asks.Create (record { 0 = c.me }) y (cells_word (size_of (pairs_in v.0)))) (λ r. c)))) (PartsName (doing (allocation (a.note_made y depth rank corank) ∷ [])) After) k)
      (sym (bounds_beneath depth (bounds_size rank) (cobounds_size corank) c.values p there)) (
        (i.me, size_told k c y None i none, wide),
        λ r x short. note_then (told_next k (asks.Create (record { 0 = c.me }) y (cells_word (size_of bs))) r)
            (h (told_next k (asks.Create (record { 0 = c.me }) y (cells_word (size_of bs))) r) (made_known k r c y (cells_word (size_of bs)) o short i none w)),
      )

-- all objects
making_then : (xs : List s.Allocation) (n : ℕ) (After : Told → Core → Type 0) → Within IsKnown After → (k : Told) (c : Core) → IsKnown k c → Planned c.values c.coarrays xs n c.coarray_cells → alloc.has_twice (alloc.objects_of xs) ≡ false
    → PartsName (alloc.making xs n) After k c
making_then [] n After h k c i plan once = h k c i
making_then (s.allocate_local v type bs ∷ xs) n After h k c i plan once =
    let apart = (or_parts (alloc.stands_in (objects.Local v) (alloc.objects_of xs)) (alloc.has_twice (alloc.objects_of xs)) once).1 in
    local_made _ v.variable (alloc.object_sizes xs + n) (length bs) (PartsName (alloc.making xs n) After) k c
    (λ d same kept. (
    let q = coarrays_kept c d kept in
    making_then xs n After h k d (as_known k c d kept i)
    (subst (λ us. Planned us d.coarrays xs n d.coarray_cells) (sym same) (subst (λ os. Planned c.values os xs n d.coarray_cells) (sym q.0) (subst (Planned c.values c.coarrays xs n) (sym q.1) plan))) apart))
making_then (s.allocate_coarray y bs cs l ∷ xs) n After h k c i plan once =
    let apart = or_parts (alloc.stands_in (objects.Coarray y) (alloc.objects_of xs)) (alloc.has_twice (alloc.objects_of xs)) once in
    let depth = alloc.object_sizes xs + n in
    let cells = c.coarray_cells + size_of (pairs_in (take (bounds_size (length bs)) plan.1.0)) in
    create_then y depth (length bs) (length cs + 1) (PartsName (alloc.making xs n) After) k c i plan.0 plan.1 plan.2 (planned_room c.values c.coarrays xs n cells plan.3)
    (λ j known. making_then xs n After h j (noted_so y depth (length bs) (length cs + 1) (PartsName (alloc.making xs n) After) k c i plan.0 plan.1 plan.2) known
    (planned_with c.values c.coarrays y (Some (o y depth (length bs) (length cs + 1) (PartsName (alloc.making xs n) After) k c i plan.0 plan.1 plan.2)) xs n cells apart.0 plan.3) apart.1)

allocates : (ns : List ℕ) → Safe (alloc.allocate_round ns)
allocates [] = one {x = constant (pos 0)} tt refl
allocates (n ∷ ns) = allocate_round (n ∷ ns)

-- the statement, behind the values that it takes
module _ (xs : List s.Allocation) (n : ℕ) (rest : Parts Act) (safe : Safe rest) where
  abbrev makes : Parts Act
  makes = alloc.making xs n ▸ alloc.allocate_round (alloc.coarrays_in (alloc.objects_of xs))

  abbrev decides : Parts Act
  decides = alloc.named_once (alloc.objects_of xs) ▸ choosing makes (pushing bad_argument) ▸ rest

  well_parts : (l m w : ℤ) → is_well (w ∷ m ∷ l ∷ []) ≡ true → (is_true w ≡ true) × (natural m ≤ most_cells)
  well_parts l m w h =
      let p = and_parts (is_true w) (int_le m (pos most_cells) && int_le l (pos most_cells)) h in
      (p.0, natural_most m most_cells (and_parts (int_le m (pos most_cells)) (int_le l (pos most_cells)) p.1).0)

  decided : (k : Told) (c : Core) → IsKnown k c → (l m w : ℤ) → So c.values c xs n (pos c.local_cells) (pos c.coarray_cells) (pos 1) m w → PartsName decides IsKnown k (pushed (truth (is_well (w ∷ m ∷ l ∷ []))) c)
  decided k c i l m w so = chosen (alloc.objects_of xs) makes rest safe k c (is_well (w ∷ m ∷ l ∷ [])) i
      (λ well once. (
      let p = well_parts l m w well in
      making_then xs n (PartsName (alloc.allocate_round (alloc.coarrays_in (alloc.objects_of xs)) ▸ rest) IsKnown) (both (allocates (alloc.coarrays_in (alloc.objects_of xs))) safe).names k c i (so p.0 p.1).1 once))

  pub allocating_safe : Safe (doing (allocation a.begin_plan ∷ []) ▸ alloc.planning xs n ▸ doing (allocation a.end_plan ∷ []) ▸ decides)
  allocating_safe = record {
    names = λ k c i. planning_then n (PartsName (doing (allocation a.end_plan ∷ []) ▸ decides) IsKnown) k c c.values xs (pos c.local_cells) (pos c.coarray_cells) (pos 1) (λ l m w so. decided k c i l m w so);
  }

-- ---- DEALLOCATE
-- all coarrays among the objects are there
abbrev There : List (Option Own) → List Object → Type 0
There os [] = Unit {0}
There os (objects.Local v ∷ xs) = There os xs
There os (objects.Constant n ∷ xs) = There os xs
There os (objects.Coarray y ∷ xs) = ((o : Own) × (joined (slice_get os y) ≡ Some o)) × There os xs

there_with : (os : List (Option Own)) (y : ℕ) (o : Option Own) (xs : List Object) → alloc.stands_in (objects.Coarray y) xs ≡ false → There os xs → There (slice_set os y o) xs
there_with os y o [] e h = tt
there_with os y o (objects.Local v ∷ xs) e h = there_with os y o xs e h
there_with os y o (objects.Constant n ∷ xs) e h = there_with os y o xs e h
there_with os y o (objects.Coarray z ∷ xs) e h =
    let q = or_parts (nat_eq y z) (alloc.stands_in (objects.Coarray y) xs) e in
    ((h.0.0, ap joined (set_other os y z o (apart_from y z q.0)) ∙ h.0.1), there_with os y o xs q.1 h.1)

are_then : (xs : List Object) (After : Told → Core → Type 0) (k : Told) (c : Core) (b : Bool) → ((b' : Bool) → (b' ≡ true → (b ≡ true) × There c.coarrays xs) → After k (pushed (truth b') c))
    → PartsName (alloc.are_allocated xs) After k (pushed (truth b) c)
are_then [] After k c b h = h b (λ e. (e, tt))
are_then (objects.Local v ∷ xs) After k c b h =
    let t = is_some (array_in _ v.variable (pushed (truth b) c)) in
    both_then b t (PartsName (alloc.are_allocated xs) After) k c (are_then xs After k c (b && t) (λ b' f. h b' (λ e. (let g = f e in ((and_parts b t g.0).0, g.1)))))
are_then (objects.Constant n ∷ xs) After k c b h = are_then xs After k c b h
are_then (objects.Coarray y ∷ xs) After k c b h =
    let t = is_some (own_in c y) in
    both_then b t (PartsName (alloc.are_allocated xs) After) k c
    (are_then xs After k c (b && t) (λ b' f. h b' (λ e. (let g = f e in let q = and_parts b t g.0 in (q.0, (some_there (own_in c y) q.1, g.1))))))

-- one coarray: the ask, and its note
module _ (y : ℕ) (After : Told → Core → Type 0) (k : Told) (c : Core) (i : IsKnown k c) (o : Own) (there : joined (slice_get c.coarrays y) ≡ Some o) where
  abbrev freed_so : Core
  freed_so = with_own y None (c.coarray_cells - size_of o.bounds) c

  room_left : (ss : List (Option ℕ)) → joined (slice_get ss y) ≡ Some (size_of o.bounds) → size_of o.bounds ≤ cells_in ss
  room_left ss e = by ss y e
    where
      by : (us : List (Option ℕ)) (z : ℕ) → joined (slice_get us z) ≡ Some (size_of o.bounds) → size_of o.bounds ≤ cells_in us
      by [] z f = absurd (cc)
      by (None ∷ us) ℕ.zero f = absurd (cc)
      by (Some m ∷ us) ℕ.zero f = let q : m ≡ size_of o.bounds = cc in omega arith
      by (u ∷ us) (suc z) f = let r = by us z f in omega arith

  delete_then : ((j : Told) → IsKnown j freed_so → After j freed_so) → PartsName (doing (ask (a.delete y) ∷ allocation (a.note_freed y) ∷ [])) After k c
  delete_then h =
      let told = size_told k c y (Some o) i there in
      let low = room_left k.sizes told in
      let u = i.in_use in
      let left : (c.coarray_cells - size_of o.bounds) + size_of o.bounds ≡ c.coarray_cells = omega arith in (
        (i.me, size_of o.bounds, told),
        λ r x short. (
            let j = told_next k (asks.Delete (record { 0 = c.me }) y) r in
            subst (λ q. EffectNames (settled (allocation (a.note_freed y)) (own_freed y q c)) After j) (sym there) (h j (freed_known k r c y (c.coarray_cells - size_of o.bounds) o short i there left))),
      )

freeing_then : (xs : List Object) (After : Told → Core → Type 0) → Within IsKnown After → (k : Told) (c : Core) → IsKnown k c → There c.coarrays xs → alloc.has_twice xs ≡ false → PartsName (alloc.freeing xs) After k c
freeing_then [] After h k c i there once = h k c i
freeing_then (objects.Local v ∷ xs) After h k c i there once =
    let apart = (or_parts (alloc.stands_in (objects.Local v) xs) (alloc.has_twice xs) once).1 in
    local_freed _ v.variable (PartsName (alloc.freeing xs) After) k c (λ d kept. freeing_then xs After h k d (as_known k c d kept i) (subst (λ os. There os xs) (sym (coarrays_kept c d kept).0) there) apart)
freeing_then (objects.Constant n ∷ xs) After h k c i there once = freeing_then xs After h k c i there (or_parts (alloc.stands_in (objects.Constant n) xs) (alloc.has_twice xs) once).1
freeing_then (objects.Coarray y ∷ xs) After h k c i there once =
    let apart = or_parts (alloc.stands_in (objects.Coarray y) xs) (alloc.has_twice xs) once in
    delete_then y (PartsName (alloc.freeing xs) After) k c i there.0.0 there.0.1
    (λ j known. freeing_then xs After h j (freed_so y (PartsName (alloc.freeing xs) After) k c i there.0.0 there.0.1) known (there_with c.coarrays y None xs apart.0 there.1) apart.1)

-- the statement, behind the place of its STAT=
module _ (xs : List Object) (rest : Parts Act) (safe : Safe rest) where
  abbrev frees : Parts Act
  frees = alloc.deallocate_round (alloc.coarrays_in xs) ▸ alloc.freeing xs

  freed_then : (k : Told) (c : Core) → IsKnown k c → There c.coarrays xs → alloc.has_twice xs ≡ false → PartsName frees (PartsName rest IsKnown) k c
  freed_then k c i there once = deallocate_then (alloc.coarrays_in xs) (PartsName (alloc.freeing xs) (PartsName rest IsKnown)) k c i
      (λ j d known kept. freeing_then xs (PartsName rest IsKnown) safe.names j d known (subst (λ os. There os xs) (sym kept) there) once)

  pub deallocating_safe : Safe (pushing (pos 1) ▸ alloc.are_allocated xs ▸ alloc.named_once xs ▸ choosing frees (pushing bad_argument) ▸ rest)
  deallocating_safe = record {
    names = λ k c i. are_then xs (PartsName (alloc.named_once xs ▸ choosing frees (pushing bad_argument) ▸ rest) IsKnown) k c true
        (λ b f. chosen xs frees rest safe k c b i (λ e once. freed_then k c i (f e).1 once));
  }

-- ---- END TEAM: a coarray that was allocated in the team
abbrev is_of_team : Option Own → ℕ → Bool
is_of_team None t = false
is_of_team (Some o) t = nat_eq o.team t

team_there : (x : Option Own) (t : ℕ) → is_of_team x t ≡ true → (o : Own) × (x ≡ Some o)
team_there None t h = absurd (cc)
team_there (Some o) t h = (o, refl)

pub deleting_safe : (y : ℕ) → Safe (doing (bounded (a.made_in_team y) ∷ []) ▸ choosing (doing (ask (a.delete y) ∷ allocation (a.note_freed y) ∷ [])) nothing)
deleting_safe y = record { names = λ k c i. by k c i (is_of_team (own_in c y) (current_team c)) refl }
  where
    by : (k : Told) (c : Core) → IsKnown k c → (b : Bool) → is_of_team (own_in c y) (current_team c) ≡ b → PartsName (choosing (doing (ask (a.delete y) ∷ allocation (a.note_freed y) ∷ [])) nothing) IsKnown k (pushed (truth b) c)
    by k c i true e = let t = team_there (own_in c y) (current_team c) e in delete_then y IsKnown k c i t.0 t.1 (λ j known. known)
    by k c i false e = i
