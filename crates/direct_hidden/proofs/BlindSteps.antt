-- What stands around operands, whatever stands in hidden cells.
use Rattle.std.proofs.Common.{refl, ℕ, zero, suc, ◌-◌, ◌+◌, ◌==◌, ◌||◌, ℤ, pos, negsuc, not, Bool, true, false, cond, nat_le, nat_lt, List, [], ◌∷◌, length, map, replicate, Option, None, Some, slice_get}
use Rattle.std.specs.Ordering.{int_eq}
use Rattle.caf_base.specs.declared.value.Kind.TheVariants as kinds
use Rattle.caf_base.specs.declared.place.ImageNo.{ImageNo}
use Rattle.caf_base.specs.Arithmetic.{number_of, fits_kind}
use Rattle.caf_events.specs.declared.ask.Ask.TheVariants as asked
use Rattle.caf_events.specs.declared.reply.Reply.{Reply}
use Rattle.caf_events.specs.declared.reply.Reply.TheVariants as replies
use Rattle.checked_tree.specs.declared.expr.WrittenOrder.{WrittenOrder}
use Rattle.checked_tree.specs.declared.expr.WrittenOrder.TheVariants as orders
use Rattle.image_acts.specs.Statuses.{most_access_cells, most_cells, failed_image}
use Rattle.image_acts.specs.Faults.{overflow, no_team, cobounds_fault, not_established, cells_fault, bounds_fault, not_allocated, shape_fault, room}
use Rattle.image_acts.specs.Acts.{Scope}
use Rattle.image_acts.specs.Core.{Own}
use Rattle.image_acts.specs.Operate.Asking.{span_of}
use Rattle.image_acts.specs.Places.{Place, Subscript, no_place, extents_of, cells_of, place_of, empty_place, spread_of, is_empty, offsets, with_elements_at}
use Rattle.image_acts.specs.Teams.{is_in, team_in, is_index_of, index_of, cosubscripts_behind, member_at}
use Rattle.image_acts.specs.Words.{word}
use Rattle.direct_meaning.specs.States.{State, with_array, own_in}
use Rattle.direct_meaning.specs.Outcomes.{Does, giving, fault, nothing_said, ◌▹◌, asking, unless, or_fault, of_some, of_found, changing}
use Rattle.direct_meaning.specs.Values.{Value, number, array, as_number, ◌▹ℤ◌, using, set_elements, allocated, part_of, elements_of, local_part, value_of_rank, coarray_part, part_of_own, owned, need_own, read_part, read_values, whole_bounds, default_kind, dimension}
use Rattle.direct_meaning.specs.Images.{the, own_index, members, current_team, own_team, known_team, numbered_team, sibling, image_in, selected_image, this_image, images_of_number, team_of_level, parent_of, numbered_in, cosubscript, is_established, image, team, status, indices}
use Rattle.direct_meaning.specs.Expressions.{Target, nowhere, variable as to_variable, element, set_target, read_from, status_of_image, scalars_as_written, scalar_as_written, as_written, array_of}
use Rattle.direct_hidden.specs.Hiding.{IsBlind}
use Rattle.direct_hidden.proofs.Blind.{b_then, b_giving, b_cond, b_unless, b_found, b_some, b_or_fault, b_asking, b_number, b_scalar_then, b_the, b_set_scalar, b_array_set, b_allocated}

-- parts and values
pub b_using : (n : ℕ) → IsBlind (using n)
b_using n hs l s =
    b_unless room (nat_le (s.used + n) most_cells) (λ m t. giving tt m (record t { used = t.used + n })) (λ gs m t. (refl, (refl, refl))) hs l s

pub b_part_of : (bs : List (ℤ × ℤ)) (xs : List Subscript) → IsBlind (part_of bs xs)
b_part_of bs xs = b_cond (nat_lt (spread_of bs) 9223372036854775808) (of_found (place_of bs xs))
    (cond (is_empty bs) (of_found (empty_place bs xs)) nothing_said) (b_found (place_of bs xs))
    (b_cond (is_empty bs) (of_found (empty_place bs xs)) nothing_said (b_found (empty_place bs xs)) (λ hs l s. tt))

pub b_value_of : (rank : ℕ) (ns : List ℕ) (vs : List ℤ) → IsBlind (value_of_rank rank ns vs)
b_value_of zero ns [] = λ hs l s. tt
b_value_of zero ns (v ∷ vs) = b_giving (number v)
b_value_of (suc r) ns vs = b_then (using (length vs)) (λ u. giving (array (record { extents = ns; elements = vs }))) (b_using (length vs))
    (λ u. b_giving (array (record { extents = ns; elements = vs })))

pub b_local_part : (c : Scope) (x rank : ℕ) (xs : List Subscript) → IsBlind (local_part c x rank xs)
b_local_part c x rank xs =
    b_then (allocated c x) (λ w. part_of w.bounds xs ▹ (λ p. of_some (elements_of w p) ▹ (λ vs. value_of_rank rank (extents_of p) vs)))
    (b_allocated c x)
    (λ w. b_then (part_of w.bounds xs) (λ p. of_some (elements_of w p) ▹ (λ vs. value_of_rank rank (extents_of p) vs)) (b_part_of w.bounds xs)
    (λ p. b_then (of_some (elements_of w p)) (λ vs. value_of_rank rank (extents_of p) vs) (b_some (elements_of w p))
    (λ vs. b_value_of rank (extents_of p) vs)))

b_part_of_own : (o : Option Own) (rank : ℕ) (xs : List Subscript) → IsBlind (part_of_own o rank xs)
b_part_of_own None rank xs = b_giving (no_place rank)
b_part_of_own (Some w) rank xs = b_part_of w.bounds xs

pub b_coarray_part : (k rank : ℕ) (xs : List Subscript) → IsBlind (coarray_part k rank xs)
b_coarray_part k rank xs = λ hs l s. b_part_of_own (own_in k s) rank xs hs l s

pub b_owned : (k : ℕ) → IsBlind (owned k)
b_owned k = λ hs l s. b_or_fault not_allocated (own_in k s) hs l s

pub b_need_own : (b : Bool) (k : ℕ) → IsBlind (need_own b k)
b_need_own true k = b_giving tt
b_need_own false k = b_then (owned k) (λ o. giving tt) (b_owned k) (λ o. b_giving tt)

pub b_this_image : (p : Place) → IsBlind (this_image p)
b_this_image p = λ hs l s. b_unless cells_fault (nat_le (cells_of p) most_access_cells) (giving s.me) (b_giving s.me) hs l s

b_image_in : (o : Own) (cs : List ℤ) (m : ℕ) (p : Place) → IsBlind (image_in o cs m p)
b_image_in o cs m p hs l s =
    let i : ℕ = index_of o cs (length (members m s)) in
    let G : Does ℕ = giving (member_at (members m s) i) in
    let C : Does ℕ = unless cells_fault (nat_le (cells_of p) most_access_cells) G in
    b_unless cobounds_fault (not (i == 0) || (cells_of p == 0)) (unless not_established (is_established o.team m s) C)
    (b_unless not_established (is_established o.team m s) C
    (b_unless cells_fault (nat_le (cells_of p) most_access_cells) G (b_giving (member_at (members m s) i)))) hs l s

pub b_selected_image : (k : ℕ) (cs : List ℤ) (m : ℕ) (p : Place) → IsBlind (selected_image k cs m p)
b_selected_image k cs m p = λ hs l s. b_then (or_fault not_established (own_in k s)) (λ o. image_in o cs m p)
    (b_or_fault not_established (own_in k s)) (λ o. b_image_in o cs m p) hs l s

pub b_set_elements : (c : Scope) (x : ℕ) (p : Place) (ws : List ℤ) → IsBlind (set_elements c x p ws)
b_set_elements c x p ws =
    b_then (allocated c x) (λ w. or_fault shape_fault (elements_of w p) ▹
    (λ vs. changing (with_array c x (record w { elements = with_elements_at (offsets p) ws w.elements })))) (b_allocated c x)
    (λ w. b_then (or_fault shape_fault (elements_of w p))
    (λ vs. changing (with_array c x (record w { elements = with_elements_at (offsets p) ws w.elements })))
    (b_or_fault shape_fault (elements_of w p))
    (λ vs. b_array_set c x (record w { elements = with_elements_at (offsets p) ws w.elements })))

pub b_set_target : (g : Target) (v : ℤ) → IsBlind (set_target g v)
b_set_target nowhere v = b_giving tt
b_set_target (to_variable c x) v = b_set_scalar c x v
b_set_target (element c x p) v = b_set_elements c x p (v ∷ [])

b_read_values : (p : Place) (r : Reply) → IsBlind (read_values p r)
b_read_values p (replies.Values vs) = b_cond (length vs == cells_of p) (giving (map number_of vs, pos 0)) nothing_said
    (b_giving (map number_of vs, pos 0)) (λ hs l s. tt)
b_read_values p replies.Dead = b_giving (replicate (cells_of p) (pos 0), failed_image)
b_read_values p replies.Absent = λ hs l s. refl
b_read_values p r = λ hs l s. tt

pub b_read_part : (k : ℕ) (o : ImageNo) (p : Place) → IsBlind (read_part k o p)
b_read_part k o p =
    b_cond (cells_of p == 0) (giving ([], pos 0)) (asking (asked.Read o (span_of k p)) ▹ (λ r. read_values p r)) (b_giving ([], pos 0))
    (b_then (asking (asked.Read o (span_of k p))) (λ r. read_values p r) (b_asking (asked.Read o (span_of k p))) (λ r. b_read_values p r))

pub b_read_from : (k : ℕ) (p : Place) (rank i : ℕ) (g : Target) → IsBlind (read_from k p rank i g)
b_read_from k p rank i g =
    b_then (read_part k (image i) p) (λ r. set_target g r.1 ▹ (λ u. value_of_rank rank (extents_of p) r.0)) (b_read_part k (image i) p)
    (λ r. b_then (set_target g r.1) (λ u. value_of_rank rank (extents_of p) r.0) (b_set_target g r.1) (λ u. b_value_of rank (extents_of p) r.0))

-- teams
pub b_own_team : (v : ℤ) → IsBlind (own_team v)
b_own_team (pos n) = λ hs l s. b_unless no_team (is_in n s.teams) (giving n) (b_giving n) hs l s
b_own_team (negsuc n) = λ hs l s. tt

pub b_known_team : (n : ℕ) → IsBlind (known_team n)
b_known_team n = λ hs l s. b_or_fault no_team (team_in n s.known) hs l s

pub b_numbered_team : (v : ℤ) → IsBlind (numbered_team v)
b_numbered_team v = λ hs l s. b_or_fault no_team (sibling (team_in (current_team s) s.known) v s.known) hs l s

pub b_current_team : IsBlind (the current_team)
b_current_team = b_the current_team (λ hs s. refl)

pub b_team_of_level : (v : ℤ) → IsBlind (team_of_level v)
b_team_of_level v =
    b_cond (int_eq v (pos 1)) (giving 1) (cond (int_eq v (pos 2)) (the (λ s. parent_of s.teams))
    (cond (int_eq v (pos 3)) (the current_team) (fault no_team))) (b_giving 1)
    (b_cond (int_eq v (pos 2)) (the (λ s. parent_of s.teams)) (cond (int_eq v (pos 3)) (the current_team) (fault no_team))
    (b_the (λ s. parent_of s.teams) (λ hs s. refl))
    (b_cond (int_eq v (pos 3)) (the current_team) (fault no_team) b_current_team (λ hs l s. refl)))

pub b_images_of_number : (v : ℤ) → IsBlind (images_of_number v)
b_images_of_number v =
    b_cond (int_eq v (negsuc 0)) (the (λ s. s.images)) (numbered_team v ▹ (λ k. giving (length k.members)))
    (b_the (λ s. s.images) (λ hs s. refl))
    (b_then (numbered_team v) (λ k. giving (length k.members)) (b_numbered_team v) (λ k. b_giving (length k.members)))

b_numbered_in : (cs : List ℤ) (v : ℤ) → IsBlind (numbered_in cs v)
b_numbered_in cs (pos zero) = λ hs l s. refl
b_numbered_in cs (pos (suc d)) =
    b_then (or_fault bounds_fault (slice_get cs d)) (λ v. unless overflow (fits_kind kinds.I4 v) (giving (number v)))
    (b_or_fault bounds_fault (slice_get cs d))
    (λ v. b_unless overflow (fits_kind kinds.I4 v) (giving (number v)) (b_giving (number v)))
b_numbered_in cs (negsuc d) = λ hs l s. refl

pub b_cosubscript : (k : ℕ) (v : ℤ) (m : ℕ) → IsBlind (owned k ▹ (λ w. cosubscript w v m))
b_cosubscript k v m = b_then (owned k) (λ w. cosubscript w v m) (b_owned k)
    (λ w hs l s. b_numbered_in (cosubscripts_behind w.lowers w.extents (own_index m s - 1)) v hs l s)

b_status : (r : Reply) → IsBlind (status r)
b_status (replies.Number s) = b_giving s
b_status r = λ hs l s. tt

pub b_indices : (r : Reply) → IsBlind (indices r)
b_indices (replies.Indices ns) = b_giving (map (λ n. pos n) ns)
b_indices r = λ hs l s. tt

pub b_status_of_image : (v : ℤ) (m : ℕ) → IsBlind (own_team (pos m) ▹ (λ q. status_of_image q v))
b_status_of_image v m = b_then (own_team (pos m)) (λ q. status_of_image q v) (b_own_team (pos m))
    (λ q. b_then (the (members q)) (λ ms. unless cobounds_fault (is_index_of (length ms) v)
    (asking (asked.Status (team q) (word v)) ▹ (λ r. status r ▹ (λ z. giving (number z))))) (b_the (members q) (λ hs s. refl))
    (λ ms. b_unless cobounds_fault (is_index_of (length ms) v)
    (asking (asked.Status (team q) (word v)) ▹ (λ r. status r ▹ (λ z. giving (number z))))
    (b_then (asking (asked.Status (team q) (word v))) (λ r. status r ▹ (λ z. giving (number z))) (b_asking (asked.Status (team q) (word v)))
    (λ r. b_then (status r) (λ z. giving (number z)) (b_status r) (λ z. b_giving (number z))))))

-- the images of a list
b_listed : (vs : List ℤ) → IsBlind (using (length vs) ▹ (λ u. giving (array_of vs)))
b_listed vs = b_then (using (length vs)) (λ u. giving (array_of vs)) (b_using (length vs)) (λ u. b_giving (array_of vs))

pub b_failed : (m : ℕ) → IsBlind (asking (asked.Failed (team m)) ▹ (λ r. indices r ▹ (λ vs. using (length vs) ▹ (λ u. giving (array_of vs)))))
b_failed m = b_then (asking (asked.Failed (team m))) (λ r. indices r ▹ (λ vs. using (length vs) ▹ (λ u. giving (array_of vs))))
    (b_asking (asked.Failed (team m)))
    (λ r. b_then (indices r) (λ vs. using (length vs) ▹ (λ u. giving (array_of vs))) (b_indices r) b_listed)

pub b_stopped : (m : ℕ) → IsBlind (asking (asked.Stopped (team m)) ▹ (λ r. indices r ▹ (λ vs. using (length vs) ▹ (λ u. giving (array_of vs)))))
b_stopped m = b_then (asking (asked.Stopped (team m))) (λ r. indices r ▹ (λ vs. using (length vs) ▹ (λ u. giving (array_of vs))))
    (b_asking (asked.Stopped (team m)))
    (λ r. b_then (indices r) (λ vs. using (length vs) ▹ (λ u. giving (array_of vs))) (b_indices r) b_listed)

-- bounds
pub b_whole_bounds : (bs : List (ℤ × ℤ)) → IsBlind (whole_bounds bs)
b_whole_bounds bs = b_cond (nat_le (length bs) 3) (giving bs) nothing_said (b_giving bs) (λ hs l s. tt)

pub b_default_kind : (v : ℤ) → IsBlind (default_kind v)
b_default_kind v = b_unless overflow (fits_kind kinds.I4 v) (giving (number v)) (b_giving (number v))

b_dimension : (v : ℤ) (bs : List (ℤ × ℤ)) → IsBlind (dimension v bs)
b_dimension (pos zero) bs = λ hs l s. refl
b_dimension (pos (suc n)) bs = b_or_fault bounds_fault (slice_get bs n)
b_dimension (negsuc n) bs = λ hs l s. refl

pub b_inquired : (f : ℤ × ℤ → ℤ) (bs : List (ℤ × ℤ)) (y : Value) → IsBlind (as_number y ▹ (λ n. dimension n bs ▹ (λ b. default_kind (f b))))
b_inquired f bs y = b_then (as_number y) (λ n. dimension n bs ▹ (λ b. default_kind (f b))) (b_number y)
    (λ n. b_then (dimension n bs) (λ b. default_kind (f b)) (b_dimension n bs) (λ b. b_default_kind (f b)))

-- two as they are written
pub b_written : {X Y Z : Type 0} (o : WrittenOrder) (m : Does X) (n : Does Y) (f : X → Y → Does Z) → IsBlind m → IsBlind n
    → ((x : X) (y : Y) → IsBlind (f x y)) → IsBlind (as_written o m n f)
b_written orders.Same m n f h k g = b_then m (λ x. n ▹ (λ y. f x y)) h (λ x. b_then n (λ y. f x y) k (λ y. g x y))
b_written orders.Reversed m n f h k g = b_then n (λ y. m ▹ (λ x. f x y)) k (λ y. b_then m (λ x. f x y) h (λ x. g x y))

pub b_scalars_written : {Z : Type 0} (o : WrittenOrder) (m n : Does Value) (f : ℤ → ℤ → Does Z) → IsBlind m → IsBlind n
    → ((x y : ℤ) → IsBlind (f x y)) → IsBlind (scalars_as_written o m n f)
b_scalars_written orders.Same m n f h k g = b_scalar_then m (λ x. n ▹ℤ (λ y. f x y)) h (λ x. b_scalar_then n (λ y. f x y) k (λ y. g x y))
b_scalars_written orders.Reversed m n f h k g = b_scalar_then n (λ y. m ▹ℤ (λ x. f x y)) k
    (λ y. b_scalar_then m (λ x. f x y) h (λ x. g x y))

pub b_scalar_written : {Y Z : Type 0} (o : WrittenOrder) (m : Does Value) (n : Does Y) (f : ℤ → Y → Does Z) → IsBlind m → IsBlind n
    → ((x : ℤ) (y : Y) → IsBlind (f x y)) → IsBlind (scalar_as_written o m n f)
b_scalar_written orders.Same m n f h k g = b_scalar_then m (λ x. n ▹ (λ y. f x y)) h (λ x. b_then n (λ y. f x y) k (λ y. g x y))
b_scalar_written orders.Reversed m n f h k g = b_then n (λ y. m ▹ℤ (λ x. f x y)) k (λ y. b_scalar_then m (λ x. f x y) h (λ x. g x y))
