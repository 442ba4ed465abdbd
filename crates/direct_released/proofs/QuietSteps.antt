-- What stands around operands, where no evaluation cell is taken, leaves those in use as they are.
use Rattle.std.proofs.Common.{◌≡◌, refl, ℕ, zero, suc, ◌-◌, ◌==◌, ◌||◌, ℤ, pos, negsuc, not, Bool, true, false, cond, nat_le, nat_lt, List, [], ◌∷◌, length, map, Option, None, Some, slice_get}
use Rattle.std.specs.Ordering.{int_eq}
use Rattle.caf_base.specs.declared.value.Kind.TheVariants as kinds
use Rattle.caf_base.specs.declared.place.ImageNo.{ImageNo}
use Rattle.caf_base.specs.Arithmetic.{number_of, fits_kind}
use Rattle.caf_events.specs.declared.ask.Ask.TheVariants as asked
use Rattle.caf_events.specs.declared.reply.Reply.{Reply}
use Rattle.caf_events.specs.declared.reply.Reply.TheVariants as replies
use Rattle.walk_theory.specs.Syntax.{Parts}
use Rattle.checked_tree.specs.declared.expr.WrittenOrder.{WrittenOrder}
use Rattle.checked_tree.specs.declared.expr.WrittenOrder.TheVariants as orders
use Rattle.image_acts.specs.Statuses.{most_access_cells}
use Rattle.image_acts.specs.Faults.{overflow, no_team, cobounds_fault, not_established, cells_fault, bounds_fault, not_allocated, shape_fault}
use Rattle.image_acts.specs.Acts.{Act, Scope}
use Rattle.image_acts.specs.Core.{Own}
use Rattle.image_acts.specs.Operate.Asking.{span_of}
use Rattle.image_acts.specs.Places.{Place, Subscript, extents_of, cells_of, place_of, empty_place, spread_of, is_empty, offsets, with_elements_at}
use Rattle.image_acts.specs.Teams.{is_in, team_in, is_index_of, index_of, cosubscripts_behind, member_at}
use Rattle.image_acts.specs.Words.{word}
use Rattle.tree_meaning.specs.Sequences.{◌▸◌, takes, bringing}
use Rattle.tree_meaning.specs.Expressions as parts
use Rattle.tree_meaning.specs.Expressions.{expression, operating, arithmetic_act, relation_act, logic_act, local_value, form_of, is_scalar, stat_of, optional_size, storing_status, reading, needing_own, as_value, count_of}
use Rattle.direct_meaning.specs.States.{State, with_scalar, with_array, array_in, own_in, scalar_in}
use Rattle.direct_meaning.specs.Outcomes.{Does, giving, fault, nothing_said, ◌▹◌, asking, unless, or_fault, of_some, of_found, changing}
use Rattle.direct_meaning.specs.Values.{Value, number, as_number, ◌▹ℤ◌, scalar, set_scalar, set_elements, allocated, part_of, elements_of, local_part, value_of_rank, coarray_part, part_of_own, owned, need_own, read_part, read_values, whole_bounds, default_kind, dimension}
use Rattle.direct_meaning.specs.Images.{the, own_index, members, current_team, own_team, known_team, numbered_team, sibling, image_in, selected_image, this_image, images_of_number, team_of_level, parent_of, numbered_in, cosubscript, is_established, image, team, status}
use Rattle.direct_meaning.specs.Expressions.{Target, nowhere, variable as to_variable, element, set_target, read_from, status_of_image, scalars_as_written, scalar_as_written, as_written}
use Rattle.direct_released.proofs.Quiet.{IsQuiet, q_then, q_giving, q_cond, q_unless, q_found, q_some, q_or_fault, q_asking, q_number, q_scalar_then, scalar_same, array_same, neither}

-- parts one after another, none of which takes a cell
abbrev pub chain : List (Parts Act) → Parts Act → Parts Act
chain [] q = q
chain (p ∷ ps) q = p ▸ chain ps q

pub first_of : (p : Parts Act) (ps : List (Parts Act)) (q : Parts Act) → takes (chain (p ∷ ps) q) ≡ false → takes p ≡ false
first_of p ps q h = (neither (takes p) (takes (chain ps q)) h).0

pub last_of : (ps : List (Parts Act)) (q : Parts Act) → takes (chain ps q) ≡ false → takes q ≡ false
last_of [] q h = h
last_of (p ∷ ps) q h = last_of ps q (neither (takes p) (takes (chain ps q)) h).1

-- what doesn't look at operands
pub q_scalar : (s : Scope) (x : ℕ) → IsQuiet (scalar s x)
q_scalar s x = λ l z. q_some (scalar_in s x z) l z

pub q_the : {X : Type 0} (f : State → X) → IsQuiet (the f)
q_the f = λ l z. (refl, refl)

pub q_allocated : (s : Scope) (x : ℕ) → IsQuiet (allocated s x)
q_allocated s x = λ l z. q_or_fault not_allocated (array_in s x z) l z

pub q_part_of : (bs : List (ℤ × ℤ)) (xs : List Subscript) → IsQuiet (part_of bs xs)
q_part_of bs xs = q_cond (nat_lt (spread_of bs) 9223372036854775808) (of_found (place_of bs xs))
    (cond (is_empty bs) (of_found (empty_place bs xs)) nothing_said) (q_found (place_of bs xs))
    (q_cond (is_empty bs) (of_found (empty_place bs xs)) nothing_said (q_found (empty_place bs xs)) (λ l z. tt))

pub q_scalar_value : (ns : List ℕ) (vs : List ℤ) → IsQuiet (value_of_rank 0 ns vs)
q_scalar_value ns [] = λ l z. tt
q_scalar_value ns (v ∷ vs) = q_giving (number v)

pub q_local_part : (s : Scope) (x : ℕ) (xs : List Subscript) → IsQuiet (local_part s x 0 xs)
q_local_part s x xs =
    q_then (allocated s x) (λ w. part_of w.bounds xs ▹ (λ p. of_some (elements_of w p) ▹ (λ vs. value_of_rank 0 (extents_of p) vs)))
    (q_allocated s x)
    (λ w. q_then (part_of w.bounds xs) (λ p. of_some (elements_of w p) ▹ (λ vs. value_of_rank 0 (extents_of p) vs)) (q_part_of w.bounds xs)
    (λ p. q_then (of_some (elements_of w p)) (λ vs. value_of_rank 0 (extents_of p) vs) (q_some (elements_of w p))
    (λ vs. q_scalar_value (extents_of p) vs)))

pub q_part_of_own : (o : Option Own) (rank : ℕ) (xs : List Subscript) → IsQuiet (part_of_own o rank xs)
q_part_of_own None rank xs = λ l z. (refl, refl)
q_part_of_own (Some w) rank xs = q_part_of w.bounds xs

pub q_coarray_part : (k rank : ℕ) (xs : List Subscript) → IsQuiet (coarray_part k rank xs)
q_coarray_part k rank xs = λ l z. q_part_of_own (own_in k z) rank xs l z

pub q_owned : (k : ℕ) → IsQuiet (owned k)
q_owned k = λ l z. q_or_fault not_allocated (own_in k z) l z

pub q_need_own : (b : Bool) (k : ℕ) → IsQuiet (need_own b k)
q_need_own true k = λ l z. (refl, refl)
q_need_own false k = q_then (owned k) (λ o. giving tt) (q_owned k) (λ o l z. (refl, refl))

pub q_this_image : (p : Place) → IsQuiet (this_image p)
q_this_image p = λ l z. q_unless cells_fault (nat_le (cells_of p) most_access_cells) (giving z.me) (q_giving z.me) l z

pub q_image_in : (o : Own) (cs : List ℤ) (m : ℕ) (p : Place) → IsQuiet (image_in o cs m p)
q_image_in o cs m p l z =
    let i : ℕ = index_of o cs (length (members m z)) in
    let G : Does ℕ = giving (member_at (members m z) i) in
    let C : Does ℕ = unless cells_fault (nat_le (cells_of p) most_access_cells) G in
    q_unless cobounds_fault (not (i == 0) || (cells_of p == 0)) (unless not_established (is_established o.team m z) C)
    (q_unless not_established (is_established o.team m z) C
    (q_unless cells_fault (nat_le (cells_of p) most_access_cells) G (q_giving (member_at (members m z) i)))) l z

pub q_selected_image : (k : ℕ) (cs : List ℤ) (m : ℕ) (p : Place) → IsQuiet (selected_image k cs m p)
q_selected_image k cs m p = λ l z. q_then (or_fault not_established (own_in k z)) (λ o. image_in o cs m p)
    (q_or_fault not_established (own_in k z)) (λ o. q_image_in o cs m p) l z

pub q_set_elements : (s : Scope) (x : ℕ) (p : Place) (ws : List ℤ) → IsQuiet (set_elements s x p ws)
q_set_elements s x p ws =
    q_then (allocated s x) (λ w. or_fault shape_fault (elements_of w p) ▹
    (λ vs. changing (with_array s x (record w { elements = with_elements_at (offsets p) ws w.elements })))) (q_allocated s x)
    (λ w. q_then (or_fault shape_fault (elements_of w p))
    (λ vs. changing (with_array s x (record w { elements = with_elements_at (offsets p) ws w.elements })))
    (q_or_fault shape_fault (elements_of w p))
    (λ vs l z. array_same s x (record w { elements = with_elements_at (offsets p) ws w.elements }) z))

pub q_set_scalar : (s : Scope) (x : ℕ) (v : ℤ) → IsQuiet (set_scalar s x v)
q_set_scalar s x v = q_then (scalar s x) (λ w. changing (with_scalar s x v)) (q_scalar s x) (λ w l z. scalar_same s x v z)

pub q_set_target : (g : Target) (v : ℤ) → IsQuiet (set_target g v)
q_set_target nowhere v = λ l z. (refl, refl)
q_set_target (to_variable s x) v = q_set_scalar s x v
q_set_target (element s x p) v = q_set_elements s x p (v ∷ [])

pub q_read_values : (p : Place) (r : Reply) → IsQuiet (read_values p r)
q_read_values p (replies.Values vs) = q_cond (length vs == cells_of p) (giving (map number_of vs, pos 0)) nothing_said (λ l z. (refl, refl))
    (λ l z. tt)
q_read_values p replies.Dead = λ l z. (refl, refl)
q_read_values p replies.Absent = λ l z. tt
q_read_values p r = λ l z. tt

pub q_read_part : (k : ℕ) (o : ImageNo) (p : Place) → IsQuiet (read_part k o p)
q_read_part k o p =
    q_cond (cells_of p == 0) (giving ([], pos 0)) (asking (asked.Read o (span_of k p)) ▹ (λ r. read_values p r)) (λ l z. (refl, refl))
    (q_then (asking (asked.Read o (span_of k p))) (λ r. read_values p r) (q_asking (asked.Read o (span_of k p))) (λ r. q_read_values p r))

pub q_read_from : (k : ℕ) (p : Place) (i : ℕ) (g : Target) → IsQuiet (read_from k p 0 i g)
q_read_from k p i g =
    q_then (read_part k (image i) p) (λ r. set_target g r.1 ▹ (λ u. value_of_rank 0 (extents_of p) r.0)) (q_read_part k (image i) p)
    (λ r. q_then (set_target g r.1) (λ u. value_of_rank 0 (extents_of p) r.0) (q_set_target g r.1) (λ u. q_scalar_value (extents_of p) r.0))

-- teams
pub q_own_team : (v : ℤ) → IsQuiet (own_team v)
q_own_team (pos n) = λ l z. q_unless no_team (is_in n z.teams) (giving n) (q_giving n) l z
q_own_team (negsuc n) = λ l z. tt

pub q_known_team : (n : ℕ) → IsQuiet (known_team n)
q_known_team n = λ l z. q_or_fault no_team (team_in n z.known) l z

pub q_numbered_team : (v : ℤ) → IsQuiet (numbered_team v)
q_numbered_team v = λ l z. q_or_fault no_team (sibling (team_in (current_team z) z.known) v z.known) l z

pub q_team_of_level : (v : ℤ) → IsQuiet (team_of_level v)
q_team_of_level v =
    q_cond (int_eq v (pos 1)) (giving 1) (cond (int_eq v (pos 2)) (the (λ s. parent_of s.teams))
    (cond (int_eq v (pos 3)) (the current_team) (fault no_team))) (λ l z. (refl, refl))
    (q_cond (int_eq v (pos 2)) (the (λ s. parent_of s.teams)) (cond (int_eq v (pos 3)) (the current_team) (fault no_team))
    (q_the (λ s. parent_of s.teams))
    (q_cond (int_eq v (pos 3)) (the current_team) (fault no_team) (q_the current_team) (λ l z. tt)))

pub q_images_of_number : (v : ℤ) → IsQuiet (images_of_number v)
q_images_of_number v =
    q_cond (int_eq v (negsuc 0)) (the (λ s. s.images)) (numbered_team v ▹ (λ k. giving (length k.members))) (q_the (λ s. s.images))
    (q_then (numbered_team v) (λ k. giving (length k.members)) (q_numbered_team v) (λ k. q_giving (length k.members)))

pub q_numbered_in : (cs : List ℤ) (v : ℤ) → IsQuiet (numbered_in cs v)
q_numbered_in cs (pos zero) = λ l z. tt
q_numbered_in cs (pos (suc d)) =
    q_then (or_fault bounds_fault (slice_get cs d)) (λ v. unless overflow (fits_kind kinds.I4 v) (giving (number v)))
    (q_or_fault bounds_fault (slice_get cs d))
    (λ v. q_unless overflow (fits_kind kinds.I4 v) (giving (number v)) (q_giving (number v)))
q_numbered_in cs (negsuc d) = λ l z. tt

pub q_cosubscript : (k : ℕ) (v : ℤ) (m : ℕ) → IsQuiet (owned k ▹ (λ w. cosubscript w v m))
q_cosubscript k v m = q_then (owned k) (λ w. cosubscript w v m) (q_owned k)
    (λ w l z. q_numbered_in (cosubscripts_behind w.lowers w.extents (own_index m z - 1)) v l z)

pub q_status : (r : Reply) → IsQuiet (status r)
q_status (replies.Number s) = λ l z. (refl, refl)
q_status r = λ l z. tt

pub q_status_of_image : (v : ℤ) (m : ℕ) → IsQuiet (own_team (pos m) ▹ (λ q. status_of_image q v))
q_status_of_image v m = q_then (own_team (pos m)) (λ q. status_of_image q v) (q_own_team (pos m))
    (λ q. q_then (the (members q)) (λ ms. unless cobounds_fault (is_index_of (length ms) v)
    (asking (asked.Status (team q) (word v)) ▹ (λ r. status r ▹ (λ z. giving (number z))))) (q_the (members q))
    (λ ms. q_unless cobounds_fault (is_index_of (length ms) v)
    (asking (asked.Status (team q) (word v)) ▹ (λ r. status r ▹ (λ z. giving (number z))))
    (q_then (asking (asked.Status (team q) (word v))) (λ r. status r ▹ (λ z. giving (number z))) (q_asking (asked.Status (team q) (word v)))
    (λ r. q_then (status r) (λ z. giving (number z)) (q_status r) (λ z. q_giving (number z))))))

-- bounds
pub q_whole_bounds : (bs : List (ℤ × ℤ)) → IsQuiet (whole_bounds bs)
q_whole_bounds bs = q_cond (nat_le (length bs) 3) (giving bs) nothing_said (q_giving bs) (λ l z. tt)

pub q_default_kind : (v : ℤ) → IsQuiet (default_kind v)
q_default_kind v = q_unless overflow (fits_kind kinds.I4 v) (giving (number v)) (q_giving (number v))

pub q_dimension : (v : ℤ) (bs : List (ℤ × ℤ)) → IsQuiet (dimension v bs)
q_dimension (pos zero) bs = λ l z. tt
q_dimension (pos (suc n)) bs = q_or_fault bounds_fault (slice_get bs n)
q_dimension (negsuc n) bs = λ l z. tt

pub q_inquired : (f : ℤ × ℤ → ℤ) (bs : List (ℤ × ℤ)) (y : Value) → IsQuiet (as_number y ▹ (λ n. dimension n bs ▹ (λ b. default_kind (f b))))
q_inquired f bs y = q_then (as_number y) (λ n. dimension n bs ▹ (λ b. default_kind (f b))) (q_number y)
    (λ n. q_then (dimension n bs) (λ b. default_kind (f b)) (q_dimension n bs) (λ b. q_default_kind (f b)))

-- two as they are written
pub q_written : {X Y Z : Type 0} (o : WrittenOrder) (m : Does X) (n : Does Y) (f : X → Y → Does Z) → IsQuiet m → IsQuiet n
    → ((x : X) (y : Y) → IsQuiet (f x y)) → IsQuiet (as_written o m n f)
q_written orders.Same m n f h k g = q_then m (λ x. n ▹ (λ y. f x y)) h (λ x. q_then n (λ y. f x y) k (λ y. g x y))
q_written orders.Reversed m n f h k g = q_then n (λ y. m ▹ (λ x. f x y)) k (λ y. q_then m (λ x. f x y) h (λ x. g x y))

pub q_scalars_written : {Z : Type 0} (o : WrittenOrder) (m n : Does Value) (f : ℤ → ℤ → Does Z) → IsQuiet m → IsQuiet n
    → ((x y : ℤ) → IsQuiet (f x y)) → IsQuiet (scalars_as_written o m n f)
q_scalars_written orders.Same m n f h k g = q_scalar_then m (λ x. n ▹ℤ (λ y. f x y)) h (λ x. q_scalar_then n (λ y. f x y) k (λ y. g x y))
q_scalars_written orders.Reversed m n f h k g = q_scalar_then n (λ y. m ▹ℤ (λ x. f x y)) k
    (λ y. q_scalar_then m (λ x. f x y) h (λ x. g x y))

pub q_scalar_written : {Y Z : Type 0} (o : WrittenOrder) (m : Does Value) (n : Does Y) (f : ℤ → Y → Does Z) → IsQuiet m → IsQuiet n
    → ((x : ℤ) (y : Y) → IsQuiet (f x y)) → IsQuiet (scalar_as_written o m n f)
q_scalar_written orders.Same m n f h k g = q_scalar_then m (λ x. n ▹ (λ y. f x y)) h (λ x. q_then n (λ y. f x y) k (λ y. g x y))
q_scalar_written orders.Reversed m n f h k g = q_then n (λ y. m ▹ℤ (λ x. f x y)) k (λ y. q_scalar_then m (λ x. f x y) h (λ x. g x y))

-- the parts of two as they are written
pub written_takes : (o : WrittenOrder) (p q : Parts Act) → takes (parts.as_written o p q) ≡ false → (takes p ≡ false) × (takes q ≡ false)
written_takes orders.Same p q h = neither (takes p) (takes q) h
written_takes orders.Reversed p q h = let k = neither (takes q) (takes (p ▸ bringing 1 1)) h in
    ((neither (takes p) (takes (bringing 1 1)) k.1).0, k.0)

pub beside_takes : (o : WrittenOrder) (p q : Parts Act) → takes (parts.beside_as_written o p q) ≡ false
    → (takes p ≡ false) × (takes q ≡ false)
beside_takes orders.Same p q h = neither (takes p) (takes q) h
beside_takes orders.Reversed p q h = let k = neither (takes q) (takes p) h in (k.1, k.0)
