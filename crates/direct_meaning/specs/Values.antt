-- Values, variables and their parts (ISO/IEC 1539-1:2018, 9.4, 9.5).
use Rattle.std.specs.Prelude.{ℕ, zero, suc, ◌+◌, ◌==◌, nat_le, nat_lt, ℤ, pos, Bool, true, false, cond, List, [], ◌∷◌, map, length, Option, None, Some, replicate, slice_get}
use Rattle.coarray_types.specs.Places.{extent_of}
use Rattle.caf_base.specs.declared.place.ImageNo.{ImageNo}
use Rattle.caf_events.specs.declared.ask.Ask.TheVariants as asks
use Rattle.caf_events.specs.declared.reply.Reply.{Reply}
use Rattle.caf_events.specs.declared.reply.Reply.TheVariants as replies
use Rattle.caf_base.specs.Arithmetic.{fits_kind, number_of}
use Rattle.caf_base.specs.declared.value.Kind.TheVariants as kinds
use Rattle.image_acts.specs.Acts.{Scope}
use Rattle.image_acts.specs.Statuses.{most_cells, failed_image}
use Rattle.image_acts.specs.Faults.{overflow, bounds_fault, not_allocated, room, shape_fault}
use Rattle.image_acts.specs.Core.{Array, Local, Own}
use Rattle.image_acts.specs.Places.{Place, Subscript, place_of, spread_of, is_empty, empty_place, no_place, extents_of, cells_of, offsets, elements_at, with_elements_at}
use Rattle.image_acts.specs.Operate.Asking.{span_of}
use Rattle.direct_meaning.specs.States.{scalar_in, with_scalar, array_in, with_array, own_in}
use Rattle.direct_meaning.specs.Outcomes.{Does, giving, fault, nothing_said, ◌▹◌, asking, unless, of_found, of_some, or_fault, changing}

-- a number (a truth value is 1 or 0), or an array with its extents and its elements in array element order
pub data Value : Type 0 where
  number : ℤ → Value
  array : Array → Value

abbrev pub as_number : Value → Does ℤ
as_number (number v) = giving v
as_number (array a) = nothing_said

abbrev pub as_array : Value → Does Array
as_array (number v) = nothing_said
as_array (array a) = giving a

infixr 30 ◌▹ℤ◌
-- a scalar, and then what is made of it
abbrev pub ◌▹ℤ◌ : {X : Type 0} → Does Value → (ℤ → Does X) → Does X
m ▹ℤ f = m ▹ (λ v. as_number v ▹ f)

infixr 30 ◌▹A◌
-- an array, and then what is made of it
abbrev pub ◌▹A◌ : {X : Type 0} → Does Value → (Array → Does X) → Does X
m ▹A f = m ▹ (λ v. as_array v ▹ f)

-- Evaluation cells (the profile's): each element of an array value takes one until the statement ends.
abbrev pub using : ℕ → Does (Unit {0})
using n = λ l s. unless room (nat_le (s.used + n) most_cells) (λ m t. giving tt m (record t { used = t.used + n })) l s

-- a value of this rank from the elements of a part with these extents
abbrev pub value_of_rank : ℕ → List ℕ → List ℤ → Does Value
value_of_rank zero ns [] = nothing_said
value_of_rank zero ns (v ∷ vs) = giving (number v)
value_of_rank (suc r) ns vs = using (length vs) ▹ (λ u. giving (array (record { extents = ns; elements = vs })))

-- a scalar variable (9.4); nothing is said of one that isn't there
abbrev pub scalar : Scope → ℕ → Does ℤ
scalar x n = λ l s. of_some (scalar_in x n s) l s

abbrev pub set_scalar : Scope → ℕ → ℤ → Does (Unit {0})
set_scalar x n v = scalar x n ▹ (λ w. changing (with_scalar x n v))

-- an array: it has to be allocated
abbrev pub allocated : Scope → ℕ → Does Local
allocated x n = λ l s. or_fault not_allocated (array_in x n s) l s

-- The part of an array by its subscripts (9.5.3): within bounds, with a stride that isn't 0. In an array without
-- elements it is empty. (Nothing is said of bounds that no program has: of an array of 2 ** 63 elements, or without
-- elements but with such an extent.)
abbrev pub part_of : List (ℤ × ℤ) → List Subscript → Does Place
part_of bs ss = cond (nat_lt (spread_of bs) 9223372036854775808) (of_found (place_of bs ss)) (cond (is_empty bs) (of_found (empty_place bs ss)) nothing_said)

-- its elements; nothing is said of a part with more elements than the array
abbrev pub elements_of : Local → Place → Option (List ℤ)
elements_of a p = cond (nat_le (cells_of p) (length a.elements)) (elements_at (offsets p) a.elements) None

abbrev pub local_part : Scope → ℕ → ℕ → List Subscript → Does Value
local_part x n rank ss = allocated x n ▹ (λ a. part_of a.bounds ss ▹ (λ p. of_some (elements_of a p) ▹ (λ vs. value_of_rank rank (extents_of p) vs)))

-- these elements get other values
abbrev pub set_elements : Scope → ℕ → Place → List ℤ → Does (Unit {0})
set_elements x n p ws = allocated x n ▹ (λ a. or_fault shape_fault (elements_of a p) ▹ (λ vs. changing (with_array x n (record a { elements = with_elements_at (offsets p) ws a.elements }))))

-- A part of a coarray has this image's bounds. Those of one that isn't allocated here nobody knows: what comes next is
-- a fault.
abbrev pub part_of_own : Option Own → ℕ → List Subscript → Does Place
part_of_own None rank ss = giving (no_place rank)
part_of_own (Some o) rank ss = part_of o.bounds ss

abbrev pub coarray_part : ℕ → ℕ → List Subscript → Does Place
coarray_part c rank ss = λ l s. part_of_own (own_in c s) rank ss l s

-- a coarray that has to be allocated on this image
abbrev pub owned : ℕ → Does Own
owned c = λ l s. or_fault not_allocated (own_in c s) l s

-- an access without a selector to a part of an array is one to this image's, which has to be there; a scalar's access
-- tells that itself
abbrev pub need_own : Bool → ℕ → Does (Unit {0})
need_own true c = giving tt
need_own false c = owned c ▹ (λ o. giving tt)

-- The values that a reference of a part gives, and its status: of a failed image zeros and STAT_FAILED_IMAGE (9.6, and
-- the profile's); what isn't allocated there is NotAllocated.
abbrev pub read_values : Place → Reply → Does (List ℤ × ℤ)
read_values p (replies.Values vs) = cond (length vs == cells_of p) (giving (map number_of vs, pos 0)) nothing_said
read_values p replies.Dead = giving (replicate (cells_of p) (pos 0), failed_image)
read_values p replies.Absent = fault not_allocated
read_values p reply = nothing_said

-- a part without cells makes no access
abbrev pub read_part : ℕ → ImageNo → Place → Does (List ℤ × ℤ)
read_part c o p = cond (cells_of p == 0) (giving ([], pos 0)) (asking (asks.Read o (span_of c p)) ▹ (λ r. read_values p r))

-- bounds (16.9.109, 16.9.179, 16.9.196): of a dimension without elements 1 and 0; results are of default kind
abbrev pub from_one : List ℕ → List (ℤ × ℤ)
from_one ns = map (λ n. (pos 1, pos n)) ns

-- (Nothing is said of an array of more than three dimensions, which no program has.)
abbrev pub whole_bounds : List (ℤ × ℤ) → Does (List (ℤ × ℤ))
whole_bounds bs = cond (nat_le (length bs) 3) (giving bs) nothing_said

abbrev pub default_kind : ℤ → Does Value
default_kind v = unless overflow (fits_kind kinds.I4 v) (giving (number v))

abbrev pub dimension : ℤ → List (ℤ × ℤ) → Does (ℤ × ℤ)
dimension (pos (suc n)) bs = or_fault bounds_fault (slice_get bs n)
dimension d bs = fault bounds_fault

abbrev pub lower_bound : ℤ × ℤ → ℤ
lower_bound b = cond (extent_of b == 0) (pos 1) b.0

abbrev pub upper_bound : ℤ × ℤ → ℤ
upper_bound b = cond (extent_of b == 0) (pos 0) b.1
