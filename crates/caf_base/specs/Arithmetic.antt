-- Values of operators and functions of integers and logicals (ISO/IEC 1539-1:2018, 10.1.5 and 16.9). They are exact;
-- `fits_kind` says where a result is one of its kind.
use Rattle.std.specs.Prelude.{ℕ, zero, suc, ℤ, pos, negsuc, ◌+ℤ◌, ◌-ℤ◌, ◌*ℤ◌, nat_abs, Bool, true, not, ◌&&◌, cond, int_lt, int_le, int_div}
use Rattle.std.specs.Ordering.{int_eq}
use Rattle.caf_base.specs.declared.value.Kind.{Kind}
use Rattle.caf_base.specs.declared.value.Kind.TheVariants as kinds
use Rattle.caf_base.specs.declared.value.Value.{Value}
use Rattle.caf_base.specs.declared.value.Value.TheVariants as values

-- from the lower to the upper one
abbrev pub is_within : ℤ → ℤ → ℤ → Bool
is_within lower upper v = int_le lower v && int_le v upper

-- the numbers of a kind (7.4.3.1): those of 32 bits, or those of 64
abbrev pub fits_kind : Kind → ℤ → Bool
fits_kind kinds.I4 v = is_within (negsuc 2147483647) (pos 2147483647) v
fits_kind kinds.I8 v = is_within (negsuc 9223372036854775807) (pos 9223372036854775807) v
fits_kind kinds.L4 v = true

-- the greatest number of a kind: HUGE (16.9.86)
abbrev pub huge_of : Kind → ℤ
huge_of kinds.I4 = pos 2147483647
huge_of kinds.I8 = pos 9223372036854775807
huge_of kinds.L4 = pos 1

-- truth values as numbers
abbrev pub truth : Bool → ℤ
truth b = cond b (pos 1) (pos 0)

abbrev pub is_true : ℤ → Bool
is_true v = not (int_eq v (pos 0))

-- the value of a cell as a number, and a number as the value of a cell
abbrev pub number_of : Value → ℤ
number_of (values.Int v) = v
number_of (values.Bool b) = truth b

abbrev pub value_of : Kind → ℤ → Value
value_of kinds.I4 v = values.Int v
value_of kinds.I8 v = values.Int v
value_of kinds.L4 v = values.Bool (is_true v)

-- x ** n: n times the factor x (10.1.5.2.1)
abbrev pub power_of : ℤ → ℕ → ℤ
power_of x zero = pos 1
power_of x (suc n) = x *ℤ power_of x n

-- a number without its sign: ABS (16.9.2)
abbrev pub magnitude : ℤ → ℤ
magnitude v = pos (nat_abs v)

-- MODULO (16.9.136) of the remainder of a division by w: one with the sign of w
abbrev pub with_sign_of : ℤ → ℤ → ℤ
with_sign_of w r = cond (int_eq r (pos 0)) r (cond (int_lt r (pos 0)) (cond (int_lt w (pos 0)) r (r +ℤ w)) (cond (int_lt w (pos 0)) (r +ℤ w) r))

-- MIN and MAX of two (16.9.131, 16.9.125)
abbrev pub lesser : ℤ → ℤ → ℤ
lesser v w = cond (int_le v w) v w

abbrev pub greater_of : ℤ → ℤ → ℤ
greater_of v w = cond (int_le v w) w v

-- How many steps lead from the first to the last (11.1.7.4.1): the iteration count of a DO construct and the number of
-- subscripts of a triplet (9.5.3.3.2); none where it would be negative. The step isn't 0.
abbrev pub natural : ℤ → ℕ
natural (pos n) = n
natural (negsuc n) = 0

abbrev pub iterations : ℤ → ℤ → ℤ → ℕ
iterations first last step = natural (int_div ((last -ℤ first) +ℤ step) step)
