-- The text of numbers and logicals, and the field of an integer (ISO/IEC 1539-1:2018, 13.7.2.1, 13.7.2.2 and 13.7.3).
use Rattle.std.specs.Prelude.{ℕ, ℤ, zero, suc, ◌-◌, ◌++◌, cond, nat_lt, Bool, true, false, List, codes, length, replicate}
use Rattle.std.specs.Fmt.{signed_decimal}

-- a number in decimal: its digits with no zero before them, and `-` before a negative one
abbrev pub decimal_text : ℤ → List ℕ
decimal_text v = signed_decimal v

-- a logical: T or F (13.7.3)
abbrev pub logical_text : Bool → List ℕ
logical_text true = codes "T"
logical_text false = codes "F"

-- a text at the right of a number of places, or asterisks where it is too wide
abbrev pub right_in : ℕ → List ℕ → List ℕ
right_in places text =
    cond (nat_lt places (length text)) (replicate places 42) (replicate (places - length text) 32 ++ text)

-- the field of `Iw` (13.7.2.2): as wide as it takes for `I0`, else `w` places (13.7.2.1)
abbrev pub i_field : ℤ → ℕ → List ℕ
i_field v zero = decimal_text v
i_field v (suc w) = right_in (suc w) (decimal_text v)
