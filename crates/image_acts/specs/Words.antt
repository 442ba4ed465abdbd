-- Numbers as the fields of an ask hold them. What a checked program asks fits them, so that the bounds are met by
-- hand-made acts alone.
use Rattle.std.specs.Prelude.{ℕ, ℤ, pos, negsuc, min}
use Rattle.caf_base.specs.Arithmetic.{natural, lesser, greater_of}

-- as a number of 32 bits without a sign: the least or greatest one where it is past it
abbrev pub word : ℤ → ℕ
word v = min (natural v) 4294967295

-- as a number of 32 bits with a sign
abbrev pub short : ℤ → ℤ
short v = lesser (greater_of v (negsuc 2147483647)) (pos 2147483647)
