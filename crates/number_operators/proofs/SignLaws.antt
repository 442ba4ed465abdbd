-- What a division of a number that isn't negative by another one leaves has the sign of both.
use Rattle.std.proofs.Common.{◌≡◌, ℕ, ◌%◌, ℤ, pos, negsuc, arith}
use Rattle.std.specs.Prelude.{int_rem, ◌≤ℤ◌}
use Rattle.std.proofs.lemmas.Int.{ints}
use Rattle.std.proofs.lemmas.Grind.{common_steps}
use Rattle.caf_base.specs.Arithmetic.{with_sign_of}

sign_of_natural : (m n : ℕ) → pos m ≡ with_sign_of (pos n) (pos m)
sign_of_natural m n = grind (arith, common_steps)

pub sign_there : (v w : ℤ) → pos 0 ≤ℤ v → pos 0 ≤ℤ w → int_rem v w ≡ with_sign_of w (int_rem v w)
sign_there (pos m) (pos n) s t = sign_of_natural (m % n) n
sign_there (pos m) (negsuc n) s t = absurd (omega (arith, ints))
sign_there (negsuc m) w s t = absurd (omega (arith, ints))
