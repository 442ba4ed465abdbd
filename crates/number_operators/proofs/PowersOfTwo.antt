-- Divisions of numbers that aren't negative by powers of two.
use Rattle.std.proofs.Common.{◌≡◌, ℕ, ◌*◌, ◌-◌, ◌%◌, ◌^◌, ◌<◌, ◌≤◌, ℤ, pos, negsuc, ap, sym, ◌∙◌, arith, FitsSigned, w64, to_z, of_z, bit_and}
use Rattle.std.specs.Prelude.{int_rem, ◌-ℤ◌, ◌≤ℤ◌}
use Rattle.std.proofs.Math.Nat.{mod-le}
use Rattle.std.proofs.Math.Pow.{pow-lt}
use Rattle.std.proofs.lemmas.Int.{ints, to_z_pos}
use Rattle.std.proofs.lemmas.Nat.{and_mask, one_shl, pow_pos}

-- 1 shifted to the left
pub one_shifted : (k : ℕ) → k < 63 → to_z w64 (1 * 2 ^ k % 2 ^ 64) ≡ pos (2 ^ k)
one_shifted k h =
    let p : 2 ^ k < 2 ^ 63 = pow-lt h in
    ap (to_z w64) (one_shl k 64 (omega arith)) ∙ to_z_pos w64 (2 ^ k) p

-- the bits below that of a power of two are what a division by it leaves
low_natural : (n k : ℕ) → n < 2 ^ 63 → to_z w64 (bit_and n (2 ^ k - 1)) ≡ pos (n % 2 ^ k)
low_natural n k h =
    let m : n % 2 ^ k ≤ n = mod-le n (2 ^ k) in
    ap (to_z w64) (and_mask n k) ∙ to_z_pos w64 (n % 2 ^ k) (omega arith)

one_less : (w : ℤ) (k : ℕ) → w ≡ pos (2 ^ k) → of_z w64 (w -ℤ pos 1) ≡ 2 ^ k - 1
one_less w k e =
    let p : 0 < 2 ^ k = pow_pos k in
    let d : w -ℤ pos 1 ≡ pos (2 ^ k - 1) = omega (arith, ints) in
    ap (of_z w64) d

pub low_bits : (v w : ℤ) (k : ℕ) → FitsSigned w64 v → pos 0 ≤ℤ v → w ≡ pos (2 ^ k) → to_z w64 (bit_and (of_z w64 v) (of_z w64 (w -ℤ pos 1))) ≡ int_rem v w
low_bits (pos n) w k f s e = ap (λ m. to_z w64 (bit_and n m)) (one_less w k e) ∙ low_natural n k f.sfits ∙ sym (ap (int_rem (pos n)) e)
low_bits (negsuc n) w k f s e = absurd (omega (arith, ints))
