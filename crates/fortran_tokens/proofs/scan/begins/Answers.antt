use Rattle.std.proofs.Common.{◌≡◌, ℕ, zero, suc, ◌<◌, false, List, [], ◌∷◌, length, drop, refl, sym, ◌∙◌, arith}
use Rattle.fortran_tokens.specs.Scans as spec
use Rattle.fortran_tokens.proofs.scan.begins.Goals as goal

-- a letter that is left begins no empty text
begins_short : (xs rest : List ℕ) (i : ℕ) → i < length xs → length rest < 1 → spec.begins (drop i xs) rest ≡ false
begins_short [] rest i h k = absurd (omega arith)
begins_short (x ∷ xs) [] zero h k = refl
begins_short (x ∷ xs) (b ∷ rest) zero h k = absurd (omega arith)
begins_short (x ∷ xs) rest (suc i) h k = begins_short xs rest i (omega arith) k

pub returns-in_default : goal.returns-in_default
returns-in_default c =
    let none = c.in_default.len_below in
    sym (begins_short c.args.spelling.now c.loop-letter.rest.now c.loop-letter.letter-index (omega arith) (omega arith)) ∙ c.loop-letter.invariant
