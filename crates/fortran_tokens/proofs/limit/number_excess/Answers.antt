use Rattle.std.proofs.Common.{◌≡◌, ℕ, ◌<◌, true, List, length, take, get_or, ap, ◌∙◌, arith}
use Rattle.std.specs.List.{prefix_len}
use Rattle.std.proofs.lemmas.List.{get_or-take, length-take}
use Rattle.std.proofs.lemmas.List.Sums.{prefix_len_passes}
use Rattle.fortran_tokens.specs.Bytes.{is_digit}
use Rattle.fortran_tokens.proofs.limit.number_excess.Goals as goal

-- the digits at the front are digits
digits_front : (text : List ℕ) (n i : ℕ) → n ≡ prefix_len is_digit text → i < length (take n text) → is_digit (get_or (take n text) i 0) ≡ true
digits_front text n i e h =
    let size = length-take n text in
    let below : i < n = omega arith in
    ap is_digit (get_or-take n text i 0 below) ∙ prefix_len_passes is_digit text i 0 (omega arith)

pub is_too_wide-requires : goal.is_too_wide-requires
is_too_wide-requires c = λ i h. digits_front c.args.text.now c.digits_len-digits.result i c.digits_len-digits.ensures.value h
