-- Where a wrong byte stands.
use Rattle.std.proofs.Common.{◌≡◌, ℕ, ◌+◌, ◌<◌, ◌≤◌, Bool, true, false, cond, not, nat_lt, List, length, take, Some, None, inl, inr, refl, ap, sym, arith}
use Rattle.std.specs.List.{take_while, position_or_len}
use Rattle.std.specs.Option.{option_map}
use Rattle.std.proofs.lemmas.Bool.{ltb-true}
use Rattle.std.proofs.lemmas.List.{length-take-le}
use Rattle.fortran_tokens.specs.declared.token.TokenKind.{TokenKind}
use Rattle.fortran_tokens.specs.declared.token.TokenKind.TheVariants.{Name, Number, Literal, Fixed}
use Rattle.fortran_tokens.specs.declared.fault.Excess.{Excess}
use Rattle.fortran_tokens.specs.declared.fault.Excess.TheVariants as excess
use Rattle.fortran_tokens.specs.Bytes.{is_digit, is_printing}
use Rattle.fortran_tokens.specs.Cuts.{IsWrong, excess_of, distance_of, value_of}
use Rattle.fortran_tokens.proofs.Longest.{longest_some}

-- what breaks a limit stands within the token
excess_name : (w : List ℕ) (e : Excess) (b : Bool) → b ≡ nat_lt 63 (length w) → cond b (Some (excess.Character 63)) None ≡ Some e → distance_of e < length w
excess_name w e false s k = absurd (cc)
excess_name w e true s k = let l = ltb-true 63 (length w) (sym s) in let m : excess.Character 63 ≡ e = cc in let n = ap distance_of m in omega arith

excess_kind : (w : List ℕ) (n : ℕ) (e : Excess) (b : Bool) → b ≡ nat_lt n (length w) → cond b (Some (excess.Character n)) None ≡ Some e → distance_of e < length w
excess_kind w n e false s k = absurd (cc)
excess_kind w n e true s k = let l = ltb-true n (length w) (sym s) in let m : excess.Character n ≡ e = cc in let d = ap distance_of m in omega arith

excess_number : (w : List ℕ) (n : ℕ) (e : Excess) (b : Bool) → 1 ≤ length w → cond b (Some excess.Number) (cond (nat_lt n (length w)) (Some (excess.Character n)) None) ≡ Some e → distance_of e < length w
excess_number w n e true h k = let m : excess.Number ≡ e = cc in let d = ap distance_of m in omega arith
excess_number w n e false h k = excess_kind w n e (nat_lt n (length w)) refl k

excess_literal : (w : List ℕ) (n : ℕ) (e : Excess) (b : Bool) → b ≡ nat_lt n (length w) → option_map excess.Character (cond b (Some n) None) ≡ Some e → distance_of e < length w
excess_literal w n e false s k = absurd (cc)
excess_literal w n e true s k = let l = ltb-true n (length w) (sym s) in let m : excess.Character n ≡ e = cc in let d = ap distance_of m in omega arith

excess_within : (k : TokenKind) (w : List ℕ) (e : Excess) → 1 ≤ length w → excess_of k w ≡ Some e → distance_of e < length w
excess_within Name w e h s = excess_name w e (nat_lt 63 (length w)) refl s
excess_within Number w e h s = excess_number w (length (take_while is_digit w) + 64) e (nat_lt 9223372036854775807 (value_of (take_while is_digit w))) h s
excess_within Literal w e h s = excess_literal w (position_or_len (λ b. not (is_printing b)) w) e (nat_lt (position_or_len (λ b. not (is_printing b)) w) (length w)) refl s
excess_within (Fixed g) w e h s = absurd (cc)

-- a wrong byte stands within the text
pub wrong_within : (text : List ℕ) (e : Excess) → 0 < length text → IsWrong text e → distance_of e < length text
wrong_within text e h (inl (_, s)) = let d = ap distance_of s in omega arith
wrong_within text e h (inr (k, n, l, s)) =
    let size = length-take-le n text l.within in
    let fits = l.within in
    let some = longest_some text k n l in
    let d = excess_within k (take n text) e (omega arith) s in
    omega arith
