-- The longest name that begins a text.
use Rattle.std.proofs.Common.{◌≡◌, ℕ, zero, suc, ◌+◌, ◌≤◌, true, List, ◌∷◌, length, take, sym, subst, arith}
use Rattle.std.specs.List.{list_all, prefix_len}
use Rattle.std.proofs.Math.Numerals.{one-add}
use Rattle.std.proofs.lemmas.Bool.{and_parts, and_from}
use Rattle.fortran_tokens.specs.Bytes.{is_letter, is_name_byte}
use Rattle.fortran_tokens.specs.Forms.{is_name}
use Rattle.fortran_tokens.proofs.Fronts.{front_most, front_passes}

pub name_most : (b : ℕ) (t : List ℕ) (m : ℕ) → m ≤ length (b ∷ t) → is_name (take m (b ∷ t)) ≡ true → m ≤ 1 + prefix_len is_name_byte t
name_most b t zero h e = omega arith
name_most b t (suc m) h e =
    let parts = and_parts (is_letter b) (list_all is_name_byte (take m t)) e in
    let next = front_most is_name_byte t m (omega arith) parts.1 in
    omega arith

pub name_form : (b : ℕ) (t : List ℕ) → is_letter b ≡ true → is_name (take (1 + prefix_len is_name_byte t) (b ∷ t)) ≡ true
name_form b t e =
    subst (λ k. is_name (take k (b ∷ t)) ≡ true) (sym (one-add (prefix_len is_name_byte t)))
    (and_from (is_letter b) (list_all is_name_byte (take (prefix_len is_name_byte t) t)) e (front_passes is_name_byte t))
