-- The longest number that begins a text.
use Rattle.std.proofs.Common.{◌≡◌, ℕ, zero, suc, ◌+◌, ◌≤◌, Bool, true, false, cond, ◌&&◌, ◌||◌, nat_eq, List, [], ◌∷◌, length, take, refl, sym, subst, arith}
use Rattle.std.specs.List.{list_all, prefix_len}
use Rattle.std.proofs.Math.Numerals.{one-add}
use Rattle.std.proofs.lemmas.List.Sums.{prefix_len-le-length}
use Rattle.std.proofs.lemmas.Bool.{and_parts, and_from}
use Rattle.fortran_tokens.specs.Bytes.{is_letter, is_digit, is_name_byte}
use Rattle.fortran_tokens.specs.Forms.{is_empty, is_kind, is_number_rest, is_number}
use Rattle.fortran_tokens.specs.Scans.{kind_behind, kind_len, number_rest_len}
use Rattle.fortran_tokens.proofs.Fronts.{front_most, front_passes}

-- a front that is empty has no bytes
empty_front : (t : List ℕ) (m : ℕ) → m ≤ length t → is_empty (take m t) ≡ true → m ≤ 0
empty_front t zero h e = omega arith
empty_front [] (suc m) h e = absurd (omega arith)
empty_front (b ∷ t) (suc m) h e = absurd (cc)

kind_most_by : (b : ℕ) (t : List ℕ) (m : ℕ) → m ≤ length t → (letter figure : Bool) → cond letter (list_all is_name_byte (take m t)) (figure && is_empty (take m t)) ≡ true
    → suc (suc m) ≤ cond letter (2 + prefix_len is_name_byte t) (cond figure 2 0)
kind_most_by b t m h true figure e = let next = front_most is_name_byte t m h e in omega arith
kind_most_by b t m h false true e = let none = empty_front t m h e in omega arith
kind_most_by b t m h false false e = absurd (cc)

kind_most : (t : List ℕ) (m : ℕ) → m ≤ length t → is_kind (take m t) ≡ true → suc m ≤ kind_behind t
kind_most t zero h e = absurd (cc)
kind_most [] (suc m) h e = absurd (omega arith)
kind_most (b ∷ t) (suc m) h e = kind_most_by b t m (omega arith) (is_letter b) (nat_eq b 52 || nat_eq b 56) e

number_most_by : (u : ℕ) (t : List ℕ) (m : ℕ) → m ≤ length t → (is_number_rest (take m t) ≡ true → m ≤ number_rest_len t)
    → (digit under : Bool) → cond digit (is_number_rest (take m t)) (under && is_kind (take m t)) ≡ true → suc m ≤ cond digit (1 + number_rest_len t) (cond under (kind_behind t) 0)
number_most_by u t m h next true under e = let k = next e in omega arith
number_most_by u t m h next false true e = kind_most t m h e
number_most_by u t m h next false false e = absurd (cc)

pub number_rest_most : (t : List ℕ) (m : ℕ) → m ≤ length t → is_number_rest (take m t) ≡ true → m ≤ number_rest_len t
number_rest_most t zero h e = omega arith
number_rest_most [] (suc m) h e = absurd (omega arith)
number_rest_most (b ∷ t) (suc m) h e = number_most_by b t m (omega arith) (number_rest_most t m (omega arith)) (is_digit b) (nat_eq b 95) e

-- the first n bytes are so many, and are the rest of a number
pub NumberFront : List ℕ → ℕ → Type 0
NumberFront t n = (n ≤ length t) × (is_number_rest (take n t) ≡ true)

kind_form_by : (u b : ℕ) (t : List ℕ) → is_digit u ≡ false → nat_eq u 95 ≡ true → (letter figure : Bool) → letter ≡ is_letter b → figure ≡ (nat_eq b 52 || nat_eq b 56)
    → NumberFront (u ∷ b ∷ t) (cond letter (2 + prefix_len is_name_byte t) (cond figure 2 0))
unfolding NumberFront
kind_form_by u b t d e true figure l f =
    let n = prefix_len is_name_byte t in
    let fits = prefix_len-le-length is_name_byte t in
    let all = front_passes is_name_byte t in
    let two : 2 + n ≡ suc (suc n) = omega arith in
    let kind : is_kind (b ∷ take n t) ≡ true = subst (λ c. cond c (list_all is_name_byte (take n t)) ((nat_eq b 52 || nat_eq b 56) && is_empty (take n t)) ≡ true) l all in
    let whole : is_number_rest (u ∷ b ∷ take n t) ≡ true = subst (λ c. cond c (is_number_rest (b ∷ take n t)) (nat_eq u 95 && is_kind (b ∷ take n t)) ≡ true) (sym d) (and_from (nat_eq u 95) (is_kind (b ∷ take n t)) e kind) in
    (omega arith, subst (λ k. is_number_rest (take k (u ∷ b ∷ t)) ≡ true) (sym two) whole)
kind_form_by u b t d e false true l f =
    let kind : is_kind (b ∷ []) ≡ true = subst (λ c. cond c true ((nat_eq b 52 || nat_eq b 56) && true) ≡ true) l (and_from (nat_eq b 52 || nat_eq b 56) true (sym f) refl) in
    let whole : is_number_rest (u ∷ b ∷ []) ≡ true = subst (λ c. cond c (is_number_rest (b ∷ [])) (nat_eq u 95 && is_kind (b ∷ [])) ≡ true) (sym d) (and_from (nat_eq u 95) (is_kind (b ∷ [])) e kind) in
    (omega arith, whole)
kind_form_by u b t d e false false l f = (omega arith, refl)

kind_form : (u : ℕ) (t : List ℕ) → is_digit u ≡ false → (under : Bool) → under ≡ nat_eq u 95 → NumberFront (u ∷ t) (cond under (kind_behind t) 0)
unfolding NumberFront
kind_form u t d false e = (omega arith, refl)
kind_form u [] d true e = (omega arith, refl)
kind_form u (b ∷ t) d true e = kind_form_by u b t d (sym e) (is_letter b) (nat_eq b 52 || nat_eq b 56) refl refl

number_form_by : (b : ℕ) (t : List ℕ) → NumberFront t (number_rest_len t) → (digit : Bool) → digit ≡ is_digit b → NumberFront (b ∷ t) (cond digit (1 + number_rest_len t) (kind_len (b ∷ t)))
unfolding NumberFront
number_form_by b t next true e =
    let n = number_rest_len t in
    let fits = next.0 in
    (omega arith, subst (λ k. is_number_rest (take k (b ∷ t)) ≡ true) (sym (one-add n)) (subst (λ c. cond c (is_number_rest (take n t)) (nat_eq b 95 && is_kind (take n t)) ≡ true) e next.1))
number_form_by b t next false e = kind_form b t (sym e) (nat_eq b 95) refl

pub number_rest_form : (t : List ℕ) → NumberFront t (number_rest_len t)
unfolding NumberFront
number_rest_form [] = (omega arith, refl)
number_rest_form (b ∷ t) = number_form_by b t (number_rest_form t) (is_digit b) refl

pub number_most : (b : ℕ) (t : List ℕ) (m : ℕ) → m ≤ length (b ∷ t) → is_number (take m (b ∷ t)) ≡ true → m ≤ 1 + number_rest_len t
number_most b t zero h e = omega arith
number_most b t (suc m) h e =
    let parts = and_parts (is_digit b) (is_number_rest (take m t)) e in
    let next = number_rest_most t m (omega arith) parts.1 in
    omega arith

pub number_within : (b : ℕ) (t : List ℕ) → 1 + number_rest_len t ≤ length (b ∷ t)
unfolding NumberFront
number_within b t = let next = (number_rest_form t).0 in omega arith

pub number_form : (b : ℕ) (t : List ℕ) → is_digit b ≡ true → is_number (take (1 + number_rest_len t) (b ∷ t)) ≡ true
unfolding NumberFront
number_form b t e =
    subst (λ k. is_number (take k (b ∷ t)) ≡ true) (sym (one-add (number_rest_len t)))
    (and_from (is_digit b) (is_number_rest (take (number_rest_len t) t)) e (number_rest_form t).1)
