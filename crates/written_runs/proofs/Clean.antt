-- Texts without a line feed: numbers, and what is put together from such texts.
use Rattle.std.proofs.Common.{◌≡◌, ◌∙◌, ℕ, zero, suc, ◌+◌, ◌/◌, ◌%◌, Bool, true, false, not, ◌==◌, cond, ℤ, pos, negsuc, List, [], ◌∷◌, ◌++◌}
use Rattle.std.proofs.Common.{flat_map, refl, ap, sym, arith, decimal}
use Rattle.std.specs.Prelude.{nat_le, nat_lt}
use Rattle.std.specs.Fmt.{digits, digits_onto, digit_glyph}
use Rattle.std.specs.List.{list_all, slice_split, onto_first}
use Rattle.std.proofs.lemmas.Bool.{and_parts, and_from}
use Rattle.std.proofs.lemmas.Bool.Decides.{nat_tests}
use Rattle.std.proofs.lemmas.List.Folds.{list_all-append}
use Rattle.caf_text.specs.Numbers.{decimal_text, logical_text}
use Rattle.trace_theory.specs.Entries.{Each}
use Rattle.trace_text.specs.TraceText.{behind, joined, number_text}

-- any byte but a line feed
abbrev pub no_feed : ℕ → Bool
no_feed b = not (b == 10)

abbrev pub Clean : List ℕ → Type 0
Clean xs = list_all no_feed xs ≡ true

pub clean_both : (xs ys : List ℕ) → Clean xs → Clean ys → Clean (xs ++ ys)
clean_both xs ys p q = list_all-append no_feed xs ys ∙ and_from (list_all no_feed xs) (list_all no_feed ys) p q

pub clean_flat : {A : Type 0} (f : A → List ℕ) → ((x : A) → Clean (f x)) → (xs : List A) → Clean (flat_map f xs)
clean_flat f h [] = refl
clean_flat f h (x ∷ xs) = clean_both (f x) (flat_map f xs) (h x) (clean_flat f h xs)

pub clean_behind : {A : Type 0} (between : List ℕ) (f : A → List ℕ) → Clean between → ((x : A) → Clean (f x)) → (x : A) → Clean (behind between f x)
clean_behind between f p h x = clean_both between (f x) p (h x)

pub clean_joined : {A : Type 0} (between : List ℕ) (f : A → List ℕ) → Clean between → ((x : A) → Clean (f x)) → (xs : List A) → Clean (joined between f xs)
clean_joined between f p h [] = refl
clean_joined between f p h (x ∷ xs) =
    clean_both (f x) (flat_map (behind between f) xs) (h x) (clean_flat (behind between f) (clean_behind between f p h) xs)

pub clean_cond : (b : Bool) (xs ys : List ℕ) → Clean xs → Clean ys → Clean (cond b xs ys)
clean_cond true xs ys p q = p
clean_cond false xs ys p q = q

-- ---- numbers: their bytes are digits, and so none of those that stand before the digits
abbrev pub is_late : ℕ → Bool
is_late b = nat_le 48 b

late_more : (b : ℕ) (xs : List ℕ) → is_late b ≡ true → list_all is_late xs ≡ true → list_all is_late (b ∷ xs) ≡ true
late_more b xs p q = and_from (is_late b) (list_all is_late xs) p q

late_sum : (a d : ℕ) → nat_le 48 a ≡ true → is_late (a + d) ≡ true
late_sum a d h = grind (arith, nat_tests)

glyph_late : (d : ℕ) → is_late (digit_glyph false d) ≡ true
glyph_late d = by_test (nat_lt d 10)
  where
    by_test : (b : Bool) → is_late (cond b (48 + d) (87 + d)) ≡ true
    by_test true = late_sum 48 d refl
    by_test false = late_sum 87 d refl

onto_late : (k n : ℕ) (acc : List ℕ) → list_all is_late acc ≡ true → list_all is_late (digits_onto k 10 false n acc) ≡ true
onto_late zero n acc h = h
onto_late (suc k) n acc h =
    let g = digit_glyph false (n % 10) in
    let more = late_more g acc (glyph_late (n % 10)) h in
    by_test (n / 10 == 0) (g ∷ acc) (digits_onto k 10 false (n / 10) (g ∷ acc)) more (onto_late k (n / 10) (g ∷ acc) more)
  where
    by_test : (b : Bool) (xs ys : List ℕ) → list_all is_late xs ≡ true → list_all is_late ys ≡ true → list_all is_late (cond b xs ys) ≡ true
    by_test true xs ys p q = p
    by_test false xs ys p q = q

pub decimal_late : (n : ℕ) → list_all is_late (decimal n) ≡ true
unfolding digits
decimal_late n = onto_late 64 n [] refl

late_clean : (b : ℕ) → is_late b ≡ true → no_feed b ≡ true
late_clean b h = grind (arith, nat_tests)

clean_of_late : (xs : List ℕ) → list_all is_late xs ≡ true → Clean xs
clean_of_late [] h = refl
clean_of_late (b ∷ xs) h =
    let k = and_parts (is_late b) (list_all is_late xs) h in
    and_from (no_feed b) (list_all no_feed xs) (late_clean b k.0) (clean_of_late xs k.1)

pub clean_number : (n : ℕ) → Clean (number_text n)
clean_number n = clean_of_late (decimal n) (decimal_late n)

pub clean_signed : (z : ℤ) → Clean (decimal_text z)
clean_signed (pos n) = clean_number n
clean_signed (negsuc n) = clean_number (suc n)

pub clean_logical : (b : Bool) → Clean (logical_text b)
clean_logical true = refl
clean_logical false = refl

-- ---- the parts of a text between line feeds
onto_clean : (x : ℕ) (ls : List (List ℕ)) → no_feed x ≡ true → Each Clean ls → Each Clean (onto_first x ls)
onto_clean x [] p h = (and_from (no_feed x) true p refl, tt)
onto_clean x (l ∷ ls) p h = (and_from (no_feed x) (list_all no_feed l) p h.0, h.1)

pub split_clean : (text : List ℕ) → Each Clean (slice_split (λ b. b == 10) text)
split_clean [] = (refl, tt)
split_clean (x ∷ xs) = by_test (x == 10) refl (slice_split (λ b. b == 10) xs) (split_clean xs)
  where
    by_test : (b : Bool) → b ≡ (x == 10) → (ls : List (List ℕ)) → Each Clean ls → Each Clean (cond b ([] ∷ ls) (onto_first x ls))
    by_test true e ls h = (refl, h)
    by_test false e ls h = onto_clean x ls (sym (ap not e)) h
