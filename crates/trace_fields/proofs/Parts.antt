-- The parts of a line have no blank, and items no byte that stands between them.
use Rattle.std.proofs.Common.{◌≡◌, ℕ, suc, ◌<◌, ◌^◌, true, false, nat_eq, ℤ, pos}
use Rattle.std.proofs.Common.{negsuc, List, [], ◌∷◌, ◌++◌, length, refl, ap, sym, ◌∙◌, subst, arith, decimal}
use Rattle.std.proofs.Common.{length-append, append_assoc, codes, eqb-true, true≢false, FitsSigned, to_z, of_z, w32}
use Rattle.std.proofs.Common.{w64}
use Rattle.std.proofs.lemmas.Int.{to_z-of_z}
use Rattle.std.specs.List.{list_all}
use Rattle.caf_text.specs.Numbers.{decimal_text}
use Rattle.trace_text.specs.TraceText.{number_text, value_text, image_text, bounds_text}
use Rattle.trace_forms.specs.Names.{is_digit_byte}
use Rattle.trace_forms.specs.Ranges.{IsHalf, IsSigned, IsSignedHalf, IsImageNumber, IsValueInRange}
use Rattle.trace_forms.specs.Ranges.{IsDimension, AreBounds}
use Rattle.trace_forms.proofs.Cuts.{and_first, all_within, all_append}
use Rattle.trace_forms.proofs.Decimals.{is_dec, digits_of_number, some_of_number, signed_dec, signed_some, half_signed}
use Rattle.trace_forms.proofs.Pieces.{no_of, is_val, value_inside, value_some}
use Rattle.trace_forms.proofs.Fields.{is_field}
use Rattle.trace_fields.specs.Cutting.{other}
use Rattle.trace_fields.specs.Cutting.{size_text}
use Rattle.trace_fields.proofs.Items.{AreItems}

-- a part without a blank and `>` has no blank
pub no_blank : (xs : List ℕ) → list_all is_field xs ≡ true → list_all (other 32) xs ≡ true
no_blank xs h = all_within is_field (other 32) (λ b k. and_first (other 32 b) _ k) xs h

-- numbers have no byte but digits and a sign
pub digits_clean : (byte n : ℕ) → is_digit_byte byte ≡ false → n < 2 ^ 64 → list_all (other byte) (decimal n) ≡ true
digits_clean byte n out h = no_of is_digit_byte byte out (decimal n) (digits_of_number n (omega arith))

pub signed_clean : (byte : ℕ) (z : ℤ) → is_dec byte ≡ false → IsSigned z → list_all (other byte) (decimal_text z) ≡ true
signed_clean byte z out h = no_of is_dec byte out (decimal_text z) (signed_dec z h)

pub value_items : AreItems IsValueInRange 44 value_text
value_items = record { some = value_some; clean = λ v h. no_of is_val 44 refl (value_text v) (value_inside v h) }

pub number_items : AreItems IsHalf 44 number_text
number_items = record {
  some = λ n h. some_of_number n (omega arith);
  clean = λ n h. digits_clean 44 n refl
      (omega arith);
}

pub image_items : (byte : ℕ) → is_digit_byte byte ≡ false → AreItems IsImageNumber byte image_text
image_items byte out = record {
  some = λ x h. some_of_number x.0
      (omega arith);
  clean = λ x h. digits_clean byte x.0 out (omega arith);
}

-- bounds with their colon, and dimensions with their star
pub bounds_is : (b : ℤ × ℤ) → bounds_text b ≡ decimal_text b.0 ++ (58 ∷ decimal_text b.1)
bounds_is b = append_assoc (decimal_text b.0) (codes ":") (decimal_text b.1)

pub some_behind : (xs ys : List ℕ) → 0 < length xs → 0 < length (xs ++ ys)
some_behind xs ys h = omega (arith, length-append xs ys)

pub bounds_items : AreItems AreBounds 44 bounds_text
bounds_items = record {
  some = λ b h. subst (λ z. 0 < length z) (sym (bounds_is b)) (some_behind (decimal_text b.0)
      (58 ∷ decimal_text b.1) (signed_some b.0 h.0));
  clean = λ b h. ap (list_all (other 44)) (bounds_is b) ∙ all_append (other 44) (decimal_text b.0)
      (58 ∷ decimal_text b.1) (signed_clean 44 b.0 refl h.0) (signed_clean 44 b.1 refl h.1);
}

pub size_is : (d : ℕ × ℤ) → size_text d ≡ number_text d.0 ++ (42 ∷ decimal_text d.1)
size_is d = append_assoc (number_text d.0) (codes "*") (decimal_text d.1)

pub size_items : AreItems IsDimension 58 size_text
size_items = record {
  some = λ d h. subst (λ z. 0 < length z) (sym (size_is d)) (some_behind (number_text d.0) (42 ∷ decimal_text d.1)
      (some_of_number d.0 (omega arith)));
  clean = λ d h. ap (list_all (other 58)) (size_is d) ∙ all_append (other 58) (number_text d.0)
      (42 ∷ decimal_text d.1) (digits_clean 58 d.0 refl (omega arith)) (signed_clean 58 d.1 refl
      (half_signed d.1 h.1));
}

-- what the test for an empty list tells
pub empty_is : (xs : List ℕ) → true ≡ nat_eq (length xs) 0 → xs ≡ []
empty_is [] e = refl
empty_is (x ∷ xs) e = absurd (let h = eqb-true (suc (length xs)) 0 (sym e) in omega arith)

pub some_is : (xs : List ℕ) → false ≡ nat_eq (length xs) 0 → 0 < length xs
some_is [] e = absurd (true≢false (sym e))
some_is (x ∷ xs) e = omega arith

-- a number with a sign, passed on, is the same
fits : (z : ℤ) → IsSigned z → FitsSigned w64 z
fits (pos n) h = record { sfits = h }
fits (negsuc n) h = record { sfits = h }

pub passed : (z x : ℤ) → IsSigned z → x ≡ z → to_z w64 (of_z w64 x) ≡ z
passed z x h e = ap (λ y. to_z w64 (of_z w64 y)) e ∙ to_z-of_z w64 z (fits z h)

half_fits : (z : ℤ) → IsSignedHalf z → FitsSigned w32 z
half_fits (pos n) h = record { sfits = h }
half_fits (negsuc n) h = record { sfits = h }

pub passed_half : (z x : ℤ) → IsSignedHalf z → x ≡ z → to_z w32 (of_z w32 x) ≡ z
passed_half z x h e = ap (λ y. to_z w32 (of_z w32 y)) e ∙ to_z-of_z w32 z (half_fits z h)
