-- Parts of a line that have no blank and no `>`: each ends where a blank stands.
use Rattle.std.proofs.Common.{◌≡◌, ℕ, ◌<◌, Bool, true, false, ◌&&◌, List, [], ◌∷◌, ◌++◌, flat_map, length, drop}
use Rattle.std.proofs.Common.{refl, ap, sym, ◌∙◌, arith, append_assoc}
use Rattle.std.specs.List.{list_all}
use Rattle.caf_text.specs.Numbers.{decimal_text}
use Rattle.trace_theory.specs.Entries.{Each}
use Rattle.trace_text.specs.TraceText.{behind, joined, number_text, value_text, values_text, image_text, name_text}
use Rattle.trace_text.specs.TraceText.{span_text}
use Rattle.trace_forms.specs.Names.{is_digit_byte, is_name_byte, AreNames}
use Rattle.trace_forms.specs.Ranges.{IsHalf, IsLong, IsSigned, IsImageNumber, IsValueInRange, HasName, SpanHasText}
use Rattle.trace_forms.proofs.Cuts.{and_both, stops, span_same, all_within, joined_same, joined_inside}
use Rattle.trace_forms.proofs.Decimals.{is_dec, digits_of_number, same_number, signed_dec, same_signed}
use Rattle.trace_forms.proofs.Pieces.{no, other_byte, is_val, value_inside, value_same, is_vals, values_inside}
use Rattle.trace_forms.proofs.Pieces.{values_same, image_same, image_items, image_some, name_inside, name_same}
use Rattle.trace_forms.proofs.Pieces.{is_span_byte, span_inside, span_of_text, first_inside}

-- neither a blank nor `>`
abbrev pub is_field : ℕ → Bool
is_field b = no 32 b && no 62 b

pub field_byte : (test : ℕ → Bool) → test 32 ≡ false → test 62 ≡ false → (b : ℕ) → test b ≡ true → is_field b ≡ true
field_byte test p q b h = and_both (no 32 b) (no 62 b) (other_byte test 32 p b h) (other_byte test 62 q b h)

pub field_of : (test : ℕ → Bool) → test 32 ≡ false → test 62 ≡ false → (xs : List ℕ) → list_all test xs ≡ true
    → list_all is_field xs ≡ true
field_of test p q xs h = all_within test is_field (field_byte test p q) xs h

pub record Field {A : Type 0} (P : A → Type 0) (text : A → List ℕ) : Type 0 where
  pub inside : (x : A) → P x → list_all is_field (text x) ≡ true
  pub same : (x y : A) → P x → P y → text x ≡ text y → x ≡ y

-- a part that ends where a blank stands
pub cut : {A : Type 0} (P : A → Type 0) (text : A → List ℕ) → Field P text → (x y : A) → P x → P y → (r s : List ℕ)
    → text x ++ (32 ∷ r) ≡ text y ++ (32 ∷ s) → (x ≡ y) × (r ≡ s)
cut P text f x y p q r s e =
    let k = span_same is_field (text x) (text y) (32 ∷ r) (32 ∷ s) (f.inside x p) (f.inside y q) refl refl e in
    (f.same x y p q k.0, ap (drop 1) k.1)

pub half_field : Field IsHalf number_text
half_field = record {
  inside = λ n h. field_of is_digit_byte refl refl (number_text n) (digits_of_number n (omega arith));
  same = λ m n p q e. same_number m n (omega arith) (omega arith) e;
}

pub long_field : Field IsLong number_text
long_field = record {
  inside = λ n h. field_of is_digit_byte refl refl (number_text n) (digits_of_number n (omega arith));
  same = λ m n p q e. same_number m n (omega arith) (omega arith) e;
}

pub signed_field : Field IsSigned decimal_text
signed_field = record {
  inside = λ z h. field_of is_dec refl refl (decimal_text z) (signed_dec z h);
  same =
      same_signed;
}

pub image_field : Field IsImageNumber image_text
image_field = record {
  inside = λ x h. field_of is_digit_byte refl refl (image_text x)
      (digits_of_number x.0 (omega arith));
  same = image_same;
}

pub value_field : Field IsValueInRange value_text
value_field = record {
  inside = λ v h. field_of is_val refl refl (value_text v) (value_inside v h);
  same =
      value_same;
}

pub values_field : Field (Each IsValueInRange) values_text
values_field = record {
  inside = λ vs h. field_of is_vals refl refl (values_text vs) (values_inside vs h);
  same =
      values_same;
}

pub images_field : Field (Each IsImageNumber) (joined (44 ∷ []) image_text)
images_field = record {
  inside = λ xs h. joined_inside IsImageNumber is_digit_byte 44 image_text (image_items 44 refl) is_field refl
      (field_byte is_digit_byte refl refl) xs h;
  same = λ xs ys p q e. joined_same IsImageNumber is_digit_byte 44 image_text (image_items 44 refl) image_some xs ys p
      q e;
}

module _ (names : List (List ℕ)) (are : AreNames names) where
  pub name_field : Field (HasName names) (name_text names)
  name_field = record {
    inside = λ c h. field_of is_name_byte refl refl (name_text names c)
        (name_inside names are c h);
    same = name_same names are;
  }

  pub span_field : Field (SpanHasText names) (span_text names)
  span_field = record {
    inside = λ s h. field_of is_span_byte refl refl (span_text names s)
        (span_inside names are s h);
    same = span_of_text names are;
  }

-- parts with a blank before each, and behind them a blank and `>`
module _ {A : Type 0} (P : A → Type 0) (text : A → List ℕ) (f : Field P text)
    (some : (x : A) → P x → 0 < length (text x)) where
  pub fields_same : (xs ys : List A) → Each P xs → Each P ys → (r s : List ℕ)
      → flat_map (behind (32 ∷ []) text) xs ++ (32 ∷ 62 ∷ r) ≡ flat_map (behind (32 ∷ []) text) ys ++ (32 ∷ 62 ∷ s)
      → (xs ≡ ys) × (r ≡ s)
  fields_same [] [] p q r s e = (refl, ap (drop 2) e)
  fields_same [] (y ∷ ys) p q r s e =
      absurd (first_inside is_field (text y) (flat_map (behind (32 ∷ []) text) ys ++ (32 ∷ 62 ∷ s)) (r) 62
      (f.inside y q.0) (some y q.0) refl
      (sym (append_assoc (text y) (flat_map (behind (32 ∷ []) text) ys) (32 ∷ 62 ∷ s)) ∙ sym (ap (drop 1) e)))
  fields_same (x ∷ xs) [] p q r s e =
      absurd (first_inside is_field (text x) (flat_map (behind (32 ∷ []) text) xs ++ (32 ∷ 62 ∷ r)) (s) 62
      (f.inside x p.0) (some x p.0) refl
      (sym (append_assoc (text x) (flat_map (behind (32 ∷ []) text) xs) (32 ∷ 62 ∷ r)) ∙ ap (drop 1) e))
  fields_same (x ∷ xs) (y ∷ ys) p q r s e =
      let left = append_assoc (text x) (flat_map (behind (32 ∷ []) text) xs) (32 ∷ 62 ∷ r) in
      let right = append_assoc (text y) (flat_map (behind (32 ∷ []) text) ys) (32 ∷ 62 ∷ s) in
      let k = span_same is_field (text x) (text y) (flat_map (behind (32 ∷ []) text) xs ++ (32 ∷ 62 ∷ r))
      (flat_map (behind (32 ∷ []) text) ys ++ (32 ∷ 62 ∷ s)) (f.inside x p.0) (f.inside y q.0) (stop xs r)
      (stop ys s) (sym left ∙ ap (drop 1) e ∙ right) in
      let h = f.same x y p.0 q.0 k.0 in
      let t = fields_same xs ys p.1 q.1 r s k.1 in
      ((λ i. h i ∷ t.0 i), t.1)
    where
      stop : (zs : List A) (u : List ℕ) → stops is_field (flat_map (behind (32 ∷ []) text) zs ++ (32 ∷ 62 ∷ u)) ≡ true
      stop [] u = refl
      stop (z ∷ zs) u = refl
