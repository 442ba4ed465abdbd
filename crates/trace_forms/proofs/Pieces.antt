-- The parts of a line: their bytes, and that two parts with one text are one.
use Rattle.std.proofs.Common.{◌≡◌, ℕ, zero, suc, ◌<◌, Bool, true, false, not, ◌||◌, nat_eq, ℤ, List, [], ◌∷◌}
use Rattle.std.proofs.Common.{◌++◌, flat_map, length, drop, refl, ap, sym, ◌∙◌, subst, arith, codes, Some, slice_get}
use Rattle.std.proofs.Common.{append_assoc, true≢false, eqb-true, length-append}
use Rattle.std.specs.List.{list_all}
use Rattle.caf_base.specs.declared.place.ImageNo.{ImageNo}
use Rattle.caf_base.specs.declared.span.Span.{Span}
use Rattle.caf_base.specs.declared.value.Value.{Value}
use Rattle.caf_base.specs.declared.value.Value.TheVariants as values
use Rattle.caf_text.specs.Numbers.{decimal_text}
use Rattle.trace_theory.specs.Entries.{Each}
use Rattle.trace_text.specs.TraceText.{behind, joined, number_text, value_text, values_text, image_text, name_text}
use Rattle.trace_text.specs.TraceText.{dimension_text, span_text, bounds_text, shape_text, cobound_text}
use Rattle.trace_forms.specs.Names.{is_digit_byte, is_name_byte, IsName, AreNames}
use Rattle.trace_forms.specs.Ranges.{IsHalf, IsSigned, IsImageNumber, IsValueInRange, HasName, IsDimension}
use Rattle.trace_forms.specs.Ranges.{SpanHasText, AreBounds}
use Rattle.trace_forms.proofs.Cuts.{and_first, stops, span_same, differ_by, all_append, all_within, Items, flat_same}
use Rattle.trace_forms.proofs.Cuts.{joined_same, flat_inside, joined_inside}
use Rattle.trace_forms.proofs.Decimals.{is_dec, digit_dec, digits_of_number, some_of_number, same_number, signed_dec}
use Rattle.trace_forms.proofs.Decimals.{signed_some, same_signed, half_signed}

-- any byte but c
abbrev pub no : ℕ → ℕ → Bool
no c b = not (nat_eq b c)

eq_either : (test : ℕ → Bool) (b c : ℕ) → test c ≡ false → test b ≡ true → (t : Bool) → nat_eq b c ≡ t → not t ≡ true
eq_either test b c out is true e = absurd (true≢false (sym is ∙ ap test (eqb-true b c e) ∙ out))
eq_either test b c out is false e = refl

-- a byte of a class without c isn't c
pub other_byte : (test : ℕ → Bool) (c : ℕ) → test c ≡ false → (b : ℕ) → test b ≡ true → no c b ≡ true
other_byte test c out b is = eq_either test b c out is (nat_eq b c) refl

pub no_of : (test : ℕ → Bool) (c : ℕ) → test c ≡ false → (xs : List ℕ) → list_all test xs ≡ true
    → list_all (no c) xs ≡ true
no_of test c out xs h = all_within test (no c) (other_byte test c out) xs h

or_first : (a b : Bool) → a ≡ true → (a || b) ≡ true
or_first a b h = ap (λ t. t || b) h

-- ---- values
abbrev pub is_val : ℕ → Bool
is_val b = is_dec b || (nat_eq b 84 || nat_eq b 70)

pub dec_val : (b : ℕ) → is_dec b ≡ true → is_val b ≡ true
dec_val b h = or_first (is_dec b) _ h

pub value_inside : (v : Value) → IsValueInRange v → list_all is_val (value_text v) ≡ true
value_inside (values.Int z) h = all_within is_dec is_val dec_val (decimal_text z) (signed_dec z h)
value_inside (values.Bool true) h = refl
value_inside (values.Bool false) h = refl

pub value_some : (v : Value) → IsValueInRange v → 0 < length (value_text v)
value_some (values.Int z) h = signed_some z h
value_some (values.Bool true) h = omega arith
value_some (values.Bool false) h = omega arith

pub value_same : (v w : Value) → IsValueInRange v → IsValueInRange w → value_text v ≡ value_text w → v ≡ w
value_same (values.Int y) (values.Int z) p q e = ap values.Int (same_signed y z p q e)
value_same (values.Int y) (values.Bool true) p q e =
    absurd (differ_by is_dec (decimal_text y) _ (signed_dec y p) refl e)
value_same (values.Int y) (values.Bool false) p q e =
    absurd (differ_by is_dec (decimal_text y) _ (signed_dec y p) refl e)
value_same (values.Bool true) (values.Int z) p q e =
    absurd (differ_by is_dec (decimal_text z) _ (signed_dec z q) refl (sym e))
value_same (values.Bool false) (values.Int z) p q e =
    absurd (differ_by is_dec (decimal_text z) _ (signed_dec z q) refl (sym e))
value_same (values.Bool true) (values.Bool true) p q e = refl
value_same (values.Bool false) (values.Bool false) p q e = refl
value_same (values.Bool true) (values.Bool false) p q e = absurd (differ_by (λ b. nat_eq b 84) _ _ refl refl e)
value_same (values.Bool false) (values.Bool true) p q e = absurd (differ_by (λ b. nat_eq b 70) _ _ refl refl e)

value_items : Items IsValueInRange is_val 44 value_text
value_items = record { outside = refl; inside = value_inside; same = value_same }

-- values with commas
abbrev pub is_vals : ℕ → Bool
is_vals b = is_val b || nat_eq b 44

pub values_inside : (vs : List Value) → Each IsValueInRange vs → list_all is_vals (values_text vs) ≡ true
values_inside vs h = joined_inside IsValueInRange is_val 44 value_text value_items is_vals refl
    (λ b k. or_first (is_val b) _ k) vs h

pub values_same : (vs ws : List Value) → Each IsValueInRange vs → Each IsValueInRange ws
    → values_text vs ≡ values_text ws → vs ≡ ws
values_same vs ws p q e = joined_same IsValueInRange is_val 44 value_text value_items value_some vs ws p q e

-- ---- numbers of images and indices with a byte between them
pub half_items : (c : ℕ) → is_digit_byte c ≡ false → Items IsHalf is_digit_byte c number_text
half_items c out = record {
  outside = out;
  inside = λ n h. digits_of_number n (omega arith);
  same =
      λ m n p q e. same_number m n (omega arith) (omega arith) e;
}

pub image_same : (x y : ImageNo) → IsImageNumber x → IsImageNumber y → image_text x ≡ image_text y → x ≡ y
image_same x y p q e = let k : x.0 ≡ y.0 = same_number x.0 y.0 (omega arith) (omega arith) e in
    (λ i. record { 0 = k i })

pub image_items : (c : ℕ) → is_digit_byte c ≡ false → Items IsImageNumber is_digit_byte c image_text
image_items c out = record { outside = out; inside = λ x h. digits_of_number x.0 (omega arith); same = image_same }

pub image_some : (x : ImageNo) → IsImageNumber x → 0 < length (image_text x)
image_some x h = some_of_number x.0 (omega arith)

-- ---- names
each_get : {A : Type 0} (P : A → Type 0) (xs : List A) (k : ℕ) (x : A) → Each P xs → slice_get xs k ≡ Some x → P x
each_get P [] k x h e = absurd (cc)
each_get P (y ∷ ys) zero x h e = let p : y ≡ x = cc in subst P p h.0
each_get P (y ∷ ys) (suc k) x h e = each_get P ys k x h.1 e

module _ (names : List (List ℕ)) (are : AreNames names) where
  name_is : (c : ℕ) (h : HasName names c) → name_text names c ≡ h.0
  name_is c h = rw h.1

  pub name_inside : (c : ℕ) → HasName names c → list_all is_name_byte (name_text names c) ≡ true
  name_inside c h = ap (list_all is_name_byte) (name_is c h) ∙ (each_get IsName names c h.0 are.each h.1).bytes

  pub name_some : (c : ℕ) → HasName names c → 0 < length (name_text names c)
  name_some c h = subst (λ z. 0 < length z) (sym (name_is c h)) (each_get IsName names c h.0 are.each h.1).some

  pub name_same : (c d : ℕ) → HasName names c → HasName names d → name_text names c ≡ name_text names d → c ≡ d
  name_same c d p q e = are.differ c d p.0 p.1 (q.1 ∙ ap Some (sym (name_is d q) ∙ sym e ∙ name_is c p))

-- ---- spans
-- (texts that are joined stand to the left in the definitions: these are the same to the right)
dim_text : ℕ × ℤ → List ℕ
dim_text d = number_text d.0 ++ codes "*" ++ decimal_text d.1

dim_is : (d : ℕ × ℤ) → dim_text d ≡ number_text d.0 ++ (42 ∷ decimal_text d.1)
unfolding dim_text
dim_is d = append_assoc (number_text d.0) (codes "*") (decimal_text d.1)

abbrev is_dim : ℕ → Bool
is_dim b = is_dec b || nat_eq b 42

dim_inside : (d : ℕ × ℤ) → IsDimension d → list_all is_dim (dim_text d) ≡ true
dim_inside d h =
    ap (list_all is_dim) (dim_is d)
    ∙ all_append is_dim (number_text d.0) (42 ∷ decimal_text d.1)
    (all_within is_digit_byte is_dim (λ b k. or_first (is_dec b) _ (digit_dec b k)) (number_text d.0)
    (digits_of_number d.0 (omega arith)))
    (all_within is_dec is_dim (λ b k. or_first (is_dec b) _ k) (decimal_text d.1)
    (signed_dec d.1 (half_signed d.1 h.1)))

dim_same : (c d : ℕ × ℤ) → IsDimension c → IsDimension d → dim_text c ≡ dim_text d → c ≡ d
dim_same c d p q e =
    let k = span_same is_digit_byte (number_text c.0) (number_text d.0) (42 ∷ decimal_text c.1)
    (42 ∷ decimal_text d.1) (digits_of_number c.0 (omega arith)) (digits_of_number d.0 (omega arith)) refl refl
    (sym (dim_is c) ∙ e ∙ dim_is d) in
    let m : c.0 ≡ d.0 = same_number c.0 d.0 (omega arith) (omega arith) k.0 in
    let z : c.1 ≡ d.1 = same_signed c.1 d.1 (half_signed c.1 p.1) (half_signed d.1 q.1) (ap (drop 1) k.1) in
    (λ i. (m i, z i))

dim_items : Items IsDimension is_dim 58 dim_text
dim_items = record { outside = refl; inside = dim_inside; same = dim_same }

-- a byte of a span
abbrev pub is_span_byte : ℕ → Bool
is_span_byte b = is_name_byte b || (nat_eq b 58 || (nat_eq b 42 || nat_eq b 45))

name_span : (b : ℕ) → is_name_byte b ≡ true → is_span_byte b ≡ true
name_span b h = or_first (is_name_byte b) _ h

digit_name : (b : ℕ) → is_digit_byte b ≡ true → is_name_byte b ≡ true
digit_name b h = or_first (is_digit_byte b) _ h

or_mid : (a b c : Bool) → (a || c) ≡ true → ((a || b) || c) ≡ true
or_mid true b c h = refl
or_mid false true c h = refl
or_mid false false c h = h

dim_span : (b : ℕ) → is_dim b ≡ true → is_span_byte b ≡ true
dim_span b h = by (is_digit_byte b) _ (nat_eq b 58) (nat_eq b 42) (nat_eq b 45) h
  where
    by : (d m e s n : Bool) → ((d || n) || s) ≡ true → ((d || m) || (e || (s || n))) ≡ true
    by true m e s n h = refl
    by false true e s n h = refl
    by false false true s n h = refl
    by false false false true n h = refl
    by false false false false true h = refl
    by false false false false false h = h

dims_text : List (ℕ × ℤ) → List ℕ
dims_text ds = flat_map dimension_text ds

dims_is : (ds : List (ℕ × ℤ)) → dims_text ds ≡ flat_map (behind (58 ∷ []) dim_text) ds
unfolding dims_text dim_text
dims_is ds = refl

module _ (names : List (List ℕ)) (are : AreNames names) where
  span_is : (s : Span) → span_text names s ≡ name_text names s.coarray
      ++ (58 ∷ (number_text s.start ++ flat_map (behind (58 ∷ []) dim_text) s.dims))
  unfolding dim_text
  span_is s = append_assoc (name_text names s.coarray ++ codes ":") (number_text s.start)
      (flat_map dimension_text s.dims) ∙ append_assoc (name_text names s.coarray) (codes ":")
      (number_text s.start ++ flat_map dimension_text s.dims)

  pub span_inside : (s : Span) → SpanHasText names s → list_all is_span_byte (span_text names s) ≡ true
  span_inside s h =
      ap (list_all is_span_byte) (span_is s)
      ∙ all_append is_span_byte (name_text names s.coarray) _
      (all_within is_name_byte is_span_byte name_span (name_text names s.coarray)
      (name_inside names are s.coarray h.named))
      (all_append is_span_byte (number_text s.start) _
      (all_within is_digit_byte is_span_byte (λ b k. name_span b (digit_name b k)) (number_text s.start)
      (digits_of_number s.start (let k = h.start in omega arith)))
      (flat_inside IsDimension is_dim 58 dim_text dim_items is_span_byte refl dim_span s.dims h.dims))

  pub span_of_text : (s t : Span) → SpanHasText names s → SpanHasText names t → span_text names s ≡ span_text names t
      → s ≡ t
  span_of_text s t p q e =
      let k = span_same is_name_byte (name_text names s.coarray) (name_text names t.coarray)
      (58 ∷ (number_text s.start ++ flat_map (behind (58 ∷ []) dim_text) s.dims))
      (58 ∷ (number_text t.start ++ flat_map (behind (58 ∷ []) dim_text) t.dims))
      (name_inside names are s.coarray p.named) (name_inside names are t.coarray q.named) refl refl
      (sym (span_is s) ∙ e ∙ span_is t) in
      let c = name_same names are s.coarray t.coarray p.named q.named k.0 in
      let ps = p.start in
      let qs = q.start in
      let m = span_same is_digit_byte (number_text s.start) (number_text t.start)
      (flat_map (behind (58 ∷ []) dim_text) s.dims) (flat_map (behind (58 ∷ []) dim_text) t.dims)
      (digits_of_number s.start (omega arith)) (digits_of_number t.start (omega arith)) (dims_stop s.dims)
      (dims_stop t.dims) (ap (drop 1) k.1) in
      let n : s.start ≡ t.start = same_number s.start t.start (omega arith) (omega arith) m.0 in
      let d = flat_same IsDimension is_dim 58 dim_text dim_items s.dims t.dims p.dims q.dims m.1 in
      (λ i. record { coarray = c i; start = n i; dims = d i })
    where
      dims_stop : (ds : List (ℕ × ℤ)) → stops is_digit_byte (flat_map (behind (58 ∷ []) dim_text) ds) ≡ true
      dims_stop [] = refl
      dims_stop (d ∷ ds) = refl

-- ---- bounds
abbrev pub is_bound : ℕ → Bool
is_bound b = is_dec b || nat_eq b 58

dec_bound : (b : ℕ) → is_dec b ≡ true → is_bound b ≡ true
dec_bound b h = or_first (is_dec b) _ h

bounds_is : (b : ℤ × ℤ) → bounds_text b ≡ decimal_text b.0 ++ (58 ∷ decimal_text b.1)
bounds_is b = append_assoc (decimal_text b.0) (codes ":") (decimal_text b.1)

bounds_inside : (b : ℤ × ℤ) → AreBounds b → list_all is_bound (bounds_text b) ≡ true
bounds_inside b h =
    ap (list_all is_bound) (bounds_is b)
    ∙ all_append is_bound (decimal_text b.0) (58 ∷ decimal_text b.1)
    (all_within is_dec is_bound dec_bound (decimal_text b.0) (signed_dec b.0 h.0))
    (all_within is_dec is_bound dec_bound (decimal_text b.1) (signed_dec b.1 h.1))

bounds_same : (a b : ℤ × ℤ) → AreBounds a → AreBounds b → bounds_text a ≡ bounds_text b → a ≡ b
bounds_same a b p q e =
    let k = span_same is_dec (decimal_text a.0) (decimal_text b.0) (58 ∷ decimal_text a.1) (58 ∷ decimal_text b.1)
    (signed_dec a.0 p.0) (signed_dec b.0 q.0) refl refl (sym (bounds_is a) ∙ e ∙ bounds_is b) in
    let m = same_signed a.0 b.0 p.0 q.0 k.0 in
    let n = same_signed a.1 b.1 p.1 q.1 (ap (drop 1) k.1) in
    (λ i. (m i, n i))

bounds_some : (b : ℤ × ℤ) → AreBounds b → 0 < length (bounds_text b)
bounds_some b h = rw (bounds_is b) (omega (arith, length-append (decimal_text b.0) (58 ∷ decimal_text b.1)))

bounds_items : Items AreBounds is_bound 44 bounds_text
bounds_items = record { outside = refl; inside = bounds_inside; same = bounds_same }

abbrev pub is_bounds : ℕ → Bool
is_bounds b = is_bound b || nat_eq b 44

pub bounds_list_inside : (bs : List (ℤ × ℤ)) → Each AreBounds bs
    → list_all is_bounds (joined (44 ∷ []) bounds_text bs) ≡ true
bounds_list_inside bs h = joined_inside AreBounds is_bound 44 bounds_text bounds_items is_bounds refl
    (λ b k. or_first (is_bound b) _ k) bs h

-- whether a text begins with this byte
abbrev pub begins : ℕ → List ℕ → Bool
begins c [] = false
begins c (b ∷ bs) = nat_eq b c

-- a text of a class with a byte or more doesn't begin with one outside of it
pub first_inside : (test : ℕ → Bool) (xs r s : List ℕ) (c : ℕ) → list_all test xs ≡ true → 0 < length xs
    → test c ≡ false → xs ++ r ≡ c ∷ s → ⊥
first_inside test [] r s c h some out e = omega arith
first_inside test (x ∷ xs) r s c h some out e = let k : x ≡ c = cc in
    true≢false (sym (and_first (test x) _ h) ∙ ap test k ∙ out)

pub shape_same : (xs ys : List (ℤ × ℤ)) → Each AreBounds xs → Each AreBounds ys → (r s : List ℕ) → shape_text xs
    ++ (91 ∷ r) ≡ shape_text ys ++ (91 ∷ s) → (xs ≡ ys) × (r ≡ s)
shape_same [] [] p q r s e = (refl, ap (drop 1) e)
shape_same [] (y ∷ ys) p q r s e = absurd (true≢false (ap (begins 91) e))
shape_same (x ∷ xs) [] p q r s e = absurd (true≢false (ap (begins 40) e))
shape_same (x ∷ xs) (y ∷ ys) p q r s e =
    let left = append_assoc (joined (44 ∷ []) bounds_text (x ∷ xs)) (codes ")") (91 ∷ r) in
    let right = append_assoc (joined (44 ∷ []) bounds_text (y ∷ ys)) (codes ")") (91 ∷ s) in
    let k = span_same is_bounds (joined (44 ∷ []) bounds_text (x ∷ xs)) (joined (44 ∷ []) bounds_text (y ∷ ys))
    (41 ∷ 91 ∷ r) (41 ∷ 91 ∷ s) (bounds_list_inside (x ∷ xs) p) (bounds_list_inside (y ∷ ys) q) refl refl
    (sym left ∙ ap (drop 1) e ∙ right) in (
      joined_same AreBounds is_bound 44 bounds_text bounds_items bounds_some (x ∷ xs) (y ∷ ys) p q k.0,
      ap
          (drop 2) k.1,
    )

-- cobounds but the last, then the last lower one
co_step : (b : ℤ × ℤ) (flat tail : List ℕ) → (cobound_text b ++ flat) ++ tail ≡ decimal_text b.0
    ++ (58 ∷ (decimal_text b.1 ++ (44 ∷ (flat ++ tail))))
co_step b flat tail = simp append_assoc

pub co_same : (xs ys : List (ℤ × ℤ)) (l m : ℤ) → Each AreBounds xs → Each AreBounds ys → IsSigned l → IsSigned m
    → (r s : List ℕ)
    → flat_map cobound_text xs ++ (decimal_text l ++ (58 ∷ 42 ∷ r)) ≡ flat_map cobound_text ys
    ++ (decimal_text m ++ (58 ∷ 42 ∷ s)) → (xs ≡ ys) × (l ≡ m) × (r ≡ s)
co_same [] [] l m p q lp mq r s e =
    let k = span_same is_dec (decimal_text l) (decimal_text m) (58 ∷ 42 ∷ r) (58 ∷ 42 ∷ s) (signed_dec l lp)
    (signed_dec m mq) refl refl e in
    (refl, same_signed l m lp mq k.0, ap (drop 2) k.1)
co_same [] (y ∷ ys) l m p q lp mq r s e =
    let step = co_step y (flat_map cobound_text ys) (decimal_text m ++ (58 ∷ 42 ∷ s)) in
    let k = span_same is_dec (decimal_text l) (decimal_text y.0) (58 ∷ 42 ∷ r) _ (signed_dec l lp)
    (signed_dec y.0 q.0.0) refl refl (e ∙ step) in
    absurd (first_inside is_dec (decimal_text y.1) _ _ 42 (signed_dec y.1 q.0.1) (signed_some y.1 q.0.1) refl
    (sym (ap (drop 1) k.1)))
co_same (x ∷ xs) [] l m p q lp mq r s e =
    let step = co_step x (flat_map cobound_text xs) (decimal_text l ++ (58 ∷ 42 ∷ r)) in
    let k = span_same is_dec (decimal_text x.0) (decimal_text m) _ (58 ∷ 42 ∷ s) (signed_dec x.0 p.0.0)
    (signed_dec m mq) refl refl (sym step ∙ e) in
    absurd (first_inside is_dec (decimal_text x.1) _ _ 42 (signed_dec x.1 p.0.1) (signed_some x.1 p.0.1) refl
    (ap (drop 1) k.1))
co_same (x ∷ xs) (y ∷ ys) l m p q lp mq r s e =
    let left = co_step x (flat_map cobound_text xs) (decimal_text l ++ (58 ∷ 42 ∷ r)) in
    let right = co_step y (flat_map cobound_text ys) (decimal_text m ++ (58 ∷ 42 ∷ s)) in
    let k = span_same is_dec (decimal_text x.0) (decimal_text y.0) _ _ (signed_dec x.0 p.0.0)
    (signed_dec y.0 q.0.0) refl refl (sym left ∙ e ∙ right) in
    let n = span_same is_dec (decimal_text x.1) (decimal_text y.1) _ _ (signed_dec x.1 p.0.1)
    (signed_dec y.1 q.0.1) refl refl (ap (drop 1) k.1) in
    let t = co_same xs ys l m p.1 q.1 lp mq r s (ap (drop 1) n.1) in
    let a = same_signed x.0 y.0 p.0.0 q.0.0 k.0 in
    let b = same_signed x.1 y.1 p.0.1 q.0.1 n.0 in
    ((λ i. (a i, b i) ∷ t.0 i), t.1, t.2)
