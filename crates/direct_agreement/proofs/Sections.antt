-- Subscripts and places as numbers on a stack and back, and the dimensions that a section keeps.
use Rattle.std.proofs.Common.{arith, ◌≡◌, refl, ap, sym, subst, ◌∙◌, ℕ, zero, suc, ◌+◌, ◌-◌, ◌*◌, ◌/◌, ◌%◌, ◌≤◌, ◌<◌, ◌==◌, ◌||◌, ◌&&◌, ℤ, pos, ◌+ℤ◌, ◌*ℤ◌, Bool, true, false, cond, List, [], ◌∷◌, ◌++◌, length, map, None, Some, append-nil, length-append, unwrap_or, zero-add}
use Rattle.std.specs.Ordering.{int_eq}
use Rattle.caf_base.specs.Arithmetic.{is_within, iterations}
use Rattle.coarray_types.specs.Places.{extent_of}
use Rattle.walk_theory.specs.Terms.{Found, found, at_fault, with_found}
use Rattle.image_acts.specs.Faults.{zero_step, bounds_fault}
use Rattle.image_acts.specs.Frames.{pairs_in, pairs_numbers}
use Rattle.image_acts.specs.Taking.{taken, put_down as put_numbers}
use Rattle.image_acts.specs.Places.{Place, Subscript, single, triplet, Dimension, digits, with_digit, numbers_in, numbers_of_form, triplets, subscripts_in, dimension, dimensions, steps_of, start_of, resting, place_of, empty_place, no_dims, place_numbers, dims_numbers, dims_in, place_in, place_size, apart_by}
use Rattle.tree_meaning.specs.Expressions.{whole_form}
use Rattle.direct_meaning.specs.Expressions.{whole}
use Rattle.direct_agreement.specs.Stacked.{numbers_of_one, numbers_of, digit_in, form_in}

-- numbers that were put down are taken
taken_on : (xs vs acc : List ℤ) (n : ℕ) → taken (length xs + n) (put_numbers xs vs) acc ≡ taken n vs (xs ++ acc)
taken_on [] vs acc n = ap (λ k. taken k vs acc) (zero-add n)
taken_on (x ∷ xs) vs acc n =
    let e : suc (length xs) + n ≡ length xs + suc n = omega arith in
    subst (λ k. taken k (put_numbers xs (x ∷ vs)) acc ≡ taken n vs (x ∷ (xs ++ acc))) (sym e) (taken_on xs (x ∷ vs) acc (suc n))

pub taken_back : (xs vs : List ℤ) → taken (length xs) (put_numbers xs vs) [] ≡ Some (xs, vs)
taken_back xs vs =
    let e : length xs + 0 ≡ length xs = omega arith in
    subst (λ k. taken k (put_numbers xs vs) [] ≡ Some (xs, vs)) e (taken_on xs vs [] 0 ∙ ap (λ ys. Some (ys, vs)) (append-nil xs))

pub put_more : (xs ys vs : List ℤ) → put_numbers (xs ++ ys) vs ≡ put_numbers ys (put_numbers xs vs)
put_more [] ys vs = refl
put_more (x ∷ xs) ys vs = put_more xs ys (x ∷ vs)

-- whether a subscript is a dimension of the section
abbrev pub is_triplet : Subscript → Bool
is_triplet (single v) = false
is_triplet (triplet f l s) = true

abbrev pub kept_one : Subscript → ℕ
kept_one x = cond (is_triplet x) 1 0

abbrev pub kept_in : List Subscript → ℕ
kept_in [] = 0
kept_in (x ∷ xs) = kept_one x + kept_in xs

-- a subscript is read back from its digit and its numbers
pub record ReadsBack (x : Subscript) : Type 0 where
  pub less : ℕ
  pub is : digit_in x ≡ suc less
  pub small : less < 9
  pub back : (ds : List ℕ) (rest : List ℤ) → subscripts_in (digit_in x ∷ ds) (numbers_of_one x ++ rest) ≡ x ∷ subscripts_in ds rest
  pub count : numbers_in (digit_in x) ≡ length (numbers_of_one x)
  pub kept : (ds : List ℕ) → triplets (digit_in x ∷ ds) ≡ kept_one x + triplets ds

reads_back : (x : Subscript) → ReadsBack x
reads_back (single v) = record { less = 0; is = refl; small = omega arith; back = λ ds rest. refl; count = refl; kept = λ ds. refl }
reads_back (triplet None None None) = record
    { less = 1; is = refl; small = omega arith; back = λ ds rest. refl; count = refl; kept = λ ds. refl }
reads_back (triplet (Some f) None None) = record
    { less = 2; is = refl; small = omega arith; back = λ ds rest. refl; count = refl; kept = λ ds. refl }
reads_back (triplet None (Some l) None) = record
    { less = 3; is = refl; small = omega arith; back = λ ds rest. refl; count = refl; kept = λ ds. refl }
reads_back (triplet (Some f) (Some l) None) = record
    { less = 4; is = refl; small = omega arith; back = λ ds rest. refl; count = refl; kept = λ ds. refl }
reads_back (triplet None None (Some s)) = record
    { less = 5; is = refl; small = omega arith; back = λ ds rest. refl; count = refl; kept = λ ds. refl }
reads_back (triplet (Some f) None (Some s)) = record
    { less = 6; is = refl; small = omega arith; back = λ ds rest. refl; count = refl; kept = λ ds. refl }
reads_back (triplet None (Some l) (Some s)) = record
    { less = 7; is = refl; small = omega arith; back = λ ds rest. refl; count = refl; kept = λ ds. refl }
reads_back (triplet (Some f) (Some l) (Some s)) = record
    { less = 8; is = refl; small = omega arith; back = λ ds rest. refl; count = refl; kept = λ ds. refl }

all_back : (xs : List Subscript) → subscripts_in (map digit_in xs) (numbers_of xs) ≡ xs
all_back [] = refl
all_back (x ∷ xs) = (reads_back x).back (map digit_in xs) (numbers_of xs) ∙ ap (λ ys. x ∷ ys) (all_back xs)

all_counted : (xs : List Subscript) → numbers_of_form (map digit_in xs) ≡ length (numbers_of xs)
all_counted [] = refl
all_counted (x ∷ xs) = omega (arith, (reads_back x).count, all_counted xs, length-append (numbers_of_one x) (numbers_of xs))

all_kept : (xs : List Subscript) → triplets (map digit_in xs) ≡ kept_in xs
all_kept [] = refl
all_kept (x ∷ xs) = (reads_back x).kept (map digit_in xs) ∙ ap (λ n. kept_one x + n) (all_kept xs)

-- at most three decimal digits, none of them 0
three : (m a b d : ℕ) → a < 10 → b < 10 → d < 10 → m ≡ a + (10 * (b + (10 * d))) → digits m ≡ with_digit a (with_digit b (with_digit d []))
three m a b d p q r e =
    let i : m % 10 ≡ a = omega arith in
    let j : (m / 10) % 10 ≡ b = omega arith in
    let k : (m / 100) % 10 ≡ d = omega arith in
    ap (λ x. with_digit x (with_digit ((m / 10) % 10) (with_digit ((m / 100) % 10) []))) i ∙ ap
    (λ x. with_digit a (with_digit x (with_digit ((m / 100) % 10) []))) j
    ∙ ap (λ x. with_digit a (with_digit b (with_digit x []))) k

pub digits_back : (xs : List Subscript) → length xs ≤ 3 → digits (form_in xs) ≡ map digit_in xs
digits_back [] h = refl
digits_back (x ∷ []) h =
    let f = reads_back x in
    three (form_in (x ∷ [])) (digit_in x) 0 0 (omega (arith, f.is, f.small)) (omega arith) (omega arith) (omega arith) ∙ ap
    (λ d. with_digit d []) f.is ∙ ap (λ d. d ∷ []) (sym f.is)
digits_back (x ∷ y ∷ []) h =
    let f = reads_back x in
    let g = reads_back y in
    three (form_in (x ∷ y ∷ [])) (digit_in x) (digit_in y) 0 (omega (arith, f.is, f.small)) (omega (arith, g.is, g.small)) (omega arith)
    (omega arith)
    ∙ ap (λ d. with_digit d (with_digit (digit_in y) [])) f.is ∙ ap (λ d. suc f.less ∷ with_digit d []) g.is ∙ ap (λ d. suc f.less ∷ d ∷ [])
    (sym g.is) ∙ ap (λ d. d ∷ digit_in y ∷ []) (sym f.is)
digits_back (x ∷ y ∷ z ∷ []) h =
    let f = reads_back x in
    let g = reads_back y in
    let k = reads_back z in
    three (form_in (x ∷ y ∷ z ∷ [])) (digit_in x) (digit_in y) (digit_in z) (omega (arith, f.is, f.small)) (omega (arith, g.is, g.small))
    (omega (arith, k.is, k.small)) (omega arith)
    ∙ ap (λ d. with_digit d (with_digit (digit_in y) (with_digit (digit_in z) []))) f.is ∙ ap
    (λ d. suc f.less ∷ with_digit d (with_digit (digit_in z) [])) g.is
    ∙ ap (λ d. suc f.less ∷ suc g.less ∷ with_digit d []) k.is ∙ ap (λ d. suc f.less ∷ suc g.less ∷ d ∷ []) (sym k.is) ∙ ap
    (λ d. suc f.less ∷ d ∷ digit_in z ∷ []) (sym g.is)
    ∙ ap (λ d. d ∷ digit_in y ∷ digit_in z ∷ []) (sym f.is)
digits_back (x ∷ y ∷ z ∷ w ∷ xs) h = absurd (omega arith)

pub subscripts_back : (xs : List Subscript) → length xs ≤ 3 → subscripts_in (digits (form_in xs)) (numbers_of xs) ≡ xs
subscripts_back xs h = ap (λ ds. subscripts_in ds (numbers_of xs)) (digits_back xs h) ∙ all_back xs

pub count_back : (xs : List Subscript) → length xs ≤ 3 → numbers_of_form (digits (form_in xs)) ≡ length (numbers_of xs)
count_back xs h = ap numbers_of_form (digits_back xs h) ∙ all_counted xs

pub kept_back : (xs : List Subscript) → length xs ≤ 3 → triplets (digits (form_in xs)) ≡ kept_in xs
kept_back xs h = ap triplets (digits_back xs h) ∙ all_kept xs

-- the section of all elements
pub whole_numbers : (n : ℕ) → numbers_of (whole n) ≡ []
whole_numbers zero = refl
whole_numbers (suc n) = whole_numbers n

pub whole_form_in : (n : ℕ) → form_in (whole n) ≡ whole_form n
whole_form_in zero = refl
whole_form_in (suc n) = ap (λ m. 2 + (10 * m)) (whole_form_in n)

pub whole_length : (n : ℕ) → length (whole n) ≡ n
whole_length zero = refl
whole_length (suc n) = ap suc (whole_length n)

pub whole_kept : (n : ℕ) → kept_in (whole n) ≡ n
whole_kept zero = refl
whole_kept (suc n) = omega (arith, whole_kept n)

-- a place as numbers, and back
dims_back : (ds : List (ℕ × ℤ)) → dims_in (dims_numbers ds) ≡ ds
dims_back [] = refl
dims_back (d ∷ ds) = ap (λ es. d ∷ es) (dims_back ds)

pub place_back : (p : Place) → place_in (place_numbers p) ≡ p
place_back p = ap (λ ds. record { start = p.start; dims = ds }) (dims_back p.dims)

dims_length : (ds : List (ℕ × ℤ)) → length (dims_numbers ds) ≡ 2 * length ds
dims_length [] = refl
dims_length (d ∷ ds) = omega (arith, dims_length ds)

pub place_length : (p : Place) → length (place_numbers p) ≡ place_size (length p.dims)
place_length p = omega (arith, dims_length p.dims)

pub pairs_back : (bs : List (ℤ × ℤ)) → pairs_in (pairs_numbers bs) ≡ bs
pairs_back [] = refl
pairs_back (b ∷ bs) = ap (λ cs. b ∷ cs) (pairs_back bs)

pub pairs_length : (bs : List (ℤ × ℤ)) → length (pairs_numbers bs) ≡ 2 * length bs
pairs_length [] = refl
pairs_length (b ∷ bs) = omega (arith, pairs_length bs)

-- the dimensions that a section keeps are its triplets
abbrev KeepsOne : Bool → Found Dimension → Type 0
KeepsOne b (found d) = d.is_kept ≡ b
KeepsOne b (at_fault k) = Unit {0}

keeps_where : (test b : Bool) (d : Dimension) → d.is_kept ≡ b → KeepsOne b (cond test (found d) (at_fault bounds_fault))
keeps_where true b d h = h
keeps_where false b d h = tt

keeps_step : (none test : Bool) (d : Dimension) → d.is_kept ≡ true
    → KeepsOne true (cond none (at_fault zero_step) (cond test (found d) (at_fault bounds_fault)))
keeps_step true test d h = tt
keeps_step false test d h = keeps_where test true d h

keeps_triplet : (b : ℤ × ℤ) (first last stride : ℤ) (n : ℕ) → KeepsOne true (cond (int_eq stride (pos 0)) (at_fault zero_step)
    (cond ((n == 0) || (is_within b.0 b.1 first && is_within b.0 b.1 (first +ℤ (pos (n - 1) *ℤ stride))))
    (found (record { first = first; count = n; stride = apart_by n stride; is_kept = true })) (at_fault bounds_fault)))
keeps_triplet b first last stride n =
    keeps_step (int_eq stride (pos 0)) ((n == 0) || (is_within b.0 b.1 first && is_within b.0 b.1 (first +ℤ (pos (n - 1) *ℤ stride))))
    (record { first = first; count = n; stride = apart_by n stride; is_kept = true }) refl

dimension_keeps : (b : ℤ × ℤ) (x : Subscript) → KeepsOne (is_triplet x) (dimension b x)
dimension_keeps b (single s) = keeps_where (is_within b.0 b.1 s) false (record { first = s; count = 1; stride = pos 1; is_kept = false })
    refl
dimension_keeps b (triplet f l s) = keeps_triplet b (unwrap_or f b.0) (unwrap_or l b.1) (unwrap_or s (pos 1))
    (iterations (unwrap_or f b.0) (unwrap_or l b.1) (unwrap_or s (pos 1)))

abbrev KeepsAll : List Subscript → List (ℤ × ℤ) → Found (List Dimension) → Type 0
KeepsAll xs bs (found ds) = ((apart : ℕ) → length (steps_of apart bs ds) ≡ kept_in xs) × (length (resting ds) ≡ kept_in xs)
KeepsAll xs bs (at_fault k) = Unit {0}

one_more : (b : Bool) (d : ℕ × ℤ) (ds : List (ℕ × ℤ)) → length (cond b (d ∷ ds) ds) ≡ cond b 1 0 + length ds
one_more true d ds = omega arith
one_more false d ds = omega arith

join_keeps : (b : ℤ × ℤ) (bs : List (ℤ × ℤ)) (x : Subscript) (xs : List Subscript) (f : Found Dimension) (g : Found (List Dimension))
    → KeepsOne (is_triplet x) f → KeepsAll xs bs g
    → KeepsAll (x ∷ xs) (b ∷ bs) (with_found f (λ d. with_found g (λ ds. found (d ∷ ds))))
join_keeps b bs x xs (found d) (found ds) h (k, m) = (
  λ apart. one_more d.is_kept (d.count, pos apart *ℤ d.stride) (steps_of (apart * extent_of b) bs ds)
      ∙ ap (λ c. cond c 1 0 + length (steps_of (apart * extent_of b) bs ds)) h ∙ ap (λ n. kept_one x + n) (k (apart * extent_of b)),
  one_more d.is_kept (d.count, pos 0) (resting ds) ∙ ap (λ c. cond c 1 0 + length (resting ds)) h ∙ ap (λ n. kept_one x + n) m,
)
join_keeps b bs x xs (found d) (at_fault k) h m = tt
join_keeps b bs x xs (at_fault k) g h m = tt

all_keep : (bs : List (ℤ × ℤ)) (xs : List Subscript) → KeepsAll xs bs (dimensions bs xs)
all_keep [] [] = (λ apart. refl, refl)
all_keep [] (x ∷ xs) = tt
all_keep (b ∷ bs) [] = tt
all_keep (b ∷ bs) (x ∷ xs) = join_keeps b bs x xs (dimension b x) (dimensions bs xs) (dimension_keeps b x) (all_keep bs xs)

abbrev pub HasRank : ℕ → Found Place → Type 0
HasRank n (found p) = length p.dims ≡ n
HasRank n (at_fault k) = Unit {0}

placed : (bs : List (ℤ × ℤ)) (xs : List Subscript) (f : Found (List Dimension)) → KeepsAll xs bs f
    → HasRank (kept_in xs) (with_found f (λ ds. found (record { start = start_of 1 bs ds; dims = steps_of 1 bs ds })))
placed bs xs (found ds) h = h.0 1
placed bs xs (at_fault k) h = tt

placed_nowhere : (bs : List (ℤ × ℤ)) (xs : List Subscript) (f : Found (List Dimension)) → KeepsAll xs bs f
    → HasRank (kept_in xs) (with_found f (λ ds. found (record { start = pos 0; dims = resting ds })))
placed_nowhere bs xs (found ds) h = h.1
placed_nowhere bs xs (at_fault k) h = tt

pub place_rank : (bs : List (ℤ × ℤ)) (xs : List Subscript) → HasRank (kept_in xs) (place_of bs xs)
place_rank bs xs = placed bs xs (dimensions bs xs) (all_keep bs xs)

pub empty_rank : (bs : List (ℤ × ℤ)) (xs : List Subscript) → HasRank (kept_in xs) (empty_place bs xs)
empty_rank bs xs = placed_nowhere bs xs (dimensions bs xs) (all_keep bs xs)

pub no_place_rank : (n : ℕ) → length (no_dims n) ≡ n
no_place_rank zero = refl
no_place_rank (suc n) = ap suc (no_place_rank n)
