-- The team numbers that FORM TEAM is given, each once and in rising order.
use Rattle.std.proofs.Common.{◌≡◌, true, false, List, [], ◌∷◌, inl, inr, refl, arith}
use Rattle.std.specs.Prelude.{ℤ, int_lt}
use Rattle.std.specs.List.{list_any}
use Rattle.std.specs.Ordering.{int_eq}
use Rattle.std.proofs.lemmas.Bool.{cases_Bool, or_from, or_left, or_right}
use Rattle.std.proofs.lemmas.Bool.Decides.{Decides-int_eq}
use Rattle.std.proofs.lemmas.Int.{ints}
use Rattle.trace_theory.specs.Entries.{Each}
use Rattle.object_rules.specs.FormedTeams.{FormArg, put_number, numbers_given}

lt_trans : (a b c : ℤ) → int_lt a b ≡ true → int_lt b c ≡ true → int_lt a c ≡ true
lt_trans a b c p q = grind (arith, ints)

lt_other : (a b : ℤ) → int_lt a b ≡ true → int_eq a b ≡ false
lt_other a b p = grind (arith, ints)

lt_from : (a b : ℤ) → int_eq a b ≡ false → int_lt a b ≡ false → int_lt b a ≡ true
lt_from a b p q = grind (arith, ints)

-- each number is greater than the one before it, the first one than b
abbrev Behind : ℤ → List ℤ → Type 0
Behind b [] = Unit {0}
Behind b (x ∷ xs) = (int_lt b x ≡ true) × Behind x xs

abbrev Rising : List ℤ → Type 0
Rising [] = Unit {0}
Rising (x ∷ xs) = Behind x xs

put_behind : (b n : ℤ) (xs : List ℤ) → Behind b xs → int_lt b n ≡ true → Behind b (put_number n xs)
put_behind b n [] h p = (p, tt)
put_behind b n (x ∷ xs) h p = elim (cases_Bool (int_eq n x)) [
  | inl t ↦ rw t h
  | inr f ↦ elim (cases_Bool (int_lt n x)) [
    | inl l ↦ rw (f, l) (p, (l, h.1))
    | inr g ↦ rw (f, g) (h.0, put_behind x n xs h.1 (lt_from n x f g))
  ]
]

put_rising : (n : ℤ) (xs : List ℤ) → Rising xs → Rising (put_number n xs)
put_rising n [] h = tt
put_rising n (x ∷ xs) h = elim (cases_Bool (int_eq n x)) [
  | inl t ↦ rw t h
  | inr f ↦ elim (cases_Bool (int_lt n x)) [
    | inl l ↦ rw (f, l) (l, h)
    | inr g ↦ rw (f, g) (put_behind x n xs h (lt_from n x f g))
  ]
]

given_rising : (args : List FormArg) → Rising (numbers_given args)
given_rising [] = tt
given_rising (a ∷ args) = put_rising a.number (numbers_given args) (given_rising args)

-- none of the numbers stands twice
abbrev pub Distinct : List ℤ → Type 0
Distinct [] = Unit {0}
Distinct (n ∷ ns) = (list_any (int_eq n) ns ≡ false) × Distinct ns

not_behind : (x b : ℤ) (xs : List ℤ) → ((y : ℤ) → int_lt b y ≡ true → int_lt x y ≡ true) → Behind b xs → list_any (int_eq x) xs ≡ false
not_behind x b [] k h = refl
not_behind x b (y ∷ ys) k h = or_from (int_eq x y) (list_any (int_eq x) ys) (lt_other x y (k y h.0)) (not_behind x y ys (λ z q. lt_trans x y z (k y h.0) q) h.1)

behind_distinct : (b : ℤ) (xs : List ℤ) → Behind b xs → Distinct xs
behind_distinct b [] h = tt
behind_distinct b (x ∷ xs) h = (not_behind x x xs (λ y q. q) h.1, behind_distinct x xs h.1)

pub given_distinct : (args : List FormArg) → Distinct (numbers_given args)
given_distinct args = by (numbers_given args) (given_rising args)
  where
    by : (ns : List ℤ) → Rising ns → Distinct ns
    by [] h = tt
    by (n ∷ ns) h = (not_behind n n ns (λ y q. q) h, behind_distinct n ns h)

-- each of them is one that an image gives
abbrev pub AllGiven : List FormArg → List ℤ → Type 0
AllGiven args ns = Each (λ n. list_any (λ (a : FormArg). int_eq a.number n) args ≡ true) ns

all_given_more : (a : FormArg) (args : List FormArg) (ns : List ℤ) → AllGiven args ns → AllGiven (a ∷ args) ns
all_given_more a args [] h = tt
all_given_more a args (n ∷ ns) h = (or_right (int_eq a.number n) (list_any (λ (x : FormArg). int_eq x.number n) args) h.0, all_given_more a args ns h.1)

put_given : (args : List FormArg) (n : ℤ) (ns : List ℤ) → list_any (λ (a : FormArg). int_eq a.number n) args ≡ true → AllGiven args ns → AllGiven args (put_number n ns)
put_given args n [] p h = (p, tt)
put_given args n (x ∷ xs) p h = elim (cases_Bool (int_eq n x)) [
  | inl t ↦ rw t h
  | inr f ↦ elim (cases_Bool (int_lt n x)) [
    | inl l ↦ rw (f, l) (p, h)
    | inr g ↦ rw (f, g) (h.0, put_given args n xs p h.1)
  ]
]

pub all_given : (args : List FormArg) → AllGiven args (numbers_given args)
all_given [] = tt
all_given (a ∷ args) =
    let here : list_any (λ (x : FormArg). int_eq x.number a.number) (a ∷ args) ≡ true = or_left (int_eq a.number a.number) (list_any (λ (x : FormArg). int_eq x.number a.number) args) ((Decides-int_eq a.number a.number).1 refl) in
    put_given (a ∷ args) a.number (numbers_given args) here (all_given_more a args (numbers_given args) (all_given args))
