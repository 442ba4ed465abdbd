-- What the intervals keep, as one is joined to a further one and as this is put to them.
use Rattle.std.proofs.Common.{◌≡◌, ◌∙◌, ◌≤ℤ◌, ◌<ℤ◌, ◌&&◌, ◌||◌, ◌∷◌, ◌++◌, ◌⊎◌, inl, inr, ap, arith, sym, refl, subst, ℤ, Bool, true, false, cond, List, [], None, Some, Less, Equal, Greater, Ordering}
use Rattle.std.proofs.lemmas.Int.{ints}
use Rattle.std.proofs.lemmas.Cmp.{int_ranked}
use Rattle.std.specs.Int.{int_min, int_max}
use Rattle.std.specs.Int.RustNames.{int_lt}
use Rattle.std.specs.Int.Signed.{≤ℤ_refl}
use Rattle.std.specs.BTreeMap.{BTreeMap, get, is_at}
use Rattle.std.specs.Map.{lookup}
use Rattle.std.specs.Ordering.{int_cmp, MatchOrdering}
use Rattle.checked_tree.specs.declared.statement.CaseRange.{CaseRange}
use Rattle.case_ranges.specs.Ends.{low_end, high_end, meets, meets_one}
use Rattle.case_ranges.specs.Intervals.{Has, IsFree, AreApart, Keeps, KeepsWith}
use Rattle.case_ranges.proofs.Closed.{le_so, le_not, below_or_not, meets_more}
use Rattle.case_ranges.proofs.Changes.{Turns, was_there, stays, at_key}

ordered : (r : Ordering) (a b : ℤ) → MatchOrdering r (a <ℤ b) (a ≡ b) (b <ℤ a) → (a <ℤ b) ⊎ ((a ≡ b) ⊎ (b <ℤ a))
ordered Less a b h = inl h
ordered Equal a b h = inr (inl h)
ordered Greater a b h = inr (inr h)

three : (a b : ℤ) → (a <ℤ b) ⊎ ((a ≡ b) ⊎ (b <ℤ a))
three a b = ordered (int_cmp a b) a b (int_ranked a b (int_cmp a b) refl)

one_low : (m : BTreeMap ℤ ℤ) (k l i j : ℤ) → k ≡ i → Has m k l → Has m i j → l ≡ j
one_low m k l i j e h g = let d : Some l ≡ Some j = sym h ∙ ap (get int_cmp m) e ∙ g in cc

-- the first from a on stands above b: none has a number from a to b
pub first_above : (m : BTreeMap ℤ ℤ) (k l a b : ℤ) → AreApart m → Has m k l → ((q j : ℤ) → a ≤ℤ q → Has m q j → k ≤ℤ q) → b <ℤ l → IsFree m a b
first_above m k l a b w h least above i j g u v =
    let le : k ≤ℤ i = least i j v g in
    let fill : l ≤ℤ k = w.filled k l h in
    elim (three k i) [
      | inl lt ↦ (let past : k <ℤ j = w.apart k l i j h g lt in omega (arith, ints))
      | inr r ↦ elim r [
        | inl e ↦ (let low : b <ℤ j = subst (λ z. b <ℤ z) (one_low m k l i j e h g) above in omega (arith, ints))
        | inr gt ↦ omega (arith, ints)
      ]
    ]

-- p is the lesser of two numbers
pub record IsLesser (p x y : ℤ) : Type 0 where
  pub first : p ≤ℤ x
  pub second : p ≤ℤ y
  pub one : (b : ℤ) → p ≤ℤ b → (x ≤ℤ b) ⊎ (y ≤ℤ b)

-- q is the greater of two numbers
pub record IsGreater (q x y : ℤ) : Type 0 where
  pub first : x ≤ℤ q
  pub second : y ≤ℤ q
  pub one : (a : ℤ) → a ≤ℤ q → (a ≤ℤ x) ⊎ (a ≤ℤ y)

was : (m n : BTreeMap ℤ ℤ) (k q j : ℤ) → Turns m n k None → Has n q j → Has m q j
was m n k q j t h = elim (was_there m n k None t q j h) [ inl e ↦ absurd (let d : None ≡ Some j = e.1 in cc) | inr e ↦ e.1 ]

either : (low high k l a b p q : ℤ) (P : Type 0) → low ≤ℤ k → l ≤ℤ high → IsLesser p low l → IsGreater q high k → a ≤ℤ b → p ≤ℤ b → a ≤ℤ q
    → (low ≤ℤ b → a ≤ℤ high → P) → (l ≤ℤ b → a ≤ℤ k → P) → P
either low high k l a b p q P lk lh f g ab pb aq x y =
    elim (below_or_not low b) [
      | inl u ↦ elim (below_or_not a high) [
        | inl v ↦ x u v
        | inr v ↦ elim (g.one a aq) [ inl z ↦ absurd (omega (arith, ints)) | inr z ↦ y (omega (arith, ints)) z ]
      ]
      | inr u ↦ elim (f.one b pb) [ inl z ↦ absurd (omega (arith, ints)) | inr z ↦ y z (omega (arith, ints)) ]
    ]

pub absorbed : (m n : BTreeMap ℤ ℤ) (low high k l p q : ℤ) (xs : List CaseRange) → KeepsWith m low high xs → Has m k l → l ≤ℤ high → low ≤ℤ k
    → Turns m n k None → IsLesser p low l → IsGreater q high k → KeepsWith n p q xs
absorbed m n low high k l p q xs w h lh lk t f g = record {
  apart = record {
    filled = λ i j x. w.apart.filled i j (was m n k i j t x);
    apart = λ i j u v x y lt. w.apart.apart i j u v (was m n k i j t x) (was m n k u v t y) lt;
  };
  filled = let a : p ≤ℤ low = f.first in let b : high ≤ℤ q = g.first in let d : low ≤ℤ high = w.filled in omega (arith, ints);
  found = λ i j a b x ab u v. w.found i j a b (was m n k i j t x) ab u v;
  within = λ a b ab u v. either low high k l a b p q (meets_one a b xs ≡ true) lk lh f g ab u v (λ y z. w.within a b ab y z) (λ y z. w.found k l a b h ab y z);
  free = λ a b ab none out. w.free a b ab
      (λ i j x u v. elim (stays m n k None t i j x) [
        | inl e ↦ out (let d : l ≤ℤ b = subst (λ z. z ≤ℤ b) (sym (one_low m k l i j e h x)) u in let s : p ≤ℤ l = f.second in omega (arith, ints))
            (let d : a ≤ℤ k = subst (λ z. a ≤ℤ z) (sym e) v in let s : k ≤ℤ q = g.second in omega (arith, ints))
        | inr e ↦ none i j e u v
      ])
      (λ u v. out (let s : p ≤ℤ low = f.first in omega (arith, ints)) (let s : high ≤ℤ q = g.first in omega (arith, ints)));
}

low_of : (l j : ℤ) → Some l ≡ Some j → l ≡ j
low_of l j e = cc

after : (m : BTreeMap ℤ ℤ) (low high k i j : ℤ) → low ≤ℤ high → IsFree m low high → high ≡ k → Has m i j → k <ℤ i → k <ℤ j
after m low high k i j fill none e h lt =
    let over : high <ℤ i = subst (λ z. z <ℤ i) (sym e) lt in
    subst (λ z. z <ℤ j) e (elim (below_or_not j high) [ inl u ↦ absurd (none i j h u (omega (arith, ints))) | inr u ↦ u ])

before : (m : BTreeMap ℤ ℤ) (low high k l : ℤ) → IsFree m low high → l ≤ℤ k → Has m k l → k <ℤ high → k <ℤ low
before m low high k l none fill h lt = elim (below_or_not low k) [ inl u ↦ absurd (none k l h (omega (arith, ints)) u) | inr u ↦ u ]

pub put_in : (m n : BTreeMap ℤ ℤ) (low high : ℤ) (xs : List CaseRange) → KeepsWith m low high xs → IsFree m low high → Turns m n high (Some low) → Keeps n xs
put_in m n low high xs w none t = record {
  apart = record {
    filled = λ k l h. elim (was_there m n high (Some low) t k l h) [
      | inl e ↦ subst (λ z. z ≤ℤ k) (low_of low l e.1) (subst (λ z. low ≤ℤ z) e.0 w.filled)
      | inr e ↦ w.apart.filled k l e.1
    ];
    apart = λ k l i j h g lt. elim (was_there m n high (Some low) t k l h) [
      | inl e ↦ elim (was_there m n high (Some low) t i j g) [
        | inl d ↦ absurd (let s : k <ℤ k = subst (λ z. k <ℤ z) (sym d.0 ∙ e.0) lt in omega (arith, ints))
        | inr d ↦ after m low high k i j w.filled none e.0 d.1 lt
      ]
      | inr e ↦ elim (was_there m n high (Some low) t i j g) [
        | inl d ↦ subst (λ z. k <ℤ z) (low_of low j d.1) (before m low high k l none (w.apart.filled k l e.1) e.1 (subst (λ z. k <ℤ z) (sym d.0) lt))
        | inr d ↦ w.apart.apart k l i j e.1 d.1 lt
      ]
    ];
  };
  found = λ k l a b h ab u v. elim (was_there m n high (Some low) t k l h) [
    | inl e ↦ w.within a b ab (subst (λ z. z ≤ℤ b) (sym (low_of low l e.1)) u) (subst (λ z. a ≤ℤ z) (sym e.0) v)
    | inr e ↦ w.found k l a b e.1 ab u v
  ];
  free = λ a b ab f. w.free a b ab
      (λ i j x u v. elim (stays m n high (Some low) t i j x) [
        | inl e ↦ none i j x (subst (λ z. j ≤ℤ z) (sym e) (w.apart.filled i j x)) (subst (λ z. low ≤ℤ z) e w.filled)
        | inr e ↦ f i j e u v
      ])
      (λ u v. f high low (at_key m n high low t) u v);
}

none_left : (m : BTreeMap ℤ ℤ) (k l : ℤ) → m.entries ≡ [] → Has m k l → ⊥
none_left m k l e h = let d : None ≡ Some l = sym (ap (λ es. lookup (is_at (int_cmp k)) es) e) ∙ h in cc

pub empty_keeps : (m : BTreeMap ℤ ℤ) → m.entries ≡ [] → Keeps m []
empty_keeps m e = record {
  apart = record { filled = λ k l h. absurd (none_left m k l e h); apart = λ k l i j h g lt. absurd (none_left m k l e h) };
  found = λ k l a b h ab u v. absurd (none_left m k l e h);
  free = λ a b ab f. refl;
}

all_three : (x y z : Bool) → x ≡ true → y ≡ true → z ≡ true → (x && (y && z)) ≡ true
all_three x y z a b d = rw (a, b, d)

or_true : (x y : Bool) → y ≡ true → (x || y) ≡ true
or_true true y e = refl
or_true false y e = e

or_none : (x y : Bool) → x ≡ false → y ≡ false → (x || y) ≡ false
or_none true y e d = e
or_none false y e d = d

first_false : (x y : Bool) → x ≡ false → (x && y) ≡ false
first_false true y e = absurd (let d : true ≡ false = e in cc)
first_false false y e = refl

second_false : (x y z : Bool) → y ≡ false → (x && (y && z)) ≡ false
second_false true y z e = first_false y z e
second_false false y z e = refl

third_false : (x y z : Bool) → z ≡ false → (x && (y && z)) ≡ false
third_false true true z e = e
third_false true false z e = refl
third_false false y z e = refl

pub begun : (m : BTreeMap ℤ ℤ) (xs : List CaseRange) (r : CaseRange) → Keeps m xs → low_end r ≤ℤ high_end r → KeepsWith m (low_end r) (high_end r) (xs ++ r ∷ [])
begun m xs r w le = record {
  apart = w.apart;
  filled = le;
  found = λ k l a b h ab u v. meets_more a b xs r ∙ ap (λ z. z || meets a b r) (w.found k l a b h ab u v);
  within = λ a b ab u v. meets_more a b xs r ∙ or_true (meets_one a b xs) (meets a b r) (all_three _ _ _ (le_so _ _ le) (le_so _ _ u) (le_so _ _ v));
  free = λ a b ab f out. meets_more a b xs r ∙ or_none (meets_one a b xs) (meets a b r) (w.free a b ab f)
      (elim (below_or_not (low_end r) b) [
        | inl u ↦ elim (below_or_not a (high_end r)) [ inl v ↦ absurd (out u v) | inr v ↦ third_false _ _ _ (le_not _ _ v) ]
        | inr u ↦ second_false _ _ _ (le_not _ _ u)
      ]);
}

-- a range without a value changes nothing
pub nothing_more : (m : BTreeMap ℤ ℤ) (xs : List CaseRange) (r : CaseRange) → Keeps m xs → high_end r <ℤ low_end r → Keeps m (xs ++ r ∷ [])
nothing_more m xs r w lt = record {
  apart = w.apart;
  found = λ k l a b h ab u v. meets_more a b xs r ∙ ap (λ z. z || meets a b r) (w.found k l a b h ab u v);
  free = λ a b ab f. meets_more a b xs r ∙ or_none (meets_one a b xs) (meets a b r) (w.free a b ab f) (first_false _ _ (le_not _ _ lt));
}

pub left_apart : (m n : BTreeMap ℤ ℤ) (k : ℤ) → Turns m n k None → AreApart m → AreApart n
left_apart m n k t w = record {
  filled = λ i j x. w.filled i j (was m n k i j t x);
  apart = λ i j u v x y lt. w.apart i j u v (was m n k i j t x) (was m n k u v t y) lt;
}

lesser_by : (v : Bool) (x y : ℤ) → int_lt y x ≡ v → IsLesser (cond v y x) x y
lesser_by true x y e = record { first = grind (arith, ints); second = ≤ℤ_refl y; one = λ b h. inr h }
lesser_by false x y e = record { first = ≤ℤ_refl x; second = grind (arith, ints); one = λ b h. inl h }

pub lesser : (p x y a b : ℤ) → p ≡ int_min a b → a ≡ x → b ≡ y → IsLesser p x y
lesser p x y a b e d f =
    subst (λ z. IsLesser z x y) (sym (e ∙ ap (λ n. int_min n b) d ∙ ap (λ n. int_min x n) f)) (lesser_by (int_lt y x) x y refl)

greater_by : (v : Bool) (x y : ℤ) → int_lt y x ≡ v → IsGreater (cond v x y) x y
greater_by true x y e = record { first = ≤ℤ_refl x; second = grind (arith, ints); one = λ b h. inl h }
greater_by false x y e = record { first = grind (arith, ints); second = ≤ℤ_refl y; one = λ b h. inr h }

pub greater : (p x y a b : ℤ) → p ≡ int_max a b → a ≡ x → b ≡ y → IsGreater p x y
greater p x y a b e d f =
    subst (λ z. IsGreater z x y) (sym (e ∙ ap (λ n. int_max n b) d ∙ ap (λ n. int_max x n) f)) (greater_by (int_lt y x) x y refl)
