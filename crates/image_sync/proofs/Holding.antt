-- Who is inside constructs, by place and by number.
use Rattle.std.proofs.Common.{◌≡◌, ℕ, zero, suc, ◌+◌, ◌<◌, ◌≤◌, Bool, true, false, nat_eq, cond, List, [], ◌∷◌, ◌++◌, length, drop, get_or, set, inl, inr, refl, ap, sym, ◌∙◌, subst, arith, drop-cons}
use Rattle.std.proofs.lemmas.Bool.{cases_Bool, eq-eqb, ne_eqb, cases_lt, eqb-true, lt-ltb, le-ltb}
use Rattle.object_rules.specs.Constructs.{Hold, free, released, abandoned}
use Rattle.image_sync.specs.declared.inside.Construct.{Construct}
use Rattle.image_sync.specs.Holds.{hold_of, hold_in, place_in, put_in}

-- ---- the place of a construct
pub place_here : (xs : List Construct) (at c : ℕ) (d : Construct) → at < length xs → nat_eq (get_or xs at d).number c ≡ true → place_in xs c ≡ at + place_in (drop at xs) c → at ≡ place_in xs c
place_here xs at c d h t e =
    let f : place_in (drop at xs) c ≡ 0 = subst (λ l. place_in l c ≡ 0) (sym (drop-cons xs at d h)) (rw t refl) in
    omega arith

pub place_next : (xs : List Construct) (at c : ℕ) (d : Construct) → at < length xs → nat_eq (get_or xs at d).number c ≡ false → place_in xs c ≡ at + place_in (drop at xs) c → place_in xs c ≡ at + 1 + place_in (drop (at + 1) xs) c
place_next xs at c d h n e =
    let g : suc at ≡ at + 1 = omega arith in
    let f : place_in (drop at xs) c ≡ suc (place_in (drop (at + 1) xs) c) = subst (λ l. place_in l c ≡ suc (place_in (drop (at + 1) xs) c)) (sym (drop-cons xs at d h)) (rw n (ap (λ j. suc (place_in (drop j xs) c)) g)) in
    omega arith

drop_all : (xs : List Construct) (at : ℕ) → length xs ≤ at → drop at xs ≡ []
drop_all [] zero h = refl
drop_all [] (suc at) h = refl
drop_all (x ∷ xs) zero h = absurd (omega arith)
drop_all (x ∷ xs) (suc at) h = drop_all xs at (omega arith)

pub place_end : (xs : List Construct) (at c : ℕ) → length xs ≤ at → at ≤ length xs → place_in xs c ≡ at + place_in (drop at xs) c → length xs ≡ place_in xs c
place_end xs at c a b e =
    let f : place_in (drop at xs) c ≡ 0 = ap (λ l. place_in l c) (drop_all xs at a) in
    omega arith

-- who is inside is told by the one that stands there, and nobody where none does
pub got : (xs : List Construct) (c : ℕ) (x : Construct) → place_in xs c < length xs → x ≡ get_or xs (place_in xs c) x → hold_of x.inside ≡ hold_in xs c
got [] c x h e = absurd (omega arith)
got (y ∷ ys) c x h e = elim (cases_Bool (nat_eq y.number c)) [
  | inl t ↦ (
      let zero_there : place_in (y ∷ ys) c ≡ 0 = rw t refl in
      rw t (ap (λ (z : Construct). hold_of z.inside) (e ∙ ap (λ j. get_or (y ∷ ys) j x) zero_there)))
  | inr f ↦ (
      let next_there : place_in (y ∷ ys) c ≡ suc (place_in ys c) = rw f refl in
      rw f (got ys c x (omega arith) (e ∙ ap (λ j. get_or (y ∷ ys) j x) next_there)))
]

pub none_got : (xs : List Construct) (c : ℕ) → length xs ≤ place_in xs c → free ≡ hold_in xs c
none_got [] c h = refl
none_got (y ∷ ys) c h = elim (cases_Bool (nat_eq y.number c)) [
  | inl t ↦ (let e : place_in (y ∷ ys) c ≡ 0 = rw t refl in absurd (omega arith))
  | inr f ↦ (let e : place_in (y ∷ ys) c ≡ suc (place_in ys c) = rw f refl in rw f (none_got ys c (omega arith)))
]

pub got_at : (xs : List Construct) (c k : ℕ) (x : Construct) → k ≡ place_in xs c → k < length xs → x ≡ get_or xs k x → hold_of x.inside ≡ hold_in xs c
got_at xs c k x e h g = got xs c x (omega arith) (g ∙ ap (λ j. get_or xs j x) e)

-- ---- a construct put in its place, or behind the others
true_false : true ≡ false → ⊥
true_false e = absurd (cc)

apart : (x y : Construct) (c : ℕ) → nat_eq y.number x.number ≡ false → nat_eq y.number c ≡ true → nat_eq x.number c ≡ false
apart x y c f a = ne_eqb x.number c (λ e. true_false (sym (eq-eqb y.number x.number (eqb-true y.number c a ∙ sym e)) ∙ f))

lower : (x y : Construct) (ys : List Construct) → nat_eq y.number x.number ≡ false → place_in (y ∷ ys) x.number ≡ suc (place_in ys x.number)
lower x y ys f = rw f refl

set_there : (xs : List Construct) (x : Construct) (c : ℕ) → place_in xs x.number < length xs → hold_in (set xs (place_in xs x.number) x) c ≡ cond (nat_eq x.number c) (hold_of x.inside) (hold_in xs c)
set_there [] x c h = absurd (omega arith)
set_there (y ∷ ys) x c h = elim (cases_Bool (nat_eq y.number x.number)) [
  | inl t ↦ (
      let same : y.number ≡ x.number = eqb-true y.number x.number t in
      let as_x : nat_eq y.number c ≡ nat_eq x.number c = ap (λ m. nat_eq m c) same in
      rw t (ap (λ b. cond (nat_eq x.number c) (hold_of x.inside) (hold_in ys c)) t ∙ go (nat_eq x.number c) (nat_eq y.number c) as_x))
  | inr f ↦ (
      let under : place_in ys x.number < length ys = (let e = lower x y ys f in omega arith) in
      ap (λ j. hold_in (set (y ∷ ys) j x) c) (lower x y ys f) ∙ elim (cases_Bool (nat_eq y.number c)) [
        | inl a ↦ (let n = apart x y c f a in rw (a, n) refl)
        | inr b ↦ rw b (set_there ys x c under)
      ])
]
  where
    go : (p q : Bool) → q ≡ p → cond p (hold_of x.inside) (hold_in ys c) ≡ cond p (hold_of x.inside) (cond q (hold_of y.inside) (hold_in ys c))
    go true q e = refl
    go false q e = rw e refl

put_behind : (xs : List Construct) (x : Construct) (c : ℕ) → length xs ≤ place_in xs x.number → hold_in (xs ++ x ∷ []) c ≡ cond (nat_eq x.number c) (hold_of x.inside) (hold_in xs c)
put_behind [] x c h = refl
put_behind (y ∷ ys) x c h = elim (cases_Bool (nat_eq y.number x.number)) [
  | inl t ↦ (let e : place_in (y ∷ ys) x.number ≡ 0 = rw t refl in absurd (omega arith))
  | inr f ↦ (
      let over : length ys ≤ place_in ys x.number = (let e = lower x y ys f in omega arith) in
      elim (cases_Bool (nat_eq y.number c)) [
        | inl a ↦ (let n = apart x y c f a in rw (a, n) refl)
        | inr b ↦ rw b (put_behind ys x c over)
      ])
]

pub put_turns : (xs : List Construct) (x : Construct) (c : ℕ) → hold_in (put_in xs x) c ≡ cond (nat_eq x.number c) (hold_of x.inside) (hold_in xs c)
put_turns xs x c = elim (cases_lt (place_in xs x.number) (length xs)) [
  | inl l ↦ rw (lt-ltb (place_in xs x.number) (length xs) l) (set_there xs x c l)
  | inr g ↦ rw (le-ltb (place_in xs x.number) (length xs) g) (put_behind xs x c g)
]

-- ---- a failed image leaves all
-- a construct as the failure of an image leaves it
pub record IsLeft (i : ℕ) (x y : Construct) : Type 0 where
  pub number : y.number ≡ x.number
  pub inside : hold_of y.inside ≡ abandoned (hold_of x.inside) i

-- those before a place are left, the others not yet
pub record AreLeftTo (to i : ℕ) (before after : List Construct) : Type 0 where
  pub as_many : length after ≡ length before
  pub done : (j : ℕ) (d : Construct) → j < to → j < length before → IsLeft i (get_or before j d) (get_or after j d)
  pub rest : (j : ℕ) (d : Construct) → to ≤ j → get_or after j d ≡ get_or before j d

abandoned_free : (i : ℕ) (b : Bool) (x y s t : Hold) → y ≡ abandoned x i → t ≡ abandoned s i → cond b y t ≡ abandoned (cond b x s) i
abandoned_free i true x y s t e f = e
abandoned_free i false x y s t e f = f

pub all_left : (to i : ℕ) (before after : List Construct) (c : ℕ) → length before ≤ to → AreLeftTo to i before after → hold_in after c ≡ abandoned (hold_in before c) i
all_left to i [] [] c h a = refl
all_left to i [] (y ∷ ys) c h a = let n = a.as_many in absurd (omega arith)
all_left to i (x ∷ xs) [] c h a = let n = a.as_many in absurd (omega arith)
all_left to i (x ∷ xs) (y ∷ ys) c h a =
    let first : IsLeft i x y = a.done 0 x (omega arith) (omega arith) in
    let n = a.as_many in
    let others : hold_in ys c ≡ abandoned (hold_in xs c) i = all_left (length xs) i xs ys c (omega arith) (record {
      as_many = omega arith;
      done = λ j d below within. a.done (suc j) d (omega arith) (omega arith);
      rest = λ j d over. past xs ys j d (omega arith) over;
    }) in
    ap (λ m. cond (nat_eq m c) (hold_of y.inside) (hold_in ys c)) first.number ∙ abandoned_free i (nat_eq x.number c) (hold_of x.inside) (hold_of y.inside) (hold_in xs c) (hold_in ys c) first.inside others
  where
    past : (xs ys : List Construct) (j : ℕ) (d : Construct) → length ys ≡ length xs → length xs ≤ j → get_or ys j d ≡ get_or xs j d
    past [] [] j d n o = refl
    past [] (y ∷ ys) j d n o = absurd (omega arith)
    past (x ∷ xs) [] j d n o = absurd (omega arith)
    past (x ∷ xs) (y ∷ ys) zero d n o = absurd (omega arith)
    past (x ∷ xs) (y ∷ ys) (suc j) d n o = past xs ys j d (omega arith) (omega arith)

-- ---- exit
left : (xs : List Construct) (y : Construct) (i d : ℕ) → hold_of y.inside ≡ released (hold_in xs y.number) i → cond (nat_eq y.number d) (hold_of y.inside) (hold_in xs d) ≡ cond (nat_eq y.number d) (released (hold_in xs d) i) (hold_in xs d)
left xs y i d e = elim (cases_Bool (nat_eq y.number d)) [
  | inl t ↦ (let same : y.number ≡ d = eqb-true y.number d t in rw t (e ∙ ap (λ m. released (hold_in xs m) i) same))
  | inr f ↦ rw f refl
]

pub exit_there : (xs : List Construct) (at i d : ℕ) (x y : Construct) → at ≡ place_in xs y.number → at < length xs → x ≡ get_or xs at x → hold_of y.inside ≡ released (hold_of x.inside) i
    → hold_in (set xs at y) d ≡ cond (nat_eq y.number d) (released (hold_in xs d) i) (hold_in xs d)
exit_there xs at i d x y e h g r =
    ap (λ j. hold_in (set xs j y) d) e ∙ set_there xs y d (omega arith) ∙ left xs y i d (r ∙ ap (λ s. released s i) (got_at xs y.number at x e h g))

-- it isn't listed: nobody is inside
pub exit_none : (xs : List Construct) (at c i d : ℕ) → at ≡ place_in xs c → length xs ≤ at → hold_in xs d ≡ cond (nat_eq c d) (released (hold_in xs d) i) (hold_in xs d)
exit_none xs at c i d e h = elim (cases_Bool (nat_eq c d)) [
  | inl t ↦ (
      let same : c ≡ d = eqb-true c d t in
      let nobody : hold_in xs d ≡ free = ap (hold_in xs) (sym same) ∙ sym (none_got xs c (omega arith)) in
      rw t (nobody ∙ sym (ap (λ s. released s i) nobody)))
  | inr f ↦ rw f refl
]
