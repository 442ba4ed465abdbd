-- Rounds that have closed, and rounds that are none of FORM TEAM.
use Rattle.std.proofs.Common.{◌≡◌, ◌≢◌, ◌⊎◌, ℕ, suc, ◌<◌, ◌≤◌, Bool, true, false, ◌&&◌, nat_eq, cond, List, [], ◌∷◌, ◌++◌, inl, inr, refl, ap, sym, ◌∙◌, subst, arith, append_assoc}
use Rattle.std.specs.Prelude.{Option, Some, None, is_some}
use Rattle.std.specs.List.{list_any}
use Rattle.std.proofs.lemmas.List.{append-nil}
use Rattle.std.proofs.lemmas.Bool.{cases_Bool, cases_eq, and_parts, or_cases, leb-true, eq-eqb, ne_eqb}
use Rattle.object_rules.specs.Scans.{or_else, first_front_from, first_told_from}
use Rattle.object_rules.specs.Happenings.{Happening, arrives, pairs, stops, fails}
use Rattle.object_rules.specs.TeamRounds.{arrivals, has_arrived, has_closed, at_close, joins_round, opening_of, Opening}
use Rattle.object_rules.proofs.Growing.{arrivals_more}

-- ---- a first front
pub front_holds : {E : Type 0} (test : List E → Bool) (b es f : List E) → first_front_from test b es ≡ Some f → (test f ≡ true) × (rest : List E) × (f ++ rest ≡ b ++ es)
front_holds test b [] f h = elim (cases_Bool (test b)) [
  | inl t ↦ (let e : b ≡ f = same (sym (rw t refl) ∙ h) in subst (λ g. (test g ≡ true) × (rest : List _) × (g ++ rest ≡ b ++ [])) e (t, [], refl))
  | inr n ↦ absurd (let e : None ≡ Some f = sym (rw n refl) ∙ h in cc)
]
  where
    same : {A : Type 0} {x y : A} → Some x ≡ Some y → x ≡ y
    same e = cc
front_holds test b (x ∷ xs) f h = elim (cases_Bool (test b)) [
  | inl t ↦ (let e : b ≡ f = same (sym (rw t refl) ∙ h) in subst (λ g. (test g ≡ true) × (rest : List _) × (g ++ rest ≡ b ++ x ∷ xs)) e (t, x ∷ xs, refl))
  | inr n ↦ (
      let e : first_front_from test (b ++ x ∷ []) xs ≡ Some f = sym (rw n refl) ∙ h in
      let r = front_holds test (b ++ x ∷ []) xs f e in
      (r.0, r.1, r.2 ∙ append_assoc b (x ∷ []) xs))
]
  where
    same : {A : Type 0} {x y : A} → Some x ≡ Some y → x ≡ y
    same e = cc

-- ---- a round with an arrival has a first one
counts_not : (c d : Bool) → (c ≡ false) ⊎ (d ≡ false) → cond {A = ℕ} (c && d) 1 0 ≡ 0
counts_not true true (inl e) = absurd (cc)
counts_not true true (inr e) = absurd (cc)
counts_not true false e = refl
counts_not false d e = refl

second_false : (c d : Bool) → c ≡ true → (c && d) ≡ false → d ≡ false
second_false true d e f = f
second_false false d e f = absurd (cc)

one_most : (c : Bool) → cond {A = ℕ} c 1 0 ≤ 1
one_most true = omega arith
one_most false = omega arith

unlike : (a b : ℕ) → nat_eq a b ≡ false → a ≡ b → ⊥
unlike a b f e = absurd (let w : true ≡ false = sym (eq-eqb a b e) ∙ f in cc)

opens_from : (t i r : ℕ) (b es : List Happening) → arrivals t i b < r → r ≤ arrivals t i (b ++ es) → is_some (first_told_from (joins_round t r) b es) ≡ true
opens_from t i r b [] low high = absurd (let e : arrivals t i (b ++ []) ≡ arrivals t i b = ap (arrivals t i) (append-nil b) in omega arith)
opens_from t i r b (x ∷ xs) low high =
    by_first (joins_round t r b x) refl (λ none. opens_from t i r (b ++ x ∷ []) xs (next x none)
    (subst (λ l. r ≤ arrivals t i l) (sym (append_assoc b (x ∷ []) xs)) high))
  where
    by_first : (o : Option Opening) → joins_round t r b x ≡ o → (joins_round t r b x ≡ None → is_some (first_told_from (joins_round t r) (b ++ x ∷ []) xs) ≡ true) → is_some (or_else (joins_round t r b x) (first_told_from (joins_round t r) (b ++ x ∷ []) xs)) ≡ true
    by_first None e f = rw e (f e)
    by_first (Some o) e f = rw e refl

    none_test : (c : Bool) (o : Opening) → cond c (Some o) None ≡ None → c ≡ false
    none_test true o e = absurd (cc)
    none_test false o e = refl

    next : (y : Happening) → joins_round t r b y ≡ None → arrivals t i (b ++ y ∷ []) < r
    next (stops j) e = let m = arrivals_more t i b (stops j) in omega arith
    next (fails j) e = let m = arrivals_more t i b (fails j) in omega arith
    next (pairs j set) e = let m = arrivals_more t i b (pairs j set) in omega arith
    next (arrives u j k l) e =
        let m = arrivals_more t i b (arrives u j k l) in
        let c = none_test (nat_eq u t && nat_eq (suc (arrivals t j b)) r) (record { kind = k; image = j; line = l }) e in
        elim (cases_eq u t) [
          | inr n ↦ (let z = counts_not (nat_eq u t) (nat_eq j i) (inl (ne_eqb u t n)) in omega arith)
          | inl s ↦ elim (cases_eq j i) [
            | inr n ↦ (let z = counts_not (nat_eq u t) (nat_eq j i) (inr (ne_eqb j i n)) in omega arith)
            | inl q ↦ (
                let d = second_false (nat_eq u t) (nat_eq (suc (arrivals t j b)) r) (eq-eqb u t s) c in
                let z = one_most (nat_eq u t && nat_eq j i) in
                let a : arrivals t j b ≡ arrivals t i b = ap (λ k. arrivals t k b) q in
                let v = unlike (suc (arrivals t j b)) r d in
                elim (cases_eq (suc (arrivals t j b)) r) [
                  | inl y ↦ absurd (v y)
                  | inr w ↦ (let w2 : suc (arrivals t j b) ≢ r = w in omega arith)
                ])
          ]
        ]

pub opens : (t i r : ℕ) (hs : List Happening) → 0 < r → r ≤ arrivals t i hs → is_some (opening_of t r hs) ≡ true
opens t i r hs low high = opens_from t i r [] hs (omega arith) high

any_arrived : (t r : ℕ) (ms : List ℕ) (hs : List Happening) → list_any (λ m. has_arrived t r m hs) ms ≡ true → (m : ℕ) × (r ≤ arrivals t m hs)
any_arrived t r [] hs h = absurd (cc)
any_arrived t r (m ∷ ms) hs h = elim (or_cases (has_arrived t r m hs) (list_any (λ k. has_arrived t r k hs) ms) h) [
  | inl a ↦ (m, leb-true r (arrivals t m hs) a)
  | inr b ↦ any_arrived t r ms hs b
]

-- what had happened when a round closed is a front of what has happened, and the round had an arrival
pub close_opens : (ms : List ℕ) (t r : ℕ) (hs f : List Happening) → 0 < r → at_close ms t r hs ≡ Some f → (is_some (opening_of t r f) ≡ true) × (rest : List Happening) × (f ++ rest ≡ hs)
close_opens ms t r hs f low h =
    let a = front_holds (has_closed ms t r) [] hs f h in
    let c = any_arrived t r ms f (and_parts (list_any (λ m. has_arrived t r m f) ms) _ a.0).0 in
    (opens t c.0 r f low c.1, a.1, a.2)
