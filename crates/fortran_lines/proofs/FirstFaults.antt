-- The first of some faults, found one by one.
use Rattle.std.proofs.Common.{◌≡◌, ℕ, ◌<◌, ◌≤◌, Bool, true, false, cond, nat_eq, nat_lt, List, [], ◌∷◌, Some, None, ◌⊎◌, inl, inr, refl, sym, arith, subst}
use Rattle.std.specs.Prelude.{Contains}
use Rattle.std.specs.List.{AllByRecursion}
use Rattle.std.proofs.lemmas.Bool.Decides.{nat_tests}
use Rattle.std.proofs.lemmas.List.Elements.{Contains-append_left, Contains-append_right, Contains-push, All-from_recursion}
use Rattle.fortran_lines.specs.declared.fault.LineFault.{LineFault}
use Rattle.fortran_lines.specs.Faults.{is_before, first_of_all, IsFirst, fault_place, rank_of}

-- by three numbers in turn
abbrev before : ℕ → ℕ → ℕ → ℕ → ℕ → ℕ → Bool
before a b c x y z = cond (nat_eq a x) (cond (nat_eq b y) (nat_lt c z) (nat_lt b y)) (nat_lt a x)

abbrev pub NotBefore : ℕ → ℕ → ℕ → ℕ → ℕ → ℕ → Type 0
NotBefore a b c x y z = (x < a) ⊎ ((x ≡ a) × ((y < b) ⊎ ((y ≡ b) × (z ≤ c))))

pub not_before : (a b c x y z : ℕ) → before a b c x y z ≡ false → NotBefore a b c x y z
not_before a b c x y z h = grind (arith, nat_tests)

before_no : (a b c x y z : ℕ) → NotBefore a b c x y z → before a b c x y z ≡ false
before_no a b c x y z h = grind (arith, nat_tests)

chain : (a b c x y z u v w : ℕ) → NotBefore a b c x y z → NotBefore x y z u v w → NotBefore a b c u v w
chain a b c x y z u v w h k = grind arith

turned : (a b c x y z : ℕ) → before a b c x y z ≡ true → NotBefore x y z a b c
turned a b c x y z h = grind (arith, nat_tests)

itself : (a b c : ℕ) → NotBefore a b c a b c
itself a b c = inr (refl, inr (refl, omega arith))

not_before_chain : (f g h : LineFault) → is_before f g ≡ false → is_before g h ≡ false → is_before f h ≡ false
not_before_chain f g h p q =
    before_no (fault_place f).line (fault_place f).col (rank_of f) (fault_place h).line (fault_place h).col (rank_of h)
    (chain (fault_place f).line (fault_place f).col (rank_of f) (fault_place g).line (fault_place g).col (rank_of g) (fault_place h).line (fault_place h).col (rank_of h)
    (not_before (fault_place f).line (fault_place f).col (rank_of f) (fault_place g).line (fault_place g).col (rank_of g) p)
    (not_before (fault_place g).line (fault_place g).col (rank_of g) (fault_place h).line (fault_place h).col (rank_of h) q))

not_before_turned : (f g : LineFault) → is_before f g ≡ true → is_before g f ≡ false
not_before_turned f g p =
    before_no (fault_place g).line (fault_place g).col (rank_of g) (fault_place f).line (fault_place f).col (rank_of f)
    (turned (fault_place f).line (fault_place f).col (rank_of f) (fault_place g).line (fault_place g).col (rank_of g) p)

not_before_itself : (f : LineFault) → is_before f f ≡ false
not_before_itself f = before_no (fault_place f).line (fault_place f).col (rank_of f) (fault_place f).line (fault_place f).col (rank_of f) (itself (fault_place f).line (fault_place f).col (rank_of f))

-- f is g or one of these faults, and none of them is before it
Best : LineFault → List LineFault → LineFault → Type 0
Best g fs f = ((g ≡ f) ⊎ Contains fs f) × (is_before g f ≡ false) × AllByRecursion (λ h. is_before h f ≡ false) fs

later : (x : LineFault) (fs : List LineFault) (f : LineFault) → Contains fs f → Contains (x ∷ fs) f
later x fs f h = Contains-append_right (x ∷ []) fs f h

here : (x : LineFault) (fs : List LineFault) (f : LineFault) → x ≡ f → Contains (x ∷ fs) f
here x fs f e = subst (λ z. Contains (z ∷ fs) f) (sym e) (Contains-append_left (f ∷ []) fs f (Contains-push [] f))

-- the one more is taken
best_taken : (g x : LineFault) (fs : List LineFault) (f : LineFault) → is_before x g ≡ true → Best x fs f → Best g (x ∷ fs) f
unfolding Best
best_taken g x fs f p (one, first, others) =
    (elim one [ inl e ↦ inr (here x fs f e) | inr c ↦ inr (later x fs f c) ], not_before_chain g x f (not_before_turned x g p) first, (first, others))

-- the one more is not taken
best_kept : (g x : LineFault) (fs : List LineFault) (f : LineFault) → is_before x g ≡ false → Best g fs f → Best g (x ∷ fs) f
unfolding Best
best_kept g x fs f p (one, first, others) =
    (elim one [ inl e ↦ inl e | inr c ↦ inr (later x fs f c) ], first, (not_before_chain x g f p first, others))

best_by : (g x : LineFault) (fs : List LineFault) (f : LineFault) → ((h : LineFault) → first_of_all (Some h) fs ≡ Some f → Best h fs f)
    → (b : Bool) → b ≡ is_before x g → first_of_all (cond b (Some x) (Some g)) fs ≡ Some f → Best g (x ∷ fs) f
best_by g x fs f next true p e = best_taken g x fs f (sym p) (next x e)
best_by g x fs f next false p e = best_kept g x fs f (sym p) (next g e)

best : (g : LineFault) (fs : List LineFault) (f : LineFault) → first_of_all (Some g) fs ≡ Some f → Best g fs f
unfolding Best
best g [] f e = let same : g ≡ f = cc in (inl same, subst (λ z. is_before g z ≡ false) same (not_before_itself g), tt)
best g (x ∷ fs) f e = best_by g x fs f (λ h k. best h fs f k) (is_before x g) refl e

-- the first of some faults, as it is found
pub is_first : (fs : List LineFault) (f : LineFault) → Some f ≡ first_of_all None fs → IsFirst fs f
unfolding Best
is_first [] f e = absurd (cc)
is_first (x ∷ fs) f e =
    let known = best x fs f (sym e) in
    record {
      one = elim known.0 [ inl s ↦ here x fs f s | inr c ↦ later x fs f c ];
      first = All-from_recursion (λ g. is_before g f ≡ false) (x ∷ fs) (known.1, known.2);
    }

stays_found : (g : LineFault) (fs : List LineFault) → None ≡ first_of_all (Some g) fs → ⊥
stays_found g [] e = absurd (cc)
stays_found g (x ∷ fs) e = by_case (is_before x g) (λ h k. stays_found h fs k) e
  where
    by_case : (b : Bool) → ((h : LineFault) → None ≡ first_of_all (Some h) fs → ⊥) → None ≡ first_of_all (cond b (Some x) (Some g)) fs → ⊥
    by_case true next e = next x e
    by_case false next e = next g e

-- where none is found there is none
pub none_first : (fs : List LineFault) → None ≡ first_of_all None fs → fs ≡ []
none_first [] e = refl
none_first (x ∷ fs) e = absurd (stays_found x fs e)
