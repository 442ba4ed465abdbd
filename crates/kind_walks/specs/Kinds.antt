-- Numbers and arrays of their kinds, and the variables and operands of an image that are such (ISO/IEC 1539-1:2018,
-- 7.4, 8.4, 9.4, 19.5.1.4).
use Rattle.std.specs.Prelude.{ℕ, ◌*◌, ◌≡◌, ◌≤◌, ℤ, true, List, [], ◌∷◌, length, Option, None, Some}
use Rattle.trace_theory.specs.Entries.{Each}
use Rattle.caf_base.specs.declared.value.Kind.{Kind}
use Rattle.caf_base.specs.declared.value.Kind.TheVariants as kinds
use Rattle.caf_base.specs.Arithmetic.{fits_kind}
use Rattle.caf_events.specs.declared.reply.FormedTeam.{FormedTeam}
use Rattle.image_acts.specs.Core.{Core, Array, Local, Frame, Team}

-- a number of this kind; where none is named any number, as of a team
abbrev pub IsOf : Option Kind → ℤ → Type 0
IsOf None v = Unit {0}
IsOf (Some k) v = fits_kind k v ≡ true

-- each number of the one kind is one of the other
abbrev pub Widens : Option Kind → Option Kind → Type 0
Widens j None = Unit {0}
Widens None (Some k) = ⊥
Widens (Some j) (Some kinds.L4) = Unit {0}
Widens (Some kinds.I4) (Some k) = Unit {0}
Widens (Some kinds.I8) (Some kinds.I8) = Unit {0}
Widens (Some kinds.I8) (Some kinds.I4) = ⊥
Widens (Some kinds.L4) (Some kinds.I4) = ⊥
Widens (Some kinds.L4) (Some kinds.I8) = ⊥

-- an array value with elements of this kind
abbrev pub IsArrayOf : Option Kind → Array → Type 0
IsArrayOf k x = Each (IsOf k) x.elements

-- an array variable with such elements, where it is allocated
abbrev pub IsLocalOf : Option Kind → Option Local → Type 0
IsLocalOf k None = Unit {0}
IsLocalOf k (Some x) = Each (IsOf k) x.elements

-- the first ones are of these kinds
abbrev pub Begin : {A : Type 0} → (Option Kind → A → Type 0) → List (Option Kind) → List A → Type 0
Begin P [] xs = Unit {0}
Begin P (k ∷ ks) [] = Unit {0}
Begin P (k ∷ ks) (x ∷ xs) = P k x × Begin P ks xs

-- each is of its kind
abbrev pub Are : {A : Type 0} → (Option Kind → A → Type 0) → List (Option Kind) → List A → Type 0
Are P [] [] = Unit {0}
Are P [] (x ∷ xs) = ⊥
Are P (k ∷ ks) [] = ⊥
Are P (k ∷ ks) (x ∷ xs) = P k x × Are P ks xs

-- the kinds of the variables of a frame by their numbers: of its scalars, behind which hidden cells stand, and of its
-- arrays
pub record Layout : Type 0 where
  pub scalars : List (Option Kind)
  pub arrays : List (Option Kind)

abbrev pub Holds : Layout → Frame → Type 0
Holds y f = Begin IsOf y.scalars f.cells × Begin IsLocalOf y.arrays f.arrays

abbrev pub AllHold : List Layout → List Frame → Type 0
AllHold [] [] = Unit {0}
AllHold [] (f ∷ fs) = ⊥
AllHold (y ∷ ys) [] = ⊥
AllHold (y ∷ ys) (f ∷ fs) = Holds y f × AllHold ys fs

-- the last one, or this one where there is no other
abbrev pub last_layout : Layout → List Layout → Layout
last_layout y [] = y
last_layout y (z ∷ zs) = last_layout z zs

-- What is known of an image's values: the variables of the running frame and of its callers, the main program's last;
-- and the kinds of the numbers and of the arrays that are being evaluated, the top ones first.
pub record Typing : Type 0 where
  pub running : Layout
  pub callers : List Layout
  pub numbers : List (Option Kind)
  pub arrays : List (Option Kind)

-- The values are so, on an image of n; and no team has more than twice as many members, so that an index is of kind 4.
pub record AreSo (n : ℕ) (s : Typing) (vs : List ℤ) (xs : List Array) (f : Frame) (fs : List Frame) (m : ℕ) (ts : List Team) (gs : List FormedTeam) : Type 0 where
  pub numbers : Are IsOf s.numbers vs
  pub arrays : Are IsArrayOf s.arrays xs
  pub running : Holds s.running f
  pub callers : AllHold s.callers fs
  pub images : m ≡ n
  pub known : Each (λ (x : Team). length x.members ≤ 2 * n) ts
  pub formed : Each (λ (x : FormedTeam). length x.members ≤ 2 * n) gs

abbrev pub IsSo : ℕ → Typing → Core → Type 0
IsSo n s c = AreSo n s c.values c.arrays c.frame c.callers c.images c.known c.formed

-- with other operands
abbrev pub with_operands : Typing → (numbers arrays : List (Option Kind)) → Typing
with_operands s ks as' = record s { numbers = ks; arrays = as' }

-- with one number more, or one array
abbrev pub with_number : Option Kind → Typing → Typing
with_number k s = record s { numbers = k ∷ s.numbers }

abbrev pub with_array : Option Kind → Typing → Typing
with_array k s = record s { arrays = k ∷ s.arrays }
