-- The variables of an image hold numbers of their kinds, also behind a change of one.
use Rattle.std.proofs.Common.{◌≡◌, ℕ, zero, suc, List, [], ◌∷◌, slice_get, slice_set, refl, subst}
use Rattle.std.specs.Prelude.{ℤ, Option, None, Some}
use Rattle.trace_theory.specs.Entries.{Each}
use Rattle.caf_base.specs.declared.value.Kind.{Kind}
use Rattle.caf_base.specs.declared.value.Kind.TheVariants as kinds
use Rattle.image_acts.specs.Acts as a
use Rattle.image_acts.specs.Core.{Core, Frame, Local}
use Rattle.image_acts.specs.Frames.{last_or, with_last, frame_of, with_frame, with_cell, joined, array_in, with_array_in, cell_in}
use Rattle.kind_walks.specs.Kinds.{Widens, IsOf, IsLocalOf, Begin, Layout, Holds, AllHold, last_layout, Typing, IsSo}
use Rattle.kind_walks.proofs.Numbers.{wider}

-- ---- numbers of one kind that are of another one
pub widened : (j k : Option Kind) → Widens j k → (v : ℤ) → IsOf j v → IsOf k v
widened j None w v h = tt
widened None (Some kinds.I4) w v h = absurd w
widened None (Some kinds.I8) w v h = absurd w
widened None (Some kinds.L4) w v h = refl
widened (Some kinds.I4) (Some kinds.I4) w v h = h
widened (Some kinds.I4) (Some kinds.I8) w v h = wider v h
widened (Some kinds.I4) (Some kinds.L4) w v h = refl
widened (Some kinds.I8) (Some kinds.I4) w v h = absurd w
widened (Some kinds.I8) (Some kinds.I8) w v h = h
widened (Some kinds.I8) (Some kinds.L4) w v h = refl
widened (Some kinds.L4) (Some kinds.I4) w v h = absurd w
widened (Some kinds.L4) (Some kinds.I8) w v h = absurd w
widened (Some kinds.L4) (Some kinds.L4) w v h = refl

pub all_widened : (j k : Option Kind) → Widens j k → (vs : List ℤ) → Each (IsOf j) vs → Each (IsOf k) vs
all_widened j k w [] h = tt
all_widened j k w (v ∷ vs) h = (widened j k w v h.0, all_widened j k w vs h.1)

-- ---- lists
pub begin_get : {A : Type 0} (P : Option Kind → A → Type 0) (ks : List (Option Kind)) (xs : List A) → Begin P ks xs → (i : ℕ) (k : Option Kind) (x : A) → slice_get ks i ≡ Some k → slice_get xs i ≡ Some x → P k x
begin_get P [] xs h i k x e f = absurd (cc)
begin_get P (j ∷ ks) [] h i k x e f = absurd (cc)
begin_get P (j ∷ ks) (y ∷ xs) h zero k x e f = (let d : j ≡ k = cc in let g : y ≡ x = cc in subst (λ z. P z x) d (subst (P j) g h.0))
begin_get P (j ∷ ks) (y ∷ xs) h (suc i) k x e f = begin_get P ks xs h.1 i k x e f

pub begin_set : {A : Type 0} (P : Option Kind → A → Type 0) (ks : List (Option Kind)) (xs : List A) → Begin P ks xs → (i : ℕ) (x : A) → ((k : Option Kind) → slice_get ks i ≡ Some k → P k x) → Begin P ks (slice_set xs i x)
begin_set P [] xs h i x g = tt
begin_set P (k ∷ ks) [] h i x g = tt
begin_set P (k ∷ ks) (y ∷ xs) h zero x g = (g k refl, h.1)
begin_set P (k ∷ ks) (y ∷ xs) h (suc i) x g = (h.0, begin_set P ks xs h.1 i x g)

-- ---- frames
abbrev pub layout_in : a.Scope → Layout → List Layout → Layout
layout_in a.here y ys = y
layout_in a.host y ys = last_layout y ys

abbrev pub layout_of : a.Scope → Typing → Layout
layout_of x s = layout_in x s.running s.callers

last_holds : (y : Layout) (ys : List Layout) (f : Frame) (fs : List Frame) → Holds y f → AllHold ys fs → Holds (last_layout y ys) (last_or f fs)
last_holds y [] f [] h g = h
last_holds y [] f (e ∷ fs) h g = absurd g
last_holds y (z ∷ ys) f [] h g = absurd g
last_holds y (z ∷ ys) f (e ∷ fs) h g = last_holds z ys e fs g.0 g.1

set_last : (y : Layout) (ys : List Layout) (f : Frame) (fs : List Frame) → AllHold ys fs → Holds (last_layout y ys) f → AllHold ys (with_last f fs)
set_last y [] f [] h g = tt
set_last y [] f (e ∷ fs) h g = absurd h
set_last y (z ∷ ys) f [] h g = absurd h
set_last y (z ∷ []) f (e ∷ []) h g = (g, tt)
set_last y (z ∷ []) f (e ∷ d ∷ fs) h g = absurd h.1
set_last y (z ∷ x ∷ ys) f (e ∷ []) h g = absurd h.1
set_last y (z ∷ x ∷ ys) f (e ∷ d ∷ fs) h g = (h.0, set_last z (x ∷ ys) f (d ∷ fs) h.1 g)

no_callers : (y : Layout) (ys : List Layout) → AllHold ys [] → last_layout y ys ≡ y
no_callers y [] h = refl
no_callers y (z ∷ ys) h = absurd h

module _ (n : ℕ) (s : Typing) where
  pub frame_holds : (x : a.Scope) (c : Core) → IsSo n s c → Holds (layout_of x s) (frame_of x c)
  frame_holds a.here c h = h.running
  frame_holds a.host c h = last_holds s.running s.callers c.frame c.callers h.running h.callers

  abbrev with_main : Frame → Core → List Frame → Core
  with_main f c [] = record c { frame = f }
  with_main f c (g ∷ gs) = record c { callers = with_last f c.callers }

  main_so : (f : Frame) (c : Core) → IsSo n s c → Holds (last_layout s.running s.callers) f → (gs : List Frame) → AllHold s.callers gs → IsSo n s (with_main f c gs)
  main_so f c h g [] b = record {
    numbers = h.numbers;
    arrays = h.arrays;
    running = subst (λ y. Holds y f) (no_callers s.running s.callers b) g;
    callers = h.callers;
    images = h.images;
    known = h.known;
    formed = h.formed;
  }
  main_so f c h g (e ∷ gs) b = record {
    numbers = h.numbers;
    arrays = h.arrays;
    running = h.running;
    callers = set_last s.running s.callers f c.callers h.callers g;
    images = h.images;
    known = h.known;
    formed = h.formed;
  }

  pub frame_so : (x : a.Scope) (f : Frame) (c : Core) → IsSo n s c → Holds (layout_of x s) f → IsSo n s (with_frame x f c)
  frame_so a.here f c h g = record { numbers = h.numbers; arrays = h.arrays; running = g; callers = h.callers; images = h.images; known = h.known; formed = h.formed }
  frame_so a.host f c h g = main_so f c h g c.callers h.callers

  -- ---- scalars
  pub cell_of : (x : a.Scope) (i : ℕ) (k : Option Kind) → slice_get (layout_of x s).scalars i ≡ Some k → (c : Core) (v : ℤ) → IsSo n s c → cell_in x i c ≡ Some v → IsOf k v
  cell_of x i k e c v h f = begin_get IsOf (layout_of x s).scalars (frame_of x c).cells (frame_holds x c h).0 i k v e f

  pub cell_so : (x : a.Scope) (i : ℕ) (v : ℤ) (c : Core) → IsSo n s c → ((k : Option Kind) → slice_get (layout_of x s).scalars i ≡ Some k → IsOf k v) → IsSo n s (with_cell x i v c)
  cell_so x i v c h g = (
      let b = frame_holds x c h in
      frame_so x (record (frame_of x c) { cells = slice_set (frame_of x c).cells i v }) c h (begin_set IsOf (layout_of x s).scalars (frame_of x c).cells b.0 i v g, b.1))

  -- ---- arrays
  joined_there : (o : Option (Option Local)) (l : Local) → joined o ≡ Some l → o ≡ Some (Some l)
  joined_there None l e = absurd (cc)
  joined_there (Some None) l e = absurd (cc)
  joined_there (Some (Some m)) l e = cc

  pub array_of : (x : a.Scope) (i : ℕ) (k : Option Kind) → slice_get (layout_of x s).arrays i ≡ Some k → (c : Core) (l : Local) → IsSo n s c → array_in x i c ≡ Some l → Each (IsOf k) l.elements
  array_of x i k e c l h f = begin_get IsLocalOf (layout_of x s).arrays (frame_of x c).arrays (frame_holds x c h).1 i k (Some l) e (joined_there (slice_get (frame_of x c).arrays i) l f)

  pub array_so : (x : a.Scope) (i : ℕ) (o : Option Local) (c : Core) → IsSo n s c → ((k : Option Kind) → slice_get (layout_of x s).arrays i ≡ Some k → IsLocalOf k o) → IsSo n s (with_array_in x i o c)
  array_so x i o c h g = (
      let b = frame_holds x c h in
      frame_so x (record (frame_of x c) { arrays = slice_set (frame_of x c).arrays i o }) c h (b.0, begin_set IsLocalOf (layout_of x s).arrays (frame_of x c).arrays b.1 i o g))
