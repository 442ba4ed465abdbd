-- The local arrays of a core that is kept, and what a change of them makes of it.
use Rattle.std.proofs.Common.{◌≡◌, ℕ, suc, ◌+◌, ◌*◌, ◌<◌, ◌≤◌, List, length, refl, ap, sym, ◌∙◌, subst, arith}
use Rattle.std.specs.Prelude.{Bool, true, false, IsTrue, IsFalse, Option, Result, Ok, Err, OnOk, OnErr}
use Rattle.std.specs.Arc.{arc_value}
use Rattle.image_acts.specs.Acts as a
use Rattle.image_acts.specs.Core.{Local}
use Rattle.image_acts.specs.Frames.{array_in, with_array_in, arrays_of_frames, cells_in_frames}
use Rattle.local_arrays.specs.Frames.{Framed, array_of, with_array}
use Rattle.local_arrays.proofs.CoreLaws.{array_agrees}
use Rattle.local_arrays.proofs.FrameLaws.{on_ok, on_err}
use Rattle.image_state.specs.declared.state.ImageState.TheInside.{Inside}
use Rattle.image_state.specs.contracts.state.ImageState.{the_view, the_invariant}
use Rattle.image_state.specs.Acting.{with_core}
use Rattle.image_state.specs.Kept.{Kept, Main, main_with, beside_of, framed_of}
use Rattle.image_state.proofs.LocalLaws.{arrays_kept, array_kept, framed_put}

module _ (i : Inside) (m : Kept) (view : the_view i ≡ m) (invariant : the_invariant i) where
  abbrev main : Main
  main = main_with i.main.items i.main_need

  as_many : length i.locals.frames ≡ suc (length i.frames.rows)
  as_many = (let h = invariant.6.as_many in omega arith)

  inside_are : arrays_of_frames (the_view i).core ≡ i.locals.frames
  inside_are = arrays_kept i.values.values i.used i.local (beside_of (the_view i).core) i.frames.rows main i.locals.frames as_many

  -- the arrays of the core
  pub frames_are : arrays_of_frames m.core ≡ i.locals.frames
  frames_are = ap (λ (k : Kept). arrays_of_frames k.core) (sym view) ∙ inside_are

  pub array_is : (s : a.Scope) (x : ℕ) → array_in s x m.core ≡ array_of s x i.locals.frames
  array_is s x = array_agrees s x m.core ∙ ap (array_of s x) frames_are

  framed_is : (f : Framed) (fs : List (List (Option Local))) (most size deepest : ℕ) → f.frames ≡ fs → f.most ≡ most → f.size ≡ size → f.deepest ≡ deepest → f ≡ record { frames = fs; most = most; size = size; deepest = deepest }
  framed_is f fs most size deepest p q r s = rw (← p, ← q, ← r, ← s) refl

  pub locals_are : i.locals ≡ framed_of m
  locals_are = framed_is i.locals (arrays_of_frames (the_view i).core) (length (arc_value i.code).program.tables.main.arrays + 256 * i.local_room) (the_view i).core.array_room 256 (sym inside_are) invariant.6.most refl invariant.6.deepest ∙ ap framed_of view

  -- with another array
  pub put : (s : a.Scope) (x : ℕ) (v : Option Local) (g : Framed) → g ≡ record i.locals { frames = with_array s x v i.locals.frames } → the_view (record i { locals = g }) ≡ with_core m (with_array_in s x v m.core)
  put s x v g e =
      ap (λ (f : Framed). the_view (record i { locals = f })) e
      ∙ ap (with_core (the_view i)) (array_kept i.values.values i.used i.local (beside_of (the_view i).core) s i.frames.rows main i.locals.frames x v as_many)
      ∙ ap (λ (k : Kept). with_core k (with_array_in s x v k.core)) view

  -- with what another array is made of the one that is there
  pub put_by : (s : a.Scope) (x : ℕ) (f : Option Local → Option Local) (g : Framed) → g ≡ record i.locals { frames = with_array s x (f (array_of s x i.locals.frames)) i.locals.frames } → the_view (record i { locals = g }) ≡ with_core m (with_array_in s x (f (array_in s x m.core)) m.core)
  put_by s x f g e = put s x (f (array_of s x i.locals.frames)) g e ∙ ap (λ (o : Option Local). with_core m (with_array_in s x (f o) m.core)) (sym (array_is s x))

  pub invariant_put : (s : a.Scope) (x : ℕ) (v : Option Local) (g : Framed) → g ≡ record i.locals { frames = with_array s x v i.locals.frames } → the_invariant (record i { locals = g })
  invariant_put s x v g e = (
    invariant.0,
    invariant.1,
    invariant.2,
    invariant.3,
    invariant.4,
    invariant.5,
    framed_put i.local_room (length (arc_value i.code).program.tables.main.arrays) i.frames.rows i.locals g s x v invariant.6 e,
    invariant.7,
    invariant.8,
  )

  -- where it is changed or not
  pub invariant_tried : {X E : Type 0} (r : Result X E) (s : a.Scope) (x : ℕ) (v : Option Local) (g : Framed) → OnOk r (g ≡ record i.locals { frames = with_array s x v i.locals.frames }) → OnErr r (g ≡ i.locals) → the_invariant (record i { locals = g })
  invariant_tried (Ok y) s x v g e k = invariant_put s x v g e
  invariant_tried (Err n) s x v g e k = subst (λ (f : Framed). the_invariant (record i { locals = f })) (sym k) invariant

  -- the same where a truth value tells whether there is another array
  pub invariant_told : (r : Bool) (s : a.Scope) (x : ℕ) (P : Option Local → Type 0) (g : Framed) → (IsTrue r → (v : Option Local) × P v × (g ≡ record i.locals { frames = with_array s x v i.locals.frames })) → (IsFalse r → g ≡ i.locals) → the_invariant (record i { locals = g })
  invariant_told true s x P g e k = (let p = e refl in invariant_put s x p.0 g p.2)
  invariant_told false s x P g e k = subst (λ (f : Framed). the_invariant (record i { locals = f })) (sym (k refl)) invariant

  -- the room for it
  pub fits : {X E : Type 0} (r : Result X E) (s : a.Scope) (x : ℕ) (v : Option Local) → OnOk r (cells_in_frames (with_array s x v i.locals.frames) ≤ i.locals.size) → OnOk r (cells_in_frames (with_array s x v (arrays_of_frames m.core)) ≤ m.core.array_room)
  fits r s x v h = on_ok r (λ l. subst (λ (n : ℕ). cells_in_frames (with_array s x v (arrays_of_frames m.core)) ≤ n) (ap (λ (k : Kept). k.core.array_room) view) (subst (λ fs. cells_in_frames (with_array s x v fs) ≤ i.locals.size) (sym frames_are) l)) h

  pub crowded : {X E : Type 0} (r : Result X E) (s : a.Scope) (x : ℕ) (v : Option Local) → OnErr r (i.locals.size < cells_in_frames (with_array s x v i.locals.frames)) → OnErr r (m.core.array_room < cells_in_frames (with_array s x v (arrays_of_frames m.core)))
  crowded r s x v h = on_err r (λ l. subst (λ (n : ℕ). n < cells_in_frames (with_array s x v (arrays_of_frames m.core))) (ap (λ (k : Kept). k.core.array_room) view) (subst (λ fs. i.locals.size < cells_in_frames (with_array s x v fs)) (sym frames_are) l)) h
