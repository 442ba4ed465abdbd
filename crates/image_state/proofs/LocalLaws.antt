-- The arrays of frames in a core.
use Rattle.std.proofs.Common.{◌≡◌, ℕ, suc, ◌+◌, ◌*◌, ◌<◌, ◌≤◌, ℤ, List, [], ◌∷◌, length, drop, replicate, slice_set, map, refl, ap, sym, ◌∙◌, subst, arith}
use Rattle.std.specs.Prelude.{Option, None}
use Rattle.std.proofs.lemmas.List.{length-set, length-replicate}
use Rattle.image_acts.specs.Acts as a
use Rattle.image_acts.specs.Core.{Core, Frame, Local}
use Rattle.image_acts.specs.Frames.{last_or, with_last, with_array_in, arrays_of_frames}
use Rattle.local_arrays.specs.Frames.{Framed, front_of, main_of, with_front, with_main, with_arrays, arrays_of, with_array, count_of}
use Rattle.image_state.specs.Kept.{Beside, Main, frame_in, main_frame, frames_in, core_of, AreNarrow, AreFramed}
use Rattle.image_state.proofs.Frames.{Locals, last_in, last_frames, host_framed, with_last_of, times_suc, mul_more}

-- the arrays of all frames of a core are those that are kept
frames_kept : (rows : List (List ℤ)) (main : Main) (fs : Locals) → length fs ≡ suc (length rows) → map (λ f. f.arrays) (frames_in rows main fs) ≡ fs
frames_kept [] main [] h = absurd (omega arith)
frames_kept [] main (f ∷ []) h = refl
frames_kept [] main (f ∷ g ∷ gs) h = absurd (omega arith)
frames_kept (r ∷ rs) main [] h = absurd (omega arith)
frames_kept (r ∷ rs) main (f ∷ fs) h = ap (λ gs. f ∷ gs) (frames_kept rs main fs (omega arith))

module _ (vs : List ℤ) (used local : ℕ) (b : Beside) where
  pub arrays_kept : (rows : List (List ℤ)) (main : Main) (fs : Locals) → length fs ≡ suc (length rows) → arrays_of_frames (core_of vs rows main fs used local b) ≡ fs
  arrays_kept [] main [] h = absurd (omega arith)
  arrays_kept [] main (f ∷ []) h = refl
  arrays_kept [] main (f ∷ g ∷ gs) h = absurd (omega arith)
  arrays_kept (r ∷ rs) main [] h = absurd (omega arith)
  arrays_kept (r ∷ rs) main (f ∷ fs) h = ap (λ gs. f ∷ gs) (frames_kept rs main fs (omega arith))

  -- the last frame
  last_kept : (rows : List (List ℤ)) (fs : Locals) → length fs ≡ suc (length rows) → last_in rows fs ≡ main_of fs
  last_kept [] [] h = absurd (omega arith)
  last_kept [] (f ∷ []) h = refl
  last_kept [] (f ∷ g ∷ gs) h = absurd (omega arith)
  last_kept (r ∷ rs) [] h = absurd (omega arith)
  last_kept (r ∷ rs) (f ∷ []) h = absurd (omega arith)
  last_kept (r ∷ rs) (f ∷ g ∷ gs) h = last_kept rs (g ∷ gs) (omega arith)

  last_put : (new : List (Option Local)) (rows : List (List ℤ)) (main : Main) (fs : Locals) → length fs ≡ suc (length rows) → with_last (main_frame main new) (frames_in rows main fs) ≡ frames_in rows main (with_main new fs)
  last_put new [] main [] h = absurd (omega arith)
  last_put new [] main (f ∷ []) h = refl
  last_put new [] main (f ∷ g ∷ gs) h = absurd (omega arith)
  last_put new (r ∷ rs) main [] h = absurd (omega arith)
  last_put new (r ∷ rs) main (f ∷ []) h = absurd (omega arith)
  last_put new (r ∷ rs) main (f ∷ g ∷ gs) h = with_last_of (main_frame main new) r rs main (f ∷ g ∷ gs) ∙ ap (λ hs. frame_in r f ∷ hs) (last_put new rs main (g ∷ gs) (omega arith))

  abbrev core : List (List ℤ) → Main → Locals → Core
  core rows main fs = core_of vs rows main fs used local b

  abbrev set_array : ℕ → Option Local → Frame → Frame
  set_array x v f = record f { arrays = slice_set f.arrays x v }

  here_kept : (rows : List (List ℤ)) (main : Main) (fs : Locals) (x : ℕ) (v : Option Local) → length fs ≡ suc (length rows) → core rows main (with_front (slice_set (front_of fs) x v) fs) ≡ with_array_in a.here x v (core rows main fs)
  here_kept [] main [] x v h = absurd (omega arith)
  here_kept [] main (f ∷ fs) x v h = refl
  here_kept (r ∷ rs) main [] x v h = absurd (omega arith)
  here_kept (r ∷ rs) main (f ∷ fs) x v h = refl

  host_kept : (rows : List (List ℤ)) (main : Main) (fs : Locals) (x : ℕ) (v : Option Local) → length fs ≡ suc (length rows) → core rows main (with_main (slice_set (main_of fs) x v) fs) ≡ with_array_in a.host x v (core rows main fs)
  host_kept [] main [] x v h = absurd (omega arith)
  host_kept [] main (f ∷ []) x v h = refl
  host_kept [] main (f ∷ g ∷ gs) x v h = absurd (omega arith)
  host_kept (r ∷ rs) main [] x v h = absurd (omega arith)
  host_kept (r ∷ rs) main (f ∷ []) x v h = absurd (omega arith)
  host_kept (r ∷ rs) main (f ∷ g ∷ gs) x v h =
      let l : length (g ∷ gs) ≡ suc (length rs) = omega arith in
      sym (host_framed vs used local b rs main (f ∷ g ∷ gs) r (set_array x v (last_or (frame_in r f) (frames_in rs main (g ∷ gs))))
      ∙ ap (λ (e : Frame). record (core (r ∷ rs) main (f ∷ g ∷ gs)) { callers = with_last (set_array x v e) (frames_in rs main (g ∷ gs)) }) (last_frames (frame_in r f) rs main (g ∷ gs))
      ∙ ap (λ (xs : List (Option Local)). record (core (r ∷ rs) main (f ∷ g ∷ gs)) { callers = with_last (main_frame main (slice_set xs x v)) (frames_in rs main (g ∷ gs)) }) (last_kept rs (g ∷ gs) l)
      ∙ ap (λ (hs : List Frame). record (core (r ∷ rs) main (f ∷ g ∷ gs)) { callers = hs }) (last_put (slice_set (main_of (g ∷ gs)) x v) rs main (g ∷ gs) l))

  pub array_kept : (s : a.Scope) (rows : List (List ℤ)) (main : Main) (fs : Locals) (x : ℕ) (v : Option Local) → length fs ≡ suc (length rows) → core rows main (with_array s x v fs) ≡ with_array_in s x v (core rows main fs)
  array_kept a.here rows main fs x v h = here_kept rows main fs x v h
  array_kept a.host rows main fs x v h = host_kept rows main fs x v h

-- as many frames, none with more arrays
front_narrow : {X : Type 0} (n m : ℕ) (fs : List (List X)) (x : ℕ) (v : X) → AreNarrow n m fs → AreNarrow n m (with_front (slice_set (front_of fs) x v) fs)
front_narrow n m [] x v h = h
front_narrow n m (f ∷ []) x v h = length-set f x v ∙ h
front_narrow n m (f ∷ g ∷ gs) x v h = (let l = length-set f x v in let w = h.0 in omega arith, h.1)

main_narrow : {X : Type 0} (n m : ℕ) (fs : List (List X)) (x : ℕ) (v : X) → AreNarrow n m fs → AreNarrow n m (with_main (slice_set (main_of fs) x v) fs)
main_narrow n m [] x v h = h
main_narrow n m (f ∷ []) x v h = length-set f x v ∙ h
main_narrow n m (f ∷ g ∷ []) x v h = (h.0, main_narrow n m (g ∷ []) x v h.1)
main_narrow n m (f ∷ g ∷ k ∷ ks) x v h = (h.0, main_narrow n m (g ∷ k ∷ ks) x v h.1)

array_narrow : {X : Type 0} (n m : ℕ) (s : a.Scope) (fs : List (List X)) (x : ℕ) (v : X) → AreNarrow n m fs → AreNarrow n m (with_arrays s (slice_set (arrays_of s fs) x v) fs)
array_narrow n m a.here fs x v h = front_narrow n m fs x v h
array_narrow n m a.host fs x v h = main_narrow n m fs x v h

front_long : {X : Type 0} (f : List X) (fs : List (List X)) → length (with_front f fs) ≡ length fs
front_long f [] = refl
front_long f (g ∷ gs) = refl

main_long : {X : Type 0} (f : List X) (fs : List (List X)) → length (with_main f fs) ≡ length fs
main_long f [] = refl
main_long f (g ∷ []) = refl
main_long f (g ∷ h ∷ hs) = ap suc (main_long f (h ∷ hs))

array_long : (s : a.Scope) (fs : Locals) (x : ℕ) (v : Option Local) → length (with_array s x v fs) ≡ length fs
array_long a.here fs x v = front_long (slice_set (front_of fs) x v) fs
array_long a.host fs x v = main_long (slice_set (main_of fs) x v) fs

pub framed_put : (n m : ℕ) (rows : List (List ℤ)) (f g : Framed) (s : a.Scope) (x : ℕ) (v : Option Local) → AreFramed n m rows f → g ≡ record f { frames = with_array s x v f.frames } → AreFramed n m rows g
framed_put n m rows f g s x v h e = subst (AreFramed n m rows) (sym e) (record {
  as_many = array_long s f.frames x v ∙ h.as_many;
  narrow = array_narrow n m s f.frames x v h.narrow;
  most = h.most;
  deepest = h.deepest;
})

narrow_begun : (n m k : ℕ) (fs : Locals) → k ≤ n → AreNarrow n m fs → AreNarrow n m (replicate k None ∷ fs)
narrow_begun n m k [] w h = absurd h
narrow_begun n m k (f ∷ fs) w h = (let l : length (replicate {A = Option Local} k None) ≡ k = length-replicate k None in omega arith, h)

pub framed_begun : (n m k : ℕ) (r : List ℤ) (rows : List (List ℤ)) (f g : Framed) → k ≤ n → AreFramed n m rows f → g ≡ record f { frames = replicate k None ∷ f.frames } → AreFramed n m (r ∷ rows) g
framed_begun n m k r rows f g w h e = subst (AreFramed n m (r ∷ rows)) (sym e) (record {
  as_many = (let l = h.as_many in omega arith);
  narrow = narrow_begun n m k f.frames w h.narrow;
  most = h.most;
  deepest = h.deepest;
})

narrow_ended : {X : Type 0} (n m : ℕ) (fs : List (List X)) → 1 < length fs → AreNarrow n m fs → AreNarrow n m (drop 1 fs)
narrow_ended n m [] w h = absurd h
narrow_ended n m (f ∷ []) w h = absurd (omega arith)
narrow_ended n m (f ∷ g ∷ gs) w h = h.1

long_ended : {X Y : Type 0} (fs : List X) (rows : List Y) → length fs ≡ length rows + 1 → 0 < length rows → length (drop 1 fs) ≡ length (drop 1 rows) + 1
long_ended [] rows h w = absurd (omega arith)
long_ended (f ∷ fs) [] h w = absurd (omega arith)
long_ended (f ∷ fs) (r ∷ rs) h w = omega arith

pub framed_ended : (n m : ℕ) (rows : List (List ℤ)) (f g : Framed) → 0 < length rows → AreFramed n m rows f → g ≡ record f { frames = drop 1 f.frames } → AreFramed n m (drop 1 rows) g
framed_ended n m rows f g w h e = (let l = h.as_many in subst (AreFramed n m (drop 1 rows)) (sym e) (record {
  as_many = long_ended f.frames rows h.as_many w;
  narrow = narrow_ended n m f.frames (omega arith) h.narrow;
  most = h.most;
  deepest = h.deepest;
}))

-- the same arrays where the scalars of a row change
pub framed_rows : (n m : ℕ) (rows new : List (List ℤ)) (f : Framed) → length new ≡ length rows → AreFramed n m rows f → AreFramed n m new f
framed_rows n m rows new f e h = (let l = h.as_many in record { as_many = omega arith; narrow = h.narrow; most = h.most; deepest = h.deepest })

-- the room for one frame more
count_narrow : {X : Type 0} (n m : ℕ) (f : List X) (fs : List (List X)) → AreNarrow n m (f ∷ fs) → count_of (f ∷ fs) ≤ m + length fs * n
count_narrow n m f [] h = omega arith
count_narrow n m f (g ∷ gs) h = (let c = count_narrow n m g gs h.1 in let l = h.0 in let t = times_suc n (length gs) in omega arith)

room_for_frames : {X : Type 0} (n m k d : ℕ) (fs : List (List X)) (most : ℕ) → k ≤ n → d < 256 → length fs ≡ d + 1 → AreNarrow n m fs → most ≡ m + 256 * n → count_of fs + k ≤ most
room_for_frames n m k d [] most w l a h e = absurd h
room_for_frames n m k d (f ∷ fs) most w l a h e = (let c = count_narrow n m f fs h in let u = mul_more n (length fs) 256 (omega arith) in omega arith)

pub room_begun : (n m k : ℕ) (rows : List (List ℤ)) (f : Framed) → k ≤ n → length rows < 256 → AreFramed n m rows f → count_of f.frames + k ≤ f.most
room_begun n m k rows f w l h = room_for_frames n m k (length rows) f.frames f.most w l h.as_many h.narrow h.most

pub deep_begun : (n m : ℕ) (rows : List (List ℤ)) (f : Framed) → length rows < 256 → AreFramed n m rows f → length f.frames ≤ f.deepest
deep_begun n m rows f l h = (let a = h.as_many in let d = h.deepest in omega arith)
