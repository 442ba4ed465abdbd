-- Parts that leave as many callers as there were.
use Rattle.std.proofs.Common.{◌≡◌, ℕ, suc, Bool, true, false, refl}
use Rattle.walk_theory.specs.Syntax.{Parts, end_parts, value, act, enter, either}
use Rattle.image_acts.specs.Acts as a
use Rattle.image_acts.specs.Acts.{Act, call}
use Rattle.program_walks.proofs.FrameActs.{ActFits}
use Rattle.program_walks.proofs.Frames.{PartsFit, KeepsFrames, fits_then}

-- an act that begins or ends a frame
abbrev pub is_frame : Act → Bool
is_frame (call (a.begin_frame cells arrays need)) = true
is_frame (call a.end_frame) = true
is_frame x = false

steady_act : (x : Act) → is_frame x ≡ false → (P : ℕ → Type 0) (n : ℕ) → P n → ActFits x P n
steady_act (call (a.begin_frame cells arrays need)) f P n h = absurd (cc)
steady_act (call a.end_frame) f P n h = absurd (cc)
steady_act x f P n h = h

-- ---- parts that enter no procedure
abbrev pub Plain : Parts Act → Type 0
Plain end_parts = Unit {0}
Plain (value p q) = Plain p × Plain q
Plain (act x q) = (is_frame x ≡ false) × Plain q
Plain (enter k q) = ⊥
Plain (either p q r) = Plain p × Plain q × Plain r

plain_then : (b : ℕ) (p : Parts Act) → Plain p → (After : ℕ → Type 0) (n : ℕ) → After n → PartsFit b p After n
plain_then b end_parts h After n k = k
plain_then b (value p q) h After n k = plain_then b p h.0 (PartsFit b q After) n (plain_then b q h.1 After n k)
plain_then b (act x q) h After n k = steady_act x h.0 (PartsFit b q After) n (plain_then b q h.1 After n k)
plain_then b (enter j q) h After n k = absurd h
plain_then b (either p q r) h After n k = (plain_then b p h.0 (PartsFit b r After) n (plain_then b r h.2 After n k), plain_then b q h.1 (PartsFit b r After) n (plain_then b r h.2 After n k))

-- ---- parts of a body
pub record Steady (p : Parts Act) : Type 0 where
  pub fits : KeepsFrames p

pub steady_none : Steady end_parts
steady_none = record { fits = λ n. refl }

pub steady_then : {x : Act} {q : Parts Act} → is_frame x ≡ false → Steady q → Steady (act x q)
steady_then {x} {q} f h = record { fits = λ n. steady_act x f (PartsFit (suc n) q (λ m. m ≡ n)) n (h.fits n) }

pub steady_both : {p q : Parts Act} → Steady p → Steady q → Steady (value p q)
steady_both {p} {q} h k = record { fits = λ n. fits_then p h.fits (PartsFit (suc n) q (λ m. m ≡ n)) n (k.fits n) }

pub steady_fork : {p q r : Parts Act} → Steady p → Steady q → Steady r → Steady (either p q r)
steady_fork {p} {q} {r} h k l = record { fits = λ n. (fits_then p h.fits (PartsFit (suc n) r (λ m. m ≡ n)) n (l.fits n), fits_then q k.fits (PartsFit (suc n) r (λ m. m ≡ n)) n (l.fits n)) }

-- ---- a call: the frame is begun, the procedure's body runs, and the frame ends
module _ (k cells arrays need : ℕ) (lays copies results goes_out goes_back : Parts Act) where
  pub steady_call : Plain lays → Plain copies → Plain results → Plain goes_out → Steady goes_back
      → Steady (value (value (act (call (a.begin_frame cells arrays need)) end_parts) (value lays copies)) (enter k (value results (value goes_out (value (act (call a.end_frame) end_parts) goes_back)))))
  steady_call hl hc hr ho hb = record { fits = by_callers }
    where
      by_callers : (n : ℕ) → PartsFit (suc n) lays (PartsFit (suc n) copies (PartsFit (suc n) (enter k (value results (value goes_out (value (act (call a.end_frame) end_parts) goes_back)))) (λ m. m ≡ n))) (suc n)
      by_callers n =
          let b = suc n in
          let end_frame = PartsFit b (act (call a.end_frame) end_parts) (PartsFit b goes_back (λ m. m ≡ n)) in
          let entered = PartsFit b (enter k (value results (value goes_out (value (act (call a.end_frame) end_parts) goes_back)))) (λ m. m ≡ n) in
          plain_then b lays hl (PartsFit b copies entered) b (plain_then b copies hc entered b (refl, plain_then b results hr (PartsFit b goes_out end_frame) b (plain_then b goes_out ho end_frame b (hb.fits n))))
