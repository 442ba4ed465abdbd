-- The code of a whole program.
use Rattle.std.proofs.Common.{◌≡◌, ℕ, zero, suc, ◌+◌, ◌<◌, List, [], ◌∷◌, ◌++◌, length, refl, ap, ◌∙◌, subst, arith, inr, append_assoc, length-append}
use Rattle.std.specs.Prelude.{Some, None, slice_get}
use Rattle.std.proofs.Math.Seq.{get_or-append_seam}
use Rattle.std.proofs.lemmas.Option.{slice_get-get_or, slice_get_past}
use Rattle.trace_theory.specs.Equivalence.{Lasts}
use Rattle.trace_theory.proofs.Equivalence.{same_walks}
use Rattle.trace_theory.proofs.Overlay.{lasts_too}
use Rattle.walk_theory.specs.Language.{Language}
use Rattle.walk_theory.specs.Syntax.{Steps, body_of}
use Rattle.walk_theory.specs.Walks.{Config, step, start}
use Rattle.walk_theory.specs.Code.{Line, on, go_back, State, code_step, at_place, Stands}
use Rattle.walk_theory.specs.Made.{steps_size, steps_code, start_of, bodies_code, program_code}
use Rattle.walk_theory.specs.Programs.{SameCore, HasWalksOf}
use Rattle.walk_theory.proofs.Alike.{Alike, Proceed}
use Rattle.walk_theory.proofs.Places.{cut, steps_long}
use Rattle.walk_theory.proofs.Simulation.{simulates}
use Rattle.walk_theory.proofs.Halts.{stops_near}
use Rattle.walk_theory.proofs.Ends.{ends}

-- each list stands where it is
pub all_stand : {A : Type 0} (is pre : List (Line A)) → Stands (pre ++ is) (length pre) is
all_stand [] pre = tt
all_stand (i ∷ is) pre =
    let within : length pre < length (pre ++ i ∷ is) = omega (arith, length-append pre (i ∷ is)) in
    let here = slice_get-get_or (pre ++ i ∷ is) (length pre) i within ∙ ap Some (get_or-append_seam pre i is i) in
    let n : length (pre ++ i ∷ []) ≡ length pre + 1 = omega (arith, length-append pre (i ∷ [])) in
    let rest = all_stand is (pre ++ i ∷ []) in
    let rest' = subst (λ l. Stands l (length (pre ++ i ∷ [])) is) (append_assoc pre (i ∷ []) is) rest in
    (here, subst (λ m. Stands (pre ++ i ∷ is) m is) n rest')

proceeds : {A : Type 0} (code : List (Line A)) (starts : ℕ → ℕ) (l p : ℕ) (bs : List (Steps A)) (k : ℕ) → Stands code p (bodies_code starts l p bs) → Stands code (start_of p bs k) (steps_code starts [] (start_of p bs k) (body_of bs k) ++ on l go_back ∷ [])
proceeds code starts l p [] k h = h
proceeds {A} code starts l p (b ∷ bs) zero h =
    let f = cut code p (steps_size b) (steps_code starts [] p b) (on l go_back ∷ bodies_code starts l (p + steps_size b + 1) bs) (steps_long starts [] p b) h in
    joined (steps_code starts [] p b) p (steps_size b) (steps_long starts [] p b) f.0 f.1.0
  where
    joined : (xs : List (Line A)) (q n : ℕ) → length xs ≡ n → Stands code q xs → slice_get code (q + n) ≡ Some (on l go_back) → Stands code q (xs ++ on l go_back ∷ [])
    joined [] q n e s t = ((let z : q + n ≡ q = omega arith in subst (λ m. slice_get code m ≡ Some (on l go_back)) z t), tt)
    joined (x ∷ xs) q zero e s t = absurd (cc)
    joined (x ∷ xs) q (suc n) e s t =
        (s.0, joined xs (q + 1) n (let e' = e in omega arith) s.1 (let z : q + suc n ≡ q + 1 + n = omega arith in subst (λ m. slice_get code m ≡ Some (on l go_back)) z t))
proceeds code starts l p (b ∷ bs) (suc k) h =
    let f = cut code p (steps_size b) (steps_code starts [] p b) (on l go_back ∷ bodies_code starts l (p + steps_size b + 1) bs) (steps_long starts [] p b) h in
    proceeds code starts l (p + steps_size b + 1) bs k f.1.1

module _ {A C Q R : Type 0} (L : Language A C Q R) (answers : Q → R → Type 0) (last : A) (bs : List (Steps A)) (l limit : ℕ) (first : C) where
  stands : Stands (program_code last l bs) 0 (program_code last l bs)
  stands = all_stand (program_code last l bs) []

  proceed : Proceed (program_code last l bs) (start_of 4 bs) (body_of bs)
  proceed k = (l, proceeds (program_code last l bs) (start_of 4 bs) l 4 bs k stands.1.1.1.1)

  past : slice_get (program_code last l bs) (length (program_code last l bs)) ≡ None
  past = slice_get_past (program_code last l bs) (length (program_code last l bs)) (omega arith)

  -- the walk and the code stand alike at the start
  pub alike_first : Alike (program_code last l bs) (start_of 4 bs) (start last l first) (at_place 0 [] first 0)
  alike_first = record { loops = []; does = ((stands.0, tt), (stands.1.0, ((stands.1.1.0, tt), (refl, refl, inr (l, stands.1.1.1.0))))); core = refl; count = refl }

  -- the code of a program has its walks
  pub has_walks : HasWalksOf L answers last bs l limit first (program_code last l bs)
  has_walks = same_walks (Config A C) (State C) Q R answers (Alike (program_code last l bs) (start_of 4 bs)) SameCore SameCore (step L (body_of bs) limit) (start last l first) (code_step L (program_code last l bs) limit) (at_place 0 [] first 0)
      (simulates L answers (body_of bs) limit (program_code last l bs) (start_of 4 bs) proceed past)
      (stops_near L (body_of bs) limit (program_code last l bs) (start_of 4 bs))
      (λ c d h. ends L (body_of bs) limit c)
      (λ c d h. (h.core, h.count))
      alike_first

  -- each walk of the code of a program comes to an ask or ends
  pub code_lasts : Lasts answers (code_step L (program_code last l bs) limit) (at_place 0 [] first 0)
  code_lasts = lasts_too (Config A C) (State C) Q R answers (Alike (program_code last l bs) (start_of 4 bs)) (step L (body_of bs) limit) (code_step L (program_code last l bs) limit) (simulates L answers (body_of bs) limit (program_code last l bs) (start_of 4 bs) proceed past) (λ c d h. ends L (body_of bs) limit c) (start last l first) (at_place 0 [] first 0) alike_first
