-- The code of a program is good.
use Rattle.std.proofs.Common.{◌≡◌, ℕ, zero, suc, ◌+◌, ◌≤◌, inl, inr, List, [], ◌∷◌, ◌++◌, length, ap, subst, arith}
use Rattle.std.specs.Prelude.{Some, slice_get, true}
use Rattle.walk_theory.specs.Syntax.{Parts, end_parts, value, act, enter, either, Form, simple, choose, loop, around, exit, cycle, return, Branches, otherwise, branch, Steps, stop, also}
use Rattle.walk_theory.specs.Code.{Instr, Line, on, jump, jump_if, count_one, go_back, Stands}
use Rattle.walk_theory.specs.Made.{parts_size, steps_size, form_size, branches_size, Places, places, exit_instr, cycle_instr, parts_code, iterations_code, pick_code, steps_code, form_code, branches_code, start_of, bodies_code, program_code}
use Rattle.walk_theory.specs.Good.{counts, Fine, IsGood}
use Rattle.walk_theory.proofs.Places.{cut, parts_long, steps_long, form_long}
use Rattle.walk_theory.proofs.Programs.{all_stand}

-- each of these steps, the first one at p, may stand there
abbrev FineFrom : {A : Type 0} → List (Line A) → ℕ → List (Line A) → Type 0
FineFrom code p [] = Unit {0}
FineFrom code p (i ∷ is) = Fine code p i.instr × FineFrom code (p + 1) is

-- the loops around go on behind this place
abbrev Beyond : ℕ → List Places → Type 0
Beyond p [] = Unit {0}
Beyond p (x ∷ xs) = (p ≤ x.next) × (p ≤ x.exit) × Beyond p xs

module _ {A : Type 0} (code : List (Line A)) (starts : ℕ → ℕ) where
  -- one list of fine steps behind another
  fine_join : (p n : ℕ) (xs ys : List (Line A)) → length xs ≡ n → FineFrom code p xs → FineFrom code (p + n) ys → FineFrom code p (xs ++ ys)
  fine_join p n [] ys e f g = (let z : p + n ≡ p = omega (arith, e) in subst (λ k. FineFrom code k ys) z g)
  fine_join p zero (x ∷ xs) ys e f g = absurd (cc)
  fine_join p (suc n) (x ∷ xs) ys e f g = (f.0, fine_join (p + 1) n xs ys (let e' = e in omega arith) f.1 (let z : p + suc n ≡ p + 1 + n = omega arith in subst (λ k. FineFrom code k ys) z g))

  beyond_less : (p q : ℕ) (xs : List Places) → p ≤ q → Beyond q xs → Beyond p xs
  beyond_less p q [] h b = tt
  beyond_less p q (x ∷ xs) h b = ((let k = b.0 in omega arith), (let k = b.1 in omega arith), beyond_less p q xs h b.2)

  exit_fine : (p n : ℕ) (xs : List Places) → Beyond (p + 1) xs → Fine code p (exit_instr xs n)
  exit_fine p n [] b = tt
  exit_fine p zero (x ∷ xs) b = inl (let k = b.1 in omega arith)
  exit_fine p (suc n) (x ∷ xs) b = exit_fine p n xs b.2

  cycle_fine : (p n : ℕ) (xs : List Places) → Beyond (p + 1) xs → Fine code p (cycle_instr xs n)
  cycle_fine p n [] b = tt
  cycle_fine p zero (x ∷ xs) b = inl (let k = b.0 in omega arith)
  cycle_fine p (suc n) (x ∷ xs) b = cycle_fine p n xs b.2

  parts_fine : (l p : ℕ) (q : Parts A) → FineFrom code p (parts_code starts l q)
  parts_fine l p end_parts = tt
  parts_fine l p (value a b) = fine_join p (parts_size a) (parts_code starts l a) (parts_code starts l b) (parts_long starts l a) (parts_fine l p a) (parts_fine l (p + parts_size a) b)
  parts_fine l p (act a q) = (tt, parts_fine l (p + 1) q)
  parts_fine l p (enter k q) = (tt, parts_fine l (p + 1) q)
  parts_fine l p (either a b q) = (
    tt,
    fine_join (p + 1) (parts_size a) (parts_code starts l a) _ (parts_long starts l a) (parts_fine l (p + 1) a)
        (tt, fine_join (p + 1 + parts_size a + 1) (parts_size b) (parts_code starts l b) _ (parts_long starts l b) (parts_fine l (p + 1 + parts_size a + 1) b) (parts_fine l (p + 1 + parts_size a + 1 + parts_size b) q)),
  )

  mutual
    steps_fine : (xs : List Places) (p : ℕ) (s : Steps A) → Beyond (p + steps_size s) xs → Stands code p (steps_code starts xs p s) → FineFrom code p (steps_code starts xs p s)
    steps_fine xs p stop b h = tt
    steps_fine xs p (also l f rest) b h =
        let g = cut code (p + 1) (form_size f) (form_code starts xs (p + 1) l f) (steps_code starts xs (p + 1 + form_size f) rest) (form_long starts xs (p + 1) l f) h.1 in (
          tt,
          fine_join (p + 1) (form_size f) (form_code starts xs (p + 1) l f) (steps_code starts xs (p + 1 + form_size f) rest) (form_long starts xs (p + 1) l f)
              (form_fine xs (p + 1) l f (beyond_less (p + 1 + form_size f) (p + (1 + form_size f + steps_size rest)) xs (omega arith) b) g.0)
              (steps_fine xs (p + 1 + form_size f) rest (beyond_less (p + 1 + form_size f + steps_size rest) (p + (1 + form_size f + steps_size rest)) xs (omega arith) b) g.1),
        )

    form_fine : (xs : List Places) (p l : ℕ) (f : Form A) → Beyond (p + form_size f) xs → Stands code p (form_code starts xs p l f) → FineFrom code p (form_code starts xs p l f)
    form_fine xs p l (simple q) b h = parts_fine l p q
    form_fine xs p l (choose q bs) b h =
        let g = cut code p (parts_size q) (parts_code starts l q) (branches_code starts xs (p + parts_size q) bs) (parts_long starts l q) h in
        fine_join p (parts_size q) (parts_code starts l q) (branches_code starts xs (p + parts_size q) bs) (parts_long starts l q) (parts_fine l p q)
        (branches_fine xs (p + parts_size q) bs (beyond_less (p + parts_size q + branches_size bs) (p + (parts_size q + branches_size bs)) xs (omega arith) b) g.1)
    form_fine xs p l (loop s n t a) b h =
        let first = p + parts_size s + 1 in
        let ys = places first a n t ∷ xs in
        let body = steps_code starts ys (first + 1) a in
        let iterations = iterations_code starts first l body n t in
        let g = cut code p (parts_size s) (parts_code starts l s) (on l (jump (p + parts_size s + 1 + 1 + steps_size a + parts_size n)) ∷ iterations) (parts_long starts l s) h in
        let k = cut code (first + 1) (steps_size a) body (parts_code starts l n ++ (parts_code starts l t ++ on l (jump_if first) ∷ [])) (steps_long starts ys (first + 1) a) g.1.1.1 in
        let here : counts (slice_get code first) ≡ true = ap counts g.1.1.0 in
        fine_join p (parts_size s) (parts_code starts l s) _ (parts_long starts l s) (parts_fine l p s) (
          inl (omega arith),
          (
            tt,
            fine_join (first + 1) (steps_size a) body _ (steps_long starts ys (first + 1) a)
                (steps_fine ys (first + 1) a (omega arith, omega arith, beyond_less (first + 1 + steps_size a) (p + (parts_size s + 1 + (1 + steps_size a + parts_size n + parts_size t + 1))) xs (omega arith) b) k.0)
                (fine_join (first + 1 + steps_size a) (parts_size n) (parts_code starts l n) _ (parts_long starts l n) (parts_fine l (first + 1 + steps_size a) n)
                (fine_join (first + 1 + steps_size a + parts_size n) (parts_size t) (parts_code starts l t) _ (parts_long starts l t) (parts_fine l (first + 1 + steps_size a + parts_size n) t)
                (inr here, tt))),
          ),
        )
    form_fine xs p l (around q a m r) b h =
        let g = cut code p (parts_size q) (parts_code starts l q) (steps_code starts xs (p + parts_size q) a ++ on m count_one ∷ parts_code starts m r) (parts_long starts l q) h in
        let k = cut code (p + parts_size q) (steps_size a) (steps_code starts xs (p + parts_size q) a) (on m count_one ∷ parts_code starts m r) (steps_long starts xs (p + parts_size q) a) g.1 in
        fine_join p (parts_size q) (parts_code starts l q) _ (parts_long starts l q) (parts_fine l p q)
        (fine_join (p + parts_size q) (steps_size a) (steps_code starts xs (p + parts_size q) a) _ (steps_long starts xs (p + parts_size q) a)
        (steps_fine xs (p + parts_size q) a (beyond_less (p + parts_size q + steps_size a) (p + (parts_size q + steps_size a + 1 + parts_size r)) xs (omega arith) b) k.0)
        (tt, parts_fine m (p + parts_size q + steps_size a + 1) r))
    form_fine xs p l (exit n) b h = (exit_fine p n xs b, tt)
    form_fine xs p l (cycle n) b h = (cycle_fine p n xs b, tt)
    form_fine xs p l return b h = (tt, tt)

    branches_fine : (xs : List Places) (p : ℕ) (bs : Branches A) → Beyond (p + branches_size bs) xs → Stands code p (branches_code starts xs p bs) → FineFrom code p (branches_code starts xs p bs)
    branches_fine xs p (otherwise a) b h = steps_fine xs p a b h
    branches_fine xs p (branch l q a rest) b h =
        let other = p + parts_size q + 1 + steps_size a + 1 in
        let end = other + branches_size rest in
        let first = steps_code starts xs (p + parts_size q + 1) a in
        let last = branches_code starts xs other rest in
        let all = p + (parts_size q + 1 + steps_size a + 1 + branches_size rest) in
        let g = cut code p (parts_size q) (parts_code starts l q) (pick_code starts l other end first last) (parts_long starts l q) h in
        let k = cut code (p + parts_size q + 1) (steps_size a) first (on l (jump end) ∷ last) (steps_long starts xs (p + parts_size q + 1) a) g.1.1 in
        fine_join p (parts_size q) (parts_code starts l q) _ (parts_long starts l q) (parts_fine l p q) (
          inl (omega arith),
          fine_join (p + parts_size q + 1) (steps_size a) first _ (steps_long starts xs (p + parts_size q + 1) a)
              (steps_fine xs (p + parts_size q + 1) a (beyond_less (p + parts_size q + 1 + steps_size a) all xs (omega arith) b) k.0)
              (inl (omega arith), branches_fine xs other rest (beyond_less (other + branches_size rest) all xs (omega arith) b) k.1.1),
        )

  bodies_fine : (l p : ℕ) (bs : List (Steps A)) → Stands code p (bodies_code starts l p bs) → FineFrom code p (bodies_code starts l p bs)
  bodies_fine l p [] h = (tt, tt)
  bodies_fine l p (b ∷ bs) h =
      let g = cut code p (steps_size b) (steps_code starts [] p b) (on l go_back ∷ bodies_code starts l (p + steps_size b + 1) bs) (steps_long starts [] p b) h in
      fine_join p (steps_size b) (steps_code starts [] p b) _ (steps_long starts [] p b) (steps_fine [] p b tt g.0) (tt, bodies_fine l (p + steps_size b + 1) bs g.1.1)

  fine_at : (is : List (Line A)) (p k l : ℕ) (i : Instr A) → FineFrom code p is → slice_get is k ≡ Some (on l i) → Fine code (p + k) i
  fine_at [] p k l i f h = absurd (cc)
  fine_at (x ∷ is) p zero l i f h = (let e : x.instr ≡ i = cc in let z : p ≡ p + 0 = omega arith in subst (λ m. Fine code m i) z (subst (Fine code p) e f.0))
  fine_at (x ∷ is) p (suc k) l i f h = (let z : p + 1 + k ≡ p + suc k = omega arith in subst (λ m. Fine code m i) z (fine_at is (p + 1) k l i f.1 h))

-- the code of a program is good
pub made_code_is_good : {A : Type 0} (last : A) (l : ℕ) (bs : List (Steps A)) → IsGood (program_code last l bs)
made_code_is_good last l bs p m i h =
    let code = program_code last l bs in
    let s = all_stand code [] in
    let fine = bodies_fine code (start_of 4 bs) l 4 bs s.1.1.1.1 in
    let z : 0 + p ≡ p = omega arith in
    subst (λ k. Fine code k i) z (fine_at code (start_of 4 bs) code 0 p m i (tt, (tt, (tt, (tt, fine)))) h)
