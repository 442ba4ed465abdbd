-- Code that stands at a place, cut into its parts.
use Rattle.std.proofs.Common.{◌≡◌, ℕ, suc, ◌+◌, List, [], ◌∷◌, ◌++◌, length, refl, ◌∙◌, subst, arith, length-append}
use Rattle.std.specs.Prelude.{Some, slice_get}
use Rattle.walk_theory.specs.Syntax.{Parts, end_parts, value, act, enter, either, Form, simple, choose, loop, around, exit, cycle, return, Branches, otherwise, branch, Steps, stop, also}
use Rattle.walk_theory.specs.Code.{Line, on, count_one, jump, jump_if, skip, Stands}
use Rattle.walk_theory.specs.Made.{parts_size, steps_size, form_size, branches_size, Places, places, parts_code, iterations_code, pick_code, steps_code, form_code, branches_code}

pub stands_append : {A : Type 0} (code : List (Line A)) (p : ℕ) (xs ys : List (Line A)) → Stands code p (xs ++ ys) → Stands code p xs × Stands code (p + length xs) ys
stands_append code p [] ys h = (tt, let e : p ≡ p + 0 = omega arith in subst (λ k. Stands code k ys) e h)
stands_append code p (x ∷ xs) ys h =
    let r = stands_append code (p + 1) xs ys h.1 in
    let e : p + 1 + length xs ≡ p + suc (length xs) = omega arith in
    ((h.0, r.0), subst (λ k. Stands code k ys) e r.1)

-- the same where the length of the front is known
pub cut : {A : Type 0} (code : List (Line A)) (p n : ℕ) (xs ys : List (Line A)) → length xs ≡ n → Stands code p (xs ++ ys) → Stands code p xs × Stands code (p + n) ys
cut code p n xs ys e h = let r = stands_append code p xs ys h in (r.0, subst (λ k. Stands code (p + k) ys) e r.1)

module _ {A : Type 0} (starts : ℕ → ℕ) where
  pub parts_long : (l : ℕ) (p : Parts A) → length (parts_code starts l p) ≡ parts_size p
  parts_long l end_parts = refl
  parts_long l (value p q) = length-append (parts_code starts l p) (parts_code starts l q) ∙ (let a = parts_long l p in let b = parts_long l q in omega arith)
  parts_long l (act a q) = let b = parts_long l q in omega arith
  parts_long l (enter k q) = let b = parts_long l q in omega arith
  parts_long l (either a b q) =
      let h1 = parts_long l a in
      let h2 = parts_long l b in
      let h3 = parts_long l q in
      let c1 = length-append (parts_code starts l b) (parts_code starts l q) in
      let c2 = length-append (parts_code starts l a) (on l (skip (parts_size b)) ∷ (parts_code starts l b ++ parts_code starts l q)) in
      omega arith

  mutual
    pub steps_long : (xs : List Places) (p : ℕ) (s : Steps A) → length (steps_code starts xs p s) ≡ steps_size s
    steps_long xs p stop = refl
    steps_long xs p (also l f rest) =
        let a = form_long xs (p + 1) l f in
        let b = steps_long xs (p + 1 + form_size f) rest in
        let c = length-append (form_code starts xs (p + 1) l f) (steps_code starts xs (p + 1 + form_size f) rest) in
        omega arith

    pub form_long : (xs : List Places) (p l : ℕ) (f : Form A) → length (form_code starts xs p l f) ≡ form_size f
    form_long xs p l (simple q) = parts_long l q
    form_long xs p l (choose q bs) =
        let a = parts_long l q in
        let b = branches_long xs (p + parts_size q) bs in
        let c = length-append (parts_code starts l q) (branches_code starts xs (p + parts_size q) bs) in
        omega arith
    form_long xs p l (loop s n t b) =
        let f = p + parts_size s + 1 in
        let body = steps_code starts (places f b n t ∷ xs) (f + 1) b in
        let tail = parts_code starts l t ++ on l (jump_if f) ∷ [] in
        let h1 = parts_long l s in
        let h2 = parts_long l n in
        let h3 = parts_long l t in
        let h4 = steps_long (places f b n t ∷ xs) (f + 1) b in
        let c1 = length-append (parts_code starts l t) (on l (jump_if f) ∷ []) in
        let c2 = length-append (parts_code starts l n) tail in
        let c3 = length-append body (parts_code starts l n ++ tail) in
        let c4 = length-append (parts_code starts l s) (on l (jump (p + parts_size s + 1 + 1 + steps_size b + parts_size n)) ∷ iterations_code starts f l body n t) in
        omega arith
    form_long xs p l (around q b m r) =
        let h1 = parts_long l q in
        let h2 = steps_long xs (p + parts_size q) b in
        let h3 = parts_long m r in
        let c1 = length-append (steps_code starts xs (p + parts_size q) b) (on m count_one ∷ parts_code starts m r) in
        let c2 = length-append (parts_code starts l q) (steps_code starts xs (p + parts_size q) b ++ on m count_one ∷ parts_code starts m r) in
        omega arith
    form_long xs p l (exit n) = refl
    form_long xs p l (cycle n) = refl
    form_long xs p l return = refl

    pub branches_long : (xs : List Places) (p : ℕ) (b : Branches A) → length (branches_code starts xs p b) ≡ branches_size b
    branches_long xs p (otherwise b) = steps_long xs p b
    branches_long xs p (branch l q a rest) =
        let first = steps_code starts xs (p + parts_size q + 1) a in
        let last = branches_code starts xs (p + parts_size q + 1 + steps_size a + 1) rest in
        let i = on l (jump (p + parts_size q + 1 + steps_size a + 1 + branches_size rest)) in
        let h1 = parts_long l q in
        let h2 = steps_long xs (p + parts_size q + 1) a in
        let h3 = branches_long xs (p + parts_size q + 1 + steps_size a + 1) rest in
        let c1 = length-append first (i ∷ last) in
        let c2 = length-append (parts_code starts l q) (pick_code starts l (p + parts_size q + 1 + steps_size a + 1) (p + parts_size q + 1 + steps_size a + 1 + branches_size rest) first last) in
        omega arith

module _ {A : Type 0} (code : List (Line A)) (starts : ℕ → ℕ) where
  -- the parts of a loop's iterations
  pub record Iterations (xs : List Places) (p l : ℕ) (b : Steps A) (n t : Parts A) : Type 0 where
    pub count : slice_get code p ≡ Some (on l count_one)
    pub body : Stands code (p + 1) (steps_code starts (places p b n t ∷ xs) (p + 1) b)
    pub next : Stands code (p + 1 + steps_size b) (parts_code starts l n)
    pub test : Stands code (p + 1 + steps_size b + parts_size n) (parts_code starts l t)
    pub last : slice_get code (p + 1 + steps_size b + parts_size n + parts_size t) ≡ Some (on l (jump_if p))

  -- they stand where the code of the iterations stands
  pub iterations_cut : (xs : List Places) (p l : ℕ) (b : Steps A) (n t : Parts A) → Stands code p (iterations_code starts p l (steps_code starts (places p b n t ∷ xs) (p + 1) b) n t) → Iterations xs p l b n t
  iterations_cut xs p l b n t h =
      let ys = places p b n t ∷ xs in
      let f = cut code (p + 1) (steps_size b) (steps_code starts ys (p + 1) b) (parts_code starts l n ++ (parts_code starts l t ++ on l (jump_if p) ∷ [])) (steps_long starts ys (p + 1) b) h.1 in
      let g = cut code (p + 1 + steps_size b) (parts_size n) (parts_code starts l n) (parts_code starts l t ++ on l (jump_if p) ∷ []) (parts_long starts l n) f.1 in
      let k = cut code (p + 1 + steps_size b + parts_size n) (parts_size t) (parts_code starts l t) (on l (jump_if p) ∷ []) (parts_long starts l t) g.1 in
      record { count = h.0; body = f.0; next = g.0; test = k.0; last = k.1.0 }
