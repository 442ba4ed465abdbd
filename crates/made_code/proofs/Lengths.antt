-- Made code has a height at each of its places, and at no other.
use Rattle.std.proofs.Common.{◌≡◌, ℕ, ◌+◌, ◌-◌, List, [], ◌∷◌, ◌++◌, length, refl, arith, length-append}
use Rattle.walk_theory.specs.Syntax.{Parts, end_parts, value, act, enter, either, Form, simple, choose, loop, around, exit, cycle, return, Branches, otherwise, branch, Steps, stop, also}
use Rattle.walk_theory.specs.Code.{on, go_back}
use Rattle.walk_theory.specs.Made.{parts_size, steps_size, form_size, branches_size, steps_code, bodies_code, start_of, program_code}
use Rattle.walk_theory.proofs.Places.{steps_long}
use Rattle.code_heights.specs.MadeHeights.{after, parts_heights, steps_heights, form_heights, branches_heights, bodies_heights, program_heights}

module _ {A : Type 0} (tested : ℕ) (takes leaves : A → ℕ) where
  abbrev hp : ℕ → Parts A → List ℕ
  hp = parts_heights tested takes leaves

  parts_many : (h : ℕ) (q : Parts A) → length (hp h q) ≡ parts_size q
  parts_many h end_parts = refl
  parts_many h (value p q) = (let a = parts_many h p in let b = parts_many (after tested takes leaves h p) q in let c = length-append (hp h p) (hp (after tested takes leaves h p) q) in omega arith)
  parts_many h (act x q) = (let a = parts_many ((h - takes x) + leaves x) q in omega arith)
  parts_many h (enter k q) = (let a = parts_many h q in omega arith)
  parts_many h (either p r q) =
      let m : ℕ = after tested takes leaves (h - tested) p in
      let a = parts_many (h - tested) p in
      let b = parts_many (h - tested) r in
      let c = parts_many m q in
      let u = length-append (hp (h - tested) r) (hp m q) in
      let w = length-append (hp (h - tested) p) (m ∷ (hp (h - tested) r ++ hp m q)) in
      omega arith

  mutual
    steps_many : (s : Steps A) → length (steps_heights tested takes leaves s) ≡ steps_size s
    steps_many stop = refl
    steps_many (also l f rest) = (let a = form_many f in let b = steps_many rest in let c = length-append (form_heights tested takes leaves f) (steps_heights tested takes leaves rest) in omega arith)

    form_many : (f : Form A) → length (form_heights tested takes leaves f) ≡ form_size f
    form_many (simple q) = parts_many 0 q
    form_many (choose q bs) = (let a = parts_many 0 q in let b = branches_many bs in let c = length-append (hp 0 q) (branches_heights tested takes leaves bs) in omega arith)
    form_many (loop s n t b) =
        let a = parts_many 0 s in
        let c = parts_many 0 n in
        let d = parts_many 0 t in
        let e = steps_many b in
        let u = length-append (hp 0 t) (tested ∷ []) in
        let v = length-append (hp 0 n) (hp 0 t ++ tested ∷ []) in
        let w = length-append (steps_heights tested takes leaves b) (hp 0 n ++ (hp 0 t ++ tested ∷ [])) in
        let x = length-append (hp 0 s) (0 ∷ (0 ∷ (steps_heights tested takes leaves b ++ (hp 0 n ++ (hp 0 t ++ tested ∷ []))))) in
        omega arith
    form_many (around q b m r) =
        let a = parts_many 0 q in
        let c = parts_many 0 r in
        let e = steps_many b in
        let w = length-append (steps_heights tested takes leaves b) (0 ∷ hp 0 r) in
        let x = length-append (hp 0 q) (steps_heights tested takes leaves b ++ (0 ∷ hp 0 r)) in
        omega arith
    form_many (exit n) = refl
    form_many (cycle n) = refl
    form_many return = refl

    branches_many : (bs : Branches A) → length (branches_heights tested takes leaves bs) ≡ branches_size bs
    branches_many (otherwise b) = steps_many b
    branches_many (branch l q b rest) =
        let a = parts_many 0 q in
        let c = branches_many rest in
        let e = steps_many b in
        let w = length-append (steps_heights tested takes leaves b) (0 ∷ branches_heights tested takes leaves rest) in
        let x = length-append (hp 0 q) (tested ∷ (steps_heights tested takes leaves b ++ (0 ∷ branches_heights tested takes leaves rest))) in
        omega arith

  bodies_many : (starts : ℕ → ℕ) (l p : ℕ) (bs : List (Steps A)) → length (bodies_heights tested takes leaves bs) ≡ length (bodies_code starts l p bs)
  bodies_many starts l p [] = refl
  bodies_many starts l p (b ∷ bs) =
      let a = steps_many b in
      let c = steps_long starts [] p b in
      let e = bodies_many starts l (p + steps_size b + 1) bs in
      let w = length-append (steps_heights tested takes leaves b) (0 ∷ bodies_heights tested takes leaves bs) in
      let x = length-append (steps_code starts [] p b) (on l go_back ∷ bodies_code starts l (p + steps_size b + 1) bs) in
      omega arith

  pub program_many : (last : A) (l : ℕ) (bs : List (Steps A)) → length (program_heights tested takes leaves bs) ≡ length (program_code last l bs)
  program_many last l bs = (let a = bodies_many (start_of 4 bs) l 4 bs in omega arith)
