-- Made code has the heights that its program says.
use Rattle.std.proofs.Common.{◌≡◌, ℕ, zero, suc, ◌+◌, ◌-◌, Bool, true, List, [], ◌∷◌, ◌++◌, length, refl, sym, ◌∙◌, subst, arith, length-append, append_assoc}
use Rattle.std.specs.Prelude.{Option, Some, slice_get}
use Rattle.walk_theory.specs.Syntax.{Parts, end_parts, value, act, enter, either, Form, simple, choose, loop, around, exit, cycle, return, Branches, otherwise, branch, Steps, stop, also}
use Rattle.walk_theory.specs.Code.{Instr, Line, on}
use Rattle.walk_theory.specs.Made.{parts_size, steps_size, form_size, branches_size, Places, places, exit_instr, cycle_instr, parts_code, steps_code, form_code, branches_code, start_of, bodies_code, program_code}
use Rattle.walk_theory.proofs.Places.{parts_long, steps_long, form_long}
use Rattle.code_heights.specs.Heights.{Level, IsLevel}
use Rattle.code_heights.specs.MadeHeights.{after, Balanced, Leaves, IsEven, IsEvenForm, AreEven, AllEven, parts_heights, steps_heights, form_heights, branches_heights, bodies_heights, program_heights}

slice_get_mid : {X : Type 0} (front : List X) (x : X) (xs : List X) → slice_get (front ++ x ∷ xs) (length front) ≡ Some x
slice_get_mid [] x xs = refl
slice_get_mid (y ∷ ys) x xs = slice_get_mid ys x xs

module _ {A : Type 0} (tested : ℕ) (takes leaves : A → ℕ) (ends : A → Bool) where
  abbrev hp : ℕ → Parts A → List ℕ
  hp = parts_heights tested takes leaves

  abbrev af : ℕ → Parts A → ℕ
  af = after tested takes leaves

  -- as many heights as steps
  parts_as_long : (h : ℕ) (q : Parts A) → length (hp h q) ≡ parts_size q
  parts_as_long h end_parts = refl
  parts_as_long h (value a b) = length-append (hp h a) (hp (af h a) b) ∙ (let x = parts_as_long h a in let y = parts_as_long (af h a) b in omega arith)
  parts_as_long h (act a q) = let x = parts_as_long ((h - takes a) + leaves a) q in omega arith
  parts_as_long h (enter k q) = let x = parts_as_long h q in omega arith
  parts_as_long h (either a b q) =
      let x = parts_as_long (h - tested) a in let y = parts_as_long (h - tested) b in let z = parts_as_long (af (h - tested) a) q in
      let u = length-append (hp (h - tested) b) (hp (af (h - tested) a) q) in
      let w = length-append (hp (h - tested) a) (af (h - tested) a ∷ (hp (h - tested) b ++ hp (af (h - tested) a) q)) in
      omega arith

  mutual
    steps_as_long : (s : Steps A) → length (steps_heights tested takes leaves s) ≡ steps_size s
    steps_as_long stop = refl
    steps_as_long (also l f rest) =
        let x = form_as_long f in let y = steps_as_long rest in
        let u = length-append (form_heights tested takes leaves f) (steps_heights tested takes leaves rest) in
        omega arith

    form_as_long : (f : Form A) → length (form_heights tested takes leaves f) ≡ form_size f
    form_as_long (simple q) = parts_as_long 0 q
    form_as_long (choose q bs) = length-append (hp 0 q) (branches_heights tested takes leaves bs) ∙ (let x = parts_as_long 0 q in let y = branches_as_long bs in omega arith)
    form_as_long (loop s n t b) =
        let x = parts_as_long 0 s in let y = steps_as_long b in let z = parts_as_long 0 n in let w = parts_as_long 0 t in
        let i = length-append (hp 0 t) (tested ∷ []) in
        let j = length-append (hp 0 n) (hp 0 t ++ tested ∷ []) in
        let k = length-append (steps_heights tested takes leaves b) (hp 0 n ++ (hp 0 t ++ tested ∷ [])) in
        let m = length-append (hp 0 s) (0 ∷ (0 ∷ (steps_heights tested takes leaves b ++ (hp 0 n ++ (hp 0 t ++ tested ∷ []))))) in
        omega arith
    form_as_long (around q b m r) =
        let x = parts_as_long 0 q in let y = steps_as_long b in let z = parts_as_long 0 r in
        let j = length-append (steps_heights tested takes leaves b) (0 ∷ hp 0 r) in
        let k = length-append (hp 0 q) (steps_heights tested takes leaves b ++ (0 ∷ hp 0 r)) in
        omega arith
    form_as_long (exit n) = refl
    form_as_long (cycle n) = refl
    form_as_long return = refl

    branches_as_long : (bs : Branches A) → length (branches_heights tested takes leaves bs) ≡ branches_size bs
    branches_as_long (otherwise b) = steps_as_long b
    branches_as_long (branch l q a rest) =
        let x = parts_as_long 0 q in let y = steps_as_long a in let z = branches_as_long rest in
        let j = length-append (steps_heights tested takes leaves a) (0 ∷ branches_heights tested takes leaves rest) in
        let k = length-append (hp 0 q) (tested ∷ (steps_heights tested takes leaves a ++ (0 ∷ branches_heights tested takes leaves rest))) in
        omega arith

  module _ (H : ℕ → Option ℕ) (code : List (Line A)) where
    abbrev Here : ℕ → ℕ → Type 0
    Here p h = H p ≡ Some h

    -- these heights stand from p on
    abbrev High : ℕ → List ℕ → Type 0
    High p [] = Unit {0}
    High p (h ∷ hs) = Here p h × High (p + 1) hs

    -- these steps from p on are level at these heights
    abbrev Levels : ℕ → List (Line A) → List ℕ → Type 0
    Levels p [] hs = Unit {0}
    Levels p (i ∷ is) [] = ⊥
    Levels p (i ∷ is) (h ∷ hs) = Level tested takes leaves ends code H p h i.instr × Levels (p + 1) is hs

    high_cut : (p n : ℕ) (xs ys : List ℕ) → length xs ≡ n → High p (xs ++ ys) → High p xs × High (p + n) ys
    high_cut p n [] ys e h = (tt, (let z : p ≡ p + n = omega (arith, e) in subst (λ k. High k ys) z h))
    high_cut p zero (x ∷ xs) ys e h = absurd (cc)
    high_cut p (suc n) (x ∷ xs) ys e h =
        let r = high_cut (p + 1) n xs ys (let e' = e in omega arith) h.1 in
        ((h.0, r.0), (let z : p + 1 + n ≡ p + suc n = omega arith in subst (λ k. High k ys) z r.1))

    join : (p n : ℕ) (is js : List (Line A)) (hs gs : List ℕ) → length is ≡ n → length hs ≡ n → Levels p is hs → Levels (p + n) js gs → Levels p (is ++ js) (hs ++ gs)
    join p n [] js [] gs a b f g = (let z : p + n ≡ p = omega (arith, a) in subst (λ k. Levels k js gs) z g)
    join p n [] js (h ∷ hs) gs a b f g = absurd (let x = a in let y = b in omega arith)
    join p n (i ∷ is) js [] gs a b f g = absurd f
    join p zero (i ∷ is) js (h ∷ hs) gs a b f g = absurd (cc)
    join p (suc n) (i ∷ is) js (h ∷ hs) gs a b f g = (f.0, join (p + 1) n is js hs gs (let x = a in omega arith) (let x = b in omega arith) f.1 (let z : p + suc n ≡ p + 1 + n = omega arith in subst (λ k. Levels k js gs) z g))

    at : (p q h : ℕ) → p ≡ q → Here p h → Here q h
    at p q h e k = subst (λ x. Here x h) e k

    block_here : (p : ℕ) (s : Steps A) → High p (steps_heights tested takes leaves s) → Here (p + steps_size s) 0 → Here p 0
    block_here p stop g o = at (p + 0) p 0 (omega arith) o
    block_here p (also l f rest) g o = g.0

    -- each procedure starts with nothing on the stack
    start_here : (p k : ℕ) (bs : List (Steps A)) → High p (bodies_heights tested takes leaves bs) → Here (start_of p bs k) 0
    start_here p k [] g = g.0
    start_here p zero (s ∷ bs) g =
        let c = high_cut p (steps_size s) (steps_heights tested takes leaves s) (0 ∷ bodies_heights tested takes leaves bs) (steps_as_long s) g in
        block_here p s c.0 c.1.0
    start_here p (suc k) (s ∷ bs) g =
        let c = high_cut p (steps_size s) (steps_heights tested takes leaves s) (0 ∷ bodies_heights tested takes leaves bs) (steps_as_long s) g in
        start_here (p + steps_size s + 1) k bs c.1.1

    level_at : (is : List (Line A)) (hs : List ℕ) (p k l h : ℕ) (i : Instr A) → Levels p is hs → High p hs → slice_get is k ≡ Some (on l i) → Here (p + k) h → Level tested takes leaves ends code H (p + k) h i
    level_at [] hs p k l h i f g e o = absurd (cc)
    level_at (x ∷ is) [] p k l h i f g e o = absurd f
    level_at (x ∷ is) (y ∷ hs) p zero l h i f g e o =
        let a : x.instr ≡ i = cc in
        let z : p + 0 ≡ p = omega arith in
        let b : y ≡ h = (let u = sym g.0 ∙ at (p + 0) p h z o in cc) in
        subst (λ k. Level tested takes leaves ends code H k h i) (sym z) (subst (λ j. Level tested takes leaves ends code H p h j) a (subst (λ v. Level tested takes leaves ends code H p v x.instr) b f.0))
    level_at (x ∷ is) (y ∷ hs) p (suc k) l h i f g e o =
        let z : p + 1 + k ≡ p + suc k = omega arith in
        subst (λ m. Level tested takes leaves ends code H m h i) z (level_at is hs (p + 1) k l h i f.1 g.1 e (at (p + suc k) (p + 1 + k) h (sym z) o))

    module _ (starts : ℕ → ℕ) (started : (k : ℕ) → Here (starts k) 0) where
      parts_level : (l p h : ℕ) (q : Parts A) → Balanced tested takes leaves h q → High p (hp h q) → Here (p + parts_size q) (af h q) → Here p h × Levels p (parts_code starts l q) (hp h q)
      parts_level l p h end_parts b g o = (at (p + 0) p h (omega arith) o, tt)
      parts_level l p h (value x y) b g o =
          let c = high_cut p (parts_size x) (hp h x) (hp (af h x) y) (parts_as_long h x) g in
          let e : p + (parts_size x + parts_size y) ≡ p + parts_size x + parts_size y = omega arith in
          let v = parts_level l (p + parts_size x) (af h x) y b.1 c.1 (at (p + (parts_size x + parts_size y)) _ _ e o) in
          let u = parts_level l p h x b.0 c.0 v.0 in
          (u.0, join p (parts_size x) (parts_code starts l x) (parts_code starts l y) (hp h x) (hp (af h x) y) (parts_long starts l x) (parts_as_long h x) u.1 v.1)
      parts_level l p h (act a q) b g o =
          let e : p + (1 + parts_size q) ≡ p + 1 + parts_size q = omega arith in
          let v = parts_level l (p + 1) ((h - takes a) + leaves a) q b.1 g.1 (at (p + (1 + parts_size q)) _ _ e o) in
          let t = b.0 in
          (g.0, ((b.0, λ n. ((h - takes a) + leaves a, v.0, omega arith)), v.1))
      parts_level l p h (enter k q) b g o =
          let e : p + (1 + parts_size q) ≡ p + 1 + parts_size q = omega arith in
          let v = parts_level l (p + 1) h q b g.1 (at (p + (1 + parts_size q)) _ _ e o) in
          (g.0, ((started k, v.0), v.1))
      parts_level l p h (either x y q) b g o =
          let sx = parts_size x in let sy = parts_size y in let sq = parts_size q in
          let c = high_cut (p + 1) (parts_size x) (hp (h - tested) x) (af (h - tested) x ∷ (hp (h - tested) y ++ hp (af (h - tested) x) q)) (parts_as_long (h - tested) x) g.1 in
          let d = high_cut (p + 1 + parts_size x + 1) (parts_size y) (hp (h - tested) y) (hp (af (h - tested) x) q) (parts_as_long (h - tested) y) c.1.1 in
          let e : p + (1 + parts_size x + 1 + parts_size y + parts_size q) ≡ p + 1 + parts_size x + 1 + parts_size y + parts_size q = omega arith in
          let vq = parts_level l (p + 1 + parts_size x + 1 + parts_size y) (af (h - tested) x) q b.4 d.1 (at _ _ _ e o) in
          let vy = parts_level l (p + 1 + parts_size x + 1) (h - tested) y b.2 d.0 (subst (Here (p + 1 + parts_size x + 1 + parts_size y)) (sym b.3) vq.0) in
          let vx = parts_level l (p + 1) (h - tested) x b.1 c.0 c.1.0 in
          let one = b.0 in
          let to_y : p + 1 + parts_size x + 1 ≡ p + 1 + (parts_size x + 1) = omega arith in (
            g.0,
            (
              (h - tested, omega arith, at _ _ _ to_y vy.0, vx.0),
              join (p + 1) (parts_size x) (parts_code starts l x) _ (hp (h - tested) x) _ (parts_long starts l x) (parts_as_long (h - tested) x) vx.1
                  (vq.0, join (p + 1 + parts_size x + 1) (parts_size y) (parts_code starts l y) (parts_code starts l q) (hp (h - tested) y) (hp (af (h - tested) x) q) (parts_long starts l y) (parts_as_long (h - tested) y) vy.1 vq.1),
            ),
          )

      -- parts that leave n values on an empty stack
      leaves_level : (l p n : ℕ) (q : Parts A) → Leaves tested takes leaves n q → High p (hp 0 q) → Here (p + parts_size q) n → Here p 0 × Levels p (parts_code starts l q) (hp 0 q)
      leaves_level l p n q b g o = parts_level l p 0 q b.0 g (subst (Here (p + parts_size q)) (sym b.1) o)

      -- the loops around go on with nothing on the stack
      abbrev Empty : List Places → Type 0
      Empty [] = Unit {0}
      Empty (x ∷ xs) = Here x.next 0 × Here x.exit 0 × Empty xs

      exit_level : (p n : ℕ) (xs : List Places) → Empty xs → Level tested takes leaves ends code H p 0 (exit_instr xs n)
      exit_level p n [] e = refl
      exit_level p zero (x ∷ xs) e = e.1
      exit_level p (suc n) (x ∷ xs) e = exit_level p n xs e.2

      cycle_level : (p n : ℕ) (xs : List Places) → Empty xs → Level tested takes leaves ends code H p 0 (cycle_instr xs n)
      cycle_level p n [] e = refl
      cycle_level p zero (x ∷ xs) e = e.0
      cycle_level p (suc n) (x ∷ xs) e = cycle_level p n xs e.2

      abbrev hs : Steps A → List ℕ
      hs = steps_heights tested takes leaves

      abbrev hf : Form A → List ℕ
      hf = form_heights tested takes leaves

      abbrev hb : Branches A → List ℕ
      hb = branches_heights tested takes leaves

      mutual
        steps_level : (xs : List Places) (p : ℕ) (s : Steps A) → IsEven tested takes leaves s → Empty xs → High p (hs s) → Here (p + steps_size s) 0 → Here p 0 × Levels p (steps_code starts xs p s) (hs s)
        steps_level xs p stop b y g o = (at (p + 0) p 0 (omega arith) o, tt)
        steps_level xs p (also l f rest) b y g o =
            let c = high_cut (p + 1) (form_size f) (hf f) (hs rest) (form_as_long f) g.1 in
            let e : p + (1 + form_size f + steps_size rest) ≡ p + 1 + form_size f + steps_size rest = omega arith in
            let r = steps_level xs (p + 1 + form_size f) rest b.1 y c.1 (at _ _ _ e o) in
            let u = form_level xs (p + 1) l f b.0 y c.0 r.0 in
            (g.0, (u.0, join (p + 1) (form_size f) (form_code starts xs (p + 1) l f) (steps_code starts xs (p + 1 + form_size f) rest) (hf f) (hs rest) (form_long starts xs (p + 1) l f) (form_as_long f) u.1 r.1))

        form_level : (xs : List Places) (p l : ℕ) (f : Form A) → IsEvenForm tested takes leaves f → Empty xs → High p (hf f) → Here (p + form_size f) 0 → Here p 0 × Levels p (form_code starts xs p l f) (hf f)
        form_level xs p l (simple q) b y g o = leaves_level l p 0 q b g o
        form_level xs p l (choose q bs) b y g o =
            let c = high_cut p (parts_size q) (hp 0 q) (hb bs) (parts_as_long 0 q) g in
            let e : p + (parts_size q + branches_size bs) ≡ p + parts_size q + branches_size bs = omega arith in
            let r = branches_level xs (p + parts_size q) bs b.1 y c.1 (at _ _ _ e o) in
            let u = leaves_level l p 0 q b.0 c.0 r.0 in
            (u.0, join p (parts_size q) (parts_code starts l q) (branches_code starts xs (p + parts_size q) bs) (hp 0 q) (hb bs) (parts_long starts l q) (parts_as_long 0 q) u.1 r.1)
        form_level xs p l (loop s n t a) b y g o =
            let first = p + parts_size s + 1 in
            let c = high_cut p (parts_size s) (hp 0 s) (0 ∷ (0 ∷ (hs a ++ (hp 0 n ++ (hp 0 t ++ tested ∷ []))))) (parts_as_long 0 s) g in
            let d = high_cut (first + 1) (steps_size a) (hs a) (hp 0 n ++ (hp 0 t ++ tested ∷ [])) (steps_as_long a) c.1.1.1 in
            let f = high_cut (first + 1 + steps_size a) (parts_size n) (hp 0 n) (hp 0 t ++ tested ∷ []) (parts_as_long 0 n) d.1 in
            let k = high_cut (first + 1 + steps_size a + parts_size n) (parts_size t) (hp 0 t) (tested ∷ []) (parts_as_long 0 t) f.1 in
            let e : p + (parts_size s + 1 + (1 + steps_size a + parts_size n + parts_size t + 1)) ≡ first + 1 + steps_size a + parts_size n + parts_size t + 1 = omega arith in
            let out = at _ _ _ e o in
            let vt = leaves_level l (first + 1 + steps_size a + parts_size n) tested t b.2 k.0 k.1.0 in
            let vn = leaves_level l (first + 1 + steps_size a) 0 n b.1 f.0 vt.0 in
            let va = steps_level (places first a n t ∷ xs) (first + 1) a b.3 (vn.0, out, y) d.0 vn.0 in
            let u = leaves_level l p 0 s b.0 c.0 c.1.0 in
            let to_t : first + 1 + steps_size a + parts_size n ≡ p + parts_size s + 1 + 1 + steps_size a + parts_size n = omega arith in (
              u.0,
              join p (parts_size s) (parts_code starts l s) _ (hp 0 s) _ (parts_long starts l s) (parts_as_long 0 s) u.1 (
                at _ _ _ to_t vt.0,
                (
                  va.0,
                  join (first + 1) (steps_size a) (steps_code starts (places first a n t ∷ xs) (first + 1) a) _ (hs a) _ (steps_long starts (places first a n t ∷ xs) (first + 1) a) (steps_as_long a) va.1
                      (join (first + 1 + steps_size a) (parts_size n) (parts_code starts l n) _ (hp 0 n) _ (parts_long starts l n) (parts_as_long 0 n) vn.1
                      (join (first + 1 + steps_size a + parts_size n) (parts_size t) (parts_code starts l t) _ (hp 0 t) _ (parts_long starts l t) (parts_as_long 0 t) vt.1
                      ((0, omega arith, c.1.1.0, out), tt))),
                ),
              ),
            )
        form_level xs p l (around q a m r) b y g o =
            let c = high_cut p (parts_size q) (hp 0 q) (hs a ++ (0 ∷ hp 0 r)) (parts_as_long 0 q) g in
            let d = high_cut (p + parts_size q) (steps_size a) (hs a) (0 ∷ hp 0 r) (steps_as_long a) c.1 in
            let e : p + (parts_size q + steps_size a + 1 + parts_size r) ≡ p + parts_size q + steps_size a + 1 + parts_size r = omega arith in
            let vr = leaves_level m (p + parts_size q + steps_size a + 1) 0 r b.2 d.1.1 (at _ _ _ e o) in
            let va = steps_level xs (p + parts_size q) a b.1 y d.0 d.1.0 in
            let u = leaves_level l p 0 q b.0 c.0 va.0 in (
              u.0,
              join p (parts_size q) (parts_code starts l q) _ (hp 0 q) _ (parts_long starts l q) (parts_as_long 0 q) u.1
                  (join (p + parts_size q) (steps_size a) (steps_code starts xs (p + parts_size q) a) _ (hs a) _ (steps_long starts xs (p + parts_size q) a) (steps_as_long a) va.1
                  (vr.0, vr.1)),
            )
        form_level xs p l (exit n) b y g o = (g.0, (exit_level p n xs y, tt))
        form_level xs p l (cycle n) b y g o = (g.0, (cycle_level p n xs y, tt))
        form_level xs p l return b y g o = (g.0, (refl, tt))

        branches_level : (xs : List Places) (p : ℕ) (bs : Branches A) → AreEven tested takes leaves bs → Empty xs → High p (hb bs) → Here (p + branches_size bs) 0 → Here p 0 × Levels p (branches_code starts xs p bs) (hb bs)
        branches_level xs p (otherwise a) b y g o = steps_level xs p a b y g o
        branches_level xs p (branch l q a rest) b y g o =
            let other = p + parts_size q + 1 + steps_size a + 1 in
            let c = high_cut p (parts_size q) (hp 0 q) (tested ∷ (hs a ++ (0 ∷ hb rest))) (parts_as_long 0 q) g in
            let d = high_cut (p + parts_size q + 1) (steps_size a) (hs a) (0 ∷ hb rest) (steps_as_long a) c.1.1 in
            let e : p + (parts_size q + 1 + steps_size a + 1 + branches_size rest) ≡ other + branches_size rest = omega arith in
            let out = at _ _ _ e o in
            let vr = branches_level xs other rest b.2 y d.1.1 out in
            let va = steps_level xs (p + parts_size q + 1) a b.1 y d.0 d.1.0 in
            let u = leaves_level l p tested q b.0 c.0 c.1.0 in (
              u.0,
              join p (parts_size q) (parts_code starts l q) _ (hp 0 q) _ (parts_long starts l q) (parts_as_long 0 q) u.1 (
                (0, omega arith, vr.0, va.0),
                join (p + parts_size q + 1) (steps_size a) (steps_code starts xs (p + parts_size q + 1) a) _ (hs a) _ (steps_long starts xs (p + parts_size q + 1) a) (steps_as_long a) va.1
                    (out, vr.1),
              ),
            )

      bodies_level : (l p : ℕ) (bs : List (Steps A)) → AllEven tested takes leaves bs → High p (bodies_heights tested takes leaves bs) → Levels p (bodies_code starts l p bs) (bodies_heights tested takes leaves bs)
      bodies_level l p [] b g = (refl, tt)
      bodies_level l p (s ∷ bs) b g =
          let c = high_cut p (steps_size s) (hs s) (0 ∷ bodies_heights tested takes leaves bs) (steps_as_long s) g in
          let v = steps_level [] p s b.0 tt c.0 c.1.0 in
          join p (steps_size s) (steps_code starts [] p s) _ (hs s) _ (steps_long starts [] p s) (steps_as_long s) v.1 (refl, bodies_level l (p + steps_size s + 1) bs b.1 c.1.1)

high_all : {A : Type 0} (code : List (Line A)) (front back : List ℕ) → High {A = A} 0 (λ x. 0) (λ x. 0) (λ x. true) (λ p. slice_get (front ++ back) p) code (length front) back
high_all code front [] = tt
high_all code front (x ∷ xs) =
    let e : front ++ x ∷ xs ≡ (front ++ x ∷ []) ++ xs = sym (append_assoc front (x ∷ []) xs) in
    let l : length (front ++ x ∷ []) ≡ length front + 1 = length-append front (x ∷ []) in (
      slice_get_mid front x xs,
      subst (λ zs. High {A = _} 0 (λ x. 0) (λ x. 0) (λ x. true) (λ p. slice_get zs p) code (length front + 1) xs) (sym e)
          (subst (λ n. High {A = _} 0 (λ x. 0) (λ x. 0) (λ x. true) (λ p. slice_get ((front ++ x ∷ []) ++ xs) p) code n xs) l (high_all code (front ++ x ∷ []) xs)),
    )

-- Made code has the heights of its program: no step of it takes more than stands there, and all ways to a place find as
-- many values there.
pub made_is_level : {A : Type 0} (tested : ℕ) (takes leaves : A → ℕ) (ends : A → Bool) (last : A) (l : ℕ) (bs : List (Steps A)) → takes last ≡ 0 → ends last ≡ true → AllEven tested takes leaves bs → IsLevel tested takes leaves ends (program_code last l bs) (λ p. slice_get (program_heights tested takes leaves bs) p)
made_is_level tested takes leaves ends last l bs t e b p h m i f o =
    let H = λ (p : ℕ). slice_get (program_heights tested takes leaves bs) p in
    let code = program_code last l bs in
    let g = high_all code [] (program_heights tested takes leaves bs) in
    let s = λ (k : ℕ). start_here tested takes leaves ends H code 4 k bs g.1.1.1.1 in
    let v = bodies_level tested takes leaves ends H code (start_of 4 bs) s l 4 bs b g.1.1.1.1 in
    let z : 0 + p ≡ p = omega arith in
    let levels : Levels tested takes leaves ends H code 0 code (program_heights tested takes leaves bs) = ((s 0, g.1.0), (g.1.1.0, ((omega arith, λ n. absurd (let q = sym e ∙ n in cc)), (refl, v)))) in
    subst (λ k. Level tested takes leaves ends code H k h i) z (level_at tested takes leaves ends H code code (program_heights tested takes leaves bs) 0 p m h i levels g f (subst (λ k. H k ≡ Some h) (sym z) o))
