-- All images' passes are back, and the objects come out.
use Rattle.std.proofs.Common.{◌≡◌, ℕ, zero, suc, ◌<◌, List, [], ◌∷◌, ◌++◌, inl, inr, length, map, get_or, refl, ap, sym, ◌∙◌, subst, arith}
use Rattle.std.proofs.lemmas.List.{length-append, length-map, append-nil}
use mathlib.Core.Option.{some-injective, some-ne-none}
use Rattle.trace_theory.specs.Entries.{Each}
use Rattle.caf_events.specs.declared.object.Object as objects
use Rattle.turn_gate.specs.Gates.{At, NotIn, AreAmong}
use Rattle.turn_gate.specs.Known.{Known}
use Rattle.turn_gate.specs.Passes.{Opened, IsPassOf, kept_known}
use Rattle.turn_gate.specs.declared.view.Kept.{Kept}
use Rattle.turn_gate.specs.Closings.{Shutting, kept_image}
use Rattle.image_gate.specs.declared.passes.Passes.{Passes}
use Rattle.image_gate.specs.Fabrics.{AreOf, images_to}
use Rattle.image_gate.specs.Closings.{closing_of, with_back, column, IsTaker, HaveBack, IsWhole, EndsWith, AllEnd}
use Rattle.image_gate.proofs.Rows.{found, is_there, at_end}
use Rattle.image_gate.proofs.Fresh.{same_lists, at_mapped, mapped_at}
use Rattle.image_gate.proofs.Taking.{index_at}
use Rattle.image_gate.proofs.Closings.{one_more}

each_from : {A : Type 0} (P : A → Type 0) (xs : List A) → ((k : ℕ) (x : A) → At xs k x → P x) → Each P xs
each_from P [] f = tt
each_from P (x ∷ xs) f = (f 0 x refl, each_from P xs (λ k y e. f (suc k) y e))

so_many : (n : ℕ) → length (images_to n) ≡ n
so_many zero = refl
so_many (suc n) = length-append (images_to n) (suc n ∷ []) ∙ (let e = so_many n in omega arith)

images_at : (n k x : ℕ) → At (images_to n) k x → x ≡ suc k
images_at zero k x e = absurd (some-ne-none x (sym e))
images_at (suc n) k x e = elim (at_end (images_to n) (suc n) x k e) [
  | inl t ↦ images_at n k x t
  | inr t ↦ sym t.1 ∙ ap (λ m. suc m) (sym (t.0 ∙ so_many n))
]

-- the images of a column of passes are all images, in order
whole_by : (f : Passes → Kept) (passes : List Passes) (n : ℕ) → length passes ≡ n → ((k : ℕ) (q : Passes) → At passes k q → kept_image (f q) ≡ suc k) → map kept_image (map f passes ++ []) ≡ images_to n
whole_by f passes n long each =
    ap (map kept_image) (append-nil (map f passes))
    ∙ same_lists (map kept_image (map f passes)) (images_to n) (length-map (map f passes) kept_image ∙ length-map passes f ∙ long ∙ sym (so_many n)) (λ k x y a b.
    let c = at_mapped kept_image (map f passes) k x a in
    let q = at_mapped f passes k c.0 c.1 in
    sym c.2 ∙ ap kept_image (sym q.2) ∙ each k q.0 q.1 ∙ sym (images_at n k y b))

-- what stands in a list is among its items
in_front : (x : ℕ) (front rest : List ℕ) → NotIn x (front ++ x ∷ rest) → ⊥
in_front x [] rest h = h.0 refl
in_front x (y ∷ front) rest h = in_front x front rest h.1

among : (front xs : List ℕ) → AreAmong xs (front ++ xs)
among front [] = tt
among front (x ∷ xs) = (in_front x front xs, subst (AreAmong xs) (one_more front x xs) (among (front ++ x ∷ []) xs))

all_among : (xs ys : List ℕ) → ys ≡ xs → AreAmong xs ys
all_among xs ys e = subst (AreAmong xs) (sym e) (among [] xs)

module _ {O B : Type 0} (board : Opened B) (gates : List (Opened O)) (n : ℕ) (passes : List Passes) (wide : length gates ≡ n) (long : length passes ≡ n)
    (rows : (k : ℕ) (p : Passes) → At passes k p → AreOf board gates (suc k) p.board p.memories.items) where
  abbrev pub b0 : Shutting B
  b0 = closing_of (images_to n) board

  abbrev pub s0 : List (Shutting O)
  s0 = map (closing_of (images_to n)) gates

  pub takers : Each (IsTaker b0 s0) passes
  takers = each_from (IsTaker b0 s0) passes (λ k p at.
      let r = rows k p at in
      let first = r.board_is.1 in record {
        at_board = (r.board_is.0, omega arith);
        memories = record {
          wide = r.wide ∙ sym (length-map gates (closing_of (images_to n)));
          each = λ j s q a b.
              let g = at_mapped (closing_of (images_to n)) gates j s a in
              let e = r.each j g.0 q g.1 b in
              let i = e.1 in
              subst (λ (z : Shutting O). IsPassOf z.gate q × (0 < q.image)) g.2 (e.0, omega arith);
        };
      })

  module _ (board' : Shutting B) (closings : List (Shutting O)) (h : HaveBack passes b0 s0 board' closings) where
    pub board_whole : IsWhole board'
    board_whole = subst IsWhole (sym h.board_is) (all_among (images_to n) _ (whole_by (λ q. kept_known q.board) passes n long (λ k q at. (rows k q at).board_is.1)))

    closing_at : (k : ℕ) (s : Shutting O) → At closings k s → (g : Opened O) × At gates k g × (s ≡ with_back (column k passes) (closing_of (images_to n) g))
    closing_at k s at =
        let w = h.wide in
        let c = is_there closings k s at in
        let s1 = found s0 k (omega arith) in
        let g = at_mapped (closing_of (images_to n)) gates k s1.0 s1.1 in
        (g.0, g.1, h.each k s1.0 s s1.1 at ∙ ap (with_back (column k passes)) (sym g.2))

    pub all_whole : Each IsWhole closings
    all_whole = each_from IsWhole closings (λ k s at.
        let c = closing_at k s at in
        subst IsWhole (sym c.2) (all_among (images_to n) _ (whole_by (λ (q : Passes). kept_known (get_or q.memories.items k q.board)) passes n long (λ j q a.
        let r = rows j q a in
        let w = r.wide in
        let m = is_there gates k c.0 c.1 in
        let p = found q.memories.items k (omega arith) in
        ap (λ (z : Known). z.image) (index_at q.memories.items k p.0 q.board p.1) ∙ (r.each k c.0 p.0 c.1 p.1).1))))

    end_at : (object : objects.Ghosts O) (ss : List (Shutting O)) (os : List O) (k : ℕ) (s : Shutting O) (o : O) → AllEnd object ss os → At ss k s → At os k o → EndsWith object s o
    end_at object [] os k s o h a b = absurd (some-ne-none s (sym a))
    end_at object (x ∷ ss) [] k s o h a b = absurd h
    end_at object (x ∷ ss) (y ∷ os) zero s o h a b = subst (λ (z : Shutting O × O). EndsWith object z.0 z.1) (λ i. (some-injective x s a i, some-injective y o b i)) h.0
    end_at object (x ∷ ss) (y ∷ os) (suc k) s o h a b = end_at object ss os k s o h.1 a b

    pub ended : (object : objects.Ghosts O) (os : List O) (k : ℕ) (g : Opened O) (o : O) → AllEnd object closings os → At gates k g → At os k o → EndsWith object (with_back (column k passes) (closing_of (images_to n) g)) o
    ended object os k g o all a b =
        let w = h.wide in
        let i = is_there s0 k (closing_of (images_to n) g) (mapped_at (closing_of (images_to n)) gates k g a) in
        let s = found closings k (omega arith) in
        subst (λ z. EndsWith object z o) (h.each k (closing_of (images_to n) g) s.0 (mapped_at (closing_of (images_to n)) gates k g a) s.1) (end_at object closings os k s.0 o all s.1 b)

pub so_many_end : {O : Type 0} → (object : objects.Ghosts O) (ss : List (Shutting O)) (os : List O) → AllEnd object ss os → length os ≡ length ss
so_many_end object [] [] h = refl
so_many_end object [] (y ∷ os) h = absurd h
so_many_end object (x ∷ ss) [] h = absurd h
so_many_end object (x ∷ ss) (y ∷ os) h = ap (λ n. suc n) (so_many_end object ss os h.1)
