-- The same tokens under another limit and at other levels.
use Rattle.std.proofs.Common.{◌≡◌, ℕ, zero, suc, ◌-◌, ◌≤◌, List, [], ◌∷◌, ◌++◌, refl, ap, sym, ◌∙◌, subst, arith, length}
use Rattle.std.proofs.lemmas.Bool.{le-ltb}
use Rattle.reader_theory.specs.Words.{Mark, bare, ◌⟫◌}
use Rattle.reader_theory.specs.Refusals.{Begins}
use Rattle.reader_theory.specs.Limits.{Goes}
use Rattle.reader_theory.specs.Levels.{word, mark, ShallowFor, Moved}
use Rattle.reader_theory.proofs.Marks.{bare_append, bare_length, cut}
use Rattle.reader_theory.proofs.Levels.{shallow_less, shallow_parts, shallow_fronts}

module _ {T : Type 0} where
  pub moved_word : (limit level also here n : ℕ) (x : T) (w : List (Mark T)) → word limit level x w → (1 ≤ n → here ≤ also) → Moved (word also here x) n w
  moved_word limit level also here n x w e l = record { moved = mark also here x ∷ []; is_word = refl; same = ap bare (sym e); shallow = by_size n l }
    where
      by_size : (n : ℕ) → (1 ≤ n → here ≤ also) → ShallowFor n (mark also here x ∷ [])
      by_size zero l = tt
      by_size (suc zero) l = (le-ltb also here (l (omega arith)), tt)
      by_size (suc (suc n)) l = (le-ltb also here (l (omega arith)), tt)

  pub moved_none : (n : ℕ) (w : List (Mark T)) → w ≡ [] → Moved (λ v. v ≡ []) n w
  moved_none zero w e = record { moved = []; is_word = refl; same = ap bare (sym e); shallow = tt }
  moved_none (suc n) w e = record { moved = []; is_word = refl; same = ap bare (sym e); shallow = tt }

  pub moved_parts : (Q R : List (Mark T) → Type 0) (n m : ℕ) (w u v : List (Mark T)) → w ≡ u ++ v → Moved Q n u → Moved R m v → n - length u ≤ m → Moved (Q ⟫ R) n w
  moved_parts Q R n m w u v split q r l = record {
    moved = q.moved ++ r.moved;
    is_word = (q.moved, r.moved, q.is_word, r.is_word, refl);
    same = bare_append q.moved r.moved ∙ (ap (λ z. z ++ bare r.moved) q.same ∙ (ap (λ z. bare u ++ z) r.same ∙ (sym (bare_append u v) ∙ ap bare (sym split))));
    shallow = shallow_parts n q.moved r.moved q.shallow (shallow_less m (n - length q.moved) r.moved (let i = sym (bare_length q.moved) ∙ (ap length q.same ∙ bare_length u) in omega arith) r.shallow);
  }

-- what goes on in a word goes on in one that is moved to where its levels are in reach
module _ {T A : Type 0} (L M : A → List (Mark T) → Type 0) (ts : List T) where
  pub moved_begins : (n : ℕ) → ((a : A) (w : List (Mark T)) → L a w → Moved (M a) n w) → length ts ≤ n → Goes L ts → Begins M ts
  moved_begins n move l (a, w, v, h, e) =
      let q = move a (w ++ v) h in
      let c = cut q.moved ts (bare v) (q.same ∙ (bare_append w v ∙ ap (λ z. z ++ bare v) (sym e))) in (
        a,
        c.one,
        c.two,
        subst (M a) c.joins q.is_word,
        shallow_fronts n c.one c.two (let i = sym (bare_length c.one) ∙ ap length c.is_front in omega arith) (subst (ShallowFor n) c.joins q.shallow),
        sym c.is_front,
      )

  pub moved_goes : ((a : A) (w : List (Mark T)) → M a w → Moved (L a) 0 w) → Begins M ts → Goes L ts
  moved_goes move (a, w, v, h, s, e) =
      let q = move a (w ++ v) h in
      let c = cut q.moved ts (bare v) (q.same ∙ (bare_append w v ∙ ap (λ z. z ++ bare v) (sym e))) in
      (a, c.one, c.two, subst (L a) c.joins q.is_word, sym c.is_front)
