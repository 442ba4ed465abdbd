-- One image's passes come back, gate by gate.
use Rattle.std.proofs.Common.{◌≡◌, ℕ, ◌<◌, List, [], ◌∷◌, ◌++◌, inl, inr, length, set, refl, ap, sym, ◌∙◌, subst, arith, length-set, append_assoc}
use Rattle.std.proofs.lemmas.List.{length-append, append-nil}
use mathlib.Core.Option.{some-injective}
use Rattle.atomic_table.proofs.Lists.{at_set, at_longer, at_last}
use Rattle.turn_gate.specs.Gates.{At}
use Rattle.turn_gate.specs.Known.{Known}
use Rattle.turn_gate.specs.Passes.{IsPassOf}
use Rattle.turn_gate.specs.Closings.{Shutting, took}
use Rattle.std.proofs.Common.{ℕ, zero, suc, get_or}
use mathlib.Core.Option.{some-ne-none}
use Rattle.trace_theory.specs.Entries.{Each}
use Rattle.turn_gate.specs.Passes.{kept_known}
use Rattle.turn_gate.proofs.Lists.{each_front}
use Rattle.image_gate.specs.declared.passes.Passes.{Passes}
use Rattle.caf_events.specs.declared.object.Object as objects
use Rattle.image_gate.specs.Closings.{AreTakers, RowBack, TakesRow, IsTaker, HaveBack, TakesAll, with_back, column, EndsWith, AllEnd}
use Rattle.image_gate.proofs.Rows.{found, is_there}

module _ {O : Type 0} where
  pub takes_none : (row : List Known) (closings : List (Shutting O)) → length row ≡ length closings → TakesRow row closings row closings
  takes_none row closings wide = record {
    rest = [];
    front = append-nil row;
    wide = refl;
    back = λ j s s' p le a b c. absurd (let n = is_there row j p c in omega arith);
    same = λ j s s' lt a b. some-injective s' s (sym b ∙ a);
  }

  -- one more pass comes back
  pub takes_more : (row left : List Known) (closings closings' : List (Shutting O)) (p : Known) (s : Shutting O) → TakesRow row closings (left ++ p ∷ []) closings' → At closings' (length left) s → TakesRow row closings left (set closings' (length left) (took s p))
  takes_more row left closings closings' p s t at = record {
    rest = p ∷ t.rest;
    front = sym (append_assoc left (p ∷ []) t.rest) ∙ t.front;
    wide = length-set closings' (length left) (took s p) ∙ t.wide;
    back = λ j s0 s1 q le a b c. elim (at_set closings' (length left) j (took s p) s1 b) [
      | inl e ↦
          let n = length-append left (p ∷ []) in
          let is : s ≡ s0 = t.same (length left) s0 s (omega arith) (subst (λ i. At closings i s0) e.0 a) at in
          let q_is : q ≡ p = some-injective q p (sym c ∙ subst (λ xs. At xs j p) t.front (at_longer (left ++ p ∷ []) t.rest j p (subst (λ i. At (left ++ p ∷ []) i p) (sym e.0) (at_last left p (length left) refl)))) in
          sym e.1 ∙ ap (λ (z : Shutting O). took z p) is ∙ ap (took s0) (sym q_is)
      | inr e ↦ let n = length-append left (p ∷ []) in let ne = e.0 in t.back j s0 s1 q (omega arith) a e.1 c
    ];
    same = λ j s0 s1 lt a b. elim (at_set closings' (length left) j (took s p) s1 b) [
      | inl e ↦ let is = e.0 in absurd (omega arith)
      | inr e ↦ let n = length-append left (p ∷ []) in t.same j s0 s1 (omega arith) a e.1
    ];
  }

  -- the last pass is of its gate, which nothing came back to yet
  pub takes_asks : (row left : List Known) (closings closings' : List (Shutting O)) (p : Known) (s : Shutting O) → AreTakers closings row → TakesRow row closings (left ++ p ∷ []) closings' → At closings' (length left) s → IsPassOf s.gate p × (0 < p.image)
  takes_asks row left closings closings' p s ok t at =
      let n = length-append left (p ∷ []) in
      let lt = is_there closings' (length left) s at in
      let w = t.wide in
      let s0 = found closings (length left) (omega arith) in
      let same : s ≡ s0.0 = t.same (length left) s0.0 s (omega arith) s0.1 at in
      let there : At row (length left) p = subst (λ xs. At xs (length left) p) t.front (at_longer (left ++ p ∷ []) t.rest (length left) p (at_last left p (length left) refl)) in
      subst (λ (z : Shutting O). IsPassOf z.gate p × (0 < p.image)) (sym same) (ok.each (length left) s0.0 p s0.1 there)

  pub takes_room : (row left : List Known) (closings closings' : List (Shutting O)) (p : Known) → AreTakers closings row → TakesRow row closings (left ++ p ∷ []) closings' → length left < length closings'
  takes_room row left closings closings' p ok t =
      let n = length-append left (p ∷ []) in
      let m = length-append (left ++ p ∷ []) t.rest in
      let f : length ((left ++ p ∷ []) ++ t.rest) ≡ length row = ap length t.front in
      let w = t.wide in
      let o = ok.wide in
      omega arith

  pub row_back : (row : List Known) (closings closings' : List (Shutting O)) → TakesRow row closings [] closings' → RowBack row closings closings'
  row_back row closings closings' t = record { wide = t.wide; back = λ j s s' p a b c. t.back j s s' p (omega arith) a b c }

pub index_at : {A : Type 0} → (xs : List A) (k : ℕ) (x d : A) → At xs k x → get_or xs k d ≡ x
index_at [] k x d e = absurd (some-ne-none x (sym e))
index_at (y ∷ ys) zero x d e = some-injective y x e
index_at (y ∷ ys) (suc k) x d e = index_at ys k x d e

module _ {O B : Type 0} (passes : List Passes) (board : Shutting B) (closings : List (Shutting O)) where
  pub all_none : TakesAll passes board closings passes board closings
  all_none = record {
    taken = [];
    front = append-nil passes;
    back = record { board_is = refl; wide = refl; each = λ k s s' a b. some-injective s' s (sym b ∙ a) };
  }

  module _ (left : List Passes) (row : Passes) (board' : Shutting B) (closings' : List (Shutting O)) (t : TakesAll passes board closings (left ++ row ∷ []) board' closings') (of : Each (IsTaker board closings) (left ++ row ∷ [])) where
    row_of : IsTaker board closings row
    row_of = (each_front (IsTaker board closings) left row of).1

    pub board_asks : IsPassOf board'.gate row.board × (0 < row.board.image)
    board_asks = subst (λ (s : Shutting B). IsPassOf s.gate row.board × (0 < row.board.image)) (sym t.back.board_is) row_of.at_board

    pub row_asks : AreTakers closings' row.memories.items
    row_asks = record {
      wide = row_of.memories.wide ∙ sym t.back.wide;
      each = λ k s' p a b.
          let w = t.back.wide in
          let n = is_there closings' k s' a in
          let s = found closings k (omega arith) in
          subst (λ (z : Shutting O). IsPassOf z.gate p × (0 < p.image)) (sym (t.back.each k s.0 s' s.1 a)) (row_of.memories.each k s.0 p s.1 b);
    }

    pub all_more : (closings'' : List (Shutting O)) → RowBack row.memories.items closings' closings'' → TakesAll passes board closings left (took board' row.board) closings''
    all_more closings'' r = record {
      taken = row ∷ t.taken;
      front = sym (append_assoc left (row ∷ []) t.taken) ∙ t.front;
      back = record {
        board_is = ap (λ (s : Shutting B). took s row.board) t.back.board_is;
        wide = r.wide ∙ t.back.wide;
        each = λ k s s'' a c.
            let w = r.wide in
            let v = row_of.memories.wide in
            let u = t.back.wide in
            let n = is_there closings k s a in
            let s' = found closings' k (omega arith) in
            let p = found row.memories.items k (omega arith) in
            r.back k s'.0 s'' p.0 s'.1 c p.1 ∙ ap (λ (z : Shutting O). took z p.0) (t.back.each k s s'.0 a s'.1)
            ∙ ap (λ (q : Known). with_back (kept_known q ∷ column k t.taken) s) (sym (index_at row.memories.items k p.0 row.board p.1));
      };
    }

  pub all_taken : (board' : Shutting B) (closings' : List (Shutting O)) → TakesAll passes board closings [] board' closings' → HaveBack passes board closings board' closings'
  all_taken board' closings' t = subst (λ ps. HaveBack ps board closings board' closings') t.front t.back

-- one gate more is closed
pub ends_more : {O : Type 0} → (object : objects.Ghosts O) (ss : List (Shutting O)) (os : List O) (s : Shutting O) (o : O) → AllEnd object ss os → EndsWith object s o → AllEnd object (ss ++ s ∷ []) (os ++ o ∷ [])
ends_more object [] [] s o h e = (e, tt)
ends_more object [] (y ∷ os) s o h e = absurd h
ends_more object (x ∷ ss) [] s o h e = absurd h
ends_more object (x ∷ ss) (y ∷ os) s o h e = (h.0, ends_more object ss os s o h.1 e)
