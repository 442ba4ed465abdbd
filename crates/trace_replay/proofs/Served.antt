-- The histories of the memories and of the board behind an ordered run: those before it, and then its steps there.
use Rattle.std.proofs.Common.{◌≡◌, ℕ, zero, suc, ◌<◌, ◌≤◌, cond, IsTrue, List, [], ◌∷◌, ◌++◌, inl, inr, length, refl, ap, sym, ◌∙◌, subst, arith, append_assoc}
use Rattle.std.specs.Prelude.{nat_eq}
use Rattle.std.specs.List.{filter}
use Rattle.std.proofs.lemmas.Bool.Decides.{eqb_tells}
use Rattle.std.proofs.lemmas.List.{append-nil}
use Rattle.std.proofs.lemmas.List.Elements.{filter-append}
use Rattle.caf_base.specs.declared.place.Place.{Place}
use Rattle.caf_base.specs.declared.place.Place.TheVariants as places
use Rattle.caf_events.specs.declared.event.Entry.{Entry}
use Rattle.caf_events.specs.Asks.{place_of, object_of}
use Rattle.core_runs.specs.Beginnings.{Beginning, IsThere}
use Rattle.core_runs.specs.CoreRuns.{of_memory, at_board}
use Rattle.core_runs.specs.Kept.{IsKept}
use Rattle.core_runs.specs.Lists.{key_of, list_at}
use Rattle.core_runs.specs.Moments.{Rules, Moment, Steps, with_item, histories_with, board_with}
use Rattle.core_runs.specs.Orders.{Chooser, candidates, Ordered}
use Rattle.core_runs.proofs.KeptMore.{kept_more}
use Rattle.core_runs.proofs.Lanes.{place_of_run}
use Rattle.core_runs.proofs.Numbered.{index_same, list_other}

list_same : (ls : List (List Entry)) (i : ℕ) (x : List Entry) → 0 < i → i ≤ length ls → list_at (with_item ls i x) i ≡ x
list_same ls zero x low high = absurd (omega arith)
list_same ls (suc k) x low high = index_same ls k x [] (omega arith)

-- the entry, where its object has this number
abbrev served_at : Place → ℕ → Entry → List Entry
served_at q o x = cond (nat_eq (object_of q) o) (x ∷ []) []

module _ (n : ℕ) (hs : List (List Entry)) (board : List Entry) (x : Entry) (count : length hs ≡ n) where
  -- the history of a memory behind an entry at a place of the run
  memory_with : (q : Place) → IsThere n q → (i : ℕ) → 0 < i → list_at (histories_with q hs x) i ≡ list_at hs i ++ served_at q (suc i) x
  memory_with q there zero low = absurd (omega arith)
  memory_with (places.Memory owner) there (suc k) low = elim (eqb_tells (object_of (places.Memory owner)) (suc (suc k))) [
    | inl t ↦ (
        let same : owner.0 ≡ suc k = (let e = t.1 in omega arith) in
        let in_run = there in
        rw t.0
        (subst (λ j. list_at (with_item hs owner.0 (list_at hs owner.0 ++ x ∷ [])) j ≡ list_at hs j ++ x ∷ []) same
        (list_same hs owner.0 (list_at hs owner.0 ++ x ∷ []) in_run.0 (let high = in_run.1 in omega arith))))
    | inr f ↦ rw (f.0, append-nil) (list_other hs owner.0 (suc k) (list_at hs owner.0 ++ x ∷ []) (λ e. f.1 (ap suc e)))
  ]
  memory_with places.Board there (suc k) low = elim (eqb_tells (object_of places.Board) (suc (suc k))) [
    | inl t ↦ absurd (let e = t.1 in omega arith)
    | inr f ↦ rw f.0 (sym (append-nil (list_at hs (suc k))))
  ]
  memory_with places.Own there (suc k) low = elim (eqb_tells (object_of places.Own) (suc (suc k))) [
    | inl t ↦ absurd (let e = t.1 in omega arith)
    | inr f ↦ rw f.0 (sym (append-nil (list_at hs (suc k))))
  ]

  -- and the history of the board
  board_behind : (q : Place) → IsThere n q → board_with q board x ≡ board ++ served_at q 1 x
  board_behind (places.Memory owner) there = elim (eqb_tells (object_of (places.Memory owner)) 1) [
    | inl t ↦ absurd (let e = t.1 in let low = there.0 in omega arith)
    | inr f ↦ rw f.0 (sym (append-nil board))
  ]
  board_behind places.Board there = refl
  board_behind places.Own there = sym (append-nil board)

-- an entry more in front of others
first_of : (o : ℕ) (x : Entry) (xs : List Entry) (h : List Entry) → (h ++ served_at (place_of x.event.ask) o x) ++ filter (λ y. nat_eq (key_of y) o) xs ≡ h ++ filter (λ y. nat_eq (key_of y) o) (x ∷ xs)
first_of o x xs h =
    append_assoc h (served_at (place_of x.event.ask) o x) (filter (λ y. nat_eq (key_of y) o) xs)
    ∙ ap (λ es. h ++ es) (sym (filter-append (λ y. nat_eq (key_of y) o) (x ∷ []) xs))

module _ {C M B S : Type 0} (r : Rules C M B) (b : Beginning C M B) (ch : Chooser S) where
  module _ (m next : Moment C M B) (x : Entry) (kept : IsKept r b m) (step : Steps r m x.image.0 x.event next) where
    there : IsThere b.images (place_of x.event.ask)
    there = place_of_run r b m kept.fit kept.memories x.image.0 x.event.ask (place_of x.event.ask) step.due.ready

    step_memory : (i : ℕ) → 0 < i → list_at next.histories i ≡ list_at m.histories i ++ served_at (place_of x.event.ask) (suc i) x
    step_memory i low = ap (λ hs. list_at hs i) step.histories ∙ memory_with b.images m.histories m.board_history x kept.history_count (place_of x.event.ask) there i low

    step_board : next.board_history ≡ m.board_history ++ served_at (place_of x.event.ask) 1 x
    step_board = step.board_history ∙ board_behind b.images m.histories m.board_history x kept.history_count (place_of x.event.ask) there

  pub ordered_memory : (s : S) (m : Moment C M B) (xs : List Entry) (s' : S) (m' : Moment C M B) → Ordered r ch s m xs s' m' → IsKept r b m → (i : ℕ) → 0 < i → list_at m'.histories i ≡ list_at m.histories i ++ of_memory i xs
  ordered_memory s m [] s' m' (p, q) kept i low = ap (λ v. list_at v.histories i) q ∙ sym (append-nil (list_at m.histories i))
  ordered_memory s m (x ∷ xs) s' m' (p, next, step, rest) kept i low =
      ordered_memory (ch.after s (candidates r m)) next xs s' m' rest (kept_more r b m next x.image.0 x.event kept step) i low
      ∙ ap (λ h. h ++ of_memory i xs) (step_memory m next x kept step i low) ∙ first_of (suc i) x xs (list_at m.histories i)

  pub ordered_board : (s : S) (m : Moment C M B) (xs : List Entry) (s' : S) (m' : Moment C M B) → Ordered r ch s m xs s' m' → IsKept r b m → m'.board_history ≡ m.board_history ++ at_board xs
  ordered_board s m [] s' m' (p, q) kept = ap (λ v. v.board_history) q ∙ sym (append-nil m.board_history)
  ordered_board s m (x ∷ xs) s' m' (p, next, step, rest) kept =
      ordered_board (ch.after s (candidates r m)) next xs s' m' rest (kept_more r b m next x.image.0 x.event kept step)
      ∙ ap (λ h. h ++ at_board xs) (step_board m next x kept step) ∙ first_of 1 x xs m.board_history
