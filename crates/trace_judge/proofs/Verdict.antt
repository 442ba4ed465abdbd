-- The trace of the next moment, and the first front that is no core run.
use Rattle.std.proofs.Common.{◌≡◌, ℕ, zero, suc, ◌+◌, ◌<◌, ◌≤◌, List, [], ◌∷◌, ◌++◌, inl, inr, length, take, drop, refl, ap, sym, ◌∙◌, subst, arith, take-append-drop, length-append}
use Rattle.std.specs.Prelude.{map}
use Rattle.std.proofs.lemmas.Bool.{cases_order}
use Rattle.std.proofs.lemmas.Bool.Decides.{eqb_tells}
use Rattle.caf_events.specs.declared.event.Entry.{Entry}
use Rattle.trace_theory.specs.Entries.{of}
use Rattle.trace_theory.proofs.Filters.{of_last, of_other}
use Rattle.core_runs.specs.Lists.{image_of, entry, list_at, entries_of}
use Rattle.core_runs.specs.Moments.{Rules, Moment, Steps, with_item}
use Rattle.core_runs.specs.Beginnings.{Beginning}
use Rattle.core_runs.specs.CoreRuns.{IsCoreRun}
use Rattle.core_runs.specs.Kept.{IsKept}
use Rattle.core_runs.specs.Traces.{IsTraceOf}
use Rattle.core_runs.proofs.Numbered.{index_same, list_other}
use Rattle.core_runs.proofs.Weaves.{map_append, number_of}
use Rattle.core_runs.proofs.Fronts.{core_run_front}
use Rattle.trace_judge.specs.Verdicts.{IsFirstNot, IsBehind}
use Rattle.trace_judge.proofs.Next.{ordered_more}

-- the list of a number replaced is there
list_same : {A : Type 0} (ls : List (List A)) (n : ℕ) (x : List A) (j : ℕ) → n ≡ suc j → j < length ls → list_at (with_item ls n x) n ≡ x
list_same ls n x j e l = subst (λ k. list_at (with_item ls k x) k ≡ x) (sym e) (index_same ls j x [] l)

module _ {C M B : Type 0} (r : Rules C M B) (b : Beginning C M B) (m m' : Moment C M B) (t : List Entry) (e : Entry) (h : IsKept r b m) (trace : IsTraceOf m.events t) (step : Steps r m (image_of e) e.event m') (behind : IsBehind t e) where
  same_image : (i : ℕ) → image_of e ≡ i → of image_of i (t ++ e ∷ []) ≡ entries_of m'.events i
  same_image i p =
      let k = number_of m.configs (image_of e) step.from step.stands in
      let counts : length m.configs ≡ length m.events = h.count ∙ sym h.event_count in
      let inside : k.0 < length m.events = (let l = k.2 in omega arith) in
      let now : list_at m'.events (image_of e) ≡ list_at m.events (image_of e) ++ e.event ∷ [] = ap (λ ls. list_at ls (image_of e)) step.events ∙ list_same m.events (image_of e) (list_at m.events (image_of e) ++ e.event ∷ []) k.0 k.1 inside in
      let here : of image_of (image_of e) (t ++ e ∷ []) ≡ entries_of m'.events (image_of e) =
      of_last image_of (image_of e) t e refl ∙ ap (λ z. z ++ e ∷ []) (trace.images (image_of e)) ∙ sym (map_append (entry (image_of e)) (list_at m.events (image_of e)) (e.event ∷ [])) ∙ ap (map (entry (image_of e))) (sym now) in
      subst (λ j. of image_of j (t ++ e ∷ []) ≡ entries_of m'.events j) p here

  other_image : (i : ℕ) → (image_of e ≡ i → ⊥) → of image_of i (t ++ e ∷ []) ≡ entries_of m'.events i
  other_image i p =
      of_other image_of i t e p ∙ trace.images i
      ∙ ap (map (entry i)) (sym (ap (λ ls. list_at ls i) step.events ∙ list_other m.events (image_of e) i (list_at m.events (image_of e) ++ e.event ∷ []) p))

  pub trace_more : IsTraceOf m'.events (t ++ e ∷ [])
  trace_more = record {
    images = λ i. elim (eqb_tells (image_of e) i) [ inl y ↦ same_image i y.1 | inr n ↦ other_image i n.1 ];
    ordered = ordered_more t e trace.ordered behind;
  }

front_of : {A : Type 0} (k : ℕ) (t : List A) → take k t ++ drop k t ≡ t
front_of k t = take-append-drop k t

module _ {C M B : Type 0} (r : Rules C M B) (b : Beginning C M B) where
  shorter : (k : ℕ) (t : List Entry) → IsCoreRun r b t → IsCoreRun r b (take k t)
  shorter k t run = core_run_front C M B r b (take k t) (drop k t) (subst (IsCoreRun r b) (sym (front_of k t)) run)

  take_take : (j k : ℕ) (t : List Entry) → j ≤ k → take j (take k t) ≡ take j t
  take_take zero k t l = refl
  take_take (suc j) zero t l = absurd (omega arith)
  take_take (suc j) (suc k) [] l = refl
  take_take (suc j) (suc k) (x ∷ xs) l = ap (λ z. x ∷ z) (take_take j k xs (omega arith))

  take_front : (xs ys : List Entry) → take (length xs) (xs ++ ys) ≡ xs
  take_front [] ys = refl
  take_front (x ∷ xs) ys = ap (λ z. x ∷ z) (take_front xs ys)

  take_one_more : (xs : List Entry) (e : Entry) (ys : List Entry) → take (suc (length xs)) (xs ++ e ∷ ys) ≡ xs ++ e ∷ []
  take_one_more [] e ys = refl
  take_one_more (x ∷ xs) e ys = ap (λ z. x ∷ z) (take_one_more xs e ys)

  pub first_not : (t : List Entry) (e : Entry) (rest : List Entry) → IsCoreRun r b t → (IsCoreRun r b (t ++ e ∷ []) → ⊥) → IsFirstNot r b (t ++ e ∷ rest) (length t + 1)
  first_not t e rest run none =
      let one : suc (length t) ≡ length t + 1 = omega arith in
      record {
        least = omega arith;
        most = omega (arith, length-append t (e ∷ rest));
        none = λ w. none (subst (IsCoreRun r b) (ap (λ k. take k (t ++ e ∷ rest)) (sym one) ∙ take_one_more t e rest) w);
        before = λ k less. (
            let l : k ≤ length t = omega arith in
            subst (IsCoreRun r b) (ap (take k) (sym (take_front t (e ∷ rest))) ∙ take_take k (length t) (t ++ e ∷ rest) l) (shorter k t run));
      }

  pub one_not : (t : List Entry) (j k : ℕ) → IsFirstNot r b t j → IsFirstNot r b t k → j ≡ k
  one_not t j k f g = elim (cases_order j k) [
    | inl same ↦ same
    | inr (inl less) ↦ absurd (f.none (g.before j less))
    | inr (inr more) ↦ absurd (g.none (f.before k more))
  ]

  pub none_in_run : (t : List Entry) (j : ℕ) → IsCoreRun r b t → IsFirstNot r b t j → ⊥
  none_in_run t j run f = f.none (shorter j t run)
