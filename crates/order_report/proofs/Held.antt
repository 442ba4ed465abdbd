-- The images that haven't ended, image by image.
use Rattle.std.proofs.Common.{◌≡◌, ℕ, suc, ◌+◌, List, [], ◌∷◌, ◌++◌, inl, inr, refl, sym, ◌∙◌, subst, arith}
use Rattle.std.specs.Prelude.{Some}
use Rattle.std.proofs.lemmas.Bool.{cases_lt}
use Rattle.caf_events.specs.declared.ask.Ask.{Ask}
use Rattle.caf_events.specs.declared.reply.Reply.{Reply}
use Rattle.caf_events.specs.Walkers.{AsksNext, IsAtLine, IsOver}
use Rattle.trace_theory.specs.Entries.{last_or}
use Rattle.trace_theory.specs.Machines.{Move}
use Rattle.trace_theory.proofs.Snocs.{each_last, rises_more}
use Rattle.core_runs.specs.Moments.{item_at}
use Rattle.caf_report.specs.declared.report.Waiting.{Waiting}
use Rattle.order_report.specs.Reports.{WaitsAs, AreHeld}

waits_before : (i : ℕ) (ws : List Waiting) (w : Waiting) → WaitsAs i ws → WaitsAs i (ws ++ w ∷ [])
waits_before i [] w h = absurd h
waits_before i (v ∷ ws) w (inl e) = inl e
waits_before i (v ∷ ws) w (inr h) = inr (waits_before i ws w h)

waits_last : (i : ℕ) (ws : List Waiting) (w : Waiting) → w.image.0 ≡ i → WaitsAs i (ws ++ w ∷ [])
waits_last i [] w e = inl e
waits_last i (v ∷ ws) w e = inr (waits_last i ws w e)

last_is : (n : ℕ) (ws : List Waiting) (w : Waiting) → last_or (λ (v : Waiting). v.image.0) n (ws ++ w ∷ []) ≡ w.image.0
last_is n [] w = refl
last_is n (v ∷ ws) w = last_is v.image.0 ws w

module _ {C : Type 0} (step : C → Move C Ask Reply) (configs : List C) where
  module _ (n : ℕ) (ws : List Waiting) (h : AreHeld step configs n ws) (c : C) (at : item_at configs (suc n) ≡ Some c) where
    -- the next image has ended
    pub held_over : IsOver (step c) → AreHeld step configs (n + 1) ws
    held_over over = record {
      rises = h.rises;
      low = let l = h.low in omega arith;
      each = h.each;
      all = λ i low high. elim (cases_lt n i) [
        | inl l ↦ inl (c, (let e : suc n ≡ i = omega arith in subst (λ j. item_at configs j ≡ Some c) e at), over)
        | inr g ↦ h.all i low g
      ];
    }

    -- the next image waits
    pub held_more : (w : Waiting) → w.image.0 ≡ suc n → AsksNext (step c) w.ask → IsAtLine (step c) w.line → AreHeld step configs (n + 1) (ws ++ w ∷ [])
    held_more w e ask line = record {
      rises = rises_more (λ (v : Waiting). v.image.0) 0 ws w h.rises (let l = h.low in omega arith);
      low = let l = last_is 0 ws w in omega arith;
      each = each_last (λ v. (d : C) × (item_at configs v.image.0 ≡ Some d) × AsksNext (step d) v.ask × IsAtLine (step d) v.line) ws w h.each (c, subst (λ j. item_at configs j ≡ Some c) (sym e) at, ask, line);
      all = λ i low high. elim (cases_lt n i) [
        | inl l ↦ inr (waits_last i ws w (let k : suc n ≡ i = omega arith in e ∙ k))
        | inr g ↦ elim (h.all i low g) [ inl over ↦ inl over | inr there ↦ inr (waits_before i ws w there) ]
      ];
    }
