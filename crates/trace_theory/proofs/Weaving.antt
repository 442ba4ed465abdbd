-- The trace of lists that are of one run.
use Rattle.std.proofs.Common.{◌≡◌, ℕ, zero, suc, max, nat_eq, List, ◌∷◌, ◌++◌, refl, ap, sym, ◌∙◌, subst, arith}
use Rattle.trace_theory.specs.Entries.{of, last_or, IsTraceOrder}
use Rattle.trace_theory.specs.Runs.{place_last, due, Woven, TraceOf}
use Rattle.trace_theory.proofs.Filters.{filters_swap, of_inside}
use Rattle.trace_theory.proofs.Orders.{same_order, never_falls, never_falls_filter}

module _ (E : Type 0) (image place stamp : E → ℕ) (own : E → ℕ → ℕ) (events histories : ℕ → List E) (woven : Woven image place stamp own events histories) (t : List E) (sorted : IsTraceOrder image stamp t) (each : (i : ℕ) → of image i t ≡ events i) where
  -- each object's entries of the trace are its history
  objects : (o : ℕ) → of place (suc o) t ≡ histories (suc o)
  objects o =
      sym (same_order E image stamp (histories (suc o)) (of place (suc o) t) (woven.object_rises o) (never_falls_filter E image stamp (λ e. nat_eq (place e) (suc o)) t (never_falls E image stamp t sorted))
      (λ i. woven.agree i o ∙ ap (λ es. of place (suc o) es) (sym (each i)) ∙ filters_swap (λ e. nat_eq (place e) (suc o)) (λ e. nat_eq (image e) i) t))

  at_object : (o : ℕ) (before after : List E) (e : E) → t ≡ before ++ e ∷ after → place e ≡ o → stamp e ≡ due own o e (last_or stamp 0 (of image (image e) before)) (place_last stamp o (of place o before))
  at_object zero before after e h p =
      woven.own_fits (image e) (of image (image e) before) (of image (image e) after) e p (sym (each (image e)) ∙ ap (of image (image e)) h ∙ of_inside image before after e)
  at_object (suc o) before after e h p =
      let there : of place (suc o) (before ++ e ∷ after) ≡ of place (suc o) before ++ e ∷ of place (suc o) after = subst (λ k. of place k (before ++ e ∷ after) ≡ of place k before ++ e ∷ of place k after) p (of_inside place before after e) in
      woven.fits (image e) o (of image (image e) before) (of image (image e) after) (of place (suc o) before) (of place (suc o) after) e (sym (each (image e)) ∙ ap (of image (image e)) h ∙ of_inside image before after e) (sym (objects o) ∙ ap (of place (suc o)) h ∙ there)

  pub trace_of : TraceOf image place stamp own events histories t
  trace_of = record { images = each; objects = objects; stamped = λ before after e h. at_object (place e) before after e h refl }
