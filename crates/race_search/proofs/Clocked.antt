-- Two clocks tell whether the segments of two entries are unordered.
use Rattle.std.proofs.Common.{◌≡◌, ℕ, ◌<◌, ◌↔◌, Bool, true, false, ◌&&◌, not, IsTrue, List, [], ◌∷◌, ◌++◌, refl, sym, subst, arith}
use Rattle.std.specs.Prelude.{MatchBool}
use Rattle.caf_events.specs.declared.event.Entry.{Entry}
use Rattle.order_theory.specs.Order.{Precedes, done, segment_of}
use Rattle.order_theory.specs.Clocks.{Covers, TellsOthers}
use Rattle.order_theory.specs.Acts.{entries}
use Rattle.order_theory.specs.Stored.{present}
use Rattle.order_theory.proofs.Clocks.{tells_keep}
use Rattle.order_theory.proofs.Recorder.{clock_tells}
use Rattle.order_theory.proofs.Sources.{sound}
use Rattle.order_axioms.specs.Views.{view, edges}
use Rattle.race_search.specs.Partners.{Apart}

module _ (n : ℕ) (b : List Entry) (x : Entry) (g : List Entry) (e : Entry) (h : List Entry) (split : g ≡ b ++ x ∷ h) (other : x.image.0 ≡ e.image.0 → ⊥) (kept own : ℕ → ℕ)
    (at_x : Covers (edges n) b (present (view n) b x.image.0 ∷ []) kept) (at_e : Covers (edges n) g (present (view n) g e.image.0 ∷ []) own) where
  before_told : (k : ℕ) → k ≡ done (entries (view n)) x.image.0 b → (k < own x.image.0) ↔ Precedes (edges n) g (segment_of (entries (view n)) b x) (segment_of (entries (view n)) g e)
  before_told k is =
      let told = (clock_tells Entry (view n) g e.image.0 own at_e).exactly x.image.0 (done (entries (view n)) x.image.0 b) other in
      subst (λ z. (z < own x.image.0) ↔ Precedes (edges n) g (segment_of (entries (view n)) b x) (segment_of (entries (view n)) g e)) (sym is) told

  kept_tells : TellsOthers (edges n) g (segment_of (entries (view n)) b x) kept
  kept_tells = subst (λ z. TellsOthers (edges n) z (segment_of (entries (view n)) b x) kept) (sym split)
      (tells_keep Entry (edges n) (sound Entry (view n)) b (x ∷ h) (segment_of (entries (view n)) b x) kept (omega arith) (clock_tells Entry (view n) b x.image.0 kept at_x))

  after_told : (k : ℕ) → k ≡ done (entries (view n)) e.image.0 g → (k < kept e.image.0) ↔ Precedes (edges n) g (segment_of (entries (view n)) g e) (segment_of (entries (view n)) b x)
  after_told k is = subst (λ z. (z < kept e.image.0) ↔ Precedes (edges n) g (segment_of (entries (view n)) g e) (segment_of (entries (view n)) b x)) (sym is)
      (kept_tells.exactly e.image.0 (done (entries (view n)) e.image.0 g) (λ s. other (sym s)))

  decided : (p q : Bool) → IsTrue p ↔ Precedes (edges n) g (segment_of (entries (view n)) b x) (segment_of (entries (view n)) g e)
      → IsTrue q ↔ Precedes (edges n) g (segment_of (entries (view n)) g e) (segment_of (entries (view n)) b x) → MatchBool (not p && not q) (Apart n b x g e) (Apart n b x g e → ⊥)
  decided true q f k = λ a. a.not_before (f.0 refl)
  decided false true f k = λ a. a.not_after (k.0 refl)
  decided false false f k = record { not_before = λ z. absurd (let y = f.1 z in cc); not_after = λ z. absurd (let y = k.1 z in cc) }

  pub told : (p q : Bool) (k m : ℕ) → k ≡ done (entries (view n)) x.image.0 b → m ≡ done (entries (view n)) e.image.0 g → IsTrue p ↔ (k < own x.image.0) → IsTrue q ↔ (m < kept e.image.0)
      → MatchBool (not p && not q) (Apart n b x g e) (Apart n b x g e → ⊥)
  told p q k m ek em f d =
      let u = before_told k ek in
      let v = after_told m em in
      decided p q ((λ z. u.0 (f.0 z)), (λ z. f.1 (u.1 z))) ((λ z. v.0 (d.0 z)), (λ z. d.1 (v.1 z)))
