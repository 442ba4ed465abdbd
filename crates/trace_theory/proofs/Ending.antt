-- A machine that counts below a limit, and does less and less between two counts, comes to an ask or ends.
use Rattle.std.proofs.Common.{◌≡◌, ℕ, zero, suc, ◌-◌, ◌<◌, ◌≤◌, inl, inr, refl, ◌∙◌, subst, arith}
use Rattle.trace_theory.specs.Machines.{Move, goes, asks, over, goes_on, go, ComesToRest, Falls, Onward}

module _ (C A R : Type 0) (step : C → Move C A R) (Well : C → Type 0) (count rest : C → ℕ) (limit : ℕ) (falls : (c : C) → Well c → Falls Well count rest limit c (step c)) where
  one_step : (c : C) (m : Move C A R) → step c ≡ m → Falls Well count rest limit c m → ((d : C) → Falls {A = A} {R = R} Well count rest limit c (goes d) → ComesToRest step d) → ComesToRest step c
  one_step c (goes d) e f more = let r = more d f in (suc r.0, rw e r.1)
  one_step c (asks a l k) e f more = (1, rw e tt)
  one_step c over e f more = (1, rw e tt)

  -- with at most w to do before the next count, where after a count all ends
  by_rest : (k : ℕ) → ((d : C) → Well d → limit - count d < k → ComesToRest step d) → (w : ℕ) (c : C) → Well c → rest c ≤ w → limit - count c ≤ k → ComesToRest step c
  by_rest k later zero c g h l =
      one_step c (step c) refl (falls c g) (λ d f. elim f.1 [
        | inl x ↦ absurd (let y = x.1 in omega arith)
        | inr x ↦ later d f.0 (let y = x.0 in let z = x.1 in omega arith)
      ])
  by_rest k later (suc w) c g h l =
      one_step c (step c) refl (falls c g) (λ d f. elim f.1 [
        | inl x ↦ by_rest k later w d f.0 (let y = x.1 in omega arith) (let y = x.0 in omega arith)
        | inr x ↦ later d f.0 (let y = x.0 in let z = x.1 in omega arith)
      ])

  by_count : (k : ℕ) (c : C) → Well c → limit - count c ≤ k → ComesToRest step c
  by_count zero c g l = by_rest 0 (λ d v h. absurd (omega arith)) (rest c) c g (omega arith) l
  by_count (suc k) c g l = by_rest (suc k) (λ d v h. by_count k d v (omega arith)) (rest c) c g (omega arith) l

  -- each configuration in which all is well comes to an ask or ends
  pub ends_by_falling : (c : C) → Well c → ComesToRest step c
  ends_by_falling c g = by_count (limit - count c) c g (omega arith)

  abbrev To : C → C → Type 0
  To = Onward Well count rest limit

  onward_step : (c d : C) → Falls {A = A} {R = R} Well count rest limit c (goes d) → To c d
  onward_step c d f = (f.0, elim f.1 [ inl x ↦ inl x | inr x ↦ inr (let y = x.0 in omega arith, x.1) ])

  onward_more : (c d e : C) → To c d → To d e → To c e
  onward_more c d e h k = (
    k.0,
    elim h.1 [
      | inl x ↦ elim k.1 [ inl y ↦ inl (y.0 ∙ x.0, (let a = x.1 in let b = y.1 in omega arith)) | inr y ↦ inr ((let a = x.0 in let b = y.0 in omega arith), (let a = x.0 in let b = y.1 in omega arith)) ]
      | inr x ↦ inr ((let a = x.0 in elim k.1 [ inl y ↦ (let b = y.0 in omega arith) | inr y ↦ (let b = y.0 in omega arith) ]), x.1)
    ],
  )

  onward_from : (n : ℕ) (c d : C) (m : Move C A R) → Falls Well count rest limit c m → ((e : C) → Well e → go step (suc n) e ≡ goes d → To e d) → goes_on m (go step (suc n)) ≡ goes d → To c d
  onward_from n c d (goes e) f more p = onward_more c e d (onward_step c e f) (more e f.0 p)
  onward_from n c d (asks a l k) f more p = absurd (cc)
  onward_from n c d over f more p = absurd (cc)

  onward_once : (c d : C) (m : Move C A R) → Falls Well count rest limit c m → goes_on m (go step 0) ≡ goes d → To c d
  onward_once c d (goes e) f p = (let q : e ≡ d = cc in onward_step c d (subst (λ x. Falls {A = A} {R = R} Well count rest limit c (goes x)) q f))
  onward_once c d (asks a l k) f p = absurd (cc)
  onward_once c d over f p = absurd (cc)

  -- after several steps that ask nothing all is still well, and less is left to do or more is counted
  pub falls_along : (n : ℕ) (c d : C) → Well c → go step (suc n) c ≡ goes d → Onward Well count rest limit c d
  falls_along zero c d w p = onward_once c d (step c) (falls c w) p
  falls_along (suc n) c d w p = onward_from n c d (step c) (falls c w) (λ e v q. falls_along n e d v q) p
