-- Behind an image control statement its evaluation cells are free again.
use Rattle.std.proofs.Common.{◌≡◌, refl, sym, subst, ◌∙◌, ℕ, Bool, true, false, cond, [], ◌∷◌}
use Rattle.walk_theory.specs.Syntax.{Parts}
use Rattle.image_acts.specs.Acts as a
use Rattle.image_acts.specs.Acts.{Act, stack}
use Rattle.image_acts.specs.Core.{Core}
use Rattle.tree_meaning.specs.Sequences.{◌▸◌, doing, takes, released}
use Rattle.direct_meaning.specs.States.{State, state_of, with_state}
use Rattle.direct_meaning.specs.Outcomes.{Outcome, done, faults, asks, over, unsaid, and_then, Does}
use Rattle.direct_meaning.specs.Told.{told}
use Rattle.direct_meaning.specs.Statements as meaning
use Rattle.direct_meaning.specs.Statements.{Control, onward, simply}
use Rattle.direct_agreement.specs.Agreeing.{HasSpare}
use Rattle.direct_released.specs.Laws.{IsFree}
use Rattle.direct_released.proofs.Quiet.{Leaves, IsQuiet}
use Rattle.direct_control.specs.Meeting.{Meets, Lies}
use Rattle.direct_control.proofs.Meeting.{meets_then}

-- What is known of a statement and of its parts: where its acts take no evaluation cell it leaves those in use as they
-- are, and its acts meet it.
pub record Performs (m : Does (Unit {0})) (p : Parts Act) (l : ℕ) : Type 0 where
  pub quiet : takes p ≡ false → IsQuiet m
  pub meets : (c : Core) → HasSpare c → Meets (Lies c) (m l (state_of c)) (told p l c)

abbrev pub freed : Unit {0} × State → Outcome (Unit {0} × State)
freed p = done (p.0, record p.1 { used = p.1.frame.base })

released_core : (c d : Core) (u : Unit {0}) (z : State) → Lies c u z d → Lies c u (record z { used = z.frame.base })
    (record d { used = d.frame.base })
released_core c d u z h =
    subst (λ f. record f { used = f.frame.base } ≡ record
    (with_state (record z { used = z.frame.base }) c) { round = f.round; formed = f.formed }) (sym h) refl

freed_by_act : (l : ℕ) (c : Core) (m : Outcome (Unit {0} × State)) (o : Outcome Core) → Meets (Lies c) m o
    → Meets (Lies c) (and_then m freed) (and_then o (told (doing (stack a.release ∷ [])) l))
freed_by_act l c m o h =
    meets_then (Lies c) (Lies c) m o freed (told (doing (stack a.release ∷ [])) l) h
    (λ u z d k. (record d { used = d.frame.base }, refl, released_core c d u z k))

freed_already : (c : Core) (m : Outcome (Unit {0} × State)) (o : Outcome Core) → IsFree c → Meets (Lies c) m o → Leaves (state_of c) m
    → Meets (Lies c) (and_then m freed) o
freed_already c (done p) o b (d, h, k) q =
    (d, h, subst (λ n. d ≡ record (with_state (record p.1 { used = n }) c) { round = d.round; formed = d.formed }) (q.0 ∙ b ∙ sym q.1) k)
freed_already c (faults j l z) o b h q = h
freed_already c (asks a l z f) o b (g, i, h) q = (g, i, λ r. freed_already c (f r) (g r) b (h r) (q r))
freed_already c (over z) o b h q = h
freed_already c unsaid o b h q = tt

freed_by : (l : ℕ) (c : Core) (p : Parts Act) (t : Bool) (m : Outcome (Unit {0} × State)) → IsFree c → Meets (Lies c) m (told p l c)
    → (t ≡ false → Leaves (state_of c) m)
    → Meets (Lies c) (and_then m freed) (told (cond t (p ▸ doing (stack a.release ∷ [])) p) l c)
freed_by l c p true m b h q = freed_by_act l c m (told p l c) h
freed_by l c p false m b h q = freed_already c m (told p l c) b h (q refl)

-- the statement in the walk, which frees them where any are taken
pub released_meets : (m : Does (Unit {0})) (p : Parts Act) (l : ℕ) → Performs m p l → (c : Core) → HasSpare c → IsFree c
    → Meets (Lies c) (meaning.released m l (state_of c)) (told (released p) l c)
released_meets m p l k c r b = freed_by l c p (takes p) (m l (state_of c)) b (k.meets c r) (λ q. k.quiet q l (state_of c))

abbrev onwards_from : ℕ → Unit {0} × State → Outcome ((Control × ℕ) × State)
onwards_from n p = done ((onward, n), p.1)

onwards : (n : ℕ) (c : Core) (m : Outcome (Unit {0} × State)) (o : Outcome Core) → Meets (Lies c) m o
    → Meets (Lies c) (and_then m (onwards_from n)) o
onwards n c (done p) o h = h
onwards n c (faults j l z) o h = h
onwards n c (asks a l z f) o (g, i, h) = (g, i, λ r. onwards n c (f r) (g r) (h r))
onwards n c (over z) o h = h
onwards n c unsaid o h = tt

pub simply_meets : (m : Does (Unit {0})) (p : Parts Act) (l n : ℕ) → Performs m p l → (c : Core) → HasSpare c → IsFree c
    → Meets (Lies c) (simply m n l (state_of c)) (told (released p) l c)
simply_meets m p l n k c r b = onwards n c (meaning.released m l (state_of c)) (told (released p) l c) (released_meets m p l k c r b)
