-- Lists of entries.
use Rattle.std.proofs.Common.{◌≡◌, ℕ, suc, ◌+◌, ◌≤◌, List, [], ◌∷◌, ◌++◌, length, refl, ap, ◌∙◌, arith, append_assoc}
use Rattle.caf_events.specs.declared.event.Entry.{Entry}
use Rattle.trace_theory.specs.Entries.{Each, last_or, Above, Rises}
use Rattle.turn_gate.specs.Lists.{stamp_of}
use Rattle.caf_events.specs.Histories.{last_stamp_from}
use Rattle.turn_gate.specs.Gates.{StartsWith}

module _ {A : Type 0} where
  pub each_and : (P Q R : A → Type 0) → ((x : A) → P x → Q x → R x) → (xs : List A) → Each P xs → Each Q xs → Each R xs
  each_and P Q R f [] p q = tt
  each_and P Q R f (x ∷ xs) p q = (f x p.0 q.0, each_and P Q R f xs p.1 q.1)

  pub each_all : (P Q : A → Type 0) → ((x : A) → P x → Q x) → (xs : List A) → Each P xs → Each Q xs
  each_all P Q f [] p = tt
  each_all P Q f (x ∷ xs) p = (f x p.0, each_all P Q f xs p.1)

  pub each_front : (P : A → Type 0) (xs : List A) (y : A) → Each P (xs ++ y ∷ []) → Each P xs × P y
  each_front P [] y h = (tt, h.0)
  each_front P (x ∷ xs) y h = let r = each_front P xs y h.1 in ((h.0, r.0), r.1)

pub starts_more : (log es seen : List Entry) → StartsWith log seen → StartsWith (log ++ es) seen
starts_more log es seen p = (p.0 ++ es, ap (λ xs. xs ++ es) p.1 ∙ append_assoc seen p.0 es)

-- the last stamp of a history is that of its list
pub last_same : (n : ℕ) (h : List Entry) → last_stamp_from n h ≡ last_or stamp_of n h
last_same n [] = refl
last_same n (e ∷ es) = last_same e.event.stamp es

-- as stamps rise, a history has no more entries than its last stamp says
long_above : (n : ℕ) (h : List Entry) → Above stamp_of n h → Rises stamp_of h → n + length h ≤ last_or stamp_of n h
long_above n [] a r = omega arith
long_above n (e ∷ es) a r = let k = long_above e.event.stamp es r.0 r.1 in let b = a.0 in omega arith

pub few_entries : (h : List Entry) → Rises stamp_of h → length h ≤ suc (last_or stamp_of 0 h)
few_entries [] r = omega arith
few_entries (e ∷ es) r = let k = long_above e.event.stamp es r.0 r.1 in omega arith
