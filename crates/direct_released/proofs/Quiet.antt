-- An evaluation whose acts take no evaluation cell leaves those in use as they are.
use Rattle.std.proofs.Common.{◌≡◌, refl, sym, subst, ◌∙◌, ℕ, ◌||◌, ℤ, Bool, true, false, true≢false, cond, List, [], ◌∷◌, Option, None, Some}
use Rattle.caf_events.specs.declared.ask.Ask.{Ask}
use Rattle.caf_events.specs.declared.reply.Reply.{Reply}
use Rattle.walk_theory.specs.Terms.{Found, found, at_fault}
use Rattle.image_acts.specs.Acts.{Scope, here, host}
use Rattle.image_acts.specs.Core.{Array, Frame, Local}
use Rattle.direct_meaning.specs.States as states
use Rattle.direct_meaning.specs.States.{State, with_scalar}
use Rattle.direct_meaning.specs.Outcomes.{Outcome, done, faults, asks, over, unsaid, and_then, Does, giving, ◌▹◌, asking, unless, of_found, of_some, or_fault}
use Rattle.direct_meaning.specs.Values.{Value, number, array, as_number, as_array, ◌▹ℤ◌, ◌▹A◌}
use Rattle.direct_meaning.specs.Expressions.{number_found}
use Rattle.direct_agreement.proofs.Agreement.{and_then_assoc}

-- the same evaluation cells in use, in a frame that began with as many
abbrev pub Same : State → State → Type 0
Same s z = (z.used ≡ s.used) × (z.frame.base ≡ s.frame.base)

abbrev pub Leaves : {X : Type 0} → State → Outcome (X × State) → Type 0
Leaves s (done p) = Same s p.1
Leaves s (faults k l z) = Unit {0}
Leaves s (asks a l z f) = (r : Reply) → Leaves s (f r)
Leaves s (over z) = Unit {0}
Leaves s unsaid = Unit {0}

abbrev pub IsQuiet : {X : Type 0} → Does X → Type 0
IsQuiet m = (l : ℕ) (s : State) → Leaves s (m l s)

-- one after another
leaves_from : {X : Type 0} (s z : State) → Same s z → (m : Outcome (X × State)) → Leaves z m → Leaves s m
leaves_from s z h (done p) k = (k.0 ∙ h.0, k.1 ∙ h.1)
leaves_from s z h (faults j l y) k = tt
leaves_from s z h (asks a l y f) k = λ r. leaves_from s z h (f r) (k r)
leaves_from s z h (over y) k = tt
leaves_from s z h unsaid k = tt

pub leaves_then : {X Y : Type 0} (s : State) (m : Outcome (X × State)) (f : X × State → Outcome (Y × State)) → Leaves s m
    → ((x : X) (z : State) → Leaves z (f (x, z))) → Leaves s (and_then m f)
leaves_then s (done p) f h more = leaves_from s p.1 h (f p) (more p.0 p.1)
leaves_then s (faults k l z) f h more = tt
leaves_then s (asks a l z g) f h more = λ r. leaves_then s (g r) f (h r) more
leaves_then s (over z) f h more = tt
leaves_then s unsaid f h more = tt

-- the same, where the first two stand together
pub said_leaves : {X Y Z : Type 0} (s : State) (m : Outcome X) (f : X → Outcome Y) (g : Y → Outcome (Z × State))
    → Leaves s (and_then m (λ x. and_then (f x) g)) → Leaves s (and_then (and_then m f) g)
said_leaves s m f g h = subst (Leaves s) (sym (and_then_assoc m f g)) h

pub q_then : {X Y : Type 0} (m : Does X) (f : X → Does Y) → IsQuiet m → ((x : X) → IsQuiet (f x)) → IsQuiet (m ▹ f)
q_then m f h k l s = leaves_then s (m l s) (λ p. f p.0 l p.1) (h l s) (λ x z. k x l z)

-- what evaluations are made of
pub q_giving : {X : Type 0} (x : X) → IsQuiet (giving x)
q_giving x l s = (refl, refl)

pub q_cond : {X : Type 0} (b : Bool) (m n : Does X) → IsQuiet m → IsQuiet n → IsQuiet (cond b m n)
q_cond true m n h k = h
q_cond false m n h k = k

pub q_unless : {X : Type 0} (k : ℕ) (b : Bool) (m : Does X) → IsQuiet m → IsQuiet (unless k b m)
q_unless k true m h = h
q_unless k false m h = λ l s. tt

pub q_found : {X : Type 0} (f : Found X) → IsQuiet (of_found f)
q_found (found x) l s = (refl, refl)
q_found (at_fault k) l s = tt

pub q_number_found : (f : Found ℤ) → IsQuiet (number_found f)
q_number_found (found x) l s = (refl, refl)
q_number_found (at_fault k) l s = tt

pub q_some : {X : Type 0} (o : Option X) → IsQuiet (of_some o)
q_some None l s = tt
q_some (Some x) l s = (refl, refl)

pub q_or_fault : {X : Type 0} (k : ℕ) (o : Option X) → IsQuiet (or_fault k o)
q_or_fault k None l s = tt
q_or_fault k (Some x) l s = (refl, refl)

pub q_asking : (a : Ask) → IsQuiet (asking a)
q_asking a l s r = (refl, refl)

pub q_number : (v : Value) → IsQuiet (as_number v)
q_number (number v) l s = (refl, refl)
q_number (array w) l s = tt

pub q_array : (v : Value) → IsQuiet (as_array v)
q_array (number v) l s = tt
q_array (array w) l s = (refl, refl)

pub q_scalar_then : {X : Type 0} (m : Does Value) (f : ℤ → Does X) → IsQuiet m → ((v : ℤ) → IsQuiet (f v)) → IsQuiet (m ▹ℤ f)
q_scalar_then m f h k = q_then m (λ v. as_number v ▹ f) h (λ v. q_then (as_number v) f (q_number v) k)

pub q_array_then : {X : Type 0} (m : Does Value) (f : Array → Does X) → IsQuiet m → ((w : Array) → IsQuiet (f w)) → IsQuiet (m ▹A f)
q_array_then m f h k = q_then m (λ v. as_array v ▹ f) h (λ v. q_then (as_array v) f (q_array v) k)

-- a variable is set
same_host : (gs : List Frame) (x : ℕ) (v : ℤ) (z : State) → Same z (with_scalar host x v (record z { callers = gs }))
same_host [] x v z = (refl, refl)
same_host (g ∷ gs) x v z = (refl, refl)

pub scalar_same : (s : Scope) (x : ℕ) (v : ℤ) (z : State) → Same z (with_scalar s x v z)
scalar_same here x v z = (refl, refl)
scalar_same host x v z = same_host z.callers x v z

array_host : (gs : List Frame) (x : ℕ) (w : Local) (z : State) → Same z (states.with_array host x w (record z { callers = gs }))
array_host [] x w z = (refl, refl)
array_host (g ∷ gs) x w z = (refl, refl)

pub array_same : (s : Scope) (x : ℕ) (w : Local) (z : State) → Same z (states.with_array s x w z)
array_same here x w z = (refl, refl)
array_same host x w z = array_host z.callers x w z

-- parts of which none takes a cell
pub neither : (a b : Bool) → (a || b) ≡ false → (a ≡ false) × (b ≡ false)
neither true b h = absurd (true≢false h)
neither false b h = (refl, h)
