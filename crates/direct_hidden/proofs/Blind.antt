-- Evaluations to which hidden cells mean nothing, one after another, and what they are made of.
use Rattle.std.proofs.Common.{◌≡◌, refl, ap, sym, subst, ◌∙◌, ℕ, zero, suc, ℤ, Bool, true, false, cond, List, [], ◌∷◌, ◌++◌, length, length-set, Option, None, Some, slice_get, slice_set}
use Rattle.caf_events.specs.declared.ask.Ask.{Ask}
use Rattle.caf_events.specs.declared.reply.Reply.{Reply}
use Rattle.walk_theory.specs.Terms.{Found, found, at_fault}
use Rattle.image_acts.specs.Acts.{Scope, here, host}
use Rattle.image_acts.specs.Core.{Array, Frame, Local}
use Rattle.direct_meaning.specs.States as states
use Rattle.direct_meaning.specs.States.{State, scalar_in, with_scalar, array_in}
use Rattle.direct_meaning.specs.Outcomes.{Outcome, done, faults, asks, over, unsaid, and_then, Does, giving, fault, ◌▹◌, asking, unless, of_found, of_some, or_fault, changing}
use Rattle.direct_meaning.specs.Values.{Value, number, array, as_number, as_array, ◌▹ℤ◌, ◌▹A◌, scalar, set_scalar, allocated}
use Rattle.direct_meaning.specs.Images.{the}
use Rattle.direct_meaning.specs.Expressions.{number_found}
use Rattle.image_acts.specs.Faults.{not_allocated}
use Rattle.direct_hidden.specs.Hiding.{with_hidden, SameFrame, Alike, IsBlind}

-- one after another
alike_from : {X : Type 0} (hs : List ℤ) (s z : State) → SameFrame s z → (m o : Outcome (X × State)) → Alike hs z m o → Alike hs s m o
alike_from hs s z h (done p) o k = (k.0, (k.1.0 ∙ h.0, k.1.1 ∙ h.1))
alike_from hs s z h (faults j l y) o k = k
alike_from hs s z h (asks a l y f) o (g, e, k) = (g, e, λ r. alike_from hs s z h (f r) (g r) (k r))
alike_from hs s z h (over y) o k = k
alike_from hs s z h unsaid o k = tt

pub alike_then : {X Y : Type 0} (hs : List ℤ) (s : State) (m o : Outcome (X × State)) (f : X × State → Outcome (Y × State)) → Alike hs s m o
    → ((x : X) (z : State) → Alike hs z (f (x, z)) (f (x, with_hidden hs z))) → Alike hs s (and_then m f) (and_then o f)
alike_then hs s (done p) o f h more =
    subst (λ u. Alike hs s (f p) (and_then u f)) (sym h.0) (alike_from hs s p.1 h.1 (f p) (f (p.0, with_hidden hs p.1)) (more p.0 p.1))
alike_then hs s (faults k l z) o f h more = ap (λ u. and_then u f) h
alike_then hs s (asks a l z g) o f (w, e, h) more =
    ((λ r. and_then (w r) f), ap (λ u. and_then u f) e, λ r. alike_then hs s (g r) (w r) f (h r) more)
alike_then hs s (over z) o f h more = ap (λ u. and_then u f) h
alike_then hs s unsaid o f h more = tt

pub b_then : {X Y : Type 0} (m : Does X) (f : X → Does Y) → IsBlind m → ((x : X) → IsBlind (f x)) → IsBlind (m ▹ f)
b_then m f h k hs l s = alike_then hs s (m l s) (m l (with_hidden hs s)) (λ p. f p.0 l p.1) (h hs l s) (λ x z. k x hs l z)

-- what evaluations are made of
pub b_giving : {X : Type 0} (x : X) → IsBlind (giving x)
b_giving x hs l s = (refl, (refl, refl))

pub b_cond : {X : Type 0} (b : Bool) (m n : Does X) → IsBlind m → IsBlind n → IsBlind (cond b m n)
b_cond true m n h k = h
b_cond false m n h k = k

pub b_unless : {X : Type 0} (k : ℕ) (b : Bool) (m : Does X) → IsBlind m → IsBlind (unless k b m)
b_unless k true m h = h
b_unless k false m h = λ hs l s. refl

pub b_found : {X : Type 0} (f : Found X) → IsBlind (of_found f)
b_found (found x) hs l s = (refl, (refl, refl))
b_found (at_fault k) hs l s = refl

pub b_number_found : (f : Found ℤ) → IsBlind (number_found f)
b_number_found (found x) hs l s = (refl, (refl, refl))
b_number_found (at_fault k) hs l s = refl

pub b_some : {X : Type 0} (o : Option X) → IsBlind (of_some o)
b_some None hs l s = tt
b_some (Some x) hs l s = (refl, (refl, refl))

pub b_or_fault : {X : Type 0} (k : ℕ) (o : Option X) → IsBlind (or_fault k o)
b_or_fault k None hs l s = refl
b_or_fault k (Some x) hs l s = (refl, (refl, refl))

pub b_asking : (a : Ask) → IsBlind (asking a)
b_asking a hs l s = ((λ r. done (r, with_hidden hs s)), refl, λ r. (refl, (refl, refl)))

pub b_number : (v : Value) → IsBlind (as_number v)
b_number (number v) hs l s = (refl, (refl, refl))
b_number (array w) hs l s = tt

pub b_array : (v : Value) → IsBlind (as_array v)
b_array (number v) hs l s = tt
b_array (array w) hs l s = (refl, (refl, refl))

pub b_scalar_then : {X : Type 0} (m : Does Value) (f : ℤ → Does X) → IsBlind m → ((v : ℤ) → IsBlind (f v)) → IsBlind (m ▹ℤ f)
b_scalar_then m f h k = b_then m (λ v. as_number v ▹ f) h (λ v. b_then (as_number v) f (b_number v) k)

pub b_array_then : {X : Type 0} (m : Does Value) (f : Array → Does X) → IsBlind m → ((w : Array) → IsBlind (f w)) → IsBlind (m ▹A f)
b_array_then m f h k = b_then m (λ v. as_array v ▹ f) h (λ v. b_then (as_array v) f (b_array v) k)

-- what the state tells, where hidden cells aren't looked at
pub b_the : {X : Type 0} (f : State → X) → ((hs : List ℤ) (s : State) → f (with_hidden hs s) ≡ f s) → IsBlind (the f)
b_the f same hs l s = (ap (λ x. done (x, with_hidden hs s)) (same hs s), (refl, refl))

pub b_changing : (f : State → State) → ((hs : List ℤ) (s : State) → f (with_hidden hs s) ≡ with_hidden hs (f s))
    → ((s : State) → SameFrame s (f s)) → IsBlind (changing f)
b_changing f same kept hs l s = (ap (λ z. done (tt, z)) (same hs s), kept s)

-- a variable is found before the hidden cells, and set there
get_front : (xs ys : List ℤ) (n : ℕ) (v : ℤ) → slice_get xs n ≡ Some v → slice_get (xs ++ ys) n ≡ Some v
get_front [] ys n v h = absurd (cc)
get_front (x ∷ xs) ys zero v h = h
get_front (x ∷ xs) ys (suc n) v h = get_front xs ys n v h

set_front : (xs ys : List ℤ) (n : ℕ) (v w : ℤ) → slice_get xs n ≡ Some v → slice_set (xs ++ ys) n w ≡ slice_set xs n w ++ ys
set_front [] ys n v w h = absurd (cc)
set_front (x ∷ xs) ys zero v w h = refl
set_front (x ∷ xs) ys (suc n) v w h = ap (λ zs. x ∷ zs) (set_front xs ys n v w h)

host_scalar : (gs : List Frame) (x : ℕ) (hs : List ℤ) (s : State) (v : ℤ) → scalar_in host x (record s { callers = gs }) ≡ Some v
    → scalar_in host x (with_hidden hs (record s { callers = gs })) ≡ Some v
host_scalar [] x hs s v h = get_front s.frame.cells hs x v h
host_scalar (g ∷ gs) x hs s v h = h

pub scalar_there : (c : Scope) (x : ℕ) (hs : List ℤ) (s : State) (v : ℤ) → scalar_in c x s ≡ Some v → scalar_in c x (with_hidden hs s) ≡ Some v
scalar_there here x hs s v h = get_front s.frame.cells hs x v h
scalar_there host x hs s v h = host_scalar s.callers x hs s v h

some_alike : {X Y : Type 0} (p q : Option X) (f : X → Does Y) (hs : List ℤ) (l : ℕ) (s : State) → ((x : X) → p ≡ Some x → q ≡ Some x)
    → ((x : X) → p ≡ Some x → Alike hs s (f x l s) (f x l (with_hidden hs s)))
    → Alike hs s ((of_some p ▹ f) l s) ((of_some q ▹ f) l (with_hidden hs s))
some_alike None q f hs l s there more = tt
some_alike (Some x) q f hs l s there more =
    subst (λ o. Alike hs s (f x l s) ((of_some o ▹ f) l (with_hidden hs s))) (sym (there x refl)) (more x refl)

pub b_scalar_of : {Y : Type 0} (c : Scope) (x : ℕ) (f : ℤ → Does Y) → ((v : ℤ) → IsBlind (f v)) → IsBlind (scalar c x ▹ f)
b_scalar_of c x f h hs l s =
    some_alike (scalar_in c x s) (scalar_in c x (with_hidden hs s)) f hs l s (scalar_there c x hs s) (λ v e. h v hs l s)

host_set : (gs : List Frame) (x : ℕ) (hs : List ℤ) (s : State) (v w : ℤ) → scalar_in host x (record s { callers = gs }) ≡ Some v
    → (with_scalar host x w (with_hidden hs (record s { callers = gs })) ≡ with_hidden hs (with_scalar host x w (record s { callers = gs })))
    × SameFrame s (with_scalar host x w (record s { callers = gs }))
host_set [] x hs s v w h = (
  ap (λ vs. record s { callers = []; frame = record s.frame { cells = vs } }) (set_front s.frame.cells hs x v w h),
  (length-set s.frame.cells x w, refl),
)
host_set (g ∷ gs) x hs s v w h = (refl, (refl, refl))

pub scalar_set : (c : Scope) (x : ℕ) (hs : List ℤ) (s : State) (v w : ℤ) → scalar_in c x s ≡ Some v
    → (with_scalar c x w (with_hidden hs s) ≡ with_hidden hs (with_scalar c x w s)) × SameFrame s (with_scalar c x w s)
scalar_set here x hs s v w h =
    (ap (λ vs. record s { frame = record s.frame { cells = vs } }) (set_front s.frame.cells hs x v w h), (length-set s.frame.cells x w, refl))
scalar_set host x hs s v w h = host_set s.callers x hs s v w h

pub b_set_scalar : (c : Scope) (x : ℕ) (w : ℤ) → IsBlind (set_scalar c x w)
b_set_scalar c x w hs l s =
    some_alike (scalar_in c x s) (scalar_in c x (with_hidden hs s)) (λ v. changing (with_scalar c x w)) hs l s (scalar_there c x hs s)
    (λ v e. let k = scalar_set c x hs s v w e in (ap (λ z. done (tt, z)) k.0, k.1))

-- arrays stand apart from cells
host_array : (gs : List Frame) (x : ℕ) (hs : List ℤ) (s : State)
    → array_in host x (with_hidden hs (record s { callers = gs })) ≡ array_in host x (record s { callers = gs })
host_array [] x hs s = refl
host_array (g ∷ gs) x hs s = refl

pub same_array : (c : Scope) (x : ℕ) (hs : List ℤ) (s : State) → array_in c x (with_hidden hs s) ≡ array_in c x s
same_array here x hs s = refl
same_array host x hs s = host_array s.callers x hs s

host_array_set : (gs : List Frame) (x : ℕ) (w : Local) (hs : List ℤ) (s : State)
    → (states.with_array host x w (with_hidden hs (record s { callers = gs })) ≡ with_hidden hs (states.with_array host x w (record s { callers = gs })))
    × SameFrame s (states.with_array host x w (record s { callers = gs }))
host_array_set [] x w hs s = (refl, (refl, refl))
host_array_set (g ∷ gs) x w hs s = (refl, (refl, refl))

array_set : (c : Scope) (x : ℕ) (w : Local) (hs : List ℤ) (s : State)
    → (states.with_array c x w (with_hidden hs s) ≡ with_hidden hs (states.with_array c x w s)) × SameFrame s (states.with_array c x w s)
array_set here x w hs s = (refl, (refl, refl))
array_set host x w hs s = host_array_set s.callers x w hs s

pub b_array_set : (c : Scope) (x : ℕ) (w : Local) → IsBlind (changing (states.with_array c x w))
b_array_set c x w = b_changing (states.with_array c x w) (λ hs s. (array_set c x w hs s).0) (λ s. (array_set c x w [] s).1)

pub b_allocated : (c : Scope) (x : ℕ) → IsBlind (allocated c x)
b_allocated c x hs l s =
    subst (λ o. Alike hs s (or_fault not_allocated (array_in c x s) l s) (or_fault not_allocated o l (with_hidden hs s)))
    (sym (same_array c x hs s)) (b_or_fault not_allocated (array_in c x s) hs l s)
