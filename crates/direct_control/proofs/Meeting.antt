-- Acts that meet what a statement does, one step after another.
use Rattle.std.proofs.Common.{◌≡◌, ap, sym, subst, ◌∙◌}
use Rattle.image_acts.specs.Core.{Core}
use Rattle.direct_meaning.specs.States.{State}
use Rattle.direct_meaning.specs.Outcomes.{Outcome, done, faults, asks, over, unsaid, and_then}
use Rattle.direct_agreement.proofs.Agreement.{Comes, and_then_assoc}
use Rattle.direct_control.specs.Meeting.{Meets}

pub meets_then : {X Y : Type 0} (holds : X → State → Core → Type 0) (later : Y → State → Core → Type 0) (m : Outcome (X × State))
    (o : Outcome Core) (f : X × State → Outcome (Y × State)) (k : Core → Outcome Core) → Meets holds m o
    → ((x : X) (z : State) (d : Core) → holds x z d → Meets later (f (x, z)) (k d)) → Meets later (and_then m f) (and_then o k)
meets_then holds later (done p) o f k (d, e, h) more = subst (λ u. Meets later (f p) (and_then u k)) (sym e) (more p.0 p.1 d h)
meets_then holds later (faults j l z) o f k h more = ap (λ u. and_then u k) h
meets_then holds later (asks a l z g) o f k (w, e, h) more =
    ((λ r. and_then (w r) k), ap (λ u. and_then u k) e, λ r. meets_then holds later (g r) (w r) f k (h r) more)
meets_then holds later (over z) o f k h more = ap (λ u. and_then u k) h
meets_then holds later unsaid o f k h more = tt

-- an evaluation, and behind it what meets a statement
pub comes_first : {X Y : Type 0} (lay : X → State → Core) (P : X → State → Type 0) (later : Y → State → Core → Type 0)
    (m : Outcome (X × State)) (o : Outcome Core) (f : X × State → Outcome (Y × State)) (k : Core → Outcome Core) → Comes lay P m o
    → ((x : X) (z : State) → P x z → Meets later (f (x, z)) (k (lay x z))) → Meets later (and_then m f) (and_then o k)
comes_first lay P later (done p) o f k h more = subst (λ u. Meets later (f p) (and_then u k)) (sym h.0) (more p.0 p.1 h.1)
comes_first lay P later (faults j l z) o f k h more = ap (λ u. and_then u k) h
comes_first lay P later (asks a l z g) o f k (w, e, h) more =
    ((λ r. and_then (w r) k), ap (λ u. and_then u k) e, λ r. comes_first lay P later (g r) (w r) f k (h r) more)
comes_first lay P later (over z) o f k h more = ap (λ u. and_then u k) h
comes_first lay P later unsaid o f k h more = tt

-- an evaluation by itself
pub comes_meets : {X : Type 0} (lay : X → State → Core) (P : X → State → Type 0) (holds : X → State → Core → Type 0)
    (m : Outcome (X × State)) (o : Outcome Core) → Comes lay P m o → ((x : X) (z : State) → P x z → holds x z (lay x z)) → Meets holds m o
comes_meets lay P holds (done p) o h more = (lay p.0 p.1, h.0, more p.0 p.1 h.1)
comes_meets lay P holds (faults j l z) o h more = h
comes_meets lay P holds (asks a l z g) o (w, e, h) more = (w, e, λ r. comes_meets lay P holds (g r) (w r) (h r) more)
comes_meets lay P holds (over z) o h more = h
comes_meets lay P holds unsaid o h more = tt

-- the same, where the acts are at their end
pub comes_through : {X Y : Type 0} (lay : X → State → Core) (P : X → State → Type 0) (later : Y → State → Core → Type 0)
    (m : Outcome (X × State)) (o : Outcome Core) (f : X × State → Outcome (Y × State)) → Comes lay P m o
    → ((x : X) (z : State) → P x z → Meets later (f (x, z)) (done (lay x z))) → Meets later (and_then m f) o
comes_through lay P later (done p) o f h more = subst (λ u. Meets later (f p) u) (sym h.0) (more p.0 p.1 h.1)
comes_through lay P later (faults j l z) o f h more = h
comes_through lay P later (asks a l z g) o f (w, e, h) more = (w, e, λ r. comes_through lay P later (g r) (w r) f (h r) more)
comes_through lay P later (over z) o f h more = h
comes_through lay P later unsaid o f h more = tt

-- acts at the end that leave the value as it is
pub comes_end : {X : Type 0} (lay lay' : X → State → Core) (P : X → State → Type 0) (m : Outcome (X × State)) (o : Outcome Core)
    (k : Core → Outcome Core)
    → Comes lay P m o → ((x : X) (s : State) → P x s → k (lay x s) ≡ done (lay' x s)) → Comes lay' P m (and_then o k)
comes_end lay lay' P (done p) o k h more = (ap (λ u. and_then u k) h.0 ∙ more p.0 p.1 h.1, h.1)
comes_end lay lay' P (faults j l z) o k h more = ap (λ u. and_then u k) h
comes_end lay lay' P (asks q l z g) o k (w, e, h) more =
    ((λ r. and_then (w r) k), ap (λ u. and_then u k) e, λ r. comes_end lay lay' P (g r) (w r) k (h r) more)
comes_end lay lay' P (over z) o k h more = ap (λ u. and_then u k) h
comes_end lay lay' P unsaid o k h more = tt

-- parts that stand together on the walk's side, or on the definition's
pub meets_apart : {X : Type 0} (holds : X → State → Core → Type 0) (m : Outcome (X × State)) (o : Outcome Core) (f g : Core → Outcome Core)
    → Meets holds m (and_then o (λ d. and_then (f d) g)) → Meets holds m (and_then (and_then o f) g)
meets_apart holds m o f g h = subst (Meets holds m) (sym (and_then_assoc o f g)) h

pub meets_said_apart : {X Y Z : Type 0} (holds : Z → State → Core → Type 0) (m : Outcome X) (f : X → Outcome Y)
    (g : Y → Outcome (Z × State)) (o : Outcome Core)
    → Meets holds (and_then m (λ x. and_then (f x) g)) o → Meets holds (and_then (and_then m f) g) o
meets_said_apart holds m f g o h = subst (λ u. Meets holds u o) (sym (and_then_assoc m f g)) h
