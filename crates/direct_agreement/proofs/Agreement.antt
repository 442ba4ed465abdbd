-- Agreement, one step after another, with what is known of each value and of the state that it leaves.
use Rattle.std.proofs.Common.{◌≡◌, refl, ap, sym, subst, ℕ, ◌+◌, ◌≤◌, ℤ, List, [], ◌∷◌, ◌∙◌, length, arith, fold, zero-add}
use Rattle.std.proofs.Math.Path.{fun_ext}
use Rattle.caf_events.specs.declared.reply.Reply.{Reply}
use Rattle.walk_theory.specs.Syntax.{Parts, end_parts}
use Rattle.walk_theory.specs.Terms.{Found, found, at_fault}
use Rattle.image_acts.specs.Statuses.{most_cells}
use Rattle.image_acts.specs.Acts.{Act, operator}
use Rattle.image_acts.specs.Acts as a
use Rattle.image_acts.specs.Core.{Core, Array, pushed, with_array, with_values, elements_in}
use Rattle.image_acts.specs.Taking.{found_in, giving}
use Rattle.image_acts.specs.Meaning.{operate, settled, effect_of}
use Rattle.tree_meaning.specs.Sequences.{◌▸◌, doing}
use Rattle.direct_meaning.specs.States.{State, state_of, with_state}
use Rattle.direct_meaning.specs.Outcomes.{Outcome, done, faults, asks, over, unsaid, and_then, Does, ◌▹◌}
use Rattle.direct_meaning.specs.Told.{of_effect, told}
use Rattle.direct_meaning.specs.Values.{Value, number, array, as_number, as_array, ◌▹ℤ◌, ◌▹A◌}
use Rattle.direct_meaning.specs.Expressions.{number_found}
use Rattle.direct_agreement.specs.Agreeing.{Agrees, put_down, HasRoom}

-- evaluations one after another
pub and_then_assoc : {X Y Z : Type 0} (o : Outcome X) (f : X → Outcome Y) (g : Y → Outcome Z)
    → and_then (and_then o f) g ≡ and_then o (λ x. and_then (f x) g)
and_then_assoc (done x) f g = refl
and_then_assoc (faults k l z) f g = refl
and_then_assoc (asks b l z h) f g = ap (asks b l z) (fun_ext (λ r. and_then_assoc (h r) f g))
and_then_assoc (over z) f g = refl
and_then_assoc unsaid f g = refl

-- so many evaluation cells are in use, or more
abbrev pub Kept : ℕ → State → Type 0
Kept n z = (n ≤ z.used) × (z.used ≤ most_cells)

-- a value whose elements took their cells, of a rank that there is
abbrev pub Leaves : ℕ → Value → State → Type 0
Leaves n (number v) z = Kept n z
Leaves n (array a) z = Kept (n + length a.elements) z × (length a.extents ≤ 3)

-- the acts come to what the definition says, and this is known of what it comes to
abbrev pub Comes : {X : Type 0} → (X → State → Core) → (X → State → Type 0) → Outcome (X × State) → Outcome Core → Type 0
Comes lay P (done p) o = (o ≡ done (lay p.0 p.1)) × P p.0 p.1
Comes lay P (faults k l z) o = o ≡ faults k l z
Comes lay P (asks a l z f) o = (g : Reply → Outcome Core) × (o ≡ asks a l z g) × ((r : Reply) → Comes lay P (f r) (g r))
Comes lay P (over z) o = o ≡ over z
Comes lay P unsaid o = Unit {0}

pub comes_agrees : {X : Type 0} (lay : X → State → Core) (P : X → State → Type 0) (m : Outcome (X × State)) (o : Outcome Core)
    → Comes lay P m o → Agrees lay m o
comes_agrees lay P (done p) o h = h.0
comes_agrees lay P (faults k l z) o h = h
comes_agrees lay P (asks a l z f) o (g, e, h) = (g, e, λ r. comes_agrees lay P (f r) (g r) (h r))
comes_agrees lay P (over z) o h = h
comes_agrees lay P unsaid o h = tt

pub comes_then : {X Y : Type 0} (lay : X → State → Core) (P : X → State → Type 0) (lay' : Y → State → Core) (Q : Y → State → Type 0)
    (m : Outcome (X × State)) (o : Outcome Core) (f : X × State → Outcome (Y × State))
    (k : Core → Outcome Core) → Comes lay P m o → ((x : X) (s : State) → P x s → Comes lay' Q (f (x, s)) (k (lay x s)))
    → Comes lay' Q (and_then m f) (and_then o k)
comes_then lay P lay' Q (done p) o f k h more = subst (λ u. Comes lay' Q (f p) (and_then u k)) (sym h.0) (more p.0 p.1 h.1)
comes_then lay P lay' Q (faults j l z) o f k h more = ap (λ u. and_then u k) h
comes_then lay P lay' Q (asks b l z g) o f k (w, e, h) more =
    ((λ r. and_then (w r) k), ap (λ u. and_then u k) e, λ r. comes_then lay P lay' Q (g r) (w r) f k (h r) more)
comes_then lay P lay' Q (over z) o f k h more = ap (λ u. and_then u k) h
comes_then lay P lay' Q unsaid o f k h more = tt

-- parts that stand together on the walk's side, or on the definition's
pub apart : {X : Type 0} (lay : X → State → Core) (P : X → State → Type 0) (m : Outcome (X × State)) (o : Outcome Core)
    (f g : Core → Outcome Core)
    → Comes lay P m (and_then o (λ d. and_then (f d) g)) → Comes lay P m (and_then (and_then o f) g)
apart lay P m o f g h = subst (Comes lay P m) (sym (and_then_assoc o f g)) h

pub said_apart : {X Y Z : Type 0} (lay : Z → State → Core) (P : Z → State → Type 0) (m : Outcome X) (f : X → Outcome Y)
    (g : Y → Outcome (Z × State)) (o : Outcome Core)
    → Comes lay P (and_then m (λ x. and_then (f x) g)) o → Comes lay P (and_then (and_then m f) g) o
said_apart lay P m f g o h = subst (λ u. Comes lay P u o) (sym (and_then_assoc m f g)) h

-- evaluations with nothing behind them
and_nothing : (o : Outcome Core) → and_then o (λ d. done d) ≡ o
and_nothing (done x) = refl
and_nothing (faults k l z) = refl
and_nothing (asks b l z h) = ap (asks b l z) (fun_ext (λ r. and_nothing (h r)))
and_nothing (over z) = refl
and_nothing unsaid = refl

pub alone : {X : Type 0} (lay : X → State → Core) (P : X → State → Type 0) (m : Outcome (X × State)) (o : Outcome Core)
    → Comes lay P m (and_then o (λ d. done d)) → Comes lay P m o
alone lay P m o h = subst (Comes lay P m) (and_nothing o) h

-- one act, and then the others
pub act_first : {X : Type 0} (lay : X → State → Core) (P : X → State → Type 0) (m : Outcome (X × State)) (x : Act) (l : ℕ) (d : Core)
    (k : Core → Outcome Core)
    → Comes lay P m (and_then (of_effect l d (effect_of x d)) k) → Comes lay P m (and_then (told (doing (x ∷ [])) l d) k)
act_first lay P m x l d k h = apart lay P m (of_effect l d (effect_of x d)) (told end_parts l) k h

-- what is come to, seen as something else
pub comes_map : {X Y : Type 0} (lay : X → State → Core) (P : X → State → Type 0) (lay' : Y → State → Core) (Q : Y → State → Type 0)
    (f : X → Y) (m : Outcome (X × State)) (o : Outcome Core)
    → Comes lay P m o → ((x : X) (s : State) → P x s → (lay x s ≡ lay' (f x) s) × Q (f x) s)
    → Comes lay' Q (and_then m (λ p. done (f p.0, p.1))) o
comes_map lay P lay' Q f (done p) o h more = (h.0 ∙ ap (λ d. done d) (more p.0 p.1 h.1).0, (more p.0 p.1 h.1).1)
comes_map lay P lay' Q f (faults j l z) o h more = h
comes_map lay P lay' Q f (asks b l z g) o (w, e, h) more = (w, e, λ r. comes_map lay P lay' Q f (g r) (w r) (h r) more)
comes_map lay P lay' Q f (over z) o h more = h
comes_map lay P lay' Q f unsaid o h more = tt

-- the same, known otherwise
pub comes_as : {X : Type 0} (lay : X → State → Core) (P : X → State → Type 0) (lay' : X → State → Core) (Q : X → State → Type 0)
    (m : Outcome (X × State)) (o : Outcome Core)
    → Comes lay P m o → ((x : X) (s : State) → P x s → (lay x s ≡ lay' x s) × Q x s) → Comes lay' Q m o
comes_as lay P lay' Q (done p) o h more = (h.0 ∙ ap (λ d. done d) (more p.0 p.1 h.1).0, (more p.0 p.1 h.1).1)
comes_as lay P lay' Q (faults j l z) o h more = h
comes_as lay P lay' Q (asks b l z g) o (w, e, h) more = (w, e, λ r. comes_as lay P lay' Q (g r) (w r) (h r) more)
comes_as lay P lay' Q (over z) o h more = h
comes_as lay P lay' Q unsaid o h more = tt

-- cells in use over more cells in use
pub kept_more : (n : ℕ) (z y : State) → Kept n z → Kept z.used y → Kept n y
kept_more n z y h k = (omega arith, k.1)

-- the elements of one array more
sums_from : (n : ℕ) (xs : List Array) → fold (λ k x. k + length x.elements) n xs ≡ n + elements_in xs
sums_from n [] = omega arith
sums_from n (x ∷ xs) =
    let m : ℕ = length x.elements in
    let e : (n + m) + elements_in xs ≡ n + ((0 + m) + elements_in xs) = omega arith in
    sums_from (n + m) xs ∙ e ∙ ap (λ k. n + k) (sym (sums_from (0 + m) xs))

pub elements_more : (w : Array) (xs : List Array) → elements_in (w ∷ xs) ≡ length w.elements + elements_in xs
elements_more w xs = sums_from (0 + length w.elements) xs ∙ ap (λ n. n + elements_in xs) (zero-add (length w.elements))

-- room behind a number, and behind an array
pub room_beside : (n : ℕ) (c : Core) (z : State) → HasRoom n c → Kept c.used z → HasRoom n (with_state z c)
room_beside n c z r k = (k.1, omega arith)

pub room_behind : (n : ℕ) (c : Core) (w : Array) (z : State) → HasRoom n c → Kept (c.used + length w.elements) z
    → HasRoom n (with_array w (with_state z c))
room_behind n c w z r k =
    let e : elements_in (with_array w (with_state z c)).arrays ≡ length w.elements + elements_in c.arrays = elements_more w c.arrays in
    (k.1, omega (arith, e))

-- a scalar, and then what is made of it
number_more : {Y : Type 0} (lay' : Y → State → Core) (Q : Y → State → Type 0) (n : ℕ) (f : ℤ → Does Y) (l : ℕ) (c : Core)
    (k : Core → Outcome Core) → ((v : ℤ) (z : State) → Kept n z → Comes lay' Q (f v l z) (k (pushed v (with_state z c))))
    → (x : Value) (z : State) → Leaves n x z → Comes lay' Q ((as_number x ▹ f) l z) (k (put_down c x z))
number_more lay' Q n f l c k more (number v) z h = more v z h
number_more lay' Q n f l c k more (array w) z h = tt

pub comes_number : {Y : Type 0} (lay' : Y → State → Core) (Q : Y → State → Type 0) (n : ℕ) (m : Does Value) (f : ℤ → Does Y) (l : ℕ)
    (s : State) (c : Core) (o : Outcome Core) (k : Core → Outcome Core)
    → Comes (put_down c) (Leaves n) (m l s) o → ((v : ℤ) (z : State) → Kept n z → Comes lay' Q (f v l z) (k (pushed v (with_state z c))))
    → Comes lay' Q ((m ▹ℤ f) l s) (and_then o k)
comes_number lay' Q n m f l s c o k h more = comes_then (put_down c) (Leaves n) lay' Q (m l s) o (λ p. (as_number p.0 ▹ f) l p.1) k h
    (number_more lay' Q n f l c k more)

-- an array, and then what is made of it
array_more : {Y : Type 0} (lay' : Y → State → Core) (Q : Y → State → Type 0) (n : ℕ) (f : Array → Does Y) (l : ℕ) (c : Core)
    (k : Core → Outcome Core)
    → ((w : Array) (z : State) → Leaves n (array w) z → Comes lay' Q (f w l z) (k (with_array w (with_state z c))))
    → (x : Value) (z : State) → Leaves n x z → Comes lay' Q ((as_array x ▹ f) l z) (k (put_down c x z))
array_more lay' Q n f l c k more (number v) z h = tt
array_more lay' Q n f l c k more (array w) z h = more w z h

pub comes_array : {Y : Type 0} (lay' : Y → State → Core) (Q : Y → State → Type 0) (n : ℕ) (m : Does Value) (f : Array → Does Y) (l : ℕ)
    (s : State) (c : Core) (o : Outcome Core) (k : Core → Outcome Core)
    → Comes (put_down c) (Leaves n) (m l s) o
    → ((w : Array) (z : State) → Leaves n (array w) z → Comes lay' Q (f w l z) (k (with_array w (with_state z c))))
    → Comes lay' Q ((m ▹A f) l s) (and_then o k)
comes_array lay' Q n m f l s c o k h more = comes_then (put_down c) (Leaves n) lay' Q (m l s) o (λ p. (as_array p.0 ▹ f) l p.1) k h
    (array_more lay' Q n f l c k more)

-- what is found is put down
pub found_comes : (vs : List ℤ) (x : Act) (f : Found ℤ) (l : ℕ) (s : State) (c : Core) (n : ℕ) → Kept n s
    → Comes (put_down c) (Leaves n) (number_found f l s)
    (and_then (of_effect l (with_values (with_state s c) vs) (settled x (found_in f (λ z. giving z (with_state s c)))))
    (told end_parts l))
found_comes vs x (found v) l s c n h = (refl, h)
found_comes vs x (at_fault k) l s c n h = refl

-- one operand and its operator, and two
pub one_comes : (m : Does Value) (f : ℤ → Found ℤ) (o : a.OperatorAct) (p : Parts Act) (l : ℕ) (c : Core)
    → ((v : ℤ) (d : Core) → operate (operator o) (pushed v d) ≡ found_in (f v) (λ z. giving z d))
    → Comes (put_down c) (Leaves c.used) (m l (state_of c)) (told p l c)
    → Comes (put_down c) (Leaves c.used) ((m ▹ℤ (λ v. number_found (f v))) l (state_of c)) (told (p ▸ doing (operator o ∷ [])) l c)
one_comes m f o p l c acts h = comes_number (put_down c) (Leaves c.used) c.used m (λ v. number_found (f v)) l (state_of c) c (told p l c)
    (told (doing (operator o ∷ [])) l) h
    (λ v z b. subst (λ w. Comes (put_down c) (Leaves c.used) (number_found (f v) l z)
    (and_then (of_effect l (pushed v (with_state z c)) (settled (operator o) w)) (told end_parts l))) (sym (acts v (with_state z c)))
    (found_comes (v ∷ c.values) (operator o) (f v) l z c c.used b))

pub two_comes : (m n : Does Value) (f : ℤ → ℤ → Found ℤ) (o : a.OperatorAct) (p q : Parts Act) (l : ℕ) (c : Core)
    → ((v w : ℤ) (d : Core) → operate (operator o) (pushed w (pushed v d)) ≡ found_in (f v w) (λ z. giving z d))
    → Comes (put_down c) (Leaves c.used) (m l (state_of c)) (told p l c)
    → ((v : ℤ) (z : State) → Kept c.used z → Comes (put_down (pushed v (with_state z c))) (Leaves z.used) (n l z)
    (told q l (pushed v (with_state z c))))
    → Comes (put_down c) (Leaves c.used) ((m ▹ℤ (λ v. n ▹ℤ (λ w. number_found (f v w)))) l (state_of c))
    (told (p ▸ q ▸ doing (operator o ∷ [])) l c)
two_comes m n f o p q l c acts h k = comes_number (put_down c) (Leaves c.used) c.used m (λ v. n ▹ℤ (λ w. number_found (f v w))) l
    (state_of c) c (told p l c) (told (q ▸ doing (operator o ∷ [])) l) h
    (λ v z b. comes_number (put_down c) (Leaves c.used) z.used n (λ w. number_found (f v w)) l z (pushed v (with_state z c))
    (told q l (pushed v (with_state z c))) (told (doing (operator o ∷ [])) l) (k v z b)
    (λ w y d. subst (λ u. Comes (put_down c) (Leaves c.used) (number_found (f v w) l y)
    (and_then (of_effect l (pushed w (pushed v (with_state y c))) (settled (operator o) u)) (told end_parts l)))
    (sym (acts v w (with_state y c)))
    (found_comes (w ∷ v ∷ c.values) (operator o) (f v w) l y c c.used (kept_more c.used z y b d))))
