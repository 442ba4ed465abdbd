-- Simple statements, and the heads of constructs: a condition with its evaluation cells, which are free again behind it.
use Rattle.std.proofs.Common.{◌≡◌, refl, ap, sym, subst, ◌∙◌, ℕ, ℤ, Bool, true, false, cond, List, [], ◌∷◌, le_refl}
use Rattle.walk_theory.specs.Syntax.{Parts, Steps}
use Rattle.walk_theory.specs.Walks.{Task, Config, eval, to}
use Rattle.checked_tree.specs.declared.data.DataType.{DataType}
use Rattle.checked_tree.specs.Expressions as t
use Rattle.checked_tree.specs.Statements as s
use Rattle.image_acts.specs.Acts as a
use Rattle.image_acts.specs.Acts.{Act, stack}
use Rattle.image_acts.specs.Core.{Core, pushed}
use Rattle.tree_meaning.specs.Environment.{Environment}
use Rattle.tree_meaning.specs.Sequences.{◌▸◌, doing, takes, released}
use Rattle.tree_meaning.specs.Expressions.{expression}
use Rattle.tree_meaning.specs.Forms as walk
use Rattle.direct_meaning.specs.States.{State, state_of, with_state}
use Rattle.direct_meaning.specs.Outcomes.{Outcome, done, faults as faulty, asks as asked, over, unsaid, and_then, Does}
use Rattle.direct_meaning.specs.Told.{told}
use Rattle.direct_meaning.specs.Values.{Value, number, array, as_number}
use Rattle.direct_meaning.specs.Expressions.{Passed, value}
use Rattle.direct_meaning.specs.Statements as meaning
use Rattle.direct_meaning.specs.Statements.{Control, onward, num, form, assignment, output}
use Rattle.direct_agreement.specs.Agreeing.{Agrees, put_down, HasRoom}
use Rattle.direct_laws.specs.Laws.{IsCovered}
use Rattle.direct_laws.proofs.Values.{expression_law}
use Rattle.direct_released.specs.Laws.{put_control, IsFree, parts_in, IsSimple}
use Rattle.direct_released.proofs.Quiet.{Leaves, q_then, q_number}
use Rattle.direct_released.proofs.QuietTrees.{quiet_value}
use Rattle.direct_released.proofs.Released.{statement_law}
use Rattle.direct_hidden.specs.Hiding.{IsBlind}
use Rattle.direct_hidden.specs.Laws.{AreBlind}
use Rattle.direct_hidden.proofs.BlindStatements.{b_num, b_released}
use Rattle.direct_walks.specs.Walking.{Beside, core_of, Walks}
use Rattle.direct_walks.specs.Ready.{IsReady, GoesOn}
use Rattle.direct_walks.proofs.Walking.{Only, Left, parts_walk, walks_as}
use Rattle.direct_walks.proofs.Cells.{keeps_all, ready_after}

-- evaluation cells are free again
abbrev pub freed : {X : Type 0} → X × State → Outcome (X × State)
freed p = done (p.0, record p.1 { used = p.1.frame.base })

abbrev pub IsFreed : {X : Type 0} → X → State → Type 0
IsFreed x z = z.used ≡ z.frame.base

pub freed_only : {X : Type 0} (m : Outcome (X × State)) → Only IsFreed (and_then m freed)
freed_only (done p) = refl
freed_only (faulty k l z) = tt
freed_only (asked a l z f) = λ r. freed_only (f r)
freed_only (over z) = tt
freed_only unsaid = tt

abbrev pub Frees : {X : Type 0} → (X → State → Core) → Type 0
Frees {X} lay = (x : X) (z : State) → record (lay x z) { used = (lay x z).frame.base } ≡ lay x (record z { used = z.frame.base })

freed_by_act : {X : Type 0} (lay : X → State → Core) (l : ℕ) (m : Outcome (X × State)) (o : Outcome Core) → Frees lay → Agrees lay m o
    → Agrees lay (and_then m freed) (and_then o (told (doing (stack a.release ∷ [])) l))
freed_by_act lay l (done p) o fr h = ap (λ u. and_then u (told (doing (stack a.release ∷ [])) l)) h ∙ ap (λ d. done d) (fr p.0 p.1)
freed_by_act lay l (faulty k j z) o fr h = ap (λ u. and_then u (told (doing (stack a.release ∷ [])) l)) h
freed_by_act lay l (asked q j z f) o fr (g, i, h) = (
  (λ r. and_then (g r) (told (doing (stack a.release ∷ [])) l)),
  ap (λ u. and_then u (told (doing (stack a.release ∷ [])) l))
      i,
  λ r. freed_by_act lay l (f r) (g r) fr (h r),
)
freed_by_act lay l (over z) o fr h = ap (λ u. and_then u (told (doing (stack a.release ∷ [])) l)) h
freed_by_act lay l unsaid o fr h = tt

freed_already : {X : Type 0} (lay : X → State → Core) (c : Core) (m : Outcome (X × State)) (o : Outcome Core) → IsFree c → Agrees lay m o
    → Leaves (state_of c) m → Agrees lay (and_then m freed) o
freed_already lay c (done p) o b h k = h ∙ ap (λ u. done (lay p.0 (record p.1 { used = u }))) (k.0 ∙ b ∙ sym k.1)
freed_already lay c (faulty j l z) o b h k = h
freed_already lay c (asked q l z f) o b (g, i, h) k = (g, i, λ r. freed_already lay c (f r) (g r) b (h r) (k r))
freed_already lay c (over z) o b h k = h
freed_already lay c unsaid o b h k = tt

pub freed_agrees : {X : Type 0} (lay : X → State → Core) (l : ℕ) (c : Core) (p : Parts Act) (t : Bool) (m : Outcome (X × State))
    → Frees lay → takes p ≡ t → IsFree c → Agrees lay m (told p l c) → (t ≡ false → Leaves (state_of c) m)
    → Agrees lay (and_then m freed) (told (cond t (p ▸ doing (stack a.release ∷ [])) p) l c)
freed_agrees lay l c p true m fr e b h k = freed_by_act lay l m (told p l c) fr h
freed_agrees lay l c p false m fr e b h k = freed_already lay c m (told p l c) b h (k refl)

-- a number over what was there
abbrev pub put_number : Core → ℤ → State → Core
put_number c v z = pushed v (with_state z c)

number_agrees : (c : Core) (l : ℕ) (m : Outcome (Value × State)) (o : Outcome Core) → Agrees (put_down c) m o
    → Agrees (put_number c) (and_then m (λ p. as_number p.0 l p.1)) o
number_agrees c l (done (number v, z)) o h = h
number_agrees c l (done (array w, z)) o h = tt
number_agrees c l (faulty k j z) o h = h
number_agrees c l (asked q j z f) o (g, i, h) = (g, i, λ r. number_agrees c l (f r) (g r) (h r))
number_agrees c l (over z) o h = h
number_agrees c l unsaid o h = tt

module _ (limit : ℕ) (e : Environment) (calls : ℕ → List Passed → Does Value) where
  pub num_agrees : (x : t.Expression) (l : ℕ) (c : Core) → HasRoom 64 c → IsCovered x
      → Agrees (put_number c) (num limit e calls x l (state_of c)) (told (expression e x) l c)
  num_agrees x l c r h = number_agrees c l (value e calls x l (state_of c)) (told (expression e x) l c) (expression_law e calls x l c r h)

  released_agrees : (x : t.Expression) (l : ℕ) (c : Core) → HasRoom 64 c → IsFree c → IsCovered x
      → Agrees (put_number c) (meaning.released (num limit e calls x) l (state_of c)) (told (released (expression e x)) l c)
  released_agrees x l c r b h =
      freed_agrees (put_number c) l c (expression e x) (takes (expression e x)) (num limit e calls x l (state_of c)) (λ v z. refl) refl b
      (num_agrees x l c r h)
      (λ q. q_then (value e calls x) as_number (quiet_value e calls 64 x h q) q_number l (state_of c))

  module _ (procedures : ℕ → Steps Act) (blind : AreBlind calls) (most lines : ℕ) where
    -- behind a condition: its value, and ready for what follows
    abbrev pub Tells : List (Task Act) → Core → Beside → ℕ → ℤ → State → Config Act Core → Type 0
    Tells ts c b n v z d = (d ≡ to ts (pushed v (core_of c b z)) n) × IsReady e most lines c b z

    pub condition_walks : (x : t.Expression) (l n : ℕ) (ts : List (Task Act)) (c : Core) (b : Beside) (z : State) → IsCovered x
        → IsReady e most lines c b z
        → Walks procedures limit (Tells ts c b n) (meaning.released (num limit e calls x) l z)
        (to (eval l (released (expression e x)) ∷ ts) (core_of c b z) n)
    condition_walks x l n ts c b z h r =
        walks_as procedures limit (Left IsFreed (put_number (core_of c b z)) b.hidden z ts n) (Tells ts c b n)
        (meaning.released (num limit e calls x) l z) (to (eval l (released (expression e x)) ∷ ts) (core_of c b z) n)
        (parts_walk procedures limit IsFreed (put_number (core_of c b z)) (meaning.released (num limit e calls x)) (released (expression e x)) l
        n ts c b z (freed_only (num limit e calls x l z)) (b_released (num limit e calls x) (b_num limit e calls blind x))
        (released_agrees x l (core_of c b z) (r.cells, r.room) r.free h))
        (λ v y d k. (k.2, ready_after e most lines c b z y r k.1 k.0))

    -- a simple statement goes on with what is behind it
    abbrev pub Onward : ℕ → Control × ℕ → State → Type 0
    Onward n q z = (q ≡ (onward, n)) × (z.used ≡ z.frame.base)

    onward_only : (n : ℕ) (m : Outcome (Unit {0} × State)) → Only (Onward n) (and_then (and_then m freed) (λ p. done ((onward, n), p.1)))
    onward_only n (done p) = (refl, refl)
    onward_only n (faulty k l z) = tt
    onward_only n (asked a l z f) = λ r. onward_only n (f r)
    onward_only n (over z) = tt
    onward_only n unsaid = tt

    -- what a simple statement comes to, where it goes on
    pub simple_walks : (f : s.StatementForm) (l n h : ℕ) (ts : List (Task Act)) (c : Core) (b : Beside) (z : State)
        → IsSimple f (core_of c b z) → IsReady e most lines c b z → IsBlind (form limit e calls l f n)
        → Only (Onward n) (form limit e calls l f n l z)
        → Walks procedures limit (GoesOn e most lines h ts c b n) (form limit e calls l f n l z)
        (to (eval l (parts_in (walk.form e l f)) ∷ ts) (core_of c b z) n)
    simple_walks f l n h ts c b z i r k only =
        walks_as procedures limit (Left (Onward n) (put_control (core_of c b z)) b.hidden z ts n) (GoesOn e most lines h ts c b n)
        (form limit e calls l f n l z) (to (eval l (parts_in (walk.form e l f)) ∷ ts) (core_of c b z) n)
        (parts_walk procedures limit (Onward n) (put_control (core_of c b z)) (form limit e calls l f n) (parts_in (walk.form e l f)) l n ts c b
        z only k (statement_law limit e calls f l n (core_of c b z) (r.cells, r.room) r.free i))
        (λ q y d w. goes_from q y d w)
      where
        goes_from : (q : Control × ℕ) (y : State) (d : Config Act Core)
            → Left (Onward n) (put_control (core_of c b z)) b.hidden z ts n q y d → GoesOn e most lines h ts c b n q y d
        goes_from q y d w =
            subst (λ p. GoesOn e most lines h ts c b n p y d) (sym w.0.0)
            (b, w.2, keeps_all h b, le_refl n, ready_after e most lines c b z y r w.1 w.0.1)

    pub assign_only : (l n : ℕ) (z : State) (d : t.Designator) (type : DataType) (rank : ℕ) (x : t.Expression)
        → Only (Onward n) (form limit e calls l (s.assign d type rank x) n l z)
    assign_only l n z d type rank x = onward_only n (assignment limit e calls d type rank x l z)

    pub print_only : (l n : ℕ) (z : State) (f : s.Format) (xs : List s.Item) → Only (Onward n) (form limit e calls l (s.print f xs) n l z)
    print_only l n z f xs = onward_only n (output limit e calls f xs l z)
