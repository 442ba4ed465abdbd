-- EVENT WAIT (ISO/IEC 1539-1:2018, 11.6.8): its acts come to what it does.
use Rattle.std.proofs.Common.{◌≡◌, refl, sym, subst, ℕ, ◌+◌, ℤ, pos, max, List, [], ◌∷◌, le_refl}
use Rattle.caf_base.specs.Arithmetic.{natural}
use Rattle.caf_events.specs.declared.ask.Ask.TheVariants as asked
use Rattle.caf_events.specs.declared.reply.Reply.{Reply}
use Rattle.caf_events.specs.declared.reply.Reply.TheVariants as replies
use Rattle.walk_theory.specs.Syntax.{Parts}
use Rattle.walk_theory.specs.Language.{asking as asking_act}
use Rattle.checked_tree.specs.declared.data.Object.TheVariants as objects
use Rattle.checked_tree.specs.declared.expr.WrittenOrder.{WrittenOrder}
use Rattle.checked_tree.specs.declared.expr.WrittenOrder.TheVariants as orders
use Rattle.checked_tree.specs.Expressions as t
use Rattle.image_acts.specs.Faults.{not_allocated}
use Rattle.image_acts.specs.Acts as a
use Rattle.image_acts.specs.Acts.{Act, ask}
use Rattle.image_acts.specs.Core.{Core, pushed}
use Rattle.image_acts.specs.Replies.{with_status}
use Rattle.image_acts.specs.Words.{word}
use Rattle.image_acts.specs.Operate.Asking.{span_of, has_cell}
use Rattle.tree_meaning.specs.Environment.{Environment}
use Rattle.tree_meaning.specs.Sequences.{◌▸◌, doing, dropping, copying, pushing, bringing}
use Rattle.tree_meaning.specs.Expressions.{expression, optional_size, optional_place}
use Rattle.tree_meaning.specs.Settling.{settling}
use Rattle.tree_meaning.specs.ImageControl as control
use Rattle.direct_meaning.specs.States.{State, state_of, with_state, own_in}
use Rattle.direct_meaning.specs.Outcomes.{Outcome, done, and_then, Does, giving, ◌▹◌, asking}
use Rattle.direct_meaning.specs.Told.{told}
use Rattle.direct_meaning.specs.Values.{Value, as_number}
use Rattle.direct_meaning.specs.Images.{the}
use Rattle.direct_meaning.specs.Expressions.{Passed, Target, nowhere, value, as_written, optional_target}
use Rattle.direct_meaning.specs.Synchronizing.{settle, number_in, own_cell, wait_for, threshold, this}
use Rattle.direct_meaning.specs.Statements.{or_number, waited}
use Rattle.direct_agreement.specs.Agreeing.{HasRoom}
use Rattle.direct_agreement.proofs.Agreement.{Kept, Comes, comes_then, comes_number, apart, said_apart, act_first, kept_more, room_beside}
use Rattle.direct_agreement.proofs.Scalars.{Keeps}
use Rattle.direct_access.proofs.Owners.{TargetOf, none, whole, part, with_target, test_then}
use Rattle.direct_laws.specs.Laws.{HasDimensions, SubscriptsWithin, ResultWithin, OptionWithin}
use Rattle.direct_laws.proofs.Subscripts.{put_target, Targeted}
use Rattle.direct_laws.proofs.Values.{value_comes, target_comes}
use Rattle.direct_statements.specs.Laws.{put_nothing}
use Rattle.direct_control.proofs.Settling.{settle_comes, target_dropped_with_two}
use Rattle.direct_locks.proofs.Cells.{point, owner_copied, cell_comes}

-- the number comes beneath the place of the variable
brought : (stat : t.OptionalResult) (h : Target) → TargetOf stat h → (l : ℕ) (v s : ℤ) (c : Core) (w : State)
    → told (bringing 1 (optional_size stat)) l (pushed v (with_state w (with_target (pushed s c) h))) ≡ done (with_state w
    (with_target (pushed v (pushed s c)) h))
brought stat h none l v s c w = refl
brought stat h (whole u j) l v s c w = refl
brought stat h (part u x es j i) l v s c w = refl

module _ (limit : ℕ) (e : Environment) (calls : ℕ → List Passed → Does Value) where
  number_or : {Y : Type 0} (lay : Y → State → Core) (P : Y → State → Type 0) (x : t.OptionalExpression) (u : ℤ) (f : ℤ → Does Y) (l : ℕ)
      (C : Core)
      (k : Core → Outcome Core) → HasRoom 64 C → OptionWithin 64 x
      → ((v : ℤ) (z : State) → Kept C.used z → Comes lay P (f v l z) (k (pushed v (with_state z C))))
      → Comes lay P ((or_number limit e calls x u ▹ f) l (state_of C)) (and_then (told (control.or_number e x (pushing u)) l C) k)
  number_or lay P t.missing u f l C k r h more = more u (state_of C) (le_refl C.used, r.0)
  number_or lay P (t.given x) u f l C k r h more =
      said_apart lay P (value e calls x l (state_of C)) (λ p. as_number p.0 l p.1) (λ p. f p.0 l p.1)
      (and_then (told (expression e x) l C) k)
      (comes_number lay P C.used (value e calls x) f l (state_of C) C (told (expression e x) l C) k
      (value_comes e calls 64 x l C r h) more)

  module _ (stat : t.OptionalResult) (within : ResultWithin 64 stat) (i l : ℕ) (c : Core) (room : HasRoom 64 c) where
    abbrev T : Parts Act
    T = dropping (optional_size stat + 2)

    abbrev K : Core → Outcome Core
    K = told (settling stat 1 [] ▸ T) l

    abbrev over_both : Target → ℤ → ℤ → State → Core
    over_both h v s w = with_state w (with_target (pushed v (pushed s c)) h)

    answered : (h : Target) → TargetOf stat h → (v s : ℤ) (q : Reply) (w : State) → Kept c.used w
        → Comes (put_nothing c) (Keeps c.used) ((number_in q ▹ settle stat h []) l w) (K (with_status q (over_both h v s w)))
    answered h ht v s (replies.Number z) w k =
        settle_comes stat h ht [] T z l w (pushed v (pushed s c)) c c.used k (λ y. target_dropped_with_two stat h ht l s v y c)
    answered h ht v s q w k = tt

    abbrev wait_parts : Parts Act
    wait_parts = copying (optional_size stat) 2 ▸ doing (ask (a.wait i) ∷ []) ▸ settling stat 1 [] ▸ T

    waits : (h : Target) → TargetOf stat h → (v s : ℤ) (w : State) → Kept c.used w
        → Comes (put_nothing c) (Keeps c.used) ((wait_for i (point s) v ▹ settle stat h []) l w) (told wait_parts l (over_both h v s w))
    waits h ht v s w k =
        let X : Act = ask (a.wait i) in
        let D : Core = over_both h v s w in
        let Y : Core = pushed v (pushed s D) in
        let S : ℤ → Does (Unit {0}) = settle stat h [] in
        let G : Does ℤ = the this ▹ (λ m. asking (asked.Wait m (span_of i (point s)) (threshold v)) ▹ number_in) in
        let L : Outcome (Unit {0} × State) = (wait_for i (point s) v ▹ S) l w in
        subst (λ o. Comes (put_nothing c) (Keeps c.used) L (and_then o (told (doing (X ∷ []) ▸ settling stat 1 [] ▸ T) l)))
        (sym (owner_copied stat h ht l c nowhere v s w))
        (said_apart (put_nothing c) (Keeps c.used) (own_cell i (point s) l w) (λ p. G l p.1) (λ p. S p.0 l p.1)
        (and_then (told (doing (X ∷ [])) l Y) K)
        (act_first (put_nothing c) (Keeps c.used) ((own_cell i (point s) ▹ (λ u. G ▹ S)) l w) X l Y K
        (test_then (put_nothing c) (Keeps c.used) (has_cell (own_in i w) (word s)) (giving tt) (λ u. G ▹ S) not_allocated l Y X
        (asking_act (asked.Wait (this w) (span_of i (point s)) (max (natural v) 1)) (λ r. with_status r D)) K
        ((λ r. K (with_status r D)), refl, λ r. answered h ht v s r w k))))

    -- the threshold and the variable, as they are written
    abbrev wanted : t.OptionalExpression → WrittenOrder → ℤ → Does (Unit {0})
    wanted until order s = as_written order (or_number limit e calls until (pos 1)) (optional_target e calls stat) (λ n h. wait_for i
        (point s) n ▹ settle stat h [])

    by_order : (until : t.OptionalExpression) (order : WrittenOrder) → OptionWithin 64 until → (s : ℤ) (y : State) → Kept c.used y
        → Comes (put_nothing c) (Keeps c.used) (wanted until order s l y)
        (told (control.put_down_as_written order (control.or_number e until (pushing (pos 1))) 1 (optional_place e stat)
        (optional_size stat) ▸ wait_parts) l
        (with_state y (pushed s c)))
    by_order until orders.Same h s y k =
        let C : Core = with_state y (pushed s c) in
        let W : Core → Outcome Core = told wait_parts l in
        let O : Core → Outcome Core = told (optional_place e stat) l in
        let F : ℤ → Does (Unit {0}) = λ n. optional_target e calls stat ▹ (λ g. wait_for i (point s) n ▹ settle stat g []) in
        apart (put_nothing c) (Keeps c.used) (wanted until orders.Same s l y) (told (control.or_number e until (pushing (pos 1))) l C) O W
        (number_or (put_nothing c) (Keeps c.used) until (pos 1) F l C (λ d. and_then (O d) W) (room_beside 64 c y room k) h
        (λ v z j.
        let E : Core = pushed v (with_state z C) in
        comes_then (put_target E) (Targeted E.used stat) (put_nothing c) (Keeps c.used) (optional_target e calls stat l z) (O E)
        (λ p. (wait_for i (point s) v ▹ settle stat p.0 []) l p.1) W
        (target_comes e calls 64 stat l E (room_beside 64 c z room (kept_more c.used y z k j)) within)
        (λ g w b. waits g b.0 v s w (kept_more c.used z w (kept_more c.used y z k j) b.1))))
    by_order until orders.Reversed h s y k =
        let C : Core = with_state y (pushed s c) in
        let W : Core → Outcome Core = told wait_parts l in
        let N : Core → Outcome Core = told (control.or_number e until (pushing (pos 1))) l in
        let B : Core → Outcome Core = told (bringing 1 (optional_size stat)) l in
        let F : Target → ℤ → Does (Unit {0}) = λ g n. wait_for i (point s) n ▹ settle stat g [] in
        apart (put_nothing c) (Keeps c.used) (wanted until orders.Reversed s l y) (told (optional_place e stat) l C) (λ d. and_then
        (N d) B) W
        (comes_then (put_target C) (Targeted C.used stat) (put_nothing c) (Keeps c.used) (optional_target e calls stat l y)
        (told (optional_place e stat) l C)
        (λ p. (or_number limit e calls until (pos 1) ▹ F p.0) l p.1) (λ d. and_then (and_then (N d) B) W)
        (target_comes e calls 64 stat l C (room_beside 64 c y room k) within)
        (λ g z b.
        let E : Core = put_target C g z in
        apart (put_nothing c) (Keeps c.used) ((or_number limit e calls until (pos 1) ▹ F g) l z) (N E) B W
        (number_or (put_nothing c) (Keeps c.used) until (pos 1) (F g) l E (λ d. and_then (B d) W) (room_beside 64 c z room
        (kept_more c.used y z k b.1)) h
        (λ v w j. subst (λ o. Comes (put_nothing c) (Keeps c.used) (F g v l w) (and_then o W)) (sym (brought stat g b.0 l v s c w))
        (waits g b.0 v s w (kept_more c.used z w (kept_more c.used y z k b.1) j))))))

  pub wait_comes : (i : ℕ) (ss : t.Subscripts) (until : t.OptionalExpression) (stat : t.OptionalResult) (order : WrittenOrder) (l : ℕ)
      (c : Core)
      → HasRoom 64 c → HasDimensions ss 0 → SubscriptsWithin 64 ss → OptionWithin 64 until → ResultWithin 64 stat
      → Comes (put_nothing c) (Keeps c.used) (waited limit e calls (t.part (objects.Coarray i) ss t.no_selector) until stat order l
      (state_of c))
      (told (control.event_wait e (t.part (objects.Coarray i) ss t.no_selector) until stat order) l c)
  wait_comes i ss until stat order l c room d w h q =
      let P : Parts Act = control.put_down_as_written order (control.or_number e until (pushing (pos 1))) 1 (optional_place e stat)
      (optional_size stat) in
      cell_comes limit e calls c i ss t.no_selector
      (λ p m g. as_written order (or_number limit e calls until (pos 1)) (optional_target e calls stat) (λ n f. wait_for i p n ▹
      settle stat f []))
      (told (dropping 1 ▸ P ▸ copying (optional_size stat) 2 ▸ doing (ask (a.wait i) ∷ []) ▸ settling stat 1 [] ▸ dropping
      (optional_size stat + 2)) l) l room d w tt
      (λ s m g y gt k. own_of g gt s m y k)
    where
      own_of : (g : Target) → TargetOf t.no_result g → (s : ℤ) (m : ℕ) (y : State) → Kept c.used y
          → Comes (put_nothing c) (Keeps c.used)
          (as_written order (or_number limit e calls until (pos 1)) (optional_target e calls stat) (λ n f. wait_for i (point s) n ▹
          settle stat f []) l y)
          (told (dropping 1 ▸ control.put_down_as_written order (control.or_number e until (pushing (pos 1))) 1 (optional_place e stat)
          (optional_size stat)
          ▸ copying (optional_size stat) 2 ▸ doing (ask (a.wait i) ∷ []) ▸ settling stat 1 [] ▸ dropping (optional_size stat + 2)) l
          (with_state y (pushed (pos m) (pushed s (with_target c g)))))
      own_of g none s m y k = by_order stat q i l c room until order h s y k
