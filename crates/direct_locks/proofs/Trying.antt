-- LOCK with ACQUIRED_LOCK= (ISO/IEC 1539-1:2018, 11.6.10): its acts come to what it does.
use Rattle.std.proofs.Common.{◌≡◌, refl, ap, sym, subst, ℕ, suc, ◌+◌, ◌||◌, ℤ, pos, negsuc, Bool, List, [], ◌∷◌, length}
use Rattle.std.specs.Ordering.{int_eq}
use Rattle.caf_base.specs.Arithmetic.{truth}
use Rattle.caf_events.specs.declared.ask.Ask.TheVariants as asked
use Rattle.caf_events.specs.declared.reply.Reply.{Reply}
use Rattle.caf_events.specs.declared.reply.Reply.TheVariants as replies
use Rattle.walk_theory.specs.Syntax.{Parts}
use Rattle.checked_tree.specs.declared.data.Object.TheVariants as objects
use Rattle.checked_tree.specs.declared.expr.WrittenOrder.{WrittenOrder}
use Rattle.checked_tree.specs.declared.expr.WrittenOrder.TheVariants as orders
use Rattle.checked_tree.specs.Expressions as t
use Rattle.image_acts.specs.Statuses.{failed_image, unlocked_failed_image}
use Rattle.image_acts.specs.Acts as a
use Rattle.image_acts.specs.Acts.{Act, stack, ask}
use Rattle.image_acts.specs.Core.{Core, pushed, with_values}
use Rattle.image_acts.specs.Places.{Place}
use Rattle.image_acts.specs.Replies.{try_reply}
use Rattle.image_acts.specs.Taking.{put_down as put_numbers}
use Rattle.image_acts.specs.Operate.Asking.{span_of}
use Rattle.tree_meaning.specs.Environment.{Environment}
use Rattle.tree_meaning.specs.Sequences.{◌▸◌, doing, dropping, copying, bringing}
use Rattle.tree_meaning.specs.Expressions.{is_scalar, has_selector, stat_of, optional_size, optional_place, needing_own, storing}
use Rattle.tree_meaning.specs.Settling.{settling, settling_selector}
use Rattle.tree_meaning.specs.ImageControl as control
use Rattle.direct_meaning.specs.States.{State, state_of, with_state}
use Rattle.direct_meaning.specs.Outcomes.{Outcome, done, and_then, Does, ◌▹◌, asking}
use Rattle.direct_meaning.specs.Told.{told}
use Rattle.direct_meaning.specs.Values.{Value}
use Rattle.direct_meaning.specs.Images.{image}
use Rattle.direct_meaning.specs.Expressions.{Passed, Target, set_target, as_written, optional_target}
use Rattle.direct_meaning.specs.Synchronizing.{settle, tried_status, set_selector}
use Rattle.direct_meaning.specs.Statements.{try_cell, locked}
use Rattle.direct_agreement.specs.Agreeing.{HasRoom}
use Rattle.direct_agreement.proofs.Agreement.{Kept, Comes, comes_then, apart, kept_more, room_beside}
use Rattle.direct_agreement.proofs.Scalars.{Keeps}
use Rattle.direct_access.proofs.Owners.{TargetOf, none, whole, part, with_target}
use Rattle.direct_laws.specs.Laws.{HasDimensions, SubscriptsWithin, SelectorWithin, ResultWithin}
use Rattle.direct_laws.proofs.Subscripts.{put_target, Targeted}
use Rattle.direct_laws.proofs.Values.{target_comes}
use Rattle.direct_statements.specs.Laws.{put_nothing}
use Rattle.direct_control.proofs.Meeting.{comes_end}
use Rattle.direct_control.proofs.Settling.{settle_comes, stored_comes}
use Rattle.direct_locks.proofs.Cells.{point, needing, over_target, selector_set, cell_comes}

-- a status over one number, and the place of the variable beneath both
settle_two : (stat : t.OptionalResult) (h : Target) → TargetOf stat h → (accepted : List ℤ) (p : Parts Act) (v q : ℤ) (l : ℕ) (z : State)
    (C B : Core) (n : ℕ) → Kept n z → ((y : State) → told p l (pushed q (with_state y (with_target C h))) ≡ done (with_state y B))
    → Comes (put_nothing B) (Keeps n) (settle stat h accepted v l z)
    (told (settling stat 2 accepted ▸ p) l (pushed v (pushed q (with_state z (with_target C h)))))
settle_two stat h none accepted p v q l z C B n k e = settle_comes stat h none accepted p v l z (pushed q C) B n k e
settle_two stat h (whole u j) accepted p v q l z C B n k e =
    let R : t.ResultVariable = t.result_variable u t.no_expressions j in
    comes_end (put_nothing (pushed q C)) (put_nothing B) (Keeps n) (set_target h v l z)
    (told (storing 2 R) l (pushed v (pushed q (with_state z C)))) (told p l)
    (stored_comes R h (whole u j) (q ∷ []) v l z C n k) (λ x y w. e y)
settle_two stat h (part u x es j i) accepted p v q l z C B n k e =
    let R : t.ResultVariable = t.result_variable u (t.more_expressions x es) j in
    comes_end (put_nothing (pushed q (with_target C h))) (put_nothing B) (Keeps n) (set_target h v l z)
    (told (storing 2 R) l (pushed v (pushed q (with_state z (with_target C h))))) (told p l)
    (stored_comes R h (part u x es j i) (q ∷ []) v l z C n k) (λ y w f. e w)

-- the places of both variables over an owner and its place
abbrev over_two : Core → Target → ℤ → ℤ → Target → Target → State → Core
over_two c g o s b h w = with_state w (with_target (with_target (pushed o (pushed s (with_target c g))) b) h)

owner_copied : (r : t.ResultVariable) (b : Target) → TargetOf (t.result r) b → (stat : t.OptionalResult) (h : Target) → TargetOf stat h
    → (l : ℕ) (c : Core) (g : Target) (o s : ℤ) (q : State)
    → told (copying (optional_size (t.result r) + optional_size stat) 2) l (over_two c g o s b h q) ≡ done
    (pushed o (pushed s (over_two c g o s b h q)))
owner_copied r b (whole u j) stat h none l c g o s q = refl
owner_copied r b (whole u j) stat h (whole v k) l c g o s q = refl
owner_copied r b (whole u j) stat h (part v y fs k m) l c g o s q = refl
owner_copied r b (part u x es j i) stat h none l c g o s q = refl
owner_copied r b (part u x es j i) stat h (whole v k) l c g o s q = refl
owner_copied r b (part u x es j i) stat h (part v y fs k m) l c g o s q = refl

brought : (r : t.ResultVariable) (b : Target) → TargetOf (t.result r) b → (stat : t.OptionalResult) (h : Target) → TargetOf stat h
    → (l : ℕ) (C : Core) (q : State)
    → told (bringing (optional_size (t.result r)) (optional_size stat)) l (with_state q (with_target (with_target C h) b))
    ≡ done (with_state q (with_target (with_target C b) h))
brought r b (whole u j) stat h none l C q = refl
brought r b (whole u j) stat h (whole v k) l C q = refl
brought r b (whole u j) stat h (part v y fs k m) l C q = refl
brought r b (part u x es j i) stat h none l C q = refl
brought r b (part u x es j i) stat h (whole v k) l C q = refl
brought r b (part u x es j i) stat h (part v y fs k m) l C q = refl

all_dropped : (r : t.ResultVariable) (b : Target) → TargetOf (t.result r) b → (stat : t.OptionalResult) (h : Target) → TargetOf stat h
    → (ss : t.OptionalResult) (g : Target) → TargetOf ss g → (l : ℕ) (c : Core) (o s n : ℤ) (q : State)
    → told (dropping (1 + (optional_size (t.result r) + (optional_size stat + (optional_size ss + 2))))) l
    (pushed n (over_two c g o s b h q))
    ≡ done (with_state q c)
all_dropped r b (whole u j) stat h none ss g none l c o s n q = refl
all_dropped r b (whole u j) stat h none ss g (whole w f) l c o s n q = refl
all_dropped r b (whole u j) stat h none ss g (part w z gs f d) l c o s n q = refl
all_dropped r b (whole u j) stat h (whole v k) ss g none l c o s n q = refl
all_dropped r b (whole u j) stat h (whole v k) ss g (whole w f) l c o s n q = refl
all_dropped r b (whole u j) stat h (whole v k) ss g (part w z gs f d) l c o s n q = refl
all_dropped r b (whole u j) stat h (part v y fs k m) ss g none l c o s n q = refl
all_dropped r b (whole u j) stat h (part v y fs k m) ss g (whole w f) l c o s n q = refl
all_dropped r b (whole u j) stat h (part v y fs k m) ss g (part w z gs f d) l c o s n q = refl
all_dropped r b (part u x es j i) stat h none ss g none l c o s n q = refl
all_dropped r b (part u x es j i) stat h none ss g (whole w f) l c o s n q = refl
all_dropped r b (part u x es j i) stat h none ss g (part w z gs f d) l c o s n q = refl
all_dropped r b (part u x es j i) stat h (whole v k) ss g none l c o s n q = refl
all_dropped r b (part u x es j i) stat h (whole v k) ss g (whole w f) l c o s n q = refl
all_dropped r b (part u x es j i) stat h (whole v k) ss g (part w z gs f d) l c o s n q = refl
all_dropped r b (part u x es j i) stat h (part v y fs k m) ss g none l c o s n q = refl
all_dropped r b (part u x es j i) stat h (part v y fs k m) ss g (whole w f) l c o s n q = refl
all_dropped r b (part u x es j i) stat h (part v y fs k m) ss g (part w z gs f d) l c o s n q = refl

-- the acts behind the ask
abbrev behind_try : t.OptionalResult → t.ResultVariable → t.OptionalResult → Parts Act
behind_try ss r stat =
    settling_selector ss (optional_size (t.result r) + (optional_size stat + 5)) ▸ copying 1 1 ▸ storing (optional_size stat + 3) r ▸
    settling stat 2 (unlocked_failed_image ∷ []) ▸ dropping (1 + (optional_size (t.result r) + (optional_size stat + (optional_size ss + 2))))

-- behind the ask: what was acquired, and its status for both other variables
module _ (ss : t.OptionalResult) (g : Target) (gt : TargetOf ss g) (o s : ℤ) (l : ℕ) (c : Core) (n : ℕ) where
  abbrev A : List ℤ
  A = unlocked_failed_image ∷ []

  abbrev T : t.ResultVariable → t.OptionalResult → Parts Act
  T r stat = dropping (1 + (optional_size (t.result r) + (optional_size stat + (optional_size ss + 2))))

  abbrev Rest : t.ResultVariable → t.OptionalResult → Parts Act
  Rest r stat = settling stat 2 A ▸ T r stat

  abbrev Behind : t.ResultVariable → t.OptionalResult → Parts Act
  Behind r stat = settling_selector ss (optional_size (t.result r) + (optional_size stat + 5)) ▸ copying 1 1 ▸ storing
      (optional_size stat + 3) r ▸
      Rest r stat

  abbrev sets : Target → t.OptionalResult → Target → ℤ × ℤ → Does (Unit {0})
  sets b stat h z = set_selector g z.1 ▹ (λ u. set_target b z.0 ▹ (λ u. settle stat h A z.1))

  abbrev C : Core
  C = pushed o (pushed s (with_target c g))

  abbrev full : Target → Target → ℤ → ℤ → State → Core
  full b h q v w = pushed v (pushed q (over_two c g o s b h w))

  by_numbers : (r : t.ResultVariable) (b : Target) → TargetOf (t.result r) b → (stat : t.OptionalResult) (h : Target) → TargetOf stat h
      → (xs ys : List ℤ) (q v : ℤ) (w : State) → Kept n w
      → ((y : State) → with_state y (over_target c xs g) ≡ full b h q v y) → suc (length xs) ≡ optional_size (t.result r) +
      (optional_size stat + 5)
      → ((y : State) → with_state y (over_target C ys b) ≡ full b h q v y) → suc (length ys) ≡ optional_size stat + 3
      → Comes (put_nothing c) (Keeps n) (sets b stat h (q, v) l w) (told (Behind r stat) l (full b h q v w))
  by_numbers r b bt stat h ht xs ys q v w k e size f length' =
      let Q : Core → Outcome Core = told (copying 1 1 ▸ storing (optional_size stat + 3) r ▸ Rest r stat) l in
      subst (λ m. Comes (put_nothing c) (Keeps n) (sets b stat h (q, v) l w) (and_then (told (settling_selector ss m) l
      (full b h q v w)) Q)) size
      (comes_then (put_nothing (over_target c xs g)) (Keeps n) (put_nothing c) (Keeps n) (set_selector g v l w)
      (told (settling_selector ss (suc (length xs))) l (full b h q v w)) (λ p. (set_target b q ▹ (λ u. settle stat h A v)) l p.1) Q
      (selector_set ss g gt xs v l w c (pushed q (over_two c g o s b h w)) n k (e w))
      (λ u y j. subst (λ d. Comes (put_nothing c) (Keeps n) ((set_target b q ▹ (λ t. settle stat h A v)) l y) (Q d)) (sym (e y))
      (subst (λ m. Comes (put_nothing c) (Keeps n) ((set_target b q ▹ (λ t. settle stat h A v)) l y)
      (and_then (told (storing m r) l (pushed q (full b h q v y))) (told (Rest r stat) l))) length'
      (comes_then (put_nothing (over_target C ys b)) (Keeps n) (put_nothing c) (Keeps n) (set_target b q l y)
      (told (storing (suc (length ys)) r) l (pushed q (full b h q v y))) (λ p. settle stat h A v l p.1) (told (Rest r stat) l)
      (subst (λ d. Comes (put_nothing (over_target C ys b)) (Keeps n) (set_target b q l y) (told (storing (suc (length ys)) r) l
      (pushed q d))) (f y)
      (stored_comes r b bt ys q l y C n j))
      (λ t z i. subst (λ d. Comes (put_nothing c) (Keeps n) (settle stat h A v l z) (told (Rest r stat) l d)) (sym (f z))
      (settle_two stat h ht A (T r stat) v q l z (with_target C b) c n i (λ x. all_dropped r b bt stat h ht ss g gt l c o s q x)))))))

  all_set : (r : t.ResultVariable) (b : Target) → TargetOf (t.result r) b → (stat : t.OptionalResult) (h : Target) → TargetOf stat h
      → (q v : ℤ) (w : State) → Kept n w → Comes (put_nothing c) (Keeps n) (sets b stat h (q, v) l w) (told (Behind r stat) l
      (full b h q v w))
  all_set r b (whole u j) stat h none q v w d = by_numbers r b (whole u j) stat h none (s ∷ o ∷ q ∷ v ∷ []) (q ∷ v ∷ []) q v w d
      (λ f. refl) refl (λ f. refl) refl
  all_set r b (whole u j) stat h (whole y k) q v w d = by_numbers r b (whole u j) stat h (whole y k) (s ∷ o ∷ q ∷ v ∷ [])
      (q ∷ v ∷ []) q v w d (λ f. refl) refl (λ f. refl) refl
  all_set r b (whole u j) stat h (part y z fs k m) q v w d = by_numbers r b (whole u j) stat h (part y z fs k m) (s ∷ o ∷ m ∷ q ∷ v ∷ [])
      (m ∷ q ∷ v ∷ []) q v w d (λ f. refl) refl (λ f. refl) refl
  all_set r b (part u x es j i) stat h none q v w d = by_numbers r b (part u x es j i) stat h none (s ∷ o ∷ i ∷ q ∷ v ∷ [])
      (q ∷ v ∷ []) q v w d (λ f. refl) refl (λ f. refl) refl
  all_set r b (part u x es j i) stat h (whole y k) q v w d = by_numbers r b (part u x es j i) stat h (whole y k) (s ∷ o ∷ i ∷ q ∷ v ∷ [])
      (q ∷ v ∷ []) q v w d (λ f. refl) refl (λ f. refl) refl
  all_set r b (part u x es j i) stat h (part y z fs k m) q v w d = by_numbers r b (part u x es j i) stat h (part y z fs k m)
      (s ∷ o ∷ i ∷ m ∷ q ∷ v ∷ []) (m ∷ q ∷ v ∷ []) q v w d (λ f. refl) refl (λ f. refl) refl

  replied : (r : t.ResultVariable) (b : Target) → TargetOf (t.result r) b → (stat : t.OptionalResult) (h : Target) → TargetOf stat h
      → (p : Reply) (w : State) → Kept n w
      → Comes (put_nothing c) (Keeps n) ((tried_status p ▹ sets b stat h) l w)
      (and_then (told (doing (stack a.accessed ∷ [])) l (try_reply (over_two c g o s b h w) p)) (told (Behind r stat) l))
  replied r b bt stat h ht (replies.Number (pos v)) w k = all_set r b bt stat h ht (truth (int_eq (pos v) (pos 0) || int_eq
      (pos v) unlocked_failed_image)) (pos v) w k
  replied r b bt stat h ht (replies.Number (negsuc v)) w k = tt
  replied r b bt stat h ht replies.Busy w k = all_set r b bt stat h ht (pos 0) (pos 0) w k
  replied r b bt stat h ht replies.Dead w k = all_set r b bt stat h ht (pos 0) failed_image w k
  replied r b bt stat h ht replies.Absent w k = refl
  replied r b bt stat h ht p w k = tt

module _ (limit : ℕ) (e : Environment) (calls : ℕ → List Passed → Does Value) where
  abbrev pub rest : ℕ → Bool → t.Selector → t.ResultVariable → t.OptionalResult → Parts Act
  rest i is_whole sel r stat =
      needing_own i is_whole sel ▸ copying (optional_size (t.result r) + optional_size stat) 2 ▸ doing
      (ask (a.try_lock i) ∷ stack a.accessed ∷ []) ▸
      behind_try (stat_of sel) r stat

  tried : (c : Core) (i : ℕ) (is_whole : Bool) (sel : t.Selector) (r : t.ResultVariable) (stat : t.OptionalResult) (b h g : Target) (s : ℤ)
      (m l : ℕ)
      (w : State) (n : ℕ) → TargetOf (stat_of sel) g → TargetOf (t.result r) b → TargetOf stat h → Kept n w
      → Comes (put_nothing c) (Keeps n) (try_cell limit e calls i (is_whole || has_selector sel) (point s) m g r b stat h l w)
      (told (rest i is_whole sel r stat) l (over_two c g (pos m) s b h w))
  tried c i is_whole sel r stat b h g s m l w n gt bt ht k =
      let D : Core = over_two c g (pos m) s b h w in
      let B : Core → Outcome Core = told (behind_try (stat_of sel) r stat) l in
      let V : Core → Outcome Core = told (doing (stack a.accessed ∷ [])) l in
      let E : Core → Outcome Core = λ d. and_then (told (doing (ask (a.try_lock i) ∷ stack a.accessed ∷ [])) l d) B in
      let S : ℤ × ℤ → Does (Unit {0}) = λ z. set_selector g z.1 ▹ (λ u. set_target b z.0 ▹ (λ u. settle stat h
      (unlocked_failed_image ∷ []) z.1)) in
      let M : Does (Unit {0}) = asking (asked.TryLock (image m) (span_of i (point s))) ▹ (λ q. tried_status q ▹ S) in
      needing c D n i is_whole sel M (λ d. and_then (told (copying (optional_size (t.result r) + optional_size stat) 2) l d) E) l
      (subst (λ o. Comes (put_nothing c) (Keeps n) (M l w) (and_then o E)) (sym (owner_copied r b bt stat h ht l c g (pos m) s w))
      ((λ q. and_then (V (try_reply D q)) B), refl, λ q. replied (stat_of sel) g gt (pos m) s l c n r b bt stat h ht q w k))

  -- both variables, as they are written
  module _ (c : Core) (i : ℕ) (is_whole : Bool) (sel : t.Selector) (r : t.ResultVariable) (stat : t.OptionalResult) (l : ℕ)
      (room : HasRoom 64 c)
      (bw : ResultWithin 64 (t.result r)) (hw : ResultWithin 64 stat) where
    abbrev W : Core → Outcome Core
    W = told (rest i is_whole sel r stat) l

    abbrev tries : ℤ → ℕ → Target → Target → Target → Does (Unit {0})
    tries s m g b h = try_cell limit e calls i (is_whole || has_selector sel) (point s) m g r b stat h

    by_order : (order : WrittenOrder) (s : ℤ) (m : ℕ) (g : Target) (y : State) → TargetOf (stat_of sel) g → Kept c.used y
        → Comes (put_nothing c) (Keeps c.used) (as_written order (optional_target e calls (t.result r)) (optional_target e calls stat)
        (tries s m g) l y)
        (told (control.put_down_as_written order (optional_place e (t.result r)) (optional_size (t.result r)) (optional_place e stat)
        (optional_size stat) ▸
        rest i is_whole sel r stat) l (with_state y (pushed (pos m) (pushed s (with_target c g)))))
    by_order orders.Same s m g y gt k =
        let O : Core = with_state y (pushed (pos m) (pushed s (with_target c g))) in
        let N : Core → Outcome Core = told (optional_place e stat) l in
        let F : Target → Does (Unit {0}) = λ b. optional_target e calls stat ▹ tries s m g b in
        apart (put_nothing c) (Keeps c.used) ((optional_target e calls (t.result r) ▹ F) l y)
        (told (optional_place e (t.result r)) l O) N W
        (comes_then (put_target O) (Targeted O.used (t.result r)) (put_nothing c) (Keeps c.used) (optional_target e calls (t.result r) l y)
        (told (optional_place e (t.result r)) l O) (λ p. F p.0 l p.1) (λ d. and_then (N d) W)
        (target_comes e calls 64 (t.result r) l O (room_beside 64 c y room k) bw)
        (λ b z j.
        let P : Core = put_target O b z in
        comes_then (put_target P) (Targeted P.used stat) (put_nothing c) (Keeps c.used) (optional_target e calls stat l z) (N P)
        (λ p. tries s m g b p.0 l p.1) W (target_comes e calls 64 stat l P (room_beside 64 c z room (kept_more c.used y z k j.1)) hw)
        (λ h w q. tried c i is_whole sel r stat b h g s m l w c.used gt j.0 q.0 (kept_more c.used z w (kept_more c.used y z k j.1) q.1))))
    by_order orders.Reversed s m g y gt k =
        let O : Core = with_state y (pushed (pos m) (pushed s (with_target c g))) in
        let N : Core → Outcome Core = told (optional_place e (t.result r)) l in
        let B : Core → Outcome Core = told (bringing (optional_size (t.result r)) (optional_size stat)) l in
        let F : Target → Does (Unit {0}) = λ h. optional_target e calls (t.result r) ▹ (λ b. tries s m g b h) in
        apart (put_nothing c) (Keeps c.used) ((optional_target e calls stat ▹ F) l y) (told (optional_place e stat) l O) (λ d. and_then
        (N d) B) W
        (comes_then (put_target O) (Targeted O.used stat) (put_nothing c) (Keeps c.used) (optional_target e calls stat l y)
        (told (optional_place e stat) l O) (λ p. F p.0 l p.1) (λ d. and_then (and_then (N d) B) W)
        (target_comes e calls 64 stat l O (room_beside 64 c y room k) hw)
        (λ h z j.
        let P : Core = put_target O h z in
        apart (put_nothing c) (Keeps c.used) (F h l z) (N P) B W
        (comes_then (put_target P) (Targeted P.used (t.result r)) (put_nothing c) (Keeps c.used) (optional_target e calls (t.result r) l z)
        (N P)
        (λ p. tries s m g p.0 h l p.1) (λ d. and_then (B d) W)
        (target_comes e calls 64 (t.result r) l P (room_beside 64 c z room (kept_more c.used y z k j.1)) bw)
        (λ b w q. subst (λ o. Comes (put_nothing c) (Keeps c.used) (tries s m g b h l w) (and_then o W))
        (sym (brought r b q.0 stat h j.0 l (pushed (pos m) (pushed s (with_target c g))) w))
        (tried c i is_whole sel r stat b h g s m l w c.used gt q.0 j.0 (kept_more c.used z w (kept_more c.used y z k j.1) q.1))))))

  pub try_comes : (i : ℕ) (ss : t.Subscripts) (sel : t.Selector) (r : t.ResultVariable) (stat : t.OptionalResult) (order : WrittenOrder)
      (l : ℕ)
      (c : Core) → HasRoom 64 c → HasDimensions ss 0 → SubscriptsWithin 64 ss → SelectorWithin 64 sel → ResultWithin 64 (t.result r)
      → ResultWithin 64 stat
      → Comes (put_nothing c) (Keeps c.used) (locked limit e calls (t.part (objects.Coarray i) ss sel) (t.result r) stat order l
      (state_of c))
      (told (control.lock e (t.part (objects.Coarray i) ss sel) (t.result r) stat order) l c)
  try_comes i ss sel r stat order l c room d w v bw hw =
      let b : Bool = is_scalar ss 0 in
      cell_comes limit e calls c i ss sel
      (λ p m g. as_written order (optional_target e calls (t.result r)) (optional_target e calls stat) (λ f h. try_cell limit e calls i
      (b || has_selector sel) p m g r f stat h))
      (told (control.put_down_as_written order (optional_place e (t.result r)) (optional_size (t.result r)) (optional_place e stat)
      (optional_size stat) ▸
      rest i b sel r stat) l) l room d w v
      (λ s m g y gt k. by_order c i b sel r stat l room bw hw order s m g y gt k)
