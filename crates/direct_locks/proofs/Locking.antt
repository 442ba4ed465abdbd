-- LOCK, UNLOCK, EVENT POST and EVENT WAIT (ISO/IEC 1539-1:2018, 11.6.7, 11.6.8, 11.6.10): what is known of each, and of
-- its parts.
use Rattle.std.proofs.Common.{◌≡◌, refl, ℕ, ◌+◌, ◌||◌, ℤ, pos, negsuc, Bool, false, cond, List, [], ◌∷◌}
use Rattle.std.specs.Ordering.{int_eq}
use Rattle.caf_events.specs.declared.ask.Ask.{Ask}
use Rattle.caf_events.specs.declared.ask.Ask.TheVariants as asked
use Rattle.caf_events.specs.declared.reply.Reply.{Reply}
use Rattle.caf_events.specs.declared.reply.Reply.TheVariants as replies
use Rattle.walk_theory.specs.Syntax.{Parts}
use Rattle.checked_tree.specs.declared.data.Object.TheVariants as objects
use Rattle.checked_tree.specs.declared.expr.WrittenOrder.{WrittenOrder}
use Rattle.checked_tree.specs.declared.expr.WrittenOrder.TheVariants as orders
use Rattle.checked_tree.specs.Expressions as t
use Rattle.checked_tree.specs.Statements as s
use Rattle.image_acts.specs.Faults.{not_allocated}
use Rattle.image_acts.specs.Statuses.{failed_image, unlocked_failed_image}
use Rattle.image_acts.specs.Acts as a
use Rattle.image_acts.specs.Acts.{Act, stack, bounded, ask}
use Rattle.image_acts.specs.Core.{Core}
use Rattle.image_acts.specs.Places.{Place}
use Rattle.image_acts.specs.Words.{word}
use Rattle.image_acts.specs.Operate.Asking.{span_of, has_cell}
use Rattle.tree_meaning.specs.Environment.{Environment}
use Rattle.tree_meaning.specs.Sequences.{◌▸◌, doing, dropping, copying, pushing, bringing, takes}
use Rattle.tree_meaning.specs.Expressions as parts
use Rattle.tree_meaning.specs.Expressions.{expression, form_of, is_scalar, has_selector, stat_of, optional_size, optional_place, needing_own}
use Rattle.tree_meaning.specs.Settling.{settling, settling_selector}
use Rattle.tree_meaning.specs.ImageControl as control
use Rattle.direct_meaning.specs.States.{state_of, own_in}
use Rattle.direct_meaning.specs.Outcomes.{Does, giving, ◌▹◌, asking}
use Rattle.direct_meaning.specs.Told.{told}
use Rattle.direct_meaning.specs.Values.{Value, as_number, coarray_part, need_own}
use Rattle.direct_meaning.specs.Images.{this_image, image, the}
use Rattle.direct_meaning.specs.Expressions.{Passed, Target, nowhere, set_target, value, all_of, as_written, optional_target}
use Rattle.direct_meaning.specs.Synchronizing.{settle, number_in, cell_status, tried_status, set_selector, own_cell, wait_for, threshold, this}
use Rattle.direct_meaning.specs.Statements.{or_number, image_of, on_cell, at_cell, try_cell, unlocked, posted, locked, waited}
use Rattle.direct_agreement.specs.Agreeing.{HasSpare}
use Rattle.direct_agreement.proofs.Agreement.{Comes}
use Rattle.direct_agreement.proofs.Scalars.{Keeps}
use Rattle.direct_laws.specs.Laws.{SubscriptsWithin, SelectorWithin, ResultWithin, OptionWithin}
use Rattle.direct_statements.specs.Laws.{put_nothing}
use Rattle.direct_released.proofs.Quiet.{IsQuiet, q_then, q_unless, q_asking, q_number, neither}
use Rattle.direct_released.proofs.QuietSteps.{q_the, q_coarray_part, q_need_own, q_this_image, q_set_target, q_written}
use Rattle.direct_released.proofs.QuietTrees.{all_quiet, selected_quiet, selector_of, quiet_value, quiet_subscripts, quiet_scalars, quiet_selected, quiet_target}
use Rattle.direct_hidden.specs.Hiding.{IsBlind}
use Rattle.direct_hidden.specs.Laws.{AreBlind}
use Rattle.direct_hidden.proofs.Blind.{b_then, b_giving, b_unless, b_asking, b_the}
use Rattle.direct_hidden.proofs.BlindSteps.{b_coarray_part, b_need_own, b_this_image, b_set_target, b_written}
use Rattle.direct_hidden.proofs.BlindTrees.{blind_all, blind_scalars, blind_selected, blind_target, selected_blind}
use Rattle.direct_hidden.proofs.BlindStatements.{b_or_number}
use Rattle.direct_control.specs.Meeting.{Lies}
use Rattle.direct_control.proofs.Meeting.{comes_meets}
use Rattle.direct_control.proofs.Quiet.{q_settle, q_number_in}
use Rattle.direct_control.proofs.Blind.{b_settle, b_number_in}
use Rattle.direct_control.proofs.Freed.{Performs, simply_meets}
use Rattle.direct_locks.specs.Laws.{IsCell, IsOwnCell, LockLaw}
use Rattle.direct_locks.proofs.Cells.{stated}
use Rattle.direct_locks.proofs.Trying.{rest, try_comes}
use Rattle.direct_locks.proofs.Waiting.{wait_comes}

-- steps
q_cell_status : (r : Reply) → IsQuiet (cell_status r)
q_cell_status (replies.Number (pos n)) = λ l z. (refl, refl)
q_cell_status (replies.Number (negsuc n)) = λ l z. tt
q_cell_status replies.Dead = λ l z. (refl, refl)
q_cell_status replies.Absent = λ l z. tt
q_cell_status r = λ l z. tt

b_cell_status : (r : Reply) → IsBlind (cell_status r)
b_cell_status (replies.Number (pos n)) = b_giving (pos n)
b_cell_status (replies.Number (negsuc n)) = λ hs l z. tt
b_cell_status replies.Dead = b_giving failed_image
b_cell_status replies.Absent = λ hs l z. refl
b_cell_status r = λ hs l z. tt

q_set_selector : (g : Target) (v : ℤ) → IsQuiet (set_selector g v)
q_set_selector g v = q_set_target g (cond (int_eq v failed_image) failed_image (pos 0))

b_set_selector : (g : Target) (v : ℤ) → IsBlind (set_selector g v)
b_set_selector g v = b_set_target g (cond (int_eq v failed_image) failed_image (pos 0))

q_tried_status : (r : Reply) → IsQuiet (tried_status r)
q_tried_status (replies.Number (pos n)) = λ l z. (refl, refl)
q_tried_status (replies.Number (negsuc n)) = λ l z. tt
q_tried_status replies.Busy = λ l z. (refl, refl)
q_tried_status replies.Dead = λ l z. (refl, refl)
q_tried_status replies.Absent = λ l z. tt
q_tried_status r = λ l z. tt

b_tried_status : (r : Reply) → IsBlind (tried_status r)
b_tried_status (replies.Number (pos n)) = λ hs l z. (refl, (refl, refl))
b_tried_status (replies.Number (negsuc n)) = λ hs l z. tt
b_tried_status replies.Busy = λ hs l z. (refl, (refl, refl))
b_tried_status replies.Dead = λ hs l z. (refl, (refl, refl))
b_tried_status replies.Absent = λ hs l z. refl
b_tried_status r = λ hs l z. tt

q_wait_for : (i : ℕ) (p : Place) (v : ℤ) → IsQuiet (wait_for i p v)
q_wait_for i p v =
    let G : Does ℤ = the this ▹ (λ m. asking (asked.Wait m (span_of i p) (threshold v)) ▹ number_in) in
    q_then (own_cell i p) (λ u. G) (λ l z. q_unless not_allocated (has_cell (own_in i z) (word p.start)) (giving tt)
    (λ m y. (refl, refl)) l z)
    (λ u. q_then (the this) (λ m. asking (asked.Wait m (span_of i p) (threshold v)) ▹ number_in) (q_the this)
    (λ m. q_then (asking (asked.Wait m (span_of i p) (threshold v))) number_in (q_asking (asked.Wait m (span_of i p)
    (threshold v))) q_number_in))

b_wait_for : (i : ℕ) (p : Place) (v : ℤ) → IsBlind (wait_for i p v)
b_wait_for i p v =
    let G : Does ℤ = the this ▹ (λ m. asking (asked.Wait m (span_of i p) (threshold v)) ▹ number_in) in
    b_then (own_cell i p) (λ u. G) (λ hs l z. b_unless not_allocated (has_cell (own_in i z) (word p.start)) (giving tt)
    (b_giving tt) hs l z)
    (λ u. b_then (the this) (λ m. asking (asked.Wait m (span_of i p) (threshold v)) ▹ number_in) (b_the this (λ hs z. refl))
    (λ m. b_then (asking (asked.Wait m (span_of i p) (threshold v))) number_in (b_asking (asked.Wait m (span_of i p)
    (threshold v))) b_number_in))

-- parts as they are written
down_takes : (order : WrittenOrder) (p q : Parts Act) (m n : ℕ) → takes (control.put_down_as_written order p m q n) ≡ false
    → (takes p ≡ false) × (takes q ≡ false)
down_takes orders.Same p q m n h = neither (takes p) (takes q) h
down_takes orders.Reversed p q m n h =
    let k = neither (takes q) (takes (p ▸ bringing m n)) h in ((neither (takes p) (takes (bringing m n)) k.1).0, k.0)

module _ (limit : ℕ) (e : Environment) (calls : ℕ → List Passed → Does Value) where
  q_at_cell : (x : ℕ → Place → ℕ → Ask) (c : ℕ) (b : Bool) (p : Place) (m : ℕ) (g : Target) (stat : t.OptionalResult) (h : Target)
      (accepted : List ℤ)
      → IsQuiet (at_cell limit e calls x c b p m g stat h accepted)
  q_at_cell x c b p m g stat h accepted =
      let F : ℤ → Does (Unit {0}) = λ v. set_selector g v ▹ (λ u. settle stat h accepted v) in
      q_then (need_own b c) (λ u. asking (x c p m) ▹ (λ r. cell_status r ▹ F)) (q_need_own b c)
      (λ u. q_then (asking (x c p m)) (λ r. cell_status r ▹ F) (q_asking (x c p m))
      (λ r. q_then (cell_status r) F (q_cell_status r)
      (λ v. q_then (set_selector g v) (λ u. settle stat h accepted v) (q_set_selector g v) (λ u. q_settle stat h accepted v))))

  b_at_cell : (x : ℕ → Place → ℕ → Ask) (c : ℕ) (b : Bool) (p : Place) (m : ℕ) (g : Target) (stat : t.OptionalResult) (h : Target)
      (accepted : List ℤ)
      → IsBlind (at_cell limit e calls x c b p m g stat h accepted)
  b_at_cell x c b p m g stat h accepted =
      let F : ℤ → Does (Unit {0}) = λ v. set_selector g v ▹ (λ u. settle stat h accepted v) in
      b_then (need_own b c) (λ u. asking (x c p m) ▹ (λ r. cell_status r ▹ F)) (b_need_own b c)
      (λ u. b_then (asking (x c p m)) (λ r. cell_status r ▹ F) (b_asking (x c p m))
      (λ r. b_then (cell_status r) F (b_cell_status r)
      (λ v. b_then (set_selector g v) (λ u. settle stat h accepted v) (b_set_selector g v) (λ u. b_settle stat h accepted v))))

  q_try_cell : (c : ℕ) (b : Bool) (p : Place) (m : ℕ) (g : Target) (r : t.ResultVariable) (f : Target) (stat : t.OptionalResult)
      (h : Target)
      → IsQuiet (try_cell limit e calls c b p m g r f stat h)
  q_try_cell c b p m g r f stat h =
      let A : List ℤ = unlocked_failed_image ∷ [] in
      let X : Ask = asked.TryLock (image m) (span_of c p) in
      let G : ℤ × ℤ → Does (Unit {0}) = λ z. set_target f z.0 ▹ (λ u. settle stat h A z.1) in
      let F : ℤ × ℤ → Does (Unit {0}) = λ z. set_selector g z.1 ▹ (λ u. G z) in
      q_then (need_own b c) (λ u. asking X ▹ (λ q. tried_status q ▹ F)) (q_need_own b c)
      (λ u. q_then (asking X) (λ q. tried_status q ▹ F) (q_asking X)
      (λ q. q_then (tried_status q) F (q_tried_status q)
      (λ z. q_then (set_selector g z.1) (λ u. G z) (q_set_selector g z.1)
      (λ u. q_then (set_target f z.0) (λ u. settle stat h A z.1) (q_set_target f z.0) (λ u. q_settle stat h A z.1)))))

  b_try_cell : (c : ℕ) (b : Bool) (p : Place) (m : ℕ) (g : Target) (r : t.ResultVariable) (f : Target) (stat : t.OptionalResult)
      (h : Target)
      → IsBlind (try_cell limit e calls c b p m g r f stat h)
  b_try_cell c b p m g r f stat h =
      let A : List ℤ = unlocked_failed_image ∷ [] in
      let X : Ask = asked.TryLock (image m) (span_of c p) in
      let G : ℤ × ℤ → Does (Unit {0}) = λ z. set_target f z.0 ▹ (λ u. settle stat h A z.1) in
      let F : ℤ × ℤ → Does (Unit {0}) = λ z. set_selector g z.1 ▹ (λ u. G z) in
      b_then (need_own b c) (λ u. asking X ▹ (λ q. tried_status q ▹ F)) (b_need_own b c)
      (λ u. b_then (asking X) (λ q. tried_status q ▹ F) (b_asking X)
      (λ q. b_then (tried_status q) F (b_tried_status q)
      (λ z. b_then (set_selector g z.1) (λ u. G z) (b_set_selector g z.1)
      (λ u. b_then (set_target f z.0) (λ u. settle stat h A z.1) (b_set_target f z.0) (λ u. b_settle stat h A z.1)))))

  -- what comes behind a cell
  q_image_of : (i : ℕ) (p : Place) (sel : t.Selector) (F : ℕ → Target → Does (Unit {0})) → SelectorWithin 64 sel
      → takes (parts.owner e i 0 sel) ≡ false
      → ((m : ℕ) (g : Target) → IsQuiet (F m g)) → IsQuiet (image_of limit e calls i p sel F)
  q_image_of i p t.no_selector F w q more = q_then (this_image p) (λ m. F m nowhere) (q_this_image p) (λ m. more m nowhere)
  q_image_of i p (t.selector cs which stat) F w q more =
      let j = selector_of e calls i 0 cs which stat q in
      selected_quiet e calls i cs which stat p F (quiet_scalars e calls 64 cs w.0 j.0) (quiet_selected e calls 64 which w.1 j.1)
      (quiet_target e calls 64 stat w.2 j.2) more

  q_cell : (i : ℕ) (ss : t.Subscripts) (sel : t.Selector) (F : Place → ℕ → Target → Does (Unit {0})) → SubscriptsWithin 64 ss
      → SelectorWithin 64 sel
      → takes (control.cell e (t.part (objects.Coarray i) ss sel)) ≡ false → ((p : Place) (m : ℕ) (g : Target) → IsQuiet (F p m g))
      → IsQuiet (all_of e calls ss 0 ▹ (λ xs. coarray_part i 0 xs ▹ (λ p. image_of limit e calls i p sel (F p))))
  q_cell i ss sel F w v q more =
      let G : Place → Does (Unit {0}) = λ p. image_of limit e calls i p sel (F p) in
      let j = neither (takes (parts.subscripts e ss)) (takes (parts.owner e i 0 sel)) q in
      q_then (all_of e calls ss 0) (λ xs. coarray_part i 0 xs ▹ G) (all_quiet e calls ss 0 (quiet_subscripts e calls 64 ss w j.0))
      (λ xs. q_then (coarray_part i 0 xs) G (q_coarray_part i 0 xs) (λ p. q_image_of i p sel (F p) v j.1 (more p)))

  -- a statement with one ask of a cell
  abbrev with_ask : (ℕ → Place → ℕ → Ask) → t.Designator → t.OptionalResult → List ℤ → Does (Unit {0})
  with_ask x d stat accepted = on_cell limit e calls d (λ c there p i g. optional_target e calls stat ▹
      (λ h. at_cell limit e calls x c there p i g stat h accepted))

  abbrev behind_stat : Act → ℕ → Bool → t.Selector → t.OptionalResult → List ℤ → Parts Act
  behind_stat X i is_whole sel stat accepted =
      needing_own i is_whole sel ▸ copying (optional_size stat) 2 ▸ doing (X ∷ stack a.accessed ∷ [])
      ▸ settling_selector (stat_of sel) (optional_size stat + 4) ▸ settling stat 1 accepted ▸ dropping (optional_size stat + (optional_size
      (stat_of sel) + 2))

  q_with_ask : (x : ℕ → Place → ℕ → Ask) (X : Act) (i : ℕ) (ss : t.Subscripts) (sel : t.Selector) (stat : t.OptionalResult)
      (accepted : List ℤ)
      → SubscriptsWithin 64 ss → SelectorWithin 64 sel → ResultWithin 64 stat
      → takes (control.cell e (t.part (objects.Coarray i) ss sel) ▸ optional_place e stat ▸ behind_stat X i
      (is_scalar ss 0) sel stat accepted) ≡ false
      → IsQuiet (with_ask x (t.part (objects.Coarray i) ss sel) stat accepted)
  q_with_ask x X i ss sel stat accepted w v h q =
      let b : Bool = is_scalar ss 0 || has_selector sel in
      let R : Parts Act = behind_stat X i (is_scalar ss 0) sel stat accepted in
      let j = neither (takes (control.cell e (t.part (objects.Coarray i) ss sel))) (takes (optional_place e stat ▸ R)) q in
      let k = neither (takes (optional_place e stat)) (takes R) j.1 in
      q_cell i ss sel (λ p m g. optional_target e calls stat ▹ (λ f. at_cell limit e calls x i b p m g stat f accepted)) w v j.0
      (λ p m g. q_then (optional_target e calls stat) (λ f. at_cell limit e calls x i b p m g stat f accepted)
      (quiet_target e calls 64 stat h k.0)
      (λ f. q_at_cell x i b p m g stat f accepted))

  -- the acts, as parts meet a statement
  performs : (m : Does (Unit {0})) (p : Parts Act) (l : ℕ) → (takes p ≡ false → IsQuiet m)
      → ((c : Core) → HasSpare c → Comes (put_nothing c) (Keeps c.used) (m l (state_of c)) (told p l c)) → Performs m p l
  performs m p l q h = record {
    quiet = q;
    meets = λ c r. comes_meets (put_nothing c) (Keeps c.used) (Lies c) (m l (state_of c)) (told p l c) (h c r) (λ u z k. refl);
  }

  pub unlock_performs : (d : t.Designator) (stat : t.OptionalResult) (l : ℕ) → IsCell d → ResultWithin 64 stat
      → Performs (unlocked limit e calls d stat) (control.unlock e d stat) l
  unlock_performs (t.part (objects.Coarray i) ss sel) stat l h w =
      let x : ℕ → Place → ℕ → Ask = λ k p m. asked.Unlock (image m) (span_of k p) in
      performs (unlocked limit e calls (t.part (objects.Coarray i) ss sel) stat) (control.unlock e
      (t.part (objects.Coarray i) ss sel) stat) l
      (q_with_ask x (ask (a.unlock i)) i ss sel stat [] h.1 h.2 w)
      (λ c r. stated limit e calls (λ k. ask (a.unlock k)) x (λ k m v d. refl) c i ss sel stat [] l r h.0 h.1 h.2 w)
  unlock_performs (t.part (objects.Local v) ss sel) stat l h w = elim h [ ]
  unlock_performs (t.part (objects.Constant v) ss sel) stat l h w = elim h [ ]

  pub post_performs : (d : t.Designator) (stat : t.OptionalResult) (l : ℕ) → IsCell d → ResultWithin 64 stat
      → Performs (posted limit e calls d stat) (control.event_post e d stat) l
  post_performs (t.part (objects.Coarray i) ss sel) stat l h w =
      let x : ℕ → Place → ℕ → Ask = λ k p m. asked.Post (image m) (span_of k p) in
      performs (posted limit e calls (t.part (objects.Coarray i) ss sel) stat) (control.event_post e
      (t.part (objects.Coarray i) ss sel) stat) l
      (q_with_ask x (ask (a.post i)) i ss sel stat [] h.1 h.2 w)
      (λ c r. stated limit e calls (λ k. ask (a.post k)) x (λ k m v d. refl) c i ss sel stat [] l r h.0 h.1 h.2 w)
  post_performs (t.part (objects.Local v) ss sel) stat l h w = elim h [ ]
  post_performs (t.part (objects.Constant v) ss sel) stat l h w = elim h [ ]

  pub lock_performs : (d : t.Designator) (stat : t.OptionalResult) (order : WrittenOrder) (l : ℕ) → IsCell d → ResultWithin 64 stat
      → Performs (locked limit e calls d t.no_result stat order) (control.lock e d t.no_result stat order) l
  lock_performs (t.part (objects.Coarray i) ss sel) stat order l h w =
      let x : ℕ → Place → ℕ → Ask = λ k p m. asked.Lock (image m) (span_of k p) in
      let A : List ℤ = unlocked_failed_image ∷ [] in
      performs (locked limit e calls (t.part (objects.Coarray i) ss sel) t.no_result stat order) (control.lock e
      (t.part (objects.Coarray i) ss sel) t.no_result stat order) l
      (q_with_ask x (ask (a.lock i)) i ss sel stat A h.1 h.2 w)
      (λ c r. stated limit e calls (λ k. ask (a.lock k)) x (λ k m v d. refl) c i ss sel stat A l r h.0 h.1 h.2 w)
  lock_performs (t.part (objects.Local v) ss sel) stat order l h w = elim h [ ]
  lock_performs (t.part (objects.Constant v) ss sel) stat order l h w = elim h [ ]

  -- LOCK with ACQUIRED_LOCK=
  q_tried : (i : ℕ) (ss : t.Subscripts) (sel : t.Selector) (r : t.ResultVariable) (stat : t.OptionalResult) (order : WrittenOrder)
      → SubscriptsWithin 64 ss → SelectorWithin 64 sel → ResultWithin 64 (t.result r) → ResultWithin 64 stat
      → takes (control.lock e (t.part (objects.Coarray i) ss sel) (t.result r) stat order) ≡ false
      → IsQuiet (locked limit e calls (t.part (objects.Coarray i) ss sel) (t.result r) stat order)
  q_tried i ss sel r stat order w v bw hw q =
      let b : Bool = is_scalar ss 0 || has_selector sel in
      let P : Parts Act = optional_place e (t.result r) in
      let O : Parts Act = optional_place e stat in
      let W : Parts Act = control.put_down_as_written order P (optional_size (t.result r)) O (optional_size stat) in
      let R : Parts Act = rest limit e calls i (is_scalar ss 0) sel r stat in
      let j = neither (takes (control.cell e (t.part (objects.Coarray i) ss sel))) (takes (W ▸ R)) q in
      let k = down_takes order P O (optional_size (t.result r)) (optional_size stat) (neither (takes W) (takes R) j.1).0 in
      q_cell i ss sel
      (λ p m g. as_written order (optional_target e calls (t.result r)) (optional_target e calls stat)
      (λ f h. try_cell limit e calls i b p m g r f stat h))
      w v j.0
      (λ p m g. q_written order (optional_target e calls (t.result r)) (optional_target e calls stat)
      (λ f h. try_cell limit e calls i b p m g r f stat h)
      (quiet_target e calls 64 (t.result r) bw k.0) (quiet_target e calls 64 stat hw k.1) (λ f h. q_try_cell i b p m g r f stat h))

  pub try_performs : (d : t.Designator) (r : t.ResultVariable) (stat : t.OptionalResult) (order : WrittenOrder) (l : ℕ) → IsCell d
      → ResultWithin 64 (t.result r) → ResultWithin 64 stat
      → Performs (locked limit e calls d (t.result r) stat order) (control.lock e d (t.result r) stat order) l
  try_performs (t.part (objects.Coarray i) ss sel) r stat order l h w v =
      performs (locked limit e calls (t.part (objects.Coarray i) ss sel) (t.result r) stat order)
      (control.lock e (t.part (objects.Coarray i) ss sel) (t.result r) stat order) l (q_tried i ss sel r stat order h.1 h.2 w v)
      (λ c room. try_comes limit e calls i ss sel r stat order l c room h.0 h.1 h.2 w v)
  try_performs (t.part (objects.Local u) ss sel) r stat order l h w v = elim h [ ]
  try_performs (t.part (objects.Constant u) ss sel) r stat order l h w v = elim h [ ]

  -- EVENT WAIT
  q_or_number : (x : t.OptionalExpression) (u : ℤ) → OptionWithin 64 x → takes (control.or_number e x (pushing u)) ≡ false
      → IsQuiet (or_number limit e calls x u)
  q_or_number t.missing u h q = λ l z. (refl, refl)
  q_or_number (t.given x) u h q = q_then (value e calls x) as_number (quiet_value e calls 64 x h q) q_number

  abbrev wait_end : ℕ → t.OptionalResult → Parts Act
  wait_end i stat = copying (optional_size stat) 2 ▸ doing (ask (a.wait i) ∷ []) ▸ settling stat 1 [] ▸ dropping (optional_size stat + 2)

  q_waited : (i : ℕ) (ss : t.Subscripts) (until : t.OptionalExpression) (stat : t.OptionalResult) (order : WrittenOrder)
      → SubscriptsWithin 64 ss
      → OptionWithin 64 until → ResultWithin 64 stat
      → takes (control.event_wait e (t.part (objects.Coarray i) ss t.no_selector) until stat order) ≡ false
      → IsQuiet (waited limit e calls (t.part (objects.Coarray i) ss t.no_selector) until stat order)
  q_waited i ss until stat order w h v q =
      let N : Parts Act = control.or_number e until (pushing (pos 1)) in
      let O : Parts Act = optional_place e stat in
      let W : Parts Act = control.put_down_as_written order N 1 O (optional_size stat) in
      let j = neither (takes (control.cell e (t.part (objects.Coarray i) ss t.no_selector))) (takes (W ▸ wait_end i stat)) q in
      let k = down_takes order N O 1 (optional_size stat) (neither (takes W) (takes (wait_end i stat)) j.1).0 in
      q_cell i ss t.no_selector
      (λ p m g. as_written order (or_number limit e calls until (pos 1)) (optional_target e calls stat) (λ n f. wait_for i p n ▹
      settle stat f [])) w tt j.0
      (λ p m g. q_written order (or_number limit e calls until (pos 1)) (optional_target e calls stat) (λ n f. wait_for i p n ▹
      settle stat f [])
      (q_or_number until (pos 1) h k.0) (quiet_target e calls 64 stat v k.1)
      (λ n f. q_then (wait_for i p n) (settle stat f []) (q_wait_for i p n) (q_settle stat f [])))

  pub wait_performs : (d : t.Designator) (until : t.OptionalExpression) (stat : t.OptionalResult) (order : WrittenOrder) (l : ℕ)
      → IsOwnCell d
      → OptionWithin 64 until → ResultWithin 64 stat → Performs (waited limit e calls d until stat order)
      (control.event_wait e d until stat order) l
  wait_performs (t.part (objects.Coarray i) ss t.no_selector) until stat order l h w v =
      performs (waited limit e calls (t.part (objects.Coarray i) ss t.no_selector) until stat order)
      (control.event_wait e (t.part (objects.Coarray i) ss t.no_selector) until stat order) l (q_waited i ss until stat order h.1 w v)
      (λ c r. wait_comes limit e calls i ss until stat order l c r h.0 h.1 w v)
  wait_performs (t.part (objects.Coarray i) ss (t.selector cs which x)) until stat order l h w v = elim h [ ]
  wait_performs (t.part (objects.Local u) ss sel) until stat order l h w v = elim h [ ]
  wait_performs (t.part (objects.Constant u) ss sel) until stat order l h w v = elim h [ ]

  -- hidden cells mean nothing to them
  module _ (blind : AreBlind calls) where
    b_image_of : (i : ℕ) (p : Place) (sel : t.Selector) (F : ℕ → Target → Does (Unit {0})) → ((m : ℕ) (g : Target) → IsBlind (F m g))
        → IsBlind (image_of limit e calls i p sel F)
    b_image_of i p t.no_selector F more = b_then (this_image p) (λ m. F m nowhere) (b_this_image p) (λ m. more m nowhere)
    b_image_of i p (t.selector cs which stat) F more =
        selected_blind e calls blind i cs which stat p F (blind_scalars e calls blind cs) (blind_selected e calls blind which)
        (blind_target e calls blind stat) more

    b_cell : (i : ℕ) (ss : t.Subscripts) (sel : t.Selector) (F : Place → ℕ → Target → Does (Unit {0})) → ((p : Place) (m : ℕ) (g : Target)
        → IsBlind (F p m g))
        → IsBlind (all_of e calls ss 0 ▹ (λ xs. coarray_part i 0 xs ▹ (λ p. image_of limit e calls i p sel (F p))))
    b_cell i ss sel F more =
        let G : Place → Does (Unit {0}) = λ p. image_of limit e calls i p sel (F p) in
        b_then (all_of e calls ss 0) (λ xs. coarray_part i 0 xs ▹ G) (blind_all e calls blind ss 0)
        (λ xs. b_then (coarray_part i 0 xs) G (b_coarray_part i 0 xs) (λ p. b_image_of i p sel (F p) (more p)))

    b_with_ask : (x : ℕ → Place → ℕ → Ask) (d : t.Designator) (stat : t.OptionalResult) (accepted : List ℤ) → IsCell d → IsBlind
        (with_ask x d stat accepted)
    b_with_ask x (t.part (objects.Coarray i) ss sel) stat accepted h =
        let b : Bool = is_scalar ss 0 || has_selector sel in
        b_cell i ss sel (λ p m g. optional_target e calls stat ▹ (λ f. at_cell limit e calls x i b p m g stat f accepted))
        (λ p m g. b_then (optional_target e calls stat) (λ f. at_cell limit e calls x i b p m g stat f accepted)
        (blind_target e calls blind stat)
        (λ f. b_at_cell x i b p m g stat f accepted))
    b_with_ask x (t.part (objects.Local v) ss sel) stat accepted h = elim h [ ]
    b_with_ask x (t.part (objects.Constant v) ss sel) stat accepted h = elim h [ ]

    pub b_unlocked : (d : t.Designator) (stat : t.OptionalResult) → IsCell d → IsBlind (unlocked limit e calls d stat)
    b_unlocked d stat h = b_with_ask (λ k p m. asked.Unlock (image m) (span_of k p)) d stat [] h

    pub b_posted : (d : t.Designator) (stat : t.OptionalResult) → IsCell d → IsBlind (posted limit e calls d stat)
    b_posted d stat h = b_with_ask (λ k p m. asked.Post (image m) (span_of k p)) d stat [] h

    pub b_locked : (d : t.Designator) (stat : t.OptionalResult) (order : WrittenOrder) → IsCell d → IsBlind
        (locked limit e calls d t.no_result stat order)
    b_locked d stat order h = b_with_ask (λ k p m. asked.Lock (image m) (span_of k p)) d stat (unlocked_failed_image ∷ []) h

    pub b_tried : (d : t.Designator) (r : t.ResultVariable) (stat : t.OptionalResult) (order : WrittenOrder) → IsCell d
        → IsBlind (locked limit e calls d (t.result r) stat order)
    b_tried (t.part (objects.Coarray i) ss sel) r stat order h =
        let b : Bool = is_scalar ss 0 || has_selector sel in
        b_cell i ss sel
        (λ p m g. as_written order (optional_target e calls (t.result r)) (optional_target e calls stat)
        (λ f h. try_cell limit e calls i b p m g r f stat h))
        (λ p m g. b_written order (optional_target e calls (t.result r)) (optional_target e calls stat)
        (λ f h. try_cell limit e calls i b p m g r f stat h)
        (blind_target e calls blind (t.result r)) (blind_target e calls blind stat) (λ f h. b_try_cell i b p m g r f stat h))
    b_tried (t.part (objects.Local u) ss sel) r stat order h = elim h [ ]
    b_tried (t.part (objects.Constant u) ss sel) r stat order h = elim h [ ]

    pub b_waited : (d : t.Designator) (until : t.OptionalExpression) (stat : t.OptionalResult) (order : WrittenOrder) → IsOwnCell d
        → IsBlind (waited limit e calls d until stat order)
    b_waited (t.part (objects.Coarray i) ss t.no_selector) until stat order h =
        b_cell i ss t.no_selector
        (λ p m g. as_written order (or_number limit e calls until (pos 1)) (optional_target e calls stat) (λ n f. wait_for i p n ▹
        settle stat f []))
        (λ p m g. b_written order (or_number limit e calls until (pos 1)) (optional_target e calls stat) (λ n f. wait_for i p n ▹
        settle stat f [])
        (b_or_number limit e calls blind until (pos 1)) (blind_target e calls blind stat)
        (λ n f. b_then (wait_for i p n) (settle stat f []) (b_wait_for i p n) (b_settle stat f [])))
    b_waited (t.part (objects.Coarray i) ss (t.selector cs which x)) until stat order h = elim h [ ]
    b_waited (t.part (objects.Local u) ss sel) until stat order h = elim h [ ]
    b_waited (t.part (objects.Constant u) ss sel) until stat order h = elim h [ ]

pub lock_law : LockLaw
lock_law limit e calls (s.lock d t.no_result stat order) l n c r b h =
    simply_meets (locked limit e calls d t.no_result stat order) (control.lock e d t.no_result stat order) l n
    (lock_performs limit e calls d stat order l h.0 h.1) c r b
lock_law limit e calls (s.lock d (t.result x) stat order) l n c r b h =
    simply_meets (locked limit e calls d (t.result x) stat order) (control.lock e d (t.result x) stat order) l n
    (try_performs limit e calls d x stat order l h.0 h.1 h.2) c r b
lock_law limit e calls (s.unlock d stat) l n c r b h =
    simply_meets (unlocked limit e calls d stat) (control.unlock e d stat) l n (unlock_performs limit e calls d stat l h.0 h.1) c r b
lock_law limit e calls (s.event_post d stat) l n c r b h =
    simply_meets (posted limit e calls d stat) (control.event_post e d stat) l n (post_performs limit e calls d stat l h.0 h.1) c r b
lock_law limit e calls (s.event_wait d until stat order) l n c r b h =
    simply_meets (waited limit e calls d until stat order) (control.event_wait e d until stat order) l n
    (wait_performs limit e calls d until stat order l h.0 h.1 h.2) c r b
lock_law limit e calls f l n c r b h = elim h [ ]
