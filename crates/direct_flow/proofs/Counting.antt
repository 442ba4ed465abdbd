-- DO with a variable (ISO/IEC 1539-1:2018, 11.1.7.4): what it keeps in two hidden cells, the walk reads there.
use Rattle.std.proofs.Common.{◌≡◌, refl, ap, sym, subst, ◌∙◌, ℕ, zero, suc, ◌+◌, ◌*◌, ◌-◌, ◌≤◌, ◌<◌, ◌&&◌, ℤ, pos, ◌+ℤ◌, int_lt, min, not, Bool, true, false, cond, List, [], ◌∷◌, length, length-set, slice_get, Option, None, Some, arith, le_refl}
use Rattle.std.specs.Ordering.{int_eq}
use Rattle.std.proofs.lemmas.Bool.{lt-ltb}
use Rattle.caf_base.specs.declared.value.Kind.{Kind}
use Rattle.caf_base.specs.Arithmetic.{fits_kind, truth, iterations, natural}
use Rattle.walk_theory.specs.Language.{goes_to, faults as faulting}
use Rattle.walk_theory.specs.Syntax.{Parts, end_parts, Steps}
use Rattle.walk_theory.specs.Walks.{Task, Loop, Config, run, eval, tally, again, iterate, to}
use Rattle.checked_tree.specs.declared.data.Local.{Local}
use Rattle.checked_tree.specs.Expressions as t
use Rattle.checked_tree.specs.Statements as s
use Rattle.image_acts.specs.Statuses.{most_iterations}
use Rattle.image_acts.specs.Faults.{overflow, zero_step}
use Rattle.image_acts.specs.Acts as a
use Rattle.image_acts.specs.Acts.{Act, Scope, here, host, variable, operator}
use Rattle.image_acts.specs.Core.{Core, pushed}
use Rattle.image_acts.specs.Frames.{cell_in, with_cell}
use Rattle.image_acts.specs.Taking.{given, telling, unless as unless_act}
use Rattle.image_acts.specs.Meaning.{settled}
use Rattle.tree_meaning.specs.Environment.{Environment, scope_of, hidden_cell}
use Rattle.tree_meaning.specs.Sequences.{◌▸◌, doing, pushing, takes, released}
use Rattle.tree_meaning.specs.Expressions.{expression}
use Rattle.tree_meaning.specs.ImageControl as control
use Rattle.tree_meaning.specs.Forms as walk
use Rattle.tree_meaning.specs.Forms.{steps, do_start}
use Rattle.direct_meaning.specs.States.{State, state_of, with_state, scalar_in, with_scalar}
use Rattle.direct_meaning.specs.Outcomes.{Outcome, done, faults as faulty, asks as asked, over, unsaid, and_then, Does, giving, ◌▹◌, unless, of_some, changing}
use Rattle.direct_meaning.specs.Told.{of_effect, told, Says, ComesBy}
use Rattle.direct_meaning.specs.Values.{Value, number, array, as_number, scalar, set_scalar}
use Rattle.direct_meaning.specs.Expressions.{Passed, value}
use Rattle.direct_meaning.specs.Statements as meaning
use Rattle.direct_meaning.specs.Statements.{Control, onward, Executes, num, or_number, parameter, do_parameters, iterated, counting, counted_loop, block}
use Rattle.direct_meaning.proofs.Walks.{says}
use Rattle.direct_agreement.specs.Agreeing.{Agrees, put_down, HasRoom}
use Rattle.direct_agreement.proofs.Agreement.{Kept, Leaves, Comes, comes_agrees, room_beside}
use Rattle.direct_laws.specs.Laws.{IsCovered, OptionWithin}
use Rattle.direct_laws.proofs.Values.{value_comes}
use Rattle.direct_statements.proofs.Defining.{stored}
use Rattle.direct_released.specs.Laws.{IsFree}
use Rattle.direct_released.proofs.Quiet.{IsQuiet, q_then, q_giving, q_unless, q_number, scalar_same, neither}
use Rattle.direct_released.proofs.QuietSteps.{q_set_scalar}
use Rattle.direct_released.proofs.QuietTrees.{quiet_value}
use Rattle.direct_hidden.specs.Hiding.{IsBlind}
use Rattle.direct_hidden.specs.Laws.{AreBlind}
use Rattle.direct_hidden.proofs.Blind.{b_scalar_of, b_unless, b_set_scalar}
use Rattle.direct_hidden.proofs.BlindStatements.{b_released, b_do_parameters}
use Rattle.direct_walks.specs.Walking.{Beside, core_of, Walks}
use Rattle.direct_walks.specs.Ready.{Keeps, IsReady, GoesOn}
use Rattle.direct_walks.proofs.Walking.{Only, Left, by_step, by_more, walks_before, walks_then, walks_as, parts_walk, counted_walks}
use Rattle.direct_walks.proofs.Cells.{with_kept, hidden_get, hidden_set, set_same, set_other, keeps_all, ready_after, ready_beside}
use Rattle.direct_walks.proofs.Loops.{goes_later, goes_here, iterated_walks}
use Rattle.direct_flow.proofs.Heads.{IsFreed, freed_only, freed_agrees, put_number}

-- a number that is known to keep the evaluation cells
abbrev KeepsCells : ℕ → ℤ → State → Type 0
KeepsCells n v z = Kept n z

number_comes : (c : Core) (n l : ℕ) (m : Outcome (Value × State)) (o : Outcome Core) → Comes (put_down c) (Leaves n) m o
    → Comes (put_number c) (KeepsCells n) (and_then m (λ p. as_number p.0 l p.1)) o
number_comes c n l (done (number v, z)) o h = h
number_comes c n l (done (array w, z)) o h = tt
number_comes c n l (faulty k j z) o h = h
number_comes c n l (asked q j z f) o (g, i, h) = (g, i, λ r. number_comes c n l (f r) (g r) (h r))
number_comes c n l (over z) o h = h
number_comes c n l unsaid o h = tt

-- a parameter is of the variable's kind
abbrev fitting : Kind → Parts Act
fitting k = doing (operator (a.fits k 0) ∷ [])

fits_then : {Y : Type 0} (lay : Y → State → Core) (Q : Y → State → Type 0) (k : Kind) (c : Core) (l : ℕ) (f : ℤ → Does Y)
    (q : Core → Outcome Core) (b : Bool) (v : ℤ) (z : State) → Comes lay Q (f v l z) (q (pushed v (with_state z c)))
    → Comes lay Q (and_then (unless overflow b (giving v) l z) (λ p. f p.0 l p.1))
    (and_then (and_then (of_effect l (pushed v (with_state z c))
    (settled (operator (a.fits k 0)) (cond (b && true) (goes_to (pushed v (with_state z c))) (faulting overflow)))) (told end_parts l)) q)
fits_then lay Q k c l f q true v z h = h
fits_then lay Q k c l f q false v z h = refl

param_then : {Y : Type 0} (lay : Y → State → Core) (Q : Y → State → Type 0) (k : Kind) (n : ℕ) (c : Core) (l : ℕ) (f : ℤ → Does Y)
    (q : Core → Outcome Core) (m : Outcome (ℤ × State)) (o : Outcome Core) → Comes (put_number c) (KeepsCells n) m o
    → ((v : ℤ) (z : State) → Kept n z → Comes lay Q (f v l z) (q (pushed v (with_state z c))))
    → Comes lay Q (and_then (and_then m (λ p. unless overflow (fits_kind k p.0) (giving p.0) l p.1)) (λ p. f p.0 l p.1))
    (and_then (and_then o (told (fitting k) l)) q)
param_then lay Q k n c l f q (done p) o h more =
    subst (λ u. Comes lay Q (and_then (unless overflow (fits_kind k p.0) (giving p.0) l p.1) (λ w. f w.0 l w.1))
    (and_then (and_then u (told (fitting k) l)) q)) (sym h.0) (fits_then lay Q k c l f q (fits_kind k p.0) p.0 p.1 (more p.0 p.1 h.1))
param_then lay Q k n c l f q (faulty i j z) o h more = ap (λ u. and_then (and_then u (told (fitting k) l)) q) h
param_then lay Q k n c l f q (asked b j z g) o (w, e, h) more = (
  (λ r. and_then (and_then (w r) (told (fitting k) l)) q),
  ap (λ u. and_then (and_then u (told (fitting k) l)) q)
      e,
  λ r. param_then lay Q k n c l f q (g r) (w r) (h r) more,
)
param_then lay Q k n c l f q (over z) o h more = ap (λ u. and_then (and_then u (told (fitting k) l)) q) h
param_then lay Q k n c l f q unsaid o h more = tt

-- the count and the step stand in two cells
abbrev put_loop : ℕ → Core → ℕ × ℤ → State → Core
put_loop i c p z = with_cell here i (pos p.0) (with_cell here (i + 1) p.1 (with_state z c))

abbrev Anything : ℕ × ℤ → State → Type 0
Anything p z = Unit {0}

module _ (s : Scope) (x i : ℕ) (c : Core) (l : ℕ) where
  begin_some : (q : Option ℤ) (f : ℤ) (p : ℕ × ℤ) (z : State)
      → Comes (put_loop i c) Anything (((of_some q ▹ (λ w. changing (with_scalar s x f))) ▹ (λ w. giving p)) l z)
      (done (with_cell here i (pos p.0) (with_cell here (i + 1) p.1 (with_cell s x f (with_state z c)))))
  begin_some None f p z = tt
  begin_some (Some w) f p z = (ap (λ d. done (with_cell here i (pos p.0) (with_cell here (i + 1) p.1 d))) (stored s x f z c).0, tt)

  begin_by : (b : Bool) (f : ℤ) (p : ℕ × ℤ) (z : State) (d : Core) → state_of d ≡ z
      → Comes (put_loop i c) Anything (unless zero_step b (set_scalar s x f ▹ (λ w. giving p)) l z)
      (and_then (of_effect l d (settled (variable (a.begin_iterations s x i))
      (cond b (goes_to (with_cell here i (pos p.0) (with_cell here (i + 1) p.1 (with_cell s x f (with_state z c))))) (faulting zero_step))))
      (told end_parts l))
  begin_by true f p z d h = begin_some (scalar_in s x z) f p z
  begin_by false f p z d h = ap (λ y. faulty zero_step l y) h

module _ (limit : ℕ) (e : Environment) (calls : ℕ → List Passed → Does Value) where
  num_comes : (x : t.Expression) (l : ℕ) (c : Core) → HasRoom 64 c → IsCovered x
      → Comes (put_number c) (KeepsCells c.used) (num limit e calls x l (state_of c)) (told (expression e x) l c)
  num_comes x l c r h = number_comes c c.used l (value e calls x l (state_of c)) (told (expression e x) l c) (value_comes e calls 64 x l c r h)

  step_comes : (x : t.OptionalExpression) (l : ℕ) (c : Core) → HasRoom 64 c → OptionWithin 64 x
      → Comes (put_number c) (KeepsCells c.used) (or_number limit e calls x (pos 1) l (state_of c))
      (told (control.or_number e x (pushing (pos 1))) l c)
  step_comes t.missing l c r h = (refl, (le_refl c.used, r.0))
  step_comes (t.given x) l c r h = num_comes x l c r h

  quiet_num : (x : t.Expression) → IsCovered x → takes (expression e x) ≡ false → IsQuiet (num limit e calls x)
  quiet_num x h q = q_then (value e calls x) as_number (quiet_value e calls 64 x h q) q_number

  quiet_step : (x : t.OptionalExpression) → OptionWithin 64 x → takes (control.or_number e x (pushing (pos 1))) ≡ false
      → IsQuiet (or_number limit e calls x (pos 1))
  quiet_step t.missing h q = q_giving (pos 1)
  quiet_step (t.given x) h q = quiet_num x h q

  quiet_parameter : (k : Kind) (m : Does ℤ) → IsQuiet m → IsQuiet (parameter limit e calls k m)
  quiet_parameter k m h = q_then m (λ v. unless overflow (fits_kind k v) (giving v)) h
      (λ v. q_unless overflow (fits_kind k v) (giving v) (q_giving v))

  module _ (v : Local) (k : Kind) (first last : t.Expression) (step : t.OptionalExpression) where
    abbrev sets : ℤ → Does (Unit {0})
    sets f = set_scalar (scope_of v.home) v.variable f

    abbrev begins : ℤ → ℤ → ℤ → Does (ℕ × ℤ)
    begins f u j = unless zero_step (not (int_eq j (pos 0))) (sets f ▹ (λ w. giving (min (iterations f u j) most_iterations, j)))

    start_comes : (i l : ℕ) (c : Core) → HasRoom 64 c → IsCovered first → IsCovered last → OptionWithin 64 step
        → Comes (put_loop i c) Anything (do_parameters limit e calls v k first last step l (state_of c))
        (told (do_start e v k first last step i) l c)
    start_comes i l c r hf hl hs =
        let B : Parts Act = doing (variable (a.begin_iterations (scope_of v.home) v.variable i) ∷ []) in
        let S : Parts Act = walk.parameter e k (control.or_number e step (pushing (pos 1))) ▸ B in
        let R : Parts Act = walk.parameter e k (expression e last) ▸ S in
        let N : ℤ → ℤ → Does (ℕ × ℤ) = λ f u. parameter limit e calls k (or_number limit e calls step (pos 1)) ▹ begins f u in
        param_then (put_loop i c) Anything k c.used c l (λ f. parameter limit e calls k (num limit e calls last) ▹ N f) (told R l)
        (num limit e calls first l (state_of c)) (told (expression e first) l c) (num_comes first l c r hf)
        (λ f z kf.
        let C : Core = pushed f (with_state z c) in
        let rc : HasRoom 64 C = room_beside 64 c z r kf in
        param_then (put_loop i c) Anything k z.used C l (N f) (told S l) (num limit e calls last l z) (told (expression e last) l C)
        (num_comes last l C rc hl)
        (λ u y ku.
        let D : Core = pushed u (with_state y C) in
        let rd : HasRoom 64 D = room_beside 64 C y rc ku in
        param_then (put_loop i c) Anything k y.used D l (begins f u) (told B l) (or_number limit e calls step (pos 1) l y)
        (told (control.or_number e step (pushing (pos 1))) l D) (step_comes step l D rd hs)
        (λ j w kj. begin_by (scope_of v.home) v.variable i c l (not (int_eq j (pos 0))) f (min (iterations f u j) most_iterations, j) w
        (pushed j (with_state w D)) refl)))

    quiet_start : (i : ℕ) → IsCovered first → IsCovered last → OptionWithin 64 step → takes (do_start e v k first last step i) ≡ false
        → IsQuiet (do_parameters limit e calls v k first last step)
    quiet_start i hf hl hs q =
        let B : Parts Act = doing (variable (a.begin_iterations (scope_of v.home) v.variable i) ∷ []) in
        let S : Parts Act = walk.parameter e k (control.or_number e step (pushing (pos 1))) in
        let L : Parts Act = walk.parameter e k (expression e last) in
        let g = neither (takes (walk.parameter e k (expression e first))) (takes (L ▸ S ▸ B)) q in
        let gf = neither (takes (expression e first)) (takes (fitting k)) g.0 in
        let j = neither (takes L) (takes (S ▸ B)) g.1 in
        let gl = neither (takes (expression e last)) (takes (fitting k)) j.0 in
        let w = neither (takes S) (takes B) j.1 in
        let gs = neither (takes (control.or_number e step (pushing (pos 1)))) (takes (fitting k)) w.0 in
        let P : Does ℤ → Does ℤ = parameter limit e calls k in
        let N : ℤ → ℤ → Does (ℕ × ℤ) = λ f u. P (or_number limit e calls step (pos 1)) ▹ begins f u in
        q_then (P (num limit e calls first)) (λ f. P (num limit e calls last) ▹ N f)
        (quiet_parameter k (num limit e calls first) (quiet_num first hf gf.0))
        (λ f. q_then (P (num limit e calls last)) (N f) (quiet_parameter k (num limit e calls last) (quiet_num last hl gl.0))
        (λ u. q_then (P (or_number limit e calls step (pos 1))) (begins f u)
        (quiet_parameter k (or_number limit e calls step (pos 1)) (quiet_step step hs gs.0))
        (λ n. q_unless zero_step (not (int_eq n (pos 0))) (sets f ▹ (λ w. giving (min (iterations f u n) most_iterations, n)))
        (q_then (sets f) (λ w. giving (min (iterations f u n) most_iterations, n)) (q_set_scalar (scope_of v.home) v.variable f)
        (λ w. q_giving {X = ℕ × ℤ} (min (iterations f u n) most_iterations, n))))))

    start_agrees : (i l : ℕ) (c : Core) → HasRoom 64 c → IsFree c → IsCovered first → IsCovered last → OptionWithin 64 step
        → Agrees (put_loop i c) (meaning.released (do_parameters limit e calls v k first last step) l (state_of c))
        (told (released (do_start e v k first last step i)) l c)
    start_agrees i l c r b hf hl hs =
        let D : Parts Act = do_start e v k first last step i in
        let M : Outcome ((ℕ × ℤ) × State) = do_parameters limit e calls v k first last step l (state_of c) in
        freed_agrees (put_loop i c) l c D (takes D) M (λ p z. refl) refl b
        (comes_agrees (put_loop i c) Anything M (told D l c) (start_comes i l c r hf hl hs))
        (λ q. quiet_start i hf hl hs q l (state_of c))

-- the next iteration
same_cell : (s : Scope) (x : ℕ) (c : Core) → scalar_in s x (state_of c) ≡ cell_in s x c
same_cell here x c = refl
same_cell host x c = refl

abbrev pub next_value : Scope → ℕ → Kind → ℤ → Does (Unit {0})
next_value s x k step = scalar s x ▹ (λ z. unless overflow (fits_kind k (z +ℤ step)) (set_scalar s x (z +ℤ step)))

abbrev put_next : ℕ → ℕ → Core → Unit {0} → State → Core
put_next i r c u z = with_cell here i (pos r) (with_state z c)

module _ (s : Scope) (x i : ℕ) (k : Kind) (l r : ℕ) (step : ℤ) (c : Core) where
  abbrev next_act : Act
  next_act = variable (a.next_iteration s x i k)

  abbrev next_told : (value steps left : Option ℤ) → Outcome Core
  next_told ox os ol =
      and_then (of_effect l c (settled next_act (given ox (λ v. given os (λ st. given ol (λ left.
      unless_act overflow (fits_kind k (v +ℤ st)) (goes_to (with_cell here i (pos (natural left - 1)) (with_cell s x (v +ℤ st) c)))))))))
      (told end_parts l)

  next_put : (q : Option ℤ) (w : ℤ)
      → Agrees (put_next i r c) (and_then (of_some q l (state_of c)) (λ p. done (tt, with_scalar s x w p.1)))
      (done (with_cell here i (pos (natural (pos (suc r)) - 1)) (with_cell s x w c)))
  next_put None w = tt
  next_put (Some u) w =
      let less : suc r - 1 ≡ r = omega arith in
      ap (λ d. done (with_cell here i (pos (suc r - 1)) d)) (stored s x w (state_of c) c).0
      ∙ ap (λ n. done (with_cell here i (pos n) (with_state (with_scalar s x w (state_of c)) c))) less

  next_set : (b : Bool) (w : ℤ)
      → Agrees (put_next i r c) (unless overflow b (set_scalar s x w) l (state_of c))
      (and_then (of_effect l c (settled next_act
      (cond b (goes_to (with_cell here i (pos (natural (pos (suc r)) - 1)) (with_cell s x w c))) (faulting overflow)))) (told end_parts l))
  next_set true w = next_put (scalar_in s x (state_of c)) w
  next_set false w = refl

  next_by : (q : Option ℤ)
      → Agrees (put_next i r c)
      (and_then (of_some q l (state_of c)) (λ p. unless overflow (fits_kind k (p.0 +ℤ step)) (set_scalar s x (p.0 +ℤ step)) l p.1))
      (next_told q (Some step) (Some (pos (suc r))))
  next_by None = tt
  next_by (Some v) = next_set (fits_kind k (v +ℤ step)) (v +ℤ step)

  next_agrees : cell_in here i c ≡ Some (pos (suc r)) → cell_in here (i + 1) c ≡ Some step
      → Agrees (put_next i r c) (next_value s x k step l (state_of c)) (told (doing (next_act ∷ [])) l c)
  next_agrees h g =
      let N : Outcome (Unit {0} × State) = next_value s x k step l (state_of c) in
      subst (λ o. Agrees (put_next i r c) N (next_told (cell_in s x c) o (cell_in here i c))) (sym g)
      (subst (λ o. Agrees (put_next i r c) N (next_told (cell_in s x c) (Some step) o)) (sym h)
      (subst (λ o. Agrees (put_next i r c) N (next_told o (Some step) (Some (pos (suc r))))) (same_cell s x c)
      (next_by (scalar_in s x (state_of c)))))

blind_next : (s : Scope) (x : ℕ) (k : Kind) (step : ℤ) → IsBlind (next_value s x k step)
blind_next s x k step =
    b_scalar_of s x (λ z. unless overflow (fits_kind k (z +ℤ step)) (set_scalar s x (z +ℤ step)))
    (λ z. b_unless overflow (fits_kind k (z +ℤ step)) (set_scalar s x (z +ℤ step)) (b_set_scalar s x (z +ℤ step)))

module _ (s : Scope) (x l : ℕ) (z : State) (free : z.used ≡ z.frame.base) where
  set_frees : (q : Option ℤ) (w : ℤ) → Only IsFreed ((of_some q ▹ (λ u. changing (with_scalar s x w))) l z)
  set_frees None w = tt
  set_frees (Some u) w = let k = scalar_same s x w z in k.0 ∙ free ∙ sym k.1

  unless_frees : (b : Bool) (w : ℤ) → Only IsFreed (unless overflow b (set_scalar s x w) l z)
  unless_frees true w = set_frees (scalar_in s x z) w
  unless_frees false w = tt

  next_frees : (k : Kind) (step : ℤ) (q : Option ℤ)
      → Only IsFreed ((of_some q ▹ (λ v. unless overflow (fits_kind k (v +ℤ step)) (set_scalar s x (v +ℤ step)))) l z)
  next_frees k step None = tt
  next_frees k step (Some v) = unless_frees (fits_kind k (v +ℤ step)) (v +ℤ step)

positive : (r : ℕ) → int_lt (pos 0) (pos (suc r)) ≡ true
positive r = lt-ltb 0 (suc r) (omega arith)

module _ (procedures : ℕ → Steps Act) (limit : ℕ) (e : Environment) (calls : ℕ → List Passed → Does Value) (most lines : ℕ) where
  -- the hidden cells of a construct with this number
  first_cell : (c : Core) (b : Beside) (z : State) (j : ℕ) → IsReady e most lines c b z
      → e.hidden + 2 * j ≡ length z.frame.cells + 2 * j
  first_cell c b z j r = sym (ap (λ m. m + 2 * j) r.variables)

  second_cell : (c : Core) (b : Beside) (z : State) (j : ℕ) → IsReady e most lines c b z
      → (e.hidden + 2 * j) + 1 ≡ length z.frame.cells + (2 * j + 1)
  second_cell c b z j r = omega (arith, first_cell c b z j r)

  module _ (v : Local) (k : Kind) (j : ℕ) (body : s.Statements) (l : ℕ) (ts : List (Task Act)) (c : Core) where
    abbrev I : ℕ
    I = hidden_cell e j

    abbrev test_parts : Parts Act
    test_parts = doing (variable (a.more_iterations I) ∷ [])

    abbrev pub do_loop : Loop Act
    do_loop = record { line = l; next = doing (variable (a.next_iteration (scope_of v.home) v.variable I k) ∷ []); test = test_parts; body = steps e body }

    -- so many iterations are left, with this step
    abbrev pub IsLeft : ℕ → ℤ → Beside → Type 0
    IsLeft r step b = (slice_get b.hidden (2 * j) ≡ Some (pos r)) × (slice_get b.hidden (2 * j + 1) ≡ Some step)

    -- behind the head of the loop
    abbrev pub Started : Beside → ℕ → List (Task Act) → ℕ × ℤ → State → Config Act Core → Type 0
    Started b n us p z d = (f : Beside) × (d ≡ to us (core_of c f z) n) × IsLeft p.0 p.1 f × Keeps j b f × IsReady e most lines c f z

    kept_below : (b : Beside) (i m : ℕ) (w : ℤ) → 2 * j ≤ i → m < 2 * j → slice_get (with_kept b i w).hidden m ≡ slice_get b.hidden m
    kept_below b i m w h p = set_other b.hidden i m w (λ q. omega (arith, h, p, q))

    pub start_walks : AreBlind calls → j < most → (first last : t.Expression) (step : t.OptionalExpression) → IsCovered first → IsCovered last
        → OptionWithin 64 step → (b : Beside) (z : State) (n : ℕ) (us : List (Task Act)) → IsReady e most lines c b z
        → Walks procedures limit (Started b n us) (meaning.released (do_parameters limit e calls v k first last step) l z)
        (to (eval l (released (do_start e v k first last step I)) ∷ us) (core_of c b z) n)
    start_walks blind below first last step hf hl hs b z n us ready =
        let C : Core = core_of c b z in
        let M : Does (ℕ × ℤ) = meaning.released (do_parameters limit e calls v k first last step) in
        let P : Parts Act = released (do_start e v k first last step I) in
        walks_as procedures limit (Left IsFreed (put_loop I C) b.hidden z us n) (Started b n us) (M l z) (to (eval l P ∷ us) C n)
        (parts_walk procedures limit IsFreed (put_loop I C) M P l n us c b z (freed_only (do_parameters limit e calls v k first last step l z))
        (b_released (do_parameters limit e calls v k first last step) (b_do_parameters limit e calls blind v k first last step))
        (start_agrees limit e calls v k first last step I l C (ready.cells, ready.room) ready.free hf hl hs))
        (λ p y d w.
        let r : IsReady e most lines c b y = ready_after e most lines c b z y ready w.1 w.0 in
        let f : Beside = with_kept b (2 * j + 1) p.1 in
        let g : Beside = with_kept f (2 * j) (pos p.0) in
        let same : with_cell here I (pos p.0) (with_cell here (I + 1) p.1 (core_of c b y)) ≡ core_of c g y =
        ap (with_cell here I (pos p.0)) (hidden_set c b y (I + 1) (2 * j + 1) p.1 (second_cell c b y j r))
        ∙ hidden_set c f y I (2 * j) (pos p.0) (first_cell c b y j r) in
        let long : length f.hidden ≡ length b.hidden = length-set b.hidden (2 * j + 1) p.1 in
        let longer : length g.hidden ≡ length b.hidden = length-set f.hidden (2 * j) (pos p.0) ∙ long in (
          g,
          w.2 ∙ ap (λ m. to us m n) same,
          (
            set_same f.hidden (2 * j) (pos p.0) (omega (arith, long, r.hidden, below)),
            set_other f.hidden (2 * j) (2 * j + 1) (pos p.0) (λ q. omega (arith, q)) ∙
                set_same b.hidden (2 * j + 1) p.1 (omega (arith, r.hidden, below)),
          ),
          (λ m q. kept_below f (2 * j) m (pos p.0) (le_refl (2 * j)) q ∙ kept_below b (2 * j + 1) m p.1 (omega arith) q),
          ready_beside e most lines c b g y r longer,
        ))

    -- behind the step to the next iteration
    abbrev Nexted : Beside → ℕ → ℕ → Unit {0} → State → Config Act Core → Type 0
    Nexted b n r u z d =
        (d ≡ to (eval l test_parts ∷ iterate do_loop ∷ ts) (core_of c (with_kept b (2 * j) (pos r)) z) n) × IsReady e most lines c (with_kept b (2 * j) (pos r)) z

    next_walks : (b : Beside) (z : State) (n r : ℕ) (step : ℤ) → IsLeft (suc r) step b → IsReady e most lines c b z
        → Walks procedures limit (Nexted b n r) (next_value (scope_of v.home) v.variable k step l z)
        (to (eval l do_loop.next ∷ eval l test_parts ∷ iterate do_loop ∷ ts) (core_of c b z) n)
    next_walks b z n r step h ready =
        let C : Core = core_of c b z in
        let N : Does (Unit {0}) = next_value (scope_of v.home) v.variable k step in
        let us : List (Task Act) = eval l test_parts ∷ iterate do_loop ∷ ts in
        walks_as procedures limit (Left IsFreed (put_next I r C) b.hidden z us n) (Nexted b n r) (N l z)
        (to (eval l do_loop.next ∷ us) C n)
        (parts_walk procedures limit IsFreed (put_next I r C) N do_loop.next l n us c b z
        (next_frees (scope_of v.home) v.variable l z ready.free k step (scalar_in (scope_of v.home) v.variable z))
        (blind_next (scope_of v.home) v.variable k step)
        (next_agrees (scope_of v.home) v.variable I k l r step C (hidden_get c b z I (2 * j) (first_cell c b z j ready) ∙ h.0)
        (hidden_get c b z (I + 1) (2 * j + 1) (second_cell c b z j ready) ∙ h.1)))
        (λ u y d w.
        let g : IsReady e most lines c b y = ready_after e most lines c b z y ready w.1 w.0 in (
          w.2 ∙ ap (λ m. to us m n) (hidden_set c b y I (2 * j) (pos r) (first_cell c b y j g)),
          ready_beside e most lines c b (with_kept b (2 * j) (pos r)) y g (length-set b.hidden (2 * j) (pos r)),
        ))

    -- the test
    test_comes : (b : Beside) (z : State) (n r : ℕ) (step : ℤ) → IsLeft r step b → IsReady e most lines c b z
        → ComesBy procedures limit (to (eval l test_parts ∷ iterate do_loop ∷ ts) (core_of c b z) n)
        (to (iterate do_loop ∷ ts) (pushed (truth (int_lt (pos 0) (pos r))) (core_of c b z)) n)
    test_comes b z n r step h ready =
        let C : Core = core_of c b z in
        let T : Option ℤ → Outcome Core = λ o. and_then
        (of_effect l C (settled (variable (a.more_iterations I)) (given o (λ left. telling (int_lt (pos 0) left) C)))) (told end_parts l) in
        let same : told test_parts l C ≡ done (pushed (truth (int_lt (pos 0) (pos r))) C) =
        ap T (hidden_get c b z I (2 * j) (first_cell c b z j ready) ∙ h.0) in
        subst (λ o. Says procedures limit o (iterate do_loop ∷ ts) n (to (eval l test_parts ∷ iterate do_loop ∷ ts) C n)) same
        (says procedures limit test_parts l (iterate do_loop ∷ ts) n C)

    module _ (h : ℕ) (above : h ≤ j) (below : j < most) (step : ℤ)
        (does : (b : Beside) (z : State) (n : ℕ) → IsReady e most lines c b z
        → Walks procedures limit (GoesOn e most lines (suc j) (again do_loop ∷ ts) c b n) (block limit e calls body n l z)
        (to (run (steps e body) ∷ again do_loop ∷ ts) (core_of c b z) n)) where
      abbrev Goes : Beside → ℕ → Control × ℕ → State → Config Act Core → Type 0
      Goes b n q z d = GoesOn e most lines h ts c b n q z d

      abbrev N : Does (Unit {0})
      N = next_value (scope_of v.home) v.variable k step

      abbrev left_over : ℕ → Executes
      left_over r = counted_loop limit e calls r N (block limit e calls body)

      -- a step to the next iteration, and what the others come to
      repeats : (r : ℕ) (b f : Beside) (z : State) (n m : ℕ) → IsLeft (suc r) step b → Keeps (suc j) b f → n < m → IsReady e most lines c f z
          → ((g : Beside) (y : State) → IsReady e most lines c g y → IsLeft r step g
          → Walks procedures limit (Goes g m) (left_over r m l y) (to (eval l test_parts ∷ iterate do_loop ∷ ts) (core_of c g y) m))
          → Walks procedures limit (Goes b n) ((N ▹ (λ u. left_over r m)) l z) (to (again do_loop ∷ ts) (core_of c f z) m)
      repeats r b f z n m left keeps more ready others =
          let C : Core = core_of c f z in
          let us : List (Task Act) = eval l do_loop.next ∷ eval l test_parts ∷ iterate do_loop ∷ ts in
          let is_left : IsLeft (suc r) step f = (keeps (2 * j) (omega arith) ∙ left.0, keeps (2 * j + 1) (omega arith) ∙ left.1) in
          let g : Beside = with_kept f (2 * j) (pos r) in
          let now : IsLeft r step g = (
            set_same f.hidden (2 * j) (pos r) (omega (arith, ready.hidden, below)),
            set_other f.hidden (2 * j) (2 * j + 1) (pos r) (λ q. omega (arith, q)) ∙ is_left.1,
          ) in
          let kept : Keeps h b g = λ i p. kept_below f (2 * j) i (pos r) (le_refl (2 * j)) (omega (arith, p, above))
          ∙ keeps i (omega (arith, p, above)) in
          walks_before procedures limit (Goes b n) ((N ▹ (λ u. left_over r m)) l z) (to (again do_loop ∷ ts) C m) (to us C m)
          (by_step procedures limit (to (again do_loop ∷ ts) C m) (to us C m) refl)
          (walks_then procedures limit (Nexted f m r) (Goes b n) (N l z) (λ u. left_over r m l u.1) (to us C m)
          (next_walks f z m r step is_left ready)
          (λ u y d w. subst (Walks procedures limit (Goes b n) (left_over r m l y)) (sym w.0)
          (walks_as procedures limit (Goes g m) (Goes b n) (left_over r m l y) (to (eval l test_parts ∷ iterate do_loop ∷ ts) (core_of c g y) m)
          (others g y w.1 now) (goes_later procedures limit e most lines h h ts c b g n m (le_refl h) kept (omega (arith, more))))))

      pub iterations_walk : (r n : ℕ) (b : Beside) (z : State) → IsReady e most lines c b z → IsLeft r step b
          → Walks procedures limit (Goes b n) (left_over r n l z) (to (eval l test_parts ∷ iterate do_loop ∷ ts) (core_of c b z) n)
      iterations_walk zero n b z ready left =
          let C : Core = core_of c b z in
          let A : Config Act Core = to (eval l test_parts ∷ iterate do_loop ∷ ts) C n in
          let T : Config Act Core = to (iterate do_loop ∷ ts) (pushed (pos 0) C) n in
          walks_before procedures limit (Goes b n) (left_over 0 n l z) A (to ts C n)
          (by_more procedures limit A T (to ts C n) (test_comes b z n 0 step left ready) (by_step procedures limit T (to ts C n) refl))
          (goes_here procedures limit e most lines h h ts c b b n n (le_refl h) (keeps_all h b) (le_refl n) z ready onward ts refl)
      iterations_walk (suc r) n b z ready left =
          let C : Core = core_of c b z in
          let A : Config Act Core = to (eval l test_parts ∷ iterate do_loop ∷ ts) C n in
          let T : Config Act Core = to (iterate do_loop ∷ ts) (pushed (truth (int_lt (pos 0) (pos (suc r)))) C) n in
          let U : List (Task Act) = run (steps e body) ∷ again do_loop ∷ ts in
          let B : Does (Control × ℕ) = counting limit e calls (block limit e calls body) n in
          let R : Executes = λ m. N ▹ (λ u. left_over r m) in
          let E : Control × ℕ → State → Config Act Core → Type 0 = GoesOn e most lines (suc j) (again do_loop ∷ ts) c b (n + 1) in
          walks_before procedures limit (Goes b n) ((B ▹ iterated R) l z) A (to (tally l ∷ U) C n)
          (by_more procedures limit A T (to (tally l ∷ U) C n) (test_comes b z n (suc r) step left ready)
          (by_step procedures limit T (to (tally l ∷ U) C n) (rw (positive r) refl)))
          (walks_then procedures limit E (Goes b n) (B l z) (λ q. iterated R q.0 l q.1) (to (tally l ∷ U) C n)
          (counted_walks procedures limit E (block limit e calls body (n + 1)) l n z b.hidden (to (tally l ∷ U) C n) U C refl refl refl
          (does b z (n + 1) ready))
          (iterated_walks procedures limit e most lines h (suc j) l n (omega (arith, above)) do_loop ts c b R
          (λ f y m keeps more again'. repeats r b f y n m left keeps more again' (λ g x rg lg. iterations_walk r m g x rg lg))))
