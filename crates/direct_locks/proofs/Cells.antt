-- The cell of a lock or an event: its place and its image, and the ask of it with its status.
use Rattle.std.proofs.Common.{arith, ◌≡◌, refl, ap, sym, subst, ◌∙◌, ℕ, suc, ◌+◌, ◌||◌, ℤ, pos, negsuc, Bool, true, false, cond, List, [], ◌∷◌, length}
use Rattle.std.specs.Ordering.{int_eq}
use Rattle.caf_events.specs.declared.ask.Ask.{Ask}
use Rattle.caf_events.specs.declared.reply.Reply.{Reply}
use Rattle.caf_events.specs.declared.reply.Reply.TheVariants as replies
use Rattle.walk_theory.specs.Syntax.{Parts, end_parts}
use Rattle.walk_theory.specs.Language.{holds, fails, asking as asking_act}
use Rattle.checked_tree.specs.declared.data.Object.TheVariants as objects
use Rattle.checked_tree.specs.Expressions as t
use Rattle.image_acts.specs.Statuses.{failed_image}
use Rattle.image_acts.specs.Acts as a
use Rattle.image_acts.specs.Acts.{Act, constant, operator, equal, stack, bounded, selector, ask}
use Rattle.image_acts.specs.Core.{Core, pushed, with_values}
use Rattle.image_acts.specs.Places.{Place}
use Rattle.image_acts.specs.Replies.{with_status}
use Rattle.image_acts.specs.Taking.{put_down as put_numbers}
use Rattle.image_acts.specs.Meaning.{operate, settled}
use Rattle.tree_meaning.specs.Environment.{Environment}
use Rattle.tree_meaning.specs.Sequences.{◌▸◌, doing, dropping, copying, pushing, choosing}
use Rattle.tree_meaning.specs.Expressions as parts
use Rattle.tree_meaning.specs.Expressions.{form_of, is_scalar, has_selector, stat_of, optional_size, optional_place, needing_own, storing}
use Rattle.tree_meaning.specs.Settling.{settling, settling_selector}
use Rattle.tree_meaning.specs.ImageControl as control
use Rattle.direct_meaning.specs.States.{State, state_of, with_state}
use Rattle.direct_meaning.specs.Outcomes.{Outcome, done, and_then, Does, ◌▹◌, asking}
use Rattle.direct_meaning.specs.Told.{of_effect, of_test, told}
use Rattle.direct_meaning.specs.Values.{Value, coarray_part, need_own}
use Rattle.direct_meaning.specs.Expressions.{Passed, Target, nowhere, all_of, optional_target}
use Rattle.direct_meaning.specs.Synchronizing.{settle, cell_status, set_selector}
use Rattle.direct_meaning.specs.Statements.{image_of, on_cell, at_cell}
use Rattle.direct_agreement.specs.Agreeing.{HasRoom}
use Rattle.direct_agreement.proofs.Agreement.{Kept, Comes, comes_then, apart, kept_more, room_beside}
use Rattle.direct_agreement.proofs.Arrays.{put_subscripts, put_place}
use Rattle.direct_agreement.proofs.Scalars.{Keeps}
use Rattle.direct_access.proofs.Owners.{TargetOf, none, whole, part, with_target, put_owner, co_part_comes, own_image_comes, needing_comes}
use Rattle.direct_laws.specs.Laws.{HasDimensions, SubscriptsWithin, SelectorWithin, ResultWithin}
use Rattle.direct_laws.proofs.Subscripts.{Shaped, put_target, Targeted, all_comes, selector_comes}
use Rattle.direct_laws.proofs.Values.{subscripts_come, scalars_come, selected_team_comes, target_comes}
use Rattle.direct_statements.specs.Laws.{put_nothing}
use Rattle.direct_walks.proofs.Cases.{true_back}
use Rattle.direct_control.proofs.Settling.{settle_comes, stored_comes}

-- a place of rank 0
abbrev pub point : ℤ → Place
point i = record { start = i; dims = [] }

no_dims : (p : Place) (ds : List (ℕ × ℤ)) → p.dims ≡ ds → length ds ≡ 0 → p ≡ point p.start
no_dims p [] e h = ap (λ ds. record { start = p.start; dims = ds }) e
no_dims p (d ∷ ds) e h = absurd (omega (arith, h))

pub point_of : (p : Place) → length p.dims ≡ 0 → p ≡ point p.start
point_of p h = no_dims p p.dims refl h

-- the coarray has to be there on this image where no selector names one
pub needing : (c d : Core) (n i : ℕ) (is_whole : Bool) (sel : t.Selector) (m : Does (Unit {0})) (q : Core → Outcome Core) (l : ℕ)
    → Comes (put_nothing c) (Keeps n) (m l (state_of d)) (q d)
    → Comes (put_nothing c) (Keeps n) ((need_own (is_whole || has_selector sel) i ▹ (λ u. m)) l (state_of d))
    (and_then (told (needing_own i is_whole sel) l d) q)
needing c d n i true t.no_selector m q l h = needing_comes (put_nothing c) (Keeps n) i true m q l d h
needing c d n i false t.no_selector m q l h = needing_comes (put_nothing c) (Keeps n) i false m q l d h
needing c d n i true (t.selector cs which stat) m q l h = h
needing c d n i false (t.selector cs which stat) m q l h = h

-- the status of the selector: STAT_FAILED_IMAGE or 0
abbrev of_selector : ℤ → ℤ
of_selector s = cond (int_eq s failed_image) failed_image (pos 0)

chosen_status : (b : Bool) (s : ℤ) (l : ℕ) (Y : Core)
    → and_then (of_test (cond b (holds (pushed s Y)) (fails (pushed s Y))) (told (pushing failed_image) l) (told (pushing (pos 0)) l))
    (told end_parts l)
    ≡ done (pushed (cond b failed_image (pos 0)) (pushed s Y))
chosen_status true s l Y = refl
chosen_status false s l Y = refl

status_told : (p : Parts Act) (s : ℤ) (l : ℕ) (Y : Core)
    → told (copying 0 1 ▸ doing (constant failed_image ∷ operator equal ∷ []) ▸ choosing (pushing failed_image) (pushing (pos 0)) ▸ p) l
    (pushed s Y)
    ≡ told p l (pushed (of_selector s) (pushed s Y))
status_told p s l Y =
    ap (λ b. and_then (and_then (of_test (cond b (holds (pushed s Y)) (fails (pushed s Y))) (told (pushing failed_image) l)
    (told (pushing (pos 0)) l)) (told end_parts l)) (told p l))
    (true_back (int_eq s failed_image))
    ∙ ap (λ o. and_then o (told p l)) (chosen_status (int_eq s failed_image) s l Y)

-- so many numbers over the place of a variable
abbrev pub over_target : Core → List ℤ → Target → Core
over_target c xs g = with_values c (put_numbers xs (with_target c g).values)

-- the variable of the selector gets it, beneath so many numbers, of which the status is the top one
pub selector_set : (stat : t.OptionalResult) (g : Target) → TargetOf stat g → (xs : List ℤ) (s : ℤ) (l : ℕ) (w : State) (c Y : Core) (n : ℕ)
    → Kept n w
    → with_state w (over_target c xs g) ≡ pushed s Y
    → Comes (put_nothing (over_target c xs g)) (Keeps n) (set_selector g s l w) (told (settling_selector stat (suc (length xs))) l
    (pushed s Y))
selector_set stat g none xs s l w c Y n k e = (ap (λ d. done d) (sym e), k)
selector_set stat g (whole u j) xs s l w c Y n k e =
    let R : t.ResultVariable = t.result_variable u t.no_expressions j in
    let P : Parts Act = storing (suc (length xs)) R in
    subst (λ o. Comes (put_nothing (over_target c xs g)) (Keeps n) (set_selector g s l w) o) (sym (status_told P s l Y))
    (subst (λ d. Comes (put_nothing (over_target c xs g)) (Keeps n) (set_selector g s l w) (told P l (pushed (of_selector s) d))) e
    (stored_comes R g (whole u j) xs (of_selector s) l w c n k))
selector_set stat g (part u x es j i) xs s l w c Y n k e =
    let R : t.ResultVariable = t.result_variable u (t.more_expressions x es) j in
    let P : Parts Act = storing (suc (length xs)) R in
    subst (λ o. Comes (put_nothing (over_target c xs g)) (Keeps n) (set_selector g s l w) o) (sym (status_told P s l Y))
    (subst (λ d. Comes (put_nothing (over_target c xs g)) (Keeps n) (set_selector g s l w) (told P l (pushed (of_selector s) d))) e
    (stored_comes R g (part u x es j i) xs (of_selector s) l w c n k))

-- where the place of the variable of STAT= stands over an owner and its place
abbrev pub over_owner : Core → Target → ℤ → ℤ → Target → State → Core
over_owner c g o s h w = with_state w (with_target (pushed o (pushed s (with_target c g))) h)

pub owner_copied : (stat : t.OptionalResult) (h : Target) → TargetOf stat h → (l : ℕ) (c : Core) (g : Target) (o s : ℤ) (w : State)
    → told (copying (optional_size stat) 2) l (over_owner c g o s h w) ≡ done (pushed o (pushed s (over_owner c g o s h w)))
owner_copied stat h none l c g o s w = refl
owner_copied stat h (whole u j) l c g o s w = refl
owner_copied stat h (part u x es j i) l c g o s w = refl

-- all is dropped
all_dropped : (stat : t.OptionalResult) (h : Target) → TargetOf stat h → (selected_stat : t.OptionalResult) (g : Target)
    → TargetOf selected_stat g → (l : ℕ) (c : Core) (o s : ℤ) (w : State)
    → told (dropping (optional_size stat + (optional_size selected_stat + 2))) l (over_owner c g o s h w) ≡ done (with_state w c)
all_dropped stat h none ss g none l c o s w = refl
all_dropped stat h none ss g (whole v k) l c o s w = refl
all_dropped stat h none ss g (part v y fs k m) l c o s w = refl
all_dropped stat h (whole u j) ss g none l c o s w = refl
all_dropped stat h (whole u j) ss g (whole v k) l c o s w = refl
all_dropped stat h (whole u j) ss g (part v y fs k m) l c o s w = refl
all_dropped stat h (part u x es j i) ss g none l c o s w = refl
all_dropped stat h (part u x es j i) ss g (whole v k) l c o s w = refl
all_dropped stat h (part u x es j i) ss g (part v y fs k m) l c o s w = refl

-- behind the ask: its status, for both variables
module _ (selected_stat : t.OptionalResult) (g : Target) (gt : TargetOf selected_stat g) (accepted : List ℤ) (o s : ℤ) (l : ℕ) (c : Core)
    (n : ℕ) where
  abbrev T : t.OptionalResult → Parts Act
  T stat = dropping (optional_size stat + (optional_size selected_stat + 2))

  abbrev Behind : t.OptionalResult → Parts Act
  Behind stat = settling_selector selected_stat (optional_size stat + 4) ▸ settling stat 1 accepted ▸ T stat

  abbrev sets : t.OptionalResult → Target → ℤ → Does (Unit {0})
  sets stat h v = set_selector g v ▹ (λ u. settle stat h accepted v)

  abbrev C : Core
  C = pushed o (pushed s (with_target c g))

  -- both, where the numbers between are these
  by_numbers : (stat : t.OptionalResult) (h : Target) → TargetOf stat h → (xs : List ℤ) (v : ℤ) (w : State) → Kept n w
      → with_state w (over_target c xs g) ≡ pushed v (over_owner c g o s h w)
      → ((y : State) → with_state y (over_target c xs g) ≡ pushed v (over_owner c g o s h y))
      → suc (length xs) ≡ optional_size stat + 4
      → Comes (put_nothing c) (Keeps n) (sets stat h v l w) (told (Behind stat) l (pushed v (over_owner c g o s h w)))
  by_numbers stat h ht xs v w k e same size =
      subst (λ m. Comes (put_nothing c) (Keeps n) (sets stat h v l w)
      (told (settling_selector selected_stat m ▸ settling stat 1 accepted ▸ T stat) l (pushed v (over_owner c g o s h w)))) size
      (comes_then (put_nothing (over_target c xs g)) (Keeps n) (put_nothing c) (Keeps n) (set_selector g v l w)
      (told (settling_selector selected_stat (suc (length xs))) l (pushed v (over_owner c g o s h w))) (λ p. settle stat h accepted v l p.1)
      (told (settling stat 1 accepted ▸ T stat) l) (selector_set selected_stat g gt xs v l w c (over_owner c g o s h w) n k e)
      (λ u y j. subst (λ d. Comes (put_nothing c) (Keeps n) (settle stat h accepted v l y) (told (settling stat 1 accepted ▸ T stat) l d))
      (sym (same y))
      (settle_comes stat h ht accepted (T stat) v l y C c n j (λ x. all_dropped stat h ht selected_stat g gt l c o s x))))

  both_set : (stat : t.OptionalResult) (h : Target) → TargetOf stat h → (v : ℤ) (w : State) → Kept n w
      → Comes (put_nothing c) (Keeps n) (sets stat h v l w) (told (Behind stat) l (pushed v (over_owner c g o s h w)))
  both_set stat h none v w k = by_numbers stat h none (s ∷ o ∷ v ∷ []) v w k refl (λ y. refl) refl
  both_set stat h (whole u j) v w k = by_numbers stat h (whole u j) (s ∷ o ∷ v ∷ []) v w k refl (λ y. refl) refl
  both_set stat h (part u x es j i) v w k = by_numbers stat h (part u x es j i) (s ∷ o ∷ i ∷ v ∷ []) v w k refl (λ y. refl) refl

  -- what the reply gives
  pub replied : (stat : t.OptionalResult) (h : Target) → TargetOf stat h → (q : Reply) (w : State) → Kept n w
      → Comes (put_nothing c) (Keeps n) ((cell_status q ▹ sets stat h) l w)
      (and_then (told (doing (stack a.accessed ∷ [])) l (with_status q (over_owner c g o s h w))) (told (Behind stat) l))
  replied stat h ht (replies.Number (pos v)) w k = both_set stat h ht (pos v) w k
  replied stat h ht (replies.Number (negsuc v)) w k = tt
  replied stat h ht replies.Dead w k = both_set stat h ht failed_image w k
  replied stat h ht replies.Absent w k = refl
  replied stat h ht q w k = tt

module _ (limit : ℕ) (e : Environment) (calls : ℕ → List Passed → Does Value) where
  -- what comes behind the place and the image of a part of rank 0
  abbrev pub Goes : Core → t.Selector → (Place → ℕ → Target → Does (Unit {0})) → (Core → Outcome Core) → ℕ → Type 0
  Goes c sel F R l = (s : ℤ) (m : ℕ) (g : Target) (y : State) → TargetOf (stat_of sel) g → Kept c.used y
      → Comes (put_nothing c) (Keeps c.used) (F (point s) m g l y) (R (with_state y (pushed (pos m) (pushed s (with_target c g)))))

  at_point : (c : Core) (sel : t.Selector) (F : Place → ℕ → Target → Does (Unit {0})) (R : Core → Outcome Core) (l : ℕ) → Goes c sel F R l
      → (p : Place) (m : ℕ) (g : Target) (y : State) → length p.dims ≡ 0 → TargetOf (stat_of sel) g → Kept c.used y
      → Comes (put_nothing c) (Keeps c.used) (F p m g l y) (R (put_owner (with_target c g) p m y))
  at_point c sel F R l more p m g y h gt k =
      subst (λ q. Comes (put_nothing c) (Keeps c.used) (F q m g l y) (R (put_owner (with_target c g) q m y))) (sym (point_of p h))
      (more p.start m g y gt k)

  -- its subscripts, and its place
  placed : (c : Core) (i : ℕ) (ss : t.Subscripts) (G : Place → Does (Unit {0})) (O R : Core → Outcome Core)
      (l : ℕ) → HasRoom 64 c → HasDimensions ss 0 → SubscriptsWithin 64 ss
      → ((p : Place) (y : State) → length p.dims ≡ 0 → Kept c.used y → Comes (put_nothing c) (Keeps c.used) (G p l y)
      (and_then (O (put_place c p y)) R))
      → Comes (put_nothing c) (Keeps c.used) ((all_of e calls ss 0 ▹ (λ xs. coarray_part i 0 xs ▹ G)) l (state_of c))
      (and_then (and_then (told (parts.subscripts e ss) l c) (λ f. and_then
      (told (doing (bounded (a.co_section i (form_of ss 0)) ∷ [])) l f) O)) R)
  placed c i ss G O R l room d w more =
      let P : Unit {0} → State → Type 0 = Keeps c.used in
      let Q : Core → Outcome Core = λ f. and_then (O f) R in
      let S : ℕ → Core → Outcome Core = λ m. told (doing (bounded (a.co_section i m) ∷ [])) l in
      let L : Outcome (Unit {0} × State) = (all_of e calls ss 0 ▹ (λ xs. coarray_part i 0 xs ▹ G)) l (state_of c) in
      apart (put_nothing c) P L (told (parts.subscripts e ss) l c) (λ f. and_then (S (form_of ss 0) f) O) R
      (comes_then (put_subscripts c) (Shaped c.used ss 0) (put_nothing c) P (all_of e calls ss 0 l (state_of c))
      (told (parts.subscripts e ss) l c)
      (λ p. (coarray_part i 0 p.0 ▹ G) l p.1) (λ f. and_then (and_then (S (form_of ss 0) f) O) R)
      (all_comes e calls ss 0 l c d room.0 (subscripts_come e calls 64 ss l c room w))
      (λ xs y j. apart (put_nothing c) P ((coarray_part i 0 xs ▹ G) l y) (S (form_of ss 0) (put_subscripts c xs y)) O R
      (subst (λ m. Comes (put_nothing c) P ((coarray_part i 0 xs ▹ G) l y) (and_then (S m (put_subscripts c xs y)) Q)) j.0
      (co_part_comes (put_nothing c) P i 0 xs G Q l y c j.1 j.2 (λ p q. more p y q j.3)))))

  pub cell_comes : (c : Core) (i : ℕ) (ss : t.Subscripts) (sel : t.Selector) (F : Place → ℕ → Target → Does (Unit {0})) (R : Core
      → Outcome Core)
      (l : ℕ) → HasRoom 64 c → HasDimensions ss 0 → SubscriptsWithin 64 ss → SelectorWithin 64 sel → Goes c sel F R l
      → Comes (put_nothing c) (Keeps c.used) ((all_of e calls ss 0 ▹ (λ xs. coarray_part i 0 xs ▹ (λ p. image_of limit e calls i p sel
      (F p)))) l (state_of c))
      (and_then (told (control.cell e (t.part (objects.Coarray i) ss sel)) l c) R)
  cell_comes c i ss t.no_selector F R l room d w v more =
      placed c i ss (λ p. image_of limit e calls i p t.no_selector (F p)) (told (parts.owner e i 0 t.no_selector) l) R l room d w
      (λ p y q k. own_image_comes (put_nothing c) (Keeps c.used) 0 p (λ m. F p m nowhere) R l y c q
      (at_point c t.no_selector F R l more p y.me nowhere y q none k))
  cell_comes c i ss (t.selector cs which stat) F R l room d w v more =
      placed c i ss (λ p. image_of limit e calls i p (t.selector cs which stat) (F p))
      (told (parts.owner e i 0 (t.selector cs which stat)) l) R l room d w
      (λ p y q k. selector_comes e calls (put_nothing c) (Keeps c.used) 64 i 0 cs which stat p (F p) R l y c room k q
      (λ f room'. scalars_come e calls 64 cs l f room' v.0) (λ f room'. selected_team_comes e calls 64 which l f room' v.1)
      (λ f room'. target_comes e calls 64 stat l f room' v.2)
      (λ m g u gt j. at_point c (t.selector cs which stat) F R l more p m g u q gt j))

  -- a statement with one ask of a cell
  module _ (X : ℕ → Act) (x : ℕ → Place → ℕ → Ask)
      (acts : (i : ℕ) (m : ℕ) (s : ℤ) (d : Core) → operate (X i) (pushed (pos m) (pushed s d)) ≡ asking_act (x i (point s) m)
      (λ r. with_status r d)) where
    abbrev rest : ℕ → Bool → t.Selector → t.OptionalResult → List ℤ → Parts Act
    rest i is_whole sel stat accepted =
        needing_own i is_whole sel ▸ copying (optional_size stat) 2 ▸ doing (X i ∷ stack a.accessed ∷ [])
        ▸ settling_selector (stat_of sel) (optional_size stat + 4) ▸ settling stat 1 accepted ▸ dropping (optional_size stat +
        (optional_size (stat_of sel) + 2))

    asked_of : (c : Core) (i : ℕ) (is_whole : Bool) (sel : t.Selector) (stat : t.OptionalResult) (h g : Target) (accepted : List ℤ) (s : ℤ)
        (m l : ℕ) (w : State) (n : ℕ)
        → TargetOf (stat_of sel) g → TargetOf stat h → Kept n w
        → Comes (put_nothing c) (Keeps n)
        (at_cell limit e calls x i (is_whole || has_selector sel) (point s) m g stat h accepted l w)
        (told (rest i is_whole sel stat accepted) l (over_owner c g (pos m) s h w))
    asked_of c i is_whole sel stat h g accepted s m l w n gt ht k =
        let D : Core = over_owner c g (pos m) s h w in
        let B : Core → Outcome Core = told (settling_selector (stat_of sel) (optional_size stat + 4) ▸ settling stat 1 accepted ▸ dropping
        (optional_size stat + (optional_size (stat_of sel) + 2))) l in
        let V : Core → Outcome Core = told (doing (stack a.accessed ∷ [])) l in
        let E : Core → Outcome Core = λ d. and_then (told (doing (X i ∷ stack a.accessed ∷ [])) l d) B in
        let M : Does (Unit {0}) = asking (x i (point s) m) ▹ (λ r. cell_status r ▹ (λ v. set_selector g v ▹
        (λ u. settle stat h accepted v))) in
        let Y : Core = pushed (pos m) (pushed s D) in
        needing c D n i is_whole sel M (λ d. and_then (told (copying (optional_size stat) 2) l d) E) l
        (subst (λ o. Comes (put_nothing c) (Keeps n) (M l w) (and_then o E)) (sym (owner_copied stat h ht l c g (pos m) s w))
        (apart (put_nothing c) (Keeps n) (M l w) (of_effect l Y (settled (X i) (operate (X i) Y))) V B
        (subst (λ o. Comes (put_nothing c) (Keeps n) (M l w) (and_then (of_effect l Y (settled (X i) o)) (λ d. and_then (V d) B)))
        (sym (acts i m s D))
        ((λ r. and_then (V (with_status r D)) B), refl, λ r. replied (stat_of sel) g gt accepted (pos m) s l c n stat h ht r w k))))

    pub stated : (c : Core) (i : ℕ) (ss : t.Subscripts) (sel : t.Selector) (stat : t.OptionalResult) (accepted : List ℤ) (l : ℕ)
        → HasRoom 64 c
        → HasDimensions ss 0 → SubscriptsWithin 64 ss → SelectorWithin 64 sel → ResultWithin 64 stat
        → Comes (put_nothing c) (Keeps c.used)
        (on_cell limit e calls (t.part (objects.Coarray i) ss sel) (λ k there p m g. optional_target e calls stat ▹
        (λ h. at_cell limit e calls x k there p m g stat h accepted)) l (state_of c))
        (told (control.cell e (t.part (objects.Coarray i) ss sel) ▸ optional_place e stat ▸ rest i (is_scalar ss 0) sel stat accepted) l c)
    stated c i ss sel stat accepted l room d w v q =
        let b : Bool = is_scalar ss 0 in
        let A : Place → ℕ → Target → Target → Does (Unit {0}) = λ p m g h. at_cell limit e calls x i
        (b || has_selector sel) p m g stat h accepted in
        cell_comes c i ss sel (λ p m g. optional_target e calls stat ▹ A p m g) (told (optional_place e stat ▸
        rest i b sel stat accepted) l) l room d w v
        (λ s m g y gt k.
        let O : Core = with_state y (pushed (pos m) (pushed s (with_target c g))) in
        comes_then (put_target O) (Targeted O.used stat) (put_nothing c) (Keeps c.used) (optional_target e calls stat l y)
        (told (optional_place e stat) l O)
        (λ p. A (point s) m g p.0 l p.1) (told (rest i b sel stat accepted) l) (target_comes e calls 64 stat l O
        (room_beside 64 c y room k) q)
        (λ h u j. asked_of c i b sel stat h g accepted s m l u c.used gt j.0 (kept_more c.used y u k j.1)))
