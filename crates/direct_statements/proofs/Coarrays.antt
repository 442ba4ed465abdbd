-- The acts of an assignment to a coarray or a part of one.
use Rattle.std.proofs.Common.{arith, ◌≡◌, refl, ap, sym, subst, ◌∙◌, ℕ, zero, suc, ◌+◌, ◌==◌, ◌||◌, ℤ, pos, Bool, true, false, cond, List, [], ◌∷◌, ◌++◌, length, replicate, length-append}
use Rattle.caf_base.specs.declared.value.Kind.{Kind}
use Rattle.walk_theory.specs.Syntax.{Parts, end_parts}
use Rattle.caf_events.specs.declared.ask.Ask.TheVariants as asked
use Rattle.walk_theory.specs.Language.{goes_to, faults as faulting, asking as asking_act}
use Rattle.checked_tree.specs.declared.data.Object.TheVariants as objects
use Rattle.checked_tree.specs.Expressions as t
use Rattle.image_acts.specs.Faults.{shape_fault}
use Rattle.image_acts.specs.Acts as a
use Rattle.image_acts.specs.Acts.{Act, stack, bounded, ask, selector}
use Rattle.image_acts.specs.Core.{Core, Array, pushed, with_values, with_array}
use Rattle.image_acts.specs.Places.{Place, place_numbers, place_size, extents_of, cells_of}
use Rattle.image_acts.specs.Taking.{put_down as put_numbers}
use Rattle.image_acts.specs.Replies.{with_status}
use Rattle.image_acts.specs.Operate.Asking.{span_of}
use Rattle.image_acts.specs.Operate.Bounds.{same_extents}
use Rattle.image_acts.specs.Meaning.{operate, settled}
use Rattle.tree_meaning.specs.Environment.{Environment}
use Rattle.tree_meaning.specs.Sequences.{◌▸◌, doing, dropping, bringing, pushing}
use Rattle.tree_meaning.specs.Expressions as parts
use Rattle.tree_meaning.specs.Expressions.{optional_size, storing_status, stat_of, has_selector, needing_own, is_scalar, form_of}
use Rattle.tree_meaning.specs.Assignments as acts
use Rattle.tree_meaning.specs.Assignments.{fitting, agreeing, writing, dropping_value, lifting, left_over}
use Rattle.direct_meaning.specs.States.{State, state_of, with_state}
use Rattle.direct_meaning.specs.Outcomes.{Outcome, done, and_then, Does, giving, ◌▹◌}
use Rattle.direct_meaning.specs.Told.{of_effect, told}
use Rattle.direct_meaning.specs.Values.{Value, number, array, coarray_part, need_own}
use Rattle.direct_meaning.specs.Images.{this_image, image}
use Rattle.direct_meaning.specs.Expressions.{Passed, Target, nowhere, set_target, scalars, selected, selected_team, optional_target, all_of}
use Rattle.direct_meaning.specs.Statements.{converted, spread, write_part, assigned}
use Rattle.direct_agreement.specs.Agreeing.{HasRoom}
use Rattle.direct_agreement.proofs.Agreement.{Kept, Comes, comes_then, act_first, kept_more}
use Rattle.direct_agreement.proofs.Arrays.{put_subscripts}
use Rattle.direct_agreement.proofs.Scalars.{Keeps}
use Rattle.direct_agreement.proofs.Sections.{taken_back, put_more, place_back}
use Rattle.direct_laws.specs.Laws.{HasDimensions, SubscriptsWithin, SelectorWithin}
use Rattle.direct_access.proofs.Owners.{TargetOf, none, whole, part, with_target, put_owner, test_then, rank_size, some_more, bring_one, co_part_comes, own_image_comes, needing_comes}
use Rattle.direct_laws.proofs.Subscripts.{Shaped, all_comes, selector_comes}
use Rattle.direct_laws.proofs.Values.{subscripts_come, scalars_come, selected_team_comes, target_comes}
use Rattle.direct_statements.specs.Laws.{put_nothing}
use Rattle.direct_statements.proofs.Conversions.{over, number_fits, array_fits, drop_back}
use Rattle.direct_statements.proofs.Writing.{beneath, behind, Writes, write_acts, write_array_acts, map_replicate, set_behind_number, set_behind_array, part_written}

-- a place and an image over a value that was put down
abbrev there : Core → Place → ℕ → State → Core
there d p i z = pushed (pos i) (over d (place_numbers p) z)

abbrev owner_numbers : Place → ℕ → List ℤ
owner_numbers p i = place_numbers p ++ (pos i ∷ [])

owner_put : (p : Place) (i : ℕ) (us : List ℤ) → put_numbers (owner_numbers p i) us ≡ pos i ∷ put_numbers (place_numbers p) us
owner_put p i us = put_more (place_numbers p) (pos i ∷ []) us

owner_size : (rank : ℕ) (p : Place) (i : ℕ) → length p.dims ≡ rank → length (owner_numbers p i) ≡ place_size rank + 1
owner_size rank p i h = omega (arith, rank_size rank p h, length-append (place_numbers p) (pos i ∷ []))

-- the place and the image are dropped
dropped_by : (m l : ℕ) (d : Core) (b : Bool) → (m == 0) ≡ b → b ≡ false → told (dropping m) l d ≡ told (doing (stack (a.drop m) ∷ [])) l d
dropped_by m l d b e f = rw (e ∙ f) refl

drop_acts : (xs us : List ℤ) (d : Core) → operate (stack (a.drop (length xs))) (with_values d (put_numbers xs us)) ≡ goes_to
    (with_values d us)
drop_acts xs us d = rw (taken_back xs us) refl

owner_dropped : (rank : ℕ) (p : Place) (i l : ℕ) (us : List ℤ) (d : Core) → length p.dims ≡ rank
    → told (dropping (place_size rank + 1)) l (with_values d (pos i ∷ put_numbers (place_numbers p) us)) ≡ done (with_values d us)
owner_dropped rank p i l us d h =
    let D : Core = with_values d (put_numbers (owner_numbers p i) us) in
    ap (λ vs. told (dropping (place_size rank + 1)) l (with_values d vs)) (sym (owner_put p i us))
    ∙ dropped_by (place_size rank + 1) l D (place_size rank + 1 == 0) refl
    (some_more (place_size rank + 1) (place_size rank + 1 == 0) refl (omega arith))
    ∙ ap (λ m. told (doing (stack (a.drop m) ∷ [])) l D) (sym (owner_size rank p i h))
    ∙ ap (λ u. and_then (of_effect l D (settled (stack (a.drop (length (owner_numbers p i)))) u)) (told end_parts l))
    (drop_acts (owner_numbers p i) us d)

-- where the variable of STAT= is an element, a scalar comes once more beneath the place that is written
copy_acts : (xs us : List ℤ) (j v : ℤ) (d : Core)
    → operate (stack (a.copy (length xs + 1) 1)) (with_values d (put_numbers xs (j ∷ v ∷ us))) ≡ goes_to
    (with_values d (v ∷ put_numbers xs (j ∷ v ∷ us)))
copy_acts xs us j v d = rw (drop_back xs (j ∷ v ∷ us) 1) refl

lifted : (stat : t.OptionalResult) (g : Target) → TargetOf stat g → (rank : ℕ) (p : Place) (i : ℕ) (v : ℤ) (l : ℕ) (z y : State) (c : Core)
    → length p.dims ≡ rank
    → told (lifting 0 (optional_size stat) (place_size rank + 1)) l (put_owner (with_target (pushed v (with_state z c)) g) p i y) ≡ done
    (there (pushed v (beneath c g v)) p i y)
lifted stat g none rank p i v l z y c h = refl
lifted stat g (whole u k) rank p i v l z y c h = refl
lifted stat g (part u x es k j) rank p i v l z y c h =
    let C : Core = with_state y c in
    let N : ℕ = place_size rank + 1 in
    let V : List ℤ = j ∷ v ∷ c.values in
    let D : Core = with_values C (put_numbers (owner_numbers p i) V) in
    let B : Core → Outcome Core = told (bringing 1 N) l in
    let K : ℕ → Core → Outcome Core = λ m d. and_then (told (doing (stack (a.copy m 1) ∷ [])) l d) B in
    ap (λ vs. K (N + 1) (with_values C vs)) (sym (owner_put p i V))
    ∙ ap (λ m. K (m + 1) D) (sym (owner_size rank p i h))
    ∙ ap (λ u. and_then (and_then (of_effect l D (settled (stack (a.copy (length (owner_numbers p i) + 1) 1)) u)) (told end_parts l)) B)
    (copy_acts (owner_numbers p i) c.values j v C)
    ∙ bring_one N (owner_numbers p i) V v l C (owner_size rank p i h) (omega arith)
    ∙ ap (λ vs. done (with_values C vs)) (owner_put p i (v ∷ V))

-- the conversion of a value beneath a place and an image
number_converted : (c b : Core) (n : ℕ) (from k : Kind) (v : ℤ) (rank : ℕ) (p : Place) (i : ℕ) (m : Does (Unit {0})) (l : ℕ) (z : State)
    (q : Core → Outcome Core) → length p.dims ≡ rank
    → Comes (put_nothing c) (Keeps n) (m l z) (q (there (pushed v b) p i z))
    → Comes (put_nothing c) (Keeps n) ((converted from k (number v) ▹ (λ u. m)) l z)
    (and_then (told (fitting from k 0 (place_size rank + 1)) l (there (pushed v b) p i z)) q)
number_converted c b n from k v rank p i m l z q h g =
    let E : List ℤ → Core = λ vs. with_values (with_state z b) vs in
    let e = owner_put p i (v ∷ b.values) in
    subst (λ j. Comes (put_nothing c) (Keeps n) ((converted from k (number v) ▹ (λ u. m)) l z)
    (and_then (told (fitting from k 0 j) l (there (pushed v b) p i z)) q)) (owner_size rank p i h)
    (subst (λ vs. Comes (put_nothing c) (Keeps n) ((converted from k (number v) ▹ (λ u. m)) l z)
    (and_then (told (fitting from k 0 (length (owner_numbers p i))) l (E vs)) q)) e
    (number_fits (put_nothing c) (Keeps n) from k v (owner_numbers p i) m l z b q
    (subst (λ vs. Comes (put_nothing c) (Keeps n) (m l z) (q (E vs))) (sym e) g)))

array_converted : (c b : Core) (n : ℕ) (from k : Kind) (w : Array) (r rank : ℕ) (p : Place) (i : ℕ) (m : Does (Unit {0})) (l : ℕ)
    (z : State) (q : Core → Outcome Core)
    → Comes (put_nothing c) (Keeps n) (m l z) (q (there (with_array w b) p i z))
    → Comes (put_nothing c) (Keeps n) ((converted from k (array w) ▹ (λ u. m)) l z)
    (and_then (told (fitting from k (suc r) (place_size rank + 1)) l (there (with_array w b) p i z)) q)
array_converted c b n from k w r rank p i m l z q g =
    let E : List ℤ → Core = λ vs. with_array w (with_values (with_state z b) vs) in
    let e = owner_put p i b.values in
    subst (λ vs. Comes (put_nothing c) (Keeps n) ((converted from k (array w) ▹ (λ u. m)) l z)
    (and_then (told (fitting from k (suc r) (place_size rank + 1)) l (E vs)) q)) e
    (array_fits (put_nothing c) (Keeps n) from k w r (owner_numbers p i) (place_size rank + 1) m l z b q
    (subst (λ vs. Comes (put_nothing c) (Keeps n) (m l z) (q (E vs))) (sym e) g))

-- what comes behind the image of the left side
abbrev TailActs : ℕ → Bool → t.Selector → ℕ → ℕ → Kind → Kind → Parts Act
TailActs i is_whole sel rank r from k =
    lifting r (optional_size (stat_of sel)) (place_size rank + 1) ▸ fitting from k r (place_size rank + 1) ▸ needing_own i is_whole sel ▸
    agreeing r 1 rank ▸ writing r i rank k
    ▸ doing (stack a.accessed ∷ []) ▸ behind (stat_of sel) r

abbrev tail : ℕ → Bool → Kind → Kind → Value → Place → ℕ → Target → Does (Unit {0})
tail i needs_none from k x p m g = converted from k x ▹
    (λ u. need_own needs_none i ▹ (λ u. spread p x ▹ (λ vs. write_part i m p k vs ▹ (λ status. set_target g status))))

-- the coarray has to be there on this image where no selector names one
needing : (c d : Core) (n i : ℕ) (is_whole : Bool) (sel : t.Selector) (m : Does (Unit {0})) (q : Core → Outcome Core) (l : ℕ)
    → Comes (put_nothing c) (Keeps n) (m l (state_of d)) (q d)
    → Comes (put_nothing c) (Keeps n) ((need_own (is_whole || has_selector sel) i ▹ (λ u. m)) l (state_of d))
    (and_then (told (needing_own i is_whole sel) l d) q)
needing c d n i true t.no_selector m q l h = needing_comes (put_nothing c) (Keeps n) i true m q l d h
needing c d n i false t.no_selector m q l h = needing_comes (put_nothing c) (Keeps n) i false m q l d h
needing c d n i true (t.selector cs which stat) m q l h = h
needing c d n i false (t.selector cs which stat) m q l h = h

-- the shape of what is written, beneath the image
shape_acts : (rank : ℕ) (p : Place) (w : Array) (i : ℕ) (us : List ℤ) (d : Core) → length p.dims ≡ rank
    → operate (bounded (a.same_shape 1 rank)) (pushed (pos i) (with_array w (with_values d (put_numbers (place_numbers p) us))))
    ≡ cond (same_extents w.extents (extents_of p))
    (goes_to (pushed (pos i) (with_array w (with_values d (put_numbers (place_numbers p) us))))) (faulting shape_fault)
shape_acts rank p w i us d h =
    rw (rank_size rank p h) (rw (taken_back (place_numbers p) us)
    (ap (λ q. cond (same_extents w.extents (extents_of q))
    (goes_to (pushed (pos i) (with_array w (with_values d (put_numbers (place_numbers p) us))))) (faulting shape_fault))
    (place_back p)))

module _ (c : Core) (n i : ℕ) (is_whole : Bool) (sel : t.Selector) (rank : ℕ) (from k : Kind) (g : Target)
    (target : TargetOf (stat_of sel) g) where
  abbrev stat : t.OptionalResult
  stat = stat_of sel

  abbrev rest_of : ℕ → ℕ → Core → Outcome Core
  rest_of r l = told (doing (stack a.accessed ∷ []) ▸ behind stat r) l

  -- a scalar goes to each cell
  number_writes : (v : ℤ) → Writes (beneath c g v) (pushed v (beneath c g v)) 0 i k (λ p. replicate (cells_of p) v)
      (λ m. ask (a.write i m k))
  number_writes v m p j z h =
      write_acts i m k p v (pos j) (beneath c g v).values (with_state z (beneath c g v)) h
      ∙ ap (λ cs. asking_act (asked.Write (image j) (span_of i p) cs) (λ q. with_status q (with_state z (beneath c g v))))
      (sym (map_replicate (cells_of p) k v))

  number_drops : (v : ℤ) (m : ℕ) (p : Place) (j l : ℕ) (z : State) → length p.dims ≡ m
      → told (dropping (place_size m + 1) ▸ dropping_value 0 ▸ pushing (pos 0)) l (there (pushed v (beneath c g v)) p j z) ≡ done
      (pushed (pos 0) (with_state z (beneath c g v)))
  number_drops v m p j l z h =
      ap (λ o. and_then o (told (dropping_value 0 ▸ pushing (pos 0)) l))
      (owner_dropped m p j l (v ∷ (beneath c g v).values) (with_state z (pushed v (beneath c g v))) h)

  number_written : (v : ℤ) (m : ℕ) (p : Place) (j l : ℕ) (z : State) → Kept n z → length p.dims ≡ m
      → Comes (put_nothing c) (Keeps n) ((write_part i j p k (replicate (cells_of p) v) ▹ (λ w. set_target g w)) l z)
      (and_then (told (writing 0 i m k) l (there (pushed v (beneath c g v)) p j z)) (rest_of 0 l))
  number_written v zero p j l z h e =
      part_written c (beneath c g v) (pushed v (beneath c g v)) n 0 i k (λ q. replicate (cells_of q) v) (λ m. ask (a.write i m k)) stat g
      (λ w f y b. set_behind_number stat g target v w f y c n b) (number_writes v) (number_drops v) 0 p j l z h e
  number_written v (suc m) p j l z h e =
      part_written c (beneath c g v) (pushed v (beneath c g v)) n 0 i k (λ q. replicate (cells_of q) v) (λ f. ask (a.write i f k)) stat g
      (λ w f y b. set_behind_number stat g target v w f y c n b) (number_writes v) (number_drops v) (suc m) p j l z h e

  pub number_tail : (v : ℤ) (p : Place) (j l : ℕ) (z y : State) → Kept n y → length p.dims ≡ rank
      → Comes (put_nothing c) (Keeps n) (tail i (is_whole || has_selector sel) from k (number v) p j g l y)
      (told (TailActs i is_whole sel rank 0 from k) l (put_owner (with_target (pushed v (with_state z c)) g) p j y))
  number_tail v p j l z y h e =
      let D : Core = there (pushed v (beneath c g v)) p j y in
      let A : Parts Act = fitting from k 0 (place_size rank + 1) ▸ needing_own i is_whole sel ▸ agreeing 0 1 rank ▸ writing 0 i rank k ▸
      doing (stack a.accessed ∷ []) ▸ behind stat 0 in
      let M : Does (Unit {0}) = write_part i j p k (replicate (cells_of p) v) ▹ (λ w. set_target g w) in
      subst (λ o. Comes (put_nothing c) (Keeps n) (tail i (is_whole || has_selector sel) from k (number v) p j g l y)
      (and_then o (told A l))) (sym (lifted stat g target rank p j v l z y c e))
      (number_converted c (beneath c g v) n from k v rank p j (need_own (is_whole || has_selector sel) i ▹ (λ u. M)) l y
      (told (needing_own i is_whole sel ▸ agreeing 0 1 rank ▸ writing 0 i rank k ▸ doing (stack a.accessed ∷ []) ▸ behind stat 0) l) e
      (needing c D n i is_whole sel M (told (agreeing 0 1 rank ▸ writing 0 i rank k ▸ doing (stack a.accessed ∷ []) ▸ behind stat 0) l) l
      (number_written v rank p j l y h e)))

  -- an array goes cell by cell
  array_writes : (w : Array) (r : ℕ) → Writes (with_target c g) (with_array w (with_target c g)) (suc r) i k (λ p. w.elements)
      (λ m. ask (a.write_array i m k))
  array_writes w r m p j z h = write_array_acts i m k p w (pos j) (with_target c g).values (with_state z (with_target c g)) h

  array_drops : (w : Array) (r m : ℕ) (p : Place) (j l : ℕ) (z : State) → length p.dims ≡ m
      → told (dropping (place_size m + 1) ▸ dropping_value (suc r) ▸ pushing (pos 0)) l (there (with_array w (with_target c g)) p j z) ≡
      done (pushed (pos 0) (with_state z (with_target c g)))
  array_drops w r m p j l z h =
      ap (λ o. and_then o (told (dropping_value (suc r) ▸ pushing (pos 0)) l))
      (owner_dropped m p j l (with_target c g).values (with_state z (with_array w (with_target c g))) h)

  array_written : (w : Array) (r m : ℕ) (p : Place) (j l : ℕ) (z : State) → Kept n z → length p.dims ≡ m
      → Comes (put_nothing c) (Keeps n) ((write_part i j p k w.elements ▹ (λ v. set_target g v)) l z)
      (and_then (told (writing (suc r) i m k) l (there (with_array w (with_target c g)) p j z)) (rest_of (suc r) l))
  array_written w r zero p j l z h e =
      part_written c (with_target c g) (with_array w (with_target c g)) n (suc r) i k (λ q. w.elements) (λ m. ask (a.write_array i m k))
      stat g (λ v f y b. set_behind_array stat g target r v f y c n b) (array_writes w r) (array_drops w r) 0 p j l z h e
  array_written w r (suc m) p j l z h e =
      part_written c (with_target c g) (with_array w (with_target c g)) n (suc r) i k (λ q. w.elements) (λ f. ask (a.write_array i f k))
      stat g (λ v f y b. set_behind_array stat g target r v f y c n b) (array_writes w r) (array_drops w r) (suc m) p j l z h e

  pub array_tail : (w : Array) (r : ℕ) (p : Place) (j l : ℕ) (z y : State) → Kept n y → length p.dims ≡ rank
      → Comes (put_nothing c) (Keeps n) (tail i (is_whole || has_selector sel) from k (array w) p j g l y)
      (told (TailActs i is_whole sel rank (suc r) from k) l (put_owner (with_target (with_array w (with_state z c)) g) p j y))
  array_tail w r p j l z y h e =
      let B : Core = with_target c g in
      let D : Core = there (with_array w B) p j y in
      let Y : Act = bounded (a.same_shape 1 rank) in
      let W : Core → Outcome Core = told (writing (suc r) i rank k ▸ doing (stack a.accessed ∷ []) ▸ behind stat (suc r)) l in
      let S : List ℤ → Does (Unit {0}) = λ vs. write_part i j p k vs ▹ (λ v. set_target g v) in
      let M : Does (Unit {0}) = spread p (array w) ▹ S in
      array_converted c B n from k w r rank p j (need_own (is_whole || has_selector sel) i ▹ (λ u. M)) l y
      (told (needing_own i is_whole sel ▸ agreeing (suc r) 1 rank ▸ writing (suc r) i rank k ▸ doing (stack a.accessed ∷ []) ▸ behind
      stat (suc r)) l)
      (needing c D n i is_whole sel M (told (agreeing (suc r) 1 rank ▸ writing (suc r) i rank k ▸ doing (stack a.accessed ∷ []) ▸ behind
      stat (suc r)) l) l
      (act_first (put_nothing c) (Keeps n) (M l y) Y l D W
      (subst (λ u. Comes (put_nothing c) (Keeps n) (M l y) (and_then (of_effect l D (settled Y u)) W))
      (sym (shape_acts rank p w j B.values (with_state y B) e))
      (test_then (put_nothing c) (Keeps n) (same_extents w.extents (extents_of p)) (giving w.elements) S shape_fault l D Y (goes_to D) W
      (array_written w r rank p j l y h e)))))

-- the tail of a value that is put down as d
abbrev Tails : Core → Core → ℕ → ℕ → Bool → t.Selector → ℕ → ℕ → Kind → Kind → Value → Type 0
Tails c d n i is_whole sel rank r from k x = (g : Target) → TargetOf (stat_of sel) g → (p : Place) (j l : ℕ) (y : State) → Kept n y
    → length p.dims ≡ rank
    → Comes (put_nothing c) (Keeps n) (tail i (is_whole || has_selector sel) from k x p j g l y)
    (told (TailActs i is_whole sel rank r from k) l (put_owner (with_target d g) p j y))

module _ (limit : ℕ) (e : Environment) (calls : ℕ → List Passed → Does Value) where
  pub coarray_assigned : (c d : Core) (n i : ℕ) (ss : t.Subscripts) (sel : t.Selector) (rank r : ℕ) (from k : Kind) (x : Value) (l : ℕ)
      → Tails c d n i (is_scalar ss rank) sel rank r from k x
      → HasRoom 64 d → Kept n (state_of d) → HasDimensions ss rank → SubscriptsWithin 64 ss → SelectorWithin 64 sel
      → Comes (put_nothing c) (Keeps n) (assigned limit e calls (t.part (objects.Coarray i) ss sel) k rank from x l (state_of d))
      (told (acts.assigned e (t.part (objects.Coarray i) ss sel) k rank from r) l d)
  coarray_assigned c d n i ss t.no_selector rank r from k x l tails room b h w v =
      let P : Unit {0} → State → Type 0 = Keeps n in
      let F : Place → Does (Unit {0}) = λ p. this_image p ▹ (λ j. tail i (is_scalar ss rank || false) from k x p j nowhere) in
      let R : Core → Outcome Core = told (TailActs i (is_scalar ss rank) t.no_selector rank r from k) l in
      let Q : Core → Outcome Core = λ f. and_then (told (doing (selector (a.own_image rank) ∷ [])) l f) R in
      comes_then (put_subscripts d) (Shaped d.used ss rank) (put_nothing c) P (all_of e calls ss rank l (state_of d))
      (told (parts.subscripts e ss) l d) (λ p. (coarray_part i rank p.0 ▹ F) l p.1)
      (λ f. and_then (told (doing (bounded (a.co_section i (form_of ss rank)) ∷ [])) l f) Q)
      (all_comes e calls ss rank l d h room.0 (subscripts_come e calls 64 ss l d room w))
      (λ xs y j. subst (λ m. Comes (put_nothing c) P ((coarray_part i rank xs ▹ F) l y)
      (and_then (told (doing (bounded (a.co_section i m) ∷ [])) l (put_subscripts d xs y)) Q)) j.0
      (co_part_comes (put_nothing c) P i rank xs F Q l y d j.1 j.2
      (λ p q. own_image_comes (put_nothing c) P rank p (λ m. tail i (is_scalar ss rank || false) from k x p m nowhere) R l y d q
      (tails nowhere none p y.me l y (kept_more n (state_of d) y b j.3) q))))
  coarray_assigned c d n i ss (t.selector cs which stat) rank r from k x l tails room b h w v =
      let P : Unit {0} → State → Type 0 = Keeps n in
      let F : Place → Does (Unit {0}) = λ p. selected (scalars e calls cs) (selected_team e calls which) (optional_target e calls stat) i p
      (λ j g. tail i (is_scalar ss rank || true) from k x p j g) in
      let R : Core → Outcome Core = told (TailActs i (is_scalar ss rank) (t.selector cs which stat) rank r from k) l in
      let Q : Core → Outcome Core = λ f. and_then (told (parts.owner e i rank (t.selector cs which stat)) l f) R in
      comes_then (put_subscripts d) (Shaped d.used ss rank) (put_nothing c) P (all_of e calls ss rank l (state_of d))
      (told (parts.subscripts e ss) l d) (λ p. (coarray_part i rank p.0 ▹ F) l p.1)
      (λ f. and_then (told (doing (bounded (a.co_section i (form_of ss rank)) ∷ [])) l f) Q)
      (all_comes e calls ss rank l d h room.0 (subscripts_come e calls 64 ss l d room w))
      (λ xs y j. subst (λ m. Comes (put_nothing c) P ((coarray_part i rank xs ▹ F) l y)
      (and_then (told (doing (bounded (a.co_section i m) ∷ [])) l (put_subscripts d xs y)) Q)) j.0
      (co_part_comes (put_nothing c) P i rank xs F Q l y d j.1 j.2
      (λ p q. selector_comes e calls (put_nothing c) P 64 i rank cs which stat p (λ m g. tail i (is_scalar ss rank || true) from k x p m g)
      R l y d room j.3 q
      (λ f room'. scalars_come e calls 64 cs l f room' v.0) (λ f room'. selected_team_comes e calls 64 which l f room' v.1)
      (λ f room'. target_comes e calls 64 stat l f room' v.2)
      (λ m g u f t. tails g f p m l u (kept_more n (state_of d) u b t) q))))
