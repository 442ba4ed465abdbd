-- SYNC IMAGES (ISO/IEC 1539-1:2018, 11.6.4): its acts meet what it does.
use Rattle.std.proofs.Common.{arith, ◌≡◌, refl, ap, sym, subst, ◌∙◌, ℕ, zero, suc, ◌+◌, ◌≤◌, nat_le, ℤ, Bool, true, false, cond, List, [], ◌∷◌, length, leb-true, le_refl, true≢false}
use Rattle.std.proofs.lemmas.Bool.{le-leb}
use Rattle.caf_events.specs.declared.ask.Ask.TheVariants as asked
use Rattle.caf_events.specs.declared.reply.Reply.{Reply}
use Rattle.caf_events.specs.declared.reply.Reply.TheVariants as replies
use Rattle.walk_theory.specs.Syntax.{Parts, end_parts}
use Rattle.walk_theory.specs.Language.{holds, fails, goes_to, faults as faulting}
use Rattle.checked_tree.specs.Expressions as t
use Rattle.checked_tree.specs.Statements as s
use Rattle.image_acts.specs.Statuses.{bad_argument, most_elements}
use Rattle.image_acts.specs.Faults.{room}
use Rattle.image_acts.specs.Acts as a
use Rattle.image_acts.specs.Acts.{Act, stack, bounded, ask}
use Rattle.image_acts.specs.Core.{Core, Array, pushed, with_array, elements_in, row}
use Rattle.image_acts.specs.Replies.{with_status}
use Rattle.image_acts.specs.Teams.{are_indices_of, counted_from}
use Rattle.image_acts.specs.Operate.Asking.{named}
use Rattle.image_acts.specs.Meaning.{settled}
use Rattle.tree_meaning.specs.Environment.{Environment}
use Rattle.tree_meaning.specs.Sequences.{◌▸◌, doing, pushing, dropping, choosing}
use Rattle.tree_meaning.specs.Expressions.{expression, optional_size, optional_place}
use Rattle.tree_meaning.specs.Assignments.{rank_in}
use Rattle.tree_meaning.specs.Settling.{settling}
use Rattle.tree_meaning.specs.ImageControl as control
use Rattle.direct_meaning.specs.States.{State, state_of, with_state}
use Rattle.direct_meaning.specs.Outcomes.{Outcome, done, asks, and_then, Does, giving, nothing_said, ◌▹◌, asking}
use Rattle.direct_meaning.specs.Told.{of_effect, of_test, told}
use Rattle.direct_meaning.specs.Values.{Value, number, array}
use Rattle.direct_meaning.specs.Images.{current_team, members}
use Rattle.direct_meaning.specs.Expressions.{Passed, Target, value, optional_target}
use Rattle.direct_meaning.specs.Synchronizing.{settle, number_in}
use Rattle.direct_meaning.specs.Statements.{of_rank, elements_of, image_set, paired, sync_images}
use Rattle.direct_agreement.specs.Agreeing.{HasRoom, put_down}
use Rattle.direct_agreement.proofs.Agreement.{Kept, Leaves, kept_more, room_behind, elements_more}
use Rattle.direct_agreement.proofs.Inquiries.{fewer}
use Rattle.direct_access.proofs.Owners.{TargetOf, with_target}
use Rattle.direct_laws.specs.Laws.{IsCovered, ResultWithin}
use Rattle.direct_laws.proofs.Subscripts.{put_target, Targeted}
use Rattle.direct_laws.proofs.Values.{value_comes, target_comes}
use Rattle.direct_walks.proofs.Cases.{true_back}
use Rattle.direct_control.specs.Meeting.{Meets, Lies}
use Rattle.direct_control.specs.Laws.{AreImages}
use Rattle.direct_control.proofs.Meeting.{meets_then, comes_first, comes_through, meets_said_apart}
use Rattle.direct_control.proofs.Settling.{target_dropped}
use Rattle.direct_control.proofs.Control.{settle_meets}

-- the indices as the top array
abbrev Indices : Core → List ℤ → State → Core → Type 0
Indices c vs z d = (w : Array) × (d ≡ with_array w (with_state z c)) × (w.elements ≡ vs) × Kept c.used z × HasRoom 21 (with_array w
    (with_state z c))

-- so many elements more leave room for fewer levels
room_over : (c : Core) (w : Array) (z : State) → HasRoom 64 c → Kept c.used z → length w.elements ≤ 256 → HasRoom 21 (with_array w
    (with_state z c))
room_over c w z r k h =
    let e : elements_in (with_array w (with_state z c)).arrays ≡ length w.elements + elements_in c.arrays = elements_more w c.arrays in
    (k.1, omega (arith, e, r.1, k.0, h))

counted_length : (i n : ℕ) → length (counted_from i n) ≡ n
counted_length i zero = refl
counted_length i (suc n) = ap suc (counted_length (i + 1) n)

-- every image of the team
every_met : (b d : Bool) (n l : ℕ) (c : Core) → HasRoom 64 c → nat_le n 256 ≡ b → nat_le (elements_in c.arrays + n) most_elements ≡ d
    → Meets (Indices c) (cond b (giving (counted_from 1 n)) nothing_said l (state_of c))
    (and_then (of_effect l c (settled (bounded a.every_index) (cond d (goes_to (with_array (row (counted_from 1 n) n) c))
    (faulting room)))) (told end_parts l))
every_met false d n l c r e f = tt
every_met true true n l c r e f =
    let w : Array = row (counted_from 1 n) n in
    let h : length w.elements ≤ 256 = omega (arith, counted_length 1 n, leb-true n 256 e) in
    let k : Kept c.used (state_of c) = (le_refl c.used, r.0) in
    (with_array w c, refl, (w, refl, refl, k, room_over c w (state_of c) r k h))
every_met true false n l c r e f =
    let h : elements_in c.arrays + n ≤ most_elements = omega (arith, leb-true n 256 e, r.0, r.1) in
    absurd (true≢false (sym (le-leb (elements_in c.arrays + n) most_elements h) ∙ f))

-- one index is an array of one element
one_met : (b : Bool) (v : ℤ) (l : ℕ) (z : State) (c : Core) → HasRoom 64 c → Kept c.used z
    → nat_le (elements_in (row [] 0 ∷ c.arrays) + 1) most_elements ≡ b
    → Meets (Indices c) (done (v ∷ [], z))
    (and_then (of_effect l (pushed v (with_array (row [] 0) (with_state z c)))
    (settled (stack a.append) (cond b (goes_to (with_array (row (v ∷ []) 1) (with_state z c))) (faulting room)))) (told end_parts l))
one_met true v l z c r k e =
    let w : Array = row (v ∷ []) 1 in
    let h : length w.elements ≤ 256 = omega arith in
    (with_array w (with_state z c), refl, (w, refl, refl, k, room_over c w z r k h))
one_met false v l z c r k e =
    let i : elements_in (row [] 0 ∷ c.arrays) ≡ length {A = ℤ} [] + elements_in c.arrays = elements_more (row [] 0) c.arrays in
    let h : elements_in (row [] 0 ∷ c.arrays) + 1 ≤ most_elements = omega (arith, i, r.0, r.1) in
    absurd (true≢false (sym (le-leb (elements_in (row [] 0 ∷ c.arrays) + 1) most_elements h) ∙ e))

-- SYNC IMAGES where the indices are images of the team, each once, and where they aren't
module _ (stat : t.OptionalResult) (g : Target) (i : TargetOf stat g) (l : ℕ) (c : Core) where
  abbrev T : Parts Act
  T = dropping (optional_size stat)

  abbrev K : Core → Outcome Core
  K = told (settling stat 1 [] ▸ T) l

  abbrev D : State → Core
  D z = with_state z (with_target c g)

  behind_status : (v : ℤ) (z : State) → Kept c.used z → Meets (Lies c) (settle stat g [] v l z) (K (pushed v (D z)))
  behind_status v z k = settle_meets stat g i [] T v l z c c c.round c.formed c.used k (λ y. target_dropped stat g i l y c)

  unpaired : (q : Reply) (z : State) → Kept c.used z → Meets (Lies c) ((number_in q ▹ settle stat g []) l z) (K (with_status q (D z)))
  unpaired (replies.Number v) z k = behind_status v z k
  unpaired q z k = tt

  abbrev pair_acts : Parts Act
  pair_acts = doing (ask a.pair ∷ ask a.unpair ∷ [])

  abbrev no_pair : Parts Act
  no_pair = doing (stack a.drop_array ∷ []) ▸ pushing bad_argument

  abbrev chosen : Bool → Core → Outcome Core
  chosen b d = and_then (of_test (cond b (holds d) (fails d)) (told pair_acts l) (told no_pair l)) (told end_parts l)

  pair_met : (b : Bool) (w : Array) (z : State) → Kept c.used z
      → Meets (Lies c)
      ((cond b (asking (asked.Pair (named (members (current_team z) z) w.elements)) ▹ (λ r. asking asked.Unpair ▹ number_in))
      (giving bad_argument) ▹ settle stat g []) l z)
      (and_then (chosen b (with_array w (D z))) K)
  pair_met true w z k =
      ((λ r. asks asked.Unpair l z (λ q. K (with_status q (D z)))), refl, λ r. ((λ q. K (with_status q (D z))), refl, λ q. unpaired q z k))
  pair_met false w z k = behind_status bad_argument z k

  abbrev rest : Parts Act
  rest = doing (bounded a.are_indices ∷ []) ▸ choosing pair_acts no_pair ▸ settling stat 1 [] ▸ T

  module _ (limit : ℕ) (e : Environment) (calls : ℕ → List Passed → Does Value) where
    pub paired_met : (w : Array) (vs : List ℤ) (z : State) → w.elements ≡ vs → Kept c.used z
        → Meets (Lies c) ((paired limit e calls vs ▹ settle stat g []) l z) (told rest l (with_array w (D z)))
    paired_met w vs z same k =
        let B : Bool = are_indices_of (length (members (current_team z) z)) w.elements in
        subst (λ us. Meets (Lies c) ((paired limit e calls us ▹ settle stat g []) l z) (told rest l (with_array w (D z)))) same
        (subst (λ b. Meets (Lies c) ((paired limit e calls w.elements ▹ settle stat g []) l z)
        (and_then (chosen b (with_array w (D z))) K))
        (sym (true_back B)) (pair_met B w z k))

module _ (limit : ℕ) (e : Environment) (calls : ℕ → List Passed → Does Value) where
  -- the value of an index, or of an array of indices
  one_by : (r : ℕ) (x : t.Expression) (l : ℕ) (c : Core) → HasRoom 64 c → (v : Value) (z : State) → Leaves c.used v z
      → Meets (Indices c) (and_then (of_rank 0 v l z) (λ q. done (elements_of q.0, q.1)))
      (told (doing (stack a.append ∷ [])) l (put_down (with_array (row [] 0) c) v z))
  one_by r x l c h (number v) z k = one_met (nat_le (elements_in (row [] 0 ∷ c.arrays) + 1) most_elements) v l z c h k refl
  one_by r x l c h (array w) z k = tt

  some_by : (r l : ℕ) (c : Core) → HasRoom 64 c → (v : Value) (z : State) → Leaves c.used v z
      → Meets (Indices c) (and_then (of_rank (suc r) v l z) (λ q. done (elements_of q.0, q.1))) (done (put_down c v z))
  some_by r l c h (number v) z k = tt
  some_by r l c h (array w) z k =
      let q : HasRoom 64 (with_array w (with_state z c)) = room_behind 64 c w z h k.0 in
      (with_array w (with_state z c), refl, (w, refl, refl, fewer c.used (length w.elements) z k.0, (q.0, omega (arith, q.1))))

  empty_room : (c : Core) → HasRoom 64 c → HasRoom 64 (with_array (row [] 0) c)
  empty_room c r =
      let i : elements_in (row [] 0 ∷ c.arrays) ≡ length {A = ℤ} [] + elements_in c.arrays = elements_more (row [] 0) c.arrays in
      (r.0, omega (arith, i, r.1))

  by_rank : (r : ℕ) (x : t.Expression) (l : ℕ) (c : Core) → HasRoom 64 c → IsCovered x
      → Meets (Indices c) (((value e calls x ▹ of_rank r) ▹ (λ v. giving (elements_of v))) l (state_of c))
      (told (control.index_set e r x) l c)
  by_rank zero x l c h w =
      let E : Core = with_array (row [] 0) c in
      meets_said_apart (Indices c) (value e calls x l (state_of c)) (λ p. of_rank 0 p.0 l p.1) (λ q. done (elements_of q.0, q.1))
      (and_then (told (expression e x) l E) (told (doing (stack a.append ∷ [])) l))
      (comes_first (put_down E) (Leaves c.used) (Indices c) (value e calls x l (state_of c)) (told (expression e x) l E)
      (λ p. and_then (of_rank 0 p.0 l p.1) (λ q. done (elements_of q.0, q.1))) (told (doing (stack a.append ∷ [])) l)
      (value_comes e calls 64 x l E (empty_room c h) w) (one_by 0 x l c h))
  by_rank (suc r) x l c h w =
      meets_said_apart (Indices c) (value e calls x l (state_of c)) (λ p. of_rank (suc r) p.0 l p.1) (λ q. done (elements_of q.0, q.1))
      (told (expression e x) l c)
      (comes_through (put_down c) (Leaves c.used) (Indices c) (value e calls x l (state_of c)) (told (expression e x) l c)
      (λ p. and_then (of_rank (suc r) p.0 l p.1) (λ q. done (elements_of q.0, q.1))) (value_comes e calls 64 x l c h w) (some_by r l c h))

  images_met : (is : s.ImageSet) (l : ℕ) (c : Core) → HasRoom 64 c → AreImages is
      → Meets (Indices c) (image_set limit e calls is l (state_of c)) (told (control.image_set e is) l c)
  images_met s.all_images l c h w =
      let n : ℕ = length (members (current_team (state_of c)) (state_of c)) in
      every_met (nat_le n 256) (nat_le (elements_in c.arrays + n) most_elements) n l c h refl refl
  images_met (s.images x) l c h w = by_rank (rank_in x) x l c h w

  behind_images : (is : s.ImageSet) (stat : t.OptionalResult) (l : ℕ) (c : Core) → ResultWithin 21 stat → (vs : List ℤ) (z : State)
      (w : Array)
      → w.elements ≡ vs → Kept c.used z → HasRoom 21 (with_array w (with_state z c))
      → Meets (Lies c) ((optional_target e calls stat ▹ (λ g. paired limit e calls vs ▹ settle stat g [])) l z)
      (told (optional_place e stat ▸ doing (bounded a.are_indices ∷ []) ▸
      choosing (doing (ask a.pair ∷ ask a.unpair ∷ [])) (doing (stack a.drop_array ∷ []) ▸ pushing bad_argument) ▸ settling stat 1 [] ▸
      dropping (optional_size stat)) l
      (with_array w (with_state z c)))
  behind_images is stat l c within vs z w same k r =
      let W : Core = with_array w (with_state z c) in
      comes_first (put_target W) (Targeted W.used stat) (Lies c) (optional_target e calls stat l z) (told (optional_place e stat) l W)
      (λ p. (paired limit e calls vs ▹ settle stat p.0 []) l p.1)
      (told (doing (bounded a.are_indices ∷ []) ▸
      choosing (doing (ask a.pair ∷ ask a.unpair ∷ [])) (doing (stack a.drop_array ∷ []) ▸ pushing bad_argument) ▸ settling stat 1 [] ▸
      dropping (optional_size stat)) l)
      (target_comes e calls 21 stat l W r within)
      (λ g y j. paired_met stat g j.0 l c limit e calls w vs y same (kept_more c.used z y k j.1))

  pub sync_images_meets : (is : s.ImageSet) (stat : t.OptionalResult) (l : ℕ) (c : Core) → HasRoom 64 c → AreImages is
      → ResultWithin 21 stat
      → Meets (Lies c) (sync_images limit e calls is stat l (state_of c)) (told (control.sync_images e is stat) l c)
  sync_images_meets is stat l c r h w =
      let F : List ℤ → Does (Unit {0}) = λ vs. optional_target e calls stat ▹ (λ g. paired limit e calls vs ▹ settle stat g []) in
      let R : Core → Outcome Core = told (optional_place e stat ▸ doing (bounded a.are_indices ∷ []) ▸
      choosing (doing (ask a.pair ∷ ask a.unpair ∷ [])) (doing (stack a.drop_array ∷ []) ▸ pushing bad_argument) ▸ settling stat 1 [] ▸
      dropping (optional_size stat)) l in
      meets_then (Indices c) (Lies c) (image_set limit e calls is l (state_of c)) (told (control.image_set e is) l c) (λ p. F p.0 l p.1) R
      (images_met is l c r h)
      (λ vs z d i. subst (λ f. Meets (Lies c) (F vs l z) (R f)) (sym i.1) (behind_images is stat l c w vs z i.0 i.2 i.3 i.4))
