-- A part of a coarray is defined on an image: the shape, the access, the status in the variable of STAT=, and faults.
use Rattle.std.proofs.Common.{arith, ◌≡◌, refl, ap, sym, subst, ◌∙◌, ℕ, zero, suc, ◌+◌, ◌≤◌, ◌==◌, ℤ, pos, Bool, true, false, true≢false, not, cond, List, [], ◌∷◌, length, map, replicate, Option, None, Some}
use Rattle.caf_base.specs.declared.value.Kind.{Kind}
use Rattle.caf_base.specs.Arithmetic.{value_of, truth}
use Rattle.caf_events.specs.declared.ask.Ask.TheVariants as asked
use Rattle.caf_events.specs.declared.reply.Reply.{Reply}
use Rattle.caf_events.specs.declared.reply.Reply.TheVariants as replies
use Rattle.walk_theory.specs.Syntax.{Parts, end_parts, either}
use Rattle.walk_theory.specs.Language.{goes_to, asking as asking_act}
use Rattle.checked_tree.specs.Expressions as t
use Rattle.image_acts.specs.Statuses.{failed_image}
use Rattle.image_acts.specs.Acts as a
use Rattle.image_acts.specs.Acts.{Act, Scope, stack, variable, bounded, ask}
use Rattle.image_acts.specs.Core.{Core, Array, pushed, with_values, with_array}
use Rattle.image_acts.specs.Frames as frames
use Rattle.image_acts.specs.Places.{Place, place_numbers, place_size, cells_of}
use Rattle.image_acts.specs.Replies.{with_status}
use Rattle.image_acts.specs.Taking.{put_down as put_numbers}
use Rattle.image_acts.specs.Operate.Asking as asking_of
use Rattle.image_acts.specs.Operate.Asking.{span_of}
use Rattle.image_acts.specs.Meaning.{operate, settled}
use Rattle.tree_meaning.specs.Environment.{scope_of}
use Rattle.tree_meaning.specs.Sequences.{◌▸◌, doing, dropping, copying, pushing}
use Rattle.tree_meaning.specs.Expressions.{optional_size, storing_status}
use Rattle.tree_meaning.specs.Assignments.{dropping_value, left_over}
use Rattle.direct_meaning.specs.States.{State, with_state, scalar_in, with_scalar}
use Rattle.direct_meaning.specs.Outcomes.{Outcome, done, faults, asks, over as ended, unsaid, and_then, Does, giving, ◌▹◌, of_some, changing, asking}
use Rattle.direct_meaning.specs.Told.{of_effect, told}
use Rattle.direct_meaning.specs.Values.{set_elements}
use Rattle.direct_meaning.specs.Images.{image}
use Rattle.direct_meaning.specs.Expressions.{Target, set_target}
use Rattle.direct_meaning.specs.Statements.{written as written_reply, write_part}
use Rattle.direct_agreement.proofs.Agreement.{Kept, Comes, apart, act_first}
use Rattle.direct_agreement.proofs.Scalars.{Keeps}
use Rattle.direct_agreement.proofs.Sections.{taken_back, place_back}
use Rattle.direct_access.proofs.Owners.{TargetOf, none, whole, part, target_numbers, with_target, rank_size}
use Rattle.direct_statements.specs.Laws.{put_nothing}
use Rattle.direct_statements.proofs.Conversions.{over}
use Rattle.direct_statements.proofs.Defining.{stored, put_acts, elements_put}

-- acts at the end that leave the value as it is
comes_end : {X : Type 0} (lay lay' : X → State → Core) (P : X → State → Type 0) (m : Outcome (X × State)) (o : Outcome Core)
    (k : Core → Outcome Core)
    → Comes lay P m o → ((x : X) (s : State) → P x s → k (lay x s) ≡ done (lay' x s)) → Comes lay' P m (and_then o k)
comes_end lay lay' P (done p) o k h more = (ap (λ u. and_then u k) h.0 ∙ more p.0 p.1 h.1, h.1)
comes_end lay lay' P (faults j l z) o k h more = ap (λ u. and_then u k) h
comes_end lay lay' P (asks q l z g) o k (w, e, h) more =
    ((λ r. and_then (w r) k), ap (λ u. and_then u k) e, λ r. comes_end lay lay' P (g r) (w r) k (h r) more)
comes_end lay lay' P (ended z) o k h more = ap (λ u. and_then u k) h
comes_end lay lay' P unsaid o k h more = tt

-- a place without dimensions
abbrev point : ℤ → Place
point i = record { start = i; dims = [] }

-- an element gets the status, and what was put down for it, and so many numbers more, are dropped
element_set : (s : Scope) (x : ℕ) (i v : ℤ) (us : List ℤ) (m l : ℕ) (z : State) (c : Core) (n : ℕ) → Kept n z
    → ((y : State) → told (dropping m) l (with_values (with_state y c) (i ∷ us)) ≡ done (with_state y c))
    → Comes (put_nothing c) (Keeps n) (set_elements s x (point i) (v ∷ []) l z)
    (told ((copying 1 1 ▸ doing (variable (a.put s x 0) ∷ [])) ▸ dropping m) l (pushed v (with_values (with_state z c) (i ∷ us))))
element_set s x i v us m l z c n k e =
    let X : Act = variable (a.put s x 0) in
    let D : Core = with_values (with_state z c) (i ∷ v ∷ i ∷ us) in
    let E : Core = with_values c (i ∷ us) in
    comes_end (put_nothing E) (put_nothing c) (Keeps n) (set_elements s x (point i) (v ∷ []) l z) (told (doing (X ∷ [])) l D)
    (told (dropping m) l)
    (subst (λ u. Comes (put_nothing E) (Keeps n) (set_elements s x (point i) (v ∷ []) l z)
    (and_then (of_effect l D (settled X u)) (told end_parts l))) (sym (put_acts s x 0 (point i) v (i ∷ us) (with_state z c) refl))
    (elements_put s x (point i) (v ∷ []) X l E D n k)) (λ u y j. e y)

-- what stands beneath a scalar that is written: where the variable of STAT= is an element, its place and the scalar
-- once more
abbrev pub beneath : Core → Target → ℤ → Core
beneath c g v = elim (target_numbers g) [ [] ↦ c | i ∷ is ↦ with_values c (i ∷ v ∷ c.values) ]

-- a scalar variable that is there gets the status
whole_set : (s : Scope) (x : ℕ) (w : ℤ) (q : Option ℤ) (l : ℕ) (z : State) (c : Core) (n : ℕ) → Kept n z
    → Comes (put_nothing c) (Keeps n) ((of_some q ▹ (λ v. changing (with_scalar s x w))) l z) (done (frames.with_cell s x w (with_state z c)))
whole_set s x w None l z c n k = tt
whole_set s x w (Some v) l z c n k = let p = stored s x w z c in (ap (λ d. done d) p.0, subst (λ m. (n ≤ m) × (m ≤ 65536)) p.1 k)

-- the variable of STAT= gets the status, and what is left is dropped
pub set_behind_number : (stat : t.OptionalResult) (g : Target) → TargetOf stat g → (v w : ℤ) (l : ℕ) (z : State) (c : Core) (n : ℕ)
    → Kept n z
    → Comes (put_nothing c) (Keeps n) (set_target g w l z)
    (told (storing_status 1 stat ▸ dropping (left_over 0 (optional_size stat))) l (pushed w (with_state z (beneath c g v))))
set_behind_number stat g none v w l z c n k = (refl, k)
set_behind_number stat g (whole u j) v w l z c n k =
    whole_set (scope_of u.home) u.variable w (scalar_in (scope_of u.home) u.variable z) l z c n k
set_behind_number stat g (part u x es j i) v w l z c n k = element_set (scope_of u.home) u.variable i w (v ∷ c.values) 2 l z c n k
    (λ y. refl)

pub set_behind_array : (stat : t.OptionalResult) (g : Target) → TargetOf stat g → (r : ℕ) (w : ℤ) (l : ℕ) (z : State) (c : Core) (n : ℕ)
    → Kept n z
    → Comes (put_nothing c) (Keeps n) (set_target g w l z)
    (told (storing_status 1 stat ▸ dropping (left_over (suc r) (optional_size stat))) l (pushed w (with_state z (with_target c g))))
set_behind_array stat g none r w l z c n k = (refl, k)
set_behind_array stat g (whole u j) r w l z c n k =
    whole_set (scope_of u.home) u.variable w (scalar_in (scope_of u.home) u.variable z) l z c n k
set_behind_array stat g (part u x es j i) r w l z c n k = element_set (scope_of u.home) u.variable i w c.values 1 l z c n k (λ y. refl)

-- the acts of an access, where its owner and its place are on top
pub write_acts : (k rank : ℕ) (kind : Kind) (p : Place) (v o : ℤ) (us : List ℤ) (d : Core) → length p.dims ≡ rank
    → operate (ask (a.write k rank kind)) (pushed o (with_values d (put_numbers (place_numbers p) (v ∷ us))))
    ≡ asking_act (asked.Write (asking_of.image o) (span_of k p) (replicate (cells_of p) (value_of kind v)))
    (λ r. with_status r (with_values d us))
write_acts k rank kind p v o us d h =
    rw (rank_size rank p h) (rw (taken_back (place_numbers p) (v ∷ us))
    (ap (λ q. asking_act (asked.Write (asking_of.image o) (span_of k q) (replicate (cells_of q) (value_of kind v)))
    (λ r. with_status r (with_values d us))) (place_back p)))

pub write_array_acts : (k rank : ℕ) (kind : Kind) (p : Place) (w : Array) (o : ℤ) (us : List ℤ) (d : Core) → length p.dims ≡ rank
    → operate (ask (a.write_array k rank kind)) (pushed o (with_array w (with_values d (put_numbers (place_numbers p) us))))
    ≡ asking_act (asked.Write (asking_of.image o) (span_of k p) (map (value_of kind) w.elements)) (λ r. with_status r (with_values d us))
write_array_acts k rank kind p w o us d h =
    rw (rank_size rank p h) (rw (taken_back (place_numbers p) us)
    (ap (λ q. asking_act (asked.Write (asking_of.image o) (span_of k q) (map (value_of kind) w.elements))
    (λ r. with_status r (with_values d us))) (place_back p)))

pub map_replicate : (n : ℕ) (kind : Kind) (v : ℤ) → map (value_of kind) (replicate n v) ≡ replicate n (value_of kind v)
map_replicate zero kind v = refl
map_replicate (suc n) kind v = ap (λ vs. value_of kind v ∷ vs) (map_replicate n kind v)

-- a part of rank 0 has a cell
no_dims_cell : (p : Place) (ds : List (ℕ × ℤ)) → p.dims ≡ ds → length ds ≡ 0 → (cells_of p == 0) ≡ false
no_dims_cell p [] e h = ap (λ ds. cells_of (record { start = p.start; dims = ds }) == 0) e
no_dims_cell p (d ∷ ds) e h = absurd (omega (arith, h))

-- A value that stands over a core beneath: its access, its removal, and what is set in the end.
abbrev pub behind : t.OptionalResult → ℕ → Parts Act
behind stat r = storing_status 1 stat ▸ dropping (left_over r (optional_size stat))

-- how it is written as an act, for a place and an owner on top
abbrev pub Writes : Core → Core → ℕ → ℕ → Kind → (Place → List ℤ) → (ℕ → Act) → Type 0
Writes b d r k kind vs X = (rank : ℕ) (p : Place) (i : ℕ) (z : State) → length p.dims ≡ rank
    → operate (X rank) (pushed (pos i) (over d (place_numbers p) z)) ≡ asking_act
    (asked.Write (image i) (span_of k p) (map (value_of kind) (vs p))) (λ q. with_status q (with_state z b))

module _ (c b d : Core) (n r k : ℕ) (kind : Kind) (vs : Place → List ℤ) (X : ℕ → Act) (stat : t.OptionalResult) (g : Target)
    (sets : (w : ℤ) (l : ℕ) (z : State) → Kept n z
    → Comes (put_nothing c) (Keeps n) (set_target g w l z) (told (behind stat r) l (pushed w (with_state z b))))
    (writes : Writes b d r k kind vs X) where
  -- where the place is, with its owner
  abbrev there : Place → ℕ → State → Core
  there p i z = pushed (pos i) (over d (place_numbers p) z)

  abbrev set_then : ℤ → Does (Unit {0})
  set_then w = set_target g w

  abbrev rest : ℕ → Core → Outcome Core
  rest l = told (doing (stack a.accessed ∷ []) ▸ behind stat r) l

  reply_comes : (q : Reply) (l : ℕ) (z : State) → Kept n z
      → Comes (put_nothing c) (Keeps n) ((written_reply q ▹ set_then) l z) (rest l (with_status q (with_state z b)))
  reply_comes replies.Done l z h = sets (pos 0) l z h
  reply_comes replies.Dead l z h = sets failed_image l z h
  reply_comes replies.Absent l z h = refl
  reply_comes q l z h = tt

  access_comes : (rank : ℕ) (p : Place) (i l : ℕ) (z : State) → Kept n z → length p.dims ≡ rank
      → Comes (put_nothing c) (Keeps n) (((asking (asked.Write (image i) (span_of k p) (map (value_of kind) (vs p))) ▹ written_reply) ▹
      set_then) l z) (and_then (told (doing (X rank ∷ [])) l (there p i z)) (rest l))
  access_comes rank p i l z h e =
      let L : Outcome (Unit {0} × State) = ((asking (asked.Write (image i) (span_of k p) (map (value_of kind) (vs p))) ▹ written_reply) ▹
      set_then) l z in
      act_first (put_nothing c) (Keeps n) L (X rank) l (there p i z) (rest l)
      (subst (λ u. Comes (put_nothing c) (Keeps n) L (and_then (of_effect l (there p i z) (settled (X rank) u)) (rest l)))
      (sym (writes rank p i z e))
      ((λ q. rest l (with_status q (with_state z b))), refl, λ q. reply_comes q l z h))

  -- the access, or nothing where there is no cell
  abbrev write_by : Bool → Place → ℕ → Does (Unit {0})
  write_by t p i = cond t (giving (pos 0)) (asking (asked.Write (image i) (span_of k p) (map (value_of kind) (vs p))) ▹ written_reply) ▹
      set_then

  abbrev either_parts : ℕ → Parts Act
  either_parts rank = either (doing (X rank ∷ [])) (dropping (place_size rank + 1) ▸ dropping_value r ▸ pushing (pos 0)) end_parts

  some_acts : (rank : ℕ) (p : Place) (i : ℕ) (z : State) → length p.dims ≡ rank
      → operate (bounded (a.some_cells 1 rank)) (there p i z) ≡ goes_to (pushed (truth (not (cells_of p == 0))) (there p i z))
  some_acts rank p i z h = rw (rank_size rank p h)
      (rw (taken_back (place_numbers p) d.values) (ap (λ q. goes_to (pushed (truth (not (cells_of q == 0))) (there p i z))) (place_back p)))

  module _ (drops : (rank : ℕ) (p : Place) (i l : ℕ) (z : State) → length p.dims ≡ rank
      → told (dropping (place_size rank + 1) ▸ dropping_value r ▸ pushing (pos 0)) l (there p i z) ≡ done (pushed (pos 0) (with_state z b)))
    where
      chosen : (t : Bool) (rank : ℕ) (p : Place) (i l : ℕ) (z : State) → Kept n z → length p.dims ≡ rank
          → Comes (put_nothing c) (Keeps n) (write_by t p i l z)
          (and_then (told (either_parts rank) l (pushed (truth (not t)) (there p i z))) (rest l))
      chosen false rank p i l z h e =
          apart (put_nothing c) (Keeps n) (write_by false p i l z) (told (doing (X rank ∷ [])) l (there p i z)) (told end_parts l) (rest l)
          (access_comes rank p i l z h e)
      chosen true rank p i l z h e =
          apart (put_nothing c) (Keeps n) (write_by true p i l z)
          (told (dropping (place_size rank + 1) ▸ dropping_value r ▸ pushing (pos 0)) l (there p i z)) (told end_parts l) (rest l)
          (subst (λ o. Comes (put_nothing c) (Keeps n) (write_by true p i l z) (and_then o (rest l))) (sym (drops rank p i l z e))
          (sets (pos 0) l z h))

      -- a scalar's place has a cell; a section's is looked at
      abbrev pub writing_parts : ℕ → Parts Act
      writing_parts zero = doing (X 0 ∷ [])
      writing_parts (suc m) = doing (bounded (a.some_cells 1 (suc m)) ∷ []) ▸ either_parts (suc m)

      written_at : (t : Bool) (rank : ℕ) (p : Place) (i l : ℕ) (z : State) → Kept n z → length p.dims ≡ rank → (cells_of p == 0) ≡ t
          → Comes (put_nothing c) (Keeps n) (write_by t p i l z) (and_then (told (writing_parts rank) l (there p i z)) (rest l))
      written_at false zero p i l z h e f = access_comes 0 p i l z h e
      written_at true zero p i l z h e f = absurd (true≢false (sym f ∙ no_dims_cell p p.dims refl e))
      written_at t (suc m) p i l z h e f =
          let L : Outcome (Unit {0} × State) = write_by t p i l z in
          let Y : Act = bounded (a.some_cells 1 (suc m)) in
          apart (put_nothing c) (Keeps n) L (told (doing (Y ∷ [])) l (there p i z)) (told (either_parts (suc m)) l) (rest l)
          (act_first (put_nothing c) (Keeps n) L Y l (there p i z) (λ q. and_then (told (either_parts (suc m)) l q) (rest l))
          (subst (λ u. Comes (put_nothing c) (Keeps n) L
          (and_then (of_effect l (there p i z) (settled Y u)) (λ q. and_then (told (either_parts (suc m)) l q) (rest l))))
          (sym (some_acts (suc m) p i z e))
          (subst (λ u. Comes (put_nothing c) (Keeps n) L
          (and_then (told (either_parts (suc m)) l (pushed (truth (not u)) (there p i z))) (rest l))) (sym f)
          (chosen t (suc m) p i l z h e))))

      pub part_written : (rank : ℕ) (p : Place) (i l : ℕ) (z : State) → Kept n z → length p.dims ≡ rank
          → Comes (put_nothing c) (Keeps n) ((write_part k i p kind (vs p) ▹ set_then) l z)
          (and_then (told (writing_parts rank) l (there p i z)) (rest l))
      part_written rank p i l z h e = written_at (cells_of p == 0) rank p i l z h e refl
