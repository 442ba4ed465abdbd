-- The access to a part of a coarray: its values, its status in the variable of STAT=, and faults.
use Rattle.std.proofs.Common.{arith, ◌≡◌, refl, ap, sym, subst, ◌∙◌, ℕ, zero, suc, ◌≤◌, ◌<◌, ◌==◌, ℤ, pos, Bool, true, false, not, cond, List, [], ◌∷◌, length, map, take, replicate, min, Option, None, Some, take_all, true≢false}
use Rattle.std.proofs.lemmas.List.{length-map}
use native.Mathlib.Numerals.{unary_clauses}
use Rattle.caf_base.specs.Arithmetic.{number_of, truth}
use Rattle.caf_events.specs.declared.ask.Ask.TheVariants as asked
use Rattle.caf_events.specs.declared.reply.Reply.{Reply}
use Rattle.caf_events.specs.declared.reply.Reply.TheVariants as replies
use Rattle.walk_theory.specs.Syntax.{Parts, end_parts, either}
use Rattle.walk_theory.specs.Language.{goes_to, faults as faulting, asking as asking_act}
use Rattle.checked_tree.specs.Expressions as t
use Rattle.image_acts.specs.Statuses.{failed_image}
use Rattle.image_acts.specs.Faults.{shape_fault}
use Rattle.image_acts.specs.Acts as a
use Rattle.image_acts.specs.Acts.{Act, Scope, here, host, stack, bounded, variable, ask}
use Rattle.image_acts.specs.Core.{Core, Array, Frame, Local, pushed, with_array, with_values}
use Rattle.image_acts.specs.Frames as frames
use Rattle.image_acts.specs.Places.{Place, place_numbers, extents_of, cells_of, offsets, with_elements_at, product}
use Rattle.image_acts.specs.Replies.{spare, read_reply}
use Rattle.image_acts.specs.Taking.{Acted, put_down as put_numbers}
use Rattle.image_acts.specs.Operate.Asking as asking_of
use Rattle.image_acts.specs.Operate.Asking.{span_of}
use Rattle.image_acts.specs.Operate.Variables.{allocated as allocated_act, elements_there}
use Rattle.image_acts.specs.Meaning.{operate, settled}
use Rattle.tree_meaning.specs.Environment.{scope_of}
use Rattle.tree_meaning.specs.Sequences.{◌▸◌, doing, dropping}
use Rattle.tree_meaning.specs.Expressions.{storing_status, optional_size, as_value, reading}
use Rattle.direct_meaning.specs.States as states
use Rattle.direct_meaning.specs.States.{State, state_of, with_state, scalar_in, with_scalar, array_in}
use Rattle.direct_meaning.specs.Outcomes.{Outcome, done, and_then, Does, giving, nothing_said, ◌▹◌, of_some, or_fault, changing, asking}
use Rattle.direct_meaning.specs.Told.{of_effect, told}
use Rattle.direct_meaning.specs.Values.{Value, number, value_of_rank, set_elements, read_values}
use Rattle.direct_meaning.specs.Images.{image}
use Rattle.direct_meaning.specs.Expressions.{Target, nowhere, set_target, read_from}
use Rattle.direct_agreement.specs.Agreeing.{put_down, HasRoom}
use Rattle.direct_agreement.proofs.Agreement.{and_then_assoc, Kept, Leaves, Comes, comes_then, apart, act_first, comes_agrees}
use Rattle.direct_agreement.proofs.Arrays.{there_then, same_array}
use Rattle.direct_agreement.proofs.Inquiries.{room_or_none, cut_comes}
use Rattle.direct_access.specs.Accesses.{owner_over, AccessLaw}
use Rattle.direct_access.proofs.Owners.{TargetOf, none, whole, part, with_target, put_owner, rank_size}
use Rattle.direct_agreement.proofs.Scalars.{Keeps}
use Rattle.direct_agreement.proofs.Sections.{taken_back, place_back}

-- a scalar and an element are set, whatever is being evaluated, and no cell more is in use
host_stored : (gs : List Frame) (x : ℕ) (v : ℤ) (r : Array) (z : State) (c : Core)
    → (frames.with_cell host x v (with_array r (with_state (record z { callers = gs }) c)) ≡ with_array r
    (with_state (with_scalar host x v (record z { callers = gs })) c)) ×
    (z.used ≡ (with_scalar host x v (record z { callers = gs })).used)
host_stored [] x v r z c = (refl, refl)
host_stored (g ∷ gs) x v r z c = (refl, refl)

pub stored : (s : Scope) (x : ℕ) (v : ℤ) (r : Array) (z : State) (c : Core)
    → (frames.with_cell s x v (with_array r (with_state z c)) ≡ with_array r (with_state (with_scalar s x v z) c)) ×
    (z.used ≡ (with_scalar s x v z).used)
stored here x v r z c = (refl, refl)
stored host x v r z c = host_stored z.callers x v r z c

host_put : (gs : List Frame) (x : ℕ) (w : Local) (r : Array) (z : State) (c : Core)
    → (frames.with_array_in host x (Some w) (with_array r (with_state (record z { callers = gs }) c)) ≡ with_array r
    (with_state (states.with_array host x w (record z { callers = gs })) c))
    × (z.used ≡ (states.with_array host x w (record z { callers = gs })).used)
host_put [] x w r z c = (refl, refl)
host_put (g ∷ gs) x w r z c = (refl, refl)

pub put_there : (s : Scope) (x : ℕ) (w : Local) (r : Array) (z : State) (c : Core)
    → (frames.with_array_in s x (Some w) (with_array r (with_state z c)) ≡ with_array r (with_state (states.with_array s x w z) c)) ×
    (z.used ≡ (states.with_array s x w z).used)
put_there here x w r z c = (refl, refl)
put_there host x w r z c = host_put z.callers x w r z c

-- the core behind a variable that was set, over an array that was read
abbrev put_read : Array → Core → Unit {0} → State → Core
put_read r c u z = with_array r (with_state z c)

-- an element is put
abbrev point : ℤ → Place
point i = record { start = i; dims = [] }

abbrev with_element : Local → ℤ → ℤ → Local
with_element w i v = record w { elements = with_elements_at (offsets (point i)) (v ∷ []) w.elements }

abbrev putting : Scope → ℕ → ℤ → ℤ → Core → Acted
putting s x i v d = allocated_act (frames.array_in s x d)
    (λ w. elim (elements_there (point i) w) [
      | None ↦ faulting shape_fault
      | Some vs ↦ goes_to
          (frames.with_array_in s x (Some (with_element w i v)) d)
    ])

put_some : (s : Scope) (x : ℕ) (i v : ℤ) (w : Local) (q : Option (List ℤ)) (r : Array) (l : ℕ) (z : State) (c : Core) (n : ℕ) → Kept n z
    → Comes (put_read r c) (Keeps n) ((or_fault shape_fault q ▹ (λ vs. changing (states.with_array s x (with_element w i v)))) l z)
    (and_then (of_effect l (with_array r (with_state z (with_values c (i ∷ v ∷ i ∷ c.values))))
    (settled (variable (a.put s x 0)) (elim q [
      | None ↦ faulting shape_fault
      | Some vs ↦ goes_to
          (frames.with_array_in s x (Some (with_element w i v)) (with_array r (with_state z (with_values c (i ∷ c.values)))))
    ])))
    (told (dropping 1) l))
put_some s x i v w None r l z c n k = refl
put_some s x i v w (Some vs) r l z c n k =
    let p = put_there s x (with_element w i v) r z (with_values c (i ∷ c.values)) in
    (ap (told (dropping 1) l) p.0, subst (λ m. (n ≤ m) × (m ≤ 65536)) p.1 k)

put_acts : (s : Scope) (x : ℕ) (i v : ℤ) (us : List ℤ) (d : Core)
    → operate (variable (a.put s x 0)) (with_values d (i ∷ v ∷ us)) ≡ putting s x i v (with_values d us)
put_acts here x i v us d = refl
put_acts host x i v us d = refl

-- the element of STAT= gets the status
element_set : (s : Scope) (x : ℕ) (i v : ℤ) (r : Array) (l : ℕ) (z : State) (c : Core) (n : ℕ) → Kept n z
    → Comes (put_read r c) (Keeps n) (set_elements s x (point i) (v ∷ []) l z)
    (and_then (told (doing (variable (a.put s x 0) ∷ [])) l (with_array r (with_state z (with_values c (i ∷ v ∷ i ∷ c.values)))))
    (told (dropping 1) l))
element_set s x i v r l z c n k =
    let A : Act = variable (a.put s x 0) in
    let D : Core = with_array r (with_state z (with_values c (i ∷ v ∷ i ∷ c.values))) in
    let E : Core = with_array r (with_state z (with_values c (i ∷ c.values))) in
    let F : Local → Does (Unit {0}) = λ w. or_fault shape_fault (elements_there (point i) w) ▹
    (λ vs. changing (states.with_array s x (with_element w i v))) in
    let G : Local → Acted = λ w. elim (elements_there (point i) w)
    [ None ↦ faulting shape_fault | Some vs ↦ goes_to (frames.with_array_in s x (Some (with_element w i v)) E) ] in
    act_first (put_read r c) (Keeps n) (set_elements s x (point i) (v ∷ []) l z) A l D (told (dropping 1) l)
    (subst (λ u. Comes (put_read r c) (Keeps n) (set_elements s x (point i) (v ∷ []) l z)
    (and_then (of_effect l D (settled A u)) (told (dropping 1) l))) (sym (put_acts s x i v (i ∷ c.values) D))
    (subst (λ o. Comes (put_read r c) (Keeps n) (set_elements s x (point i) (v ∷ []) l z)
    (and_then (of_effect l D (settled A (allocated_act o G))) (told (dropping 1) l)))
    (sym (same_array s x z (with_array r (with_values c (i ∷ c.values)))))
    (there_then (put_read r c) (Keeps n) (array_in s x z) F G A (told (dropping 1) l) l D
    (λ w e. put_some s x i v w (elements_there (point i) w) r l z c n k))))

-- a scalar variable that is there gets the status
whole_set : (s : Scope) (x : ℕ) (v : ℤ) (q : Option ℤ) (r : Array) (l : ℕ) (z : State) (c : Core) (n : ℕ) → Kept n z
    → Comes (put_read r c) (Keeps n) ((of_some q ▹ (λ w. changing (with_scalar s x v))) l z)
    (done (frames.with_cell s x v (with_array r (with_state z c))))
whole_set s x v None r l z c n k = tt
whole_set s x v (Some w) r l z c n k =
    let p = stored s x v r z c in
    (ap (λ d. done d) p.0, subst (λ m. (n ≤ m) × (m ≤ 65536)) p.1 k)

-- the variable of STAT= gets the status, and what was put down for it is dropped
pub set_comes : (stat : t.OptionalResult) (g : Target) → TargetOf stat g → (v : ℤ) (r : Array) (l : ℕ) (z : State) (c : Core) (n : ℕ)
    → Kept n z
    → Comes (put_read r c) (Keeps n) (set_target g v l z)
    (and_then (told (storing_status 1 stat) l (pushed v (with_array r (with_state z (with_target c g)))))
    (told (dropping (optional_size stat)) l))
set_comes stat g none v r l z c n k = (refl, k)
set_comes stat g (whole u j) v r l z c n k = whole_set (scope_of u.home) u.variable v (scalar_in (scope_of u.home) u.variable z) r l z c n k
set_comes stat g (part u x es j i) v r l z c n k = element_set (scope_of u.home) u.variable i v r l z c n k

-- the value of what was read
first_of_some : (n : ℕ) (v : ℤ) (vs : List ℤ) → 0 < n → (ws : List ℤ) × (take n (v ∷ vs) ≡ v ∷ ws)
first_of_some zero v vs h = absurd (omega arith)
first_of_some (suc n) v vs h = (take n vs, refl)

value_comes : (rank : ℕ) (ns : List ℕ) (vs : List ℤ) (l : ℕ) (z : State) (c : Core) → HasRoom 0 c → Kept c.used z → length ns ≤ 3
    → Comes (put_down c) (Leaves c.used) (value_of_rank rank ns vs l z)
    (told (as_value rank) l (with_array (record { extents = ns; elements = take (spare c) vs }) (with_state z c)))
value_comes zero ns [] l z c r k s = tt
value_comes zero ns (v ∷ vs) l z c r k s =
    let f = first_of_some (spare c) v vs (omega (arith, r.0, r.1)) in
    subst (λ ws. Comes (put_down c) (Leaves c.used) (giving (number v) l z)
    (told (as_value 0) l (with_array (record { extents = ns; elements = ws }) (with_state z c)))) (sym f.1) (refl, k)
value_comes (suc n) ns vs l z c r k s =
    cut_comes (record { extents = ns; elements = vs }) (record { extents = ns; elements = take (spare c) vs }) l z c k s refl
    (λ h. ap (λ ws. record { extents = ns; elements = ws }) (take_all (spare c) vs h))
    (room_or_none (length vs) z c r k)

-- what comes behind the access
abbrev pub behind : t.OptionalResult → ℕ → Parts Act
behind stat rank = storing_status 1 stat ▸ dropping (optional_size stat) ▸ as_value rank

tail_comes : (stat : t.OptionalResult) (g : Target) → TargetOf stat g
    → (rank : ℕ) (ns : List ℕ) (vs ws : List ℤ) (v : ℤ) (l : ℕ) (z : State) (c : Core) → HasRoom 0 c → Kept c.used z → length ns ≤ 3
    → ws ≡ take (spare c) vs
    → Comes (put_down c) (Leaves c.used) ((set_target g v ▹ (λ u. value_of_rank rank ns vs)) l z)
    (told (behind stat rank) l (pushed v (with_array (record { extents = ns; elements = ws }) (with_state z (with_target c g)))))
tail_comes stat g t rank ns vs ws v l z c r k s e =
    let L : Outcome (Value × State) = (set_target g v ▹ (λ u. value_of_rank rank ns vs)) l z in
    let A : List ℤ → Array = λ us. record { extents = ns; elements = us } in
    let S : Outcome Core = told (storing_status 1 stat) l (pushed v (with_array (A (take (spare c) vs)) (with_state z (with_target c g))))
    in
    subst (λ us. Comes (put_down c) (Leaves c.used) L
    (told (behind stat rank) l (pushed v (with_array (A us) (with_state z (with_target c g)))))) (sym e)
    (subst (Comes (put_down c) (Leaves c.used) L) (and_then_assoc S (told (dropping (optional_size stat)) l) (told (as_value rank) l))
    (comes_then (put_read (A (take (spare c) vs)) c) (Keeps c.used) (put_down c) (Leaves c.used) (set_target g v l z)
    (and_then S (told (dropping (optional_size stat)) l)) (λ u. value_of_rank rank ns vs l u.1) (told (as_value rank) l)
    (set_comes stat g t v (A (take (spare c) vs)) l z c c.used k) (λ u y j. value_comes rank ns vs l y c r j s)))

-- values that a read tells, as many as they may be
abbrev told_values : Bool → List ℤ → Does (List ℤ × ℤ)
told_values b ws = cond b (giving (ws, pos 0)) nothing_said

values_come : (b : Bool) (stat : t.OptionalResult) (g : Target) → TargetOf stat g
    → (rank : ℕ) (ns : List ℕ) (vs : List ℤ) (l : ℕ) (z : State) (c : Core) → HasRoom 0 c → Kept c.used z → length ns ≤ 3
    → Comes (put_down c) (Leaves c.used) ((told_values b vs ▹ (λ r. set_target g r.1 ▹ (λ u. value_of_rank rank ns r.0))) l z)
    (told (behind stat rank) l (pushed (pos 0)
    (with_array (record { extents = ns; elements = take (spare c) vs }) (with_state z (with_target c g)))))
values_come true stat g t rank ns vs l z c r k s = tail_comes stat g t rank ns vs (take (spare c) vs) (pos 0) l z c r k s refl
values_come false stat g t rank ns vs l z c r k s = tt

take_zeros : (n m : ℕ) → replicate (min n m) (pos 0) ≡ take n (replicate m (pos 0))
take_zeros zero m = simp unary_clauses refl
take_zeros (suc n) zero = simp unary_clauses refl
take_zeros (suc n) (suc m) = simp unary_clauses (ap (λ vs. pos 0 ∷ vs) (take_zeros n m))

take_none : (n : ℕ) → [] ≡ take n (replicate 0 (pos 0))
take_none zero = refl
take_none (suc n) = refl

-- what is read, for each reply
abbrev pub read_and_set : ℕ → Place → Target → Reply → Does Value
read_and_set rank p g r = read_values p r ▹ (λ w. set_target g w.1 ▹ (λ u. value_of_rank rank (extents_of p) w.0))

reply_comes : (stat : t.OptionalResult) (g : Target) → TargetOf stat g → (rank : ℕ) (p : Place) (r : Reply) (l : ℕ) (z : State) (c : Core)
    → HasRoom 0 c → Kept c.used z → length (extents_of p) ≤ 3
    → Comes (put_down c) (Leaves c.used) (read_and_set rank p g r l z)
    (told (doing (stack a.accessed ∷ []) ▸ behind stat rank) l (read_reply p (with_state z (with_target c g)) r))
reply_comes stat g t rank p (replies.Values vs) l z c m k s = values_come (length vs == cells_of p) stat g t rank (extents_of p)
    (map number_of vs) l z c m k s
reply_comes stat g t rank p replies.Dead l z c m k s =
    tail_comes stat g t rank (extents_of p) (replicate (cells_of p) (pos 0)) (replicate (min (spare c) (cells_of p)) (pos 0)) failed_image l
    z c m k s (take_zeros (spare c) (cells_of p))
reply_comes stat g t rank p replies.Absent l z c m k s = refl
reply_comes stat g t rank p r l z c m k s = tt

-- the acts of an access at a place and an owner
read_acts : (k rank : ℕ) (p : Place) (v : ℤ) (us : List ℤ) (d : Core) → length p.dims ≡ rank
    → operate (ask (a.read k rank)) (pushed v (with_values d (put_numbers (place_numbers p) us))) ≡ asking_act
    (asked.Read (asking_of.image v) (span_of k p)) (read_reply p (with_values d us))
read_acts k rank p v us d h =
    rw (rank_size rank p h) (rw (taken_back (place_numbers p) us)
    (ap (λ q. asking_act (asked.Read (asking_of.image v) (span_of k q)) (read_reply q (with_values d us))) (place_back p)))

some_acts : (rank : ℕ) (p : Place) (v : ℤ) (us : List ℤ) (d : Core) → length p.dims ≡ rank
    → operate (bounded (a.some_cells 1 rank)) (pushed v (with_values d (put_numbers (place_numbers p) us))) ≡ goes_to
    (pushed (truth (not (cells_of p == 0))) (pushed v (with_values d (put_numbers (place_numbers p) us))))
some_acts rank p v us d h =
    rw (rank_size rank p h) (rw (taken_back (place_numbers p) us)
    (ap (λ q. goes_to (pushed (truth (not (cells_of q == 0))) (pushed v (with_values d (put_numbers (place_numbers p) us)))))
    (place_back p)))

nothing_acts : (rank : ℕ) (p : Place) (v : ℤ) (us : List ℤ) (d : Core) → length p.dims ≡ rank
    → operate (stack (a.nothing_read rank)) (pushed v (with_values d (put_numbers (place_numbers p) us))) ≡ goes_to
    (pushed (pos 0) (with_array (record { extents = extents_of p; elements = [] }) (with_values d us)))
nothing_acts rank p v us d h =
    rw (rank_size rank p h) (rw (taken_back (place_numbers p) us)
    (ap (λ q. goes_to (pushed (pos 0) (with_array (record { extents = extents_of q; elements = [] }) (with_values d us))))
    (place_back p)))

-- a part of rank 0 has a cell
no_dims_cell : (ds : List (ℕ × ℤ)) → length ds ≡ 0 → (product (map (λ d. d.0) ds) == 0) ≡ false
no_dims_cell [] h = refl
no_dims_cell (d ∷ ds) h = absurd (omega arith)

asks_comes : (k rank i : ℕ) (p : Place) (stat : t.OptionalResult) (g : Target) → TargetOf stat g → (l : ℕ) (z : State) (c : Core)
    → HasRoom 0 c → Kept c.used z → length p.dims ≡ rank → rank ≤ 3
    → Comes (put_down c) (Leaves c.used) ((asking (asked.Read (image i) (span_of k p)) ▹ read_and_set rank p g) l z)
    (and_then (told (doing (ask (a.read k rank) ∷ [])) l (put_owner (with_target c g) p i z))
    (told (doing (stack a.accessed ∷ []) ▸ behind stat rank) l))
asks_comes k rank i p stat g t l z c m b h s =
    let L : Outcome (Value × State) = (asking (asked.Read (image i) (span_of k p)) ▹ read_and_set rank p g) l z in
    let K : Core → Outcome Core = told (doing (stack a.accessed ∷ []) ▸ behind stat rank) l in
    let D : Core = put_owner (with_target c g) p i z in
    act_first (put_down c) (Leaves c.used) L (ask (a.read k rank)) l D K
    (subst (λ u. Comes (put_down c) (Leaves c.used) L (and_then (of_effect l D (settled (ask (a.read k rank)) u)) K))
    (sym (read_acts k rank p (pos i) (with_target c g).values (with_state z c) h)) (
      (λ r. K (read_reply p (with_state z (with_target c g)) r)),
      refl,
      λ r. reply_comes stat g t rank p r l z c m b
          (omega (arith, length-map p.dims (λ d. d.0))),
    ))

-- the value of a part of a coarray on an image
abbrev read_by : Bool → ℕ → Place → ℕ → ℕ → Target → Does Value
read_by b k p rank i g = cond b (giving ([], pos 0)) (asking (asked.Read (image i) (span_of k p)) ▹ (λ r. read_values p r)) ▹
    (λ r. set_target g r.1 ▹ (λ u. value_of_rank rank (extents_of p) r.0))

-- the access, or nothing
abbrev one_or_other : ℕ → ℕ → Parts Act
one_or_other k rank = either (doing (ask (a.read k rank) ∷ [])) (doing (stack (a.nothing_read rank) ∷ [])) end_parts

chosen_read : (b : Bool) (k rank i : ℕ) (p : Place) (stat : t.OptionalResult) (g : Target) → TargetOf stat g
    → (l : ℕ) (z : State) (c : Core) → HasRoom 0 c → Kept c.used z → length p.dims ≡ rank → rank ≤ 3
    → Comes (put_down c) (Leaves c.used) (read_by b k p rank i g l z)
    (and_then (told (one_or_other k rank) l (pushed (truth (not b)) (put_owner (with_target c g) p i z)))
    (told (doing (stack a.accessed ∷ []) ▸ behind stat rank) l))
chosen_read false k rank i p stat g t l z c m j h s =
    let L : Outcome (Value × State) = read_by false k p rank i g l z in
    let K : Core → Outcome Core = told (doing (stack a.accessed ∷ []) ▸ behind stat rank) l in
    apart (put_down c) (Leaves c.used) L (told (doing (ask (a.read k rank) ∷ [])) l (put_owner (with_target c g) p i z)) (told end_parts l)
    K (asks_comes k rank i p stat g t l z c m j h s)
chosen_read true k rank i p stat g t l z c m j h s =
    let L : Outcome (Value × State) = read_by true k p rank i g l z in
    let K : Core → Outcome Core = told (doing (stack a.accessed ∷ []) ▸ behind stat rank) l in
    let D : Core = put_owner (with_target c g) p i z in
    let X : Act = stack (a.nothing_read rank) in
    apart (put_down c) (Leaves c.used) L (told (doing (X ∷ [])) l D) (told end_parts l) K
    (act_first (put_down c) (Leaves c.used) L X l D K
    (subst (λ u. Comes (put_down c) (Leaves c.used) L (and_then (of_effect l D (settled X u)) K))
    (sym (nothing_acts rank p (pos i) (with_target c g).values (with_state z c) h))
    (tail_comes stat g t rank (extents_of p) [] [] (pos 0) l z c m j (omega (arith, length-map p.dims (λ d. d.0))) (take_none (spare c)))))

read_at : (b : Bool) (k rank i : ℕ) (p : Place) (stat : t.OptionalResult) (g : Target) → TargetOf stat g → (l : ℕ) (z : State) (c : Core)
    → HasRoom 0 c → Kept c.used z → length p.dims ≡ rank → rank ≤ 3 → (cells_of p == 0) ≡ b
    → Comes (put_down c) (Leaves c.used) (read_by b k p rank i g l z)
    (and_then (told (reading k rank) l (put_owner (with_target c g) p i z)) (told (doing (stack a.accessed ∷ []) ▸ behind stat rank) l))
read_at false k zero i p stat g t l z c m j h s e = asks_comes k 0 i p stat g t l z c m j h s
read_at true k zero i p stat g t l z c m j h s e = absurd (true≢false (sym e ∙ no_dims_cell p.dims h))
read_at b k (suc n) i p stat g t l z c m j h s e =
    let L : Outcome (Value × State) = read_by b k p (suc n) i g l z in
    let K : Core → Outcome Core = told (doing (stack a.accessed ∷ []) ▸ behind stat (suc n)) l in
    let D : Core = put_owner (with_target c g) p i z in
    let X : Act = bounded (a.some_cells 1 (suc n)) in
    let E : Core → Outcome Core = told (one_or_other k (suc n)) l in
    apart (put_down c) (Leaves c.used) L (told (doing (X ∷ [])) l D) E K
    (act_first (put_down c) (Leaves c.used) L X l D (λ d. and_then (E d) K)
    (subst (λ u. Comes (put_down c) (Leaves c.used) L (and_then (of_effect l D (settled X u)) (λ d. and_then (E d) K)))
    (sym (some_acts (suc n) p (pos i) (with_target c g).values (with_state z c) h))
    (subst (λ u. Comes (put_down c) (Leaves c.used) L (and_then (E (pushed (truth (not u)) D)) K)) (sym e)
    (chosen_read b k (suc n) i p stat g t l z c m j h s))))

pub read_comes : (k rank i : ℕ) (p : Place) (stat : t.OptionalResult) (g : Target) → TargetOf stat g → (l : ℕ) (z : State) (c : Core)
    → HasRoom 0 c → Kept c.used z → length p.dims ≡ rank → rank ≤ 3
    → Comes (put_down c) (Leaves c.used) (read_from k p rank i g l z)
    (and_then (told (reading k rank) l (put_owner (with_target c g) p i z)) (told (doing (stack a.accessed ∷ []) ▸ behind stat rank) l))
read_comes k rank i p stat g t l z c m j h s = read_at (cells_of p == 0) k rank i p stat g t l z c m j h s refl

pub access_law : AccessLaw
access_law k rank i p l z c r h m e s =
    comes_agrees (put_down c) (Leaves c.used) (read_from k p rank i nowhere l z)
    (told (reading k rank ▸ doing (stack a.accessed ∷ []) ▸ storing_status 1 t.no_result ▸ dropping (optional_size t.no_result) ▸ as_value
    rank) l (owner_over c p i z))
    (read_comes k rank i p t.no_result nowhere none l z c r (h, m) e s)
