-- Operators, scalar variables, two operands as they are written, and functions of teams and images.
use Rattle.std.proofs.Common.{◌≡◌, refl, sym, subst, ℕ, zero, suc, ◌-◌, ℤ, pos, negsuc, Bool, true, false, ◌&&◌, cond, List, [], ◌∷◌, length, Option, None, Some, ◌≤◌, le_refl}
use Rattle.std.specs.Prelude.{slice_get, is_some}
use Rattle.caf_base.specs.declared.value.Kind.{Kind}
use Rattle.caf_base.specs.declared.value.Kind.TheVariants as kinds
use Rattle.caf_events.specs.declared.ask.Ask.TheVariants as asked
use Rattle.caf_events.specs.declared.reply.Reply.{Reply}
use Rattle.caf_events.specs.declared.reply.Reply.TheVariants as replies
use Rattle.walk_theory.specs.Syntax.{Parts, end_parts}
use Rattle.walk_theory.specs.Terms.{Found, found}
use Rattle.walk_theory.specs.Language.{goes_to, faults as faulting, asking as asking_act}
use Rattle.checked_tree.specs.declared.expr.ArithmeticOperator.{ArithmeticOperator}
use Rattle.checked_tree.specs.declared.expr.ArithmeticOperator.TheVariants as arithmetics
use Rattle.checked_tree.specs.declared.expr.RelationalOperator.{RelationalOperator}
use Rattle.checked_tree.specs.declared.expr.RelationalOperator.TheVariants as relations
use Rattle.checked_tree.specs.declared.expr.LogicalOperator.{LogicalOperator}
use Rattle.checked_tree.specs.declared.expr.LogicalOperator.TheVariants as logics
use Rattle.checked_tree.specs.declared.expr.WrittenOrder.{WrittenOrder}
use Rattle.checked_tree.specs.declared.expr.WrittenOrder.TheVariants as orders
use Rattle.caf_base.specs.Arithmetic.{truth, fits_kind}
use Rattle.image_acts.specs.Faults.{overflow, no_team, bounds_fault, cobounds_fault}
use Rattle.image_acts.specs.Acts as a
use Rattle.image_acts.specs.Acts.{Act, Scope, here, host, operator, variable, selector, bounded, ask}
use Rattle.image_acts.specs.Core.{Core, Own, Team, pushed, with_values}
use Rattle.image_acts.specs.Words.{word}
use Rattle.image_acts.specs.Replies.{with_status}
use Rattle.image_acts.specs.Teams.{is_in, team_in, is_index_of, cosubscripts_behind}
use Rattle.image_acts.specs.Operate.Selecting.{teamed}
use Rattle.image_acts.specs.Frames.{last_or}
use Rattle.image_acts.specs.Taking.{Acted, given, found_in, giving as giving_act}
use Rattle.image_acts.specs.Meaning.{operate, settled}
use Rattle.tree_meaning.specs.Sequences.{◌▸◌, doing, bringing}
use Rattle.tree_meaning.specs.Expressions.{as_written, arithmetic_act, relation_act, logic_act}
use Rattle.tree_meaning.specs.Values.{arithmetic_value, relation_value, logic_value}
use Rattle.direct_meaning.specs.States.{State, state_of, with_state, array_in, own_in}
use Rattle.direct_meaning.specs.Outcomes.{Outcome, done, and_then, Does, giving, ◌▹◌, unless, or_fault, of_some, fault, asking}
use Rattle.direct_meaning.specs.Told.{of_effect, told}
use Rattle.direct_meaning.specs.Values.{Value, number, ◌▹ℤ◌, scalar, owned}
use Rattle.direct_meaning.specs.Images.{the, own_index, members, current_team, own_team, numbered_team, sibling, parent_of, cosubscript, team, status}
use Rattle.direct_meaning.specs.Expressions.{status_of_image, number_found, scalars_as_written, scalar_as_written}
use Rattle.direct_agreement.specs.Agreeing.{put_down}
use Rattle.direct_agreement.proofs.Agreement.{Kept, Leaves, Comes, comes_then, comes_number, found_comes, two_comes, apart, kept_more}

-- the operators
pub arithmetic_acts : (o : ArithmeticOperator) (k : Kind) (v w : ℤ) (c : Core)
    → operate (operator (arithmetic_act o k)) (pushed w (pushed v c)) ≡ found_in (arithmetic_value o k v w) (λ z. giving_act z c)
arithmetic_acts arithmetics.Power k v w c = refl
arithmetic_acts arithmetics.Multiply k v w c = refl
arithmetic_acts arithmetics.Divide k v w c = refl
arithmetic_acts arithmetics.Add k v w c = refl
arithmetic_acts arithmetics.Subtract k v w c = refl

pub relation_acts : (o : RelationalOperator) (v w : ℤ) (c : Core)
    → operate (operator (relation_act o)) (pushed w (pushed v c)) ≡ found_in (found (truth (relation_value o v w))) (λ z. giving_act z c)
relation_acts relations.Equal v w c = refl
relation_acts relations.NotEqual v w c = refl
relation_acts relations.Less v w c = refl
relation_acts relations.LessEqual v w c = refl
relation_acts relations.Greater v w c = refl
relation_acts relations.GreaterEqual v w c = refl

pub logic_acts : (o : LogicalOperator) (v w : ℤ) (c : Core)
    → operate (operator (logic_act o)) (pushed w (pushed v c)) ≡ found_in (found (truth (logic_value o v w))) (λ z. giving_act z c)
logic_acts logics.And v w c = refl
logic_acts logics.Or v w c = refl
logic_acts logics.Eqv v w c = refl
logic_acts logics.Neqv v w c = refl

-- a test and its fault
pub test_comes : {X : Type 0} (lay : X → State → Core) (P : X → State → Type 0) (b : Bool) (m : Does X) (k l : ℕ) (d : Core) (x : Act)
    (f : Acted) (q : Core → Outcome Core)
    → Comes lay P (m l (state_of d)) (and_then (of_effect l d (settled x f)) q)
    → Comes lay P (unless k b m l (state_of d)) (and_then (of_effect l d (settled x (cond b f (faulting k)))) q)
test_comes lay P true m k l d x f q h = h
test_comes lay P false m k l d x f q h = refl

-- a scalar variable
cell_comes : (x : Act) (o : Option ℤ) (l : ℕ) (c : Core) → c.used ≤ 65536
    → Comes (put_down c) (Leaves c.used) ((of_some o ▹ (λ z. giving (number z))) l (state_of c))
    (and_then (of_effect l c (settled x (given o (λ v. giving_act v c)))) (told end_parts l))
cell_comes x None l c h = tt
cell_comes x (Some v) l c h = (refl, (le_refl c.used, h))

pub scalar_comes : (s : Scope) (x l : ℕ) (c : Core) → c.used ≤ 65536
    → Comes (put_down c) (Leaves c.used) ((scalar s x ▹ (λ z. giving (number z))) l (state_of c))
    (told (doing (variable (a.cell s x) ∷ [])) l c)
scalar_comes here x l c h = cell_comes (variable (a.cell here x)) (slice_get c.frame.cells x) l c h
scalar_comes host x l c h = cell_comes (variable (a.cell host x)) (slice_get (last_or c.frame c.callers).cells x) l c h

-- two scalars as they are written, and their operator
pub written_comes : (o : WrittenOrder) (m n : Does Value) (f : ℤ → ℤ → Found ℤ) (x : a.OperatorAct) (p q : Parts Act) (l : ℕ) (c : Core)
    → ((v w : ℤ) (d : Core) → operate (operator x) (pushed w (pushed v d)) ≡ found_in (f v w) (λ z. giving_act z d))
    → Comes (put_down c) (Leaves c.used) (m l (state_of c)) (told p l c)
    → ((v : ℤ) (z : State) → Kept c.used z → Comes (put_down (pushed v (with_state z c))) (Leaves z.used) (m l z)
    (told p l (pushed v (with_state z c))))
    → Comes (put_down c) (Leaves c.used) (n l (state_of c)) (told q l c)
    → ((v : ℤ) (z : State) → Kept c.used z → Comes (put_down (pushed v (with_state z c))) (Leaves z.used) (n l z)
    (told q l (pushed v (with_state z c))))
    → Comes (put_down c) (Leaves c.used) (scalars_as_written o m n (λ v w. number_found (f v w)) l (state_of c))
    (told (as_written o p q ▸ doing (operator x ∷ [])) l c)
written_comes orders.Same m n f x p q l c acts h h' k k' =
    apart (put_down c) (Leaves c.used) (scalars_as_written orders.Same m n (λ v w. number_found (f v w)) l (state_of c)) (told p l c)
    (told q l) (told (doing (operator x ∷ [])) l)
    (two_comes m n f x p q l c acts h k')
written_comes orders.Reversed m n f x p q l c acts h h' k k' =
    apart (put_down c) (Leaves c.used) (scalars_as_written orders.Reversed m n (λ v w. number_found (f v w)) l (state_of c)) (told q l c)
    (told (p ▸ bringing 1 1) l) (told (doing (operator x ∷ [])) l)
    (comes_number (put_down c) (Leaves c.used) c.used n (λ y. m ▹ℤ (λ v. number_found (f v y))) l (state_of c) c (told q l c)
    (λ d. and_then (told (p ▸ bringing 1 1) l d) (told (doing (operator x ∷ [])) l)) k
    (λ w z b. apart (put_down c) (Leaves c.used) ((m ▹ℤ (λ v. number_found (f v w))) l z) (told p l (pushed w (with_state z c)))
    (told (bringing 1 1) l) (told (doing (operator x ∷ [])) l)
    (comes_number (put_down c) (Leaves c.used) z.used m (λ v. number_found (f v w)) l z (pushed w (with_state z c))
    (told p l (pushed w (with_state z c))) (λ d. and_then (told (bringing 1 1) l d) (told (doing (operator x ∷ [])) l)) (h' w z b)
    (λ v y d. subst (λ u. Comes (put_down c) (Leaves c.used) (number_found (f v w) l y)
    (and_then (of_effect l (pushed w (pushed v (with_state y c))) (settled (operator x) u)) (told end_parts l)))
    (sym (acts v w (with_state y c)))
    (found_comes (w ∷ v ∷ c.values) (operator x) (f v w) l y c c.used (kept_more c.used z y b d))))))

-- a team, put down over what was there
abbrev pub put_team : Core → ℕ → State → Core
put_team c n s = pushed (pos n) (with_state s c)

-- and so many cells are in use as before, or more
abbrev pub Keeps : {X : Type 0} → ℕ → X → State → Type 0
Keeps n x z = Kept n z

-- a team of a TEAM= or of a team argument
pub own_team_comes : (n : ℕ) (v : ℤ) (l : ℕ) (z : State) (c : Core) → Kept n z
    → Comes (put_team c) (Keeps n) (own_team v l z) (told (doing (selector a.team_value ∷ [])) l (pushed v (with_state z c)))
own_team_comes n (pos m) l z c b = test_comes (put_team c) (Keeps n) (is_in m z.teams) (giving m) no_team l
    (pushed (pos m) (with_state z c)) (selector a.team_value) (giving_act (pos m) (with_state z c)) (told end_parts l) (refl, b)
own_team_comes n (negsuc m) l z c b = tt

-- a number in its kind
pub fits_comes : (vs : List ℤ) (x : Act) (b : Bool) (v : ℤ) (l : ℕ) (z : State) (c : Core) (n : ℕ) → Kept n z
    → Comes (put_down c) (Leaves n) (unless overflow b (giving (number v)) l z)
    (and_then (of_effect l (with_values (with_state z c) vs)
    (settled x (cond (b && true) (goes_to (pushed v (with_state z c))) (faulting overflow)))) (told end_parts l))
fits_comes vs x true v l z c n h = (refl, h)
fits_comes vs x false v l z c n h = refl

pub there_comes : (s : Scope) (x l : ℕ) (c : Core) → c.used ≤ 65536
    → Comes (put_down c) (Leaves c.used) (the (λ z. number (truth (is_some (array_in s x z)))) l (state_of c))
    (told (doing (bounded (a.is_there s x) ∷ [])) l c)
there_comes here x l c h = (refl, (le_refl c.used, h))
there_comes host x l c h = (refl, (le_refl c.used, h))

-- functions of teams
members_come : (vs : List ℤ) (x : Act) (o : Option Team) (l : ℕ) (z : State) (c : Core) (n : ℕ) → Kept n z
    → Comes (put_down c) (Leaves n) (((or_fault no_team o ▹ (λ k. giving (length k.members))) ▹ (λ i. giving (number (pos i)))) l z)
    (and_then (of_effect l (with_values (with_state z c) vs)
    (settled x (teamed o (λ k. giving_act (pos (length k.members)) (with_state z c))))) (told end_parts l))
members_come vs x None l z c n h = refl
members_come vs x (Some k) l z c n h = (refl, h)

pub counted_comes : (vs : List ℤ) (x : Act) (b : Bool) (v : ℤ) (l : ℕ) (z : State) (c : Core) (n : ℕ) → Kept n z
    → Comes (put_down c) (Leaves n) ((cond b (the (λ s. s.images)) (numbered_team v ▹ (λ k. giving (length k.members))) ▹
    (λ i. giving (number (pos i)))) l z)
    (and_then (of_effect l (with_values (with_state z c) vs)
    (settled x (cond b (giving_act (pos z.images) (with_state z c))
    (teamed (sibling (team_in (current_team z) z.known) v z.known) (λ k. giving_act (pos (length k.members)) (with_state z c))))))
    (told end_parts l))
counted_comes vs x true v l z c n h = (refl, h)
counted_comes vs x false v l z c n h = members_come vs x (sibling (team_in (current_team z) z.known) v z.known) l z c n h

pub number_comes : (vs : List ℤ) (x : Act) (o : Option Team) (k : Kind) (l : ℕ) (z : State) (c : Core) (n : ℕ) → Kept n z
    → Comes (put_down c) (Leaves n)
    ((or_fault no_team o ▹ (λ m. unless overflow (fits_kind k m.number) (giving (number m.number)))) l z)
    (and_then (of_effect l (with_values (with_state z c) vs) (settled x (teamed o (λ m. giving_act m.number (with_state z c)))))
    (told (doing (operator (a.fits k 0) ∷ [])) l))
number_comes vs x None k l z c n h = refl
number_comes vs x (Some m) k l z c n h = fits_comes (m.number ∷ c.values) (operator (a.fits k 0)) (fits_kind k m.number) m.number l z c n h

pub level_comes : (vs : List ℤ) (x : Act) (b d f : Bool) (l : ℕ) (z : State) (c : Core) (n : ℕ) → Kept n z
    → Comes (put_down c) (Leaves n) ((cond b (giving 1) (cond d (the (λ s. parent_of s.teams)) (cond f (the current_team) (fault no_team)))
    ▹ (λ i. giving (number (pos i)))) l z)
    (and_then (of_effect l (with_values (with_state z c) vs)
    (settled x (cond b (giving_act (pos 1) (with_state z c))
    (cond d (giving_act (pos (parent_of z.teams)) (with_state z c))
    (cond f (giving_act (pos (current_team z)) (with_state z c)) (faulting no_team)))))) (told end_parts l))
level_comes vs x true d f l z c n h = (refl, h)
level_comes vs x false true f l z c n h = (refl, h)
level_comes vs x false false true l z c n h = (refl, h)
level_comes vs x false false false l z c n h = refl

status_comes : (r : Reply) (l : ℕ) (z : State) (c : Core) (n : ℕ) → Kept n z
    → Comes (put_down c) (Leaves n) ((status r ▹ (λ y. giving (number y))) l z) (done (with_status r (with_state z c)))
status_comes (replies.Number s) l z c n h = (refl, h)
status_comes r l z c n h = tt

-- a team that is looked up, and what is made of it
pub looked_up : {X : Type 0} (lay : X → State → Core) (P : X → State → Type 0) (b : Bool) (n : ℕ) (f : ℕ → Does X) (l : ℕ) (d : Core)
    (x : Act) (g : Acted) (q : Core → Outcome Core)
    → Comes lay P (f n l (state_of d)) (and_then (of_effect l d (settled x g)) q)
    → Comes lay P ((unless no_team b (giving n) ▹ f) l (state_of d)) (and_then (of_effect l d (settled x (cond b g (faulting no_team)))) q)
looked_up lay P true n f l d x g q h = h
looked_up lay P false n f l d x g q h = refl

-- the status of an image of a team
pub status_in_team_comes : (v : ℤ) (m l : ℕ) (z : State) (c : Core) (n : ℕ) → Kept n z
    → Comes (put_down c) (Leaves n) ((own_team (pos m) ▹ (λ i. status_of_image i v)) l z)
    (told (doing (selector a.team_value ∷ ask a.status ∷ [])) l (pushed (pos m) (pushed v (with_state z c))))
status_in_team_comes v m l z c n h =
    looked_up (put_down c) (Leaves n) (is_in m z.teams) m (λ i. status_of_image i v) l (pushed (pos m) (pushed v (with_state z c)))
    (selector a.team_value)
    (giving_act (pos m) (pushed v (with_state z c))) (told (doing (ask a.status ∷ [])) l)
    (test_comes (put_down c) (Leaves n) (is_index_of (length (members m z)) v)
    (asking (asked.Status (team m) (word v)) ▹ (λ r. status r ▹ (λ y. giving (number y)))) cobounds_fault l
    (pushed (pos m) (pushed v (with_state z c))) (ask a.status)
    (asking_act (asked.Status (team m) (word v)) (λ r. with_status r (with_state z c))) (told end_parts l)
    ((λ r. done (with_status r (with_state z c))), refl, λ r. status_comes r l z c n h))

-- a cosubscript of this image
at_comes : (vs : List ℤ) (x : Act) (o : Option ℤ) (l : ℕ) (z : State) (c : Core) (n : ℕ) → Kept n z
    → Comes (put_down c) (Leaves n) ((or_fault bounds_fault o ▹ (λ v. unless overflow (fits_kind kinds.I4 v) (giving (number v)))) l z)
    (and_then (of_effect l (with_values (with_state z c) vs)
    (settled x (elim o [
      | None ↦ faulting bounds_fault
      | Some v ↦ cond (fits_kind kinds.I4 v) (giving_act v (with_state z c))
          (faulting overflow)
    ]))) (told end_parts l))
at_comes vs x None l z c n h = refl
at_comes vs x (Some v) l z c n h = test_comes (put_down c) (Leaves n) (fits_kind kinds.I4 v) (giving (number v)) overflow l
    (with_values (with_state z c) vs) x (giving_act v (with_state z c)) (told end_parts l) (refl, h)

pub cosubscript_comes : (k : ℕ) (v : ℤ) (m l : ℕ) (z : State) (c : Core) (n : ℕ) → Kept n z → (o : Option Own) → own_in k z ≡ o
    → Comes (put_down c) (Leaves n) ((owned k ▹ (λ w. cosubscript w v m)) l z)
    (told (doing (selector (a.cosubscript k) ∷ [])) l (pushed (pos m) (pushed v (with_state z c))))
cosubscript_comes k v m l z c n b None h = rw h refl
cosubscript_comes k (pos zero) m l z c n b (Some w) h = rw h refl
cosubscript_comes k (pos (suc d)) m l z c n b (Some w) h = rw h
    (at_comes (pos m ∷ pos (suc d) ∷ c.values) (selector (a.cosubscript k))
    (slice_get (cosubscripts_behind w.lowers w.extents (own_index m z - 1)) d) l z c n b)
cosubscript_comes k (negsuc d) m l z c n b (Some w) h = rw h refl

-- a scalar and a team as they are written, and what is made of them
pub with_team_comes : (o : WrittenOrder) (m : Does Value) (n : Does ℕ) (f : ℤ → ℕ → Does Value) (p q r : Parts Act) (l : ℕ) (c : Core)
    → Comes (put_down c) (Leaves c.used) (m l (state_of c)) (told p l c)
    → ((v : ℤ) (z : State) → Kept c.used z → Comes (put_down (pushed v (with_state z c))) (Leaves z.used) (m l z)
    (told p l (pushed v (with_state z c))))
    → Comes (put_team c) (Keeps c.used) (n l (state_of c)) (told q l c)
    → ((v : ℤ) (z : State) → Kept c.used z → Comes (put_team (pushed v (with_state z c))) (Keeps z.used) (n l z)
    (told q l (pushed v (with_state z c))))
    → ((v : ℤ) (t : ℕ) (z : State) → Kept c.used z
    → Comes (put_down c) (Leaves c.used) (f v t l z) (told r l (pushed (pos t) (pushed v (with_state z c)))))
    → Comes (put_down c) (Leaves c.used) (scalar_as_written o m n f l (state_of c)) (told (as_written o p q ▸ r) l c)
with_team_comes orders.Same m n f p q r l c h h' k k' last =
    apart (put_down c) (Leaves c.used) (scalar_as_written orders.Same m n f l (state_of c)) (told p l c) (told q l) (told r l)
    (comes_number (put_down c) (Leaves c.used) c.used m (λ v. n ▹ (λ t. f v t)) l (state_of c) c (told p l c)
    (λ d. and_then (told q l d) (told r l)) h
    (λ v z b. comes_then (put_team (pushed v (with_state z c))) (Keeps z.used) (put_down c) (Leaves c.used) (n l z)
    (told q l (pushed v (with_state z c))) (λ y. f v y.0 l y.1) (told r l) (k' v z b)
    (λ t y d. last v t y (kept_more c.used z y b d))))
with_team_comes orders.Reversed m n f p q r l c h h' k k' last =
    apart (put_down c) (Leaves c.used) (scalar_as_written orders.Reversed m n f l (state_of c)) (told q l c) (told (p ▸ bringing 1 1) l)
    (told r l)
    (comes_then (put_team c) (Keeps c.used) (put_down c) (Leaves c.used) (n l (state_of c)) (told q l c) (λ y. (m ▹ℤ (λ v. f v y.0)) l y.1)
    (λ d. and_then (told (p ▸ bringing 1 1) l d) (told r l)) k
    (λ t z b. apart (put_down c) (Leaves c.used) ((m ▹ℤ (λ v. f v t)) l z) (told p l (pushed (pos t) (with_state z c)))
    (told (bringing 1 1) l) (told r l)
    (comes_number (put_down c) (Leaves c.used) z.used m (λ v. f v t) l z (pushed (pos t) (with_state z c))
    (told p l (pushed (pos t) (with_state z c))) (λ d. and_then (told (bringing 1 1) l d) (told r l)) (h' (pos t) z b)
    (λ v y d. last v t y (kept_more c.used z y b d)))))

-- TEAM_NUMBER=
pub sibling_comes : (vs : List ℤ) (x : Act) (o : Option Team) (l : ℕ) (z : State) (c : Core) (n : ℕ) → Kept n z
    → Comes (put_team c) (Keeps n) ((or_fault no_team o ▹ (λ k. giving k.team)) l z)
    (and_then (of_effect l (with_values (with_state z c) vs) (settled x (teamed o (λ k. giving_act (pos k.team) (with_state z c)))))
    (told end_parts l))
sibling_comes vs x None l z c n h = refl
sibling_comes vs x (Some k) l z c n h = (refl, h)
