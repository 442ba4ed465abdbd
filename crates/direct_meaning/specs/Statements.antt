-- What a statement does, and where execution goes on (ISO/IEC 1539-1:2018, 10.2, 11.1, 11.2, 11.4 to 11.6, 12.6).
-- Procedure calls, allocation, atomic subroutines and collectives aren't said here.
use Rattle.std.specs.Prelude.{ℕ, zero, suc, ◌+◌, ◌-◌, ◌==◌, nat_le, nat_lt, cond, ℤ, pos, ◌+ℤ◌, Bool, false, not, ◌||◌, ◌&&◌, int_le, List, [], ◌∷◌, ◌++◌, map, length, replicate, min, Option, None, Some}
use Rattle.std.specs.List.{list_all}
use Rattle.std.specs.Ordering.{int_eq}
use Rattle.caf_base.specs.declared.value.Kind.{Kind}
use Rattle.caf_base.specs.declared.value.Kind.TheVariants as kinds
use Rattle.caf_events.specs.declared.ask.Ask.{Ask}
use Rattle.caf_events.specs.declared.ask.Ask.TheVariants as asks
use Rattle.caf_events.specs.declared.reply.Reply.{Reply}
use Rattle.caf_events.specs.declared.reply.Reply.TheVariants as replies
use Rattle.caf_events.specs.declared.round.Arriving.TheVariants as arrivals
use Rattle.trace_theory.specs.Machines as machine
use Rattle.checked_tree.specs.declared.data.Object.TheVariants as objects
use Rattle.checked_tree.specs.declared.data.DataType.{DataType}
use Rattle.checked_tree.specs.declared.data.Local.{Local}
use Rattle.checked_tree.specs.declared.statement.CaseRange.{CaseRange}
use Rattle.checked_tree.specs.declared.statement.CaseRange.TheVariants as ranges
use Rattle.checked_tree.specs.declared.expr.WrittenOrder.{WrittenOrder}
use Rattle.checked_tree.specs.Expressions as t
use Rattle.checked_tree.specs.Statements as s
use Rattle.caf_base.specs.Arithmetic.{fits_kind, is_true, iterations, value_of}
use Rattle.image_acts.specs.Statuses.{failed_image, unlocked_failed_image, bad_argument, most_iterations}
use Rattle.image_acts.specs.Faults.{fault_of, overflow, zero_step, shape_fault, not_allocated}
use Rattle.image_acts.specs.Core.{Array, Item, integer, logical, literal}
use Rattle.image_acts.specs.Formats.{listed, formatted}
use Rattle.image_acts.specs.Core as l
use Rattle.image_acts.specs.Acts.{Scope}
use Rattle.image_acts.specs.Places.{Place, Subscript, extents_of, cells_of}
use Rattle.image_acts.specs.Teams.{are_indices_of, counted_from}
use Rattle.image_acts.specs.Operate.Asking.{span_of, named}
use Rattle.image_acts.specs.Operate.Bounds.{same_extents}
use Rattle.tree_meaning.specs.Environment.{Environment, scope_of, kind_of, literal_text}
use Rattle.tree_meaning.specs.Expressions.{has_selector}
use Rattle.tree_meaning.specs.Assignments.{kind_in, rank_in, narrows}
use Rattle.direct_meaning.specs.States.{array_in}
use Rattle.direct_meaning.specs.Outcomes.{Outcome, done, faults, over, unsaid, Does, giving, fault, nothing_said, ◌▹◌, asking, unless, of_found, changing}
use Rattle.direct_meaning.specs.Outcomes as o
use Rattle.direct_meaning.specs.Values.{Value, number, array, as_number, using, scalar, set_scalar, part_of, set_elements, coarray_part, need_own}
use Rattle.direct_meaning.specs.Images.{current_team, members, the, this_image, image}
use Rattle.direct_meaning.specs.Expressions.{Passed, Target, nowhere, set_target, is_scalar, value, all_of, scalars, as_written, selected_team, selected, optional_target}
use Rattle.direct_meaning.specs.Synchronizing.{ending, settle, round, number_in, child_team, near_team, enter_team, leave_team, form_round, note_teams, delete_all, cell_status, tried_status, set_selector, wait_for}

-- a value of its expression's rank (nothing is said of another, which no program has)
abbrev pub of_rank : ℕ → Value → Does Value
of_rank zero (number v) = giving (number v)
of_rank zero (array a) = nothing_said
of_rank (suc r) (number v) = nothing_said
of_rank (suc r) (array a) = giving (array a)

-- a value of another kind (10.2.1.3)
abbrev pub elements_of : Value → List ℤ
elements_of (number v) = v ∷ []
elements_of (array a) = a.elements

abbrev pub converted : Kind → Kind → Value → Does (Unit {0})
converted from to v = cond (narrows from to) (unless overflow (list_all (fits_kind to) (elements_of v)) (giving tt)) (giving tt)

-- a scalar goes to each element, an array has to have the extents (10.2.1.3)
abbrev pub spread : Place → Value → Does (List ℤ)
spread p (number v) = giving (replicate (cells_of p) v)
spread p (array a) = unless shape_fault (same_extents a.extents (extents_of p)) (giving a.elements)

-- The place of a part of a local array; the subscripts of one that isn't allocated have no bounds to be tested against,
-- and the fault comes where it would be defined.
abbrev pub place_of_array : Option l.Local → List Subscript → Does (Option Place)
place_of_array None xs = giving None
place_of_array (Some a) xs = part_of a.bounds xs ▹ (λ p. giving (Some p))

abbrev pub place_there : Scope → ℕ → List Subscript → Does (Option Place)
place_there x n xs = λ l s. place_of_array (array_in x n s) xs l s

abbrev pub defined : Scope → ℕ → Option Place → Value → Does (Unit {0})
defined x n None v = fault not_allocated
defined x n (Some p) v = spread p v ▹ (λ vs. set_elements x n p vs)

-- the reply to a definition; a part without cells makes no access
abbrev pub written : Reply → Does ℤ
written replies.Done = giving (pos 0)
written replies.Dead = giving failed_image
written replies.Absent = fault not_allocated
written reply = nothing_said

abbrev pub write_part : ℕ → ℕ → Place → Kind → List ℤ → Does ℤ
write_part c i p k vs = cond (cells_of p == 0) (giving (pos 0)) (asking (asks.Write (image i) (span_of c p) (map (value_of k) vs)) ▹ written)

-- an output item: a number, a truth value, or the elements of an array (12.6.3)
abbrev pub item_of : Kind → ℤ → Item
item_of kinds.L4 v = logical (is_true v)
item_of k v = integer v

abbrev pub items_of : Kind → Value → Does (List Item)
items_of k (number v) = using 1 ▹ (λ u. giving (item_of k v ∷ []))
items_of k (array a) = giving (map (item_of k) a.elements)

-- whether a value is in a case value range (11.1.9.2)
abbrev pub in_range : ℤ → CaseRange → Bool
in_range v (ranges.Value w) = int_eq v w
in_range v (ranges.AtLeast w) = int_le w v
in_range v (ranges.AtMost w) = int_le v w
in_range v (ranges.Between w x) = int_le w v && int_le v x

abbrev pub in_some : ℤ → List CaseRange → Bool
in_some v [] = false
in_some v (r ∷ rs) = in_range v r || in_some v rs

-- where execution goes on: behind the statement, behind a loop or at its next iteration, so many loops out, or behind
-- the procedure's body
pub data Control : Type 0 where
  onward : Control
  exits : ℕ → Control
  cycles : ℕ → Control
  returns : Control

-- A statement, where so many were counted: where it goes on, and how many were counted then.
abbrev pub Executes : Type 0
Executes = ℕ → Does (Control × ℕ)

-- an evaluation whose cells are free again behind it
abbrev pub released : {X : Type 0} → Does X → Does X
released m = m ▹ (λ x. changing (λ z. record z { used = z.frame.base }) ▹ (λ u. giving x))

abbrev pub simply : Does (Unit {0}) → Executes
simply m n = released m ▹ (λ u. giving (onward, n))

-- what follows where execution goes on behind
abbrev pub followed : Executes → (Control × ℕ) → Does (Control × ℕ)
followed next (onward, n) = next n
followed next (exits k, n) = giving (exits k, n)
followed next (cycles k, n) = giving (cycles k, n)
followed next (returns, n) = giving (returns, n)

-- the end of an iteration: the next one, the end of the loop, or what an outer one has to do with
abbrev pub iterated : Executes → (Control × ℕ) → Does (Control × ℕ)
iterated next (onward, n) = next n
iterated next (exits zero, n) = giving (onward, n)
iterated next (exits (suc k), n) = giving (exits k, n)
iterated next (cycles zero, n) = next n
iterated next (cycles (suc k), n) = giving (cycles k, n)
iterated next (returns, n) = giving (returns, n)

module _ (limit : ℕ) (e : Environment) (calls : ℕ → List Passed → Does Value) where
  -- a statement is counted (the profile's limit), at its line
  abbrev pub counting : Executes → Executes
  counting m n = cond (nat_lt n limit) (m (n + 1)) (ending (asks.LimitStatements (n + 1)))

  abbrev pub at_own_line : {X : Type 0} → ℕ → Does X → Does X
  at_own_line l m = λ k s. m l s

  abbrev pub at_line : ℕ → Executes → Executes
  at_line l m n = λ k s. m n l s

  -- DO with a variable (11.1.7.4): so many iterations are left; behind each the variable is incremented
  abbrev pub counted_loop : ℕ → Does (Unit {0}) → Executes → Executes
  counted_loop zero next body n = giving (onward, n)
  counted_loop (suc left) next body n = counting body n ▹ iterated (λ m. next ▹ (λ u. counted_loop left next body m))

  -- DO WHILE, DO: the limit bounds the iterations, since each is counted
  abbrev pub while_loop : (fuel : ℕ) → Does ℤ → Executes → Executes
  while_loop zero test body n = test ▹ (λ v. cond (is_true v) (ending (asks.LimitStatements (n + 1))) (giving (onward, n)))
  while_loop (suc f) test body n = test ▹ (λ v. cond (is_true v) (counting body n ▹ iterated (while_loop f test body)) (giving (onward, n)))

  abbrev pub num : t.Expression → Does ℤ
  num x = value e calls x ▹ as_number

  abbrev pub or_number : t.OptionalExpression → ℤ → Does ℤ
  or_number t.missing z = giving z
  or_number (t.given x) z = num x

  abbrev pub image_of : {X : Type 0} → ℕ → Place → t.Selector → (ℕ → Target → Does X) → Does X
  image_of c p t.no_selector f = this_image p ▹ (λ i. f i nowhere)
  image_of c p (t.selector cs which stat) f = selected (scalars e calls cs) (selected_team e calls which) (optional_target e calls stat) c p f

  -- the assignment of a value (10.2.1.3): the place and the image of the left side, the conversion, the definition,
  -- STAT=
  abbrev pub assigned : t.Designator → Kind → ℕ → Kind → Value → Does (Unit {0})
  assigned (t.part (objects.Local v) t.no_subscripts sel) k zero from x = as_number x ▹ (λ z. converted from k x ▹ (λ u. set_scalar (scope_of v.home) v.variable z))
  assigned (t.part (objects.Local v) ss sel) k rank from x =
      all_of e calls ss rank ▹ (λ xs. place_there (scope_of v.home) v.variable xs ▹ (λ p. converted from k x ▹ (λ u. defined (scope_of v.home) v.variable p x)))
  assigned (t.part (objects.Coarray c) ss sel) k rank from x =
      all_of e calls ss rank ▹ (λ xs. coarray_part c rank xs ▹ (λ p. image_of c p sel (λ i g. converted from k x ▹ (λ u. need_own (is_scalar ss rank || has_selector sel) c ▹ (λ u.
      spread p x ▹ (λ vs. write_part c i p k vs ▹ (λ status. set_target g status)))))))
  assigned d k rank from x = nothing_said

  abbrev pub ranked : t.Expression → Does Value
  ranked x = value e calls x ▹ of_rank (rank_in x)

  -- the right side comes first (10.2.1.3)
  abbrev pub assignment : t.Designator → DataType → ℕ → t.Expression → Does (Unit {0})
  assignment d type rank x = ranked x ▹ assigned d (kind_of type) rank (kind_in x)

  abbrev pub items : List s.Item → Does (List Item)
  items [] = giving []
  items (s.literal n ∷ xs) = items xs ▹ (λ is. giving (literal (literal_text e n) ∷ is))
  items (s.value x ∷ xs) = ranked x ▹ (λ v. items_of (kind_in x) v ▹ (λ i. items xs ▹ (λ is. giving (i ++ is))))

  abbrev pub text_of : s.Format → List Item → Does (List ℕ)
  text_of s.free is = giving (listed is)
  text_of (s.written n ds) is = of_found (formatted (literal_text e n) is)

  -- the text of all items (12.6)
  abbrev pub output : s.Format → List s.Item → Does (Unit {0})
  output f xs = items xs ▹ (λ is. text_of f is ▹ (λ text. asking (asks.Print text) ▹ (λ r. giving tt)))

  -- the indices of SYNC IMAGES (11.6.4); nothing is said of more than 256 images, which no run has
  abbrev pub every_image : ℕ → Does (List ℤ)
  every_image n = cond (nat_le n 256) (giving (counted_from 1 n)) nothing_said

  abbrev pub image_set : s.ImageSet → Does (List ℤ)
  image_set s.all_images = the (λ z. length (members (current_team z) z)) ▹ every_image
  image_set (s.images x) = ranked x ▹ (λ v. giving (elements_of v))

  -- an index that is no image of the team, or stands twice, is a bad argument, and no step is made
  abbrev pub paired : List ℤ → Does ℤ
  paired is = the (λ z. members (current_team z) z) ▹ (λ ms. cond (are_indices_of (length ms) is) (asking (asks.Pair (named ms is)) ▹ (λ r. asking asks.Unpair ▹ number_in)) (giving bad_argument))

  abbrev pub sync_all : t.OptionalResult → Does (Unit {0})
  sync_all stat = optional_target e calls stat ▹ (λ g. the current_team ▹ (λ i. round i arrivals.Sync ▹ settle stat g []))

  abbrev pub sync_memory : t.OptionalResult → Does (Unit {0})
  sync_memory stat = optional_target e calls stat ▹ (λ g. asking asks.Memory ▹ (λ r. settle stat g [] (pos 0)))

  abbrev pub sync_images : s.ImageSet → t.OptionalResult → Does (Unit {0})
  sync_images is stat = image_set is ▹ (λ xs. optional_target e calls stat ▹ (λ g. paired xs ▹ settle stat g []))

  -- the team is one that may be named there where the arrival is made, too
  abbrev pub sync_team : t.Expression → t.OptionalResult → Does (Unit {0})
  sync_team x stat = num x ▹ (λ v. near_team v ▹ (λ n. optional_target e calls stat ▹ (λ g. near_team (pos n) ▹ (λ m. round m arrivals.Sync ▹ settle stat g []))))

  -- a missing new index is 0
  abbrev pub form_team : t.Expression → Local → t.OptionalExpression → t.OptionalResult → WrittenOrder → Does (Unit {0})
  form_team x v index stat order =
      num x ▹ (λ k. as_written order (or_number index (pos 0)) (optional_target e calls stat) (λ i g. the current_team ▹ (λ n.
      form_round n k i ▹ (λ f. note_teams (scope_of v.home) v.variable f.1 f.2 ▹ (λ u. settle stat g [] f.0)))))

  -- the team becomes current whatever the status
  abbrev pub change_team : t.Expression → t.OptionalResult → Does (Unit {0})
  change_team x stat =
      num x ▹ (λ v. child_team v ▹ (λ n. optional_target e calls stat ▹ (λ g. child_team (pos n) ▹ (λ m.
      round m arrivals.Change ▹ (λ status. enter_team m ▹ (λ u. settle stat g [] status))))))

  abbrev pub end_team : t.OptionalResult → Does (Unit {0})
  end_team stat =
      optional_target e calls stat ▹ (λ g. the current_team ▹ (λ i. round i arrivals.End ▹ (λ status.
      delete_all e e.program.coarrays 0 ▹ (λ u. leave_team ▹ (λ u. settle stat g [] status)))))

  -- the image that failed inside keeps nobody out
  abbrev pub enter_critical : ℕ → t.OptionalResult → Does (Unit {0})
  enter_critical c stat = optional_target e calls stat ▹ (λ g. asking (asks.Enter c) ▹ (λ r. number_in r ▹ settle stat g (failed_image ∷ [])))

  -- a lock, an event or an atom: its coarray, whether that needn't be there on this image, its place and its image
  abbrev pub on_cell : {X : Type 0} → t.Designator → (ℕ → Bool → Place → ℕ → Target → Does X) → Does X
  on_cell (t.part (objects.Coarray c) ss sel) f = all_of e calls ss 0 ▹ (λ xs. coarray_part c 0 xs ▹ (λ p. image_of c p sel (λ i g. f c (is_scalar ss 0 || has_selector sel) p i g)))
  on_cell d f = nothing_said

  -- an ask of it, and its status
  abbrev pub at_cell : (ℕ → Place → ℕ → Ask) → ℕ → Bool → Place → ℕ → Target → t.OptionalResult → Target → List ℤ → Does (Unit {0})
  at_cell a c there p i g stat h accepted = need_own there c ▹ (λ u. asking (a c p i) ▹ (λ r. cell_status r ▹ (λ z. set_selector g z ▹ (λ u. settle stat h accepted z))))

  abbrev pub unlocked : t.Designator → t.OptionalResult → Does (Unit {0})
  unlocked d stat = on_cell d (λ c there p i g. optional_target e calls stat ▹ (λ h. at_cell (λ k q m. asks.Unlock (image m) (span_of k q)) c there p i g stat h []))

  abbrev pub posted : t.Designator → t.OptionalResult → Does (Unit {0})
  posted d stat = on_cell d (λ c there p i g. optional_target e calls stat ▹ (λ h. at_cell (λ k q m. asks.Post (image m) (span_of k q)) c there p i g stat h []))

  -- LOCK: a lock whose last holder failed is acquired
  abbrev pub try_cell : ℕ → Bool → Place → ℕ → Target → t.ResultVariable → Target → t.OptionalResult → Target → Does (Unit {0})
  try_cell c there p i g acquired a stat h =
      need_own there c ▹ (λ u. asking (asks.TryLock (image i) (span_of c p)) ▹ (λ r. tried_status r ▹ (λ z.
      set_selector g z.1 ▹ (λ u. set_target a z.0 ▹ (λ u. settle stat h (unlocked_failed_image ∷ []) z.1)))))

  abbrev pub locked : t.Designator → t.OptionalResult → t.OptionalResult → WrittenOrder → Does (Unit {0})
  locked d t.no_result stat order =
      on_cell d (λ c there p i g. optional_target e calls stat ▹ (λ h. at_cell (λ k q m. asks.Lock (image m) (span_of k q)) c there p i g stat h (unlocked_failed_image ∷ [])))
  locked d (t.result acquired) stat order =
      on_cell d (λ c there p i g. as_written order (optional_target e calls (t.result acquired)) (optional_target e calls stat) (λ a h. try_cell c there p i g acquired a stat h))

  -- EVENT WAIT: an event of this image, with the threshold 1 where none is given
  abbrev pub waited : t.Designator → t.OptionalExpression → t.OptionalResult → WrittenOrder → Does (Unit {0})
  waited (t.part (objects.Coarray c) ss t.no_selector) until stat order =
      all_of e calls ss 0 ▹ (λ xs. coarray_part c 0 xs ▹ (λ p. this_image p ▹ (λ i.
      as_written order (or_number until (pos 1)) (optional_target e calls stat) (λ n h. wait_for c p n ▹ settle stat h []))))
  waited d until stat order = nothing_said

  abbrev pub parameter : Kind → Does ℤ → Does ℤ
  parameter k m = m ▹ (λ v. unless overflow (fits_kind k v) (giving v))

  -- first, last and step, each converted to the variable's kind at once; the variable gets the first; the iteration
  -- count, and the step (11.1.7.4.1)
  abbrev pub do_parameters : Local → Kind → t.Expression → t.Expression → t.OptionalExpression → Does (ℕ × ℤ)
  do_parameters v k first last step = parameter k (num first) ▹ (λ f. parameter k (num last) ▹ (λ u. parameter k (or_number step (pos 1)) ▹ (λ i.
      unless zero_step (not (int_eq i (pos 0))) (set_scalar (scope_of v.home) v.variable f ▹ (λ w. giving (min (iterations f u i) most_iterations, i))))))

  abbrev mutual
    pub form : ℕ → s.StatementForm → Executes
    form l (s.assign d type rank x) n = simply (assignment d type rank x) n  -- 10.2.1
    form l (s.print f xs) n = simply (output f xs) n  -- 12.6
    form l (s.exit k) n = giving (exits k, n)  -- 11.1.12
    form l (s.cycle k) n = giving (cycles k, n)  -- 11.1.7.4.4
    form l s.return n = giving (returns, n)  -- 15.6.2.7
    form l (s.stop code) n = or_number code (pos 0) ▹ (λ v. ending (asks.Stop v))  -- 11.4
    form l (s.error_stop code) n = or_number code (pos 0) ▹ (λ v. ending (asks.ErrorStop v))
    form l s.fail_image n = ending asks.Fail  -- 11.5
    form l (s.sync_all stat) n = simply (sync_all stat) n  -- 11.6.3
    form l (s.sync_memory stat) n = simply (sync_memory stat) n  -- 11.6.5
    form l (s.sync_images is stat) n = simply (sync_images is stat) n  -- 11.6.4
    form l (s.sync_team x stat) n = simply (sync_team x stat) n  -- 11.6.6
    form l (s.form_team x v index stat order) n = simply (form_team x v index stat order) n  -- 11.6.9
    form l (s.lock d acquired stat order) n = simply (locked d acquired stat order) n  -- 11.6.10
    form l (s.unlock d stat) n = simply (unlocked d stat) n  -- 11.6.10
    form l (s.event_post d stat) n = simply (posted d stat) n  -- 11.6.7
    form l (s.event_wait d until stat order) n = simply (waited d until stat order) n  -- 11.6.8
    form l (s.if x body others none) n = released (num x) ▹ (λ v. cond (is_true v) (block body n) (else_ifs others (block none) n))  -- 11.1.8
    form l (s.do_counted v k first last step h body) n =  -- 11.1.7.4.1
        released (do_parameters v k first last step)
        ▹ (λ c. counted_loop c.0 (scalar (scope_of v.home) v.variable ▹ (λ z. unless overflow (fits_kind k (z +ℤ c.1)) (set_scalar (scope_of v.home) v.variable (z +ℤ c.1)))) (block body) n)
    form l (s.do_while x body) n = while_loop (limit - n) (released (num x)) (block body) n
    form l (s.do_forever body) n = while_loop (limit - n) (giving (pos 1)) (block body) n
    form l (s.select x h cs none) n = released (num x) ▹ (λ v. cases v cs (block none) n)  -- 11.1.9
    form l (s.critical c stat body m) n =  -- 11.1.6
        released (enter_critical c stat) ▹ (λ u. block body n ▹ followed (at_line m (counting (λ k. asking (asks.Exit c) ▹ (λ r. giving (onward, k))))))
    form l (s.change_team x stat body end_stat m) n =  -- 11.1.5
        released (change_team x stat) ▹ (λ u. block body n ▹ followed (at_line m (counting (simply (end_team end_stat)))))
    form l f n = nothing_said

    -- a block: each statement is counted at its line
    pub block : s.Statements → Executes
    block s.no_statements n = giving (onward, n)
    block (s.more_statements (s.on_line f l) ss) n = at_line l (counting (form l f)) n ▹ followed (block ss)

    pub else_ifs : s.ElseIfs → Executes → Executes
    else_ifs s.no_else_ifs none n = none n
    else_ifs (s.more_else_ifs x body l others) none n = at_own_line l (released (num x)) ▹ (λ v. cond (is_true v) (block body n) (else_ifs others none n))

    pub cases : ℤ → s.Cases → Executes → Executes
    cases v s.no_cases none n = none n
    cases v (s.more_cases rs body l others) none n = cond (in_some v rs) (block body n) (cases v others none n)

  -- the main program and its END (5.3.7)
  abbrev pub whole : s.Statements → ℕ → Does (Unit {0})
  whole ss last = block ss 0 ▹ (λ c. at_line last (counting (λ n. ending (asks.Stop (pos 0)))) c.1 ▹ (λ v. giving tt))

-- a course as a machine: it stands at its next ask
abbrev pub course_step : {X : Type 0} → Outcome X → machine.Move (Outcome X) Ask Reply
course_step (done x) = machine.over
course_step (faults k l z) = machine.asks (asks.Fault (fault_of k)) l (λ r. over z)
course_step (o.asks a l z f) = machine.asks a l f
course_step (over z) = machine.over
course_step unsaid = machine.over
