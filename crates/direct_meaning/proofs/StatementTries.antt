-- What programs say by the direct definition, worked out by hand.
use Rattle.std.proofs.Common.{◌≡◌, refl, ℕ, pos, true, List, [], ◌∷◌, codes}
use Rattle.std.specs.Fmt.{digits}
use Rattle.caf_base.specs.declared.value.Kind.TheVariants as kinds
use Rattle.caf_events.specs.declared.ask.Ask.{Ask}
use Rattle.caf_events.specs.declared.ask.Ask.TheVariants as asked
use Rattle.caf_events.specs.declared.reply.Reply.{Reply}
use Rattle.caf_events.specs.declared.reply.Reply.TheVariants as replies
use Rattle.caf_events.specs.declared.fault.FaultKind.TheVariants as faulty
use Rattle.caf_events.specs.declared.round.Arriving.TheVariants as arrivals
use Rattle.trace_theory.specs.Machines.{Move, goes, asks, over}
use Rattle.checked_tree.specs.declared.data.DataType.TheVariants as types
use Rattle.checked_tree.specs.declared.data.Dimensions.TheVariants as dimensions
use Rattle.checked_tree.specs.declared.data.Codimensions.TheVariants as codimensions
use Rattle.checked_tree.specs.declared.data.Initial.TheVariants as initials
use Rattle.checked_tree.specs.Expressions as t
use Rattle.checked_tree.specs.Statements as s
use Rattle.checked_tree.specs.declared.statement.CaseRange.TheVariants as ranges
use Rattle.image_acts.specs.Acts.{here}
use Rattle.tree_meaning.specs.Start.{first_core}
use Rattle.tree_meaning.specs.Forms.{environment_of}
use Rattle.tree_meaning.proofs.SmallTrees.{int, scalar, coscalar, own, num, v, huge, add, eq, me, count, el, at_image, one, block, if_then, set, put, print, sync, program}
use Rattle.tree_meaning.proofs.SmallAsks.{ints, at, reads, writes, arrives, leaves, prints, stops, error_stops, faults, done, round, left, status, found}
use Rattle.tree_meaning.proofs.Trying as walk
use Rattle.direct_meaning.specs.States.{state_of}
use Rattle.direct_meaning.specs.Outcomes.{Outcome, nothing_said}
use Rattle.direct_meaning.specs.Statements.{whole, course_step}

abbrev after : {X : Type 0} → List Reply → Move (Outcome X) Ask Reply → List (Ask × ℕ)
after rs (goes c) = []
after [] (asks a l k) = (a, l) ∷ []
after (r ∷ rs) (asks a l k) = (a, l) ∷ after rs (course_step (k r))
after rs over = []

-- the first asks of an image of a program without procedures
abbrev said : s.Program → (limit me images : ℕ) → List Reply → List (Ask × ℕ)
said p limit me n rs = after rs (course_step (whole limit (environment_of p here p.main) (λ k xs. nothing_said) p.main.statements p.end_line 1 (state_of (first_core p me n))))

empty : said (program [] [] 0 [] 1) 100 1 1 [] ≡ (stops, 1) ∷ []
empty = refl

overflow : said (program [] [] 0 ((1, print (s.value (add huge (num (pos 1))) ∷ [])) ∷ []) 2) 100 1 1 [] ≡ (faults faulty.Overflow, 1) ∷ []
overflow = refl

-- `do`, `end do`, `end` with the limit 10
limit : said (program [] [] 0 ((1, s.do_forever s.no_statements) ∷ []) 3) 10 1 1 [] ≡ (asked.LimitStatements 11, 1) ∷ []
limit = refl

-- `integer :: x[*]`, `x = this_image()`, `sync all`, `if (this_image() == 1) print *, x[4]`, `end`, image 1 of 4; with
-- the status 6000 error termination
neighbour_read : s.Program
neighbour_read = program (coscalar int ∷ []) (0 ∷ []) 0 ((2, put 0 me) ∷ (3, sync) ∷ (4, if_then (eq me (num (pos 1))) 4 (print (s.value (at_image 0 (one (num (pos 4)))) ∷ []))) ∷ []) 5

neighbour : said neighbour_read 100 1 4 (done ∷ round 1 ∷ left 0 ∷ found (ints (4 ∷ [])) ∷ done ∷ [])
    ≡ (writes 1 (at 0 0) (ints (1 ∷ [])), 2) ∷ (arrives 1 arrivals.Sync, 3) ∷ (leaves 1 1, 3) ∷ (reads 4 (at 0 0), 4) ∷ (prints (codes "4"), 4) ∷ (stops, 5) ∷ []
unfolding neighbour_read digits
neighbour = refl

stopped : said neighbour_read 100 2 4 (done ∷ round 1 ∷ left 6000 ∷ done ∷ []) ≡ (writes 2 (at 0 0) (ints (2 ∷ [])), 2) ∷ (arrives 1 arrivals.Sync, 3) ∷ (leaves 1 1, 3) ∷ (error_stops 6000, 3) ∷ []
unfolding neighbour_read digits
stopped = refl

clash : said neighbour_read 100 2 4 (done ∷ replies.Clash (record { 0 = 1 }) 7 ∷ done ∷ []) ≡ (writes 2 (at 0 0) (ints (2 ∷ [])), 2) ∷ (arrives 1 arrivals.Sync, 3) ∷ []
unfolding neighbour_read digits
clash = refl

-- `do k = 1, 4`, `if (k == 3) cycle`, `s = s + k`, `end do`, `print *, s, k`: 7 and 5
loop : s.Program
loop = program (scalar int ∷ scalar int ∷ []) [] 1
    ((2, s.do_counted (own 1) kinds.I4 (num (pos 1)) (num (pos 4)) t.missing 0 (block ((3, if_then (eq (v 1) (num (pos 3))) 3 (s.cycle 0)) ∷ (4, set 0 (add (v 0) (v 1))) ∷ [])))
    ∷ (6, print (s.value (v 0) ∷ s.value (v 1) ∷ [])) ∷ []) 7

looped : said loop 100 1 1 (done ∷ []) ≡ (prints (codes "7 5"), 6) ∷ (stops, 7) ∷ []
unfolding loop digits
looped = refl

-- the statements of the loop are counted: 1 + 4 * 3 - 1 + 1 of cycle = 13, the PRINT is the 14th
counted : said loop 13 1 1 [] ≡ (asked.LimitStatements 14, 6) ∷ []
unfolding loop digits
counted = refl

-- `sync images ([1, 1], stat=s)`: no step, 6006
twice : said (program (scalar int ∷ []) [] 0 ((2, s.sync_images (s.images (t.typed (t.array_constructor (t.more_expressions (num (pos 1)) (one (num (pos 1))))) int 1)) (t.result (t.result_variable (own 0) t.no_expressions kinds.I4))) ∷ (3, print (s.value (v 0) ∷ [])) ∷ []) 4) 100 1 1 (done ∷ [])
    ≡ (prints (codes "6006"), 3) ∷ (stops, 4) ∷ []
unfolding digits
twice = refl

-- `select case (num_images())`, `case (:1)`, `print *, 1`, `case (2, 4:6)`, `print *, 2`, `end select` on 5 images;
-- `critical`, `end critical` entered behind a failed image
chosen : s.Program
chosen = program [] [] 1
    ((1, s.select count 0 (s.more_cases (ranges.AtMost (pos 1) ∷ []) (block ((3, print (s.value (num (pos 1)) ∷ [])) ∷ [])) 2 (s.more_cases (ranges.Value (pos 2) ∷ ranges.Between (pos 4) (pos 6) ∷ []) (block ((5, print (s.value (num (pos 2)) ∷ [])) ∷ [])) 4 s.no_cases)) s.no_statements)
    ∷ (7, s.critical 1 t.no_result s.no_statements 8) ∷ []) 9

selected : said chosen 100 1 5 (done ∷ status 6001 ∷ done ∷ []) ≡ (prints (codes "2"), 5) ∷ (asked.Enter 1, 7) ∷ (asked.Exit 1, 8) ∷ (stops, 9) ∷ []
unfolding chosen digits
selected = refl

-- the walk by acts says the same of these programs
same_loop : walk.said loop 13 1 1 [] ≡ said loop 13 1 1 []
unfolding loop digits
same_loop = refl

same_neighbour : walk.said neighbour_read 100 1 4 (done ∷ round 1 ∷ left 0 ∷ found (ints (4 ∷ [])) ∷ done ∷ []) ≡ said neighbour_read 100 1 4 (done ∷ round 1 ∷ left 0 ∷ found (ints (4 ∷ [])) ∷ done ∷ [])
unfolding neighbour_read digits
same_neighbour = refl

same_chosen : walk.said chosen 100 1 5 (done ∷ status 6001 ∷ done ∷ []) ≡ said chosen 100 1 5 (done ∷ status 6001 ∷ done ∷ [])
unfolding chosen digits
same_chosen = refl

-- `integer, allocatable :: b(:)`, `b(9) = 2147483648_8`: Overflow comes before NotAllocated, and no bound is tested;
-- with `b(9) = 1` NotAllocated
into_b : t.Expression → s.Program
into_b x = program
    (record { name = []; of_type = int; dimensions = dimensions.Deferred 1; codimensions = codimensions.Absent; is_allocatable = true; initial = initials.Unstated } ∷ []) [] 0
    ((2, s.assign (el 0 (num (pos 9))) int 0 x) ∷ []) 3

overflow_first : said (into_b (t.typed (t.number (pos 2147483648)) (types.Intrinsic kinds.I8) 0)) 100 1 1 [] ≡ (faults faulty.Overflow, 2) ∷ []
unfolding into_b
overflow_first = refl

then_not_allocated : said (into_b (num (pos 1))) 100 1 1 [] ≡ (faults faulty.NotAllocated, 2) ∷ []
unfolding into_b
then_not_allocated = refl
