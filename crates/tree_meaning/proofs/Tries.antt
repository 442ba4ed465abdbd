-- What the walks of small programs ask, worked out by hand.
use Rattle.std.proofs.Common.{◌≡◌, refl, ℕ, pos, false, [], ◌∷◌, codes}
use Rattle.std.specs.Fmt.{digits}
use Rattle.caf_base.specs.declared.value.Kind.TheVariants as kinds
use Rattle.caf_events.specs.declared.fault.FaultKind.TheVariants as faulty
use Rattle.caf_events.specs.declared.ask.Ask.TheVariants as asks
use Rattle.caf_events.specs.declared.reply.Reply.TheVariants as replies
use Rattle.caf_events.specs.declared.round.Arriving.TheVariants as arrivals
use Rattle.checked_tree.specs.declared.data.Codimensions.{Codimensions}
use Rattle.checked_tree.specs.declared.data.Codimensions.TheVariants as codimensions
use Rattle.checked_tree.specs.declared.data.Initial.TheVariants as initials
use Rattle.checked_tree.specs.declared.expr.LogicalOperator.TheVariants as logics
use Rattle.checked_tree.specs.declared.expr.WrittenOrder.TheVariants as orders
use Rattle.checked_tree.specs.Expressions as t
use Rattle.checked_tree.specs.Statements as s
use Rattle.tree_meaning.proofs.SmallTrees.{int, log, var, scalar, coscalar, own, num, v, target, huge, add, eq, me, at_image, one, two, put, print, sync, if_then, program}
use Rattle.tree_meaning.proofs.SmallAsks.{ints, at, reads, writes, arrives, leaves, prints, stops, error_stops, faults, done, round, left, status, found}
use Rattle.tree_meaning.proofs.Trying.{said}

-- the empty program: `end`
empty : said (program [] [] 0 [] 1) 100 1 1 [] ≡ (stops, 1) ∷ []
empty = refl

-- overflow: `print *, huge(0) + 1`
overflow : said (program [] [] 0 ((1, print (s.value (add huge (num (pos 1))) ∷ [])) ∷ []) 2) 100 1 1 [] ≡ (faults faulty.Overflow, 1) ∷ []
overflow = refl

-- the statement limit: `do`, `end do`, `end` with the limit 10
limit : said (program [] [] 0 ((1, s.do_forever s.no_statements) ∷ []) 3) 10 1 1 [] ≡ (asks.LimitStatements 11, 1) ∷ []
limit = refl

-- the neighbour read: `integer :: x[*]`, `x = this_image()`, `sync all`, `if (this_image() == 1) print *, x[4]`, `end`,
-- images 1 and 2 of 4
neighbour_read : s.Program
neighbour_read = program (coscalar int ∷ []) (0 ∷ []) 0 ((2, put 0 me) ∷ (3, sync) ∷ (4, if_then (eq me (num (pos 1))) 4 (print (s.value (at_image 0 (one (num (pos 4)))) ∷ []))) ∷ []) 5

neighbour_read_1 : said neighbour_read 100 1 4 (done ∷ round 1 ∷ left 0 ∷ found (ints (4 ∷ [])) ∷ done ∷ [])
    ≡ (writes 1 (at 0 0) (ints (1 ∷ [])), 2) ∷ (arrives 1 arrivals.Sync, 3) ∷ (leaves 1 1, 3) ∷ (reads 4 (at 0 0), 4) ∷ (prints (codes "4"), 4) ∷ (stops, 5) ∷ []
unfolding neighbour_read digits
neighbour_read_1 = refl

neighbour_read_2 : said neighbour_read 100 2 4 (done ∷ round 1 ∷ left 0 ∷ [])
    ≡ (writes 2 (at 0 0) (ints (2 ∷ [])), 2) ∷ (arrives 1 arrivals.Sync, 3) ∷ (leaves 1 1, 3) ∷ (stops, 5) ∷ []
unfolding neighbour_read digits
neighbour_read_2 = refl

-- a round whose status is 6000 and no STAT=: error termination, and nothing after it
stopped_round : said neighbour_read 100 2 4 (done ∷ round 1 ∷ left 6000 ∷ done ∷ []) ≡ (writes 2 (at 0 0) (ints (2 ∷ [])), 2) ∷ (arrives 1 arrivals.Sync, 3) ∷ (leaves 1 1, 3) ∷ (error_stops 6000, 3) ∷ []
unfolding neighbour_read digits
stopped_round = refl

-- a clash ends the walk
clash : said neighbour_read 100 2 4 (done ∷ replies.Clash (record { 0 = 1 }) 7 ∷ done ∷ []) ≡ (writes 2 (at 0 0) (ints (2 ∷ [])), 2) ∷ (arrives 1 arrivals.Sync, 3) ∷ []
unfolding neighbour_read digits
clash = refl

-- cobounds: `integer :: x[0:1,*]`; image_index(x, [0, 3]) and (x, [1, 3]) on image 1 of 5 are 5 and 0; then `x[1, 3]`
-- names no image
two_codimensions : Codimensions
two_codimensions = codimensions.Explicit (record { lower = pos 0 ∷ pos 1 ∷ []; extent = pos 2 ∷ [] })

index_of : t.Expression → t.Expression → t.Expression
index_of a b = t.typed (t.intrinsic (t.image_index 0 (t.typed (t.array_constructor (two a b)) int 1) t.missing orders.Same)) int 0

cobounds : s.Program
cobounds = program (var int [] two_codimensions initials.Unstated ∷ []) (0 ∷ []) 0
    ((2, if_then (eq me (num (pos 1))) 2 (print (s.value (index_of (num (pos 0)) (num (pos 3))) ∷ s.value (index_of (num (pos 1)) (num (pos 3))) ∷ [])))
    ∷ (3, if_then (eq me (num (pos 1))) 3 (print (s.value (at_image 0 (two (num (pos 1)) (num (pos 3)))) ∷ []))) ∷ []) 4

no_such_image : said cobounds 100 1 5 (done ∷ []) ≡ (prints (codes "5 0"), 2) ∷ (faults faulty.CoBounds, 3) ∷ []
unfolding cobounds two_codimensions index_of digits
no_such_image = refl

-- an image that stands twice: `sync images ([1, 1], stat=s)`, `print *, s`; and without STAT=
images_1_1 : s.ImageSet
images_1_1 = s.images (t.typed (t.array_constructor (two (num (pos 1)) (num (pos 1)))) int 1)

to : ℕ → t.OptionalResult
to n = t.result (t.result_variable (own n) t.no_expressions kinds.I4)

repeated_index : said (program (scalar int ∷ []) [] 0 ((2, s.sync_images images_1_1 (to 0)) ∷ (3, print (s.value (v 0) ∷ [])) ∷ []) 4) 100 1 1 (done ∷ []) ≡ (prints (codes "6006"), 3) ∷ (stops, 4) ∷ []
unfolding images_1_1 to digits
repeated_index = refl

repeated_index_no_stat : said (program [] [] 0 ((1, s.sync_images images_1_1 t.no_result) ∷ []) 2) 100 1 1 (done ∷ []) ≡ (error_stops 6006, 1) ∷ []
unfolding images_1_1 digits
repeated_index_no_stat = refl

-- SYNC IMAGES (*) of image 2 of 3
all_images : said (program [] [] 0 ((1, s.sync_images s.all_images t.no_result) ∷ []) 2) 100 2 3 (done ∷ status 0 ∷ [])
    ≡ (asks.Pair (record { 0 = 1 } ∷ record { 0 = 2 } ∷ record { 0 = 3 } ∷ []), 1) ∷ (asks.Unpair, 1) ∷ (stops, 2) ∷ []
all_images = refl

-- both operands of .AND. are evaluated: `.false. .and. x[2] == 1` on one image is a fault
both_operands : said (program (coscalar int ∷ scalar log ∷ []) (0 ∷ []) 0
    ((3, put 0 (num (pos 1))) ∷ (4, s.assign (target 1) log 0 (t.typed (t.logic logics.And (t.typed (t.logical false) log 0) (eq (at_image 0 (one (num (pos 2)))) (num (pos 1)))) log 0)) ∷ []) 5) 100 1 1 (done ∷ [])
    ≡ (writes 1 (at 0 0) (ints (1 ∷ [])), 3) ∷ (faults faulty.CoBounds, 4) ∷ []
both_operands = refl

-- `error stop 3`
error_stop_3 : said (program [] [] 0 ((1, s.error_stop (t.given (num (pos 3)))) ∷ []) 2) 100 1 1 [] ≡ (error_stops 3, 1) ∷ []
error_stop_3 = refl
