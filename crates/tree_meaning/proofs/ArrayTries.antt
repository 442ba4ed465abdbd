-- Sections, formats, loops and procedures: what the walks of small programs ask, worked out by hand.
use Rattle.std.proofs.Common.{◌≡◌, refl, ℕ, pos, negsuc, true, List, [], ◌∷◌, ◌++◌, codes}
use Rattle.std.specs.Fmt.{digits}
use Rattle.caf_base.specs.declared.value.Kind.TheVariants as kinds
use Rattle.caf_base.specs.declared.value.Value.TheVariants as values
use Rattle.caf_events.specs.declared.fault.FaultKind.TheVariants as faulty
use Rattle.caf_events.specs.declared.ask.Ask.TheVariants as asks
use Rattle.caf_events.specs.declared.reply.Reply.TheVariants as replies
use Rattle.caf_events.specs.declared.round.Arriving.TheVariants as arrivals
use Rattle.caf_events.specs.declared.round.GatherOp.TheVariants as gathers
use Rattle.checked_tree.specs.declared.data.Object.TheVariants as objects
use Rattle.checked_tree.specs.declared.data.Initial.TheVariants as initials
use Rattle.checked_tree.specs.declared.data.Codimensions.TheVariants as codimensions
use Rattle.checked_tree.specs.declared.data.Variable.{Variable}
use Rattle.checked_tree.specs.declared.action.Combination.TheVariants as combinations
use Rattle.checked_tree.specs.declared.expr.WrittenOrder.TheVariants as orders
use Rattle.checked_tree.specs.Expressions as t
use Rattle.checked_tree.specs.Statements as s
use Rattle.tree_meaning.proofs.SmallTrees.{int, log, var, scalar, array, co1, coscalar, own, num, v, target, one_sub, el, element_of, add, sub, times, eq, me, count, at_image, one, set, put, print, sync, if_then, block, program}
use Rattle.tree_meaning.proofs.SmallAsks.{ints, at, along, reads, writes, arrives, leaves, prints, stops, faults, done, round, left, found}
use Rattle.tree_meaning.proofs.Trying.{said}

-- formats: `print '(a,i4,i2,l3)', 'n', 42, 123, .true.`
some_formats : s.Program
some_formats = record (program [] [] 0 ((1, s.print (s.written 0 []) (s.literal 1 ∷ s.value (num (pos 42)) ∷ s.value (num (pos 123)) ∷ s.value (t.typed (t.logical true) log 0) ∷ [])) ∷ []) 2) { literals = codes "(a,i4,i2,l3)" ∷ codes "n" ∷ [] }

formatted : said some_formats 100 1 1 (done ∷ []) ≡ (prints (codes "n  42**  T"), 1) ∷ (stops, 2) ∷ []
unfolding some_formats digits
formatted = refl

-- `print '(2i3,1x)', 1, 2, 3`: the format is used again on a new line; and a logical under I is a fault
again : said (record (program [] [] 0 ((1, s.print (s.written 0 []) (s.value (num (pos 1)) ∷ s.value (num (pos 2)) ∷ s.value (num (pos 3)) ∷ [])) ∷ []) 2) { literals = codes "(2i3, 1x)" ∷ [] }) 100 1 1 (done ∷ [])
    ≡ (prints (codes "  1  2" ++ (10 ∷ codes "  3")), 1) ∷ (stops, 2) ∷ []
unfolding digits
again = refl

wrong_format : said (record (program [] [] 0 ((1, s.print (s.written 0 []) (s.value (t.typed (t.logical true) log 0) ∷ [])) ∷ []) 2) { literals = codes "(i0)" ∷ [] }) 100 1 1 [] ≡ (faults faulty.Format, 1) ∷ []
wrong_format = refl

-- an array without elements whose other extents come to more than 2 ** 63:
-- `integer :: a(1:0, -2147483647:2147483647, -2147483647:2147483647)`, `a(:, 1, 1) = 1`, `print *, size(a(:, 1, 1))`; a
-- subscript out of bounds is one there too
empty_row : ℕ → t.Designator
empty_row n =
    t.part (objects.Local (own 0)) (t.more_subscripts (t.triplet t.missing t.missing t.missing) (t.more_subscripts (t.element (num (pos 1))) (t.more_subscripts (t.element (num (pos n))) t.no_subscripts))) t.no_selector

no_elements : said
    (program (var int ((pos 1, pos 0) ∷ (negsuc 2147483646, pos 2147483647) ∷ (negsuc 2147483646, pos 2147483647) ∷ []) codimensions.Absent initials.Unstated ∷ []) [] 0
    ((2, s.assign (empty_row 1) int 1 (num (pos 1))) ∷ (3, print (s.value (t.typed (t.intrinsic (t.size (t.typed (t.designator (empty_row 1)) int 1) t.missing orders.Same)) int 0) ∷ []))
    ∷ (4, s.assign (empty_row 2147483648) int 1 (num (pos 1))) ∷ []) 5) 100 1 1 (done ∷ []) ≡ (prints (codes "0"), 3) ∷ (faults faulty.Bounds, 4) ∷ []
unfolding empty_row digits
no_elements = refl

-- a section of a failed image: `integer :: x(4)[*] = 9, v(2), s`, `if (this_image() == 2) fail image`,
-- `sync all (stat=s)`, `v = x(1:4:3)[2, stat=s]`, `print *, v, s`, `end`
nines : Variable
nines = var int ((pos 1, pos 4) ∷ []) co1 (initials.All (values.Int (pos 9)))

section_of : t.Expression → t.Expression → t.OptionalExpression → t.Selector → t.Designator
section_of a b c sel = t.part (objects.Coarray 0) (t.more_subscripts (t.triplet (t.given a) (t.given b) c) t.no_subscripts) sel

to : ℕ → t.OptionalResult
to n = t.result (t.result_variable (own n) t.no_expressions kinds.I4)

whole : ℕ → t.Expression
whole n = t.typed (t.designator (target n)) int 1

failed_section : s.Program
failed_section = program (nines ∷ array int (pos 2) ∷ scalar int ∷ []) (0 ∷ []) 0
    ((2, if_then (eq me (num (pos 2))) 2 s.fail_image) ∷ (3, s.sync_all (to 2))
    ∷ (4, s.assign (target 1) int 1 (t.typed (t.designator (section_of (num (pos 1)) (num (pos 4)) (t.given (num (pos 3))) (t.selector (one (num (pos 2))) t.current (to 2)))) int 1))
    ∷ (5, print (s.value (whole 1) ∷ s.value (v 2) ∷ [])) ∷ []) 6

dead_section : said failed_section 100 1 2 (round 1 ∷ left 6001 ∷ replies.Dead ∷ done ∷ [])
    ≡ (arrives 1 arrivals.Sync, 3) ∷ (leaves 1 1, 3) ∷ (reads 2 (along 0 0 2 (pos 3)), 4) ∷ (prints (codes "0 0 6001"), 5) ∷ (stops, 6) ∷ []
unfolding failed_section nines section_of to whole digits
dead_section = refl

live_section : said failed_section 100 1 2 (round 1 ∷ left 0 ∷ found (ints (9 ∷ 9 ∷ [])) ∷ done ∷ [])
    ≡ (arrives 1 arrivals.Sync, 3) ∷ (leaves 1 1, 3) ∷ (reads 2 (along 0 0 2 (pos 3)), 4) ∷ (prints (codes "9 9 0"), 5) ∷ (stops, 6) ∷ []
unfolding failed_section nines section_of to whole digits
live_section = refl

failing : said failed_section 100 2 2 (done ∷ []) ≡ (asks.Fail, 2) ∷ []
unfolding failed_section nines section_of to whole
failing = refl

-- sections of a coarray: `if (this_image() == 2) x(1:4:3) = 5`, `sync all`, `if (this_image() == 1) v = x(1:2)[2]`,
-- `if (this_image() == 1) print *, v, x(4)[2]`, `end`
sections : s.Program
sections = program (nines ∷ array int (pos 2) ∷ []) (0 ∷ []) 0
    ((2, if_then (eq me (num (pos 2))) 2 (s.assign (section_of (num (pos 1)) (num (pos 4)) (t.given (num (pos 3))) t.no_selector) int 1 (num (pos 5)))) ∷ (3, sync)
    ∷ (4, if_then (eq me (num (pos 1))) 4 (s.assign (target 1) int 1 (t.typed (t.designator (section_of (num (pos 1)) (num (pos 2)) t.missing (t.selector (one (num (pos 2))) t.current t.no_result))) int 1)))
    ∷ (5, if_then (eq me (num (pos 1))) 5 (print (s.value (whole 1) ∷ s.value (t.typed (t.designator (t.part (objects.Coarray 0) (one_sub (num (pos 4))) (t.selector (one (num (pos 2))) t.current t.no_result))) int 0) ∷ [])))
    ∷ []) 6

sections_1 : said sections 100 1 2 (round 1 ∷ left 0 ∷ found (ints (5 ∷ 9 ∷ [])) ∷ found (ints (5 ∷ [])) ∷ done ∷ [])
    ≡ (arrives 1 arrivals.Sync, 3) ∷ (leaves 1 1, 3) ∷ (reads 2 (along 0 0 2 (pos 1)), 4) ∷ (reads 2 (at 0 3), 5) ∷ (prints (codes "5 9 5"), 5) ∷ (stops, 6) ∷ []
unfolding sections nines section_of whole digits
sections_1 = refl

sections_2 : said sections 100 2 2 (done ∷ round 1 ∷ left 0 ∷ []) ≡ (writes 2 (along 0 0 2 (pos 3)) (ints (5 ∷ 5 ∷ [])), 2) ∷ (arrives 1 arrivals.Sync, 3) ∷ (leaves 1 1, 3) ∷ (stops, 6) ∷ []
unfolding sections nines section_of whole
sections_2 = refl

-- a sum over many images: `a = 33554432`, `call co_sum(a, stat=s)`, `if (this_image() == 1) print *, s, a`, `end`
sum_of_all : s.Program
sum_of_all = program (scalar int ∷ scalar int ∷ []) [] 0
    ((2, set 0 (num (pos 33554432))) ∷ (3, s.call_intrinsic (s.combine combinations.Sum (record { variable = target 0; kind = kinds.I4; rank = 0 }) t.missing (to 1)) (record { dummies = 0 ∷ 2 ∷ 0 ∷ 0 ∷ 0 ∷ []; count = 2 }))
    ∷ (4, if_then (eq me (num (pos 1))) 4 (print (s.value (v 1) ∷ s.value (v 0) ∷ []))) ∷ []) 5

too_great_sum : said sum_of_all 100 1 64 (round 1 ∷ replies.Taken (pos 6006) [] ∷ done ∷ [])
    ≡ (asks.Gather (record { 0 = 1 }) gathers.Sum 0 kinds.I4 (ints (33554432 ∷ [])), 3) ∷ (asks.Take (record { 0 = 1 }) 1, 3) ∷ (prints (codes "6006 33554432"), 4) ∷ (stops, 5) ∷ []
unfolding sum_of_all to digits
too_great_sum = refl

good_sum : said sum_of_all 100 1 64 (round 1 ∷ replies.Taken (pos 0) (ints (2147483647 ∷ [])) ∷ done ∷ [])
    ≡ (asks.Gather (record { 0 = 1 }) gathers.Sum 0 kinds.I4 (ints (33554432 ∷ [])), 3) ∷ (asks.Take (record { 0 = 1 }) 1, 3) ∷ (prints (codes "0 2147483647"), 4) ∷ (stops, 5) ∷ []
unfolding sum_of_all to digits
good_sum = refl

-- the ring, cut down to four cells and one exchange, on image 1 of 2
do_over : ℕ → t.Expression → t.Expression → t.OptionalExpression → ℕ → List (ℕ × s.StatementForm) → s.StatementForm
do_over n a b c h body = s.do_counted (own n) kinds.I4 a b c h (block body)

ring : s.Program
ring = program (array int (pos 4) ∷ coscalar int ∷ scalar int ∷ scalar int ∷ scalar int ∷ scalar int ∷ scalar int ∷ scalar int ∷ scalar int ∷ []) (1 ∷ []) 2
    ((4, set 2 me) ∷ (5, set 3 count) ∷ (6, set 4 (sub (v 2) (num (pos 1)))) ∷ (7, if_then (eq (v 4) (num (pos 0))) 7 (set 4 (v 3)))
    ∷ (8, do_over 6 (num (pos 1)) (num (pos 4)) t.missing 0 ((9, s.assign (el 0 (v 6)) int 0 (add (times (sub (v 2) (num (pos 1))) (num (pos 4))) (v 6))) ∷ []))
    ∷ (
      11,
      do_over 5 (num (pos 1)) (num (pos 1)) t.missing 0
          ((12, put 0 (element_of 0 (num (pos 4)))) ∷ (13, sync) ∷ (14, set 8 (at_image 0 (one (v 4)))) ∷ (15, sync)
          ∷ (16, do_over 6 (num (pos 4)) (num (pos 2)) (t.given (t.typed (t.minus (num (pos 1))) int 0)) 1 ((17, s.assign (el 0 (v 6)) int 0 (element_of 0 (sub (v 6) (num (pos 1))))) ∷ []))
          ∷ (19, s.assign (el 0 (num (pos 1))) int 0 (v 8)) ∷ []),
    )
    ∷ (21, set 7 (num (pos 0)))
    ∷ (22, do_over 6 (num (pos 1)) (num (pos 4)) t.missing 0 ((23, set 7 (add (v 7) (element_of 0 (v 6)))) ∷ []))
    ∷ (25, set 8 (v 7))
    ∷ (26, s.call_intrinsic (s.combine combinations.Sum (record { variable = target 8; kind = kinds.I4; rank = 0 }) t.missing t.no_result) (record { dummies = 0 ∷ 0 ∷ 0 ∷ 0 ∷ 0 ∷ []; count = 1 }))
    ∷ (27, if_then (eq (v 2) (num (pos 1))) 27 (print (s.value (v 7) ∷ s.value (v 8) ∷ []))) ∷ []) 28

-- u is 1 2 3 4 and becomes 8 1 2 3, which sum to 14; the other image's are 5 6 7 8, then 4 5 6 7, and the sum of both
-- is 36
exchange : said ring 1000 1 2 (done ∷ round 1 ∷ left 0 ∷ found (ints (8 ∷ [])) ∷ round 2 ∷ left 0 ∷ round 1 ∷ replies.Taken (pos 0) (ints (36 ∷ [])) ∷ done ∷ [])
    ≡ (writes 1 (at 0 0) (ints (4 ∷ [])), 12) ∷ (arrives 1 arrivals.Sync, 13) ∷ (leaves 1 1, 13) ∷ (reads 2 (at 0 0), 14) ∷ (arrives 1 arrivals.Sync, 15) ∷ (leaves 1 2, 15)
    ∷ (asks.Gather (record { 0 = 1 }) gathers.Sum 0 kinds.I4 (ints (14 ∷ [])), 26) ∷ (asks.Take (record { 0 = 1 }) 1, 26) ∷ (prints (codes "14 36"), 27) ∷ (stops, 28) ∷ []
unfolding ring do_over digits
exchange = refl

-- the counts: lines 4 to 7 and the action of line 7 make 5, the loop of line 8 makes 1 + 4 + 4, line 11 and its
-- iteration 2, line 12 one: 17; line 13 is the 18th
few_counts : said ring 17 1 2 (done ∷ []) ≡ (writes 1 (at 0 0) (ints (4 ∷ [])), 12) ∷ (asks.LimitStatements 18, 13) ∷ []
unfolding ring do_over
few_counts = refl
