-- Selectors, teams inside teams and arrays of rank two: what the walks of small programs ask, worked out by hand.
use Rattle.std.proofs.Common.{◌≡◌, refl, ℕ, ℤ, pos, negsuc, List, [], ◌∷◌, map, codes}
use Rattle.std.specs.Fmt.{digits}
use Rattle.caf_base.specs.declared.place.ImageNo.{ImageNo}
use Rattle.caf_base.specs.declared.value.Kind.{Kind}
use Rattle.caf_base.specs.declared.value.Kind.TheVariants as kinds
use Rattle.caf_events.specs.declared.fault.FaultKind.TheVariants as faulty
use Rattle.caf_events.specs.declared.ask.Ask.TheVariants as asks
use Rattle.caf_events.specs.declared.reply.Reply.{Reply}
use Rattle.caf_events.specs.declared.reply.Reply.TheVariants as replies
use Rattle.caf_events.specs.declared.round.Arriving.TheVariants as arrivals
use Rattle.checked_tree.specs.declared.data.DataType.TheVariants as types
use Rattle.checked_tree.specs.declared.data.Object.TheVariants as objects
use Rattle.checked_tree.specs.declared.data.Codimensions.TheVariants as codimensions
use Rattle.checked_tree.specs.declared.data.Initial.TheVariants as initials
use Rattle.checked_tree.specs.declared.expr.LogicalOperator.TheVariants as logics
use Rattle.checked_tree.specs.declared.expr.WrittenOrder.TheVariants as orders
use Rattle.checked_tree.specs.Expressions as t
use Rattle.checked_tree.specs.Statements as s
use Rattle.tree_meaning.proofs.SmallTrees.{int, log, var, scalar, co1, coscalar, own, num, target, eq, me, at_image, one, print, block, program}
use Rattle.tree_meaning.proofs.SmallAsks.{ints, at, reads, writes, arrives, leaves, prints, stops, faults, done, round, left, found}
use Rattle.tree_meaning.proofs.Trying.{said}

-- the left operand of .AND. is evaluated first: `b = x[2] == 1 .and. y[1] == 1`
left_first : said (program (coscalar int ∷ coscalar int ∷ scalar log ∷ []) (0 ∷ 1 ∷ []) 0
    ((2, s.assign (target 2) log 0 (t.typed (t.logic logics.And (eq (at_image 0 (one (num (pos 2)))) (num (pos 1))) (eq (at_image 1 (one (num (pos 1)))) (num (pos 1)))) log 0)) ∷ []) 3) 100 1 2 (found (ints (0 ∷ [])) ∷ found (ints (1 ∷ [])) ∷ [])
    ≡ (reads 2 (at 0 0), 2) ∷ (reads 1 (at 1 0), 2) ∷ (stops, 3) ∷ []
left_first = refl

-- `integer :: v(2,3), x(2,3)[*]`: `v(2,:) = 5`, `v(1,3:2:-1) = x(2,1:3:2)[1]`, `x(:,2) = v(:,3)`, `print *, v`
table : t.Subscripts → ℕ → t.Expression
table ss r = t.typed (t.designator (t.part (objects.Local (own 0)) ss t.no_selector)) int r

dims : List (ℤ × ℤ)
dims = (pos 1, pos 2) ∷ (pos 1, pos 3) ∷ []

two_subs : t.Subscript → t.Subscript → t.Subscripts
two_subs a b = t.more_subscripts a (t.more_subscripts b t.no_subscripts)

all : t.Subscript
all = t.triplet t.missing t.missing t.missing

stepped : ℤ → ℤ → ℤ → t.Subscript
stepped a b c = t.triplet (t.given (num a)) (t.given (num b)) (t.given (num c))

rank_two : s.Program
rank_two = program (var int dims codimensions.Absent initials.Unstated ∷ var int dims co1 initials.Unstated ∷ []) (1 ∷ []) 0
    ((2, s.assign (t.part (objects.Local (own 0)) (two_subs (t.element (num (pos 2))) all) t.no_selector) int 1 (num (pos 5)))
    ∷ (
      3,
      s.assign (t.part (objects.Local (own 0)) (two_subs (t.element (num (pos 1))) (stepped (pos 3) (pos 2) (negsuc 0))) t.no_selector) int 1
          (t.typed (t.designator (t.part (objects.Coarray 0) (two_subs (t.element (num (pos 2))) (stepped (pos 1) (pos 3) (pos 2))) (t.selector (one (num (pos 1))) t.current t.no_result))) int 1),
    )
    ∷ (4, s.assign (t.part (objects.Coarray 0) (two_subs all (t.element (num (pos 2)))) t.no_selector) int 1 (table (two_subs all (t.element (num (pos 3)))) 1))
    ∷ (5, print (s.value (table t.no_subscripts 2) ∷ [])) ∷ []) 6

-- the elements of v by columns are 0 5, 9 5, 8 5
columns : said rank_two 100 1 1 (found (ints (8 ∷ 9 ∷ [])) ∷ done ∷ done ∷ [])
    ≡ (reads 1 (record { coarray = 0; start = 1; dims = (2, pos 4) ∷ [] }), 3) ∷ (writes 1 (record { coarray = 0; start = 2; dims = (2, pos 1) ∷ [] }) (ints (8 ∷ 5 ∷ [])), 4)
    ∷ (prints (codes "0 5 9 5 8 5"), 5) ∷ (stops, 6) ∷ []
unfolding rank_two table dims two_subs all stepped digits
columns = refl

-- Teams inside a team, image 2 of 4: the initial team forms 2 (images 1 2) and 3 (images 3 4), team 2 forms 4 (image 2)
-- and 5 (image 1). In team 4: `x[1]` is this image's, `x[1, team=t]` image 1's, `x[1, team_number=8]` image 1's by the
-- sibling, `x[2, team=get_team(1)]` image 2's; team number 1 is no sibling's.
team_in : ℕ → t.Expression
team_in n = t.typed (t.designator (target n)) types.Team 0

by : t.SelectedTeam → ℤ → t.Expression
by which i = t.typed (t.designator (t.part (objects.Coarray 0) t.no_subscripts (t.selector (one (num i)) which t.no_result))) int 0

nested : s.Program
nested = program (coscalar int ∷ scalar types.Team ∷ scalar types.Team ∷ []) (0 ∷ []) 0
    ((2, s.form_team (num (pos 1)) (own 1) t.missing t.no_result orders.Same)
    ∷ (
      3,
      s.change_team (team_in 1) t.no_result (block
          ((4, s.form_team (num (pos 9)) (own 2) t.missing t.no_result orders.Same)
          ∷ (
            5,
            s.change_team (team_in 2) t.no_result (block
                ((
                  6,
                  print (s.value (by t.current (pos 1)) ∷ s.value (by (t.team (team_in 1)) (pos 1)) ∷ s.value (by (t.team_number (num (pos 8))) (pos 1))
                      ∷ s.value (by (t.team (t.typed (t.intrinsic (t.get_team (t.given (num (pos 1))))) types.Team 0)) (pos 2)) ∷ s.value (t.typed (t.intrinsic (t.number_of_team t.missing)) int 0) ∷ s.value me ∷ []),
                )
                ∷ (7, print (s.value (by (t.team_number (num (pos 1))) (pos 1)) ∷ [])) ∷ [])) t.no_result 8,
          ) ∷ [])) t.no_result 9,
    ) ∷ []) 10

abbrev images : List ℕ → List ImageNo
images ns = map (λ n. record { 0 = n }) ns

made : ℕ → ℤ → List ℕ → ℕ → ℤ → List ℕ → Reply
made a na is b nb js = replies.Left (pos 0) (record { team = record { 0 = a }; number = na; members = images is } ∷ record { team = record { 0 = b }; number = nb; members = images js } ∷ [])

in_nested_team : said nested 100 2 4
    (round 1 ∷ made 2 (pos 1) (1 ∷ 2 ∷ []) 3 (pos 2) (3 ∷ 4 ∷ []) ∷ round 1 ∷ left 0 ∷ round 2 ∷ made 5 (pos 8) (1 ∷ []) 4 (pos 9) (2 ∷ []) ∷ round 1 ∷ left 0
    ∷ found (ints (20 ∷ [])) ∷ found (ints (10 ∷ [])) ∷ found (ints (10 ∷ [])) ∷ found (ints (20 ∷ [])) ∷ done ∷ [])
    ≡ (arrives 1 (arrivals.Form (pos 1) (pos 0)), 2) ∷ (leaves 1 1, 2) ∷ (arrives 2 arrivals.Change, 3) ∷ (leaves 2 1, 3)
    ∷ (arrives 2 (arrivals.Form (pos 9) (pos 0)), 4) ∷ (leaves 2 2, 4) ∷ (arrives 4 arrivals.Change, 5) ∷ (leaves 4 1, 5)
    ∷ (reads 2 (at 0 0), 6) ∷ (reads 1 (at 0 0), 6) ∷ (reads 1 (at 0 0), 6) ∷ (reads 2 (at 0 0), 6) ∷ (prints (codes "20 10 10 20 9 1"), 6) ∷ (faults faulty.NoTeam, 7) ∷ []
unfolding nested made team_in by digits
in_nested_team = refl

-- a coarray that isn't allocated at the image: the reply is a fault, and STAT= isn't set
absent_there : said (program (coscalar int ∷ []) (0 ∷ []) 0 ((1, print (s.value (at_image 0 (one (num (pos 2)))) ∷ [])) ∷ []) 2) 100 1 2 (replies.Absent ∷ []) ≡ (reads 2 (at 0 0), 1) ∷ (faults faulty.NotAllocated, 1) ∷ []
absent_there = refl

-- `lock (l[1, stat=u(1)], stat=u(3), acquired_lock=b(2))`, `print *, u, b`: three places of elements, and 6003
element_of : ℕ → ℤ → Kind → t.OptionalResult
element_of n z k = t.result (t.result_variable (own n) (one (num z)) k)

three_places : s.Program
three_places = program (coscalar types.Lock ∷ var int ((pos 1, pos 3) ∷ []) codimensions.Absent initials.Unstated ∷ var log ((pos 1, pos 2) ∷ []) codimensions.Absent initials.Unstated ∷ []) (0 ∷ []) 0
    ((1, s.lock (t.part (objects.Coarray 0) t.no_subscripts (t.selector (one (num (pos 1))) t.current (element_of 1 (pos 1) kinds.I4))) (element_of 2 (pos 2) kinds.L4) (element_of 1 (pos 3) kinds.I4) orders.Reversed)
    ∷ (2, print (s.value (t.typed (t.designator (target 1)) int 1) ∷ s.value (t.typed (t.designator (target 2)) log 1) ∷ [])) ∷ []) 3

held_already : said three_places 100 1 1 (replies.Number (pos 6003) ∷ done ∷ []) ≡ (asks.TryLock (record { 0 = 1 }) (at 0 0), 1) ∷ (prints (codes "0 0 6003 F F"), 2) ∷ (stops, 3) ∷ []
unfolding three_places element_of digits
held_already = refl

got : said three_places 100 1 1 (replies.Number (pos 0) ∷ done ∷ []) ≡ (asks.TryLock (record { 0 = 1 }) (at 0 0), 1) ∷ (prints (codes "0 0 0 F T"), 2) ∷ (stops, 3) ∷ []
unfolding three_places element_of digits
got = refl
