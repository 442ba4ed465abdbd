-- What programs with teams, locks and events say by the direct definition, worked out by hand.
use Rattle.std.proofs.Common.{◌≡◌, refl, ℕ, ℤ, pos, List, [], ◌∷◌, codes}
use Rattle.std.specs.Fmt.{digits}
use Rattle.caf_base.specs.declared.value.Kind.TheVariants as kinds
use Rattle.caf_events.specs.declared.ask.Ask.{Ask}
use Rattle.caf_events.specs.declared.ask.Ask.TheVariants as asked
use Rattle.caf_events.specs.declared.fault.FaultKind.TheVariants as faulty
use Rattle.caf_events.specs.declared.reply.Reply.{Reply}
use Rattle.caf_events.specs.declared.reply.Reply.TheVariants as replies
use Rattle.caf_events.specs.declared.round.Arriving.TheVariants as arrivals
use Rattle.trace_theory.specs.Machines.{Move, goes, asks, over}
use Rattle.checked_tree.specs.declared.data.DataType.TheVariants as types
use Rattle.checked_tree.specs.declared.data.Object.TheVariants as objects
use Rattle.checked_tree.specs.declared.expr.LogicalOperator.TheVariants as logics
use Rattle.checked_tree.specs.declared.expr.WrittenOrder.TheVariants as orders
use Rattle.checked_tree.specs.Expressions as t
use Rattle.checked_tree.specs.Statements as s
use Rattle.image_acts.specs.Acts.{here}
use Rattle.tree_meaning.specs.Start.{first_core}
use Rattle.tree_meaning.specs.Forms.{environment_of}
use Rattle.tree_meaning.proofs.SmallTrees.{int, log, scalar, array, coscalar, own, num, v, target, co_target, sub, eq, me, at_image, one, put, print, sync, if_then, block, program}
use Rattle.tree_meaning.proofs.SmallAsks.{ints, at, reads, writes, arrives, leaves, prints, stops, error_stops, faults, done, round, left, status, found}
use Rattle.direct_meaning.specs.States.{state_of}
use Rattle.direct_meaning.specs.Outcomes.{Outcome, nothing_said}
use Rattle.direct_meaning.specs.Statements.{whole, course_step}

abbrev after : {X : Type 0} → List Reply → Move (Outcome X) Ask Reply → List (Ask × ℕ)
after rs (goes c) = []
after [] (asks a l k) = (a, l) ∷ []
after (r ∷ rs) (asks a l k) = (a, l) ∷ after rs (course_step (k r))
after rs over = []

-- the first asks of an image of a program without procedures
abbrev said : s.Program → (limit me images : ℕ) → List Reply → List (Ask × ℕ)
said p limit me n rs = after rs (course_step (whole limit (environment_of p here p.main) (λ k xs. nothing_said) p.main.statements p.end_line 1 (state_of (first_core p me n))))

to : ℕ → t.OptionalResult
to n = t.result (t.result_variable (own n) t.no_expressions kinds.I4)

team_var : ℕ → t.Expression
team_var n = t.typed (t.designator (target n)) types.Team 0

both : t.Expression → t.Expression → t.Expression
both a b = t.typed (t.logic logics.And a b) log 0

-- `form team (2 - mod(this_image(), 2), t)`, `change team (t, stat=s)`, `if (team_number() == 2 .and. this_image() == 1)
-- fail image`, `sync all (stat=s)`, `print *, s`, `end team (stat=s)` on image 4 of 6
two_teams : s.Program
two_teams = program (scalar types.Team ∷ scalar int ∷ []) [] 0
    ((4, s.form_team (sub (num (pos 2)) (t.typed (t.intrinsic (t.remainder me (num (pos 2)) orders.Same)) int 0)) (own 0) t.missing t.no_result orders.Same)
    ∷ (
      5,
      s.change_team (team_var 0) (to 1) (block
          ((6, if_then (both (eq (t.typed (t.intrinsic (t.number_of_team t.missing)) int 0) (num (pos 2))) (eq me (num (pos 1)))) 6 s.fail_image)
          ∷ (7, s.sync_all (to 1)) ∷ (8, print (s.value (v 1) ∷ [])) ∷ [])) (to 1) 9,
    ) ∷ []) 10

-- the teams that the round makes: 2 with number 1 and images 1 3 5, and 3 with number 2 and images 2 4 6
formed : Reply
formed = replies.Left (pos 0)
    (record { team = record { 0 = 2 }; number = pos 1; members = record { 0 = 1 } ∷ record { 0 = 3 } ∷ record { 0 = 5 } ∷ [] }
    ∷ record { team = record { 0 = 3 }; number = pos 2; members = record { 0 = 2 } ∷ record { 0 = 4 } ∷ record { 0 = 6 } ∷ [] } ∷ [])

even_team : said two_teams 100 4 6 (round 1 ∷ formed ∷ round 1 ∷ left 0 ∷ round 2 ∷ left 6001 ∷ done ∷ round 3 ∷ left 6001 ∷ [])
    ≡ (arrives 1 (arrivals.Form (pos 2) (pos 0)), 4) ∷ (leaves 1 1, 4) ∷ (arrives 3 arrivals.Change, 5) ∷ (leaves 3 1, 5) ∷ (arrives 3 arrivals.Sync, 7) ∷ (leaves 3 2, 7)
    ∷ (prints (codes "6001"), 8) ∷ (arrives 3 arrivals.End, 9) ∷ (leaves 3 3, 9) ∷ (stops, 10) ∷ []
unfolding two_teams formed to team_var both digits
even_team = refl

-- image 2 has index 1 in that team, and fails
fails_inside : said two_teams 100 2 6 (round 1 ∷ formed ∷ round 1 ∷ left 0 ∷ done ∷ [])
    ≡ (arrives 1 (arrivals.Form (pos 2) (pos 0)), 4) ∷ (leaves 1 1, 4) ∷ (arrives 3 arrivals.Change, 5) ∷ (leaves 3 1, 5) ∷ (asked.Fail, 6) ∷ []
unfolding two_teams formed to team_var both
fails_inside = refl

-- with the status 6006 and without STAT= no team is known, and error termination starts
not_formed : said two_teams 100 4 6 (round 1 ∷ left 6006 ∷ done ∷ []) ≡ (arrives 1 (arrivals.Form (pos 2) (pos 0)), 4) ∷ (leaves 1 1, 4) ∷ (error_stops 6006, 4) ∷ []
unfolding two_teams to team_var both
not_formed = refl

-- CHANGE TEAM and SYNC TEAM of a team variable that was never set; SYNC TEAM of a team that was formed here
no_team : said (program (scalar types.Team ∷ []) [] 0 ((1, s.change_team (team_var 0) t.no_result s.no_statements t.no_result 2) ∷ []) 3) 100 1 2 [] ≡ (faults faulty.NoTeam, 1) ∷ []
unfolding team_var
no_team = refl

no_team_to_sync : said (program (scalar types.Team ∷ []) [] 0 ((1, s.sync_team (team_var 0) t.no_result) ∷ []) 3) 100 1 2 [] ≡ (faults faulty.NoTeam, 1) ∷ []
unfolding team_var
no_team_to_sync = refl

child_synced : said (program (scalar types.Team ∷ []) [] 0
    ((1, s.form_team (num (pos 2)) (own 0) (t.given (num (pos 1))) t.no_result orders.Same) ∷ (2, s.sync_team (team_var 0) t.no_result) ∷ []) 3) 100 4 6
    (round 1 ∷ formed ∷ round 1 ∷ left 0 ∷ [])
    ≡ (arrives 1 (arrivals.Form (pos 2) (pos 1)), 1) ∷ (leaves 1 1, 1) ∷ (arrives 3 arrivals.Sync, 2) ∷ (leaves 3 1, 2) ∷ (stops, 3) ∷ []
unfolding team_var formed
child_synced = refl

-- on image 1: `lock (l[1])`, `lock (l[1], stat=s)`, `print *, s`, `sync all`; on image 2 `unlock (l[1], stat=s)`
lock_at_1 : t.Designator
lock_at_1 = t.part (objects.Coarray 0) t.no_subscripts (t.selector (one (num (pos 1))) t.current t.no_result)

two_locks : s.Program
two_locks = program (coscalar types.Lock ∷ scalar int ∷ []) (0 ∷ []) 0
    ((4, s.if (eq me (num (pos 1))) (block ((5, s.lock lock_at_1 t.no_result t.no_result orders.Same) ∷ (6, s.lock lock_at_1 t.no_result (to 1) orders.Same) ∷ (7, print (s.value (v 1) ∷ [])) ∷ [])) s.no_else_ifs s.no_statements)
    ∷ (9, sync) ∷ (10, s.if (eq me (num (pos 2))) (block ((11, s.unlock lock_at_1 (to 1)) ∷ (12, print (s.value (v 1) ∷ [])) ∷ [])) s.no_else_ifs s.no_statements) ∷ []) 14

locked_twice : said two_locks 100 1 2 (status 0 ∷ status 6003 ∷ done ∷ round 1 ∷ left 0 ∷ [])
    ≡ (asked.Lock (record { 0 = 1 }) (at 0 0), 5) ∷ (asked.Lock (record { 0 = 1 }) (at 0 0), 6) ∷ (prints (codes "6003"), 7) ∷ (arrives 1 arrivals.Sync, 9) ∷ (leaves 1 1, 9) ∷ (stops, 14) ∷ []
unfolding two_locks lock_at_1 to digits
locked_twice = refl

unlocked_there : said two_locks 100 2 2 (round 1 ∷ left 0 ∷ status 6005 ∷ done ∷ [])
    ≡ (arrives 1 arrivals.Sync, 9) ∷ (leaves 1 1, 9) ∷ (asked.Unlock (record { 0 = 1 }) (at 0 0), 11) ∷ (prints (codes "6005"), 12) ∷ (stops, 14) ∷ []
unfolding two_locks lock_at_1 to digits
unlocked_there = refl

-- LOCK without STAT= goes on with 6002 and not with 6001
taken_over : said two_locks 100 1 2 (status 6002 ∷ []) ≡ (asked.Lock (record { 0 = 1 }) (at 0 0), 5) ∷ (asked.Lock (record { 0 = 1 }) (at 0 0), 6) ∷ []
unfolding two_locks lock_at_1 to
taken_over = refl

marked : said two_locks 100 1 2 (status 6001 ∷ done ∷ []) ≡ (asked.Lock (record { 0 = 1 }) (at 0 0), 5) ∷ (error_stops 6001, 5) ∷ []
unfolding two_locks lock_at_1 to
marked = refl

-- `lock (l[1, stat=u(2)], stat=u(3), acquired_lock=b)`, `print *, u, b` with the reply `busy`, and with 6002
to_element : ℕ → ℤ → t.OptionalResult
to_element n z = t.result (t.result_variable (own n) (one (num z)) kinds.I4)

tried : s.Program
tried = program (coscalar types.Lock ∷ array int (pos 3) ∷ scalar log ∷ []) (0 ∷ []) 0
    ((1, s.lock (t.part (objects.Coarray 0) t.no_subscripts (t.selector (one (num (pos 1))) t.current (to_element 1 (pos 2)))) (t.result (t.result_variable (own 2) t.no_expressions kinds.L4)) (to_element 1 (pos 3)) orders.Reversed)
    ∷ (2, print (s.value (t.typed (t.designator (target 1)) int 1) ∷ s.value (t.typed (t.designator (target 2)) log 0) ∷ [])) ∷ []) 3

busy : said tried 100 2 2 (replies.Busy ∷ done ∷ []) ≡ (asked.TryLock (record { 0 = 1 }) (at 0 0), 1) ∷ (prints (codes "0 0 0 F"), 2) ∷ (stops, 3) ∷ []
unfolding tried to_element digits
busy = refl

acquired_with_6002 : said tried 100 2 2 (status 6002 ∷ done ∷ []) ≡ (asked.TryLock (record { 0 = 1 }) (at 0 0), 1) ∷ (prints (codes "0 0 6002 T"), 2) ∷ (stops, 3) ∷ []
unfolding tried to_element digits
acquired_with_6002 = refl

on_marked_memory : said tried 100 2 2 (status 6001 ∷ done ∷ []) ≡ (asked.TryLock (record { 0 = 1 }) (at 0 0), 1) ∷ (prints (codes "0 6001 6001 F"), 2) ∷ (stops, 3) ∷ []
unfolding tried to_element digits
on_marked_memory = refl

-- on images 1 and 3: `d = 7`, `event post (e[1])`; `event wait (e, until_count=2)`, `print *, d[3]`
two_posts : s.Program
two_posts = program (coscalar types.Event ∷ coscalar int ∷ []) (0 ∷ 1 ∷ []) 0
    ((6, s.if (eq me (num (pos 3))) (block ((7, put 1 (num (pos 7))) ∷ (8, s.event_post lock_at_1 t.no_result) ∷ [])) s.no_else_ifs s.no_statements)
    ∷ (10, s.if (eq me (num (pos 1))) (block ((11, s.event_wait (co_target 0) (t.given (num (pos 2))) t.no_result orders.Same) ∷ (12, print (s.value (at_image 1 (one (num (pos 3)))) ∷ [])) ∷ [])) s.no_else_ifs s.no_statements) ∷ []) 14

posts : said two_posts 100 3 3 (done ∷ status 0 ∷ []) ≡ (writes 3 (at 1 0) (ints (7 ∷ [])), 7) ∷ (asked.Post (record { 0 = 1 }) (at 0 0), 8) ∷ (stops, 14) ∷ []
unfolding two_posts lock_at_1
posts = refl

waits : said two_posts 100 1 3 (status 0 ∷ found (ints (7 ∷ [])) ∷ done ∷ []) ≡ (asked.Wait (record { 0 = 1 }) (at 0 0) 2, 11) ∷ (reads 3 (at 1 0), 12) ∷ (prints (codes "7"), 12) ∷ (stops, 14) ∷ []
unfolding two_posts lock_at_1 digits
waits = refl
