-- Statements, blocks and constructs (ISO/IEC 1539-1:2018, 11.1), by recursion over the tree.
use Rattle.std.proofs.Common.{◌≡◌, refl, ap, sym, subst, ◌∙◌, ℕ, suc, ◌+◌, ◌*◌, ◌-◌, ◌≤◌, ◌<◌, ℤ, pos, cond, List, [], ◌∷◌, length, length-set, Some, arith, le_refl}
use Rattle.caf_base.specs.Arithmetic.{is_true, truth}
use Rattle.caf_events.specs.declared.ask.Ask.{Ask}
use Rattle.caf_events.specs.declared.ask.Ask.TheVariants as asking
use Rattle.walk_theory.specs.Language.{by_test, holds, fails}
use Rattle.walk_theory.specs.Syntax.{Parts, end_parts, Branches, Steps, stop, branch}
use Rattle.walk_theory.specs.Walks.{Task, Loop, Config, run, eval, tally, decide, pick, again, iterate, to, form_tasks}
use Rattle.checked_tree.specs.declared.statement.CaseRange.{CaseRange}
use Rattle.checked_tree.specs.Expressions as t
use Rattle.checked_tree.specs.Statements as s
use Rattle.image_acts.specs.Acts as a
use Rattle.image_acts.specs.Acts.{Act, here, variable}
use Rattle.image_acts.specs.Core.{Core, pushed}
use Rattle.image_acts.specs.Frames.{cell_in, with_cell}
use Rattle.image_acts.specs.Operate.Printing.{open_portions}
use Rattle.tree_meaning.specs.Environment.{Environment, scope_of, hidden_cell}
use Rattle.tree_meaning.specs.Sequences.{◌▸◌, doing, pushing, released}
use Rattle.tree_meaning.specs.Expressions.{expression}
use Rattle.tree_meaning.specs.ImageControl as control
use Rattle.tree_meaning.specs.Forms as walk
use Rattle.tree_meaning.specs.Forms.{steps, in_ranges, do_start}
use Rattle.direct_meaning.specs.States.{State}
use Rattle.direct_meaning.specs.Outcomes.{Outcome, done, faults as faulty, asks as asked, over, unsaid, and_then, Does, giving, ◌▹◌, asking as asking_for}
use Rattle.direct_meaning.specs.Told.{Says, ComesBy}
use Rattle.direct_meaning.specs.Values.{Value}
use Rattle.direct_meaning.specs.Expressions.{Passed}
use Rattle.direct_meaning.specs.Statements as meaning
use Rattle.direct_meaning.specs.Synchronizing.{ending}
use Rattle.direct_meaning.specs.Statements.{Control, onward, exits, cycles, returns, Executes, sync_all, sync_memory, sync_images, sync_team, locked, unlocked, posted, waited, enter_critical, form_team, change_team, end_team, simply, num, or_number, in_some, assignment, output, do_parameters, counted_loop, while_loop, form, block, else_ifs, cases, followed}
use Rattle.direct_meaning.proofs.Walks.{says}
use Rattle.direct_laws.specs.Laws.{IsCovered}
use Rattle.direct_output.specs.Laws.{literals_in}
use Rattle.direct_hidden.specs.Laws.{AreBlind}
use Rattle.direct_hidden.proofs.Blind.{b_then, b_giving}
use Rattle.direct_hidden.proofs.BlindStatements.{b_ending, b_released, b_or_number, b_assignment, b_output}
use Rattle.direct_walks.specs.Walking.{Beside, core_of, behind, Walks}
use Rattle.direct_walks.specs.Ready.{Keeps, IsReady, GoesOn}
use Rattle.direct_walks.proofs.Walking.{Only, by_step, by_more, walks_before, walks_then, walks_as, counted_walks, chosen_walks}
use Rattle.direct_walks.proofs.Cells.{with_kept, hidden_get, hidden_set, set_same, set_other, keeps_all, ready_beside}
use Rattle.direct_walks.proofs.Cases.{true_back, ranges_told}
use Rattle.direct_walks.proofs.Loops.{goes_later, goes_here, followed_walks, the_loop, while_walks}
use Rattle.direct_control.proofs.Walking.{simply_walks}
use Rattle.direct_control.proofs.Blind.{b_sync_all, b_sync_memory, b_sync_images, b_sync_team, b_critical}
use Rattle.direct_control.proofs.Performing.{sync_all_performs, sync_memory_performs, sync_images_performs, sync_team_performs, critical_performs}
use Rattle.direct_locks.proofs.Locking.{b_locked, b_tried, b_unlocked, b_posted, b_waited, lock_performs, try_performs, unlock_performs, post_performs, wait_performs}
use Rattle.direct_teams.proofs.Teams.{b_change_team, b_end_team, change_performs, end_performs}
use Rattle.direct_forming.proofs.Forming.{b_form_team, form_performs}
use Rattle.direct_flow.proofs.Around.{around_walks, exit_walks}
use Rattle.direct_flow.specs.Laws.{IsStatement, IsBlock, AreElseIfs, AreCases, BlockLaw}
use Rattle.direct_flow.proofs.Heads.{Onward, Tells, condition_walks, simple_walks, assign_only, print_only}
use Rattle.direct_flow.proofs.Counting.{next_value, do_loop, Started, start_walks, iterations_walk}

-- the last ask is never done
ended_only : (P : Control × ℕ → State → Type 0) (l : ℕ) (g : ℤ → Ask) (m : Outcome (ℤ × State))
    → Only P (and_then m (λ p. ending (g p.0) l p.1))
ended_only P l g (done p) = λ r. tt
ended_only P l g (faulty k j z) = tt
ended_only P l g (asked q j z f) = λ r. ended_only P l g (f r)
ended_only P l g (over z) = tt
ended_only P l g unsaid = tt

module _ (procedures : ℕ → Steps Act) (limit : ℕ) (e : Environment) (calls : ℕ → List Passed → Does Value) (blind : AreBlind calls)
    (most lines : ℕ) where
  abbrev On : ℕ → List (Task Act) → Core → Beside → ℕ → Control × ℕ → State → Config Act Core → Type 0
  On h ts c b n q z d = GoesOn e most lines h ts c b n q z d

  abbrev Ready : Core → Beside → State → Type 0
  Ready c b z = IsReady e most lines c b z

  abbrev Does' : ℕ → List (Task Act) → Core → Beside → ℕ → Outcome ((Control × ℕ) × State) → Config Act Core → Type 0
  Does' h ts c b n m d = Walks procedures limit (On h ts c b n) m d

  -- a condition at its line, and what it chooses
  choice_walks : (h l j n : ℕ) (ts : List (Task Act)) (c : Core) (b : Beside) (z : State) (x : t.Expression) (body : Steps Act)
      (others : Branches Act) (so other : Does (Control × ℕ)) → IsCovered x → Ready c b z
      → ((y : State) → Ready c b y → Does' h ts c b n (so l y) (to (run body ∷ ts) (core_of c b y) n))
      → ((y : State) → Ready c b y → Does' h ts c b n (other l y) (to (decide others ∷ ts) (core_of c b y) n))
      → Does' h ts c b n (and_then (meaning.released (num limit e calls x) j z) (λ v. cond (is_true v.0) so other l v.1))
      (to (decide (branch j (released (expression e x)) body others) ∷ ts) (core_of c b z) n)
  choice_walks h l j n ts c b z x body others so other covered ready then' else' =
      let P : Parts Act = released (expression e x) in
      let us : List (Task Act) = pick j body others ∷ ts in
      let M : Outcome (ℤ × State) = meaning.released (num limit e calls x) j z in
      let K : ℤ × State → Outcome ((Control × ℕ) × State) = λ v. cond (is_true v.0) so other l v.1 in
      walks_before procedures limit (On h ts c b n) (and_then M K) (to (decide (branch j P body others) ∷ ts) (core_of c b z) n)
      (to (eval j P ∷ us) (core_of c b z) n)
      (by_step procedures limit (to (decide (branch j P body others) ∷ ts) (core_of c b z) n) (to (eval j P ∷ us) (core_of c b z) n) refl)
      (walks_then procedures limit (Tells limit e calls procedures blind most lines us c b n) (On h ts c b n) M K
      (to (eval j P ∷ us) (core_of c b z) n) (condition_walks limit e calls procedures blind most lines x j n us c b z covered ready)
      (λ v y d k. subst (Does' h ts c b n (cond (is_true v) so other l y)) (sym k.0)
      (chosen_walks procedures limit (On h ts c b n) (is_true v) so other l y (to us (pushed v (core_of c b y)) n) (core_of c b y)
      (λ w. to (run body ∷ ts) w n) (λ w. to (decide others ∷ ts) w n) refl (then' y k.1) (else' y k.1))))

  -- the ranges of a CASE, and what they choose
  range_walks : (h l j n m : ℕ) (ts : List (Task Act)) (c : Core) (b : Beside) (z : State) (v : ℤ) (rs : List CaseRange) (body : Steps Act)
      (others : Branches Act) (so other : Does (Control × ℕ)) → cell_in here m (core_of c b z) ≡ Some v
      → Does' h ts c b n (so l z) (to (run body ∷ ts) (core_of c b z) n)
      → Does' h ts c b n (other l z) (to (decide others ∷ ts) (core_of c b z) n)
      → Does' h ts c b n (cond (in_some v rs) so other l z) (to (decide (branch j (doing (in_ranges m rs)) body others) ∷ ts)
      (core_of c b z) n)
  range_walks h l j n m ts c b z v rs body others so other there then' else' =
      let D : Core = core_of c b z in
      let P : Parts Act = doing (in_ranges m rs) in
      let us : List (Task Act) = pick j body others ∷ ts in
      let A : Config Act Core = to (decide (branch j P body others) ∷ ts) D n in
      let B : Config Act Core = to (eval j P ∷ us) D n in
      let E : Config Act Core = to us (pushed (truth (in_some v rs)) D) n in
      let tells : ComesBy procedures limit B E =
      subst (λ o. Says procedures limit o us n B) (ranges_told m v j rs D there) (says procedures limit P j us n D) in
      walks_before procedures limit (On h ts c b n) (cond (in_some v rs) so other l z) A E
      (by_more procedures limit A B E (by_step procedures limit A B refl) tells)
      (chosen_walks procedures limit (On h ts c b n) (in_some v rs) so other l z E D (λ w. to (run body ∷ ts) w n)
      (λ w. to (decide others ∷ ts) w n)
      (ap (λ q. by_test (cond q (holds D) (fails D)) (λ w. to (run body ∷ ts) w n) (λ w. to (decide others ∷ ts) w n))
      (true_back (in_some v rs)))
      then' else')

  -- two steps before
  earlier : (h n : ℕ) (ts : List (Task Act)) (c : Core) (b : Beside) (m : Outcome ((Control × ℕ) × State)) (x y z : Config Act Core)
      → ComesBy procedures limit x y → ComesBy procedures limit y z → Does' h ts c b n m z → Does' h ts c b n m x
  earlier h n ts c b m x y z p q k = walks_before procedures limit (On h ts c b n) m x z (by_more procedures limit x y z p q) k

  -- where the selected value stands
  select_walks : (h l n j : ℕ) (ts : List (Task Act)) (c : Core) (b : Beside) (z : State) (x : t.Expression) (cs : Branches Act)
      (next : ℤ → Does (Control × ℕ)) → IsCovered x → h ≤ j → j < most → Ready c b z
      → ((v : ℤ) (f : Beside) (y : State) → Ready c f y → cell_in here (hidden_cell e j) (core_of c f y) ≡ Some v
      → Does' (suc j) ts c f n (next v l y) (to (decide cs ∷ ts) (core_of c f y) n))
      → Does' h ts c b n (and_then (meaning.released (num limit e calls x) l z) (λ v. next v.0 l v.1))
      (to (eval l (released (expression e x) ▸ doing (variable (a.store here (hidden_cell e j)) ∷ [])) ∷ decide cs ∷ ts) (core_of c b z) n)
  select_walks h l n j ts c b z x cs next covered above below ready more =
      let P : Parts Act = released (expression e x) in
      let S : Parts Act = doing (variable (a.store here (hidden_cell e j)) ∷ []) in
      let us : List (Task Act) = eval l S ∷ decide cs ∷ ts in
      let M : Outcome (ℤ × State) = meaning.released (num limit e calls x) l z in
      let K : ℤ × State → Outcome ((Control × ℕ) × State) = λ v. next v.0 l v.1 in
      walks_before procedures limit (On h ts c b n) (and_then M K) (to (eval l (P ▸ S) ∷ decide cs ∷ ts) (core_of c b z) n)
      (to (eval l P ∷ us) (core_of c b z) n)
      (by_step procedures limit (to (eval l (P ▸ S) ∷ decide cs ∷ ts) (core_of c b z) n) (to (eval l P ∷ us) (core_of c b z) n) refl)
      (walks_then procedures limit (Tells limit e calls procedures blind most lines us c b n) (On h ts c b n) M K
      (to (eval l P ∷ us) (core_of c b z) n) (condition_walks limit e calls procedures blind most lines x l n us c b z covered ready)
      (λ v y d k.
      let r : Ready c b y = k.1 in
      let f : Beside = with_kept b (2 * j) v in
      let at' : hidden_cell e j ≡ length y.frame.cells + 2 * j = sym (ap (λ m. m + 2 * j) r.variables) in
      let same : with_cell here (hidden_cell e j) v (core_of c b y) ≡ core_of c f y = hidden_set c b y (hidden_cell e j) (2 * j) v at' in
      let long : length f.hidden ≡ length b.hidden = length-set b.hidden (2 * j) v in
      let ready' : Ready c f y = ready_beside e most lines c b f y r long in
      let there : cell_in here (hidden_cell e j) (core_of c f y) ≡ Some v = hidden_get c f y (hidden_cell e j) (2 * j) at'
      ∙ set_same b.hidden (2 * j) v (omega (arith, r.hidden, below)) in
      let kept : Keeps h b f = λ m p. set_other b.hidden (2 * j) m v (λ q. omega (arith, above, p, q)) in
      let A : Config Act Core = to us (pushed v (core_of c b y)) n in
      let B : Config Act Core = to (eval l end_parts ∷ decide cs ∷ ts) (with_cell here (hidden_cell e j) v (core_of c b y)) n in
      let E : Config Act Core = to (decide cs ∷ ts) (with_cell here (hidden_cell e j) v (core_of c b y)) n in
      subst (Does' h ts c b n (next v l y)) (sym k.0)
      (earlier h n ts c b (next v l y) A B E (by_step procedures limit A B refl) (by_step procedures limit B E refl)
      (subst (λ w. Does' h ts c b n (next v l y) (to (decide cs ∷ ts) w n)) (sym same)
      (walks_as procedures limit (On (suc j) ts c f n) (On h ts c b n) (next v l y) (to (decide cs ∷ ts) (core_of c f y) n)
      (more v f y ready' there)
      (goes_later procedures limit e most lines h (suc j) ts c b f n n (omega (arith, above)) kept (le_refl n)))))))

  mutual
    statement_walks : (f : s.StatementForm) (h l n : ℕ) (ts : List (Task Act)) (c : Core) (b : Beside) (z : State)
        → IsStatement most lines h f → Ready c b z
        → Does' h ts c b n (form limit e calls l f n l z) (to (form_tasks l (walk.form e l f) ts) (core_of c b z) n)
    statement_walks (s.assign d type rank x) h l n ts c b z i r =
        simple_walks limit e calls procedures blind most lines (s.assign d type rank x) l n h ts c b z i r
        (b_then (meaning.released (assignment limit e calls d type rank x)) (λ u. giving (onward, n))
        (b_released (assignment limit e calls d type rank x) (b_assignment limit e calls blind d type rank x)) (λ u. b_giving (onward, n)))
        (assign_only limit e calls procedures blind most lines l n z d type rank x)
    statement_walks (s.print f xs) h l n ts c b z i r =
        let texts : open_portions c.printing + literals_in xs ≤ z.used + 65793 = omega (arith, i.1, r.texts) in
        simple_walks limit e calls procedures blind most lines (s.print f xs) l n h ts c b z (i.0, texts) r
        (b_then (meaning.released (output limit e calls f xs)) (λ u. giving (onward, n))
        (b_released (output limit e calls f xs) (b_output limit e calls blind f xs)) (λ u. b_giving (onward, n)))
        (print_only limit e calls procedures blind most lines l n z f xs)
    statement_walks (s.stop code) h l n ts c b z i r =
        simple_walks limit e calls procedures blind most lines (s.stop code) l n h ts c b z i r
        (b_then (or_number limit e calls code (pos 0)) (λ v. ending (asking.Stop v)) (b_or_number limit e calls blind code (pos 0))
        (λ v. b_ending (asking.Stop v)))
        (ended_only (Onward limit e calls procedures blind most lines n) l (λ v. asking.Stop v) (or_number limit e calls code (pos 0) l z))
    statement_walks (s.error_stop code) h l n ts c b z i r =
        simple_walks limit e calls procedures blind most lines (s.error_stop code) l n h ts c b z i r
        (b_then (or_number limit e calls code (pos 0)) (λ v. ending (asking.ErrorStop v)) (b_or_number limit e calls blind code (pos 0))
        (λ v. b_ending (asking.ErrorStop v)))
        (ended_only (Onward limit e calls procedures blind most lines n) l (λ v. asking.ErrorStop v) (or_number limit e calls code
        (pos 0) l z))
    statement_walks s.fail_image h l n ts c b z i r =
        simple_walks limit e calls procedures blind most lines s.fail_image l n h ts c b z i r (b_ending asking.Fail) (λ q. tt)
    statement_walks (s.exit k) h l n ts c b z i r = goes_here procedures limit e most lines h h ts c b b n n (le_refl h) (keeps_all h b)
        (le_refl n) z r (exits k) (behind (exits k) ts) refl
    statement_walks (s.cycle k) h l n ts c b z i r = goes_here procedures limit e most lines h h ts c b b n n (le_refl h) (keeps_all h b)
        (le_refl n) z r (cycles k) (behind (cycles k) ts) refl
    statement_walks s.return h l n ts c b z i r = goes_here procedures limit e most lines h h ts c b b n n (le_refl h) (keeps_all h b)
        (le_refl n) z r returns (behind returns ts) refl
    statement_walks (s.if x body others none) h l n ts c b z i r =
        let R : Branches Act = walk.else_ifs e others (steps e none) in
        let Q : Branches Act = branch l (released (expression e x)) (steps e body) R in
        let A : Config Act Core = to (eval l end_parts ∷ decide Q ∷ ts) (core_of c b z) n in
        let B : Config Act Core = to (decide Q ∷ ts) (core_of c b z) n in
        walks_before procedures limit (On h ts c b n) (form limit e calls l (s.if x body others none) n l z) A B
        (by_step procedures limit A B refl)
        (choice_walks h l l n ts c b z x (steps e body) R (block limit e calls body n)
        (else_ifs limit e calls others (block limit e calls none) n) i.0 r
        (λ y ry. block_walks body h l n ts c b y i.1 ry)
        (λ y ry. else_walks others h l n ts c b y (block limit e calls none) (steps e none) i.2 ry
        (λ w q. block_walks none h l n ts c b w i.3 q)))
    statement_walks (s.do_counted v k first last step j body) h l n ts c b z i r =
        let S : Parts Act = released (do_start e v k first last step (hidden_cell e j)) in
        let L : Loop Act = do_loop procedures limit e calls most lines v k j body l ts c in
        let us : List (Task Act) = eval l L.test ∷ iterate L ∷ ts in
        let M : Outcome ((ℕ × ℤ) × State) = meaning.released (do_parameters limit e calls v k first last step) l z in
        let K : (ℕ × ℤ) × State → Outcome ((Control × ℕ) × State) = λ p. counted_loop limit e calls p.0.0
        (next_value (scope_of v.home) v.variable k p.0.1) (block limit e calls body) n l p.1 in
        walks_then procedures limit (Started procedures limit e calls most lines v k j body l ts c b n (run stop ∷ us)) (On h ts c b n) M K
        (to (eval l S ∷ run stop ∷ us) (core_of c b z) n)
        (start_walks procedures limit e calls most lines v k j body l ts c blind i.4 first last step i.0 i.1 i.2 b z n (run stop ∷ us) r)
        (λ p y d w.
        let A : Config Act Core = to (run stop ∷ us) (core_of c w.0 y) n in
        let B : Config Act Core = to us (core_of c w.0 y) n in
        subst (Does' h ts c b n (K (p, y))) (sym w.1)
        (walks_before procedures limit (On h ts c b n) (K (p, y)) A B (by_step procedures limit A B refl)
        (walks_as procedures limit (On h ts c w.0 n) (On h ts c b n) (K (p, y)) B
        (iterations_walk procedures limit e calls most lines v k j body l ts c h i.3 i.4 p.1
        (λ f x m rx. block_walks body (suc j) l m (again L ∷ ts) c f x i.5 rx) p.0 n w.0 y w.4 w.2)
        (goes_later procedures limit e most lines h h ts c b w.0 n n (le_refl h) (λ m q. w.3 m (omega (arith, q, i.3))) (le_refl n)))))
    statement_walks (s.do_while x body) h l n ts c b z i r =
        let P : Parts Act = released (expression e x) in
        let T : Does ℤ = meaning.released (num limit e calls x) in
        let L : Loop Act = the_loop procedures limit e most lines calls h l T P body ts c in
        let us : List (Task Act) = eval l P ∷ iterate L ∷ ts in
        let D : Core = core_of c b z in
        let enough : limit ≤ n + (limit - n) = omega arith in
        earlier h n ts c b (while_loop limit e calls (limit - n) T (block limit e calls body) n l z)
        (to (eval l end_parts ∷ run stop ∷ us) D n)
        (to (run stop ∷ us) D n) (to us D n) (by_step procedures limit (to (eval l end_parts ∷ run stop ∷ us) D n)
        (to (run stop ∷ us) D n) refl)
        (by_step procedures limit (to (run stop ∷ us) D n) (to us D n) refl)
        (while_walks procedures limit e most lines calls h l T P body ts c
        (λ f y m ry. condition_walks limit e calls procedures blind most lines x l m (iterate L ∷ ts) c f y i.0 ry)
        (λ f y m ry. block_walks body h l m (again L ∷ ts) c f y i.1 ry) (limit - n) n b z enough r)
    statement_walks (s.do_forever body) h l n ts c b z i r =
        let P : Parts Act = pushing (pos 1) in
        let T : Does ℤ = giving (pos 1) in
        let L : Loop Act = the_loop procedures limit e most lines calls h l T P body ts c in
        let us : List (Task Act) = eval l P ∷ iterate L ∷ ts in
        let D : Core = core_of c b z in
        let enough : limit ≤ n + (limit - n) = omega arith in
        earlier h n ts c b (while_loop limit e calls (limit - n) T (block limit e calls body) n l z)
        (to (eval l end_parts ∷ run stop ∷ us) D n)
        (to (run stop ∷ us) D n) (to us D n) (by_step procedures limit (to (eval l end_parts ∷ run stop ∷ us) D n)
        (to (run stop ∷ us) D n) refl)
        (by_step procedures limit (to (run stop ∷ us) D n) (to us D n) refl)
        (while_walks procedures limit e most lines calls h l T P body ts c
        (λ f y m ry.
        let E : Core = core_of c f y in
        let A : Config Act Core = to (eval l P ∷ iterate L ∷ ts) E m in
        let B : Config Act Core = to (eval l end_parts ∷ iterate L ∷ ts) (pushed (pos 1) E) m in
        let F : Config Act Core = to (iterate L ∷ ts) (pushed (pos 1) E) m in
        (F, by_more procedures limit A B F (by_step procedures limit A B refl) (by_step procedures limit B F refl), (refl, ry)))
        (λ f y m ry. block_walks body h l m (again L ∷ ts) c f y i ry) (limit - n) n b z enough r)
    statement_walks (s.select x j cs none) h l n ts c b z i r =
        select_walks h l n j ts c b z x (walk.cases e (hidden_cell e j) cs (steps e none))
        (λ v. cases limit e calls v cs (block limit e calls none) n) i.0 i.1 i.2 r
        (λ v f y ry there. cases_walks cs (suc j) l n (hidden_cell e j) ts c f y v (block limit e calls none) (steps e none) i.3 ry there
        (block_walks none (suc j) l n ts c f y i.4 ry))
    statement_walks (s.assign_images v k images which) h l n ts c b z i r = elim i [ ]
    statement_walks (s.call k es) h l n ts c b z i r = elim i [ ]
    statement_walks (s.call_intrinsic k w) h l n ts c b z i r = elim i [ ]
    statement_walks (s.allocate xs stat) h l n ts c b z i r = elim i [ ]
    statement_walks (s.deallocate xs stat) h l n ts c b z i r = elim i [ ]
    statement_walks (s.sync_all stat) h l n ts c b z i r =
        simply_walks procedures limit e most lines (sync_all limit e calls stat) (control.sync_all e stat) l n h ts c b z
        (b_sync_all limit e calls blind stat) (sync_all_performs limit e calls l stat i) r
    statement_walks (s.sync_memory stat) h l n ts c b z i r =
        simply_walks procedures limit e most lines (sync_memory limit e calls stat) (control.sync_memory e stat) l n h ts c b z
        (b_sync_memory limit e calls blind stat) (sync_memory_performs limit e calls l stat i) r
    statement_walks (s.sync_images is stat) h l n ts c b z i r =
        simply_walks procedures limit e most lines (sync_images limit e calls is stat) (control.sync_images e is stat) l n h ts c b z
        (b_sync_images limit e calls blind is stat) (sync_images_performs limit e calls l is stat i.0 i.1) r
    statement_walks (s.sync_team x stat) h l n ts c b z i r =
        simply_walks procedures limit e most lines (sync_team limit e calls x stat) (control.sync_team e x stat) l n h ts c b z
        (b_sync_team limit e calls blind x stat) (sync_team_performs limit e calls l x stat i.0 i.1) r
    statement_walks (s.form_team x v index stat order) h l n ts c b z i r =
        simply_walks procedures limit e most lines (form_team limit e calls x v index stat order) (control.form_team e x v index stat order) l n h ts
        c b z (b_form_team limit e calls blind x v index stat order) (form_performs limit e calls x v index stat order l i.0 i.1 i.2) r
    statement_walks (s.lock d (t.result x) stat order) h l n ts c b z i r =
        simply_walks procedures limit e most lines (locked limit e calls d (t.result x) stat order) (control.lock e d (t.result x) stat order) l n h
        ts c b z (b_tried limit e calls blind d x stat order i.0) (try_performs limit e calls d x stat order l i.0 i.1 i.2) r
    statement_walks (s.lock d t.no_result stat order) h l n ts c b z i r =
        simply_walks procedures limit e most lines (locked limit e calls d t.no_result stat order)
        (control.lock e d t.no_result stat order) l n h ts
        c b z (b_locked limit e calls blind d stat order i.0) (lock_performs limit e calls d stat order l i.0 i.1) r
    statement_walks (s.unlock d stat) h l n ts c b z i r =
        simply_walks procedures limit e most lines (unlocked limit e calls d stat) (control.unlock e d stat) l n h ts c b z
        (b_unlocked limit e calls blind d stat i.0) (unlock_performs limit e calls d stat l i.0 i.1) r
    statement_walks (s.event_post d stat) h l n ts c b z i r =
        simply_walks procedures limit e most lines (posted limit e calls d stat) (control.event_post e d stat) l n h ts c b z
        (b_posted limit e calls blind d stat i.0) (post_performs limit e calls d stat l i.0 i.1) r
    statement_walks (s.event_wait d until stat order) h l n ts c b z i r =
        simply_walks procedures limit e most lines (waited limit e calls d until stat order)
        (control.event_wait e d until stat order) l n h ts c b z
        (b_waited limit e calls blind d until stat order i.0) (wait_performs limit e calls d until stat order l i.0 i.1 i.2) r
    statement_walks (s.critical k stat body m) h l n ts c b z i r =
        around_walks procedures limit e calls most lines h l n m ts c b z (enter_critical limit e calls k stat) (control.critical e k stat)
        (control.end_critical e k) body (λ j. asking_for (asking.Exit k) ▹ (λ q. giving (onward, j)))
        (b_critical limit e calls blind k stat) (critical_performs limit e calls l k stat i.0) r
        (λ f y ry. block_walks body h l n (tally m ∷ eval m (control.end_critical e k) ∷ ts) c f y i.1 ry)
        (λ f y j ry. exit_walks procedures limit e calls most lines h k m ts c f y j ry)
    statement_walks (s.change_team x stat body end_stat m) h l n ts c b z i r =
        let Q : Parts Act = released (control.end_team e end_stat) in
        around_walks procedures limit e calls most lines h l n m ts c b z (change_team limit e calls x stat) (control.change_team e x stat) Q body
        (simply (end_team limit e calls end_stat)) (b_change_team limit e calls blind x stat) (change_performs limit e calls x stat l i.0 i.1) r
        (λ f y ry. block_walks body h l n (tally m ∷ eval m Q ∷ ts) c f y i.2 ry)
        (λ f y j ry. simply_walks procedures limit e most lines (end_team limit e calls end_stat) (control.end_team e end_stat) m j h ts c f y
        (b_end_team limit e calls blind end_stat) (end_performs limit e calls end_stat m i.3) ry)

    block_walks : (ss : s.Statements) (h l n : ℕ) (ts : List (Task Act)) (c : Core) (b : Beside) (z : State) → IsBlock most lines h ss
        → Ready c b z → Does' h ts c b n (block limit e calls ss n l z) (to (run (steps e ss) ∷ ts) (core_of c b z) n)
    block_walks s.no_statements h l n ts c b z i r =
        let A : Config Act Core = to (run stop ∷ ts) (core_of c b z) n in
        let B : Config Act Core = to ts (core_of c b z) n in
        walks_before procedures limit (On h ts c b n) (giving (onward, n) l z) A B (by_step procedures limit A B refl)
        (goes_here procedures limit e most lines h h ts c b b n n (le_refl h) (keeps_all h b) (le_refl n) z r onward ts refl)
    block_walks (s.more_statements (s.on_line f j) ss) h l n ts c b z i r =
        let D : Core = core_of c b z in
        let vs : List (Task Act) = run (steps e ss) ∷ ts in
        let A : Config Act Core = to (run (steps e (s.more_statements (s.on_line f j) ss)) ∷ ts) D n in
        let F : Does (Control × ℕ) = form limit e calls j f (n + 1) in
        let B : Outcome ((Control × ℕ) × State) = meaning.counting limit e calls (form limit e calls j f) n j z in
        walks_then procedures limit (On h vs c b (n + 1)) (On h ts c b n) B (λ q. followed (block limit e calls ss) q.0 l q.1) A
        (counted_walks procedures limit (On h vs c b (n + 1)) F j n z b.hidden A (form_tasks j (walk.form e j f) vs) D refl refl refl
        (statement_walks f h j (n + 1) vs c b z i.0 r))
        (followed_walks procedures limit e most lines h l n ts c b (steps e ss) (block limit e calls ss)
        (λ g y k ry. block_walks ss h l k ts c g y i.1 ry))

    else_walks : (xs : s.ElseIfs) (h l n : ℕ) (ts : List (Task Act)) (c : Core) (b : Beside) (z : State) (none : Executes) (ns : Steps Act)
        → AreElseIfs most lines h xs → Ready c b z
        → ((y : State) → Ready c b y → Does' h ts c b n (none n l y) (to (run ns ∷ ts) (core_of c b y) n))
        → Does' h ts c b n (else_ifs limit e calls xs none n l z) (to (decide (walk.else_ifs e xs ns) ∷ ts) (core_of c b z) n)
    else_walks s.no_else_ifs h l n ts c b z none ns i r otherwise' =
        let A : Config Act Core = to (decide (walk.else_ifs e s.no_else_ifs ns) ∷ ts) (core_of c b z) n in
        let B : Config Act Core = to (run ns ∷ ts) (core_of c b z) n in
        walks_before procedures limit (On h ts c b n) (none n l z) A B (by_step procedures limit A B refl) (otherwise' z r)
    else_walks (s.more_else_ifs x body j others) h l n ts c b z none ns i r otherwise' =
        choice_walks h l j n ts c b z x (steps e body) (walk.else_ifs e others ns) (block limit e calls body n)
        (else_ifs limit e calls others none n) i.0 r (λ y ry. block_walks body h l n ts c b y i.1 ry)
        (λ y ry. else_walks others h l n ts c b y none ns i.2 ry otherwise')

    cases_walks : (xs : s.Cases) (h l n m : ℕ) (ts : List (Task Act)) (c : Core) (b : Beside) (z : State) (v : ℤ) (none : Executes)
        (ns : Steps Act)
        → AreCases most lines h xs → Ready c b z → cell_in here m (core_of c b z) ≡ Some v
        → Does' h ts c b n (none n l z) (to (run ns ∷ ts) (core_of c b z) n)
        → Does' h ts c b n (cases limit e calls v xs none n l z) (to (decide (walk.cases e m xs ns) ∷ ts) (core_of c b z) n)
    cases_walks s.no_cases h l n m ts c b z v none ns i r there otherwise' =
        let A : Config Act Core = to (decide (walk.cases e m s.no_cases ns) ∷ ts) (core_of c b z) n in
        let B : Config Act Core = to (run ns ∷ ts) (core_of c b z) n in
        walks_before procedures limit (On h ts c b n) (none n l z) A B (by_step procedures limit A B refl) otherwise'
    cases_walks (s.more_cases rs body j others) h l n m ts c b z v none ns i r there otherwise' =
        range_walks h l j n m ts c b z v rs (steps e body) (walk.cases e m others ns) (block limit e calls body n)
        (cases limit e calls v others none n) there (block_walks body h l n ts c b z i.0 r)
        (cases_walks others h l n m ts c b z v none ns i.1 r there otherwise')

pub block_law : BlockLaw
block_law procedures limit e calls blind most lines h ss i l n ts c b z r = block_walks procedures limit e calls blind most lines ss h l n
    ts c b z i r
