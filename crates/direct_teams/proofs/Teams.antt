-- CHANGE TEAM and END TEAM (ISO/IEC 1539-1:2018, 11.1.5): their acts meet what they do.
use Rattle.std.proofs.Common.{◌≡◌, refl, ap, sym, subst, ℕ, ◌+◌, ◌*◌, nat_lt, ℤ, pos, Bool, false, cond, List, [], ◌∷◌, length, Some}
use Rattle.caf_events.specs.declared.reply.FormedTeam.{FormedTeam}
use Rattle.caf_events.specs.declared.round.Arriving.TheVariants as arrivals
use Rattle.walk_theory.specs.Syntax.{Parts, end_parts}
use Rattle.walk_theory.specs.Language.{goes_to, faults as faulting}
use Rattle.checked_tree.specs.Expressions as t
use Rattle.image_acts.specs.Statuses.{most_teams}
use Rattle.image_acts.specs.Faults.{room}
use Rattle.image_acts.specs.Acts as a
use Rattle.image_acts.specs.Acts.{Act, selector, ask}
use Rattle.image_acts.specs.Core.{Core, pushed}
use Rattle.image_acts.specs.Replies.{fitting, round_in}
use Rattle.image_acts.specs.Teams.{behind_first}
use Rattle.image_acts.specs.Meaning.{settled, effect_of}
use Rattle.tree_meaning.specs.Environment.{Environment}
use Rattle.tree_meaning.specs.Sequences.{◌▸◌, doing, dropping, copying, takes}
use Rattle.tree_meaning.specs.Expressions.{expression, optional_size, optional_place}
use Rattle.tree_meaning.specs.Settling.{settling}
use Rattle.tree_meaning.specs.ImageControl as control
use Rattle.direct_meaning.specs.States.{State, state_of, with_state}
use Rattle.direct_meaning.specs.Outcomes.{Outcome, and_then, Does, ◌▹◌}
use Rattle.direct_meaning.specs.Told.{of_effect, told}
use Rattle.direct_meaning.specs.Values.{Value, as_number}
use Rattle.direct_meaning.specs.Images.{the, current_team}
use Rattle.direct_meaning.specs.Expressions.{Passed, Target, value, optional_target}
use Rattle.direct_meaning.specs.Synchronizing.{settle, round, child_team, enter_team, leave_team, delete_all}
use Rattle.direct_meaning.specs.Statements.{num, change_team, end_team}
use Rattle.direct_agreement.specs.Agreeing.{HasRoom}
use Rattle.direct_agreement.proofs.Agreement.{Kept, kept_more, room_beside}
use Rattle.direct_agreement.proofs.Scalars.{Keeps}
use Rattle.direct_access.proofs.Owners.{TargetOf, with_target}
use Rattle.direct_laws.specs.Laws.{IsCovered, ResultWithin}
use Rattle.direct_laws.proofs.Subscripts.{put_target}
use Rattle.direct_statements.specs.Laws.{put_nothing}
use Rattle.direct_released.proofs.Quiet.{IsQuiet, q_then, q_number, neither}
use Rattle.direct_released.proofs.QuietSteps.{q_the}
use Rattle.direct_released.proofs.QuietTrees.{quiet_value, quiet_target}
use Rattle.direct_hidden.specs.Hiding.{IsBlind}
use Rattle.direct_hidden.specs.Laws.{AreBlind}
use Rattle.direct_hidden.proofs.Blind.{b_then}
use Rattle.direct_hidden.proofs.BlindSteps.{b_current_team}
use Rattle.direct_hidden.proofs.BlindTrees.{blind_target}
use Rattle.direct_hidden.proofs.BlindStatements.{b_num}
use Rattle.direct_control.specs.Meeting.{Meets, Lies}
use Rattle.direct_control.proofs.Meeting.{comes_first, meets_apart}
use Rattle.direct_control.proofs.Settling.{target_dropped, target_dropped_with_one, beneath_copied, beneath_copied_over}
use Rattle.direct_control.proofs.Rounds.{departed, round_meets}
use Rattle.direct_control.proofs.Control.{settle_meets, child_first, entered_first, stat_first, number_first}
use Rattle.direct_control.proofs.Quiet.{q_settle, q_round, q_child_team, q_enter_team, q_leave_team, q_delete_all}
use Rattle.direct_control.proofs.Blind.{b_settle, b_round, b_child_team, b_enter_team, b_leave_team, b_delete_all}
use Rattle.direct_control.proofs.Freed.{Performs, released_meets}
use Rattle.direct_teams.specs.Laws.{TeamLaw}
use Rattle.direct_teams.proofs.Leaving.{deleted}

module _ (stat : t.OptionalResult) (g : Target) (i : TargetOf stat g) (l : ℕ) (c : Core) where
  abbrev T : Parts Act
  T = dropping (optional_size stat + 1)

  -- behind the departure: the team becomes the current one, and the status
  abbrev Entering : Parts Act
  Entering = copying (optional_size stat + 1) 1 ▸ doing (Act.team a.make_current ∷ []) ▸ settling stat 1 [] ▸ T

  abbrev enters : ℕ → ℤ → Does (Unit {0})
  enters m status = enter_team m ▹ (λ u. settle stat g [] status)

  -- with the number of the team beneath the place of the variable
  abbrev over_team : ℕ → State → Core → Core
  over_team m z d = with_state z (with_target (pushed (pos m) d) g)

  entered : (m : ℕ) (z : State) → Kept c.used z → (s : ℤ) (j : ℕ) (fs : List FormedTeam)
      → Meets (Lies c) (enters m s l z) (told Entering l (departed (over_team m z c) s j fs))
  entered m z k s j fs =
      let F : List FormedTeam = fitting (2 * z.images) fs in
      let E : Core = record c { round = Some j; formed = F } in
      let D : Core = pushed s (over_team m z E) in
      let X : Core = pushed (pos m) D in
      let y : State = record z { teams = m ∷ z.teams } in
      let b : Bool = nat_lt (length z.teams) most_teams in
      let K : Core → Outcome Core = told (settling stat 1 [] ▸ T) l in
      subst (λ o. Meets (Lies c) (enters m s l z) (and_then o (told (doing (Act.team a.make_current ∷ []) ▸ settling stat 1 [] ▸ T) l)))
      (sym (beneath_copied_over stat g i l s (pos m) z E))
      (meets_apart (Lies c) (enters m s l z)
      (of_effect l X (settled (Act.team a.make_current) (cond b (goes_to (record D { teams = m ∷ z.teams })) (faulting room))))
      (told end_parts l) K
      (entered_first (Lies c) b m (settle stat g [] s) l z X (record D { teams = m ∷ z.teams }) K
      (settle_meets stat g i [] T s l y c (pushed (pos m) E) (Some j) F c.used k (λ x. target_dropped_with_one stat g i l
      (pos m) x E)) refl))

  abbrev changing_parts : Parts Act
  changing_parts = copying (optional_size stat) 1 ▸ doing (Act.team a.child_team ∷ ask a.arrive_change ∷ []) ▸ copying
      (optional_size stat) 1 ▸
      doing (ask a.leave ∷ []) ▸ Entering

  abbrev changes : ℕ → Does (Unit {0})
  changes m = round m arrivals.Change ▹ enters m

  abbrev behind_arrival : Parts Act
  behind_arrival = copying (optional_size stat) 1 ▸ doing (ask a.leave ∷ []) ▸ Entering

  arrived : (n m : ℕ) (z : State) → Kept c.used z → pos n ≡ pos m
      → Meets (Lies c) (changes m l z) (and_then (told (doing (ask a.arrive_change ∷ [])) l (pushed (pos m) (over_team n z c)))
      (told behind_arrival l))
  arrived n m z k same =
      subst (λ v. Meets (Lies c) (changes m l z)
      (and_then (told (doing (ask a.arrive_change ∷ [])) l (pushed (pos m) (with_state z (with_target (pushed v c) g))))
      (told behind_arrival l))) (sym same)
      (round_meets (Lies c) m l (told behind_arrival l) (told Entering l) (over_team m z c)
      (λ q. ap (λ o. and_then o (told (doing (ask a.leave ∷ []) ▸ Entering) l)) (beneath_copied stat g i l (pos m) z
      (record c { round = round_in q })))
      (enters m) (entered m z k) arrivals.Change _ refl)

  pub changed : (n : ℕ) (z : State) → Kept c.used z
      → Meets (Lies c) ((child_team (pos n) ▹ changes) l z) (told changing_parts l (over_team n z c))
  changed n z k =
      let D : Core = over_team n z c in
      let X : Core = pushed (pos n) D in
      let A : Core → Outcome Core = told (doing (ask a.arrive_change ∷ [])) l in
      let V : Core → Outcome Core = told behind_arrival l in
      subst (λ o. Meets (Lies c) ((child_team (pos n) ▹ changes) l z)
      (and_then o (told (doing (Act.team a.child_team ∷ ask a.arrive_change ∷ []) ▸ behind_arrival) l))) (sym (beneath_copied stat g i l
      (pos n) z c))
      (meets_apart (Lies c) ((child_team (pos n) ▹ changes) l z) (of_effect l X (effect_of (Act.team a.child_team) X)) A V
      (child_first (Lies c) (pos n) changes l D (λ d. and_then (A d) V) (λ m same. arrived n m z k same)))

module _ (limit : ℕ) (e : Environment) (calls : ℕ → List Passed → Does Value) where
  change_team_meets : (x : t.Expression) (stat : t.OptionalResult) (l : ℕ) (c : Core) → HasRoom 64 c → IsCovered x → ResultWithin 64 stat
      → Meets (Lies c) (change_team limit e calls x stat l (state_of c)) (told (control.change_team e x stat) l c)
  change_team_meets x stat l c r h w =
      let N : Parts Act = copying (optional_size stat) 1 ▸ doing (Act.team a.child_team ∷ ask a.arrive_change ∷ []) ▸ copying
      (optional_size stat) 1 ▸
      doing (ask a.leave ∷ []) ▸ copying (optional_size stat + 1) 1 ▸ doing (Act.team a.make_current ∷ []) ▸ settling stat 1 [] ▸
      dropping (optional_size stat + 1) in
      let G : ℕ → Target → Does (Unit {0}) = λ n g. child_team (pos n) ▹ (λ m.
      round m arrivals.Change ▹ (λ status. enter_team m ▹ (λ u. settle stat g [] status))) in
      let F : ℕ → Does (Unit {0}) = λ n. optional_target e calls stat ▹ G n in
      number_first limit e calls (Lies c) x (λ v. child_team v ▹ F) l c (told (doing (Act.team a.child_team ∷ []) ▸ optional_place e stat ▸
      N) l) r h
      (λ v z k. meets_apart (Lies c) ((child_team v ▹ F) l z)
      (of_effect l (pushed v (with_state z c)) (effect_of (Act.team a.child_team) (pushed v (with_state z c))))
      (told end_parts l) (told (optional_place e stat ▸ N) l)
      (child_first (Lies c) v F l (with_state z c) (told (optional_place e stat ▸ N) l)
      (λ n same. stat_first limit e calls (Lies c) stat (G n) l (pushed (pos n) (with_state z c)) (told N l) (room_beside 64 c z r k) w
      (λ g y i j. changed stat g i l c n y (kept_more c.used z y k j)))))

  end_team_meets : (stat : t.OptionalResult) (l : ℕ) (c : Core) → HasRoom 64 c → ResultWithin 64 stat
      → Meets (Lies c) (end_team limit e calls stat l (state_of c)) (told (control.end_team e stat) l c)
  end_team_meets stat l c r h =
      let ns : List ℕ = e.program.coarrays in
      let T : Parts Act = dropping (optional_size stat) in
      let S : Core → Outcome Core = told (doing (Act.team a.leave_team ∷ []) ▸ settling stat 1 [] ▸ T) l in
      let K : Core → Outcome Core = told (control.deleting e ns 0 ▸ doing (Act.team a.leave_team ∷ []) ▸ settling stat 1 [] ▸ T) l in
      let V : Core → Outcome Core = λ d. and_then (told (doing (selector a.this_team ∷ ask a.leave ∷ [])) l d) K in
      let F : Target → ℤ → Does (Unit {0}) = λ g status. delete_all e ns 0 ▹ (λ u. leave_team ▹ (λ v. settle stat g [] status)) in
      stat_first limit e calls (Lies c) stat (λ g. the current_team ▹ (λ m. round m arrivals.End ▹ F g)) l c
      (told (control.round (doing (ask a.arrive_end ∷ [])) ▸ control.deleting e ns 0 ▸ doing (Act.team a.leave_team ∷ []) ▸
      settling stat 1 [] ▸ T) l) r h
      (λ g z i k. round_meets (Lies c) (current_team z) l V K (put_target c g z) (λ q. refl) (F g)
      (λ s j fs.
      let A : List FormedTeam = fitting (2 * z.images) fs in
      let E : Core = record c { round = Some j; formed = A } in
      let B : Core = pushed s (with_target E g) in
      comes_first (put_nothing B) (Keeps c.used) (Lies c) (delete_all e ns 0 l z) (told (control.deleting e ns 0) l (with_state z B))
      (λ p. (leave_team ▹ (λ v. settle stat g [] s)) l p.1) S (deleted l B c.used e ns 0 z k)
      (λ u y q. settle_meets stat g i [] T s l (record y { teams = behind_first y.teams }) c E (Some j) A c.used q
      (λ x. target_dropped stat g i l x E))) arrivals.End _ refl)

  q_num : (x : t.Expression) → IsCovered x → takes (expression e x) ≡ false → IsQuiet (num limit e calls x)
  q_num x h q = q_then (value e calls x) as_number (quiet_value e calls 64 x h q) q_number

  abbrev change_parts : t.OptionalResult → Parts Act
  change_parts stat = copying (optional_size stat) 1 ▸ doing (Act.team a.child_team ∷ ask a.arrive_change ∷ []) ▸ copying
      (optional_size stat) 1 ▸
      doing (ask a.leave ∷ []) ▸ copying (optional_size stat + 1) 1 ▸ doing (Act.team a.make_current ∷ []) ▸ settling stat 1 [] ▸
      dropping (optional_size stat + 1)

  pub change_performs : (x : t.Expression) (stat : t.OptionalResult) (l : ℕ) → IsCovered x → ResultWithin 64 stat
      → Performs (change_team limit e calls x stat) (control.change_team e x stat) l
  change_performs x stat l h w =
      let N : ℕ → Target → ℤ → Does (Unit {0}) = λ m g status. enter_team m ▹ (λ u. settle stat g [] status) in
      let R : Target → ℕ → Does (Unit {0}) = λ g m. round m arrivals.Change ▹ N m g in
      let G : ℕ → Target → Does (Unit {0}) = λ n g. child_team (pos n) ▹ R g in
      let F : ℕ → Does (Unit {0}) = λ n. optional_target e calls stat ▹ G n in
      record {
        quiet = λ q.
            let i = neither (takes (expression e x)) (takes (optional_place e stat ▸ change_parts stat)) q in
            let j = neither (takes (optional_place e stat)) (takes (change_parts stat)) i.1 in
            q_then (num limit e calls x) (λ v. child_team v ▹ F) (q_num x h i.0)
            (λ v. q_then (child_team v) F (q_child_team v)
            (λ n. q_then (optional_target e calls stat) (G n) (quiet_target e calls 64 stat w j.0)
            (λ g. q_then (child_team (pos n)) (R g) (q_child_team (pos n))
            (λ m. q_then (round m arrivals.Change) (N m g) (q_round m arrivals.Change)
            (λ s. q_then (enter_team m) (λ u. settle stat g [] s) (q_enter_team m) (λ u. q_settle stat g [] s))))));
        meets = λ c r. change_team_meets x stat l c r h w;
      }

  -- the acts of END TEAM take no cell behind the place of the variable
  abbrev end_parts_of : t.OptionalResult → Parts Act
  end_parts_of stat = control.round (doing (ask a.arrive_end ∷ [])) ▸ control.deleting e e.program.coarrays 0 ▸ doing
      (Act.team a.leave_team ∷ []) ▸
      settling stat 1 [] ▸ dropping (optional_size stat)

  pub end_performs : (stat : t.OptionalResult) (l : ℕ) → ResultWithin 64 stat → Performs (end_team limit e calls stat)
      (control.end_team e stat) l
  end_performs stat l w =
      let L : Target → ℤ → Does (Unit {0}) = λ g s. leave_team ▹ (λ v. settle stat g [] s) in
      let F : Target → ℤ → Does (Unit {0}) = λ g s. delete_all e e.program.coarrays 0 ▹ (λ u. L g s) in
      record {
        quiet = λ q. q_then (optional_target e calls stat) (λ g. the current_team ▹ (λ m. round m arrivals.End ▹ F g))
            (quiet_target e calls 64 stat w (neither (takes (optional_place e stat)) (takes (end_parts_of stat)) q).0)
            (λ g. q_then (the current_team) (λ m. round m arrivals.End ▹ F g) (q_the current_team)
            (λ m. q_then (round m arrivals.End) (F g) (q_round m arrivals.End)
            (λ s. q_then (delete_all e e.program.coarrays 0) (λ u. L g s) (q_delete_all e e.program.coarrays 0)
            (λ u. q_then leave_team (λ v. settle stat g [] s) q_leave_team (λ v. q_settle stat g [] s)))));
        meets = λ c r. end_team_meets stat l c r w;
      }

  module _ (blind : AreBlind calls) where
    pub b_change_team : (x : t.Expression) (stat : t.OptionalResult) → IsBlind (change_team limit e calls x stat)
    b_change_team x stat =
        let N : ℕ → Target → ℤ → Does (Unit {0}) = λ m g status. enter_team m ▹ (λ u. settle stat g [] status) in
        let R : Target → ℕ → Does (Unit {0}) = λ g m. round m arrivals.Change ▹ N m g in
        let G : ℕ → Target → Does (Unit {0}) = λ n g. child_team (pos n) ▹ R g in
        let F : ℕ → Does (Unit {0}) = λ n. optional_target e calls stat ▹ G n in
        b_then (num limit e calls x) (λ v. child_team v ▹ F) (b_num limit e calls blind x)
        (λ v. b_then (child_team v) F (b_child_team v)
        (λ n. b_then (optional_target e calls stat) (G n) (blind_target e calls blind stat)
        (λ g. b_then (child_team (pos n)) (R g) (b_child_team (pos n))
        (λ m. b_then (round m arrivals.Change) (N m g) (b_round m arrivals.Change)
        (λ s. b_then (enter_team m) (λ u. settle stat g [] s) (b_enter_team m) (λ u. b_settle stat g [] s))))))

    pub b_end_team : (stat : t.OptionalResult) → IsBlind (end_team limit e calls stat)
    b_end_team stat =
        let L : Target → ℤ → Does (Unit {0}) = λ g s. leave_team ▹ (λ v. settle stat g [] s) in
        let F : Target → ℤ → Does (Unit {0}) = λ g s. delete_all e e.program.coarrays 0 ▹ (λ u. L g s) in
        b_then (optional_target e calls stat) (λ g. the current_team ▹ (λ m. round m arrivals.End ▹ F g)) (blind_target e calls blind stat)
        (λ g. b_then (the current_team) (λ m. round m arrivals.End ▹ F g) b_current_team
        (λ m. b_then (round m arrivals.End) (F g) (b_round m arrivals.End)
        (λ s. b_then (delete_all e e.program.coarrays 0) (λ u. L g s) (b_delete_all e e.program.coarrays 0)
        (λ u. b_then leave_team (λ v. settle stat g [] s) b_leave_team (λ v. b_settle stat g [] s)))))

pub team_law : TeamLaw
team_law limit e calls l c r b = (
  λ x stat h w. released_meets (change_team limit e calls x stat) (control.change_team e x stat) l
      (change_performs limit e calls x stat l h w) c r b,
  λ stat w. released_meets (end_team limit e calls stat) (control.end_team e stat) l (end_performs limit e calls stat l w) c r b,
)
