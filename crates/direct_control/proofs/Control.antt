-- SYNC ALL, SYNC MEMORY, CRITICAL, SYNC TEAM, FORM TEAM, CHANGE TEAM and END TEAM (ISO/IEC 1539-1:2018, 11.1.5, 11.1.6,
-- 11.6): their acts meet what they do.
use Rattle.std.proofs.Common.{◌≡◌, refl, ap, sym, subst, ℕ, ◌+◌, ◌*◌, ◌||◌, ◌&&◌, nat_eq, ℤ, pos, negsuc, Bool, true, false, cond, List, [], ◌∷◌, Option, None, Some, le_refl}
use Rattle.caf_events.specs.declared.ask.Ask.TheVariants as asked
use Rattle.caf_events.specs.declared.reply.FormedTeam.{FormedTeam}
use Rattle.caf_events.specs.declared.reply.Reply.{Reply}
use Rattle.caf_events.specs.declared.reply.Reply.TheVariants as replies
use Rattle.caf_events.specs.declared.round.Arriving.TheVariants as arrivals
use Rattle.walk_theory.specs.Syntax.{Parts, end_parts}
use Rattle.walk_theory.specs.Language.{goes_to, faults as faulting}
use Rattle.checked_tree.specs.Expressions as t
use Rattle.image_acts.specs.Statuses.{failed_image}
use Rattle.image_acts.specs.Faults.{no_team, room}
use Rattle.image_acts.specs.Acts as a
use Rattle.image_acts.specs.Acts.{Act, selector, ask}
use Rattle.image_acts.specs.Core.{Core, Team, pushed}
use Rattle.image_acts.specs.Replies.{fitting, with_status, round_in}
use Rattle.image_acts.specs.Teams as teams
use Rattle.image_acts.specs.Teams.{is_in, team_in}
use Rattle.image_acts.specs.Meaning.{settled, effect_of}
use Rattle.tree_meaning.specs.Environment.{Environment}
use Rattle.tree_meaning.specs.Sequences.{◌▸◌, doing, pushing, dropping, copying}
use Rattle.tree_meaning.specs.Expressions.{expression, optional_size, optional_place}
use Rattle.tree_meaning.specs.Settling.{settling}
use Rattle.tree_meaning.specs.ImageControl as control
use Rattle.direct_meaning.specs.States.{State, state_of, with_state}
use Rattle.direct_meaning.specs.Outcomes.{Outcome, done, faults as faulty, and_then, Does, giving, fault, ◌▹◌, asking, unless}
use Rattle.direct_meaning.specs.Told.{of_effect, told}
use Rattle.direct_meaning.specs.Values.{Value, number, array, as_number}
use Rattle.direct_meaning.specs.Images.{the, current_team}
use Rattle.direct_meaning.specs.Expressions.{Passed, Target, value, optional_target}
use Rattle.direct_meaning.specs.Synchronizing.{settle, round, number_in, near_team, child_team, is_child}
use Rattle.direct_meaning.specs.Statements.{num, or_number, sync_all, sync_memory, sync_team, enter_critical}
use Rattle.direct_agreement.specs.Agreeing.{HasRoom, put_down}
use Rattle.direct_agreement.proofs.Agreement.{Kept, Leaves, kept_more, room_beside}
use Rattle.direct_agreement.proofs.Scalars.{Keeps}
use Rattle.direct_access.proofs.Owners.{TargetOf, with_target}
use Rattle.direct_laws.specs.Laws.{IsCovered, ResultWithin, OptionWithin}
use Rattle.direct_laws.proofs.Subscripts.{put_target, Targeted}
use Rattle.direct_laws.proofs.Values.{value_comes, target_comes}
use Rattle.direct_statements.specs.Laws.{put_nothing}
use Rattle.direct_control.specs.Meeting.{Meets, Lies}
use Rattle.direct_control.proofs.Meeting.{comes_first, comes_meets, meets_apart, meets_said_apart}
use Rattle.direct_control.proofs.Settling.{settle_comes, target_dropped, target_dropped_with_one, beneath_copied}
use Rattle.direct_control.proofs.Rounds.{round_meets}

-- a status, behind which nothing is left but the state
pub settle_meets : (stat : t.OptionalResult) (g : Target) → TargetOf stat g → (accepted : List ℤ) (p : Parts Act) (s : ℤ) (l : ℕ)
    (z : State)
    (c C : Core) (r : Option ℕ) (fs : List FormedTeam) (n : ℕ) → Kept n z
    → ((y : State) → told p l (with_state y (with_target C g)) ≡ done (with_state y (record c { round = r; formed = fs })))
    → Meets (Lies c) (settle stat g accepted s l z) (told (settling stat 1 accepted ▸ p) l (pushed s (with_state z (with_target C g))))
settle_meets stat g h accepted p s l z c C r fs n k e =
    let B : Core = record c { round = r; formed = fs } in
    comes_meets (put_nothing B) (Keeps n) (Lies c) (settle stat g accepted s l z)
    (told (settling stat 1 accepted ▸ p) l (pushed s (with_state z (with_target C g)))) (settle_comes stat g h accepted p s l z C B n k e)
    (λ u y i. refl)

-- a team that is looked up
looked_up : {Y : Type 0} (holds : Y → State → Core → Type 0) (b : Bool) (n : ℕ) (f : ℕ → Does Y) (l : ℕ) (d : Core) (x : Act)
    (k : Core → Outcome Core) → Meets holds (f n l (state_of d)) (k d)
    → Meets holds ((unless no_team b (giving n) ▹ f) l (state_of d)) (and_then (of_effect l d (settled x (cond b (goes_to d)
    (faulting no_team)))) k)
looked_up holds true n f l d x k h = h
looked_up holds false n f l d x k h = refl

-- a team that was formed in the current team, as the acts find it
abbrev child_there : Option Team → Core → Bool
child_there o c = elim o [ None ↦ false | Some k ↦ nat_eq k.parent (teams.current_team c) && is_in c.me k.members ]

same_child : (o : Option Team) (d : Core) → child_there o d ≡ is_child o (state_of d)
same_child None d = refl
same_child (Some k) d = refl

-- that of SYNC TEAM, and that of CHANGE TEAM
pub near_first : {Y : Type 0} (holds : Y → State → Core → Type 0) (v : ℤ) (f : ℕ → Does Y) (l : ℕ) (d : Core) (k : Core → Outcome Core)
    → ((n : ℕ) → v ≡ pos n → Meets holds (f n l (state_of d)) (k (pushed (pos n) d)))
    → Meets holds ((near_team v ▹ f) l (state_of d))
    (and_then (of_effect l (pushed v d) (effect_of (Act.team a.near_team) (pushed v d))) k)
near_first holds (pos n) f l d k more =
    let o : Option Team = team_in n d.known in
    let X : Core = pushed (pos n) d in
    let b : Bool = is_in n d.teams || child_there o d in
    subst (λ q. Meets holds ((unless no_team (is_in n d.teams || q) (giving n) ▹ f) l (state_of d))
    (and_then (of_effect l X (settled (Act.team a.near_team) (cond b (goes_to X) (faulting no_team)))) k)) (same_child o d)
    (looked_up holds b n f l X (Act.team a.near_team) k (more n refl))
near_first holds (negsuc n) f l d k more = tt

pub child_first : {Y : Type 0} (holds : Y → State → Core → Type 0) (v : ℤ) (f : ℕ → Does Y) (l : ℕ) (d : Core) (k : Core → Outcome Core)
    → ((n : ℕ) → v ≡ pos n → Meets holds (f n l (state_of d)) (k (pushed (pos n) d)))
    → Meets holds ((child_team v ▹ f) l (state_of d))
    (and_then (of_effect l (pushed v d) (effect_of (Act.team a.child_team) (pushed v d))) k)
child_first holds (pos n) f l d k more =
    let o : Option Team = team_in n d.known in
    let X : Core = pushed (pos n) d in
    subst (λ q. Meets holds ((unless no_team q (giving n) ▹ f) l (state_of d))
    (and_then (of_effect l X (settled (Act.team a.child_team) (cond (child_there o d) (goes_to X) (faulting no_team)))) k))
    (same_child o d)
    (looked_up holds (child_there o d) n f l X (Act.team a.child_team) k (more n refl))
child_first holds (negsuc n) f l d k more = tt

-- a team becomes the current one
abbrev pub entering : ℕ → Does (Unit {0})
entering n m z = giving tt m (record z { teams = n ∷ z.teams })

pub entered_first : {Y : Type 0} (holds : Y → State → Core → Type 0) (b : Bool) (n : ℕ) (f : Does Y) (l : ℕ) (z : State) (X E : Core)
    (k : Core → Outcome Core) → Meets holds (f l (record z { teams = n ∷ z.teams })) (k E)
    → state_of X ≡ z
    → Meets holds ((cond b (entering n) (fault room) ▹ (λ u. f)) l z)
    (and_then (of_effect l X (settled (Act.team a.make_current) (cond b (goes_to E) (faulting room)))) k)
entered_first holds true n f l z X E k h e = h
entered_first holds false n f l z X E k h e = ap (λ y. faulty room l y) e

module _ (limit : ℕ) (e : Environment) (calls : ℕ → List Passed → Does Value) where
  -- the variable of STAT=, and what comes behind its place
  pub stat_first : {Y : Type 0} (holds : Y → State → Core → Type 0) (stat : t.OptionalResult) (f : Target → Does Y) (l : ℕ) (C : Core)
      (k : Core → Outcome Core) → HasRoom 64 C → ResultWithin 64 stat
      → ((g : Target) (z : State) → TargetOf stat g → Kept C.used z → Meets holds (f g l z) (k (put_target C g z)))
      → Meets holds ((optional_target e calls stat ▹ f) l (state_of C)) (and_then (told (optional_place e stat) l C) k)
  stat_first holds stat f l C k r h more =
      comes_first (put_target C) (Targeted C.used stat) holds (optional_target e calls stat l (state_of C))
      (told (optional_place e stat) l C) (λ p. f p.0 l p.1) k (target_comes e calls 64 stat l C r h) (λ g z j. more g z j.0 j.1)

  -- a number, and what is made of it
  by_value : {Y : Type 0} (holds : Y → State → Core → Type 0) (f : ℤ → Does Y) (l : ℕ) (C : Core) (k : Core → Outcome Core)
      → ((v : ℤ) (z : State) → Kept C.used z → Meets holds (f v l z) (k (pushed v (with_state z C))))
      → (w : Value) (z : State) → Leaves C.used w z
      → Meets holds (and_then (as_number w l z) (λ q. f q.0 l q.1)) (k (put_down C w z))
  by_value holds f l C k more (number v) z j = more v z j
  by_value holds f l C k more (array w) z j = tt

  pub number_first : {Y : Type 0} (holds : Y → State → Core → Type 0) (x : t.Expression) (f : ℤ → Does Y) (l : ℕ) (C : Core)
      (k : Core → Outcome Core) → HasRoom 64 C → IsCovered x
      → ((v : ℤ) (z : State) → Kept C.used z → Meets holds (f v l z) (k (pushed v (with_state z C))))
      → Meets holds ((num limit e calls x ▹ f) l (state_of C)) (and_then (told (expression e x) l C) k)
  number_first holds x f l C k r h more =
      meets_said_apart holds (value e calls x l (state_of C)) (λ p. as_number p.0 l p.1) (λ p. f p.0 l p.1)
      (and_then (told (expression e x) l C) k)
      (comes_first (put_down C) (Leaves C.used) holds (value e calls x l (state_of C)) (told (expression e x) l C)
      (λ p. and_then (as_number p.0 l p.1) (λ q. f q.0 l q.1)) k (value_comes e calls 64 x l C r h) (by_value holds f l C k more))

  pub number_or_first : {Y : Type 0} (holds : Y → State → Core → Type 0) (x : t.OptionalExpression) (u : ℤ) (f : ℤ → Does Y) (l : ℕ)
      (C : Core)
      (k : Core → Outcome Core) → HasRoom 64 C → OptionWithin 64 x
      → ((v : ℤ) (z : State) → Kept C.used z → Meets holds (f v l z) (k (pushed v (with_state z C))))
      → Meets holds ((or_number limit e calls x u ▹ f) l (state_of C)) (and_then (told (control.or_number e x (pushing u)) l C) k)
  number_or_first holds t.missing u f l C k r h more = more u (state_of C) (le_refl C.used, r.0)
  number_or_first holds (t.given x) u f l C k r h more = number_first holds x f l C k r h more

  pub sync_all_meets : (stat : t.OptionalResult) (l : ℕ) (c : Core) → HasRoom 64 c → ResultWithin 64 stat
      → Meets (Lies c) (sync_all limit e calls stat l (state_of c)) (told (control.sync_all e stat) l c)
  sync_all_meets stat l c r h =
      let T : Parts Act = dropping (optional_size stat) in
      let K : Core → Outcome Core = told (settling stat 1 [] ▸ T) l in
      let V : Core → Outcome Core = λ d. and_then (told (doing (selector a.this_team ∷ ask a.leave ∷ [])) l d) K in
      stat_first (Lies c) stat (λ g. the current_team ▹ (λ i. round i arrivals.Sync ▹ settle stat g [])) l c
      (told (control.round (doing (ask a.arrive_sync ∷ [])) ▸ settling stat 1 [] ▸ T) l) r h
      (λ g z i k. round_meets (Lies c) (current_team z) l V K (put_target c g z) (λ q. refl) (settle stat g [])
      (λ s j fs.
      let F : List FormedTeam = fitting (2 * z.images) fs in
      settle_meets stat g i [] T s l z c (record c { round = Some j; formed = F }) (Some j) F c.used k
      (λ y. target_dropped stat g i l y (record c { round = Some j; formed = F }))) arrivals.Sync _ refl)

  pub sync_memory_meets : (stat : t.OptionalResult) (l : ℕ) (c : Core) → HasRoom 64 c → ResultWithin 64 stat
      → Meets (Lies c) (sync_memory limit e calls stat l (state_of c)) (told (control.sync_memory e stat) l c)
  sync_memory_meets stat l c r h =
      let T : Parts Act = dropping (optional_size stat) in
      let K : Core → Outcome Core = told (settling stat 1 [] ▸ T) l in
      stat_first (Lies c) stat (λ g. asking asked.Memory ▹ (λ q. settle stat g [] (pos 0))) l c
      (told (doing (ask a.memory ∷ []) ▸ pushing (pos 0) ▸ settling stat 1 [] ▸ T) l) r h
      (λ g z i k. (
        (λ q. K (pushed (pos 0) (put_target c g z))),
        refl,
        λ q. settle_meets stat g i [] T (pos 0) l z c c c.round c.formed c.used k (λ y. target_dropped stat g i l y c),
      ))

  -- CRITICAL
  entered_meets : (stat : t.OptionalResult) (g : Target) → TargetOf stat g → (l : ℕ) (z : State) (c : Core) → Kept c.used z → (q : Reply)
      → Meets (Lies c) ((number_in q ▹ settle stat g (failed_image ∷ [])) l z)
      (told (settling stat 1 (failed_image ∷ []) ▸ dropping (optional_size stat)) l (with_status q (put_target c g z)))
  entered_meets stat g i l z c k (replies.Number s) =
      settle_meets stat g i (failed_image ∷ []) (dropping (optional_size stat)) s l z c c c.round c.formed c.used k
      (λ y. target_dropped stat g i l y c)
  entered_meets stat g i l z c k q = tt

  pub critical_meets : (n : ℕ) (stat : t.OptionalResult) (l : ℕ) (c : Core) → HasRoom 64 c → ResultWithin 64 stat
      → Meets (Lies c) (enter_critical limit e calls n stat l (state_of c)) (told (control.critical e n stat) l c)
  critical_meets n stat l c r h =
      let A : List ℤ = failed_image ∷ [] in
      let T : Parts Act = dropping (optional_size stat) in
      let K : Core → Outcome Core = told (settling stat 1 A ▸ T) l in
      stat_first (Lies c) stat (λ g. asking (asked.Enter n) ▹ (λ q. number_in q ▹ settle stat g A)) l c
      (told (doing (ask (a.enter_critical n) ∷ []) ▸ settling stat 1 A ▸ T) l) r h
      (λ g z i k. ((λ q. K (with_status q (put_target c g z))), refl, λ q. entered_meets stat g i l z c k q))

  -- SYNC TEAM, of the team beneath the place of the variable
  abbrev near_acts : t.OptionalResult → a.TeamAct → a.AskAct → Parts Act → Parts Act
  near_acts stat x y rest = copying (optional_size stat) 1 ▸ doing (Act.team x ∷ ask y ∷ []) ▸ copying (optional_size stat) 1 ▸ doing
      (ask a.leave ∷ []) ▸ rest

  team_met : (stat : t.OptionalResult) (g : Target) → TargetOf stat g → (n l : ℕ) (z : State) (c : Core) → Kept c.used z
      → Meets (Lies c) ((near_team (pos n) ▹ (λ m. round m arrivals.Sync ▹ settle stat g [])) l z)
      (told (near_acts stat a.near_team a.arrive_sync (settling stat 1 [] ▸ dropping (optional_size stat + 1))) l (with_state z
      (with_target (pushed (pos n) c) g)))
  team_met stat g i n l z c k =
      let T : Parts Act = dropping (optional_size stat + 1) in
      let K : Core → Outcome Core = told (settling stat 1 [] ▸ T) l in
      let V : Core → Outcome Core = told (copying (optional_size stat) 1 ▸ doing (ask a.leave ∷ []) ▸ settling stat 1 [] ▸ T) l in
      let D : Core = with_state z (with_target (pushed (pos n) c) g) in
      let X : Core = pushed (pos n) D in
      let F : ℕ → Does (Unit {0}) = λ m. round m arrivals.Sync ▹ settle stat g [] in
      let R : Core → Outcome Core = told (doing (Act.team a.near_team ∷ ask a.arrive_sync ∷ []) ▸ copying (optional_size stat) 1 ▸ doing
      (ask a.leave ∷ []) ▸ settling stat 1 [] ▸ T) l in
      subst (λ o. Meets (Lies c) ((near_team (pos n) ▹ F) l z) (and_then o R)) (sym (beneath_copied stat g i l (pos n) z c))
      (meets_apart (Lies c) ((near_team (pos n) ▹ F) l z) (of_effect l X (effect_of (Act.team a.near_team) X))
      (told (doing (ask a.arrive_sync ∷ [])) l) V
      (near_first (Lies c) (pos n) F l D (λ d. and_then (told (doing (ask a.arrive_sync ∷ [])) l d) V)
      (λ m same. arrived m same)))
    where
      arrived : (m : ℕ) → pos n ≡ pos m
          → Meets (Lies c) ((round m arrivals.Sync ▹ settle stat g []) l z)
          (and_then (told (doing (ask a.arrive_sync ∷ [])) l (pushed (pos m) (with_state z (with_target (pushed (pos n) c) g))))
          (told (copying (optional_size stat) 1 ▸ doing (ask a.leave ∷ []) ▸ settling stat 1 [] ▸ dropping (optional_size stat + 1)) l))
      arrived m same = subst (λ w. Meets (Lies c) ((round m arrivals.Sync ▹ settle stat g []) l z)
          (and_then (told (doing (ask a.arrive_sync ∷ [])) l (pushed (pos m) (with_state z (with_target (pushed w c) g))))
          (told (copying (optional_size stat) 1 ▸ doing (ask a.leave ∷ []) ▸ settling stat 1 [] ▸ dropping (optional_size stat + 1)) l)))
          (sym same)
          (let T : Parts Act = dropping (optional_size stat + 1) in
          let K : Core → Outcome Core = told (settling stat 1 [] ▸ T) l in
          let V : Core → Outcome Core = told (copying (optional_size stat) 1 ▸ doing (ask a.leave ∷ []) ▸ settling stat 1 [] ▸ T) l in
          round_meets (Lies c) m l V K (with_state z (with_target (pushed (pos m) c) g))
          (λ q. ap (λ o. and_then o (told (doing (ask a.leave ∷ []) ▸ settling stat 1 [] ▸ T) l)) (beneath_copied stat g i l (pos m) z
          (record c { round = round_in q })))
          (settle stat g [])
          (λ s j fs.
          let E : Core = record c { round = Some j; formed = fitting (2 * z.images) fs } in
          settle_meets stat g i [] T s l z c (pushed (pos m) E) (Some j) (fitting (2 * z.images) fs) c.used k
          (λ y. target_dropped_with_one stat g i l (pos m) y E)) arrivals.Sync _ refl)

  pub sync_team_meets : (x : t.Expression) (stat : t.OptionalResult) (l : ℕ) (c : Core) → HasRoom 64 c → IsCovered x → ResultWithin 64 stat
      → Meets (Lies c) (sync_team limit e calls x stat l (state_of c)) (told (control.sync_team e x stat) l c)
  sync_team_meets x stat l c r h w =
      let N : Parts Act = near_acts stat a.near_team a.arrive_sync (settling stat 1 [] ▸ dropping (optional_size stat + 1)) in
      let G : ℕ → Target → Does (Unit {0}) = λ n g. near_team (pos n) ▹ (λ m. round m arrivals.Sync ▹ settle stat g []) in
      let F : ℕ → Does (Unit {0}) = λ n. optional_target e calls stat ▹ G n in
      number_first (Lies c) x (λ v. near_team v ▹ F) l c (told (doing (Act.team a.near_team ∷ []) ▸ optional_place e stat ▸ N) l) r h
      (λ v z k. meets_apart (Lies c) ((near_team v ▹ F) l z) (of_effect l (pushed v (with_state z c)) (effect_of (Act.team a.near_team)
      (pushed v (with_state z c))))
      (told end_parts l) (told (optional_place e stat ▸ N) l)
      (near_first (Lies c) v F l (with_state z c) (told (optional_place e stat ▸ N) l)
      (λ n same. stat_first (Lies c) stat (G n) l (pushed (pos n) (with_state z c)) (told N l) (room_beside 64 c z r k) w
      (λ g y i j. team_met stat g i n l y c (kept_more c.used z y k j)))))
