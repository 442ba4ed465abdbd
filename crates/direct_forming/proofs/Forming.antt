-- FORM TEAM (ISO/IEC 1539-1:2018, 11.6.9): its acts meet what it does.
use Rattle.std.proofs.Common.{◌≡◌, refl, ap, sym, subst, ℕ, ◌+◌, ◌*◌, ℤ, pos, false, List, [], ◌∷◌, ◌++◌, map, Option, None, Some}
use Rattle.caf_events.specs.declared.reply.FormedTeam.{FormedTeam}
use Rattle.caf_events.specs.declared.reply.Reply.{Reply}
use Rattle.caf_events.specs.declared.reply.Reply.TheVariants as replies
use Rattle.caf_events.specs.declared.round.Arriving.TheVariants as arrivals
use Rattle.caf_events.specs.declared.ask.Ask.{Ask}
use Rattle.caf_events.specs.declared.ask.Ask.TheVariants as asked
use Rattle.walk_theory.specs.Syntax.{Parts}
use Rattle.checked_tree.specs.declared.data.Local.{Local}
use Rattle.checked_tree.specs.declared.expr.WrittenOrder.{WrittenOrder}
use Rattle.checked_tree.specs.declared.expr.WrittenOrder.TheVariants as orders
use Rattle.checked_tree.specs.Expressions as t
use Rattle.image_acts.specs.Acts as a
use Rattle.image_acts.specs.Acts.{Act, Scope, selector, ask}
use Rattle.image_acts.specs.Core.{Core, Team, pushed}
use Rattle.image_acts.specs.Replies.{fitting}
use Rattle.tree_meaning.specs.Environment.{Environment, scope_of}
use Rattle.tree_meaning.specs.Sequences.{◌▸◌, doing, dropping, copying, pushing, bringing, takes}
use Rattle.tree_meaning.specs.Expressions.{expression, optional_size, optional_place}
use Rattle.tree_meaning.specs.Settling.{settling}
use Rattle.tree_meaning.specs.ImageControl as control
use Rattle.direct_meaning.specs.States.{State, state_of, with_state}
use Rattle.direct_meaning.specs.Outcomes.{Outcome, done, and_then, Does, giving, ◌▹◌, asking, changing}
use Rattle.direct_meaning.specs.Told.{told}
use Rattle.direct_meaning.specs.Values.{Value, as_number, set_scalar}
use Rattle.direct_meaning.specs.Images.{the, team, current_team}
use Rattle.direct_meaning.specs.Expressions.{Passed, Target, value, as_written, optional_target}
use Rattle.direct_meaning.specs.Synchronizing.{settle, round_of, left_formed, form_round, formed_in, team_of_image, set_team, know_teams, note_teams}
use Rattle.direct_meaning.specs.Statements.{num, or_number, form_team}
use Rattle.direct_agreement.specs.Agreeing.{HasRoom}
use Rattle.direct_agreement.proofs.Agreement.{Kept, kept_more, room_beside}
use Rattle.direct_access.proofs.Owners.{TargetOf, none, whole, part, with_target}
use Rattle.direct_laws.specs.Laws.{IsCovered, OptionWithin, ResultWithin}
use Rattle.direct_laws.proofs.Subscripts.{put_target}
use Rattle.direct_released.proofs.Quiet.{IsQuiet, q_then, q_giving, q_asking, q_number, neither}
use Rattle.direct_released.proofs.QuietSteps.{q_the, q_set_scalar, q_written}
use Rattle.direct_released.proofs.QuietTrees.{quiet_value, quiet_target}
use Rattle.direct_hidden.specs.Hiding.{IsBlind}
use Rattle.direct_hidden.specs.Laws.{AreBlind}
use Rattle.direct_hidden.proofs.Blind.{b_then, b_giving, b_asking, b_the, b_set_scalar, b_changing}
use Rattle.direct_hidden.proofs.BlindSteps.{b_current_team, b_written}
use Rattle.direct_hidden.proofs.BlindTrees.{blind_target}
use Rattle.direct_hidden.proofs.BlindStatements.{b_num, b_or_number}
use Rattle.direct_control.specs.Meeting.{Meets, Lies}
use Rattle.direct_control.proofs.Meeting.{meets_apart}
use Rattle.direct_control.proofs.Settling.{target_dropped_with_two}
use Rattle.direct_control.proofs.Rounds.{departed, form_round_meets}
use Rattle.direct_control.proofs.Control.{stat_first, number_first, number_or_first}
use Rattle.direct_control.proofs.Quiet.{q_settle}
use Rattle.direct_control.proofs.Blind.{b_settle}
use Rattle.direct_control.proofs.Freed.{Performs, simply_meets}
use Rattle.direct_forming.specs.Laws.{FormingLaw}
use Rattle.direct_forming.proofs.Noting.{noted_told, team_set, knowing, with_team}

-- the number and the index once more, beneath the place of the variable and the team
two_beneath : (stat : t.OptionalResult) (g : Target) → TargetOf stat g → (l : ℕ) (m k i : ℤ) (y : State) (C : Core)
    → told (copying (optional_size stat + 1) 2) l (pushed m (with_state y (with_target (pushed i (pushed k C)) g)))
    ≡ done (pushed i (pushed k (pushed m (with_state y (with_target (pushed i (pushed k C)) g)))))
two_beneath stat g none l m k i y C = refl
two_beneath stat g (whole u j) l m k i y C = refl
two_beneath stat g (part u x es j w) l m k i y C = refl

-- the index comes beneath the place of the variable
brought : (stat : t.OptionalResult) (g : Target) → TargetOf stat g → (l : ℕ) (i k : ℤ) (C : Core) (w : State)
    → told (bringing 1 (optional_size stat)) l (pushed i (with_state w (with_target (pushed k C) g)))
    ≡ done (with_state w (with_target (pushed i (pushed k C)) g))
brought stat g none l i k C w = refl
brought stat g (whole u j) l i k C w = refl
brought stat g (part u x es j q) l i k C w = refl

-- the round, and what comes behind it
module _ (stat : t.OptionalResult) (g : Target) (i : TargetOf stat g) (l : ℕ) (s : Scope) (x : ℕ) (c : Core) where
  abbrev T : Parts Act
  T = dropping (optional_size stat + 2)

  abbrev K : Core → Outcome Core
  K = told (doing (Act.team (a.note_teams s x) ∷ []) ▸ settling stat 1 [] ▸ T) l

  abbrev over_both : ℤ → ℤ → State → Core → Core
  over_both k n y d = with_state y (with_target (pushed n (pushed k d)) g)

  abbrev notes : ℤ × ℕ × List FormedTeam → Does (Unit {0})
  notes f = note_teams s x f.1 f.2 ▹ (λ u. settle stat g [] f.0)

  noted : (k n : ℤ) (y : State) → Kept c.used y → (v : ℤ) (j : ℕ) (fs : List FormedTeam)
      → Meets (Lies c) (notes (v, j, fitting (2 * y.images) fs) l y) (K (departed (over_both k n y c) v j fs))
  noted k n y kept v j fs =
      let F : List FormedTeam = fitting (2 * y.images) fs in
      let ks : List Team = map (formed_in (current_team y) j) F in
      let z : State = record y { known = ks ++ y.known } in
      let C : Core = pushed n (pushed k (record c { round = Some j; formed = [] })) in
      let R : Core → Outcome Core = told (settling stat 1 [] ▸ T) l in
      subst (λ o. Meets (Lies c) (notes (v, j, F) l y) (and_then o R)) (sym (noted_told s x l (pushed v (over_both k n y c)) j F))
      (team_set stat g i T l s x c C (Some j) [] (λ w. target_dropped_with_two stat g i l k n w (record c { round = Some j; formed = [] }))
      v (team_of_image y.me ks) z kept)

  pub formed_met : (k n : ℤ) (y : State) → Kept c.used y
      → Meets (Lies c) ((the current_team ▹ (λ m. form_round m k n ▹ notes)) l y)
      (told (control.round (copying (optional_size stat + 1) 2 ▸ doing (ask a.arrive_form ∷ [])) ▸ doing
      (Act.team (a.note_teams s x) ∷ []) ▸
      settling stat 1 [] ▸ T) l (over_both k n y c))
  formed_met k n y kept =
      let m : ℕ = current_team y in
      let D : Core = over_both k n y c in
      let V : Core → Outcome Core = told (doing (selector a.this_team ∷ ask a.leave ∷ [])) l in
      let A : Core → Outcome Core = told (doing (ask a.arrive_form ∷ [])) l in
      form_round_meets (Lies c) m l (λ d. and_then (V d) K) K D (λ q. refl) notes (noted k n y kept) k n _
      (ap (λ o. and_then (and_then (and_then o A) V) K) (two_beneath stat g i l (pos m) k n y c))

module _ (limit : ℕ) (e : Environment) (calls : ℕ → List Passed → Does Value) where
  -- the new index and the variable of STAT=, as they are written
  module _ (stat : t.OptionalResult) (within : ResultWithin 64 stat) (l : ℕ) (s : Scope) (x : ℕ) (c : Core) (room : HasRoom 64 c) where
    abbrev rest : Parts Act
    rest = control.round (copying (optional_size stat + 1) 2 ▸ doing (ask a.arrive_form ∷ [])) ▸ doing (Act.team (a.note_teams s x) ∷ []) ▸
        settling stat 1 [] ▸ dropping (optional_size stat + 2)

    abbrev forms : ℤ → ℤ → Target → Does (Unit {0})
    forms k n g = the current_team ▹ (λ m. form_round m k n ▹ (λ f. note_teams s x f.1 f.2 ▹ (λ u. settle stat g [] f.0)))

    by_order : (index : t.OptionalExpression) (order : WrittenOrder) → OptionWithin 64 index → (k : ℤ) (y : State) → Kept c.used y
        → Meets (Lies c) (as_written order (or_number limit e calls index (pos 0)) (optional_target e calls stat) (forms k) l y)
        (told (control.put_down_as_written order (control.or_number e index (pushing (pos 0))) 1 (optional_place e stat)
        (optional_size stat) ▸ rest)
        l (pushed k (with_state y c)))
    by_order index orders.Same h k y kept =
        let C : Core = pushed k (with_state y c) in
        let W : Core → Outcome Core = told rest l in
        let O : Core → Outcome Core = told (optional_place e stat) l in
        let F : ℤ → Does (Unit {0}) = λ n. optional_target e calls stat ▹ forms k n in
        meets_apart (Lies c) ((or_number limit e calls index (pos 0) ▹ F) l y) (told (control.or_number e index (pushing (pos 0))) l C) O W
        (number_or_first limit e calls (Lies c) index (pos 0) F l C (λ d. and_then (O d) W) (room_beside 64 c y room kept) h
        (λ n z j. stat_first limit e calls (Lies c) stat (forms k n) l (pushed n (with_state z C)) W
        (room_beside 64 c z room (kept_more c.used y z kept j)) within
        (λ g w i b. formed_met stat g i l s x c k n w (kept_more c.used z w (kept_more c.used y z kept j) b))))
    by_order index orders.Reversed h k y kept =
        let C : Core = pushed k (with_state y c) in
        let W : Core → Outcome Core = told rest l in
        let N : Core → Outcome Core = told (control.or_number e index (pushing (pos 0))) l in
        let B : Core → Outcome Core = told (bringing 1 (optional_size stat)) l in
        let F : Target → ℤ → Does (Unit {0}) = λ g n. forms k n g in
        let G : Target → Does (Unit {0}) = λ g. or_number limit e calls index (pos 0) ▹ F g in
        meets_apart (Lies c) ((optional_target e calls stat ▹ G) l y) (told (optional_place e stat) l C) (λ d. and_then (N d) B) W
        (stat_first limit e calls (Lies c) stat G l C (λ d. and_then (and_then (N d) B) W) (room_beside 64 c y room kept) within
        (λ g z i j.
        let E : Core = put_target C g z in
        meets_apart (Lies c) (G g l z) (N E) B W
        (number_or_first limit e calls (Lies c) index (pos 0) (F g) l E (λ d. and_then (B d) W)
        (room_beside 64 c z room (kept_more c.used y z kept j)) h
        (λ n w b. subst (λ o. Meets (Lies c) (F g n l w) (and_then o W)) (sym (brought stat g i l n k c w))
        (formed_met stat g i l s x c k n w (kept_more c.used z w (kept_more c.used y z kept j) b))))))

  form_team_meets : (x : t.Expression) (v : Local) (index : t.OptionalExpression) (stat : t.OptionalResult) (order : WrittenOrder) (l : ℕ)
      (c : Core) → HasRoom 64 c → IsCovered x → OptionWithin 64 index → ResultWithin 64 stat
      → Meets (Lies c) (form_team limit e calls x v index stat order l (state_of c)) (told (control.form_team e x v index stat order) l c)
  form_team_meets x v index stat order l c r h w q =
      let S : Scope = scope_of v.home in
      let F : ℤ → Does (Unit {0}) = λ k. as_written order (or_number limit e calls index (pos 0)) (optional_target e calls stat) (λ i g.
      the current_team ▹ (λ n. form_round n k i ▹ (λ f. note_teams S v.variable f.1 f.2 ▹ (λ u. settle stat g [] f.0)))) in
      let P : Parts Act = control.put_down_as_written order (control.or_number e index (pushing (pos 0))) 1 (optional_place e stat)
      (optional_size stat) ▸ control.round (copying (optional_size stat + 1) 2 ▸ doing (ask a.arrive_form ∷ [])) ▸
      doing (Act.team (a.note_teams S v.variable) ∷ []) ▸ settling stat 1 [] ▸ dropping (optional_size stat + 2) in
      number_first limit e calls (Lies c) x F l c (told P l) r h (λ k y kept. by_order stat q l S v.variable c r index order w k y kept)

  -- no evaluation cell is taken
  q_left_formed : (k : ℕ) (r : Reply) → IsQuiet (left_formed k r)
  q_left_formed k (replies.Left s fs) = λ l z. (refl, refl)
  q_left_formed k r = λ l z. tt

  q_round_of : (r : Reply) → IsQuiet (round_of r)
  q_round_of (replies.Round n) = λ l z. (refl, refl)
  q_round_of (replies.Clash i m) = λ l z. tt
  q_round_of r = λ l z. tt

  q_form_round : (n : ℕ) (k i : ℤ) → IsQuiet (form_round n k i)
  q_form_round n k i =
      let A : Ask = asked.Arrive (team n) (arrivals.Form k i) in
      q_then (asking A) (λ r. round_of r ▹ (λ j. asking (asked.Leave (team n) j) ▹ left_formed j)) (q_asking A)
      (λ r. q_then (round_of r) (λ j. asking (asked.Leave (team n) j) ▹ left_formed j) (q_round_of r)
      (λ j. q_then (asking (asked.Leave (team n) j)) (left_formed j) (q_asking (asked.Leave (team n) j)) (q_left_formed j)))

  q_set_team : (s : Scope) (x : ℕ) (o : Option Team) → IsQuiet (set_team s x o)
  q_set_team s x None = λ l z. (refl, refl)
  q_set_team s x (Some k) = q_set_scalar s x (pos k.team)

  q_know : (s : Scope) (x : ℕ) (ks : List Team) → IsQuiet (know_teams s x ks)
  q_know s x ks =
      q_then (the (λ z. z.me)) (λ i. changing (λ z. record z { known = ks ++ z.known }) ▹ (λ u. set_team s x (team_of_image i ks)))
      (q_the (λ z. z.me))
      (λ i. q_then (changing (λ z. record z { known = ks ++ z.known })) (λ u. set_team s x (team_of_image i ks)) (λ l z. (refl, refl))
      (λ u. q_set_team s x (team_of_image i ks)))

  q_note_teams : (s : Scope) (x r : ℕ) (fs : List FormedTeam) → IsQuiet (note_teams s x r fs)
  q_note_teams s x r fs =
      q_then (the current_team) (λ n. know_teams s x (map (formed_in n r) fs)) (q_the current_team) (λ n. q_know s x
      (map (formed_in n r) fs))

  q_or_number : (x : t.OptionalExpression) (u : ℤ) → OptionWithin 64 x → takes (control.or_number e x (pushing u)) ≡ false
      → IsQuiet (or_number limit e calls x u)
  q_or_number t.missing u h q = λ l z. (refl, refl)
  q_or_number (t.given x) u h q = q_then (value e calls x) as_number (quiet_value e calls 64 x h q) q_number

  down_takes : (order : WrittenOrder) (p q : Parts Act) (m n : ℕ) → takes (control.put_down_as_written order p m q n) ≡ false
      → (takes p ≡ false) × (takes q ≡ false)
  down_takes orders.Same p q m n h = neither (takes p) (takes q) h
  down_takes orders.Reversed p q m n h =
      let k = neither (takes q) (takes (p ▸ bringing m n)) h in ((neither (takes p) (takes (bringing m n)) k.1).0, k.0)

  pub form_performs : (x : t.Expression) (v : Local) (index : t.OptionalExpression) (stat : t.OptionalResult) (order : WrittenOrder)
      (l : ℕ)
      → IsCovered x → OptionWithin 64 index → ResultWithin 64 stat
      → Performs (form_team limit e calls x v index stat order) (control.form_team e x v index stat order) l
  form_performs x v index stat order l h w r =
      let S : Scope = scope_of v.home in
      let N : Target → ℤ × ℕ × List FormedTeam → Does (Unit {0}) = λ g f. note_teams S v.variable f.1 f.2 ▹ (λ u. settle stat g [] f.0) in
      let R : ℤ → ℤ → Target → Does (Unit {0}) = λ k i g. the current_team ▹ (λ n. form_round n k i ▹ N g) in
      let A : Parts Act = control.or_number e index (pushing (pos 0)) in
      let O : Parts Act = optional_place e stat in
      let W : Parts Act = control.put_down_as_written order A 1 O (optional_size stat) in
      let B : Parts Act = control.round (copying (optional_size stat + 1) 2 ▸ doing (ask a.arrive_form ∷ [])) ▸
      doing (Act.team (a.note_teams S v.variable) ∷ []) ▸ settling stat 1 [] ▸ dropping (optional_size stat + 2) in
      record {
        quiet = λ q.
            let i = neither (takes (expression e x)) (takes (W ▸ B)) q in
            let j = down_takes order A O 1 (optional_size stat) (neither (takes W) (takes B) i.1).0 in
            q_then (num limit e calls x) (λ k. as_written order (or_number limit e calls index (pos 0)) (optional_target e calls stat)
            (R k))
            (q_then (value e calls x) as_number (quiet_value e calls 64 x h i.0) q_number)
            (λ k. q_written order (or_number limit e calls index (pos 0)) (optional_target e calls stat) (R k) (q_or_number index
            (pos 0) w j.0)
            (quiet_target e calls 64 stat r j.1)
            (λ m g. q_then (the current_team) (λ n. form_round n k m ▹ N g) (q_the current_team)
            (λ n. q_then (form_round n k m) (N g) (q_form_round n k m)
            (λ f. q_then (note_teams S v.variable f.1 f.2) (λ u. settle stat g [] f.0) (q_note_teams S v.variable f.1 f.2)
            (λ u. q_settle stat g [] f.0)))));
        meets = λ c room. form_team_meets x v index stat order l c room h w r;
      }

  -- hidden cells mean nothing to it
  b_left_formed : (k : ℕ) (r : Reply) → IsBlind (left_formed k r)
  b_left_formed k (replies.Left s fs) = λ hs l z. (refl, (refl, refl))
  b_left_formed k r = λ hs l z. tt

  b_round_of : (r : Reply) → IsBlind (round_of r)
  b_round_of (replies.Round n) = b_giving n
  b_round_of (replies.Clash i m) = λ hs l z. refl
  b_round_of r = λ hs l z. tt

  b_form_round : (n : ℕ) (k i : ℤ) → IsBlind (form_round n k i)
  b_form_round n k i =
      let A : Ask = asked.Arrive (team n) (arrivals.Form k i) in
      b_then (asking A) (λ r. round_of r ▹ (λ j. asking (asked.Leave (team n) j) ▹ left_formed j)) (b_asking A)
      (λ r. b_then (round_of r) (λ j. asking (asked.Leave (team n) j) ▹ left_formed j) (b_round_of r)
      (λ j. b_then (asking (asked.Leave (team n) j)) (left_formed j) (b_asking (asked.Leave (team n) j)) (b_left_formed j)))

  b_set_team : (s : Scope) (x : ℕ) (o : Option Team) → IsBlind (set_team s x o)
  b_set_team s x None = b_giving tt
  b_set_team s x (Some k) = b_set_scalar s x (pos k.team)

  b_know : (s : Scope) (x : ℕ) (ks : List Team) → IsBlind (know_teams s x ks)
  b_know s x ks =
      b_then (the (λ z. z.me)) (λ i. changing (λ z. record z { known = ks ++ z.known }) ▹ (λ u. set_team s x (team_of_image i ks)))
      (b_the (λ z. z.me) (λ hs z. refl))
      (λ i. b_then (changing (λ z. record z { known = ks ++ z.known })) (λ u. set_team s x (team_of_image i ks))
      (b_changing (λ z. record z { known = ks ++ z.known }) (λ hs z. refl) (λ z. (refl, refl))) (λ u. b_set_team s x (team_of_image i ks)))

  b_note_teams : (s : Scope) (x r : ℕ) (fs : List FormedTeam) → IsBlind (note_teams s x r fs)
  b_note_teams s x r fs =
      b_then (the current_team) (λ n. know_teams s x (map (formed_in n r) fs)) b_current_team (λ n. b_know s x (map (formed_in n r) fs))

  pub b_form_team : AreBlind calls → (x : t.Expression) (v : Local) (index : t.OptionalExpression) (stat : t.OptionalResult)
      (order : WrittenOrder) → IsBlind (form_team limit e calls x v index stat order)
  b_form_team blind x v index stat order =
      let S : Scope = scope_of v.home in
      let N : Target → ℤ × ℕ × List FormedTeam → Does (Unit {0}) = λ g f. note_teams S v.variable f.1 f.2 ▹ (λ u. settle stat g [] f.0) in
      let R : ℤ → ℤ → Target → Does (Unit {0}) = λ k i g. the current_team ▹ (λ n. form_round n k i ▹ N g) in
      b_then (num limit e calls x) (λ k. as_written order (or_number limit e calls index (pos 0)) (optional_target e calls stat) (R k))
      (b_num limit e calls blind x)
      (λ k. b_written order (or_number limit e calls index (pos 0)) (optional_target e calls stat) (R k)
      (b_or_number limit e calls blind index (pos 0)) (blind_target e calls blind stat)
      (λ m g. b_then (the current_team) (λ n. form_round n k m ▹ N g) b_current_team
      (λ n. b_then (form_round n k m) (N g) (b_form_round n k m)
      (λ f. b_then (note_teams S v.variable f.1 f.2) (λ u. settle stat g [] f.0) (b_note_teams S v.variable f.1 f.2)
      (λ u. b_settle stat g [] f.0)))))

pub forming_law : FormingLaw
forming_law limit e calls x v index stat order l n c r b h w q =
    simply_meets (form_team limit e calls x v index stat order) (control.form_team e x v index stat order) l n
    (form_performs limit e calls x v index stat order l h w q) c r b
