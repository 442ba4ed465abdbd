-- What image control statements do, whatever stands in hidden cells.
use Rattle.std.proofs.Common.{◌≡◌, refl, sym, subst, ℕ, zero, suc, ◌||◌, nat_le, nat_lt, ℤ, pos, negsuc, Bool, cond, List, [], ◌∷◌, length, Option, None, Some}
use Rattle.caf_events.specs.declared.ask.Ask.TheVariants as asked
use Rattle.caf_events.specs.declared.reply.Reply.{Reply}
use Rattle.caf_events.specs.declared.reply.Reply.TheVariants as replies
use Rattle.caf_events.specs.declared.round.Arriving.{Arriving}
use Rattle.caf_events.specs.declared.round.Arriving.TheVariants as arrivals
use Rattle.checked_tree.specs.Expressions as t
use Rattle.checked_tree.specs.Statements as s
use Rattle.image_acts.specs.Statuses.{failed_image, bad_argument, most_teams}
use Rattle.image_acts.specs.Faults.{no_team, room}
use Rattle.image_acts.specs.Core.{Team}
use Rattle.image_acts.specs.Teams.{is_in, team_in, behind_first, are_indices_of, counted_from}
use Rattle.image_acts.specs.Operate.Asking.{named}
use Rattle.tree_meaning.specs.Assignments.{rank_in}
use Rattle.tree_meaning.specs.Environment.{Environment}
use Rattle.tree_meaning.specs.Settling.{is_accepted}
use Rattle.tree_meaning.specs.ImageControl.{is_allocatable_in}
use Rattle.direct_meaning.specs.States.{State, own_in}
use Rattle.direct_meaning.specs.Outcomes.{Does, giving, nothing_said, ◌▹◌, asking, unless, of_some, changing}
use Rattle.direct_meaning.specs.Values.{Value, number, array}
use Rattle.direct_meaning.specs.Images.{the, team, current_team, members}
use Rattle.direct_meaning.specs.Expressions.{Passed, Target, value, optional_target}
use Rattle.direct_meaning.specs.Statements.{num, of_rank, elements_of, ranked, every_image, image_set, paired, sync_all, sync_memory, sync_images, sync_team, enter_critical}
use Rattle.direct_meaning.specs.Synchronizing.{ending, settle, round_of, left, round, number_in, is_child, child_team, near_team, enter_team, leave_team, is_of_team, without_own, forget_own, delete_own, delete_made, delete_all, this}
use Rattle.direct_hidden.specs.Hiding.{Alike, IsBlind, with_hidden}
use Rattle.direct_hidden.specs.Laws.{AreBlind}
use Rattle.direct_hidden.proofs.Blind.{b_then, b_giving, b_cond, b_unless, b_some, b_asking, b_the, b_changing}
use Rattle.direct_hidden.proofs.BlindSteps.{b_set_target, b_current_team}
use Rattle.direct_hidden.proofs.BlindTrees.{blind_value, blind_target}
use Rattle.direct_hidden.proofs.BlindStatements.{b_ending, b_num}

pub b_settle : (stat : t.OptionalResult) (g : Target) (accepted : List ℤ) (s : ℤ) → IsBlind (settle stat g accepted s)
b_settle t.no_result g accepted s =
    b_cond (is_accepted accepted s) (giving tt) (ending (asked.ErrorStop s)) (b_giving tt) (b_ending (asked.ErrorStop s))
b_settle (t.result r) g accepted s = b_set_target g s

b_round_of : (r : Reply) → IsBlind (round_of r)
b_round_of (replies.Round n) = b_giving n
b_round_of (replies.Clash i m) = λ hs l z. refl
b_round_of r = λ hs l z. tt

b_left : (r : Reply) → IsBlind (left r)
b_left (replies.Left s fs) = b_giving s
b_left r = λ hs l z. tt

pub b_round : (n : ℕ) (kind : Arriving) → IsBlind (round n kind)
b_round n kind =
    b_then (asking (asked.Arrive (team n) kind)) (λ r. round_of r ▹ (λ k. asking (asked.Leave (team n) k) ▹ left))
    (b_asking (asked.Arrive (team n) kind))
    (λ r. b_then (round_of r) (λ k. asking (asked.Leave (team n) k) ▹ left) (b_round_of r)
    (λ k. b_then (asking (asked.Leave (team n) k)) left (b_asking (asked.Leave (team n) k)) b_left))

pub b_number_in : (r : Reply) → IsBlind (number_in r)
b_number_in (replies.Number s) = b_giving s
b_number_in r = λ hs l z. tt

same_child : (o : Option Team) (hs : List ℤ) (z : State) → is_child o (with_hidden hs z) ≡ is_child o z
same_child None hs z = refl
same_child (Some k) hs z = refl

pub b_near_team : (v : ℤ) → IsBlind (near_team v)
b_near_team (pos n) hs l z =
    let b : Bool = is_child (team_in n z.known) z in
    subst (λ d. Alike hs z (unless no_team (is_in n z.teams || b) (giving n) l z)
    (unless no_team (is_in n z.teams || d) (giving n) l (with_hidden hs z))) (sym (same_child (team_in n z.known) hs z))
    (b_unless no_team (is_in n z.teams || b) (giving n) (b_giving n) hs l z)
b_near_team (negsuc n) hs l z = tt

pub b_child_team : (v : ℤ) → IsBlind (child_team v)
b_child_team (pos n) hs l z =
    let b : Bool = is_child (team_in n z.known) z in
    subst (λ d. Alike hs z (unless no_team b (giving n) l z) (unless no_team d (giving n) l (with_hidden hs z)))
    (sym (same_child (team_in n z.known) hs z)) (b_unless no_team b (giving n) (b_giving n) hs l z)
b_child_team (negsuc n) hs l z = tt

pub b_enter_team : (n : ℕ) → IsBlind (enter_team n)
b_enter_team n = λ hs l z. b_unless room (nat_lt (length z.teams) most_teams) (λ m y. giving tt m (record y { teams = n ∷ y.teams }))
    (λ gs m y. (refl, (refl, refl))) hs l z

pub b_leave_team : IsBlind leave_team
b_leave_team = b_changing (λ s. record s { teams = behind_first s.teams }) (λ hs s. refl) (λ s. (refl, refl))

-- the coarrays of END TEAM
b_forget : (c : ℕ) → IsBlind (forget_own c)
b_forget c = λ hs l z. b_then (of_some (own_in c z)) (λ o. changing (without_own c o)) (b_some (own_in c z))
    (λ o. b_changing (without_own c o) (λ gs y. refl) (λ y. (refl, refl))) hs l z

b_delete : (c : ℕ) → IsBlind (delete_own c)
b_delete c = b_then (the this) (λ i. asking (asked.Delete i c) ▹ (λ r. forget_own c)) (b_the this (λ hs z. refl))
    (λ i. b_then (asking (asked.Delete i c)) (λ r. forget_own c) (b_asking (asked.Delete i c)) (λ r. b_forget c))

b_delete_made : (c : ℕ) → IsBlind (delete_made c)
b_delete_made c = λ hs l z. b_cond (is_of_team (own_in c z) (current_team z)) (delete_own c) (giving tt) (b_delete c) (b_giving tt) hs l z

pub b_delete_all : (e : Environment) (ns : List ℕ) (c : ℕ) → IsBlind (delete_all e ns c)
b_delete_all e [] c = b_giving tt
b_delete_all e (n ∷ ns) c =
    let b : Bool = is_allocatable_in e e.program.main.variables n in
    b_then (cond b (delete_made c) (giving tt)) (λ u. delete_all e ns (suc c))
    (b_cond b (delete_made c) (giving tt) (b_delete_made c) (b_giving tt)) (λ u. b_delete_all e ns (suc c))

-- statements
b_rank : (r : ℕ) (v : Value) → IsBlind (of_rank r v)
b_rank zero (number v) = b_giving (number v)
b_rank zero (array w) = λ hs l z. tt
b_rank (suc r) (number v) = λ hs l z. tt
b_rank (suc r) (array w) = b_giving (array w)

module _ (limit : ℕ) (e : Environment) (calls : ℕ → List Passed → Does Value) (blind : AreBlind calls) where
  pub b_sync_all : (stat : t.OptionalResult) → IsBlind (sync_all limit e calls stat)
  b_sync_all stat =
      b_then (optional_target e calls stat) (λ g. the current_team ▹ (λ i. round i arrivals.Sync ▹ settle stat g []))
      (blind_target e calls blind stat)
      (λ g. b_then (the current_team) (λ i. round i arrivals.Sync ▹ settle stat g []) b_current_team
      (λ i. b_then (round i arrivals.Sync) (settle stat g []) (b_round i arrivals.Sync) (b_settle stat g [])))

  pub b_sync_memory : (stat : t.OptionalResult) → IsBlind (sync_memory limit e calls stat)
  b_sync_memory stat =
      b_then (optional_target e calls stat) (λ g. asking asked.Memory ▹ (λ r. settle stat g [] (pos 0))) (blind_target e calls blind stat)
      (λ g. b_then (asking asked.Memory) (λ r. settle stat g [] (pos 0)) (b_asking asked.Memory) (λ r. b_settle stat g [] (pos 0)))

  pub b_critical : (n : ℕ) (stat : t.OptionalResult) → IsBlind (enter_critical limit e calls n stat)
  b_critical n stat =
      let A : List ℤ = failed_image ∷ [] in
      b_then (optional_target e calls stat) (λ g. asking (asked.Enter n) ▹ (λ r. number_in r ▹ settle stat g A))
      (blind_target e calls blind stat)
      (λ g. b_then (asking (asked.Enter n)) (λ r. number_in r ▹ settle stat g A) (b_asking (asked.Enter n))
      (λ r. b_then (number_in r) (settle stat g A) (b_number_in r) (b_settle stat g A)))

  b_images : (is : s.ImageSet) → IsBlind (image_set limit e calls is)
  b_images s.all_images =
      b_then (the (λ z. length (members (current_team z) z))) (every_image limit e calls) (b_the (λ z. length (members (current_team z) z))
      (λ hs z. refl))
      (λ n. b_cond (nat_le n 256) (giving (counted_from 1 n)) nothing_said (b_giving (counted_from 1 n)) (λ hs m z. tt))
  b_images (s.images x) =
      b_then (ranked limit e calls x) (λ v. giving (elements_of v))
      (b_then (value e calls x) (of_rank (rank_in x)) (blind_value e calls blind x) (b_rank (rank_in x))) (λ v. b_giving (elements_of v))

  b_paired : (vs : List ℤ) → IsBlind (paired limit e calls vs)
  b_paired vs =
      let G : List ℕ → Does ℤ = λ ms. asking (asked.Pair (named ms vs)) ▹ (λ r. asking asked.Unpair ▹ number_in) in
      b_then (the (λ z. members (current_team z) z)) (λ ms. cond (are_indices_of (length ms) vs) (G ms) (giving bad_argument))
      (b_the (λ z. members (current_team z) z) (λ hs z. refl))
      (λ ms. b_cond (are_indices_of (length ms) vs) (G ms) (giving bad_argument)
      (b_then (asking (asked.Pair (named ms vs))) (λ r. asking asked.Unpair ▹ number_in) (b_asking (asked.Pair (named ms vs)))
      (λ r. b_then (asking asked.Unpair) number_in (b_asking asked.Unpair) b_number_in)) (b_giving bad_argument))

  pub b_sync_images : (is : s.ImageSet) (stat : t.OptionalResult) → IsBlind (sync_images limit e calls is stat)
  b_sync_images is stat =
      let F : List ℤ → Target → Does (Unit {0}) = λ vs g. paired limit e calls vs ▹ settle stat g [] in
      b_then (image_set limit e calls is) (λ vs. optional_target e calls stat ▹ F vs) (b_images is)
      (λ vs. b_then (optional_target e calls stat) (F vs) (blind_target e calls blind stat)
      (λ g. b_then (paired limit e calls vs) (settle stat g []) (b_paired vs) (b_settle stat g [])))

  pub b_sync_team : (x : t.Expression) (stat : t.OptionalResult) → IsBlind (sync_team limit e calls x stat)
  b_sync_team x stat =
      let R : Target → ℕ → Does (Unit {0}) = λ g m. round m arrivals.Sync ▹ settle stat g [] in
      let G : ℕ → Target → Does (Unit {0}) = λ n g. near_team (pos n) ▹ R g in
      let F : ℕ → Does (Unit {0}) = λ n. optional_target e calls stat ▹ G n in
      b_then (num limit e calls x) (λ v. near_team v ▹ F) (b_num limit e calls blind x)
      (λ v. b_then (near_team v) F (b_near_team v)
      (λ n. b_then (optional_target e calls stat) (G n) (blind_target e calls blind stat)
      (λ g. b_then (near_team (pos n)) (R g) (b_near_team (pos n))
      (λ m. b_then (round m arrivals.Sync) (settle stat g []) (b_round m arrivals.Sync) (b_settle stat g [])))))
