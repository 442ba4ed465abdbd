-- What is known of each image control statement and of its parts.
use Rattle.std.proofs.Common.{◌≡◌, refl, ℕ, zero, suc, ◌+◌, nat_le, ℤ, pos, false, cond, List, [], ◌∷◌, length}
use Rattle.caf_events.specs.declared.ask.Ask.TheVariants as asked
use Rattle.caf_events.specs.declared.round.Arriving.TheVariants as arrivals
use Rattle.walk_theory.specs.Syntax.{Parts}
use Rattle.checked_tree.specs.Expressions as t
use Rattle.checked_tree.specs.Statements as s
use Rattle.image_acts.specs.Statuses.{failed_image, bad_argument}
use Rattle.image_acts.specs.Acts as a
use Rattle.image_acts.specs.Acts.{Act, stack, bounded, selector, ask}
use Rattle.image_acts.specs.Core.{Core}
use Rattle.image_acts.specs.Teams.{are_indices_of, counted_from}
use Rattle.image_acts.specs.Operate.Asking.{named}
use Rattle.tree_meaning.specs.Environment.{Environment}
use Rattle.tree_meaning.specs.Sequences.{◌▸◌, doing, dropping, pushing, copying, choosing, takes}
use Rattle.tree_meaning.specs.Expressions.{expression, optional_place, optional_size}
use Rattle.tree_meaning.specs.Assignments.{rank_in}
use Rattle.tree_meaning.specs.Settling.{settling}
use Rattle.tree_meaning.specs.ImageControl as control
use Rattle.tree_meaning.specs.Forms as walk
use Rattle.direct_meaning.specs.States.{state_of}
use Rattle.direct_meaning.specs.Outcomes.{Does, giving, nothing_said, ◌▹◌, asking}
use Rattle.direct_meaning.specs.Told.{told}
use Rattle.direct_meaning.specs.Values.{Value, number, array, as_number}
use Rattle.direct_meaning.specs.Images.{the, members, current_team}
use Rattle.direct_meaning.specs.Expressions.{Passed, Target, value, optional_target}
use Rattle.direct_meaning.specs.Synchronizing.{settle, round, number_in, near_team}
use Rattle.direct_meaning.specs.Statements.{num, of_rank, elements_of, ranked, every_image, image_set, paired, sync_all, sync_memory, sync_images, sync_team, enter_critical, form}
use Rattle.direct_agreement.specs.Agreeing.{HasSpare}
use Rattle.direct_laws.specs.Laws.{IsCovered, ResultWithin}
use Rattle.direct_released.specs.Laws.{IsFree, parts_in}
use Rattle.direct_released.proofs.Quiet.{IsQuiet, q_then, q_giving, q_cond, q_asking, q_number, neither}
use Rattle.direct_released.proofs.QuietSteps.{q_the}
use Rattle.direct_released.proofs.QuietTrees.{quiet_value, quiet_target}
use Rattle.direct_control.specs.Meeting.{Meets, Lies}
use Rattle.direct_control.specs.Laws.{AreImages, IsControl, ControlLaw}
use Rattle.direct_control.proofs.Control.{sync_all_meets, sync_memory_meets, critical_meets, sync_team_meets}
use Rattle.direct_control.proofs.Pairs.{sync_images_meets}
use Rattle.direct_control.proofs.Quiet.{q_settle, q_round, q_number_in, q_near_team}
use Rattle.direct_control.proofs.Freed.{Performs, released_meets, simply_meets}

q_rank : (r : ℕ) (v : Value) → IsQuiet (of_rank r v)
q_rank zero (number v) = λ l z. (refl, refl)
q_rank zero (array w) = λ l z. tt
q_rank (suc r) (number v) = λ l z. tt
q_rank (suc r) (array w) = λ l z. (refl, refl)

module _ (limit : ℕ) (e : Environment) (calls : ℕ → List Passed → Does Value) (l : ℕ) where
  q_target : (n : ℕ) (stat : t.OptionalResult) (p : Parts Act) → ResultWithin n stat → takes (optional_place e stat ▸ p) ≡ false
      → IsQuiet (optional_target e calls stat)
  q_target n stat p h q = quiet_target e calls n stat h (neither (takes (optional_place e stat)) (takes p) q).0

  pub sync_all_performs : (stat : t.OptionalResult) → ResultWithin 64 stat → Performs (sync_all limit e calls stat)
      (control.sync_all e stat) l
  sync_all_performs stat h = record {
    quiet = λ q. q_then (optional_target e calls stat) (λ g. the current_team ▹ (λ i. round i arrivals.Sync ▹ settle stat g []))
        (q_target 64 stat (control.round (doing (ask a.arrive_sync ∷ [])) ▸ settling stat 1 [] ▸ dropping (optional_size stat)) h q)
        (λ g. q_then (the current_team) (λ i. round i arrivals.Sync ▹ settle stat g []) (q_the current_team)
        (λ i. q_then (round i arrivals.Sync) (settle stat g []) (q_round i arrivals.Sync) (q_settle stat g [])));
    meets = λ c r. sync_all_meets limit e calls stat l c r h;
  }

  pub sync_memory_performs : (stat : t.OptionalResult) → ResultWithin 64 stat → Performs (sync_memory limit e calls stat)
      (control.sync_memory e stat) l
  sync_memory_performs stat h = record {
    quiet = λ q. q_then (optional_target e calls stat) (λ g. asking asked.Memory ▹ (λ r. settle stat g [] (pos 0)))
        (q_target 64 stat (doing (ask a.memory ∷ []) ▸ pushing (pos 0) ▸ settling stat 1 [] ▸ dropping (optional_size stat)) h q)
        (λ g. q_then (asking asked.Memory) (λ r. settle stat g [] (pos 0)) (q_asking asked.Memory) (λ r. q_settle stat g [] (pos 0)));
    meets = λ c r. sync_memory_meets limit e calls stat l c r h;
  }

  pub critical_performs : (n : ℕ) (stat : t.OptionalResult) → ResultWithin 64 stat
      → Performs (enter_critical limit e calls n stat) (control.critical e n stat) l
  critical_performs n stat h =
      let A : List ℤ = failed_image ∷ [] in
      record {
        quiet = λ q. q_then (optional_target e calls stat) (λ g. asking (asked.Enter n) ▹ (λ r. number_in r ▹ settle stat g A))
            (q_target 64 stat (doing (ask (a.enter_critical n) ∷ []) ▸ settling stat 1 A ▸ dropping (optional_size stat)) h q)
            (λ g. q_then (asking (asked.Enter n)) (λ r. number_in r ▹ settle stat g A) (q_asking (asked.Enter n))
            (λ r. q_then (number_in r) (settle stat g A) (q_number_in r) (q_settle stat g A)));
        meets = λ c r. critical_meets limit e calls n stat l c r h;
      }

  -- SYNC IMAGES
  -- parts of a set that take no cell
  index_takes : (r : ℕ) (x : t.Expression) → takes (control.index_set e r x) ≡ false → takes (expression e x) ≡ false
  index_takes zero x q = (neither (takes (expression e x)) false q).0
  index_takes (suc r) x q = q

  q_images : (is : s.ImageSet) → AreImages is → takes (control.image_set e is) ≡ false → IsQuiet (image_set limit e calls is)
  q_images s.all_images h q =
      q_then (the (λ z. length (members (current_team z) z))) (every_image limit e calls)
      (q_the (λ z. length (members (current_team z) z)))
      (λ n. q_cond (nat_le n 256) (giving (counted_from 1 n)) nothing_said (q_giving (counted_from 1 n)) (λ m z. tt))
  q_images (s.images x) h q =
      q_then (ranked limit e calls x) (λ v. giving (elements_of v))
      (q_then (value e calls x) (of_rank (rank_in x)) (quiet_value e calls 64 x h (index_takes (rank_in x) x q)) (q_rank (rank_in x)))
      (λ v. q_giving (elements_of v))

  q_paired : (vs : List ℤ) → IsQuiet (paired limit e calls vs)
  q_paired vs =
      let G : List ℕ → Does ℤ = λ ms. asking (asked.Pair (named ms vs)) ▹ (λ r. asking asked.Unpair ▹ number_in) in
      q_then (the (λ z. members (current_team z) z)) (λ ms. cond (are_indices_of (length ms) vs) (G ms) (giving bad_argument))
      (q_the (λ z. members (current_team z) z))
      (λ ms. q_cond (are_indices_of (length ms) vs) (G ms) (giving bad_argument)
      (q_then (asking (asked.Pair (named ms vs))) (λ r. asking asked.Unpair ▹ number_in) (q_asking (asked.Pair (named ms vs)))
      (λ r. q_then (asking asked.Unpair) number_in (q_asking asked.Unpair) q_number_in)) (q_giving bad_argument))

  abbrev pair_parts : t.OptionalResult → Parts Act
  pair_parts stat = doing (bounded a.are_indices ∷ []) ▸ choosing (doing (ask a.pair ∷ ask a.unpair ∷ []))
      (doing (stack a.drop_array ∷ []) ▸ pushing bad_argument) ▸ settling stat 1 [] ▸ dropping (optional_size stat)

  pub sync_images_performs : (is : s.ImageSet) (stat : t.OptionalResult) → AreImages is → ResultWithin 21 stat
      → Performs (sync_images limit e calls is stat) (control.sync_images e is stat) l
  sync_images_performs is stat h w =
      let F : List ℤ → Target → Does (Unit {0}) = λ vs g. paired limit e calls vs ▹ settle stat g [] in
      record {
        quiet = λ q.
            let i = neither (takes (control.image_set e is)) (takes (optional_place e stat ▸ pair_parts stat)) q in
            q_then (image_set limit e calls is) (λ vs. optional_target e calls stat ▹ F vs) (q_images is h i.0)
            (λ vs. q_then (optional_target e calls stat) (F vs) (q_target 21 stat (pair_parts stat) w i.1)
            (λ g. q_then (paired limit e calls vs) (settle stat g []) (q_paired vs) (q_settle stat g [])));
        meets = λ c r. sync_images_meets limit e calls is stat l c r h w;
      }

  -- SYNC TEAM
  q_num : (x : t.Expression) → IsCovered x → takes (expression e x) ≡ false → IsQuiet (num limit e calls x)
  q_num x h q = q_then (value e calls x) as_number (quiet_value e calls 64 x h q) q_number

  abbrev team_parts : t.OptionalResult → Parts Act
  team_parts stat = copying (optional_size stat) 1 ▸ doing (Act.team a.near_team ∷ ask a.arrive_sync ∷ []) ▸ copying
      (optional_size stat) 1 ▸ doing (ask a.leave ∷ []) ▸ settling stat 1 [] ▸ dropping (optional_size stat + 1)

  pub sync_team_performs : (x : t.Expression) (stat : t.OptionalResult) → IsCovered x → ResultWithin 64 stat
      → Performs (sync_team limit e calls x stat) (control.sync_team e x stat) l
  sync_team_performs x stat h w =
      let R : Target → ℕ → Does (Unit {0}) = λ g m. round m arrivals.Sync ▹ settle stat g [] in
      let G : ℕ → Target → Does (Unit {0}) = λ n g. near_team (pos n) ▹ R g in
      let F : ℕ → Does (Unit {0}) = λ n. optional_target e calls stat ▹ G n in
      record {
        quiet = λ q.
            let i = neither (takes (expression e x)) (takes (optional_place e stat ▸ team_parts stat)) q in
            q_then (num limit e calls x) (λ v. near_team v ▹ F) (q_num x h i.0)
            (λ v. q_then (near_team v) F (q_near_team v)
            (λ n. q_then (optional_target e calls stat) (G n) (q_target 64 stat (team_parts stat) w i.1)
            (λ g. q_then (near_team (pos n)) (R g) (q_near_team (pos n))
            (λ m. q_then (round m arrivals.Sync) (settle stat g []) (q_round m arrivals.Sync) (q_settle stat g [])))));
        meets = λ c r. sync_team_meets limit e calls x stat l c r h w;
      }

-- the law
module _ (limit : ℕ) (e : Environment) (calls : ℕ → List Passed → Does Value) (l n : ℕ) (c : Core) (r : HasSpare c) (b : IsFree c) where
  statement_meets : (f : s.StatementForm) → IsControl f
      → Meets (Lies c) (form limit e calls l f n l (state_of c)) (told (parts_in (walk.form e l f)) l c)
  statement_meets (s.sync_all stat) h =
      simply_meets (sync_all limit e calls stat) (control.sync_all e stat) l n (sync_all_performs limit e calls l stat h) c r b
  statement_meets (s.sync_memory stat) h =
      simply_meets (sync_memory limit e calls stat) (control.sync_memory e stat) l n (sync_memory_performs limit e calls l stat h) c r b
  statement_meets (s.sync_images is stat) h =
      simply_meets (sync_images limit e calls is stat) (control.sync_images e is stat) l n
      (sync_images_performs limit e calls l is stat h.0 h.1) c r b
  statement_meets (s.sync_team x stat) h =
      simply_meets (sync_team limit e calls x stat) (control.sync_team e x stat) l n
      (sync_team_performs limit e calls l x stat h.0 h.1) c r b
  statement_meets f h = elim h [ ]

pub control_law : ControlLaw
control_law limit e calls l n c r b = (
  statement_meets limit e calls l n c r b,
  λ k stat h. released_meets (enter_critical limit e calls k stat) (control.critical e k stat) l
      (critical_performs limit e calls l k stat h) c r b,
)
