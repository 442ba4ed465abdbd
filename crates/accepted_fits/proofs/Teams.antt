-- A run has few teams.
use Rattle.std.proofs.Common.{◌≡◌, ℕ, zero, suc, ◌+◌, ◌*◌, ◌/◌, ◌<◌, ◌≤◌, Bool, List, [], ◌∷◌, length, inl, inr, sym, subst, arith}
use Rattle.std.specs.List.{filter}
use Rattle.std.proofs.Math.Nat.{suc-mul, mul_comm, div-mul-le_self}
use Rattle.std.proofs.lemmas.Bool.{cases_Bool}
use Rattle.caf_events.specs.declared.event.Entry.{Entry}
use Rattle.checked_tree.specs.Statements as s
use Rattle.tree_meaning.specs.Start.{start_of, walk_step}
use Rattle.object_rules.specs.BoardTeams.{teams_after}
use Rattle.object_rules.specs.Cells.{Declared}
use Rattle.core_runs.specs.CoreRuns.{IsCoreRun, at_board}
use Rattle.program_walks.specs.Runs.{program_rules, program_begins}
use Rattle.told_walks.specs.Asked.{most_team}
use Rattle.team_counts.proofs.Counts.{teams_few}
use Rattle.stamp_reports.proofs.Runs.{few_entries}

filter_few : {A : Type 0} (p : A → Bool) (xs : List A) → length (filter p xs) ≤ length xs
filter_few p [] = omega arith
filter_few p (x ∷ xs) = let r = filter_few p xs in elim (cases_Bool (p x)) [ inl t ↦ rw t (omega arith) | inr f ↦ rw f (omega arith) ]

pub run_few : (p : s.Program) (limit : ℕ) (coarrays : List Declared) (n : ℕ) (fails_at : ℕ → ℕ) (words : ℕ) (t : List Entry)
    → IsCoreRun (program_rules p limit) (program_begins p coarrays n fails_at words) t
    → n * (2 * words + 4) < most_team → length (teams_after n (at_board t)) ≤ most_team
run_few p limit coarrays n fails_at words t core few =
    let a = teams_few n (at_board t) in
    let b : length (at_board t) ≤ length t = filter_few _ t in
    let c = few_entries (walk_step p limit) (λ l reply. Unit {0}) coarrays n (λ i. start_of p i n) fails_at words t core in
    omega arith

-- ---- the numbers of the command
times : (n q : ℕ) → n * (2 * q + 4) ≡ 2 * (n * q) + 4 * n
times zero q = omega arith
times (suc n) q = let r = times n q in let a = suc-mul n (2 * q + 4) in let b = suc-mul n q in omega arith

far_below : (n product : ℕ) → n ≤ 256 → product ≤ 16777216 → 2 * product + 4 * n < most_team
far_below n product few share = omega arith

pub shares_few : (n : ℕ) → n ≤ 256 → n * (2 * (16777216 / n) + 4) < most_team
shares_few n few =
    let share : n * (16777216 / n) ≤ 16777216 = subst (λ x. x ≤ 16777216) (mul_comm (16777216 / n) n) (div-mul-le_self 16777216 n) in
    subst (λ x. x < most_team) (sym (times n (16777216 / n))) (far_below n (n * (16777216 / n)) few share)
