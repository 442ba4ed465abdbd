-- What is known of the steps of code is known of its lines.
use Rattle.std.proofs.Common.{◌≡◌, ℕ, ◌<◌, ◌≤◌, length, List, sym, subst, arith, get_or}
use Rattle.std.proofs.lemmas.Option.{get_or_from_slice_get, slice_get-get_or, slice_get_within}
use Rattle.std.specs.Prelude.{Some, slice_get, slice_index_or}
use Rattle.walk_theory.specs.Code.{on}
use Rattle.image_code.specs.Code.{Program, code_of}
use Rattle.image_code.specs.Table.{instr_of}
use Rattle.image_code.specs.declared.step.Step.{Step}
use Rattle.image_code.proofs.GoodCode.{step_of}
use Rattle.image_machine.specs.Walk.{IsPlain, ArePlain}
use Rattle.image_machine.proofs.Fetch.{lines_get}
use Rattle.checked_run.specs.Doing.{Does, DoesAll, IsUndone}

-- the machine does this step, whatever its texts are
pub record IsKnown (s : Step) : Type 0 where
  pub plain : IsPlain s
  pub does : (texts : List (List ℕ)) → Does (instr_of texts s)

pub known_there : (ts ss : List Step) (k : ℕ) (d : Step) → ts ≡ ss → IsKnown (get_or ts k d) → (s : Step) → slice_get ss k ≡ Some s → IsKnown s
known_there ts ss k d same h s at = subst IsKnown (subst (λ xs. get_or xs k d ≡ s) (sym same) (get_or_from_slice_get ss k s d at)) h

pub undone_there : (q : Program) (ts : List Step) (k : ℕ) (d : Step) (line : ℕ) → ts ≡ q.steps → k < length ts
    → ((texts : List (List ℕ)) → Does (instr_of texts (get_or ts k d)) → ⊥) → line ≡ slice_index_or q.lines k 0 → IsUndone (code_of q) k line
undone_there q ts k d line same inside not_done at_line =
    let at : slice_get q.steps k ≡ Some (get_or ts k d) = subst (λ xs. slice_get xs k ≡ Some (get_or ts k d)) same (slice_get-get_or ts k d inside) in
    record {
      it = on (slice_index_or q.lines k 0) (instr_of q.tables.texts (get_or ts k d));
      there = lines_get q.tables.texts q.steps q.lines k (get_or ts k d) at;
      undone = not_done q.tables.texts;
      at_line = sym at_line;
    }

module _ (q : Program) (ts : List Step) (n : ℕ) (same : ts ≡ q.steps) (past : length ts ≤ n) (known : (k : ℕ) → k < n → (s : Step) → slice_get q.steps k ≡ Some s → IsKnown s) where
  known_at : (k : ℕ) (s : Step) → slice_get q.steps k ≡ Some s → IsKnown s
  known_at k s at =
      let inside : k < length ts = subst (λ xs. k < length xs) (sym same) (slice_get_within q.steps k s at) in
      known k (omega arith) s at

  pub all_known : ArePlain q.steps × DoesAll (code_of q)
  all_known = (
    λ k s at. (known_at k s at).plain,
    λ k it at. (let x = step_of q.tables.texts q.steps q.lines k it at in subst Does x.2 ((known_at k x.0 x.1).does q.tables.texts)),
  )
