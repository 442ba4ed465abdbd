-- The walk of a program from its start: it is in order, and over only behind a step that ended its image, or behind
-- FAIL IMAGE.
use Rattle.std.proofs.Common.{ℕ, refl, arith}
use Rattle.std.specs.Prelude.{None}
use Rattle.walk_theory.specs.Syntax.{body_of}
use Rattle.checked_tree.specs.Statements as s
use Rattle.tree_meaning.specs.Forms.{bodies}
use Rattle.tree_meaning.specs.Start.{start_of, walk_step}
use Rattle.program_walks.specs.Dues.{owing, GoesInOrder}
use Rattle.program_walks.specs.Ordered.{EndsInOrder}
use Rattle.program_walks.proofs.Frames.{Framed}
use Rattle.program_walks.proofs.Ordered.{body_keeps, body_fits}
use Rattle.program_walks.proofs.Walks.{Clear, goes_in_order, over_behind}
use Rattle.program_walks.proofs.Statements.{bodies_ordered}
use Rattle.program_walks.proofs.Ends.{ended_by}

start_framed : (p : s.Program) (me n : ℕ) → Framed (start_of p me n).tasks (start_of p me n).core
start_framed p me n = record { fits = (refl, tt); left = tt; few = omega arith }

-- the main program's body, the count of END PROGRAM, and its last act
start_clear : (p : s.Program) (me n : ℕ) → Clear (start_of p me n).tasks
start_clear p me n = (λ e. (refl, λ f. (refl, λ g. ((λ x. x, tt), λ r. refl))), tt)

pub program_goes : (p : s.Program) (limit me n : ℕ) → GoesInOrder (walk_step p limit) (start_of p me n)
program_goes p limit me n =
    goes_in_order (body_of (bodies p)) limit (body_keeps (bodies p) (bodies_ordered p)) (body_fits (bodies p) (bodies_ordered p)) (start_of p me n) (start_clear p me n) (start_framed p me n)

pub program_ends : (p : s.Program) (limit me n : ℕ) → EndsInOrder (walk_step p limit) (start_of p me n)
program_ends p limit me n es c answers w o =
    let behind = over_behind (body_of (bodies p)) limit (body_keeps (bodies p) (bodies_ordered p)) (body_fits (bodies p) (bodies_ordered p)) (start_of p me n) (start_clear p me n) (start_framed p me n) es c answers w o in
    ended_by es (owing None) (λ e. absurd (cc)) (program_goes p limit me n es w.0 answers w.1) behind
