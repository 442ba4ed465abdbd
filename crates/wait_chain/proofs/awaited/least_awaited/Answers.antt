use Rattle.std.proofs.Common.{sym, subst}
use Rattle.wait_chain.specs.Awaited.{awaits, is_it, IsLeast}
use Rattle.wait_chain.proofs.awaited.least_awaited.Goals as goal

pub returns-in-Unlock : goal.returns-in-Unlock
returns-in-Unlock c =
    subst (λ a. IsLeast (awaits c.args.n c.args.before.now c.args.image a) c.args.n c.of_run.result) (sym c.in-Unlock.is)
    (subst (λ h. IsLeast (is_it h) c.args.n c.of_run.result) c.lock_holder.ensures c.of_run.ensures)

pub returns-in-Exit : goal.returns-in-Exit
returns-in-Exit c =
    subst (λ a. IsLeast (awaits c.args.n c.args.before.now c.args.image a) c.args.n c.of_run-in-Exit.result) (sym c.in-Exit.is)
    (subst (λ h. IsLeast (is_it h) c.args.n c.of_run-in-Exit.result) c.inside.ensures c.of_run-in-Exit.ensures)
