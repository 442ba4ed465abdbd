use Rattle.std.proofs.Common.{subst, sym}
use Rattle.image_acts.specs.Acts as acts
use Rattle.image_acts.specs.Operate.Variables.{variable_effect}
use Rattle.image_code.specs.Table.{scope_of}
use Rattle.image_state.specs.Acting.{Acts}
use Rattle.array_steps.proofs.values.load.Goals as goal

pub returns-then-rank-eq0 : goal.returns-then-rank-eq0
returns-then-rank-eq0 c =
    subst (λ r. Acts c.args.image.now (variable_effect (acts.load (scope_of c.args.scope) c.args.x r) c.args.image.now.core) c.load_element.new.image c.load_element.result) (sym c.if-rank-eq0.true) c.load_element.ensures
