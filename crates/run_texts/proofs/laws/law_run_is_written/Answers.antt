use Rattle.run_texts.proofs.Runs.{run_written}
use Rattle.run_texts.proofs.laws.law_run_is_written.Goals as goal

pub returns : goal.returns
returns c = run_written
