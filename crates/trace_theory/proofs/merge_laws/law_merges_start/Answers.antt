use Rattle.trace_theory.proofs.Merging.{merges_start}
use Rattle.trace_theory.proofs.merge_laws.law_merges_start.Goals as goal

pub returns : goal.returns
returns g c = merges_start g.E.Entries.Entry g.E.Entries.image g.E.Entries.stamp
