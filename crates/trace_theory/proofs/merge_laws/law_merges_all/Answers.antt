use Rattle.trace_theory.proofs.Merging.{merges_all}
use Rattle.trace_theory.proofs.merge_laws.law_merges_all.Goals as goal

pub returns : goal.returns
returns g c = merges_all g.E.Entries.Entry g.E.Entries.image g.E.Entries.stamp
