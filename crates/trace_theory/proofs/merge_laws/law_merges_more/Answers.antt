use Rattle.trace_theory.proofs.Merging.{merges_more}
use Rattle.trace_theory.proofs.merge_laws.law_merges_more.Goals as goal

pub returns : goal.returns
returns g c events rest rest' out e m t = merges_more g.E.Entries.Entry g.E.Entries.image g.E.Entries.stamp events rest rest' out m e t
