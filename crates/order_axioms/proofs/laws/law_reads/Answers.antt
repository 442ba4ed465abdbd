use Rattle.core_runs.specs.Lawful.{made_memory}
use Rattle.order_axioms.proofs.AllLaws.{reads_of}
use Rattle.order_axioms.proofs.MemoryRule.{lawful_reads_last}
use Rattle.order_axioms.proofs.Quiet.{lawful_quiet}
use Rattle.order_axioms.proofs.laws.law_reads.Goals as goal

pub returns : goal.returns
returns c s n t lawful = reads_of n (made_memory s) t (lawful_quiet s n t lawful) (lawful_reads_last s n t lawful)
