use Rattle.std.proofs.Common.{ℕ, List}
use Rattle.std.specs.Prelude.{length}
use Rattle.caf_events.specs.declared.event.Entry.{Entry}
use Rattle.object_rules.specs.Cells.{Declared}
use Rattle.core_runs.specs.Lawful.{IsLawfulTrace, made_memory}
use Rattle.order_theory.specs.Races.{NoRace}
use Rattle.order_axioms.specs.Views.{edges}
use Rattle.order_axioms.specs.Touching.{touches, accesses}
use Rattle.order_axioms.specs.FirstRaces.{Allowed}
use Rattle.order_axioms.proofs.AllLaws.{reads_of}
use Rattle.order_axioms.proofs.MemoryRule.{lawful_reads_last}
use Rattle.order_axioms.proofs.Quiet.{lawful_quiet}
use Rattle.order_axioms.proofs.laws.law_allowed.Goals as goal

allowed : (s : List Declared) (n : ℕ) (t : List Entry) → IsLawfulTrace s n t → (m : ℕ) → NoRace (edges n) touches t m → Allowed (edges n) (accesses (made_memory s)) t m
allowed s n t lawful m clean = record { no_race = clean; justified = reads_of n (made_memory s) t (lawful_quiet s n t lawful) (lawful_reads_last s n t lawful) m clean }

pub returns-clause-front : goal.returns-clause-front
returns-clause-front c s n t lawful p q least race = allowed s n t lawful q race.earliest_second

pub returns-clause-whole : goal.returns-clause-whole
returns-clause-whole c s n t lawful clean = allowed s n t lawful (length t) clean
