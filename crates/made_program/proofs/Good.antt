-- A made source is read as the tree of a made program, which breaks no rule.
use Rattle.std.proofs.Common.{◌≡◌, ℕ, ◌≤◌, List, []}
use Rattle.fortran_tree.specs.Units.{Program}
use Rattle.source_reader.specs.Sources.{IsRead}
use Rattle.rule_definitions.specs.Units.{program_judged}
use Rattle.work_maker.specs.MadeSource.{made_source}
use Rattle.made_tree.specs.MadeTree.{made_tree}
use Rattle.made_tree.proofs.Whole.{unbroken}
use Rattle.made_words.specs.Readings.{values_of, IsSpelled}
use Rattle.made_words.proofs.Whole.{reading, small}

read_as : (bytes : List ℕ) (x : Program) → IsSpelled bytes x → IsRead bytes x
read_as bytes x r = record {
  words = r.words;
  are = record { statements = r.statements; are = record { joined = r.joined; unbroken = r.unbroken }; cut = r.cut };
  spelled = r.spelled;
}

pub made_is_good : (seed size : ℕ) → 1 ≤ size → size ≤ 4096 → (x : Program) × IsRead (made_source seed size) x × ((program_judged x).breaks ≡ [])
made_is_good seed size low high =
    (made_tree (values_of seed) size, read_as (made_source seed size) (made_tree (values_of seed) size) (reading seed size high), unbroken (values_of seed) size (small seed) low high)
