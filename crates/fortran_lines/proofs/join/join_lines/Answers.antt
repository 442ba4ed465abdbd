use Rattle.std.proofs.Common.{◌≡◌, ℕ, suc, true, nat_eq, List, [], ◌∷◌, length, None, sym, ◌∙◌, arith}
use Rattle.std.specs.Str.Lines.{lines}
use Rattle.std.proofs.lemmas.Bool.{eqb-true}
use Rattle.fortran_lines.specs.declared.reading.Reading.{Reading}
use Rattle.fortran_lines.specs.PlacedBytes.{numbered}
use Rattle.fortran_lines.specs.Faults.{faults_of, first_of_all, dangling}
use Rattle.fortran_lines.specs.Readings.{first_fault}
use Rattle.fortran_lines.proofs.FirstFaults.{is_first, none_first}
use Rattle.fortran_lines.proofs.join.join_lines.Goals as goal

-- where nothing is left, the first fault is that of the file
at_end : (reading : Reading) (n : ℕ) (rest bytes : List ℕ) → true ≡ nat_eq (length rest) 0 → first_fault reading (numbered n (lines rest)) ≡ first_of_all None (faults_of bytes)
    → first_of_all reading.first (dangling reading.before) ≡ first_of_all None (faults_of bytes)
at_end reading n [] bytes none known = known
at_end reading n (x ∷ xs) bytes none known = absurd (let h = eqb-true (suc (length xs)) 0 (sym none) in omega arith)

pub returns-in-None-clause-unbroken : goal.returns-in-None-clause-unbroken
returns-in-None-clause-unbroken c =
    none_first (faults_of c.args.bytes.now) (c.in-None.ensures ∙ at_end c.loop-rest.reading c.loop-rest.number c.loop-rest.rest.now c.args.bytes.now c.loop-rest-test.ensures c.loop-rest.invariant.first)

pub returns-in-Some-clause-refused : goal.returns-in-Some-clause-refused
returns-in-Some-clause-refused c =
    is_first (faults_of c.args.bytes.now) c.in-Some.fault (c.in-Some.ensures ∙ at_end c.loop-rest.reading c.loop-rest.number c.loop-rest.rest.now c.args.bytes.now c.loop-rest-test.ensures c.loop-rest.invariant.first)
