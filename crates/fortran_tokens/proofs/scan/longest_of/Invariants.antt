use Rattle.std.proofs.Common.{◌≡◌, map, length, None}
use Rattle.fortran_tokens.specs.Scans.{best_of}
use Rattle.fortran_tokens.proofs.scan.longest_of.Given as goal

-- with the rows that are left the best is that of all
abbrev pub invariant-loop-table : goal.invariant-loop-table
invariant-loop-table l = best_of l.best (map (λ row. (row.0.now, row.1)) l.table) l.text ≡ best_of None (map (λ row. (row.0.now, row.1)) l.initial.table) l.text

abbrev pub decreases-loop-table : goal.decreases-loop-table
decreases-loop-table l = length l.table
