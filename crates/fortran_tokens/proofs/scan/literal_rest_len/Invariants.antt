use Rattle.std.proofs.Common.{◌≡◌, ◌≤◌, true, false, Some, drop}
use Rattle.std.specs.Prelude.{IfSome}
use Rattle.fortran_tokens.specs.Scans.{later, closes}
use Rattle.fortran_tokens.proofs.scan.literal_rest_len.Given as goal

-- the last place so far, and what is left
abbrev pub invariant-loop-i : goal.invariant-loop-i
invariant-loop-i l = record {
  found : later l.last l.i (closes l.quote l.inside (drop l.i l.text)) ≡ closes l.quote true l.text;
  within : IfSome l.last (λ len. len ≤ l.i);
  closed : l.inside ≡ false → l.last ≡ Some l.i;
}
