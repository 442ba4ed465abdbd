use Rattle.std.proofs.Common.{◌≡◌, ◌∷◌, pos, replicate}
use Rattle.image_stores.proofs.rows.Rows.begin_zeros.Given as goal

abbrev pub invariant-loop-i : goal.invariant-loop-i
invariant-loop-i l = record {
  rows : l.self.rows ≡ replicate l.i (pos 0) ∷ l.fn.self.rows;
  size : l.self.size ≡ l.fn.self.size;
  most : l.self.most ≡ l.fn.self.most;
}
