use Rattle.std.proofs.Common.{◌∙◌, ap, pos, replicate, List, ℤ}
use Rattle.std.specs.Prelude.{Some, slice_set}
use Rattle.local_arrays.proofs.RowLaws.{renewed_row}
use Rattle.local_arrays.proofs.row.Row.set_first.Goals as goal

pub returns : goal.returns
returns c =
    renewed_row c.args.self.now c.reset.new.self c.refill.new.self c.args.k c.in_ok-bounds.bounds (replicate c.len-n.result (pos 0)) c.as_slice-2.result.now c.args.array.now.bounds c.requires c.reset.ensures c.refill.ensures
    (c.in_ok-bounds.ensures.pairs ∙ c.as_slice.ensures)
    ∙ ap (λ (vs : List ℤ). record { arrays = slice_set c.args.self.now.arrays c.args.k (Some (record { bounds = c.args.array.now.bounds; elements = vs })); most = c.args.self.now.most; size = c.args.self.now.size }) c.as_slice-2.ensures
