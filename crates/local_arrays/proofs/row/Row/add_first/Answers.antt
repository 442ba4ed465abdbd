use Rattle.std.proofs.Common.{ap, sym}
use Rattle.std.specs.Prelude.{Some}
use Rattle.local_arrays.specs.Frames.{first_array, local_of}
use Rattle.local_arrays.proofs.FirstLaws.{add_row}
use Rattle.local_arrays.proofs.FrameLaws.{on_ok}
use Rattle.local_arrays.proofs.row.Row.add_first.Goals as goal

pub returns-in-Some : goal.returns-in-Some
returns-in-Some c =
    on_ok c.set_first.result (λ e. add_row c.args.self.now c.push.new.self c.set_first.new.self c.len-k.result (Some (local_of c.in-Some.array)) (first_array c.args.array.now) c.push.ensures c.len-k.ensures e (ap first_array (sym c.in-Some.is))) c.set_first.ensures
