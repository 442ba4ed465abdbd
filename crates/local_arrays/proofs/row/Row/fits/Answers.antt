use Rattle.std.proofs.Common.{◌≡◌, ◌-◌, ◌<◌, arith, leb-true, leb-false}
use Rattle.image_acts.specs.Frames.{cells_in_arrays, local_size}
use Rattle.local_arrays.specs.Arrays.{array_at}
use Rattle.local_arrays.proofs.RowLaws.{fits_true, fits_false}
use Rattle.local_arrays.proofs.row.Row.fits.Goals as goal

pub returns-then-others-room-clause-not : goal.returns-then-others-room-clause-not
returns-then-others-room-clause-not c = λ t v e.
    let a = c.total.ensures in
    let b = c.count.ensures in
    let d = c.saturating_sub-others.ensures in
    let r = c.room-room.ensures.is in
    let o : c.saturating_sub-others.result ≡ cells_in_arrays c.args.self.now.arrays - local_size (array_at c.args.k c.args.self.now.arrays) = omega arith in
    let w = c.if-others-room.true in
    fits_false c.args.self.now.arrays c.args.k v c.args.n c.saturating_sub-others.result c.args.self.now.size c.requires o e (omega arith)

pub returns-clause-fits : goal.returns-clause-fits
returns-clause-fits c = λ t v e.
    let a = c.total.ensures in
    let b = c.count.ensures in
    let d = c.saturating_sub-others.ensures in
    let r = c.room-room.ensures.is in
    let o : c.saturating_sub-others.result ≡ cells_in_arrays c.args.self.now.arrays - local_size (array_at c.args.k c.args.self.now.arrays) = omega arith in
    let w = c.if-others-room.false in
    let h = leb-true c.args.n (c.room-room.result - c.saturating_sub-others.result) t in
    let s : c.args.self.now.size < 18446744073709551616 = omega arith in
    fits_true c.args.self.now.arrays c.args.k v c.args.n c.saturating_sub-others.result c.args.self.now.size c.requires o e (omega arith) (omega arith) s

pub returns-clause-not : goal.returns-clause-not
returns-clause-not c = λ t v e.
    let a = c.total.ensures in
    let b = c.count.ensures in
    let d = c.saturating_sub-others.ensures in
    let r = c.room-room.ensures.is in
    let o : c.saturating_sub-others.result ≡ cells_in_arrays c.args.self.now.arrays - local_size (array_at c.args.k c.args.self.now.arrays) = omega arith in
    let w = c.if-others-room.false in
    let h = leb-false c.args.n (c.room-room.result - c.saturating_sub-others.result) t in
    fits_false c.args.self.now.arrays c.args.k v c.args.n c.saturating_sub-others.result c.args.self.now.size c.requires o e (omega arith)

pub returns-clause-few : goal.returns-clause-few
returns-clause-few c = λ t.
    let r = c.room-room.ensures.small in
    let h = leb-true c.args.n (c.room-room.result - c.saturating_sub-others.result) t in
    omega arith
