use Rattle.fortran_tokens.proofs.LastPlaces.{LastSoFar, so_far_closes, so_far_inside, so_far_opens}
use Rattle.fortran_tokens.proofs.scan.literal_rest_len.Goals as goal
use Rattle.fortran_tokens.proofs.scan.literal_rest_len.Goals.{then-inside+then-byte-quote, then-inside+else-byte-quote, else-inside+then-byte-quote-2}

pub loop-i-preserved : goal.loop-i-preserved
loop-i-preserved c =
    let known : LastSoFar c.args.quote c.args.text.now c.loop-i.i c.loop-i.inside c.loop-i.last = record { found = c.loop-i.invariant.found; within = c.loop-i.invariant.within; closed = c.loop-i.invariant.closed } in
    elim c.if-inside.branch [
      | then-inside+then-byte-quote w ↦
          let next = so_far_closes c.args.quote c.args.text.now c.loop-i.i c.loop-i.inside c.loop-i.last c.loop-i-test.true w.if-byte-quote.true w.if-inside.true known in
          rw (w.inside-is, w.last-is) record { found = next.found; within = next.within; closed = next.closed }
      | then-inside+else-byte-quote w ↦
          let next = so_far_inside c.args.quote c.args.text.now c.loop-i.i c.loop-i.inside c.loop-i.last c.loop-i-test.true w.if-byte-quote.false w.if-inside.true known in
          rw (w.inside-is, w.last-is) record { found = next.found; within = next.within; closed = next.closed }
      | else-inside+then-byte-quote-2 w ↦
          let next = so_far_opens c.args.quote c.args.text.now c.loop-i.i c.loop-i.inside c.loop-i.last c.loop-i-test.true w.if-byte-quote-2.true w.if-inside.false known in
          rw (w.inside-is, w.last-is) record { found = next.found; within = next.within; closed = next.closed }
    ]
