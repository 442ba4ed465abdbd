use Rattle.std.proofs.Common.{◌+◌, ◌∙◌, ◌∷◌, length, drop, arith, ap, sym}
use Rattle.std.proofs.lemmas.List.{drop_more}
use Rattle.segment_clock.proofs.Joins.{length_joined}
use Rattle.segment_clock.specs.Counts.{joined}
use Rattle.race_watch.specs.Tables.{joined_all}
use Rattle.race_watch.proofs.queue.join_all.Goals as goal

pub loop-other-preserved : goal.loop-other-preserved
loop-other-preserved c =
    let i = c.loop-other.invariant in (
      ap length c.join.ensures ∙ ap (λ z. length (joined c.loop-other.clock z)) c.clock.ensures ∙ length_joined c.loop-other.clock c.other-item.result ∙ i.0,
      ap (λ z. joined_all z (drop (c.loop-other.other-index + 1) c.args.clocks.now)) (c.join.ensures ∙ ap (joined c.loop-other.clock) c.clock.ensures)
          ∙ sym (ap (joined_all c.loop-other.clock) (drop_more c.args.clocks.now c.loop-other.other-index c.other-item.result (omega arith) ∙ ap (λ z. z ∷ drop (c.loop-other.other-index + 1) c.args.clocks.now) (sym c.other-item.is))) ∙ i.1,
    )
