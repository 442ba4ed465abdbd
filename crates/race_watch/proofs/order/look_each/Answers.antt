use Rattle.std.proofs.Common.{◌≡◌, ℕ, ◌+◌, ◌-◌, ◌∙◌, length, get_or, drop, ap, sym, arith}
use Rattle.std.proofs.lemmas.List.{drop_more}
use Rattle.race_watch.specs.Tables.{numbered_at, count_in, numbered, joined_all}
use Rattle.race_watch.specs.Orders.{paired}
use Rattle.race_watch.proofs.Turning.{sized_all, size_all}
use Rattle.race_watch.proofs.order.look_each.Goals as goal

pub count-count-requires : goal.count-count-requires
count-count-requires c = c.requires.counts _ _

pub look-requires-clause-kept : goal.look-requires-clause-kept
look-requires-clause-kept c = let n = c.requires.needed in let a = c.saturating_sub.ensures in let b = c.count-count.ensures in omega arith

pub look-requires-clause-sizes : goal.look-requires-clause-sizes
look-requires-clause-sizes c = sized_all (length c.args.clock.now) _ _ c.loop-other.invariant.0 (c.requires.sizes _ _)

pub loop-other-preserved : goal.loop-other-preserved
loop-other-preserved c =
    let i = c.loop-other.invariant in
    let x : ℕ = get_or c.args.named.now c.loop-other.other-index 0 in
    let q = numbered_at c.args.pairs.now x c.args.image.0 in
    let k : c.saturating_sub.result ≡ count_in (numbered_at c.args.pairs.now c.args.image.0 x) - 1 = (let a = c.saturating_sub.ensures in let b = c.count-count.ensures in omega arith) in (
      ap length c.look.ensures ∙ size_all c.loop-other.clock (numbered c.saturating_sub.result q) ∙ i.0,
      ap (λ z. paired c.args.pairs.now c.args.image.0 (drop (c.loop-other.other-index + 1) c.args.named.now) z) (c.look.ensures ∙ ap (λ m. joined_all c.loop-other.clock (numbered m q)) k)
          ∙ sym (ap (λ js. paired c.args.pairs.now c.args.image.0 js c.loop-other.clock) (drop_more c.args.named.now c.loop-other.other-index 0 (omega arith))) ∙ i.1,
    )
