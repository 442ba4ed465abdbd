use Rattle.std.proofs.Common.{ap, sym, ◌∙◌, drop, refl, ◌+◌}
use Rattle.std.proofs.lemmas.List.{drop_all}
use Rattle.scope_table.proofs.Orders.{drop_at}
use Rattle.unit_names.specs.Found.{joined}
use Rattle.unit_names.specs.Levels.{reached}
use Rattle.unit_names.proofs.Reached.{level_step, within_rest}
use Rattle.unit_names.proofs.levels.join_levels.Goals as goal

pub loop-level-preserved : goal.loop-level-preserved
loop-level-preserved c = (
  λ bs n. level_step bs (drop c.loop-level.level-index c.args.more.now) (drop (c.loop-level.level-index + 1) c.args.more.now) _ (reached bs c.loop-level.all.items n) (reached bs c.join_level.new.all.items n) _ _ n
      (drop_at c.args.more.now c.loop-level.level-index _ c.loop-level-test.true) (c.in_ok-join_level.ensures.reached bs n) refl (c.loop-level.invariant.0 bs n),
  λ k a m.
      let w = c.loop-level.invariant.1 k a m in
      let h = within_rest k (drop c.loop-level.level-index c.args.more.now) _ (drop (c.loop-level.level-index + 1) c.args.more.now) (drop_at c.args.more.now c.loop-level.level-index _ c.loop-level-test.true) w.1 in
      (c.in_ok-join_level.ensures.within k w.0 h.0, h.1),
)

pub returns-clause-reached : goal.returns-clause-reached
returns-clause-reached c = λ bs n.
    sym (ap (λ z. joined (reached bs c.loop-level.all.items n) (reached bs z n)) (drop_all c.loop-level.level-index c.args.more.now c.loop-level-test.false)) ∙ c.loop-level.invariant.0 bs n

pub returns-clause-within : goal.returns-clause-within
returns-clause-within c = λ k a m. (c.loop-level.invariant.1 k a m).0
