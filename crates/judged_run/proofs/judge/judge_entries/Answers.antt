use Rattle.std.proofs.Common.{◌<◌, ◌≤◌, length, take, sym, ◌∙◌, arith, true≢false}
use Rattle.core_runs.specs.Moments.{rules}
use Rattle.image_core.specs.Parts.{moment}
use Rattle.judged_run.proofs.Fronts.{one_more, stop_late, stop_other, go_on, whole, leads_on, leads_all}
use Rattle.judged_run.proofs.judge.judge_entries.Goals as goal

pub returns-then-not-is_later-clause-verdict : goal.returns-then-not-is_later-clause-verdict
returns-then-not-is_later-clause-verdict g c b kept none =
    let at = c.loop-k.invariant.1 b kept none in
    let within : c.loop-k.k < length c.args.entries.now = omega arith in
    stop_late (rules g.M.Walker g.O.Object g.B.Object) b (moment g.M.Walker g.O.Object g.B.Object c.loop-k.parts)
    c.args.entries.now c.loop-k.k c.index-entries-k.result within c.index-entries-k.is at.0 at.1
    c.loop-k.last c.loop-k.invariant.2 (λ l. true≢false (sym (c.is_later.ensures.1 l) ∙ c.if-not-is_later.true))

pub returns-then-not-branch-clause-verdict : goal.returns-then-not-branch-clause-verdict
returns-then-not-branch-clause-verdict g c b kept none =
    let at = c.loop-k.invariant.1 b kept none in
    let within : c.loop-k.k < length c.args.entries.now = omega arith in
    stop_other (rules g.M.Walker g.O.Object g.B.Object) b (moment g.M.Walker g.O.Object g.B.Object c.loop-k.parts)
    c.args.entries.now c.loop-k.k c.index-entries-k.result within c.index-entries-k.is at.0 at.1
    (c.in_ok-make_entry.ensures.no c.if-not-branch.true)

pub loop-k-preserved : goal.loop-k-preserved
loop-k-preserved g c =
    let within : c.loop-k.k < length c.args.entries.now = omega arith in (
      c.make_entry.ensures.sound,
      λ b kept none. (
          let at = c.loop-k.invariant.1 b kept none in
          go_on (rules g.M.Walker g.O.Object g.B.Object) b (moment g.M.Walker g.O.Object g.B.Object c.loop-k.parts)
          c.args.entries.now c.loop-k.k c.index-entries-k.result within c.index-entries-k.is at.0 at.1
          (moment g.M.Walker g.O.Object g.B.Object c.make_entry.new.parts) c.loop-k.last c.loop-k.invariant.2
          (c.is_later.ensures.0 c.if-not-is_later.false) (c.in_ok-make_entry.ensures.yes c.if-not-branch.false)),
      (
        take c.loop-k.k c.args.entries.now,
        sym
            (one_more c.args.entries.now c.loop-k.k c.index-entries-k.result within c.index-entries-k.is),
      ),
      leads_on (rules g.M.Walker g.O.Object g.B.Object)
          (moment g.M.Walker g.O.Object g.B.Object c.args.parts.now)
          (moment g.M.Walker g.O.Object g.B.Object c.loop-k.parts) c.args.entries.now c.loop-k.k c.index-entries-k.result
          (moment g.M.Walker g.O.Object g.B.Object c.make_entry.new.parts) within c.index-entries-k.is
          c.loop-k.invariant.3 (c.in_ok-make_entry.ensures.yes c.if-not-branch.false),
    )

pub returns-clause-verdict : goal.returns-clause-verdict
returns-clause-verdict g c b kept none =
    let at = c.loop-k.invariant.1 b kept none in
    let long : length c.args.entries.now ≤ c.loop-k.k = omega arith in
    whole (rules g.M.Walker g.O.Object g.B.Object) b (moment g.M.Walker g.O.Object g.B.Object c.loop-k.parts)
    c.args.entries.now c.loop-k.k long at.0 at.1

pub returns-clause-made : goal.returns-clause-made
returns-clause-made g c =
    let long : length c.args.entries.now ≤ c.loop-k.k = omega arith in
    leads_all (rules g.M.Walker g.O.Object g.B.Object) (moment g.M.Walker g.O.Object g.B.Object c.args.parts.now)
    (moment g.M.Walker g.O.Object g.B.Object c.loop-k.parts) c.args.entries.now c.loop-k.k long c.loop-k.invariant.3
