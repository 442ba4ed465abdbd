use Rattle.std.proofs.Common.{◌≡◌, ◌<◌, ◌+◌, ◌∙◌, ap, sym, subst, length, get_or, arith}
use Rattle.std.specs.Prelude.{map, MatchOption}
use Rattle.caf_base.specs.declared.place.ImageNo.{ImageNo}
use Rattle.caf_events.specs.Walkers.{AsksNext, IsAtLine, IsOver}
use Rattle.run_outlook.proofs.Slices.{map_get}
use Rattle.order_report.specs.Reports.{AreHeld}
use Rattle.order_report.proofs.Held.{held_over, held_more}
use Rattle.order_report.proofs.waits.held.Goals.{in-Some+in_ok-push, in_default}
use Rattle.order_report.proofs.waits.held.Goals as goal

pub loop-run-preserved : goal.loop-run-preserved
loop-run-preserved g c =
    let within : c.loop-run.run-index < length c.args.parts.now.images.items = omega arith in
    let here = subst (λ xs. c.run-item.result ≡ get_or xs c.loop-run.run-index c.run-item.result) c.deref-run-items.ensures.value c.run-item.is in
    let at = map_get (λ r. g.M.Walker.config r.machine) c.args.parts.now.images.items c.loop-run.run-index c.run-item.result within here in
    let number = c.requires c.loop-run.run-index c.run-item.result within here in
    let configs = map (λ r. g.M.Walker.config r.machine) c.args.parts.now.images.items in
    let stands = g.M.Walker.config c.run-item.result.machine in
    let move = g.M.Walker.step stands in
    elim c.match-branch-2.branch [
      | in-Some+in_ok-push w ↦ (
          let found = subst (λ o. MatchOption o (IsOver move) (λ x. IsAtLine move x.0 × AsksNext move x.1)) w.in-Some.is c.in_ok-line.ensures in
          subst (AreHeld g.M.Walker.step configs (c.loop-run.run-index + 1)) (sym (w.held-is ∙ w.in_ok-push.ensures.pushed))
          (held_more g.M.Walker.step configs c.loop-run.run-index c.loop-run.held c.loop-run.invariant stands at _ (ap (λ (i : ImageNo). i.0) w.image.ensures ∙ number) found.1 found.0))
      | in_default w ↦ (
          let over = subst (λ o. MatchOption o (IsOver move) (λ x. IsAtLine move x.0 × AsksNext move x.1)) w.in_default.is c.in_ok-line.ensures in
          subst (AreHeld g.M.Walker.step configs (c.loop-run.run-index + 1)) (sym w.held-is)
          (held_over g.M.Walker.step configs c.loop-run.run-index c.loop-run.held c.loop-run.invariant stands at over))
    ]

pub returns : goal.returns
returns g c =
    let end : c.loop-run.run-index ≡ length c.args.parts.now.images.items = omega arith in
    subst (λ k. AreHeld g.M.Walker.step (map (λ r. g.M.Walker.config r.machine) c.args.parts.now.images.items) k c.loop-run.held) end c.loop-run.invariant
