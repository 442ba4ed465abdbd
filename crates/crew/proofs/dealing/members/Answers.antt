use Rattle.std.proofs.Common.{◌≡◌, ◌<◌, ◌∙◌, sym, ap, subst, arith, length, map, List, [], ◌∷◌, ◌++◌}
use Rattle.std.proofs.lemmas.Grind.{common_steps}
use Rattle.crew.specs.declared.member.Member.{Member}
use Rattle.crew.specs.declared.resting.Pause.TheVariants as pauses
use Rattle.crew.specs.Dealt.{run_of, passes_of}
use Rattle.crew.proofs.Shares.{first_out, views_more}
use Rattle.crew.proofs.dealing.members.Goals as goal

pub remove-passes-requires : goal.remove-passes-requires
remove-passes-requires g c =
    let next = ap length c.in-Some.ensures.steps.0 in
    let many = c.loop-run.invariant.2 in
    let some : 0 < length c.loop-run.passes.items = omega arith in
    let ok = c.loop-run.passes.ok in
    grind (arith, common_steps)

pub loop-run-preserved : goal.loop-run-preserved
loop-run-preserved g c =
    let inv = c.loop-run.invariant in
    let next = c.in-Some.ensures.steps.0 in
    let longer = ap length next in
    let many = inv.2 in
    let out = first_out c.loop-run.passes.items c.remove-passes.new.self.items c.remove-passes.result (omega arith) c.remove-passes.ensures.value c.remove-passes.ensures.by_index.2 in
    let out_longer = ap length out in
    let m : Member g.row.M.Denot = record { run = c.in-Some.run'; passes = c.remove-passes.result; pause = pauses.None; spin = c.none.result } in (
      views_more run_of c.loop-run.members.items c.push.new.self.items m c.loop-run.run-iterator.rest.items c.next.new.self.rest.items c.args.images.items c.in_ok-push.ensures.items next inv.0,
      views_more passes_of c.loop-run.members.items c.push.new.self.items m c.loop-run.passes.items c.remove-passes.new.self.items c.args.passes.items c.in_ok-push.ensures.items out inv.1,
      omega arith,
    )
