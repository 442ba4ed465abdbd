use Rattle.std.proofs.Common.{◌<◌, length, refl, arith}
use Rattle.team_round.proofs.Ending.{none_ended, not_yet, ended_more}
use Rattle.team_round.proofs.rounds.end_all.Goals as goal

pub loop-k-init : goal.loop-k-init
loop-k-init c = (none_ended c.args.image.0 c.args.endings.now c.args.teams.now.items, refl, refl)

pub ended-requires-clause-image : goal.ended-requires-clause-image
ended-requires-clause-image c =
    let e = c.len-k-end.ensures in
    let l = c.args.teams.now.ok.0 in
    let n = c.loop-k.invariant.0.as_many in
    let t = c.loop-k-test.true in
    let high : c.loop-k.k < length c.loop-k.teams.items = omega arith in
    (c.requires c.loop-k.k c.index_mut.result.now (not_yet c.args.image.0 c.args.endings.now c.loop-k.k c.args.teams.now.items c.loop-k.teams.items c.index_mut.result.now c.loop-k.invariant.0 high c.index_mut.ensures.value)).image

pub ended-requires-clause-few : goal.ended-requires-clause-few
ended-requires-clause-few c =
    let e = c.len-k-end.ensures in
    let l = c.args.teams.now.ok.0 in
    let n = c.loop-k.invariant.0.as_many in
    let t = c.loop-k-test.true in
    let high : c.loop-k.k < length c.loop-k.teams.items = omega arith in
    (c.requires c.loop-k.k c.index_mut.result.now (not_yet c.args.image.0 c.args.endings.now c.loop-k.k c.args.teams.now.items c.loop-k.teams.items c.index_mut.result.now c.loop-k.invariant.0 high c.index_mut.ensures.value)).known

pub ended-requires-clause-stopped : goal.ended-requires-clause-stopped
ended-requires-clause-stopped c =
    let e = c.len-k-end.ensures in
    let l = c.args.teams.now.ok.0 in
    let n = c.loop-k.invariant.0.as_many in
    let t = c.loop-k-test.true in
    let high : c.loop-k.k < length c.loop-k.teams.items = omega arith in
    (c.requires c.loop-k.k c.index_mut.result.now (not_yet c.args.image.0 c.args.endings.now c.loop-k.k c.args.teams.now.items c.loop-k.teams.items c.index_mut.result.now c.loop-k.invariant.0 high c.index_mut.ensures.value)).stopped

pub ended-requires-clause-failed : goal.ended-requires-clause-failed
ended-requires-clause-failed c =
    let e = c.len-k-end.ensures in
    let l = c.args.teams.now.ok.0 in
    let n = c.loop-k.invariant.0.as_many in
    let t = c.loop-k-test.true in
    let high : c.loop-k.k < length c.loop-k.teams.items = omega arith in
    (c.requires c.loop-k.k c.index_mut.result.now (not_yet c.args.image.0 c.args.endings.now c.loop-k.k c.args.teams.now.items c.loop-k.teams.items c.index_mut.result.now c.loop-k.invariant.0 high c.index_mut.ensures.value)).failed

pub loop-k-preserved : goal.loop-k-preserved
loop-k-preserved c =
    let e = c.len-k-end.ensures in
    let l = c.args.teams.now.ok.0 in
    let n = c.loop-k.invariant.0.as_many in
    let t = c.loop-k-test.true in
    let high : c.loop-k.k < length c.loop-k.teams.items = omega arith in (
      ended_more c.args.image.0 c.args.endings.now c.loop-k.k _ c.args.teams.now.items c.loop-k.teams.items c.index_mut.result.now c.ended.new.self c.loop-k.invariant.0 refl high c.index_mut.ensures.value
          (record { told = c.ended.ensures.told; images = c.ended.ensures.images; members = c.ended.ensures.members }),
      c.loop-k.invariant.1,
      c.loop-k.invariant.2,
    )
