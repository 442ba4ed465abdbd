use Rattle.std.proofs.Common.{◌<◌, ◌≤◌, length, sym, subst}
use Rattle.object_rules.specs.Happenings.{numbers_of}
use Rattle.failure_status.specs.Endings.{AreWithin}
use Rattle.image_sync.specs.PairStates.{PairsState, TellsSyncs}
use Rattle.image_sync.proofs.Syncs.{one_run_begun, tells_arrival}
use Rattle.image_sync.proofs.pairs.Pairs.arrive.Goals as goal

pub invariant_of-self : goal.invariant_of-self
invariant_of-self c = one_run_begun c.args.image.0 (numbers_of c.args.set.now) c.self.inside.endings c.self.inside.rows.items c.begin_row.new.rows.items c.try_rows.new.rows.items c.self.invariant c.begin_row.ensures c.try_rows.ensures.as_many c.try_rows.ensures.tried

pub returns : goal.returns
returns c = record {
  told = λ n hs all. (
      let inside = subst (λ (s : PairsState). TellsSyncs n s hs) (sym c.self.view_is) all in
      let image = subst (λ (s : PairsState). (0 < c.args.image.0) × (c.args.image.0 ≤ length s.rows)) (sym c.self.view_is) c.requires.image in
      let within = subst (λ (s : PairsState). AreWithin (length s.rows) c.args.set.now) (sym c.self.view_is) c.requires.set in
      tells_arrival n c.args.image.0 c.args.set.now c.self.inside.endings c.self.inside.rows.items c.begin_row.new.rows.items c.try_rows.new.rows.items hs image.0 image.1 within c.begin_row.ensures c.try_rows.ensures.as_many c.try_rows.ensures.tried inside);
}
