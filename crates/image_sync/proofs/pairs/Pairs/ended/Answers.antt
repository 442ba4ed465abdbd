use Rattle.std.proofs.Common.{◌<◌, ◌≤◌, length, sym, subst}
use Rattle.image_sync.specs.PairStates.{PairsState, TellsSyncs}
use Rattle.image_sync.proofs.Syncs.{one_run_ended, tells_end_of}
use Rattle.image_sync.proofs.pairs.Pairs.ended.Goals as goal

pub invariant_of-self : goal.invariant_of-self
invariant_of-self c = one_run_ended c.args.image.0 c.args.failed c.self.inside.endings c.note.new.self c.self.inside.rows.items c.try_rows.new.rows.items c.note.ensures c.self.invariant c.try_rows.ensures.as_many c.try_rows.ensures.tried

pub returns : goal.returns
returns c = record {
  told = λ n hs all. (
      let inside = subst (λ (s : PairsState). TellsSyncs n s hs) (sym c.self.view_is) all in
      let image = subst (λ (s : PairsState). (0 < c.args.image.0) × (c.args.image.0 ≤ length s.rows)) (sym c.self.view_is) c.requires in
      tells_end_of n c.args.image.0 c.args.failed c.self.inside.endings c.note.new.self c.self.inside.rows.items c.try_rows.new.rows.items hs image.0 image.1 c.note.ensures c.try_rows.ensures.as_many c.try_rows.ensures.tried inside);
}
