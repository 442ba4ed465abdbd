use Rattle.std.proofs.Common.{refl}
use Rattle.race_watch.proofs.Finishing.{in_place, taken_none, ready, finished}
use Rattle.race_watch.proofs.Keys as keys
use Rattle.race_watch.proofs.order.finishes.Goals as goal

pub finish-requires-clause-last : goal.finish-requires-clause-last
finish-requires-clause-last c = (ready c.args._n c.args._before.now c.args.e.now _ c.args.order.now _ c.requires.2 _ _ (taken_none c.args._n c.args._before.now c.args.e.now _ c.args.order.now _ c.requires.2 (keys.only_releases c.args._n c.args._before.now c.args.e.now.image.0 c.requires.0 c.requires.1)) _ (in_place c.args._n c.args._before.now c.args.e.now _ c.args.order.now _ c.requires.2)).last

pub finish-requires-clause-long : goal.finish-requires-clause-long
finish-requires-clause-long c = (ready c.args._n c.args._before.now c.args.e.now _ c.args.order.now _ c.requires.2 _ _ (taken_none c.args._n c.args._before.now c.args.e.now _ c.args.order.now _ c.requires.2 (keys.only_releases c.args._n c.args._before.now c.args.e.now.image.0 c.requires.0 c.requires.1)) _ (in_place c.args._n c.args._before.now c.args.e.now _ c.args.order.now _ c.requires.2)).long

pub finish-requires-clause-told : goal.finish-requires-clause-told
finish-requires-clause-told c = (ready c.args._n c.args._before.now c.args.e.now _ c.args.order.now _ c.requires.2 _ _ (taken_none c.args._n c.args._before.now c.args.e.now _ c.args.order.now _ c.requires.2 (keys.only_releases c.args._n c.args._before.now c.args.e.now.image.0 c.requires.0 c.requires.1)) _ (in_place c.args._n c.args._before.now c.args.e.now _ c.args.order.now _ c.requires.2)).told_size

pub finish-requires-clause-room : goal.finish-requires-clause-room
finish-requires-clause-room c = (ready c.args._n c.args._before.now c.args.e.now _ c.args.order.now _ c.requires.2 _ _ (taken_none c.args._n c.args._before.now c.args.e.now _ c.args.order.now _ c.requires.2 (keys.only_releases c.args._n c.args._before.now c.args.e.now.image.0 c.requires.0 c.requires.1)) _ (in_place c.args._n c.args._before.now c.args.e.now _ c.args.order.now _ c.requires.2)).roomy

pub finish-requires-clause-more : goal.finish-requires-clause-more
finish-requires-clause-more c = (ready c.args._n c.args._before.now c.args.e.now _ c.args.order.now _ c.requires.2 _ _ (taken_none c.args._n c.args._before.now c.args.e.now _ c.args.order.now _ c.requires.2 (keys.only_releases c.args._n c.args._before.now c.args.e.now.image.0 c.requires.0 c.requires.1)) _ (in_place c.args._n c.args._before.now c.args.e.now _ c.args.order.now _ c.requires.2)).more

pub returns : goal.returns
returns c =
    finished c.args._n c.args._before.now c.args.e.now _ c.args.order.now _ c.requires.2 _ _ (taken_none c.args._n c.args._before.now c.args.e.now _ c.args.order.now _ c.requires.2 (keys.only_releases c.args._n c.args._before.now c.args.e.now.image.0 c.requires.0 c.requires.1)) _ (in_place c.args._n c.args._before.now c.args.e.now _ c.args.order.now _ c.requires.2) (keys.only_completes c.requires.0 c.requires.1) _
    (keys.only_finishes c.args._n c.args.e.now.image.0 _ c.args.order.now _ refl refl refl refl refl refl c.requires.0 c.requires.1) c.finish.ensures.clocks c.finish.ensures.counts
