use Rattle.std.proofs.Common.{◌++◌, ◌∷◌, [], length, refl, sym, subst}
use Rattle.std.specs.List.{list_all}
use Rattle.std.proofs.lemmas.Bool.{and_parts}
use Rattle.caf_events.specs.declared.ask.Ask.TheVariants as asks
use Rattle.object_rules.specs.Happenings.{pairs, numbers_of}
use Rattle.object_rules.specs.BoardRules.{is_image, all_differ}
use Rattle.failure_status.specs.Endings.{AreWithin}
use Rattle.image_sync.specs.PairStates.{TellsSyncs}
use Rattle.control_board.proofs.Keeping.{begun_few}
use Rattle.control_board.proofs.Members.{set_within}
use Rattle.control_board.proofs.Steps.{ready_parts, no_round, paired_steps}
use Rattle.control_board.proofs.step.pair.Goals as goal

pub arrive-requires-clause-set : goal.arrive-requires-clause-set
arrive-requires-clause-set c =
    let r = ready_parts c.requires.images c.requires.history c.args.image.0 (asks.Pair c.args.set.now) c.requires.ready in
    let all = (and_parts (list_all (is_image c.requires.images) (numbers_of c.args.set.now)) (all_differ (numbers_of c.args.set.now)) r.1).0 in
    subst (AreWithin (length c.args.parts.now.pairs.rows)) (sym c.as_slice.ensures) (set_within c.requires.images (length c.args.parts.now.pairs.rows) c.args.set.now c.requires.board.syncs.images all)

pub arrive-requires-clause-few : goal.arrive-requires-clause-few
arrive-requires-clause-few c =
    let r = ready_parts c.requires.images c.requires.history c.args.image.0 (asks.Pair c.args.set.now) c.requires.ready in
    begun_few c.requires.images c.requires.history c.args.parts.now c.requires.board c.args.image.0 r.0 c.requires.few

pub returns : goal.returns
returns c line n h stamp b ready planned late =
    paired_steps c.args.parts.now _ c.args.image c.args.set.now line
    (λ m hs told. subst (λ set. TellsSyncs m c.arrive.new.self (hs ++ pairs c.args.image.0 (numbers_of set) ∷ [])) c.as_slice.ensures (c.arrive.ensures.told m hs told))
    (no_round c.args.parts.now _ c.args.image (asks.Pair c.args.set.now) line (λ r. refl) refl refl refl refl refl) refl refl refl refl n h stamp b ready planned late
