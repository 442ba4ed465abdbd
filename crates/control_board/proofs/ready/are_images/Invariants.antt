use Rattle.std.proofs.Common.{◌≡◌, take}
use Rattle.std.specs.List.{list_all}
use Rattle.object_rules.specs.Happenings.{numbers_of}
use Rattle.object_rules.specs.BoardRules.{is_image}
use Rattle.control_board.proofs.ready.are_images.Given as goal

abbrev pub invariant-loop-image : goal.invariant-loop-image
invariant-loop-image l = l.all ≡ list_all (is_image l.images) (numbers_of (take l.image-index l.set))
