use Rattle.std.proofs.Common.{◌≡◌, take}
use Rattle.std.specs.Prelude.{map}
use Rattle.image_state.specs.Texts.{element_portion, heaped_all}
use Rattle.image_state.proofs.printing.put_items.Given as goal

abbrev pub invariant-loop-i : goal.invariant-loop-i
invariant-loop-i l = l.prints ≡ record { piles = heaped_all (map (element_portion l.kind) (take l.i l.values)) l.fn.prints.piles; most = l.fn.prints.most; size = l.fn.prints.size }
