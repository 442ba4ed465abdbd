use Rattle.std.proofs.Common.{◌≡◌, ◌++◌, length}
use Rattle.image_acts.specs.Formats.{listed}
use Rattle.print_text.specs.Items.{items_of, items_left}
use Rattle.print_text.proofs.Listing.{further}
use Rattle.print_text.proofs.listed.push_listed.Given as goal

-- the text so far, and the items that are left
abbrev pub invariant-loop-item : goal.invariant-loop-item
invariant-loop-item l = l.out.items ++ further l.was_literal (items_of l.texts (items_left l.left)) ≡ l.fn.out.items ++ listed (items_of l.texts (items_left l.items))

abbrev pub decreases-loop-item : goal.decreases-loop-item
decreases-loop-item l = length (items_left l.left)
