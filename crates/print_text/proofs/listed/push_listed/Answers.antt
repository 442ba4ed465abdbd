use Rattle.std.proofs.Common.{rules, ◌≡◌, ◌∷◌}
use Rattle.print_text.proofs.Listing.{first_listed}
use Rattle.print_text.proofs.listed.push_listed.Goals as goal
use Rattle.print_text.specs.Items.{items_left}

pub loop-item-init : goal.loop-item-init
loop-item-init c =
    let split : (items_left c.args.items) ≡ c.in-Some.first ∷ (items_left c.in-Some.left) = search rules in
    first_listed c.args.texts.now c.in-Some.first (items_left c.in-Some.left) (items_left c.args.items) c.args.out.now.items c.push_item.new.out.items c.is_text-was_literal.result split
    c.in_ok-push_item.ensures c.is_text-was_literal.ensures
