use Rattle.std.proofs.Common.{rules, ◌≡◌, ◌∷◌, ap, sym, ◌∙◌, ℕ, List, take, drop, map}
use Rattle.checked_tree.specs.declared.format.Descriptor.{Descriptor}
use Rattle.rule_definitions.specs.Formats.{all_descriptors, between_commas}
use Rattle.format_rules.specs.declared.piece.Piece.{Piece}
use Rattle.format_rules.specs.Views.{seen, behind_comma}
use Rattle.format_rules.proofs.Cuts.{read, nothing_read, item_turn, item_none}
use Rattle.format_rules.proofs.format.items.Goals as goal

pub returns-in_default : goal.returns-in_default
returns-in_default c =
    let ps = c.args.pieces.now in
    item_none ps c.split_at.result.0.now c.split_at.result.1.now c.new.result.items
    (c.split_at.ensures.front ∙ ap (λ (n : ℕ). take n ps) c.item_len.ensures.value)
    (c.split_at.ensures.back ∙ ap (λ (n : ℕ). drop n ps) c.item_len.ensures.value)
    (first_of (search rules, cc c.in_ok-items.ensures))
    ∙ ap (λ (ds : List Descriptor). read ds (all_descriptors (between_commas (map seen ps)))) c.new.ensures.items
    ∙ nothing_read (all_descriptors (between_commas (map seen ps)))

pub loop-comma-init : goal.loop-comma-init
loop-comma-init c =
    let ps = c.args.pieces.now in
    item_turn ps c.split_at.result.0.now c.split_at.result.1.now c.new.result.items c.in-Some.items.items
    (c.split_at.ensures.front ∙ ap (λ (n : ℕ). take n ps) c.item_len.ensures.value)
    (c.split_at.ensures.back ∙ ap (λ (n : ℕ). drop n ps) c.item_len.ensures.value)
    (first_of (search rules, cc c.in_ok-items.ensures))
    ∙ ap (λ (ds : List Descriptor). read ds (all_descriptors (between_commas (map seen ps)))) c.new.ensures.items
    ∙ nothing_read (all_descriptors (between_commas (map seen ps)))

pub returns-in_default-2 : goal.returns-in_default-2
returns-in_default-2 c =
    let ps = c.in-Some-split_first.behind.now in
    let split : c.loop-comma.left.now ≡ c.in-Some-split_first._comma.now ∷ ps = search rules in
    item_none ps c.split_at-in-Some-split_first.result.0.now c.split_at-in-Some-split_first.result.1.now c.loop-comma.items.items
    (c.split_at-in-Some-split_first.ensures.front ∙ ap (λ (n : ℕ). take n ps) c.item_len-in-Some-split_first.ensures.value)
    (c.split_at-in-Some-split_first.ensures.back ∙ ap (λ (n : ℕ). drop n ps) c.item_len-in-Some-split_first.ensures.value)
    (first_of (search rules, cc c.in_ok-more.ensures))
    ∙ ap (λ (l : List Piece). read c.loop-comma.items.items (all_descriptors (behind_comma (map seen l)))) (sym split)
    ∙ c.loop-comma.invariant

pub loop-comma-preserved : goal.loop-comma-preserved
loop-comma-preserved c =
    let ps = c.in-Some-split_first.behind.now in
    let split : c.loop-comma.left.now ≡ c.in-Some-split_first._comma.now ∷ ps = search rules in
    item_turn ps c.split_at-in-Some-split_first.result.0.now c.split_at-in-Some-split_first.result.1.now c.loop-comma.items.items c.in-Some-2.more.items
    (c.split_at-in-Some-split_first.ensures.front ∙ ap (λ (n : ℕ). take n ps) c.item_len-in-Some-split_first.ensures.value)
    (c.split_at-in-Some-split_first.ensures.back ∙ ap (λ (n : ℕ). drop n ps) c.item_len-in-Some-split_first.ensures.value)
    (first_of (search rules, cc c.in_ok-more.ensures))
    ∙ ap (λ (l : List Piece). read c.loop-comma.items.items (all_descriptors (behind_comma (map seen l)))) (sym split)
    ∙ c.loop-comma.invariant
