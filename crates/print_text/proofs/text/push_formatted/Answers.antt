use Rattle.std.proofs.Common.{rules, ◌≡◌, ◌∙◌, ◌<◌, ◌-◌, ℕ, List, [], ◌++◌, length, sym, ap}
use Rattle.std.proofs.lemmas.List.{length-map}
use Rattle.image_acts.specs.Formats.{descriptors, pass, passed}
use Rattle.print_text.specs.Items.{item_of, items_of, items_left, passes_left}
use Rattle.print_text.specs.Passes.{behind, upon}
use Rattle.print_text.proofs.Passing.{passes, text_done, text_more, has_pass, fewer_passes, first_passes}
use Rattle.print_text.proofs.text.push_formatted.Goals as goal

pub loop-passes-init : goal.loop-passes-init
loop-passes-init c = ap (λ (n : ℕ). upon c.args.out.now.items (passes n (descriptors c.args.format.now) (items_of c.args.texts.now (items_left c.args.items)))) (first_passes c.args.texts.now c.args.items)

pub returns-then-is_empty : goal.returns-then-is_empty
returns-then-is_empty c =
    let none : length (items_left c.in-Left.items) ≡ 0 = search rules in
    let xs = items_of c.args.texts.now (items_left c.loop-passes.left) in
    let ys = items_of c.args.texts.now (items_left c.in-Left.items) in
    let came : behind c.loop-passes.out.items (pass (descriptors c.args.format.now) xs 0) ≡ passed (c.push_pass.new.out.items ++ []) ys = search rules in
    sym c.loop-passes.invariant
    ∙ text_done (passes_left c.loop-passes.passes) (descriptors c.args.format.now) xs (has_pass c.loop-passes.passes c.in-Some.more c.in-Some.is) c.loop-passes.out.items c.push_pass.new.out.items ys
    (length-map (items_left c.in-Left.items) (item_of c.args.texts.now) ∙ none) came

pub loop-passes-preserved : goal.loop-passes-preserved
loop-passes-preserved c =
    let some : 0 < length (items_left c.in-Left.items) = search rules in
    let xs = items_of c.args.texts.now (items_left c.loop-passes.left) in
    let ys = items_of c.args.texts.now (items_left c.in-Left.items) in
    let more : 0 < length ys = rw (length-map (items_left c.in-Left.items) (item_of c.args.texts.now)) some in
    let came : behind c.loop-passes.out.items (pass (descriptors c.args.format.now) xs 0) ≡ passed (c.push_pass.new.out.items ++ []) ys = search rules in
    ap (λ (n : ℕ). upon c.push.new.self.items (passes n (descriptors c.args.format.now) ys)) (sym (fewer_passes c.loop-passes.passes c.in-Some.more c.in-Some.is c.further-passes.result c.further-passes.ensures))
    ∙ ap (λ (l : List ℕ). upon l (passes ((passes_left c.loop-passes.passes) - 1) (descriptors c.args.format.now) ys)) c.in_ok-push.ensures.items
    ∙ sym (text_more (passes_left c.loop-passes.passes) (descriptors c.args.format.now) xs (has_pass c.loop-passes.passes c.in-Some.more c.in-Some.is) c.loop-passes.out.items c.push_pass.new.out.items ys more came)
    ∙ c.loop-passes.invariant
