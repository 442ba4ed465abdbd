use Rattle.std.proofs.Common.{rules, ◌≡◌, ◌∙◌, ◌<◌, ℕ, [], length, sym, ap}
use Rattle.std.specs.Prelude.{None}
use Rattle.std.proofs.lemmas.List.{length-map}
use Rattle.image_acts.specs.Formats.{descriptors, pass}
use Rattle.print_text.specs.declared.item.Outcome.{Outcome}
use Rattle.print_text.specs.Items.{item_of, items_of, items_left, passes_left}
use Rattle.print_text.specs.Passes.{after, bare, is_found}
use Rattle.print_text.proofs.Passing.{passes, turn_wrong, turn_ended, turn_done, turn_more, has_pass, fewer_passes, no_pass, first_passes}
use Rattle.print_text.proofs.judge.is_right.Goals as goal

pub loop-passes-init : goal.loop-passes-init
loop-passes-init c = λ texts. ap (λ (n : ℕ). is_found (passes n (descriptors c.args.format.now) (items_of texts (items_left c.args.items)))) (first_passes texts c.args.items)

pub returns-in-Wrong : goal.returns-in-Wrong
returns-in-Wrong c =
    λ texts.
    sym (c.loop-passes.invariant texts)
    ∙ turn_wrong (passes_left c.loop-passes.passes) (descriptors c.args.format.now) (items_of texts (items_left c.loop-passes.left)) (has_pass c.loop-passes.passes c.in-Some.more c.in-Some.is)
    (c.behind_pass.ensures texts ∙ ap (λ (o : Outcome). bare (after texts [] o (λ xs. pass [] xs 0))) c.in-Wrong.is)

pub returns-in-Ended : goal.returns-in-Ended
returns-in-Ended c =
    λ texts.
    sym (c.loop-passes.invariant texts)
    ∙ turn_ended (passes_left c.loop-passes.passes) (descriptors c.args.format.now) (items_of texts (items_left c.loop-passes.left)) (has_pass c.loop-passes.passes c.in-Some.more c.in-Some.is)
    (c.behind_pass.ensures texts ∙ ap (λ (o : Outcome). bare (after texts [] o (λ xs. pass [] xs 0))) c.in-Ended.is)

pub returns-then-is_empty : goal.returns-then-is_empty
returns-then-is_empty c =
    let none : length (items_left c.in-Left.items) ≡ 0 = search rules in
    λ texts.
    sym (c.loop-passes.invariant texts)
    ∙ turn_done (passes_left c.loop-passes.passes) (descriptors c.args.format.now) (items_of texts (items_left c.loop-passes.left)) (has_pass c.loop-passes.passes c.in-Some.more c.in-Some.is)
    (items_of texts (items_left c.in-Left.items)) (length-map (items_left c.in-Left.items) (item_of texts) ∙ none)
    (c.behind_pass.ensures texts ∙ ap (λ (o : Outcome). bare (after texts [] o (λ xs. pass [] xs 0))) c.in-Left.is)

pub loop-passes-preserved : goal.loop-passes-preserved
loop-passes-preserved c =
    let some : 0 < length (items_left c.in-Left.items) = search rules in
    λ texts.
    let fewer = fewer_passes c.loop-passes.passes c.in-Some.more c.in-Some.is c.further-passes.result c.further-passes.ensures in
    let more : 0 < length (items_of texts (items_left c.in-Left.items)) = rw (length-map (items_left c.in-Left.items) (item_of texts)) some in
    ap (λ (n : ℕ). is_found (passes n (descriptors c.args.format.now) (items_of texts (items_left c.in-Left.items)))) (sym fewer)
    ∙ sym (turn_more (passes_left c.loop-passes.passes) (descriptors c.args.format.now) (items_of texts (items_left c.loop-passes.left)) (has_pass c.loop-passes.passes c.in-Some.more c.in-Some.is)
    (items_of texts (items_left c.in-Left.items)) more
    (c.behind_pass.ensures texts ∙ ap (λ (o : Outcome). bare (after texts [] o (λ xs. pass [] xs 0))) c.in-Left.is))
    ∙ c.loop-passes.invariant texts

pub returns : goal.returns
returns c =
    let gone : c.loop-passes.passes ≡ None = search rules in
    let none = no_pass c.loop-passes.passes gone in
    λ texts.
    sym (c.loop-passes.invariant texts)
    ∙ ap (λ (n : ℕ). is_found (passes n (descriptors c.args.format.now) (items_of texts (items_left c.loop-passes.left)))) none
