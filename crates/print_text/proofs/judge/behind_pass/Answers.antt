use Rattle.std.proofs.Common.{rules, ◌≡◌, ◌∙◌, List, [], sym, ap}
use Rattle.image_acts.specs.Formats.{Descriptor, descriptors, pass}
use Rattle.print_text.specs.declared.item.Outcome.{Outcome}
use Rattle.print_text.specs.Items.{items_of, items_left}
use Rattle.print_text.specs.Passes.{after, bare}
use Rattle.print_text.proofs.Passing.{bare_behind, data_turn, no_data, not_left}
use Rattle.print_text.proofs.judge.behind_pass.Goals as goal

pub loop-piece-preserved-in-Left : goal.loop-piece-preserved-in-Left
loop-piece-preserved-in-Left c =
    λ texts.
    sym (bare_behind [] (pass (descriptors c.in-Some.rest.now) (items_of texts (items_left c.in-Left.items)) 0))
    ∙ sym (ap (λ (o : Outcome). bare (after texts [] o (λ xs. pass (descriptors c.in-Some.rest.now) xs 0))) c.in-Left.is)
    ∙ sym (data_turn texts c.in-Some.piece c.in-Data.kind c.in-Data.times c.in-Data.width c.loop-piece.text.now c.in-Some.rest.now (items_left c.loop-piece.left) c.behind_data.result
    c.in-Some.ensures.some c.in-Data.is (c.behind_data.ensures texts))
    ∙ c.loop-piece.invariant texts

pub returns-in_default-behind_data : goal.returns-in_default-behind_data
returns-in_default-behind_data c =
    λ texts.
    sym (c.loop-piece.invariant texts)
    ∙ data_turn texts c.in-Some.piece c.in-Data.kind c.in-Data.times c.in-Data.width c.loop-piece.text.now c.in-Some.rest.now (items_left c.loop-piece.left) c.behind_data.result
    c.in-Some.ensures.some c.in-Data.is (c.behind_data.ensures texts)
    ∙ ap bare (not_left texts [] c.behind_data.result (λ xs. pass (descriptors c.in-Some.rest.now) xs 0) (λ xs. pass [] xs 0) c.in_default-behind_data.not-Left)

pub loop-piece-preserved : goal.loop-piece-preserved
loop-piece-preserved c =
    λ texts.
    sym (no_data c.in-Some.piece c.in-Some.ensures.some.0 (descriptors c.in-Some.rest.now) (items_of texts (items_left c.loop-piece.left)) 0 c.in_default-piece.not-Data c.in-Some.ensures.some.1)
    ∙ ap (λ (l : List Descriptor). bare (pass l (items_of texts (items_left c.loop-piece.left)) 0)) (sym c.in-Some.ensures.some.2)
    ∙ c.loop-piece.invariant texts

pub returns : goal.returns
returns c =
    let none : descriptors c.loop-piece.text.now ≡ [] = search rules in
    λ texts.
    sym (c.loop-piece.invariant texts)
    ∙ ap (λ (l : List Descriptor). bare (pass l (items_of texts (items_left c.loop-piece.left)) 0)) none
