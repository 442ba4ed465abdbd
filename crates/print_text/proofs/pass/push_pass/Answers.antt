use Rattle.std.proofs.Common.{◌≡◌, ◌∙◌, ◌+◌, ℕ, List, ◌++◌, replicate, refl, sym, ap, arith}
use Rattle.image_acts.specs.Formats.{descriptors, pass}
use Rattle.print_text.specs.Items.{items_of, items_left}
use Rattle.print_text.specs.Passes.{behind}
use Rattle.print_text.specs.Pieces.{characters, kept}
use Rattle.print_text.proofs.Passing.{behind_behind, skip_turn, literal_turn}
use Rattle.print_text.proofs.pass.push_pass.Goals as goal

pub loop-piece-preserved-in-Skip : goal.loop-piece-preserved-in-Skip
loop-piece-preserved-in-Skip c =
    let s = c.loop-piece.invariant.0 in
    let xs = items_of c.args.texts.now (items_left c.loop-piece.left) in
    let t = skip_turn c.in-Some.piece c.in-Skip.places c.loop-piece.text.now c.in-Some.rest.now xs s c.in-Some.ensures.some c.in-Skip.is in
    let places : c.in-Skip.places ≡ kept t.0 = t.1 in
    let before : c.loop-piece.skipped ≡ kept s = c.loop-piece.invariant.1 in
    (s + t.0, omega arith, ap (behind c.loop-piece.out.items) (sym t.2) ∙ c.loop-piece.invariant.2)

pub loop-piece-preserved-in-Literal : goal.loop-piece-preserved-in-Literal
loop-piece-preserved-in-Literal c =
    let s = c.loop-piece.invariant.0 in
    let xs = items_of c.args.texts.now (items_left c.loop-piece.left) in
    let t = literal_turn c.in-Some.piece c.in-Literal.quote c.in-Literal.inside c.loop-piece.text.now c.in-Some.rest.now xs s c.in-Some.ensures.some c.in-Literal.is in (
      0,
      refl,
      ap (λ (l : List ℕ). behind l (pass (descriptors c.in-Some.rest.now) xs 0)) (c.in_ok-push_skipped_literal-in-Literal.ensures s c.loop-piece.invariant.1)
          ∙ sym (behind_behind c.loop-piece.out.items (replicate s 32 ++ characters c.in-Literal.quote c.in-Literal.inside.now) (pass (descriptors c.in-Some.rest.now) xs 0))
          ∙ ap (behind c.loop-piece.out.items) (sym t)
          ∙ c.loop-piece.invariant.2,
    )
