use Rattle.std.proofs.Common.{rules, ◌≡◌, ◌∙◌, ℕ, List, ◌∷◌, replicate, refl, sym, ap}
use Rattle.image_acts.specs.Formats.{in_width, descriptors_in}
use Rattle.print_text.specs.Pieces.{edit, is_integer}
use Rattle.print_text.proofs.Reading.{width_end, ends_of, once}
use Rattle.print_text.proofs.piece.fields.Goals as goal

pub returns-in_default-read_sign-clause-some : goal.returns-in_default-read_sign-clause-some
returns-in_default-read_sign-clause-some c =
    let split : c.loop-first.left.now ≡ c.in-Some.first.now ∷ c.in-Some.rest.now = search rules in
    λ n g e. (
      replicate n (edit c.args.kind c.loop-first.invariant.0),
      (n, c.loop-first.invariant.0, g, e, c.loop-first.invariant.1, refl, once c.args.kind n c.requires),
      sym (c.loop-first.invariant.3 n)
          ∙ ap (λ (l : List ℕ). descriptors_in (in_width (is_integer c.args.kind) n) c.loop-first.invariant.0 l) split
          ∙ width_end c.args.kind n c.loop-first.invariant.0 c.in-Some.first.now c.in-Some.rest.now c.read_sign.result c.requires
          (ends_of c.read_sign.result c.in_default-read_sign.not-Digit c.in_default-read_sign.not-Blank) c.read_sign.ensures,
    )
