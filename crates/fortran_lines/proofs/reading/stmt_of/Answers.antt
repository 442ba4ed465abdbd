use Rattle.std.proofs.Common.{◌≡◌, List, [], ◌∷◌, map, refl, ap, ◌∙◌}
use Rattle.fortran_lines.specs.declared.placed_byte.PlacedByte.{PlacedByte}
use Rattle.fortran_lines.specs.Statements.{with_places}
use Rattle.fortran_lines.proofs.reading.stmt_of.Goals as goal

-- bytes and places that are taken apart are put together again
together : (piece : List PlacedByte) → with_places (map (λ mark. mark.code) piece) (map (λ mark. mark.at) piece) ≡ piece
together [] = refl
together (m ∷ piece) = ap (λ ms. m ∷ ms) (together piece)

pub returns : goal.returns
returns c =
    let codes = c.from_vec.ensures ∙ c.in_ok-codes.ensures in
    let places = c.from_vec-2.ensures ∙ c.in_ok-places.ensures in
    ap (λ t. with_places t c.from_vec-2.result) codes ∙ (ap (with_places (map (λ mark. mark.code) c.args.piece.now)) places ∙ together c.args.piece.now)
