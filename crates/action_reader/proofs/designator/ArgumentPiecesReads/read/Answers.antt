use Rattle.std.proofs.Common.{rules, ◌≡◌, subst, sym, ◌∙◌}
use Rattle.reader_theory.specs.Words.{found}
use Rattle.expr_reader.specs.declared.piece.Mode.TheVariants as modes
use Rattle.expr_reader.specs.PieceViews.{piece_by, piece_of, pieces_of}
use Rattle.expr_reader.specs.Results.{Gives}
use Rattle.expr_reader.specs.Words.{tokens_of}
use Rattle.statement_reader.specs.Families.{an_expression}
use Rattle.action_reader.proofs.Modes.{arguments_some, grown_first}
use Rattle.action_reader.proofs.designator.ArgumentPiecesReads.read.Goals as goal

pub returns : goal.returns
returns c =
    let read : piece_by modes.Keyed (an_expression c.args.left) (tokens_of c.args.words.now) ≡ found (piece_of c.in_ok-first.first) (tokens_of c.in_ok-first.rest.now) = search rules in
    subst (λ v. Gives (λ r. (pieces_of r.0.items, tokens_of r.1.now)) c.more_pieces.result v)
    (sym (arguments_some (an_expression c.args.left) (tokens_of c.args.words.now) (search rules) ∙ grown_first modes.Keyed (an_expression c.args.left) (tokens_of c.args.words.now) (piece_of c.in_ok-first.first) (tokens_of c.in_ok-first.rest.now) c.mode_after-mode.result _ read c.mode_after-mode.ensures (search rules)))
    c.more_pieces.ensures
