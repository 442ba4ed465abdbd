use Rattle.std.proofs.Common.{rules, arith, ◌≡◌, ◌+◌, ◌-◌, [], ◌∷◌, ◌++◌, true, false, subst, sym, ap, ◌∙◌, length}
use Rattle.std.proofs.lemmas.Grind.{common_steps}
use Rattle.reader_theory.specs.Words.{found}
use Rattle.reader_theory.specs.Readers.{joined}
use Rattle.expr_reader.specs.Results.{Gives}
use Rattle.expr_reader.proofs.Levels.{pieces_some, choices_found, choices_fault, operand_one, operand_two, operand_six}
use Rattle.reader_theory.specs.Exactness.{Stops}
use Rattle.fortran_tokens.specs.declared.token.Sign.TheVariants as sign
use Rattle.fortran_tree.specs.ExpressionViews.{expression, expressions, specifiers}
use Rattle.fortran_tree.specs.Expressions.{binary}
use Rattle.expr_reader.specs.declared.piece.Mode.TheVariants as modes
use Rattle.expr_reader.specs.Full.{full}
use Rattle.expr_reader.specs.Openings.{binds, operator_of}
use Rattle.expr_reader.specs.PieceViews.{piece_of, pieces_of, expression_list, piece_by, mode_after, further, grown}
use Rattle.expr_reader.specs.Reading.{operand_of, place_of}
use Rattle.expr_reader.specs.Selectors.{chosen}
use Rattle.expr_reader.specs.Tests.{is_sign}
use Rattle.expr_reader.specs.Words.{token_of, tokens_of}
use Rattle.expr_reader.proofs.Loops as loops
use Rattle.expr_reader.proofs.Repeats as repeats
use Rattle.expr_reader.proofs.PieceLists.{pieces_append, list_append}
use Rattle.expr_reader.proofs.expr.+expr.Goals as goal

-- Operands of a chain.
pub operand-returns-in-1 : goal.operand-returns-in-1
operand-returns-in-1 t c =
    let strong : c.args.strong ≡ 1 = search rules in
    operand_one (λ r. (expression r.0, tokens_of r.1.now)) c.args.strong c.args.left (tokens_of c.args.words.now) c.chain.result strong c.chain.ensures

pub operand-returns-in-2 : goal.operand-returns-in-2
operand-returns-in-2 t c =
    let strong : c.args.strong ≡ 2 = search rules in
    operand_two (λ r. (expression r.0, tokens_of r.1.now)) c.args.strong c.args.left (tokens_of c.args.words.now) c.chain-in-2.result strong c.chain-in-2.ensures

pub operand-returns-in-6 : goal.operand-returns-in-6
operand-returns-in-6 t c =
    let strong : c.args.strong ≡ 6 = search rules in
    operand_six (λ r. (expression r.0, tokens_of r.1.now)) c.args.strong c.args.left (tokens_of c.args.words.now) c.chain-in-6.result strong c.chain-in-6.ensures

-- Chains of operators.
pub operators-loop-turn-init : goal.operators-loop-turn-init
operators-loop-turn-init t c = (omega arith, loops.many_is c.args.strong (operand_of c.args.strong (full c.args.left)) (expression c.args.first) c.args.words.now)

pub operators-loop-turn-preserved : goal.operators-loop-turn-preserved
operators-loop-turn-preserved t c =
    let split : c.loop-turn.rest.now ≡ c.in-Some.sign.now ∷ c.in-Some.after.now = search rules in
    let test : binds c.args.strong (token_of c.in-Some.sign.now) ≡ true = search rules in
    let read : operand_of c.args.strong (full c.args.left) (tokens_of c.in-Some.after.now) ≡ found (expression c.in-Ok.read.0) (tokens_of c.in-Ok.read.1.now) = search rules in
    let made : expression c.in_ok-all.all ≡ binary (operator_of (token_of c.in-Some.sign.now)) (expression c.loop-turn.all) (expression c.in-Ok.read.0) (place_of (expression c.loop-turn.all)) = first_of (search rules, grind (arith, common_steps)) in
    (omega arith, loops.turn c.args.strong (operand_of c.args.strong (full c.args.left)) (expression c.loop-turn.all) _ _ _ (tokens_of c.loop-turn.rest.now) (token_of c.in-Some.sign.now) (tokens_of c.in-Some.after.now) (expression c.in-Ok.read.0) _ _ (omega arith) (ap tokens_of split) test read made c.loop-turn.invariant.1)

pub operators-returns-in_default : goal.operators-returns-in_default
operators-returns-in_default t c =
    let none : length c.loop-turn.rest.now ≡ 0 = c.in_default.ensures.cases in
    loops.turn_end c.args.strong (operand_of c.args.strong (full c.args.left)) (expression c.loop-turn.all) _ (tokens_of c.loop-turn.rest.now) _ (loops.no_token c.args.strong c.loop-turn.rest.now none) c.loop-turn.invariant.1

pub operators-returns-then-not-binds : goal.operators-returns-then-not-binds
operators-returns-then-not-binds t c =
    let split : c.loop-turn.rest.now ≡ c.in-Some.sign.now ∷ c.in-Some.after.now = search rules in
    let test : binds c.args.strong (token_of c.in-Some.sign.now) ≡ false = search rules in
    loops.turn_end c.args.strong (operand_of c.args.strong (full c.args.left)) (expression c.loop-turn.all) _ (tokens_of c.loop-turn.rest.now) _ (subst (λ z. Stops (binds c.args.strong) (tokens_of z)) (sym split) test) c.loop-turn.invariant.1

pub operators-returns-in-Err : goal.operators-returns-in-Err
operators-returns-in-Err t c =
    let split : c.loop-turn.rest.now ≡ c.in-Some.sign.now ∷ c.in-Some.after.now = search rules in
    let test : binds c.args.strong (token_of c.in-Some.sign.now) ≡ true = search rules in
    loops.turn_fault c.args.strong (operand_of c.args.strong (full c.args.left)) c.in-Err.e (expression c.loop-turn.all) _ _ (tokens_of c.loop-turn.rest.now) (token_of c.in-Some.sign.now) (tokens_of c.in-Some.after.now) _ (omega arith) (ap tokens_of split) test (first_of (search rules, grind (arith, common_steps))) c.loop-turn.invariant.1

-- Expressions behind commas.
pub more_expressions-loop-turn-init : goal.more_expressions-loop-turn-init
more_expressions-loop-turn-init t c = (omega arith, repeats.many_is (is_sign sign.Comma) (λ s. (full c.args.left).expression) (λ s a. s) (expression_list c.args.first.items) tt c.args.words.now)

pub more_expressions-loop-turn-preserved : goal.more_expressions-loop-turn-preserved
more_expressions-loop-turn-preserved t c =
    let split : c.loop-turn.rest.now ≡ c.in-Some.comma.now ∷ c.in-Some.after.now = search rules in
    let test : is_sign sign.Comma (token_of c.in-Some.comma.now) ≡ true = search rules in
    let read : (full c.args.left).expression (tokens_of c.in-Some.after.now) ≡ found (expression c.in-Ok.read.0) (tokens_of c.in-Ok.read.1.now) = search rules in
    let longer : c.push.new.self.items ≡ c.loop-turn.all.items ++ c.in-Ok.read.0 ∷ [] = search rules in
    (omega arith, repeats.turn (is_sign sign.Comma) (λ s. (full c.args.left).expression) (λ s a. s) (expression_list c.loop-turn.all.items) _ _ _ tt (tokens_of c.loop-turn.rest.now) (token_of c.in-Some.comma.now) (tokens_of c.in-Some.after.now) (expression c.in-Ok.read.0) _ _ (omega arith) (ap tokens_of split) test read (ap expression_list longer ∙ list_append c.loop-turn.all.items (c.in-Ok.read.0 ∷ [])) c.loop-turn.invariant.1)

pub more_expressions-returns-in_default : goal.more_expressions-returns-in_default
more_expressions-returns-in_default t c =
    let none : length c.loop-turn.rest.now ≡ 0 = c.in_default.ensures.cases in
    repeats.turn_end (is_sign sign.Comma) (λ s. (full c.args.left).expression) (λ s a. s) (expression_list c.loop-turn.all.items) _ tt (tokens_of c.loop-turn.rest.now) _ (repeats.no_word (is_sign sign.Comma) c.loop-turn.rest.now none) c.loop-turn.invariant.1

pub more_expressions-returns-then-not-is_sign : goal.more_expressions-returns-then-not-is_sign
more_expressions-returns-then-not-is_sign t c =
    let split : c.loop-turn.rest.now ≡ c.in-Some.comma.now ∷ c.in-Some.after.now = search rules in
    let test : is_sign sign.Comma (token_of c.in-Some.comma.now) ≡ false = search rules in
    repeats.turn_end (is_sign sign.Comma) (λ s. (full c.args.left).expression) (λ s a. s) (expression_list c.loop-turn.all.items) _ tt (tokens_of c.loop-turn.rest.now) _ (subst (λ z. Stops (is_sign sign.Comma) (tokens_of z)) (sym split) test) c.loop-turn.invariant.1

pub more_expressions-returns-in-Err : goal.more_expressions-returns-in-Err
more_expressions-returns-in-Err t c =
    let split : c.loop-turn.rest.now ≡ c.in-Some.comma.now ∷ c.in-Some.after.now = search rules in
    let test : is_sign sign.Comma (token_of c.in-Some.comma.now) ≡ true = search rules in
    repeats.turn_fault (is_sign sign.Comma) (λ s. (full c.args.left).expression) (λ s a. s) c.in-Err.e (expression_list c.loop-turn.all.items) _ _ tt (tokens_of c.loop-turn.rest.now) (token_of c.in-Some.comma.now) (tokens_of c.in-Some.after.now) _ (omega arith) (ap tokens_of split) test (first_of (search rules, grind (arith, common_steps))) c.loop-turn.invariant.1

-- Pieces behind commas.
pub more_pieces-loop-turn-init : goal.more_pieces-loop-turn-init
more_pieces-loop-turn-init t c = (omega arith, repeats.many_is (is_sign sign.Comma) (λ m. piece_by m (full c.args.left).expression) mode_after (pieces_of c.args.first.items) c.args.mode c.args.words.now)

pub more_pieces-loop-turn-preserved : goal.more_pieces-loop-turn-preserved
more_pieces-loop-turn-preserved t c =
    let split : c.loop-turn.rest.now ≡ c.in-Some.comma.now ∷ c.in-Some.after.now = search rules in
    let test : is_sign sign.Comma (token_of c.in-Some.comma.now) ≡ true = search rules in
    let read : piece_by c.loop-turn.mode (full c.args.left).expression (tokens_of c.in-Some.after.now) ≡ found (piece_of c.in-Ok.read.0) (tokens_of c.in-Ok.read.1.now) = search rules in
    let longer : c.push.new.self.items ≡ c.loop-turn.all.items ++ c.in-Ok.read.0 ∷ [] = search rules in (
      omega arith,
      let done = repeats.turn (is_sign sign.Comma) (λ m. piece_by m (full c.args.left).expression) mode_after (pieces_of c.loop-turn.all.items) _ _ _ c.loop-turn.mode (tokens_of c.loop-turn.rest.now) (token_of c.in-Some.comma.now) (tokens_of c.in-Some.after.now) (piece_of c.in-Ok.read.0) _ _ (omega arith) (ap tokens_of split) test read (ap pieces_of longer ∙ pieces_append c.loop-turn.all.items (c.in-Ok.read.0 ∷ [])) c.loop-turn.invariant.1 in
          subst (λ m. joined grown (pieces_of c.push.new.self.items) (repeats.items (is_sign sign.Comma) (λ n. piece_by n (full c.args.left).expression) mode_after (length c.args.words.now - (c.loop-turn._turn + 1)) m (tokens_of c.in-Ok.read.1.now)) ≡ joined grown (pieces_of c.args.first.items) (further c.args.mode (full c.args.left).expression (tokens_of c.args.words.now))) (sym c.mode_after-mode.ensures) done,
    )

pub more_pieces-returns-in_default : goal.more_pieces-returns-in_default
more_pieces-returns-in_default t c =
    let none : length c.loop-turn.rest.now ≡ 0 = c.in_default.ensures.cases in
    repeats.turn_end (is_sign sign.Comma) (λ m. piece_by m (full c.args.left).expression) mode_after (pieces_of c.loop-turn.all.items) _ c.loop-turn.mode (tokens_of c.loop-turn.rest.now) _ (repeats.no_word (is_sign sign.Comma) c.loop-turn.rest.now none) c.loop-turn.invariant.1

pub more_pieces-returns-then-not-is_sign : goal.more_pieces-returns-then-not-is_sign
more_pieces-returns-then-not-is_sign t c =
    let split : c.loop-turn.rest.now ≡ c.in-Some.comma.now ∷ c.in-Some.after.now = search rules in
    let test : is_sign sign.Comma (token_of c.in-Some.comma.now) ≡ false = search rules in
    repeats.turn_end (is_sign sign.Comma) (λ m. piece_by m (full c.args.left).expression) mode_after (pieces_of c.loop-turn.all.items) _ c.loop-turn.mode (tokens_of c.loop-turn.rest.now) _ (subst (λ z. Stops (is_sign sign.Comma) (tokens_of z)) (sym split) test) c.loop-turn.invariant.1

pub more_pieces-returns-in-Err : goal.more_pieces-returns-in-Err
more_pieces-returns-in-Err t c =
    let split : c.loop-turn.rest.now ≡ c.in-Some.comma.now ∷ c.in-Some.after.now = search rules in
    let test : is_sign sign.Comma (token_of c.in-Some.comma.now) ≡ true = search rules in
    repeats.turn_fault (is_sign sign.Comma) (λ m. piece_by m (full c.args.left).expression) mode_after c.in-Err.e (pieces_of c.loop-turn.all.items) _ _ c.loop-turn.mode (tokens_of c.loop-turn.rest.now) (token_of c.in-Some.comma.now) (tokens_of c.in-Some.after.now) _ (omega arith) (ap tokens_of split) test (first_of (search rules, grind (arith, common_steps))) c.loop-turn.invariant.1

pub pieces-returns : goal.pieces-returns
pieces-returns t c =
    let read : piece_by modes.Either (full c.args.left).expression (tokens_of c.args.words.now) ≡ found (piece_of c.in-Ok.read.0) (tokens_of c.in-Ok.read.1.now) = search rules in
    subst (λ v. Gives (λ r. (pieces_of r.0.items, tokens_of r.1.now)) c.more_pieces.result v)
    (sym (pieces_some (full c.args.left).expression (tokens_of c.args.words.now) (piece_of c.in-Ok.read.0) (tokens_of c.in-Ok.read.1.now) c.mode_after-mode.result _ (search rules) read c.mode_after-mode.ensures (search rules)))
    c.more_pieces.ensures

pub choices-returns-in-Err : goal.choices-returns-in-Err
choices-returns-in-Err t c =
    let first : (full c.args.left).expression (tokens_of c.args.words.now) ≡ found (expression c.in_ok-first.first) (tokens_of c.in_ok-first.rest.now) = search rules in
    choices_fault c.in-Err.e (full c.args.left).expression (tokens_of c.args.words.now) (expression c.in_ok-first.first) (tokens_of c.in_ok-first.rest.now) first (first_of (search rules, grind (arith, common_steps)))

pub choices-returns : goal.choices-returns
choices-returns t c =
    let first : (full c.args.left).expression (tokens_of c.args.words.now) ≡ found (expression c.in_ok-first.first) (tokens_of c.in_ok-first.rest.now) = search rules in
    let more : further modes.Choice (full c.args.left).expression (tokens_of c.in_ok-first.rest.now) ≡ found (pieces_of c.in-Ok.read.0.items) (tokens_of c.in-Ok.read.1.now) = search rules in
    let values : expressions c.in_ok-chosen.field-0.0.items ≡ (chosen (expression c.in_ok-first.first) (pieces_of c.in-Ok.read.0.items)).0 = search rules in
    let named : specifiers c.in_ok-chosen.field-0.1.items ≡ (chosen (expression c.in_ok-first.first) (pieces_of c.in-Ok.read.0.items)).1 = search rules in
    choices_found (full c.args.left).expression (tokens_of c.args.words.now) (expression c.in_ok-first.first) (tokens_of c.in_ok-first.rest.now) (pieces_of c.in-Ok.read.0.items) (tokens_of c.in-Ok.read.1.now) first more
    ∙ (ap (λ z. found (z, (chosen (expression c.in_ok-first.first) (pieces_of c.in-Ok.read.0.items)).1) (tokens_of c.in-Ok.read.1.now)) (sym values)
    ∙ ap (λ z. found (expressions c.in_ok-chosen.field-0.0.items, z) (tokens_of c.in-Ok.read.1.now)) (sym named))
