use Rattle.std.proofs.Common.{◌≡◌, ◌+◌, ◌<◌, ◌++◌, [], ◌∷◌, take, drop, length, ap, sym, ◌∙◌, subst, arith, add-one, append_assoc}
use Rattle.std.proofs.lemmas.List.{take-append-drop}
use Rattle.std.proofs.Math.Seq.{drop-cons}
use Rattle.fortran_lines.specs.declared.stmt.Stmt.{Stmt}
use Rattle.fortran_tokens.specs.Tokens.{AreTokens}
use Rattle.expr_reader.specs.Words.{tokens_of}
use Rattle.token_words.specs.Words.{AreSeen, AreWords}
use Rattle.token_words.proofs.Sources.{one_more, refused_here, item_here, taken_more}
use Rattle.token_words.proofs.source.words.Goals as goal

pub returns-in-Err-clause-refused : goal.returns-in-Err-clause-refused
returns-in-Err-clause-refused c =
    let here = item_here c.args.stmts.now c.loop-stmt.stmt-index c.stmt-item.result (omega arith) c.stmt-item.is in
    refused_here c.args.stmts.now c.loop-stmt.stmt-index c.stmt-item.result (tokens_of c.loop-stmt.words.items) c.in-Err.refusal here c.loop-stmt.invariant c.in-Err.ensures.refused

pub loop-stmt-preserved : goal.loop-stmt-preserved
loop-stmt-preserved c =
    let next = taken_more c.args.stmts.now c.loop-stmt.stmt-index c.stmt-item.result (omega arith) c.stmt-item.is in
    let added = c.in_ok-push_statement.ensures in
    let seen = subst (λ z. AreSeen c.stmt-item.result z added.0) c.as_slice.ensures.value added.1 in
    subst (λ z. AreWords z (tokens_of c.push_statement.new.words.items)) (sym next)
    (subst (AreWords (take c.loop-stmt.stmt-index c.args.stmts.now ++ c.stmt-item.result ∷ [])) (sym added.2)
    (one_more (take c.loop-stmt.stmt-index c.args.stmts.now) c.stmt-item.result c.in-Ok.tokens.items (tokens_of c.loop-stmt.words.items) added.0 c.loop-stmt.invariant c.in-Ok.ensures.tokens seen))
