use Rattle.std.proofs.Common.{rules, arith, ◌≡◌, [], ◌∷◌, ◌++◌, ◌+◌, ◌-◌, true, false, ap, ◌∙◌, length, map}
use Rattle.std.proofs.lemmas.Grind.{common_steps}
use Rattle.reader_theory.specs.Readers.{joined}
use Rattle.reader_theory.specs.Words.{found}
use Rattle.fortran_tokens.specs.declared.token.Sign.TheVariants as sign
use Rattle.expr_reader.specs.Tests.{is_sign}
use Rattle.expr_reader.specs.Words.{tokens_of}
use Rattle.statement_reader.specs.Objects.{seen}
use Rattle.action_reader.specs.Beginnings.{begins, grown}
use Rattle.action_reader.proofs.Runs as runs
use Rattle.action_reader.proofs.Turns.{map_append}
use Rattle.keyword_reader.specs.Families.{another}
use Rattle.keyword_reader.specs.Views.{choice_of}
use Rattle.keyword_reader.proofs.object.choices.Goals as goal

pub loop-turn-init : goal.loop-turn-init
loop-turn-init g c =
    let none : c.new-all.result.items ≡ [] = search rules in
    (omega arith, ap (λ xs. joined grown (map (choice_of g.R.Reads.look) xs) (runs.items (is_sign sign.Comma) (λ b. another g.R.Reads.reader b c.args.left) seen (length c.args.words.now - 0) false (tokens_of c.args.words.now))) none ∙ runs.many_is (is_sign sign.Comma) (λ b. another g.R.Reads.reader b c.args.left) seen false c.args.words.now)

pub loop-turn-preserved : goal.loop-turn-preserved
loop-turn-preserved g c =
    let test : begins (is_sign sign.Comma) (tokens_of c.loop-turn.rest.now) ≡ true = search rules in
    let read : another g.R.Reads.reader c.loop-turn.is_behind c.args.left (tokens_of c.loop-turn.rest.now) ≡ found (choice_of g.R.Reads.look c.in-Ok.read.0) (tokens_of c.in-Ok.read.1.now) = search rules in
    let longer : c.push.new.self.items ≡ c.loop-turn.all.items ++ c.in-Ok.read.0 ∷ [] = search rules in
    let now : c.seen-is_behind.result ≡ seen c.loop-turn.is_behind (choice_of g.R.Reads.look c.in-Ok.read.0) = c.seen-is_behind.ensures in
    (omega arith, ap (λ b. joined grown (map (choice_of g.R.Reads.look) c.push.new.self.items) (runs.items (is_sign sign.Comma) (λ b. another g.R.Reads.reader b c.args.left) seen (length c.args.words.now - (c.loop-turn._turn + 1)) b (tokens_of c.in-Ok.read.1.now))) now ∙ runs.turn (is_sign sign.Comma) (λ b. another g.R.Reads.reader b c.args.left) seen (map (choice_of g.R.Reads.look) c.loop-turn.all.items) _ _ _ c.loop-turn.is_behind (tokens_of c.loop-turn.rest.now) (choice_of g.R.Reads.look c.in-Ok.read.0) _ _ (omega arith) test read (ap (map (choice_of g.R.Reads.look)) longer ∙ map_append (choice_of g.R.Reads.look) c.loop-turn.all.items (c.in-Ok.read.0 ∷ [])) c.loop-turn.invariant.1)

pub returns-then-not-begins_with : goal.returns-then-not-begins_with
returns-then-not-begins_with g c =
    let test : begins (is_sign sign.Comma) (tokens_of c.loop-turn.rest.now) ≡ false = search rules in
    runs.turn_end (is_sign sign.Comma) (λ b. another g.R.Reads.reader b c.args.left) seen (map (choice_of g.R.Reads.look) c.loop-turn.all.items) _ c.loop-turn.is_behind (tokens_of c.loop-turn.rest.now) _ test c.loop-turn.invariant.1

pub returns-in-Err : goal.returns-in-Err
returns-in-Err g c =
    let test : begins (is_sign sign.Comma) (tokens_of c.loop-turn.rest.now) ≡ true = search rules in
    runs.turn_fault (is_sign sign.Comma) (λ b. another g.R.Reads.reader b c.args.left) seen c.in-Err.e (map (choice_of g.R.Reads.look) c.loop-turn.all.items) _ _ c.loop-turn.is_behind (tokens_of c.loop-turn.rest.now) _ (omega arith) test (first_of (search rules, grind (arith, common_steps))) c.loop-turn.invariant.1
