use Rattle.std.proofs.Common.{rules, arith, ◌≡◌, [], ◌∷◌, ◌++◌, true, false, subst, sym, ap, ◌∙◌, length, map}
use Rattle.std.proofs.lemmas.Grind.{common_steps}
use Rattle.reader_theory.specs.Words.{found}
use Rattle.reader_theory.specs.Exactness.{Stops}
use Rattle.fortran_tokens.specs.declared.token.Sign.TheVariants as sign
use Rattle.expr_reader.specs.Tests.{is_sign}
use Rattle.expr_reader.specs.Words.{token_of, tokens_of}
use Rattle.expr_reader.proofs.Repeats as repeats
use Rattle.action_reader.proofs.Turns.{map_append}
use Rattle.action_reader.proofs.reads.more.Goals as goal

pub loop-turn-init : goal.loop-turn-init
loop-turn-init g c = (omega arith, repeats.many_is (is_sign sign.Comma) (λ s. g.R.Reads.reader c.args.left) (λ s a. s) (map g.R.Reads.look c.args.first.items) tt c.args.words.now)

pub loop-turn-preserved : goal.loop-turn-preserved
loop-turn-preserved g c =
    let split : c.loop-turn.rest.now ≡ c.in-Some.comma.now ∷ c.in-Some.after.now = search rules in
    let test : is_sign sign.Comma (token_of c.in-Some.comma.now) ≡ true = search rules in
    let read : g.R.Reads.reader c.args.left (tokens_of c.in-Some.after.now) ≡ found (g.R.Reads.look c.in-Ok.read.0) (tokens_of c.in-Ok.read.1.now) = search rules in
    let longer : c.push.new.self.items ≡ c.loop-turn.all.items ++ c.in-Ok.read.0 ∷ [] = search rules in
    (omega arith, repeats.turn (is_sign sign.Comma) (λ s. g.R.Reads.reader c.args.left) (λ s a. s) (map g.R.Reads.look c.loop-turn.all.items) _ _ _ tt (tokens_of c.loop-turn.rest.now) (token_of c.in-Some.comma.now) (tokens_of c.in-Some.after.now) (g.R.Reads.look c.in-Ok.read.0) _ _ (omega arith) (ap tokens_of split) test read (ap (map g.R.Reads.look) longer ∙ map_append g.R.Reads.look c.loop-turn.all.items (c.in-Ok.read.0 ∷ [])) c.loop-turn.invariant.1)

pub returns-in_default : goal.returns-in_default
returns-in_default g c =
    let none : length c.loop-turn.rest.now ≡ 0 = c.in_default.ensures.cases in
    repeats.turn_end (is_sign sign.Comma) (λ s. g.R.Reads.reader c.args.left) (λ s a. s) (map g.R.Reads.look c.loop-turn.all.items) _ tt (tokens_of c.loop-turn.rest.now) _ (repeats.no_word (is_sign sign.Comma) c.loop-turn.rest.now none) c.loop-turn.invariant.1

pub returns-then-not-is_sign : goal.returns-then-not-is_sign
returns-then-not-is_sign g c =
    let split : c.loop-turn.rest.now ≡ c.in-Some.comma.now ∷ c.in-Some.after.now = search rules in
    let test : is_sign sign.Comma (token_of c.in-Some.comma.now) ≡ false = search rules in
    repeats.turn_end (is_sign sign.Comma) (λ s. g.R.Reads.reader c.args.left) (λ s a. s) (map g.R.Reads.look c.loop-turn.all.items) _ tt (tokens_of c.loop-turn.rest.now) _ (subst (λ z. Stops (is_sign sign.Comma) (tokens_of z)) (sym split) test) c.loop-turn.invariant.1

pub returns-in-Err : goal.returns-in-Err
returns-in-Err g c =
    let split : c.loop-turn.rest.now ≡ c.in-Some.comma.now ∷ c.in-Some.after.now = search rules in
    let test : is_sign sign.Comma (token_of c.in-Some.comma.now) ≡ true = search rules in
    repeats.turn_fault (is_sign sign.Comma) (λ s. g.R.Reads.reader c.args.left) (λ s a. s) c.in-Err.e (map g.R.Reads.look c.loop-turn.all.items) _ _ tt (tokens_of c.loop-turn.rest.now) (token_of c.in-Some.comma.now) (tokens_of c.in-Some.after.now) _ (omega arith) (ap tokens_of split) test (first_of (search rules, grind (arith, common_steps))) c.loop-turn.invariant.1
