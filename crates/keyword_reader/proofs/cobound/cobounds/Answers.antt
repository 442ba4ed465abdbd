use Rattle.std.proofs.Common.{rules, arith, ◌≡◌, [], ◌∷◌, ◌++◌, ◌-◌, true, false, ap, ◌∙◌, length, map}
use Rattle.std.proofs.lemmas.Grind.{common_steps}
use Rattle.reader_theory.specs.Readers.{joined}
use Rattle.reader_theory.specs.Words.{found}
use Rattle.expr_reader.specs.Openings.{opens}
use Rattle.expr_reader.specs.Words.{tokens_of}
use Rattle.statement_reader.specs.Dimensions.{a_bound, ends_lower}
use Rattle.action_reader.specs.Beginnings.{begins, grown}
use Rattle.action_reader.proofs.Runs as runs
use Rattle.action_reader.proofs.Turns.{map_append}
use Rattle.keyword_reader.specs.Views.{bound_of}
use Rattle.keyword_reader.proofs.cobound.cobounds.Goals as goal

pub loop-turn-init : goal.loop-turn-init
loop-turn-init c =
    let none : c.new-all.result.items ≡ [] = search rules in
    (omega arith, ap (λ xs. joined grown (map bound_of xs) (runs.items (opens 1) (λ is_upper. a_bound is_upper c.args.left) ends_lower (length c.args.words.now - 0) false (tokens_of c.args.words.now))) none ∙ runs.many_is (opens 1) (λ is_upper. a_bound is_upper c.args.left) ends_lower false c.args.words.now)

pub loop-turn-preserved : goal.loop-turn-preserved
loop-turn-preserved c =
    let test : begins (opens 1) (tokens_of c.loop-turn.rest.now) ≡ true = search rules in
    let read : a_bound c.loop-turn.is_upper c.args.left (tokens_of c.loop-turn.rest.now) ≡ found (bound_of c.in-Ok.read.0) (tokens_of c.in-Ok.read.1.now) = search rules in
    let longer : c.push.new.self.items ≡ c.loop-turn.all.items ++ c.in-Ok.read.0 ∷ [] = search rules in
    (omega arith, runs.turn (opens 1) (λ is_upper. a_bound is_upper c.args.left) ends_lower (map bound_of c.loop-turn.all.items) _ _ _ c.loop-turn.is_upper (tokens_of c.loop-turn.rest.now) (bound_of c.in-Ok.read.0) _ _ (omega arith) test read (ap (map bound_of) longer ∙ map_append bound_of c.loop-turn.all.items (c.in-Ok.read.0 ∷ [])) c.loop-turn.invariant.1)

pub returns-then-not-begins_expression : goal.returns-then-not-begins_expression
returns-then-not-begins_expression c =
    let test : begins (opens 1) (tokens_of c.loop-turn.rest.now) ≡ false = search rules in
    runs.turn_end (opens 1) (λ is_upper. a_bound is_upper c.args.left) ends_lower (map bound_of c.loop-turn.all.items) _ c.loop-turn.is_upper (tokens_of c.loop-turn.rest.now) _ test c.loop-turn.invariant.1

pub returns-in-Err : goal.returns-in-Err
returns-in-Err c =
    let test : begins (opens 1) (tokens_of c.loop-turn.rest.now) ≡ true = search rules in
    runs.turn_fault (opens 1) (λ is_upper. a_bound is_upper c.args.left) ends_lower c.in-Err.e (map bound_of c.loop-turn.all.items) _ _ c.loop-turn.is_upper (tokens_of c.loop-turn.rest.now) _ (omega arith) test (first_of (search rules, grind (arith, common_steps))) c.loop-turn.invariant.1
