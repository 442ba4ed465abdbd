use Rattle.std.proofs.Common.{rules, arith, ◌≡◌, ◌-◌, [], ◌∷◌, ◌++◌, true, false, ap, ◌∙◌, length, map}
use Rattle.std.proofs.lemmas.Grind.{common_steps}
use Rattle.reader_theory.specs.Readers.{joined}
use Rattle.reader_theory.specs.Words.{found}
use Rattle.fortran_tree.specs.UnitViews.{prefix_spec}
use Rattle.expr_reader.specs.Words.{tokens_of}
use Rattle.statement_reader.specs.Units.{a_prefix, begins_prefix}
use Rattle.action_reader.specs.Beginnings.{begins, grown}
use Rattle.action_reader.proofs.Runs as runs
use Rattle.action_reader.proofs.Turns.{map_append}
use Rattle.declaration_reader.proofs.function.prefixes.Goals as goal

pub loop-turn-init : goal.loop-turn-init
loop-turn-init c =
    let none : c.new-all.result.items ≡ [] = search rules in
    (omega arith, ap (λ xs. joined grown (map prefix_spec xs) (runs.items {S = Unit {0}} begins_prefix (λ s. a_prefix c.args.left) (λ s a. s) (length c.args.words.now - 0) tt (tokens_of c.args.words.now))) none ∙ runs.many_is begins_prefix (λ s. a_prefix c.args.left) (λ s a. s) tt c.args.words.now)

pub loop-turn-preserved : goal.loop-turn-preserved
loop-turn-preserved c =
    let test : begins begins_prefix (tokens_of c.loop-turn.rest.now) ≡ true = search rules in
    let read : a_prefix c.args.left (tokens_of c.loop-turn.rest.now) ≡ found (prefix_spec c.in-Ok.read.0) (tokens_of c.in-Ok.read.1.now) = search rules in
    let longer : c.push.new.self.items ≡ c.loop-turn.all.items ++ c.in-Ok.read.0 ∷ [] = search rules in
    (omega arith, runs.turn begins_prefix (λ s. a_prefix c.args.left) (λ s a. s) (map prefix_spec c.loop-turn.all.items) _ _ _ tt (tokens_of c.loop-turn.rest.now) (prefix_spec c.in-Ok.read.0) _ _ (omega arith) test read (ap (map prefix_spec) longer ∙ map_append prefix_spec c.loop-turn.all.items (c.in-Ok.read.0 ∷ [])) c.loop-turn.invariant.1)

pub returns-then-not-begins_prefix : goal.returns-then-not-begins_prefix
returns-then-not-begins_prefix c =
    let test : begins begins_prefix (tokens_of c.loop-turn.rest.now) ≡ false = search rules in
    runs.turn_end begins_prefix (λ s. a_prefix c.args.left) (λ s a. s) (map prefix_spec c.loop-turn.all.items) _ tt (tokens_of c.loop-turn.rest.now) _ test c.loop-turn.invariant.1

pub returns-in-Err : goal.returns-in-Err
returns-in-Err c =
    let test : begins begins_prefix (tokens_of c.loop-turn.rest.now) ≡ true = search rules in
    runs.turn_fault begins_prefix (λ s. a_prefix c.args.left) (λ s a. s) c.in-Err.e (map prefix_spec c.loop-turn.all.items) _ _ tt (tokens_of c.loop-turn.rest.now) _ (omega arith) test (first_of (search rules, grind (arith, common_steps))) c.loop-turn.invariant.1
