use Rattle.std.proofs.Common.{rules, ◌≡◌, ◌++◌, ◌∷◌, [], false, arith}
use Rattle.std.specs.Prelude.{nat_eq}
use Rattle.std.proofs.lemmas.Bool.Decides.{nat_tests}
use Rattle.team_tables.proofs.EntryLaws.{found_older, within_here, within_older}
use Rattle.team_tables.proofs.entries.newest.Goals as goal

pub returns-then-from-team-clause-within : goal.returns-then-from-team-clause-within
returns-then-from-team-clause-within c =
    let split : c.loop-entry.left.now ≡ c.in-Some.older.now ++ c.in-Some.entry.now ∷ [] = search rules in
    λ n h. within_here _ _ _ split n (c.loop-entry.invariant.within n h)

pub loop-entry-preserved : goal.loop-entry-preserved
loop-entry-preserved c =
    let split : c.loop-entry.left.now ≡ c.in-Some.older.now ++ c.in-Some.entry.now ∷ [] = search rules in
    let other : nat_eq c.in-Some.entry.now.team c.args.team ≡ false = grind (arith, nat_tests) in
    record {
      same = λ ms. found_older _ _ _ split ms c.args.team _ (c.loop-entry.invariant.same ms) other;
      within = λ n h. within_older _ _ _ split n (c.loop-entry.invariant.within n h);
    }
