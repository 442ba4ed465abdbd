use Rattle.std.proofs.Common.{rules, ◌≡◌, ◌++◌, ◌∷◌, [], ◌∙◌, sym}
use Rattle.team_tables.specs.Entries.{team_at}
use Rattle.team_tables.proofs.EntryLaws.{sibling_here, sibling_older, within_here, within_older}
use Rattle.team_tables.proofs.entries.newest_sibling.Goals as goal

pub returns-then-is_sibling-clause-found : goal.returns-then-is_sibling-clause-found
returns-then-is_sibling-clause-found c =
    let split : c.loop-entry.left.now ≡ c.in-Some.older.now ++ c.in-Some.entry.now ∷ [] = search rules in
    λ ms. sibling_here _ _ _ split ms (team_at ms c.args.of.now) c.args.number.now _ (c.loop-entry.invariant.same ms) (sym c.is_sibling.ensures ∙ c.if-is_sibling.true)

pub returns-then-is_sibling-clause-within : goal.returns-then-is_sibling-clause-within
returns-then-is_sibling-clause-within c =
    let split : c.loop-entry.left.now ≡ c.in-Some.older.now ++ c.in-Some.entry.now ∷ [] = search rules in
    λ n h. within_here _ _ _ split n (c.loop-entry.invariant.within n h)

pub loop-entry-preserved : goal.loop-entry-preserved
loop-entry-preserved c =
    let split : c.loop-entry.left.now ≡ c.in-Some.older.now ++ c.in-Some.entry.now ∷ [] = search rules in
    record {
      same = λ ms. sibling_older _ _ _ split ms (team_at ms c.args.of.now) c.args.number.now _ (c.loop-entry.invariant.same ms) (sym c.is_sibling.ensures ∙ c.if-is_sibling.false);
      within = λ n h. within_older _ _ _ split n (c.loop-entry.invariant.within n h);
    }
