use Rattle.std.proofs.Common.{rules, ◌≡◌, ◌++◌, ◌∷◌, [], ◌∙◌, ap, sym}
use Rattle.std.specs.Option.{option_map}
use Rattle.image_acts.specs.Core.{Team}
use Rattle.image_acts.specs.Teams.{is_in}
use Rattle.team_tables.proofs.EntryLaws.{own_here, own_older, within_here, within_older}
use Rattle.team_tables.proofs.entries.newest_with.Goals as goal

pub members_of-requires : goal.members_of-requires
members_of-requires c =
    let split : c.loop-entry.left.now ≡ c.in-Some.older.now ++ c.in-Some.entry.now ∷ [] = search rules in
    within_here _ _ _ split _ c.loop-entry.invariant.within

pub returns-then-is_in : goal.returns-then-is_in
returns-then-is_in c =
    let split : c.loop-entry.left.now ≡ c.in-Some.older.now ++ c.in-Some.entry.now ∷ [] = search rules in
    ap (option_map (λ (k : Team). k.team)) (own_here _ _ _ split c.args.members.now c.args.image _ c.loop-entry.invariant.same (ap (is_in c.args.image) (sym c.members_of.ensures.value) ∙ sym c.is_in.ensures ∙ c.if-is_in.true))

pub loop-entry-preserved : goal.loop-entry-preserved
loop-entry-preserved c =
    let split : c.loop-entry.left.now ≡ c.in-Some.older.now ++ c.in-Some.entry.now ∷ [] = search rules in
    record {
      same = own_older _ _ _ split c.args.members.now c.args.image _ c.loop-entry.invariant.same (ap (is_in c.args.image) (sym c.members_of.ensures.value) ∙ sym c.is_in.ensures ∙ c.if-is_in.false);
      within = within_older _ _ _ split _ c.loop-entry.invariant.within;
    }
