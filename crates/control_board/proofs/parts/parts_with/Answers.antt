use Rattle.std.proofs.Common.{◌-◌, ◌<◌, ◌≤◌, ◌^◌, [], replicate, length, refl, ap, sym, subst, ◌∙◌, arith}
use Rattle.object_rules.specs.BoardTeams.{teams_after, members_at}
use Rattle.team_round.specs.TeamStates.{members_in}
use Rattle.image_sync.specs.Holds.{hold_in}
use Rattle.control_board.specs.Values.{no_values}
use Rattle.team_tree.specs.Orders.{given_by}
use Rattle.control_board.specs.Boards.{values_of, table_of, plain_given, args_in, is_listed}
use Rattle.control_board.proofs.Keeping.{both}
use Rattle.control_board.proofs.Starting.{none_bad, values_none, length_none, first_table, first_members}
use Rattle.control_board.proofs.parts.parts_with.Goals as goal

pub returns : goal.returns
returns c = record {
  run = refl;
  runs = both _ c.requires.collective.images c.requires.control.images;
  teams = c.requires.teams;
  few = subst (λ ts. length ts < 2 ^ 32) (sym c.requires.teams) (omega arith);
  births = c.in_ok-births.ensures.items_if_clones_equal (λ y same. same);
  members = both _ (ap members_in c.requires.collective.teams) (ap members_in c.requires.control.teams);
  within = first_members c.args.n;
  rounds = both _ c.requires.collective.told c.requires.control.told;
  joined = λ k t i some. absurd (omega arith);
  tables = ap length c.in_ok-brought.ensures;
  bringers = λ t low high. ap (λ ts. length (table_of ts t)) c.in_ok-brought.ensures ∙ ap length (first_table (replicate c.args.n no_values) t low (subst (λ ts. t ≤ length ts) c.in_ok-brought.ensures high)) ∙ length_none c.args.n;
  values = λ t i low high first last. ap (λ ts. values_of (table_of ts t) i) c.in_ok-brought.ensures ∙ ap (λ bs. values_of bs i) (first_table (replicate c.args.n no_values) t low (subst (λ ts. t ≤ length ts) c.in_ok-brought.ensures high)) ∙ values_none c.args.n (i - 1);
  forms = λ t r m low. ap (λ l. plain_given (given_by (args_in l t r) m)) c.new-2.ensures.items;
  bad = λ t r low. ap (λ l. is_listed l t r) c.new-3.ensures.items ∙ sym (none_bad t r (members_at (teams_after c.args.n []) t) low);
  syncs = c.in_ok-pairs.ensures;
  constructs = λ k. ap (λ cs. hold_in cs k) c.new-4.ensures;
  steps = omega arith;
}
