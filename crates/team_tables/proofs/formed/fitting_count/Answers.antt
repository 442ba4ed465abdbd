use Rattle.std.proofs.Common.{rules, ◌≡◌, ◌+◌, ◌-◌, ◌<◌, ◌∷◌, ◌++◌, suc, length, take, drop, ap, sym, ◌∙◌, arith, ℕ}
use Rattle.image_acts.specs.Replies.{fitting}
use Rattle.team_tables.proofs.FormedLaws.{drop_turn, fit_turn}
use Rattle.team_tables.proofs.formed.fitting_count.Goals as goal

pub loop-team-preserved : goal.loop-team-preserved
loop-team-preserved c =
    let split : c.loop-team.left.now ≡ c.in-Some.team.now ∷ c.in-Some.rest.now = search rules in
    let lengths : length c.loop-team.left.now ≡ length c.in-Some.rest.now + 1 = search rules in
    let there : drop c.loop-team.count c.args.teams.now ≡ c.in-Some.team.now ∷ c.in-Some.rest.now = sym c.loop-team.invariant.left ∙ split in
    let size : c.len-size.result ≡ length c.in-Some.team.now.members = c.len-size.ensures in
    let small : length c.in-Some.team.now.members < c.loop-team.spare = omega arith in
    let next : c.loop-team.count + 1 ≡ suc c.loop-team.count = omega arith in
    let less : c.loop-team.spare - (c.len-size.result + 1) ≡ c.loop-team.spare - suc (length c.in-Some.team.now.members) = omega arith in
    record {
      gone = omega arith;
      left = drop_turn c.loop-team.count c.args.teams.now c.in-Some.team.now c.in-Some.rest.now there ∙ ap (λ k. drop k c.args.teams.now) (sym next);
      same =
          ap (λ (k : ℕ). take k c.args.teams.now ++ fitting (c.loop-team.spare - (c.len-size.result + 1)) c.in-Some.rest.now) next
          ∙ ap (λ (k : ℕ). take (suc c.loop-team.count) c.args.teams.now ++ fitting k c.in-Some.rest.now) less
          ∙ fit_turn c.loop-team.count c.loop-team.spare c.args.teams.now c.in-Some.team.now c.in-Some.rest.now _ there small
          (ap (λ ts. take c.loop-team.count c.args.teams.now ++ fitting c.loop-team.spare ts) (sym split) ∙ c.loop-team.invariant.same);
    }
