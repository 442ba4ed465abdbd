use Rattle.std.proofs.Common.{rules, ◌≡◌, ◌+◌, ◌∷◌, true, false, length, arith}
use Rattle.std.specs.Prelude.{nat_eq}
use Rattle.std.proofs.lemmas.Bool.Decides.{nat_tests}
use Rattle.image_acts.specs.Teams.{index_in}
use Rattle.array_places.proofs.Orders.{behind_none, member_found, member_not}
use Rattle.array_places.proofs.images.index_in.Goals as goal

pub loop-member-init : goal.loop-member-init
loop-member-init c = record {
  gone = omega arith;
  same = behind_none (index_in c.args.image c.args.members.now);
}

pub returns-then-member-image : goal.returns-then-member-image
returns-then-member-image c =
    let split : c.loop-member.left.now ≡ c.in-Some.member.now ∷ c.in-Some.rest.now = search rules in
    let same : nat_eq c.in-Some.member.now c.args.image ≡ true = grind (arith, nat_tests) in
    member_found c.loop-member.before c.in-Some.member.now c.args.image _ c.loop-member.left.now c.in-Some.rest.now split c.loop-member.invariant.same same

pub loop-member-preserved : goal.loop-member-preserved
loop-member-preserved c =
    let split : c.loop-member.left.now ≡ c.in-Some.member.now ∷ c.in-Some.rest.now = search rules in
    let lengths : length c.loop-member.left.now ≡ length c.in-Some.rest.now + 1 = search rules in
    let other : nat_eq c.in-Some.member.now c.args.image ≡ false = grind (arith, nat_tests) in
    record {
      gone = omega arith;
      same = member_not c.loop-member.before c.in-Some.member.now c.args.image _ c.loop-member.left.now c.in-Some.rest.now split c.loop-member.invariant.same other;
    }
