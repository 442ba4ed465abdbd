use Rattle.std.proofs.Common.{rules, ◌≡◌, ◌+◌, ◌^◌, ◌<◌, [], ◌∷◌, ◌++◌, length, take, ap, sym, append_assoc, ◌∙◌, arith, ℕ, List}
use Rattle.std.specs.Prelude.{map, vec_capacity}
use Rattle.std.proofs.lemmas.List.{length-append}
use Rattle.std.proofs.lemmas.List.Sums.{sum_by_push}
use Rattle.caf_base.specs.declared.place.ImageNo.{ImageNo}
use Rattle.caf_events.specs.declared.reply.FormedTeam.{FormedTeam}
use Rattle.team_tables.specs.Entries.{ArePacked, entry_of, formed_in, weight_of}
use Rattle.team_tables.specs.declared.entries.Entry.{Entry}
use Rattle.team_tables.proofs.FormedLaws.{formed_more, kept_put, numbers_long, packed_le, packed_put, within_packed}
use Rattle.team_tables.proofs.formed.add_teams.Goals as goal

pub loop-team-preserved : goal.loop-team-preserved
loop-team-preserved c =
    let t = c.in-Some.team.now in
    let ms = c.loop-team.members.items in
    let es = c.loop-team.entries.items in
    let i = c.loop-team.invariant in
    let split : c.loop-team.left.now ≡ c.in-Some.before.now ++ t ∷ [] = search rules in
    let weight : weight_of c.loop-team.left.now ≡ weight_of c.in-Some.before.now + (1 + length t.members) = ap weight_of split ∙ sum_by_push (λ (u : FormedTeam). 1 + length u.members) c.in-Some.before.now t in
    let before = packed_le (length c.args.members.now.items) (length ms) es i.packed in
    let few : length t.members < 2 ^ 33 = (let f = i.few in omega arith) in
    let long = length-append ms (map (λ (n : ImageNo). n.0) t.members) in
    let numbers = numbers_long t.members in
    let entries = length-append es (entry_of t (length ms) ∷ []) in
    let Rest : List ℕ → List Entry → Type 0 = λ xs ys.
    (c.in-Some.before.now ++ formed_in xs ys ≡ c.args.teams.now)
    × ArePacked (length c.args.members.now.items) (length xs) ys
    × (take (length c.args.members.now.items) xs ≡ c.args.members.now.items)
    × (length ys ≡ length es + 1)
    × (length xs ≡ length ms + length t.members)
    in
    let rest : Rest (ms ++ map (λ (n : ImageNo). n.0) t.members) (es ++ entry_of t (length ms) ∷ []) = (
      ap (λ ts. c.in-Some.before.now ++ ts) (formed_more ms es t (within_packed _ _ _ i.packed))
          ∙ sym (append_assoc c.in-Some.before.now (t ∷ []) (formed_in ms es)) ∙ ap (λ ts. ts ++ formed_in ms es) (sym split) ∙ i.formed,
      packed_put ms es t _ i.packed few,
      kept_put ms es t _ _ before i.kept,
      omega arith,
      omega arith,
    ) in
    let there : Rest c.add_team.new.members.items c.add_team.new.entries.items = rw (c.add_team.ensures.members, c.add_team.ensures.entries) rest in
    let slots : vec_capacity c.add_team.new.entries ≡ vec_capacity c.args.entries.now = c.add_team.ensures.slots ∙ i.slots in
    let rooms : vec_capacity c.add_team.new.members ≡ vec_capacity c.args.members.now = c.add_team.ensures.rooms ∙ i.rooms in
    record {
      formed = there.0;
      packed = there.1;
      kept = there.2;
      slots = slots;
      rooms = rooms;
      few = (let f = i.few in omega arith);
      slot = (let f = i.slot in let n = there.3 in omega arith);
      room = (let f = i.room in let n = there.4 in omega arith);
    }
