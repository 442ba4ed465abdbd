use Rattle.std.proofs.Common.{◌≡◌, ◌+◌, ◌*◌, ◌^◌, ◌<◌, ◌≤◌, ℕ, length, take, ap, sym, subst, ◌∙◌, refl, arith}
use Rattle.std.specs.Prelude.{vec_capacity}
use Rattle.std.proofs.lemmas.List.{length-take}
use Rattle.image_acts.specs.Replies.{fitting}
use Rattle.team_tables.specs.Entries.{ArePacked, weight_of}
use Rattle.team_tables.specs.Tables.{HasRoom, Table}
use Rattle.team_tables.specs.contracts.teams.Teams.{the_view}
use Rattle.team_tables.proofs.FormedLaws.{known_same, weight_within, within_packed}
use Rattle.team_tables.proofs.KeptLaws.{formed_long, known_long, members_placed, placed_within, same_table, weight_long}
use Rattle.team_tables.proofs.teams.Teams.hear_formed.Goals as goal

pub add_teams-requires-clause-few : goal.add_teams-requires-clause-few
add_teams-requires-clause-few c =
    let w = weight_within (2 * c.from.result) c.args.teams.now in
    let e = c.from.ensures in
    let f = c.self.invariant.few in
    let g : weight_of (fitting (2 * c.from.result) c.args.teams.now) < 2 ^ 33 = omega arith in
    rw c.fitting_count-count.ensures.fitting g

pub add_teams-requires-clause-slots : goal.add_teams-requires-clause-slots
add_teams-requires-clause-slots c =
    let w = weight_within (2 * c.from.result) c.args.teams.now in
    let e = c.from.ensures in
    let f = c.self.invariant.formed_roomy in
    let h = c.clear.ensures.capacity in
    let g : weight_of (fitting (2 * c.from.result) c.args.teams.now) ≤ vec_capacity c.clear.new.self = omega arith in
    rw c.fitting_count-count.ensures.fitting g

pub add_teams-requires-clause-rooms : goal.add_teams-requires-clause-rooms
add_teams-requires-clause-rooms c =
    let w = weight_within (2 * c.from.result) c.args.teams.now in
    let e = c.from.ensures in
    let P : Table → Type 0 = λ t. HasRoom t in
    let r : HasRoom (the_view c.self.inside) = subst P (sym c.self.view_is) c.requires in
    let room = r.1 in
    let p = members_placed _ _ _ _ _ _ _ _ _ c.self.invariant in
    let h = c.truncate.ensures.capacity in
    let l = ap length c.truncate.ensures.items ∙ length-take c.self.inside.placed c.self.inside.members.items in
    let g : length c.truncate.new.self.items + weight_of (fitting (2 * c.from.result) c.args.teams.now) ≤ vec_capacity c.truncate.new.self = omega arith in
    rw c.fitting_count-count.ensures.fitting g

pub invariant_of-self : goal.invariant_of-self
invariant_of-self c =
    let w = weight_within (2 * c.from.result) c.args.teams.now in
    let e = c.from.ensures in
    let P : Table → Type 0 = λ t. HasRoom t in
    let r : HasRoom (the_view c.self.inside) = subst P (sym c.self.view_is) c.requires in
    let room = r.0 in
    let known = known_long c.self.inside.members.items c.self.inside.known.items in
    let within = placed_within _ _ _ _ _ _ _ _ _ c.self.invariant in
    let l : length c.truncate.new.self.items ≡ c.self.inside.placed = ap length c.truncate.ensures.items ∙ length-take c.self.inside.placed c.self.inside.members.items ∙ omega arith in
    let f = c.add_teams.ensures.formed ∙ c.fitting_count-count.ensures.fitting in
    let n = sym (formed_long c.add_teams.new.members.items c.add_teams.new.entries.items) ∙ ap length f in
    let m = weight_long (fitting (2 * c.from.result) c.args.teams.now) in
    let Q : ℕ → Type 0 = λ k. ArePacked k (length c.add_teams.new.members.items) c.add_teams.new.entries.items in
    record {
      small = c.self.invariant.small;
      deep = c.self.invariant.deep;
      known_packed = c.self.invariant.known_packed;
      few = c.self.invariant.few;
      formed_packed = subst Q l c.add_teams.ensures.packed;
      known_roomy = omega arith;
      formed_roomy = (let a = c.self.invariant.formed_roomy in let b = c.clear.ensures.capacity in let d = c.add_teams.ensures.slots in omega arith);
    }

pub returns : goal.returns
returns c =
    let within = placed_within _ _ _ _ _ _ _ _ _ c.self.invariant in
    let l : length c.truncate.new.self.items ≡ c.self.inside.placed = ap length c.truncate.ensures.items ∙ length-take c.self.inside.placed c.self.inside.members.items ∙ omega arith in
    let kept : take c.self.inside.placed c.add_teams.new.members.items ≡ take c.self.inside.placed c.self.inside.members.items =
    ap (λ k. take k c.add_teams.new.members.items) (sym l) ∙ c.add_teams.ensures.kept ∙ c.truncate.ensures.items in
    let known = known_same c.self.inside.placed c.add_teams.new.members.items c.self.inside.members.items kept c.self.inside.known.items (within_packed _ _ _ c.self.invariant.known_packed) in
    let e : 2 * c.from.result ≡ 2 * c.self.inside.images = ap (λ k. 2 * k) c.from.ensures in
    same_table _ _ _ _ _ _ _ _ _ _ _ known (c.add_teams.ensures.formed ∙ c.fitting_count-count.ensures.fitting ∙ ap (λ k. fitting k c.args.teams.now) e) refl (c.add_teams.ensures.rooms ∙ c.truncate.ensures.capacity)
    ∙ ap (λ (t : Table). record t { formed = fitting (2 * t.images) c.args.teams.now }) c.self.view_is
