use Rattle.std.proofs.Common.{◌≡◌, ◌+◌, ◌++◌, ◌∷◌, [], length, map, replicate, ap, sym, ◌∙◌, arith, append_assoc, length-append}
use Rattle.object_rules.specs.BoardTeams.{Team}
use Rattle.team_tree.specs.KnownTeams.{known, all_known, child_of}
use Rattle.control_board.specs.Boards.{made_of, all_made}
use Rattle.control_board.proofs.Formations.{made_last, made_count, few_there, count_there, made_births, made_children, map_append}
use Rattle.control_board.proofs.forming.add_formed.Goals as goal

pub add_births-requires : goal.add_births-requires
add_births-requires c =
    let i = c.loop-formation.invariant in
    let at : c.loop-formation.yielded ++ c.in-Some.formation ∷ c.next.new.self.rest.items ≡ c.args.formations.items = ap (λ l. c.loop-formation.yielded ++ l) (sym c.in-Some.ensures.steps.0) ∙ i.0 in
    let n = count_there c.args.formations.items c.loop-formation.yielded c.next.new.self.rest.items c.in-Some.formation at in
    let k = c.len.ensures in
    let r = c.requires.births in
    let a = i.4 in
    let b = i.5 in
    omega arith

pub enact-requires-clause-few : goal.enact-requires-clause-few
enact-requires-clause-few c =
    let i = c.loop-formation.invariant in
    let at : c.loop-formation.yielded ++ c.in-Some.formation ∷ c.next.new.self.rest.items ≡ c.args.formations.items = ap (λ l. c.loop-formation.yielded ++ l) (sym c.in-Some.ensures.steps.0) ∙ i.0 in
    few_there c.args.formations.items c.loop-formation.yielded c.next.new.self.rest.items c.in-Some.formation c.requires.few at

pub enact-requires-clause-room : goal.enact-requires-clause-room
enact-requires-clause-room c =
    let i = c.loop-formation.invariant in
    let at : c.loop-formation.yielded ++ c.in-Some.formation ∷ c.next.new.self.rest.items ≡ c.args.formations.items = ap (λ l. c.loop-formation.yielded ++ l) (sym c.in-Some.ensures.steps.0) ∙ i.0 in
    let n = count_there c.args.formations.items c.loop-formation.yielded c.next.new.self.rest.items c.in-Some.formation at in
    let r = c.requires.room in
    let a = i.3 in
    omega arith

pub loop-formation-preserved : goal.loop-formation-preserved
loop-formation-preserved c =
    let i = c.loop-formation.invariant in
    let f = c.in-Some.formation in
    let at : c.loop-formation.yielded ++ c.in-Some.formation ∷ c.next.new.self.rest.items ≡ c.args.formations.items = ap (λ l. c.loop-formation.yielded ++ l) (sym c.in-Some.ensures.steps.0) ∙ i.0 in
    let last = made_last c.loop-formation.yielded f in
    let n = made_count f in
    let m : length (all_made (c.loop-formation.yielded ++ c.in-Some.formation ∷ [])) ≡ length (all_made c.loop-formation.yielded) + length c.in-Some.formation.plan.teams.items = ap length last ∙ length-append (all_made c.loop-formation.yielded) (made_of f) ∙ ap (λ k. length (all_made c.loop-formation.yielded) + k) n in
    let k : c.len.result ≡ length c.in-Some.formation.plan.teams.items = c.len.ensures ∙ c.in-Some.formation.plan.teams.ok.0 in
    let room = c.enact.ensures.room in
    let len = c.add_births.ensures.len in
    let cap = c.add_births.ensures.capacity in
    let i3 = i.3 in
    let i4 = i.4 in
    let i5 = i.5 in (
      append_assoc c.loop-formation.yielded (c.in-Some.formation ∷ []) c.next.new.self.rest.items ∙ at,
      c.enact.ensures.teams ∙ ap (λ l. l ++ map (child_of f.plan.parent.0) f.plan.teams.items) i.1 ∙ append_assoc c.args.teams.now.teams (all_known (all_made c.loop-formation.yielded)) (map (child_of f.plan.parent.0) f.plan.teams.items)
          ∙ ap (λ l. c.args.teams.now.teams ++ (all_known (all_made c.loop-formation.yielded) ++ l)) (made_children f)
          ∙ ap (λ l. c.args.teams.now.teams ++ l) (sym (ap all_known last ∙ map_append known (all_made c.loop-formation.yielded) (made_of f))),
      c.add_births.ensures.items ∙ ap (λ l. l ++ replicate c.len.result f.round) i.2 ∙ append_assoc c.args.births.now.items (map (λ (x : Team). x.round) (all_made c.loop-formation.yielded)) (replicate c.len.result f.round)
          ∙ ap (λ l. c.args.births.now.items ++ (map (λ (x : Team). x.round) (all_made c.loop-formation.yielded) ++ l)) (ap (λ j. replicate j f.round) k ∙ made_births f)
          ∙ ap (λ l. c.args.births.now.items ++ l) (sym (ap (map (λ (x : Team). x.round)) last ∙ map_append (λ (x : Team). x.round) (all_made c.loop-formation.yielded) (made_of f))),
      omega arith,
      omega arith,
      cap ∙ i5,
    )
