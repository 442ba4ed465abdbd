use Rattle.std.proofs.Common.{◌≡◌, ◌<◌, ◌∙◌, sym, ap, subst, arith, length, length-append, List, [], ◌∷◌, ◌++◌}
use Rattle.std.proofs.lemmas.Grind.{common_steps}
use Rattle.crew.specs.declared.member.Member.{Member}
use Rattle.crew.proofs.Shares.{first_out, still_some, taken_more}
use Rattle.crew.proofs.dealing.share.Goals as goal

pub remove-requires : goal.remove-requires
remove-requires g c =
    let some = still_some c.loop.taken.items c.loop.rest.items c.args.rest.now.items c.loop.counter c.args.size c.loop.invariant.0 c.loop.invariant.1 c.loop-test.true c.requires in
    let ok = c.loop.rest.ok in
    grind (arith, common_steps)

pub loop-preserved : goal.loop-preserved
loop-preserved g c =
    let inv = c.loop.invariant in
    let some = still_some c.loop.taken.items c.loop.rest.items c.args.rest.now.items c.loop.counter c.args.size inv.0 inv.1 c.loop-test.true c.requires in
    let out = first_out c.loop.rest.items c.remove.new.self.items c.remove.result some c.remove.ensures.value c.remove.ensures.by_index.2 in
    let more = length-append c.loop.taken.items (c.remove.result ∷ []) in
    let many = inv.1 in (
      subst (λ (l : List (Member g.row.M.Denot)). l ++ c.remove.new.self.items ≡ c.args.rest.now.items) (sym c.in_ok-push.ensures.items) (taken_more c.loop.taken.items c.loop.rest.items c.remove.new.self.items c.args.rest.now.items c.remove.result out inv.0),
      ap length c.in_ok-push.ensures.items ∙ omega arith,
    )
