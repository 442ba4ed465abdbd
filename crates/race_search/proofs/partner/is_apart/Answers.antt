use Rattle.std.proofs.Common.{◌≡◌, ◌&&◌, not, refl, subst}
use Rattle.std.specs.Prelude.{MatchBool}
use Rattle.segment_clock.specs.Counts.{count_of}
use Rattle.race_search.specs.Partners.{Apart}
use Rattle.race_search.proofs.Clocked.{told}
use Rattle.race_search.proofs.partner.is_apart.Goals as goal

pub returns-then-not-is_before : goal.returns-then-not-is_before
returns-then-not-is_before c =
    let e : (not c.covers-is_before.result && not c.covers-is_after.result) ≡ not c.covers-is_after.result = rw c.if-not-is_before.true refl in
    subst (λ z. MatchBool z (Apart c.args.n c.args.b.now c.args.x.now c.args.g.now c.args.e.now) (Apart c.args.n c.args.b.now c.args.x.now c.args.g.now c.args.e.now → ⊥)) e
    (told c.args.n c.args.b.now c.args.x.now c.args.g.now c.args.e.now c.requires.within.0 c.requires.within.1 c.requires.other (count_of c.clock-2.result.now) (count_of c.clock.result.now) c.clock-2.ensures.covers c.clock.ensures.covers
    c.covers-is_before.result c.covers-is_after.result c.completed.result c.completed-2.result c.completed.ensures c.completed-2.ensures c.covers-is_before.ensures c.covers-is_after.ensures)

pub returns-else-not-is_before : goal.returns-else-not-is_before
returns-else-not-is_before c =
    let e : (not c.covers-is_before.result && not c.covers-is_after.result) ≡ not c.covers-is_before.result = rw c.if-not-is_before.false refl in
    subst (λ z. MatchBool z (Apart c.args.n c.args.b.now c.args.x.now c.args.g.now c.args.e.now) (Apart c.args.n c.args.b.now c.args.x.now c.args.g.now c.args.e.now → ⊥)) e
    (told c.args.n c.args.b.now c.args.x.now c.args.g.now c.args.e.now c.requires.within.0 c.requires.within.1 c.requires.other (count_of c.clock-2.result.now) (count_of c.clock.result.now) c.clock-2.ensures.covers c.clock.ensures.covers
    c.covers-is_before.result c.covers-is_after.result c.completed.result c.completed-2.result c.completed.ensures c.completed-2.ensures c.covers-is_before.ensures c.covers-is_after.ensures)
