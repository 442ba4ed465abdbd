use Rattle.std.proofs.Common.{rules, OnOk, Ok, Err, Result}
use Rattle.std.specs.Int.RustNames.{FitsSigned}
use Rattle.caf_base.specs.declared.refusal.NoMemory.{NoMemory}
use Rattle.case_ranges.proofs.Answered.{number, twice, stored_nothing, stored_put}
use Rattle.case_ranges.proofs.ranges.store.Goals as goal
use mir.Syntax.{w64}

pub returns-then-of-clause-stored : goal.returns-then-of-clause-stored
returns-then-of-clause-stored c = λ s.
    let f : FitsSigned w64 c.low_end.result = search rules in
    let g : FitsSigned w64 c.high_end.result = search rules in
    stored_nothing c.args.intervals.now c.args.added.now.items c.push.new.self.items c.args.range c.low_end.result c.high_end.result _ _ c.low_end.ensures c.high_end.ensures f g
    (twice c.low_end.result f) (twice c.high_end.result g) c.if-of.true c.in_ok-push.ensures.items s

where_ok : (r : Result (Unit {0}) NoMemory) (P Q : Type 0) → (P → Q) → OnOk r P → OnOk r Q
where_ok (Ok x) P Q f h = f h
where_ok (Err e) P Q f h = tt

pub returns-clause-stored : goal.returns-clause-stored
returns-clause-stored c =
    let f : FitsSigned w64 c.low_end.result = search rules in
    let g : FitsSigned w64 c.high_end.result = search rules in
    where_ok c.put.result _ _
    (λ end. stored_put c.args.intervals.now c.absorb-all.new.intervals c.put.new.intervals c.args.added.now.items c.push.new.self.items c.args.range c.low_end.result c.high_end.result
    _ _ _ _ c.absorb-all.result.low c.absorb-all.result.high c.low_end.ensures c.high_end.ensures f g (number c.low_end.result f) (number c.high_end.result g)
    (twice c.low_end.result f) (twice c.high_end.result g) c.if-of.false c.in_ok-push.ensures.items c.absorb-all.ensures.keeps c.absorb-all.ensures.free end)
    c.put.ensures
