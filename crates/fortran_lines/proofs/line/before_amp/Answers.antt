use Rattle.std.proofs.Common.{sym, ◌∙◌}
use Rattle.fortran_lines.proofs.LineLemmas.{amp_last, other_last, blank_last}
use Rattle.fortran_lines.proofs.line.before_amp.Goals as goal

pub returns-then-last-eq38 : goal.returns-then-last-eq38
returns-then-last-eq38 c =
    let h = c.in-Some.ensures.cases in
    amp_last c.loop-last.rest.now c.in-Some.front.now c.in-Some.last.now h.0 c.if-last-eq38.true ∙ c.loop-last.invariant

pub returns-then-not-is_blank : goal.returns-then-not-is_blank
returns-then-not-is_blank c =
    let h = c.in-Some.ensures.cases in
    other_last c.loop-last.rest.now c.in-Some.front.now c.in-Some.last.now h.0 c.if-last-eq38.false (sym c.is_blank.ensures ∙ c.if-not-is_blank.true) ∙ c.loop-last.invariant

pub loop-last-preserved : goal.loop-last-preserved
loop-last-preserved c =
    let h = c.in-Some.ensures.cases in
    blank_last c.loop-last.rest.now c.in-Some.front.now c.in-Some.last.now h.0 (sym c.is_blank.ensures ∙ c.if-not-is_blank.false) ∙ c.loop-last.invariant
