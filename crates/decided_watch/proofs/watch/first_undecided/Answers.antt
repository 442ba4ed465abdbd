use Rattle.std.proofs.Common.{◌≡◌, ◌∙◌, ◌++◌, ◌∷◌, [], sym, ap, arith, take, subst}
use Rattle.std.specs.Prelude.{None}
use Rattle.std.proofs.lemmas.List.{take_more, length-take-le}
use Rattle.race_search.proofs.Scan.{stands_at, below_more}
use Rattle.decided_watch.specs.Undecided.{reason_of}
use Rattle.decided_watch.specs.EventTables.{Tells}
use Rattle.decided_watch.proofs.watch.first_undecided.Goals as goal

pub returns-in-Some : goal.returns-in-Some
returns-in-Some c = (
  stands_at c.args.trace.now c.loop-at.at c.index-trace-at.result (omega arith) c.index-trace-at.is,
  length-take-le c.loop-at.at c.args.trace.now (omega arith),
  sym c.in_ok-reason.ensures.reason ∙ c.in-Some.is,
  c.loop-at.invariant.none,
)

pub loop-at-preserved : goal.loop-at-preserved
loop-at-preserved c = record {
  tells = subst (λ z. Tells c.follow_entry.new.table z) (sym (take_more c.args.trace.now c.loop-at.at c.index-trace-at.result (omega arith) ∙ ap (λ z. take c.loop-at.at c.args.trace.now ++ z ∷ []) (sym c.index-trace-at.is))) c.in_ok-reason.ensures.tells;
  none = below_more (λ b y. reason_of b y ≡ None) c.args.trace.now c.loop-at.at c.index-trace-at.result (omega arith) c.index-trace-at.is (sym c.in_ok-reason.ensures.reason ∙ c.in_default.is) c.loop-at.invariant.none;
}
