use Rattle.std.proofs.Common.{arith}
use Rattle.race_watch.specs.ActParts.{as_cell}
use Rattle.race_watch.specs.Marked.{MayNote}
use Rattle.race_search.proofs.Scan.{stands_at, fit_at, front_fits, front_noted, watched_next, below_more}
use Rattle.race_search.proofs.Whole.{no_race_more, first_race, may_note}
use Rattle.race_search.proofs.Lawfuls.{lawful_pauses, all_fit}
use Rattle.race_search.proofs.watch.watch.Goals as goal

pub partner_at-requires-clause-all : goal.partner_at-requires-clause-all
partner_at-requires-clause-all c =
    let fits = all_fit c.requires.lawful.0 c.args.n c.args.trace.now c.requires.lawful.1 c.requires.short in
    (front_fits c.args.n c.args.trace.now c.loop-at.at fits, front_noted c.args.n c.args.trace.now c.loop-at.at (omega arith) c.loop-at.invariant.noted)

pub partner_at-requires-clause-fits : goal.partner_at-requires-clause-fits
partner_at-requires-clause-fits c =
    fit_at c.args.n c.args.trace.now (all_fit c.requires.lawful.0 c.args.n c.args.trace.now c.requires.lawful.1 c.requires.short) c.loop-at.at c.index-trace-at.result (omega arith) c.index-trace-at.is

pub partner_at-requires-clause-none : goal.partner_at-requires-clause-none
partner_at-requires-clause-none c =
    may_note c.args.n c.args.trace.now (lawful_pauses c.requires.lawful.0 c.args.n c.args.trace.now c.requires.lawful.1) (stands_at c.args.trace.now c.loop-at.at c.index-trace-at.result (omega arith) c.index-trace-at.is)

pub returns-in-Some : goal.returns-in-Some
returns-in-Some c =
    let z = c.in_ok-partner.ensures in
    first_race c.args.n c.args.trace.now c.loop-at.at c.index-trace-at.result (omega arith) c.index-trace-at.is c.in-Some.partner.at (as_cell c.in-Some.partner.cell) (rw c.in-Some.is at z) c.loop-at.invariant.none

pub loop-at-preserved : goal.loop-at-preserved
loop-at-preserved c =
    let z = c.in_ok-partner.ensures in
    let both = (rw c.in_default.is at z) in record {
      watched = watched_next c.args.n c.args.trace.now c.loop-at.at c.index-trace-at.result c.partner_at.new.watcher (omega arith) c.index-trace-at.is both.1;
      noted = below_more (λ b y. MayNote c.args.n b y) c.args.trace.now c.loop-at.at c.index-trace-at.result (omega arith) c.index-trace-at.is
          (may_note c.args.n c.args.trace.now (lawful_pauses c.requires.lawful.0 c.args.n c.args.trace.now c.requires.lawful.1) (stands_at c.args.trace.now c.loop-at.at c.index-trace-at.result (omega arith) c.index-trace-at.is) both.0)
          c.loop-at.invariant.noted;
      none = no_race_more c.args.n c.args.trace.now c.loop-at.at c.index-trace-at.result (omega arith) c.index-trace-at.is both.0 c.loop-at.invariant.none;
    }

pub returns : goal.returns
returns c x y l h = c.loop-at.invariant.none x y l (omega arith)
