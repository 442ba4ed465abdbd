use Rattle.checked_tree.specs.StatementViews as typed
use Rattle.caf_words.specs.declared.command.Goal.TheVariants.{Judge, Replay}
use Rattle.caf_run.proofs.Answered.{tree_trace}
use Rattle.caf_run.proofs.WhatIsDue.{if_ok_map}
use Rattle.caf_run.proofs.traced.traced_due.Goals as goal

pub returns-in-Judge : goal.returns-in-Judge
returns-in-Judge c =
    rw (c.in-Judge.is)
    (if_ok_map c.judge_due.result _ _
    (λ d answers x accepts. tree_trace x (typed.program c.args.checked.now) Judge c.args.options c.args.fails.now c.args.trace.now d.status d.text.items d.report accepts answers)
    c.judge_due.ensures)

pub returns-in-Replay : goal.returns-in-Replay
returns-in-Replay c =
    rw (c.in-Replay.is)
    (if_ok_map c.replay_due.result _ _
    (λ d answers x accepts. tree_trace x (typed.program c.args.checked.now) Replay c.args.options c.args.fails.now c.args.trace.now d.status d.text.items d.report accepts answers)
    c.replay_due.ensures)
