use Rattle.std.proofs.Common.{◌*◌, ◌+◌, length}
use Rattle.checked_run.specs.Coarrays.{coarrays_of}
use Rattle.program_walks.specs.Runs.{program_rules, program_begins}
use Rattle.program_walks.proofs.Fits.{program_fit}
use Rattle.tree_meaning.specs.Start.{start_of, walk_step}
use Rattle.stamp_limits.specs.StampLimits.{most_stamp}
use Rattle.stamp_limits.proofs.Limits.{limited, none_due_next}
use Rattle.stamp_reports.proofs.Runs.{few_entries, no_limit, below, within, shares_below}
use Rattle.stamp_reports.proofs.laws.law_no_report_meets_a_stamp_limit.Goals as goal

pub returns-clause-few : goal.returns-clause-few
returns-clause-few g p told fails_at report is =
    few_entries (walk_step p told.limit) (λ l reply. Unit {0}) (coarrays_of p) told.images (λ i. start_of p i told.images) fails_at told.words report.trace.entries is.run.core

pub returns-clause-none : goal.returns-clause-none
returns-clause-none g p told fails_at report is =
    no_limit (program_rules p told.limit) (program_begins p (coarrays_of p) told.images fails_at told.words) report.trace.entries (program_fit p told.limit (coarrays_of p) told.images fails_at told.words) is.run.core

pub returns-clause-run : goal.returns-clause-run
returns-clause-run g p told fails_at report is low =
    let few = few_entries (walk_step p told.limit) (λ l reply. Unit {0}) (coarrays_of p) told.images (λ i. start_of p i told.images) fails_at told.words report.trace.entries is.run.core in
    limited (program_rules p told.limit) (program_begins p (coarrays_of p) told.images fails_at told.words) report.trace.entries (program_fit p told.limit (coarrays_of p) told.images fails_at told.words) is.run.core
    (within (length report.trace.entries) (told.images * (2 * told.words + 4)) most_stamp few low)

pub returns-clause-next : goal.returns-clause-next
returns-clause-next g p told fails_at report is low i ask due =
    let few = few_entries (walk_step p told.limit) (λ l reply. Unit {0}) (coarrays_of p) told.images (λ i. start_of p i told.images) fails_at told.words report.trace.entries is.run.core in
    none_due_next (program_rules p told.limit) (program_begins p (coarrays_of p) told.images fails_at told.words) report.trace.entries (program_fit p told.limit (coarrays_of p) told.images fails_at told.words) is.run.core
    (below (length report.trace.entries) (told.images * (2 * told.words + 4)) most_stamp few low) i ask due

pub returns-clause-shares : goal.returns-clause-shares
returns-clause-shares g = shares_below
