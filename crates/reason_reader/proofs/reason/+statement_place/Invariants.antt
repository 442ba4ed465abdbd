use Rattle.std.proofs.Common.{length}
use Rattle.reason_reader.proofs.reason.+statement_place.Given as goal

abbrev pub decreases-statement_place : goal.decreases-statement_place
decreases-statement_place g l = length l.names.now
