use Rattle.std.proofs.Common.{arith}
use Rattle.std.proofs.lemmas.Grind.{common_steps}
use Rattle.caf_run.proofs.Written.{written_more, none_left}
use Rattle.caf_run.proofs.writing.write_all.Goals as goal

pub loop-rest-preserved : goal.loop-rest-preserved
loop-rest-preserved g c = record {
  written = written_more (g.K.Sink.written c.write.new.self) c.in_ok-count.count c.loop-rest.invariant.written c.in_ok-count.ensures.appends;
  untouched = λ none. absurd (let zero = none_left c.loop-rest.invariant.written none in grind (arith, common_steps));
  later = omega (arith, c.loop-rest.invariant.later, c.in_ok-count.ensures.later);
}
