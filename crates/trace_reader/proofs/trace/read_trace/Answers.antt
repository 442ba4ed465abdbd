use Rattle.std.proofs.Common.{[], ◌++◌, refl, ap, sym, ◌∙◌, subst, arith}
use Rattle.trace_forms.specs.Files.{lines_of, LinesWritten, IsBadLine}
use Rattle.trace_fields.proofs.Parts.{empty_is, some_is}
use Rattle.trace_reader.specs.Files.{Reads}
use Rattle.trace_reader.proofs.Bad.{bad_line, at_end, at_next}
use Rattle.trace_reader.proofs.trace.read_trace.Goals as goal

pub loop-rest-init : goal.loop-rest-init
loop-rest-init c = record {
  at = record { done = []; whole = refl; number = refl; read = c.new-reading.ensures c.args.names.now };
  few = omega arith;
}

pub first_line-requires : goal.first_line-requires
first_line-requires c = some_is _ c.loop-rest-test.ensures

pub overflow_add-line : goal.overflow_add-line
overflow_add-line c = let h = some_is _ c.loop-rest-test.ensures in omega arith

pub loop-rest-preserved : goal.loop-rest-preserved
loop-rest-preserved c =
    let at = c.loop-rest.invariant.at in
    let read = subst (λ yes. Reads yes at.done c.first_line.result.0.now c.args.names.now
    c.take_line.new.self) c.if-not-taken.false
    (c.in_ok-taken.ensures at.done at.read) in
    record {
      at = at_next c.args.bytes.now c.loop-rest.rest.now _ c.args.names.now c.loop-rest.line _ c.loop-rest.reading _
          c.first_line.ensures.first at read;
      few = let h = c.first_line.ensures.shorter in omega arith;
    }

pub returns-then-not-taken-clause-bad : goal.returns-then-not-taken-clause-bad
returns-then-not-taken-clause-bad c =
    let at = c.loop-rest.invariant.at in
    let none = subst (λ yes. Reads yes at.done c.first_line.result.0.now c.args.names.now
    c.take_line.new.self) c.if-not-taken.true
    (c.in_ok-taken.ensures at.done at.read) in
    subst (IsBadLine (lines_of c.args.bytes.now) c.args.names.now) (sym at.number)
    (bad_line (lines_of c.args.bytes.now) at.done (lines_of c.first_line.result.1.now) c.args.names.now
    c.first_line.result.0.now c.loop-rest.reading.entries.items
    (at.whole ∙ ap (λ z. at.done ++ z) c.first_line.ensures.first) at.read.written none)

pub returns-clause-written : goal.returns-clause-written
returns-clause-written c = subst (λ t. LinesWritten (lines_of c.args.bytes.now) c.args.names.now t)
    (sym c.from_vec.ensures) (at_end c.args.bytes.now c.loop-rest.rest.now c.args.names.now c.loop-rest.line
    c.loop-rest.reading (empty_is _ c.loop-rest-test.ensures) c.loop-rest.invariant.at)
