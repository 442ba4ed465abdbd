use Rattle.std.proofs.Common.{List, map, take, Bor}
use Rattle.fortran_grammar.specs.Tokens.{Token}
use Rattle.expr_reader.specs.Words.{tokens_of}
use Rattle.expr_reader.specs.declared.word.Word.{Word}
use Rattle.part_reader.specs.Views as parts
use Rattle.part_reader.specs.declared.part.Part.{Part as Held}
use Rattle.statement_reader.specs.Parts.{Part}
use Rattle.sequence_reader.specs.Answers as answers
use Rattle.sequence_reader.specs.Views as view
use Rattle.sequence_reader.proofs.place.attempts.Given as goal

abbrev seen : Held × Bor (List Word) → Part × List Token
seen q = (parts.part q.0, tokens_of q.1.now)

abbrev pub invariant-loop-form : goal.invariant-loop-form
invariant-loop-form l = answers.Tries seen 64 (view.state l.state) (tokens_of l.words) (λ n. answers.gathered 64 n (view.state l.state) (tokens_of l.words) (answers.value seen 64 n (view.state l.state) l.fn.before.found l.fn.before.fault) (map view.form (take l.form-index l.forms))) l.tried.found l.tried.fault
