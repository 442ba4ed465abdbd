use Rattle.std.proofs.Common.{◌++◌, List, map, Bor, subst}
use Rattle.fortran_grammar.specs.Tokens.{Token}
use Rattle.expr_reader.specs.Words.{tokens_of}
use Rattle.expr_reader.specs.declared.word.Word.{Word}
use Rattle.part_reader.specs.Views as parts
use Rattle.part_reader.specs.declared.part.Part.{Part as Held}
use Rattle.program_reader.specs.Sequence as sequence
use Rattle.statement_reader.specs.Parts.{Part}
use Rattle.sequence_reader.specs.Answers as answers
use Rattle.sequence_reader.specs.Views as view
use Rattle.sequence_reader.proofs.Turns as turns
use Rattle.sequence_reader.proofs.place.best.Goals as goal

abbrev seen : Held × Bor (List Word) → Part × List Token
seen q = (parts.part q.0, tokens_of q.1.now)

pub attempts-requires-clause-may : goal.attempts-requires-clause-may
attempts-requires-clause-may c =
    let own = map view.form c.allowed_forms.result.own.now in
    let later = map view.form c.allowed_forms.result.early.now ++ map view.form c.allowed_forms.result.statements.now in
    λ i m. subst (answers.Among i) c.allowed_forms.ensures (turns.among_first own later i m)

pub attempts-requires-2-clause-may : goal.attempts-requires-2-clause-may
attempts-requires-2-clause-may c =
    let own = map view.form c.allowed_forms.result.own.now in
    let early = map view.form c.allowed_forms.result.early.now in
    let last = map view.form c.allowed_forms.result.statements.now in
    λ i m. subst (answers.Among i) c.allowed_forms.ensures (turns.among_later own (early ++ last) i (turns.among_first early last i m))

pub attempts-requires-3-clause-may : goal.attempts-requires-3-clause-may
attempts-requires-3-clause-may c =
    let own = map view.form c.allowed_forms.result.own.now in
    let early = map view.form c.allowed_forms.result.early.now in
    let last = map view.form c.allowed_forms.result.statements.now in
    λ i m. subst (answers.Among i) c.allowed_forms.ensures (turns.among_later own (early ++ last) i (turns.among_later early last i m))

pub returns : goal.returns
returns c =
    let own = map view.form c.allowed_forms.result.own.now in
    let early = map view.form c.allowed_forms.result.early.now in
    let last = map view.form c.allowed_forms.result.statements.now in
    turns.all_tried seen (view.state c.args.state.now) c.args.words.now own early last (sequence.allowed (view.state c.args.state.now)) c.in_ok-tried.tried.found c.in_ok-tried-2.tried.found c.in_ok-tried-3.tried.found c.in_ok-tried.tried.fault c.in_ok-tried-2.tried.fault c.in_ok-tried-3.tried.fault
    c.allowed_forms.ensures c.in_ok-tried.ensures c.in_ok-tried-2.ensures c.in_ok-tried-3.ensures

pub attempts-requires-clause-late : goal.attempts-requires-clause-late
attempts-requires-clause-late c = turns.unread_late c.args.words.now
