use Rattle.std.proofs.Common.{◌≡◌, ◌+◌, ℕ, List, [], ◌∷◌, ◌++◌, map, take, get_or, Bor, ap, sym, ◌∙◌, subst, add-one}
use Rattle.fortran_grammar.specs.Tokens.{Token}
use Rattle.expr_reader.specs.Words.{tokens_of}
use Rattle.expr_reader.specs.declared.word.Word.{Word}
use Rattle.part_reader.specs.Views as parts
use Rattle.part_reader.specs.declared.part.Part.{Part as Held}
use Rattle.statement_reader.specs.Parts.{Part}
use Rattle.sequence_reader.specs.declared.form.Form.TheVariants as held
use Rattle.sequence_reader.specs.Answers as answers
use Rattle.sequence_reader.specs.Views as view
use Rattle.sequence_reader.proofs.Turns as turns
use Rattle.sequence_reader.proofs.place.attempts.Goals as goal

abbrev seen : Held × Bor (List Word) → Part × List Token
seen q = (parts.part q.0, tokens_of q.1.now)

pub attempt-requires-clause-may : goal.attempt-requires-clause-may
attempt-requires-clause-may c = c.requires.may _ (turns.among_at c.args.forms.now c.loop-form.form-index held.Program c.loop-form-test.true)

pub loop-form-preserved : goal.loop-form-preserved
loop-form-preserved c =
    let s = view.state c.args.state.now in
    let ts = tokens_of c.args.words.now in
    let v : ℕ → answers.Answer = λ n. answers.value seen 64 n s c.args.before.found c.args.before.fault in
    let longer : map view.form (take (c.loop-form.form-index + 1) c.args.forms.now) ≡ map view.form (take c.loop-form.form-index c.args.forms.now) ++ view.form (get_or c.args.forms.now c.loop-form.form-index held.Program) ∷ [] =
    ap (λ k. map view.form (take k c.args.forms.now)) (add-one c.loop-form.form-index) ∙ turns.forms_more c.args.forms.now c.loop-form.form-index held.Program c.loop-form-test.true in
    subst (λ is. answers.Tries seen 64 s ts (λ n. answers.gathered 64 n s ts (v n) is) c.in_ok-tried.tried.found c.in_ok-tried.tried.fault) (sym longer)
    (turns.one_more seen s ts (map view.form (take c.loop-form.form-index c.args.forms.now)) (view.form (get_or c.args.forms.now c.loop-form.form-index held.Program)) v c.loop-form.tried.found c.in_ok-tried.tried.found c.loop-form.tried.fault c.in_ok-tried.tried.fault c.loop-form.invariant c.in_ok-tried.ensures)
