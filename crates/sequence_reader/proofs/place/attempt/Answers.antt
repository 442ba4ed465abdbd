use Rattle.std.proofs.Common.{rules, arith, ◌≡◌, true, false, List, Bor, sym, ◌∙◌}
use Rattle.std.proofs.lemmas.Grind.{common_steps}
use Rattle.fortran_grammar.specs.Tokens.{Token}
use Rattle.expr_reader.specs.Tests.{is_word}
use Rattle.expr_reader.specs.Words.{tokens_of}
use Rattle.expr_reader.specs.declared.word.Word.{Word}
use Rattle.part_reader.specs.Views as parts
use Rattle.part_reader.specs.declared.part.Part.{Part as Held}
use Rattle.statement_reader.specs.Parts as f
use Rattle.statement_reader.specs.Parts.{Part}
use Rattle.action_reader.specs.Beginnings.{begins}
use Rattle.sequence_reader.specs.Views as view
use Rattle.sequence_reader.proofs.Turns as turns
use Rattle.sequence_reader.proofs.place.attempt.Goals as goal
use Rattle.sequence_reader.proofs.place.attempt.Goals.{else-is_condition-via-then-is_condition+else-not-begins_with_name, else-is_condition-via-else-is_condition}

abbrev seen : Held × Bor (List Word) → Part × List Token
seen q = (parts.part q.0, tokens_of q.1.now)

pub returns-in-Err-Stopped : goal.returns-in-Err-Stopped
returns-in-Err-Stopped c =
    let k = rw c.in-Err-Stopped.field-0-is at c.in-Err-Stopped.ensures in
    turns.stops_too seen (view.state c.args.state.now) (tokens_of c.args.words.now) (view.form c.args.form) c.args.before.found c.args.before.fault c.in-Err-Stopped.stop c.further.result k.0 k.1 k.2 c.further.ensures c.requires.came c.requires.late

pub returns-then-not-begins_with_name : goal.returns-then-not-begins_with_name
returns-then-not-begins_with_name c =
    let is_c : f.is_of f.condition_form (parts.part c.in-Ok.read.0) ≡ true = sym c.is_condition.ensures ∙ c.if-is_condition.true in
    let un : begins is_word (tokens_of c.in-Ok.read.1.now) ≡ false = first_of (search rules, grind (arith, common_steps)) in
    turns.stops_behind seen (view.state c.args.state.now) (tokens_of c.args.words.now) (view.form c.args.form) c.args.before.found c.args.before.fault c.further-then-not-begins_with_name.result (parts.part c.in-Ok.read.0) c.in-Ok.read.1.now c.in-Ok.ensures is_c un c.further-then-not-begins_with_name.ensures c.requires.came c.requires.late

pub returns-in_default : goal.returns-in_default
returns-in_default c =
    let w : f.is_of f.condition_form (parts.part c.in-Ok.read.0) ≡ true → begins is_word (tokens_of c.in-Ok.read.1.now) ≡ true =
    λ h. elim c.else-is_condition.branch [
      | else-is_condition-via-then-is_condition+else-not-begins_with_name w ↦ first_of (search rules, grind (arith, common_steps))
      | else-is_condition-via-else-is_condition w ↦ absurd (let e : true ≡ false = sym h ∙ (sym c.is_condition.ensures ∙ w.if-is_condition.false) in cc)
    ] in
    turns.first_read seen (view.state c.args.state.now) (tokens_of c.args.words.now) (view.form c.args.form) c.args.before.found (c.in-Ok.read.0, c.in-Ok.read.1) c.args.before.fault c.in_default.is c.requires.may c.in-Ok.ensures w c.requires.late

pub returns-then-is_condition-2 : goal.returns-then-is_condition-2
returns-then-is_condition-2 c =
    let w : f.is_of f.condition_form (parts.part c.in-Ok.read.0) ≡ true → begins is_word (tokens_of c.in-Ok.read.1.now) ≡ true =
    λ h. elim c.else-is_condition.branch [
      | else-is_condition-via-then-is_condition+else-not-begins_with_name w ↦ first_of (search rules, grind (arith, common_steps))
      | else-is_condition-via-else-is_condition w ↦ absurd (let e : true ≡ false = sym h ∙ (sym c.is_condition.ensures ∙ w.if-is_condition.false) in cc)
    ] in
    let is_c : f.is_of f.condition_form (parts.part c.in-Some.old) ≡ true = sym c.is_condition-2.ensures ∙ c.if-is_condition-2.true in
    turns.other_read seen (view.state c.args.state.now) (tokens_of c.args.words.now) (view.form c.args.form) c.args.before.found (c.in-Some.old, c.in-Some.behind) (c.in-Ok.read.0, c.in-Ok.read.1) c.args.before.fault c.in-Some.is c.requires.may c.in-Ok.ensures w c.requires.came is_c c.requires.late

pub returns : goal.returns
returns c =
    let w : f.is_of f.condition_form (parts.part c.in-Ok.read.0) ≡ true → begins is_word (tokens_of c.in-Ok.read.1.now) ≡ true =
    λ h. elim c.else-is_condition.branch [
      | else-is_condition-via-then-is_condition+else-not-begins_with_name w ↦ first_of (search rules, grind (arith, common_steps))
      | else-is_condition-via-else-is_condition w ↦ absurd (let e : true ≡ false = sym h ∙ (sym c.is_condition.ensures ∙ w.if-is_condition.false) in cc)
    ] in
    let un : f.is_of f.condition_form (parts.part c.in-Some.old) ≡ false = sym c.is_condition-2.ensures ∙ c.if-is_condition-2.false in
    turns.also_read seen (view.state c.args.state.now) (tokens_of c.args.words.now) (view.form c.args.form) c.args.before.found (c.in-Some.old, c.in-Some.behind) c.args.before.fault (parts.part c.in-Ok.read.0) (tokens_of c.in-Ok.read.1.now) c.in-Some.is c.requires.may c.in-Ok.ensures w c.requires.came un c.requires.late
