use Rattle.std.proofs.Common.{◌≡◌, ◌+◌, sym, ap, ◌∙◌, subst, inl, arith}
use Rattle.std.specs.Prelude.{string_bytes}
use Rattle.std.proofs.lemmas.List.{length-map}
use Rattle.caf_base.specs.declared.refusal.Refusal.TheVariants.{Cause}
use Rattle.caf_words.specs.Words.{words_in}
use Rattle.caf_words.proofs.Steps.{HasTaken, taken_more, rest_texts, refused_taken, misread_all}
use Rattle.caf_words.proofs.words.options_of.Goals as goal

pub loop-taken-preserved : goal.loop-taken-preserved
loop-taken-preserved c =
    let taken = c.in-Option.taken in
    subst (λ rest. HasTaken c.args.verb (words_in c.args.words.now) rest taken.given (c.loop-taken.place + taken.words) c.with_failure-fails.result) (sym (rest_texts c.loop-taken.rest.now taken.words))
    (taken_more c.args.verb (words_in c.args.words.now) (words_in c.loop-taken.rest.now) c.loop-taken.given c.loop-taken.place c.loop-taken.fails c.with_failure-fails.result taken c.loop-taken.invariant c.in-Option.ensures
    c.with_failure-fails.ensures)

pub returns-in-Operands-clause-refused : goal.returns-in-Operands-clause-refused
returns-in-Operands-clause-refused c =
    misread_all c.args.verb (words_in c.args.words.now) (words_in c.loop-taken.rest.now) c.loop-taken.given c.loop-taken.place c.loop-taken.fails c.ended_by.result c.loop-taken.invariant c.ended_by.ensures.refused

pub wrong_at-requires : goal.wrong_at-requires
wrong_at-requires c = omega (arith, c.loop-taken.invariant.long, c.in-WrongValue.ensures.0, length-map c.args.words.now string_bytes, length-map c.loop-taken.rest.now string_bytes, c.requires)

pub returns-in-WrongValue-clause-refused : goal.returns-in-WrongValue-clause-refused
returns-in-WrongValue-clause-refused c =
    let two : c.loop-taken.place + 1 + 1 ≡ c.loop-taken.place + 2 = omega arith in
    inl (refused_taken c.args.verb (words_in c.args.words.now) (words_in c.loop-taken.rest.now) c.loop-taken.given c.loop-taken.place c.loop-taken.fails c.wrong_at.result c.loop-taken.invariant
    (2, c.in-WrongValue.ensures.1, c.wrong_at.ensures ∙ ap (λ m. Cause (record { word = m })) two))
