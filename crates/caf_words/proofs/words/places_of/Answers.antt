use Rattle.std.proofs.Common.{◌≡◌, ◌+◌, ◌-◌, suc, length, take, drop, ap, ◌∙◌, arith}
use Rattle.caf_base.specs.declared.refusal.Refusal.TheVariants.{Cause}
use Rattle.caf_words.specs.Words.{words_in}
use Rattle.caf_words.proofs.Forms.{usage_trace_none, usage_trace_named, usage_trace, places_named}
use Rattle.caf_words.proofs.Splits.{none_of, first_of}
use Rattle.caf_words.proofs.words.places_of.Goals as goal

pub returns-in_default-clause-refused : goal.returns-in_default-clause-refused
returns-in_default-clause-refused c = let e = none_of c.args.words.now c.in_default.len_below in (1, rw e usage_trace_none, c.wrong_at.ensures)

pub returns-then-not-is_file_name-clause-refused : goal.returns-then-not-is_file_name-clause-refused
returns-then-not-is_file_name-clause-refused c =
    let e = first_of c.args.words.now c.first-item.result c.in-len1-up.len_at_least c.first-item.is in
    let word : c.as_str.result.now ≡ _ = c.as_str.ensures.value in
    (1, rw e (usage_trace_named _ _ (rw (← word) (λ name. (let t = c.is_file_name.ensures.1 name in cc (t, c.if-not-is_file_name.true))))), c.wrong_at-then-not-is_file_name.ensures)

pub returns-in-Ok-clause-places : goal.returns-in-Ok-clause-places
returns-in-Ok-clause-places c =
    let e = first_of c.args.words.now c.first-item.result c.in-len1-up.len_at_least c.first-item.is in
    let name = c.is_file_name.ensures.0 c.if-not-is_file_name.false in
    places_named c.args.words.now (take (length c.args.words.now - 1) (drop 1 c.args.words.now)) c.first-item.result c.args.place c.in-Ok.file e (rw c.as_str.ensures.value at name) c.in-Ok.ensures.name.0 c.in-Ok.ensures.name.1

pub returns-in-Err-clause-refused : goal.returns-in-Err-clause-refused
returns-in-Err-clause-refused c =
    let e = first_of c.args.words.now c.first-item.result c.in-len1-up.len_at_least c.first-item.is in
    let word : c.as_str.result.now ≡ _ = c.as_str.ensures.value in
    let name = c.is_file_name.ensures.0 c.if-not-is_file_name.false in
    let (k, usage, told) = c.in-Err.ensures.refused in
    let far : c.args.place + 1 + k ≡ c.args.place + suc k = omega arith in
    (suc k, rw e (usage_trace _ (words_in (take (length c.args.words.now - 1) (drop 1 c.args.words.now))) k (rw word at name) usage), told ∙ ap (λ m. Cause (record { word = m })) far)
