use Rattle.std.proofs.Common.{◌≡◌, ◌+◌, ◌-◌, suc, length, take, drop, sym, ap, ◌∙◌, arith}
use Rattle.std.specs.Prelude.{codes, string_bytes}
use Rattle.caf_base.specs.declared.refusal.Refusal.TheVariants.{Cause}
use Rattle.caf_words.specs.Words.{words_in}
use Rattle.caf_words.specs.Words.Origin.{from_file}
use Rattle.caf_words.proofs.Forms.{input_made, usage_origin_none, usage_origin_file, usage_origin_made}
use Rattle.caf_words.proofs.Splits.{none_of, first_of}
use Rattle.caf_words.proofs.words.input_of.Goals as goal

pub returns-in_default-clause-refused : goal.returns-in_default-clause-refused
returns-in_default-clause-refused c = let e = none_of c.args.words.now c.in_default.len_below in (1, rw e usage_origin_none, c.wrong_at.ensures)

pub returns-in-Ok-clause-input : goal.returns-in-Ok-clause-input
returns-in-Ok-clause-input c =
    let e = first_of c.args.words.now c.first-item.result c.in-len1-up.len_at_least c.first-item.is in
    let is : string_bytes c.first-item.result ≡ codes "--made" = sym c.as_str.ensures.value ∙ c.in-text.is in
    input_made c.args.words.now (take (length c.args.words.now - 1) (drop 1 c.args.words.now)) c.first-item.result (c.args.place + length c.args.words.now) c.in-Ok.field-0.seed c.in-Ok.field-0.size e is c.in-Ok.ensures.made

pub returns-in-Err-clause-refused : goal.returns-in-Err-clause-refused
returns-in-Err-clause-refused c =
    let e = first_of c.args.words.now c.first-item.result c.in-len1-up.len_at_least c.first-item.is in
    let is : string_bytes c.first-item.result ≡ codes "--made" = sym c.as_str.ensures.value ∙ c.in-text.is in
    let (k, usage, told) = c.in-Err.ensures.refused in
    let far : c.args.place + 1 + k ≡ c.args.place + suc k = omega arith in
    (suc k, rw e (usage_origin_made (string_bytes c.first-item.result) (words_in (take (length c.args.words.now - 1) (drop 1 c.args.words.now))) k is usage), told ∙ ap (λ m. Cause (record { word = m })) far)

pub returns-in-Ok-file_alone-clause-input : goal.returns-in-Ok-file_alone-clause-input
returns-in-Ok-file_alone-clause-input c =
    let ((file, form, name), last) = c.in-Ok-file_alone.ensures.name in
    (from_file file, (form, name), last)

pub returns-in-Err-file_alone-clause-refused : goal.returns-in-Err-file_alone-clause-refused
returns-in-Err-file_alone-clause-refused c =
    let e = first_of c.args.words.now c.first-item.result c.in-len1-up.len_at_least c.first-item.is in
    let word : c.as_str.result.now ≡ _ = c.as_str.ensures.value in
    let (k, usage, told) = c.in-Err-file_alone.ensures.refused in
    (k, rw (e, ← word) (usage_origin_file c.as_str.result.now _ k c.in_default-as_str.not-text (rw (e, ← word) at usage)), told)
