use Rattle.std.proofs.Common.{◌≡◌, ◌+◌, ◌-◌, suc, length, take, drop, ap, ◌∙◌, arith}
use Rattle.caf_base.specs.declared.refusal.Refusal.TheVariants.{Cause}
use Rattle.caf_words.specs.Words.{words_in}
use Rattle.caf_words.proofs.Forms.{usage_made_none, usage_made_odd, usage_made, made_of}
use Rattle.caf_words.proofs.Splits.{none_of, first_of}
use Rattle.caf_words.proofs.words.made_alone.Goals as goal

pub returns-in_default-clause-refused : goal.returns-in_default-clause-refused
returns-in_default-clause-refused c = let e = none_of c.args.words.now c.in_default.len_below in (1, rw e usage_made_none, c.wrong_at.ensures)

pub returns-in_default-number_between-clause-refused : goal.returns-in_default-number_between-clause-refused
returns-in_default-number_between-clause-refused c =
    let e = first_of c.args.words.now c.first-item.result c.in-len1-up.len_at_least c.first-item.is in
    let word : c.as_str.result.now ≡ _ = c.as_str.ensures.value in
    (1, rw (e, ← word) (usage_made_odd c.as_str.result.now _ c.in_default-number_between.ensures.none), c.wrong_at-in_default-number_between.ensures)

pub returns-in-Ok-clause-made : goal.returns-in-Ok-clause-made
returns-in-Ok-clause-made c =
    let e = first_of c.args.words.now c.first-item.result c.in-len1-up.len_at_least c.first-item.is in
    let word : c.as_str.result.now ≡ _ = c.as_str.ensures.value in
    let (is, low, high) = c.in-Some.ensures.number in
    rw (e, ← word) (made_of c.in-Some.seed c.in-Ok.size c.as_str.result.now _ is high c.in-Ok.ensures.size)

pub returns-in-Err-clause-refused : goal.returns-in-Err-clause-refused
returns-in-Err-clause-refused c =
    let e = first_of c.args.words.now c.first-item.result c.in-len1-up.len_at_least c.first-item.is in
    let word : c.as_str.result.now ≡ _ = c.as_str.ensures.value in
    let (is, low, high) = c.in-Some.ensures.number in
    let (k, usage, told) = c.in-Err.ensures.refused in
    let far : c.args.place + 1 + k ≡ c.args.place + suc k = omega arith in
    (suc k, rw (e, ← word) (usage_made c.in-Some.seed c.as_str.result.now (words_in (take (length c.args.words.now - 1) (drop 1 c.args.words.now))) k is high usage), told ∙ ap (λ m. Cause (record { word = m })) far)
