use Rattle.std.proofs.Common.{◌≡◌, sym, ◌+◌, ◌-◌, length, take, drop, ap, ◌∙◌, arith}
use Rattle.caf_base.specs.declared.refusal.Refusal.TheVariants.{Cause}
use Rattle.caf_words.proofs.Forms.{usage_alone_none, usage_alone_named, usage_alone_longer}
use Rattle.caf_words.proofs.Splits.{none_of, first_of}
use Rattle.caf_words.proofs.words.file_alone.Goals as goal

pub returns-in_default-clause-refused : goal.returns-in_default-clause-refused
returns-in_default-clause-refused c = let e = none_of c.args.words.now c.in_default.len_below in (1, rw e usage_alone_none, c.wrong_at.ensures)

pub returns-then-not-is_file_name-clause-refused : goal.returns-then-not-is_file_name-clause-refused
returns-then-not-is_file_name-clause-refused c =
    let e = first_of c.args.words.now c.first-item.result c.in-len1-up.len_at_least c.first-item.is in
    let word : c.as_str.result.now ≡ _ = c.as_str.ensures.value in
    (1, rw e (usage_alone_named _ _ (rw (← word) (λ name. (let t = c.is_file_name.ensures.1 name in cc (t, c.if-not-is_file_name.true))))), c.wrong_at-then-not-is_file_name.ensures)

pub returns-then-not-is_empty-clause-refused : goal.returns-then-not-is_empty-clause-refused
returns-then-not-is_empty-clause-refused c =
    let e = first_of c.args.words.now c.first-item.result c.in-len1-up.len_at_least c.first-item.is in
    let word : c.as_str.result.now ≡ _ = c.as_str.ensures.value in
    let name = c.is_file_name.ensures.0 c.if-not-is_file_name.false in
    let two : c.args.place + 1 + 1 ≡ c.args.place + 2 = omega arith in
    (2, rw e (usage_alone_longer _ (take (length c.args.words.now - 1) (drop 1 c.args.words.now)) (λ none. cc (rw none at (sym c.is_empty.ensures ∙ c.if-not-is_empty.true))) (rw word at name)), c.wrong_at-then-not-is_empty.ensures ∙ ap (λ m. Cause (record { word = m })) two)
