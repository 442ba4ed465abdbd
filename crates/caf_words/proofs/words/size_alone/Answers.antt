use Rattle.std.proofs.Common.{◌≡◌, sym, ◌+◌, ◌-◌, length, take, drop, ap, ◌∙◌, arith}
use Rattle.caf_base.specs.declared.refusal.Refusal.TheVariants.{Cause}
use Rattle.caf_words.proofs.Forms.{usage_size_none, usage_size_odd, usage_size_longer}
use Rattle.caf_words.proofs.Splits.{none_of, first_of}
use Rattle.caf_words.proofs.words.size_alone.Goals as goal

pub returns-in_default-clause-refused : goal.returns-in_default-clause-refused
returns-in_default-clause-refused c = let e = none_of c.args.words.now c.in_default.len_below in (1, rw e usage_size_none, c.wrong_at.ensures)

pub returns-in_default-number_between-clause-refused : goal.returns-in_default-number_between-clause-refused
returns-in_default-number_between-clause-refused c =
    let e = first_of c.args.words.now c.first-item.result c.in-len1-up.len_at_least c.first-item.is in
    let word : c.as_str.result.now ≡ _ = c.as_str.ensures.value in
    (1, rw (e, ← word) (usage_size_odd c.as_str.result.now _ c.in_default-number_between.ensures.none), c.wrong_at-in_default-number_between.ensures)

pub returns-then-not-is_empty-clause-refused : goal.returns-then-not-is_empty-clause-refused
returns-then-not-is_empty-clause-refused c =
    let e = first_of c.args.words.now c.first-item.result c.in-len1-up.len_at_least c.first-item.is in
    let word : c.as_str.result.now ≡ _ = c.as_str.ensures.value in
    let (is, low, high) = c.in-Some.ensures.number in
    let two : c.args.place + 1 + 1 ≡ c.args.place + 2 = omega arith in
    (2, rw (e, ← word) (usage_size_longer c.in-Some.size c.as_str.result.now (take (length c.args.words.now - 1) (drop 1 c.args.words.now)) (λ none. cc (rw none at (sym c.is_empty.ensures ∙ c.if-not-is_empty.true))) is low high), c.wrong_at-then-not-is_empty.ensures ∙ ap (λ m. Cause (record { word = m })) two)
