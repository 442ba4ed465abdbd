use Rattle.std.proofs.Common.{◌≡◌, ◌-◌, length, take, drop, sym, ◌∙◌, inl}
use Rattle.caf_words.proofs.Firsts.{usage_nothing, usage_other, misread_behind_verb, means_behind_verb, misread_behind_check, misread_behind_make}
use Rattle.caf_words.proofs.Splits.{none_of, first_of}
use Rattle.caf_words.proofs.words.command_of.Goals as goal

pub returns-in_default-clause-refused : goal.returns-in_default-clause-refused
returns-in_default-clause-refused c = let e = none_of c.args.words.now c.in_default.len_below in inl (1, rw e usage_nothing, c.wrong_at.ensures)

pub returns-in-Some-clause-means : goal.returns-in-Some-clause-means
returns-in-Some-clause-means c =
    let e = first_of c.args.words.now c.first-item.result c.in-len1-up.len_at_least c.first-item.is in
    means_behind_verb c.in-Some.verb c.args.words.now (take (length c.args.words.now - 1) (drop 1 c.args.words.now)) c.first-item.result c.options_of.result e (sym c.as_str-word.ensures.value ∙ c.in-Some.ensures.verb) c.options_of.ensures.means

pub returns-in-Some-clause-refused : goal.returns-in-Some-clause-refused
returns-in-Some-clause-refused c =
    let e = first_of c.args.words.now c.first-item.result c.in-len1-up.len_at_least c.first-item.is in
    misread_behind_verb c.in-Some.verb c.args.words.now (take (length c.args.words.now - 1) (drop 1 c.args.words.now)) c.first-item.result c.options_of.result e (sym c.as_str-word.ensures.value ∙ c.in-Some.ensures.verb) c.options_of.ensures.refused

pub returns-in-check-clause-refused : goal.returns-in-check-clause-refused
returns-in-check-clause-refused c =
    let e = first_of c.args.words.now c.first-item.result c.in-len1-up.len_at_least c.first-item.is in
    misread_behind_check c.args.words.now (take (length c.args.words.now - 1) (drop 1 c.args.words.now)) c.first-item.result c.check_of.result e (sym c.as_str-word.ensures.value ∙ c.in-check.is) c.check_of.ensures.refused

pub returns-in-make-clause-refused : goal.returns-in-make-clause-refused
returns-in-make-clause-refused c =
    let e = first_of c.args.words.now c.first-item.result c.in-len1-up.len_at_least c.first-item.is in
    misread_behind_make c.args.words.now (take (length c.args.words.now - 1) (drop 1 c.args.words.now)) c.first-item.result c.make_of.result e (sym c.as_str-word.ensures.value ∙ c.in-make.is) c.make_of.ensures.refused

pub returns-in_default-word-clause-refused : goal.returns-in_default-word-clause-refused
returns-in_default-word-clause-refused c =
    let e = first_of c.args.words.now c.first-item.result c.in-len1-up.len_at_least c.first-item.is in
    let word : c.as_str-word.result.now ≡ _ = c.as_str-word.ensures.value in
    inl (1, rw (e, ← word) (usage_other c.as_str-word.result.now _ c.in_default-verb_of.ensures.none c.in_default-word.not-check c.in_default-word.not-make), c.wrong_at-in_default-word.ensures)
