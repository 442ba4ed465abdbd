use Rattle.std.proofs.Common.{◌≡◌, ◌-◌, length, take, drop, subst, arith}
use Rattle.caf_words.specs.Readings.{IsNextKey, Flags, Gives, listed}
use Rattle.caf_words.proofs.Forms.{usage_key, usage_value}
use Rattle.caf_words.proofs.Splits.{none_of, first_of}
use Rattle.caf_words.proofs.Steps.{flag_next, keyed_next}
use Rattle.caf_words.proofs.options.next_option.Goals as goal

pub returns-in-Some : goal.returns-in-Some
returns-in-Some c =
    let e = first_of c.args.words.now c.first-item.result c.in-len1-up.len_at_least c.first-item.is in
    let flags = subst (λ w. Flags c.args.verb c.args.given w c.in-Some.given) c.as_str-word.ensures.value c.in-Some.ensures.given in
    flag_next c.args.verb c.args.given c.in-Some.given c.args.words.now _ c.first-item.result e flags

pub returns-in_default-next_key : goal.returns-in_default-next_key
returns-in_default-next_key c =
    let e = first_of c.args.words.now c.first-item.result c.in-len1-up.len_at_least c.first-item.is in
    let word : c.as_str-word.result.now ≡ _ = c.as_str-word.ensures.value in
    rw (e, ← word) (record { no_key = c.in_default-next_key.ensures.none; no_flag = c.in_default-flagged_with.ensures.none })

pub returns-in_default-behind : goal.returns-in_default-behind
returns-in_default-behind c =
    let e = first_of c.args.words.now c.first-item.result c.in-len1-up.len_at_least c.first-item.is in
    let f = none_of (take (length c.args.words.now - 1) (drop 1 c.args.words.now)) c.in_default-behind.len_below in
    let word : c.as_str-word.result.now ≡ _ = c.as_str-word.ensures.value in
    rw (e, f, ← word) (omega arith, usage_key c.args.verb c.args.given c.in-Some-next_key.key c.as_str-word.result.now c.in-Some-next_key.ensures.key)

pub returns-in-Some-taken_with : goal.returns-in-Some-taken_with
returns-in-Some-taken_with c =
    let e = first_of c.args.words.now c.first-item.result c.in-len1-up.len_at_least c.first-item.is in
    let f = first_of (take (length c.args.words.now - 1) (drop 1 c.args.words.now)) c.second-item.result c.in-len1-up-behind.len_at_least c.second-item.is in
    let key = subst (λ w. IsNextKey c.args.verb c.args.given w c.in-Some-next_key.key) c.as_str-word.ensures.value c.in-Some-next_key.ensures.key in
    let taken = c.in-Some-taken_with.taken in
    let gives = subst (λ w. Gives c.args.given c.in-Some-next_key.key w taken.given (listed taken.fail)) c.as_str.ensures.value c.in-Some-taken_with.ensures.taken.1 in
    keyed_next c.args.verb c.args.given taken c.in-Some-next_key.key c.args.words.now _ _ c.first-item.result c.second-item.result e f key c.in-Some-taken_with.ensures.taken.0 gives

pub returns-in-None : goal.returns-in-None
returns-in-None c =
    let e = first_of c.args.words.now c.first-item.result c.in-len1-up.len_at_least c.first-item.is in
    let f = first_of (take (length c.args.words.now - 1) (drop 1 c.args.words.now)) c.second-item.result c.in-len1-up-behind.len_at_least c.second-item.is in
    let word : c.as_str-word.result.now ≡ _ = c.as_str-word.ensures.value in
    let value : c.as_str.result.now ≡ _ = c.as_str.ensures.value in
    rw (e, f, ← word, ← value) (omega arith, usage_value c.args.verb c.args.given c.in-Some-next_key.key c.as_str-word.result.now c.as_str.result.now _ c.in-Some-next_key.ensures.key c.in-None.ensures.none)
