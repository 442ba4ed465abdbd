use Rattle.std.proofs.Common.{◌≡◌, ℕ, suc, ◌+◌, ◌<◌, ◌&&◌, ◌||◌, List, length, drop, get_or, ap}
use Rattle.std.proofs.Common.{sym, ◌∙◌, arith}
use Rattle.std.proofs.Math.Seq.{drop-cons}
use Rattle.std.proofs.Math.ListN.{drop_of_length-le}
use Rattle.trace_forms.specs.Names.{is_digit_byte}
use Rattle.trace_forms.specs.Files.{is_blank, goes_on_as_stamp}
use Rattle.trace_reader.proofs.lines.goes_on.Goals as goal

-- from a byte on
at : (xs : List ℕ) (k : ℕ) → k < length xs → goes_on_as_stamp (drop k xs) ≡ (is_blank (get_or xs k 0)
    || (is_digit_byte (get_or xs k 0) && goes_on_as_stamp (drop (k + 1) xs)))
at xs k h =
    let e : suc k ≡ k + 1 = omega arith in
    ap goes_on_as_stamp (drop-cons xs k 0 h) ∙ ap (λ j. is_blank (get_or xs k 0) || (is_digit_byte (get_or xs k 0)
    && goes_on_as_stamp (drop j xs))) e

pub returns-then-is_space : goal.returns-then-is_space
returns-then-is_space c =
    let xs = c.args.text.now in
    let k = c.loop-byte.byte-index in
    sym (c.loop-byte.invariant ∙ at xs k (omega arith) ∙ ap (λ t. t || (is_digit_byte (get_or xs k 0)
    && goes_on_as_stamp (drop (k + 1) xs))) (sym c.is_space.ensures ∙ c.if-is_space.true))

pub returns-then-not-is_digit : goal.returns-then-not-is_digit
returns-then-not-is_digit c =
    let xs = c.args.text.now in
    let k = c.loop-byte.byte-index in
    sym (c.loop-byte.invariant ∙ at xs k (omega arith) ∙ (λ i. (sym c.is_space.ensures ∙ c.if-is_space.false) i
    || ((sym c.is_digit.ensures ∙ c.if-not-is_digit.true) i && goes_on_as_stamp (drop (k + 1) xs))))

pub loop-byte-preserved : goal.loop-byte-preserved
loop-byte-preserved c =
    let xs = c.args.text.now in
    let k = c.loop-byte.byte-index in
    c.loop-byte.invariant ∙ at xs k (omega arith) ∙ (λ i. (sym c.is_space.ensures ∙ c.if-is_space.false) i
    || ((sym c.is_digit.ensures ∙ c.if-not-is_digit.false) i && goes_on_as_stamp (drop (k + 1) xs)))

pub returns : goal.returns
returns c =
    let xs = c.args.text.now in
    sym (c.loop-byte.invariant ∙ ap goes_on_as_stamp (drop_of_length-le xs {i = c.loop-byte.byte-index} (omega arith)))
