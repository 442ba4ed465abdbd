use Rattle.std.proofs.Common.{◌≡◌, true, false, Bool, ◌||◌, List, ℕ, ◌++◌, codes, refl, ap, sym, ◌∙◌, bytes_eq}
use Rattle.std.proofs.Common.{arith, pos}
use Rattle.caf_text.specs.Numbers.{decimal_text}
use Rattle.trace_forms.specs.Files.{images_line, says_images}
use Rattle.trace_fields.proofs.Parts.{passed}
use Rattle.trace_reader.proofs.lines.says_images.Goals as goal

-- the line is what is printed, alone or with a line feed behind it
bare : (line said : List ℕ) (n : ℕ) → said ≡ images_line n → bytes_eq line said ≡ true → true ≡ says_images line n
bare line said n is same = by (bytes_eq line (images_line n ++ codes "\n")) ∙ ap
    (λ t. bytes_eq line (images_line n ++ codes "\n") || t) (sym same ∙ ap (bytes_eq line) is)
  where
    by : (t : Bool) → true ≡ (t || true)
    by true = refl
    by false = refl

fed : (line said new : List ℕ) (n : ℕ) → said ≡ images_line n → bytes_eq line said ≡ false
    → new ≡ said ++ codes "\n" → bytes_eq line new ≡ says_images line n
fed line said new n is other grown = by (bytes_eq line new)
    ∙ (λ i. bytes_eq line ((grown ∙ ap (λ z. z ++ codes "\n") is) i) || (sym other ∙ ap (bytes_eq line) is) i)
  where
    by : (t : Bool) → t ≡ (t || false)
    by true = refl
    by false = refl

pub returns-then-eq : goal.returns-then-eq
returns-then-eq c =
    let number = passed (pos c.args.images) c.from.result (omega arith) c.from.ensures in
    let text = c.as_slice.ensures.value ∙ c.in_ok-push_number.ensures.ok
    ∙ (λ i. c.in_ok-said.ensures.items i ++ decimal_text (number i)) in
    bare c.args.line.now c.as_slice.result.now c.args.images text (sym c.eq.ensures ∙ c.if-eq.true)

pub returns : goal.returns
returns c =
    let number = passed (pos c.args.images) c.from.result (omega arith) c.from.ensures in
    let text = c.as_slice.ensures.value ∙ c.in_ok-push_number.ensures.ok
    ∙ (λ i. c.in_ok-said.ensures.items i ++ decimal_text (number i)) in
    let grown = c.as_slice-2.ensures.value ∙ c.in_ok-push.ensures.items
    ∙ ap (λ z. z ++ codes "\n") (sym c.as_slice.ensures.value) in
    c.eq-2.ensures ∙ fed c.args.line.now c.as_slice.result.now c.as_slice-2.result.now c.args.images text
    (sym c.eq.ensures ∙ c.if-eq.false) grown
