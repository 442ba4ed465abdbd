use Rattle.std.proofs.Common.{◌≡◌, ℕ, List, [], ◌∷◌, refl, sym, ◌∙◌, arith, codes, true≢false}
use Rattle.std.proofs.lemmas.Slice.Eq.{bytes_eq-Decides}
use Rattle.trace_theory.specs.Entries.{Each}
use Rattle.trace_text.specs.TraceText.{number_text, indices_text}
use Rattle.trace_forms.specs.Names.{is_digit_byte}
use Rattle.trace_forms.specs.Ranges.{IsHalf}
use Rattle.trace_forms.proofs.Decimals.{digits_of_number, some_of_number}
use Rattle.trace_forms.proofs.Pieces.{first_inside}
use Rattle.trace_fields.proofs.lists.indices_of.Goals as goal

-- a dash alone stands for none
dash : (indices : List ℕ) → Each IsHalf indices → indices_text indices ≡ codes "-" → [] ≡ indices
dash [] each e = refl
dash (i ∷ is) each e = absurd (let h = each.0 in first_inside is_digit_byte (number_text i) _ [] 45
    (digits_of_number i (omega arith)) (some_of_number i (omega arith)) refl e)

pub returns-then-eq : goal.returns-then-eq
returns-then-eq c indices each e =
    let is = (bytes_eq-Decides c.args.text.now _).0 (sym c.eq.ensures ∙ c.if-eq.true) in
    c.new.ensures ∙ dash indices each (sym e ∙ is ∙ c.as_slice.ensures)

pub returns : goal.returns
returns c [] each e = absurd (true≢false (sym ((bytes_eq-Decides c.args.text.now _).1 (e
    ∙ sym c.as_slice.ensures)) ∙ sym c.eq.ensures ∙ c.if-eq.false))
returns c (i ∷ is) each e = c.from_vec.ensures ∙ c.in_ok-numbers_of.ensures (i ∷ is) each e
