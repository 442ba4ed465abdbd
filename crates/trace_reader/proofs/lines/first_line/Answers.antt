use Rattle.std.proofs.Common.{◌≡◌, ℕ, ◌-◌, List, ◌∷◌, length, take, drop, sym, ◌∙◌, arith, length-drop, take_all}
use Rattle.trace_forms.specs.Files.{lines_of}
use Rattle.trace_reader.proofs.lines.first_line.Goals as goal

behind : (xs : List ℕ) (k : ℕ) → take (length xs - k) (drop k xs) ≡ drop k xs
behind xs k = take_all (length xs - k) (drop k xs) (omega (arith, length-drop k xs))

pub returns-clause-first : goal.returns-clause-first
returns-clause-first c =
    let bytes = c.args.bytes.now in
    let end = c.line_end-end.result in
    c.line_end-end.ensures.first ∙ (λ i. take end bytes ∷ lines_of (sym (behind bytes end) i))
