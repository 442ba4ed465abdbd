-- The lines that are written token by token are those of the source.
use Rattle.std.proofs.Common.{◌≡◌, ℕ, zero, suc, ◌+◌, List, [], ◌∷◌, ◌++◌, codes, decimal, map, refl, ap, sym, ◌∙◌, append_assoc, append-nil}
use Rattle.std.specs.List.{range_with_len}
use Rattle.work_maker.specs.MadeSource as source
use Rattle.work_maker.specs.MadeSource.{lines_text, made_lines, made_source}
use Rattle.plain_lines.specs.PlainLines.{ended}
use Rattle.plain_words.specs.Written.{Written, line_of}
use Rattle.made_words.specs.Readings.{values_of}
use Rattle.made_words.proofs.Lines.{setting_words, settings_words, closing_words, end_words, made_words}

setting_line : (seed j : ℕ) → line_of (setting_words j (values_of seed j)) ≡ source.setting seed j
setting_line seed j =
    let d = decimal j in
    let v = decimal (values_of seed j) in
    ap (λ x. 117 ∷ 40 ∷ (d ++ (41 ∷ 32 ∷ 61 ∷ 32 ∷ x))) (append-nil v) ∙ ap (λ x. 117 ∷ 40 ∷ x) (sym (append_assoc d (41 ∷ 32 ∷ 61 ∷ 32 ∷ []) v))

settings_lines : (seed j n : ℕ) (rest : List (List Written))
    → map line_of (settings_words (values_of seed) j n ++ rest) ≡ map (source.setting seed) (range_with_len j n) ++ map line_of rest
settings_lines seed j zero rest = refl
settings_lines seed j (suc n) rest =
    ap (λ x. x ∷ map line_of (settings_words (values_of seed) (j + 1) n ++ rest)) (setting_line seed j)
    ∙ ap (λ r. source.setting seed j ∷ r) (settings_lines seed (j + 1) n rest)

-- the lines behind them
closing_lines : (size : ℕ) → map line_of (closing_words size ++ end_words ∷ []) ≡ source.turns size ++ source.closing size
closing_lines size = ap
    (λ d. source.turns size
    ++ (codes "s = 0" ∷ (codes "do i = 1, " ++ d) ∷ codes "s = s + u(i)" ∷ codes "end do" ∷ codes "call co_sum(s)" ∷ codes "if (me == 1) print *, s" ∷ codes "end program made" ∷ []))
    (append-nil (decimal size))

abbrev in_front : ℕ → List (List ℕ) → List (List ℕ)
in_front size rest = source.opening size ++ rest

all_lines : (seed size : ℕ) → map line_of (made_words (values_of seed) size) ≡ made_lines seed size
all_lines seed size =
    ap (in_front size)
    (settings_lines seed 1 size (closing_words size ++ end_words ∷ [])
    ∙ ap (λ r. source.settings seed size ++ r) (closing_lines size)
    ∙ sym (append_assoc (source.settings seed size) (source.turns size) (source.closing size)))

pub made_text : (seed size : ℕ) → ended (map line_of (made_words (values_of seed) size)) ≡ made_source seed size
unfolding lines_text
made_text seed size = ap ended (all_lines seed size)
