-- The words of a made source spell its tree.
use Rattle.std.proofs.Common.{◌≡◌, ℕ, zero, suc, ◌+◌, ◌≤◌, List, [], ◌∷◌, ◌++◌, length, map, refl, ap, sym, ◌∙◌, subst, append_assoc, append-nil, codes, arith}
use Rattle.fortran_lines.specs.Lines.{statements_of}
use Rattle.fortran_lines.specs.Faults.{faults_of}
use Rattle.fortran_grammar.specs.Tokens.{Token}
use Rattle.fortran_grammar.specs.Phrases.{nothing, ◌▸◌, repeated}
use Rattle.fortran_grammar.specs.ActionGrammar as g
use Rattle.fortran_grammar.specs.StatementGrammar.{statements}
use Rattle.fortran_grammar.specs.ProgramGrammar.{program_statement, program, body}
use Rattle.work_maker.specs.MadeSource.{made_source}
use Rattle.made_tree.specs.MadeTree.{here, line_at, line_behind, width, name, declaration, opening, settings, closing, made_statements, followed_by, made_tree}
use Rattle.plain_lines.proofs.Unbroken.{faultless}
use Rattle.plain_words.specs.Written.{Written, line_of, tokens_from, tokens_of_lines}
use Rattle.plain_words.proofs.Lines.{plain_all, written}
use Rattle.made_words.specs.Readings.{values_of, IsSpelled}
use Rattle.made_words.proofs.Lines.{program_words, declaration_words, image_words, left_words, wrap_words, settings_words, closing_words, end_words, rest_words, made_words}
use Rattle.made_words.proofs.Written.{made_written}
use Rattle.made_words.proofs.Moved.{Spells, spells_both, spells_nothing, spells_followed}
use Rattle.made_words.proofs.Parts.{program_spelled, declaration_spelled, opening_spelled, settings_spelled}
use Rattle.made_words.proofs.Closing.{end_phrase, closing_spelled, end_spelled}
use Rattle.made_words.proofs.Source.{made_text}

-- the tokens of lines behind lines
tokens-append : (n : ℕ) (xs ys : List (List Written)) → tokens_of_lines n (xs ++ ys) ≡ tokens_of_lines n xs ++ tokens_of_lines (line_at n (length xs)) ys
tokens-append n [] ys = refl
tokens-append n (x ∷ xs) ys =
    ap (λ r. tokens_from n 1 x ++ r) (tokens-append (n + 1) xs ys) ∙ sym (append_assoc (tokens_from n 1 x) (tokens_of_lines (n + 1) xs) (tokens_of_lines (line_at (n + 1) (length xs)) ys))

length-settings : (value : ℕ → ℕ) (j n : ℕ) → length (settings_words value j n) ≡ n
length-settings value j zero = refl
length-settings value j (suc n) = omega (arith, length-settings value (j + 1) n)

-- those of the first values, of the turns and of the end
abbrev values_tokens : (ℕ → ℕ) → ℕ → List Token
values_tokens value size = tokens_of_lines 6 (settings_words value 1 size)

abbrev turns_tokens : ℕ → List Token
turns_tokens size = tokens_of_lines (line_behind size) (closing_words size)

abbrev end_tokens : ℕ → List Token
end_tokens size = tokens_from (line_at (line_behind size) 16) 1 end_words

rest_tokens : (value : ℕ → ℕ) (size : ℕ) → tokens_of_lines 6 (rest_words value size) ≡ values_tokens value size ++ (turns_tokens size ++ end_tokens size)
rest_tokens value size =
    tokens-append 6 (settings_words value 1 size) (closing_words size ++ end_words ∷ [])
    ∙ ap (λ n. values_tokens value size ++ tokens_of_lines (line_at 6 n) (closing_words size ++ end_words ∷ [])) (length-settings value 1 size)
    ∙ ap (λ r. values_tokens value size ++ r) (tokens-append (line_behind size) (closing_words size) (end_words ∷ []))

-- lists in the order of the phrase, and of the lines
regrouped : (a b c d e v t z : List Token) → a ++ ([] ++ (([] ++ ((b ++ []) ++ ((c ++ (d ++ e)) ++ (v ++ t)))) ++ ([] ++ z))) ≡ a ++ (b ++ (c ++ (d ++ (e ++ (v ++ (t ++ z))))))
regrouped a b c d e v t z = simp (append_assoc, append-nil)

-- the parts in their order
spelled_whole : (value : ℕ → ℕ) (size : ℕ) → ((i : ℕ) → value i ≤ 2147483647) → size ≤ 4096 → Spells (program (made_tree value size))
    (tokens_from 1 1 program_words ++ ([] ++ (([] ++ ((tokens_from 2 1 (declaration_words size) ++ [])
    ++ ((tokens_from 3 1 image_words ++ (tokens_from 4 1 left_words ++ tokens_from 5 1 wrap_words)) ++ (values_tokens value size ++ turns_tokens size)))) ++ ([] ++ end_tokens size))))
spelled_whole value size h k =
    let x = made_tree value size in
    let w = width size in
    let n = line_behind size in
    let first = opening (λ i c. here (1 + i) c) in
    let middle = settings value 6 1 size in
    let last = closing (λ i c. here (line_at n i) c) (λ i c. here (line_at n i) (w + c)) size in
    let d = declaration (here 2) (λ c. here 2 (w + c)) size in
    let ts = tokens_from 3 1 image_words ++ (tokens_from 4 1 left_words ++ tokens_from 5 1 wrap_words) in
    let low : size ≤ 2147483647 = omega arith in
    let all = spells_followed first (followed_by middle last) ts (values_tokens value size ++ turns_tokens size) opening_spelled
    (spells_followed middle last (values_tokens value size) (turns_tokens size) (settings_spelled value 6 1 size h (omega arith)) (closing_spelled n size low)) in
    let declared = spells_both (g.declaration d) nothing (tokens_from 2 1 (declaration_words size)) [] (declaration_spelled size low) spells_nothing in
    let inside = spells_both nothing (repeated g.declaration (d ∷ []) ▸ statements (made_statements value size)) [] ((tokens_from 2 1 (declaration_words size) ++ []) ++ (ts ++ (values_tokens value size ++ turns_tokens size)))
    spells_nothing (spells_both (repeated g.declaration (d ∷ [])) (statements (made_statements value size)) (tokens_from 2 1 (declaration_words size) ++ []) (ts ++ (values_tokens value size ++ turns_tokens size)) declared all) in
    let ended = spells_both nothing (end_phrase (line_at n 16)) [] (end_tokens size) spells_nothing (end_spelled (line_at n 16)) in
    let behind = spells_both (body x.body) (nothing ▸ end_phrase (line_at n 16)) ([] ++ ((tokens_from 2 1 (declaration_words size) ++ []) ++ (ts ++ (values_tokens value size ++ turns_tokens size)))) ([] ++ end_tokens size) inside ended in
    let used = spells_both nothing (body x.body ▸ (nothing ▸ end_phrase (line_at n 16))) [] (([] ++ ((tokens_from 2 1 (declaration_words size) ++ []) ++ (ts ++ (values_tokens value size ++ turns_tokens size)))) ++ ([] ++ end_tokens size)) spells_nothing behind in
    spells_both (program_statement (name (codes "made") (here 1 9))) (nothing ▸ (body x.body ▸ (nothing ▸ end_phrase (line_at n 16)))) (tokens_from 1 1 program_words)
    ([] ++ (([] ++ ((tokens_from 2 1 (declaration_words size) ++ []) ++ (ts ++ (values_tokens value size ++ turns_tokens size)))) ++ ([] ++ end_tokens size))) program_spelled used

made_spelled : (value : ℕ → ℕ) (size : ℕ) → ((i : ℕ) → value i ≤ 2147483647) → size ≤ 4096 → Spells (program (made_tree value size)) (tokens_of_lines 1 (made_words value size))
made_spelled value size h k =
    let a = tokens_from 1 1 program_words in
    let b = tokens_from 2 1 (declaration_words size) in
    let c = tokens_from 3 1 image_words in
    let d = tokens_from 4 1 left_words in
    let e = tokens_from 5 1 wrap_words in
    subst (Spells (program (made_tree value size)))
    (regrouped a b c d e (values_tokens value size) (turns_tokens size) (end_tokens size) ∙ ap (λ r. a ++ (b ++ (c ++ (d ++ (e ++ r))))) (sym (rest_tokens value size)))
    (spelled_whole value size h k)

-- the first values are below 1000
pub small : (seed j : ℕ) → values_of seed j ≤ 2147483647
small seed j = omega arith

pub reading : (seed size : ℕ) → size ≤ 4096 → IsSpelled (made_source seed size) (made_tree (values_of seed) size)
reading seed size h =
    let lines = made_words (values_of seed) size in
    let each = made_written (values_of seed) size (small seed) h in
    let x = written lines each in
    let s = made_spelled (values_of seed) size (small seed) h in
    record {
      statements = x.0;
      words = tokens_of_lines 1 lines;
      joined = x.1 ∙ ap statements_of (made_text seed size);
      unbroken = ap faults_of (sym (made_text seed size)) ∙ faultless (map line_of lines) (plain_all lines each);
      cut = x.2;
      spelled = (s.word, s.is_word, s.shallow, s.same);
    }
