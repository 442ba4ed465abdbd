-- The lines of a made program up to its first values spell their parts of the tree.
use Rattle.std.proofs.Common.{◌≡◌, ℕ, zero, suc, ◌+◌, ◌≤◌, cond, nat_eq, true, false, List, [], ◌∷◌, ◌++◌, codes, map, refl, ap, sym, ◌∙◌, subst, arith}
use Rattle.caf_base.specs.declared.place.Pos.{Pos}
use Rattle.fortran_tree.specs.declared.expr.NumberKind.TheVariants.{Unstated}
use Rattle.fortran_grammar.specs.Tokens as t
use Rattle.fortran_grammar.specs.Tokens.{Token}
use Rattle.fortran_grammar.specs.ActionGrammar as g
use Rattle.fortran_grammar.specs.StatementGrammar.{statement, statements}
use Rattle.fortran_grammar.specs.ProgramGrammar.{program_statement}
use Rattle.made_tree.specs.MadeTree.{here, width, name, declaration, opening, setting, settings}
use Rattle.plain_words.specs.Written.{tokens_from, tokens_of_lines}
use Rattle.plain_words.proofs.Shifted.{shifted, front_tokens, numeral, tokens_around}
use Rattle.made_words.proofs.Lines.{program_words, declaration_front, declaration_rest, declaration_words, image_words, left_words, wrap_words, setting_front, setting_middle, setting_words, settings_words}
use Rattle.made_words.proofs.Moved.{all_moved, Spells, by_test, spells_moved, spells_both, spells_nothing}

-- Where the tokens of a line stand: as they stand where no number of the program is before them, else behind one, or
-- behind two
abbrev pub around : ℕ → ℕ → ℕ → ℕ → ℕ → Pos
around l a b zero c = here l c
around l a b (suc zero) c = here l (a + c)
around l a b (suc (suc n)) c = here l (a + (b + c))

abbrev pub placed_around : ℕ → ℕ → ℕ → Pos → Pos
placed_around l a b p = around l a b p.line p.col

-- program made
pub program_spelled : Spells (program_statement (name (codes "made") (here 1 9))) (tokens_from 1 1 program_words)
program_spelled = by_test (program_statement (name (codes "made") (here 1 9))) (tokens_from 1 1 program_words) refl

-- 7777 stands for the size
abbrev pub for_size : ℕ → ℕ → ℕ
for_size size n = cond (nat_eq n 7777) size n

-- the declaration
abbrev declaration_there : List Token
declaration_there = front_tokens 0 1 declaration_front ++ record { tok = t.integer 7777 Unstated; at = here 0 14 } ∷ tokens_from 1 14 declaration_rest

declaration_tokens : (size : ℕ) → size ≤ 2147483647 → tokens_from 2 1 (declaration_words size) ≡ all_moved (placed_around 2 (width size) 0) (for_size size) declaration_there
declaration_tokens size h = tokens_around 2 1 size false declaration_front declaration_rest h

pub declaration_spelled : (size : ℕ) → size ≤ 2147483647
    → Spells (g.declaration (declaration (here 2) (λ c. here 2 (width size + c)) size)) (tokens_from 2 1 (declaration_words size))
declaration_spelled size h = subst (Spells (g.declaration (declaration (here 2) (λ c. here 2 (width size + c)) size))) (sym (declaration_tokens size h))
    (spells_moved (placed_around 2 (width size) 0) (for_size size) (g.declaration (declaration (here 0) (here 1) 7777)) declaration_there
    (by_test (g.declaration (declaration (here 0) (here 1) 7777)) declaration_there refl))

-- the first three statements
pub opening_spelled : Spells (statements (opening (λ i c. here (1 + i) c))) (tokens_from 3 1 image_words ++ (tokens_from 4 1 left_words ++ tokens_from 5 1 wrap_words))
opening_spelled =
    by_test (statements (opening (λ i c. here (1 + i) c))) (tokens_from 3 1 image_words ++ (tokens_from 4 1 left_words ++ tokens_from 5 1 wrap_words)) refl

-- the first value of an element: 1111 stands for its number, 2222 for the value
abbrev for_setting : ℕ → ℕ → ℕ → ℕ
for_setting j v n = cond (nat_eq n 1111) j (cond (nat_eq n 2222) v n)

abbrev setting_there : List Token
setting_there =
    front_tokens 0 1 setting_front ++ record { tok = t.integer 1111 Unstated; at = here 0 3 }
    ∷ (front_tokens 1 3 setting_middle ++ record { tok = t.integer 2222 Unstated; at = here 1 7 } ∷ tokens_from 2 7 [])

setting_tokens : (l j v : ℕ) → j ≤ 2147483647 → v ≤ 2147483647 → tokens_from l 1 (setting_words j v) ≡ all_moved (placed_around l (width j) (width v)) (for_setting j v) setting_there
setting_tokens l j v h k =
    tokens_around l 1 j false setting_front (setting_middle ++ numeral true v ∷ []) h
    ∙ ap (λ r. front_tokens l 1 setting_front ++ record { tok = t.integer j Unstated; at = here l 3 } ∷ map (shifted (width j)) r) (tokens_around l 3 v true setting_middle [] k)

setting_spelled : (l j v : ℕ) → j ≤ 2147483647 → v ≤ 2147483647 → Spells (statement (setting (here l) (λ c. here l (width j + c)) j v)) (tokens_from l 1 (setting_words j v))
setting_spelled l j v h k = subst (Spells (statement (setting (here l) (λ c. here l (width j + c)) j v))) (sym (setting_tokens l j v h k))
    (spells_moved (placed_around l (width j) (width v)) (for_setting j v) (statement (setting (here 0) (here 1) 1111 2222)) setting_there
    (by_test (statement (setting (here 0) (here 1) 1111 2222)) setting_there refl))

pub settings_spelled : (value : ℕ → ℕ) (l j n : ℕ) → ((i : ℕ) → value i ≤ 2147483647) → j + n ≤ 4097
    → Spells (statements (settings value l j n)) (tokens_of_lines l (settings_words value j n))
settings_spelled value l j zero h k = spells_nothing
settings_spelled value l j (suc n) h k =
    spells_both (statement (setting (here l) (λ c. here l (width j + c)) j (value j))) (statements (settings value (l + 1) (j + 1) n))
    (tokens_from l 1 (setting_words j (value j))) (tokens_of_lines (l + 1) (settings_words value (j + 1) n))
    (setting_spelled l j (value j) (omega arith) (h j)) (settings_spelled value (l + 1) (j + 1) n h (omega arith))
