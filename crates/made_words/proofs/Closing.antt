-- The lines of a made program behind its first values spell the ten turns, the sum and its print, and the end.
use Rattle.std.proofs.Common.{◌≡◌, ℕ, ◌+◌, ◌-◌, ◌≤◌, cond, nat_lt, true, false, List, [], ◌∷◌, ◌++◌, codes, map, Some, refl, ap, sym, ◌∙◌, subst}
use Rattle.caf_base.specs.declared.place.Pos.{Pos}
use Rattle.fortran_tree.specs.declared.expr.NumberKind.TheVariants.{Unstated}
use Rattle.fortran_grammar.specs.Tokens as t
use Rattle.fortran_grammar.specs.Tokens.{Token}
use Rattle.fortran_grammar.specs.Phrases.{Phrase, ◌▸◌, from, over}
use Rattle.fortran_grammar.specs.StatementGrammar.{statements}
use Rattle.fortran_grammar.specs.ProgramGrammar.{end_of_program}
use Rattle.made_tree.specs.MadeTree.{here, line_at, width, name, closing}
use Rattle.plain_words.specs.Written.{tokens_from, tokens_of_lines}
use Rattle.plain_words.proofs.Shifted.{shifted, front_tokens, tokens_around}
use Rattle.made_words.proofs.Lines.{turn_words, edge_front, edge_rest, sync_words, get_words, down_front, down_rest, move_words, over_words, first_words, zero_words, add_words, call_words, print_words, up_front, up_rest, up_words, sum_words, move_lines, get_lines, closing_words, end_words}
use Rattle.made_words.proofs.Moved.{all_moved, Spells, by_test, spells_moved}
use Rattle.made_words.proofs.Parts.{placed_around, for_size}

-- Where they stand: line 100 and up are those of line 0 and up behind the size
abbrev below : ℕ → ℕ → Pos → Pos
below k w p = cond (nat_lt p.line 100) (here (line_at k p.line) p.col) (here (line_at k (p.line - 100)) (w + p.col))

-- lines with the size in them, for which 7777 stands
abbrev edge_there : List Token
edge_there = front_tokens 1 1 edge_front ++ record { tok = t.integer 7777 Unstated; at = here 1 10 } ∷ tokens_from 101 10 edge_rest

abbrev down_there : List Token
down_there = front_tokens 5 1 down_front ++ record { tok = t.integer 7777 Unstated; at = here 5 8 } ∷ tokens_from 105 8 down_rest

abbrev up_there : List Token
up_there = front_tokens 11 1 up_front ++ record { tok = t.integer 7777 Unstated; at = here 11 11 } ∷ tokens_from 111 11 up_rest

abbrev closing_there : List Token
closing_there =
    tokens_from 0 1 turn_words ++ (edge_there ++ (tokens_from 2 1 sync_words ++ (tokens_from 3 1 get_words ++ (tokens_from 4 1 sync_words ++ (down_there
    ++ (tokens_from 6 1 move_words ++ (tokens_from 7 1 over_words ++ (tokens_from 8 1 first_words ++ (tokens_from 9 1 over_words ++ (tokens_from 10 1 zero_words ++ (up_there
    ++ (tokens_from 12 1 add_words ++ (tokens_from 13 1 over_words ++ (tokens_from 14 1 call_words ++ (tokens_from 15 1 print_words ++ [])))))))))))))))

-- and as they stand
abbrev edge_here : ℕ → ℕ → List Token
edge_here l size = front_tokens l 1 edge_front ++ record { tok = t.integer size Unstated; at = here l 10 } ∷ map (shifted (width size)) (tokens_from l 10 edge_rest)

abbrev down_here : ℕ → ℕ → List Token
down_here l size = front_tokens l 1 down_front ++ record { tok = t.integer size Unstated; at = here l 8 } ∷ map (shifted (width size)) (tokens_from l 8 down_rest)

abbrev up_here : ℕ → ℕ → List Token
up_here l size = front_tokens l 1 up_front ++ record { tok = t.integer size Unstated; at = here l 11 } ∷ map (shifted (width size)) (tokens_from l 11 up_rest)

-- the lines, part by part
sums : (l size : ℕ) → size ≤ 2147483647 → tokens_of_lines l (up_words size ∷ sum_words) ≡ up_here l size ++ tokens_of_lines (l + 1) sum_words
sums l size h = ap (λ a. a ++ tokens_of_lines (l + 1) sum_words) (tokens_around l 1 size true up_front up_rest h)

abbrev moves_here : ℕ → ℕ → List Token
moves_here l size =
    tokens_from l 1 move_words ++ (tokens_from (line_at l 1) 1 over_words ++ (tokens_from (line_at l 2) 1 first_words ++ (tokens_from (line_at l 3) 1 over_words ++ (tokens_from (line_at l 4) 1 zero_words
    ++ (up_here (line_at l 5) size ++ tokens_of_lines (line_at l 6) sum_words)))))

moves : (l size : ℕ) → size ≤ 2147483647 → tokens_of_lines l (move_lines size) ≡ moves_here l size
moves l size h =
    ap (λ a. tokens_from l 1 move_words ++ (tokens_from (line_at l 1) 1 over_words ++ (tokens_from (line_at l 2) 1 first_words ++ (tokens_from (line_at l 3) 1 over_words ++ (tokens_from (line_at l 4) 1 zero_words ++ a)))))
    (sums (line_at l 5) size h)

abbrev gets_here : ℕ → ℕ → List Token
gets_here l size =
    tokens_from l 1 sync_words ++ (tokens_from (line_at l 1) 1 get_words ++ (tokens_from (line_at l 2) 1 sync_words ++ (down_here (line_at l 3) size ++ moves_here (line_at l 4) size)))

gets : (l size : ℕ) → size ≤ 2147483647 → tokens_of_lines l (get_lines size) ≡ gets_here l size
gets l size h =
    ap (λ a. tokens_from l 1 sync_words ++ (tokens_from (line_at l 1) 1 get_words ++ (tokens_from (line_at l 2) 1 sync_words ++ (a ++ tokens_of_lines (line_at l 4) (move_lines size)))))
    (tokens_around (line_at l 3) 1 size true down_front down_rest h)
    ∙ ap (λ a. tokens_from l 1 sync_words ++ (tokens_from (line_at l 1) 1 get_words ++ (tokens_from (line_at l 2) 1 sync_words ++ (down_here (line_at l 3) size ++ a)))) (moves (line_at l 4) size h)

closing_tokens : (k size : ℕ) → size ≤ 2147483647 → tokens_of_lines k (closing_words size) ≡ tokens_from k 1 turn_words ++ (edge_here (line_at k 1) size ++ gets_here (line_at k 2) size)
closing_tokens k size h =
    ap (λ a. tokens_from k 1 turn_words ++ (a ++ tokens_of_lines (line_at k 2) (get_lines size))) (tokens_around (line_at k 1) 1 size false edge_front edge_rest h)
    ∙ ap (λ a. tokens_from k 1 turn_words ++ (edge_here (line_at k 1) size ++ a)) (gets (line_at k 2) size h)

-- these are those of the lines 0 and up, moved
same_closing : (k size : ℕ) → tokens_from k 1 turn_words ++ (edge_here (line_at k 1) size ++ gets_here (line_at k 2) size) ≡ all_moved (below k (width size)) (for_size size) closing_there
same_closing k size = refl

closing_there_spelled : Spells (statements (closing here (λ i c. here (100 + i) c) 7777)) closing_there
closing_there_spelled = by_test (statements (closing here (λ i c. here (100 + i) c) 7777)) closing_there refl

pub closing_spelled : (k size : ℕ) → size ≤ 2147483647
    → Spells (statements (closing (λ i c. here (line_at k i) c) (λ i c. here (line_at k i) (width size + c)) size)) (tokens_of_lines k (closing_words size))
closing_spelled k size h = subst (Spells (statements (closing (λ i c. here (line_at k i) c) (λ i c. here (line_at k i) (width size + c)) size)))
    (sym (closing_tokens k size h ∙ same_closing k size))
    (spells_moved (below k (width size)) (for_size size) (statements (closing here (λ i c. here (100 + i) c) 7777)) closing_there closing_there_spelled)

-- end program made
abbrev pub end_phrase : ℕ → Phrase
end_phrase l = from (here l 1) (end_of_program (Some (name (codes "made") (here l 13)))) ▸ over

pub end_spelled : (l : ℕ) → Spells (end_phrase l) (tokens_from l 1 end_words)
end_spelled l = spells_moved (placed_around l 0 0) (λ n. n) (end_phrase 0) (tokens_from 0 1 end_words) (by_test (end_phrase 0) (tokens_from 0 1 end_words) refl)
