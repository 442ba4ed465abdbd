-- Lines behind lines, and the numbers from 1 on with one more.
use Rattle.std.proofs.Common.{ℕ, ◌+◌, ◌%◌, ◌≡◌, refl, sym, ap, ◌∙◌, List, [], ◌∷◌, ◌++◌, codes, append_assoc, append-nil, add-one, arith}
use Rattle.std.proofs.lemmas.List.FromFn.{map-range_with_len_more}
use Rattle.work_maker.specs.MadeSource.{line, lines_text, next_state, state_of, number_in, number_of, number_text, setting, settings, opening, turns, closing, made_source}

-- a line, and lines behind it
pub next_line : (o x : List ℕ) (xs : List (List ℕ)) {p q : List ℕ} → p ≡ o ++ line x → q ≡ p ++ lines_text xs → q ≡ o ++ lines_text (x ∷ xs)
unfolding lines_text
next_line o x xs e h = h ∙ ap (λ z. z ++ lines_text xs) e ∙ append_assoc o (line x) (lines_text xs)

-- the last line
pub last_line : (o x : List ℕ) {p : List ℕ} → p ≡ o ++ line x → p ≡ o ++ lines_text (x ∷ [])
unfolding lines_text
last_line o x e = e ∙ ap (λ z. o ++ z) (sym (append-nil (line x)))

-- lines behind lines
pub joined : (xs ys : List (List ℕ)) → lines_text (xs ++ ys) ≡ lines_text xs ++ lines_text ys
unfolding lines_text
joined [] ys = refl
joined (x ∷ xs) ys = ap (λ z. line x ++ z) (joined xs ys) ∙ sym (append_assoc (line x) (lines_text xs) (lines_text ys))

-- no lines
pub none : (o : List ℕ) → o ≡ o ++ lines_text []
unfolding lines_text
none o = sym (append-nil o)

-- the line of one element more
pub one_more : (seed n : ℕ) → lines_text (settings seed (n + 1)) ≡ lines_text (settings seed n) ++ line (setting seed (n + 1))
unfolding lines_text
one_more seed n =
    ap lines_text (map-range_with_len_more (setting seed) 1 n (n + 1) (omega arith)) ∙ joined (settings seed n) (setting seed (n + 1) ∷ []) ∙ ap (λ z. lines_text (settings seed n) ++ z) (append-nil (line (setting seed (n + 1))))

-- the state behind one turn more
pub one_turn : (seed n s t : ℕ) → s ≡ state_of seed n → t ≡ next_state s → t ≡ state_of seed (n + 1)
one_turn seed n s t e h = h ∙ ap next_state e ∙ ap (state_of seed) (sym (add-one n))

-- and the lines, where the value is of the number of that state
pub one_setting : (seed n t r : ℕ) (o p q : List ℕ) → t ≡ state_of seed (n + 1) → r ≡ number_in t → p ≡ o ++ lines_text (settings seed n)
    → q ≡ p ++ line (codes "u(" ++ number_text (n + 1) ++ codes ") = " ++ number_text (r % 1000)) → q ≡ o ++ lines_text (settings seed (n + 1))
one_setting seed n t r o p q e f h k =
    let v : r ≡ number_of seed (n + 1) = f ∙ ap number_in e in
    k ∙ ap (λ m. p ++ line (codes "u(" ++ number_text (n + 1) ++ codes ") = " ++ number_text (m % 1000))) v
    ∙ ap (λ z. z ++ line (setting seed (n + 1))) h ∙ append_assoc o (lines_text (settings seed n)) (line (setting seed (n + 1))) ∙ ap (λ z. o ++ z) (sym (one_more seed n))

-- four texts, one behind the other
parts : (o x y z w a b c d : List ℕ) → a ≡ o ++ x → b ≡ a ++ y → c ≡ b ++ z → d ≡ c ++ w → d ≡ o ++ (x ++ y ++ z ++ w)
parts o x y z w a b c d e f g h = simp (h, g, f, e, append_assoc)

-- the lines of four lists
four : (x y z w : List (List ℕ)) → lines_text (x ++ y ++ z ++ w) ≡ lines_text x ++ lines_text y ++ lines_text z ++ lines_text w
four x y z w = joined (x ++ y ++ z) w ∙ ap (λ k. k ++ lines_text w) (joined (x ++ y) z ∙ ap (λ k. k ++ lines_text z) (joined x y))

-- all parts of a source, one behind the other
pub whole : (seed size : ℕ) (o a b c d : List ℕ) → a ≡ o ++ lines_text (opening size) → b ≡ a ++ lines_text (settings seed size) → c ≡ b ++ lines_text (turns size) → d ≡ c ++ lines_text (closing size) → d ≡ o ++ made_source seed size
whole seed size o a b c d e f g h =
    let x = opening size in
    let y = settings seed size in
    let z = turns size in
    let w = closing size in
    parts o (lines_text x) (lines_text y) (lines_text z) (lines_text w) a b c d e f g h ∙ ap (λ k. o ++ k) (sym (four x y z w))
