-- What each token that is laid does to the lines.
use Rattle.std.proofs.Common.{◌≡◌, ℕ, ◌+◌, ◌≤◌, Bool, true, false, cond, nat_eq, nat_le, List, [], ◌∷◌, ◌++◌, length, map, codes, refl, ap, sym, ◌∙◌, subst, arith, append_assoc}
use Rattle.std.specs.Prelude.{fold, flat_map}
use Rattle.std.specs.List.{list_all}
use Rattle.std.proofs.lemmas.Bool.{and_parts, and_from, leb-true, eqb-true}
use Rattle.fortran_tokens.specs.Bytes.{is_printing}
use Rattle.fortran_grammar.specs.Tokens.{Tok, word, integer, literal, sign, over}
use Rattle.fortran_layout.specs.Spelling.{sign_text, number_text, rep_char, uncut_parts, literal_text}
use Rattle.fortran_layout.specs.Layout.{Sheet, put, fresh, Pour, poured, pour, put_literal, end_line, laid}
use Rattle.print_again.specs.Spelled.{is_plain}
use Rattle.print_again.proofs.Bytes.{Mode, clear, free, quoted, Step, step_append, step_blank, step_opens, step_closes, step_rep}
use Rattle.print_again.proofs.Rows.{Final, Inked, Fresh, Row, row_more, row_break, row_end, row_first, row_behind, row_resumed, row_wide}
use Rattle.print_again.proofs.Spellings.{spelling, Laid, laid_name, laid_sign, laid_number, inked_literal, literal_some, rep_char_printing, apostrophe_ends}

-- what stands between two tokens: one blank, or two where a line ends between them
abbrev pub gap : Bool → List ℕ
gap false = 32 ∷ []
gap true = 32 ∷ 32 ∷ []

-- the last line of a sheet is begun
pub record Begun (s : Sheet) (done : List (List ℕ)) (part : List ℕ) : Type 0 where
  pub row : Row s.text s.column done part free true
  pub some : 1 ≤ s.column
  pub room : s.column ≤ 998

-- and a token was laid behind some text
pub record Behind (s : Sheet) (done : List (List ℕ)) (part x : List ℕ) : Type 0 where
  pub wide : Bool
  pub begun : Begun s done (part ++ (gap wide ++ x))

final_more : (x : List ℕ) → Final x → Final (32 ∷ x)
final_more x f = record { front = 32 ∷ f.front; byte = f.byte; split = ap (λ z. 32 ∷ z) f.split; ink = f.ink; no_amp = f.no_amp }

-- a line ends before a token
next_line : (text : List ℕ) (size : ℕ) (done : List (List ℕ)) (part x : List ℕ) (m : Mode) (closed : Bool) → Row text size done part free true → size ≤ 998 → Inked x m closed
    → Row (text ++ (codes " &\n" ++ x)) (length x) done (part ++ (gap true ++ x)) m closed
next_line text size done part x m closed r w h =
    let blank = row_more text size (size + 1) done part free clear true false r (32 ∷ []) refl step_blank (λ e. absurd (cc)) (omega arith) in
    let broken = row_break (text ++ 32 ∷ []) (size + 1) done (part ++ 32 ∷ []) clear false blank (omega arith) in
    let row = row_behind ((text ++ 32 ∷ []) ++ 38 ∷ 10 ∷ []) done (part ++ 32 ∷ []) x m closed broken h in
    let a : ((text ++ 32 ∷ []) ++ 38 ∷ 10 ∷ []) ++ x ≡ text ++ (codes " &\n" ++ x) = append_assoc (text ++ 32 ∷ []) (38 ∷ 10 ∷ []) x ∙ append_assoc text (32 ∷ []) (38 ∷ 10 ∷ x) in
    let b : (part ++ 32 ∷ []) ++ 32 ∷ x ≡ part ++ (gap true ++ x) = append_assoc part (32 ∷ []) (32 ∷ x) in
    subst (λ z. Row z (length x) done (part ++ (gap true ++ x)) m closed) a (subst (λ z. Row (((text ++ 32 ∷ []) ++ 38 ∷ 10 ∷ []) ++ x) (length x) done z m closed) b row)

put_by : (s : Sheet) (done : List (List ℕ)) (part x : List ℕ) (a b : Bool) → nat_eq s.column 0 ≡ a → nat_le (s.column + 1 + length x + 2) 1000 ≡ b → Begun s done part → Laid x
    → Behind (cond a (record { text = s.text ++ x; column = length x })
    (cond b (record { text = s.text ++ (codes " " ++ x); column = s.column + 1 + length x }) (record { text = s.text ++ (codes " &\n" ++ x); column = length x }))) done part x
put_by s done part x true b e k g h = absurd (let z = eqb-true s.column 0 e in let some = g.some in omega arith)
put_by s done part x false true e k g h =
    let w = leb-true (s.column + 1 + length x + 2) 1000 k in
    let i = h.inked in
    let row = row_more s.text s.column (s.column + 1 + length x) done part free free true true g.row (32 ∷ x) (and_from true (list_all is_printing x) refl i.printing)
    (step_append free clear free (32 ∷ []) x step_blank i.step) (λ f. final_more x (i.last f)) (omega arith) in
    record { wide = false; begun = record { row = row; some = omega arith; room = omega arith } }
put_by s done part x false false e k g h =
    let row = next_line s.text s.column done part x free true g.row g.room h.inked in
    record { wide = true; begun = record { row = row; some = h.some; room = h.short } }

pub put_behind : (s : Sheet) (done : List (List ℕ)) (part x : List ℕ) → Begun s done part → Laid x → Behind (put s x) done part x
unfolding put
put_behind s done part x g h = put_by s done part x (nat_eq s.column 0) (nat_le (s.column + 1 + length x + 2) 1000) refl refl g h

first_by : (s : Sheet) (done : List (List ℕ)) (x : List ℕ) (a b : Bool) → nat_eq s.column 0 ≡ a → s.column ≡ 0 → Fresh s.text done → Laid x
    → Begun (cond a (record { text = s.text ++ x; column = length x })
    (cond b (record { text = s.text ++ (codes " " ++ x); column = s.column + 1 + length x }) (record { text = s.text ++ (codes " &\n" ++ x); column = length x }))) done x
first_by s done x true b e z g h = record { row = row_first s.text done x free true g h.inked; some = h.some; room = h.short }
first_by s done x false b e z g h = absurd (let k : nat_eq s.column 0 ≡ true = ap (λ n. nat_eq n 0) z in cc)

pub put_first : (s : Sheet) (done : List (List ℕ)) (x : List ℕ) → s.column ≡ 0 → Fresh s.text done → Laid x → Begun (put s x) done x
unfolding put
put_first s done x z g h = first_by s done x (nat_eq s.column 0) (nat_le (s.column + 1 + length x + 2) 1000) refl z g h

-- Long literals.

-- a literal is begun
record Open (p : Pour) (done : List (List ℕ)) (part : List ℕ) (m : Mode) (closed : Bool) : Type 0 where
  row : Row p.text (p.used + 1) done part m closed
  room : p.used ≤ 990

poured_by : (p : Pour) (done : List (List ℕ)) (part c : List ℕ) (m : Mode) (closed a : Bool) → nat_le (p.used + length c) 990 ≡ a → Open p done part quoted false
    → list_all is_printing c ≡ true → Step quoted c m → (closed ≡ true → Final c) → length c ≤ 2
    → Open (cond a (record { text = p.text ++ c; used = p.used + length c }) (record { text = p.text ++ (codes "&\n&" ++ c); used = length c })) done (part ++ c) m closed
poured_by p done part c m closed true e o h s f n =
    let w = leb-true (p.used + length c) 990 e in
    record { row = row_more p.text (p.used + 1) (p.used + length c + 1) done part quoted m false closed o.row c h s f (omega arith); room = w }
poured_by p done part c m closed false e o h s f n =
    let w = o.room in
    let broken = row_break p.text (p.used + 1) done part quoted false o.row (omega arith) in
    let row = row_resumed (p.text ++ 38 ∷ 10 ∷ []) done part quoted m closed broken c h s f (length c + 1) (omega arith) in
    record { row = subst (λ z. Row z (length c + 1) done (part ++ c) m closed) (append_assoc p.text (38 ∷ 10 ∷ []) (38 ∷ c)) row; room = omega arith }

poured_one : (p : Pour) (done : List (List ℕ)) (part c : List ℕ) (m : Mode) (closed : Bool) → Open p done part quoted false → list_all is_printing c ≡ true → Step quoted c m → (closed ≡ true → Final c) → length c ≤ 2
    → Open (poured p c) done (part ++ c) m closed
poured_one p done part c m closed o h s f n = poured_by p done part c m closed (nat_le (p.used + length c) 990) refl o h s f n

rep_short : (c : ℕ) (b : Bool) → length (cond b (codes "''") (c ∷ [])) ≤ 2
rep_short c true = omega arith
rep_short c false = omega arith

poured_chars : (p : Pour) (done : List (List ℕ)) (part x : List ℕ) → Open p done part quoted false → list_all is_printing x ≡ true
    → Open (fold poured p (map rep_char x ++ codes "'" ∷ [])) done (part ++ (flat_map rep_char x ++ codes "'")) free true
poured_chars p done part [] o h = poured_one p done part (codes "'") free true o refl step_closes (λ e. apostrophe_ends []) (omega arith)
poured_chars p done part (c ∷ x) o h =
    let k = and_parts (is_printing c) (list_all is_printing x) h in
    let one = poured_one p done part (rep_char c) quoted false o (rep_char_printing c k.0) (step_rep c) (λ e. absurd (cc)) (rep_short c (nat_eq c 39)) in
    let all = poured_chars (poured p (rep_char c)) done (part ++ rep_char c) x one k.1 in
    let same : (part ++ rep_char c) ++ (flat_map rep_char x ++ codes "'") ≡ part ++ ((rep_char c ++ flat_map rep_char x) ++ codes "'") =
    append_assoc part (rep_char c) (flat_map rep_char x ++ codes "'") ∙ ap (λ z. part ++ z) (sym (append_assoc (rep_char c) (flat_map rep_char x) (codes "'"))) in
    subst (λ z. Open (fold poured p (map rep_char (c ∷ x) ++ codes "'" ∷ [])) done z free true) same all

inked_quote : Inked (39 ∷ []) quoted false
inked_quote = record { first = record { byte = 39; rest = []; split = refl; ink = refl; no_mark = refl; no_amp = refl }; printing = refl; step = step_opens; last = λ e. absurd (cc) }

-- a long literal stands in the sheet's last line
ended_pour : (p : Pour) (done : List (List ℕ)) (part : List ℕ) → Open p done part free true → Begun (record { text = p.text; column = 1 + p.used }) done part
ended_pour p done part o =
    let r = o.room in
    let same : p.used + 1 ≡ 1 + p.used = omega arith in
    record { row = subst (λ z. Row p.text z done part free true) same o.row; some = omega arith; room = omega arith }

-- its delimiter stands there
opened : (text : List ℕ) (done : List (List ℕ)) (part x : List ℕ) → Row (text ++ codes "'") 1 done part quoted false → list_all is_printing x ≡ true
    → Begun (record { text = (fold poured (record { text = text; used = 0 }) (uncut_parts x)).text; column = 1 + (fold poured (record { text = text; used = 0 }) (uncut_parts x)).used }) done (part ++ (flat_map rep_char x ++ codes "'"))
opened text done part x r h =
    let one : Open (record { text = text ++ codes "'"; used = 1 }) done part quoted false = record { row = row_wide (text ++ codes "'") 1 2 done part quoted false r (omega arith); room = omega arith } in
    ended_pour (fold poured (record { text = text; used = 0 }) (uncut_parts x)) done (part ++ (flat_map rep_char x ++ codes "'")) (poured_chars (record { text = text ++ codes "'"; used = 1 }) done part x one h)

fresh_behind : (s : Sheet) (a : Bool) → nat_eq s.column 0 ≡ a → 1 ≤ s.column → cond a s.text (s.text ++ codes " &\n") ≡ s.text ++ codes " &\n"
fresh_behind s true e n = absurd (let z = eqb-true s.column 0 e in omega arith)
fresh_behind s false e n = refl

fresh_first : (s : Sheet) → s.column ≡ 0 → fresh s ≡ s.text
fresh_first s z = ap (λ n. cond (nat_eq n 0) s.text (s.text ++ codes " &\n")) z

pour_behind : (s : Sheet) (done : List (List ℕ)) (part x : List ℕ) → Begun s done part → list_all is_printing x ≡ true → Behind (record { text = (pour s x).text; column = 1 + (pour s x).used }) done part (literal_text x)
unfolding literal_text
pour_behind s done part x g h =
    let first = next_line s.text s.column done part (39 ∷ []) quoted false g.row g.room inked_quote in
    let same : s.text ++ (codes " &\n" ++ 39 ∷ []) ≡ fresh s ++ 39 ∷ [] = sym (append_assoc s.text (codes " &\n") (39 ∷ [])) ∙ ap (λ z. z ++ 39 ∷ []) (sym (fresh_behind s (nat_eq s.column 0) refl g.some)) in
    let row = subst (λ z. Row z 1 done (part ++ (gap true ++ 39 ∷ [])) quoted false) same first in
    let all = opened (fresh s) done (part ++ (gap true ++ 39 ∷ [])) x row h in
    let text : (part ++ (gap true ++ 39 ∷ [])) ++ (flat_map rep_char x ++ codes "'") ≡ part ++ (gap true ++ (codes "'" ++ (flat_map rep_char x ++ codes "'"))) = append_assoc part (32 ∷ 32 ∷ 39 ∷ []) (flat_map rep_char x ++ codes "'") in
    record { wide = true; begun = subst (λ z. Begun (record { text = (pour s x).text; column = 1 + (pour s x).used }) done z) text all }

pour_first : (s : Sheet) (done : List (List ℕ)) (x : List ℕ) → s.column ≡ 0 → Fresh s.text done → list_all is_printing x ≡ true → Begun (record { text = (pour s x).text; column = 1 + (pour s x).used }) done (literal_text x)
unfolding literal_text
pour_first s done x z g h =
    let row = row_first s.text done (39 ∷ []) quoted false g inked_quote in
    opened (fresh s) done (39 ∷ []) x (subst (λ t. Row (t ++ 39 ∷ []) 1 done (39 ∷ []) quoted false) (sym (fresh_first s z)) row) h

literal_by : (s : Sheet) (done : List (List ℕ)) (part x : List ℕ) (a : Bool) → nat_le (length (literal_text x)) 990 ≡ a → Begun s done part → list_all is_printing x ≡ true
    → Behind (cond a (put s (literal_text x)) (record { text = (pour s x).text; column = 1 + (pour s x).used })) done part (literal_text x)
literal_by s done part x true e g h =
    let n = leb-true (length (literal_text x)) 990 e in
    put_behind s done part (literal_text x) g (record { inked = inked_literal x h; some = literal_some x; short = omega arith })
literal_by s done part x false e g h = pour_behind s done part x g h

literal_first_by : (s : Sheet) (done : List (List ℕ)) (x : List ℕ) (a : Bool) → nat_le (length (literal_text x)) 990 ≡ a → s.column ≡ 0 → Fresh s.text done → list_all is_printing x ≡ true
    → Begun (cond a (put s (literal_text x)) (record { text = (pour s x).text; column = 1 + (pour s x).used })) done (literal_text x)
literal_first_by s done x true e z g h =
    let n = leb-true (length (literal_text x)) 990 e in
    put_first s done (literal_text x) z g (record { inked = inked_literal x h; some = literal_some x; short = omega arith })
literal_first_by s done x false e z g h = pour_first s done x z g h

-- a token more
pub laid_behind : (s : Sheet) (done : List (List ℕ)) (part : List ℕ) (t : Tok) → Begun s done part → is_plain t ≡ true → Behind (laid s t) done part (spelling t)
unfolding put_literal
laid_behind s done part (word x) g h = put_behind s done part x g (laid_name x h)
laid_behind s done part (integer n k) g h = put_behind s done part (number_text n k) g (laid_number n k h)
laid_behind s done part (literal x) g h = literal_by s done part x (nat_le (length (literal_text x)) 990) refl g h
laid_behind s done part (sign x) g h = put_behind s done part (sign_text x) g (laid_sign x)
laid_behind s done part over g h = absurd (cc)

-- the first of a statement
pub laid_first : (s : Sheet) (done : List (List ℕ)) (t : Tok) → s.column ≡ 0 → Fresh s.text done → is_plain t ≡ true → Begun (laid s t) done (spelling t)
unfolding put_literal
laid_first s done (word x) z g h = put_first s done x z g (laid_name x h)
laid_first s done (integer n k) z g h = put_first s done (number_text n k) z g (laid_number n k h)
laid_first s done (literal x) z g h = literal_first_by s done x (nat_le (length (literal_text x)) 990) refl z g h
laid_first s done (sign x) z g h = put_first s done (sign_text x) z g (laid_sign x)
laid_first s done over z g h = absurd (cc)

-- the end of a statement
pub laid_over : (s : Sheet) (done : List (List ℕ)) (part : List ℕ) → Begun s done part → Fresh (laid s over).text (done ++ part ∷ []) × ((laid s over).column ≡ 0)
unfolding end_line
laid_over s done part g = let r = g.room in (row_end s.text s.column done part g.row (omega arith), refl)
