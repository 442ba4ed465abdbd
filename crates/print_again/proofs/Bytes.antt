-- What the bytes of tokens do to a context.
use Rattle.std.proofs.Common.{◌≡◌, ℕ, suc, ◌+◌, Bool, true, false, cond, not, ◌&&◌, ◌||◌, nat_eq, nat_le, nat_lt, List, [], ◌∷◌, ◌++◌, length, map, codes, refl, ap, sym, ◌∙◌, subst, arith}
use Rattle.std.specs.Prelude.{flat_map}
use Rattle.std.specs.List.{list_all}
use Rattle.std.proofs.lemmas.Bool.{and_parts, and_from}
use Rattle.std.proofs.lemmas.Bool.Decides.{nat_tests}
use Rattle.std.proofs.lemmas.List.Sums.{fold-append}
use Rattle.fortran_lines.specs.declared.placed_byte.PlacedByte.{PlacedByte}
use Rattle.fortran_lines.specs.declared.context.Context.{Context}
use Rattle.fortran_lines.specs.declared.context.Context.TheVariants.{Outside, Inside, Closed}
use Rattle.fortran_lines.specs.PlacedBytes.{placed_from, is_quote}
use Rattle.fortran_lines.specs.Contexts.{is_inside, opened, behind, context_behind}
use Rattle.fortran_tokens.specs.Bytes as bytes
use Rattle.fortran_tokens.specs.Bytes.{is_printing}
use Rattle.fortran_layout.specs.Spelling.{rep_char, literal_text}
use Rattle.print_again.proofs.Joining.{fine, sound, sound_append, is_ascii}

abbrev pub codes_of : List PlacedByte → List ℕ
codes_of l = map (λ m. m.code) l

pub codes_append : (a b : List PlacedByte) → codes_of (a ++ b) ≡ codes_of a ++ codes_of b
codes_append [] b = refl
codes_append (m ∷ a) b = ap (λ z. m.code ∷ z) (codes_append a b)

pub codes_placed : (n c : ℕ) (x : List ℕ) → codes_of (placed_from n c x) ≡ x
codes_placed n c [] = refl
codes_placed n c (b ∷ x) = ap (λ z. b ∷ z) (codes_placed n (c + 1) x)

pub placed_append : (n c : ℕ) (x y : List ℕ) → placed_from n c (x ++ y) ≡ placed_from n c x ++ placed_from n (c + length x) y
placed_append n c [] y = ap (λ z. placed_from n z y) (omega arith)
placed_append n c (b ∷ x) y = ap (λ z. record { code = b; at = record { line = n; col = c } } ∷ z) (placed_append n (c + 1) x y ∙ ap (λ z. placed_from n (c + 1) x ++ placed_from n z y) (omega arith))

pub length_placed : (n c : ℕ) (x : List ℕ) → length (placed_from n c x) ≡ length x
length_placed n c [] = refl
length_placed n c (b ∷ x) = ap suc (length_placed n (c + 1) x)

printing_ascii : (b : ℕ) → is_printing b ≡ true → not (nat_lt 127 b) ≡ true
printing_ascii b h = grind (arith, nat_tests)

pub ascii_placed : (n c : ℕ) (x : List ℕ) → list_all is_printing x ≡ true → list_all is_ascii (placed_from n c x) ≡ true
ascii_placed n c [] h = refl
ascii_placed n c (b ∷ x) h =
    let p = and_parts (is_printing b) (list_all is_printing x) h in
    and_from (not (nat_lt 127 b)) (list_all is_ascii (placed_from n (c + 1) x)) (printing_ascii b p.0) (ascii_placed n (c + 1) x p.1)

-- how a context stands: in no literal and not just behind one, in none, or in one between apostrophes
pub data Mode : Type 0 where
  clear : Mode
  free : Mode
  quoted : Mode

abbrev pub In : Mode → Context → Type 0
In clear Outside = Unit {0}
In clear (Inside q) = ⊥
In clear (Closed q) = ⊥
In free Outside = Unit {0}
In free (Inside q) = ⊥
In free (Closed q) = is_quote q ≡ true
In quoted Outside = ⊥
In quoted (Inside q) = q.code ≡ 39
In quoted (Closed q) = ⊥

pub clear_free : (k : Context) → In clear k → In free k
clear_free Outside h = tt
clear_free (Inside q) h = h
clear_free (Closed q) h = absurd h

pub free_outside : (k : Context) → In free k → is_inside k ≡ false
free_outside Outside h = refl
free_outside (Inside q) h = absurd h
free_outside (Closed q) h = refl

pub clear_is : (k : Context) → In clear k → k ≡ Outside
clear_is Outside h = refl
clear_is (Inside q) h = absurd h
clear_is (Closed q) h = absurd h

-- bytes that lead from a context of the one sort to one of the other, without a comment and a `;`
abbrev pub Step : Mode → List ℕ → Mode → Type 0
Step m x n = (k : Context) → In m k → (l : List PlacedByte) → codes_of l ≡ x → (sound k l ≡ true) × In n (context_behind k l)

pub codes_split : (l : List PlacedByte) (x y : List ℕ) → codes_of l ≡ x ++ y → (a : List PlacedByte) × (b : List PlacedByte) × (l ≡ a ++ b) × (codes_of a ≡ x) × (codes_of b ≡ y)
codes_split l [] y e = ([], l, refl, refl, e)
codes_split [] (c ∷ x) y e = absurd (cc)
codes_split (m ∷ l) (c ∷ x) y e =
    let first : m.code ≡ c = cc in
    let rest : codes_of l ≡ x ++ y = cc in
    let r = codes_split l x y rest in
    (m ∷ r.0, r.1, ap (λ z. m ∷ z) r.2, (λ i. first i ∷ r.3 i), r.4)

pub step_append : (m n o : Mode) (x y : List ℕ) → Step m x n → Step n y o → Step m (x ++ y) o
step_append m n o x y f g k h l e =
    let r = codes_split l x y e in
    let one = f k h r.0 r.3 in
    let two = g (context_behind k r.0) one.1 r.1 r.4 in (
      ap (sound k) r.2 ∙ (sound_append k r.0 r.1 ∙ and_from (sound k r.0) (sound (context_behind k r.0) r.1) one.0 two.0),
      subst (In o) (sym (ap (context_behind k) r.2 ∙ fold-append behind k r.0 r.1)) two.1,
    )

pub step_none : (m : Mode) → Step m [] m
step_none m k h [] e = (refl, h)
step_none m k h (b ∷ l) e = absurd (cc)

-- one byte
step_one : (m n : Mode) (b : ℕ) → ((k : Context) (a : PlacedByte) → In m k → a.code ≡ b → (fine k a ≡ true) × In n (behind k a)) → Step m (b ∷ []) n
step_one m n b f k h [] e = absurd (cc)
step_one m n b f k h (a ∷ []) e = let c : a.code ≡ b = cc in let r = f k a h c in (ap (λ z. z && true) r.0, r.1)
step_one m n b f k h (a ∷ c ∷ l) e = absurd (cc)

-- a byte of a name, of a number or of a sign
abbrev pub is_plain_byte : ℕ → Bool
is_plain_byte b = (nat_le 35 b && nat_lt b 127) && (not (nat_eq b 38) && (not (nat_eq b 39) && not (nat_eq b 59)))

plain_no_mark : (i : Bool) (b : ℕ) → is_plain_byte b ≡ true → (i || (not (nat_eq b 33) && not (nat_eq b 59))) ≡ true
plain_no_mark true b h = refl
plain_no_mark false b h = grind (arith, nat_tests)

plain_no_quote : (b : ℕ) → is_plain_byte b ≡ true → (nat_eq b 39 || nat_eq b 34) ≡ false
plain_no_quote b h = grind (arith, nat_tests)

pub plain_printing : (b : ℕ) → is_plain_byte b ≡ true → is_printing b ≡ true
plain_printing b h = grind (arith, nat_tests)

pub plain_ink : (b : ℕ) → is_plain_byte b ≡ true → (bytes.is_blank b ≡ false) × (nat_eq b 33 ≡ false) × (nat_eq b 38 ≡ false)
plain_ink b h = (grind (arith, nat_tests), grind (arith, nat_tests), grind (arith, nat_tests))

plain_behind : (k : Context) (a : PlacedByte) → In clear k → is_plain_byte a.code ≡ true → In clear (behind k a)
plain_behind Outside a h p = subst (λ z. In clear (cond z (Inside a) Outside)) (sym (plain_no_quote a.code p)) tt
plain_behind (Inside q) a h p = absurd h
plain_behind (Closed q) a h p = absurd h

pub step_plain : (x : List ℕ) → list_all is_plain_byte x ≡ true → Step clear x clear
step_plain [] h = step_none clear
step_plain (b ∷ x) h =
    let p = and_parts (is_plain_byte b) (list_all is_plain_byte x) h in
    step_append clear clear clear (b ∷ []) x
    (step_one clear clear b (λ k a i e. let q : is_plain_byte a.code ≡ true = ap is_plain_byte e ∙ p.0 in (plain_no_mark (is_inside k) a.code q, plain_behind k a i q)))
    (step_plain x p.1)

-- a blank, which ends each literal
blank_fine : (i : Bool) (b : ℕ) → b ≡ 32 → (i || (not (nat_eq b 33) && not (nat_eq b 59))) ≡ true
blank_fine true b h = refl
blank_fine false b h = ap (λ z. not (nat_eq z 33) && not (nat_eq z 59)) h

blank_other : (q a : ℕ) → (nat_eq q 39 || nat_eq q 34) ≡ true → a ≡ 32 → nat_eq a q ≡ false
blank_other q a h e = grind (arith, nat_tests)

blank_behind : (k : Context) (a : PlacedByte) → In free k → a.code ≡ 32 → In clear (behind k a)
blank_behind Outside a h e = subst (λ z. In clear (cond (nat_eq z 39 || nat_eq z 34) (Inside a) Outside)) (sym e) tt
blank_behind (Inside q) a h e = absurd h
blank_behind (Closed q) a h e =
    subst (λ z. In clear (cond z (Inside q) (opened a))) (sym (blank_other q.code a.code h e)) (subst (λ z. In clear (cond (nat_eq z 39 || nat_eq z 34) (Inside a) Outside)) (sym e) tt)

pub step_blank : Step free (32 ∷ []) clear
step_blank = step_one free clear 32 (λ k a i e. (blank_fine (is_inside k) a.code e, blank_behind k a i e))

-- the delimiters and characters of a literal
quote_fine : (i : Bool) (b : ℕ) → b ≡ 39 → (i || (not (nat_eq b 33) && not (nat_eq b 59))) ≡ true
quote_fine true b h = refl
quote_fine false b h = ap (λ z. not (nat_eq z 33) && not (nat_eq z 59)) h

opens_behind : (k : Context) (a : PlacedByte) → In clear k → a.code ≡ 39 → In quoted (behind k a)
opens_behind Outside a h e = subst (λ z. In quoted (cond (nat_eq z 39 || nat_eq z 34) (Inside a) Outside)) (sym e) e
opens_behind (Inside q) a h e = absurd h
opens_behind (Closed q) a h e = absurd h

pub step_opens : Step clear (39 ∷ []) quoted
step_opens = step_one clear quoted 39 (λ k a i e. (quote_fine (is_inside k) a.code e, opens_behind k a i e))

same_code : (a q : ℕ) → a ≡ 39 → q ≡ 39 → nat_eq a q ≡ true
same_code a q e h = grind (arith, nat_tests)

other_code : (a q : ℕ) → nat_eq a 39 ≡ false → q ≡ 39 → nat_eq a q ≡ false
other_code a q e h = grind (arith, nat_tests)

is_apostrophe : (q : ℕ) → q ≡ 39 → (nat_eq q 39 || nat_eq q 34) ≡ true
is_apostrophe q e = ap (λ z. nat_eq z 39 || nat_eq z 34) e

closes_behind : (k : Context) (a : PlacedByte) → In quoted k → a.code ≡ 39 → In free (behind k a)
closes_behind Outside a h e = absurd h
closes_behind (Inside q) a h e = subst (λ z. In free (cond z (Closed q) (Inside q))) (sym (same_code a.code q.code e h)) (is_apostrophe q.code h)
closes_behind (Closed q) a h e = absurd h

pub step_closes : Step quoted (39 ∷ []) free
step_closes = step_one quoted free 39 (λ k a i e. (quote_fine (is_inside k) a.code e, closes_behind k a i e))

inside_fine : (k : Context) (a : PlacedByte) → In quoted k → fine k a ≡ true
inside_fine Outside a h = absurd h
inside_fine (Inside q) a h = refl
inside_fine (Closed q) a h = absurd h

inside_behind : (k : Context) (a : PlacedByte) → In quoted k → nat_eq a.code 39 ≡ false → In quoted (behind k a)
inside_behind Outside a h e = absurd h
inside_behind (Inside q) a h e = subst (λ z. In quoted (cond z (Closed q) (Inside q))) (sym (other_code a.code q.code e h)) h
inside_behind (Closed q) a h e = absurd h

doubled : (k : Context) → In quoted k → (a b : PlacedByte) → a.code ≡ 39 → b.code ≡ 39 → (sound k (a ∷ b ∷ []) ≡ true) × In quoted (context_behind k (a ∷ b ∷ []))
doubled Outside h a b e f = absurd h
doubled (Closed q) h a b e f = absurd h
doubled (Inside q) h a b e f =
    let here : behind (Inside q) a ≡ Closed q = ap (λ z. cond z (Closed q) (Inside q)) (same_code a.code q.code e h) in
    let next : behind (behind (Inside q) a) b ≡ Inside q = ap (λ z. behind z b) here ∙ ap (λ z. cond z (Inside q) (opened b)) (same_code b.code q.code f h) in
    (and_from (fine (behind (Inside q) a) b) true (quote_fine (is_inside (behind (Inside q) a)) b.code f) refl, subst (In quoted) (sym next) h)

rep_by : (c : ℕ) (b : Bool) → nat_eq c 39 ≡ b → Step quoted (cond b (codes "''") (c ∷ [])) quoted
rep_by c true e k h [] f = absurd (cc)
rep_by c true e k h (a ∷ []) f = absurd (cc)
rep_by c true e k h (a ∷ b ∷ []) f = doubled k h a b (cc) (cc)
rep_by c true e k h (a ∷ b ∷ d ∷ l) f = absurd (cc)
rep_by c false e k h l f = step_one quoted quoted c (λ k a i f. (inside_fine k a i, inside_behind k a i (ap (λ z. nat_eq z 39) f ∙ e))) k h l f

pub step_rep : (c : ℕ) → Step quoted (rep_char c) quoted
step_rep c = rep_by c (nat_eq c 39) refl

pub step_chars : (x : List ℕ) → Step quoted (flat_map rep_char x) quoted
step_chars [] = step_none quoted
step_chars (c ∷ x) = step_append quoted quoted quoted (rep_char c) (flat_map rep_char x) (step_rep c) (step_chars x)

pub step_literal : (x : List ℕ) → Step clear (literal_text x) free
unfolding literal_text
step_literal x = step_append clear quoted free (codes "'") (flat_map rep_char x ++ codes "'") step_opens (step_append quoted quoted free (flat_map rep_char x) (codes "'") (step_chars x) step_closes)
