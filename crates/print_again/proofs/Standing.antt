-- The statements that laid tokens make.
use Rattle.std.proofs.Common.{◌≡◌, ℕ, Bool, true, false, ◌&&◌, List, [], ◌∷◌, ◌++◌, map, ◌⊎◌, inl, inr, refl, ap, sym, ◌∙◌, subst, append_assoc, append-nil}
use Rattle.std.specs.Prelude.{fold}
use Rattle.std.proofs.lemmas.Bool.{and_parts, and_from}
use Rattle.std.proofs.lemmas.List.{map-append}
use Rattle.fortran_lines.specs.Faults.{faults_of}
use Rattle.fortran_lines.specs.Lines.{statements_of}
use Rattle.fortran_grammar.specs.Tokens.{Tok, word, integer, literal, sign, over}
use Rattle.fortran_layout.specs.Layout.{Sheet, blank, laid, laid_text}
use Rattle.print_again.specs.Spelled.{is_plain, may_stand, depth_past, are_statements}
use Rattle.print_again.proofs.Bytes.{codes_of}
use Rattle.print_again.proofs.Rows.{Fresh, fresh_blank, fresh_statements}
use Rattle.print_again.proofs.Spellings.{spelling}
use Rattle.print_again.proofs.Pages.{gap, Begun, laid_behind, laid_first, laid_over}

-- tokens, each behind one or two blanks
abbrev pub spread : List (Bool × Tok) → List ℕ
spread [] = []
spread (g ∷ gs) = gap g.0 ++ (spelling g.1 ++ spread gs)

abbrev pub toks : List (Bool × Tok) → List Tok
toks gs = map (λ g. g.1) gs

-- tokens of one statement, and how many brackets are open behind them
abbrev pub are_plain : ℕ → List Tok → Bool
are_plain d [] = true
are_plain d (x ∷ xs) = (is_plain x && may_stand d x) && are_plain (depth_past d x) xs

abbrev pub depth_all : ℕ → List Tok → ℕ
depth_all d [] = d
depth_all d (x ∷ xs) = depth_all (depth_past d x) xs

-- the text of a statement: its first token, and the others behind blanks
pub record Spread (p : List ℕ) (xs : List Tok) : Type 0 where
  pub first : Tok
  pub rest : List (Bool × Tok)
  pub text : p ≡ spelling first ++ spread rest
  pub same : xs ≡ first ∷ toks rest
  pub plain : are_plain 0 xs ≡ true

-- texts of statements that stand for these tokens
abbrev pub Stand : List (List ℕ) → List Tok → Type 0
Stand [] ts = ts ≡ []
Stand (p ∷ ps) ts = (xs : List Tok) × (ys : List Tok) × Spread p xs × (ts ≡ xs ++ over ∷ ys) × Stand ps ys

and_three : (x y z : Bool) → (x && (y && z)) ≡ ((x && y) && z)
and_three true y z = refl
and_three false y z = refl

and_true : (x : Bool) → (x && true) ≡ x
and_true true = refl
and_true false = refl

plain_more : (d : ℕ) (xs : List Tok) (x : Tok) → are_plain d (xs ++ x ∷ []) ≡ (are_plain d xs && (is_plain x && may_stand (depth_all d xs) x))
plain_more d [] x = and_true (is_plain x && may_stand d x)
plain_more d (y ∷ xs) x =
    ap (λ z. (is_plain y && may_stand d y) && z) (plain_more (depth_past d y) xs x)
    ∙ and_three (is_plain y && may_stand d y) (are_plain (depth_past d y) xs) (is_plain x && may_stand (depth_all (depth_past d y) xs) x)

depth_more : (d : ℕ) (xs : List Tok) (x : Tok) → depth_all d (xs ++ x ∷ []) ≡ depth_past (depth_all d xs) x
depth_more d [] x = refl
depth_more d (y ∷ xs) x = depth_more (depth_past d y) xs x

spread_more : (gs : List (Bool × Tok)) (w : Bool) (x : Tok) → spread (gs ++ (w, x) ∷ []) ≡ spread gs ++ (gap w ++ spelling x)
spread_more [] w x = ap (λ z. gap w ++ z) (append-nil (spelling x))
spread_more (g ∷ gs) w x =
    ap (λ z. gap g.0 ++ (spelling g.1 ++ z)) (spread_more gs w x)
    ∙ (ap (λ z. gap g.0 ++ z) (sym (append_assoc (spelling g.1) (spread gs) (gap w ++ spelling x))) ∙ sym (append_assoc (gap g.0) (spelling g.1 ++ spread gs) (gap w ++ spelling x)))

one_more : (p : List ℕ) (xs : List Tok) (w : Bool) (x : Tok) → Spread p xs → (is_plain x && may_stand (depth_all 0 xs) x) ≡ true → Spread (p ++ (gap w ++ spelling x)) (xs ++ x ∷ [])
one_more p xs w x s h = record {
  first = s.first;
  rest = s.rest ++ (w, x) ∷ [];
  text = ap (λ z. z ++ (gap w ++ spelling x)) s.text ∙ (append_assoc (spelling s.first) (spread s.rest) (gap w ++ spelling x) ∙ ap (λ z. spelling s.first ++ z) (sym (spread_more s.rest w x)));
  same = ap (λ z. z ++ x ∷ []) s.same ∙ ap (λ z. s.first ∷ z) (sym (map-append (λ g. g.1) s.rest ((w, x) ∷ [])));
  plain = plain_more 0 xs x ∙ and_from (are_plain 0 xs) (is_plain x && may_stand (depth_all 0 xs) x) s.plain h;
}

-- the next token is the end of a statement, or one of a statement
next_token : (begun : Bool) (d : ℕ) (x : Tok) (ts : List Tok) → are_statements begun d (x ∷ ts) ≡ true
    → ((x ≡ over) × (begun ≡ true) × (are_statements false 0 ts ≡ true)) ⊎ (((is_plain x && may_stand d x) ≡ true) × (are_statements true (depth_past d x) ts ≡ true))
next_token begun d (word x) ts h = inr (and_parts (is_plain (word x) && may_stand d (word x)) (are_statements true d ts) h)
next_token begun d (integer n k) ts h = inr (and_parts (is_plain (integer n k) && may_stand d (integer n k)) (are_statements true d ts) h)
next_token begun d (literal x) ts h = inr (and_parts (is_plain (literal x) && may_stand d (literal x)) (are_statements true d ts) h)
next_token begun d (sign x) ts h = inr (and_parts (is_plain (sign x) && may_stand d (sign x)) (are_statements true (depth_past d (sign x)) ts) h)
next_token begun d over ts h = let k = and_parts begun (are_statements false 0 ts) h in inl (refl, k.0, k.1)

-- what is laid of tokens behind whole statements, and what these tokens are
pub record Told (s : Sheet) (done : List (List ℕ)) (ts us : List Tok) : Type 0 where
  pub parts : List (List ℕ)
  pub fresh : Fresh (fold laid s ts).text (done ++ parts)
  pub stand : Stand parts us

mutual
  told_first : (ts : List Tok) (s : Sheet) (done : List (List ℕ)) → are_statements false 0 ts ≡ true → s.column ≡ 0 → Fresh s.text done → Told s done ts ts
  told_first [] s done h z g = record { parts = []; fresh = subst (Fresh s.text) (sym (append-nil done)) g; stand = refl }
  told_first (x ∷ ts) s done h z g = elim (next_token false 0 x ts h) [
    | inl k ↦ absurd (let e = k.1 in cc)
    | inr k ↦
        let p = and_parts (is_plain x) (may_stand 0 x) k.0 in
        let b = laid_first s done x z g p.0 in
        let start : Spread (spelling x) (x ∷ []) = record { first = x; rest = []; text = sym (append-nil (spelling x)); same = refl; plain = ap (λ z. z && true) k.0 } in
        let r = told_behind ts (laid s x) done (spelling x) (x ∷ []) (depth_past 0 x) k.1 b start refl in
        record { parts = r.parts; fresh = r.fresh; stand = r.stand }
  ]

  told_behind : (ts : List Tok) (s : Sheet) (done : List (List ℕ)) (part : List ℕ) (xs : List Tok) (d : ℕ) → are_statements true d ts ≡ true → Begun s done part → Spread part xs → depth_all 0 xs ≡ d → Told s done ts (xs ++ ts)
  told_behind [] s done part xs d h g f e = absurd (cc)
  told_behind (x ∷ ts) s done part xs d h g f e = elim (next_token true d x ts h) [
    | inl k ↦
        let o = laid_over s done part g in
        let r = told_first ts (laid s over) (done ++ part ∷ []) k.2 o.1 o.0 in
        let told : Told s done (over ∷ ts) (xs ++ over ∷ ts) = record { parts = part ∷ r.parts; fresh = subst (Fresh (fold laid (laid s over) ts).text) (append_assoc done (part ∷ []) r.parts) r.fresh; stand = (xs, ts, f, refl, r.stand) } in
        subst (λ z. Told s done (z ∷ ts) (xs ++ z ∷ ts)) (sym k.0) told
    | inr k ↦
        let p = and_parts (is_plain x) (may_stand d x) k.0 in
        let b = laid_behind s done part x g p.0 in
        let here : (is_plain x && may_stand (depth_all 0 xs) x) ≡ true = ap (λ z. is_plain x && may_stand z x) e ∙ k.0 in
        let r = told_behind ts (laid s x) done (part ++ (gap b.wide ++ spelling x)) (xs ++ x ∷ []) (depth_past d x) k.1 b.begun (one_more part xs b.wide x f here) (depth_more 0 xs x ∙ ap (λ z. depth_past z x) e) in
        record { parts = r.parts; fresh = r.fresh; stand = subst (Stand r.parts) (append_assoc xs (x ∷ []) ts) r.stand }
  ]

-- the statements of a text of laid tokens
pub record Statements (ts : List Tok) : Type 0 where
  pub parts : List (List ℕ)
  pub unbroken : faults_of (laid_text ts) ≡ []
  pub texts : map codes_of (statements_of (laid_text ts)) ≡ parts
  pub stand : Stand parts ts

pub laid_statements : (ts : List Tok) → are_statements false 0 ts ≡ true → Statements ts
laid_statements ts h =
    let r = told_first ts blank [] h refl fresh_blank in
    let f = fresh_statements (laid_text ts) r.parts r.fresh in
    record { parts = r.parts; unbroken = f.0; texts = f.1; stand = r.stand }
