-- Canonical tokens of a phrase that has a word of tokens that a source can have: they go on with a statement, or are
-- whole ones.
use Rattle.std.proofs.Common.{◌≡◌, ℕ, suc, ◌+◌, ◌-◌, Bool, true, false, ◌&&◌, List, [], ◌∷◌, ◌++◌, Option, Some, None, inl, inr, refl, ap, sym, ◌∙◌, subst, arith, append_assoc}
use Rattle.std.specs.List.{list_all}
use Rattle.std.proofs.lemmas.Bool.{and_parts, and_from}
use Rattle.std.proofs.lemmas.List.Folds.{list_all-append}
use Rattle.caf_base.specs.declared.place.Pos.{Pos}
use Rattle.reader_theory.specs.Words.{Mark}
use Rattle.fortran_tokens.specs.declared.token.Sign.{Sign}
use Rattle.fortran_tokens.specs.declared.token.Sign.TheVariants as signs
use Rattle.fortran_tokens.specs.Tokens.{depth_behind_sign}
use Rattle.fortran_tree.specs.declared.name.Name.{Name}
use Rattle.fortran_tree.specs.declared.name.Literal.{Literal}
use Rattle.fortran_grammar.specs.Tokens as t
use Rattle.fortran_grammar.specs.Tokens.{Tok, Token}
use Rattle.fortran_grammar.specs.Phrases as p
use Rattle.fortran_grammar.specs.Phrases.{Phrase, ◌▸◌, ◌∪◌, Words, canonical, never, name, literal, key, sign, over, joined, round, square, optional, followed, listed, maybe_listed, repeated}
use Rattle.print_again.specs.Spelled.{is_plain_name, is_plain, may_stand, are_statements}

-- a token that a source can have
abbrev pub is_fit : Tok → Bool
is_fit t.over = true
is_fit x = is_plain x

abbrev pub fit_word : List (Mark Token) → Bool
fit_word w = list_all (λ m. is_fit m.token.tok) w

-- from a statement that is begun or isn't, with so many brackets open, the canonical tokens lead to the same behind
-- them
pub record Leads (b : Bool) (m : ℕ) (P : Phrase) (c : Bool) (n : ℕ) : Type 0 where
  pub runs : (l d : ℕ) (w : List (Mark Token)) → Words P l d w → fit_word w ≡ true → (ts : List Tok) → are_statements c n ts ≡ true → are_statements b m (canonical P ++ ts) ≡ true

pub fit_parts : (u v w : List (Mark Token)) → w ≡ u ++ v → fit_word w ≡ true → (fit_word u ≡ true) × (fit_word v ≡ true)
fit_parts u v w e h = and_parts (fit_word u) (fit_word v) (sym (list_all-append (λ m. is_fit m.token.tok) u v) ∙ (ap fit_word (sym e) ∙ h))

pub leads_nothing : {b : Bool} {m : ℕ} → Leads b m p.nothing b m
leads_nothing = record { runs = λ l d w h f ts k. k }

pub leads_never : {b c : Bool} {m n : ℕ} → Leads b m never c n
leads_never = record { runs = λ l d w h f ts k. absurd (let e = h.0 in cc) }

pub leads_both : {b c e : Bool} {m n o : ℕ} {P Q : Phrase} → Leads b m P c n → Leads c n Q e o → Leads b m (P ▸ Q) e o
leads_both {b} {c} {e} {m} {n} {o} {P} {Q} f g = record {
  runs = λ l d w (u, v, hu, hv, s) h ts k.
      let k2 = fit_parts u v w s h in
      subst (λ z. are_statements b m z ≡ true) (sym (append_assoc (canonical P) (canonical Q) ts)) (f.runs l d u hu k2.0 (canonical Q ++ ts) (g.runs l d v hv k2.1 ts k));
}

pub leads_only : {b c e : Bool} {m n : ℕ} {P : Phrase} → Leads b m P c n → Leads b m (p.only e P) c n
leads_only f = record { runs = λ l d w h k ts a. f.runs l d w h.1 k ts a }

pub leads_deeper : {b c : Bool} {m n : ℕ} {P : Phrase} → Leads b m P c n → Leads b m (p.deeper P) c n
leads_deeper f = record { runs = λ l d w h k ts a. f.runs l (suc d) w h k ts a }

pub leads_from : {b c : Bool} {m n : ℕ} {at : Pos} {P : Phrase} → Leads b m P c n → Leads b m (p.from at P) c n
leads_from f = record { runs = λ l d w h k ts a. f.runs l d w h.1 k ts a }

-- of two alternatives the first, where it needs no word, or where the second brings what it needs
pub leads_first : {b c : Bool} {m n : ℕ} {P Q : Phrase} → ((ts : List Tok) → are_statements c n ts ≡ true → are_statements b m (canonical P ++ ts) ≡ true) → Leads b m (P ∪ Q) c n
leads_first f = record { runs = λ l d w h k ts a. f ts a }

pub leads_either : {b c : Bool} {m n : ℕ} {P Q : Phrase} → Leads b m P c n
    → ((l d : ℕ) (w : List (Mark Token)) → Words Q l d w → fit_word w ≡ true → (ts : List Tok) → are_statements c n ts ≡ true → are_statements b m (canonical P ++ ts) ≡ true) → Leads b m (P ∪ Q) c n
leads_either {b} {c} {m} {n} {P} {Q} f g = record { runs = each }
  where
    each : (l d : ℕ) (w : List (Mark Token)) → Words (P ∪ Q) l d w → fit_word w ≡ true → (ts : List Tok) → are_statements c n ts ≡ true → are_statements b m (canonical P ++ ts) ≡ true
    each l d w (inl h) k ts a = f.runs l d w h k ts a
    each l d w (inr h) k ts a = g l d w h k ts a

pub leads_key : {b : Bool} {m : ℕ} (k : List ℕ) → is_plain_name k ≡ true → Leads b m (key k) true m
leads_key k e = record { runs = λ l d w h f ts a. and_from (is_plain_name k && true) (are_statements true _ ts) (and_from (is_plain_name k) true e refl) a }

pub leads_sign : {b : Bool} {m : ℕ} (s : Sign) → may_stand m (t.sign s) ≡ true → Leads b m (sign s) true (depth_behind_sign m s)
leads_sign {b} {m} s e = record { runs = λ l d w h f ts a. and_from (may_stand m (t.sign s)) (are_statements true (depth_behind_sign m s) ts) e a }

pub leads_over : {m : ℕ} → Leads true m over false 0
leads_over = record { runs = λ l d w h f ts a. a }

fit_one : (at : Pos) (x : Tok) (l d : ℕ) (w : List (Mark Token)) → Words (p.token_at at x) l d w → fit_word w ≡ true → is_fit x ≡ true
fit_one at x l d w h f = (and_parts (is_fit x) true (ap fit_word (sym h) ∙ f)).0

pub leads_name : {b : Bool} {m : ℕ} (n : Name) → Leads b m (name n) true m
leads_name n = record { runs = λ l d w h f ts a. and_from (is_plain_name n.text && true) (are_statements true _ ts) (and_from (is_plain_name n.text) true (fit_one n.at (t.word n.text) l d w h f) refl) a }

pub leads_literal : {b : Bool} {m : ℕ} (x : Literal) → Leads b m (literal x) true m
leads_literal x = record { runs = λ l d w h f ts a. and_from (is_plain (t.literal x.text) && true) (are_statements true _ ts) (and_from (is_plain (t.literal x.text)) true (fit_one x.at (t.literal x.text) l d w h f) refl) a }

pub leads_integer : {b : Bool} {m : ℕ} (n : ℕ) (k : _) (at : Pos) → Leads b m (p.token_at at (t.integer n k)) true m
leads_integer n k at = record { runs = λ l d w h f ts a. and_from (is_plain (t.integer n k) && true) (are_statements true _ ts) (and_from (is_plain (t.integer n k)) true (fit_one at (t.integer n k) l d w h f) refl) a }

pub leads_sign_at : {b : Bool} {m : ℕ} (s : Sign) (at : Pos) → may_stand m (t.sign s) ≡ true → Leads b m (p.token_at at (t.sign s)) true (depth_behind_sign m s)
leads_sign_at {b} {m} s at e = record { runs = λ l d w h f ts a. and_from (may_stand m (t.sign s)) (are_statements true (depth_behind_sign m s) ts) e a }

-- two keywords
pub leads_joined : {b : Bool} {m : ℕ} (j k : List ℕ) → is_plain_name j ≡ true → is_plain_name k ≡ true → Leads b m (joined j k) true m
leads_joined {b} {m} j k e f = leads_first (λ ts a. and_from (is_plain_name j && true) ((is_plain_name k && true) && are_statements true m ts) (and_from (is_plain_name j) true e refl) (and_from (is_plain_name k && true) (are_statements true m ts) (and_from (is_plain_name k) true f refl) a))

-- brackets
closed : (m : ℕ) → (m + 1) - 1 ≡ m
closed m = omega arith

pub leads_round : {b : Bool} {m : ℕ} {P : Phrase} → Leads true (m + 1) P true (m + 1) → Leads b m (round P) true m
leads_round {b} {m} {P} f = subst (λ z. Leads b m (round P) true z) (closed m) (leads_deeper (leads_both (leads_sign signs.OpenRound refl) (leads_both f (leads_sign signs.CloseRound refl))))

inside : (b : Bool) (m : ℕ) (P : Phrase) → Leads true (m + 1) P true (m + 1) → (l d : ℕ) (x v y z w : List (Mark Token)) → Words P l d y → v ≡ y ++ z → w ≡ x ++ v → fit_word w ≡ true
    → (ts : List Tok) → are_statements true m ts ≡ true → are_statements b m (canonical (sign signs.OpenSquare ▸ P ▸ sign signs.CloseSquare) ++ ts) ≡ true
inside b m P f l d x v y z w h k e g ts a =
    let one = fit_parts x v w e g in
    let two = fit_parts y z v k one.1 in
    let a2 = subst (λ i. are_statements true i ts ≡ true) (sym (closed m)) a in
    subst (λ i. are_statements true (m + 1) i ≡ true) (sym (append_assoc (canonical P) (t.sign signs.CloseSquare ∷ []) ts)) (f.runs l d y h two.0 (t.sign signs.CloseSquare ∷ ts) a2)

pub leads_square : {b : Bool} {m : ℕ} {P : Phrase} → Leads true (m + 1) P true (m + 1) → Leads b m (square P) true m
leads_square {b} {m} {P} f = record { runs = each }
  where
    each : (l d : ℕ) (w : List (Mark Token)) → Words (square P) l d w → fit_word w ≡ true → (ts : List Tok) → are_statements true m ts ≡ true → are_statements b m (canonical (square P) ++ ts) ≡ true
    each l d w (inl (x, v, hx, (y, z, hy, hz, k), e)) g ts a = inside b m P f l (suc d) x v y z w hy k e g ts a
    each l d w (inr (x, v, hx, (y, z, hy, hz, k), e)) g ts a = inside b m P f l (suc d) x v y z w hy k e g ts a

-- parts that may be left out, and lists
pub leads_optional : {A : Type 0} {b : Bool} {m : ℕ} {X : A → Phrase} → ((a : A) → Leads b m (X a) b m) → (o : Option A) → Leads b m (optional X o) b m
leads_optional f None = leads_nothing
leads_optional f (Some a) = f a

pub leads_followed : {A : Type 0} {m : ℕ} {X : A → Phrase} → ((a : A) → Leads true m (X a) true m) → (xs : List A) → Leads true m (followed X xs) true m
leads_followed f [] = leads_nothing
leads_followed f (a ∷ xs) = leads_both (leads_sign signs.Comma refl) (leads_both (f a) (leads_followed f xs))

pub leads_listed : {A : Type 0} {m : ℕ} {X : A → Phrase} → ((a : A) → Leads true m (X a) true m) → (xs : List A) → Leads true m (listed X xs) true m
leads_listed f [] = leads_never
leads_listed f (a ∷ xs) = leads_both (f a) (leads_followed f xs)

pub leads_maybe_listed : {A : Type 0} {m : ℕ} {X : A → Phrase} → ((a : A) → Leads true m (X a) true m) → (xs : List A) → Leads true m (maybe_listed X xs) true m
leads_maybe_listed f [] = leads_nothing
leads_maybe_listed f (a ∷ xs) = leads_both (f a) (leads_followed f xs)

pub leads_repeated : {A : Type 0} {b : Bool} {m : ℕ} {X : A → Phrase} → ((a : A) → Leads b m (X a) b m) → (xs : List A) → Leads b m (repeated X xs) b m
leads_repeated f [] = leads_nothing
leads_repeated f (a ∷ xs) = leads_both (f a) (leads_repeated f xs)
