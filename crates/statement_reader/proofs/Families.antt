-- Phrases that are read exactly at every level, and how they are put together.
use Rattle.std.proofs.Common.{◌≡◌, ℕ, zero, suc, ◌+◌, ◌≤◌, Bool, true, false, cond, List, [], ◌∷◌, ◌++◌, inl, inr, refl, ap, sym, ◌∙◌, subst, arith, bytes_eq}
use Rattle.std.proofs.lemmas.Bool.{true≢false, false≢true}
use Rattle.std.proofs.lemmas.Slice.Eq.{bytes_eq-Decides}
use Rattle.reader_theory.specs.Words.{Mark, bare, found, ◌⟫◌}
use Rattle.reader_theory.specs.Levels.{One}
use Rattle.reader_theory.specs.Readers.{token, both, second, mapped, pick, optional, sunk, pair, behind}
use Rattle.reader_theory.specs.Exactness.{Stops, never, Heads, Exact}
use Rattle.reader_theory.specs.Languages.{Or, Image, Nothing}
use Rattle.reader_theory.proofs.Independent.{Both}
use Rattle.reader_theory.proofs.Marks.{never_stops}
use Rattle.reader_theory.proofs.Sequence.{exact_both}
use Rattle.reader_theory.proofs.Single.{relabel, exact_mapped, exact_nothing, widen}
use Rattle.reader_theory.proofs.Choice.{exact_pick}
use Rattle.fortran_tokens.specs.declared.token.Sign.{Sign}
use Rattle.fortran_tokens.specs.declared.token.Sign.TheVariants as s
use Rattle.fortran_tree.specs.Expressions.{Expression}
use Rattle.fortran_grammar.specs.Tokens as t
use Rattle.fortran_grammar.specs.Tokens.{Tok, Token}
use Rattle.fortran_grammar.specs.Phrases as p
use Rattle.fortran_grammar.specs.Phrases.{Phrase, ◌▸◌, Words}
use Rattle.fortran_grammar.specs.ExpressionGrammar as g
use Rattle.caf_base.specs.declared.place.Pos.{Pos}
use Rattle.expr_reader.specs.Openings.{goes, opens}
use Rattle.expr_reader.specs.Tests.{is_sign, is_key, is_key_tok, a_name, followed_by, list_of}
use Rattle.expr_reader.specs.Full.{is_square}
use Rattle.statement_reader.specs.Families.{Family, rounded, squared, an_expression, is_one_of, maybe_list}
use Rattle.statement_reader.specs.Actions.{a_key}
use Rattle.expr_reader.proofs.Beginnings.{headed}
use Rattle.expr_reader.proofs.Exactly.{loosest}
use Rattle.expr_reader.proofs.Phrases.{Of, exact_sign, exact_key, exact_name, exact_behind_sign, exact_behind_key, exact_round, exact_square, exact_followed, exact_listed, exact_maybe, or_comma, sign_tok, sign_in, sign_out, key_in, key_out, key_itself}
use Rattle.expr_reader.proofs.Full.{sunken_round, sunken_square}
use Rattle.expr_reader.proofs.Moving.{elsewhere}
use Rattle.expr_reader.proofs.Pieces.{either_of, stops_first, stops_second}
use Rattle.expr_reader.proofs.Whole.{exact_full}

-- a language for each limit and level, read exactly by the reader for so many levels left
abbrev pub Everywhere : {A : Type 0} → (ℕ → ℕ → A → List (Mark Token) → Type 0) → (Token → Bool) → Family A → Type 0
Everywhere L more r = (limit left level : ℕ) → level + left ≡ limit → Exact (L limit level) more (r left)

pub each_expression : Everywhere (Of g.expr) (goes 0) an_expression
each_expression limit left level e = exact_full limit left level e

pub each_name : Everywhere (Of p.name) never (λ left. a_name)
each_name limit left level e = exact_name limit level (omega arith)

-- a test that a sign doesn't pass, wherever it stands
pub no_sign : (g : Sign) (more : Token → Bool) → ((at : Pos) → more (record { tok = t.sign g; at = at }) ≡ false) → (y : Token) → is_sign g y ≡ true → more y ≡ false
no_sign g more h y e = subst (λ k. more (record { tok = k; at = y.at }) ≡ false) (sym (sign_tok g y.tok e)) (h y.at)

module _ {A : Type 0} (X : A → Phrase) (more : Token → Bool) (r : Family A) (x : Everywhere (Of X) more r) where
  pub each_behind_key : (k : List ℕ) → Everywhere (Of (λ a. p.key k ▸ X a)) more (λ left. behind (is_key k) (r left))
  each_behind_key k limit left level e = exact_behind_key limit level (omega arith) X more (r left) (x limit left level e) k

  pub each_behind_sign : (g : Sign) → Everywhere (Of (λ a. p.sign g ▸ X a)) more (λ left. behind (is_sign g) (r left))
  each_behind_sign g limit left level e = exact_behind_sign limit level (omega arith) X more (r left) (x limit left level e) g

  pub each_round : ((at : Pos) → more (record { tok = t.sign s.CloseRound; at = at }) ≡ false) → Everywhere (Of (λ a. p.round (X a))) never (rounded r)
  each_round stops limit zero level e =
      let at : limit ≡ level = omega arith in
      let z = x 0 0 0 refl in
      let m = elsewhere (X z.some) 0 0 limit (suc limit) z.some_word z.is_some in
      subst (λ k. Exact (λ a w. Words (p.round (X a)) limit k w) never (sunk (is_sign s.OpenRound))) at (sunken_round X limit z.some m.moved m.is_word)
  each_round stops limit (suc left) level e = exact_round X limit level (omega arith) more (r left) (x limit left (suc level) (omega arith)) (no_sign s.CloseRound more stops)

  pub each_square : ((at : Pos) → more (record { tok = t.sign s.CloseSquare; at = at }) ≡ false) → ((at : Pos) → more (record { tok = t.sign s.CloseArray; at = at }) ≡ false) → Everywhere (Of (λ a. p.square (X a))) never (squared r)
  each_square stops also limit zero level e =
      let at : limit ≡ level = omega arith in
      let z = x 0 0 0 refl in
      let m = elsewhere (X z.some) 0 0 limit (suc limit) z.some_word z.is_some in
      subst (λ k. Exact (λ a w. Words (p.square (X a)) limit k w) never (sunk is_square)) at (sunken_square X limit z.some m.moved m.is_word)
  each_square stops also limit (suc left) level e = exact_square X limit level (omega arith) more (r left) (x limit left (suc level) (omega arith)) (no_sign s.CloseSquare more stops) (no_sign s.CloseArray more also)

  pub each_followed : ((at : Pos) → more (record { tok = t.sign s.Comma; at = at }) ≡ false) → Everywhere (Of (p.followed X)) (or_comma more) (λ left. followed_by (r left))
  each_followed stops limit left level e = exact_followed X limit level (omega arith) more (r left) (x limit left level e) (no_sign s.Comma more stops)

  pub each_listed : ((at : Pos) → more (record { tok = t.sign s.Comma; at = at }) ≡ false) → Everywhere (Of (p.listed X)) (or_comma more) (λ left. list_of (r left))
  each_listed stops limit left level e = exact_listed X limit level (omega arith) more (r left) (x limit left level e) (no_sign s.Comma more stops)

  pub each_maybe : (test also : Token → Bool) → ((l d : ℕ) (a : A) (w : List (Mark Token)) → Words (X a) l d w → Heads test w) → ((rest : List Token) → Stops also rest → Stops more rest) → ((rest : List Token) → Stops also rest → Stops test rest) → Everywhere (Of (p.optional X)) also (λ left. optional test (r left))
  each_maybe test also heads wide ends limit left level e = exact_maybe X limit level test more also (r left) (x limit left level e) (heads limit level) wide ends

-- the same words, of the tree that a function makes
module _ {A B : Type 0} (f : A → B) (X : A → Phrase) (Y : B → Phrase) (more : Token → Bool) (r : Family A) (x : Everywhere (Of X) more r) where
  pub each_mapped : ((l d : ℕ) (a : A) (w : List (Mark Token)) → Words (X a) l d w → Words (Y (f a)) l d w) → ((l d : ℕ) (b : B) (w : List (Mark Token)) → Words (Y b) l d w → (a : A) × (b ≡ f a) × Words (X a) l d w) → Everywhere (Of Y) more (λ left. mapped f (r left))
  each_mapped into from limit left level e = exact_mapped f (Of X limit level) (Of Y limit level) (r left) more more (x limit left level e) (into limit level) (from limit level) (λ rest h. h)

-- some of the trees of a kind: those that a function makes
abbrev pub Made : {A B : Type 0} → (A → B) → (A → Phrase) → ℕ → ℕ → B → List (Mark Token) → Type 0
Made f X l d = Image f (Of X l d)

module _ {A B : Type 0} (f : A → B) (X : A → Phrase) (more : Token → Bool) (r : Family A) (x : Everywhere (Of X) more r) where
  pub each_made : Everywhere (Made f X) more (λ left. mapped f (r left))
  each_made limit left level e = exact_mapped f (Of X limit level) (Made f X limit level) (r left) more more (x limit left level e) (λ a w h. (a, refl, h)) (λ b w h. h) (λ rest h. h)

-- one behind the other
module _ {A B : Type 0} (X : A → Phrase) (Y : B → Phrase) (more also : Token → Bool) (r : Family A) (q : Family B) (x : Everywhere (Of X) more r) (y : Everywhere (Of Y) also q) where
  pub each_pair : ((l d : ℕ) (b : B) (w : List (Mark Token)) (rest : List Token) → Words (Y b) l d w → Stops also rest → Stops more (bare w ++ rest)) → Everywhere (Of (λ z. X z.0 ▸ Y z.1)) also (λ left. both pair (r left) (q left))
  each_pair apart limit left level e = relabel (Both pair (Of X limit level) (Of Y limit level)) (Of (λ z. X z.0 ▸ Y z.1) limit level) (both pair (r left) (q left)) also also
      (exact_both pair (Of X limit level) (Of Y limit level) (r left) (q left) more also (x limit left level e) (y limit left level e) (apart limit level))
      (λ z w (a, b, is, h). subst (λ k. Words (X k.0 ▸ Y k.1) limit level w) (sym is) h) (λ z w h. (z.0, z.1, refl, h)) (λ rest h. h)

-- wider tests of what goes on
pub each_wider : {A : Type 0} (L : ℕ → ℕ → A → List (Mark Token) → Type 0) (more also : Token → Bool) (r : Family A) → Everywhere L more r → ((rest : List Token) → Stops also rest → Stops more rest) → Everywhere L also r
each_wider L more also r x wider limit left level e = widen (L limit level) (r left) more also (x limit left level e) wider

-- what begins with a sign, and with a keyword
pub sign_heads : (g : Sign) (P : Phrase) (l d : ℕ) (w : List (Mark Token)) (test : Token → Bool) → ((at : Pos) → test (record { tok = t.sign g; at = at }) ≡ true) → Words (p.sign g ▸ P) l d w → Heads test w
sign_heads g P l d w test passes (u, v, (at, q), h, split) = subst (Heads test) (sym (split ∙ ap (λ z. z ++ v) q)) (passes at)

pub sign_stops : (g : Sign) (P : Phrase) (l d : ℕ) (w : List (Mark Token)) (rest : List Token) (test : Token → Bool) → ((at : Pos) → test (record { tok = t.sign g; at = at }) ≡ false) → Words (p.sign g ▸ P) l d w → Stops test (bare w ++ rest)
sign_stops g P l d w rest test fails (u, v, (at, q), h, split) = subst (λ z. Stops test (bare z ++ rest)) (sym (split ∙ ap (λ z. z ++ v) q)) (fails at)

pub key_heads : (k : List ℕ) (P : Phrase) (l d : ℕ) (w : List (Mark Token)) (test : Token → Bool) → ((at : Pos) → test (record { tok = t.word k; at = at }) ≡ true) → Words (p.key k ▸ P) l d w → Heads test w
key_heads k P l d w test passes (u, v, (at, q), h, split) = subst (Heads test) (sym (split ∙ ap (λ z. z ++ v) q)) (passes at)

-- an expression begins with a token that opens one
pub expression_heads : (l d : ℕ) (e : Expression) (w : List (Mark Token)) → Words (g.expr e) l d w → Heads (opens 1) w
expression_heads l d e w h = headed 1 l d e w (loosest e, h)

-- words whose first token passes one test don't begin with a token that passes another
pub heads_stop : (test other : Token → Bool) → ((y : Token) → test y ≡ true → other y ≡ false) → (w : List (Mark Token)) (rest : List Token) → Heads test w → Stops other (bare w ++ rest)
heads_stop test other apart [] rest h = absurd h
heads_stop test other apart (m ∷ w) rest h = apart m.token h

-- Choices by a keyword.
abbrev pub is_in : List ℕ → List (List ℕ) → Bool
is_in k [] = false
is_in k (j ∷ js) = cond (bytes_eq k j) true (is_in k js)

-- words that begin with one of these keywords, read exactly
pub record Keyed {A : Type 0} (ks : List (List ℕ)) (L : ℕ → ℕ → A → List (Mark Token) → Type 0) (more : Token → Bool) (r : Family A) : Type 0 where
  pub exact : Everywhere L more r
  pub heads : (l d : ℕ) (a : A) (w : List (Mark Token)) → L l d a w → Heads (is_one_of ks) w

pub key_tok : (k : List ℕ) (y : Tok) → is_key_tok k y ≡ true → y ≡ t.word k
key_tok k (t.word x) e = ap t.word (sym ((bytes_eq-Decides k x).0 e))
key_tok k y e = absurd (false≢true e)

other_key : (k : List ℕ) (ks : List (List ℕ)) (y : Token) → is_in k ks ≡ false → is_one_of ks y ≡ true → is_key k y ≡ false
other_key k [] y n e = absurd (false≢true e)
other_key k (j ∷ js) y n e = by_key (is_key j y) refl e (λ m i. other_key k js y m i)
  where
    not_first : (b : Bool) → cond b true (is_in k js) ≡ false → b ≡ false
    not_first true h = h
    not_first false h = refl

    not_later : (b : Bool) → cond b true (is_in k js) ≡ false → is_in k js ≡ false
    not_later true h = absurd (true≢false h)
    not_later false h = h

    by_key : (b : Bool) → is_key j y ≡ b → cond b true (is_one_of js y) ≡ true → (is_in k js ≡ false → is_one_of js y ≡ true → is_key k y ≡ false) → is_key k y ≡ false
    by_key true h i later = subst (λ z. is_key_tok k z ≡ false) (sym (key_tok j y.tok h)) (not_first (bytes_eq k j) n)
    by_key false h i later = later (not_later (bytes_eq k j) n) i

module _ {A : Type 0} (k : List ℕ) (ks : List (List ℕ)) (L M : ℕ → ℕ → A → List (Mark Token) → Type 0) (more : Token → Bool) (r q : Family A) (x : Keyed (k ∷ []) L more r) (y : Keyed ks M more q) (new : is_in k ks ≡ false) where
  only_one : (w : List (Mark Token)) → Heads (is_one_of (k ∷ [])) w → Heads (is_key k) w
  only_one [] h = h
  only_one (m ∷ w) h = by_test (is_key k m.token) h
    where
      by_test : (b : Bool) → cond b true false ≡ true → b ≡ true
      by_test true h = refl
      by_test false h = h

  in_front : (w : List (Mark Token)) → Heads (is_key k) w → Heads (is_one_of (k ∷ ks)) w
  in_front [] h = h
  in_front (m ∷ w) h = ap (λ b. cond b true (is_one_of ks m.token)) h

  behind_it : (w : List (Mark Token)) → Heads (is_one_of ks) w → Heads (is_one_of (k ∷ ks)) w
  behind_it [] h = h
  behind_it (m ∷ w) h = by_test (is_key k m.token) h
    where
      by_test : (b : Bool) → is_one_of ks m.token ≡ true → cond b true (is_one_of ks m.token) ≡ true
      by_test true h = refl
      by_test false h = h

  pub keyed_or : Keyed (k ∷ ks) (λ l d. Or (L l d) (M l d)) more (λ left. pick (is_key k) (r left) (q left))
  keyed_or = record {
    exact = λ limit left level e. exact_pick (is_key k) (L limit level) (M limit level) (r left) (q left) more more (x.exact limit left level e) (y.exact limit left level e) more
        (λ a w h. only_one w (x.heads limit level a w h))
        (λ a w rest h st. heads_stop (is_one_of ks) (is_key k) (λ z i. other_key k ks z new i) w rest (y.heads limit level a w h))
        (λ rest h. h) (λ rest h. h);
    heads = λ l d a w h. elim h [ inl i ↦ in_front w (only_one w (x.heads l d a w i)) | inr j ↦ behind_it w (y.heads l d a w j) ];
  }

-- Behind a keyword stands a language.
abbrev pub After : {A : Type 0} → List ℕ → (ℕ → ℕ → A → List (Mark Token) → Type 0) → ℕ → ℕ → A → List (Mark Token) → Type 0
After k L l d a = Words (p.key k) l d ⟫ L l d a

-- whatever isn't the end of a statement
abbrev pub beyond_tok : Tok → Bool
beyond_tok t.over = false
beyond_tok x = true

abbrev pub beyond : Token → Bool
beyond y = beyond_tok y.tok

pub until_over : (more : Token → Bool) → ((at : Pos) → more (record { tok = t.over; at = at }) ≡ false) → (rest : List Token) → Stops beyond rest → Stops more rest
until_over more h [] st = tt
until_over more h (y ∷ rest) st = subst (λ k. more (record { tok = k; at = y.at }) ≡ false) (sym (by_tok y.tok st)) (h y.at)
  where
    by_tok : (k : Tok) → beyond_tok k ≡ false → k ≡ t.over
    by_tok t.over e = refl
    by_tok k e = absurd (true≢false e)

module _ {A : Type 0} (L : ℕ → ℕ → A → List (Mark Token) → Type 0) (more : Token → Bool) (r : Family A) (x : Everywhere L more r) where
  pub each_after_key : (k : List ℕ) → Everywhere (After k L) more (λ left. behind (is_key k) (r left))
  each_after_key k limit left level e = let here : level ≤ limit = omega arith in relabel (Both second (One (is_key k) limit level) (L limit level)) (After k L limit level) (behind (is_key k) (r left)) more more
      (exact_both second (One (is_key k) limit level) (L limit level) (token (is_key k)) (r left) never more (exact_key limit level here k) (x limit left level e) (λ b w rest h s. never_stops (bare w ++ rest)))
      (λ a w (y, b, is, (u, v, o, h, split)). (u, v, key_in limit level k y u o, subst (λ z. L limit level z v) (sym is) h, split))
      (λ a w (u, v, o, h, split). let q = key_out limit level k u o in (q.0, a, refl, (u, v, q.1, h, split)))
      (λ rest s. s)

  pub keyed : (k : List ℕ) → ((at : Pos) → more (record { tok = t.over; at = at }) ≡ false) → Keyed (k ∷ []) (After k L) beyond (λ left. behind (is_key k) (r left))
  keyed k stops = record {
    exact = each_wider (After k L) more beyond (λ left. behind (is_key k) (r left)) (each_after_key k) (until_over more stops);
    heads = λ l d a w (u, v, (at, q), h, split). subst (Heads (is_one_of (k ∷ []))) (sym (split ∙ ap (λ z. z ++ v) q)) (ap (λ b. cond b true false) (key_itself k));
  }

  pub keyed_with : (k : List ℕ) (also : Token → Bool) → ((rest : List Token) → Stops also rest → Stops more rest) → Keyed (k ∷ []) (After k L) also (λ left. behind (is_key k) (r left))
  keyed_with k also wide = record {
    exact = each_wider (After k L) more also (λ left. behind (is_key k) (r left)) (each_after_key k) wide;
    heads = λ l d a w (u, v, (at, q), h, split). subst (Heads (is_one_of (k ∷ []))) (sym (split ∙ ap (λ z. z ++ v) q)) (ap (λ b. cond b true false) (key_itself k));
  }

-- a keyword alone
pub each_key : (k : List ℕ) → Everywhere (Of (λ (z : Unit {0}). p.key k)) never (λ left. mapped (λ z. tt) (token (is_key k)))
each_key k limit left level e = let here : level ≤ limit = omega arith in exact_mapped (λ z. tt) (One (is_key k) limit level) (Of (λ (z : Unit {0}). p.key k) limit level) (token (is_key k)) never never
    (exact_key limit level here k) (λ y w h. key_in limit level k y w h) (λ z w h. let q = key_out limit level k w h in (q.0, refl, q.1)) (λ rest h. h)

pub each_sign : (g : Sign) → Everywhere (Of (λ (z : Unit {0}). p.sign g)) never (λ left. mapped (λ z. tt) (token (is_sign g)))
each_sign g limit left level e = let here : level ≤ limit = omega arith in exact_mapped (λ z. tt) (One (is_sign g) limit level) (Of (λ (z : Unit {0}). p.sign g) limit level) (token (is_sign g)) never never
    (exact_sign limit level here g) (λ y w h. sign_in limit level g y w h) (λ z w h. let q = sign_out limit level g w h in (q.0, refl, q.1)) (λ rest h. h)

-- A list that may be empty.
module _ {A : Type 0} (X : A → Phrase) (more test : Token → Bool) (r : Family A) (x : Everywhere (Of X) more r) (heads : (l d : ℕ) (a : A) (w : List (Mark Token)) → Words (X a) l d w → Heads test w) where
  in_front_of : (u v w : List (Mark Token)) → Heads test u → w ≡ u ++ v → Heads test w
  in_front_of [] v w h e = absurd h
  in_front_of (m ∷ u) v w h e = subst (Heads test) (sym e) h

  listed_heads : (l d : ℕ) (es : List A) (w : List (Mark Token)) → Words (p.listed X es) l d w → Heads test w
  listed_heads l d [] w h = absurd (let e = h.0 in cc)
  listed_heads l d (a ∷ es) w (u, v, h, k, split) = in_front_of u v w (heads l d a u h) split

  pub each_maybe_listed : ((at : Pos) → more (record { tok = t.sign s.Comma; at = at }) ≡ false) → Everywhere (Of (p.maybe_listed X)) (either_of test (or_comma more)) (λ left. maybe_list test (r left))
  each_maybe_listed stops limit left level e = relabel (Or (Of (p.listed X) limit level) (Nothing [])) (Of (p.maybe_listed X) limit level) (maybe_list test (r left)) (either_of test (or_comma more)) (either_of test (or_comma more))
      (exact_pick test (Of (p.listed X) limit level) (Nothing []) (list_of (r left)) (found []) (or_comma more) never (each_listed X more r x stops limit left level e) (exact_nothing []) (either_of test (or_comma more))
      (λ es w h. listed_heads limit level es w h)
      (λ es w rest h st. subst (λ z. Stops test (bare z ++ rest)) (sym h.1) (stops_first test (or_comma more) rest st))
      (stops_second test (or_comma more)) (λ rest st. never_stops rest))
      into from (λ rest h. h)
    where
      into : (es : List A) (w : List (Mark Token)) → Or (Of (p.listed X) limit level) (Nothing []) es w → Words (p.maybe_listed X es) limit level w
      into [] w (inl h) = absurd (let e = h.0 in cc)
      into (a ∷ es) w (inl h) = h
      into es w (inr h) = subst (λ z. Words (p.maybe_listed X z) limit level w) (sym h.0) h.1

      from : (es : List A) (w : List (Mark Token)) → Words (p.maybe_listed X es) limit level w → Or (Of (p.listed X) limit level) (Nothing []) es w
      from [] w h = inr (refl, h)
      from (a ∷ es) w h = inl h

-- a keyword alone, as some tree
pub keyed_alone : {A : Type 0} (k : List ℕ) (b : A) (also : Token → Bool) → Keyed (k ∷ []) (Made (λ z. b) (λ (z : Unit {0}). p.key k)) also (λ left. mapped (λ z. b) (a_key k left))
keyed_alone k b also = record {
  exact = each_wider (Made (λ z. b) (λ (z : Unit {0}). p.key k)) never also (λ left. mapped (λ z. b) (a_key k left)) (each_made (λ z. b) (λ (z : Unit {0}). p.key k) never (a_key k) (each_key k)) (λ rest h. never_stops rest);
  heads = λ l d c w (z, is, (at, h)). subst (Heads (is_one_of (k ∷ []))) (sym h) (ap (λ c. cond c true false) (key_itself k));
}
