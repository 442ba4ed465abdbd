-- A phrase and the same without its places: each word, its places set to one, is a word of it, and the canonical tokens
-- are the same.
use Rattle.std.proofs.Common.{◌≡◌, ℕ, suc, Bool, List, [], ◌∷◌, ◌++◌, Option, Some, None, map, inl, inr, refl, ap, ◌∙◌}
use Rattle.std.specs.Option.{option_map}
use Rattle.std.proofs.lemmas.List.{map-append}
use Rattle.caf_base.specs.declared.place.Pos.{Pos}
use Rattle.reader_theory.specs.Words.{Mark}
use Rattle.fortran_tree.specs.declared.name.Name.{Name}
use Rattle.fortran_tree.specs.declared.name.Literal.{Literal}
use Rattle.fortran_grammar.specs.Tokens.{Tok, Token}
use Rattle.fortran_grammar.specs.Phrases as p
use Rattle.fortran_grammar.specs.Phrases.{Phrase, ◌▸◌, ◌∪◌, Words, FirstAt, canonical, never, name, literal, joined, round, square, optional, followed, listed, maybe_listed, repeated}
use Rattle.print_again.specs.Unplaced as u
use Rattle.print_again.specs.Unplaced.{nowhere}

-- a token of a word at no place
abbrev pub mark_unplaced : Mark Token → Mark Token
mark_unplaced m = record { token = u.token m.token; deep = m.deep }

abbrev pub unplaced : List (Mark Token) → List (Mark Token)
unplaced w = map mark_unplaced w

pub record Emptied (P Q : Phrase) : Type 0 where
  pub word : (l d : ℕ) (w : List (Mark Token)) → Words P l d w → Words Q l d (unplaced w)
  pub same : canonical Q ≡ canonical P

pub emptied_nothing : Emptied p.nothing p.nothing
emptied_nothing = record { word = λ l d w h. ap unplaced h; same = refl }

pub emptied_token : {x : Tok} → Emptied (p.token x) (p.token x)
emptied_token = record { word = λ l d w (at, h). (nowhere, ap unplaced h); same = refl }

pub emptied_at : {at : Pos} {x : Tok} → Emptied (p.token_at at x) (p.token_at nowhere x)
emptied_at = record { word = λ l d w h. ap unplaced h; same = refl }

pub emptied_both : {P Q R S : Phrase} → Emptied P Q → Emptied R S → Emptied (P ▸ R) (Q ▸ S)
emptied_both f g = record {
  word = λ l d w (x, v, hx, hv, e). (unplaced x, unplaced v, f.word l d x hx, g.word l d v hv, ap unplaced e ∙ map-append mark_unplaced x v);
  same = λ i. f.same i ++ g.same i;
}

pub emptied_either : {P Q R S : Phrase} → Emptied P Q → Emptied R S → Emptied (P ∪ R) (Q ∪ S)
emptied_either {P} {Q} {R} {S} f g = record { word = each; same = f.same }
  where
    each : (l d : ℕ) (w : List (Mark Token)) → Words (P ∪ R) l d w → Words (Q ∪ S) l d (unplaced w)
    each l d w (inl h) = inl (f.word l d w h)
    each l d w (inr h) = inr (g.word l d w h)

pub emptied_only : {b c : Bool} {P Q : Phrase} → c ≡ b → Emptied P Q → Emptied (p.only b P) (p.only c Q)
emptied_only e f = record { word = λ l d w h. (e ∙ h.0, f.word l d w h.1); same = f.same }

pub emptied_deeper : {P Q : Phrase} → Emptied P Q → Emptied (p.deeper P) (p.deeper Q)
emptied_deeper f = record { word = λ l d w h. f.word l (suc d) w h; same = f.same }

first_unplaced : (at : Pos) (w : List (Mark Token)) → FirstAt at w → FirstAt nowhere (unplaced w)
first_unplaced at [] h = absurd h
first_unplaced at (m ∷ w) h = refl

pub emptied_from : {at : Pos} {P Q : Phrase} → Emptied P Q → Emptied (p.from at P) (p.from nowhere Q)
emptied_from {at} f = record { word = λ l d w h. (first_unplaced at w h.0, f.word l d w h.1); same = f.same }

pub emptied_name : (n : Name) → Emptied (name n) (name (u.name n))
emptied_name n = emptied_at

pub emptied_literal : (x : Literal) → Emptied (literal x) (literal (u.literal x))
emptied_literal x = emptied_at

pub emptied_never : Emptied never never
emptied_never = emptied_only refl emptied_nothing

pub emptied_joined : {j k : List ℕ} → Emptied (joined j k) (joined j k)
emptied_joined = emptied_either (emptied_both emptied_token emptied_token) emptied_token

pub emptied_round : {P Q : Phrase} → Emptied P Q → Emptied (round P) (round Q)
emptied_round f = emptied_deeper (emptied_both emptied_token (emptied_both f emptied_token))

pub emptied_square : {P Q : Phrase} → Emptied P Q → Emptied (square P) (square Q)
emptied_square f = emptied_deeper (emptied_either (emptied_both emptied_token (emptied_both f emptied_token)) (emptied_both emptied_token (emptied_both f emptied_token)))

pub emptied_optional : {A : Type 0} {X : A → Phrase} (f : A → A) → ((a : A) → Emptied (X a) (X (f a))) → (o : Option A) → Emptied (optional X o) (optional X (option_map f o))
emptied_optional f g None = emptied_nothing
emptied_optional f g (Some a) = g a

pub emptied_followed : {A : Type 0} {X : A → Phrase} (f : A → A) → ((a : A) → Emptied (X a) (X (f a))) → (xs : List A) → Emptied (followed X xs) (followed X (map f xs))
emptied_followed f g [] = emptied_nothing
emptied_followed f g (a ∷ xs) = emptied_both emptied_token (emptied_both (g a) (emptied_followed f g xs))

pub emptied_listed : {A : Type 0} {X : A → Phrase} (f : A → A) → ((a : A) → Emptied (X a) (X (f a))) → (xs : List A) → Emptied (listed X xs) (listed X (map f xs))
emptied_listed f g [] = emptied_never
emptied_listed f g (a ∷ xs) = emptied_both (g a) (emptied_followed f g xs)

pub emptied_maybe_listed : {A : Type 0} {X : A → Phrase} (f : A → A) → ((a : A) → Emptied (X a) (X (f a))) → (xs : List A) → Emptied (maybe_listed X xs) (maybe_listed X (map f xs))
emptied_maybe_listed f g [] = emptied_nothing
emptied_maybe_listed f g (a ∷ xs) = emptied_both (g a) (emptied_followed f g xs)

pub emptied_repeated : {A : Type 0} {X : A → Phrase} (f : A → A) → ((a : A) → Emptied (X a) (X (f a))) → (xs : List A) → Emptied (repeated X xs) (repeated X (map f xs))
emptied_repeated f g [] = emptied_nothing
emptied_repeated f g (a ∷ xs) = emptied_both (g a) (emptied_repeated f g xs)
