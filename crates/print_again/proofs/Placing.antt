-- A word of a phrase without its places is one of a phrase with them: what every form needs.
use Rattle.std.proofs.Common.{◌≡◌, ℕ, suc, Bool, true, false, ◌&&◌, ◌||◌, List, [], ◌∷◌, ◌++◌, Option, Some, None, map, inl, inr, refl, ap, sym, ◌∙◌, subst}
use Rattle.std.specs.Option.{option_map}
use Rattle.caf_base.specs.declared.place.Pos.{Pos}
use Rattle.reader_theory.specs.Words.{Mark}
use Rattle.fortran_tree.specs.declared.name.Name.{Name}
use Rattle.fortran_tree.specs.declared.name.Literal.{Literal}
use Rattle.fortran_grammar.specs.Tokens.{Token}
use Rattle.fortran_grammar.specs.Phrases as p
use Rattle.fortran_grammar.specs.Phrases.{Phrase, ◌▸◌, ◌∪◌, Words, FirstAt, name, literal, optional, followed, listed, maybe_listed, repeated}
use Rattle.fortran_grammar.specs.Laws.{placeless}
use Rattle.print_again.specs.Unplaced as u

-- each word of the tree's phrase without its places is a word of a tree that is the same but for places
abbrev pub Placed : {A : Type 0} → (A → Phrase) → (A → A) → A → Type 0
Placed {A} X f a = (l d : ℕ) (w : List (Mark Token)) → Words (placeless (X a)) l d w → (b : A) × (f b ≡ f a) × Words (X b) l d w

-- the word has a token
abbrev pub Some_token : List (Mark Token) → Type 0
Some_token w = (at : Pos) × FirstAt at w

-- a word that begins with one token
pub starts : {q : Mark Token} (x v w : List (Mark Token)) → x ≡ q ∷ [] → w ≡ x ++ v → Some_token w
starts {q} x v w a e = (q.token.at, subst (FirstAt q.token.at) (sym (e ∙ ap (λ z. z ++ v) a)) refl)

some_left : (x v : List (Mark Token)) → Some_token x → Some_token (x ++ v)
some_left [] v (at, h) = absurd h
some_left (m ∷ x) v h = h

some_right : (x v : List (Mark Token)) → Some_token v → Some_token (x ++ v)
some_right [] v h = h
some_right (m ∷ x) v h = (m.token.at, refl)

-- every word of the phrase has a token
abbrev pub has_token : Phrase → Bool
has_token p.nothing = false
has_token (p.token x) = true
has_token (p.token_at at x) = true
has_token (P ▸ Q) = has_token P || has_token Q
has_token (P ∪ Q) = has_token P && has_token Q
has_token (p.only b P) = has_token P
has_token (p.deeper P) = has_token P
has_token (p.from at P) = has_token P

pub last_has : (b : Bool) → (b || true) ≡ true
last_has true = refl
last_has false = refl

both_by : (a b : Bool) (x v w : List (Mark Token)) → (a ≡ true → Some_token x) → (b ≡ true → Some_token v) → (a || b) ≡ true → w ≡ x ++ v → Some_token w
both_by true b x v w f g h e = subst Some_token (sym e) (some_left x v (f refl))
both_by false b x v w f g h e = subst Some_token (sym e) (some_right x v (g h))

and_first : (a b : Bool) → (a && b) ≡ true → (a ≡ true) × (b ≡ true)
and_first true b h = (refl, h)
and_first false b h = absurd (cc)

pub some_token : (P : Phrase) (l d : ℕ) (w : List (Mark Token)) → has_token P ≡ true → Words (placeless P) l d w → Some_token w
some_token p.nothing l d w h k = absurd (cc)
some_token (p.token x) l d w h (at, k) = (at, subst (FirstAt at) (sym k) refl)
some_token (p.token_at p x) l d w h (at, k) = (at, subst (FirstAt at) (sym k) refl)
some_token (P ▸ Q) l d w h (x, v, hx, hv, e) = both_by (has_token P) (has_token Q) x v w (λ k. some_token P l d x k hx) (λ k. some_token Q l d v k hv) h e
some_token (P ∪ Q) l d w h (inl k) = some_token P l d w (and_first (has_token P) (has_token Q) h).0 k
some_token (P ∪ Q) l d w h (inr k) = some_token Q l d w (and_first (has_token P) (has_token Q) h).1 k
some_token (p.only b P) l d w h k = some_token P l d w h k.1
some_token (p.deeper P) l d w h k = some_token P l (suc d) w h k
some_token (p.from at P) l d w h k = some_token P l d w h k

-- The forms that lists and options have.

pub placed_name : (n : Name) → Placed name u.name n
placed_name n l d w (at, e) = (record { text = n.text; at = at }, refl, e)

pub placed_literal : (x : Literal) → Placed literal u.literal x
placed_literal x l d w (at, e) = (record { text = x.text; at = at }, refl, e)

pub placed_optional : {A : Type 0} (X : A → Phrase) (f : A → A) → ((a : A) → Placed X f a) → (o : Option A) → Placed (optional X) (option_map f) o
placed_optional X f m None l d w h = (None, refl, h)
placed_optional X f m (Some a) l d w h = let r = m a l d w h in (Some r.0, λ i. Some (r.1 i), r.2)

pub placed_followed : {A : Type 0} (X : A → Phrase) (f : A → A) → ((a : A) → Placed X f a) → (xs : List A) → Placed (followed X) (map f) xs
placed_followed X f m [] l d w h = ([], refl, h)
placed_followed X f m (a ∷ more) l d w (x, y, hx, (z, v, hz, hv, k), e) =
    let r = m a l d z hz in
    let q = placed_followed X f m more l d v hv in
    (r.0 ∷ q.0, λ i. r.1 i ∷ q.1 i, (x, y, hx, (z, v, r.2, q.2, k), e))

pub placed_listed : {A : Type 0} (X : A → Phrase) (f : A → A) → ((a : A) → Placed X f a) → (xs : List A) → Placed (listed X) (map f) xs
placed_listed X f m [] l d w h = ([], refl, h)
placed_listed X f m (a ∷ more) l d w (z, v, hz, hv, k) =
    let r = m a l d z hz in
    let q = placed_followed X f m more l d v hv in
    (r.0 ∷ q.0, λ i. r.1 i ∷ q.1 i, (z, v, r.2, q.2, k))

pub placed_maybe_listed : {A : Type 0} (X : A → Phrase) (f : A → A) → ((a : A) → Placed X f a) → (xs : List A) → Placed (maybe_listed X) (map f) xs
placed_maybe_listed X f m [] l d w h = ([], refl, h)
placed_maybe_listed X f m (a ∷ more) l d w (z, v, hz, hv, k) =
    let r = m a l d z hz in
    let q = placed_followed X f m more l d v hv in
    (r.0 ∷ q.0, λ i. r.1 i ∷ q.1 i, (z, v, r.2, q.2, k))

pub placed_repeated : {A : Type 0} (X : A → Phrase) (f : A → A) → ((a : A) → Placed X f a) → (xs : List A) → Placed (repeated X) (map f) xs
placed_repeated X f m [] l d w h = ([], refl, h)
placed_repeated X f m (a ∷ more) l d w (z, v, hz, hv, k) =
    let r = m a l d z hz in
    let q = placed_repeated X f m more l d v hv in
    (r.0 ∷ q.0, λ i. r.1 i ∷ q.1 i, (z, v, r.2, q.2, k))
