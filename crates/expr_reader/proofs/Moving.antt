-- A word of a phrase under another limit: the same tokens, none of the first ones too deep where the limit is out of
-- reach.
use Rattle.std.proofs.Common.{◌≡◌, ℕ, zero, suc, ◌+◌, ◌-◌, ◌≤◌, Bool, true, false, cond, max, List, [], ◌∷◌, ◌++◌, length, inl, inr, refl, ap, sym, ◌∙◌, subst, arith}
use Rattle.std.proofs.lemmas.Bool.{le-ltb, and_parts, or_cases, false≢true}
use Rattle.std.proofs.lemmas.List.{length-append}
use Rattle.caf_base.specs.declared.place.Pos.{Pos}
use Rattle.reader_theory.specs.Words.{Mark, bare}
use Rattle.reader_theory.specs.Levels.{mark, ShallowFor, Moved}
use Rattle.reader_theory.proofs.Marks.{bare_append}
use Rattle.fortran_grammar.specs.Tokens.{Token}
use Rattle.fortran_grammar.specs.Phrases as p
use Rattle.fortran_grammar.specs.Phrases.{Phrase, ◌▸◌, ◌∪◌, Words, FirstAt}
use Rattle.expr_reader.specs.Slack.{solid, slack}

-- no token is too deep where the limit is as far away as its place and k more
abbrev pub Low : ℕ → ℕ → ℕ → List (Mark Token) → Type 0
Low l d k [] = Unit {0}
Low l d k (m ∷ w) = (d + k ≤ l → m.deep ≡ false) × Low l d (suc k) w

low_more : (l d e j k : ℕ) (w : List (Mark Token)) → d + j ≤ e + k → Low l d j w → Low l e k w
low_more l d e j k [] h q = tt
low_more l d e j k (m ∷ w) h q = ((λ x. q.0 (omega arith)), low_more l d e (suc j) (suc k) w (omega arith) q.1)

low_append : (l d k : ℕ) (u v : List (Mark Token)) → Low l d k u → Low l d (k + length u) v → Low l d k (u ++ v)
low_append l d k [] v h q = low_more l d d (k + 0) k v (omega arith) q
low_append l d k (m ∷ u) v h q = (h.0, low_append l d (suc k) u v h.1 (low_more l d d (k + suc (length u)) (suc k + length u) v (omega arith) q))

pub some_token : (P : Phrase) (l d : ℕ) (w : List (Mark Token)) → solid P ≡ true → Words P l d w → 1 ≤ length w
some_token p.nothing l d w s h = absurd (false≢true s)
some_token (p.token x) l d w s (at, h) = subst (λ z. 1 ≤ length z) (sym h) (omega arith)
some_token (p.token_at at x) l d w s h = subst (λ z. 1 ≤ length z) (sym h) (omega arith)
some_token (P ▸ Q) l d w s (u, v, h, k, split) =
    let e : length w ≡ length u + length v = ap length split ∙ length-append u v in
    elim (or_cases (solid P) (solid Q) s) [ inl x ↦ (let i = some_token P l d u x h in omega arith) | inr x ↦ (let i = some_token Q l d v x k in omega arith) ]
some_token (P ∪ Q) l d w s (inl h) = some_token P l d w (and_parts _ _ s).0 h
some_token (P ∪ Q) l d w s (inr h) = some_token Q l d w (and_parts _ _ s).1 h
some_token (p.only b P) l d w s (e, h) = some_token P l d w s h
some_token (p.deeper P) l d w s h = some_token P l (suc d) w s h
some_token (p.from at P) l d [] s (f, h) = absurd f
some_token (p.from at P) l d (m ∷ w) s (f, h) = omega arith

same_first : (at : Pos) (w v : List (Mark Token)) → FirstAt at w → bare v ≡ bare w → FirstAt at v
same_first at [] v f e = absurd f
same_first at (m ∷ w) [] f e = absurd (cc)
same_first at (m ∷ w) (k ∷ v) f e = let same : k.token ≡ m.token = cc in ap (λ z. z.at) same ∙ f

same_length : (w v : List (Mark Token)) → bare v ≡ bare w → length v ≡ length w
same_length [] [] e = refl
same_length [] (k ∷ v) e = absurd (cc)
same_length (m ∷ w) [] e = absurd (cc)
same_length (m ∷ w) (k ∷ v) e = let f : bare v ≡ bare w = cc in ap suc (same_length w v f)

pub record Elsewhere (P : Phrase) (l d : ℕ) (w : List (Mark Token)) : Type 0 where
  pub moved : List (Mark Token)
  pub is_word : Words P l d moved
  pub same : bare moved ≡ bare w
  pub low : Low l d (slack P) moved

pub elsewhere : (P : Phrase) (l d k e : ℕ) (w : List (Mark Token)) → Words P l d w → Elsewhere P k e w
elsewhere p.nothing l d k e w h = record { moved = []; is_word = refl; same = sym (ap bare h); low = tt }
elsewhere (p.token x) l d k e w (at, h) = record {
  moved = mark k e (record { tok = x; at = at }) ∷ [];
  is_word = (at, refl);
  same = sym (ap bare h);
  low = ((λ q. le-ltb k e (omega arith)), tt);
}
elsewhere (p.token_at at x) l d k e w h = record {
  moved = mark k e (record { tok = x; at = at }) ∷ [];
  is_word = refl;
  same = sym (ap bare h);
  low = ((λ q. le-ltb k e (omega arith)), tt);
}
elsewhere (P ▸ Q) l d k e w (u, v, h, q, split) = join (elsewhere P l d k e u h) (elsewhere Q l d k e v q)
  where
    behind : (b : Bool) → solid P ≡ b → (n : ℕ) → (b ≡ true → 1 ≤ n) → slack Q ≤ max (slack P) (cond b (slack Q - 1) (slack Q)) + n
    behind true s n o = let i = o refl in omega arith
    behind false s n o = omega arith

    join : Elsewhere P k e u → Elsewhere Q k e v → Elsewhere (P ▸ Q) k e w
    join x y = record {
      moved = x.moved ++ y.moved;
      is_word = (x.moved, y.moved, x.is_word, y.is_word, refl);
      same = bare_append x.moved y.moved ∙ (ap (λ z. z ++ bare y.moved) x.same ∙ (ap (λ z. bare u ++ z) y.same ∙ (sym (bare_append u v) ∙ sym (ap bare split))));
      low = low_append k e (slack (P ▸ Q)) x.moved y.moved (low_more k e e (slack P) (slack (P ▸ Q)) x.moved (omega arith) x.low)
          (low_more k e e (slack Q) (slack (P ▸ Q) + length x.moved) y.moved (let i = behind (solid P) refl (length x.moved) (λ s. some_token P k e x.moved s x.is_word) in omega arith) y.low);
    }
elsewhere (P ∪ Q) l d k e w (inl h) = let x = elsewhere P l d k e w h in record { moved = x.moved; is_word = inl x.is_word; same = x.same; low = low_more k e e (slack P) (slack (P ∪ Q)) x.moved (omega arith) x.low }
elsewhere (P ∪ Q) l d k e w (inr h) = let x = elsewhere Q l d k e w h in record { moved = x.moved; is_word = inr x.is_word; same = x.same; low = low_more k e e (slack Q) (slack (P ∪ Q)) x.moved (omega arith) x.low }
elsewhere (p.only b P) l d k e w (i, h) = let x = elsewhere P l d k e w h in record { moved = x.moved; is_word = (i, x.is_word); same = x.same; low = x.low }
elsewhere (p.deeper P) l d k e w h = let x = elsewhere P l (suc d) k (suc e) w h in record { moved = x.moved; is_word = x.is_word; same = x.same; low = low_more k (suc e) e (slack P) (suc (slack P)) x.moved (omega arith) x.low }
elsewhere (p.from at P) l d k e w (f, h) = let x = elsewhere P l d k e w h in record { moved = x.moved; is_word = (same_first at w x.moved f x.same, x.is_word); same = x.same; low = x.low }

shallow_for : (l d k n : ℕ) (w : List (Mark Token)) → d + k + n ≤ suc l → Low l d k w → ShallowFor n w
shallow_for l d k zero w h q = tt
shallow_for l d k (suc n) [] h q = tt
shallow_for l d k (suc n) (m ∷ w) h q = (q.0 (omega arith), shallow_for l d (suc k) n w (omega arith) q.1)

-- under a limit that is out of the first n tokens' reach none of them is too deep
pub moved_phrase : (P : Phrase) (l d k e n : ℕ) (w : List (Mark Token)) → Words P l d w → e + slack P + n ≤ suc k → Moved (Words P k e) n w
moved_phrase P l d k e n w h far = let x = elsewhere P l d k e w h in record { moved = x.moved; is_word = x.is_word; same = x.same; shallow = shallow_for k e (slack P) n x.moved far x.low }
