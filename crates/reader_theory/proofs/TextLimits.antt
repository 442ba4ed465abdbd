-- Where the first token too deep stands in a text of parts.
use Rattle.std.proofs.Common.{◌≡◌, ℕ, zero, suc, ◌<◌, ◌≤◌, Bool, true, false, List, [], ◌∷◌, ◌++◌, refl, ap, subst, arith, length, Option, Some, None}
use Rattle.std.proofs.lemmas.List.{length-append}
use Rattle.reader_theory.specs.Words.{Mark, bare, Verdict}
use Rattle.reader_theory.specs.Limits.{Goes, SinksAt, FirstSunk, place_by}
use Rattle.reader_theory.specs.Readers.{more_of}
use Rattle.reader_theory.specs.Exactness.{never, Tells, Exact}
use Rattle.reader_theory.specs.Languages.{By}
use Rattle.reader_theory.specs.Texts.{places, place_here}
use Rattle.reader_theory.proofs.Marks.{never_stops}
use Rattle.reader_theory.proofs.Texts.{Rest_at, Ways, first_way, later_way, which_way}
use Rattle.reader_theory.proofs.Limits.{first_either, first_tail}

module _ {T A S I : Type 0} (L : I → A → List (Mark T) → Type 0) (p : I → List T → Verdict T A) (x : (i : I) → Exact (L i) never (p i)) (forms : S → List I) (next : S → A → S) (final : S → Bool) (longer : (i : I) (a : A) (w : List (Mark T)) → L i a w → 1 ≤ length (bare w)) where
  abbrev Way : S → I → List A → List (Mark T) → Type 0
  Way s i = By more_of (L i) (λ a. Rest_at L forms next final (next s a))

  module _ (goes : S → I → List T → Bool) (does : (s : S) (i : I) (ts : List T) → goes s i ts ≡ true → Goes (Way s i) ts) (none : (s : S) (i : I) (ts : List T) → goes s i ts ≡ false → Goes (Way s i) ts → ⊥) where
    abbrev Shorter : ℕ → (S → List T → Option ℕ) → Type 0
    Shorter n rest = (s : S) (ts : List T) → length ts < n → FirstSunk (Rest_at L forms next final s) ts (rest s ts)

    one_place : (rest : S → List T → Option ℕ) (s : S) (i : I) (ts : List T) → Shorter (length ts) rest → FirstSunk (Way s i) ts (place_by (goes s i ts) ts (λ a. rest (next s a)) (p i ts))
    one_place rest s i ts shorter = first_tail more_of (L i) (λ a. Rest_at L forms next final (next s a)) (p i) never (x i) (λ a b w h. never_stops (bare w)) ts (goes s i ts) (does s i ts) (none s i ts) (λ a. rest (next s a))
        (λ a left e. let t = subst (Tells (L i) (p i) ts) e ((x i).tells ts) in
        shorter (next s a) left (let k = longer i a t.word t.is_word in let l = ap length t.split in let m = length-append (bare t.word) left in omega arith))

    any_place : (rest : S → List T → Option ℕ) (s : S) (is : List I) (ts : List T) → Shorter (length ts) rest → FirstSunk (Ways L forms next final s is) ts (places p next goes rest s is ts)
    any_place rest s [] ts shorter = λ d (ls, f, g, v, m, (a, b, e, (u, w, h, k, split)), here, sh, deep, l). h
    any_place rest s (i ∷ is) ts shorter = first_either (Way s i) (Ways L forms next final s is) (Ways L forms next final s (i ∷ is))
        (first_way L forms next final s i is) (later_way L forms next final s i is) (which_way L forms next final s i is) ts _ _ (one_place rest s i ts shorter) (any_place rest s is ts shorter)

    -- a text that ends here has no token that sinks
    sinks_on : (s : S) (ts : List T) (d : ℕ) → SinksAt (Rest_at L forms next final s) ts d → SinksAt (Ways L forms next final s (forms s)) ts d
    sinks_on s ts d ([], f, g, v, m, h, here, sh, deep, l) = absurd (nothing f h.1)
      where
        nothing : (f : List (Mark T)) → (f ++ m ∷ g) ++ v ≡ [] → ⊥
        nothing [] e = absurd (cc)
        nothing (n ∷ f) e = absurd (cc)
    sinks_on s ts d (a ∷ ls, f, g, v, m, (u, w, h, k, split), here, sh, deep, l) = (a ∷ ls, f, g, v, m, (a, ls, refl, (u, w, h, k, split)), here, sh, deep, l)

    sinks_back : (s : S) (ts : List T) (d : ℕ) → SinksAt (Ways L forms next final s (forms s)) ts d → SinksAt (Rest_at L forms next final s) ts d
    sinks_back s ts d (ls, f, g, v, m, (a, b, e, (u, w, h, k, split)), here, sh, deep, l) = (a ∷ b, f, g, v, m, (u, w, h, k, split), here, sh, deep, l)

    at_place : (s : S) (ts : List T) (o : Option ℕ) → FirstSunk (Ways L forms next final s (forms s)) ts o → FirstSunk (Rest_at L forms next final s) ts o
    at_place s ts None h = λ d k. h d (sinks_on s ts d k)
    at_place s ts (Some d) h = (sinks_back s ts d h.0, λ e l k. h.1 e l (sinks_on s ts e k))

    no_tokens : (s : S) (d : ℕ) → SinksAt (Rest_at L forms next final s) [] d → ⊥
    no_tokens s d (ls, [], g, v, m, h, here, sh, deep, l) = absurd (cc)
    no_tokens s d (ls, n ∷ f, g, v, m, h, here, sh, deep, l) = absurd (cc)

    pub first_of_texts : (n : ℕ) (s : S) (ts : List T) → length ts ≤ n → FirstSunk (Rest_at L forms next final s) ts (place_here p forms next goes n s ts)
    first_of_texts zero s [] l = no_tokens s
    first_of_texts zero s (t ∷ ts) l = absurd (omega arith)
    first_of_texts (suc n) s ts l = at_place s ts _ (any_place (place_here p forms next goes n) s (forms s) ts (λ r us k. first_of_texts n r us (omega arith)))
