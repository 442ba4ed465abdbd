-- Blocks, in small: a text of statements, each of one token, in blocks that are closed before the text ends.
use Rattle.std.proofs.Common.{◌≡◌, ℕ, zero, suc, ◌≤◌, Bool, true, false, List, [], ◌∷◌, inl, inr, refl, ap, arith, length}
use Rattle.reader_theory.specs.Words.{Mark, bare, expected, Verdict, found, fault}
use Rattle.reader_theory.specs.Refusals.{Answers}
use Rattle.reader_theory.specs.Readers.{token}
use Rattle.reader_theory.specs.Languages.{Single}
use Rattle.reader_theory.specs.Texts.{Rest, from_here}
use Rattle.reader_theory.proofs.Single.{exact_token}
use Rattle.reader_theory.proofs.Texts.{exact_rest_of_text}

data Statement : Type 0 where
  acts : Statement
  opens : Statement
  closes : Statement
  ends : Statement

data Place : Type 0 where
  inside : ℕ → Place
  over : Place

abbrev test : Statement → Statement → Bool
test acts acts = true
test opens opens = true
test closes closes = true
test ends ends = true
test x y = false

itself : (x : Statement) → test x x ≡ true
itself acts = refl
itself opens = refl
itself closes = refl
itself ends = refl

abbrev forms : Place → List Statement
forms over = []
forms (inside zero) = acts ∷ opens ∷ ends ∷ []
forms (inside (suc n)) = acts ∷ opens ∷ closes ∷ []

abbrev next : Place → Statement → Place
next over x = over
next (inside n) acts = inside n
next (inside n) opens = inside (suc n)
next (inside zero) closes = over
next (inside (suc n)) closes = inside n
next (inside n) ends = over

abbrev final : Place → Bool
final over = true
final (inside n) = false

abbrev reads : ℕ → Place → List Statement → Verdict Statement (List Statement)
reads = from_here (λ i. token (test i)) forms next final

-- the fault is an END of the program in a block, a block that is open at the end, a statement behind the program's end
in_block : reads 9 (inside 0) (opens ∷ acts ∷ ends ∷ []) ≡ fault expected (ends ∷ [])
in_block = refl

left_open : reads 9 (inside 0) (opens ∷ acts ∷ []) ≡ fault expected []
left_open = refl

behind_it : reads 9 (inside 0) (acts ∷ ends ∷ acts ∷ []) ≡ fault expected (acts ∷ [])
behind_it = refl

whole : reads 9 (inside 0) (opens ∷ acts ∷ closes ∷ ends ∷ []) ≡ found (opens ∷ acts ∷ closes ∷ ends ∷ []) []
whole = refl

-- how a text can end from each place
closing : ℕ → List Statement
closing zero = ends ∷ []
closing (suc n) = closes ∷ closing n

abbrev marked : List Statement → List (Mark Statement)
marked [] = []
marked (x ∷ ls) = record { token = x; deep = false } ∷ marked ls

abbrev some : Place → List Statement
some over = []
some (inside n) = closing n

abbrev RestOf : List Statement → Place → List (Mark Statement) → Type 0
RestOf = Rest (λ i. Single (test i)) forms next final

closing_rest : (n : ℕ) → RestOf (closing n) (inside n) (marked (closing n))
unfolding closing
closing_rest zero = (record { token = ends; deep = false } ∷ [], [], inr (inr (inl (refl, refl))), (refl, refl), refl)
closing_rest (suc n) = (record { token = closes; deep = false } ∷ [], marked (closing n), inr (inr (inl (refl, refl))), closing_rest n, refl)

is_some : (s : Place) → RestOf (some s) s (marked (some s))
is_some over = (refl, refl)
is_some (inside n) = closing_rest n

alive : (s : Place) → final s ≡ false → (i : Statement) × (js : List Statement) × (forms s ≡ i ∷ js)
alive over e = absurd (cc)
alive (inside zero) e = (acts, opens ∷ ends ∷ [], refl)
alive (inside (suc n)) e = (acts, opens ∷ closes ∷ [], refl)

exact_blocks : (n : ℕ) (s : Place) (ts : List Statement) → length ts ≤ n → Answers (λ ls w. RestOf ls s w) ts (reads n s ts)
exact_blocks = exact_rest_of_text (λ i. Single (test i)) (λ i. token (test i)) (λ i. exact_token (test i) i (itself i)) forms next final
    (λ i a w h. let k = ap (λ z. length (bare z)) h.1 in omega arith) some (λ s. marked (some s)) is_some alive
