-- Texts whose lines have 1,000 bytes at most.
use Rattle.std.proofs.Common.{◌≡◌, ℕ, ◌+◌, ◌≤◌, Bool, true, false, cond, not, ◌&&◌, nat_eq, nat_le, List, [], ◌∷◌, ◌++◌, length, refl, ap, ◌∙◌, arith}
use Rattle.std.proofs.lemmas.Bool.{and_parts, and_from, le-leb, false≢true}
use Rattle.fortran_layout.specs.Lines.{has_short_lines, no_feed}

-- how many bytes the last line has, where so many stand before the text
abbrev pub last_line : ℕ → List ℕ → ℕ
last_line c [] = c
last_line c (b ∷ t) = cond (nat_eq b 10) (last_line 0 t) (last_line (c + 1) t)

-- each line that is ended has 1,000 bytes at most
abbrev pub ended : ℕ → List ℕ → Bool
ended c [] = true
ended c (b ∷ t) = cond (nat_eq b 10) (nat_le c 1000 && ended 0 t) (ended (c + 1) t)

and_grouped : (x y z : Bool) → (x && (y && z)) ≡ ((x && y) && z)
and_grouped true y z = refl
and_grouped false y z = refl

-- has_short_lines by the two
fit_by : (e : Bool) (c m n : ℕ) (x y : Bool) (f g : Bool) → f ≡ (x && nat_le m 1000) → g ≡ (y && nat_le n 1000)
    → cond e (nat_le c 1000 && f) g ≡ (cond e (nat_le c 1000 && x) y && nat_le (cond e m n) 1000)
fit_by true c m n x y f g h k = ap (λ z. nat_le c 1000 && z) h ∙ and_grouped (nat_le c 1000) x (nat_le m 1000)
fit_by false c m n x y f g h k = k

pub fit : (c : ℕ) (t : List ℕ) → has_short_lines c t ≡ (ended c t && nat_le (last_line c t) 1000)
fit c [] = refl
fit c (b ∷ t) = fit_by (nat_eq b 10) c (last_line 0 t) (last_line (c + 1) t) (ended 0 t) (ended (c + 1) t) (has_short_lines 0 t) (has_short_lines (c + 1) t) (fit 0 t) (fit (c + 1) t)

last_by : (e : Bool) (p q m n : ℕ) (y : List ℕ) → p ≡ last_line m y → q ≡ last_line n y → cond e p q ≡ last_line (cond e m n) y
last_by true p q m n y h k = h
last_by false p q m n y h k = k

last_append : (c : ℕ) (x y : List ℕ) → last_line c (x ++ y) ≡ last_line (last_line c x) y
last_append c [] y = refl
last_append c (b ∷ t) y = last_by (nat_eq b 10) (last_line 0 (t ++ y)) (last_line (c + 1) (t ++ y)) (last_line 0 t) (last_line (c + 1) t) y (last_append 0 t y) (last_append (c + 1) t y)

ended_by : (e : Bool) (c m n : ℕ) (p q f g : Bool) (y : List ℕ) → p ≡ (f && ended m y) → q ≡ (g && ended n y)
    → cond e (nat_le c 1000 && p) q ≡ (cond e (nat_le c 1000 && f) g && ended (cond e m n) y)
ended_by true c m n p q f g y h k = ap (λ z. nat_le c 1000 && z) h ∙ and_grouped (nat_le c 1000) f (ended m y)
ended_by false c m n p q f g y h k = k

ended_append : (c : ℕ) (x y : List ℕ) → ended c (x ++ y) ≡ (ended c x && ended (last_line c x) y)
ended_append c [] y = refl
ended_append c (b ∷ t) y =
    ended_by (nat_eq b 10) c (last_line 0 t) (last_line (c + 1) t) (ended 0 (t ++ y)) (ended (c + 1) (t ++ y)) (ended 0 t) (ended (c + 1) t) y
    (ended_append 0 t y) (ended_append (c + 1) t y)

-- a text without a line feed stands in the line
record Within (c : ℕ) (x : List ℕ) : Type 0 where
  ends : ended c x ≡ true
  size : last_line c x ≡ c + length x

within_by : (e : Bool) (c : ℕ) (b : ℕ) (t : List ℕ) → nat_eq b 10 ≡ e → not e ≡ true → Within (c + 1) t → Within c (b ∷ t)
within_by true c b t h n w = absurd (false≢true n)
within_by false c b t h n w = record {
  ends = ap (λ e. cond e (nat_le c 1000 && ended 0 t) (ended (c + 1) t)) h ∙ w.ends;
  size = ap (λ e. cond e (last_line 0 t) (last_line (c + 1) t)) h ∙ w.size ∙ (omega arith);
}

within : (c : ℕ) (x : List ℕ) → no_feed x ≡ true → Within c x
within c [] h = record { ends = refl; size = omega arith }
within c (b ∷ t) h =
    let k = and_parts (not (nat_eq b 10)) (no_feed t) h in
    within_by (nat_eq b 10) c b t refl k.0 (within (c + 1) t k.1)

-- a text whose ended lines fit, and whose last one has no more bytes than this
pub record Fits (text : List ℕ) (n : ℕ) : Type 0 where
  pub ends : ended 0 text ≡ true
  pub size : last_line 0 text ≤ n

pub more : (text x : List ℕ) (m n : ℕ) → Fits text m → no_feed x ≡ true → m + length x ≤ n → Fits (text ++ x) n
more text x m n f h le =
    let w = within (last_line 0 text) x h in
    let a = last_append 0 text x in
    let b = f.size in
    record {
      ends = ended_append 0 text x ∙ ap (λ z. z && ended (last_line 0 text) x) f.ends ∙ w.ends;
      size = let c = w.size in omega arith;
    }

pub feed : (text x : List ℕ) (m n : ℕ) → Fits text m → m ≤ 1000 → no_feed x ≡ true → length x ≤ n → Fits (text ++ 10 ∷ x) n
feed text x m n f r h le =
    let w = within 0 x h in
    let b = f.size in
    let a = last_append 0 text (10 ∷ x) in
    record {
      ends = ended_append 0 text (10 ∷ x) ∙ ap (λ z. z && (nat_le (last_line 0 text) 1000 && ended 0 x)) f.ends
          ∙ and_from (nat_le (last_line 0 text) 1000) (ended 0 x) (le-leb (last_line 0 text) 1000 (omega arith)) w.ends;
      size = let c = w.size in omega arith;
    }
