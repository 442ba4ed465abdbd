-- Which row and which place in it a cell has.
use Rattle.std.proofs.Common.{◌≡◌, ℕ, suc, ◌+◌, ◌*◌, ◌-◌, ◌<◌, ◌≤◌, Bool, true, false, nat_eq, ◌&&◌, ◌||◌, List, [], ◌∷◌, get_or, inl, inr, refl, ap, sym, ◌∙◌, subst, arith}
use Rattle.std.proofs.lemmas.Bool.{eq-eqb, ne_eqb, cases_eq, cases_order, cases_Bool, eqb-true, or_cases}
use Rattle.std.proofs.lemmas.Nat.{mul-le}
use Rattle.order_theory.specs.Races.{Cell, touches_cell}
use Rattle.order_theory.specs.Marks.{Mark, any_clash}
use Rattle.race_watch.specs.Rows.{is_in, any_of}
use Rattle.race_watch.specs.RowCells.{row_cells}
use Rattle.race_watch.specs.Orders.{line_of}

row_more : (c n : ℕ) → suc c * n ≡ c * n + n
row_more c n = grind arith

row_le : (n c d : ℕ) → suc c ≤ d → suc c * n ≤ d * n
row_le n c d l = let k : n ≤ n = omega arith in mul-le (suc c) n d n l k

less_row : (n c d o p : ℕ) → c < d → o < n → c * n + o ≡ d * n + p → ⊥
less_row n c d o p l h e =
    let k : suc c ≤ d = omega arith in
    let m = row_le n c d k in
    let q = row_more c n in
    omega arith

line_coarray : (n c d o p : ℕ) → o < n → p < n → c * n + o ≡ d * n + p → c ≡ d
line_coarray n c d o p h k e =
    elim (cases_order c d) [
      | inl q ↦ q
      | inr w ↦ elim w [ inl l ↦ absurd (less_row n c d o p l h e) | inr l ↦ absurd (less_row n d c p o l k (sym e)) ]
    ]

-- the line tells owner and coarray
pub same_row : (n o c p d : ℕ) → 0 < o → o ≤ n → 0 < p → p ≤ n → (nat_eq o p && nat_eq c d) ≡ nat_eq (line_of n p d) (line_of n o c)
same_row n o c p d h k h' k' =
    elim (cases_eq (line_of n p d) (line_of n o c)) [
      | inl e ↦ (
          let w : d ≡ c = line_coarray n d c (p - 1) (o - 1) (omega arith) (omega arith) e in
          let z : d * n ≡ c * n = ap (λ x. x * n) w in
          let y : o ≡ p = omega arith in
          rw (eq-eqb o p y, eq-eqb c d (sym w), eq-eqb (line_of n p d) (line_of n o c) e) refl)
      | inr m ↦ elim (cases_eq o p) [
        | inl y ↦ elim (cases_eq c d) [
          | inl w ↦ absurd (m (ap (λ x. line_of n x d) (sym y) ∙ ap (line_of n o) (sym w)))
          | inr w ↦ rw (ne_eqb (line_of n p d) (line_of n o c) m, eq-eqb o p y, ne_eqb c d w) refl
        ]
        | inr y ↦ rw (ne_eqb (line_of n p d) (line_of n o c) m, ne_eqb o p y) refl
      ]
    ]

pub turned_round : (x y : ℕ) → nat_eq x y ≡ nat_eq y x
turned_round x y = elim (cases_eq x y) [ inl e ↦ rw (eq-eqb x y e, eq-eqb y x (sym e)) refl | inr m ↦ rw (ne_eqb x y m, ne_eqb y x (λ e. m (sym e))) refl ]

never : (b : Bool) → false ≡ (b && false)
never true = refl
never false = refl

either : (l x y : Bool) → ((l && x) || (l && y)) ≡ (l && (x || y))
either true x y = refl
either false x y = refl

pub touch_is : (n o c : ℕ) (d : Cell) (os : List ℕ) → 0 < o → o ≤ n → 0 < d.owner → d.owner ≤ n
    → touches_cell d (row_cells o c os) ≡ (nat_eq (line_of n d.owner d.coarray) (line_of n o c) && is_in d.offset os)
touch_is n o c d [] h k h' k' = never (nat_eq (line_of n d.owner d.coarray) (line_of n o c))
touch_is n o c d (x ∷ os) h k h' k' =
    ap (λ b. (b && nat_eq x d.offset) || touches_cell d (row_cells o c os)) (same_row n o c d.owner d.coarray h k h' k')
    ∙ ap (λ b. (nat_eq (line_of n d.owner d.coarray) (line_of n o c) && b) || touches_cell d (row_cells o c os)) (turned_round x d.offset)
    ∙ ap (λ b. (nat_eq (line_of n d.owner d.coarray) (line_of n o c) && nat_eq d.offset x) || b) (touch_is n o c d os h k h' k')
    ∙ either (nat_eq (line_of n d.owner d.coarray) (line_of n o c)) (nat_eq d.offset x) (is_in d.offset os)

-- one of the cells clashes
pub one_clashes : (c : ℕ → ℕ) (q : Mark) (row : List (List Mark)) (os : List ℕ) → any_of c q row os ≡ true → (o : ℕ) × (is_in o os ≡ true) × (any_clash c q (get_or row o []) ≡ true)
one_clashes c q row [] h = absurd (cc)
one_clashes c q row (x ∷ os) h = elim (or_cases (any_clash c q (get_or row x [])) (any_of c q row os) h) [
  | inl a ↦ (x, rw (eq-eqb x x refl) refl, a)
  | inr b ↦ (let z = one_clashes c q row os b in (z.0, (elim (cases_Bool (nat_eq z.0 x)) [ inl t ↦ rw t refl | inr f ↦ rw f z.1 ]), z.2))
]

-- or none does
pub none_clashes : (c : ℕ → ℕ) (q : Mark) (row : List (List Mark)) (os : List ℕ) → any_of c q row os ≡ false → (o : ℕ) → is_in o os ≡ true → any_clash c q (get_or row o []) ≡ false
none_clashes c q row [] h o w = absurd (cc)
none_clashes c q row (x ∷ os) h o w =
    elim (cases_Bool (any_clash c q (get_or row x []))) [
      | inl t ↦ absurd (let k = rw t at h in cc)
      | inr f ↦ elim (or_cases (nat_eq o x) (is_in o os) w) [
        | inl e ↦ subst (λ z. any_clash c q (get_or row z []) ≡ false) (sym (eqb-true o x e)) f
        | inr v ↦ none_clashes c q row os (rw f at h) o v
      ]
    ]
