-- The elements of an array constructor.
use Rattle.std.proofs.Common.{arith, ◌≡◌, refl, ap, sym, subst, ℕ, ◌+◌, ◌<◌, ℤ, Bool, true, false, nat_le, List, [], ◌∷◌, ◌++◌, length, leb-true, leb-false, append_assoc, append-nil, length-append}
use Rattle.image_acts.specs.Statuses.{most_cells, most_elements}
use Rattle.image_acts.specs.Acts as a
use Rattle.image_acts.specs.Acts.{Act, stack}
use Rattle.image_acts.specs.Core.{Core, Array, pushed, with_array, elements_in, row}
use Rattle.tree_meaning.specs.Sequences.{doing}
use Rattle.direct_meaning.specs.States.{State, with_state}
use Rattle.direct_meaning.specs.Outcomes.{Outcome, done, and_then, Does, giving, ◌▹◌}
use Rattle.direct_meaning.specs.Told.{told}
use Rattle.direct_meaning.specs.Values.{using}
use Rattle.direct_agreement.specs.Agreeing.{HasRoom}
use Rattle.direct_agreement.proofs.Agreement.{Kept, Comes, comes_map, elements_more}

-- elements behind those of an array that stands on top
abbrev pub put_elements : Core → List ℤ → List ℤ → State → Core
put_elements c ws vs z = with_array (row (ws ++ vs) (length (ws ++ vs))) (with_state z c)

abbrev pub so_far : Core → List ℤ → State → Core
so_far c ws z = with_array (row ws (length ws)) (with_state z c)

abbrev pub ElementsKept : ℕ → List ℤ → List ℤ → State → Type 0
ElementsKept n ws vs z = Kept (n + length (ws ++ vs)) z

-- the last element
pub items_end : (ws : List ℤ) (z : State) (c : Core) → Kept (c.used + length ws) z
    → Comes (put_elements c ws) (ElementsKept c.used ws) (done ([], z)) (done (so_far c ws z))
items_end ws z c k = (
  ap (λ vs. done (with_array (row vs (length vs)) (with_state z c))) (sym (append-nil ws)),
  subst
      (λ vs. Kept (c.used + length vs) z) (sym (append-nil ws)) k,
)

-- the others behind more elements
pub others : (ws us : List ℤ) (m : Outcome (List ℤ × State)) (c : Core) (o : Outcome Core)
    → Comes (put_elements c (ws ++ us)) (ElementsKept c.used (ws ++ us)) m o
    → Comes (put_elements c ws) (ElementsKept c.used ws) (and_then m (λ p. done (us ++ p.0, p.1))) o
others ws us m c o h =
    comes_map (put_elements c (ws ++ us)) (ElementsKept c.used (ws ++ us)) (put_elements c ws) (ElementsKept c.used ws) (λ vs. us ++ vs) m o
    h
    (λ vs s k. (
      ap (λ xs. with_array (row xs (length xs)) (with_state s c)) (append_assoc ws us vs),
      subst
          (λ xs. Kept (c.used + length xs) s) (append_assoc ws us vs) k,
    ))

-- one element takes its cell
one_by : (v : ℤ) (ws : List ℤ) (m : Does (List ℤ)) (q : Core → Outcome Core) (l : ℕ) (z : State) (c : Core) (b d : Bool) → HasRoom 0 c
    → Kept (c.used + length ws) z
    → nat_le (z.used + 1) most_cells ≡ b → nat_le (elements_in (so_far c ws z).arrays + 1) most_elements ≡ d
    → ((s : State) → Kept (c.used + length (ws ++ v ∷ [])) s
    → Comes (put_elements c (ws ++ v ∷ [])) (ElementsKept c.used (ws ++ v ∷ [])) (m l s) (q (so_far c (ws ++ v ∷ []) s)))
    → Comes (put_elements c ws) (ElementsKept c.used ws) ((using 1 ▹ (λ u. m ▹ (λ vs. giving (v ∷ vs)))) l z)
    (and_then (told (doing (stack a.take_cell ∷ stack a.append ∷ [])) l (pushed v (so_far c ws z))) q)
one_by v ws m q l z c true true r k e f more =
    let s : State = record z { used = z.used + 1 } in
    let n : length (ws ++ v ∷ []) ≡ length ws + 1 = length-append ws (v ∷ []) in
    rw (e, f) (others ws (v ∷ []) (m l s) c (q (so_far c (ws ++ v ∷ []) s)) (more s (omega (arith, n), leb-true (z.used + 1) most_cells e)))
one_by v ws m q l z c false d r k e f more = rw e refl
one_by v ws m q l z c true false r k e f more =
    let p : most_elements < elements_in (so_far c ws z).arrays + 1 = leb-false (elements_in (so_far c ws z).arrays + 1) most_elements f in
    let i : elements_in (so_far c ws z).arrays ≡ length ws + elements_in c.arrays = elements_more (row ws (length ws)) c.arrays in
    absurd (omega (arith, p, i, leb-true (z.used + 1) most_cells e, r.1))

pub one_item : (v : ℤ) (ws : List ℤ) (m : Does (List ℤ)) (q : Core → Outcome Core) (l : ℕ) (z : State) (c : Core) → HasRoom 0 c
    → Kept (c.used + length ws) z
    → ((s : State) → Kept (c.used + length (ws ++ v ∷ [])) s
    → Comes (put_elements c (ws ++ v ∷ [])) (ElementsKept c.used (ws ++ v ∷ [])) (m l s) (q (so_far c (ws ++ v ∷ []) s)))
    → Comes (put_elements c ws) (ElementsKept c.used ws) ((using 1 ▹ (λ u. m ▹ (λ vs. giving (v ∷ vs)))) l z)
    (and_then (told (doing (stack a.take_cell ∷ stack a.append ∷ [])) l (pushed v (so_far c ws z))) q)
one_item v ws m q l z c r k more = one_by v ws m q l z c (nat_le (z.used + 1) most_cells)
    (nat_le (elements_in (so_far c ws z).arrays + 1) most_elements) r k refl refl more

-- the elements of an array take theirs
several_by : (w : Array) (ws : List ℤ) (m : Does (List ℤ)) (q : Core → Outcome Core) (l : ℕ) (z : State) (c : Core) (b : Bool)
    → Kept (c.used + length ws) z → nat_le (z.used + length w.elements) most_cells ≡ b
    → ((s : State) → Kept (c.used + length (ws ++ w.elements)) s
    → Comes (put_elements c (ws ++ w.elements)) (ElementsKept c.used (ws ++ w.elements)) (m l s) (q (so_far c (ws ++ w.elements) s)))
    → Comes (put_elements c ws) (ElementsKept c.used ws) ((using (length w.elements) ▹ (λ u. m ▹ (λ vs. giving (w.elements ++ vs)))) l z)
    (and_then (told (doing (stack a.take_cells ∷ stack a.append_array ∷ [])) l (with_array w (so_far c ws z))) q)
several_by w ws m q l z c true k e more =
    let s : State = record z { used = z.used + length w.elements } in
    let n : length (ws ++ w.elements) ≡ length ws + length w.elements = length-append ws w.elements in
    rw e (others ws w.elements (m l s) c (q (so_far c (ws ++ w.elements) s))
    (more s (omega (arith, n), leb-true (z.used + length w.elements) most_cells e)))
several_by w ws m q l z c false k e more = rw e refl

pub several_items : (w : Array) (ws : List ℤ) (m : Does (List ℤ)) (q : Core → Outcome Core) (l : ℕ) (z : State) (c : Core)
    → Kept (c.used + length ws) z
    → ((s : State) → Kept (c.used + length (ws ++ w.elements)) s
    → Comes (put_elements c (ws ++ w.elements)) (ElementsKept c.used (ws ++ w.elements)) (m l s) (q (so_far c (ws ++ w.elements) s)))
    → Comes (put_elements c ws) (ElementsKept c.used ws) ((using (length w.elements) ▹ (λ u. m ▹ (λ vs. giving (w.elements ++ vs)))) l z)
    (and_then (told (doing (stack a.take_cells ∷ stack a.append_array ∷ [])) l (with_array w (so_far c ws z))) q)
several_items w ws m q l z c k more = several_by w ws m q l z c (nat_le (z.used + length w.elements) most_cells) k refl more
