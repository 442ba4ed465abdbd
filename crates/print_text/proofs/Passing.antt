-- Passes over a format, piece by piece.
use Rattle.std.proofs.Common.{◌≡◌, ◌∙◌, subst, ℕ, zero, suc, ◌+◌, ◌-◌, ◌<◌, ◌≤◌, ◌^◌, Bool, true, false, cond, List, [], ◌∷◌, ◌++◌, length, replicate, refl, sym, ap, arith, append_assoc}
use Rattle.std.proofs.lemmas.List.{append-nil, length-map}
use Rattle.std.specs.Prelude.{Option, Some, None, Result, Ok, Err, IfOk}
use Rattle.walk_theory.specs.Terms.{Found, found, at_fault, with_found}
use Rattle.image_acts.specs.Core as core
use Rattle.image_acts.specs.Faults.{format_fault}
use Rattle.image_acts.specs.Formats.{Descriptor, i_edit, l_edit, a_edit, x_edit, text_edit, Pass, wrong, ended, passed, pass, formatted, descriptors}
use Rattle.print_text.specs.declared.piece.DataKind.{DataKind}
use Rattle.print_text.specs.declared.piece.DataKind.TheVariants as kinds
use Rattle.print_text.specs.declared.piece.Piece.{Piece}
use Rattle.print_text.specs.declared.piece.Piece.TheVariants as pieces
use Rattle.print_text.specs.declared.item.Item.{Item}
use Rattle.print_text.specs.declared.item.Outcome.{Outcome}
use Rattle.print_text.specs.declared.item.Outcome.TheVariants.{Wrong, Ended, Left}
use Rattle.print_text.specs.declared.item.Portion.{Portion}
use Rattle.print_text.specs.declared.item.Portion.TheVariants as portions
use Rattle.print_text.specs.declared.items.Run.{Run}
use Rattle.print_text.specs.declared.items.Items.{Items}
use Rattle.print_text.specs.Items.{item_of, items_of, items_left, passes_left, literals_from, in_run, in_portions}
use Rattle.print_text.specs.Pieces.{IsNumeric, IsOnce, edit, kept, Means, Reads, characters}
use Rattle.print_text.specs.Passes.{values_ahead, is_literal, after, behind, bare, is_found, upon}

pub behind_behind : (a b : List ℕ) (p : Pass) → behind a (behind b p) ≡ behind (a ++ b) p
behind_behind a b wrong = refl
behind_behind a b (ended t) = ap ended (sym (append_assoc a b t))
behind_behind a b (passed t xs) = ap (λ (l : List ℕ). passed l xs) (sym (append_assoc a b t))

pub bare_behind : (a : List ℕ) (p : Pass) → bare (behind a p) ≡ bare p
bare_behind a wrong = refl
bare_behind a (ended t) = refl
bare_behind a (passed t xs) = refl

-- which items are left, and whether one is wrong, doesn't depend on the blanks
pub bare_skip : (ds : List Descriptor) (xs : List core.Item) (s t : ℕ) → bare (pass ds xs s) ≡ bare (pass ds xs t)
bare_skip [] xs s t = refl
bare_skip (x_edit n ∷ ds) xs s t = bare_skip ds xs (s + n) (t + n)
bare_skip (text_edit w ∷ ds) xs s t = bare_behind (replicate s 32 ++ w) (pass ds xs 0) ∙ sym (bare_behind (replicate t 32 ++ w) (pass ds xs 0))
bare_skip (i_edit w ∷ ds) [] s t = refl
bare_skip (i_edit w ∷ ds) (core.integer v ∷ xs) s t = bare_behind _ (pass ds xs 0) ∙ sym (bare_behind _ (pass ds xs 0))
bare_skip (i_edit w ∷ ds) (core.logical v ∷ xs) s t = refl
bare_skip (i_edit w ∷ ds) (core.literal v ∷ xs) s t = refl
bare_skip (l_edit w ∷ ds) [] s t = refl
bare_skip (l_edit w ∷ ds) (core.integer v ∷ xs) s t = refl
bare_skip (l_edit w ∷ ds) (core.logical v ∷ xs) s t = bare_behind _ (pass ds xs 0) ∙ sym (bare_behind _ (pass ds xs 0))
bare_skip (l_edit w ∷ ds) (core.literal v ∷ xs) s t = refl
bare_skip (a_edit ∷ ds) [] s t = refl
bare_skip (a_edit ∷ ds) (core.integer v ∷ xs) s t = refl
bare_skip (a_edit ∷ ds) (core.logical v ∷ xs) s t = refl
bare_skip (a_edit ∷ ds) (core.literal v ∷ xs) s t = bare_behind _ (pass ds xs 0) ∙ sym (bare_behind _ (pass ds xs 0))

-- where no item is left, output ends at a data edit descriptor
pub no_item : (k : DataKind) (w s : ℕ) (ds : List Descriptor) → pass (edit k w ∷ ds) [] s ≡ ended []
no_item kinds.Integer w s ds = refl
no_item kinds.Logical w s ds = refl
no_item kinds.Character w s ds = refl

-- one more of those that are left
pub one_of : (n taken : ℕ) (d : Descriptor) (ds : List Descriptor) → taken + 1 ≤ n → replicate (n - taken) d ++ ds ≡ d ∷ (replicate (n - (taken + 1)) d ++ ds)
one_of n taken d ds h =
    let e : n - taken ≡ suc (n - (taken + 1)) = omega arith in
    ap (λ (k : ℕ). replicate k d ++ ds) e

pub none_of : (n taken : ℕ) (d : Descriptor) (ds : List Descriptor) → n ≡ taken → replicate (n - taken) d ++ ds ≡ ds
none_of n taken d ds h =
    let e : n - taken ≡ 0 = omega arith in
    ap (λ (k : ℕ). replicate k d ++ ds) e

pub all_of : (n : ℕ) (d : Descriptor) (ds : List Descriptor) → replicate (n - 0) d ++ ds ≡ replicate n d ++ ds
all_of n d ds =
    let e : n - 0 ≡ n = omega arith in
    ap (λ (k : ℕ). replicate k d ++ ds) e

-- skipped places become blanks before a field
field_blanks : (k : DataKind) (w s : ℕ) (ds : List Descriptor) (x : core.Item) (xs : List core.Item)
    → pass (edit k w ∷ ds) (x ∷ xs) s ≡ behind (replicate s 32) (pass (edit k w ∷ ds) (x ∷ xs) 0)
field_blanks kinds.Integer w s ds (core.integer v) xs = sym (behind_behind (replicate s 32) _ (pass ds xs 0))
field_blanks kinds.Integer w s ds (core.logical v) xs = refl
field_blanks kinds.Integer w s ds (core.literal v) xs = refl
field_blanks kinds.Logical w s ds (core.integer v) xs = refl
field_blanks kinds.Logical w s ds (core.logical v) xs = sym (behind_behind (replicate s 32) _ (pass ds xs 0))
field_blanks kinds.Logical w s ds (core.literal v) xs = refl
field_blanks kinds.Character w s ds (core.integer v) xs = refl
field_blanks kinds.Character w s ds (core.logical v) xs = refl
field_blanks kinds.Character w s ds (core.literal v) xs = sym (behind_behind (replicate s 32) _ (pass ds xs 0))

pub fields_blanks : (n : ℕ) (k : DataKind) (w s : ℕ) (ds : List Descriptor) (x : core.Item) (xs : List core.Item) → 0 < n
    → pass (replicate n (edit k w) ++ ds) (x ∷ xs) s ≡ behind (replicate s 32) (pass (replicate n (edit k w) ++ ds) (x ∷ xs) 0)
fields_blanks zero k w s ds x xs h = absurd (omega arith)
fields_blanks (suc n) k w s ds x xs h = field_blanks k w s (replicate n (edit k w) ++ ds) x xs

pub fields_none : (n : ℕ) (k : DataKind) (w s : ℕ) (ds : List Descriptor) → 0 < n → pass (replicate n (edit k w) ++ ds) [] s ≡ ended []
fields_none zero k w s ds h = absurd (omega arith)
fields_none (suc n) k w s ds h = no_item k w s (replicate n (edit k w) ++ ds)

-- a piece that takes no item
pub no_data : (p : Piece) (ds more : List Descriptor) (xs : List core.Item) (s : ℕ) → ((k : DataKind) (n w : ℕ) → p ≡ pieces.Data k n w → ⊥) → Means p ds
    → bare (pass (ds ++ more) xs s) ≡ bare (pass more xs 0)
no_data (pieces.Data k n w) ds more xs s h m = absurd (h k n w refl)
no_data (pieces.Skip n) ds more xs s h m = ap (λ (l : List Descriptor). bare (pass (l ++ more) xs s)) m.2 ∙ bare_skip more xs (s + m.0) 0
no_data (pieces.Literal q w) ds more xs s h m = ap (λ (l : List Descriptor). bare (pass (l ++ more) xs s)) m ∙ bare_behind (replicate s 32 ++ characters q w.now) (pass more xs 0)

pub none_left : {X : Type 0} (l : List X) → length l ≡ 0 → l ≡ []
none_left [] h = refl
none_left (x ∷ l) h = absurd (omega arith)

-- a data edit descriptor that is read, and what comes of it
pub data_turn : (texts : List (List ℕ)) (p : Piece) (k : DataKind) (times width : ℕ) (text rest : List ℕ) (items : List Item) (o : Outcome) → Reads text p rest → p ≡ pieces.Data k times width
    → ((n w s : ℕ) (ds : List Descriptor) → times ≡ kept n → IsOnce k n → bare (pass (replicate n (edit k w) ++ ds) (items_of texts items) s) ≡ bare (after texts [] o (λ xs. pass ds xs 0)))
    → bare (pass (descriptors text) (items_of texts items) 0) ≡ bare (after texts [] o (λ xs. pass (descriptors rest) xs 0))
data_turn texts p k times width text rest items o r e h =
    let m : Means (pieces.Data k times width) r.0 = subst (λ (q : Piece). Means q r.0) e r.1 in
    ap (λ (l : List Descriptor). bare (pass l (items_of texts items) 0)) (r.2 ∙ ap (λ (l : List Descriptor). l ++ descriptors rest) m.5)
    ∙ h m.0 m.1 0 (descriptors rest) m.3 m.6

pub not_left : (texts : List (List ℕ)) (text : List ℕ) (o : Outcome) (f g : List core.Item → Pass) → ((items : _) → o ≡ Left items → ⊥) → after texts text o f ≡ after texts text o g
not_left texts text Wrong f g h = refl
not_left texts text Ended f g h = refl
not_left texts text (Left items) f g h = absurd (h items refl)

-- A descriptor that is there many times takes values, of which there are as few as portions: so its count is exact,
-- though it is kept in 64 bits.
from_literal : (n more : ℕ) (xs : List Item) → values_ahead (literals_from n more ++ xs) ≡ 0
from_literal n zero xs = refl
from_literal n (suc more) xs = refl

values_few : (ps : List Portion) → values_ahead (in_portions ps) ≤ length ps
values_few [] = omega arith
values_few (portions.Integer v ∷ ps) = (let h = values_few ps in omega arith)
values_few (portions.Logical b ∷ ps) = (let h = values_few ps in omega arith)
values_few (portions.Literals n more ∷ ps) = (let h = from_literal n more (in_portions ps) in omega arith)

run_few : (r : Option Run) (ps : List Portion) → values_ahead (in_run r ++ in_portions ps) ≤ length ps
run_few None ps = values_few ps
run_few (Some r) ps = (let h = from_literal (r.first + r.gone) (r.more - r.gone) (in_portions ps) in omega arith)

pub left_few : (x : Items) → values_ahead (items_left x) ≤ length x.portions.now
left_few x = run_few x.run x.portions.now

pub one_ahead : (x : Item) (xs : List Item) → is_literal x ≡ false → values_ahead (x ∷ xs) ≡ suc (values_ahead xs)
one_ahead x xs e = ap (λ (b : Bool). cond b 0 (suc (values_ahead xs))) e

pub all_taken : (k : DataKind) (n times taken ahead all few : ℕ) → times ≡ kept n → IsOnce k n → taken ≡ times → (IsNumeric k → taken + ahead ≡ all) → all ≤ few → few < 2 ^ 64 - 1 → n ≡ taken
all_taken kinds.Integer n times taken ahead all few e o t g a f = (let i = g tt in omega arith)
all_taken kinds.Logical n times taken ahead all few e o t g a f = (let i = g tt in omega arith)
all_taken kinds.Character n times taken ahead all few e o t g a f = omega arith

-- fields behind places that were skipped
module _ (texts : List (List ℕ)) (out : List ℕ) (items : List Item) (n : ℕ) (k : DataKind) (w s : ℕ) (ds : List Descriptor) (h : 0 < n) where
  pub data_none : length items ≡ 0 → behind out (pass (replicate n (edit k w) ++ ds) (items_of texts items) s) ≡ ended out
  data_none e =
      ap (λ (l : List Item). behind out (pass (replicate n (edit k w) ++ ds) (items_of texts l) s)) (none_left items e)
      ∙ ap (behind out) (fields_none n k w s ds h)
      ∙ ap ended (append-nil out)

pub data_blanks : (texts : List (List ℕ)) (out new : List ℕ) (items : List Item) (n : ℕ) (k : DataKind) (w s : ℕ) (ds : List Descriptor) → 0 < n → 0 < length items → new ≡ out ++ replicate s 32
    → behind out (pass (replicate n (edit k w) ++ ds) (items_of texts items) s) ≡ behind new (pass (replicate n (edit k w) ++ ds) (items_of texts items) 0)
data_blanks texts out new [] n k w s ds h g e = absurd (omega arith)
data_blanks texts out new (x ∷ xs) n k w s ds h g e =
    ap (behind out) (fields_blanks n k w s ds (item_of texts x) (items_of texts xs) h)
    ∙ behind_behind out (replicate s 32) (pass (replicate n (edit k w) ++ ds) (items_of texts (x ∷ xs)) 0)
    ∙ ap (λ (l : List ℕ). behind l (pass (replicate n (edit k w) ++ ds) (items_of texts (x ∷ xs)) 0)) (sym e)

pub if_ok : {X E : Type 0} (P Q : X → Type 0) (r : Result X E) → ((x : X) → P x → Q x) → IfOk r P → IfOk r Q
if_ok P Q (Ok x) f h = f x h
if_ok P Q (Err e) f h = h

-- places that are skipped, and a literal
pub skip_turn : (p : Piece) (places : ℕ) (text rest : List ℕ) (xs : List core.Item) (s : ℕ) → Reads text p rest → p ≡ pieces.Skip places
    → (n : ℕ) × (places ≡ kept n) × (pass (descriptors text) xs s ≡ pass (descriptors rest) xs (s + n))
skip_turn p places text rest xs s r e =
    let m : Means (pieces.Skip places) r.0 = subst (λ (q : Piece). Means q r.0) e r.1 in
    (m.0, m.1, ap (λ (l : List Descriptor). pass l xs s) (r.2 ∙ ap (λ (l : List Descriptor). l ++ descriptors rest) m.2))

pub literal_turn : (p : Piece) (q : ℕ) (inside : _) (text rest : List ℕ) (xs : List core.Item) (s : ℕ) → Reads text p rest → p ≡ pieces.Literal q inside
    → pass (descriptors text) xs s ≡ behind (replicate s 32 ++ characters q inside.now) (pass (descriptors rest) xs 0)
literal_turn p q inside text rest xs s r e =
    let m : Means (pieces.Literal q inside) r.0 = subst (λ (x : Piece). Means x r.0) e r.1 in
    ap (λ (l : List Descriptor). pass l xs s) (r.2 ∙ ap (λ (l : List Descriptor). l ++ descriptors rest) m)

-- passes, one after another
abbrev after_pass : (List core.Item → Found (List ℕ)) → Pass → Found (List ℕ)
after_pass next wrong = at_fault format_fault
after_pass next (ended text) = found text
after_pass next (passed text []) = found text
after_pass next (passed text (x ∷ xs)) = with_found (next (x ∷ xs)) (λ more. found (text ++ (10 ∷ more)))

abbrev pub passes : ℕ → List Descriptor → List core.Item → Found (List ℕ)
passes zero ds items = found []
passes (suc most) ds items = after_pass (passes most ds) (pass ds items 0)

pub one_pass : (n : ℕ) (ds : List Descriptor) (xs : List core.Item) → 0 < n → passes n ds xs ≡ after_pass (passes (n - 1) ds) (pass ds xs 0)
one_pass zero ds xs h = absurd (omega arith)
one_pass (suc n) ds xs h =
    let e : n ≡ suc n - 1 = omega arith in
    ap (λ (k : ℕ). after_pass (passes k ds) (pass ds xs 0)) e

is_found_on : (text : List ℕ) (f : Found (List ℕ)) → is_found (with_found f (λ more. found (text ++ (10 ∷ more)))) ≡ is_found f
is_found_on text (found more) = refl
is_found_on text (at_fault k) = refl

module _ (next : List core.Item → Found (List ℕ)) where
  judged_wrong : (p : Pass) → bare p ≡ wrong → is_found (after_pass next p) ≡ false
  judged_wrong wrong e = refl
  judged_wrong (ended t) e = absurd (cc)
  judged_wrong (passed t xs) e = absurd (cc)

  judged_ended : (p : Pass) → bare p ≡ ended [] → is_found (after_pass next p) ≡ true
  judged_ended wrong e = absurd (cc)
  judged_ended (ended t) e = refl
  judged_ended (passed t xs) e = absurd (cc)

  judged_done : (p : Pass) → bare p ≡ passed [] [] → is_found (after_pass next p) ≡ true
  judged_done wrong e = absurd (cc)
  judged_done (ended t) e = absurd (cc)
  judged_done (passed t []) e = refl
  judged_done (passed t (x ∷ xs)) e = absurd (cc)

  judged_more : (p : Pass) (y : core.Item) (ys : List core.Item) → bare p ≡ passed [] (y ∷ ys) → is_found (after_pass next p) ≡ is_found (next (y ∷ ys))
  judged_more wrong y ys e = absurd (cc)
  judged_more (ended t) y ys e = absurd (cc)
  judged_more (passed t []) y ys e = absurd (cc)
  judged_more (passed t (x ∷ xs)) y ys e =
      let f : x ∷ xs ≡ y ∷ ys = cc in
      is_found_on t (next (x ∷ xs)) ∙ ap (λ (l : List core.Item). is_found (next l)) f

  upon_done : (out made : List ℕ) (p : Pass) → behind out p ≡ passed made [] → upon out (after_pass next p) ≡ found made
  upon_done out made wrong e = absurd (cc)
  upon_done out made (ended t) e = absurd (cc)
  upon_done out made (passed t []) e = let f : out ++ t ≡ made = cc in ap found f
  upon_done out made (passed t (x ∷ xs)) e = absurd (cc)

  upon_further : (out text : List ℕ) (f : Found (List ℕ)) → upon out (with_found f (λ more. found (text ++ (10 ∷ more)))) ≡ upon ((out ++ text) ++ 10 ∷ []) f
  upon_further out text (found more) = ap found (sym (append_assoc out text (10 ∷ more)) ∙ sym (append_assoc (out ++ text) (10 ∷ []) more))
  upon_further out text (at_fault k) = refl

  upon_more : (out made : List ℕ) (p : Pass) (y : core.Item) (ys : List core.Item) → behind out p ≡ passed made (y ∷ ys)
      → upon out (after_pass next p) ≡ upon (made ++ 10 ∷ []) (next (y ∷ ys))
  upon_more out made wrong y ys e = absurd (cc)
  upon_more out made (ended t) y ys e = absurd (cc)
  upon_more out made (passed t []) y ys e = absurd (cc)
  upon_more out made (passed t (x ∷ xs)) y ys e =
      let f : x ∷ xs ≡ y ∷ ys = cc in
      let g : out ++ t ≡ made = cc in
      upon_further out t (next (x ∷ xs)) ∙ ap (λ (l : List core.Item). upon ((out ++ t) ++ 10 ∷ []) (next l)) f ∙ ap (λ (l : List ℕ). upon (l ++ 10 ∷ []) (next (y ∷ ys))) g

-- one turn of the passes
module _ (n : ℕ) (ds : List Descriptor) (xs : List core.Item) (some : 0 < n) where
  pub turn_wrong : bare (pass ds xs 0) ≡ wrong → is_found (passes n ds xs) ≡ false
  turn_wrong e = ap is_found (one_pass n ds xs some) ∙ judged_wrong (passes (n - 1) ds) (pass ds xs 0) e

  pub turn_ended : bare (pass ds xs 0) ≡ ended [] → is_found (passes n ds xs) ≡ true
  turn_ended e = ap is_found (one_pass n ds xs some) ∙ judged_ended (passes (n - 1) ds) (pass ds xs 0) e

  pub turn_done : (ys : List core.Item) → length ys ≡ 0 → bare (pass ds xs 0) ≡ passed [] ys → is_found (passes n ds xs) ≡ true
  turn_done [] h e = ap is_found (one_pass n ds xs some) ∙ judged_done (passes (n - 1) ds) (pass ds xs 0) e
  turn_done (y ∷ ys) h e = absurd (omega arith)

  pub turn_more : (ys : List core.Item) → 0 < length ys → bare (pass ds xs 0) ≡ passed [] ys → is_found (passes n ds xs) ≡ is_found (passes (n - 1) ds ys)
  turn_more [] h e = absurd (omega arith)
  turn_more (y ∷ ys) h e = ap is_found (one_pass n ds xs some) ∙ judged_more (passes (n - 1) ds) (pass ds xs 0) y ys e

  pub text_done : (out made : List ℕ) (ys : List core.Item) → length ys ≡ 0 → behind out (pass ds xs 0) ≡ passed (made ++ []) ys → upon out (passes n ds xs) ≡ found made
  text_done out made [] h e =
      ap (upon out) (one_pass n ds xs some) ∙ upon_done (passes (n - 1) ds) out made (pass ds xs 0) (e ∙ ap (λ (l : List ℕ). passed l []) (append-nil made))
  text_done out made (y ∷ ys) h e = absurd (omega arith)

  pub text_more : (out made : List ℕ) (ys : List core.Item) → 0 < length ys → behind out (pass ds xs 0) ≡ passed (made ++ []) ys
      → upon out (passes n ds xs) ≡ upon (made ++ 10 ∷ []) (passes (n - 1) ds ys)
  text_more out made [] h e = absurd (omega arith)
  text_more out made (y ∷ ys) h e =
      ap (upon out) (one_pass n ds xs some)
      ∙ upon_more (passes (n - 1) ds) out made (pass ds xs 0) y ys (e ∙ ap (λ (l : List ℕ). passed l (y ∷ ys)) (append-nil made))

-- a pass less may come behind one
module _ (p : Option Items) (x : Items) (e : p ≡ Some x) where
  pub has_pass : 0 < passes_left p
  has_pass = (let f = ap passes_left e in omega arith)

  pub fewer_passes : (q : Option Items) → passes_left q ≡ length (items_left x) → passes_left p - 1 ≡ passes_left q
  fewer_passes q h = (let f = ap passes_left e in omega arith)

pub no_pass : (p : Option Items) → p ≡ None → passes_left p ≡ 0
no_pass p e = ap passes_left e

pub first_passes : (texts : List (List ℕ)) (x : Items) → passes_left (Some x) ≡ length (items_of texts (items_left x)) + 1
first_passes texts x = (let l = length-map (items_left x) (item_of texts) in omega arith)

-- a format's one fault
fault_only : (next : List core.Item → Found (List ℕ)) → ((ys : List core.Item) → is_found (next ys) ≡ false → next ys ≡ at_fault format_fault) → (p : Pass)
    → is_found (after_pass next p) ≡ false → after_pass next p ≡ at_fault format_fault
fault_only next f wrong h = refl
fault_only next f (ended t) h = absurd (cc)
fault_only next f (passed t []) h = absurd (cc)
fault_only next f (passed t (x ∷ xs)) h =
    ap (λ (g : Found (List ℕ)). with_found g (λ more. found (t ++ (10 ∷ more)))) (f (x ∷ xs) (sym (is_found_on t (next (x ∷ xs))) ∙ h))

passes_fault : (n : ℕ) (ds : List Descriptor) (xs : List core.Item) → is_found (passes n ds xs) ≡ false → passes n ds xs ≡ at_fault format_fault
passes_fault zero ds xs h = absurd (cc)
passes_fault (suc n) ds xs h = fault_only (passes n ds) (λ ys g. passes_fault n ds ys g) (pass ds xs 0) h

pub format_faults : (format : List ℕ) (xs : List core.Item) → is_found (formatted format xs) ≡ false → formatted format xs ≡ at_fault format_fault
format_faults format xs h = passes_fault (length xs + 1) (descriptors format) xs h
