-- The acts of a PRINT say the text of its items.
use Rattle.std.proofs.Common.{arith, ◌≡◌, refl, ap, sym, subst, ◌∙◌, ℕ, zero, suc, ◌+◌, ◌≤◌, ◌<◌, ℤ, Bool, true, false, cond, nat_le, nat_eq, List, [], ◌∷◌, ◌++◌, length, map, reverse, fold, Option, None, Some, leb-true, leb-false, append_assoc, append-nil, length-append, zero-add, le_refl}
use Rattle.std.proofs.lemmas.List.{length-map, length-reverse}
use Rattle.caf_base.specs.declared.value.Kind.{Kind}
use Rattle.caf_base.specs.declared.value.Kind.TheVariants as kinds
use Rattle.caf_base.specs.Arithmetic.{is_true}
use Rattle.caf_events.specs.declared.ask.Ask.TheVariants as asked
use Rattle.walk_theory.specs.Syntax.{end_parts}
use Rattle.walk_theory.specs.Terms.{Found, found, at_fault}
use Rattle.walk_theory.specs.Language.{goes_to, faults as faulting, asking as asking_act}
use Rattle.checked_tree.specs.Statements as s
use Rattle.image_acts.specs.Statuses.{most_cells, most_portions}
use Rattle.image_acts.specs.Faults.{room}
use Rattle.image_acts.specs.Formats.{listed, formatted}
use Rattle.image_acts.specs.Acts as a
use Rattle.image_acts.specs.Acts.{Act, print, ask}
use Rattle.image_acts.specs.Core.{Core, Array, Item, Portion, Printing, integer, logical, literal, literals, pushed, with_array}
use Rattle.image_acts.specs.Core as cores
use Rattle.image_acts.specs.Taking.{found_in}
use Rattle.image_acts.specs.Operate.Printing.{spread, with_values_behind, with_literal_behind, open_portions}
use Rattle.image_acts.specs.Operate.Printing as acted
use Rattle.image_acts.specs.Meaning.{settled}
use Rattle.image_acts.proofs.Portions.{literal_printed, values_printed}
use Rattle.tree_meaning.specs.Environment.{Environment, literal_text}
use Rattle.tree_meaning.specs.Sequences.{doing}
use Rattle.tree_meaning.specs.Expressions.{expression}
use Rattle.tree_meaning.specs.Assignments as acts
use Rattle.tree_meaning.specs.Assignments.{kind_in, rank_in}
use Rattle.direct_meaning.specs.States.{State, state_of, with_state}
use Rattle.direct_meaning.specs.Outcomes.{Outcome, done, and_then, Does, giving, ◌▹◌, asking, of_found}
use Rattle.direct_meaning.specs.Told.{of_effect, told}
use Rattle.direct_meaning.specs.Values.{Value, number, array}
use Rattle.direct_meaning.specs.Expressions.{Passed, value}
use Rattle.direct_meaning.specs.Statements.{item_of, items_of, items, text_of, output, of_rank, ranked}
use Rattle.direct_agreement.specs.Agreeing.{put_down, HasRoom}
use Rattle.direct_agreement.proofs.Agreement.{Kept, Leaves, Comes, comes_agrees, comes_then, apart, said_apart, act_first, kept_more, room_beside}
use Rattle.direct_agreement.proofs.Inquiries.{fewer}
use Rattle.direct_agreement.proofs.Scalars.{Keeps}
use Rattle.direct_laws.proofs.Values.{value_comes}
use Rattle.direct_statements.specs.Laws.{put_nothing}
use Rattle.direct_output.specs.Laws.{literals_in, AreItems, HasLines, PrintLaw}

-- a text that was begun, over what was there
abbrev text_over : Core → Option (List ℕ) → List Portion → State → Core
text_over c f ps z = record (with_state z c) { printing = record { format = f; portions = ps } ∷ c.printing }

-- the portions of one text more
sums_from : (n : ℕ) (xs : List Printing) → fold (λ k x. k + length x.portions) n xs ≡ n + open_portions xs
sums_from n [] = omega arith
sums_from n (x ∷ xs) =
    let m : ℕ = length x.portions in
    let e : (n + m) + open_portions xs ≡ n + ((0 + m) + open_portions xs) = omega arith in
    sums_from (n + m) xs ∙ e ∙ ap (λ k. n + k) (sym (sums_from (0 + m) xs))

open_more : (x : Printing) (xs : List Printing) → open_portions (x ∷ xs) ≡ length x.portions + open_portions xs
open_more x xs = sums_from (0 + length x.portions) xs ∙ ap (λ n. n + open_portions xs) (zero-add (length x.portions))

-- there is room for them: those of values have their evaluation cells
abbrev Room : Core → List Portion → ℕ → State → Type 0
Room c ps m z = length ps + (open_portions c.printing + m) ≤ z.used + 65793

-- a text with more portions, where there is room
renewed_by : {X : Type 0} (lay : X → State → Core) (P : X → State → Type 0) (c : Core) (f : Option (List ℕ)) (ps : List Portion) (b : Bool)
    (m : Outcome (X × State)) (A : Act) (l : ℕ) (z : State) (d : Core) (q : Core → Outcome Core)
    → nat_le (open_portions (record { format = f; portions = ps } ∷ c.printing)) most_portions ≡ b → Room c ps 0 z → z.used ≤ most_cells
    → Comes lay P m (q (text_over c f ps z))
    → Comes lay P m (and_then (of_effect l d (settled A (cond b (goes_to (text_over c f ps z)) (faulting room)))) q)
renewed_by lay P c f ps true m A l z d q e r u h = h
renewed_by lay P c f ps false m A l z d q e r u h =
    let i : most_portions < open_portions (record { format = f; portions = ps } ∷ c.printing) = leb-false
    (open_portions (record { format = f; portions = ps } ∷ c.printing)) most_portions e in
    let j : open_portions (record { format = f; portions = ps } ∷ c.printing) ≡ length ps + open_portions c.printing = open_more
    (record { format = f; portions = ps }) c.printing in
    absurd (omega (arith, i, j, r, u))

renewed_comes : {X : Type 0} (lay : X → State → Core) (P : X → State → Type 0) (c : Core) (f : Option (List ℕ)) (ps : List Portion)
    (m : Outcome (X × State)) (A : Act) (l : ℕ) (z : State) (d : Core) (q : Core → Outcome Core)
    → Room c ps 0 z → z.used ≤ most_cells → Comes lay P m (q (text_over c f ps z))
    → Comes lay P m (and_then (of_effect l d (settled A
    (cond (nat_le (open_portions (record { format = f; portions = ps } ∷ c.printing)) most_portions) (goes_to (text_over c f ps z))
    (faulting room)))) q)
renewed_comes lay P c f ps m A l z d q r u h = renewed_by lay P c f ps
    (nat_le (open_portions (record { format = f; portions = ps } ∷ c.printing)) most_portions) m A l z d q refl r u h

-- a literal takes a portion at most
one_by : (b : Bool) (n m : ℕ) (text : List ℕ) (back : List (List ℕ)) (ps : List Portion)
    → length (cond b (literals n (text ∷ back) ∷ ps) (literals n (text ∷ []) ∷ literals m back ∷ ps)) ≤ suc (length (literals m back ∷ ps))
one_by true n m text back ps = omega arith
one_by false n m text back ps = omega arith

one_at_most : (n : ℕ) (text : List ℕ) (ps : List Portion) → length (with_literal_behind n text ps) ≤ suc (length ps)
one_at_most n text [] = omega arith
one_at_most n text (cores.value x ∷ ps) = omega arith
one_at_most n text (literals m back ∷ ps) = one_by (nat_eq n (m + 1)) n m text back ps

as_many : (xs : List Item) (ps : List Portion) → length (with_values_behind xs ps) ≡ length xs + length ps
as_many xs ps = length-append (reverse (map cores.value xs)) ps ∙ ap (λ n. n + length ps)
    (length-reverse (map cores.value xs) ∙ length-map xs cores.value)

-- these portions are the items so far, and those
abbrev Spreads : List Portion → List Item → List Portion → Type 0
Spreads ps is qs = spread (reverse qs) ≡ spread (reverse ps) ++ is

spreads_more : (ps qs ss : List Portion) (is js : List Item) → Spreads ps is qs → Spreads qs js ss → Spreads ps (is ++ js) ss
spreads_more ps qs ss is js h k = k ∙ ap (λ xs. xs ++ js) h ∙ append_assoc (spread (reverse ps)) is js

module _ (limit : ℕ) (e : Environment) (calls : ℕ → List Passed → Does Value) {X : Type 0} (lay : X → State → Core) (P : X → State → Type 0)
    (c : Core) (f : Option (List ℕ)) (room64 : HasRoom 64 c) where
  -- what is made of all items, and what comes behind them
  abbrev Goes : List Portion → (List Item → Does X) → (Core → Outcome Core) → ℕ → Type 0
  Goes ps F q l = (qs : List Portion) (is : List Item) (y : State) → Spreads ps is qs → Kept c.used y
      → Comes lay P (F is l y) (q (text_over c f qs y))

  abbrev Says : List s.Item → List Portion → (List Item → Does X) → (Core → Outcome Core) → ℕ → State → Type 0
  Says xs ps F q l z = Comes lay P ((items limit e calls xs ▹ F) l z) (and_then (told (acts.items e xs) l (text_over c f ps z)) q)

  abbrev after : List s.Item → List Item → Does (List Item)
  after xs i = items limit e calls xs ▹ (λ is. giving (i ++ is))

  -- these items, and then the others
  behind_items : (xs : List s.Item) (i : List Item) (ps qs : List Portion) (F : List Item → Does X) (q : Core → Outcome Core) (l : ℕ)
      (y : State) → Spreads ps i qs → Goes ps F q l
      → (Goes qs (λ is. F (i ++ is)) q l → Says xs qs (λ is. F (i ++ is)) q l y)
      → Comes lay P ((after xs i ▹ F) l y) (and_then (told (acts.items e xs) l (text_over c f qs y)) q)
  behind_items xs i ps qs F q l y h goes more =
      said_apart lay P (items limit e calls xs l y) (λ p. giving (i ++ p.0) l p.1) (λ p. F p.0 l p.1)
      (and_then (told (acts.items e xs) l (text_over c f qs y)) q)
      (more (λ ss is z k b. goes ss (i ++ is) z (spreads_more ps qs ss i is h k) b))

  -- a number takes its cell
  number_by : (b : Bool) (k : Kind) (v : ℤ) (x : Item) (xs : List s.Item) (A : Act) (ps : List Portion) (F : List Item → Does X)
      (q : Core → Outcome Core) (l : ℕ) (z y : State) → nat_le (y.used + 1) most_cells ≡ b
      → item_of k v ≡ x → Kept c.used y → Room c ps (literals_in xs) y → Goes ps F q l
      → ((qs : List Portion) (w : State) → Kept c.used w → Room c qs (literals_in xs) w → Goes qs (λ is. F (x ∷ is)) q l
      → Says xs qs (λ is. F (x ∷ is)) q l w)
      → Comes lay P (((items_of k (number v) ▹ after xs) ▹ F) l y)
      (and_then (of_effect l (pushed v (text_over c f ps y)) (settled A (cond (nat_le (y.used + 1) most_cells)
      (cond (nat_le (open_portions (record { format = f; portions = with_values_behind (x ∷ []) ps } ∷ c.printing)) most_portions)
      (goes_to (text_over c f (with_values_behind (x ∷ []) ps) (record y { used = y.used + 1 }))) (faulting room)) (faulting room))))
      (λ d. and_then (told (acts.items e xs) l d) q))
  number_by false k v x xs A ps F q l z y t i h r goes more = rw t refl
  number_by true k v x xs A ps F q l z y t i h r goes more =
      let w : State = record y { used = y.used + 1 } in
      let qs : List Portion = with_values_behind (x ∷ []) ps in
      let m : Room c qs (literals_in xs) w = omega (arith, as_many (x ∷ []) ps, r) in
      let n : Room c qs 0 w = omega (arith, as_many (x ∷ []) ps, r) in
      let g : Kept c.used w = (omega (arith, h.0), leb-true (y.used + 1) most_cells t) in
      rw (t, i) (renewed_comes lay P c f qs ((after xs (x ∷ []) ▹ F) l w) A l w (pushed v (text_over c f ps y))
      (λ d. and_then (told (acts.items e xs) l d) q) n g.1
      (behind_items xs (x ∷ []) ps qs F q l w (values_printed (x ∷ []) ps) goes (λ o. more qs w g m o)))

  -- an array's elements have theirs
  array_comes : (k : Kind) (w : Array) (is : List Item) (xs : List s.Item) (A : Act) (ps : List Portion) (F : List Item → Does X)
      (q : Core → Outcome Core) (l : ℕ) (z y : State) → map (item_of k) w.elements ≡ is → Kept (z.used + length w.elements) y
      → Kept c.used z
      → Room c ps (literals_in xs) z → Goes ps F q l
      → ((qs : List Portion) (u : State) → Kept c.used u → Room c qs (literals_in xs) u → Goes qs (λ js. F (is ++ js)) q l
      → Says xs qs (λ js. F (is ++ js)) q l u)
      → Comes lay P (((items_of k (array w) ▹ after xs) ▹ F) l y) (and_then (of_effect l (with_array w (text_over c f ps y)) (settled A
      (cond (nat_le (open_portions (record { format = f; portions = with_values_behind is ps } ∷ c.printing)) most_portions)
      (goes_to (text_over c f (with_values_behind is ps) y)) (faulting room))))
      (λ d. and_then (told (acts.items e xs) l d) q))
  array_comes k w is xs A ps F q l z y i h g r goes more =
      let qs : List Portion = with_values_behind is ps in
      let j : length is ≡ length w.elements = ap length (sym i) ∙ length-map w.elements (item_of k) in
      let m : Room c qs (literals_in xs) y = omega (arith, as_many is ps, j, r, h.0) in
      let n : Room c qs 0 y = omega (arith, as_many is ps, j, r, h.0) in
      let b : Kept c.used y = kept_more c.used z y g (fewer z.used (length w.elements) y h) in
      subst (λ js. Comes lay P ((after xs js ▹ F) l y) (and_then (of_effect l (with_array w (text_over c f ps y)) (settled A
      (cond (nat_le (open_portions (record { format = f; portions = qs } ∷ c.printing)) most_portions) (goes_to (text_over c f qs y))
      (faulting room)))) (λ d. and_then (told (acts.items e xs) l d) q))) (sym i)
      (renewed_comes lay P c f qs ((after xs is ▹ F) l y) A l y (with_array w (text_over c f ps y))
      (λ d. and_then (told (acts.items e xs) l d) q) n b.1
      (behind_items xs is ps qs F q l y (values_printed is ps) goes (λ o. more qs y b m o)))

  -- a value of its expression's rank
  value_printed : (k : Kind) (r : ℕ) (v : Value) (xs : List s.Item) (ps : List Portion) (F : List Item → Does X) (q : Core → Outcome Core)
      (l : ℕ) (z y : State) → Leaves z.used v y → Kept c.used z → Room c ps (literals_in xs) z → Goes ps F q l
      → ((is : List Item) (qs : List Portion) (u : State) → Kept c.used u → Room c qs (literals_in xs) u → Goes qs (λ js. F (is ++ js)) q l
      → Says xs qs (λ js. F (is ++ js)) q l u)
      → Comes lay P (and_then (of_rank r v l y) (λ p. and_then ((items_of k p.0 ▹ after xs) l p.1) (λ w. F w.0 l w.1)))
      (and_then (told (acts.printed e k r) l (put_down (text_over c f ps z) v y)) (λ d. and_then (told (acts.items e xs) l d) q))
  value_printed k zero (array w) xs ps F q l z y j h r goes more = tt
  value_printed k (suc m) (number v) xs ps F q l z y j h r goes more = tt
  value_printed kinds.L4 zero (number v) xs ps F q l z y j h r goes more =
      act_first lay P (((items_of kinds.L4 (number v) ▹ after xs) ▹ F) l y) (print a.print_truth) l (pushed v (text_over c f ps y))
      (λ d. and_then (told (acts.items e xs) l d) q)
      (number_by (nat_le (y.used + 1) most_cells) kinds.L4 v (logical (is_true v)) xs (print a.print_truth) ps F q l z y refl refl
      (kept_more c.used z y h j) (omega (arith, r, j.0)) goes (λ qs w. more (logical (is_true v) ∷ []) qs w))
  value_printed kinds.I4 zero (number v) xs ps F q l z y j h r goes more =
      act_first lay P (((items_of kinds.I4 (number v) ▹ after xs) ▹ F) l y) (print a.print_number) l (pushed v (text_over c f ps y))
      (λ d. and_then (told (acts.items e xs) l d) q)
      (number_by (nat_le (y.used + 1) most_cells) kinds.I4 v (integer v) xs (print a.print_number) ps F q l z y refl refl
      (kept_more c.used z y h j) (omega (arith, r, j.0)) goes (λ qs w. more (integer v ∷ []) qs w))
  value_printed kinds.I8 zero (number v) xs ps F q l z y j h r goes more =
      act_first lay P (((items_of kinds.I8 (number v) ▹ after xs) ▹ F) l y) (print a.print_number) l (pushed v (text_over c f ps y))
      (λ d. and_then (told (acts.items e xs) l d) q)
      (number_by (nat_le (y.used + 1) most_cells) kinds.I8 v (integer v) xs (print a.print_number) ps F q l z y refl refl
      (kept_more c.used z y h j) (omega (arith, r, j.0)) goes (λ qs w. more (integer v ∷ []) qs w))
  value_printed kinds.L4 (suc m) (array w) xs ps F q l z y j h r goes more =
      act_first lay P (((items_of kinds.L4 (array w) ▹ after xs) ▹ F) l y) (print (a.print_array kinds.L4)) l
      (with_array w (text_over c f ps y)) (λ d. and_then (told (acts.items e xs) l d) q)
      (array_comes kinds.L4 w (map (acted.item_of kinds.L4) w.elements) xs (print (a.print_array kinds.L4)) ps F q l z y refl j.0 h r goes
      (λ qs u. more (map (acted.item_of kinds.L4) w.elements) qs u))
  value_printed kinds.I4 (suc m) (array w) xs ps F q l z y j h r goes more =
      act_first lay P (((items_of kinds.I4 (array w) ▹ after xs) ▹ F) l y) (print (a.print_array kinds.I4)) l
      (with_array w (text_over c f ps y)) (λ d. and_then (told (acts.items e xs) l d) q)
      (array_comes kinds.I4 w (map (acted.item_of kinds.I4) w.elements) xs (print (a.print_array kinds.I4)) ps F q l z y refl j.0 h r goes
      (λ qs u. more (map (acted.item_of kinds.I4) w.elements) qs u))
  value_printed kinds.I8 (suc m) (array w) xs ps F q l z y j h r goes more =
      act_first lay P (((items_of kinds.I8 (array w) ▹ after xs) ▹ F) l y) (print (a.print_array kinds.I8)) l
      (with_array w (text_over c f ps y)) (λ d. and_then (told (acts.items e xs) l d) q)
      (array_comes kinds.I8 w (map (acted.item_of kinds.I8) w.elements) xs (print (a.print_array kinds.I8)) ps F q l z y refl j.0 h r goes
      (λ qs u. more (map (acted.item_of kinds.I8) w.elements) qs u))

  -- all items, one after another
  items_come : (xs : List s.Item) (ps : List Portion) (F : List Item → Does X) (q : Core → Outcome Core) (l : ℕ) (z : State) → AreItems xs
      → Kept c.used z → Room c ps (literals_in xs) z → Goes ps F q l → Says xs ps F q l z
  items_come [] ps F q l z h k r goes = goes ps [] z (sym (append-nil (spread (reverse ps)))) k
  items_come (s.literal n ∷ xs) ps F q l z h k r goes =
      let x : Item = literal (literal_text e n) in
      let qs : List Portion = with_literal_behind n (literal_text e n) ps in
      let A : Act = print (a.print_literal n (literal_text e n)) in
      let K : Core → Outcome Core = λ d. and_then (told (acts.items e xs) l d) q in
      let L : Outcome (X × State) = (items limit e calls (s.literal n ∷ xs) ▹ F) l z in
      let o : length qs ≤ suc (length ps) = one_at_most n (literal_text e n) ps in
      let m : Room c qs (literals_in xs) z = omega (arith, o, r) in
      let u : Room c qs 0 z = omega (arith, o, r) in
      apart lay P L (told (doing (A ∷ [])) l (text_over c f ps z)) (told (acts.items e xs) l) q
      (act_first lay P L A l (text_over c f ps z) K
      (renewed_comes lay P c f qs L A l z (text_over c f ps z) K u k.1
      (behind_items xs (x ∷ []) ps qs F q l z (literal_printed n (literal_text e n) ps) goes
      (λ g. items_come xs qs (λ is. F (x ∷ is)) q l z h k m g))))
  items_come (s.value x ∷ xs) ps F q l z h k r goes =
      let C : Core = text_over c f ps z in
      let R : Value → Does Value = of_rank (rank_in x) in
      let G : Value → Does (List Item) = λ v. items_of (kind_in x) v ▹ after xs in
      let V : Outcome (Value × State) = value e calls x l z in
      let I : Core → Outcome Core = told (acts.items e xs) l in
      let S : Core → Outcome Core = told (acts.printed e (kind_in x) (rank_in x)) l in
      let O : Outcome Core = and_then (and_then (and_then (told (expression e x) l C) S) I) q in
      said_apart lay P (ranked limit e calls x l z) (λ p. G p.0 l p.1) (λ p. F p.0 l p.1) O
      (said_apart lay P V (λ p. R p.0 l p.1) (λ p. and_then (G p.0 l p.1) (λ w. F w.0 l w.1)) O
      (apart lay P (and_then V (λ p. and_then (R p.0 l p.1) (λ w. and_then (G w.0 l w.1) (λ u. F u.0 l u.1))))
      (and_then (told (expression e x) l C) S) I q
      (apart lay P (and_then V (λ p. and_then (R p.0 l p.1) (λ w. and_then (G w.0 l w.1) (λ u. F u.0 l u.1)))) (told (expression e x) l C) S
      (λ d. and_then (I d) q)
      (comes_then (put_down C) (Leaves z.used) lay P V (told (expression e x) l C)
      (λ p. and_then (R p.0 l p.1) (λ w. and_then (G w.0 l w.1) (λ u. F u.0 l u.1))) (λ d. and_then (S d) (λ o. and_then (I o) q))
      (value_comes e calls 64 x l C (room_beside 64 c z room64 k) h.0)
      (λ v y j. value_printed (kind_in x) (rank_in x) v xs ps F q l z y j k r goes
      (λ is qs u b m g. items_come xs qs (λ js. F (is ++ js)) q l u h.1 b m g))))))

-- the text is said, and nothing is left of it
abbrev format_of : Environment → s.Format → Option (List ℕ)
format_of e s.free = None
format_of e (s.written n ds) = Some (literal_text e n)

-- the text of the items that were put down
abbrev saying : Found (List ℕ) → Does (Unit {0})
saying t = of_found t ▹ (λ text. asking (asked.Print text) ▹ (λ r. giving tt))

say_comes : (t : Found (List ℕ)) (A : Act) (l : ℕ) (y : State) (c d : Core) (n : ℕ) → state_of d ≡ y → Kept n y
    → Comes (put_nothing c) (Keeps n) (saying t l (state_of d))
    (and_then (of_effect l d (settled A (found_in t (λ text. asking_act (asked.Print text) (λ r. with_state (state_of d) c)))))
    (told end_parts l))
say_comes (found text) A l y c d n e k = ((λ r. done (with_state (state_of d) c)), refl, λ r. (refl, subst (λ z. Kept n z) (sym e) k))
say_comes (at_fault j) A l y c d n e k = refl

module _ (limit : ℕ) (e : Environment) (calls : ℕ → List Passed → Does Value) where
  text_said : (f : s.Format) (qs : List Portion) (is : List Item) (l : ℕ) (y : State) (c : Core) (n : ℕ) → spread (reverse qs) ≡ is
      → Kept n y
      → Comes (put_nothing c) (Keeps n) ((text_of limit e calls f is ▹ (λ text. asking (asked.Print text) ▹ (λ r. giving tt))) l y)
      (told (doing (ask a.say ∷ [])) l (text_over c (format_of e f) qs y))
  text_said s.free qs is l y c n h k =
      subst (λ js. Comes (put_nothing c) (Keeps n) (saying (found (listed js)) l y)
      (told (doing (ask a.say ∷ [])) l (text_over c None qs y))) h
      (say_comes (found (listed (spread (reverse qs)))) (ask a.say) l y c (text_over c None qs y) n refl k)
  text_said (s.written i ds) qs is l y c n h k =
      subst (λ js. Comes (put_nothing c) (Keeps n) (saying (formatted (literal_text e i) js) l y)
      (told (doing (ask a.say ∷ [])) l (text_over c (Some (literal_text e i)) qs y))) h
      (say_comes (formatted (literal_text e i) (spread (reverse qs))) (ask a.say) l y c (text_over c (Some (literal_text e i)) qs y) n refl
      k)

  output_comes : (f : s.Format) (xs : List s.Item) (l : ℕ) (c : Core) → HasRoom 64 c → AreItems xs → HasLines c xs
      → Comes (put_nothing c) (Keeps c.used) (output limit e calls f xs l (state_of c))
      (and_then (told (acts.items e xs) l (text_over c (format_of e f) [] (state_of c))) (told (doing (ask a.say ∷ [])) l))
  output_comes f xs l c r h w =
      items_come limit e calls (put_nothing c) (Keeps c.used) c (format_of e f) r xs []
      (λ is. text_of limit e calls f is ▹ (λ text. asking (asked.Print text) ▹ (λ r. giving tt))) (told (doing (ask a.say ∷ [])) l) l
      (state_of c) h
      (le_refl c.used, r.0) (omega (arith, w)) (λ qs is y g k. text_said f qs is l y c c.used g k)

pub print_law : PrintLaw
print_law limit e calls s.free xs l c r h w =
    comes_agrees (put_nothing c) (Keeps c.used) (output limit e calls s.free xs l (state_of c)) (told (acts.output e s.free xs) l c)
    (output_comes limit e calls s.free xs l c r h w)
print_law limit e calls (s.written n ds) xs l c r h w =
    comes_agrees (put_nothing c) (Keeps c.used) (output limit e calls (s.written n ds) xs l (state_of c))
    (told (acts.output e (s.written n ds) xs) l c) (output_comes limit e calls (s.written n ds) xs l c r h w)
