-- The marks of cells after one more entry, and what they tell of it.
use Rattle.std.proofs.Common.{◌≡◌, ℕ, zero, suc, ◌-◌, ◌<◌, ◌≤◌, Bool, true, false, nat_eq, ◌&&◌, cond, List, [], ◌∷◌, ◌++◌, length, get_or, ◌⊎◌, inl, inr, refl, ap, sym, ◌∙◌, subst, arith}
use Rattle.std.specs.Prelude.{MatchBool}
use Rattle.std.proofs.lemmas.List.{append-nil}
use Rattle.std.proofs.lemmas.Bool.{eq-eqb, cases_Bool, and_parts, eqb-true}
use Rattle.std.specs.List.{filter}
use Rattle.caf_events.specs.declared.event.Entry.{Entry}
use Rattle.order_theory.specs.Order.{Within, done, segment_of}
use Rattle.order_theory.specs.Clocks.{TellsOthers}
use Rattle.order_theory.specs.Races.{Cell, touches_cell, signals}
use Rattle.order_theory.specs.Acts.{entries}
use Rattle.order_theory.specs.Marks as marks
use Rattle.order_theory.specs.Marks.{Keeps, Noting, seen, mark_of, noted, stays, any_clash}
use Rattle.order_theory.proofs.Withins.{within_append}
use Rattle.order_theory.proofs.Sources.{sound}
use Rattle.order_theory.proofs.Recorder.{clock_tells}
use Rattle.order_theory.proofs.Kept.{clash_found, no_clash, keeps_more, keeps_signal, within_filter}
use Rattle.order_theory.proofs.Seen.{seen_more, seen_own, keeps_up, touches_tells, touches_from}
use Rattle.segment_clock.specs.Counts.{count_of}
use Rattle.order_axioms.specs.Views.{view, edges}
use Rattle.order_axioms.specs.Touching.{class_of, cells_of, touches}
use Rattle.race_watch.specs.declared.order.Order.{Order}
use Rattle.race_watch.specs.declared.touch.Touch.{Touch}
use Rattle.race_watch.specs.Classes.{MarksOf, as_class, as_mark}
use Rattle.race_watch.specs.Rows.{is_in, any_of, marks_at}
use Rattle.race_watch.specs.RowCells.{row_cells}
use Rattle.race_watch.specs.Orders.{line_of, clock_of, Ordered}
use Rattle.race_watch.specs.Marked.{Marked, HasPartner, Touching, MayNote}
use Rattle.race_watch.proofs.Lines.{touch_is, one_clashes, none_clashes}
use Rattle.race_watch.proofs.Turning.{own}

within_noted : (q m : marks.Mark) (ks : List marks.Mark) → Within m (noted q ks) → Within m ks ⊎ (m ≡ q)
within_noted q m ks w = elim (within_append marks.Mark m (filter (stays q) ks) (q ∷ []) w) [
  | inl f ↦ inl (within_filter (stays q) m ks f)
  | inr l ↦ elim l [ inl e ↦ inr e | inr z ↦ absurd z ]
]

within_cond : (b : Bool) (q m : marks.Mark) (ks : List marks.Mark) → Within m (cond b (noted q ks) ks) → Within m ks ⊎ (m ≡ q)
within_cond true q m ks w = within_noted q m ks w
within_cond false q m ks w = inl w

within_get : (k : ℕ) (d : marks.Mark) (xs : List marks.Mark) → k < length xs → Within (get_or xs k d) xs
within_get k d [] h = absurd (omega arith)
within_get zero d (x ∷ xs) h = inl refl
within_get (suc k) d (x ∷ xs) h = inr (within_get k d xs (omega arith))

pub in_range : (n m : ℕ) (xs : List marks.Mark) → m ≡ n → ((x : marks.Mark) → Within x xs → (0 < x.segment.image) × (x.segment.image ≤ n)) → MarksOf m xs
in_range n m xs e h k d l = (let p = h (get_or xs k d) (within_get k d xs l) in (p.0, omega arith))

-- each cell of a row is of its owner and coarray
pub row_tells : (o c : ℕ) (os : List ℕ) (d : Cell) → Within d (row_cells o c os) → (d.owner ≡ o) × (d.coarray ≡ c)
row_tells o c [] d w = absurd w
row_tells o c (x ∷ os) d (inl e) = (ap (λ z. z.owner) e, ap (λ z. z.coarray) e)
row_tells o c (x ∷ os) d (inr w) = row_tells o c os d w

module _ (n : ℕ) (g : List Entry) (s : Order) (ord : Ordered n g s) (e : Entry) (first : 0 < e.image.0) (last : e.image.0 ≤ n) (rows : List (List (List marks.Mark))) (rec : Marked n g rows) where
  -- the marks of a cell that e doesn't touch
  cell_stays : (c : Cell) → 0 < c.owner → c.owner ≤ n → touches_cell c (cells_of g e) ≡ false → Keeps (edges n) (g ++ e ∷ []) (seen (entries (view n)) touches c (g ++ e ∷ [])) (marks_at rows (line_of n c.owner c.coarray) c.offset)
  cell_stays c p q h =
      let z = seen_more Entry (entries (view n)) touches c g e ∙ ap (λ b. seen (entries (view n)) touches c g ++ cond b (mark_of (entries (view n)) touches g e ∷ []) []) h ∙ append-nil _ in
      subst (λ z. Keeps (edges n) (g ++ e ∷ []) z (marks_at rows (line_of n c.owner c.coarray) c.offset)) (sym z) (keeps_up Entry (edges n) (sound Entry (view n)) g (e ∷ []) _ _ (rec.cells c p q))

  pub tells : TellsOthers (edges n) g (segment_of (entries (view n)) g e) (count_of (clock_of s e.image.0))
  tells = clock_tells Entry (view n) g e.image.0 (count_of (clock_of s e.image.0)) (own n g s ord e first last)

  noting : (c : Cell) → 0 < c.owner → c.owner ≤ n → Noting (edges n) g (mark_of (entries (view n)) touches g e) (seen (entries (view n)) touches c g) (marks_at rows (line_of n c.owner c.coarray) c.offset)
  noting c p q = record {
    here = omega arith;
    keeps = rec.cells c p q;
    own = λ m w same. subst (λ i. m.segment.number ≤ done (entries (view n)) i g) same (seen_own Entry (entries (view n)) touches c g m w);
  }

  -- an access of the cells of one row
  module _ (o c : ℕ) (os : List ℕ) (o1 : 0 < o) (o2 : o ≤ n) (touch : cells_of g e ≡ row_cells o c os) where
    abbrev row : List (List marks.Mark)
    row = get_or rows (line_of n o c) []

    pub partner : any_of (count_of (clock_of s e.image.0)) (mark_of (entries (view n)) touches g e) (get_or rows (line_of n o c) []) os ≡ true → HasPartner n g e
    partner h =
        let z = one_clashes (count_of (clock_of s e.image.0)) (mark_of (entries (view n)) touches g e) (get_or rows (line_of n o c) []) os h in
        let d : Cell = record { owner = o; coarray = c; offset = z.0 } in
        let t : touches_cell d (cells_of g e) ≡ true = ap (touches_cell d) touch ∙ touch_is n o c d os o1 o2 o1 o2 ∙ ap (λ b. b && is_in z.0 os) (eq-eqb (line_of n o c) (line_of n o c) refl) ∙ z.1 in
        (d, touches_tells d (cells_of g e) t, clash_found Entry (edges n) (sound Entry (view n)) g (mark_of (entries (view n)) touches g e) _ _ (noting d o1 o2) (count_of (clock_of s e.image.0)) tells z.2)

    pub no_partner : any_of (count_of (clock_of s e.image.0)) (mark_of (entries (view n)) touches g e) (get_or rows (line_of n o c) []) os ≡ false → HasPartner n g e → ⊥
    no_partner h (d, w, u) =
        let r = row_tells o c os d (subst (Within d) touch w) in
        let p : 0 < d.owner = omega arith in
        let q : d.owner ≤ n = omega arith in
        let t = sym (ap (touches_cell d) touch ∙ touch_is n o c d os o1 o2 p q) ∙ touches_from d (cells_of g e) w in
        let b = and_parts (nat_eq (line_of n d.owner d.coarray) (line_of n o c)) (is_in d.offset os) t in
        let l : line_of n d.owner d.coarray ≡ line_of n o c = ap (λ z. line_of n z d.coarray) r.0 ∙ ap (line_of n o) r.1 in
        no_clash Entry (edges n) (sound Entry (view n)) g (mark_of (entries (view n)) touches g e) _ _ (noting d p q) (count_of (clock_of s e.image.0)) tells
        (subst (λ z. any_clash (count_of (clock_of s e.image.0)) (mark_of (entries (view n)) touches g e) (get_or (get_or rows z []) d.offset []) ≡ false) (sym l)
        (none_clashes (count_of (clock_of s e.image.0)) (mark_of (entries (view n)) touches g e) (get_or rows (line_of n o c) []) os h d.offset b.1)) u

    touched_not : (d : Cell) → 0 < d.owner → d.owner ≤ n → (nat_eq (line_of n d.owner d.coarray) (line_of n o c) && is_in d.offset os) ≡ false → touches_cell d (cells_of g e) ≡ false
    touched_not d p q h = ap (touches_cell d) touch ∙ touch_is n o c d os o1 o2 p q ∙ h

    -- the marks of a cell afterwards, where none clashes
    marks_more : (any_of (count_of (clock_of s e.image.0)) (mark_of (entries (view n)) touches g e) (get_or rows (line_of n o c) []) os ≡ false) ⊎ (class_of e ≡ signals)
        → (rows' : List (List (List marks.Mark)))
        → ((l k : ℕ) → marks_at rows' l k ≡ cond (nat_eq l (line_of n o c) && is_in k os) (noted (mark_of (entries (view n)) touches g e) (marks_at rows l k)) (marks_at rows l k))
        → (d : Cell) → 0 < d.owner → d.owner ≤ n → Keeps (edges n) (g ++ e ∷ []) (seen (entries (view n)) touches d (g ++ e ∷ [])) (marks_at rows' (line_of n d.owner d.coarray) d.offset)
    marks_more h rows' step d p q =
        elim (cases_Bool (nat_eq (line_of n d.owner d.coarray) (line_of n o c) && is_in d.offset os)) [
          | inl t ↦ (
              let z = seen_more Entry (entries (view n)) touches d g e
              ∙ ap (λ b. seen (entries (view n)) touches d g ++ cond b (mark_of (entries (view n)) touches g e ∷ []) []) (ap (touches_cell d) touch ∙ touch_is n o c d os o1 o2 p q ∙ t) in
              let b = and_parts (nat_eq (line_of n d.owner d.coarray) (line_of n o c)) (is_in d.offset os) t in
              subst (λ y. Keeps (edges n) (g ++ e ∷ []) (seen (entries (view n)) touches d (g ++ e ∷ [])) y) (sym (step (line_of n d.owner d.coarray) d.offset ∙ ap (λ y. cond y (noted (mark_of (entries (view n)) touches g e) (marks_at rows (line_of n d.owner d.coarray) d.offset)) (marks_at rows (line_of n d.owner d.coarray) d.offset)) t))
              (subst (λ y. Keeps (edges n) (g ++ e ∷ []) y (noted (mark_of (entries (view n)) touches g e) (marks_at rows (line_of n d.owner d.coarray) d.offset))) (sym z)
              (keeps_up Entry (edges n) (sound Entry (view n)) g (e ∷ []) (seen (entries (view n)) touches d g ++ mark_of (entries (view n)) touches g e ∷ []) (noted (mark_of (entries (view n)) touches g e) (marks_at rows (line_of n d.owner d.coarray) d.offset))
              (elim h [
                | inl none ↦ keeps_more Entry (edges n) (sound Entry (view n)) g (mark_of (entries (view n)) touches g e) _ _ (noting d p q) (count_of (clock_of s e.image.0)) tells
                    (subst (λ y. any_clash (count_of (clock_of s e.image.0)) (mark_of (entries (view n)) touches g e) (get_or (get_or rows y []) d.offset []) ≡ false) (sym (eqb-true (line_of n d.owner d.coarray) (line_of n o c) b.0))
                    (none_clashes (count_of (clock_of s e.image.0)) (mark_of (entries (view n)) touches g e) (get_or rows (line_of n o c) []) os none d.offset b.1))
                | inr signal ↦ keeps_signal Entry (edges n) (sound Entry (view n)) g (mark_of (entries (view n)) touches g e) _ _ (noting d p q) signal
              ]))))
          | inr f ↦ subst (λ y. Keeps (edges n) (g ++ e ∷ []) (seen (entries (view n)) touches d (g ++ e ∷ [])) y)
              (sym (step (line_of n d.owner d.coarray) d.offset ∙ ap (λ y. cond y (noted (mark_of (entries (view n)) touches g e) (marks_at rows (line_of n d.owner d.coarray) d.offset)) (marks_at rows (line_of n d.owner d.coarray) d.offset)) f))
              (cell_stays d p q (touched_not d p q f))
        ]

    pub marked : (any_of (count_of (clock_of s e.image.0)) (mark_of (entries (view n)) touches g e) (get_or rows (line_of n o c) []) os ≡ false) ⊎ (class_of e ≡ signals)
        → (rows' : List (List (List marks.Mark)))
        → ((l k : ℕ) → marks_at rows' l k ≡ cond (nat_eq l (line_of n o c) && is_in k os) (noted (mark_of (entries (view n)) touches g e) (marks_at rows l k)) (marks_at rows l k))
        → Marked n (g ++ e ∷ []) rows'
    marked ok rows' step = record {
      ranges = λ l k m w. elim (within_cond (nat_eq l (line_of n o c) && is_in k os) (mark_of (entries (view n)) touches g e) m (marks_at rows l k) (subst (Within m) (step l k) w)) [
        | inl v ↦ rec.ranges l k m v
        | inr v ↦ subst (λ (z : marks.Mark). (0 < z.segment.image) × (z.segment.image ≤ n)) (sym v) (first, last)
      ];
      cells = marks_more ok rows' step;
    }

  -- an entry that touches nothing
  pub passed : cells_of g e ≡ [] → Marked n (g ++ e ∷ []) rows
  passed none = record { ranges = rec.ranges; cells = λ d p q. cell_stays d p q (ap (touches_cell d) none) }

  pub none_touched : cells_of g e ≡ [] → HasPartner n g e → ⊥
  none_touched none (d, w, u) = subst (Within d) none w

  module _ (t : Touch) (touching : Touching n g e t) where
    -- the mark that is made is the entry's
    pub made_mark : (k : ℕ) → k ≡ get_or s.completed.items (e.image.0 - 1) 0 → as_mark (record { image = e.image; segment = k; class = t.class }) ≡ mark_of (entries (view n)) touches g e
    made_mark k h =
        ap (λ x. record { segment = record { image = e.image.0; number = x }; class = as_class t.class }) (h ∙ ord.counts e.image.0 first last)
        ∙ ap (λ x. record { segment = segment_of (entries (view n)) g e; class = x }) touching.class_is

    pub decided : (b : Bool) (clock : List ℕ) (m : marks.Mark) (line : ℕ) → clock ≡ clock_of s e.image.0 → m ≡ mark_of (entries (view n)) touches g e → line ≡ line_of n t.owner.0 t.coarray
        → b ≡ any_of (count_of clock) m (get_or rows line []) t.cells.items → MatchBool b (HasPartner n g e) (HasPartner n g e → ⊥)
    decided true clock m line ec em el h =
        partner t.owner.0 t.coarray t.cells.items touching.first touching.last touching.cells_are
        (sym (h ∙ ap (λ z. any_of (count_of z) m (get_or rows line []) t.cells.items) ec ∙ ap (λ z. any_of (count_of (clock_of s e.image.0)) z (get_or rows line []) t.cells.items) em
        ∙ ap (λ z. any_of (count_of (clock_of s e.image.0)) (mark_of (entries (view n)) touches g e) (get_or rows z []) t.cells.items) el))
    decided false clock m line ec em el h =
        no_partner t.owner.0 t.coarray t.cells.items touching.first touching.last touching.cells_are
        (sym (h ∙ ap (λ z. any_of (count_of z) m (get_or rows line []) t.cells.items) ec ∙ ap (λ z. any_of (count_of (clock_of s e.image.0)) z (get_or rows line []) t.cells.items) em
        ∙ ap (λ z. any_of (count_of (clock_of s e.image.0)) (mark_of (entries (view n)) touches g e) (get_or rows z []) t.cells.items) el))

    may_be : MayNote n g e → (any_of (count_of (clock_of s e.image.0)) (mark_of (entries (view n)) touches g e) (get_or rows (line_of n t.owner.0 t.coarray) []) t.cells.items ≡ false) ⊎ (class_of e ≡ signals)
    may_be (inr signal) = inr signal
    may_be (inl none) =
        elim (cases_Bool (any_of (count_of (clock_of s e.image.0)) (mark_of (entries (view n)) touches g e) (get_or rows (line_of n t.owner.0 t.coarray) []) t.cells.items)) [
          | inl y ↦ absurd (none (partner t.owner.0 t.coarray t.cells.items touching.first touching.last touching.cells_are y))
          | inr f ↦ inl f
        ]

    pub recorded : MayNote n g e → (m : marks.Mark) (line : ℕ) → m ≡ mark_of (entries (view n)) touches g e → line ≡ line_of n t.owner.0 t.coarray
        → (rows' : List (List (List marks.Mark)))
        → ((l k : ℕ) → marks_at rows' l k ≡ cond (nat_eq l line && is_in k t.cells.items) (noted m (marks_at rows l k)) (marks_at rows l k))
        → Marked n (g ++ e ∷ []) rows'
    recorded may m line em el rows' step =
        marked t.owner.0 t.coarray t.cells.items touching.first touching.last touching.cells_are (may_be may) rows'
        (λ l k. step l k ∙ ap (λ z. cond (nat_eq l z && is_in k t.cells.items) (noted m (marks_at rows l k)) (marks_at rows l k)) el
        ∙ ap (λ z. cond (nat_eq l (line_of n t.owner.0 t.coarray) && is_in k t.cells.items) (noted z (marks_at rows l k)) (marks_at rows l k)) em)

-- before the first entry
pub first_marked : (n : ℕ) (rows : List (List (List marks.Mark))) → rows ≡ [] → Marked n [] rows
first_marked n rows none = record {
  ranges = λ l k m w. absurd (subst (λ z. Within m (marks_at z l k)) none w);
  cells = λ c p q. subst (λ z. Keeps (edges n) [] [] (marks_at z (line_of n c.owner c.coarray) c.offset)) (sym none) (record { were_seen = λ k w. w; enough = λ m w. absurd w; begun = λ m w. absurd w });
}
