-- The marks that are seen of a cell are those of the entries that touch it.
use Rattle.std.proofs.Common.{◌≡◌, ◌≤◌, ◌↔◌, Bool, true, false, nat_eq, ◌&&◌, cond, List, [], ◌∷◌, ◌++◌, inl, inr, refl, ap, sym, ◌∙◌, subst, arith, append_assoc}
use Rattle.std.proofs.lemmas.List.{append-nil}
use Rattle.std.proofs.lemmas.Bool.{eq-eqb, eqb-true, and_parts, or_cases, or_left, or_right}
use Rattle.order_theory.specs.Order.{Entries, EdgeRules, Within, done, Sound}
use Rattle.order_theory.specs.Races.{Cell, same_cell, touches_cell, Touching, Stands}
use Rattle.order_theory.specs.Marks.{Mark, Keeps, Marked, mark_of, seen_from, seen}
use Rattle.order_theory.proofs.Splits.{done_append, begun_more}
use Rattle.order_theory.proofs.Withins.{within_append, within_right}
use Rattle.order_theory.proofs.Ways.{reaches_up}

-- the test tells whether two cells are one
same_cell_tells : (c d : Cell) → same_cell c d ≡ true → c ≡ d
same_cell_tells c d h =
    let p = and_parts (nat_eq c.owner d.owner && nat_eq c.coarray d.coarray) (nat_eq c.offset d.offset) h in
    let q = and_parts (nat_eq c.owner d.owner) (nat_eq c.coarray d.coarray) p.0 in
    ap (λ z. record { owner = z; coarray = c.coarray; offset = c.offset }) (eqb-true _ _ q.0)
    ∙ ap (λ z. record { owner = d.owner; coarray = z; offset = c.offset }) (eqb-true _ _ q.1)
    ∙ ap (λ z. record { owner = d.owner; coarray = d.coarray; offset = z }) (eqb-true _ _ p.1)

same_cell_from : (c d : Cell) → c ≡ d → same_cell c d ≡ true
same_cell_from c d e = subst (λ z. same_cell c z ≡ true) e (rw (eq-eqb c.owner c.owner refl, eq-eqb c.coarray c.coarray refl, eq-eqb c.offset c.offset refl) refl)

-- and whether a cell is one of some
pub touches_tells : (c : Cell) (ds : List Cell) → touches_cell c ds ≡ true → Within c ds
touches_tells c [] h = absurd (cc)
touches_tells c (d ∷ ds) h = elim (or_cases (same_cell d c) (touches_cell c ds) h) [ inl s ↦ inl (sym (same_cell_tells d c s)) | inr w ↦ inr (touches_tells c ds w) ]

pub touches_from : (c : Cell) (ds : List Cell) → Within c ds → touches_cell c ds ≡ true
touches_from c [] w = absurd w
touches_from c (d ∷ ds) (inl e) = or_left (same_cell d c) (touches_cell c ds) (same_cell_from d c (sym e))
touches_from c (d ∷ ds) (inr w) = or_right (same_cell d c) (touches_cell c ds) (touches_from c ds w)

module _ (E : Type 0) (k : Entries E) (a : Touching E) where
  -- one more entry adds its mark at the end
  seen_from_more : (c : Cell) (b g : List E) (e : E) → seen_from k a c b (g ++ e ∷ []) ≡ seen_from k a c b g ++ cond (touches_cell c (a.cells (b ++ g) e)) (mark_of k a (b ++ g) e ∷ []) []
  seen_from_more c b [] e = append-nil _ ∙ ap (λ z. cond (touches_cell c (a.cells z e)) (mark_of k a z e ∷ []) []) (sym (append-nil b))
  seen_from_more c b (x ∷ g) e =
      ap (λ z. cond (touches_cell c (a.cells b x)) (mark_of k a b x ∷ []) [] ++ z) (seen_from_more c (b ++ x ∷ []) g e)
      ∙ sym (append_assoc (cond (touches_cell c (a.cells b x)) (mark_of k a b x ∷ []) []) _ _)
      ∙ ap (λ z. seen_from k a c b (x ∷ g) ++ cond (touches_cell c (a.cells z e)) (mark_of k a z e ∷ []) []) (append_assoc b (x ∷ []) g)

  pub seen_more : (c : Cell) (g : List E) (e : E) → seen k a c (g ++ e ∷ []) ≡ seen k a c g ++ cond (touches_cell c (a.cells g e)) (mark_of k a g e ∷ []) []
  seen_more c g e = seen_from_more c [] g e

  -- the mark of one entry, where it touches the cell
  one_mark : (c : Cell) (b : Bool) (t : List E) (x : Stands t) (m : Mark) → (b ≡ true → Within c (a.cells x.before x.event)) → Within m (cond b (mark_of k a x.before x.event ∷ []) []) → Marked k a c t m
  one_mark c true t x m h (inl e) = record { at = x; touches = h refl; is = e }
  one_mark c true t x m h (inr z) = absurd z
  one_mark c false t x m h w = absurd w

  -- each mark seen is that of an entry that touches the cell
  seen_from_stands : (c : Cell) (t b es : List E) → t ≡ b ++ es → (m : Mark) → Within m (seen_from k a c b es) → Marked k a c t m
  seen_from_stands c t b [] s m w = absurd w
  seen_from_stands c t b (e ∷ es) s m w =
      elim (within_append Mark m (cond (touches_cell c (a.cells b e)) (mark_of k a b e ∷ []) []) (seen_from k a c (b ++ e ∷ []) es) w) [
        | inl f ↦ one_mark c (touches_cell c (a.cells b e)) t (record { before = b; event = e; rest = es; split = s }) m (touches_tells c (a.cells b e)) f
        | inr r ↦ seen_from_stands c t (b ++ e ∷ []) es (s ∙ sym (append_assoc b (e ∷ []) es)) m r
      ]

  pub seen_stands : (c : Cell) (t : List E) (m : Mark) → Within m (seen k a c t) → Marked k a c t m
  seen_stands c t m w = seen_from_stands c t [] t refl m w

  -- and each such entry is seen
  stands_seen_from : (c : Cell) (b g : List E) (e : E) (rest : List E) → Within c (a.cells (b ++ g) e) → Within (mark_of k a (b ++ g) e) (seen_from k a c b (g ++ e ∷ rest))
  stands_seen_from c b [] e rest w =
      let w' = subst (λ z. Within c (a.cells z e)) (append-nil b) w in
      subst (λ z. Within (mark_of k a z e) (seen_from k a c b (e ∷ rest))) (sym (append-nil b))
      (rw (touches_from c (a.cells b e) w') (inl refl))
  stands_seen_from c b (x ∷ g) e rest w =
      within_right Mark _ (cond (touches_cell c (a.cells b x)) (mark_of k a b x ∷ []) []) _
      (subst (λ z. Within (mark_of k a z e) (seen_from k a c (b ++ x ∷ []) (g ++ e ∷ rest))) (append_assoc b (x ∷ []) g)
      (stands_seen_from c (b ++ x ∷ []) g e rest (subst (λ z. Within c (a.cells z e)) (sym (append_assoc b (x ∷ []) g)) w)))

  pub stands_seen : (c : Cell) (t : List E) (x : Stands t) → Within c (a.cells x.before x.event) → Within (mark_of k a x.before x.event) (seen k a c t)
  stands_seen c t x w = subst (λ z. Within (mark_of k a x.before x.event) (seen k a c z)) (sym x.split) (stands_seen_from c [] x.before x.event x.rest w)

  -- the marks seen of a cell are exactly those of the entries that touch it
  pub seen_where : (c : Cell) (t : List E) (m : Mark) → Within m (seen k a c t) ↔ Marked k a c t m
  seen_where c t m = (seen_stands c t m, λ h. subst (λ z. Within z (seen k a c t)) (sym h.is) (stands_seen c t h.at h.touches))

  -- an image's marks so far stand in its segments up to the present one
  pub seen_own : (c : Cell) (t : List E) (m : Mark) → Within m (seen k a c t) → m.segment.number ≤ done k m.segment.image t
  seen_own c t m w =
      let x = seen_stands c t m w in
      let e = done_append E k (k.image_of x.at.event) x.at.before (x.at.event ∷ x.at.rest) in
      let f = ap (done k (k.image_of x.at.event)) x.at.split in
      subst (λ z. z.segment.number ≤ done k z.segment.image t) (sym x.is) (omega arith)

module _ (E : Type 0) (r : EdgeRules E) (sound : Sound r) where
  -- what suffices goes on to suffice while the trace grows
  pub keeps_up : (t u : List E) (seen kept : List Mark) → Keeps r t seen kept → Keeps r (t ++ u) seen kept
  keeps_up t u seen kept h = record {
    were_seen = h.were_seen;
    enough = λ m w. (let e = h.enough m w in (e.0, e.1, (reaches_up E r sound t u m.segment e.0.segment e.2.0, e.2.1)));
    begun = λ m w. begun_more E r.entries t u m.segment (h.begun m w);
  }
