-- A cell that an image's next access touches holds the same in every run that follows t.
use Rattle.std.proofs.Common.{◌≡◌, ◌<◌, ◌≤◌, ◌⊎◌, ◌&&◌, Bool, true, false, List, [], ◌∷◌, ◌++◌, length, inl, inr, refl, ap, sym, ◌∙◌, subst, arith, append_assoc, length-append}
use Rattle.std.proofs.lemmas.List.{append-nil}
use Rattle.std.proofs.lemmas.Bool.{cases_Bool, cases_lt, cases_eq, and_parts, both_ways}
use Rattle.order_theory.specs.Order.{Within}
use Rattle.order_theory.specs.Races.{Cell, touches_cell, defines, meets, Accesses, Stands, place, NoRace}
use Rattle.order_theory.specs.Acts.{View, edge_rules}
use Rattle.order_theory.specs.Facts.{Pauses, own_list}
use Rattle.order_theory.proofs.Splits.{fronts_at, same_fronts}
use Rattle.order_theory.proofs.Seen.{touches_tells, touches_from}
use Rattle.order_cuts.specs.Cuts.{Likeness, Follows, own_place, IsInside, IsNext, IsSame, KeepsSources, NoneSpeaks}
use Rattle.order_cuts.proofs.OwnParts.{there, known, placed}
use Rattle.order_cuts.proofs.Inside.{not_later, inside_if_before, before_if_inside, in_order}

module _ (E V : Type 0) (a : Accesses E V) (value : List E → Cell → V) where
  abbrev pub Writing : {g : List E} → Stands g → Cell → Type 0
  Writing y c = Within c (a.touching.cells y.before y.event) × (defines (a.touching.class_of y.event) ≡ true)

  abbrev writes_cell : List E → E → Cell → Bool
  writes_cell g e c = touches_cell c (a.touching.cells g e) && defines (a.touching.class_of e)

  -- what is needed of a list of entries, with the value of each cell after some of them
  pub record Holds (g : List E) : Type 0 where
    pub leaves_is : (b h : List E) (e : E) (c : Cell) → g ≡ b ++ e ∷ h → a.leaves b e c ≡ value (b ++ e ∷ []) c
    pub first_is : (c : Cell) → a.first_value c ≡ value [] c
    pub kept : (b h : List E) (e : E) (c : Cell) → g ≡ b ++ e ∷ h → writes_cell b e c ≡ false → value (b ++ e ∷ []) c ≡ value b c

  -- the last entry of g that writes the cell, whose value it has then
  pub record LastIs (g : List E) (c : Cell) : Type 0 where
    pub entry : Stands g
    pub writing : Writing entry c
    pub last : (z : Stands g) → Writing z c → place z ≤ place entry
    pub holds : value g c ≡ a.leaves entry.before entry.event c

  -- or none does
  pub record NoneIs (g : List E) (c : Cell) : Type 0 where
    pub none : (z : Stands g) → Writing z c → ⊥
    pub holds : value g c ≡ a.first_value c

  writing_from : {g : List E} → (y : Stands g) (c : Cell) → Writing y c → writes_cell y.before y.event c ≡ true
  writing_from y c w = rw (touches_from c (a.touching.cells y.before y.event) w.0, w.1) refl

  writing_at : (b : List E) (e : E) (c : Cell) → writes_cell b e c ≡ true → Within c (a.touching.cells b e) × (defines (a.touching.class_of e) ≡ true)
  writing_at b e c h = let p = and_parts (touches_cell c (a.touching.cells b e)) (defines (a.touching.class_of e)) h in (touches_tells c (a.touching.cells b e) p.0, p.1)

  -- an entry of a list with one more: it is the last one, or stands before it
  in_more : (b : List E) (e : E) (z : Stands (b ++ e ∷ [])) → ((z.before ≡ b) × (z.event ≡ e)) ⊎ ((y : Stands b) × (y.before ≡ z.before) × (y.event ≡ z.event))
  in_more b e z =
      let l = ap length z.split ∙ length-append z.before (z.event ∷ z.rest) in
      let m = length-append b (e ∷ []) in
      elim (cases_lt (length z.before) (length b)) [
        | inl s ↦ (let f = fronts_at E z.before z.rest b (e ∷ []) z.event (sym z.split) s in inr (record { before = z.before; event = z.event; rest = f.0; split = f.1 }, refl, refl))
        | inr s ↦ (
            let f = same_fronts E z.before (z.event ∷ z.rest) b (e ∷ []) (sym z.split) (omega arith) in
            let q = f.1 in
            let h : z.event ≡ e = cc in
            inl (f.0, h))
      ]

  abbrev more : {b : List E} → (e : E) → Stands b → Stands (b ++ e ∷ [])
  more {b} e y = record { before = y.before; event = y.event; rest = y.rest ++ e ∷ []; split = ap (λ z. z ++ e ∷ []) y.split ∙ append_assoc y.before (y.event ∷ y.rest) (e ∷ []) }

  module _ (g : List E) (has : Holds g) (c : Cell) where
    last_more : (b h : List E) (e : E) → g ≡ b ++ e ∷ h → LastIs b c ⊎ NoneIs b c → LastIs (b ++ e ∷ []) c ⊎ NoneIs (b ++ e ∷ []) c
    last_more b h e s old = elim (cases_Bool (writes_cell b e c)) [
      | inl w ↦ inl (record {
        entry = record { before = b; event = e; rest = []; split = refl };
        writing = writing_at b e c w;
        last = λ z zw. (let l = ap length z.split ∙ length-append z.before (z.event ∷ z.rest) in let m = length-append b (e ∷ []) in omega arith);
        holds = sym (has.leaves_is b h e c s);
      })
      | inr w ↦ elim old [
        | inl o ↦ inl (record {
          entry = more e o.entry;
          writing = o.writing;
          last = λ z zw. elim (in_more b e z) [
            | inl (p, q) ↦ absurd (both_ways (writes_cell z.before z.event c) (subst (λ k. writes_cell k z.event c ≡ false) (sym p) (subst (λ k. writes_cell b k c ≡ false) (sym q) w)) (writing_from z c zw))
            | inr (y, p, q) ↦ (
                let l = o.last y (subst (λ k. Within c (a.touching.cells k y.event)) (sym p) (subst (λ k. Within c (a.touching.cells z.before k)) (sym q) zw.0), ap (λ k. defines (a.touching.class_of k)) q ∙ zw.1) in
                let m = ap length p in
                omega arith)
          ];
          holds = has.kept b h e c s w ∙ o.holds;
        })
        | inr o ↦ inr (record {
          none = λ z zw. elim (in_more b e z) [
            | inl (p, q) ↦ both_ways (writes_cell z.before z.event c) (subst (λ k. writes_cell k z.event c ≡ false) (sym p) (subst (λ k. writes_cell b k c ≡ false) (sym q) w)) (writing_from z c zw)
            | inr (y, p, q) ↦ o.none y (subst (λ k. Within c (a.touching.cells k y.event)) (sym p) (subst (λ k. Within c (a.touching.cells z.before k)) (sym q) zw.0), ap (λ k. defines (a.touching.class_of k)) q ∙ zw.1)
          ];
          holds = has.kept b h e c s w ∙ o.holds;
        })
      ]
    ]

    last_on : (b h : List E) → g ≡ b ++ h → LastIs b c ⊎ NoneIs b c → LastIs g c ⊎ NoneIs g c
    last_on b [] s old = subst (λ z. LastIs z c ⊎ NoneIs z c) (sym (s ∙ append-nil b)) old
    last_on b (e ∷ h) s old = last_on (b ++ e ∷ []) h (s ∙ sym (append_assoc b (e ∷ []) h)) (last_more b h e s old)

    nothing_stands : (z : Stands {E = E} []) → ⊥
    nothing_stands z = let l = ap length z.split ∙ length-append z.before (z.event ∷ z.rest) in omega arith

    pub last_is : LastIs g c ⊎ NoneIs g c
    last_is = last_on [] g refl (inr (record { none = λ z w. nothing_stands z; holds = sym (has.first_is c) }))

module _ (E S V : Type 0) (v : View E) (k : Likeness v S) (a : Accesses E V) (value : List E → Cell → V) (acts : List E → E → Type 0) (t : List E) (quiet : Pauses v acts t) (clean : NoRace (edge_rules v) a.touching t (length t)) where
  -- what is known of a run that follows t
  pub record Runs (g : List E) : Type 0 where
    pub follows : Follows v k t g
    pub keeps : KeepsSources v k t g
    pub silent : NoneSpeaks v k g
    pub still : Pauses v acts g
    pub has : Holds E V a value g
    pub acting : (y : Stands g) (c : Cell) → Writing E V a value y c → acts y.before y.event
    pub alike_cells : (x : Stands t) (y : Stands g) → IsSame v k x y → a.touching.cells x.before x.event ≡ a.touching.cells y.before y.event
    pub alike_class : (x : Stands t) (y : Stands g) → IsSame v k x y → a.touching.class_of x.event ≡ a.touching.class_of y.event
    pub alike_leaves : (x : Stands t) (y : Stands g) (c : Cell) → IsSame v k x y → Writing E V a value x c → a.leaves x.before x.event c ≡ a.leaves y.before y.event c

  to_t : (g : List E) → Runs g → (c : Cell) (x : Stands t) (y : Stands g) → IsSame v k x y → Writing E V a value y c → Writing E V a value x c
  to_t g r c x y s w = (subst (λ cs. Within c cs) (sym (r.alike_cells x y s)) w.0, ap defines (r.alike_class x y s) ∙ w.1)

  from_t : (g : List E) → Runs g → (c : Cell) (x : Stands t) (y : Stands g) → IsSame v k x y → Writing E V a value x c → Writing E V a value y c
  from_t g r c x y s w = (subst (λ cs. Within c cs) (r.alike_cells x y s) w.0, sym (ap defines (r.alike_class x y s)) ∙ w.1)

  -- all that define the cell act, and meet one another
  module _ (acting : (y : Stands t) (c : Cell) → Writing E V a value y c → acts y.before y.event) (c : Cell)
      (meets_all : (w z : Stands t) → Writing E V a value w c → Writing E V a value z c → meets (a.touching.class_of w.event) (a.touching.class_of z.event) ≡ true) where
    -- an earlier entry of the same image has an earlier place among that image's
    own_sooner : {g : List E} → (w z : Stands g) → v.image w.event ≡ v.image z.event → place w < place z → own_place v k w < own_place v k z
    own_sooner {g} w z same l =
        let f = fronts_at E w.before w.rest z.before (z.event ∷ z.rest) w.event (sym w.split ∙ z.split) l in
        let here : Stands z.before = record { before = w.before; event = w.event; rest = f.0; split = f.1 } in
        let p = placed E S v k z.before here in
        let j = ap (λ i. length (own_list v i z.before)) same in
        omega arith

    -- two writers stand in g as they stand in t
    writers_in_order : (g : List E) → Runs g → (w z : Stands t) (w' z' : Stands g) → IsSame v k w w' → IsSame v k z z' → Writing E V a value w c → Writing E V a value z c → place w < place z → place w' < place z'
    writers_in_order g r w z w' z' sw sz ww wz l =
        elim (cases_eq (v.image w.event) (v.image z.event)) [
          | inl same ↦ elim (cases_lt (place w') (place z')) [
            | inl m ↦ m
            | inr m ↦ (
                let n = not_later E S v k g z' w' (sym sz.image ∙ sym same ∙ sw.image) m in
                let q = own_sooner w z same l in
                let u = sw.own in
                let y = sz.own in
                absurd (omega arith))
          ]
          | inr other ↦ in_order E S v k t g r.follows acts quiet r.silent r.keeps a.touching clean r.still w z w' z' sw sz (r.acting w' c (from_t g r c w w' sw ww)) (acting z c wz)
              (record { images = other; cell = c; shared = (ww.0, wz.0); met = meets_all w z ww wz }) l
        ]

    inside_of : (g : List E) → Runs g → (w : Stands t) (y : Stands g) → IsSame v k w y → IsInside v k g w
    inside_of g r w y s = let p = placed E S v k g y in let o = s.own in let j = ap (λ i. length (own_list v i g)) s.image in omega arith

    -- f has all writers of the cell that g has
    abbrev HasWriters : List E → List E → Type 0
    HasWriters g f = (w : Stands t) → Writing E V a value w c → IsInside v k g w → IsInside v k f w

    -- no run has a later last writer than another one that has its writers
    none_later : (g f : List E) → Runs g → Runs f → HasWriters f g → (lg : LastIs E V a value g c) (lf : LastIs E V a value f c)
        → (wg wf : Stands t) → IsSame v k wg lg.entry → IsSame v k wf lf.entry → place wg < place wf → ⊥
    none_later g f rg rf has lg lf wg wf sg sf l =
        let ww = to_t g rg c wg lg.entry sg lg.writing in
        let wz = to_t f rf c wf lf.entry sf lf.writing in
        let z = there E S v k t g rg.follows wf (has wf wz (inside_of f rf wf lf.entry sf)) in
        let m = lg.last z.0 (from_t g rg c wf z.0 z.1 wz) in
        let o = writers_in_order g rg wg wf lg.entry z.0 sg z.1 ww wz l in
        omega arith

    none_alone : (g f : List E) → Runs g → Runs f → HasWriters g f → LastIs E V a value g c → NoneIs E V a value f c → ⊥
    none_alone g f rg rf has lg nof =
        let w = known E S v k t g rg.follows lg.entry in
        let ww = to_t g rg c w.0 lg.entry w.1 lg.writing in
        let z = there E S v k t f rf.follows w.0 (has w.0 ww (inside_of g rg w.0 lg.entry w.1)) in
        nof.none z.0 (from_t f rf c w.0 z.0 z.1 ww)

    same_place : (w z : Stands t) → place w ≡ place z → (w.before ≡ z.before) × (w.event ≡ z.event)
    same_place w z e =
        let f = same_fronts E w.before (w.event ∷ w.rest) z.before (z.event ∷ z.rest) (sym w.split ∙ z.split) e in
        let q = f.1 in
        let h : w.event ≡ z.event = cc in
        (f.0, h)

    by_last : (g f : List E) → Runs g → Runs f → HasWriters g f → HasWriters f g → LastIs E V a value g c → LastIs E V a value f c → value g c ≡ value f c
    by_last g f rg rf to_f to_g lg lf =
        let w = known E S v k t g rg.follows lg.entry in
        let z = known E S v k t f rf.follows lf.entry in
        elim (cases_lt (place w.0) (place z.0)) [
          | inl l ↦ absurd (none_later g f rg rf to_g lg lf w.0 z.0 w.1 z.1 l)
          | inr l ↦ elim (cases_lt (place z.0) (place w.0)) [
            | inl m ↦ absurd (none_later f g rf rg to_f lf lg z.0 w.0 z.1 w.1 m)
            | inr m ↦ (
                let s = same_place w.0 z.0 (omega arith) in
                lg.holds ∙ sym (rg.alike_leaves w.0 lg.entry c w.1 (to_t g rg c w.0 lg.entry w.1 lg.writing))
                ∙ ap (λ b. a.leaves b w.0.event c) s.0 ∙ ap (λ e. a.leaves z.0.before e c) s.1
                ∙ rf.alike_leaves z.0 lf.entry c z.1 (to_t f rf c z.0 lf.entry z.1 lf.writing) ∙ sym lf.holds)
          ]
        ]

    -- Two runs that have the same writers of a cell leave the same there.
    pub same_by : (g f : List E) → Runs g → Runs f → HasWriters g f → HasWriters f g → value g c ≡ value f c
    same_by g f rg rf to_f to_g = elim (last_is E V a value g rg.has c) [
      | inl lg ↦ elim (last_is E V a value f rf.has c) [
        | inl lf ↦ by_last g f rg rf to_f to_g lg lf
        | inr nof ↦ absurd (none_alone g f rg rf to_f lg nof)
      ]
      | inr nog ↦ elim (last_is E V a value f rf.has c) [
        | inl lf ↦ absurd (none_alone f g rf rg to_g lf nog)
        | inr nof ↦ nog.holds ∙ sym nof.holds
      ]
    ]

    -- x is the next step of its image, it touches the cell, and meets all that define it
    module _ (x : Stands t) (ax : acts x.before x.event) (touch : Within c (a.touching.cells x.before x.event))
        (meets_x : (w : Stands t) → Writing E V a value w c → (meets (a.touching.class_of w.event) (a.touching.class_of x.event) ≡ true) × (meets (a.touching.class_of x.event) (a.touching.class_of w.event) ≡ true)) where
      -- an entry of x's image is before x where it is inside, and the other way round
      own_before : (g : List E) → IsNext v k g x → (w : Stands t) → v.image w.event ≡ v.image x.event → IsInside v k g w → place w < place x
      own_before g next w same inside =
          elim (cases_lt (place w) (place x)) [
            | inl l ↦ l
            | inr l ↦ (
                let m = not_later E S v k t x w (sym same) l in
                let j = ap (λ i. length (own_list v i g)) same in
                absurd (omega arith))
          ]

      own_inside : (g : List E) → IsNext v k g x → (w : Stands t) → v.image w.event ≡ v.image x.event → own_place v k w < own_place v k x → IsInside v k g w
      own_inside g next w same l = let j = ap (λ i. length (own_list v i g)) same in omega arith

      writer_before : (g : List E) → Runs g → IsNext v k g x → (w : Stands t) → Writing E V a value w c → IsInside v k g w → place w < place x
      writer_before g r next w ww inside =
          elim (cases_eq (v.image w.event) (v.image x.event)) [
            | inl same ↦ own_before g next w same inside
            | inr other ↦ before_if_inside E S v k t g r.follows acts quiet r.silent r.keeps a.touching clean w x (acting w c ww) ax
                (record { images = λ e. other (sym e); cell = c; shared = (touch, ww.0); met = (meets_x w ww).1 }) next inside
          ]

      writer_inside : (g : List E) → Runs g → IsNext v k g x → (w : Stands t) → Writing E V a value w c → place w < place x → IsInside v k g w
      writer_inside g r next w ww l =
          elim (cases_eq (v.image w.event) (v.image x.event)) [
            | inl same ↦ own_inside g next w same (own_sooner w x same l)
            | inr other ↦ inside_if_before E S v k t g r.follows acts quiet r.silent r.keeps a.touching clean w x (acting w c ww) ax
                (record { images = other; cell = c; shared = (ww.0, touch); met = (meets_x w ww).0 }) next l
          ]

      -- A cell that the next access of an image touches holds the same in every two runs that follow t and have come to
      -- that access. (One of them may be the front of t before it.)
      pub same_value : (g f : List E) → Runs g → Runs f → IsNext v k g x → IsNext v k f x → value g c ≡ value f c
      same_value g f rg rf ng nf =
          same_by g f rg rf (λ w ww inside. writer_inside f rf nf w ww (writer_before g rg ng w ww inside)) (λ w ww inside. writer_inside g rg ng w ww (writer_before f rf nf w ww inside))

    -- Two runs that have made all steps of t leave the same at each cell.
    pub same_end : (g f : List E) → Runs g → Runs f → ((w : Stands t) → IsInside v k g w) → ((w : Stands t) → IsInside v k f w) → value g c ≡ value f c
    same_end g f rg rf all_g all_f = same_by g f rg rf (λ w ww inside. all_f w) (λ w ww inside. all_g w)
