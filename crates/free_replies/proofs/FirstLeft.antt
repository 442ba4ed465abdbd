-- The first step of a trace that another run hasn't made; where there is none, each image has said the same.
use Rattle.std.proofs.Common.{◌≡◌, ◌<◌, ◌⊎◌, ℕ, List, [], ◌∷◌, ◌++◌, length, inl, inr, refl, ap, sym, ◌∙◌, subst, arith, append_assoc, length-append}
use Rattle.std.proofs.lemmas.List.{append-nil, length-map}
use Rattle.std.proofs.lemmas.Bool.{cases_lt}
use Rattle.trace_theory.specs.Machines.{Said}
use Rattle.caf_events.specs.declared.ask.Ask.{Ask}
use Rattle.caf_events.specs.declared.reply.Reply.{Reply}
use Rattle.caf_events.specs.declared.event.Entry.{Entry}
use Rattle.core_runs.specs.Lists.{said}
use Rattle.core_runs.specs.CoreRuns.{said_by}
use Rattle.order_theory.specs.Races.{Stands, place}
use Rattle.order_theory.specs.Facts.{own_list}
use Rattle.order_theory.proofs.Splits.{same_fronts}
use Rattle.order_axioms.specs.Views.{view}
use Rattle.order_cuts.specs.Cuts.{Follows, IsInside, IsNext}
use Rattle.order_cuts.proofs.OwnParts.{at_place, marks_at, placed}
use Rattle.every_order.specs.Likes.{likes}

module _ (n : ℕ) (t u : List Entry) (fol : Follows (view n) (likes n) t u) where
  abbrev pub IsIn : Stands t → Type 0
  IsIn z = IsInside (view n) (likes n) u z

  words : (i : ℕ) (g : List Entry) → length (said_by i g) ≡ length (own_list (view n) i g)
  words i g = length-map (own_list (view n) i g) (λ (x : Entry). said x.event)

  -- an image's words before its next step are all that it has said in the run
  pub next_words : (x : Stands t) → IsNext (view n) (likes n) u x → said_by x.event.image.0 x.before ≡ said_by x.event.image.0 u
  next_words x next =
      let i = x.event.image.0 in
      let a = words i x.before in
      let b = words i u in
      (same_fronts (Said Ask Reply) (said_by i x.before) (said x.event.event ∷ said_by i x.rest) (said_by i u) (fol.left i)
      (sym (marks_at Entry (Said Ask Reply) (view n) (likes n) t x) ∙ fol.splits i) (omega arith)).0

  -- an image that has said all has made each of its steps
  pub said_inside : (x : Stands t) → said_by x.event.image.0 u ≡ said_by x.event.image.0 t → IsIn x
  said_inside x same =
      let i = x.event.image.0 in
      let a = words i t in
      let b = words i u in
      let e = ap length same in
      let p = placed Entry (Said Ask Reply) (view n) (likes n) t x in
      omega arith

  pub record FirstLeft : Type 0 where
    pub entry : Stands t
    pub outside : IsIn entry → ⊥
    pub before : (z : Stands t) → place z < place entry → IsIn z

  inside_at : (b : List Entry) (e : Entry) (h : List Entry) (s : t ≡ b ++ e ∷ h) → length (own_list (view n) e.image.0 b) < length (own_list (view n) e.image.0 u)
      → (z : Stands t) → place z ≡ length b → IsIn z
  inside_at b e h s l z same =
      let f = same_fronts Entry b (e ∷ h) z.before (z.event ∷ z.rest) (sym s ∙ z.split) (sym same) in
      let q = f.1 in
      let is : e ≡ z.event = cc in
      subst (λ y. length (own_list (view n) y.image.0 z.before) < length (own_list (view n) y.image.0 u)) is
      (subst (λ g. length (own_list (view n) e.image.0 g) < length (own_list (view n) e.image.0 u)) f.0 l)

  look : (b h : List Entry) → t ≡ b ++ h → ((z : Stands t) → place z < length b → IsIn z) → ((z : Stands t) → IsIn z) ⊎ FirstLeft
  look b [] s done = inl (λ z. done z (let a = ap length (s ∙ append-nil b) in let e = ap length z.split in let l = length-append z.before (z.event ∷ z.rest) in omega arith))
  look b (e ∷ h) s done =
      let x : Stands t = record { before = b; event = e; rest = h; split = s } in
      elim (cases_lt (length (own_list (view n) e.image.0 b)) (length (own_list (view n) e.image.0 u))) [
        | inl l ↦ look (b ++ e ∷ []) h (s ∙ sym (append_assoc b (e ∷ []) h)) (λ z m. elim (cases_lt (place z) (length b)) [
          | inl k ↦ done z k
          | inr k ↦ inside_at b e h s l z (let a = length-append b (e ∷ []) in omega arith)
        ])
        | inr l ↦ inr (record { entry = x; outside = λ k. omega arith; before = λ z k. done z k })
      ]

  -- Each step of the trace is made, or one is the first that isn't.
  pub all_or_first : ((z : Stands t) → IsIn z) ⊎ FirstLeft
  all_or_first = look [] t refl (λ z l. absurd (omega arith))

  -- and that one comes next for its image
  pub next_is : (f : FirstLeft) → IsNext (view n) (likes n) u f.entry
  next_is f = elim (cases_lt (length (own_list (view n) i u)) (length (own_list (view n) i f.entry.before))) [
    | inr l ↦ elim (cases_lt (length (own_list (view n) i f.entry.before)) (length (own_list (view n) i u))) [
      | inl m ↦ absurd (f.outside m)
      | inr m ↦ omega arith
    ]
    | inl l ↦ absurd (
        let x = f.entry in
        let y = at_place Entry (Said Ask Reply) (view n) (likes n) i (length (own_list (view n) i u)) x.before l in
        let z : Stands t = record {
          before = y.0.before;
          event = y.0.event;
          rest = y.0.rest ++ x.event ∷ x.rest;
          split = x.split ∙ ap (λ w. w ++ x.event ∷ x.rest) y.0.split ∙ append_assoc y.0.before (y.0.event ∷ y.0.rest) (x.event ∷ x.rest);
        } in
        let short = ap length y.0.split ∙ length-append y.0.before (y.0.event ∷ y.0.rest) in
        let inside = f.before z (omega arith) in
        let a = ap (λ j. length (own_list (view n) j y.0.before)) y.1 in
        let b = ap (λ j. length (own_list (view n) j u)) y.1 in
        let p = y.2 in
        omega arith)
  ]
    where
      i : ℕ
      i = f.entry.event.image.0

  -- where all are made each image has said the same
  pub whole_if : ((z : Stands t) → IsIn z) → (i : ℕ) → said_by i u ≡ said_by i t
  whole_if all i = by (fol.left i) refl
    where
      by : (l : List (Said Ask Reply)) → fol.left i ≡ l → said_by i u ≡ said_by i t
      by [] e = sym (fol.splits i ∙ ap (λ z. said_by i u ++ z) e ∙ append-nil (said_by i u))
      by (w ∷ l) e = absurd (
          let whole : said_by i t ≡ said_by i u ++ w ∷ l = fol.splits i ∙ ap (λ z. said_by i u ++ z) e in
          let size = ap length whole ∙ length-append (said_by i u) (w ∷ l) in
          let a = words i t in
          let b = words i u in
          let z = at_place Entry (Said Ask Reply) (view n) (likes n) i (length (own_list (view n) i u)) t (omega arith) in
          let inside = all z.0 in
          let p = ap (λ j. length (own_list (view n) j z.0.before)) z.1 in
          let q = ap (λ j. length (own_list (view n) j u)) z.1 in
          let r = z.2 in
          omega arith)
