-- The induction of the law: where each next step of a run has the reply that it has in t, its images say no more than
-- those of t.
use Rattle.std.proofs.Common.{◌≡◌, ℕ, ◌+◌, nat_eq, cond, List, [], ◌∷◌, ◌++◌, length, map, inl, inr, refl, ap, sym, ◌∙◌, subst, arith, append_assoc, length-append}
use Rattle.std.proofs.lemmas.List.{append-nil, map-append, length-map}
use Rattle.std.proofs.lemmas.List.Elements.{filter-append}
use Rattle.std.proofs.lemmas.Bool.{eq-eqb, cases_Bool, eqb-true}
use Rattle.trace_theory.specs.Entries.{Each}
use Rattle.trace_theory.specs.Machines.{Move, Said, Walk, OneNextAsk}
use Rattle.caf_events.specs.declared.ask.Ask.{Ask}
use Rattle.caf_events.specs.declared.reply.Reply.{Reply}
use Rattle.caf_events.specs.declared.event.Entry.{Entry}
use Rattle.order_theory.specs.Facts.{own_list}
use Rattle.order_theory.proofs.Splits.{same_fronts}
use Rattle.order_axioms.specs.Views.{view}
use Rattle.core_runs.specs.Lists.{said}
use Rattle.core_runs.specs.Moments.{Rules}
use Rattle.core_runs.specs.Beginnings.{Beginning}
use Rattle.core_runs.specs.CoreRuns.{IsCoreRun, said_by}
use Rattle.core_runs.proofs.Fronts.{core_run_front}
use Rattle.order_cuts.specs.Cuts.{Follows, IsNext}
use Rattle.order_cuts.proofs.OwnParts.{at_place, marks_at}
use Rattle.every_order.specs.Likes.{likes}
use Rattle.every_order.specs.Following.{RepliesSame, StaysAtEnd}

module _ {C : Type 0} (step : C → Move C Ask Reply) (one : OneNextAsk step) where
  -- after the same words two walks ask the same
  pub walk_next : (c d d' : C) (es rest rest' : List (Said Ask Reply)) (e f : Said Ask Reply) → Walk step c (es ++ e ∷ rest) d → Walk step c (es ++ f ∷ rest') d' → (e.ask ≡ f.ask) × (e.line ≡ f.line)
  walk_next c d d' [] rest rest' e f (k, p, w) (k', p', w') = let o = one c e.ask f.ask e.line f.line k k' p p' in (o.0, o.1)
  walk_next c d d' (s ∷ es) rest rest' e f (k, p, w) (k', p', w') =
      let o = one c s.ask s.ask s.line s.line k k' p p' in
      walk_next (k s.reply) d d' es rest rest' e f w (subst (λ z. Walk step (z s.reply) (es ++ f ∷ rest') d') (sym o.2) w')

pub each_last : {E : Type 0} (P : E → Type 0) (g : List E) (x : E) → Each P (g ++ x ∷ []) → P x
each_last P [] x h = h.0
each_last P (y ∷ g) x h = each_last P g x h.1

-- one more entry in an image's words
pub said_more : (i : ℕ) (g : List Entry) (x : Entry) → said_by i (g ++ x ∷ []) ≡ said_by i g ++ cond (nat_eq x.image.0 i) (said x.event ∷ []) []
said_more i g x =
    ap (map (λ (y : Entry). said y.event)) (filter-append (λ (y : Entry). nat_eq y.image.0 i) g (x ∷ [])) ∙ map-append (λ (y : Entry). said y.event) (own_list (view 0) i g) (own_list (view 0) i (x ∷ []))
    ∙ elim (cases_Bool (nat_eq x.image.0 i)) [ inl a ↦ rw a refl | inr a ↦ rw a refl ]

module _ {C M B : Type 0} (n : ℕ) (r : Rules C M B) (b : Beginning C M B) (one : OneNextAsk r.step) (t : List Entry) (core : IsCoreRun r b t) where
  -- the words that an image has left once it said one more
  abbrev left_after : (ℕ → List (Said Ask Reply)) → ℕ → List (Said Ask Reply) → ℕ → List (Said Ask Reply)
  left_after left i rest j = cond (nat_eq i j) rest (left j)

  module _ (replies : RepliesSame n r b t) (stays : StaysAtEnd n r b t) where
    follows_more : (g : List Entry) (x : Entry) (f : Follows (view n) (likes n) t g) (e : Said Ask Reply) (rest : List (Said Ask Reply)) → f.left x.image.0 ≡ e ∷ rest → said x.event ≡ e
        → Follows (view n) (likes n) t (g ++ x ∷ [])
    follows_more g x f e rest is same = record {
      left = left_after f.left x.image.0 rest;
      splits = λ j. elim (cases_Bool (nat_eq x.image.0 j)) [
        | inl a ↦ (
            let q = eqb-true x.image.0 j a in
            let w : f.left j ≡ said x.event ∷ rest = ap f.left (sym q) ∙ is ∙ ap (λ z. z ∷ rest) (sym same) in
            let m : said_by j (g ++ x ∷ []) ≡ said_by j g ++ said x.event ∷ [] = said_more j g x ∙ ap (λ c. said_by j g ++ cond c (said x.event ∷ []) []) a in
            f.splits j ∙ ap (λ z. said_by j g ++ z) w ∙ sym (append_assoc (said_by j g) (said x.event ∷ []) rest) ∙ ap (λ z. z ++ rest) (sym m)
            ∙ ap (λ c. said_by j (g ++ x ∷ []) ++ cond c rest (f.left j)) (sym a))
        | inr a ↦ (
            let m : said_by j (g ++ x ∷ []) ≡ said_by j g = said_more j g x ∙ ap (λ c. said_by j g ++ cond c (said x.event ∷ []) []) a ∙ append-nil (said_by j g) in
            f.splits j ∙ ap (λ z. z ++ f.left j) (sym m) ∙ ap (λ c. said_by j (g ++ x ∷ []) ++ cond c rest (f.left j)) (sym a))
      ];
    }

    by_left : (g : List Entry) (x : Entry) (f : Follows (view n) (likes n) t g) → IsCoreRun r b (g ++ x ∷ []) → (l : List (Said Ask Reply)) → f.left x.image.0 ≡ l → Follows (view n) (likes n) t (g ++ x ∷ [])
    by_left g x f run [] is = absurd (stays g x run f (f.splits x.image.0 ∙ ap (λ z. said_by x.image.0 g ++ z) is ∙ append-nil (said_by x.image.0 g)))
    by_left g x f run (e ∷ rest) is =
        let i = x.image.0 in
        let whole : said_by i t ≡ said_by i g ++ e ∷ rest = f.splits i ∙ ap (λ z. said_by i g ++ z) is in
        let size : length (said_by i t) ≡ length (said_by i g) + length (e ∷ rest) = ap length whole ∙ length-append (said_by i g) (e ∷ rest) in
        let a = length-map (own_list (view n) i t) (λ (y : Entry). said y.event) in
        let c = length-map (own_list (view n) i g) (λ (y : Entry). said y.event) in
        let y = at_place Entry (Said Ask Reply) (view n) (likes n) i (length (own_list (view n) i g)) t (omega arith) in
        let at : said_by i t ≡ said_by i y.0.before ++ said y.0.event.event ∷ said_by i y.0.rest = subst (λ j. said_by j t ≡ said_by j y.0.before ++ said y.0.event.event ∷ said_by j y.0.rest) y.1 (marks_at Entry (Said Ask Reply) (view n) (likes n) t y.0) in
        let d = length-map (own_list (view n) i y.0.before) (λ (z : Entry). said z.event) in
        let q = y.2 in
        let both = same_fronts (Said Ask Reply) (said_by i y.0.before) (said y.0.event.event ∷ said_by i y.0.rest) (said_by i g) (e ∷ rest) (sym at ∙ whole) (d ∙ q ∙ sym c) in
        let tails = both.1 in
        let is_e : said y.0.event.event ≡ e = cc in
        let here = each_last _ g x run.lawful.images in
        let mine = core.walks i here in
        let yours = run.walks i here in
        let more : said_by i (g ++ x ∷ []) ≡ said_by i g ++ said x.event ∷ [] = said_more i g x ∙ ap (λ c. said_by i g ++ cond c (said x.event ∷ []) []) (eq-eqb i i refl) in
        let asked = walk_next r.step one (b.first i) mine.0 yours.0 (said_by i g) rest [] e (said x.event) (subst (λ z. Walk r.step (b.first i) z mine.0) whole mine.1) (subst (λ z. Walk r.step (b.first i) z yours.0) more yours.1) in
        let next : IsNext (view n) (likes n) g y.0 = ap (λ j. length (own_list (view n) j y.0.before)) y.1 ∙ q ∙ ap (λ j. length (own_list (view n) j g)) (sym y.1) in
        let reply : x.event.reply ≡ e.reply = replies g x y.0 run f next y.1 (ap (λ s. s.ask) is_e ∙ asked.0) ∙ ap (λ s. s.reply) is_e in
        follows_more g x f e rest is (λ k. record { ask = (sym asked.0) k; reply = reply k; line = (sym asked.1) k })

    go_on : (g h : List Entry) → IsCoreRun r b (g ++ h) → Follows (view n) (likes n) t g → Follows (view n) (likes n) t (g ++ h)
    go_on g [] run f = subst (λ z. Follows (view n) (likes n) t z) (sym (append-nil g)) f
    go_on g (x ∷ h) run f =
        let s : (g ++ x ∷ []) ++ h ≡ g ++ x ∷ h = append_assoc g (x ∷ []) h in
        let run' = subst (IsCoreRun r b) (sym s) run in
        let front : IsCoreRun r b (g ++ x ∷ []) = core_run_front C M B r b (g ++ x ∷ []) h run' in
        subst (Follows (view n) (likes n) t) s (go_on (g ++ x ∷ []) h run' (by_left g x f front (f.left x.image.0) refl))

    -- Every core run follows t.
    pub all_follow : (u : List Entry) → IsCoreRun r b u → Follows (view n) (likes n) t u
    all_follow u run = go_on [] u run (record { left = λ i. said_by i t; splits = λ i. refl })
