-- The images that wait at the end of a run are told by what the images have said: two runs in which these have said the
-- same have the same waits.
use Rattle.std.proofs.Common.{◌≡◌, ℕ, ◌<◌, List, [], ◌∷◌, ◌⊎◌, inl, inr, refl, ap, sym, ◌∙◌, subst, arith}
use Rattle.caf_events.specs.declared.ask.Ask.{Ask}
use Rattle.caf_events.specs.declared.reply.Reply.{Reply}
use Rattle.caf_events.specs.declared.event.Entry.{Entry}
use Rattle.caf_events.specs.declared.event.Trace.{Trace}
use Rattle.caf_events.specs.Walkers.{AsksNext, IsAtLine}
use Rattle.trace_theory.specs.Entries.{Each, Above, Rises}
use Rattle.trace_theory.specs.Machines.{Move, goes, asks, over, go, Said, Walk, WalkTo, Rests}
use Rattle.trace_theory.proofs.Machines.{one_next_ask}
use Rattle.trace_theory.proofs.Rests.{one_place}
use Rattle.caf_report.specs.declared.report.Waiting.{Waiting}
use Rattle.core_runs.specs.Beginnings.{Beginning, IsImage}
use Rattle.core_runs.specs.CoreRuns.{said_by}
use Rattle.core_runs.specs.Moments.{Rules}
use Rattle.core_runs.specs.Sequences.{HasEndedBy}
use Rattle.core_runs.specs.Waits.{HasEndedIn, IsWaiting}
use Rattle.every_order.specs.EveryOrder.{IsAtEnd}
use Rattle.order_report.specs.Reports.{WaitsAs, AreWaiting}

-- ---- lists that rise

module _ {W : Type 0} (key : W → ℕ) where
  abbrev pub IsAmong : W → List W → Type 0
  IsAmong x [] = ⊥
  IsAmong x (w ∷ ws) = (w ≡ x) ⊎ IsAmong x ws

  among_above : (k : ℕ) (ws : List W) (x : W) → Above key k ws → IsAmong x ws → k < key x
  among_above k [] x above h = absurd h
  among_above k (w ∷ ws) x above (inl e) = subst (λ z. k < key z) e above.0
  among_above k (w ∷ ws) x above (inr h) = among_above k ws x above.1 h

  -- the least of one list, where it is among the others
  same_first : (x y : W) (xs ys : List W) → Above key (key x) xs → Above key (key y) ys → IsAmong x (y ∷ ys) → IsAmong y (x ∷ xs) → x ≡ y
  same_first x y xs ys above_x above_y (inl e) there = sym e
  same_first x y xs ys above_x above_y (inr h) (inl e) = e
  same_first x y xs ys above_x above_y (inr h) (inr k) =
      let a = among_above (key y) ys x above_y h in
      let b = among_above (key x) xs y above_x k in
      absurd (omega arith)

  behind_first : (x y z : W) (xs ys : List W) → Above key (key x) xs → x ≡ y → IsAmong z xs → IsAmong z (y ∷ ys) → IsAmong z ys
  behind_first x y z xs ys above same here (inl e) =
      let a = among_above (key x) xs z above here in
      let b = ap key (same ∙ e) in
      absurd (omega arith)
  behind_first x y z xs ys above same here (inr h) = h

  -- two lists that rise and have the same members are one
  pub one_list : (xs ys : List W) → Rises key xs → Rises key ys → ((x : W) → IsAmong x xs → IsAmong x ys) → ((y : W) → IsAmong y ys → IsAmong y xs) → xs ≡ ys
  one_list [] [] rise_x rise_y forth back = refl
  one_list [] (y ∷ ys) rise_x rise_y forth back = absurd (back y (inl refl))
  one_list (x ∷ xs) [] rise_x rise_y forth back = absurd (forth x (inl refl))
  one_list (x ∷ xs) (y ∷ ys) rise_x rise_y forth back =
      let same = same_first x y xs ys rise_x.0 rise_y.0 (forth x (inl refl)) (back y (inl refl)) in
      let rest = one_list xs ys rise_x.1 rise_y.1 (λ z h. behind_first x y z xs ys rise_x.0 same h (forth z (inr h))) (λ z h. behind_first y x z ys xs rise_y.0 (sym same) h (back z (inr h))) in
      ap (λ z. z ∷ xs) same ∙ ap (λ zs. y ∷ zs) rest

-- ---- one place

rests_asking : {C : Type 0} (m : Move C Ask Reply) (a : Ask) → AsksNext m a → Rests m
rests_asking (goes c) a h = h
rests_asking (asks x l k) a h = tt
rests_asking over a h = absurd h

one_ask : {C : Type 0} (m : Move C Ask Reply) (a c : Ask) → AsksNext m a → AsksNext m c → a ≡ c
one_ask (goes d) a c p q = absurd p
one_ask (asks x l k) a c p q = p ∙ sym q
one_ask over a c p q = absurd p

one_line : {C : Type 0} (m : Move C Ask Reply) (a c : ℕ) → IsAtLine m a → IsAtLine m c → a ≡ c
one_line (goes d) a c p q = absurd p
one_line (asks x l k) a c p q = p ∙ sym q
one_line over a c p q = absurd p

-- a walk to a stop comes to one place
pub one_stop : {C : Type 0} (step : C → Move C Ask Reply) (es : List (Said Ask Reply)) (x a c : C) → WalkTo step x es a → WalkTo step x es c → Rests (step a) → Rests (step c) → a ≡ c
one_stop {C} step [] x a c (m, w, n, p) (o, v, k, q) s t = one_place C Ask Reply step n k x a c (ap (go step n) (sym w) ∙ p) (ap (go step k) (sym v) ∙ q) s t
one_stop {C} step (e ∷ es) x a c (m, (j, comes, w), n, p) (o, (i, comes', v), k, q) s t =
    let same = (one_next_ask C Ask Reply step x e.ask e.ask e.line e.line j i comes comes').2 in
    one_stop step es (j e.reply) a c (m, w, n, p) (o, subst (λ (f : Reply → C). Walk step (f e.reply) es o) (sym same) v, k, q) s t

-- ---- the waits of a run

abbrev image_no : Waiting → ℕ
image_no w = w.image.0

abbrev waiting_of : ℕ → ℕ → Ask → Waiting
waiting_of i line ask = record { image = record { 0 = i }; line = line; ask = ask }

same_parts : (w x : Waiting) → w.image.0 ≡ x.image.0 → w.line ≡ x.line → w.ask ≡ x.ask → w ≡ x
same_parts w x image line ask = ap (λ i. waiting_of i w.line w.ask) image ∙ ap (λ l. waiting_of x.image.0 l w.ask) line ∙ ap (λ a. waiting_of x.image.0 x.line a) ask

each_among : (P : Waiting → Type 0) (ws : List Waiting) (x : Waiting) → Each P ws → IsAmong image_no x ws → P x
each_among P [] x each h = absurd h
each_among P (w ∷ ws) x each (inl e) = subst P e each.0
each_among P (w ∷ ws) x each (inr h) = each_among P ws x each.1 h

-- the wait of an image that is among those that wait
record Found (P : Waiting → Type 0) (ws : List Waiting) (i : ℕ) : Type 0 where
  wait : Waiting
  among : IsAmong image_no wait ws
  image : wait.image.0 ≡ i
  holds : P wait

found_later : (P : Waiting → Type 0) (w : Waiting) (ws : List Waiting) (i : ℕ) → Found P ws i → Found P (w ∷ ws) i
found_later P w ws i f = record { wait = f.wait; among = inr f.among; image = f.image; holds = f.holds }

found : (P : Waiting → Type 0) (ws : List Waiting) (i : ℕ) → Each P ws → WaitsAs i ws → Found P ws i
found P [] i each h = absurd h
found P (w ∷ ws) i each (inl e) = record { wait = w; among = inl refl; image = e; holds = each.0 }
found P (w ∷ ws) i each (inr h) = found_later P w ws i (found P ws i each.1 h)

module _ {C M B : Type 0} (r : Rules C M B) (b : Beginning C M B) where
  abbrev WaitIn : Trace → Waiting → Type 0
  WaitIn t w = IsWaiting r b t.entries w.image.0 w.line w.ask

  -- nobody can step after a trace with its waits
  pub at_end : (t : Trace) (ws : List Waiting) → AreWaiting r b t ws → IsAtEnd r b t.entries
  at_end t ws waiting i here = elim (waiting.all i here) [
    | inl ended ↦ inl ended
    | inr waits ↦ (
        let f = found (WaitIn t) ws i waiting.each waits in
        inr (f.wait.line, f.wait.ask, subst (λ k. IsWaiting r b t.entries k f.wait.line f.wait.ask) f.image f.holds))
  ]

  -- an image that has said the same stands at the same ask
  one_wait : (t u : Trace) (w x : Waiting) → said_by x.image.0 u.entries ≡ said_by x.image.0 t.entries → w.image.0 ≡ x.image.0 → WaitIn t w → WaitIn u x → w ≡ x
  one_wait t u w x said image in_t in_u =
      let here : IsWaiting r b t.entries x.image.0 w.line w.ask = subst (λ i. IsWaiting r b t.entries i w.line w.ask) image in_t in
      let walks = subst (λ es. WalkTo r.step (b.first x.image.0) es in_u.config) said in_u.walks in
      let place = one_stop r.step (said_by x.image.0 t.entries) (b.first x.image.0) in_u.config here.config walks here.walks (rests_asking (r.step in_u.config) x.ask in_u.asks) (rests_asking (r.step here.config) w.ask here.asks) in
      same_parts w x image
      (one_line (r.step here.config) w.line x.line here.line_is (subst (λ c. IsAtLine (r.step c) x.line) place in_u.line_is))
      (one_ask (r.step here.config) w.ask x.ask here.asks (subst (λ c. AsksNext (r.step c) x.ask) place in_u.asks))

  -- who waits in one of the two runs is among those that wait in the other one, where no image that waits has ended
  module _ (t u : Trace) (ws vs : List Waiting) (in_t : AreWaiting r b t ws) (in_u : AreWaiting r b u vs) (said : (i : ℕ) → said_by i u.entries ≡ said_by i t.entries)
      (apart : (i line : ℕ) (ask : Ask) → IsWaiting r b u.entries i line ask → HasEndedIn i u.entries → ⊥) where
    waits_there : (x : Waiting) → IsAmong image_no x vs → IsAmong image_no x ws
    waits_there x among =
        let here = each_among (WaitIn u) vs x in_u.each among in
        elim (in_t.all x.image.0 here.image) [
          | inl ended ↦ absurd (apart x.image.0 x.line x.ask here (subst HasEndedBy (sym (said x.image.0)) ended))
          | inr waits ↦ (
              let f = found (WaitIn t) ws x.image.0 in_t.each waits in
              subst (λ z. IsAmong image_no z ws) (one_wait t u f.wait x (said x.image.0) f.image f.holds here) f.among)
        ]

  -- the waits are the same
  pub same_waits : (t u : Trace) (ws vs : List Waiting) → AreWaiting r b t ws → AreWaiting r b u vs → ((i : ℕ) → said_by i u.entries ≡ said_by i t.entries)
      → ((i line : ℕ) (ask : Ask) → IsWaiting r b t.entries i line ask → HasEndedIn i t.entries → ⊥)
      → ((i line : ℕ) (ask : Ask) → IsWaiting r b u.entries i line ask → HasEndedIn i u.entries → ⊥) → vs ≡ ws
  same_waits t u ws vs in_t in_u said apart_t apart_u =
      one_list image_no vs ws in_u.rises in_t.rises (waits_there t u ws vs in_t in_u said apart_u) (waits_there u t vs ws in_u in_t (λ i. sym (said i)) apart_t)
