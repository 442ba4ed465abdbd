-- Where a limit of stamps is due before an image's next step, the run goes on with it.
use Rattle.std.proofs.Common.{◌≡◌, ℕ, suc, Bool, true, false, cond, nat_eq, List, [], ◌∷◌, ◌++◌, inl, inr, refl, ap, sym, ◌∙◌, subst, arith}
use Rattle.std.specs.Prelude.{map, not, Option, Some, None}
use Rattle.std.specs.List.{filter}
use Rattle.std.proofs.lemmas.Bool.Decides.{eqb_tells}
use Rattle.std.proofs.lemmas.List.{append-nil}
use Rattle.caf_events.specs.declared.ask.Ask.{Ask}
use Rattle.caf_events.specs.declared.ask.Ask.TheVariants as forms
use Rattle.caf_events.specs.declared.reply.Reply.{Reply}
use Rattle.caf_events.specs.declared.reply.Reply.TheVariants as replies
use Rattle.caf_events.specs.declared.event.Entry.{Entry}
use Rattle.caf_events.specs.Asks.{place_of, object_of}
use Rattle.caf_events.specs.Histories.{Served}
use Rattle.trace_theory.specs.Entries.{of, Each, last_or, Earlier, AllLater, IsTraceOrder}
use Rattle.trace_theory.specs.Machines.{Said, Walk}
use Rattle.trace_theory.specs.Runs.{place_last, due}
use Rattle.trace_theory.proofs.Filters.{of_last, of_other}
use Rattle.trace_theory.proofs.Snocs.{split_last, each_last}
use Rattle.core_runs.specs.Lists.{image_of, key_of, stamp_of, own_stamp, said}
use Rattle.core_runs.specs.Moments.{Rules}
use Rattle.core_runs.specs.Beginnings.{Beginning, IsImage, IsPlace}
use Rattle.core_runs.specs.CoreRuns.{of_image, said_by, IsDoneAlone, IsLawful}
use Rattle.core_runs.specs.Sequences.{departure_after, FollowsOn, JoinsBehind, Joins, NothingAfterEnd, HasEndedBy}
use Rattle.core_runs.specs.Waits.{HasEndedIn}
use Rattle.stamp_limits.specs.StampLimits.{StandsForNext, MayStand, is_stamp_limit, said_by_program, IsStampLimitedRun}
use Rattle.stamp_limits.proofs.Fronts.{program_append}
use Rattle.stamp_limits.proofs.Limits.{limit_stamp}

module _ {E : Type 0} (image stamp : E → ℕ) where
  later_last : (e : E) (xs : List E) (x : E) → AllLater image stamp e xs → Earlier image stamp e x → AllLater image stamp e (xs ++ x ∷ [])
  later_last e [] x h l = (l, tt)
  later_last e (y ∷ xs) x h l = (h.0, later_last e xs x h.1 l)

  order_last : (xs : List E) (x : E) → IsTraceOrder image stamp xs → Each (λ y. Earlier image stamp y x) xs → IsTraceOrder image stamp (xs ++ x ∷ [])
  order_last [] x h l = (tt, tt)
  order_last (y ∷ xs) x h l = (later_last y xs x h.0 l.0, order_last xs x h.1 l.1)

-- a limit of stamps may come where a departure is owed, and where none is
follows : (owed : Option Ask) (number : ℕ) → FollowsOn owed (forms.LimitStamp number)
follows None number = λ z. z
follows (Some departure) number = inr tt

joins_last : (owed : Option Ask) (es : List (Said Ask Reply)) (e : Said Ask Reply) → ((o : Option Ask) → FollowsOn o e.ask) → JoinsBehind owed es → JoinsBehind owed (es ++ e ∷ [])
joins_last owed [] e all h = (all owed, tt)
joins_last owed (x ∷ es) e all h = (h.0, joins_last (departure_after x.ask x.reply) es e all h.1)

none_left : {E : Type 0} (xs after : List E) (x y : E) → xs ++ x ∷ [] ≡ xs ++ y ∷ after → after ≡ []
none_left [] after x y e = cc
none_left (z ∷ xs) after x y e = none_left xs after x y (cc)

nothing_last : (es : List (Said Ask Reply)) (e : Said Ask Reply) → NothingAfterEnd es → (HasEndedBy es → ⊥) → NothingAfterEnd (es ++ e ∷ [])
nothing_last es e h on before after y p ends = elim (split_last es before after e y p) [
  | inl a ↦ none_left es after e y (subst (λ g. es ++ e ∷ [] ≡ g ++ y ∷ after) a.all p)
  | inr l ↦ (
      let none = h before l.rest y l.split ends in
      absurd (on (before, y, subst (λ rest. es ≡ before ++ y ∷ rest) none l.split, ends)))
]

module _ {C M B : Type 0} (r : Rules C M B) (b : Beginning C M B) (t : List Entry) (x : Entry) (number : ℕ) (run : IsStampLimitedRun r b t) (ask : x.event.ask ≡ forms.LimitStamp number) where
  abbrev all : List Entry
  all = t ++ x ∷ []

  alone : key_of x ≡ 0
  alone = ap (λ a. object_of (place_of a)) ask

  object_same : (o : ℕ) → of key_of (suc o) all ≡ of key_of (suc o) t
  object_same o = of_other key_of (suc o) t x (λ e. (let z = alone in omega arith))

  -- what each image said stays, but for the limit
  each_said : (P : List (Said Ask Reply) → Type 0) (i : ℕ) → P (said_by i t) → (image_of x ≡ i → P (said_by i t ++ said x.event ∷ [])) → P (said_by i all)
  each_said P i same more = elim (eqb_tells (image_of x) i) [
    | inl e ↦ subst P (sym (ap (map (λ (y : Entry). said y.event)) (of_last image_of i t x e.1) ∙ map_last (of_image i t))) (more e.1)
    | inr e ↦ subst P (sym (ap (map (λ (y : Entry). said y.event)) (of_other image_of i t x e.1))) same
  ]
    where
      map_last : (xs : List Entry) → map (λ (y : Entry). said y.event) (xs ++ x ∷ []) ≡ map (λ (y : Entry). said y.event) xs ++ said x.event ∷ []
      map_last [] = refl
      map_last (y ∷ xs) = ap (λ l. said y.event ∷ l) (map_last xs)

  by_program : (i : ℕ) → said_by_program i all ≡ said_by_program i t
  by_program i =
      program_append i t (x ∷ [])
      ∙ ap (λ l. said_by_program i t ++ l) (none (nat_eq (image_of x) i))
      ∙ append-nil (said_by_program i t)
    where
      none : (c : Bool) → filter (λ (e : Said Ask Reply). not (is_stamp_limit e.ask)) (map (λ (y : Entry). said y.event) (cond c (x ∷ []) [])) ≡ []
      none true = let l : is_stamp_limit x.event.ask ≡ true = ap is_stamp_limit ask in rw l
      none false = refl

  module _ (image : IsImage b (image_of x)) (goes_on : HasEndedIn (image_of x) t → ⊥) (reply : x.event.reply ≡ replies.Done) (stamp : stamp_of x ≡ suc number) (stands : StandsForNext r b t (image_of x) x.event.line number) (later : Each (λ y. Earlier image_of stamp_of y x) t) where
    stamp_due : stamp_of x ≡ due own_stamp (key_of x) x (last_or stamp_of 0 (of image_of (image_of x) t)) (place_last stamp_of (key_of x) (of key_of (key_of x) t))
    stamp_due = stamp ∙ sym (limit_stamp x (last_or stamp_of 0 (of image_of (image_of x) t)) (place_last stamp_of (key_of x) (of key_of (key_of x) t)) (forms.LimitStamp number) ask tt)

    stamp_at : (g : List Entry) (y : Entry) → g ≡ t → y ≡ x → stamp_of y ≡ due own_stamp (key_of y) y (last_or stamp_of 0 (of image_of (image_of y) g)) (place_last stamp_of (key_of y) (of key_of (key_of y) g))
    stamp_at g y p q = rw (p, q) stamp_due

    may : MayStand r b t (image_of x) x.event.line x.event.ask
    may = subst (MayStand r b t (image_of x) x.event.line) (sym ask) stands

    may_at : (g : List Entry) (y : Entry) → g ≡ t → y ≡ x → MayStand r b g (image_of y) y.event.line y.event.ask
    may_at g y p q = rw (p, q) may

    lawful : IsLawful r b all
    lawful = record {
      ordered = order_last image_of stamp_of t x run.lawful.ordered later;
      stamped = λ g g' y e. elim (split_last t g g' x y e) [
        | inl a ↦ stamp_at g y a.all a.last
        | inr l ↦ run.lawful.stamped g l.rest y l.split
      ];
      images = each_last (λ y. IsImage b (image_of y)) t x run.lawful.images image;
      places = each_last (λ y. IsPlace b (place_of y.event.ask)) t x run.lawful.places (subst (λ a. IsPlace b (place_of a)) (sym ask) tt);
      memories = λ i here. subst (Served (r.memory_ready (b.memory i)) (r.memory_reply (b.memory i)) []) (sym (object_same i)) (run.lawful.memories i here);
      board = subst (Served (r.board_ready b.board) (r.board_reply b.board) []) (sym (object_same 0)) run.lawful.board;
      alone = each_last IsDoneAlone t x run.lawful.alone (λ own. reply);
      joins = λ i. each_said Joins i (run.lawful.joins i) (λ e. joins_last None (said_by i t) (said x.event) (λ o. subst (FollowsOn o) (sym ask) (follows o number)) (run.lawful.joins i));
    }

    -- the run with the limit at its end ends at limits of stamps
    pub goes_on_limited : IsStampLimitedRun r b all
    goes_on_limited = record {
      lawful = lawful;
      walks = λ i here. subst (λ es. (c : C) × Walk r.step (b.first i) es c) (sym (by_program i)) (run.walks i here);
      nothing_after = λ i. each_said NothingAfterEnd i (run.nothing_after i) (λ e. nothing_last (said_by i t) (said x.event) (run.nothing_after i) (λ ended. goes_on (subst (λ k. HasEndedIn k t) (sym e) ended)));
      limits = λ g g' y e. elim (split_last t g g' x y e) [
        | inl a ↦ may_at g y a.all a.last
        | inr l ↦ run.limits g l.rest y l.split
      ];
    }
