-- One turn from its first step to its last: what the object answers is recorded, and is what the pass is told.
use Rattle.std.proofs.Common.{◌≡◌, ℕ, ◌+◌, ◌^◌, ◌<◌, max, IsTrue, Bool, List, [], ◌∷◌, ◌++◌, length, get_or, ap, sym, ◌∙◌, subst, arith, Option, Some}
use Rattle.atomic_table.specs.Table.{Me}
use Rattle.caf_events.specs.declared.ask.Ask.{Ask}
use Rattle.caf_events.specs.declared.reply.Reply.{Reply}
use Rattle.caf_events.specs.EventParts.{EventParts}
use Rattle.caf_events.specs.declared.event.Entry.{Entry}
use Rattle.caf_events.specs.Histories.{last_stamp_of}
use Rattle.caf_events.proofs.Serving.{served_more}
use Rattle.trace_theory.proofs.Snocs.{rises_more}
use Rattle.turn_gate.specs.Lists.{stamp_of, entry}
use Rattle.turn_gate.specs.declared.view.View.{View}
use Rattle.turn_gate.specs.declared.turn.Turn.{Turn}
use Rattle.turn_gate.specs.declared.turn.Turn.TheVariants.{Done, NotYet, Full, NoMemory}
use Rattle.turn_gate.specs.Gates.{IsLike, IsRecorded}
use Rattle.turn_gate.specs.Steps.{Holds, holding}
use Rattle.turn_gate.specs.Turns.{Steps, Answers, MayRecord}
use Rattle.turn_gate.proofs.Lists.{last_same, few_entries}

module _ {M : Type 0} (ready : M → List Entry → ℕ → Ask → Bool) (reply : M → List Entry → ℕ → Ask → Reply) (made : M) where
  recorded_more : (h : List Entry) (image : ℕ) (ask : Ask) (line after : ℕ) (e : EventParts) → IsRecorded ready reply made h → Steps ready reply made h image ask line after e → IsRecorded ready reply made (h ++ entry image e ∷ [])
  recorded_more h image ask line after e r s =
      let ask_is : e.ask ≡ ask = ap (λ (x : EventParts). x.ask) s.event in
      let reply_is : e.reply ≡ reply made h image ask = ap (λ (x : EventParts). x.reply) s.event in
      let stamp_is : e.stamp ≡ max after (last_stamp_of h) + 1 = ap (λ (x : EventParts). x.stamp) s.event in
      let last = last_same 0 h in record {
        served = served_more (ready made) (reply made) h (entry image e) r.served
            (subst (λ (a : Ask). IsTrue (ready made h image a)) (sym ask_is) s.was_ready)
            (reply_is ∙ ap (λ (a : Ask). reply made h image a) (sym ask_is));
        rises = rises_more stamp_of 0 h (entry image e) r.rises (omega arith);
      }

  short_enough : (h : List Entry) (image : ℕ) (ask : Ask) (line after : ℕ) (e : EventParts) → IsRecorded ready reply made h → Steps ready reply made h image ask line after e → length h + 1 < 2 ^ 63
  short_enough h image ask line after e r s = let n = few_entries h r.rises in let last = last_same 0 h in let b = s.below.1 in omega arith

  may_record : (h : List Entry) (image : ℕ) (ask : Ask) (line after : ℕ) (turn : Turn) → IsRecorded ready reply made h → Answers ready reply made h image ask line after turn → MayRecord ready reply made h image turn
  may_record h image ask line after (Done e) r a = (short_enough h image ask line after e r a, recorded_more h image ask line after e r a)
  may_record h image ask line after (NotYet back) r a = tt
  may_record h image ask line after (Full back last) r a = tt
  may_record h image ask line after (NoMemory back) r a = tt

pub same_some : {O : Type 0} (o p : O) → Some o ≡ Some p → o ≡ p
same_some o p e = cc

-- the object of a seat that holds one
pub same_object : {O : Type 0} (xs : List (ℕ × Option O)) (o p : O) → xs ≡ (0, Some o) ∷ [] → xs ≡ (0, Some p) ∷ [] → o ≡ p
same_object {O} xs o p e f =
    let s : Some o ≡ Some p = ap (λ (l : List (ℕ × Option O)). (get_or l 0 (0, Some o)).1) (sym e ∙ f) in cc

-- an object with no entry has a recorded history
pub recorded_first : {M : Type 0} (ready : M → List Entry → ℕ → Ask → Bool) (reply : M → List Entry → ℕ → Ask → Reply) (made : M) → IsRecorded ready reply made []
recorded_first ready reply made = record { served = tt; rises = tt }

module _ {M O : Type 0} (made : O → M) (history : O → List Entry) (ready : M → List Entry → ℕ → Ask → Bool) (reply : M → List Entry → ℕ → Ask → Reply)
    (start : O) (me0 me1 : Me (Option O) View) (o : O)
    (h : Holds history (λ x. IsLike made start x × IsRecorded ready reply (made start) (history x)) me0 me1) (in_hand : me1.1 ≡ (0, Some o) ∷ []) where
  object_is : h.object ≡ o
  object_is = same_object me1.1 h.object o (ap (λ (m : Me (Option O) View). m.1) h.me_is) in_hand

  -- with the object in hand
  pub view_is : me1.0 ≡ holding me0.0 (history o)
  view_is = ap (λ (m : Me (Option O) View). m.0) h.me_is ∙ ap (λ x. holding me0.0 (history x)) object_is

  pub like_is : made o ≡ made start
  like_is = subst (λ x. made x ≡ made start) object_is h.is_known.0

  recorded_is : IsRecorded ready reply (made start) (history o)
  recorded_is = subst (λ x. IsRecorded ready reply (made start) (history x)) object_is h.is_known.1

  module _ (image : ℕ) (ask : Ask) (line after : ℕ) (turn : Turn) (a : Answers ready reply (made o) (history o) image ask line after turn) where
    answers_is : Answers ready reply (made start) (history o) image ask line after turn
    answers_is = subst (λ (m : M). Answers ready reply m (history o) image ask line after turn) like_is a

    -- what is recorded, of the view with the object in hand
    pub may : (v : View) → v ≡ me1.0 → MayRecord ready reply (made start) v.seen image turn
    may v same = subst (λ l. MayRecord ready reply (made start) l image turn) (sym (ap (λ (u : View). u.seen) (same ∙ view_is)))
        (may_record ready reply (made start) (history o) image ask line after turn recorded_is answers_is)
