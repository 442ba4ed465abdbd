-- The definitions tried on what small programs leave, of two images each: the chain that each of them has is worked out
-- by hand.
use Rattle.std.proofs.Common.{◌≡◌, ℕ, true, false, List, [], ◌∷◌, ◌⊎◌, inl, inr, refl, ap, sym, ◌∙◌, arith}
use Rattle.std.specs.Prelude.{pos}
use Rattle.std.proofs.lemmas.Bool.{both_ways, cases_eq}
use Rattle.caf_events.specs.declared.ask.Ask.{Ask}
use Rattle.caf_events.specs.declared.ask.Ask.TheVariants as asks
use Rattle.caf_events.specs.declared.reply.Reply.{Reply}
use Rattle.caf_events.specs.declared.reply.Reply.TheVariants as replies
use Rattle.caf_events.specs.declared.round.Arriving.TheVariants as arrivings
use Rattle.caf_events.specs.declared.event.Entry.{Entry}
use Rattle.object_rules.specs.Happenings.{control, happened, has_stopped}
use Rattle.core_runs.specs.Beginnings.{IsOneOf}
use Rattle.core_runs.specs.CoreRuns.{at_board}
use Rattle.wait_reason.specs.WaitsFor.{waits_with}
use Rattle.wait_reason.specs.Chains.{Wait, post, stopped, cycle, IsAmong, AsksThere, IsLeft, IsNext, IsFirst, IsChain}

-- Lines are left at 0: no chain looks at them. Stamps too.
abbrev by : ℕ → Ask → Reply → Entry
by i a r = record { image = record { 0 = i }; event = record { ask = a; reply = r; stamp = 0; line = 0 } }

abbrev wait : ℕ → Ask → Wait
wait i a = record { image = i; ask = a }

-- LOCK of the first cell of coarray 0 in the memory of an image, and EVENT WAIT for a post to that of image 1
abbrev lock : ℕ → Ask
lock owner = asks.Lock (record { 0 = owner }) (record { coarray = 0; start = 0; dims = [] })

abbrev event_wait : Ask
event_wait = asks.Wait (record { 0 = 1 }) (record { coarray = 0; start = 0; dims = [] }) 1

two : (k : ℕ) → IsOneOf 2 k → (k ≡ 1) ⊎ (k ≡ 2)
two k one = let a = one.0 in let b = one.1 in elim (cases_eq k 1) [ inl e ↦ inl e | inr ne ↦ inr (omega arith) ]

module _ (t : List Entry) (waits : List Wait) where
  first_one : IsLeft 2 t waits 1 → IsFirst 2 t waits 1
  first_one left = record { of_run = (omega arith, omega arith); left = left; least = λ k one l. (let a = one.0 in omega arith) }

  next_one : (i : ℕ) (a : Ask) → AsksThere waits i a → waits_with 2 t i a 1 ≡ true → IsNext 2 t waits i 1
  next_one i a there w = record { of_run = (omega arith, omega arith); ask = a; there = there; waiting = w; least = λ k one h. (let b = one.0 in omega arith) }

  next_two : (i : ℕ) (a : Ask) → AsksThere waits i a → waits_with 2 t i a 1 ≡ false → waits_with 2 t i a 2 ≡ true → IsNext 2 t waits i 2
  next_two i a there off w = record {
    of_run = (omega arith, omega arith);
    ask = a;
    there = there;
    waiting = w;
    least = λ k one h. elim (two k one) [ inl e ↦ absurd (both_ways (waits_with 2 t i a 1) off (ap (waits_with 2 t i a) (sym e) ∙ h)) | inr e ↦ omega arith ];
  }

-- image 2 is none of the links
new_link : IsAmong 2 (1 ∷ []) → ⊥
new_link a = elim a [ inl e ↦ absurd (omega arith) | inr none ↦ none ]

-- `if (this_image() == 1) sync images (2)`, `if (this_image() == 2) sync all`: image 1 has no partner, and image 2 no
-- round
abbrev without_partner : List Entry
without_partner = by 1 (asks.Pair (record { 0 = 2 } ∷ [])) replies.Done ∷ by 2 (asks.Arrive (record { 0 = 1 }) arrivings.Sync) (replies.Round 1) ∷ []

abbrev without_partner_waits : List Wait
without_partner_waits = wait 1 asks.Unpair ∷ wait 2 (asks.Leave (record { 0 = 1 }) 1) ∷ []

without_partner_chain : IsChain 2 without_partner without_partner_waits (1 ∷ 2 ∷ []) (cycle 1)
without_partner_chain = (
  first_one without_partner without_partner_waits (refl, refl),
  (
    next_two without_partner without_partner_waits 1 asks.Unpair (inl (refl, refl)) refl refl,
    refl,
    new_link,
    (
      next_one without_partner without_partner_waits 2 (asks.Leave (record { 0 = 1 }) 1) (inr (inl (refl, refl))) refl,
      refl,
      inl refl,
    ),
  ),
)

-- `if (this_image() == 1) event wait (e)`: nobody posts
abbrev without_post : List Entry
without_post = by 2 (asks.Stop (pos 0)) replies.Done ∷ []

without_post_chain : IsChain 2 without_post (wait 1 event_wait ∷ []) (1 ∷ []) post
without_post_chain = (first_one without_post (wait 1 event_wait ∷ []) (refl, refl), (event_wait, inl (refl, refl), tt))

-- `if (this_image() == 1) lock (l[1])`, and image 2 does so later: image 1 stops with the lock
abbrev stopped_holder : List Entry
stopped_holder = by 1 (lock 1) (replies.Number (pos 0)) ∷ by 1 (asks.Stop (pos 0)) replies.Done ∷ []

stopped_holder_chain : IsChain 2 stopped_holder (wait 2 (lock 1) ∷ []) (2 ∷ []) (stopped 1)
stopped_holder_chain = (
  record {
    of_run = (omega arith, omega arith);
    left = (refl, refl);
    least = λ k one l. elim (two k one) [ inl e ↦ absurd (let off : true ≡ false = ap (λ z. has_stopped z (happened control (at_board stopped_holder))) (sym e) ∙ l.0 in cc) | inr e ↦ omega arith ];
  },
  (next_one stopped_holder (wait 2 (lock 1) ∷ []) 2 (lock 1) (inl (refl, refl)) refl, refl),
)

-- each image has locked its own variable and then asks for the other's
abbrev two_orders : List Entry
two_orders = by 1 (lock 1) (replies.Number (pos 0)) ∷ by 2 (lock 2) (replies.Number (pos 0)) ∷ []

two_orders_chain : IsChain 2 two_orders (wait 1 (lock 2) ∷ wait 2 (lock 1) ∷ []) (1 ∷ 2 ∷ []) (cycle 1)
two_orders_chain = (
  first_one two_orders (wait 1 (lock 2) ∷ wait 2 (lock 1) ∷ []) (refl, refl),
  (
    next_two two_orders (wait 1 (lock 2) ∷ wait 2 (lock 1) ∷ []) 1 (lock 2) (inl (refl, refl)) refl refl,
    refl,
    new_link,
    (
      next_one two_orders (wait 1 (lock 2) ∷ wait 2 (lock 1) ∷ []) 2 (lock 1) (inr (inl (refl, refl))) refl,
      refl,
      inl refl,
    ),
  ),
)
