-- Acts of allocation and deallocation, and the two of a collective: what is known behind each.
use Rattle.std.proofs.Common.{ℕ, ◌+◌, ◌&&◌, not, List, [], ◌∷◌, length, map, refl}
use Rattle.std.specs.Prelude.{ℤ, pos, ◌-◌, nat_le, take, drop, is_some, Option, None, Some}
use Rattle.trace_theory.specs.Entries.{Each}
use Rattle.caf_base.specs.declared.value.Kind.{Kind}
use Rattle.caf_base.specs.declared.value.Kind.TheVariants as kinds
use Rattle.caf_base.specs.Arithmetic.{truth, number_of}
use Rattle.caf_events.specs.declared.ask.Ask.TheVariants as asks
use Rattle.caf_events.specs.declared.reply.Reply.{Reply}
use Rattle.caf_events.specs.declared.reply.Reply.TheVariants as replies
use Rattle.caf_events.specs.declared.round.GatherOp.{GatherOp}
use Rattle.coarray_types.specs.Places.{size_of}
use Rattle.walk_theory.specs.Language.{goes_to, asking}
use Rattle.object_rules.specs.Cells.{Declared}
use Rattle.image_acts.specs.Statuses.{most_cells}
use Rattle.image_acts.specs.Faults.{room}
use Rattle.image_acts.specs.Acts as a
use Rattle.image_acts.specs.Acts.{Act, allocation, ask}
use Rattle.image_acts.specs.Core.{Core, Array, Local, Own, with_values, pushed, row}
use Rattle.image_acts.specs.Frames.{array_in, with_array_in, zeros_in, pairs_in, cells_in_frames, arrays_of_frames}
use Rattle.image_acts.specs.Owning.{own_in, with_own}
use Rattle.image_acts.specs.Teams.{current_team}
use Rattle.image_acts.specs.Replies.{status_of, spare, round_in, arrival_reply, taken_in, take_reply}
use Rattle.image_acts.specs.Taking.{given, unless, taking}
use Rattle.image_acts.specs.Operate.Variables.{if_room}
use Rattle.image_acts.specs.Operate.Allocating.{bounds_size, cobounds_size, are_cobounds, planned, is_well, are_of_kind_4, own_of, laid, made, noted, freed, own_freed, allocation_effect}
use Rattle.image_acts.specs.Operate.Asking.{team, cells_word, ask_effect}
use Rattle.image_acts.specs.Meaning.{settled, effect_of}
use Rattle.kind_walks.specs.Kinds.{Widens, IsOf, IsArrayOf, Are, Typing, IsSo, with_number, with_array}
use Rattle.kind_walks.specs.Suiting.{Joined, Tells, EffectSuits}
use Rattle.kind_walks.proofs.Numbers.{zero_of, values_fit, numbers_fit}
use Rattle.kind_walks.proofs.Effects.{push, push_array, so, settles, one}
use Rattle.kind_walks.proofs.Frames.{all_widened, array_so}
use Rattle.kind_walks.proofs.StackActs.{Acts, To}
use Rattle.kind_expressions.proofs.VariableActs.{each_same}
use Rattle.kind_expressions.proofs.PlaceActs.{sees}
use Rattle.kind_expressions.proofs.AskActs.{each_taken}

module _ (coarrays : List Declared) (n : ℕ) where
  abbrev any : Typing → Typing
  any s = with_number None s

  three_any : (s : Typing) (c : Core) (x y z : ℤ) → IsSo n s c → IsSo n (any (any (any s))) (with_values c (x ∷ y ∷ z ∷ c.values))
  three_any s c x y z h = record { numbers = (tt, (tt, (tt, h.numbers))); arrays = h.arrays; running = h.running; callers = h.callers; images = h.images; known = h.known; formed = h.formed }

  pub acts_begin_plan : (s : Typing) → Acts coarrays n s (allocation a.begin_plan) (any (any (any s)))
  acts_begin_plan s j c h = three_any s c (pos c.local_cells) (pos c.coarray_cells) (pos 1) h

  -- three numbers on top, the state of a plan
  three_on : (x : Act) (i l o : Option Kind) (s t : Typing) (j : Joined) (c : Core) → IsSo n (with_number i (with_number l (with_number o s))) c → ((u v w : ℤ) (d : Core) → IsSo n s d → To coarrays n t j (effect_of x (pushed u (pushed v (pushed w d)))))
      → To coarrays n t j (effect_of x c)
  three_on x i l o s t j c h f =
      one n coarrays t j i (with_number l (with_number o s)) c h (effect_of x) (λ u b hu hb.
      one n coarrays t j l (with_number o s) b hb (λ b. effect_of x (pushed u b)) (λ v b2 hv h2.
      one n coarrays t j o s b2 h2 (λ b. effect_of x (pushed u (pushed v b))) (λ w d hw hd. f u v w d hd)))

  pub acts_plan_coarray : (k depth rank corank : ℕ) (i l o : Option Kind) (s : Typing) → Acts coarrays n (with_number i (with_number l (with_number o s))) (allocation (a.plan_coarray k depth rank corank)) (any (any (any s)))
  acts_plan_coarray k depth rank corank i l o s j c h =
      let t = any (any (any s)) in
      let x = allocation (a.plan_coarray k depth rank corank) in
      three_on x i l o s t j c h (λ u v w d hd. (
      let e = pushed u (pushed v (pushed w d)) in
      settles n coarrays t j x (allocation_effect (a.plan_coarray k depth rank corank) e)
      (sees coarrays n t j (depth + 3) (bounds_size rank + cobounds_size corank) e
      (λ vs. taking 3 e (λ plan d. planned (not (is_some (own_in d k)) && (are_of_kind_4 vs && are_cobounds (drop (bounds_size rank) vs))) (size_of (pairs_in (take (bounds_size rank) vs))) 0 plan d))
      (λ vs. three_any s d _ _ _ hd))))

  pub acts_plan_local : (y : a.Scope) (x depth rank : ℕ) (i l o : Option Kind) (s : Typing) → Acts coarrays n (with_number i (with_number l (with_number o s))) (allocation (a.plan_local y x depth rank)) (any (any (any s)))
  acts_plan_local y x depth rank i l o s j c h =
      let t = any (any (any s)) in
      let z = allocation (a.plan_local y x depth rank) in
      three_on z i l o s t j c h (λ u v w d hd. (
      let e = pushed u (pushed v (pushed w d)) in
      settles n coarrays t j z (allocation_effect (a.plan_local y x depth rank) e)
      (sees coarrays n t j (depth + 3) (bounds_size rank) e (λ vs. taking 3 e (λ plan d. planned (not (is_some (array_in y x d)) && are_of_kind_4 vs) 0 (size_of (pairs_in vs)) plan d)) (λ vs. three_any s d _ _ _ hd))))

  pub acts_end_plan : (i l o : Option Kind) (s : Typing) → Acts coarrays n (with_number i (with_number l (with_number o s))) (allocation a.end_plan) (with_number (Some kinds.L4) s)
  acts_end_plan i l o s j c h =
      three_on (allocation a.end_plan) i l o s (with_number (Some kinds.L4) s) j c h (λ u v w d hd. push n (Some kinds.L4) s d (truth (is_well (w ∷ v ∷ u ∷ []))) refl hd)

  zeros_so : (y : a.Scope) (x : ℕ) (bs : List (ℤ × ℤ)) (s : Typing) (d : Core) → IsSo n s d → IsSo n s (with_array_in y x (Some (zeros_in bs)) d)
  zeros_so y x bs s d h = array_so n s y x (Some (zeros_in bs)) d h (λ k q. each_same (IsOf k) (size_of bs) (pos 0) (zero_of k))

  local_so : (s : Typing) (c : Core) (m : ℕ) → IsSo n s c → IsSo n s (record c { local_cells = m })
  local_so s c m h = record { numbers = h.numbers; arrays = h.arrays; running = h.running; callers = h.callers; images = h.images; known = h.known; formed = h.formed }

  pub acts_make : (y : a.Scope) (x depth rank : ℕ) (s : Typing) → Acts coarrays n s (allocation (a.make y x depth rank)) s
  acts_make y x depth rank s j c h =
      settles n coarrays s j (allocation (a.make y x depth rank)) (allocation_effect (a.make y x depth rank) c)
      (sees coarrays n s j depth (bounds_size rank) c (λ vs. made y x rank (pairs_in vs) c) (λ vs. makes (pairs_in vs)))
    where
      makes : (bs : List (ℤ × ℤ)) → To coarrays n s j (made y x rank bs c)
      makes bs =
          let d = record c { local_cells = c.local_cells + size_of bs } in
          let e = with_array_in y x (Some (zeros_in bs)) d in
          so n coarrays s j room (nat_le (c.local_cells + size_of bs) most_cells) (laid y x rank bs d)
          (so n coarrays s j room (nat_le rank 3) (if_room e) (so n coarrays s j room (nat_le (cells_in_frames (arrays_of_frames e)) e.array_room) (goes_to e) (zeros_so y x bs s d (local_so s c (c.local_cells + size_of bs) h))))

  pub acts_free : (y : a.Scope) (x : ℕ) (s : Typing) → Acts coarrays n s (allocation (a.free y x)) s
  acts_free y x s j c h = settles n coarrays s j (allocation (a.free y x)) (allocation_effect (a.free y x) c) (by_array (array_in y x c))
    where
      by_array : (o : Option Local) → To coarrays n s j (freed y x o c)
      by_array None = tt
      by_array (Some l) = local_so s (with_array_in y x None c) (c.local_cells - length l.elements) (array_so n s y x None c h (λ k q. tt))

  own_so : (s : Typing) (c : Core) (k m : ℕ) (o : Option Own) → IsSo n s c → IsSo n s (with_own k o m c)
  own_so s c k m o h = record { numbers = h.numbers; arrays = h.arrays; running = h.running; callers = h.callers; images = h.images; known = h.known; formed = h.formed }

  pub acts_note_made : (k depth rank corank : ℕ) (s : Typing) → Acts coarrays n s (allocation (a.note_made k depth rank corank)) s
  acts_note_made k depth rank corank s j c h =
      settles n coarrays s j (allocation (a.note_made k depth rank corank)) (allocation_effect (a.note_made k depth rank corank) c)
      (sees coarrays n s j depth (bounds_size rank + cobounds_size corank) c (λ vs. noted k rank corank (pairs_in (take (bounds_size rank) vs)) (drop (bounds_size rank) vs) c) (λ vs. notes (pairs_in (take (bounds_size rank) vs)) (drop (bounds_size rank) vs)))
    where
      notes : (bs : List (ℤ × ℤ)) (cs : List ℤ) → To coarrays n s j (noted k rank corank bs cs c)
      notes bs cs =
          let e = with_own k (Some (own_of bs cs (current_team c))) (c.coarray_cells + size_of bs) c in
          so n coarrays s j room (nat_le rank 3 && nat_le corank 3) (unless room (nat_le (c.coarray_cells + size_of bs) most_cells) (goes_to e))
          (so n coarrays s j room (nat_le (c.coarray_cells + size_of bs) most_cells) (goes_to e) (own_so s c k (c.coarray_cells + size_of bs) (Some (own_of bs cs (current_team c))) h))

  pub acts_note_freed : (k : ℕ) (s : Typing) → Acts coarrays n s (allocation (a.note_freed k)) s
  acts_note_freed k s j c h = settles n coarrays s j (allocation (a.note_freed k)) (allocation_effect (a.note_freed k) c) (by_own (own_in c k))
    where
      by_own : (o : Option Own) → To coarrays n s j (own_freed k o c)
      by_own None = tt
      by_own (Some o) = own_so s c k (c.coarray_cells - size_of o.bounds) None h

  pub acts_create : (k depth rank : ℕ) (s : Typing) → Acts coarrays n s (ask (a.create k depth rank)) s
  acts_create k depth rank s j c h =
      settles n coarrays s j (ask (a.create k depth rank)) (ask_effect (a.create k depth rank) c)
      (sees coarrays n s j depth (bounds_size rank) c (λ vs. asking (asks.Create (record { 0 = c.me }) k (cells_word (size_of (pairs_in vs)))) (λ r. c)) (λ vs. (tt, λ r y. h)))

  -- ---- a collective: the arrival, and directly behind it the departure with values of the same kind
  module _ (kind : Kind) (s : Typing) where
    abbrev joined_on : Typing
    joined_on = with_number (Some kinds.I4) (with_array (Some kind) s)

    taken_values : (o : ℤ) (m k : ℕ) (r : Reply) → Tells coarrays (Some kind) (asks.Take (team o) k) r → Each (IsOf (Some kind)) (taken_in m r)
    taken_values o m k (replies.Taken v vs) y = each_taken (IsOf (Some kind)) m (map number_of vs) (numbers_fit kind vs y.1)
    taken_values o m k r y = tt

    takes_so : (o : Option ℕ) (d : Core) → IsSo n s d
        → EffectSuits coarrays (settled (ask a.take) (given o (λ r. asking (asks.Take (team (pos (current_team d))) r) (take_reply d)))) (λ i e. IsSo n joined_on e) (Some kind)
    takes_so None d h = tt
    takes_so (Some k) d h = (
      tt,
      λ r y. (
          let vs = taken_in (spare d) r in
          push n (Some kinds.I4) (with_array (Some kind) s) (record d { arrays = row vs (length vs) ∷ d.arrays }) (status_of r) y.0 (push_array n (Some kind) s d (row vs (length vs)) (taken_values (pos (current_team d)) (spare d) k r y) h)),
    )

    arrived : (d : Core) (r : Reply) → IsSo n s d → IsSo n s (arrival_reply d r)
    arrived d r h = record { numbers = h.numbers; arrays = h.arrays; running = h.running; callers = h.callers; images = h.images; known = h.known; formed = h.formed }

    pub gathers : (op : GatherOp) (i l : Option Kind) → Widens l (Some kind) → (j : Joined) (c : Core) → IsSo n (with_number i (with_array l s)) c
        → EffectSuits coarrays (effect_of (ask (a.gather op kind)) c) (λ q d. EffectSuits coarrays (effect_of (ask a.take) d) (λ z e. IsSo n joined_on e) q) j
    gathers op i l w j c h = by_operands c.values c.arrays h.numbers h.arrays
      where
        by_operands : (vs : List ℤ) (xs : List Array) → Are IsOf (i ∷ s.numbers) vs → Are IsArrayOf (l ∷ s.arrays) xs
            → EffectSuits coarrays (effect_of (ask (a.gather op kind)) (record c { values = vs; arrays = xs })) (λ q d. EffectSuits coarrays (effect_of (ask a.take) d) (λ z e. IsSo n joined_on e) q) j
        by_operands [] xs f g = absurd f
        by_operands (v ∷ vs) [] f g = absurd g
        by_operands (v ∷ vs) (x ∷ xs) f g =
            let d = record c { values = vs; arrays = xs } in
            let hd : IsSo n s d = record { numbers = f.1; arrays = g.1; running = h.running; callers = h.callers; images = h.images; known = h.known; formed = h.formed } in
            (values_fit kind x.elements (all_widened l (Some kind) w x.elements g.0), λ r y. takes_so (round_in r) (arrival_reply d r) (arrived d r hd))
