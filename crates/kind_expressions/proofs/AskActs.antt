-- Asks that bring values, and asks that take some: what is known behind each, and that its values are of their kind.
use Rattle.std.proofs.Common.{◌≡◌, ◌∙◌, ℕ, zero, suc, true, List, [], ◌∷◌, ◌++◌, length, map, replicate, slice_get, refl, ap, sym, subst}
use Rattle.std.specs.Prelude.{ℤ, pos, min, take, Option, None, Some}
use Rattle.std.specs.List.{list_all}
use Rattle.std.proofs.lemmas.Bool.{and_from, and_parts}
use Rattle.trace_theory.specs.Entries.{Each}
use Rattle.caf_base.specs.declared.place.ImageNo.{ImageNo}
use Rattle.caf_base.specs.declared.value.Kind.{Kind}
use Rattle.caf_base.specs.declared.value.Kind.TheVariants as kinds
use Rattle.caf_base.specs.declared.value.Value.{Value}
use Rattle.caf_base.specs.Arithmetic.{fits_kind, number_of, value_of, natural}
use Rattle.caf_events.specs.declared.ask.Ask.TheVariants as asks
use Rattle.caf_events.specs.declared.reply.Reply.{Reply}
use Rattle.caf_events.specs.declared.reply.Reply.TheVariants as replies
use Rattle.walk_theory.specs.Language.{asking}
use Rattle.object_rules.specs.Folds.{is_of_kind}
use Rattle.object_rules.specs.Kinds.{same_value_kind}
use Rattle.object_rules.specs.Cells.{Content, of_kind, locks, events, Declared}
use Rattle.object_rules.specs.Answering.{is_held, is_of_content}
use Rattle.object_rules.specs.MemoryRules as memory
use Rattle.object_rules.specs.MemoryRules.{suits_values}
use Rattle.image_acts.specs.Words.{word}
use Rattle.image_acts.specs.Faults.{cobounds_fault}
use Rattle.image_acts.specs.Acts as a
use Rattle.image_acts.specs.Acts.{ask}
use Rattle.image_acts.specs.Core.{Core, with_values, pushed, row}
use Rattle.image_acts.specs.Places.{Place, place_in, place_size, extents_of, cells_of}
use Rattle.image_acts.specs.Replies.{status_of, spare, values_in, read_reply, with_status, indices_reply}
use Rattle.image_acts.specs.Taking.{put_down, taking_one, taking_array}
use Rattle.image_acts.specs.Teams.{members, is_index_of}
use Rattle.image_acts.specs.Operate.Asking.{image, team, span_of, ask_effect}
use Rattle.image_acts.specs.Meaning.{effect_of}
use Rattle.kind_walks.specs.Kinds.{Widens, Typing, IsSo, IsOf, with_number, with_array}
use Rattle.kind_walks.specs.Suiting.{Joined, IsSmall, Tells}
use Rattle.kind_walks.proofs.Numbers.{zero_of, small_fits, values_fit, value_repeats, numbers_fit}
use Rattle.kind_walks.proofs.Effects.{with_numbers, push, push_array, so, settles, one, top, many, takes}
use Rattle.kind_walks.proofs.Frames.{widened, all_widened}
use Rattle.kind_walks.proofs.StackActs.{Acts}
use Rattle.kind_expressions.specs.Kinded.{is_of}
use Rattle.kind_expressions.proofs.VariableActs.{each_same}

-- ---- a declared coarray of this kind
same_kind : (j k : Kind) → same_value_kind j k ≡ true → j ≡ k
same_kind kinds.I4 kinds.I4 e = refl
same_kind kinds.I8 kinds.I8 e = refl
same_kind kinds.L4 kinds.L4 e = refl
same_kind kinds.I4 kinds.I8 e = absurd (cc)
same_kind kinds.I4 kinds.L4 e = absurd (cc)
same_kind kinds.I8 kinds.I4 e = absurd (cc)
same_kind kinds.I8 kinds.L4 e = absurd (cc)
same_kind kinds.L4 kinds.I4 e = absurd (cc)
same_kind kinds.L4 kinds.I8 e = absurd (cc)

content_is : (k : Kind) (c : Content) → is_of k c ≡ true → c ≡ of_kind k
content_is k (of_kind j) e = ap of_kind (sym (same_kind k j e))
content_is k locks e = absurd (cc)
content_is k events e = absurd (cc)

-- values that it holds are of the kind
held_values : (k : Kind) (o : Option Declared) → memory.holds (is_of k) o ≡ true → (vs : List Value) → list_all (is_held o) vs ≡ true → list_all (is_of_kind k) vs ≡ true
held_values k o h [] e = refl
held_values k None h (v ∷ vs) e = absurd (cc)
held_values k (Some d) h (v ∷ vs) e = (
    let p = and_parts (is_held (Some d) v) (list_all (is_held (Some d)) vs) e in
    and_from (is_of_kind k v) (list_all (is_of_kind k) vs) (subst (λ c. is_of_content c v ≡ true) (content_is k d.content h) p.0) (held_values k (Some d) h vs p.1))

pub held_value : (k : Kind) (o : Option Declared) → memory.holds (is_of k) o ≡ true → (v : Value) → is_held o v ≡ true → is_of_kind k v ≡ true
held_value k None h v e = absurd (cc)
held_value k (Some d) h v e = subst (λ c. is_of_content c v ≡ true) (content_is k d.content h) e

-- and values of the kind suit it
pub suits_so : (k : Kind) (o : Option Declared) → memory.holds (is_of k) o ≡ true → (vs : List Value) → list_all (is_of_kind k) vs ≡ true → memory.holds (suits_values vs) o ≡ true
suits_so k None h vs e = absurd (cc)
suits_so k (Some d) h vs e = subst (λ c. suits_values vs c ≡ true) (sym (content_is k d.content h)) e

-- ---- values that are taken from a reply
pub each_taken : (P : ℤ → Type 0) (m : ℕ) (vs : List ℤ) → Each P vs → Each P (take m vs)
each_taken P zero vs h = tt
each_taken P (suc m) [] h = tt
each_taken P (suc m) (v ∷ vs) h = (h.0, each_taken P m vs h.1)

all_small : (ns : List ℕ) → Each IsSmall ns → Each (IsOf (Some kinds.I4)) (map (λ m. pos m) ns)
all_small [] h = tt
all_small (m ∷ ns) h = (small_fits m h.0, all_small ns h.1)

module _ (coarrays : List Declared) (n : ℕ) where
  abbrev small : Typing → Typing
  small s = with_number (Some kinds.I4) s

  stated : (s : Typing) (r : Reply) (c : Core) → fits_kind kinds.I4 (status_of r) ≡ true → IsSo n s c → IsSo n (small s) (with_status r c)
  stated s r c e h = push n (Some kinds.I4) s c (status_of r) e h

  -- ---- a reference
  read_values : (k : Kind) (x : ℕ) → memory.holds (is_of k) (slice_get coarrays x) ≡ true → (j : Joined) (o : ImageNo) (p : Place) (m : ℕ) (r : Reply) → Tells coarrays j (asks.Read o (span_of x p)) r → Each (IsOf (Some k)) (values_in m p r)
  read_values k x h j o p m (replies.Values vs) t = each_taken (IsOf (Some k)) m (map number_of vs) (numbers_fit k vs (held_values k (slice_get coarrays x) h vs t.1))
  read_values k x h j o p m r t = each_same (IsOf (Some k)) (min m (cells_of p)) (pos 0) (zero_of (Some k))

  pub acts_read : (i : Option Kind) (ks : List (Option Kind)) (x rank : ℕ) (k : Kind) → memory.holds (is_of k) (slice_get coarrays x) ≡ true → length ks ≡ place_size rank → (s : Typing)
      → Acts coarrays n (with_number i (with_numbers ks s)) (ask (a.read x rank)) (small (with_array (Some k) s))
  acts_read i ks x rank k held e s j c h =
      let t = small (with_array (Some k) s) in
      one n coarrays t j i (with_numbers ks s) c h (effect_of (ask (a.read x rank))) (λ o b ho hb.
      many n coarrays t j ks s b hb (λ b. effect_of (ask (a.read x rank)) (pushed o b)) (λ xs d l g hd.
      let p = place_in (put_down xs []) in
      settles n coarrays t j (ask (a.read x rank)) (ask_effect (a.read x rank) (pushed o (with_values d (xs ++ d.values))))
      (takes n coarrays t j (place_size rank) xs d.values (λ q. asking (asks.Read (image o) (span_of x (place_in q.0))) (read_reply (place_in q.0) (with_values d q.1))) (l ∙ e) (
        tt,
        λ r y. stated (with_array (Some k) s) r (record d { arrays = record { extents = extents_of p; elements = values_in (spare d) p r } ∷ d.arrays }) y.0
            (push_array n (Some k) s d (record { extents = extents_of p; elements = values_in (spare d) p r }) (read_values k x held j (image o) p (spare d) r y) hd),
      ))))

  -- ---- a definition of a coarray, one number to each cell or an array
  pub acts_write : (i l : Option Kind) (ks : List (Option Kind)) (x rank : ℕ) (k : Kind) → memory.holds (is_of k) (slice_get coarrays x) ≡ true → Widens l (Some k) → length ks ≡ place_size rank → (s : Typing)
      → Acts coarrays n (with_number i (with_numbers ks (with_number l s))) (ask (a.write x rank k)) (small s)
  acts_write i l ks x rank k held w e s j c h =
      let t = small s in
      one n coarrays t j i (with_numbers ks (with_number l s)) c h (effect_of (ask (a.write x rank k))) (λ o b ho hb.
      many n coarrays t j ks (with_number l s) b hb (λ b. effect_of (ask (a.write x rank k)) (pushed o b)) (λ xs b2 m g h2.
      one n coarrays t j l s b2 h2 (λ b. effect_of (ask (a.write x rank k)) (pushed o (with_values b (xs ++ b.values)))) (λ v d hv hd.
      let p = place_in (put_down xs []) in
      settles n coarrays t j (ask (a.write x rank k)) (ask_effect (a.write x rank k) (pushed o (with_values d (xs ++ (v ∷ d.values)))))
      (takes n coarrays t j (place_size rank) xs (v ∷ d.values)
      (λ q. taking_one (with_values d q.1) (λ v e. asking (asks.Write (image o) (span_of x (place_in q.0)) (replicate (cells_of (place_in q.0)) (value_of k v))) (λ r. with_status r e))) (m ∙ e)
      (suits_so k (slice_get coarrays x) held (replicate (cells_of p) (value_of k v)) (value_repeats k (cells_of p) v (widened l (Some k) w v hv)), λ r y. stated s r d y.0 hd)))))

  pub acts_write_array : (i l : Option Kind) (ks : List (Option Kind)) (x rank : ℕ) (k : Kind) → memory.holds (is_of k) (slice_get coarrays x) ≡ true → Widens l (Some k) → length ks ≡ place_size rank → (s : Typing)
      → Acts coarrays n (with_number i (with_numbers ks (with_array l s))) (ask (a.write_array x rank k)) (small s)
  acts_write_array i l ks x rank k held w e s j c h =
      let t = small s in
      one n coarrays t j i (with_numbers ks (with_array l s)) c h (effect_of (ask (a.write_array x rank k))) (λ o b ho hb.
      many n coarrays t j ks (with_array l s) b hb (λ b. effect_of (ask (a.write_array x rank k)) (pushed o b)) (λ xs b2 m g h2.
      top n coarrays t j l s b2 h2 (λ b. effect_of (ask (a.write_array x rank k)) (pushed o (with_values b (xs ++ b.values)))) (λ y d hy hd.
      let e2 = record d { arrays = y ∷ d.arrays } in
      settles n coarrays t j (ask (a.write_array x rank k)) (ask_effect (a.write_array x rank k) (pushed o (with_values e2 (xs ++ d.values))))
      (takes n coarrays t j (place_size rank) xs d.values
      (λ q. taking_array (with_values e2 q.1) (λ y e. asking (asks.Write (image o) (span_of x (place_in q.0)) (map (value_of k) y.elements)) (λ r. with_status r e))) (m ∙ e)
      (suits_so k (slice_get coarrays x) held (map (value_of k) y.elements) (values_fit k y.elements (all_widened l (Some k) w y.elements hy)), λ r z. stated s r d z.0 hd)))))

  -- ---- inquiries of images
  pub acts_status : (i l : Option Kind) (s : Typing) → Acts coarrays n (with_number l (with_number i s)) (ask a.status) (small s)
  acts_status i l s j c h =
      one n coarrays (small s) j l (with_number i s) c h (effect_of (ask a.status)) (λ t b ht hb.
      one n coarrays (small s) j i s b hb (λ b. effect_of (ask a.status) (pushed t b)) (λ v d hv hd.
      settles n coarrays (small s) j (ask a.status) (ask_effect a.status (pushed t (pushed v d)))
      (so n coarrays (small s) j cobounds_fault (is_index_of (length (members d (natural t))) v) (asking (asks.Status (team t) (word v)) (λ r. with_status r d)) (tt, λ r y. stated s r d y.0 hd))))

  indexed : (m : ℕ) (r : Reply) (c : Core) → (ns : List ℕ) → Each IsSmall ns → Each (IsOf (Some kinds.I4)) (take m (map (λ i. pos i) ns))
  indexed m r c ns h = each_taken (IsOf (Some kinds.I4)) m (map (λ i. pos i) ns) (all_small ns h)

  indices : (s : Typing) (d : Core) → IsSo n s d → (xs : List ℤ) → Each (IsOf (Some kinds.I4)) xs → IsSo n (with_array (Some kinds.I4) s) (record d { arrays = row xs (length xs) ∷ d.arrays })
  indices s d h xs g = push_array n (Some kinds.I4) s d (row xs (length xs)) g h

  failed_so : (t : ℤ) (s : Typing) (j : Joined) (d : Core) → IsSo n s d → (r : Reply) → Tells coarrays j (asks.Failed (team t)) r → IsSo n (with_array (Some kinds.I4) s) (indices_reply d r)
  failed_so t s j d h (replies.Indices ns) y = indices s d h (take (spare d) (map (λ i. pos i) ns)) (indexed (spare d) (replies.Indices ns) d ns y.1)
  failed_so t s j d h r y = indices s d h [] tt

  stopped_so : (t : ℤ) (s : Typing) (j : Joined) (d : Core) → IsSo n s d → (r : Reply) → Tells coarrays j (asks.Stopped (team t)) r → IsSo n (with_array (Some kinds.I4) s) (indices_reply d r)
  stopped_so t s j d h (replies.Indices ns) y = indices s d h (take (spare d) (map (λ i. pos i) ns)) (indexed (spare d) (replies.Indices ns) d ns y.1)
  stopped_so t s j d h r y = indices s d h [] tt

  pub acts_failed : (i : Option Kind) (s : Typing) → Acts coarrays n (with_number i s) (ask a.failed) (with_array (Some kinds.I4) s)
  acts_failed i s j c h = one n coarrays (with_array (Some kinds.I4) s) j i s c h (effect_of (ask a.failed)) (λ t d ht hd. (tt, λ r y. failed_so t s j d hd r y))

  pub acts_stopped : (i : Option Kind) (s : Typing) → Acts coarrays n (with_number i s) (ask a.stopped) (with_array (Some kinds.I4) s)
  acts_stopped i s j c h = one n coarrays (with_array (Some kinds.I4) s) j i s c h (effect_of (ask a.stopped)) (λ t d ht hd. (tt, λ r y. stopped_so t s j d hd r y))
