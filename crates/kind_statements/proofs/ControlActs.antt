-- Acts of image control, of teams, of locks, events and atoms, and of output: what is known behind each.
use Rattle.std.proofs.Common.{◌≡◌, ◌∙◌, ℕ, suc, ◌+◌, ◌*◌, ◌≤◌, ◌<◌, Bool, true, false, ◌&&◌, ◌||◌, cond, List, [], ◌∷◌, ◌++◌, length, map, slice_get, refl, sym, subst, arith}
use Rattle.std.specs.Prelude.{ℤ, pos, ◌-◌, nat_eq, nat_lt, nat_le, min, max, Option, None, Some}
use Rattle.std.proofs.lemmas.List.{length-map}
use Rattle.trace_theory.specs.Entries.{Each}
use Rattle.caf_base.specs.declared.place.ImageNo.{ImageNo}
use Rattle.caf_base.specs.declared.value.AtomicOp.{AtomicOp}
use Rattle.caf_base.specs.declared.value.Kind.{Kind}
use Rattle.caf_base.specs.declared.value.Kind.TheVariants as kinds
use Rattle.caf_base.specs.declared.value.Value.{Value}
use Rattle.caf_base.specs.Arithmetic.{fits_kind, natural, is_true}
use Rattle.caf_events.specs.declared.ask.Ask.{Ask}
use Rattle.caf_events.specs.declared.ask.Ask.TheVariants as asks
use Rattle.caf_events.specs.declared.reply.Reply.{Reply}
use Rattle.caf_events.specs.declared.reply.Reply.TheVariants as replies
use Rattle.caf_events.specs.declared.reply.FormedTeam.{FormedTeam}
use Rattle.caf_events.specs.declared.round.Arriving.{Arriving}
use Rattle.caf_events.specs.declared.round.Arriving.TheVariants as arrivals
use Rattle.walk_theory.specs.Language.{goes_to, asking, stuck}
use Rattle.object_rules.specs.Cells.{Declared}
use Rattle.object_rules.specs.MemoryRules as memory
use Rattle.image_acts.specs.Words.{word}
use Rattle.image_acts.specs.Statuses.{most_teams, most_cells, most_portions}
use Rattle.image_acts.specs.Faults.{room, no_team, not_allocated}
use Rattle.image_acts.specs.Acts as a
use Rattle.image_acts.specs.Acts.{Act, ask, print}
use Rattle.image_acts.specs.Core.{Core, Team, Printing, Portion, integer, logical, with_values, pushed}
use Rattle.image_acts.specs.Frames.{with_cell}
use Rattle.image_acts.specs.Owning.{own_in}
use Rattle.image_acts.specs.Teams.{is_in, team_in, current_team, behind_first}
use Rattle.image_acts.specs.Replies.{status_of, with_status, old_in, try_reply, acquired_in, count_in, count_reply, arrival_reply, leave_reply, fitting}
use Rattle.image_acts.specs.Taking.{Acted, found_in, unless, taking_one}
use Rattle.image_acts.specs.Operate.Asking.{image, team, cell_span, has_cell, first_operand, second_operand, allotment, ask_effect}
use Rattle.image_acts.specs.Operate.Teaming.{team_effect}
use Rattle.image_acts.specs.Operate.Printing.{open_portions, renewed, printed, with_values_behind, with_literal_behind, item_of, text_of, print_effect}
use Rattle.image_acts.specs.Meaning.{effect_of}
use Rattle.kind_walks.specs.Kinds.{IsOf, Typing, IsSo, with_number, with_array}
use Rattle.kind_walks.specs.Suiting.{Joined, Suits, Tells}
use Rattle.kind_walks.proofs.Numbers.{zero_of, small_fits, number_fits}
use Rattle.kind_walks.proofs.Effects.{with_numbers, push, there, so, settles, find_as, one, top, many, takes}
use Rattle.kind_walks.proofs.Frames.{layout_of, cell_so}
use Rattle.kind_walks.proofs.StackActs.{Acts, To, taken_one}
use Rattle.kind_expressions.specs.Kinded.{is_of}
use Rattle.kind_expressions.proofs.AskActs.{held_value}

-- ---- lists
each_on : {A : Type 0} (P : A → Type 0) (xs ys : List A) → Each P xs → Each P ys → Each P (xs ++ ys)
each_on P [] ys h g = g
each_on P (x ∷ xs) ys h g = (h.0, each_on P xs ys h.1 g)

lt_so : (a b : ℕ) → nat_lt a b ≡ true → a < b
lt_so a b e = grind arith

module _ (n : ℕ) where
  abbrev IsFew : FormedTeam → Type 0
  IsFew x = length x.members ≤ 2 * n

  few_fitting : (k : ℕ) → k ≤ 2 * n → (xs : List FormedTeam) → Each IsFew (fitting k xs)
  few_fitting k l [] = tt
  few_fitting k l (x ∷ xs) = by_test (nat_lt (length x.members) k) refl (few_fitting (k - suc (length x.members)) (omega arith) xs)
    where
      by_test : (b : Bool) → nat_lt (length x.members) k ≡ b → Each IsFew (fitting (k - suc (length x.members)) xs) → Each IsFew (cond b (x ∷ fitting (k - suc (length x.members)) xs) [])
      by_test true e h = ((let y = lt_so (length x.members) k e in omega arith), h)
      by_test false e h = tt

  abbrev known_as : (parent round : ℕ) → FormedTeam → Team
  known_as p r f = record { team = f.team.0; parent = p; round = r; number = f.number; members = map (λ i. i.0) f.members }

  few_known : (p r : ℕ) (xs : List FormedTeam) → Each IsFew xs → Each (λ (x : Team). length x.members ≤ 2 * n) (map (known_as p r) xs)
  few_known p r [] h = tt
  few_known p r (x ∷ xs) h = (subst (λ m. m ≤ 2 * n) (sym (length-map x.members (λ (i : ImageNo). i.0))) h.0, few_known p r xs h.1)

module _ (coarrays : List Declared) (n : ℕ) where
  abbrev small : Typing → Typing
  small s = with_number (Some kinds.I4) s

  stated : (s : Typing) (r : Reply) (c : Core) → fits_kind kinds.I4 (status_of r) ≡ true → IsSo n s c → IsSo n (small s) (with_status r c)
  stated s r c e h = push n (Some kinds.I4) s c (status_of r) e h

  -- ---- teams
  abbrev is_child : Core → Option Team → Bool
  is_child c None = false
  is_child c (Some k) = nat_eq k.parent (current_team c) && is_in c.me k.members

  pub acts_child_team : (s : Typing) → Acts coarrays n s (Act.team a.child_team) s
  acts_child_team s j c h =
      settles n coarrays s j (Act.team a.child_team) (team_effect a.child_team c)
      (taken_one coarrays n s j c (λ t d. unless no_team (is_child d (team_in (natural t) d.known)) (goes_to c)) (λ t d. so n coarrays s j no_team (is_child d (team_in (natural t) d.known)) (goes_to c) h))

  pub acts_near_team : (s : Typing) → Acts coarrays n s (Act.team a.near_team) s
  acts_near_team s j c h =
      settles n coarrays s j (Act.team a.near_team) (team_effect a.near_team c)
      (taken_one coarrays n s j c (λ t d. unless no_team (is_in (natural t) d.teams || is_child d (team_in (natural t) d.known)) (goes_to c))
      (λ t d. so n coarrays s j no_team (is_in (natural t) d.teams || is_child d (team_in (natural t) d.known)) (goes_to c) h))

  in_teams : (s : Typing) (c : Core) (ts : List ℕ) → IsSo n s c → IsSo n s (record c { teams = ts })
  in_teams s c ts h = record { numbers = h.numbers; arrays = h.arrays; running = h.running; callers = h.callers; images = h.images; known = h.known; formed = h.formed }

  pub acts_make_current : (i : Option Kind) (s : Typing) → Acts coarrays n (with_number i s) (Act.team a.make_current) s
  acts_make_current i s j c h =
      one n coarrays s j i s c h (effect_of (Act.team a.make_current)) (λ t d ht hd.
      settles n coarrays s j (Act.team a.make_current) (team_effect a.make_current (pushed t d))
      (so n coarrays s j room (nat_lt (length d.teams) most_teams) (goes_to (record d { teams = natural t ∷ d.teams })) (in_teams s d (natural t ∷ d.teams) hd)))

  pub acts_leave_team : (s : Typing) → Acts coarrays n s (Act.team a.leave_team) s
  acts_leave_team s j c h = in_teams s c (behind_first c.teams) h

  abbrev own_of : ℕ → List Team → Option Team
  own_of me [] = None
  own_of me (k ∷ ks) = cond (is_in me k.members) (Some k) (own_of me ks)

  abbrev with_own_team : a.Scope → ℕ → Option Team → Core → Core
  with_own_team x i None c = c
  with_own_team x i (Some k) c = with_cell x i (pos k.team) c

  own_so : (x : a.Scope) (i : ℕ) (s : Typing) → ((k : Option Kind) → slice_get (layout_of x s).scalars i ≡ Some k → k ≡ None) → (o : Option Team) (c : Core) → IsSo n s c → IsSo n s (with_own_team x i o c)
  own_so x i s f None c h = h
  own_so x i s f (Some k) c h = cell_so n s x i (pos k.team) c h (λ l e. subst (λ z. IsOf z (pos k.team)) (sym (f l e)) tt)

  pub acts_note_teams : (x : a.Scope) (i : ℕ) (s : Typing) → ((k : Option Kind) → slice_get (layout_of x s).scalars i ≡ Some k → k ≡ None) → Acts coarrays n s (Act.team (a.note_teams x i)) s
  acts_note_teams x i s f j c h =
      settles n coarrays s j (Act.team (a.note_teams x i)) (team_effect (a.note_teams x i) c)
      (there n coarrays s j c.round (λ r. goes_to (with_own_team x i (own_of c.me (map (known_as n (current_team c) r) c.formed)) (record c { known = map (known_as n (current_team c) r) c.formed ++ c.known; formed = [] })))
      (λ r. (let ks = map (known_as n (current_team c) r) c.formed in own_so x i s f (own_of c.me ks) (record c { known = ks ++ c.known; formed = [] }) (record {
        numbers = h.numbers;
        arrays = h.arrays;
        running = h.running;
        callers = h.callers;
        images = h.images;
        known = each_on (λ (x : Team). length x.members ≤ 2 * n) ks c.known (few_known n (current_team c) r c.formed h.formed) h.known;
        formed = tt;
      }))))

  -- ---- arrivals and departures
  arrived : (s : Typing) (c : Core) (r : Reply) → IsSo n s c → IsSo n s (arrival_reply c r)
  arrived s c r h = record { numbers = h.numbers; arrays = h.arrays; running = h.running; callers = h.callers; images = h.images; known = h.known; formed = h.formed }

  arrives : (k : Arriving) (i : Option Kind) (s : Typing) (x : Act) → ((t : ℤ) (d : Core) → effect_of x (pushed t d) ≡ asking (asks.Arrive (team t) k) (arrival_reply d)) → Acts coarrays n (with_number i s) x s
  arrives k i s x same j c h = one n coarrays s j i s c h (effect_of x) (λ t d ht hd. subst (To coarrays n s j) (sym (same t d)) (tt, λ r y. arrived s d r hd))

  pub acts_arrive_sync : (i : Option Kind) (s : Typing) → Acts coarrays n (with_number i s) (ask a.arrive_sync) s
  acts_arrive_sync i s = arrives arrivals.Sync i s (ask a.arrive_sync) (λ t d. refl)

  pub acts_arrive_change : (i : Option Kind) (s : Typing) → Acts coarrays n (with_number i s) (ask a.arrive_change) s
  acts_arrive_change i s = arrives arrivals.Change i s (ask a.arrive_change) (λ t d. refl)

  pub acts_arrive_end : (i : Option Kind) (s : Typing) → Acts coarrays n (with_number i s) (ask a.arrive_end) s
  acts_arrive_end i s = arrives arrivals.End i s (ask a.arrive_end) (λ t d. refl)

  pub acts_arrive_form : (i l m : Option Kind) (s : Typing) → Acts coarrays n (with_number m (with_number l (with_number i s))) (ask a.arrive_form) s
  acts_arrive_form i l m s j c h =
      one n coarrays s j m (with_number l (with_number i s)) c h (effect_of (ask a.arrive_form)) (λ x b hx hb.
      one n coarrays s j l (with_number i s) b hb (λ b. effect_of (ask a.arrive_form) (pushed x b)) (λ v b2 hv h2.
      one n coarrays s j i s b2 h2 (λ b. effect_of (ask a.arrive_form) (pushed x (pushed v b))) (λ t d ht hd. (tt, λ r y. arrived s d r hd))))

  pub acts_arrive_allocate : (i : Option Kind) (ks : List (Option Kind)) (m : ℕ) → length ks ≡ m → (s : Typing) → Acts coarrays n (with_numbers ks (with_number i s)) (ask (a.arrive_allocate m)) s
  acts_arrive_allocate i ks m e s j c h =
      many n coarrays s j ks (with_number i s) c h (effect_of (ask (a.arrive_allocate m))) (λ xs b l g hb.
      one n coarrays s j i s b hb (λ b. effect_of (ask (a.arrive_allocate m)) (with_values b (xs ++ b.values))) (λ t d ht hd.
      settles n coarrays s j (ask (a.arrive_allocate m)) (ask_effect (a.arrive_allocate m) (with_values d (xs ++ (t ∷ d.values))))
      (takes n coarrays s j m xs (t ∷ d.values) (λ p. taking_one (with_values d p.1) (λ t e. asking (asks.Arrive (team t) (arrivals.Allocate (allotment (with_values d p.1) p.0))) (arrival_reply e))) (l ∙ e) (tt, λ r y. arrived s d r hd))))

  pub acts_arrive_deallocate : (i : Option Kind) (ks : List (Option Kind)) (m : ℕ) → length ks ≡ m → (s : Typing) → Acts coarrays n (with_numbers ks (with_number i s)) (ask (a.arrive_deallocate m)) s
  acts_arrive_deallocate i ks m e s j c h =
      many n coarrays s j ks (with_number i s) c h (effect_of (ask (a.arrive_deallocate m))) (λ xs b l g hb.
      one n coarrays s j i s b hb (λ b. effect_of (ask (a.arrive_deallocate m)) (with_values b (xs ++ b.values))) (λ t d ht hd.
      settles n coarrays s j (ask (a.arrive_deallocate m)) (ask_effect (a.arrive_deallocate m) (with_values d (xs ++ (t ∷ d.values))))
      (takes n coarrays s j m xs (t ∷ d.values) (λ p. taking_one (with_values d p.1) (λ t e. asking (asks.Arrive (team t) (arrivals.Deallocate (map word p.0))) (arrival_reply e))) (l ∙ e) (tt, λ r y. arrived s d r hd))))

  left_so : (s : Typing) (c : Core) (r : Reply) → fits_kind kinds.I4 (status_of r) ≡ true → IsSo n s c → IsSo n (small s) (leave_reply c r)
  left_so s c (replies.Left v teams) e h = record {
    numbers = (e, h.numbers);
    arrays = h.arrays;
    running = h.running;
    callers = h.callers;
    images = h.images;
    known = h.known;
    formed = few_fitting n (2 * c.images) (let z : c.images ≡ n = h.images in omega arith) teams;
  }
  left_so s c r e h = stated s r c e h

  pub acts_leave : (i : Option Kind) (s : Typing) → Acts coarrays n (with_number i s) (ask a.leave) (small s)
  acts_leave i s j c h =
      one n coarrays (small s) j i s c h (effect_of (ask a.leave)) (λ t d ht hd.
      settles n coarrays (small s) j (ask a.leave) (ask_effect a.leave (pushed t d))
      (there n coarrays (small s) j d.round (λ r. asking (asks.Leave (team t) r) (leave_reply d)) (λ r. (tt, λ x y. left_so s d x y.0 hd))))

  -- ---- asks that reply a status
  pub acts_unpair : (s : Typing) → Acts coarrays n s (ask a.unpair) (small s)
  acts_unpair s j c h = (tt, λ r y. stated s r c y.0 h)

  pub acts_enter_critical : (k : ℕ) (s : Typing) → Acts coarrays n s (ask (a.enter_critical k)) (small s)
  acts_enter_critical k s j c h = (tt, λ r y. stated s r c y.0 h)

  pub acts_exit_critical : (k : ℕ) (s : Typing) → Acts coarrays n s (ask (a.exit_critical k)) s
  acts_exit_critical k s j c h = (tt, λ r y. h)

  pub acts_memory : (s : Typing) → Acts coarrays n s (ask a.memory) s
  acts_memory s j c h = (tt, λ r y. h)

  pub acts_pair : (k : Option Kind) (s : Typing) → Acts coarrays n (with_array k s) (ask a.pair) s
  acts_pair k s j c h = top n coarrays s j k s c h (effect_of (ask a.pair)) (λ x d hx hd. (tt, λ r y. hd))

  pub acts_delete : (k : ℕ) (s : Typing) → Acts coarrays n s (ask (a.delete k)) s
  acts_delete k s j c h = (tt, λ r y. h)

  on_cell : (i l : Option Kind) (s t : Typing) (x : Act) (q : ℤ → ℤ → Ask) (f : Core → Reply → Core)
      → ((o start : ℤ) (d : Core) → effect_of x (pushed o (pushed start d)) ≡ asking (q o start) (f d)) → ((o start : ℤ) → Suits coarrays (q o start)) → ((o start : ℤ) (j : Joined) (r : Reply) (d : Core) → Tells coarrays j (q o start) r → IsSo n s d → IsSo n t (f d r))
      → Acts coarrays n (with_number l (with_number i s)) x t
  on_cell i l s t x q f same suits g j c h =
      one n coarrays t j l (with_number i s) c h (effect_of x) (λ o b ho hb.
      one n coarrays t j i s b hb (λ b. effect_of x (pushed o b)) (λ start d hs hd. subst (To coarrays n t j) (sym (same o start d)) (suits o start, λ r y. g o start j r d y hd)))

  pub acts_lock : (i l : Option Kind) (k : ℕ) (s : Typing) → Acts coarrays n (with_number l (with_number i s)) (ask (a.lock k)) (small s)
  acts_lock i l k s = on_cell i l s (small s) (ask (a.lock k)) (λ o start. asks.Lock (image o) (cell_span k start)) (λ d r. with_status r d) (λ o start d. refl) (λ o start. tt) (λ o start j r d y hd. stated s r d y.0 hd)

  pub acts_unlock : (i l : Option Kind) (k : ℕ) (s : Typing) → Acts coarrays n (with_number l (with_number i s)) (ask (a.unlock k)) (small s)
  acts_unlock i l k s = on_cell i l s (small s) (ask (a.unlock k)) (λ o start. asks.Unlock (image o) (cell_span k start)) (λ d r. with_status r d) (λ o start d. refl) (λ o start. tt) (λ o start j r d y hd. stated s r d y.0 hd)

  pub acts_post : (i l : Option Kind) (k : ℕ) (s : Typing) → Acts coarrays n (with_number l (with_number i s)) (ask (a.post k)) (small s)
  acts_post i l k s = on_cell i l s (small s) (ask (a.post k)) (λ o start. asks.Post (image o) (cell_span k start)) (λ d r. with_status r d) (λ o start d. refl) (λ o start. tt) (λ o start j r d y hd. stated s r d y.0 hd)

  pub acts_try_lock : (i l : Option Kind) (k : ℕ) (s : Typing) → Acts coarrays n (with_number l (with_number i s)) (ask (a.try_lock k)) (small (with_number (Some kinds.L4) s))
  acts_try_lock i l k s =
      on_cell i l s (small (with_number (Some kinds.L4) s)) (ask (a.try_lock k)) (λ o start. asks.TryLock (image o) (cell_span k start)) try_reply (λ o start d. refl) (λ o start. tt)
      (λ o start j r d y hd. stated (with_number (Some kinds.L4) s) r (pushed (acquired_in r) d) y.0 (push n (Some kinds.L4) s d (acquired_in r) refl hd))

  pub acts_wait : (i l : Option Kind) (k : ℕ) (s : Typing) → Acts coarrays n (with_number l (with_number i s)) (ask (a.wait k)) (small s)
  acts_wait i l k s j c h =
      one n coarrays (small s) j l (with_number i s) c h (effect_of (ask (a.wait k))) (λ m b hm hb.
      one n coarrays (small s) j i s b hb (λ b. effect_of (ask (a.wait k)) (pushed m b)) (λ start d hs hd.
      settles n coarrays (small s) j (ask (a.wait k)) (ask_effect (a.wait k) (pushed m (pushed start d)))
      (so n coarrays (small s) j not_allocated (has_cell (own_in d k) (word start)) (asking (asks.Wait (record { 0 = d.me }) (cell_span k start) (max (natural m) 1)) (λ r. with_status r d)) (tt, λ r y. stated s r d y.0 hd))))

  counted : (j : Joined) (o : ImageNo) (k : ℕ) (start : ℤ) (r : Reply) → Tells coarrays j (asks.Query o (cell_span k start)) r → IsOf (Some kinds.I4) (count_in r)
  counted j o k start (replies.Count m) y = small_fits (min m 9223372036854775807) (let z : m ≤ 2147483647 = y.1 in omega arith)
  counted j o k start r y = refl

  pub acts_query : (i : Option Kind) (k : ℕ) (s : Typing) → Acts coarrays n (with_number i s) (ask (a.query k)) (small s)
  acts_query i k s j c h =
      one n coarrays (small s) j i s c h (effect_of (ask (a.query k))) (λ start d hs hd.
      settles n coarrays (small s) j (ask (a.query k)) (ask_effect (a.query k) (pushed start d))
      (so n coarrays (small s) j not_allocated (has_cell (own_in d k) (word start)) (asking (asks.Query (record { 0 = d.me }) (cell_span k start)) (count_reply d))
      (tt, λ r y. push n (Some kinds.I4) s d (count_in r) (counted j (record { 0 = d.me }) k start r y) hd)))

  -- an atomic action: its operands above the owner, and the old value beneath the status
  old_fits : (k : Kind) (c : ℕ) → memory.holds (is_of k) (slice_get coarrays c) ≡ true → (j : Joined) (o : ImageNo) (op : AtomicOp) (start : ℤ) (x z : Value) (r : Reply) → Tells coarrays j (asks.Atomic o op (cell_span c start) x z) r → IsOf (Some k) (old_in r)
  old_fits k c held j o op start x z (replies.Old v) y = number_fits k v (held_value k (slice_get coarrays c) held v y.1)
  old_fits k c held j o op start x z r y = zero_of (Some k)

  pub acts_atomic : (op : AtomicOp) (c : ℕ) (k kind : Kind) (i l m o : Option Kind) → memory.holds (is_of k) (slice_get coarrays c) ≡ true → (s : Typing)
      → Acts coarrays n (with_number o (with_number m (with_number l (with_number i s)))) (ask (a.atomic op c kind)) (small (with_number (Some k) s))
  acts_atomic op c k kind i l m o held s j b h =
      let t = small (with_number (Some k) s) in
      one n coarrays t j o (with_number m (with_number l (with_number i s))) b h (effect_of (ask (a.atomic op c kind))) (λ y b1 hy h1.
      one n coarrays t j m (with_number l (with_number i s)) b1 h1 (λ b. effect_of (ask (a.atomic op c kind)) (pushed y b)) (λ x b2 hx h2.
      one n coarrays t j l (with_number i s) b2 h2 (λ b. effect_of (ask (a.atomic op c kind)) (pushed y (pushed x b))) (λ v b3 hv h3.
      one n coarrays t j i s b3 h3 (λ b. effect_of (ask (a.atomic op c kind)) (pushed y (pushed x (pushed v b)))) (λ start d hs hd.
      (tt, λ r z. stated (with_number (Some k) s) r (pushed (old_in r) d) z.0 (push n (Some k) s d (old_in r) (old_fits k c held j (image v) op start (first_operand op kind x) (second_operand op kind y) r z) hd))))))

  -- ---- the last asks
  pub acts_fail : (s t : Typing) → Acts coarrays n s (ask a.fail) t
  acts_fail s t j c h = tt

  pub acts_stop : (i : Option Kind) (s t : Typing) → Acts coarrays n (with_number i s) (ask a.stop) t
  acts_stop i s t j c h = one n coarrays t j i s c h (effect_of (ask a.stop)) (λ v d hv hd. tt)

  pub acts_error_stop : (i : Option Kind) (s t : Typing) → Acts coarrays n (with_number i s) (ask a.error_stop) t
  acts_error_stop i s t j c h = one n coarrays t j i s c h (effect_of (ask a.error_stop)) (λ v d hv hd. tt)

  -- ---- output
  printing_so : (s : Typing) (c : Core) (ps : List Printing) → IsSo n s c → IsSo n s (record c { printing = ps })
  printing_so s c ps h = record { numbers = h.numbers; arrays = h.arrays; running = h.running; callers = h.callers; images = h.images; known = h.known; formed = h.formed }

  renews : (s : Typing) (j : Joined) (f : List Portion → List Portion) (c : Core) → IsSo n s c → To coarrays n s j (renewed f c)
  renews s j f c h = by_texts c.printing
    where
      by_texts : (ps : List Printing)
          → To coarrays n s j (elim ps [ [] ↦ stuck | p ∷ ps ↦ unless room (nat_le (open_portions (record p { portions = f p.portions } ∷ ps)) most_portions) (goes_to (record c { printing = record p { portions = f p.portions } ∷ ps })) ])
      by_texts [] = tt
      by_texts (p ∷ ps) =
          so n coarrays s j room (nat_le (open_portions (record p { portions = f p.portions } ∷ ps)) most_portions) (goes_to (record c { printing = record p { portions = f p.portions } ∷ ps })) (printing_so s c (record p { portions = f p.portions } ∷ ps) h)

  pub acts_begin_free : (s : Typing) → Acts coarrays n s (print a.begin_free) s
  acts_begin_free s j c h = printing_so s c (record { format = None; portions = [] } ∷ c.printing) h

  pub acts_begin_format : (text : List ℕ) (s : Typing) → Acts coarrays n s (print (a.begin_format text)) s
  acts_begin_format text s j c h = printing_so s c (record { format = Some text; portions = [] } ∷ c.printing) h

  used_so : (s : Typing) (c : Core) (m : ℕ) → IsSo n s c → IsSo n s (record c { used = m })
  used_so s c m h = record { numbers = h.numbers; arrays = h.arrays; running = h.running; callers = h.callers; images = h.images; known = h.known; formed = h.formed }

  pub acts_print_number : (i : Option Kind) (s : Typing) → Acts coarrays n (with_number i s) (print a.print_number) s
  acts_print_number i s j c h =
      one n coarrays s j i s c h (effect_of (print a.print_number)) (λ v d hv hd.
      let e = record d { used = d.used + 1 } in
      settles n coarrays s j (print a.print_number) (print_effect a.print_number (pushed v d))
      (so n coarrays s j room (nat_le (d.used + 1) most_cells) (printed (integer v ∷ []) e) (renews s j (with_values_behind (integer v ∷ [])) e (used_so s d (d.used + 1) hd))))

  pub acts_print_truth : (i : Option Kind) (s : Typing) → Acts coarrays n (with_number i s) (print a.print_truth) s
  acts_print_truth i s j c h =
      one n coarrays s j i s c h (effect_of (print a.print_truth)) (λ v d hv hd.
      let e = record d { used = d.used + 1 } in
      settles n coarrays s j (print a.print_truth) (print_effect a.print_truth (pushed v d))
      (so n coarrays s j room (nat_le (d.used + 1) most_cells) (printed (logical (is_true v) ∷ []) e) (renews s j (with_values_behind (logical (is_true v) ∷ [])) e (used_so s d (d.used + 1) hd))))

  pub acts_print_array : (kind : Kind) (k : Option Kind) (s : Typing) → Acts coarrays n (with_array k s) (print (a.print_array kind)) s
  acts_print_array kind k s j c h =
      top n coarrays s j k s c h (effect_of (print (a.print_array kind))) (λ x d hx hd.
      settles n coarrays s j (print (a.print_array kind)) (print_effect (a.print_array kind) (record d { arrays = x ∷ d.arrays })) (renews s j (with_values_behind (map (item_of kind) x.elements)) d hd))

  pub acts_print_literal : (m : ℕ) (text : List ℕ) (s : Typing) → Acts coarrays n s (print (a.print_literal m text)) s
  acts_print_literal m text s j c h = settles n coarrays s j (print (a.print_literal m text)) (print_effect (a.print_literal m text) c) (renews s j (with_literal_behind m text) c h)

  abbrev saying : List Printing → Core → Acted
  saying [] c = stuck
  saying (p ∷ ps) c = found_in (text_of p) (λ text. asking (asks.Print text) (λ r. record c { printing = ps }))

  says : (s : Typing) (j : Joined) (ps : List Printing) (c : Core) → IsSo n s c → To coarrays n s j (saying ps c)
  says s j [] c h = tt
  says s j (p ∷ ps) c h = find_as n coarrays s j (text_of p) (λ text. asking (asks.Print text) (λ r. record c { printing = ps })) (λ text e. (tt, λ r y. printing_so s c ps h))

  pub acts_say : (s : Typing) → Acts coarrays n s (ask a.say) s
  acts_say s j c h = settles n coarrays s j (ask a.say) (ask_effect a.say c) (says s j c.printing c h)
