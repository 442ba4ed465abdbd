-- An arrival with its departure keeps the order.
use Rattle.std.proofs.Common.{◌≡◌, ℕ, zero, suc, Bool, true, false, ◌||◌, nat_eq, List, [], ◌∷◌, ◌++◌, length, inl, refl, sym, subst, ap}
use Rattle.std.specs.Prelude.{ℤ, pos, ◌&&◌, ◌+ℤ◌, ◌-ℤ◌, map, drop, Option, None, Some}
use Rattle.caf_events.specs.declared.ask.Ask.TheVariants as asks
use Rattle.caf_events.specs.declared.reply.Reply.{Reply}
use Rattle.caf_events.specs.declared.reply.Reply.TheVariants as replies
use Rattle.caf_events.specs.declared.round.Arriving.{Arriving}
use Rattle.caf_events.specs.declared.round.Arriving.TheVariants as arrivals
use Rattle.caf_events.specs.declared.round.GatherOp.{GatherOp}
use Rattle.caf_base.specs.declared.value.Kind.{Kind}
use Rattle.caf_base.specs.declared.value.Value.{Value}
use Rattle.caf_base.specs.Arithmetic.{natural, value_of}
use Rattle.caf_events.specs.declared.round.Allotted.{Allotted}
use Rattle.caf_events.specs.Answers.{Answers}
use Rattle.walk_theory.specs.Language.{goes_to, asking, stuck}
use Rattle.image_acts.specs.Words.{word}
use Rattle.image_acts.specs.Acts as a
use Rattle.image_acts.specs.Acts.{Act, constant, stack, selector, team, ask}
use Rattle.image_acts.specs.Core.{Core, Array, Own, Team, with_values}
use Rattle.image_acts.specs.Taking.{Acted, unless, given, taken, put_down, taking_one, taking_array}
use Rattle.image_acts.specs.Teams.{is_in, team_in, current_team, members, member_at}
use Rattle.image_acts.specs.Faults.{no_team}
use Rattle.image_acts.specs.Owning.{own_in}
use Rattle.image_acts.specs.Replies.{arrival_reply}
use Rattle.image_acts.specs.Meaning.{missed, settled, effect_of}
use Rattle.tree_meaning.specs.Sequences.{◌▸◌, doing, copying}
use Rattle.tree_meaning.specs.ImageControl.{round}
use Rattle.tree_meaning.specs.Allocation.{numbers}
use Rattle.program_walks.specs.Dues.{Due, owing, due_after}
use Rattle.program_walks.specs.Keeping.{IsClear, EffectKeeps, PartsKeep, KeepsOrder}

-- ---- the current team's round
departs : (c : Core) (k : Arriving) (r : Reply) → Answers (asks.Arrive (record { 0 = word (pos (current_team c)) }) k) r
    → PartsKeep (doing (selector a.this_team ∷ ask a.leave ∷ [])) IsClear (due_after (asks.Arrive (record { 0 = word (pos (current_team c)) }) k) r) (arrival_reply c r)
departs c k (replies.Round n) x = ((inl refl, tt), λ r y. refl)
departs c k (replies.Clash i l) x = refl
departs c k r x = absurd x

pub sync_round : KeepsOrder (round (doing (ask a.arrive_sync ∷ [])))
sync_round c = ((λ x. x, tt), λ r x. departs c arrivals.Sync r x)

pub end_round : KeepsOrder (round (doing (ask a.arrive_end ∷ [])))
end_round c = ((λ x. x, tt), λ r x. departs c arrivals.End r x)

-- ---- FORM TEAM: a team number and a new index stand above the team
two_copied : (depth : ℕ) (vs ws : List ℤ) (c : Core) (After : Due → Core → Type 0) → ((v w : ℤ) → After (owing None) (with_values c (v ∷ w ∷ vs)))
    → EffectKeeps (settled (stack (a.copy depth 2)) (given (taken 2 ws []) (λ p. goes_to (with_values c (put_down p.0 vs))))) After (owing None)
two_copied depth vs [] c After h = refl
two_copied depth vs (v ∷ []) c After h = refl
two_copied depth vs (v ∷ w ∷ ws) c After h = h v w

pub form_round : (depth : ℕ) → KeepsOrder (round (copying depth 2 ▸ doing (ask a.arrive_form ∷ [])))
form_round depth c =
    let t = pos (current_team c) in
    two_copied depth (t ∷ c.values) (drop depth (t ∷ c.values)) (with_values c (t ∷ c.values)) (PartsKeep (doing (ask a.arrive_form ∷ [])) (PartsKeep (doing (selector a.this_team ∷ ask a.leave ∷ [])) IsClear))
    (λ v w. ((λ x. x, tt), λ r x. departs c (arrivals.Form w v) r x))

-- ---- ALLOCATE and DEALLOCATE: the coarrays stand above the team
same_pair : (p q : List ℤ × List ℤ) → Some p ≡ Some q → (p.0 ≡ q.0) × (p.1 ≡ q.1)
same_pair p q h = let e : p ≡ q = cc in (ap (λ (z : List ℤ × List ℤ). z.0) e, ap (λ (z : List ℤ × List ℤ). z.1) e)

taken_back : (n : ℕ) (ws ys zs : List ℤ) (x : ℤ) (vs : List ℤ) → taken n ws ys ≡ Some (zs, x ∷ vs) → taken (suc n) ws ys ≡ Some (x ∷ zs, vs)
taken_back zero ws ys zs x vs h =
    let e = same_pair (ys, ws) (zs, x ∷ vs) h in
    rw (e.0, e.1) refl
taken_back (suc n) [] ys zs x vs h = absurd (cc)
taken_back (suc n) (w ∷ ws) ys zs x vs h = taken_back n ws (w ∷ ys) zs x vs h

put_taken : (xs vs ys : List ℤ) → taken (length xs) (put_down xs vs) ys ≡ Some (xs ++ ys, vs)
put_taken [] vs ys = refl
put_taken (x ∷ xs) vs ys = taken_back (length xs) (put_down xs (x ∷ vs)) ys (xs ++ ys) x vs (put_taken xs (x ∷ vs) ys)

abbrev pushed_numbers : List ℕ → List ℤ
pushed_numbers [] = []
pushed_numbers (n ∷ ns) = pos n ∷ pushed_numbers ns

as_many : (ns : List ℕ) → length (pushed_numbers ns) ≡ length ns
as_many [] = refl
as_many (n ∷ ns) = ap suc (as_many ns)

numbers_then : (ns : List ℕ) (x : Act) (After : Due → Core → Type 0) (d : Due) (c : Core) → EffectKeeps (effect_of x (with_values c (put_down (pushed_numbers ns) c.values))) After d
    → PartsKeep (doing (numbers ns ++ x ∷ [])) After d c
numbers_then [] x After d c h = h
numbers_then (n ∷ ns) x After d c h = numbers_then ns x After d (with_values c (pos n ∷ c.values)) h

-- the arrival takes the numbers and the team beneath them
arrives : (x : Act) (n : ℕ) (c : Core) (xs vs : List ℤ) (t : ℤ) (how : Core → List ℤ → Arriving) (After : Due → Core → Type 0) → taken n (put_down xs (t ∷ vs)) [] ≡ Some (xs ++ [], t ∷ vs)
    → ((k : Arriving) (r : Reply) → Answers (asks.Arrive (record { 0 = word t }) k) r → After (due_after (asks.Arrive (record { 0 = word t }) k) r) (arrival_reply (with_values c vs) r))
    → EffectKeeps (settled x (given (taken n (put_down xs (t ∷ vs)) []) (λ p. taking_one (with_values c p.1) (λ u d. asking (asks.Arrive (record { 0 = word u }) (how (with_values c p.1) p.0)) (arrival_reply d))))) After (owing None)
arrives x n c xs vs t how After e h =
    subst (λ o. EffectKeeps (settled x (given o (λ p. taking_one (with_values c p.1) (λ u d. asking (asks.Arrive (record { 0 = word u }) (how (with_values c p.1) p.0)) (arrival_reply d))))) After (owing None)) (sym e)
    ((λ y. y, tt), λ r y. h (how (with_values c (t ∷ vs)) (xs ++ [])) r y)

-- ---- SYNC TEAM and CHANGE TEAM: the team stands beneath so many numbers, and is copied for each step
copied : (k : ℕ) (After : Due → Core → Type 0) (c : Core) → ((w : ℤ) (ws : List ℤ) → drop k c.values ≡ w ∷ ws → After (owing None) (with_values c (w ∷ c.values))) → PartsKeep (copying k 1) After (owing None) c
copied k After c h = by_list (drop k c.values) refl
  where
    by_list : (ws : List ℤ) → drop k c.values ≡ ws → EffectKeeps (settled (stack (a.copy k 1)) (given (taken 1 ws []) (λ p. goes_to (with_values c (put_down p.0 c.values))))) After (owing None)
    by_list [] e = refl
    by_list (w ∷ ws) e = h w ws e

-- where it is there
copied_again : (k : ℕ) (After : Due → Core → Type 0) (d : Due) (c : Core) (w : ℤ) (ws : List ℤ) → drop k c.values ≡ w ∷ ws → After d (with_values c (w ∷ c.values)) → PartsKeep (copying k 1) After d c
copied_again k After d c w ws e h = subst (λ vs. EffectKeeps (settled (stack (a.copy k 1)) (given (taken 1 vs []) (λ p. goes_to (with_values c (put_down p.0 c.values))))) After d) (sym e) h

leaves : (w : ℤ) (k : Arriving) (c : Core) (r : Reply) (After : Due → Core → Type 0) → ((e : Core) → After (owing None) e) → Answers (asks.Arrive (record { 0 = word w }) k) r
    → PartsKeep (doing (ask a.leave ∷ [])) After (due_after (asks.Arrive (record { 0 = word w }) k) r) (with_values (arrival_reply c r) (w ∷ c.values))
leaves w k c (replies.Round n) After h x = ((inl refl, tt), λ r y. h _)
leaves w k c (replies.Clash i l) After h x = refl
leaves w k c r After h x = absurd x

-- a team that was formed by a FORM TEAM of the current team, with this image in it
abbrev is_child : Core → Option Team → Bool
is_child c None = false
is_child c (Some k) = nat_eq k.parent (current_team c) && is_in c.me k.members

-- the team on top, where it is found to be one
checked : (x : Act) (b : Bool) (d : Core) (After : Due → Core → Type 0) → After (owing None) d → EffectKeeps (settled x (unless no_team b (goes_to d))) After (owing None)
checked x true d After h = h
checked x false d After h = refl

module _ (k : ℕ) (y : a.TeamAct) (x : a.AskAct) (how : Arriving) (tests : (d : Core) (t : ℤ) (vs : List ℤ) → d.values ≡ t ∷ vs → (b : Bool) × (effect_of (team y) d ≡ settled (team y) (unless no_team b (goes_to d))))
    (acts : (d : Core) (t : ℤ) (vs : List ℤ) → d.values ≡ t ∷ vs → effect_of (ask x) d ≡ asking (asks.Arrive (record { 0 = word t }) how) (arrival_reply (with_values d vs))) where
  pub copied_round : (After : Due → Core → Type 0) → ((e : Core) → After (owing None) e) → (c : Core)
      → PartsKeep (copying k 1) (PartsKeep (doing (team y ∷ ask x ∷ [])) (PartsKeep (copying k 1) (PartsKeep (doing (ask a.leave ∷ [])) After))) (owing None) c
  copied_round After h c =
      let behind = PartsKeep (copying k 1) (PartsKeep (doing (ask a.leave ∷ [])) After) in
      copied k (PartsKeep (doing (team y ∷ ask x ∷ [])) behind) c
      (λ w ws e. (
      let d = with_values c (w ∷ c.values) in
      let t = tests d w c.values refl in
      subst (λ o. EffectKeeps o (PartsKeep (doing (ask x ∷ [])) behind) (owing None)) (sym t.1)
      (checked (team y) t.0 d (PartsKeep (doing (ask x ∷ [])) behind)
      (subst (λ o. EffectKeeps o behind (owing None)) (sym (acts d w c.values refl)) (
        (λ y. y, tt),
        λ r y. copied_again k (PartsKeep (doing (ask a.leave ∷ [])) After) (due_after (asks.Arrive (record { 0 = word w }) how) r) (arrival_reply c r) w ws e (leaves w how c r After h y),
      )))))

-- ---- collectives, and SYNC IMAGES
top : (x : Act) (c : Core) (f : ℤ → Core → Acted) (After : Due → Core → Type 0) → EffectKeeps (missed x) After (owing None) → ((v : ℤ) (e : Core) → EffectKeeps (settled x (f v e)) After (owing None))
    → EffectKeeps (settled x (taking_one c f)) After (owing None)
top x c f After m h = by_values c.values
  where
    by_values : (vs : List ℤ) → EffectKeeps (settled x (elim vs [ [] ↦ stuck | w ∷ ws ↦ f w (with_values c ws) ])) After (owing None)
    by_values [] = m
    by_values (v ∷ vs) = h v (with_values c vs)

top_array : (x : Act) (c : Core) (f : Array → Core → Acted) (After : Due → Core → Type 0) → EffectKeeps (missed x) After (owing None) → ((y : Array) (e : Core) → EffectKeeps (settled x (f y e)) After (owing None))
    → EffectKeeps (settled x (taking_array c f)) After (owing None)
top_array x c f After m h = by_arrays c.arrays
  where
    by_arrays : (xs : List Array) → EffectKeeps (settled x (elim xs [ [] ↦ stuck | y ∷ ys ↦ f y (record c { arrays = ys }) ])) After (owing None)
    by_arrays [] = m
    by_arrays (y ∷ ys) = h y (record c { arrays = ys })

takes_part : (op : GatherOp) (kind : Kind) (root : ℕ) (vs : List Value) (c : Core) (r : Reply) → Answers (asks.Gather (record { 0 = word (pos (current_team c)) }) op root kind vs) r
    → PartsKeep (doing (ask a.take ∷ [])) IsClear (due_after (asks.Gather (record { 0 = word (pos (current_team c)) }) op root kind vs) r) (arrival_reply c r)
takes_part op kind root vs c (replies.Round n) x = ((inl refl, tt), λ r y. refl)
takes_part op kind root vs c (replies.Clash i l) x = refl
takes_part op kind root vs c r x = absurd x

pub collective : (op : GatherOp) (kind : Kind) → KeepsOrder (doing (ask (a.gather op kind) ∷ ask a.take ∷ []))
collective op kind c =
    let x = ask (a.gather op kind) in
    top x c (λ root d. taking_array d (λ y e. asking (asks.Gather (record { 0 = word (pos (current_team e)) }) op (word root) kind (map (value_of kind) y.elements)) (arrival_reply e))) (PartsKeep (doing (ask a.take ∷ [])) IsClear) refl
    (λ root d. top_array x d (λ y e. asking (asks.Gather (record { 0 = word (pos (current_team e)) }) op (word root) kind (map (value_of kind) y.elements)) (arrival_reply e)) (PartsKeep (doing (ask a.take ∷ [])) IsClear) refl
    (λ y e. ((λ z. z, tt), λ r z. takes_part op kind (word root) (map (value_of kind) y.elements) e r z)))

pub paired : KeepsOrder (doing (ask a.pair ∷ ask a.unpair ∷ []))
paired c = top_array (ask a.pair) c (λ x d. asking (asks.Pair (map (λ v. record { 0 = member_at (members d (current_team d)) (natural v) }) x.elements)) (λ r. d)) (PartsKeep (doing (ask a.unpair ∷ [])) IsClear) refl
    (λ x d. ((λ y. y, tt), λ r y. ((inl refl, tt), λ q z. refl)))

-- ---- ALLOCATE and DEALLOCATE
abbrev codims_of : List ℤ → List ℤ → List (ℤ × ℤ)
codims_of [] es = []
codims_of (l ∷ ls) [] = []
codims_of (l ∷ ls) (e ∷ es) = (l, (l +ℤ e) -ℤ pos 1) ∷ codims_of ls es

abbrev last_of : List ℤ → ℤ
last_of [] = pos 1
last_of (l ∷ []) = l
last_of (l ∷ m ∷ ms) = last_of (m ∷ ms)

abbrev allotted : ℕ → Option Own → List Allotted
allotted k None = []
allotted k (Some o) = record { coarray = k; dims = o.bounds; codims = codims_of o.lowers o.extents; last = last_of o.lowers } ∷ []

abbrev allotment : Core → List ℤ → List Allotted
allotment c [] = []
allotment c (k ∷ ks) = elim (allotted (word k) (own_in c (word k))) [ [] ↦ allotment c ks | x ∷ xs ↦ x ∷ allotment c ks ]

pub allocate_round : (ns : List ℕ) → KeepsOrder (round (doing (numbers ns ++ (ask (a.arrive_allocate (length ns)) ∷ []))))
allocate_round ns c =
    let After : Due → Core → Type 0 = PartsKeep (doing (selector a.this_team ∷ ask a.leave ∷ [])) IsClear in
    let t = pos (current_team c) in
    let e = with_values c (t ∷ c.values) in
    numbers_then ns (ask (a.arrive_allocate (length ns))) After (owing None) e
    (arrives (ask (a.arrive_allocate (length ns))) (length ns) e (pushed_numbers ns) c.values t (λ d ks. arrivals.Allocate (allotment d ks)) After
    (subst (λ n. taken n (put_down (pushed_numbers ns) (t ∷ c.values)) [] ≡ Some (pushed_numbers ns ++ [], t ∷ c.values)) (as_many ns) (put_taken (pushed_numbers ns) (t ∷ c.values) []))
    (λ k r x. departs c k r x))

pub deallocate_round : (ns : List ℕ) → KeepsOrder (round (doing (numbers ns ++ (ask (a.arrive_deallocate (length ns)) ∷ []))))
deallocate_round ns c =
    let After : Due → Core → Type 0 = PartsKeep (doing (selector a.this_team ∷ ask a.leave ∷ [])) IsClear in
    let t = pos (current_team c) in
    let e = with_values c (t ∷ c.values) in
    numbers_then ns (ask (a.arrive_deallocate (length ns))) After (owing None) e
    (arrives (ask (a.arrive_deallocate (length ns))) (length ns) e (pushed_numbers ns) c.values t (λ d ks. arrivals.Deallocate (map word ks)) After
    (subst (λ n. taken n (put_down (pushed_numbers ns) (t ∷ c.values)) [] ≡ Some (pushed_numbers ns ++ [], t ∷ c.values)) (as_many ns) (put_taken (pushed_numbers ns) (t ∷ c.values) []))
    (λ k r x. departs c k r x))

pub sync_team_round : (k : ℕ) (After : Due → Core → Type 0) → ((e : Core) → After (owing None) e) → (c : Core)
    → PartsKeep (copying k 1) (PartsKeep (doing (team a.near_team ∷ ask a.arrive_sync ∷ [])) (PartsKeep (copying k 1) (PartsKeep (doing (ask a.leave ∷ [])) After))) (owing None) c
sync_team_round k = copied_round k a.near_team a.arrive_sync arrivals.Sync (λ d t vs e. (is_in (natural t) d.teams || is_child d (team_in (natural t) d.known), rw e refl)) (λ d t vs e. rw e refl)

pub change_team_round : (k : ℕ) (After : Due → Core → Type 0) → ((e : Core) → After (owing None) e) → (c : Core)
    → PartsKeep (copying k 1) (PartsKeep (doing (team a.child_team ∷ ask a.arrive_change ∷ [])) (PartsKeep (copying k 1) (PartsKeep (doing (ask a.leave ∷ [])) After))) (owing None) c
change_team_round k = copied_round k a.child_team a.arrive_change arrivals.Change (λ d t vs e. (is_child d (team_in (natural t) d.known), rw e refl)) (λ d t vs e. rw e refl)
