-- How many callers each act leaves: as many as there were, one more where a frame begins, one less where it ends.
use Rattle.std.proofs.Common.{◌≡◌, ℕ, zero, suc, ◌+◌, ◌<◌, ◌≤◌, Bool, true, false, List, [], ◌∷◌, length, nat_lt, nat_le, refl, sym, subst, arith}
use Rattle.std.proofs.lemmas.Bool.{ltb-true}
use Rattle.std.specs.Prelude.{ℤ, Option, None, Some}
use Rattle.caf_events.specs.declared.ask.Ask.{Ask}
use Rattle.caf_events.specs.declared.reply.Reply.{Reply}
use Rattle.caf_events.specs.declared.reply.Reply.TheVariants as replies
use Rattle.walk_theory.specs.Language.{goes_to, faults, asking, ends_with, stuck}
use Rattle.image_acts.specs.Statuses.{most_frames, most_cells}
use Rattle.image_acts.specs.Faults.{depth_fault, room}
use Rattle.image_acts.specs.Acts as a
use Rattle.image_acts.specs.Acts.{Act, call, ask}
use Rattle.image_acts.specs.Core.{Core, Array, Frame, with_values}
use Rattle.image_acts.specs.Replies.{leave_reply}
use Rattle.image_acts.specs.Taking.{Acted, given, unless, taken, taking_one, taking, taking_array}
use Rattle.image_acts.specs.Operate.Asking.{ask_effect}
use Rattle.image_acts.specs.Meaning.{operate, missed, settled, effect_of}
use Rattle.program_walks.proofs.FreeActs.{Calm, calm_act, to_caller}

-- so many callers are left
abbrev Leaves : ℕ → Acted → Type 0
Leaves n (goes_to d) = length d.callers ≡ n
Leaves n (faults k) = Unit {0}
Leaves n (asking q f) = (r : Reply) → length (f r).callers ≡ n
Leaves n (ends_with q) = Unit {0}
Leaves n stuck = Unit {0}

calm_leaves : (n : ℕ) (e : Acted) → Calm n e → Leaves n e
calm_leaves n (goes_to d) h = h
calm_leaves n (faults k) h = tt
calm_leaves n (asking q f) h = h.2
calm_leaves n (ends_with q) h = tt
calm_leaves n stuck h = tt

-- ---- arrivals and departures
record Left (n : ℕ) (e : Acted) : Type 0 where
  left : Leaves n e

no_operand : (n : ℕ) → Left n stuck
no_operand n = record { left = tt }

asked : (n : ℕ) (q : Ask) (f : Reply → Core) → ((r : Reply) → length (f r).callers ≡ n) → Left n (asking q f)
asked n q f h = record { left = h }

there : {X : Type 0} (n : ℕ) (o : Option X) (f : X → Acted) → ((x : X) → Left n (f x)) → Left n (given o f)
there n None f h = no_operand n
there n (Some x) f h = h x

top : (n : ℕ) (c : Core) (f : ℤ → Core → Acted) → ((v : ℤ) (vs : List ℤ) → Left n (f v (with_values c vs))) → Left n (taking_one c f)
top n c f h = by_values c.values
  where
    by_values : (vs : List ℤ) → Left n (elim vs [ [] ↦ stuck | w ∷ ws ↦ f w (with_values c ws) ])
    by_values [] = no_operand n
    by_values (v ∷ vs) = h v vs

some_of : (n m : ℕ) (c : Core) (f : List ℤ → Core → Acted) → ((vs ws : List ℤ) → Left n (f vs (with_values c ws))) → Left n (taking m c f)
some_of n m c f h = there n (taken m c.values []) (λ p. f p.0 (with_values c p.1)) (λ p. h p.0 p.1)

top_array : (n : ℕ) (c : Core) (f : Array → Core → Acted) → ((x : Array) (xs : List Array) → Left n (f x (record c { arrays = xs }))) → Left n (taking_array c f)
top_array n c f h = by_arrays c.arrays
  where
    by_arrays : (xs : List Array) → Left n (elim xs [ [] ↦ stuck | y ∷ ys ↦ f y (record c { arrays = ys }) ])
    by_arrays [] = no_operand n
    by_arrays (x ∷ xs) = h x xs

left_again : (c : Core) (r : Reply) → length (leave_reply c r).callers ≡ length c.callers
left_again c (replies.Left s ts) = refl
left_again c r = refl

ruleset rounds = (no_operand, asked, there, top, some_of, top_array, left_again)

round_leaves : (x : a.AskAct) (c : Core) → Left (length c.callers) (ask_effect x c)
round_leaves a.arrive_sync c = search rounds
round_leaves a.arrive_form c = search rounds
round_leaves a.arrive_change c = search rounds
round_leaves a.arrive_end c = search rounds
round_leaves (a.arrive_allocate n) c = search rounds
round_leaves (a.arrive_deallocate n) c = search rounds
round_leaves a.leave c = search rounds
round_leaves (a.gather op kind) c = search rounds
round_leaves a.take c = search rounds
round_leaves a.pair c = search rounds
round_leaves a.unpair c = search rounds
round_leaves x c = record { left = calm_leaves (length c.callers) (ask_effect x c) (calm_act (ask x) c tt tt) }

-- ---- all acts
-- from where so many callers are, `After` is told of how many there are behind an act
abbrev behind_frame : (ℕ → Type 0) → ℕ → Type 0
behind_frame After zero = Unit {0}
behind_frame After (suc n) = After n

abbrev pub ActFits : Act → (ℕ → Type 0) → ℕ → Type 0
ActFits (call (a.begin_frame cells arrays need)) After n = After (suc n)
ActFits (call a.end_frame) After n = behind_frame After n
ActFits x After n = After n

-- and of what it comes to; more frames than can be are never begun
abbrev pub EffectFits : Acted → (ℕ → Type 0) → Type 0
EffectFits (goes_to d) After = After (length d.callers) × (length d.callers ≤ most_frames)
EffectFits (faults k) After = Unit {0}
EffectFits (asking q f) After = (r : Reply) → After (length (f r).callers) × (length (f r).callers ≤ most_frames)
EffectFits (ends_with q) After = Unit {0}
EffectFits stuck After = Unit {0}

leaves_fits : (n : ℕ) (e : Acted) → Leaves n e → (After : ℕ → Type 0) → After n → n ≤ most_frames → EffectFits e After
leaves_fits n (goes_to d) h After k few = subst (λ m. After m × (m ≤ most_frames)) (sym h) (k, few)
leaves_fits n (faults x) h After k few = tt
leaves_fits n (asking q f) h After k few = λ r. subst (λ m. After m × (m ≤ most_frames)) (sym (h r)) (k, few)
leaves_fits n (ends_with q) h After k few = tt
leaves_fits n stuck h After k few = tt

missed_fits : (x : Act) (After : ℕ → Type 0) → EffectFits (missed x) After
missed_fits (ask a.leave) After = tt
missed_fits (ask a.take) After = tt
missed_fits x After = tt

settled_fits : (x : Act) (e : Acted) (After : ℕ → Type 0) → EffectFits e After → EffectFits (settled x e) After
settled_fits x (goes_to d) After h = h
settled_fits x (faults k) After h = h
settled_fits x (asking q f) After h = h
settled_fits x (ends_with q) After h = h
settled_fits x stuck After h = missed_fits x After

one_more : (n l m : ℕ) → l ≡ suc n → n < m → l ≤ m
one_more n l m e less = omega arith

one_less : (n m : ℕ) → suc n ≤ m → n ≤ m
one_less n m few = omega arith

begins : (b d : Bool) (c e : Core) (After : ℕ → Type 0) → length e.callers ≡ suc (length c.callers) → After (suc (length c.callers)) → nat_lt (length c.callers) most_frames ≡ b
    → EffectFits (unless depth_fault b (unless room d (goes_to e))) After
begins true true c e After more h less = (subst After (sym more) h, one_more (length c.callers) (length e.callers) most_frames more (ltb-true (length c.callers) most_frames less))
begins true false c e After more h less = tt
begins false d c e After more h less = tt

ends : (c : Core) (fs : List Frame) (After : ℕ → Type 0) → behind_frame After (length fs) → length fs ≤ most_frames → EffectFits (to_caller c fs) After
ends c [] After h few = tt
ends c (f ∷ fs) After h few = (h, one_less (length fs) most_frames few)

pub act_fits : (x : Act) (c : Core) (After : ℕ → Type 0) → ActFits x After (length c.callers) → length c.callers ≤ most_frames → EffectFits (effect_of x c) After
act_fits (call (a.begin_frame cells arrays need)) c After h few =
    settled_fits (call (a.begin_frame cells arrays need)) (operate (call (a.begin_frame cells arrays need)) c) After (begins (nat_lt (length c.callers) most_frames) (nat_le (c.local_cells + need) most_cells) c _ After refl h refl)
act_fits (call a.end_frame) c After h few = settled_fits (call a.end_frame) (to_caller c c.callers) After (ends c c.callers After h few)
act_fits (ask x) c After h few = settled_fits (ask x) (ask_effect x c) After (leaves_fits (length c.callers) (ask_effect x c) (round_leaves x c).left After h few)
act_fits x c After h few = settled_fits x (operate x c) After (leaves_fits (length c.callers) (operate x c) (calm_leaves (length c.callers) (operate x c) (calm_act x c tt tt)) After h few)
