-- An act allocates and deallocates no coarray but the one that it names.
use Rattle.std.proofs.Common.{ℕ, suc, ◌-◌, Bool, true, false, List, [], ◌∷◌, arith}
use Rattle.std.specs.Prelude.{ℤ, drop, Option, None, Some}
use Rattle.caf_events.specs.declared.ask.Ask.{Ask}
use Rattle.caf_events.specs.declared.ask.Ask.TheVariants as asks
use Rattle.caf_events.specs.declared.reply.Reply.{Reply}
use Rattle.walk_theory.specs.Language.{goes_to, faults, asking, ends_with, stuck}
use Rattle.image_acts.specs.Acts as a
use Rattle.image_acts.specs.Acts.{Act, constant, stack, variable, operator, bounded, allocation, selector, team, call, print, ask}
use Rattle.image_acts.specs.Core.{Core, Array, Frame, Own, with_values}
use Rattle.image_acts.specs.Owning.{own_in}
use Rattle.image_acts.specs.Taking.{Acted, given, unless, taken, taking_one, taking_two, taking, seeing, taking_array}
use Rattle.image_acts.specs.Operate.Stack.{stack_effect}
use Rattle.image_acts.specs.Operate.Variables.{variable_effect}
use Rattle.image_acts.specs.Operate.Operators.{operator_effect}
use Rattle.image_acts.specs.Operate.Bounds.{bounds_effect}
use Rattle.image_acts.specs.Operate.Allocating.{allocation_effect, own_freed}
use Rattle.image_acts.specs.Operate.Selecting.{selector_effect}
use Rattle.image_acts.specs.Operate.Teaming.{team_effect}
use Rattle.image_acts.specs.Operate.Calling.{call_effect}
use Rattle.image_acts.specs.Operate.Printing.{print_effect}
use Rattle.image_acts.specs.Operate.Asking.{ask_effect}
use Rattle.image_acts.specs.Meaning.{missed, settled, effect_of}
use Rattle.told_walks.specs.Asked.{Told}
use Rattle.told_walks.proofs.CalmActs.{Known, known_of, IsCalm, Calm, fine_stack, fine_variable, fine_operator, fine_bounded, fine_allocation, fine_selector, fine_child, fine_near, fine_copy_in, fine_copy_out, fine_print, fine_ask}
use Rattle.told_parts.specs.Allocating.{IsOfSet, ActsOn}

-- what an act comes to asks so
abbrev pub EffectOfSet : (ℕ → Bool) → Acted → Type 0
EffectOfSet f (asking a g) = IsOfSet f a
EffectOfSet f (ends_with a) = IsOfSet f a
EffectOfSet f e = Unit {0}

-- an ask that names what is there whatever the image was told allocates nothing
of_nobody : (f : ℕ → Bool) (a : Ask) → IsCalm a → IsOfSet f a
of_nobody f (asks.Create o c n) h =
    let k : Told = record { me = suc o.0; own = λ t. true; teams = []; sizes = [] } in
    let e = (h.0 k).0 in
    absurd (omega arith)
of_nobody f (asks.Delete o c) h =
    let k : Told = record { me = suc o.0; own = λ t. true; teams = []; sizes = [] } in
    let e = (h.0 k).0 in
    absurd (omega arith)
of_nobody f a h = tt

missing : (f : ℕ → Bool) (x : Act) → EffectOfSet f (missed x)
missing f (ask a.leave) = tt
missing f (ask a.take) = tt
missing f x = tt

pub record Okay (f : ℕ → Bool) (x : Act) (e : Acted) : Type 0 where
  pub ok : EffectOfSet f (settled x e)

module _ (f : ℕ → Bool) (x : Act) where
  calm : (n : Known) (e : Acted) → Calm n e → Okay f x e
  calm n (goes_to d) h = record { ok = tt }
  calm n (faults k) h = record { ok = tt }
  calm n (asking a g) h = record { ok = of_nobody f a h.0 }
  calm n (ends_with a) h = record { ok = of_nobody f a h }
  calm n stuck h = record { ok = missing f x }

  goes : (d : Core) → Okay f x (goes_to d)
  goes d = record { ok = tt }

  no_operand : Okay f x stuck
  no_operand = record { ok = missing f x }

  asked : (a : Ask) (g : Reply → Core) → IsOfSet f a → Okay f x (asking a g)
  asked a g h = record { ok = h }

  so : (k : ℕ) (b : Bool) (e : Acted) → Okay f x e → Okay f x (unless k b e)
  so k true e h = h
  so k false e h = record { ok = tt }

  there : {X : Type 0} (o : Option X) (g : X → Acted) → ((z : X) → Okay f x (g z)) → Okay f x (given o g)
  there None g h = no_operand
  there (Some z) g h = h z

  top : (c : Core) (g : ℤ → Core → Acted) → ((v : ℤ) (vs : List ℤ) → Okay f x (g v (with_values c vs))) → Okay f x (taking_one c g)
  top c g h = by_values c.values
    where
      by_values : (vs : List ℤ) → Okay f x (elim vs [ [] ↦ stuck | w ∷ ws ↦ g w (with_values c ws) ])
      by_values [] = no_operand
      by_values (v ∷ vs) = h v vs

  top_two : (c : Core) (g : ℤ → ℤ → Core → Acted) → ((v w : ℤ) (vs : List ℤ) → Okay f x (g v w (with_values c vs))) → Okay f x (taking_two c g)
  top_two c g h = top c (λ w d. taking_one d (λ v e. g v w e)) (λ w ws. top (with_values c ws) (λ v e. g v w e) (λ v vs. h v w vs))

  some_of : (m : ℕ) (c : Core) (g : List ℤ → Core → Acted) → ((vs ws : List ℤ) → Okay f x (g vs (with_values c ws))) → Okay f x (taking m c g)
  some_of m c g h = there (taken m c.values []) (λ p. g p.0 (with_values c p.1)) (λ p. h p.0 p.1)

  seen : (depth m : ℕ) (c : Core) (g : List ℤ → Acted) → ((vs : List ℤ) → Okay f x (g vs)) → Okay f x (seeing depth m c g)
  seen depth m c g h = there (taken m (drop depth c.values) []) (λ p. g p.0) (λ p. h p.0)

  top_array : (c : Core) (g : Array → Core → Acted) → ((y : Array) (ys : List Array) → Okay f x (g y (record c { arrays = ys }))) → Okay f x (taking_array c g)
  top_array c g h = by_arrays c.arrays
    where
      by_arrays : (ys : List Array) → Okay f x (elim ys [ [] ↦ stuck | z ∷ zs ↦ g z (record c { arrays = zs }) ])
      by_arrays [] = no_operand
      by_arrays (y ∷ ys) = h y ys

nothing : Unit {0}
nothing = tt

ruleset okay = (goes, no_operand, asked, so, there, top, top_two, some_of, seen, top_array, nothing)

-- frees a coarray, or returns to the caller
freed_okay : (f : ℕ → Bool) (k : ℕ) (o : Option Own) (c : Core) → Okay f (allocation (a.note_freed k)) (own_freed k o c)
freed_okay f k None c = record { ok = tt }
freed_okay f k (Some o) c = record { ok = tt }

abbrev to_caller : Core → List Frame → Acted
to_caller c [] = stuck
to_caller c (g ∷ gs) = goes_to (record c { frame = g; callers = gs; local_cells = c.local_cells - c.frame.need; used = c.frame.base })

returned : (f : ℕ → Bool) (c : Core) (gs : List Frame) → Okay f (call a.end_frame) (to_caller c gs)
returned f c [] = record { ok = tt }
returned f c (g ∷ gs) = record { ok = tt }

okay_made : (f : ℕ → Bool) (k depth rank corank : ℕ) (c : Core) → Okay f (allocation (a.note_made k depth rank corank)) (allocation_effect (a.note_made k depth rank corank) c)
okay_made f k depth rank corank c = search okay

okay_team : (f : ℕ → Bool) (c : Core) → Okay f (team a.make_current) (team_effect a.make_current c)
okay_team f c = search okay

okay_noted : (f : ℕ → Bool) (s : a.Scope) (x : ℕ) (c : Core) → Okay f (team (a.note_teams s x)) (team_effect (a.note_teams s x) c)
okay_noted f s x c = search okay

okay_frame : (f : ℕ → Bool) (cells arrays need : ℕ) (c : Core) → Okay f (call (a.begin_frame cells arrays need)) (call_effect (a.begin_frame cells arrays need) c)
okay_frame f cells arrays need c = search okay

okay_ask : (f : ℕ → Bool) (x : a.AskAct) (c : Core) → ActsOn f (ask x) → Okay f (ask x) (ask_effect x c)
okay_ask f a.arrive_sync c h = search okay
okay_ask f a.arrive_form c h = search okay
okay_ask f a.arrive_change c h = search okay
okay_ask f a.arrive_end c h = search okay
okay_ask f (a.arrive_allocate n) c h = search okay
okay_ask f (a.arrive_deallocate n) c h = search okay
okay_ask f (a.gather op kind) c h = search okay
okay_ask f a.leave c h = search okay
okay_ask f a.failed c h = search okay
okay_ask f a.stopped c h = search okay
okay_ask f a.status c h = search okay
okay_ask f a.pair c h = search okay
okay_ask f (a.create k depth rank) c h = search (okay, h)
okay_ask f (a.delete k) c h = record { ok = h }
okay_ask f x c h = calm f (ask x) (known_of c) (ask_effect x c) (fine_ask x c tt).calm

pub okay_act : (f : ℕ → Bool) (x : Act) (c : Core) → ActsOn f x → EffectOfSet f (effect_of x c)
okay_act f (constant v) c h = tt
okay_act f (stack x) c h = (calm f (stack x) (known_of c) (stack_effect x c) (fine_stack x c).calm).ok
okay_act f (variable x) c h = (calm f (variable x) (known_of c) (variable_effect x c) (fine_variable x c).calm).ok
okay_act f (operator x) c h = (calm f (operator x) (known_of c) (operator_effect x c) (fine_operator x c).calm).ok
okay_act f (bounded x) c h = (calm f (bounded x) (known_of c) (bounds_effect x c) (fine_bounded x c).calm).ok
okay_act f (allocation (a.note_made k depth rank corank)) c h = (okay_made f k depth rank corank c).ok
okay_act f (allocation (a.note_freed k)) c h = (freed_okay f k (own_in c k) c).ok
okay_act f (allocation x) c h = (calm f (allocation x) (known_of c) (allocation_effect x c) (fine_allocation x c tt).calm).ok
okay_act f (selector x) c h = (calm f (selector x) (known_of c) (selector_effect x c) (fine_selector x c).calm).ok
okay_act f (team a.child_team) c h = (calm f (team a.child_team) (known_of c) (team_effect a.child_team c) (fine_child c).calm).ok
okay_act f (team a.near_team) c h = (calm f (team a.near_team) (known_of c) (team_effect a.near_team c) (fine_near c).calm).ok
okay_act f (team a.make_current) c h = (okay_team f c).ok
okay_act f (team a.leave_team) c h = tt
okay_act f (team (a.note_teams s x)) c h = (okay_noted f s x c).ok
okay_act f (call (a.begin_frame cells arrays need)) c h = (okay_frame f cells arrays need c).ok
okay_act f (call (a.copy_in x)) c h = (calm f (call (a.copy_in x)) (known_of c) (call_effect (a.copy_in x) c) (fine_copy_in x c).calm).ok
okay_act f (call (a.copy_out x)) c h = (calm f (call (a.copy_out x)) (known_of c) (call_effect (a.copy_out x) c) (fine_copy_out x c).calm).ok
okay_act f (call a.end_frame) c h = (returned f c c.callers).ok
okay_act f (print x) c h = (calm f (print x) (known_of c) (print_effect x c) (fine_print x c).calm).ok
okay_act f (ask x) c h = (okay_ask f x c h).ok
