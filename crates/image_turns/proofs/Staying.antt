-- An image's steps keep what holds of it.
use Rattle.std.proofs.Common.{◌≡◌, ℕ, suc, ◌<◌, List, [], ◌∷◌, ◌++◌, inl, inr, length, map, refl, ap, sym, ◌∙◌, subst, arith, length-append}
use Rattle.trace_theory.specs.Machines.{Move, goes, asks, over, WalkTo, Rests}
use Rattle.trace_theory.proofs.Snocs.{each_last}
use Rattle.caf_base.specs.declared.place.Place.{Place}
use Rattle.caf_base.specs.declared.place.Place.TheVariants as places
use Rattle.caf_events.specs.declared.ask.Ask.{Ask}
use Rattle.caf_events.specs.declared.reply.Reply.{Reply}
use Rattle.caf_events.specs.declared.reply.Reply.TheVariants as replies
use Rattle.caf_events.specs.declared.event.Event.{Event}
use Rattle.caf_events.specs.declared.walker.Walker as walker
use Rattle.caf_events.specs.declared.object.Object as objects
use Rattle.caf_events.specs.Asks.{place_of}
use Rattle.caf_events.specs.Walkers.{AsksNext, IsAtLine, Continues}
use Rattle.core_runs.specs.Lists.{said, last_of}
use Rattle.core_runs.specs.Beginnings.{IsThere}
use Rattle.core_runs.proofs.Weaves.{map_append}
use Rattle.core_runs.proofs.Lanes.{walk_on}
use Rattle.image_core.specs.declared.run.ImageRun.{ImageRun}
use Rattle.image_core.specs.Prepared.{move_of, AsksAt, StepsAlone}
use Rattle.turn_gate.specs.Passes.{Opened}
use Rattle.turn_gate.specs.declared.turn.Turn.{Turn}
use Rattle.turn_gate.specs.declared.turn.Turn.TheVariants.{Done}
use Rattle.image_gate.specs.declared.passes.Passes.{Passes}
use Rattle.image_gate.specs.Fabrics.{AreOf, IsPlaceOf, TurnsAt}
use Rattle.image_turns.specs.Turns.{HasWalked, AreLinked, GoesOn, ArePassesOf, StaysOn, MadeNone, MadeAlone, passes_of}
use Rattle.image_turns.proofs.Linking.{events_by, linked_after, linked_alone}

-- the ask that is next is the one that is asked
pub same_ask : {C : Type 0} (m : Move C Ask Reply) (a b : Ask) → AsksNext m a → AsksNext m b → a ≡ b
same_ask (goes c) a b h k = absurd h
same_ask (asks x l f) a b h k = h ∙ sym k
same_ask over a b h k = absurd h

pub place_next : {C : Type 0} (m : Move C Ask Reply) (q : Place) (a : Ask) → AsksAt q m → AsksNext m a → place_of a ≡ q
place_next (goes c) q a h k = absurd h
place_next (asks x l f) q a h k = ap place_of k ∙ h
place_next over q a h k = absurd h

is_there_own : (n : ℕ) (q : Place) → q ≡ places.Own → IsThere n q
is_there_own n places.Own h = tt
is_there_own n places.Board h = tt
is_there_own n (places.Memory owner) h = absurd (cc)

is_there : (n : ℕ) (q : Place) → IsPlaceOf n q → IsThere n q
is_there n places.Board h = tt
is_there n (places.Memory owner) h = h
is_there n places.Own h = tt

not_own : (n : ℕ) (q : Place) → IsPlaceOf n q → q ≡ places.Own → ⊥
not_own n places.Board h e = absurd (cc)
not_own n (places.Memory owner) h e = absurd (cc)
not_own n places.Own h e = absurd h

module _ {C : Type 0} (step : C → Move C Ask Reply) (left : C → ℕ) (n : ℕ) (c : C) (most : ℕ) (d d' : C) (es : List Event) (e : Event) where
  -- one event more of a walk
  walked_more : HasWalked step left n c most es d → AsksNext (step d) e.ask → IsAtLine (step d) e.line → Continues step (step d) e.reply d' → Rests (step d') → left d' < left d
      → IsThere n (place_of e.ask) → (place_of e.ask ≡ places.Own → e.reply ≡ replies.Done) → HasWalked step left n c most (es ++ e ∷ []) d'
  walked_more w asked line goes_on rests falls there alone = record {
    walks = subst (λ l. WalkTo step c l d') (sym (map_append said es (e ∷ []))) (walk_on step c d d' (step d) (map said es) e refl w.walks asked line goes_on);
    rests = rests;
    places = each_last (λ (x : Event). IsThere n (place_of x.ask)) es e w.places there;
    alone = each_last (λ (x : Event). place_of x.ask ≡ places.Own → x.reply ≡ replies.Done) es e w.alone alone;
    few = let l = length-append es (e ∷ []) in let f = w.few in omega arith;
  }

module _ {M O B : Type 0} (walks : walker.Ghosts M) (board : Opened B) (memories : List (Opened O)) where
  -- where no step was made and nothing was asked
  pub stays_same : (r : ImageRun M) (p : Passes) → ArePassesOf board memories r p → StaysOn walks board memories r p r p
  stays_same r p a = record { image = refl; passes = a; goes_on = λ c most h. h }

  pub stays_both : (r r' r'' : ImageRun M) (p p' p'' : Passes) → StaysOn walks board memories r p r' p' → StaysOn walks board memories r' p' r'' p'' → StaysOn walks board memories r p r'' p''
  stays_both r r' r'' p p' p'' a b = record { image = b.image ∙ a.image; passes = b.passes; goes_on = λ c most h. b.goes_on c most (a.goes_on c most h) }

  passes_same : (r r' : ImageRun M) (p : Passes) → r'.image ≡ r.image → ArePassesOf board memories r p → ArePassesOf board memories r' p
  passes_same r r' p same a = record {
    image = subst (λ (z : ℕ). 0 < z) (sym (ap (λ i. i.0) same)) a.image;
    passes = subst (λ (z : ℕ). AreOf board memories z p.board p.memories.items) (sym (ap (λ i. i.0) same)) a.passes;
  }

  -- the passes after a turn are still those of the image
  passes_turned : (r r' : ImageRun M) (p p' : Passes) → r'.image ≡ r.image → ArePassesOf board memories r p → AreOf board memories p.board.image p'.board p'.memories.items → ArePassesOf board memories r' p'
  passes_turned r r' p p' same a turned = record {
    image = subst (λ (z : ℕ). 0 < z) (sym (ap (λ i. i.0) same)) a.image;
    passes = subst (λ (z : ℕ). AreOf board memories z p'.board p'.memories.items) (a.passes.board_is.1 ∙ sym (ap (λ i. i.0) same)) turned;
  }

  -- the same events and the same place of the program
  kept_by : (r r' : ImageRun M) (p p' : Passes) → r'.image ≡ r.image → MadeNone walks r r' → (c : walks.Config) (most : ℕ) → GoesOn walks (length memories) c most r p
      → AreLinked (suc (length memories)) r.image.0 r.events.items (passes_of p') → GoesOn walks (length memories) c most r' p'
  kept_by r r' p p' same none c most h l = record {
    walked = subst (λ (z : List Event × walks.Config). HasWalked walks.step walks.asks_left (length memories) c most z.0 z.1) (λ j. (sym none.events j, sym none.machine j)) h.walked;
    linked = subst (λ (z : ℕ × List Event). AreLinked (suc (length memories)) z.0 z.1 (passes_of p')) (λ j. (sym (ap (λ i. i.0) same) j, sym none.events j)) l;
  }

  pub stays_idle : (r r' : ImageRun M) (p : Passes) → r'.image ≡ r.image → MadeNone walks r r' → ArePassesOf board memories r p → StaysOn walks board memories r p r' p
  stays_idle r r' p same none a = record { image = same; passes = passes_same r r' p same a; goes_on = λ c most h. kept_by r r' p p same none c most h h.linked }

  alone_more : (r r' : ImageRun M) (p : Passes) (e : Event) → r'.image ≡ r.image → StepsAlone walks r r' e → Rests (move_of walks r') → walks.asks_left (walks.config r'.machine) < walks.asks_left (walks.config r.machine)
      → place_of e.ask ≡ places.Own → (c : walks.Config) (most : ℕ) → GoesOn walks (length memories) c most r p → GoesOn walks (length memories) c most r' p
  alone_more r r' p e same s rests falls alone c most h = record {
    walked = subst (λ es. HasWalked walks.step walks.asks_left (length memories) c most es (walks.config r'.machine)) (sym s.events)
        (walked_more walks.step walks.asks_left (length memories) c most (walks.config r.machine) (walks.config r'.machine) r.events.items e h.walked s.asked s.line s.goes_on rests falls (is_there_own (length memories) (place_of e.ask) alone) (λ q. s.reply));
    linked = subst (λ (z : ℕ × List Event). AreLinked (suc (length memories)) z.0 z.1 (passes_of p)) (λ j. (sym (ap (λ i. i.0) same) j, sym s.events j))
        (linked_alone (suc (length memories)) r.image.0 r.events.items (passes_of p) e alone s.stamp h.linked);
  }

  -- after a step by itself, or none
  pub stays_alone : (r r' : ImageRun M) (p : Passes) → AsksAt places.Own (move_of walks r) → r'.image ≡ r.image → MadeAlone walks r r' → ArePassesOf board memories r p → StaysOn walks board memories r p r' p
  stays_alone r r' p at same (inl none) a = stays_idle r r' p same none a
  stays_alone r r' p at same (inr s) a = record {
    image = same;
    passes = passes_same r r' p same a;
    goes_on = λ c most h. alone_more r r' p s.0 same s.1 s.2 s.3 (place_next (move_of walks r) places.Own s.0.ask at s.1.asked) c most h;
  }

  module _ (memory : objects.Ghosts O) (control : objects.Ghosts B) (r r' : ImageRun M) (p p' : Passes) (a : ArePassesOf board memories r p) (same : r'.image ≡ r.image)
      (ask : Ask) (line after : ℕ) (last : after ≡ last_of r.events.items) (there : IsPlaceOf (length memories) (place_of ask))
      (of_image : AreOf board memories p.board.image p'.board p'.memories.items) where
    -- after a turn in which no step was made
    pub stays_waiting : (turn : Turn) → events_by turn r.events.items ≡ r.events.items → TurnsAt memory control board memories (place_of ask) p p' ask line after turn → MadeNone walks r r' → StaysOn walks board memories r p r' p'
    stays_waiting turn none_made t none = record {
      image = same;
      passes = passes_turned r r' p p' same a of_image;
      goes_on = λ c most h. kept_by r r' p p' same none c most h
          (subst (λ es. AreLinked (suc (length memories)) r.image.0 es (passes_of p')) none_made (linked_after memory control board memories r.image.0 r.events.items p p' h.linked ask line turn after last there t));
    }

    -- after one in which a step was made
    pub stays_stepped : (e : Event) → TurnsAt memory control board memories (place_of ask) p p' ask line after (Done e) → e.ask ≡ ask → AsksNext (move_of walks r) ask → IsAtLine (move_of walks r) e.line
        → Continues walks.step (move_of walks r) e.reply (walks.config r'.machine) → Rests (move_of walks r') → walks.asks_left (walks.config r'.machine) < walks.asks_left (walks.config r.machine)
        → r'.events.items ≡ r.events.items ++ e ∷ [] → StaysOn walks board memories r p r' p'
    stays_stepped e t ask_is asked line_is goes_on rests falls events = record {
      image = same;
      passes = passes_turned r r' p p' same a of_image;
      goes_on = λ c most h.
          let there_now : IsPlaceOf (length memories) (place_of e.ask) = subst (λ (b : Ask). IsPlaceOf (length memories) (place_of b)) (sym ask_is) there in
          record {
            walked = subst (λ es. HasWalked walks.step walks.asks_left (length memories) c most es (walks.config r'.machine)) (sym events)
                (walked_more walks.step walks.asks_left (length memories) c most (walks.config r.machine) (walks.config r'.machine) r.events.items e h.walked
                (subst (AsksNext (move_of walks r)) (sym ask_is) asked) line_is goes_on rests falls (is_there (length memories) (place_of e.ask) there_now) (λ q. absurd (not_own (length memories) (place_of e.ask) there_now q)));
            linked = subst (λ (z : ℕ × List Event). AreLinked (suc (length memories)) z.0 z.1 (passes_of p')) (λ j. (sym (ap (λ i. i.0) same) j, sym events j))
                (linked_after memory control board memories r.image.0 r.events.items p p' h.linked ask line (Done e) after last there t);
          };
    }

-- what a turn that made a step tells of its event
pub told_ask : {O B : Type 0} (memory : objects.Ghosts O) (control : objects.Ghosts B) (board : Opened B) (memories : List (Opened O)) (q : Place) (p p' : Passes) (ask : Ask) (line after : ℕ) (e : Event)
    → TurnsAt memory control board memories q p p' ask line after (Done e) → (e.ask ≡ ask) × (e.line ≡ line)
told_ask memory control board memories places.Board p p' ask line after e t = let v = t.1.tells.answers.event in (ap (λ (x : Event). x.ask) v, ap (λ (x : Event). x.line) v)
told_ask memory control board memories (places.Memory owner) p p' ask line after e t = let v = t.1.here.tells.answers.event in (ap (λ (x : Event). x.ask) v, ap (λ (x : Event). x.line) v)
told_ask memory control board memories places.Own p p' ask line after e t = absurd t
