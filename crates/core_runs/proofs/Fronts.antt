-- Fronts of core runs.
use Rattle.std.proofs.Common.{◌≡◌, ℕ, suc, List, [], ◌∷◌, ◌++◌, inl, inr, map, refl, ap, ◌∙◌, subst, append_assoc}
use Rattle.std.proofs.lemmas.List.{map-append}
use Rattle.std.specs.Prelude.{Bool, Option, None, nat_eq}
use Rattle.caf_events.specs.declared.ask.Ask.{Ask}
use Rattle.caf_events.specs.declared.ask.Ask.TheVariants as asks
use Rattle.caf_events.specs.declared.reply.Reply.{Reply}
use Rattle.caf_events.specs.declared.event.Entry.{Entry}
use Rattle.caf_events.specs.Asks.{place_of}
use Rattle.caf_events.specs.Histories.{Served}
use Rattle.trace_theory.specs.Entries.{of, Each, AllLater, IsTraceOrder}
use Rattle.trace_theory.specs.Machines.{Move, Said, Walk}
use Rattle.trace_theory.specs.Runs.{IsStamped}
use Rattle.trace_theory.proofs.Filters.{filter_append}
use Rattle.core_runs.specs.Lists.{image_of, key_of, stamp_of, own_stamp, said}
use Rattle.core_runs.specs.Moments.{Rules}
use Rattle.core_runs.specs.Beginnings.{Beginning, IsOneOf, IsThere, IsImage, IsPlace}
use Rattle.core_runs.specs.Sequences.{departure_after, JoinsBehind, Joins, NothingAfterEnd}
use Rattle.core_runs.specs.Failures.{LockPlace, held_after, failure_steps, RunsOut, FailsBy, FailsFrom, NothingAfterLimit}
use Rattle.core_runs.specs.Lawful.{IsLawfulTrace, made_memory}
use Rattle.object_rules.specs.Cells.{Declared}
use Rattle.object_rules.specs.MemoryRules.{memory_ready, memory_reply}
use Rattle.object_rules.specs.BoardRules.{board_ready, board_reply}
use Rattle.core_runs.specs.CoreRuns.{at_board, of_memory, said_by, IsDoneAlone, IsLawful, IsCoreRun}

-- nothing is behind the front of nothing
empty_front : {E : Type 0} (xs ys : List E) → xs ++ ys ≡ [] → xs ≡ []
empty_front [] ys h = refl
empty_front (x ∷ xs) ys h = absurd (cc)

module _ {E : Type 0} (image key stamp : E → ℕ) where
  of_front : (i : ℕ) (xs ys : List E) → of key i (xs ++ ys) ≡ of key i xs ++ of key i ys
  of_front i xs ys = filter_append (λ x. nat_eq (key x) i) xs ys

  each_front : (P : E → Type 0) (xs ys : List E) → Each P (xs ++ ys) → Each P xs
  each_front P [] ys h = tt
  each_front P (x ∷ xs) ys h = (h.0, each_front P xs ys h.1)

  later_front : (e : E) (xs ys : List E) → AllLater image stamp e (xs ++ ys) → AllLater image stamp e xs
  later_front e [] ys h = tt
  later_front e (x ∷ xs) ys h = (h.0, later_front e xs ys h.1)

  order_front : (xs ys : List E) → IsTraceOrder image stamp (xs ++ ys) → IsTraceOrder image stamp xs
  order_front [] ys h = tt
  order_front (x ∷ xs) ys h = (later_front x xs ys h.0, order_front xs ys h.1)

  stamped_front : (own : E → ℕ → ℕ) (xs ys : List E) → IsStamped image key stamp own (xs ++ ys) → IsStamped image key stamp own xs
  stamped_front own xs ys h = λ before after e p. h before (after ++ ys) e (ap (λ zs. zs ++ ys) p ∙ append_assoc before (e ∷ after) ys)

module _ (ready : List Entry → ℕ → Ask → Bool) (reply : List Entry → ℕ → Ask → Reply) where
  served_front : (before xs ys : List Entry) → Served ready reply before (xs ++ ys) → Served ready reply before xs
  served_front before [] ys h = tt
  served_front before (x ∷ xs) ys h = (h.0, h.1, served_front (before ++ x ∷ []) xs ys h.2)

walk_front : {C A R : Type 0} (step : C → Move C A R) (c d : C) (xs ys : List (Said A R)) → Walk step c (xs ++ ys) d → (e : C) × Walk step c xs e
walk_front step c d [] ys w = (c, refl)
walk_front step c d (x ∷ xs) ys (k, comes, w) = let r = walk_front step (k x.reply) d xs ys w in (r.0, (k, comes, r.1))

joins_front : (owed : Option Ask) (xs ys : List (Said Ask Reply)) → JoinsBehind owed (xs ++ ys) → JoinsBehind owed xs
joins_front owed [] ys h = tt
joins_front owed (x ∷ xs) ys h = (h.0, joins_front (departure_after x.ask x.reply) xs ys h.1)

nothing_front : (xs ys : List (Said Ask Reply)) → NothingAfterEnd (xs ++ ys) → NothingAfterEnd xs
nothing_front xs ys h =
    λ before after e p ends. empty_front after ys (h before (after ++ ys) e (ap (λ zs. zs ++ ys) p ∙ append_assoc before (e ∷ after) ys) ends)

said_front : (i : ℕ) (xs ys : List Entry) → said_by i (xs ++ ys) ≡ said_by i xs ++ said_by i ys
said_front i xs ys =
    ap (map (λ (x : Entry). said x.event)) (of_front image_of image_of stamp_of i xs ys) ∙ map-append (λ (x : Entry). said x.event) (of image_of i xs) (of image_of i ys)

module _ (C M B : Type 0) (r : Rules C M B) (b : Beginning C M B) (xs ys : List Entry) where
  lawful_front : IsLawful r b (xs ++ ys) → IsLawful r b xs
  lawful_front h = record {
    ordered = order_front image_of key_of stamp_of xs ys h.ordered;
    stamped = stamped_front image_of key_of stamp_of own_stamp xs ys h.stamped;
    images = each_front image_of key_of stamp_of (λ x. IsImage b (image_of x)) xs ys h.images;
    places = each_front image_of key_of stamp_of (λ x. IsPlace b (place_of x.event.ask)) xs ys h.places;
    memories = λ i is. served_front (r.memory_ready (b.memory i)) (r.memory_reply (b.memory i)) [] (of_memory i xs) (of_memory i ys) (subst (Served (r.memory_ready (b.memory i)) (r.memory_reply (b.memory i)) []) (of_front image_of key_of stamp_of (suc i) xs ys) (h.memories i is));
    board = served_front (r.board_ready b.board) (r.board_reply b.board) [] (at_board xs) (at_board ys) (subst (Served (r.board_ready b.board) (r.board_reply b.board) []) (of_front image_of key_of stamp_of 1 xs ys) h.board);
    alone = each_front image_of key_of stamp_of IsDoneAlone xs ys h.alone;
    joins = λ i. joins_front _ (said_by i xs) (said_by i ys) (subst (JoinsBehind _) (said_front i xs ys) (h.joins i));
  }

  -- a front of a core run is a core run
  pub core_run_front : IsCoreRun r b (xs ++ ys) → IsCoreRun r b xs
  core_run_front h = record {
    lawful = lawful_front h.lawful;
    walks = λ i is. (let w = h.walks i is in walk_front r.step (b.first i) w.0 (said_by i xs) (said_by i ys) (subst (λ es. Walk r.step (b.first i) es w.0) (said_front i xs ys) w.1));
    nothing_after = λ i. nothing_front (said_by i xs) (said_by i ys) (subst NothingAfterEnd (said_front i xs ys) (h.nothing_after i));
  }

runs_front : (ss : List Ask) (xs ys : List (Said Ask Reply)) → RunsOut ss (xs ++ ys) → RunsOut ss xs
runs_front [] [] ys h = tt
runs_front (s ∷ ss) [] ys h = tt
runs_front [] (x ∷ xs) ys h = (h.0, empty_front xs ys h.1)
runs_front (s ∷ ss) (x ∷ xs) ys (inl h) = inl (h.0, runs_front ss xs ys h.1)
runs_front (s ∷ ss) (x ∷ xs) ys (inr h) = inr (h.0, empty_front xs ys h.1)

fails_by_front : (i : ℕ) (held : List LockPlace) (a : Ask) (r : Reply) (xs ys : List (Said Ask Reply)) → ((more : List LockPlace) → FailsFrom i (xs ++ ys) more → FailsFrom i xs more)
    → FailsBy i held a r (xs ++ ys) (FailsFrom i (xs ++ ys)) → FailsBy i held a r xs (FailsFrom i xs)
fails_by_front i held asks.Fail r xs ys next h = runs_front (failure_steps i held) xs ys h
fails_by_front i held a r xs ys next h = (h.0, next (held_after held a r) h.1)

fails_front : (i : ℕ) (xs ys : List (Said Ask Reply)) (held : List LockPlace) → FailsFrom i (xs ++ ys) held → FailsFrom i xs held
fails_front i [] ys held h = tt
fails_front i (x ∷ xs) ys held h = fails_by_front i held x.ask x.reply xs ys (λ more g. fails_front i xs ys more g) h

limits_front : (xs ys : List (Said Ask Reply)) → NothingAfterLimit (xs ++ ys) → NothingAfterLimit xs
limits_front xs ys h =
    λ before after e p ends. empty_front after ys (h before (after ++ ys) e (ap (λ zs. zs ++ ys) p ∙ append_assoc before (e ∷ after) ys) ends)

-- every front of a lawful trace is one
pub lawful_trace_front : (s : List Declared) (n : ℕ) (xs ys : List Entry) → IsLawfulTrace s n (xs ++ ys) → IsLawfulTrace s n xs
lawful_trace_front s n xs ys h = record {
  declared = h.declared;
  ordered = order_front image_of key_of stamp_of xs ys h.ordered;
  stamped = stamped_front image_of key_of stamp_of own_stamp xs ys h.stamped;
  images = each_front image_of key_of stamp_of (λ x. IsOneOf n (image_of x)) xs ys h.images;
  places = each_front image_of key_of stamp_of (λ x. IsThere n (place_of x.event.ask)) xs ys h.places;
  memories = λ i is. served_front (memory_ready (made_memory s i)) (memory_reply (made_memory s i)) [] (of_memory i xs) (of_memory i ys) (subst (Served (memory_ready (made_memory s i)) (memory_reply (made_memory s i)) []) (of_front image_of key_of stamp_of (suc i) xs ys) (h.memories i is));
  board = served_front (board_ready n) (board_reply n) [] (at_board xs) (at_board ys) (subst (Served (board_ready n) (board_reply n) []) (of_front image_of key_of stamp_of 1 xs ys) h.board);
  alone = each_front image_of key_of stamp_of IsDoneAlone xs ys h.alone;
  joins = λ i. joins_front None (said_by i xs) (said_by i ys) (subst Joins (said_front i xs ys) (h.joins i));
  fails = λ i. fails_front i (said_by i xs) (said_by i ys) [] (subst (λ es. FailsFrom i es []) (said_front i xs ys) (h.fails i));
  limits = λ i. limits_front (said_by i xs) (said_by i ys) (subst NothingAfterLimit (said_front i xs ys) (h.limits i));
}
