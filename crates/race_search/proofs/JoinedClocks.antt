-- The clocks of some images joined one after the other.
use Rattle.std.proofs.Common.{◌≡◌, ℕ, zero, suc, ◌+◌, ◌<◌, max, List, [], ◌∷◌, ◌++◌, length, map, get_or, take, inl, inr, refl, ap, sym, ◌∙◌, subst, arith}
use Rattle.std.specs.Prelude.{Option}
use Rattle.std.proofs.lemmas.List.{take_more, map-append}
use Rattle.caf_events.specs.declared.event.Entry.{Entry}
use Rattle.order_theory.specs.Order.{Within}
use Rattle.order_theory.specs.Clocks.{Covers}
use Rattle.order_theory.specs.Stored.{present}
use Rattle.order_theory.proofs.Clocks.{covers_same, covers_join}
use Rattle.order_theory.proofs.Sources.{sound}
use Rattle.segment_clock.specs.Counts.{count_of, joined}
use Rattle.segment_clock.proofs.Joins.{count_joined}
use Rattle.order_axioms.specs.Views.{speaks_by, view, edges}
use Rattle.race_watch.specs.Recorded.{IsTold}
use Rattle.race_search.specs.Known.{TellsOf}

pub within_at : (xs : List ℕ) (i : ℕ) → i < length xs → Within (get_or xs i 0) xs
within_at [] i l = absurd (omega arith)
within_at (x ∷ xs) zero l = inl refl
within_at (x ∷ xs) (suc i) l = inr (within_at xs i (omega arith))

module _ (n : ℕ) (g : List Entry) where
  pub joined_next : (clock own xs : List ℕ) (i : ℕ) → i < length xs → length own ≡ length clock → Covers (edges n) g (map (present (view n) g) (take i xs)) (count_of clock)
      → Covers (edges n) g (present (view n) g (get_or xs i 0) ∷ []) (count_of own) → Covers (edges n) g (map (present (view n) g) (take (i + 1) xs)) (count_of (joined clock own))
  joined_next clock own xs i l same old new =
      subst (λ z. Covers (edges n) g z (count_of (joined clock own))) (sym (ap (map (present (view n) g)) (take_more xs i 0 l) ∙ map-append (present (view n) g) (take i xs) (get_or xs i 0 ∷ [])))
      (covers_same Entry (edges n) (sound Entry (view n)) g (map (present (view n) g) (take i xs) ++ present (view n) g (get_or xs i 0) ∷ []) (λ j. max (count_of clock j) (count_of own j)) (count_of (joined clock own)) (λ j. count_joined clock own j same)
      (covers_join Entry (edges n) (sound Entry (view n)) g (map (present (view n) g) (take i xs)) (present (view n) g (get_or xs i 0) ∷ []) (count_of clock) (count_of own) old new))

-- a clock of the images of which the entry's status speaks
pub told_of : (n : ℕ) (g : List Entry) (e : Entry) (images : List ℕ) → images ≡ speaks_by n g e.image.0 e.event.ask e.event.reply → (told : Option (List ℕ)) → TellsOf n g images told → IsTold n g e told
told_of n g e images same told h = let k = subst (λ z. TellsOf n g z told) same h in record { sized = k.sized; covers = k.covers }
