-- STOP and ERROR STOP, with a code.
use Rattle.std.proofs.Common.{◌≡◌, ◌<◌, ◌≤◌, ℤ, List, [], ◌∷◌, length, refl, arith}
use Rattle.caf_base.specs.declared.place.Place.{Place}
use Rattle.caf_base.specs.declared.place.Place.TheVariants as places
use Rattle.caf_events.specs.Asks.{place_of}
use Rattle.caf_events.specs.declared.ask.Ask.{Ask}
use Rattle.caf_events.specs.declared.ask.Ask.TheVariants as asks
use Rattle.walk_theory.specs.Language.{ends_with, stuck}
use Rattle.image_acts.specs.Taking.{Acted}
use Rattle.image_code.specs.declared.step.AskStep.TheVariants as asked
use Rattle.image_state.specs.Kept.{Kept}
use Rattle.image_asks.specs.declared.asks.Asking.TheVariants as askings
use Rattle.image_asks.specs.Asking.{ask_here, ComesTo, IsAsking, IsAsked, IsAskedAt}
use Rattle.image_asks.specs.Operands.{number_beneath}

module _ (f : ℤ → Ask) where
  abbrev ending : List ℤ → Acted
  ending ws = elim ws [ [] ↦ stuck | v ∷ vs ↦ ends_with (f v) ]

  end_asked : (q : Ask) (ws : List ℤ) → IsAsking (ending ws) → q ≡ f (number_beneath 0 ws) → IsAsked (ending ws) q
  end_asked q [] h e = absurd h
  end_asked q (v ∷ vs) h e = e

  end_placed : (p : Place) (ws : List ℤ) → IsAsking (ending ws) → p ≡ place_of (f (number_beneath 0 ws)) → IsAskedAt (ending ws) p
  end_placed p [] h e = absurd h
  end_placed p (v ∷ vs) h e = e

  end_asks : (ws : List ℤ) → 1 ≤ length ws → ComesTo (ending ws) askings.Asks
  end_asks [] h = absurd (omega arith)
  end_asks (v ∷ vs) h = refl

  end_missing : (ws : List ℤ) → length ws < 1 → ComesTo (ending ws) askings.Stuck
  end_missing [] h = refl
  end_missing (v ∷ vs) h = absurd (omega arith)

module _ (m : Kept) where
  pub stop_asked : (q : Ask) → IsAsking (ask_here m asked.Stop) → q ≡ asks.Stop (number_beneath 0 m.core.values) → IsAsked (ask_here m asked.Stop) q
  stop_asked q h e = end_asked asks.Stop q m.core.values h e

  pub stop_placed : (p : Place) → IsAsking (ask_here m asked.Stop) → p ≡ places.Board → IsAskedAt (ask_here m asked.Stop) p
  stop_placed p h e = end_placed asks.Stop p m.core.values h e

  pub stop_asks : 1 ≤ length m.core.values → ComesTo (ask_here m asked.Stop) askings.Asks
  stop_asks h = end_asks asks.Stop m.core.values h

  pub stop_missing : length m.core.values < 1 → ComesTo (ask_here m asked.Stop) askings.Stuck
  stop_missing h = end_missing asks.Stop m.core.values h

  pub error_stop_asked : (q : Ask) → IsAsking (ask_here m asked.ErrorStop) → q ≡ asks.ErrorStop (number_beneath 0 m.core.values) → IsAsked (ask_here m asked.ErrorStop) q
  error_stop_asked q h e = end_asked asks.ErrorStop q m.core.values h e

  pub error_stop_placed : (p : Place) → IsAsking (ask_here m asked.ErrorStop) → p ≡ places.Own → IsAskedAt (ask_here m asked.ErrorStop) p
  error_stop_placed p h e = end_placed asks.ErrorStop p m.core.values h e

  pub error_stop_asks : 1 ≤ length m.core.values → ComesTo (ask_here m asked.ErrorStop) askings.Asks
  error_stop_asks h = end_asks asks.ErrorStop m.core.values h

  pub error_stop_missing : length m.core.values < 1 → ComesTo (ask_here m asked.ErrorStop) askings.Stuck
  error_stop_missing h = end_missing asks.ErrorStop m.core.values h
