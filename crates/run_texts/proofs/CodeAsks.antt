-- What code asks, act by act: no section of more than three dimensions is read or written.
use Rattle.std.proofs.Common.{◌≡◌, ℕ, zero, suc, ◌+◌, Bool, true, false, cond, List, [], ◌∷◌, length, refl, subst}
use Rattle.std.specs.Prelude.{nat_lt, Option, Some, None, slice_get}
use Rattle.caf_events.specs.declared.ask.Ask.{Ask}
use Rattle.caf_events.specs.declared.reply.Reply.{Reply}
use Rattle.trace_theory.specs.Entries.{Each}
use Rattle.trace_theory.specs.Machines.{Move, goes, asks, over, goes_on, go, Said, Walk}
use Rattle.walk_theory.specs.Language as l
use Rattle.walk_theory.specs.Language.{Tested, acted, counted, by_test}
use Rattle.walk_theory.specs.Code.{Instr, does_act, count_one, jump, jump_if, jump_unless, skip, skip_unless, call, go_back, Line, State, at_place, returned, does, fetched, code_step}
use Rattle.image_acts.specs.Acts.{Act}
use Rattle.image_acts.specs.Core.{Core}
use Rattle.image_acts.specs.Taking.{Acted}
use Rattle.image_acts.specs.Meaning.{effect_of, image_language}
use Rattle.checked_run.specs.Doing.{Does, DoesAll}
use Rattle.lawful_texts.specs.Ranges.{IsThreefold}
use Rattle.run_texts.proofs.Effects.{IsTame, act_tame}

abbrev Moves : Type 0
Moves = Move (State Core) Ask Reply

-- what is asked there, if anything is, is so
abbrev AsksFew : Moves → Type 0
AsksFew (goes c) = Unit {0}
AsksFew (asks a m k) = IsThreefold a
AsksFew over = Unit {0}

acted_few : (m : ℕ) (onward ended : Core → State Core) (c : Core) (e : Acted) → IsTame e → AsksFew (acted image_language m onward ended c e)
acted_few m onward ended c (l.goes_to d) h = tt
acted_few m onward ended c (l.faults k) h = tt
acted_few m onward ended c (l.asking a f) h = h
acted_few m onward ended c (l.ends_with a) h = h
acted_few m onward ended c l.stuck h = tt

counted_few : (limit m n : ℕ) (onward ended : State Core) → AsksFew (counted image_language limit m n onward ended)
counted_few limit m n onward ended = by_test_of (nat_lt n limit)
  where
    by_test_of : (b : Bool) → AsksFew (cond b (goes onward) (asks (image_language.too_many (n + 1)) m (λ r. ended)))
    by_test_of true = tt
    by_test_of false = tt

test_few : (t : Tested Core) (so other : Core → State Core) → AsksFew (by_test t so other)
test_few l.no_value so other = tt
test_few (l.holds c) so other = tt
test_few (l.fails c) so other = tt

returned_few : (rs : List ℕ) (c : Core) (n : ℕ) → AsksFew (returned rs c n)
returned_few [] c n = tt
returned_few (r ∷ rs) c n = tt

called_few : (b : Bool) (d : State Core) → AsksFew (cond b over (goes d))
called_few true d = tt
called_few false d = tt

module _ (code : List (Line Act)) (limit : ℕ) (all : DoesAll code) where
  abbrev step : State Core → Moves
  step = code_step image_language code limit

  instr_few : (i : Instr Act) → Does i → (m p : ℕ) (rs : List ℕ) (c : Core) (n : ℕ) → AsksFew (does image_language code limit i m p rs c n)
  instr_few (does_act a) h m p rs c n = acted_few m (λ d. at_place (p + 1) rs d n) (λ d. at_place (length code) [] d n) c (effect_of a c) (act_tame a c h)
  instr_few count_one h m p rs c n = counted_few limit m n _ _
  instr_few (jump q) h m p rs c n = tt
  instr_few (jump_if q) h m p rs c n = test_few (image_language.test c) _ _
  instr_few (jump_unless q) h m p rs c n = test_few (image_language.test c) _ _
  instr_few (skip k) h m p rs c n = tt
  instr_few (skip_unless k) h m p rs c n = test_few (image_language.test c) _ _
  instr_few (call q) h m p rs c n = called_few (nat_lt (image_language.frames c) (length rs)) _
  instr_few go_back h m p rs c n = returned_few rs c n

  step_few : (d : State Core) → AsksFew (step d)
  step_few d = by_line (slice_get code d.at) refl
    where
      by_line : (o : Option (Line Act)) → slice_get code d.at ≡ o → AsksFew (fetched image_language code limit o d)
      by_line None e = tt
      by_line (Some i) e = instr_few i.instr (all d.at i e) i.line d.at d.returns d.core d.count

  go_few : (n : ℕ) (d : State Core) → AsksFew (go step n d)
  go_few zero d = tt
  go_few (suc n) d = on_move (go_few n) (step d) (step_few d)
    where
      on_move : ((c : State Core) → AsksFew (go step n c)) → (v : Moves) → AsksFew v → AsksFew (goes_on v (go step n))
      on_move more (goes c) h = more c
      on_move more (asks a m k) h = h
      on_move more over h = tt

  pub walk_few : (c : State Core) (es : List (Said Ask Reply)) (d : State Core) → Walk step c es d → Each (λ e. IsThreefold e.ask) es
  walk_few c [] d w = tt
  walk_few c (e ∷ es) d (k, (n, h), w) = (subst AsksFew h (go_few n c), walk_few (k e.reply) es d w)
