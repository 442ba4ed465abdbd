-- Exactly how many numbers an act takes and leaves, and that what stands beneath them stays.
use Rattle.std.specs.Prelude.{ℕ, zero, suc, ◌≡◌, ℤ, Bool, true, false, List, [], ◌∷◌, ◌++◌, length, Option}
use Rattle.caf_events.specs.declared.ask.Ask.{Ask}
use Rattle.caf_events.specs.declared.ask.Ask.TheVariants as asks
use Rattle.caf_events.specs.declared.reply.FormedTeam.{FormedTeam}
use Rattle.caf_events.specs.declared.reply.Reply.{Reply}
use Rattle.walk_theory.specs.Language.{goes_to, faults, asking, ends_with, stuck}
use Rattle.image_acts.specs.Acts as a
use Rattle.image_acts.specs.Acts.{Act, allocation, team, ask}
use Rattle.image_acts.specs.Core.{Core, Own, Team, with_values}
use Rattle.image_acts.specs.Taking.{Acted}
use Rattle.image_acts.specs.Meaning.{effect_of}
use Rattle.image_code.specs.Levels.{of_numbers, taken_of, left_of}

-- so many numbers stand on these ones
abbrev pub Stand : ℕ → List ℤ → List ℤ → Type 0
Stand zero vs ws = ws ≡ vs
Stand (suc m) vs [] = ⊥
Stand (suc m) vs (w ∷ ws) = Stand m vs ws

-- what few acts change: the image, the teams that it knows and those that aren't noted, and its coarrays
abbrev pub Kept : Type 0
Kept = ℕ × (List Team × (List FormedTeam × List (Option Own)))

abbrev pub kept_of : Core → Kept
kept_of c = (c.me, (c.known, (c.formed, c.coarrays)))

abbrev pub KeptBy : Act → Core → Core → Type 0
KeptBy (ask a.leave) c d = Unit {0}
KeptBy (team (a.note_teams s x)) c d = Unit {0}
KeptBy (allocation (a.note_made k depth rank corank)) c d = Unit {0}
KeptBy (allocation (a.note_freed k)) c d = Unit {0}
KeptBy x c d = kept_of d ≡ kept_of c

-- an ask that reads nothing and is for no lock, no event and no atom, that allocates nothing and deallocates nothing
abbrev pub is_plain : Ask → Bool
is_plain (asks.Read owner span) = false
is_plain (asks.Create owner coarray cells) = false
is_plain (asks.Delete owner coarray) = false
is_plain (asks.Lock owner span) = false
is_plain (asks.TryLock owner span) = false
is_plain (asks.Unlock owner span) = false
is_plain (asks.Post owner span) = false
is_plain (asks.Wait owner span threshold) = false
is_plain (asks.Query owner span) = false
is_plain (asks.Atomic owner op span x y) = false
is_plain q = true

-- asks that an act may make: none, plain ones, any
abbrev pub No : Ask → Type 0
No = λ q. ⊥

abbrev pub Plain : Ask → Type 0
Plain = λ q. is_plain q ≡ true

abbrev pub Any : Ask → Type 0
Any = λ q. Unit {0}

-- an act of another family asks nothing, and few acts make an ask that isn't plain
abbrev pub AsksBy : Act → Ask → Type 0
AsksBy (ask (a.read j rank)) = Any
AsksBy (ask (a.create j depth rank)) = Any
AsksBy (ask (a.delete j)) = Any
AsksBy (ask (a.lock j)) = Any
AsksBy (ask (a.try_lock j)) = Any
AsksBy (ask (a.unlock j)) = Any
AsksBy (ask (a.post j)) = Any
AsksBy (ask (a.wait j)) = Any
AsksBy (ask (a.query j)) = Any
AsksBy (ask (a.atomic op j kind)) = Any
AsksBy (ask x) = Plain
AsksBy x = No

-- it asks for no other; and where it goes on, whatever the reply is, m numbers stand on vs, and K holds
abbrev pub Exactly : (Ask → Type 0) → (Core → Type 0) → ℕ → List ℤ → Acted → Type 0
Exactly Q K m vs (goes_to d) = Stand m vs d.values × K d
Exactly Q K m vs (faults k) = Unit {0}
Exactly Q K m vs (asking q f) = Q q × ((r : Reply) → Stand m vs (f r).values × K (f r))
Exactly Q K m vs (ends_with q) = Q q
Exactly Q K m vs stuck = Unit {0}

-- the act takes as many numbers as its size says and leaves as many in their place
abbrev pub IsExact : Act → Type 0
IsExact x = (c : Core) (xs vs : List ℤ) → length xs ≡ taken_of of_numbers x → Exactly (AsksBy x) (KeptBy x c) (left_of of_numbers x) vs (effect_of x (with_values c (xs ++ vs)))
