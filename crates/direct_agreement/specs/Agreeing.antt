-- The acts of an expression against its direct definition: when they come to what it says.
use Rattle.std.specs.Prelude.{ℕ, ◌+◌, ◌*◌, ◌≤◌, ◌≡◌}
use Rattle.caf_events.specs.declared.reply.Reply.{Reply}
use Rattle.image_acts.specs.Statuses.{most_cells}
use Rattle.image_acts.specs.Core.{Core, pushed, with_array, elements_in}
use Rattle.direct_meaning.specs.States.{State, with_state}
use Rattle.direct_meaning.specs.Outcomes.{Outcome, done, faults, asks, over, unsaid}
use Rattle.direct_meaning.specs.Values.{Value, number, array}

-- The acts come to what the definition says: the same asks at the same lines, for every reply, the same fault, and
-- where there is a value, a core in which it was put down (`lay` says how) over the state that is left.
abbrev pub Agrees : {X : Type 0} → (X → State → Core) → Outcome (X × State) → Outcome Core → Type 0
Agrees lay (done p) o = o ≡ done (lay p.0 p.1)
Agrees lay (faults k l z) o = o ≡ faults k l z
Agrees lay (asks a l z f) o = (g : Reply → Outcome Core) × (o ≡ asks a l z g) × ((r : Reply) → Agrees lay (f r) (g r))
Agrees lay (over z) o = o ≡ over z
Agrees lay unsaid o = Unit {0}

-- a value is put down over what was there
abbrev pub put_down : Core → Value → State → Core
put_down c (number v) s = pushed v (with_state s c)
put_down c (array a) s = with_array a (with_state s c)

-- There is room for the array values that are being evaluated, which the walk bounds, and the definition doesn't: no
-- more evaluation cells are in use than there are, each element has one, but for so many, among them the six bounds of
-- each SIZE, LBOUND or UBOUND of so many levels.
abbrev pub HasRoom : (levels : ℕ) → Core → Type 0
HasRoom n c = (c.used ≤ most_cells) × (elements_in c.arrays + (6 * n) ≤ c.used + 458751)

-- so many levels an expression has at most
abbrev pub HasSpare : Core → Type 0
HasSpare c = HasRoom 64 c
