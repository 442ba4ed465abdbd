-- Drafts of code: where they go on, how much stands on the stack on each path, and which are bad.
use Rattle.std.specs.Prelude.{ℕ, suc, ◌+◌, ◌-◌, ◌<◌, ◌≤◌, ◌≡◌, ◌≢◌, ◌⊎◌, Bool, true, false, List, [], ◌∷◌, length, map, Option, Some, None, slice_get}
use Rattle.image_code.specs.declared.shape.Flow.{Flow}
use Rattle.image_code.specs.declared.shape.Flow.TheVariants as flows
use Rattle.image_code.specs.declared.shape.Height.{Height}
use Rattle.image_code.specs.declared.shape.Shape.{Shape}
use Rattle.image_code.specs.declared.step.Step.{Step}
use Rattle.image_code.specs.declared.finish.Lead.{Lead}
use Rattle.image_code.specs.declared.finish.Found.{Found}
use Rattle.image_code.specs.declared.finish.Found.TheVariants as founds
use Rattle.image_code.specs.declared.finish.Search.{Search}
use Rattle.image_code.specs.declared.finish.Search.TheVariants as searches
use Rattle.image_code.specs.declared.finish.Verdict.{Verdict}
use Rattle.image_code.specs.declared.finish.Verdict.TheVariants as verdicts
use Rattle.image_code.specs.Table.{instr_of}
use Rattle.image_code.specs.Sizes.{shape_of}

-- the shapes of steps; a text makes no difference
abbrev pub shapes : List Step → List Shape
shapes ss = map (λ s. shape_of (instr_of [] s)) ss

-- nothing on the stack
abbrev pub nothing : Height
nothing = record { numbers = 0; arrays = 0; texts = 0 }

-- no more of each part than that
abbrev pub Within : Height → Height → Type 0
Within a b = (a.numbers ≤ b.numbers) × (a.arrays ≤ b.arrays) × (a.texts ≤ b.texts)

-- what stands there after an instruction
abbrev pub after : Shape → Height → Height
after s h = record {
  numbers = (h.numbers - s.takes.numbers) + s.leaves.numbers;
  arrays = (h.arrays - s.takes.arrays) + s.leaves.arrays;
  texts = (h.texts - s.takes.texts) + s.leaves.texts;
}

abbrev pub lead : ℕ → Height → Lead
lead q h = record { place = q; height = h }

-- where an instruction at p goes on, and with what on the stack, if it leaves h
abbrev pub leads_on : ℕ → Flow → Height → Option Lead
leads_on p flows.On h = Some (lead (p + 1) h)
leads_on p (flows.Jump q) h = Some (lead q h)
leads_on p (flows.Branch q) h = Some (lead (p + 1) h)
leads_on p (flows.Skip n) h = Some (lead (p + 1 + n) h)
leads_on p (flows.SkipIf n) h = Some (lead (p + 1) h)
leads_on p (flows.Call q) h = Some (lead (p + 1) h)
leads_on p flows.Back h = None
leads_on p flows.End h = None

-- and its second way on; a body begins with nothing of its own
abbrev pub leads_aside : ℕ → Flow → Height → Option Lead
leads_aside p flows.On h = None
leads_aside p (flows.Jump q) h = None
leads_aside p (flows.Branch q) h = Some (lead q h)
leads_aside p (flows.Skip n) h = None
leads_aside p (flows.SkipIf n) h = Some (lead (p + 1 + n) h)
leads_aside p (flows.Call q) h = Some (lead q nothing)
leads_aside p flows.Back h = None
leads_aside p flows.End h = None

abbrev pub leads : Bool → ℕ → Flow → Height → Option Lead
leads false p f h = leads_on p f h
leads true p f h = leads_aside p f h

-- the instruction at q counts
abbrev pub CountsAt : List Shape → ℕ → Type 0
CountsAt code q = (s : Shape) × (slice_get code q ≡ Some s) × (s.counts ≡ true)

-- a jump stays in the code; to its own place or an earlier one it goes only where the instruction there counts
abbrev pub JumpsWell : List Shape → ℕ → ℕ → Type 0
JumpsWell code p q = (q < length code) × ((p < q) ⊎ CountsAt code q)

-- the ways on from p are in the code
abbrev pub Stays : List Shape → ℕ → Flow → Type 0
Stays code p flows.On = p + 1 < length code
Stays code p (flows.Jump q) = JumpsWell code p q
Stays code p (flows.Branch q) = (p + 1 < length code) × JumpsWell code p q
Stays code p (flows.Skip n) = p + 1 + n < length code
Stays code p (flows.SkipIf n) = (p + 1 < length code) × (p + 1 + n < length code)
Stays code p (flows.Call q) = (p + 1 < length code) × (q < length code)
Stays code p flows.Back = Unit {0}
Stays code p flows.End = Unit {0}

-- a path reaches p with h on the stack; no instruction on it takes more than stands there
pub data Reaches (code : List Shape) : ℕ → Height → Type 0 where
  at_start : Reaches code 0 nothing
  onward : (p : ℕ) (h : Height) (aside : Bool) (q : ℕ) (k : Height) (s : Shape) → Reaches code p h → slice_get code p ≡ Some s → Within s.takes h → leads aside p s.flow (after s h) ≡ Some (lead q k) → Reaches code q k

-- The instruction at p is bad: a way on from it isn't in the code or goes back to no count; it takes more than stands
-- on the stack, or goes back with something of its own; or two paths reach it with unlike heights.
pub data IsBad (code : List Shape) (p : ℕ) : Type 0 where
  leaves : (s : Shape) → slice_get code p ≡ Some s → (Stays code p s.flow → ⊥) → IsBad code p
  takes_more : (s : Shape) (h : Height) → slice_get code p ≡ Some s → Reaches code p h → (Within s.takes h → ⊥) → IsBad code p
  uneven : (s : Shape) (h : Height) → slice_get code p ≡ Some s → Reaches code p h → s.flow ≡ flows.Back → h ≢ nothing → IsBad code p
  unlike : (h k : Height) → Reaches code p h → Reaches code p k → h ≢ k → IsBad code p

-- a height is known at this place
abbrev pub Known : List (Option Height) → ℕ → Height → Type 0
Known heights p h = slice_get heights p ≡ Some (Some h)

-- each height that is known is one with which a path reaches that place
abbrev pub Sound : List Shape → List (Option Height) → Type 0
Sound code heights = (p : ℕ) (h : Height) → Known heights p h → Reaches code p h

-- a way on from p, under the height that is known there
pub record IsWay (code : List Shape) (heights : List (Option Height)) (p : ℕ) (aside : Bool) (l : Lead) : Type 0 where
  pub shape : Shape
  pub height : Height
  pub here : slice_get code p ≡ Some shape
  pub known : Known heights p height
  pub takes : Within shape.takes height
  pub goes : leads aside p shape.flow (after shape height) ≡ Some l

-- a way within the code, if there is one
abbrev pub IsLead : ℕ → Option Lead → Option Lead → Type 0
IsLead end w None = (l : Lead) → w ≡ Some l → end ≤ l.place
IsLead end w (Some l) = (w ≡ Some l) × (l.place < end)

abbrev pub WayAt : List Shape → List (Option Height) → ℕ → Bool → Found → Type 0
WayAt code heights p aside founds.Nowhere = (l : Lead) → IsWay code heights p aside l → length code ≤ l.place
WayAt code heights p aside (founds.To l) = IsWay code heights p aside l × (l.place < length code)
WayAt code heights p aside founds.Full = Unit {0}

-- the height is known where that way leads to
abbrev pub ClosedAt : List Shape → List (Option Height) → ℕ → Bool → Type 0
ClosedAt code heights p aside = (l : Lead) → IsWay code heights p aside l → l.place < length code → (j : Height) × Known heights l.place j

abbrev pub LooksAt : List Shape → List (Option Height) → ℕ → Bool → Search → Type 0
LooksAt code heights p aside searches.Closed = ClosedAt code heights p aside
LooksAt code heights p aside (searches.New l) = IsWay code heights p aside l × (slice_get heights l.place ≡ Some None)
LooksAt code heights p aside searches.Full = Unit {0}

-- it is known wherever a known one leads to
abbrev pub Closed : List Shape → List (Option Height) → Type 0
Closed code heights = (p : ℕ) → p < length code → (aside : Bool) → ClosedAt code heights p aside

abbrev pub LooksThrough : List Shape → List (Option Height) → Search → Type 0
LooksThrough code heights searches.Closed = Closed code heights
LooksThrough code heights (searches.New l) = (p : ℕ) × (aside : Bool) × IsWay code heights p aside l × (slice_get heights l.place ≡ Some None)
LooksThrough code heights searches.Full = Unit {0}

-- at how many places no height is known
abbrev pub unknowns : List (Option Height) → ℕ
unknowns [] = 0
unknowns (None ∷ hs) = suc (unknowns hs)
unknowns (Some h ∷ hs) = unknowns hs

-- more heights may be known than before, each of a path; those that were known are
pub record KnowsMore (code : List Shape) (old new : List (Option Height)) : Type 0 where
  pub long : length new ≡ length old
  pub sound : Sound code old → Sound code new
  pub known : (p : ℕ) (h : Height) → Sound code old → Known old p h → Known new p h
  pub fewer : Sound code old → unknowns new ≤ unknowns old

-- heights of paths, one for each place that a path reaches under them
pub record AreHeights (code : List Shape) (heights : List (Option Height)) : Type 0 where
  pub long : length heights ≡ length code
  pub sound : Sound code heights
  pub first : Known heights 0 nothing
  pub closed : Closed code heights

-- the instruction at p is bad by itself, under these heights
pub data IsFaulty (code : List Shape) (heights : List (Option Height)) (p : ℕ) : Type 0 where
  strays : (s : Shape) → slice_get code p ≡ Some s → (Stays code p s.flow → ⊥) → IsFaulty code heights p
  wants : (s : Shape) (h : Height) → slice_get code p ≡ Some s → Known heights p h → (Within s.takes h → ⊥) → IsFaulty code heights p
  keeps : (s : Shape) (h : Height) → slice_get code p ≡ Some s → Known heights p h → s.flow ≡ flows.Back → h ≢ nothing → IsFaulty code heights p

-- a way on from p comes to q with another height than the one that is known there
pub record Meets (code : List Shape) (heights : List (Option Height)) (p : ℕ) (aside : Bool) (q : ℕ) : Type 0 where
  pub height : Height
  pub way : IsWay code heights p aside (lead q height)
  pub other : Height
  pub known : Known heights q other
  pub unlike : other ≢ height

-- a look at p finds q bad
abbrev pub FindsBad : List Shape → List (Option Height) → ℕ → ℕ → Type 0
FindsBad code heights p q = (IsFaulty code heights p × (q ≡ p)) ⊎ ((aside : Bool) × Meets code heights p aside q)

-- q is bad under these heights, and none before it is
pub record IsFirstBad (code : List Shape) (heights : List (Option Height)) (q : ℕ) : Type 0 where
  pub within : q < length code
  pub finder : ℕ
  pub bad : FindsBad code heights finder q
  pub first : (p r : ℕ) → FindsBad code heights p r → q ≤ r

-- what is found of a draft: no instruction is bad; or the first one that is, under heights of its paths; nothing where
-- a height is beyond 64 bits
abbrev pub Judged : List Shape → List (Option Height) → Verdict → Type 0
Judged code heights verdicts.Fine = AreHeights code heights × ((p q : ℕ) → FindsBad code heights p q → ⊥)
Judged code heights (verdicts.Bad q) = AreHeights code heights × IsFirstBad code heights q
Judged code heights verdicts.Full = Unit {0}

-- at most these bad places were found before p
abbrev pub Lowest : List Shape → List (Option Height) → ℕ → ℕ → Type 0
Lowest code heights p least = (q : ℕ) → FindsBad code heights p q → least ≤ q

-- a place that some look finds bad, or the code's end
abbrev pub IsEndOrBad : List Shape → List (Option Height) → ℕ → Type 0
IsEndOrBad code heights least = (least ≡ length code) ⊎ ((p : ℕ) × FindsBad code heights p least)
