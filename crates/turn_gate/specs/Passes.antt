-- Passes of a gate, as contracts see them.
use Rattle.std.specs.Prelude.{ℕ, ◌≡◌, ◌<◌, List, [], ◌∷◌, ◌++◌, map}
use Rattle.caf_events.specs.declared.event.Entry.{Entry}
use Rattle.trace_theory.specs.Entries.{of, Each}
use Rattle.atomic_table.specs.Seated.{TableId}
use Rattle.turn_gate.specs.Known.{Known}
use Rattle.turn_gate.specs.declared.view.Kept.{Kept}
use Rattle.turn_gate.specs.Lists.{image_of}
use Rattle.turn_gate.specs.Gates.{StartsWith, NotIn, AreAmong}

-- a gate: which one it is, the object that it was made from, and how many images it is for
pub record Opened (O : Type 0) : Type 0 where
  pub id : TableId
  pub start : O
  pub images : ℕ

-- the first pass at the start
abbrev pub first_pass : {O : Type 0} → Opened O → Known
first_pass gate = record { gate = gate.id; image = 0; seen = []; own = []; images = [] }

-- the pass is one of this gate
abbrev pub IsPassOf : {O : Type 0} → Opened O → Known → Type 0
IsPassOf gate pass = pass.gate ≡ gate.id

-- a pass of an image that was split from the first one, and the first one then
abbrev pub split_from : ℕ → Known → Known
split_from image pass = record { gate = pass.gate; image = image; seen = pass.seen; own = []; images = [] }

abbrev pub with_split : ℕ → Known → Known
with_split image pass = record { gate = pass.gate; image = pass.image; seen = pass.seen; own = pass.own; images = pass.images ++ image ∷ [] }

-- what a turn leaves as it was
pub record SamePlace (before after : Known) : Type 0 where
  pub gate : after.gate ≡ before.gate
  pub image : after.image ≡ before.image
  pub images : after.images ≡ before.images

abbrev pub pass_image : Known → ℕ
pass_image p = p.image

abbrev pub kept_known : Known → Kept
kept_known p = record { image = p.image; seen = p.seen; own = p.own }

-- the pass is one of this gate, and of an image
abbrev pub IsImagePassOf : {O : Type 0} → Opened O → Known → Type 0
IsImagePassOf gate pass = IsPassOf gate pass × (0 < pass.image)

-- the first pass, and then passes of images, one for each image of its list, in any order
abbrev pub AllOf : {O : Type 0} → Opened O → List Known → Type 0
AllOf gate [] = ⊥
AllOf gate (first ∷ rest) =
    IsPassOf gate first × (first.image ≡ 0) × Each (IsImagePassOf gate) rest × AreAmong first.images (map pass_image rest)

-- each image's entries in a history are its pass's own list, and each pass has seen a beginning of it
abbrev pub Gathers : List Entry → List Known → Type 0
Gathers history [] = Unit {0}
Gathers history (first ∷ rest) =
    Each (λ p. (of image_of p.image history ≡ p.own) × StartsWith history p.seen) rest
    × ((i : ℕ) → NotIn i first.images → of image_of i history ≡ [])
