-- What contracts know of a pass.
use Rattle.std.specs.Prelude.{ℕ, ◌≡◌, false, List, [], ◌∷◌}
use Rattle.caf_events.specs.declared.event.Entry.{Entry}
use Rattle.turn_gate.specs.declared.view.View.{View}
use Rattle.turn_gate.specs.Gates.{first_view}
use Rattle.atomic_table.specs.Seated.{TableId}

-- the gate that it is of, its image (0 for the first pass), the history that it has seen, its image's entries, and for
-- the first pass the images that were split from it
pub record Known : Type 0 where
  pub gate : TableId
  pub image : ℕ
  pub seen : List Entry
  pub own : List Entry
  pub images : List ℕ

-- the view of a badge that has one
abbrev pub view_of : List View → View
view_of [] = first_view
view_of (v ∷ vs) = v

abbrev pub known : ℕ → TableId → View → Known
known image gate v = record { gate = gate; image = image; seen = v.seen; own = v.own; images = v.images }

-- the seat of a pass between two turns
pub record Rests (image id : ℕ) (views : List View) : Type 0 where
  pub view : View
  pub one : views ≡ view ∷ []
  pub image_is : view.image ≡ image
  pub turn : view.turn ≡ false
  pub first : image ≡ 0 → id ≡ 0
  pub kept : view.kept ≡ []
