-- Entries of a history: whose they are, and their stamps.
use Rattle.std.specs.Prelude.{ℕ}
use Rattle.caf_events.specs.EventParts.{EventParts}
use Rattle.caf_events.specs.declared.event.Entry.{Entry}

-- the number of the image that made an entry
abbrev pub image_of : Entry → ℕ
image_of e = e.image.0

-- the stamp of an entry
abbrev pub stamp_of : Entry → ℕ
stamp_of e = e.event.stamp

-- an image's event as an entry
abbrev pub entry : ℕ → EventParts → Entry
entry i e = record { image = record { 0 = i }; event = e }
