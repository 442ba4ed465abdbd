-- The texts of the images while they are gathered from a trace.
use Rattle.std.specs.Prelude.{ℕ, ◌+◌, ◌≡◌, ⊤, List, [], ◌∷◌, Vec, flat_map}
use Rattle.std.specs.declared.alloc.Global.{Global}
use Rattle.caf_events.specs.declared.event.Entry.{Entry}
use Rattle.caf_report.specs.ReportText.{printed_at}

-- the bytes of a text
abbrev pub bytes_of : Vec ℕ Global → List ℕ
bytes_of text = text.items

-- the texts, from that of an image on, are what each image prints in these entries
abbrev pub HavePrinted : ℕ → List Entry → List (Vec ℕ Global) → Type 0
HavePrinted image es [] = ⊤
HavePrinted image es (t ∷ ts) = (bytes_of t ≡ flat_map (printed_at image) es) × HavePrinted (image + 1) es ts
