-- The text of a span, cut at its colons.
use Rattle.std.proofs.Common.{◌≡◌, ℕ, ℤ, List, [], ◌∷◌, ◌++◌, flat_map, refl, ap}
use Rattle.std.proofs.Common.{◌∙◌, arith, codes, append_assoc, append-nil}
use Rattle.std.specs.List.{list_all}
use Rattle.caf_base.specs.declared.span.Span.{Span}
use Rattle.trace_text.specs.TraceText.{joined, number_text, name_in, name_text, dimension_text, span_text}
use Rattle.trace_forms.specs.Names.{is_name_byte, AreNames}
use Rattle.trace_forms.specs.Ranges.{IsHalf, HasName, SpanHasText}
use Rattle.trace_forms.proofs.Pieces.{no_of, name_inside}
use Rattle.trace_fields.specs.Cutting.{other, IsCutAt}
use Rattle.trace_fields.specs.Cutting.{size_text}
use Rattle.trace_fields.proofs.Cut.{found, whole}
use Rattle.trace_fields.proofs.Parts.{digits_clean}

-- the text of a coarray is its name
pub name_is : (names : List (List ℕ)) (coarray : ℕ) (h : HasName names coarray) → name_text names coarray ≡ h.0
name_is names coarray h = ap name_in h.1

start_cut : (start : ℕ) (dims : List (ℕ × ℤ)) → IsHalf start → (places front further : List ℕ)
    → IsCutAt 58 places front further → places ≡ number_text start ++ flat_map dimension_text dims
    → (front ≡ number_text start) × (further ≡ joined (58 ∷ []) size_text dims)
start_cut start [] h places front further cut e =
    let one : places ≡ number_text start = e ∙ append-nil (number_text start) in
    let at = whole 58 places front further cut (ap (list_all (other 58)) one ∙ digits_clean 58 start refl
    (omega arith)) in
    (at.0 ∙ one, at.1)
start_cut start (d ∷ ds) h places front further cut e =
    found 58 places front further (number_text start) (size_text d ++ flat_map dimension_text ds) cut
    (digits_clean 58 start refl (omega arith)) e

pub span_parts : (names : List (List ℕ)) → AreNames names → (s : Span) → SpanHasText names s
    → (field name places front further : List ℕ) → IsCutAt 58 field name places
    → IsCutAt 58 places front further → field ≡ span_text names s
    → (name ≡ name_text names s.coarray) × (front ≡ number_text s.start) × (further ≡ joined (58 ∷ []) size_text s.dims)
span_parts names are s h field name places front further one two e =
    let n = name_text names s.coarray in
    let ds = flat_map dimension_text s.dims in
    let right : field ≡ n ++ (58 ∷ (number_text s.start ++ ds)) = e ∙ append_assoc (n ++ codes ":")
    (number_text s.start) ds ∙ append_assoc n (codes ":") (number_text s.start ++ ds) in
    let a = found 58 field name places n (number_text s.start ++ ds) one (no_of is_name_byte 58 refl n
    (name_inside names are s.coarray h.named)) right in
    let b = start_cut s.start s.dims h.start places front further two a.1 in
    (a.0, b.0, b.1)
