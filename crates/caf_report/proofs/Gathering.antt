-- The texts of the images, gathered entry by entry.
use Rattle.std.proofs.Common.{inl, inr, ◌⊎◌, ℕ, zero, suc, ◌+◌, ◌≡◌, ◌≢◌, ◌<◌, ◌≤◌, refl, sym, ap, ◌∙◌, cond, List, [], ◌∷◌, ◌++◌, flat_map, append-nil, length, arith}
use Rattle.std.specs.Prelude.{Vec, slice_index_or, slice_set}
use Rattle.std.specs.declared.alloc.Global.{Global}
use Rattle.std.proofs.lemmas.Bool.{ne_eqb}
use Rattle.std.proofs.lemmas.List.{flat_map_more}
use Rattle.caf_events.specs.declared.event.Entry.{Entry}
use Rattle.caf_report.specs.ReportText.{printed_by, printed_at, printed_from}
use Rattle.caf_report.specs.Texts.{bytes_of, HavePrinted}

-- an entry prints nothing for another image
other : (image : ℕ) (e : Entry) → e.image.0 ≢ image → printed_at image e ≡ []
other image e differs = ap (λ t. cond t (printed_by image e.event.ask) []) (ne_eqb e.image.0 image differs)

-- one text more, without an entry
pub blank_more : (image : ℕ) (ts : List (Vec ℕ Global)) (t : Vec ℕ Global) → HavePrinted image [] ts → bytes_of t ≡ [] → HavePrinted image [] (ts ++ t ∷ [])
blank_more image [] t h blank = (blank, tt)
blank_more image (u ∷ ts) t (first, h) blank = (first, blank_more (image + 1) ts t h blank)

-- an entry that prints nothing for an image
kept : (image : ℕ) (es : List Entry) (e : Entry) (bytes : List ℕ) → printed_at image e ≡ [] → bytes ≡ flat_map (printed_at image) es → bytes ≡ flat_map (printed_at image) (es ++ e ∷ [])
kept image es e bytes none is =
    is ∙ (sym (append-nil (flat_map (printed_at image) es))
    ∙ (ap (λ more. flat_map (printed_at image) es ++ more) (sym none) ∙ flat_map_more (printed_at image) [] es e))

-- an entry of an image that has no text here
pub passed : (image : ℕ) (es : List Entry) (e : Entry) (ts : List (Vec ℕ Global)) → (e.image.0 < image) ⊎ (image + length ts ≤ e.image.0) → HavePrinted image es ts → HavePrinted image (es ++ e ∷ []) ts
passed image es e [] away h = tt
passed image es e (t ∷ ts) (inl below) (first, h) = (kept image es e t.items (other image e (λ same. absurd (omega arith))) first, passed (image + 1) es e ts (inl (omega arith)) h)
passed image es e (t ∷ ts) (inr above) (first, h) = (kept image es e t.items (other image e (λ same. absurd (omega arith))) first, passed (image + 1) es e ts (inr (omega arith)) h)

-- an entry of the image of a text that gets what it prints
pub taken : (image : ℕ) (es : List Entry) (e : Entry) (ts : List (Vec ℕ Global)) (k : ℕ) (old new : Vec ℕ Global) → k < length ts → e.image.0 ≡ image + k → old ≡ slice_index_or ts k old
    → bytes_of new ≡ bytes_of old ++ printed_at e.image.0 e → HavePrinted image es ts → HavePrinted image (es ++ e ∷ []) (slice_set ts k new)
taken image es e [] k old new low of at is h = absurd (omega arith)
taken image es e (t ∷ ts) zero old new low of at is (first, h) =
    let own : e.image.0 ≡ image = omega arith in (
      is ∙ (ap (λ (v : Vec ℕ Global). v.items ++ printed_at e.image.0 e) at
          ∙ (ap (λ bytes. bytes ++ printed_at e.image.0 e) first
          ∙ (ap (λ i. flat_map (printed_at image) es ++ printed_at i e) own ∙ flat_map_more (printed_at image) [] es e))),
      passed (image + 1) es e ts (inl (omega arith)) h,
    )
taken image es e (t ∷ ts) (suc k) old new low of at is (first, h) =
    (kept image es e t.items (other image e (λ same. absurd (omega arith))) first, taken (image + 1) es e ts k old new (omega arith) (omega arith) at is h)

-- the texts of so many images, one behind the other
pub joined : (image n : ℕ) (es : List Entry) (ts : List (Vec ℕ Global)) → length ts ≡ n → HavePrinted image es ts → flat_map bytes_of ts ≡ printed_from image n es
joined image zero es [] all h = refl
joined image (suc n) es [] all h = absurd (omega arith)
joined image zero es (t ∷ ts) all h = absurd (omega arith)
joined image (suc n) es (t ∷ ts) all (first, h) =
    ap (λ bytes. bytes ++ flat_map bytes_of ts) first ∙ ap (λ more. flat_map (printed_at image) es ++ more) (joined (image + 1) n es ts (omega arith) h)
