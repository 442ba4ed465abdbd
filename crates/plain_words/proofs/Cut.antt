-- Lines that are written token by token are cut into these tokens.
use Rattle.std.proofs.Common.{◌≡◌, ℕ, zero, suc, ◌+◌, ◌<◌, ◌≤◌, Bool, true, false, cond, List, [], ◌∷◌, ◌++◌, length, get_or, drop, map, Some, refl, ap, sym, ◌∙◌, subst, append_assoc, append-nil, length-append, arith}
use Rattle.std.specs.Prelude.{slice_get, slice_index, All}
use Rattle.std.specs.List.{AllByRecursion}
use Rattle.std.proofs.Math.Seq.{drop-append_seam, get_or-append_seam}
use Rattle.fortran_tokens.specs.declared.cut.Piece.{Piece}
use Rattle.fortran_tokens.specs.declared.token.Token.{Token as Cut'}
use Rattle.fortran_tokens.specs.Bytes.{is_blank}
use Rattle.fortran_tokens.specs.Cuts.{AreBlanks, IsCut, IsToken}
use Rattle.fortran_tokens.specs.Tokens.{depth_behind, halves, piece_of, with_halves}
use Rattle.fortran_tokens.proofs.Longest.{longest_some}
use Rattle.plain_words.specs.Written.{Written, space, gap, line_of, AreFound}
use Rattle.plain_words.proofs.Places.{here, places, place_at}

-- the tokens of a line, the first of which begins behind so many bytes
abbrev pub cuts : ℕ → ℕ → List Written → List Cut'
cuts l p [] = []
cuts l p (w ∷ ws) =
    record { kind = w.kind; from = p + gap w.spaced; to = (p + gap w.spaced) + length w.bytes; at = here l (1 + (p + gap w.spaced)) }
    ∷ cuts l ((p + gap w.spaced) + length w.bytes) ws

length-space : (b : Bool) → length (space b) ≡ gap b
length-space true = refl
length-space false = refl

pub length-line : (w : Written) (ws : List Written) → length (line_of (w ∷ ws)) ≡ gap w.spaced + (length w.bytes + length (line_of ws))
length-line w ws =
    omega (arith, length-append (space w.spaced) (w.bytes ++ line_of ws), length-space w.spaced, length-append w.bytes (line_of ws))

-- what of the text stands in front of a token, and where it begins
pub in_front : (pre : List ℕ) (p : ℕ) (b : Bool) → length pre ≡ p → length (pre ++ space b) ≡ p + gap b
in_front pre p b e = omega (arith, length-append pre (space b), length-space b)

pub behind_it : (pre bytes : List ℕ) (p : ℕ) (b : Bool) → length pre ≡ p → length ((pre ++ space b) ++ bytes) ≡ (p + gap b) + length bytes
behind_it pre bytes p b e = omega (arith, length-append (pre ++ space b) bytes, in_front pre p b e)

pub seam : (text pre bytes rest : List ℕ) (b : Bool) → text ≡ pre ++ (space b ++ (bytes ++ rest)) → text ≡ (pre ++ space b) ++ (bytes ++ rest)
seam text pre bytes rest b t = t ∙ sym (append_assoc pre (space b) (bytes ++ rest))

pub next_seam : (text pre bytes rest : List ℕ) (b : Bool) → text ≡ pre ++ (space b ++ (bytes ++ rest)) → text ≡ ((pre ++ space b) ++ bytes) ++ rest
next_seam text pre bytes rest b t = seam text pre bytes rest b t ∙ sym (append_assoc (pre ++ space b) bytes rest)

pub dropped : (text pre bytes rest : List ℕ) (p : ℕ) (b : Bool) → length pre ≡ p → text ≡ pre ++ (space b ++ (bytes ++ rest)) → drop (p + gap b) text ≡ bytes ++ rest
dropped text pre bytes rest p b e t =
    ap (λ n. drop n text) (sym (in_front pre p b e)) ∙ ap (drop (length (pre ++ space b))) (seam text pre bytes rest b t) ∙ drop-append_seam (pre ++ space b) (bytes ++ rest)

blanks_by : (text pre rest : List ℕ) (p : ℕ) (b : Bool) → length pre ≡ p → text ≡ pre ++ (space b ++ rest) → AreBlanks text p (p + gap b)
blanks_by text pre rest p true e t = record { ordered = omega arith; blanks = each }
  where
    each : (i : ℕ) → p ≤ i → i < p + 1 → is_blank (slice_index text i) ≡ true
    each i a z =
        let same : i ≡ length pre = omega arith in
        ap is_blank (ap (λ x. get_or x i 0) t ∙ ap (λ k. get_or (pre ++ 32 ∷ rest) k 0) same ∙ get_or-append_seam pre 32 rest 0)
blanks_by text pre rest p false e t = record { ordered = omega arith; blanks = λ i a z. absurd (omega arith) }

-- where the tokens in front of the rest end
pub cut_here : (text pre : List ℕ) (l p d : ℕ) (ws : List Written) → length pre ≡ p → text ≡ pre ++ line_of ws → AreFound d ws → IsCut text p (map piece_of (cuts l p ws)) (length text)
cut_here text pre l p d [] e t h =
    let size : length text ≡ p = ap length t ∙ (ap length (append-nil pre) ∙ e) in
    record { ordered = omega (arith, size); blanks = λ i a b. absurd (omega (arith, size)) }
cut_here text pre l p d (w ∷ ws) e t h = (
  blanks_by text pre (w.bytes ++ line_of ws) p w.spaced e t,
  length w.bytes,
  refl,
  subst (λ x. IsToken x w.kind (length w.bytes)) (sym (dropped text pre w.bytes (line_of ws) p w.spaced e t)) h.0,
  cut_here text ((pre ++ space w.spaced) ++ w.bytes) l ((p + gap w.spaced) + length w.bytes) (depth_behind d w.kind) ws (behind_it pre w.bytes p w.spaced e) (next_seam text pre w.bytes (line_of ws) w.spaced t) h.2,
)

-- none of them is halved
pub unhalved : (l p d : ℕ) (ws : List Written) → AreFound d ws → with_halves d (map piece_of (cuts l p ws)) ≡ map piece_of (cuts l p ws)
unhalved l p d [] h = refl
unhalved l p d (w ∷ ws) h =
    let from = p + gap w.spaced in
    let to = from + length w.bytes in
    let x : Piece = record { kind = w.kind; from = from; to = to } in
    let rest = map piece_of (cuts l to ws) in
    ap (λ b. cond b (halves x) (x ∷ []) ++ with_halves (depth_behind d w.kind) rest) h.1 ∙ ap (λ r. x ∷ r) (unhalved l to (depth_behind d w.kind) ws h.2)

-- a token has a byte, and all its bytes are there
pub size_here : (text pre : List ℕ) (p d : ℕ) (w : Written) (ws : List Written) → length pre ≡ p → text ≡ pre ++ line_of (w ∷ ws) → AreFound d (w ∷ ws) → p + gap w.spaced < length text
size_here text pre p d w ws e t h =
    let some = longest_some (w.bytes ++ line_of ws) w.kind (length w.bytes) h.0.longest in
    let size : length text ≡ length (pre ++ line_of (w ∷ ws)) = ap length t in
    omega (arith, some, size, length-append pre (line_of (w ∷ ws)), length-line w ws, e)

-- each stands where its first byte does
pub stands_here : (text pre : List ℕ) (l p d : ℕ) (ws : List Written) → length pre ≡ p → text ≡ pre ++ line_of ws → AreFound d ws
    → AllByRecursion (λ t. slice_get (places l 1 text) t.from ≡ Some t.at) (cuts l p ws)
stands_here text pre l p d [] e t h = tt
stands_here text pre l p d (w ∷ ws) e t h = (
  place_at l 1 text (p + gap w.spaced) (size_here text pre p d w ws e t h),
  stands_here text ((pre ++ space w.spaced) ++ w.bytes) l ((p + gap w.spaced) + length w.bytes) (depth_behind d w.kind) ws (behind_it pre w.bytes p w.spaced e) (next_seam text pre w.bytes (line_of ws) w.spaced t) h.2,
)

pub all_here : {A : Type 0} (P : A → Type 0) (xs : List A) → AllByRecursion P xs → All P xs
all_here P [] h k d lt = absurd (omega arith)
all_here P (x ∷ xs) h zero d lt = h.0
all_here P (x ∷ xs) h (suc k) d lt = all_here P xs h.1 k d (omega arith)
