-- Laws of rows.
use Rattle.std.proofs.Common.{◌≡◌, ℕ, zero, suc, ◌+◌, ◌-◌, ◌<◌, ◌≤◌, ◌≢◌, ℤ, pos, List, [], ◌∷◌, ◌++◌, take, drop, slice_set, slice_index_or, length, replicate, w64, SFits, to_z, of_z, Some, None, refl, ap, sym, ◌∙◌, subst, inl, inr, ◌⊎◌, arith}
use Rattle.std.specs.Prelude.{slice_get}
use Rattle.std.proofs.lemmas.List.{take-set-le, drop-set-add, get_or-take, get_or-drop, length-take, length-drop, length-set, get_or-set_same, get_or-set_other, length-replicate, replicate-append-replicate}
use Rattle.std.proofs.lemmas.Option.{slice_get-get_or, slice_get_past}
use Rattle.std.proofs.lemmas.Int.{to_z-of_z}
use Rattle.std.proofs.Math.Seq.{take-set-lt, take-suc}
use Rattle.image_stores.specs.Rows.{Held, rows, Stacked, Fit, total, set_first, first, longer}

pub same_word : (z : ℤ) → SFits w64 z → to_z w64 (of_z w64 z) ≡ z
same_word z h = to_z-of_z w64 z h

pub fit_none : (cells : List ℤ) (bases : List ℕ) → Fit cells bases 0 0 0
fit_none cells bases = record { cached = λ h. absurd (omega arith); stacked = refl; within = omega arith; above = omega arith; deep = omega arith; none = λ h. refl }

pub rows_length : (cells : List ℤ) (bases : List ℕ) (top d : ℕ) → length (rows cells bases top d) ≡ d
rows_length cells bases top zero = refl
rows_length cells bases top (suc d) = let h = rows_length cells bases (slice_index_or bases d 0) d in omega arith

pub total_rows : (cells : List ℤ) (bases : List ℕ) (top d : ℕ) → Stacked bases top d → top ≤ length cells → total (rows cells bases top d) ≡ top
total_rows cells bases top zero s t = sym s
total_rows cells bases top (suc d) s t =
    let b = slice_index_or bases d 0 in
    let u = s.0 in
    let h = total_rows cells bases b d s.1 (omega arith) in
    omega (arith, length-take (top - b) (drop b cells), length-drop b cells)

-- bases at d and above don't matter
pub rows_bases : (cells : List ℤ) (bases : List ℕ) (k v top d : ℕ) → d ≤ k → rows cells (slice_set bases k v) top d ≡ rows cells bases top d
rows_bases cells bases k v top zero h = refl
rows_bases cells bases k v top (suc d) h =
    let n : k ≢ d = λ e. absurd (omega arith) in
    let m : d ≢ k = λ e. absurd (omega arith) in
    let e : slice_index_or (slice_set bases k v) d 0 ≡ slice_index_or bases d 0 = get_or-set_other bases k d v 0 m in
    ap (λ b. take (top - b) (drop b cells) ∷ rows cells (slice_set bases k v) b d) e ∙ ap (λ r. take (top - slice_index_or bases d 0) (drop (slice_index_or bases d 0) cells) ∷ r) (rows_bases cells bases k v (slice_index_or bases d 0) d (omega arith))

pub stacked_bases : (bases : List ℕ) (k v top d : ℕ) → d ≤ k → Stacked bases top d → Stacked (slice_set bases k v) top d
stacked_bases bases k v top zero h s = s
stacked_bases bases k v top (suc d) h s =
    let m : d ≢ k = λ e. absurd (omega arith) in
    let e : slice_index_or bases d 0 ≡ slice_index_or (slice_set bases k v) d 0 = sym (get_or-set_other bases k d v 0 m) in
    subst (λ b. (b ≤ top) × Stacked (slice_set bases k v) b d) e (s.0, stacked_bases bases k v (slice_index_or bases d 0) d (omega arith) s.1)

take_none : (n m : ℕ) (xs : List ℤ) → n ≤ m → take (n - m) xs ≡ []
take_none n m xs h = let e : n - m ≡ 0 = omega arith in ap (λ k. take k xs) e

pub begin_view : (cells : List ℤ) (bases bases' : List ℕ) (top d : ℕ) → d < length bases → bases' ≡ slice_set bases d top → rows cells bases' top (d + 1) ≡ [] ∷ rows cells bases top d
begin_view cells bases bases' top d h w =
    let e : d + 1 ≡ suc d = omega arith in
    let g : slice_index_or bases' d 0 ≡ top = ap (λ s. slice_index_or s d 0) w ∙ get_or-set_same bases d top 0 h in
    ap (rows cells bases' top) e
    ∙ ap (λ b. take (top - b) (drop b cells) ∷ rows cells bases' b d) g
    ∙ ap (λ r. r ∷ rows cells bases' top d) (take_none top top (drop top cells) (omega arith))
    ∙ ap (λ r. [] ∷ r) (ap (λ s. rows cells s top d) w ∙ rows_bases cells bases d top top d (omega arith))

pub begin_fit : (cells : List ℤ) (bases bases' : List ℕ) (d b top : ℕ) → Fit cells bases d b top → d < length bases → bases' ≡ slice_set bases d top → Fit cells bases' (d + 1) top top
begin_fit cells bases bases' d b top f h w =
    let e : suc d ≡ d + 1 = omega arith in
    let g : slice_index_or bases' d 0 ≡ top = ap (λ s. slice_index_or s d 0) w ∙ get_or-set_same bases d top 0 h in
    let k : d + 1 - 1 ≡ d = omega arith in
    let s : Stacked bases' top d = subst (λ x. Stacked x top d) (sym w) (stacked_bases bases d top top d (omega arith) f.stacked) in
    let l = ap length w ∙ length-set bases d top in
    record {
      cached = λ p. sym (ap (λ n. slice_index_or bases' n 0) k ∙ g);
      stacked = subst (Stacked bases' top) e (subst (λ x. (x ≤ top) × Stacked bases' x d) (sym g) (omega arith, s));
      within = f.within;
      above = omega arith;
      deep = omega arith;
      none = λ p. absurd (omega arith);
    }

row_above : (cells : List ℤ) (b top k : ℕ) (v : ℤ) → b ≤ top → top ≤ k → take (top - b) (drop b (slice_set cells k v)) ≡ take (top - b) (drop b cells)
row_above cells b top k v h i =
    let e : k ≡ b + (k - b) = omega arith in
    ap (λ n. take (top - b) (drop b (slice_set cells n v))) e ∙ ap (take (top - b)) (drop-set-add b cells (k - b) v) ∙ take-set-le (top - b) (drop b cells) (k - b) v (omega arith)

-- a write above leaves the rows below
pub rows_above : (cells : List ℤ) (bases : List ℕ) (top d k : ℕ) (v : ℤ) → Stacked bases top d → top ≤ k → rows (slice_set cells k v) bases top d ≡ rows cells bases top d
rows_above cells bases top zero k v s h = refl
rows_above cells bases top (suc d) k v s h =
    ap (λ r. r ∷ rows (slice_set cells k v) bases (slice_index_or bases d 0) d) (row_above cells (slice_index_or bases d 0) top k v s.0 h)
    ∙ ap (λ r. take (top - slice_index_or bases d 0) (drop (slice_index_or bases d 0) cells) ∷ r) (rows_above cells bases (slice_index_or bases d 0) d k v s.1 (let x = s.0 in omega arith))

-- a list with one more cell, that was written
row_longer : (xs : List ℤ) (n : ℕ) (v : ℤ) → n < length xs → take (n + 1) (slice_set xs n v) ≡ take n xs ++ v ∷ []
row_longer xs n v h =
    let e : n + 1 ≡ suc n = omega arith in
    let l : n < length (slice_set xs n v) = subst (λ k. n < k) (sym (length-set xs n v)) h in
    ap (λ k. take k (slice_set xs n v)) e ∙ take-suc (slice_set xs n v) n (pos 0) l
    ∙ ap (λ x. take n (slice_set xs n v) ++ x ∷ []) (get_or-set_same xs n v (pos 0) h)
    ∙ ap (λ r. r ++ v ∷ []) (take-set-le n xs n v (omega arith))

pub add_view : (cells cells' : List ℤ) (bases : List ℕ) (top d : ℕ) (v : ℤ) → 0 < d → Stacked bases top d → top < length cells → cells' ≡ slice_set cells top v → rows cells' bases (top + 1) d ≡ longer (rows cells bases top d) v
add_view cells cells' bases top zero v p s t w = absurd (omega arith)
add_view cells cells' bases top (suc d) v p s t w =
    let b = slice_index_or bases d 0 in
    let u = s.0 in
    let k : top ≡ b + (top - b) = omega arith in
    let m : top + 1 - b ≡ top - b + 1 = omega arith in
    let x : take (top + 1 - b) (drop b (slice_set cells top v)) ≡ take (top - b) (drop b cells) ++ v ∷ [] =
    ap (λ n. take n (drop b (slice_set cells top v))) m
    ∙ ap (λ n. take (top - b + 1) (drop b (slice_set cells n v))) k
    ∙ ap (take (top - b + 1)) (drop-set-add b cells (top - b) v)
    ∙ row_longer (drop b cells) (top - b) v (omega (arith, length-drop b cells)) in
    ap (λ c. rows c bases (top + 1) (suc d)) w
    ∙ ap (λ r. r ∷ rows (slice_set cells top v) bases b d) x
    ∙ ap (λ r. (take (top - b) (drop b cells) ++ v ∷ []) ∷ r) (rows_above cells bases b d top v s.1 u)

stacked_more : (bases : List ℕ) (top d : ℕ) → 0 < d → Stacked bases top d → Stacked bases (top + 1) d
stacked_more bases top zero p s = absurd (omega arith)
stacked_more bases top (suc d) p s = (let u = s.0 in omega arith, s.1)

pub add_fit : (cells cells' : List ℤ) (bases : List ℕ) (d b top : ℕ) (v : ℤ) → Fit cells bases d b top → 0 < d → top < length cells → cells' ≡ slice_set cells top v → Fit cells' bases d b (top + 1)
add_fit cells cells' bases d b top v f p t w =
    let l = ap length w ∙ length-set cells top v in
    let a = f.above in
    record { cached = f.cached; stacked = stacked_more bases top d p f.stacked; within = omega arith; above = omega arith; deep = f.deep; none = f.none }

pub end_view : (cells : List ℤ) (bases : List ℕ) (top d b : ℕ) → 0 < d → b ≡ slice_index_or bases (d - 1) 0 → rows cells bases b (d - 1) ≡ drop 1 (rows cells bases top d)
end_view cells bases top zero b p e = absurd (omega arith)
end_view cells bases top (suc d) b p e =
    let k : suc d - 1 ≡ d = omega arith in
    subst (λ n. rows cells bases b n ≡ rows cells bases (slice_index_or bases d 0) d) (sym k) (ap (λ x. rows cells bases x d) (e ∙ ap (λ n. slice_index_or bases n 0) k))

stacked_less : (bases : List ℕ) (top d b : ℕ) → 0 < d → b ≡ slice_index_or bases (d - 1) 0 → Stacked bases top d → Stacked bases b (d - 1)
stacked_less bases top zero b p e s = absurd (omega arith)
stacked_less bases top (suc d) b p e s =
    let k : suc d - 1 ≡ d = omega arith in
    subst (Stacked bases b) (sym k) (subst (λ x. Stacked bases x d) (sym (e ∙ ap (λ n. slice_index_or bases n 0) k)) s.1)

-- where a row is on top, its base isn't above
base_within : (bases : List ℕ) (top d : ℕ) → 0 < d → Stacked bases top d → slice_index_or bases (d - 1) 0 ≤ top
base_within bases top zero p s = absurd (omega arith)
base_within bases top (suc d) p s = let k : suc d - 1 ≡ d = omega arith in subst (λ n. slice_index_or bases n 0 ≤ top) (sym k) s.0

zero_or : (n : ℕ) → (n ≡ 0) ⊎ (0 < n)
zero_or zero = inl refl
zero_or (suc n) = inr (omega arith)

pub end_fit : (cells : List ℤ) (bases : List ℕ) (d b top c : ℕ) → Fit cells bases d b top → 0 < d → (0 < d - 1 → c ≡ slice_index_or bases (d - 1 - 1) 0) → (d - 1 ≡ 0 → c ≡ 0) → Fit cells bases (d - 1) c b
end_fit cells bases d b top c f p x z =
    let e = f.cached p in
    let s : Stacked bases b (d - 1) = stacked_less bases top d b p e f.stacked in
    let a = f.above in
    let w = f.within in
    let q = f.deep in
    record {
      cached = x;
      stacked = s;
      within = omega arith;
      above = elim (zero_or (d - 1)) [ inl g ↦ (let y = z g in omega arith) | inr g ↦ (let y = x g in let v = base_within bases b (d - 1) g s in omega arith) ];
      deep = omega arith;
      none = z;
    }

pub write_fit : (cells cells' : List ℤ) (bases : List ℕ) (d b top k : ℕ) (v : ℤ) → Fit cells bases d b top → cells' ≡ slice_set cells k v → Fit cells' bases d b top
write_fit cells cells' bases d b top k v f w =
    let l = ap length w ∙ length-set cells k v in
    let t = f.within in
    record { cached = f.cached; stacked = f.stacked; within = omega arith; above = f.above; deep = f.deep; none = f.none }

-- a write into the first row
pub rows_write : (cells : List ℤ) (bases : List ℕ) (top d x : ℕ) (v : ℤ) → Stacked bases top (suc d) → x < top - slice_index_or bases d 0 → rows (slice_set cells (slice_index_or bases d 0 + x) v) bases top (suc d) ≡ slice_set (take (top - slice_index_or bases d 0) (drop (slice_index_or bases d 0) cells)) x v ∷ rows cells bases (slice_index_or bases d 0) d
rows_write cells bases top d x v s h =
    let b = slice_index_or bases d 0 in
    let e : take (top - b) (drop b (slice_set cells (b + x) v)) ≡ slice_set (take (top - b) (drop b cells)) x v = ap (take (top - b)) (drop-set-add b cells x v) ∙ take-set-lt (top - b) (drop b cells) x v h in
    ap (λ r. r ∷ rows (slice_set cells (b + x) v) bases b d) e ∙ ap (λ r. slice_set (take (top - b) (drop b cells)) x v ∷ r) (rows_above cells bases b d (b + x) v s.1 (omega arith))

pub write_view : (cells cells' : List ℤ) (bases : List ℕ) (top d b x : ℕ) (v : ℤ) → Fit cells bases d b top → x < top - b → cells' ≡ slice_set cells (b + x) v → rows cells' bases top d ≡ set_first (rows cells bases top d) x v
write_view cells cells' bases top zero b x v f h w = (let z = f.stacked in absurd (omega arith))
write_view cells cells' bases top (suc d) b x v f h w =
    let n : suc d - 1 ≡ d = omega arith in
    let e' : b ≡ slice_index_or bases d 0 = f.cached (omega arith) ∙ ap (λ k. slice_index_or bases k 0) n in
    ap (λ c. rows c bases top (suc d)) w ∙ ap (λ k. rows (slice_set cells (k + x) v) bases top (suc d)) e' ∙ rows_write cells bases top d x v f.stacked (subst (λ k. x < top - k) e' h)

pub read_view : (cells : List ℤ) (bases : List ℕ) (top d b x : ℕ) → Fit cells bases d b top → x < top - b → slice_get (first (rows cells bases top d)) x ≡ Some (slice_index_or cells (b + x) (pos 0))
read_view cells bases top zero b x f h = (let z = f.stacked in absurd (omega arith))
read_view cells bases top (suc d) b x f h =
    let n : suc d - 1 ≡ d = omega arith in
    let t = f.within in
    let e' : b ≡ slice_index_or bases d 0 = f.cached (omega arith) ∙ ap (λ k. slice_index_or bases k 0) n in
    subst (λ k. slice_get (take (top - k) (drop k cells)) x ≡ Some (slice_index_or cells (b + x) (pos 0))) e'
    (slice_get-get_or (take (top - b) (drop b cells)) x (pos 0) (omega (arith, length-take (top - b) (drop b cells), length-drop b cells)) ∙ ap Some (get_or-take (top - b) (drop b cells) x (pos 0) h ∙ get_or-drop b cells x (pos 0)))

-- what stands for these fields
abbrev pub held : List ℤ → List ℕ → ℕ → ℕ → Held
held cells bases top d = record { rows = rows cells bases top d; size = length cells; most = length bases }

pub room_for_row : (cells : List ℤ) (bases : List ℕ) (top d : ℕ) (h : Held) → h ≡ held cells bases top d → length h.rows < h.most → d < length bases
room_for_row cells bases top d h e r =
    let a = ap (λ (x : Held). length x.rows) e ∙ rows_length cells bases top d in
    let b = ap (λ (x : Held). x.most) e in
    omega arith

pub has_rows : (cells : List ℤ) (bases : List ℕ) (top d : ℕ) (h : Held) → h ≡ held cells bases top d → 0 < length h.rows → 0 < d
has_rows cells bases top d h e r =
    let a = ap (λ (x : Held). length x.rows) e ∙ rows_length cells bases top d in
    omega arith

pub room_for_cell : (cells : List ℤ) (bases : List ℕ) (b top d : ℕ) (h : Held) → h ≡ held cells bases top d → Fit cells bases d b top → total h.rows < h.size → top < length cells
room_for_cell cells bases b top d h e f r =
    let a = ap (λ (x : Held). total x.rows) e ∙ total_rows cells bases top d f.stacked f.within in
    let k = ap (λ (x : Held). x.size) e in
    omega arith

pub begin_held : (cells : List ℤ) (bases bases' : List ℕ) (top d : ℕ) (h : Held) → h ≡ held cells bases top d → d < length bases → bases' ≡ slice_set bases d top → held cells bases' top (d + 1) ≡ record { rows = [] ∷ h.rows; size = h.size; most = h.most }
begin_held cells bases bases' top d h e r w =
    let x : rows cells bases' top (d + 1) ≡ [] ∷ h.rows = begin_view cells bases bases' top d r w ∙ ap (λ (y : Held). [] ∷ y.rows) (sym e) in
    let y : length bases' ≡ h.most = ap length w ∙ length-set bases d top ∙ sym (ap (λ (z : Held). z.most) e) in
    let z : length cells ≡ h.size = sym (ap (λ (z : Held). z.size) e) in
    rw (x, y, z) refl

pub add_held : (cells cells' : List ℤ) (bases : List ℕ) (b top d : ℕ) (v : ℤ) (h : Held) → h ≡ held cells bases top d → Fit cells bases d b top → 0 < d → top < length cells → cells' ≡ slice_set cells top v → held cells' bases (top + 1) d ≡ record { rows = longer h.rows v; size = h.size; most = h.most }
add_held cells cells' bases b top d v h e f p r w =
    let x : rows cells' bases (top + 1) d ≡ longer h.rows v = add_view cells cells' bases top d v p f.stacked r w ∙ ap (λ (y : Held). longer y.rows v) (sym e) in
    let y : length bases ≡ h.most = sym (ap (λ (z : Held). z.most) e) in
    let z : length cells' ≡ h.size = ap length w ∙ length-set cells top v ∙ sym (ap (λ (z : Held). z.size) e) in
    rw (x, y, z) refl

pub set_held : (cells cells' : List ℤ) (bases : List ℕ) (b top d x : ℕ) (v : ℤ) (h : Held) → h ≡ held cells bases top d → Fit cells bases d b top → x < top - b → cells' ≡ slice_set cells (b + x) v → held cells' bases top d ≡ record { rows = set_first h.rows x v; size = h.size; most = h.most }
set_held cells cells' bases b top d x v h e f r w =
    let q : rows cells' bases top d ≡ set_first h.rows x v = write_view cells cells' bases top d b x v f r w ∙ ap (λ (y : Held). set_first y.rows x v) (sym e) in
    let y : length bases ≡ h.most = sym (ap (λ (z : Held). z.most) e) in
    let z : length cells' ≡ h.size = ap length w ∙ length-set cells (b + x) v ∙ sym (ap (λ (z : Held). z.size) e) in
    rw (q, y, z) refl

pub read_none : (cells : List ℤ) (bases : List ℕ) (top d b x : ℕ) → Fit cells bases d b top → top - b ≤ x → slice_get (first (rows cells bases top d)) x ≡ None
read_none cells bases top zero b x f h = refl
read_none cells bases top (suc d) b x f h =
    let n : suc d - 1 ≡ d = omega arith in
    let e' : b ≡ slice_index_or bases d 0 = f.cached (omega arith) ∙ ap (λ k. slice_index_or bases k 0) n in
    slice_get_past (take (top - slice_index_or bases d 0) (drop (slice_index_or bases d 0) cells)) x (omega (arith, length-take (top - slice_index_or bases d 0) (drop (slice_index_or bases d 0) cells)))

pub set_out : (xs : List ℤ) (x : ℕ) (v : ℤ) → length xs ≤ x → slice_set xs x v ≡ xs
set_out [] x v h = refl
set_out (y ∷ ys) zero v h = absurd (omega arith)
set_out (y ∷ ys) (suc x) v h = ap (λ r. y ∷ r) (set_out ys x v (omega arith))

pub set_first_out : (rs : List (List ℤ)) (x : ℕ) (v : ℤ) → length (first rs) ≤ x → set_first rs x v ≡ rs
set_first_out [] x v h = refl
set_first_out (r ∷ rs) x v h = ap (λ q. q ∷ rs) (set_out r x v h)

first_long : (cells : List ℤ) (bases : List ℕ) (top d b : ℕ) → Fit cells bases d b top → length (first (rows cells bases top d)) ≤ top - b
first_long cells bases top zero b f = omega arith
first_long cells bases top (suc d) b f =
    let n : suc d - 1 ≡ d = omega arith in
    let e' : b ≡ slice_index_or bases d 0 = f.cached (omega arith) ∙ ap (λ k. slice_index_or bases k 0) n in
    omega (arith, length-take (top - slice_index_or bases d 0) (drop (slice_index_or bases d 0) cells))

pub set_none : (cells : List ℤ) (bases : List ℕ) (b top d x : ℕ) (v : ℤ) (h : Held) → h ≡ held cells bases top d → Fit cells bases d b top → top - b ≤ x → h ≡ record { rows = set_first h.rows x v; size = h.size; most = h.most }
set_none cells bases b top d x v h e f r =
    let l : length (first h.rows) ≤ x = (let a = ap (λ (y : Held). length (first y.rows)) e in let z = first_long cells bases top d b f in omega arith) in
    ap (λ q. record { rows = q; size = h.size; most = h.most }) (sym (set_first_out h.rows x v l))

pub zeros_room : (rs : List (List ℤ)) (old : List (List ℤ)) (i n size : ℕ) → rs ≡ replicate i (pos 0) ∷ old → total old + n ≤ size → i < n → total rs < size
zeros_room rs old i n size e h l = let a = ap total e in let b = length-replicate i (pos 0) in omega arith

pub zeros_some : (rs : List (List ℤ)) (old : List (List ℤ)) (i : ℕ) → rs ≡ replicate i (pos 0) ∷ old → 0 < length rs
zeros_some rs old i e = let a = ap length e in omega arith

pub zeros_more : (rs : List (List ℤ)) (old : List (List ℤ)) (i : ℕ) → rs ≡ replicate i (pos 0) ∷ old → longer rs (pos 0) ≡ replicate (i + 1) (pos 0) ∷ old
zeros_more rs old i e = ap (λ r. longer r (pos 0)) e ∙ ap (λ r. r ∷ old) (replicate-append-replicate i 1 (pos 0))
