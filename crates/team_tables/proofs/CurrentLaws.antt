-- Small numbers of current teams.
use Rattle.std.proofs.Common.{◌≡◌, ℕ, ◌^◌, ◌<◌, List, [], ◌∷◌, ◌++◌, subst}
use Rattle.team_tables.specs.Tables.{AreSmall}

pub small_front : (xs ys : List ℕ) → AreSmall (xs ++ ys) → AreSmall xs
small_front [] ys h = tt
small_front (x ∷ xs) ys h = (h.0, small_front xs ys h.1)

pub small_last : (xs : List ℕ) (y : ℕ) → AreSmall (xs ++ y ∷ []) → y < 2 ^ 63
small_last [] y h = h.0
small_last (x ∷ xs) y h = small_last xs y h.1

pub small_more : (xs : List ℕ) (y : ℕ) → AreSmall xs → y < 2 ^ 63 → AreSmall (xs ++ y ∷ [])
small_more [] y h l = (l, tt)
small_more (x ∷ xs) y h l = (h.0, small_more xs y h.1 l)

pub small_at : (xs ys : List ℕ) → xs ≡ ys → AreSmall xs → AreSmall ys
small_at xs ys e h = (let P : List ℕ → Type 0 = λ zs. AreSmall zs in subst P e h)
