-- Lists of trees in memory.
use Rattle.std.proofs.Common.{◌≡◌, List, [], ◌∷◌, ◌++◌, map, refl, ap}
use Rattle.reader_theory.specs.Words.{Verdict, found, fault}
use Rattle.reader_theory.specs.Readers.{joined}
use Rattle.fortran_grammar.specs.Tokens.{Token}
use Rattle.action_reader.specs.Beginnings.{grown}

pub map_append : {A B : Type 0} (f : A → B) (xs ys : List A) → map f (xs ++ ys) ≡ map f xs ++ map f ys
map_append f [] ys = refl
map_append f (x ∷ xs) ys = ap (λ z. f x ∷ z) (map_append f xs ys)

pub grown_none : {A : Type 0} (v : Verdict Token (List A)) → joined grown [] v ≡ v
grown_none (found es rest) = refl
grown_none (fault c rest) = refl

pub grown_one : {A : Type 0} (a : A) (v : Verdict Token (List A)) → joined grown (a ∷ []) v ≡ joined (λ a es. a ∷ es) a v
grown_one a (found es rest) = refl
grown_one a (fault c rest) = refl

pub map_same : {A : Type 0} (xs : List A) → map (λ x. x) xs ≡ xs
map_same [] = refl
map_same (x ∷ xs) = ap (λ z. x ∷ z) (map_same xs)

pub ruleset list_laws = (grown_none, grown_one, map_same)
