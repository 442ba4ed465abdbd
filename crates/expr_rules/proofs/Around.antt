-- What breaks between brackets.
use Rattle.std.proofs.Common.{◌≡◌, ap, sym, ◌∙◌}
use Rattle.std.specs.Prelude.{List, [], ◌∷◌, ◌++◌}
use Rattle.std.proofs.lemmas.List.{append-nil, append_assoc}
use Rattle.rule_definitions.specs.Arguments.{Actual, breaks_in, breaks_in_all}

pub breaks_behind : (xs : List Actual) (x : Actual) → breaks_in_all (xs ++ x ∷ []) ≡ breaks_in_all xs ++ breaks_in x
breaks_behind [] x = append-nil (breaks_in x)
breaks_behind (y ∷ xs) x = ap (λ bs. breaks_in y ++ bs) (breaks_behind xs x) ∙ sym (append_assoc (breaks_in y) (breaks_in_all xs) (breaks_in x))
