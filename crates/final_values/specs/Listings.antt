-- The integer and logical variables of the main program, in declared order, and where each is found.
use Rattle.std.specs.Prelude.{ℕ, suc, nat_eq, cond, Bool, false, List, [], ◌∷◌, ◌++◌, length, Option, None, Some}
use Rattle.caf_base.specs.declared.value.Kind.{Kind}
use Rattle.checked_tree.specs.declared.data.DataType.{DataType}
use Rattle.checked_tree.specs.declared.data.DataType.TheVariants as types
use Rattle.checked_tree.specs.declared.data.Dimensions.{Dimensions}
use Rattle.checked_tree.specs.declared.data.Dimensions.TheVariants as dimensions
use Rattle.checked_tree.specs.declared.data.Variable.{Variable}
use Rattle.checked_tree.specs.Statements.{Program}
use Rattle.final_values.specs.declared.listing.Form.{Form}
use Rattle.final_values.specs.declared.listing.Form.TheVariants as forms
use Rattle.final_values.specs.declared.listing.Listed.{Listed}

-- the number of a variable among the coarrays, where it is one
abbrev pub place_from : ℕ → List ℕ → ℕ → Option ℕ
place_from k [] x = None
place_from k (c ∷ cs) x = cond (nat_eq c x) (Some k) (place_from (suc k) cs x)

abbrev pub place_in : List ℕ → ℕ → Option ℕ
place_in cs x = place_from 0 cs x

-- a scalar has no dimension
abbrev pub is_scalar : Dimensions → Bool
is_scalar (dimensions.Explicit s) = nat_eq (length s.dims) 0
is_scalar (dimensions.Deferred r) = false

abbrev pub form_at : Option ℕ → Dimensions → Form
form_at (Some k) d = forms.Coarray k
form_at None d = cond (is_scalar d) forms.Scalar forms.Array

abbrev pub form_of : List ℕ → ℕ → Variable → Form
form_of cs x v = form_at (place_in cs x) v.dimensions

abbrev pub listed_one : List ℕ → ℕ → Variable → Kind → List Listed
listed_one cs x v k = record { name = v.name; variable = x; kind = k; form = form_of cs x v } ∷ []

-- a variable, where it is an integer or logical
abbrev pub listed_by : List ℕ → ℕ → Variable → DataType → List Listed
listed_by cs x v (types.Intrinsic k) = listed_one cs x v k
listed_by cs x v type = []

-- those from this number on
abbrev pub listed_from : List ℕ → ℕ → List Variable → List Listed
listed_from cs x [] = []
listed_from cs x (v ∷ vs) = listed_by cs x v v.of_type ++ listed_from cs (suc x) vs

abbrev pub listed_of : Program → List Listed
listed_of p = listed_from p.coarrays 0 p.main.variables
