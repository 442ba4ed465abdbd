-- References to intrinsic functions by their forms (16.9): THIS_IMAGE and NUM_IMAGES have two. Each is a row of dummies
-- and what is made of their arguments.
use Rattle.std.specs.Prelude.{ℕ, Bool, false, bytes_eq, cond, codes, Option, Some, None, List, [], ◌∷◌}
use Rattle.caf_base.specs.declared.place.Pos.{Pos}
use Rattle.caf_base.specs.declared.value.Kind.TheVariants.{I4, L4}
use Rattle.checked_tree.specs.Expressions as t
use Rattle.checked_tree.specs.declared.data.DataType.TheVariants.{Intrinsic, Team}
use Rattle.fortran_tree.specs.declared.name.Name.{Name}
use Rattle.rule_definitions.specs.Arguments.{Part, expression, triplet, Actual, Binding, IntrinsicDummy, needed, needed_list, optional, bound, given_to, maybe_given_to, order_of}
use Rattle.rule_definitions.specs.IntrinsicFunctions.{an_integer, of_integer_type, an_array, an_integer_list, an_allocatable, a_coarray, of_type, default_integer, kind_argument, several_integers, is_of_coarray, is_first_integer, is_first_unnamed, is_integer_argument}
use Rattle.rule_definitions.specs.Judgements.{Judgement, made_of, made_of_both, made_of_three, refused}
use Rattle.rule_definitions.specs.Names as names
use Rattle.rule_definitions.specs.Parts.{plain, type_of, team, team_of, joint}
use Rattle.function_rules.specs.declared.form.Extreme.{Extreme}
use Rattle.function_rules.specs.declared.form.Extreme.TheVariants as extremes
use Rattle.function_rules.specs.declared.form.Form.{Form}
use Rattle.function_rules.specs.declared.form.Form.TheVariants as forms
use Rattle.function_rules.specs.declared.form.Row.{Row}
use Rattle.function_rules.specs.declared.form.Row.TheVariants as rows

abbrev pub abs_of : List Binding → Judgement t.Expression
abs_of bs = made_of (λ a. of_type (type_of a) (t.abs a)) (given_to bs 0 an_integer)

abbrev pub remainder_of : List Binding → Judgement t.Expression
remainder_of bs = made_of_both (λ a q. of_type (joint (type_of a) (type_of q)) (t.remainder a q (order_of bs 0 1))) (given_to bs 0 an_integer) (given_to bs 1 an_integer)

abbrev pub modulo_of : List Binding → Judgement t.Expression
modulo_of bs = made_of_both (λ a q. of_type (joint (type_of a) (type_of q)) (t.modulo a q (order_of bs 0 1))) (given_to bs 0 an_integer) (given_to bs 1 an_integer)

abbrev pub huge_of : List Binding → Judgement t.Expression
huge_of bs = made_of (λ x. of_type (type_of x) t.huge) (given_to bs 0 of_integer_type)

abbrev pub int_of : names.Scope → List Binding → Judgement t.Expression
int_of s bs = made_of_both (λ a k. of_type (Intrinsic k) (t.int a)) (given_to bs 0 an_integer) (kind_argument s bs 1)

abbrev pub size_of : List Binding → Judgement t.Expression
size_of bs = made_of_both (λ a d. default_integer (t.size a d (order_of bs 0 1))) (given_to bs 0 (λ e. an_array e.at e.judged)) (maybe_given_to bs 1 an_integer)

abbrev pub lbound_of : List Binding → Judgement t.Expression
lbound_of bs = made_of_both (λ a d. default_integer (t.lbound a d (order_of bs 0 1))) (given_to bs 0 (λ e. an_array e.at (plain e))) (given_to bs 1 an_integer)

abbrev pub ubound_of : List Binding → Judgement t.Expression
ubound_of bs = made_of_both (λ a d. default_integer (t.ubound a d (order_of bs 0 1))) (given_to bs 0 (λ e. an_array e.at (plain e))) (given_to bs 1 an_integer)

abbrev pub allocated_of : names.Scope → List Binding → Judgement t.Expression
allocated_of s bs = made_of (λ o. of_type (Intrinsic L4) (t.allocated o)) (given_to bs 0 (an_allocatable s))

abbrev pub this_image_of : List Binding → Judgement t.Expression
this_image_of bs = made_of (λ m. default_integer (t.this_image m)) (maybe_given_to bs 0 team)

abbrev pub this_cosubscript_of : List Binding → Judgement t.Expression
this_cosubscript_of bs = made_of_three (λ n d m. default_integer (t.this_cosubscript n d m (order_of bs 1 2))) (given_to bs 0 a_coarray) (given_to bs 1 an_integer) (maybe_given_to bs 2 team)

abbrev pub num_images_of : ℕ → List Binding → Judgement t.Expression
num_images_of rule bs = made_of (λ m. default_integer (t.num_images m)) (maybe_given_to bs 0 (team_of rule))

abbrev pub num_images_of_number_of : List Binding → Judgement t.Expression
num_images_of_number_of bs = made_of (λ n. default_integer (t.num_images_of_number n)) (given_to bs 0 an_integer)

abbrev pub image_index_of : List Binding → Judgement t.Expression
image_index_of bs = made_of_three (λ n l m. default_integer (t.image_index n l m (order_of bs 1 2))) (given_to bs 0 a_coarray) (given_to bs 1 an_integer_list) (maybe_given_to bs 2 team)

abbrev pub image_status_of : List Binding → Judgement t.Expression
image_status_of bs = made_of_both (λ i m. default_integer (t.image_status i m (order_of bs 0 1))) (given_to bs 0 an_integer) (maybe_given_to bs 1 team)

abbrev pub failed_images_of : List Binding → Judgement t.Expression
failed_images_of bs = made_of (λ m. t.typed (t.intrinsic (t.failed_images m)) (Intrinsic I4) 1) (maybe_given_to bs 0 team)

abbrev pub stopped_images_of : List Binding → Judgement t.Expression
stopped_images_of bs = made_of (λ m. t.typed (t.intrinsic (t.stopped_images m)) (Intrinsic I4) 1) (maybe_given_to bs 0 team)

abbrev pub team_number_of : List Binding → Judgement t.Expression
team_number_of bs = made_of (λ m. default_integer (t.number_of_team m)) (maybe_given_to bs 0 team)

abbrev pub get_team_of : List Binding → Judgement t.Expression
get_team_of bs = made_of (λ l. of_type Team (t.get_team l)) (maybe_given_to bs 0 an_integer)

-- the dummies of a form
abbrev pub dummies_of : Form → List IntrinsicDummy
dummies_of forms.Abs = needed (codes "a") ∷ []
dummies_of forms.Mod = needed (codes "a") ∷ needed (codes "p") ∷ []
dummies_of forms.Modulo = needed (codes "a") ∷ needed (codes "p") ∷ []
dummies_of forms.Huge = needed (codes "x") ∷ []
dummies_of forms.Int = needed (codes "a") ∷ optional (codes "kind") ∷ []
dummies_of forms.Size = needed_list (codes "array") ∷ optional (codes "dim") ∷ []
dummies_of forms.Lbound = needed (codes "array") ∷ needed (codes "dim") ∷ []
dummies_of forms.Ubound = needed (codes "array") ∷ needed (codes "dim") ∷ []
dummies_of forms.Allocated = needed (codes "v") ∷ []
dummies_of forms.ThisImage = optional (codes "team") ∷ []
dummies_of forms.ThisCosubscript = needed (codes "coarray") ∷ needed (codes "dim") ∷ optional (codes "team") ∷ []
dummies_of (forms.NumImages r) = optional (codes "team") ∷ []
dummies_of forms.NumImagesOfNumber = needed (codes "team_number") ∷ []
dummies_of forms.ImageIndex = needed (codes "coarray") ∷ needed (codes "sub") ∷ optional (codes "team") ∷ []
dummies_of forms.ImageStatus = needed (codes "image") ∷ optional (codes "team") ∷ []
dummies_of forms.FailedImages = optional (codes "team") ∷ []
dummies_of forms.StoppedImages = optional (codes "team") ∷ []
dummies_of forms.TeamNumber = optional (codes "team") ∷ []
dummies_of forms.GetTeam = optional (codes "level") ∷ []

-- a form with its arguments bound
abbrev pub formed_as : names.Scope → Form → List Binding → Judgement t.Expression
formed_as s forms.Abs bs = abs_of bs
formed_as s forms.Mod bs = remainder_of bs
formed_as s forms.Modulo bs = modulo_of bs
formed_as s forms.Huge bs = huge_of bs
formed_as s forms.Int bs = int_of s bs
formed_as s forms.Size bs = size_of bs
formed_as s forms.Lbound bs = lbound_of bs
formed_as s forms.Ubound bs = ubound_of bs
formed_as s forms.Allocated bs = allocated_of s bs
formed_as s forms.ThisImage bs = this_image_of bs
formed_as s forms.ThisCosubscript bs = this_cosubscript_of bs
formed_as s (forms.NumImages r) bs = num_images_of r bs
formed_as s forms.NumImagesOfNumber bs = num_images_of_number_of bs
formed_as s forms.ImageIndex bs = image_index_of bs
formed_as s forms.ImageStatus bs = image_status_of bs
formed_as s forms.FailedImages bs = failed_images_of bs
formed_as s forms.StoppedImages bs = stopped_images_of bs
formed_as s forms.TeamNumber bs = team_number_of bs
formed_as s forms.GetTeam bs = get_team_of bs

abbrev pub extreme_of : Extreme → t.Expressions → t.Intrinsic
extreme_of extremes.Least es = t.min es
extreme_of extremes.Greatest es = t.max es

-- a reference of this row
abbrev pub referred : names.Scope → Row → List Actual → Pos → Judgement t.Expression
referred s (rows.Several e) as' p = several_integers (extreme_of e) as' p
referred s (rows.Bound f) as' p = bound (dummies_of f) as' p (formed_as s f)

-- the row of a function with these arguments
abbrev pub row_of : names.FunctionName → List Actual → Row
row_of names.abs as' = rows.Bound forms.Abs
row_of names.remainder as' = rows.Bound forms.Mod
row_of names.modulo as' = rows.Bound forms.Modulo
row_of names.min as' = rows.Several extremes.Least
row_of names.max as' = rows.Several extremes.Greatest
row_of names.huge as' = rows.Bound forms.Huge
row_of names.int as' = rows.Bound forms.Int
row_of names.size as' = rows.Bound forms.Size
row_of names.lbound as' = rows.Bound forms.Lbound
row_of names.ubound as' = rows.Bound forms.Ubound
row_of names.allocated as' = rows.Bound forms.Allocated
row_of names.this_image as' = rows.Bound (cond (is_of_coarray as') forms.ThisCosubscript forms.ThisImage)
row_of names.num_images as' = rows.Bound (cond (is_first_integer as') forms.NumImagesOfNumber (forms.NumImages (cond (is_first_unnamed as') 59 51)))
row_of names.image_index as' = rows.Bound forms.ImageIndex
row_of names.image_status as' = rows.Bound forms.ImageStatus
row_of names.failed_images as' = rows.Bound forms.FailedImages
row_of names.stopped_images as' = rows.Bound forms.StoppedImages
row_of names.team_number as' = rows.Bound forms.TeamNumber
row_of names.get_team as' = rows.Bound forms.GetTeam

abbrev pub is_named : List ℕ → Option Name → Bool
is_named x None = false
is_named x (Some k) = bytes_eq k.text x

abbrev pub is_integer_part : Part → Bool
is_integer_part (expression e) = is_integer_argument e.judged.meaning
is_integer_part (triplet j) = false

-- whether what stands between brackets, with this keyword, is a team number
abbrev pub is_team_number : Option Name → Part → Bool
is_team_number None x = is_integer_part x
is_team_number (Some k) x = bytes_eq k.text (codes "team_number")

-- what stands between brackets as an argument of MIN and MAX
abbrev pub integer_part : Part → Pos → Judgement t.Expression
integer_part (expression e) p = an_integer e
integer_part (triplet j) p = refused 59 p
