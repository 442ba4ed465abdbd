-- The names of specifiers by the keywords that they are.
use Rattle.std.proofs.Common.{◌≡◌, refl, ap, sym, ◌∙◌}
use Rattle.std.specs.Prelude.{ℕ, Bool, true, false, cond, bytes_eq, codes, ◌||◌, List, [], ◌∷◌, ◌++◌, Option, Some, None}
use Rattle.std.proofs.lemmas.List.{append-nil, append_assoc}
use Rattle.std.proofs.lemmas.Slice.Eq.{bytes_eq-Decides}
use Rattle.checked_tree.specs.Expressions as t
use Rattle.rule_definitions.specs.declared.broken.Broken.{Broken}
use Rattle.rule_definitions.specs.declared.taken.Taken.TheVariants.{Integers as integers, Logicals as logicals}
use Rattle.rule_definitions.specs.Judgements.{Judgement, made}
use Rattle.rule_definitions.specs.Parts.{Placed, plain, integer, team, result_variable}
use Rattle.rule_definitions.specs.Specifiers.{Written, value_named, value_breaks, values_breaks}
use Rattle.specifier_rules.specs.Values.{keyword_of, Slot, slot_of, slot, put, Values, values_named, with_keyword, with_value}
use Rattle.specifier_rules.specs.declared.keyword.Keyword.{Keyword}
use Rattle.specifier_rules.specs.declared.keyword.Keyword.TheVariants as words

-- the keyword that is found by the tests on a name
abbrev chain : Bool → Bool → Bool → Bool → Bool → Bool → Option Keyword
chain a b c d e f = cond a (Some words.Stat) (cond b (Some words.AcquiredLock) (cond c (Some words.Team) (cond d (Some words.TeamNumber) (cond e (Some words.NewIndex) (cond f (Some words.UntilCount) None)))))

-- what a name is by its keyword
abbrev IsWord : List ℕ → Option Keyword → Type 0
IsWord n (Some words.Stat) = n ≡ codes "stat"
IsWord n (Some words.AcquiredLock) = n ≡ codes "acquired_lock"
IsWord n (Some words.Team) = n ≡ codes "team"
IsWord n (Some words.TeamNumber) = n ≡ codes "team_number"
IsWord n (Some words.NewIndex) = n ≡ codes "new_index"
IsWord n (Some words.UntilCount) = n ≡ codes "until_count"
IsWord n None = (bytes_eq n (codes "stat") ≡ false) × (bytes_eq n (codes "acquired_lock") ≡ false) × (bytes_eq n (codes "team") ≡ false) × (bytes_eq n (codes "team_number") ≡ false) × (bytes_eq n (codes "new_index") ≡ false) × (bytes_eq n (codes "until_count") ≡ false)

chain_is : (n : List ℕ) (a b c d e f : Bool) → bytes_eq n (codes "stat") ≡ a → bytes_eq n (codes "acquired_lock") ≡ b → bytes_eq n (codes "team") ≡ c → bytes_eq n (codes "team_number") ≡ d → bytes_eq n (codes "new_index") ≡ e → bytes_eq n (codes "until_count") ≡ f
    → IsWord n (chain a b c d e f)
chain_is n true b c d e f p q r s t u = (bytes_eq-Decides n (codes "stat")).0 p
chain_is n false true c d e f p q r s t u = (bytes_eq-Decides n (codes "acquired_lock")).0 q
chain_is n false false true d e f p q r s t u = (bytes_eq-Decides n (codes "team")).0 r
chain_is n false false false true e f p q r s t u = (bytes_eq-Decides n (codes "team_number")).0 s
chain_is n false false false false true f p q r s t u = (bytes_eq-Decides n (codes "new_index")).0 t
chain_is n false false false false false true p q r s t u = (bytes_eq-Decides n (codes "until_count")).0 u
chain_is n false false false false false false p q r s t u = (p, q, r, s, t, u)

keyword_is : (n : List ℕ) → IsWord n (keyword_of n)
keyword_is n = chain_is n (bytes_eq n (codes "stat")) (bytes_eq n (codes "acquired_lock")) (bytes_eq n (codes "team")) (bytes_eq n (codes "team_number")) (bytes_eq n (codes "new_index")) (bytes_eq n (codes "until_count")) refl refl refl refl refl refl

-- what breaks in a value, by the tests on its name
abbrev tested : Bool → Bool → Bool → Bool → Bool → Bool → Placed → List Broken
tested a b c d e f x = cond a (result_variable integers x).breaks (cond b (result_variable logicals x).breaks (cond c (team x).breaks (cond (d || (e || f)) (integer 39 x).breaks (plain x).breaks)))

abbrev tested_at : List ℕ → Placed → List Broken
tested_at n x = tested (bytes_eq n (codes "stat")) (bytes_eq n (codes "acquired_lock")) (bytes_eq n (codes "team")) (bytes_eq n (codes "team_number")) (bytes_eq n (codes "new_index")) (bytes_eq n (codes "until_count")) x

-- what breaks in a value, by its keyword
abbrev pub keyword_breaks : Option Keyword → Placed → List Broken
keyword_breaks (Some words.Stat) x = (result_variable integers x).breaks
keyword_breaks (Some words.AcquiredLock) x = (result_variable logicals x).breaks
keyword_breaks (Some words.Team) x = (team x).breaks
keyword_breaks (Some words.TeamNumber) x = (integer 39 x).breaks
keyword_breaks (Some words.NewIndex) x = (integer 39 x).breaks
keyword_breaks (Some words.UntilCount) x = (integer 39 x).breaks
keyword_breaks None x = (plain x).breaks

tested_by : (n : List ℕ) (k : Option Keyword) (x : Placed) → IsWord n k → tested_at n x ≡ keyword_breaks k x
tested_by n (Some words.Stat) x h = ap (λ m. tested_at m x) h
tested_by n (Some words.AcquiredLock) x h = ap (λ m. tested_at m x) h
tested_by n (Some words.Team) x h = ap (λ m. tested_at m x) h
tested_by n (Some words.TeamNumber) x h = ap (λ m. tested_at m x) h
tested_by n (Some words.NewIndex) x h = ap (λ m. tested_at m x) h
tested_by n (Some words.UntilCount) x h = ap (λ m. tested_at m x) h
tested_by n None x h =
    ap (λ a. tested a (bytes_eq n (codes "acquired_lock")) (bytes_eq n (codes "team")) (bytes_eq n (codes "team_number")) (bytes_eq n (codes "new_index")) (bytes_eq n (codes "until_count")) x) h.0
    ∙ ap (λ a. tested false a (bytes_eq n (codes "team")) (bytes_eq n (codes "team_number")) (bytes_eq n (codes "new_index")) (bytes_eq n (codes "until_count")) x) h.1
    ∙ ap (λ a. tested false false a (bytes_eq n (codes "team_number")) (bytes_eq n (codes "new_index")) (bytes_eq n (codes "until_count")) x) h.2
    ∙ ap (λ a. tested false false false a (bytes_eq n (codes "new_index")) (bytes_eq n (codes "until_count")) x) h.3
    ∙ ap (λ a. tested false false false false a (bytes_eq n (codes "until_count")) x) h.4
    ∙ ap (λ a. tested false false false false false a x) h.5

pub value_by_keyword : (w : Written) → value_breaks w ≡ keyword_breaks (keyword_of w.name.text) w.value
value_by_keyword w = tested_by w.name.text (keyword_of w.name.text) w.value (keyword_is w.name.text)

-- the values with a further one, by the tests on its name
abbrev entered : Bool → Bool → Bool → Bool → Bool → Bool → Values → Placed → Values
entered a b c d e f v x = record {
  stat = cond a (put v.stat (result_variable integers x).meaning) v.stat;
  acquired_lock = cond b (put v.acquired_lock (result_variable logicals x).meaning) v.acquired_lock;
  team = cond c (put v.team (team x).meaning) v.team;
  team_number = cond d (put v.team_number (integer 39 x).meaning) v.team_number;
  new_index = cond e (put v.new_index (integer 39 x).meaning) v.new_index;
  until_count = cond f (put v.until_count (integer 39 x).meaning) v.until_count;
}

abbrev entered_at : List ℕ → Values → Placed → Values
entered_at n v x = entered (bytes_eq n (codes "stat")) (bytes_eq n (codes "acquired_lock")) (bytes_eq n (codes "team")) (bytes_eq n (codes "team_number")) (bytes_eq n (codes "new_index")) (bytes_eq n (codes "until_count")) v x

entered_by : (n : List ℕ) (k : Option Keyword) (v : Values) (x : Placed) → IsWord n k → entered_at n v x ≡ with_keyword k v x
entered_by n (Some words.Stat) v x h = ap (λ m. entered_at m v x) h
entered_by n (Some words.AcquiredLock) v x h = ap (λ m. entered_at m v x) h
entered_by n (Some words.Team) v x h = ap (λ m. entered_at m v x) h
entered_by n (Some words.TeamNumber) v x h = ap (λ m. entered_at m v x) h
entered_by n (Some words.NewIndex) v x h = ap (λ m. entered_at m v x) h
entered_by n (Some words.UntilCount) v x h = ap (λ m. entered_at m v x) h
entered_by n None v x h =
    ap (λ a. entered a (bytes_eq n (codes "acquired_lock")) (bytes_eq n (codes "team")) (bytes_eq n (codes "team_number")) (bytes_eq n (codes "new_index")) (bytes_eq n (codes "until_count")) v x) h.0
    ∙ ap (λ a. entered false a (bytes_eq n (codes "team")) (bytes_eq n (codes "team_number")) (bytes_eq n (codes "new_index")) (bytes_eq n (codes "until_count")) v x) h.1
    ∙ ap (λ a. entered false false a (bytes_eq n (codes "team_number")) (bytes_eq n (codes "new_index")) (bytes_eq n (codes "until_count")) v x) h.2
    ∙ ap (λ a. entered false false false a (bytes_eq n (codes "new_index")) (bytes_eq n (codes "until_count")) v x) h.3
    ∙ ap (λ a. entered false false false false a (bytes_eq n (codes "until_count")) v x) h.4
    ∙ ap (λ a. entered false false false false false a v x) h.5

module _ {T : Type 0} (rule : Placed → Judgement T) (n : List ℕ) where
  put_made : (o : Option T) (m : Option T) → put (made Some o) m ≡ made Some o
  put_made None m = refl
  put_made (Some x) m = refl

  put_behind : (b : Bool) (o : Option T) (x : Placed) → made Some o ≡ cond b (put (made Some o) (rule x).meaning) (made Some o)
  put_behind true o x = sym (put_made o (rule x).meaning)
  put_behind false o x = refl

  new_slot : (b : Bool) (x : Placed) → slot_of rule (cond b (Some x) None) ≡ cond b (put (Some None) (rule x).meaning) (Some None)
  new_slot true x = refl
  new_slot false x = refl

  kept_slot : (b : Bool) (e : Placed) (r s : Option Placed) (m : Slot T → Slot T) → slot_of rule r ≡ m (slot_of rule s) → made Some (rule e).meaning ≡ m (made Some (rule e).meaning) → slot_of rule (cond b (Some e) r) ≡ m (slot_of rule (cond b (Some e) s))
  kept_slot true e r s m h g = g
  kept_slot false e r s m h g = h

  -- a further specifier
  slot_behind : (ws : List Written) (w : Written) → slot rule n (ws ++ w ∷ []) ≡ cond (bytes_eq w.name.text n) (put (slot rule n ws) (rule w.value).meaning) (slot rule n ws)
  slot_behind [] w = new_slot (bytes_eq w.name.text n) w.value
  slot_behind (x ∷ ws) w =
      kept_slot (bytes_eq x.name.text n) x.value (value_named n (ws ++ w ∷ [])) (value_named n ws) (λ s. cond (bytes_eq w.name.text n) (put s (rule w.value).meaning) s)
      (slot_behind ws w) (put_behind (bytes_eq w.name.text n) (rule x.value).meaning w.value)

abbrev six : Slot t.ResultVariable → Slot t.ResultVariable → Slot t.Expression → Slot t.Expression → Slot t.Expression → Slot t.Expression → Values
six a b c d e f = record { stat = a; acquired_lock = b; team = c; team_number = d; new_index = e; until_count = f }

pub values_behind : (ws : List Written) (w : Written) → values_named (ws ++ w ∷ []) ≡ with_value (values_named ws) w
values_behind ws w =
    let u = values_named (ws ++ w ∷ []) in
    let v = entered_at w.name.text (values_named ws) w.value in
    ap (λ s. six s u.acquired_lock u.team u.team_number u.new_index u.until_count) (slot_behind (result_variable integers) (codes "stat") ws w)
    ∙ ap (λ s. six v.stat s u.team u.team_number u.new_index u.until_count) (slot_behind (result_variable logicals) (codes "acquired_lock") ws w)
    ∙ ap (λ s. six v.stat v.acquired_lock s u.team_number u.new_index u.until_count) (slot_behind team (codes "team") ws w)
    ∙ ap (λ s. six v.stat v.acquired_lock v.team s u.new_index u.until_count) (slot_behind (integer 39) (codes "team_number") ws w)
    ∙ ap (λ s. six v.stat v.acquired_lock v.team v.team_number s u.until_count) (slot_behind (integer 39) (codes "new_index") ws w)
    ∙ ap (λ s. six v.stat v.acquired_lock v.team v.team_number v.new_index s) (slot_behind (integer 39) (codes "until_count") ws w)
    ∙ entered_by w.name.text (keyword_of w.name.text) (values_named ws) w.value (keyword_is w.name.text)

pub breaks_behind : (ws : List Written) (w : Written) → values_breaks (ws ++ w ∷ []) ≡ values_breaks ws ++ value_breaks w
breaks_behind [] w = append-nil (value_breaks w)
breaks_behind (x ∷ ws) w = ap (λ bs. value_breaks x ++ bs) (breaks_behind ws w) ∙ sym (append_assoc (value_breaks x) (values_breaks ws) (value_breaks w))
