-- Procedures whose headings and declarations break nothing have scopes that are filled with known names, and functions
-- have typed results.
use Rattle.std.proofs.Common.{◌≡◌, ◌∙◌, ℕ, Bool, true, false, List, [], ◌∷◌, ◌++◌, ◌⊎◌, inl, inr, refl, sym, subst}
use Rattle.std.specs.Prelude.{cond, not, nat_eq, bytes_eq, ◌&&◌, ◌||◌, Option, Some, None, length, map}
use Rattle.std.specs.Bool.{Decides}
use Rattle.std.proofs.lemmas.Slice.Eq.{bytes_eq-Decides}
use Rattle.caf_base.specs.declared.place.Pos.{Pos}
use Rattle.fortran_tree.specs.Statements as fs
use Rattle.fortran_tree.specs.Units as u
use Rattle.fortran_tree.specs.declared.name.Name.{Name}
use Rattle.checked_tree.specs.declared.data.DataType.{DataType}
use Rattle.checked_tree.specs.declared.data.Object.{Object}
use Rattle.checked_tree.specs.declared.data.Object.TheVariants as objects
use Rattle.rule_definitions.specs.declared.broken.Broken.{Broken}
use Rattle.rule_definitions.specs.Judgements.{breaks, is_there, said_of}
use Rattle.rule_definitions.specs.Names
use Rattle.rule_definitions.specs.Names.{Scope, Symbol, Named, Meaning, Role, Interface, is_among, denoted_in, variables_of}
use Rattle.rule_definitions.specs.Declarations.{Unit', type_judged, special_type_breaks, is_answer, is_declared, Declared, declared_all, names_declared}
use Rattle.rule_definitions.specs.Units.{Headed, text_of, place_of_answer, dummy_breaks, own_name, answer_breaks, second_type_breaks, first_type, type_breaks, is_typed, heading_breaks, hosted_object, hosted_meaning, hosted, bare, typed_answer, unit_of, opened, with_dummy, with_dummies, with_untyped, with_answer, Opened, opened_procedure, symbol_named, interface_of}
use Rattle.rule_laws.proofs.Sound.{AreNumbered, none_numbered, breaks_numbered, unless_numbered, both_numbered, said_numbered, left_nothing, right_nothing, breaks_some}
use Rattle.rule_laws.proofs.Known.{has_type, is_placed, is_known_symbol, and_left, and_right, no}
use Rattle.rule_laws.proofs.ArgumentsSound.{and_both}
use Rattle.rule_laws.proofs.Filled.{is_bounded, is_data, all_meant, meant_both, IsFilled}
use Rattle.rule_laws.proofs.DeclarationsSound.{type_sound}
use Rattle.rule_laws.proofs.EntitiesSound.{special_numbered}
use Rattle.rule_laws.proofs.DeclaredSound.{not_true, or_second, all_own, own_named, own_both, self_named, IsGrown, same_grown, cond_grown, then_grown, declarations_grown}

-- Headings

dummies_numbered : (before : List (List ℕ)) (ns : List Name) → AreNumbered (dummy_breaks before ns)
dummies_numbered before [] = none_numbered
dummies_numbered before (n ∷ ns) = both_numbered (unless_numbered (not (is_among before n.text)) 21 n.at refl) (dummies_numbered (n.text ∷ before) ns)

second_numbered : (xs : List fs.DeclarationTypeSpec) (p : Pos) → AreNumbered (second_type_breaks xs p)
second_numbered [] p = none_numbered
second_numbered (a ∷ []) p = none_numbered
second_numbered (a ∷ b ∷ rest) p = breaks_numbered 21 p refl

types_numbered : (s : Scope) (xs : List fs.DeclarationTypeSpec) → AreNumbered (type_breaks s xs)
types_numbered s [] = none_numbered
types_numbered s (x ∷ xs) = both_numbered (type_sound s x).numbered (types_numbered s xs)

heading_numbered : (s : Scope) (h : Headed) → AreNumbered (heading_breaks s h)
heading_numbered s h =
    both_numbered (dummies_numbered (own_name h) h.dummies)
    (both_numbered (said_numbered (answer_breaks h) h.answer (λ n e. unless_numbered (h.names_itself || not (is_among (map text_of h.dummies) n.text)) 21 n.at refl))
    (both_numbered (second_numbered h.types (place_of_answer h))
    (both_numbered (types_numbered s h.types)
    (special_numbered (first_type s h.types).meaning 0 0 (place_of_answer h)))))

heading_types : (s : Scope) (h : Headed) → heading_breaks s h ≡ [] → type_breaks s h.types ≡ []
heading_types s h e =
    let a = dummy_breaks (own_name h) h.dummies in
    let b = said_of (answer_breaks h) h.answer in
    let c = second_type_breaks h.types (place_of_answer h) in
    let x = type_breaks s h.types in
    let y = special_type_breaks (first_type s h.types).meaning 0 0 (place_of_answer h) in
    left_nothing x y (right_nothing c (x ++ y) (right_nothing b (c ++ (x ++ y)) (right_nothing a (b ++ (c ++ (x ++ y))) e)))

first_there : (s : Scope) (xs : List fs.DeclarationTypeSpec) → IsFilled s → elim xs [ [] ↦ false | y ∷ ys ↦ true ] ≡ true → type_breaks s xs ≡ [] → is_there (first_type s xs).meaning ≡ true
first_there s [] f h e = no h
first_there s (x ∷ xs) f h e = (type_sound s x).decided f (left_nothing (type_judged s x).breaks (type_breaks s xs) e)

-- Names that a heading gives

bare_data : (n : Name) (y : Option DataType) (r : Role) (k : ℕ) → is_there y ≡ true → is_data (bare n y r k).meaning ≡ true
bare_data n y r k h = and_both (is_there y && true) ((false && not (nat_eq 0 0)) || true) (and_both (is_there y) true h refl) (or_second (false && not (nat_eq 0 0)) true refl)

answer_list : (n : Option Name) (y : Option DataType) (k : ℕ) → is_there y ≡ true → all_meant is_data (elim n [ None ↦ [] | Some m ↦ bare m y Names.function_result k ∷ [] ]) ≡ true
answer_list None y k h = refl
answer_list (Some m) y k h = and_both (is_data (bare m y Names.function_result k).meaning) true (bare_data m y Names.function_result k h) refl

answer_cases : (b : Bool) (n : Option Name) (y : Option DataType) (k : ℕ) → (b ≡ true → is_there y ≡ true) → all_meant is_data (cond b (elim n [ None ↦ [] | Some m ↦ bare m y Names.function_result k ∷ [] ]) []) ≡ true
answer_cases true n y k h = answer_list n y k (h refl)
answer_cases false n y k h = refl

typed_data : (s : Scope) (h : Headed) (k : ℕ) → IsFilled s → heading_breaks s h ≡ [] → all_meant is_data (typed_answer s h k) ≡ true
typed_data s h k f e = answer_cases (is_typed h) h.answer (first_type s h.types).meaning k (λ i. first_there s h.types f i (heading_types s h e))

answer_own : (v : Unit') (b : Bool) (n : Option Name) (y : Option DataType) (k : ℕ) → all_own v (cond b (elim n [ None ↦ [] | Some m ↦ bare m y Names.function_result k ∷ [] ]) []) ≡ true
answer_own v true None y k = refl
answer_own v true (Some m) y k = and_both (bytes_eq m.text m.text) true (self_named m.text) refl
answer_own v false n y k = refl

-- Names of the host

hosted_placed : (y : Option DataType) (o : Object) → is_placed y o ≡ true → is_placed y (hosted_object o) ≡ true
hosted_placed y (objects.Local l) h = refl
hosted_placed y (objects.Coarray n) h = h
hosted_placed y (objects.Constant n) h = h

hosted_known : (m : Meaning) → is_data m ≡ true → is_data (hosted_meaning m) ≡ true
hosted_known (Names.variable x) h =
    let k = and_left (is_known_symbol x) (is_bounded x) h in
    and_both (is_there x.of_type && is_placed x.of_type (hosted_object x.object)) (is_bounded x)
    (and_both (is_there x.of_type) (is_placed x.of_type (hosted_object x.object)) (and_left (is_there x.of_type) (is_placed x.of_type x.object) k) (hosted_placed x.of_type x.object (and_right (is_there x.of_type) (is_placed x.of_type x.object) k)))
    (and_right (is_known_symbol x) (is_bounded x) h)
hosted_known (Names.constant c) h = h
hosted_known m h = no h

hosted_data : (xs : List Named) → all_meant is_data xs ≡ true → all_meant is_data (map hosted xs) ≡ true
hosted_data [] h = refl
hosted_data (x ∷ xs) h = and_both (is_data (hosted_meaning x.meaning)) (all_meant is_data (map hosted xs)) (hosted_known x.meaning (and_left (is_data x.meaning) (all_meant is_data xs) h)) (hosted_data xs (and_right (is_data x.meaning) (all_meant is_data xs) h))

opened_filled : (s : Scope) (h : Headed) (ds : List fs.Declaration) → IsFilled s → heading_breaks s h ≡ [] → IsFilled (opened s h ds)
opened_filled s h ds f e = record {
  own = refl;
  host = meant_both is_data (typed_answer s h (length (names_declared ds))) (map hosted s.own) (typed_data s h (length (names_declared ds)) f e) (hosted_data s.own f.own);
  procedures = f.procedures;
  accessible = f.accessible;
}

-- Dummies and results

dummy_grown : {K : Type 0} (v : Unit') (s : Scope) (n : Name) → IsGrown K v s (with_dummy v s n)
dummy_grown v s n = cond_grown v s (is_declared v s n.text) (same_grown v s [] none_numbered) (record {
  numbered = breaks_numbered 29 n.at refl;
  filled = λ k f e. absurd (breaks_some 29 n.at e);
  kept = refl;
  named = λ h. own_both v s.own _ h (and_both (bytes_eq n.text n.text) true (self_named n.text) refl);
})

dummies_grown : {K : Type 0} (v : Unit') (ns : List Name) (s : Scope) → IsGrown K v s (with_dummies v ns s)
dummies_grown v [] s = same_grown v s [] none_numbered
dummies_grown v (n ∷ ns) s = then_grown v s (with_dummy v s n) (with_dummies v ns) (dummy_grown v s n) (dummies_grown v ns (with_dummy v s n).scope)

untyped_grown : {K : Type 0} (v : Unit') (s : Scope) (n : Name) → IsGrown K v s (with_untyped s n)
untyped_grown v s n = cond_grown v s (is_there (denoted_in s.own n.text)) (same_grown v s [] none_numbered) (record {
  numbered = breaks_numbered 20 n.at refl;
  filled = λ k f e. absurd (breaks_some 20 n.at e);
  kept = refl;
  named = λ h. own_both v s.own _ h (and_both (bytes_eq n.text n.text) true (self_named n.text) refl);
})

any_grown : {K : Type 0} (v : Unit') (s : Scope) (o : Option Name) → IsGrown K v s (elim o [ None ↦ record { breaks = []; scope = s } | Some n ↦ with_untyped s n ])
any_grown v s None = same_grown v s [] none_numbered
any_grown v s (Some n) = untyped_grown v s n

abbrev IsHeaded : Scope → Headed → Type 0
IsHeaded s h = IsFilled s × (heading_breaks s h ≡ [])

result_grown : (v : Unit') (host : Scope) (h : Headed) (s : Scope) → IsGrown (IsHeaded host h) v s (with_answer host h s)
result_grown v host h s = cond_grown v s (is_typed h) (record {
  numbered = none_numbered;
  filled = λ k f e. record {
    own = meant_both is_data s.own (typed_answer host h (length (variables_of s.own))) f.own (typed_data host h (length (variables_of s.own)) (k.0) (k.1));
    host = f.host;
    procedures = f.procedures;
    accessible = f.accessible;
  };
  kept = refl;
  named = λ i. own_both v s.own (typed_answer host h (length (variables_of s.own))) i (answer_own v (is_typed h) h.answer (first_type host h.types).meaning (length (variables_of s.own)));
}) (any_grown v s h.answer)

-- The result of a function is found, and typed

there_first : (b : Bool) (y : Symbol) (o : Option Symbol) → (b ≡ true) ⊎ (is_there o ≡ true) → is_there (cond b (Some y) o) ≡ true
there_first true y o h = refl
there_first false y o (inl e) = no e
there_first false y o (inr e) = e

step_behind : (m : Meaning) (ys : List Symbol) (n : List ℕ) → is_there (symbol_named ys n) ≡ true → is_there (symbol_named (elim m [ Names.variable y ↦ y ∷ ys | k ↦ ys ]) n) ≡ true
step_behind (Names.variable y) ys n h = there_first (bytes_eq y.name n) y (symbol_named ys n) (inr h)
step_behind m ys n h = h

there_behind : (xs : List Named) (m : Named) (n : List ℕ) → is_there (symbol_named (variables_of (m ∷ [])) n) ≡ true → is_there (symbol_named (variables_of (xs ++ m ∷ [])) n) ≡ true
there_behind [] m n h = h
there_behind (x ∷ xs) m n h = step_behind x.meaning (variables_of (xs ++ m ∷ [])) n (there_behind xs m n h)

-- a name that stands for something, and is that of the result, is a variable's
found_step : (v : Unit') (x : List ℕ) (m : Meaning) (ys : List Symbol) (n : List ℕ) (b : Bool) (o : Option Meaning) → Decides b (x ≡ n) → is_answer v n ≡ true → own_named v x m ≡ true → (is_there o ≡ true → is_there (symbol_named ys n) ≡ true)
    → is_there (cond b (Some m) o) ≡ true → is_there (symbol_named (elim m [ Names.variable y ↦ y ∷ ys | k ↦ ys ]) n) ≡ true
found_step v x (Names.variable y) ys n true o d a h k e = there_first (bytes_eq y.name n) y (symbol_named ys n) (inl (subst (λ z. bytes_eq y.name z ≡ true) (d.0 refl) h))
found_step v x (Names.constant c) ys n true o d a h k e = no (sym (not_true (is_answer v n) (subst (λ z. not (is_answer v z) ≡ true) (d.0 refl) h)) ∙ a)
found_step v x m ys n true o d a h k e = no h
found_step v x m ys n false o d a h k e = step_behind m ys n (k e)

found_named : (v : Unit') (xs : List Named) (n : List ℕ) → is_answer v n ≡ true → all_own v xs ≡ true → is_there (denoted_in xs n) ≡ true → is_there (symbol_named (variables_of xs) n) ≡ true
found_named v [] n a h e = e
found_named v (x ∷ xs) n a h e = found_step v x.name x.meaning (variables_of xs) n (bytes_eq x.name n) (denoted_in xs n) (bytes_eq-Decides x.name n) a (and_left (own_named v x.name x.meaning) (all_own v xs) h) (found_named v xs n a (and_right (own_named v x.name x.meaning) (all_own v xs) h)) e

typed_first : (b : Bool) (y : Symbol) (o : Option Symbol) → is_there y.of_type ≡ true → (is_there o ≡ true → has_type o ≡ true) → is_there (cond b (Some y) o) ≡ true → has_type (cond b (Some y) o) ≡ true
typed_first true y o h k e = h
typed_first false y o h k e = k e

typed_step : (m : Meaning) (ys : List Symbol) (n : List ℕ) → is_data m ≡ true → (is_there (symbol_named ys n) ≡ true → has_type (symbol_named ys n) ≡ true) → is_there (symbol_named (elim m [ Names.variable y ↦ y ∷ ys | k ↦ ys ]) n) ≡ true → has_type (symbol_named (elim m [ Names.variable y ↦ y ∷ ys | k ↦ ys ]) n) ≡ true
typed_step (Names.variable y) ys n h k e = typed_first (bytes_eq y.name n) y (symbol_named ys n) (and_left (is_there y.of_type) (is_placed y.of_type y.object) (and_left (is_known_symbol y) (is_bounded y) h)) k e
typed_step m ys n h k e = k e

typed_named : (xs : List Named) (n : List ℕ) → all_meant is_data xs ≡ true → is_there (symbol_named (variables_of xs) n) ≡ true → has_type (symbol_named (variables_of xs) n) ≡ true
typed_named [] n h e = no e
typed_named (x ∷ xs) n h e = typed_step x.meaning (variables_of xs) n (and_left (is_data x.meaning) (all_meant is_data xs) h) (typed_named xs n (and_right (is_data x.meaning) (all_meant is_data xs) h)) e

-- behind its result a function's variables have it
abbrev answered : List Named → Option Name → Bool
answered xs None = true
answered xs (Some n) = is_there (symbol_named (variables_of xs) n.text)

answered_typed : (s : Scope) (b : Bool) (o : Option Name) (y : Option DataType) (k : ℕ) → b ≡ true → answered (s.own ++ cond b (elim o [ None ↦ [] | Some m ↦ bare m y Names.function_result k ∷ [] ]) []) o ≡ true
answered_typed s true None y k e = refl
answered_typed s true (Some n) y k e = there_behind s.own (bare n y Names.function_result k) n.text (there_first (bytes_eq n.text n.text) _ None (inl (self_named n.text)))
answered_typed s false o y k e = no e

abbrev fills : List Broken → Scope → Declared
fills bs s = record { breaks = bs; scope = s }

abbrev either : Bool → Declared → Declared → Declared
either b x y = cond b x y

untyped_cases : (s : Scope) (n : Name) (b : Bool) (t : Scope) → is_there (denoted_in s.own n.text) ≡ b → (either b (fills [] s) (fills (breaks 20 n.at) t)).breaks ≡ []
    → (is_there (denoted_in s.own n.text) ≡ true) × ((either b (fills [] s) (fills (breaks 20 n.at) t)).scope ≡ s)
untyped_cases s n true t e h = (e, refl)
untyped_cases s n false t e h = absurd (breaks_some 20 n.at h)

abbrev untyped_in : Scope → Option Name → Declared
untyped_in s o = elim o [ None ↦ record { breaks = []; scope = s } | Some n ↦ with_untyped s n ]

answered_untyped : (v : Unit') (s : Scope) (o : Option Name) → ((n : Name) → o ≡ Some n → is_answer v n.text ≡ true) → all_own v s.own ≡ true → (untyped_in s o).breaks ≡ [] → answered (untyped_in s o).scope.own o ≡ true
answered_untyped v s None a h e = refl
answered_untyped v s (Some n) a h e =
    let k = untyped_cases s n (is_there (denoted_in s.own n.text)) _ refl e in
    subst (λ z. is_there (symbol_named (variables_of z.own) n.text) ≡ true) (sym (k.1)) (found_named v s.own n.text (a n refl) h (k.0))

abbrev typed_in : Scope → Headed → Scope → Declared
typed_in host h s = fills [] (record s { own = s.own ++ typed_answer host h (length (variables_of s.own)) })

answered_any : (v : Unit') (host : Scope) (h : Headed) (s : Scope) (b : Bool) → is_typed h ≡ b → ((n : Name) → h.answer ≡ Some n → is_answer v n.text ≡ true) → all_own v s.own ≡ true
    → (either b (typed_in host h s) (untyped_in s h.answer)).breaks ≡ [] → answered (either b (typed_in host h s) (untyped_in s h.answer)).scope.own h.answer ≡ true
answered_any v host h s true i a k e = answered_typed s (is_typed h) h.answer (first_type host h.types).meaning (length (variables_of s.own)) i
answered_any v host h s false i a k e = answered_untyped v s h.answer a k e

abbrev text_if : Option Name → Option (List ℕ)
text_if o = elim o [ None ↦ None | Some m ↦ Some m.text ]

abbrev is_text : Option (List ℕ) → List ℕ → Bool
is_text o n = elim o [ None ↦ false | Some r ↦ bytes_eq r n ]

answer_named : (h : Headed) (n : Name) → h.answer ≡ Some n → is_answer (unit_of h) n.text ≡ true
answer_named h n e = subst (λ o. is_text (text_if o) n.text ≡ true) (sym e) (self_named n.text)

-- Procedures

pub record IsOpened (host : Scope) (h : Headed) (o : Opened) : Type 0 where
  pub numbered : AreNumbered o.breaks
  pub filled : IsFilled host → o.breaks ≡ [] → IsFilled o.scope
  pub kept : o.scope.procedures ≡ host.procedures
  pub answer : IsFilled host → o.breaks ≡ [] → is_there h.answer ≡ true → has_type (interface_of o).result ≡ true

answered_result : (xs : List Named) (o : Option Name) → all_meant is_data xs ≡ true → answered xs o ≡ true → is_there o ≡ true → has_type (elim o [ None ↦ None | Some n ↦ symbol_named (variables_of xs) n.text ]) ≡ true
answered_result xs None h a e = no e
answered_result xs (Some n) h a e = typed_named xs n.text h a

pub procedure_opened : (host : Scope) (h : Headed) (x : u.Procedure) → IsOpened host h (opened_procedure host h x)
procedure_opened host h x =
    let v = unit_of h in
    let s0 = opened host h x.body.declarations in
    let a = declared_all v x.body.declarations s0 in
    let b = with_dummies v h.dummies a.scope in
    let c = with_answer host h b.scope in
    let bs = heading_breaks host h in
    let ga : IsGrown (IsHeaded host h) v s0 a = declarations_grown v x.body.declarations s0 in
    let gb : IsGrown (IsHeaded host h) v a.scope b = dummies_grown v h.dummies a.scope in
    let gc : IsGrown (IsHeaded host h) v b.scope c = result_grown v host h b.scope in
    let full : IsFilled host → bs ++ (a.breaks ++ (b.breaks ++ c.breaks)) ≡ [] → IsFilled c.scope = λ f e. (
    let k : IsHeaded host h = (f, left_nothing bs (a.breaks ++ (b.breaks ++ c.breaks)) e) in
    let r = right_nothing bs (a.breaks ++ (b.breaks ++ c.breaks)) e in
    let q = right_nothing a.breaks (b.breaks ++ c.breaks) r in
    gc.filled k (gb.filled k (ga.filled k (opened_filled host h x.body.declarations f (k.1)) (left_nothing a.breaks (b.breaks ++ c.breaks) r)) (left_nothing b.breaks c.breaks q)) (right_nothing b.breaks c.breaks q)) in
    record {
      numbered = both_numbered (heading_numbered host h) (both_numbered ga.numbered (both_numbered gb.numbered gc.numbered));
      filled = λ f e. (let g = full f e in record { own = g.own; host = hosted_data host.own f.own; procedures = g.procedures; accessible = g.accessible });
      kept = gc.kept ∙ gb.kept ∙ ga.kept;
      answer = λ f e i. (
          let q = right_nothing a.breaks (b.breaks ++ c.breaks) (right_nothing bs (a.breaks ++ (b.breaks ++ c.breaks)) e) in
          answered_result c.scope.own h.answer (full f e).own
          (answered_any v host h b.scope (is_typed h) refl (answer_named h) (gb.named (ga.named refl)) (right_nothing b.breaks c.breaks q)) i);
    }
