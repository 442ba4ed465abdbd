-- What the cells of a memory hold: each cell of values that is there has a value, and after a history that the memory
-- served it is of the coarray's kind.
use Rattle.std.proofs.Common.{◌≡◌, ℕ, zero, suc, Bool, true, false, ◌&&◌, cond, List, [], ◌∷◌, ◌++◌, length, inl, inr, refl, ap, sym, ◌∙◌, subst, arith, append_assoc}
use Rattle.std.specs.Prelude.{ℤ, pos, nat_eq, nat_lt, Option, Some, None, slice_get}
use Rattle.std.specs.List.{list_all}
use Rattle.std.proofs.lemmas.List.{append-nil}
use Rattle.std.proofs.lemmas.Bool.{cases_Bool, and_parts, eqb-true, ltb-true}
use Rattle.std.proofs.lemmas.Option.{slice_get-get_or}
use Rattle.caf_base.specs.declared.value.Value.{Value}
use Rattle.caf_base.specs.declared.value.Value.TheVariants as values
use Rattle.caf_events.specs.declared.ask.Ask.{Ask}
use Rattle.caf_events.specs.declared.ask.Ask.TheVariants as asks
use Rattle.caf_events.specs.declared.reply.Reply.{Reply}
use Rattle.caf_events.specs.declared.event.Entry.{Entry}
use Rattle.object_rules.specs.Scans.{or_else}
use Rattle.object_rules.specs.Cells.{Declared, MadeMemory, size_turn, size_after, first_size, is_offset, zero_of, written, first_there, value_after}
use Rattle.object_rules.specs.MemoryRules.{is_values, has_first_values, suits_values}
use Rattle.object_rules.proofs.MemoryGrowing.{size_more, value_more}

pub all_get : {A : Type 0} (test : A → Bool) (xs : List A) (k : ℕ) (x : A) → list_all test xs ≡ true → slice_get xs k ≡ Some x → test x ≡ true
all_get test [] k x h g = absurd (cc)
all_get test (y ∷ ys) zero x h g = let e : y ≡ x = cc in subst (λ z. test z ≡ true) e (and_parts (test y) (list_all test ys) h).0
all_get test (y ∷ ys) (suc k) x h g = all_get test ys k x (and_parts (test y) (list_all test ys) h).1 g

some_or : (w y : Option Value) → (v : Value) × (y ≡ Some v) → (v : Value) × (or_else w y ≡ Some v)
some_or None y h = h
some_or (Some u) y h = (u, refl)

-- the cell has a value
abbrev pub HasValue : MadeMemory → ℕ → List Entry → ℤ → Type 0
HasValue m c h o = (v : Value) × (value_after m h c o ≡ Some v)

module _ (m : MadeMemory) (c : ℕ) (d : Declared) (there : slice_get m.coarrays c ≡ Some d) (o : ℕ) where
  first_by : (b : Bool) → d.allocatable ≡ b → has_first_values d ≡ true → is_values d.content ≡ true → is_offset (cond b None (Some d.cells)) (pos o) ≡ true → HasValue m c [] (pos o)
  first_by true e full is q = absurd (cc)
  first_by false e full is q =
      let both : (nat_eq (length d.first) d.cells && suits_values d.first d.content) ≡ true = rw (e, is) at full in
      let many = eqb-true (length d.first) d.cells (and_parts (nat_eq (length d.first) d.cells) (suits_values d.first d.content) both).0 in
      let less = ltb-true o d.cells q in
      (_, ap (first_there (pos o)) there ∙ slice_get-get_or d.first o (values.Int (pos 0)) (omega arith))

  first_has : has_first_values d ≡ true → is_values d.content ≡ true → is_offset (size_after m [] c) (pos o) ≡ true → HasValue m c [] (pos o)
  first_has full is q = first_by d.allocatable refl full is (subst (λ z. is_offset (first_size z) (pos o) ≡ true) there q)

  turned_has : (h : List Entry) → (is_offset (size_after m h c) (pos o) ≡ true → HasValue m c h (pos o)) → (a : Ask) (r : Reply) → is_offset (size_turn c (size_after m h c) a) (pos o) ≡ true
      → (v : Value) × (or_else (written m c (pos o) a r) (value_after m h c (pos o)) ≡ Some v)
  turned_has h old (asks.Create owner k cells) r q = elim (cases_Bool (nat_eq k c)) [
    | inl t ↦ (zero_of d.content, (let here : nat_lt o cells ≡ true = rw t at q in rw (t, here, there) refl))
    | inr f ↦ rw f (old (rw f at q))
  ]
  turned_has h old (asks.Delete owner k) r q = elim (cases_Bool (nat_eq k c)) [
    | inl t ↦ absurd (let w : false ≡ true = rw t at q in cc)
    | inr f ↦ old (rw f at q)
  ]
  turned_has h old a r q = some_or (written m c (pos o) a r) (value_after m h c (pos o)) (old q)

  more_has : (h : List Entry) (e : Entry) → (is_offset (size_after m h c) (pos o) ≡ true → HasValue m c h (pos o)) → is_offset (size_after m (h ++ e ∷ []) c) (pos o) ≡ true → HasValue m c (h ++ e ∷ []) (pos o)
  more_has h e old q =
      let r = turned_has h old e.event.ask e.event.reply (subst (λ z. is_offset z (pos o) ≡ true) (size_more m h e c) q) in
      (r.0, value_more m h e c (pos o) ∙ r.1)

  all_have : (b es : List Entry) → (is_offset (size_after m b c) (pos o) ≡ true → HasValue m c b (pos o)) → is_offset (size_after m (b ++ es) c) (pos o) ≡ true → HasValue m c (b ++ es) (pos o)
  all_have b [] old = subst (λ z. is_offset (size_after m z c) (pos o) ≡ true → HasValue m c z (pos o)) (sym (append-nil b)) old
  all_have b (e ∷ es) old = subst (λ z. is_offset (size_after m z c) (pos o) ≡ true → HasValue m c z (pos o)) (append_assoc b (e ∷ []) es) (all_have (b ++ e ∷ []) es (more_has b e old))

  -- each cell that is there has a value
  pub has_value : has_first_values d ≡ true → is_values d.content ≡ true → (h : List Entry) → is_offset (size_after m h c) (pos o) ≡ true → HasValue m c h (pos o)
  has_value full is h = all_have [] h (first_has full is)
