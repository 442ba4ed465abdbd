-- Assignment, from the value and what the subscripts leave: the value is of the variable's kind, or is tested for that.
use Rattle.std.proofs.Common.{◌≡◌, ◌∙◌, ℕ, zero, suc, ◌+◌, inl, inr, Bool, true, false, cond, List, [], ◌∷◌, ◌++◌, length, slice_get, refl, sym, arith}
use Rattle.std.specs.Prelude.{ℤ, pos, Option, None, Some}
use Rattle.caf_base.specs.declared.value.Kind.{Kind}
use Rattle.caf_base.specs.declared.value.Kind.TheVariants as kinds
use Rattle.checked_tree.specs.declared.data.DataType.{DataType}
use Rattle.checked_tree.specs.Expressions as t
use Rattle.walk_theory.specs.Syntax.{end_parts}
use Rattle.object_rules.specs.MemoryRules as memory
use Rattle.image_acts.specs.Places.{place_size, digits, numbers_of_form}
use Rattle.image_acts.specs.Acts as a
use Rattle.image_acts.specs.Acts.{Scope, constant, stack, variable, operator, bounded, ask}
use Rattle.tree_meaning.specs.Environment as meaning
use Rattle.tree_meaning.specs.Sequences.{◌▸◌, doing, nothing, choosing}
use Rattle.tree_meaning.specs.Expressions as view
use Rattle.tree_meaning.specs.Assignments.{narrows, fitting, sectioning, fitting_section, agreeing, putting, written, dropping_value, writing}
use Rattle.made_code.specs.Ranks.{IsSection}
use Rattle.made_code.proofs.Digits.{section_numbers, subscripts_size}
use Rattle.image_acts.specs.Core.{Core}
use Rattle.kind_walks.specs.Kinds.{Widens, IsOf, Are, Typing, IsSo, with_number, with_array}
use Rattle.kind_walks.proofs.Effects.{with_numbers, unknown_long}
use Rattle.kind_walks.proofs.Frames.{widened, layout_of}
use Rattle.kind_walks.proofs.StackActs as acts
use Rattle.kind_expressions.specs.Kinded.{is_of, kind_of}
use Rattle.kind_expressions.specs.Laws.{result}
use Rattle.kind_expressions.proofs.VariableActs.{acts_put, acts_put_array}
use Rattle.kind_expressions.proofs.PlaceActs as places
use Rattle.kind_expressions.proofs.AskActs.{acts_write, acts_write_array}
use Rattle.kind_expressions.proofs.Operators.{of_type}
use Rattle.kind_expressions.proofs.Goes.{Setting, Goes, idle, ◌⨾◌, one_act, fork, known_as, wide_result, goes_dropping}
use Rattle.kind_expressions.proofs.References.{place, on_place, goes_section}
use Rattle.kind_statements.specs.Kinded.{Converts}

-- a value, and numbers on it
abbrev pub under : List (Option Kind) → Option Kind → ℕ → Typing → Typing
under ks k r s = with_numbers ks (result k r s)

-- wider kinds beneath numbers
under_numbers : (ks : List (Option Kind)) (j k : Option Kind) → Widens j k → (ls : List (Option Kind)) (vs : List ℤ) → Are IsOf (ks ++ (j ∷ ls)) vs → Are IsOf (ks ++ (k ∷ ls)) vs
under_numbers [] j k x ls [] h = absurd h
under_numbers [] j k x ls (v ∷ vs) h = (widened j k x v h.0, h.1)
under_numbers (i ∷ ks) j k x ls [] h = absurd h
under_numbers (i ∷ ks) j k x ls (v ∷ vs) h = (h.0, under_numbers ks j k x ls vs h.1)

under_widened : (n : ℕ) (ks : List (Option Kind)) (j k : Option Kind) → Widens j k → (s : Typing) (c : Core) → IsSo n (with_numbers ks (with_number j s)) c → IsSo n (with_numbers ks (with_number k s)) c
under_widened n ks j k x s c h =
    record { numbers = under_numbers ks j k x s.numbers c.values h.numbers; arrays = h.arrays; running = h.running; callers = h.callers; images = h.images; known = h.known; formed = h.formed }

result_widened : (n : ℕ) (ks : List (Option Kind)) (j k : Option Kind) → Widens j k → (r : ℕ) (s : Typing) (c : Core) → IsSo n (under ks j r s) c → IsSo n (under ks k r s) c
result_widened n ks j k x zero s c h = under_widened n ks j k x s c h
result_widened n ks j k x (suc r) s c h = wide_result n j k x 1 (with_numbers ks s) c h

module _ (w : Setting) where
  -- ---- the kind of the value
  -- numbers on a value of a narrower kind
  beneath : (ks : List (Option Kind)) (j k : Option Kind) → Widens j k → (s : Typing) → Goes w (with_numbers ks (with_number j s)) end_parts (with_numbers ks (with_number k s))
  beneath ks j k x s = record { leads = λ i c h. under_widened w.images ks j k x s c h }

  pub fitting_number : (y z : DataType) → Converts y z → (depth : ℕ) (ks : List (Option Kind)) → length ks ≡ depth → (s : Typing) → (b : Bool) → narrows (meaning.kind_of y) (meaning.kind_of z) ≡ b
      → Goes w (with_numbers ks (with_number (kind_of y) s)) (cond b (doing (operator (a.fits (meaning.kind_of z) depth) ∷ [])) nothing) (with_numbers ks (with_number (kind_of z) s))
  fitting_number y z c depth ks e s true f =
      known_as w (with_numbers ks (with_number (kind_of y) s)) (with_numbers ks (with_number (Some (meaning.kind_of z)) s)) (with_numbers ks (with_number (kind_of z) s)) (λ d h. under_widened w.images ks (Some (meaning.kind_of z)) (kind_of z) (of_type z) s d h)
      (one_act w (with_numbers ks (with_number (kind_of y) s)) (operator (a.fits (meaning.kind_of z) depth)) (with_numbers ks (with_number (Some (meaning.kind_of z)) s))
      (acts.acts_fits_beneath w.coarrays w.images (meaning.kind_of z) (kind_of y) ks depth e s))
  fitting_number y z (inl n) depth ks e s false f = absurd (let g : true ≡ false = sym n ∙ f in cc)
  fitting_number y z (inr n) depth ks e s false f = beneath ks (kind_of y) (kind_of z) n s

  fitting_array : (y z : DataType) → Converts y z → (s : Typing) → (b : Bool) → narrows (meaning.kind_of y) (meaning.kind_of z) ≡ b
      → Goes w (with_array (kind_of y) s) (cond b (doing (operator (a.fits_each (meaning.kind_of z)) ∷ [])) nothing) (with_array (kind_of z) s)
  fitting_array y z c s true f =
      known_as w (with_array (kind_of y) s) (with_array (Some (meaning.kind_of z)) s) (with_array (kind_of z) s) (wide_result w.images (Some (meaning.kind_of z)) (kind_of z) (of_type z) 1 s)
      (one_act w (with_array (kind_of y) s) (operator (a.fits_each (meaning.kind_of z))) (with_array (Some (meaning.kind_of z)) s) (acts.acts_fits_each w.coarrays w.images (meaning.kind_of z) (kind_of y) s))
  fitting_array y z (inl n) s false f = absurd (let g : true ≡ false = sym n ∙ f in cc)
  fitting_array y z (inr n) s false f = record { leads = λ i c h. wide_result w.images (kind_of y) (kind_of z) n 1 s c h }

  pub goes_fitting : (y z : DataType) → Converts y z → (r depth : ℕ) (ks : List (Option Kind)) → length ks ≡ depth → (s : Typing) → Goes w (under ks (kind_of y) r s) (fitting (meaning.kind_of y) (meaning.kind_of z) r depth) (under ks (kind_of z) r s)
  goes_fitting y z c zero depth ks e s = fitting_number y z c depth ks e s (narrows (meaning.kind_of y) (meaning.kind_of z)) refl
  goes_fitting y z c (suc r) depth ks e s = fitting_array y z c (with_numbers ks s) (narrows (meaning.kind_of y) (meaning.kind_of z)) refl

  -- ---- a local array: its section, and the test of the value
  sectioned : (x : Scope) (i : ℕ) (ss : t.Subscripts) (r : ℕ) → IsSection ss r → (us : List (Option Kind)) → length us ≡ subscripts_size ss → (s : Typing) → Goes w (with_numbers us s) (sectioning x i (view.form_of ss r)) (on_place r s)
  sectioned x i ss r h us e s = goes_section w x i ss r h us e s

  pub goes_fitting_section : (y z : DataType) → Converts y z → (q : ℕ) (x : Scope) (i : ℕ) (ss : t.Subscripts) (r : ℕ) → IsSection ss r → (us : List (Option Kind)) → length us ≡ subscripts_size ss → (s : Typing)
      → Goes w (under us (kind_of y) q s) (fitting_section (meaning.kind_of y) (meaning.kind_of z) q x i (view.form_of ss r) r) (under (place r) (kind_of z) q s)
  goes_fitting_section y z c q x i ss r h us e s = by_narrows c (narrows (meaning.kind_of y) (meaning.kind_of z)) refl
    where
      by_narrows : Converts y z → (b : Bool) → narrows (meaning.kind_of y) (meaning.kind_of z) ≡ b → Goes w (under us (kind_of y) q s)
          (cond b (doing (bounded (a.is_there x i) ∷ [])
          ▸ choosing (sectioning x i (view.form_of ss r) ▸ fitting (meaning.kind_of y) (meaning.kind_of z) q (place_size r)) (fitting (meaning.kind_of y) (meaning.kind_of z) q (numbers_of_form (digits (view.form_of ss r))) ▸ sectioning x i (view.form_of ss r)))
          (sectioning x i (view.form_of ss r))) (under (place r) (kind_of z) q s)
      by_narrows c true f =
          let u = under us (kind_of y) q s in
          one_act w u (bounded (a.is_there x i)) (with_number (Some kinds.L4) u) (places.acts_is_there w.coarrays w.images x i u)
          ⨾ fork w (Some kinds.L4) u (under (place r) (kind_of z) q s)
          (sectioned x i ss r h us e (result (kind_of y) q s) ⨾ goes_fitting y z c q (place_size r) (place r) (unknown_long (place_size r)) s)
          (goes_fitting y z c q (numbers_of_form (digits (view.form_of ss r))) us (e ∙ sym (section_numbers ss r h)) s ⨾ sectioned x i ss r h us e (result (kind_of z) q s)) idle
      by_narrows (inl n) false f = absurd (let g : true ≡ false = sym n ∙ f in cc)
      by_narrows (inr n) false f =
          known_as w (under us (kind_of y) q s) (under (place r) (kind_of y) q s) (under (place r) (kind_of z) q s) (λ d k. result_widened w.images (place r) (kind_of y) (kind_of z) n q s d k) (sectioned x i ss r h us e (result (kind_of y) q s))

  pub goes_agreeing : (q depth r : ℕ) (s : Typing) → Goes w s (agreeing q depth r) s
  goes_agreeing zero depth r s = idle
  goes_agreeing (suc q) depth r s = one_act w s (bounded (a.same_shape depth r)) s (places.acts_same_shape w.coarrays w.images depth r s)

  pub goes_putting : (q : ℕ) (x : Scope) (i r : ℕ) (l : Option Kind) (s : Typing) → ((k : Option Kind) → slice_get (layout_of x s).arrays i ≡ Some k → Widens l k) → Goes w (under (place r) l q s) (putting q x i r) s
  goes_putting zero x i r l s f = one_act w (on_place r (with_number l s)) (variable (a.put x i r)) s (acts_put w.coarrays w.images x i l s f (place r) r (unknown_long (place_size r)))
  goes_putting (suc q) x i r l s f = one_act w (on_place r (with_array l s)) (variable (a.put_array x i r)) s (acts_put_array w.coarrays w.images x i l s f (place r) r (unknown_long (place_size r)))

  -- ---- a coarray: the value beneath the place and the owner
  goes_written : (q c r : ℕ) (k : Kind) (l : Option Kind) → memory.holds (is_of k) (slice_get w.coarrays c) ≡ true → Widens l (Some k) → (s : Typing) → Goes w (with_number None (on_place r (result l q s))) (written q c r k) (with_number (Some kinds.I4) s)
  goes_written zero c r k l h x s =
      one_act w (with_number None (on_place r (with_number l s))) (ask (a.write c r k)) (with_number (Some kinds.I4) s) (acts_write w.coarrays w.images None l (place r) c r k h x (unknown_long (place_size r)) s)
  goes_written (suc q) c r k l h x s =
      one_act w (with_number None (on_place r (with_array l s))) (ask (a.write_array c r k)) (with_number (Some kinds.I4) s) (acts_write_array w.coarrays w.images None l (place r) c r k h x (unknown_long (place_size r)) s)

  goes_dropping_value : (q : ℕ) (l : Option Kind) (s : Typing) → Goes w (result l q s) (dropping_value q) s
  goes_dropping_value zero l s = goes_dropping w s (l ∷ []) 1 refl
  goes_dropping_value (suc q) l s = one_act w (with_array l s) (stack a.drop_array) s (acts.acts_drop_array w.coarrays w.images l s)

  pub goes_writing : (q c r : ℕ) (k : Kind) (l : Option Kind) → memory.holds (is_of k) (slice_get w.coarrays c) ≡ true → Widens l (Some k) → (s : Typing) → Goes w (with_number None (on_place r (result l q s))) (writing q c r k) (with_number (Some kinds.I4) s)
  goes_writing q c zero k l h x s = goes_written q c 0 k l h x s
  goes_writing q c (suc r) k l h x s =
      let y = with_number None (on_place (suc r) (result l q s)) in
      one_act w y (bounded (a.some_cells 1 (suc r))) (with_number (Some kinds.L4) y) (places.acts_some_cells w.coarrays w.images 1 (suc r) y)
      ⨾ fork w (Some kinds.L4) y (with_number (Some kinds.I4) s) (goes_written q c (suc r) k l h x s)
      (goes_dropping w (result l q s) (None ∷ place (suc r)) (place_size (suc r) + 1) (let z = unknown_long (place_size (suc r)) in omega arith) ⨾ goes_dropping_value q l s
      ⨾ one_act w s (constant (pos 0)) (with_number (Some kinds.I4) s) (acts.acts_constant w.coarrays w.images (pos 0) (Some kinds.I4) refl s)) idle
