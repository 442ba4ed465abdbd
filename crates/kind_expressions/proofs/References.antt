-- References of arrays and coarrays, and result variables, over any parts: by what their operands leave.
use Rattle.std.proofs.Common.{◌≡◌, ◌∙◌, ℕ, zero, suc, ◌+◌, ◌*◌, ◌≤◌, Bool, true, false, ◌&&◌, cond, not, List, [], ◌∷◌, ◌++◌, length, slice_get, refl, ap, sym, subst, append_assoc, arith}
use Rattle.std.specs.Prelude.{Option, None, Some}
use Rattle.std.proofs.lemmas.List.{length-append}
use Rattle.caf_base.specs.declared.value.Kind.{Kind}
use Rattle.caf_base.specs.declared.value.Kind.TheVariants as kinds
use Rattle.walk_theory.specs.Syntax.{Parts, end_parts}
use Rattle.object_rules.specs.MemoryRules as memory
use Rattle.image_acts.specs.Places.{place_size, digits, numbers_of_form, triplets}
use Rattle.image_acts.specs.Acts as a
use Rattle.image_acts.specs.Acts.{Act, Scope, stack, variable, bounded, selector, ask}
use Rattle.checked_tree.specs.Expressions as t
use Rattle.tree_meaning.specs.Sequences.{◌▸◌, doing, dropping, copying, bringing}
use Rattle.tree_meaning.specs.Expressions as view
use Rattle.made_code.specs.Ranks.{IsSection}
use Rattle.made_code.proofs.Digits.{section_numbers, section_rank, subscripts_size, subscript_size}
use Rattle.kind_walks.specs.Kinds.{Widens, Typing, with_number, with_array}
use Rattle.kind_walks.proofs.Effects.{with_numbers, unknown, unknown_long}
use Rattle.kind_walks.proofs.Frames.{layout_of}
use Rattle.kind_walks.proofs.StackActs.{acts_take_cells, acts_only, acts_accessed, acts_nothing_read}
use Rattle.kind_expressions.specs.Kinded.{is_of}
use Rattle.kind_expressions.proofs.VariableActs.{result, acts_store, acts_load, acts_put}
use Rattle.kind_expressions.proofs.PlaceActs.{acts_section, acts_co_section, acts_some_cells, acts_needs_own, acts_section_bounds}
use Rattle.kind_expressions.proofs.ImageActs.{acts_own_image, acts_owner}
use Rattle.kind_expressions.proofs.AskActs.{acts_read}
use Rattle.kind_expressions.proofs.Goes.{Setting, Goes, idle, ◌⨾◌, act_then, one_act, fork, Leaves, grouped, goes_dropping, goes_copying, goes_bringing}

-- the numbers of a place, of which nothing is known
abbrev pub place : ℕ → List (Option Kind)
place r = unknown (place_size r)

abbrev pub on_place : ℕ → Typing → Typing
on_place r s = with_numbers (place r) s

module _ (w : Setting) where
  -- ---- sections
  pub goes_section : (x : Scope) (i : ℕ) (ss : t.Subscripts) (r : ℕ) → IsSection ss r → (us : List (Option Kind)) → length us ≡ subscripts_size ss → (s : Typing)
      → Goes w (with_numbers us s) (doing (bounded (a.section x i (view.form_of ss r)) ∷ [])) (on_place r s)
  goes_section x i ss r h us e s =
      subst (λ m. Goes w (with_numbers us s) (doing (bounded (a.section x i (view.form_of ss r)) ∷ [])) (on_place m s)) (section_rank ss r h)
      (one_act w (with_numbers us s) (bounded (a.section x i (view.form_of ss r))) (on_place (triplets (digits (view.form_of ss r))) s) (acts_section w.coarrays w.images x i (view.form_of ss r) us (e ∙ sym (section_numbers ss r h)) s))

  pub goes_co_section : (c : ℕ) (ss : t.Subscripts) (r : ℕ) → IsSection ss r → (us : List (Option Kind)) → length us ≡ subscripts_size ss → (s : Typing)
      → Goes w (with_numbers us s) (doing (bounded (a.co_section c (view.form_of ss r)) ∷ [])) (on_place r s)
  goes_co_section c ss r h us e s =
      subst (λ m. Goes w (with_numbers us s) (doing (bounded (a.co_section c (view.form_of ss r)) ∷ [])) (on_place m s)) (section_rank ss r h)
      (one_act w (with_numbers us s) (bounded (a.co_section c (view.form_of ss r))) (on_place (triplets (digits (view.form_of ss r))) s) (acts_co_section w.coarrays w.images c (view.form_of ss r) us (e ∙ sym (section_numbers ss r h)) s))

  pub goes_taking_cells : (k : Option Kind) (r : ℕ) (s : Typing) → Goes w (result k r s) (view.taking_cells r) (result k r s)
  goes_taking_cells k zero s = idle
  goes_taking_cells k (suc r) s = one_act w (with_array k s) (stack a.take_cells) (with_array k s) (acts_take_cells w.coarrays w.images (with_array k s))

  -- the part of an array, from its subscripts on
  pub goes_part : (x : Scope) (i : ℕ) (k : Option Kind) (ss : t.Subscripts) (r : ℕ) → IsSection ss r → (s : Typing) → slice_get (layout_of x s).arrays i ≡ Some k → {p : Parts Act} → Leaves w s (subscripts_size ss) p
      → Goes w s (p ▸ doing (bounded (a.section x i (view.form_of ss r)) ∷ variable (a.load x i r) ∷ []) ▸ view.taking_cells r) (result k r s)
  goes_part x i k ss r h s e f =
      let us = f.kinds in
      let m = triplets (digits (view.form_of ss r)) in
      f.goes
      ⨾ act_then w (with_numbers us s) (bounded (a.section x i (view.form_of ss r))) (on_place m s) (acts_section w.coarrays w.images x i (view.form_of ss r) us (f.long ∙ sym (section_numbers ss r h)) s)
      (one_act w (on_place m s) (variable (a.load x i r)) (result k r s) (acts_load w.coarrays w.images x i k s e (place m) r (unknown_long (place_size m) ∙ ap place_size (section_rank ss r h))))
      ⨾ goes_taking_cells k r s

  -- the place of an element, from its subscripts on
  pub element_placed : (x : Scope) (i form count : ℕ) (s : Typing) (k : Option Kind) → numbers_of_form (digits form) ≡ suc count → triplets (digits form) ≡ 0 → {p q : Parts Act} → Goes w s p (with_number k s) → Leaves w (with_number k s) count q
      → Leaves w s 1 (p ▸ q ▸ doing (bounded (a.section x i form) ∷ []))
  element_placed x i form count s k e z f g =
      let us = g.kinds ++ (k ∷ []) in
      let m = triplets (digits form) in
      let long : length us ≡ numbers_of_form (digits form) = (let y = length-append g.kinds (k ∷ []) in let u = g.long in omega arith) in
      record {
        kinds = place m;
        long = unknown_long (place_size m) ∙ ap place_size z;
        goes = f ⨾ grouped w s (k ∷ []) g.kinds g.goes ⨾ one_act w (with_numbers us s) (bounded (a.section x i form)) (on_place m s) (acts_section w.coarrays w.images x i form us long s);
      }

  -- ---- bounds of a section
  pub goes_section_bounds : (r : ℕ) (s : Typing) → Goes w (on_place r s) (doing (bounded (a.section_bounds r) ∷ [])) (with_array None s)
  goes_section_bounds r s = one_act w (on_place r s) (bounded (a.section_bounds r)) (with_array None s) (acts_section_bounds w.coarrays w.images (place r) r (unknown_long (place_size r)) s)

  -- the first subscript, and then the others
  pub record Subscripted (x : t.Subscript) (ss : t.Subscripts) (s : Typing) (p q : Parts Act) : Type 0 where
    pub kinds : List (Option Kind)
    pub long : length kinds ≡ subscripts_size (t.more_subscripts x ss)
    pub between : Typing
    pub first : Goes w s p between
    pub second : Goes w between q (with_numbers kinds s)

  pub subscripted : (x : t.Subscript) (ss : t.Subscripts) (s : Typing) {p q : Parts Act} → Leaves w s (subscript_size x) p → ((us : List (Option Kind)) → Leaves w (with_numbers us s) (subscripts_size ss) q) → Subscripted x ss s p q
  subscripted x ss s f g =
      let h = g f.kinds in
      record {
        kinds = h.kinds ++ f.kinds;
        long = length-append h.kinds f.kinds ∙ (let y = f.long in let u = h.long in omega arith);
        between = with_numbers f.kinds s;
        first = f.goes;
        second = grouped w s f.kinds h.kinds h.goes;
      }

  pub part_bounds : (y : Scope) (i : ℕ) (x : t.Subscript) (ss : t.Subscripts) (r : ℕ) → IsSection (t.more_subscripts x ss) r → (s : Typing) {p q : Parts Act} → Subscripted x ss s p q
      → Goes w s (p ▸ q ▸ doing (bounded (a.section y i (view.form_of (t.more_subscripts x ss) r)) ∷ bounded (a.section_bounds r) ∷ [])) (with_array None s)
  part_bounds y i x ss r h s f =
      let form = view.form_of (t.more_subscripts x ss) r in
      let m = triplets (digits form) in
      f.first ⨾ f.second ⨾ (act_then w (with_numbers f.kinds s) (bounded (a.section y i form)) (on_place m s) (acts_section w.coarrays w.images y i form f.kinds (f.long ∙ sym (section_numbers (t.more_subscripts x ss) r h)) s)
      (subst (λ k. Goes w (on_place k s) (doing (bounded (a.section_bounds r) ∷ [])) (with_array None s)) (sym (section_rank (t.more_subscripts x ss) r h)) (goes_section_bounds r s)))

  pub own_bounds : (c : ℕ) (x : t.Subscript) (ss : t.Subscripts) (r : ℕ) → IsSection (t.more_subscripts x ss) r → (s : Typing) {p q : Parts Act} → Subscripted x ss s p q
      → Goes w s (p ▸ q ▸ doing (bounded (a.co_section c (view.form_of (t.more_subscripts x ss) r)) ∷ bounded (a.needs_own c) ∷ bounded (a.section_bounds r) ∷ [])) (with_array None s)
  own_bounds c x ss r h s f =
      let form = view.form_of (t.more_subscripts x ss) r in
      let m = triplets (digits form) in
      f.first ⨾ f.second ⨾ (act_then w (with_numbers f.kinds s) (bounded (a.co_section c form)) (on_place m s) (acts_co_section w.coarrays w.images c form f.kinds (f.long ∙ sym (section_numbers (t.more_subscripts x ss) r h)) s)
      (act_then w (on_place m s) (bounded (a.needs_own c)) (on_place m s) (acts_needs_own w.coarrays w.images c (on_place m s))
      (subst (λ k. Goes w (on_place k s) (doing (bounded (a.section_bounds r) ∷ [])) (with_array None s)) (sym (section_rank (t.more_subscripts x ss) r h)) (goes_section_bounds r s))))

  -- ---- result variables
  -- a number that is on top goes into a scalar, or into the element whose place is beneath others
  pub goes_store : (x : Scope) (i : ℕ) (l : Option Kind) (s : Typing) → ((k : Option Kind) → slice_get (layout_of x s).scalars i ≡ Some k → Widens l k) → Goes w (with_number l s) (doing (variable (a.store x i) ∷ [])) s
  goes_store x i l s f = one_act w (with_number l s) (variable (a.store x i)) s (acts_store w.coarrays w.images x i l s f)

  pub goes_put : (x : Scope) (i : ℕ) (l : Option Kind) (us qs : List (Option Kind)) (depth : ℕ) → suc (length us) ≡ depth → length qs ≡ 1 → (s : Typing)
      → ((k : Option Kind) → slice_get (layout_of x s).arrays i ≡ Some k → Widens l k)
      → Goes w (with_number l (with_numbers us (with_numbers qs s))) (copying depth 1 ▸ doing (variable (a.put x i 0) ∷ [])) (with_numbers us (with_numbers qs s))
  goes_put x i l us qs depth e f s g =
      let t = with_numbers us (with_numbers qs s) in
      goes_copying w s (l ∷ us) qs depth 1 e f ⨾ one_act w (with_numbers qs (with_number l t)) (variable (a.put x i 0)) t (acts_put w.coarrays w.images x i l t g qs 0 f)

  -- ---- a coarray: its image, and its values
  -- the owner stands on the place, and beneath it the numbers of the place of a STAT= variable
  pub record Owned (s : Typing) (r m : ℕ) (p : Parts Act) : Type 0 where
    pub kinds : List (Option Kind)
    pub long : length kinds ≡ m
    pub goes : Goes w (on_place r s) p (with_number None (on_place r (with_numbers kinds s)))

  pub owned_here : (r : ℕ) (s : Typing) → 2 * w.images ≤ 2147483647 → Owned s r 0 (doing (selector (a.own_image r) ∷ []))
  owned_here r s few = record { kinds = []; long = refl; goes = one_act w (on_place r s) (selector (a.own_image r)) (with_number None (on_place r s)) (acts_own_image w.coarrays w.images few r (on_place r s)) }

  pub owned_there : (c r k m : ℕ) (s : Typing) → 2 * w.images ≤ 2147483647 → {p q v : Parts Act} → Leaves w (on_place r s) k p → ((us : List (Option Kind)) → Goes w (with_numbers us (on_place r s)) q (with_number None (with_numbers us (on_place r s))))
      → ((us : List (Option Kind)) → Leaves w (with_number None (with_numbers us (on_place r s))) m v)
      → Owned s r m (p ▸ q ▸ v ▸ bringing m (place_size r + (k + 1)) ▸ doing (selector (a.owner c r k) ∷ []))
  owned_there c r k m s few f g h =
      let us = f.kinds in
      let x = h us in
      let qs = x.kinds in
      let upper = None ∷ (us ++ place r) in
      let long : length upper ≡ place_size r + (k + 1) = (let y = length-append us (place r) in let z = unknown_long (place_size r) in let u = f.long in omega arith) in
      let brought = subst (λ z. Goes w (with_numbers qs (record s { numbers = None ∷ z })) (bringing m (place_size r + (k + 1))) (record s { numbers = None ∷ (us ++ (place r ++ (qs ++ s.numbers))) })) (append_assoc us (place r) s.numbers)
      (subst (λ z. Goes w (with_numbers qs (with_numbers upper s)) (bringing m (place_size r + (k + 1))) (record s { numbers = None ∷ z })) (append_assoc us (place r) (qs ++ s.numbers)) (goes_bringing w s qs upper m (place_size r + (k + 1)) x.long long)) in
      let y = on_place r (with_numbers qs s) in
      record {
        kinds = qs;
        long = x.long;
        goes = f.goes ⨾ g us ⨾ x.goes ⨾ brought ⨾ one_act w (with_number None (with_numbers us y)) (selector (a.owner c r k)) (with_number None y) (acts_owner w.coarrays w.images few None us c r k f.long y);
      }

  goes_own : (b : Bool) (c : ℕ) (s : Typing) → Goes w s (cond b (doing (bounded (a.needs_own c) ∷ [])) end_parts) s
  goes_own true c s = one_act w s (bounded (a.needs_own c)) s (acts_needs_own w.coarrays w.images c s)
  goes_own false c s = idle

  pub goes_needing_own : (c : ℕ) (b : Bool) (sel : t.Selector) (s : Typing) → Goes w s (view.needing_own c b sel) s
  goes_needing_own c b sel s = goes_own (not b && not (view.has_selector sel)) c s

  -- a read, from the owner and the place to the values and the status
  pub goes_reading : (c r : ℕ) (k : Kind) → memory.holds (is_of k) (slice_get w.coarrays c) ≡ true → (s : Typing) → Goes w (with_number None (on_place r s)) (view.reading c r) (with_number (Some kinds.I4) (with_array (Some k) s))
  goes_reading c zero k h s =
      one_act w (with_number None (on_place 0 s)) (ask (a.read c 0)) (with_number (Some kinds.I4) (with_array (Some k) s)) (acts_read w.coarrays w.images None (place 0) c 0 k h (unknown_long (place_size 0)) s)
  goes_reading c (suc r) k h s =
      let x = with_number None (on_place (suc r) s) in
      let y = with_number (Some kinds.I4) (with_array (Some k) s) in
      one_act w x (bounded (a.some_cells 1 (suc r))) (with_number (Some kinds.L4) x) (acts_some_cells w.coarrays w.images 1 (suc r) x)
      ⨾ fork w (Some kinds.L4) x y
      (one_act w x (ask (a.read c (suc r))) y (acts_read w.coarrays w.images None (place (suc r)) c (suc r) k h (unknown_long (place_size (suc r))) s))
      (one_act w x (stack (a.nothing_read (suc r))) y (acts_nothing_read w.coarrays w.images None (Some k) (place (suc r)) (suc r) (unknown_long (place_size (suc r))) s)) idle

  goes_as_value : (k : Option Kind) (r : ℕ) (s : Typing) → Goes w (with_array k s) (view.as_value r) (result k r s)
  goes_as_value k zero s = one_act w (with_array k s) (stack a.only_element) (with_number k s) (acts_only w.coarrays w.images k s)
  goes_as_value k (suc r) s = one_act w (with_array k s) (stack a.take_cells) (with_array k s) (acts_take_cells w.coarrays w.images (with_array k s))

  pub coindexed_bounds : (c o : ℕ) (x : t.Subscript) (ss : t.Subscripts) (r : ℕ) → IsSection (t.more_subscripts x ss) r → (s : Typing) {p q v : Parts Act} → Subscripted x ss s p q → Owned s r o v
      → Goes w s (p ▸ q ▸ doing (bounded (a.co_section c (view.form_of (t.more_subscripts x ss) r)) ∷ []) ▸ v ▸ dropping 1 ▸ doing (bounded (a.section_bounds r) ∷ []) ▸ dropping o) (with_array None s)
  coindexed_bounds c o x ss r h s f y =
      let z = with_numbers y.kinds s in
      f.first ⨾ f.second ⨾ (goes_co_section c (t.more_subscripts x ss) r h f.kinds f.long s ⨾ y.goes ⨾ goes_dropping w (on_place r z) (None ∷ []) 1 refl ⨾ goes_section_bounds r z ⨾ goes_dropping w (with_array None s) y.kinds o y.long)

  -- a reference of a coarray, from its subscripts on
  pub goes_reference : (c : ℕ) (ss : t.Subscripts) (r : ℕ) (sel : t.Selector) (k : Kind) → IsSection ss r → memory.holds (is_of k) (slice_get w.coarrays c) ≡ true → (s : Typing) → {p q v : Parts Act}
      → Leaves w s (subscripts_size ss) p → (x : Owned s r (view.optional_size (view.stat_of sel)) q)
      → ((z : Typing) → z ≡ with_array (Some k) (with_numbers x.kinds s) → Goes w (with_number (Some kinds.I4) z) v z)
      → Goes w s (p ▸ doing (bounded (a.co_section c (view.form_of ss r)) ∷ []) ▸ q ▸ view.needing_own c (view.is_scalar ss r) sel ▸ view.reading c r ▸ doing (stack a.accessed ∷ []) ▸ v ▸ dropping (view.optional_size (view.stat_of sel)) ▸ view.as_value r) (result (Some k) r s)
  goes_reference c ss r sel k h held s f x stored =
      let m = view.optional_size (view.stat_of sel) in
      let y = with_numbers x.kinds s in
      let z = with_array (Some k) y in
      f.goes ⨾ goes_co_section c ss r h f.kinds f.long s ⨾ x.goes ⨾ goes_needing_own c (view.is_scalar ss r) sel (with_number None (on_place r y)) ⨾ goes_reading c r k held y
      ⨾ one_act w (with_number (Some kinds.I4) z) (stack a.accessed) (with_number (Some kinds.I4) z) (acts_accessed w.coarrays w.images (with_number (Some kinds.I4) z))
      ⨾ stored z refl ⨾ goes_dropping w (with_array (Some k) s) x.kinds m x.long ⨾ goes_as_value (Some k) r s
