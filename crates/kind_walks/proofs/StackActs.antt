-- Acts that move numbers and arrays, and operators: what is known behind each.
use Rattle.std.proofs.Common.{◌≡◌, ◌∙◌, ℕ, ◌+◌, true, ◌&&◌, ◌||◌, not, List, [], ◌∷◌, ◌++◌, length, drop, refl, sym, subst}
use Rattle.std.specs.Prelude.{ℤ, pos, ◌+ℤ◌, ◌-ℤ◌, ◌*ℤ◌, int_lt, int_le, int_rem, nat_le, Option, Some}
use Rattle.std.specs.List.{list_all}
use Rattle.std.specs.Ordering.{int_eq}
use Rattle.std.proofs.lemmas.Bool.{and_parts}
use Rattle.trace_theory.specs.Entries.{Each}
use Rattle.caf_base.specs.declared.value.Kind.{Kind}
use Rattle.caf_base.specs.declared.value.Kind.TheVariants as kinds
use Rattle.caf_base.specs.Arithmetic.{fits_kind, truth, is_true, magnitude, with_sign_of, lesser, greater_of}
use Rattle.walk_theory.specs.Language.{goes_to, stuck}
use Rattle.walk_theory.specs.Terms.{Found, found, at_fault}
use Rattle.object_rules.specs.Cells.{Declared}
use Rattle.image_acts.specs.Statuses.{most_cells, most_elements, absent, overflowed}
use Rattle.image_acts.specs.Faults.{room, overflow, not_allocated}
use Rattle.image_acts.specs.Acts as a
use Rattle.image_acts.specs.Acts.{Act, constant, stack, operator}
use Rattle.image_acts.specs.Core.{Core, Array, with_values, pushed, row, elements_in}
use Rattle.image_acts.specs.Places.{place_size, place_in, extents_of}
use Rattle.image_acts.specs.Taking.{Acted, found_in, given, unless, taken, put_down, taking_one, seeing_array, giving, using}
use Rattle.image_acts.specs.Operate.Operators.{in_kind, divided, quotient, raised, operator_effect}
use Rattle.image_acts.specs.Operate.Stack.{stack_effect, behind}
use Rattle.image_acts.specs.Meaning.{settled, effect_of}
use Rattle.kind_walks.specs.Kinds.{Widens, Typing, IsSo, IsOf, IsArrayOf, with_number, with_array}
use Rattle.kind_walks.specs.Suiting.{Joined, EffectSuits}
use Rattle.kind_walks.proofs.Numbers.{FindsOf, kept_in, divided_finds, quotient_finds, raised_finds, rest_fits, signed_fits, lesser_fits, greater_fits}
use Rattle.kind_walks.proofs.Effects.{with_numbers, put_twice, push, push_array, push_many, so, so_as, settles, one, top, many, takes}
use Rattle.kind_walks.proofs.Frames.{widened, all_widened}

pub each_on : (P : ℤ → Type 0) (xs ys : List ℤ) → Each P xs → Each P ys → Each P (xs ++ ys)
each_on P [] ys h g = g
each_on P (x ∷ xs) ys h g = (h.0, each_on P xs ys h.1 g)

drop_all : (xs ys : List ℤ) → drop (length xs) (xs ++ ys) ≡ ys
drop_all [] ys = refl
drop_all (x ∷ xs) ys = drop_all xs ys

pub drop_some : (m : ℕ) (xs ys : List ℤ) → length xs ≡ m → drop m (xs ++ ys) ≡ ys
drop_some m xs ys e = subst (λ k. drop k (xs ++ ys) ≡ ys) e (drop_all xs ys)

module _ (coarrays : List Declared) (n : ℕ) where
  -- an act that leads from what is known to what is known behind it
  abbrev pub Acts : Typing → Act → Typing → Type 0
  Acts s x t = (j : Joined) (c : Core) → IsSo n s c → EffectSuits coarrays (effect_of x c) (λ i d. IsSo n t d) j

  abbrev pub To : Typing → Joined → Acted → Type 0
  To t j e = EffectSuits coarrays e (λ i d. IsSo n t d) j

  pub acts_constant : (z : ℤ) (k : Option Kind) → IsOf k z → (s : Typing) → Acts s (constant z) (with_number k s)
  acts_constant z k g s j c h = push n k s c z g h

  -- ---- operators
  made : (x : Act) (o : Found ℤ) (k : Option Kind) (s : Typing) (d : Core) (j : Joined) → FindsOf k o → IsSo n s d → To (with_number k s) j (settled x (found_in o (λ z. giving z d)))
  made x (found z) k s d j g h = push n k s d z g h
  made x (at_fault m) k s d j g h = tt

  of_one : (x : Act) (f : ℤ → Found ℤ) → ((v : ℤ) (d : Core) → effect_of x (pushed v d) ≡ settled x (found_in (f v) (λ z. giving z d)))
      → (i k : Option Kind) → ((v : ℤ) → IsOf i v → FindsOf k (f v)) → (s : Typing) → Acts (with_number i s) x (with_number k s)
  of_one x f same i k gives s j c h =
      one n coarrays (with_number k s) j i s c h (effect_of x) (λ v d hv hd. subst (To (with_number k s) j) (sym (same v d)) (made x (f v) k s d j (gives v hv) hd))

  of_two : (x : Act) (f : ℤ → ℤ → Found ℤ) → ((v w : ℤ) (d : Core) → effect_of x (pushed w (pushed v d)) ≡ settled x (found_in (f v w) (λ z. giving z d)))
      → (i l k : Option Kind) → ((v w : ℤ) → IsOf i v → IsOf l w → FindsOf k (f v w)) → (s : Typing) → Acts (with_number l (with_number i s)) x (with_number k s)
  of_two x f same i l k gives s j c h =
      one n coarrays (with_number k s) j l (with_number i s) c h (effect_of x) (λ w e hw he.
      one n coarrays (with_number k s) j i s e he (λ b. effect_of x (pushed w b)) (λ v d hv hd.
      subst (To (with_number k s) j) (sym (same v w d)) (made x (f v w) k s d j (gives v w hv hw) hd)))

  module _ (i l : Option Kind) (s : Typing) where
    abbrev Two : a.OperatorAct → Option Kind → Type 0
    Two o k = Acts (with_number l (with_number i s)) (operator o) (with_number k s)

    abbrev pub Truths : a.OperatorAct → Type 0
    Truths o = Two o (Some kinds.L4)

    pub acts_add : (k : Kind) → Two (a.add k) (Some k)
    acts_add k = of_two (operator (a.add k)) (λ v w. in_kind k (v +ℤ w)) (λ v w d. refl) i l (Some k) (λ v w g h. kept_in k (v +ℤ w)) s

    pub acts_subtract : (k : Kind) → Two (a.subtract k) (Some k)
    acts_subtract k = of_two (operator (a.subtract k)) (λ v w. in_kind k (v -ℤ w)) (λ v w d. refl) i l (Some k) (λ v w g h. kept_in k (v -ℤ w)) s

    pub acts_multiply : (k : Kind) → Two (a.multiply k) (Some k)
    acts_multiply k = of_two (operator (a.multiply k)) (λ v w. in_kind k (v *ℤ w)) (λ v w d. refl) i l (Some k) (λ v w g h. kept_in k (v *ℤ w)) s

    pub acts_divide : (k : Kind) → Two (a.divide k) (Some k)
    acts_divide k = of_two (operator (a.divide k)) (quotient k) (λ v w d. refl) i l (Some k) (λ v w g h. quotient_finds k v w) s

    pub acts_power : (k : Kind) → Two (a.power k) (Some k)
    acts_power k = of_two (operator (a.power k)) (raised k) (λ v w d. refl) i l (Some k) (λ v w g h. raised_finds k v w) s

    pub acts_equal : Truths a.equal
    acts_equal = of_two (operator a.equal) (λ v w. found (truth (int_eq v w))) (λ v w d. refl) i l (Some kinds.L4) (λ v w g h. refl) s

    pub acts_differ : Truths a.differ
    acts_differ = of_two (operator a.differ) (λ v w. found (truth (not (int_eq v w)))) (λ v w d. refl) i l (Some kinds.L4) (λ v w g h. refl) s

    pub acts_less : Truths a.less
    acts_less = of_two (operator a.less) (λ v w. found (truth (int_lt v w))) (λ v w d. refl) i l (Some kinds.L4) (λ v w g h. refl) s

    pub acts_at_most : Truths a.at_most
    acts_at_most = of_two (operator a.at_most) (λ v w. found (truth (int_le v w))) (λ v w d. refl) i l (Some kinds.L4) (λ v w g h. refl) s

    pub acts_greater : Truths a.greater
    acts_greater = of_two (operator a.greater) (λ v w. found (truth (int_lt w v))) (λ v w d. refl) i l (Some kinds.L4) (λ v w g h. refl) s

    pub acts_at_least : Truths a.at_least
    acts_at_least = of_two (operator a.at_least) (λ v w. found (truth (int_le w v))) (λ v w d. refl) i l (Some kinds.L4) (λ v w g h. refl) s

    pub acts_both : Truths a.both
    acts_both = of_two (operator a.both) (λ v w. found (truth (is_true v && is_true w))) (λ v w d. refl) i l (Some kinds.L4) (λ v w g h. refl) s

    pub acts_any : Truths a.any_of
    acts_any = of_two (operator a.any_of) (λ v w. found (truth (is_true v || is_true w))) (λ v w d. refl) i l (Some kinds.L4) (λ v w g h. refl) s

    pub acts_negate : (k : Kind) → Acts (with_number i s) (operator (a.negate k)) (with_number (Some k) s)
    acts_negate k = of_one (operator (a.negate k)) (λ v. in_kind k (pos 0 -ℤ v)) (λ v d. refl) i (Some k) (λ v g. kept_in k (pos 0 -ℤ v)) s

    pub acts_absolute : (k : Kind) → Acts (with_number i s) (operator (a.absolute k)) (with_number (Some k) s)
    acts_absolute k = of_one (operator (a.absolute k)) (λ v. in_kind k (magnitude v)) (λ v d. refl) i (Some k) (λ v g. kept_in k (magnitude v)) s

    pub acts_negation : Acts (with_number i s) (operator a.negation) (with_number (Some kinds.L4) s)
    acts_negation = of_one (operator a.negation) (λ v. found (truth (not (is_true v)))) (λ v d. refl) i (Some kinds.L4) (λ v g. refl) s

    -- operands that are of the kind of the result, or wider ones
    module _ (k : Kind) (x : Widens i (Some k)) (y : Widens l (Some k)) where
      pub acts_remainder : Two a.remainder (Some k)
      acts_remainder =
          of_two (operator a.remainder) (λ v w. divided w (found (int_rem v w))) (λ v w d. refl) i l (Some k) (λ v w g h. divided_finds (Some k) w (found (int_rem v w)) (rest_fits k v w (widened i (Some k) x v g))) s

      pub acts_modulo : Two a.modulo (Some k)
      acts_modulo =
          of_two (operator a.modulo) (λ v w. divided w (found (with_sign_of w (int_rem v w)))) (λ v w d. refl) i l (Some k)
          (λ v w g h. divided_finds (Some k) w (found (with_sign_of w (int_rem v w))) (signed_fits k (int_rem v w) w (rest_fits k v w (widened i (Some k) x v g)) (widened l (Some k) y w h))) s

      pub acts_least : Two a.least (Some k)
      acts_least = of_two (operator a.least) (λ v w. found (lesser v w)) (λ v w d. refl) i l (Some k) (λ v w g h. lesser_fits k v w (widened i (Some k) x v g) (widened l (Some k) y w h)) s

      pub acts_greatest : Two a.greatest (Some k)
      acts_greatest = of_two (operator a.greatest) (λ v w. found (greater_of v w)) (λ v w d. refl) i l (Some k) (λ v w g h. greater_fits k v w (widened i (Some k) x v g) (widened l (Some k) y w h)) s

  -- ---- tests of a kind
  all_fit : (k : Kind) (vs : List ℤ) → list_all (fits_kind k) vs ≡ true → Each (IsOf (Some k)) vs
  all_fit k [] h = tt
  all_fit k (v ∷ vs) h = (let p = and_parts (fits_kind k v) (list_all (fits_kind k) vs) h in (p.0, all_fit k vs p.1))

  pub acts_fits : (k : Kind) (i : Option Kind) (s : Typing) → Acts (with_number i s) (operator (a.fits k 0)) (with_number (Some k) s)
  acts_fits k i s j c h =
      one n coarrays (with_number (Some k) s) j i s c h (effect_of (operator (a.fits k 0))) (λ v d hv hd.
      settles n coarrays (with_number (Some k) s) j (operator (a.fits k 0)) (operator_effect (a.fits k 0) (pushed v d))
      (so_as n coarrays (with_number (Some k) s) j overflow (list_all (fits_kind k) (v ∷ [])) (goes_to (pushed v d)) (λ e. push n (Some k) s d v (all_fit k (v ∷ []) e).0 hd)))

  -- the number beneath others
  pub acts_fits_beneath : (k : Kind) (i : Option Kind) (ks : List (Option Kind)) (depth : ℕ) → length ks ≡ depth → (s : Typing)
      → Acts (with_numbers ks (with_number i s)) (operator (a.fits k depth)) (with_numbers ks (with_number (Some k) s))
  acts_fits_beneath k i ks depth e s j c h =
      let t = with_numbers ks (with_number (Some k) s) in
      many n coarrays t j ks (with_number i s) c h (effect_of (operator (a.fits k depth))) (λ xs b l g hb.
      one n coarrays t j i s b hb (λ b. effect_of (operator (a.fits k depth)) (with_values b (xs ++ b.values))) (λ v d hv hd.
      settles n coarrays t j (operator (a.fits k depth)) (operator_effect (a.fits k depth) (with_values d (xs ++ (v ∷ d.values))))
      (subst (λ z. To t j (given (taken 1 z []) (λ p. unless overflow (list_all (fits_kind k) p.0) (goes_to (with_values d (xs ++ (v ∷ d.values))))))) (sym (drop_some depth xs (v ∷ d.values) (l ∙ e)))
      (so_as n coarrays t j overflow (list_all (fits_kind k) (v ∷ [])) (goes_to (with_values d (xs ++ (v ∷ d.values))))
      (λ f. push_many n ks (with_number (Some k) s) (pushed v d) xs g (push n (Some k) s d v (all_fit k (v ∷ []) f).0 hd))))))

  pub acts_fits_each : (k : Kind) (i : Option Kind) (s : Typing) → Acts (with_array i s) (operator (a.fits_each k)) (with_array (Some k) s)
  acts_fits_each k i s j c h =
      one_array (effect_of (operator (a.fits_each k))) (λ x d hx hd.
      settles n coarrays (with_array (Some k) s) j (operator (a.fits_each k)) (operator_effect (a.fits_each k) (record d { arrays = x ∷ d.arrays }))
      (so_as n coarrays (with_array (Some k) s) j overflow (list_all (fits_kind k) x.elements) (goes_to (record d { arrays = x ∷ d.arrays })) (λ e. push_array n (Some k) s d x (all_fit k x.elements e) hd)))
    where
      one_array : (g : Core → Acted) → ((x : Array) (d : Core) → IsArrayOf i x → IsSo n s d → To (with_array (Some k) s) j (g (record d { arrays = x ∷ d.arrays }))) → To (with_array (Some k) s) j (g c)
      one_array g f = top n coarrays (with_array (Some k) s) j i s c h g f

  -- ---- numbers that are moved
  pub acts_drop : (ks : List (Option Kind)) (m : ℕ) → length ks ≡ m → (s : Typing) → Acts (with_numbers ks s) (stack (a.drop m)) s
  acts_drop ks m e s j c h =
      many n coarrays s j ks s c h (effect_of (stack (a.drop m))) (λ xs d l g hd.
      settles n coarrays s j (stack (a.drop m)) (stack_effect (a.drop m) (with_values d (xs ++ d.values)))
      (takes n coarrays s j m xs d.values (λ p. goes_to (with_values d p.1)) (l ∙ e) hd))

  pub acts_copy : (ks ls : List (Option Kind)) (depth m : ℕ) → length ks ≡ depth → length ls ≡ m → (s : Typing)
      → Acts (with_numbers ks (with_numbers ls s)) (stack (a.copy depth m)) (with_numbers ls (with_numbers ks (with_numbers ls s)))
  acts_copy ks ls depth m e f s j c h =
      let t = with_numbers ls (with_numbers ks (with_numbers ls s)) in
      many n coarrays t j ks (with_numbers ls s) c h (effect_of (stack (a.copy depth m))) (λ xs b l g hb.
      many n coarrays t j ls s b hb (λ b. effect_of (stack (a.copy depth m)) (with_values b (xs ++ b.values))) (λ ys d k r hd.
      let ws = xs ++ (ys ++ d.values) in
      settles n coarrays t j (stack (a.copy depth m)) (stack_effect (a.copy depth m) (with_values d ws))
      (subst (λ z. To t j (given (taken m z []) (λ p. goes_to (with_values d (put_down p.0 ws))))) (sym (drop_some depth xs (ys ++ d.values) (l ∙ e)))
      (takes n coarrays t j m ys d.values (λ p. goes_to (with_values d (put_down p.0 ws))) (k ∙ f)
      (subst (λ z. IsSo n t (with_values d z)) (sym (put_twice ys [] ws))
      (push_many n ls (with_numbers ks (with_numbers ls s)) (with_values d ws) ys r (push_many n ks (with_numbers ls s) (with_values d (ys ++ d.values)) xs g (push_many n ls s d ys r hd)))))))
      )

  pub acts_bring : (ks ls : List (Option Kind)) (depth m : ℕ) → length ks ≡ depth → length ls ≡ m → (s : Typing)
      → Acts (with_numbers ks (with_numbers ls s)) (stack (a.bring depth m)) (with_numbers ls (with_numbers ks s))
  acts_bring ks ls depth m e f s j c h =
      let t = with_numbers ls (with_numbers ks s) in
      many n coarrays t j ks (with_numbers ls s) c h (effect_of (stack (a.bring depth m))) (λ xs b l g hb.
      many n coarrays t j ls s b hb (λ b. effect_of (stack (a.bring depth m)) (with_values b (xs ++ b.values))) (λ ys d k r hd.
      settles n coarrays t j (stack (a.bring depth m)) (stack_effect (a.bring depth m) (with_values d (xs ++ (ys ++ d.values))))
      (takes n coarrays t j depth xs (ys ++ d.values) (λ p. given (taken m p.1 []) (λ q. goes_to (with_values d (put_down q.0 (put_down p.0 q.1))))) (l ∙ e)
      (takes n coarrays t j m ys d.values (λ q. goes_to (with_values d (put_down q.0 (put_down (put_down xs []) q.1)))) (k ∙ f)
      (subst (λ z. IsSo n t (with_values d z)) (sym (put_twice ys [] (put_down (put_down xs []) d.values)))
      (subst (λ z. IsSo n t (with_values d (ys ++ z))) (sym (put_twice xs [] d.values))
      (push_many n ls (with_numbers ks s) (with_values d (xs ++ d.values)) ys r (push_many n ks s d xs g hd))))))))

  -- ---- arrays
  pub acts_empty : (k : Option Kind) (s : Typing) → Acts s (stack a.empty_array) (with_array k s)
  acts_empty k s j c h = push_array n k s c (row [] 0) tt h

  pub acts_append : (i k : Option Kind) → Widens i k → (s : Typing) → Acts (with_number i (with_array k s)) (stack a.append) (with_array k s)
  acts_append i k w s j c h =
      let t = with_array k s in
      one n coarrays t j i (with_array k s) c h (effect_of (stack a.append)) (λ v b hv hb.
      top n coarrays t j k s b hb (λ b. effect_of (stack a.append) (pushed v b)) (λ x d hx hd.
      settles n coarrays t j (stack a.append) (stack_effect a.append (pushed v (record d { arrays = x ∷ d.arrays })))
      (so n coarrays t j room (nat_le (elements_in (x ∷ d.arrays) + 1) most_elements) (goes_to (record d { arrays = behind x (v ∷ []) ∷ d.arrays }))
      (push_array n k s d (behind x (v ∷ [])) (each_on (IsOf k) x.elements (v ∷ []) hx (widened i k w v hv, tt)) hd))))

  pub acts_append_array : (i k : Option Kind) → Widens i k → (s : Typing) → Acts (with_array i (with_array k s)) (stack a.append_array) (with_array k s)
  acts_append_array i k w s j c h =
      let t = with_array k s in
      top n coarrays t j i (with_array k s) c h (effect_of (stack a.append_array)) (λ y b hy hb.
      top n coarrays t j k s b hb (λ b. effect_of (stack a.append_array) (record b { arrays = y ∷ b.arrays })) (λ x d hx hd.
      push_array n k s d (behind x y.elements) (each_on (IsOf k) x.elements y.elements hx (all_widened i k w y.elements hy)) hd))

  first_of : (k : Option Kind) (s : Typing) (j : Joined) (d : Core) → IsSo n s d → (vs : List ℤ) → Each (IsOf k) vs → To (with_number k s) j (settled (stack a.only_element) (elim vs [ [] ↦ stuck | v ∷ more ↦ giving v d ]))
  first_of k s j d h [] g = tt
  first_of k s j d h (v ∷ vs) g = push n k s d v g.0 h

  pub acts_only : (k : Option Kind) (s : Typing) → Acts (with_array k s) (stack a.only_element) (with_number k s)
  acts_only k s j c h = top n coarrays (with_number k s) j k s c h (effect_of (stack a.only_element)) (λ x d hx hd. first_of k s j d hd x.elements hx)

  pub acts_drop_array : (k : Option Kind) (s : Typing) → Acts (with_array k s) (stack a.drop_array) s
  acts_drop_array k s j c h = top n coarrays s j k s c h (effect_of (stack a.drop_array)) (λ x d hx hd. hd)

  -- ---- evaluation cells
  same_so : (s : Typing) (c : Core) (m : ℕ) → IsSo n s c → IsSo n s (record c { used = m })
  same_so s c m h = record { numbers = h.numbers; arrays = h.arrays; running = h.running; callers = h.callers; images = h.images; known = h.known; formed = h.formed }

  pub seen_array : (t : Typing) (j : Joined) (c : Core) (f : Array → Acted) → ((x : Array) → To t j (f x)) → To t j (seeing_array c f)
  seen_array t j c f h = by_arrays c.arrays
    where
      by_arrays : (xs : List Array) → To t j (elim xs [ [] ↦ stuck | y ∷ ys ↦ f y ])
      by_arrays [] = tt
      by_arrays (x ∷ xs) = h x

  pub taken_one : (t : Typing) (j : Joined) (c : Core) (f : ℤ → Core → Acted) → ((v : ℤ) (d : Core) → To t j (f v d)) → To t j (taking_one c f)
  taken_one t j c f h = by_values c.values
    where
      by_values : (vs : List ℤ) → To t j (elim vs [ [] ↦ stuck | w ∷ ws ↦ f w (with_values c ws) ])
      by_values [] = tt
      by_values (v ∷ vs) = h v (with_values c vs)

  pub acts_take_cell : (s : Typing) → Acts s (stack a.take_cell) s
  acts_take_cell s j c h =
      settles n coarrays s j (stack a.take_cell) (stack_effect a.take_cell c) (so n coarrays s j room (nat_le (c.used + 1) most_cells) (goes_to (record c { used = c.used + 1 })) (same_so s c (c.used + 1) h))

  pub acts_take_cells : (s : Typing) → Acts s (stack a.take_cells) s
  acts_take_cells s j c h =
      settles n coarrays s j (stack a.take_cells) (stack_effect a.take_cells c)
      (seen_array s j c (λ x. using (length x.elements) c goes_to)
      (λ x. so n coarrays s j room (nat_le (c.used + length x.elements) most_cells) (goes_to (record c { used = c.used + length x.elements })) (same_so s c (c.used + length x.elements) h)))

  pub acts_release : (s : Typing) → Acts s (stack a.release) s
  acts_release s j c h = same_so s c c.frame.base h

  pub acts_accessed : (s : Typing) → Acts s (stack a.accessed) s
  acts_accessed s j c h =
      settles n coarrays s j (stack a.accessed) (stack_effect a.accessed c)
      (taken_one s j c (λ v d. unless not_allocated (not (int_eq v absent)) (unless overflow (not (int_eq v overflowed)) (goes_to c)))
      (λ v d. so n coarrays s j not_allocated (not (int_eq v absent)) (unless overflow (not (int_eq v overflowed)) (goes_to c)) (so n coarrays s j overflow (not (int_eq v overflowed)) (goes_to c) h)))

  -- the owner, and beneath it the place
  pub acts_nothing_read : (i k : Option Kind) (ks : List (Option Kind)) (rank : ℕ) → length ks ≡ place_size rank → (s : Typing)
      → Acts (with_number i (with_numbers ks s)) (stack (a.nothing_read rank)) (with_number (Some kinds.I4) (with_array k s))
  acts_nothing_read i k ks rank e s j c h =
      let t = with_number (Some kinds.I4) (with_array k s) in
      one n coarrays t j i (with_numbers ks s) c h (effect_of (stack (a.nothing_read rank))) (λ v b hv hb.
      many n coarrays t j ks s b hb (λ b. effect_of (stack (a.nothing_read rank)) (pushed v b)) (λ xs d l g hd.
      let none : List ℤ → Array = λ ns. record { extents = extents_of (place_in ns); elements = [] } in
      settles n coarrays t j (stack (a.nothing_read rank)) (stack_effect (a.nothing_read rank) (pushed v (with_values d (xs ++ d.values))))
      (takes n coarrays t j (place_size rank) xs d.values (λ p. goes_to (pushed (pos 0) (record (with_values d p.1) { arrays = none p.0 ∷ d.arrays }))) (l ∙ e)
      (push n (Some kinds.I4) (with_array k s) (record d { arrays = none (put_down xs []) ∷ d.arrays }) (pos 0) refl (push_array n k s d (none (put_down xs [])) tt hd)))))
