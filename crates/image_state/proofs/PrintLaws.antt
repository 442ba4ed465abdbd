-- Texts that were begun, in piles of items; and what printing comes to.
use Rattle.std.proofs.Common.{◌≡◌, ℕ, suc, ◌+◌, ◌<◌, ◌≤◌, ℤ, Bool, true, false, cond, List, [], ◌∷◌, ◌++◌, length, get_or, take, drop, refl, ap, sym, ◌∙◌, subst, arith}
use Rattle.std.specs.Prelude.{Option, Some, None, map, reverse, nat_le, nat_eq}
use Rattle.std.proofs.lemmas.Bool.{le-leb, lt-leb}
use Rattle.std.proofs.lemmas.Bool.Decides.{nat_tests}
use Rattle.std.proofs.lemmas.List.{length-map, length-append, length-reverse, map_push, map-append, reverse-reverse, reverse-append}
use Rattle.std.proofs.Math.Seq.{take-suc}
use Rattle.std.proofs.lemmas.List.Sums.{sum_by-cons}
use Rattle.walk_theory.specs.Language.{goes_to, stuck}
use Rattle.caf_base.specs.Arithmetic.{is_true}
use Rattle.image_acts.specs.Acts as a
use Rattle.image_acts.specs.Core.{Core, Array, Printing, with_values}
use Rattle.caf_base.specs.declared.value.Kind.{Kind}
use Rattle.caf_base.specs.declared.value.Kind.TheVariants as kinds
use Rattle.image_acts.specs.Core as core
use Rattle.image_acts.specs.Faults.{room}
use Rattle.image_acts.specs.Statuses.{most_portions}
use Rattle.image_acts.specs.Taking.{Acted, unless, using}
use Rattle.image_acts.specs.Operate.Printing.{open_portions, renewed, printed, with_values_behind, with_literal_behind, print_effect}
use Rattle.image_acts.specs.Operate.Printing.{item_of as core_item}
use Rattle.array_values.specs.Values.{elements_on_top}
use Rattle.image_state.specs.Arrays.{with_arrays}
use Rattle.image_stores.specs.Piles.{Pile, Piled, pile, items_in, heaped, newest, head_of, last_of, with_last}
use Rattle.std.specs.Option.{option_map}
use Rattle.print_text.specs.Items as items
use Rattle.print_text.specs.Items.{text_at, texts_back, portion_of, portions_of}
use Rattle.print_text.specs.declared.item.Portion.{Portion}
use Rattle.print_text.specs.declared.item.Portion.TheVariants.{Integer, Logical, Literals}
use Rattle.image_state.specs.Kept.{Kept, texts_of, printing_of, printings_in}
use Rattle.image_state.specs.Texts.{with_texts, renewed_in, with_portion, with_literal, with_items, innermost, value_printed, element_portion, heaped_all, first_of, with_next, IsPut, HasNoRoom}
use Rattle.image_state.specs.declared.state.Acting.{Acting}
use Rattle.image_state.specs.declared.state.Acting.TheVariants as actings
use Rattle.image_state.specs.Acting.{with_core, Acts}
use Rattle.image_state.proofs.Taking.{one_taken}

pub texts_long : (texts : List (List ℕ)) (ps : List (Pile (Option ℕ) Portion)) → length (printings_in texts ps) ≡ length ps
texts_long texts [] = refl
texts_long texts (p ∷ ps) = ap suc (texts_long texts ps)

pub items_open : (texts : List (List ℕ)) (ps : List (Pile (Option ℕ) Portion)) → open_portions (printings_in texts ps) ≡ items_in ps
items_open texts [] = refl
items_open texts (p ∷ ps) =
    let e = sum_by-cons (λ (q : Printing). length q.portions) (printing_of texts p) (printings_in texts ps) in
    let l = length-map p.items (portion_of texts) in
    let r = items_open texts ps in
    omega arith

pub portion_added : (texts : List (List ℕ)) (x : Portion) (ps : List (Pile (Option ℕ) Portion)) → printings_in texts (heaped x ps) ≡ with_portion (portion_of texts x) (printings_in texts ps)
portion_added texts x [] = refl
portion_added texts x (p ∷ ps) = refl

pub text_ended : (texts : List (List ℕ)) (ps : List (Pile (Option ℕ) Portion)) → printings_in texts (drop 1 ps) ≡ drop 1 (printings_in texts ps)
text_ended texts [] = refl
text_ended texts (p ∷ ps) = refl

-- many items, one after another
heaped_on : {H T : Type 0} (x : T) (xs : List T) (ps : List (Pile H T)) → heaped x (heaped_all xs ps) ≡ heaped_all (xs ++ x ∷ []) ps
heaped_on x xs [] = refl
heaped_on x xs (p ∷ ps) = ap (λ ys. pile p.head (ys ++ p.items) ∷ ps) (sym (reverse-append xs (x ∷ [])))

pub heaped_more : (k : Kind) (vs : List ℤ) (i : ℕ) (d : ℤ) (ps : List (Pile (Option ℕ) Portion)) → i < length vs
    → heaped (element_portion k (get_or vs i d)) (heaped_all (map (element_portion k) (take i vs)) ps) ≡ heaped_all (map (element_portion k) (take (i + 1) vs)) ps
heaped_more k vs i d ps h =
    let e : suc i ≡ i + 1 = omega arith in
    heaped_on (element_portion k (get_or vs i d)) (map (element_portion k) (take i vs)) ps
    ∙ ap (λ xs. heaped_all xs ps) (sym (map_push (element_portion k) (take i vs) (get_or vs i d)) ∙ ap (map (element_portion k)) (sym (take-suc vs i d h)) ∙ ap (λ j. map (element_portion k) (take j vs)) e)

pub heaped_long : {H T : Type 0} (xs : List T) (ps : List (Pile H T)) → length (heaped_all xs ps) ≡ length ps
heaped_long xs [] = refl
heaped_long xs (p ∷ ps) = refl

pub heaped_many : {H T : Type 0} (xs : List T) (ps : List (Pile H T)) → 0 < length ps → items_in (heaped_all xs ps) ≡ length xs + items_in ps
heaped_many xs [] h = absurd (omega arith)
heaped_many xs (p ∷ ps) h = (let l = length-append (reverse xs) p.items in let r = length-reverse xs in omega arith)

-- the innermost text with its items in the order in which they are printed
map-reverse : {X Y : Type 0} (f : X → Y) (xs : List X) → map f (reverse xs) ≡ reverse (map f xs)
map-reverse f [] = refl
map-reverse f (x ∷ xs) = ap (map f) (reverse-append (x ∷ []) xs) ∙ map_push f (reverse xs) x ∙ ap (λ ys. ys ++ f x ∷ []) (map-reverse f xs) ∙ sym (reverse-append (f x ∷ []) (map f xs))

turned : (texts : List (List ℕ)) (xs : List Portion) → reverse (portions_of texts (reverse xs)) ≡ portions_of texts xs
turned texts xs = ap reverse (map-reverse (portion_of texts) xs) ∙ reverse-reverse (portions_of texts xs)

pub innermost_is : (texts : List (List ℕ)) (ps : List (Pile (Option ℕ) Portion)) (f : Option ℕ) → head_of ps ≡ Some f → innermost (printings_in texts ps) ≡ items.printing_of texts f (reverse (newest ps))
innermost_is texts [] f h = absurd (cc)
innermost_is texts (p ∷ ps) f h =
    let e : p.head ≡ f = cc in
    let g : option_map (text_at texts) p.head ≡ option_map (text_at texts) f = ap (option_map (text_at texts)) e in
    rw (g, sym (turned texts p.items)) refl

pub innermost_told : (k now : Kept) (ps : List (Pile (Option ℕ) Portion)) (f : Option ℕ) (ts : List (List ℕ)) (xs : List Portion) → k ≡ now → k.core.printing ≡ printings_in (texts_of k) ps → head_of ps ≡ Some f → ts ≡ texts_of k → xs ≡ reverse (newest ps) → items.printing_of ts f xs ≡ innermost now.core.printing
innermost_told k now ps f ts xs e g h t n =
    ap (λ us. items.printing_of us f xs) t ∙ ap (items.printing_of (texts_of k) f) n ∙ sym (innermost_is (texts_of k) ps f h) ∙ ap innermost (sym g) ∙ ap (λ (j : Kept). innermost j.core.printing) e

elements_told : (texts : List (List ℕ)) (k : Kind) (vs : List ℤ) → portions_of texts (map (element_portion k) vs) ≡ map core.value (map (core_item k) vs)
elements_told texts k [] = refl
elements_told texts kinds.I4 (v ∷ vs) = ap (λ xs. core.value (core.integer v) ∷ xs) (elements_told texts kinds.I4 vs)
elements_told texts kinds.I8 (v ∷ vs) = ap (λ xs. core.value (core.integer v) ∷ xs) (elements_told texts kinds.I8 vs)
elements_told texts kinds.L4 (v ∷ vs) = ap (λ xs. core.value (core.logical (is_true v)) ∷ xs) (elements_told texts kinds.L4 vs)

pub items_added : (texts : List (List ℕ)) (k : Kind) (vs : List ℤ) (ps : List (Pile (Option ℕ) Portion)) → printings_in texts (heaped_all (map (element_portion k) vs) ps) ≡ with_items (map (core_item k) vs) (printings_in texts ps)
items_added texts k vs [] = refl
items_added texts k vs (p ∷ ps) =
    let e : portions_of texts (reverse (map (element_portion k) vs) ++ p.items) ≡ with_values_behind (map (core_item k) vs) (portions_of texts p.items) =
    map-append (portion_of texts) (reverse (map (element_portion k) vs)) p.items
    ∙ ap (λ ys. ys ++ portions_of texts p.items) (map-reverse (portion_of texts) (map (element_portion k) vs) ∙ ap reverse (elements_told texts k vs)) in
    let text : List core.Portion → Printing = λ xs. record { format = option_map (text_at texts) p.head; portions = xs } in
    ap (λ (xs : List core.Portion). text xs ∷ printings_in texts ps) e

-- ---- a literal, and the literals before it
same : (n m : ℕ) → nat_eq n m ≡ true → n ≡ m
same n m e = grind (arith, nat_tests)

one_more : (texts : List (List ℕ)) (f m : ℕ) → portion_of texts (Literals f (m + 1)) ≡ core.literals ((f + m) + 1) (text_at texts ((f + m) + 1) ∷ texts_back texts f m)
one_more texts f m =
    let e : m + 1 ≡ suc m = omega arith in
    let g : f + suc m ≡ (f + m) + 1 = omega arith in
    ap (λ k. portion_of texts (Literals f k)) e ∙ ap (λ k. core.literals k (text_at texts k ∷ texts_back texts f m)) g

one_alone : (texts : List (List ℕ)) (n : ℕ) → portion_of texts (Literals n 0) ≡ core.literals n (text_at texts n ∷ [])
one_alone texts n = (let e : n + 0 ≡ n = omega arith in ap (λ k. core.literals k (text_at texts n ∷ [])) e)

module _ (texts : List (List ℕ)) (n : ℕ) where
  abbrev behind_all : List Portion → List core.Portion
  behind_all xs = with_literal_behind n (text_at texts n) (portions_of texts xs)

  joined_by : (f m : ℕ) (p : Portion) (xs : List Portion) (b : Bool) → nat_eq n ((f + m) + 1) ≡ b → cond b (Some (Literals f (m + 1))) None ≡ Some p
      → cond b (core.literals n (text_at texts n ∷ texts_back texts f m) ∷ portions_of texts xs) (core.literals n (text_at texts n ∷ []) ∷ portions_of texts (Literals f m ∷ xs)) ≡ portions_of texts (p ∷ xs)
  joined_by f m p xs true e h =
      let q : Literals f (m + 1) ≡ p = cc in
      ap (λ k. core.literals k (text_at texts k ∷ texts_back texts f m) ∷ portions_of texts xs) (same n ((f + m) + 1) e)
      ∙ ap (λ x. x ∷ portions_of texts xs) (sym (one_more texts f m))
      ∙ ap (λ x. portions_of texts (x ∷ xs)) q
  joined_by f m p xs false e h = absurd (cc)

  joined : (p : Portion) (xs : List Portion) → with_next (first_of xs) n ≡ Some p → behind_all xs ≡ portions_of texts (p ∷ drop 1 xs)
  joined p [] h = absurd (cc)
  joined p (Integer v ∷ xs) h = absurd (cc)
  joined p (Logical b ∷ xs) h = absurd (cc)
  joined p (Literals f m ∷ xs) h = joined_by f m p xs (nat_eq n ((f + m) + 1)) refl h

  apart_by : (f m : ℕ) (xs : List Portion) (b : Bool) → cond b (Some (Literals f (m + 1))) None ≡ None
      → cond b (core.literals n (text_at texts n ∷ texts_back texts f m) ∷ portions_of texts xs) (core.literals n (text_at texts n ∷ []) ∷ portions_of texts (Literals f m ∷ xs)) ≡ portions_of texts (Literals n 0 ∷ Literals f m ∷ xs)
  apart_by f m xs true h = absurd (cc)
  apart_by f m xs false h = ap (λ x. x ∷ portions_of texts (Literals f m ∷ xs)) (sym (one_alone texts n))

  apart : (xs : List Portion) → with_next (first_of xs) n ≡ None → behind_all xs ≡ portions_of texts (Literals n 0 ∷ xs)
  apart [] h = ap (λ x. x ∷ []) (sym (one_alone texts n))
  apart (Integer v ∷ xs) h = ap (λ x. x ∷ portions_of texts (Integer v ∷ xs)) (sym (one_alone texts n))
  apart (Logical b ∷ xs) h = ap (λ x. x ∷ portions_of texts (Logical b ∷ xs)) (sym (one_alone texts n))
  apart (Literals f m ∷ xs) h = apart_by f m xs (nat_eq n ((f + m) + 1)) h

  renewed_pile : (p : Pile (Option ℕ) Portion) (ps : List (Pile (Option ℕ) Portion)) (xs : List Portion) → behind_all p.items ≡ portions_of texts xs
      → printings_in texts (pile p.head xs ∷ ps) ≡ with_literal n (text_at texts n) (printings_in texts (p ∷ ps))
  renewed_pile p ps xs e =
      let text : List core.Portion → Printing = λ ys. record { format = option_map (text_at texts) p.head; portions = ys } in
      ap (λ (ys : List core.Portion). text ys ∷ printings_in texts ps) (sym e)

  pub literal_joined : (p : Portion) (ps : List (Pile (Option ℕ) Portion)) → with_next (last_of ps) n ≡ Some p → printings_in texts (with_last p ps) ≡ with_literal n (text_at texts n) (printings_in texts ps)
  literal_joined p [] h = absurd (cc)
  literal_joined p (q ∷ ps) h = renewed_pile q ps (p ∷ drop 1 q.items) (joined p q.items h)

  pub literal_apart : (ps : List (Pile (Option ℕ) Portion)) → with_next (last_of ps) n ≡ None → printings_in texts (heaped (Literals n 0) ps) ≡ with_literal n (text_at texts n) (printings_in texts ps)
  literal_apart [] h = refl
  literal_apart (q ∷ ps) h = renewed_pile q ps (Literals n 0 ∷ q.items) (apart q.items h)

first_there : (n : ℕ) (p : Portion) (xs : List Portion) → with_next (first_of xs) n ≡ Some p → 0 < length xs
first_there n p [] h = absurd (cc)
first_there n p (x ∷ xs) h = omega arith

pub last_there : (n : ℕ) (p : Portion) (ps : List (Pile (Option ℕ) Portion)) → with_next (last_of ps) n ≡ Some p → 0 < length (newest ps)
last_there n p ps h = first_there n p (newest ps) h

as_many : (x : Portion) (xs : List Portion) → 0 < length xs → length (x ∷ drop 1 xs) ≡ length xs
as_many x [] h = absurd (omega arith)
as_many x (y ∷ ys) h = refl

pub last_counted : (p : Portion) (ps : List (Pile (Option ℕ) Portion)) → 0 < length (newest ps) → items_in (with_last p ps) ≡ items_in ps
last_counted p [] h = absurd (omega arith)
last_counted p (q ∷ ps) h = (let e = as_many p q.items h in omega arith)

pub one_counted : (x : Portion) (ps : List (Pile (Option ℕ) Portion)) → 0 < length ps → items_in (heaped x ps) ≡ suc (items_in ps)
one_counted x [] h = absurd (omega arith)
one_counted x (q ∷ ps) h = omega arith

module _ (n : ℕ) (old : Piled (Option ℕ) Portion) (size : old.size ≡ 131329) where
  pub put_joined : (p : Portion) (new : Piled (Option ℕ) Portion) → with_next (last_of old.piles) n ≡ Some p → items_in old.piles ≤ old.size
      → new ≡ record { piles = with_last p old.piles; most = old.most; size = old.size } → IsPut n old new
  put_joined p new h w e =
      let c = last_counted p old.piles (last_there n p old.piles h) in
      subst (λ (x : Piled (Option ℕ) Portion). IsPut n old x) (sym e) (record {
        printings = λ texts. literal_joined texts n p old.piles h;
        within = omega arith;
      })

  pub put_apart : (new : Piled (Option ℕ) Portion) → with_next (last_of old.piles) n ≡ None → 0 < length old.piles → items_in old.piles < 131329
      → new ≡ record { piles = heaped (Literals n 0) old.piles; most = old.most; size = old.size } → IsPut n old new
  put_apart new h s w e =
      let c = one_counted (Literals n 0) old.piles s in
      subst (λ (x : Piled (Option ℕ) Portion). IsPut n old x) (sym e) (record {
        printings = λ texts. literal_apart texts n old.piles h;
        within = omega arith;
      })

  pub not_put : (new : Piled (Option ℕ) Portion) → with_next (last_of old.piles) n ≡ None → 0 < length old.piles → 131329 ≤ items_in old.piles → new ≡ old → HasNoRoom n old new
  not_put new h s w e = record {
    same = e;
    crowded = λ texts.
        let c = one_counted (Literals n 0) old.piles s in
        let o = ap open_portions (sym (literal_apart texts n old.piles h)) in
        let i = items_open texts (heaped (Literals n 0) old.piles) in
        omega arith;
  }

-- what a literal comes to in a core
module _ (k now : Kept) (n : ℕ) (texts : List (List ℕ)) (old new : Piled (Option ℕ) Portion) (e : k ≡ now) (p : k.core.printing ≡ printings_in texts old.piles) (t : texts ≡ texts_of k) where
  with_it : printings_in texts new.piles ≡ with_literal n (text_at texts n) (printings_in texts old.piles) → printings_in texts new.piles ≡ with_literal n (text_at (texts_of now) n) now.core.printing
  with_it h =
      h
      ∙ ap (λ (us : List (List ℕ)). with_literal n (text_at us n) (printings_in texts old.piles)) t
      ∙ ap (with_literal n (text_at (texts_of k) n)) (sym p)
      ∙ ap (λ (j : Kept). with_literal n (text_at (texts_of j) n) j.core.printing) e

  told : (ps qs : List Printing) (most : ℕ) → ps ≡ qs → most ≡ k.rooms.texts → record k { core = with_texts k.core ps; rooms = record k.rooms { texts = most } } ≡ with_core now (with_texts now.core qs)
  told ps qs most g h = ap (λ (xs : List Printing). record k { core = with_texts k.core xs; rooms = record k.rooms { texts = most } }) g
      ∙ ap (λ (m : ℕ). record k { core = with_texts k.core qs; rooms = record k.rooms { texts = m } }) h
      ∙ ap (λ (j : Kept). with_core j (with_texts j.core qs)) e

  pub literal_put : IsPut n old new → new.most ≡ k.rooms.texts
      → (record k { core = with_texts k.core (printings_in texts new.piles); rooms = record k.rooms { texts = new.most } } ≡ with_core now (with_texts now.core (with_literal n (text_at (texts_of now) n) now.core.printing)))
      × (open_portions (with_literal n (text_at (texts_of now) n) now.core.printing) ≤ 131329)
  literal_put h m =
      let w = with_it (h.printings texts) in
      let o = ap open_portions w in
      let i = items_open texts new.piles in
      let j = h.within in
      (told (printings_in texts new.piles) (with_literal n (text_at (texts_of now) n) now.core.printing) new.most w m, omega arith)

module _ (m : Kept) (f : List core.Portion → List core.Portion) (d : Core) where
  abbrev renewed_on : List Printing → Acted
  renewed_on ps = elim ps [ [] ↦ stuck | p ∷ qs ↦ unless room (nat_le (open_portions (record p { portions = f p.portions } ∷ qs)) most_portions) (goes_to (record d { printing = record p { portions = f p.portions } ∷ qs })) ]

  lacks_on : (ps : List Printing) → length ps ≡ 0 → Acts m (renewed_on ps) m actings.Stuck
  lacks_on [] h = (refl, refl)
  lacks_on (p ∷ ps) h = absurd (omega arith)

  full_on : (ps : List Printing) → 0 < length ps → 131329 < open_portions (renewed_in f ps) → Acts m (renewed_on ps) m (actings.Fault 11)
  full_on [] h l = absurd (omega arith)
  full_on (p ∷ ps) h l = rw (lt-leb (open_portions (record p { portions = f p.portions } ∷ ps)) 131329 l) (refl, refl)

  renews_on : (e : Kept) (ps : List Printing) → 0 < length ps → open_portions (renewed_in f ps) ≤ 131329 → e ≡ with_core m (with_texts d (renewed_in f ps)) → Acts m (renewed_on ps) e actings.Done
  renews_on e [] h l g = absurd (omega arith)
  renews_on e (p ∷ ps) h l g = rw (le-leb (open_portions (record p { portions = f p.portions } ∷ ps)) 131329 l) (refl, g)

  lacks : length d.printing ≡ 0 → Acts m (renewed f d) m actings.Stuck
  lacks h = lacks_on d.printing h

  full : 0 < length d.printing → 131329 < open_portions (renewed_in f d.printing) → Acts m (renewed f d) m (actings.Fault 11)
  full h l = full_on d.printing h l

  renews : (e : Kept) → 0 < length d.printing → open_portions (renewed_in f d.printing) ≤ 131329 → e ≡ with_core m (with_texts d (renewed_in f d.printing)) → Acts m (renewed f d) e actings.Done
  renews e h l g = renews_on e d.printing h l g

-- how many portions there are with so many more
portions_with : (xs : List core.Portion) (ps : List Printing) → 0 < length ps → open_portions (renewed_in (λ ys. xs ++ ys) ps) ≡ open_portions ps + length xs
portions_with xs [] h = absurd (omega arith)
portions_with xs (p ∷ ps) h =
    let e = sum_by-cons (λ (q : Printing). length q.portions) (record p { portions = xs ++ p.portions }) ps in
    let g = sum_by-cons (λ (q : Printing). length q.portions) p ps in
    let l = length-append xs p.portions in
    omega arith

values_with : (xs : List core.Item) (ps : List Printing) → 0 < length ps → open_portions (with_items xs ps) ≡ open_portions ps + length xs
values_with xs ps h =
    let e = portions_with (reverse (map core.value xs)) ps h in
    let l = length-reverse (map core.value xs) in
    let k = length-map xs core.value in
    omega arith

module _ (m : Kept) where
  -- a literal
  module _ (n : ℕ) (text : List ℕ) where
    pub prints_nothing : length m.core.printing ≡ 0 → Acts m (print_effect (a.print_literal n text) m.core) m actings.Stuck
    prints_nothing h = lacks m (with_literal_behind n text) m.core h

    pub prints_too_much : (e : Kept) → 0 < length m.core.printing → (e ≡ m) × (131329 < open_portions (with_literal n text m.core.printing)) → Acts m (print_effect (a.print_literal n text) m.core) e (actings.Fault 11)
    prints_too_much e h (g, l) = subst (λ (x : Kept). Acts m (print_effect (a.print_literal n text) m.core) x (actings.Fault 11)) (sym g) (full m (with_literal_behind n text) m.core h l)

    pub prints : (e : Kept) → 0 < length m.core.printing → (e ≡ with_core m (with_texts m.core (with_literal n text m.core.printing))) × (open_portions (with_literal n text m.core.printing) ≤ 131329)
        → Acts m (print_effect (a.print_literal n text) m.core) e actings.Done
    prints e h (g, l) = renews m (with_literal_behind n text) m.core e h l g

  -- the number on top
  module _ (x : core.Portion) (vs : List ℤ) where
    abbrev counted : Core
    counted = record (with_values m.core vs) { used = m.core.used + 1 }

    abbrev one_behind : List core.Portion → List core.Portion
    one_behind xs = x ∷ xs

    pub value_full : 65536 ≤ m.core.used → Acts m (value_printed x vs m.core) m (actings.Fault 11)
    value_full h = rw (lt-leb (m.core.used + 1) 65536 (omega arith)) (refl, refl)

    within : (e : Kept) (w : Acting) → m.core.used < 65536 → Acts m (renewed one_behind counted) e w → Acts m (value_printed x vs m.core) e w
    within e w h g = subst (λ b. Acts m (unless room b (renewed one_behind counted)) e w) (sym (le-leb (m.core.used + 1) 65536 (omega arith))) g

    pub value_lacks : m.core.used < 65536 → length m.core.printing ≡ 0 → Acts m (value_printed x vs m.core) m actings.Stuck
    value_lacks u h = within m actings.Stuck u (lacks m one_behind counted h)

    pub value_too_much : m.core.used < 65536 → 0 < length m.core.printing → 131329 ≤ open_portions m.core.printing → Acts m (value_printed x vs m.core) m (actings.Fault 11)
    value_too_much u h l = (let e = portions_with (x ∷ []) m.core.printing h in within m (actings.Fault 11) u (full m one_behind counted h (omega arith)))

    pub value_prints : (e : Kept) → m.core.used < 65536 → 0 < length m.core.printing → open_portions m.core.printing < 131329 → e ≡ with_core m (with_texts counted (with_portion x m.core.printing)) → Acts m (value_printed x vs m.core) e actings.Done
    value_prints e u h l g = (let k = portions_with (x ∷ []) m.core.printing h in within e actings.Done u (renews m one_behind counted e h (omega arith) g))

  pub number_printed : (v : ℤ) (vs : List ℤ) (e : Kept) (w : Acting) → m.core.values ≡ v ∷ vs → Acts m (value_printed (core.value (core.integer v)) vs m.core) e w → Acts m (print_effect a.print_number m.core) e w
  number_printed v vs e w h g = one_taken m e w v vs (λ v d. using 1 d (printed (core.integer v ∷ []))) h g

  pub truth_printed : (v : ℤ) (vs : List ℤ) (b : Bool) (e : Kept) (w : Acting) → m.core.values ≡ v ∷ vs → b ≡ is_true v → Acts m (value_printed (core.value (core.logical b)) vs m.core) e w → Acts m (print_effect a.print_truth m.core) e w
  truth_printed v vs b e w h i g = one_taken m e w v vs (λ v d. using 1 d (printed (core.logical (is_true v) ∷ []))) h (subst (λ t. Acts m (value_printed (core.value (core.logical t)) vs m.core) e w) i g)

  -- the elements of the top array
  module _ (k : Kind) where
    abbrev printing_all : Array → Core → Acted
    printing_all x d = printed (map (core_item k) x.elements) d

    none_of : (xs : List Array) → length xs < 1 → Acts m (elim xs [ [] ↦ stuck | y ∷ ys ↦ printing_all y (with_arrays m.core ys) ]) m actings.Stuck
    none_of [] h = (refl, refl)
    none_of (y ∷ ys) h = absurd (omega arith)

    pub array_not_there : length m.core.arrays < 1 → Acts m (print_effect (a.print_array k) m.core) m actings.Stuck
    array_not_there h = none_of m.core.arrays h

    abbrev all_behind : Array → List core.Portion → List core.Portion
    all_behind y ps = with_values_behind (map (core_item k) y.elements) ps

    without_text_of : (xs : List Array) → 1 ≤ length xs → length m.core.printing ≡ 0 → Acts m (elim xs [ [] ↦ stuck | y ∷ ys ↦ printing_all y (with_arrays m.core ys) ]) m actings.Stuck
    without_text_of [] h l = absurd (omega arith)
    without_text_of (y ∷ ys) h l = lacks m (all_behind y) (with_arrays m.core ys) l

    pub array_without_text : 1 ≤ length m.core.arrays → length m.core.printing ≡ 0 → Acts m (print_effect (a.print_array k) m.core) m actings.Stuck
    array_without_text h l = without_text_of m.core.arrays h l

    too_much_of : (xs : List Array) → 1 ≤ length xs → 0 < length m.core.printing → 131329 < open_portions m.core.printing + length (elements_on_top xs) → Acts m (elim xs [ [] ↦ stuck | y ∷ ys ↦ printing_all y (with_arrays m.core ys) ]) m (actings.Fault 11)
    too_much_of [] h t l = absurd (omega arith)
    too_much_of (y ∷ ys) h t l = (let n = length-map y.elements (core_item k) in let o = values_with (map (core_item k) y.elements) m.core.printing t in full m (all_behind y) (with_arrays m.core ys) t (omega arith))

    pub array_too_much : 1 ≤ length m.core.arrays → 0 < length m.core.printing → 131329 < open_portions m.core.printing + length (elements_on_top m.core.arrays) → Acts m (print_effect (a.print_array k) m.core) m (actings.Fault 11)
    array_too_much h t l = too_much_of m.core.arrays h t l

    printed_of : (e : Kept) (xs : List Array) → 1 ≤ length xs → 0 < length m.core.printing → open_portions m.core.printing + length (elements_on_top xs) ≤ 131329
        → e ≡ with_core m (with_texts (with_arrays m.core (drop 1 xs)) (with_items (map (core_item k) (elements_on_top xs)) m.core.printing)) → Acts m (elim xs [ [] ↦ stuck | y ∷ ys ↦ printing_all y (with_arrays m.core ys) ]) e actings.Done
    printed_of e [] h t l g = absurd (omega arith)
    printed_of e (y ∷ ys) h t l g = (let n = length-map y.elements (core_item k) in let o = values_with (map (core_item k) y.elements) m.core.printing t in renews m (all_behind y) (with_arrays m.core ys) e t (omega arith) g)

    pub array_printed : (e : Kept) → 1 ≤ length m.core.arrays → 0 < length m.core.printing → open_portions m.core.printing + length (elements_on_top m.core.arrays) ≤ 131329
        → e ≡ with_core m (with_texts (with_arrays m.core (drop 1 m.core.arrays)) (with_items (map (core_item k) (elements_on_top m.core.arrays)) m.core.printing)) → Acts m (print_effect (a.print_array k) m.core) e actings.Done
    array_printed e h t l g = printed_of e m.core.arrays h t l g
