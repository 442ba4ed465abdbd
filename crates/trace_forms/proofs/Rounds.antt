-- What an image brings to a round, and the teams that a departure names.
use Rattle.std.proofs.Common.{◌≡◌, ℕ, ◌<◌, true, false, ℤ, List, [], ◌∷◌, ◌++◌, flat_map, length, drop, refl, ap}
use Rattle.std.proofs.Common.{sym, ◌∙◌, arith, codes, append_assoc, append-nil, true≢false, length-append}
use Rattle.std.specs.List.{list_all}
use Rattle.caf_base.specs.declared.place.ImageNo.{ImageNo}
use Rattle.caf_events.specs.declared.round.Allotted.{Allotted}
use Rattle.caf_events.specs.declared.round.Arriving.{Arriving}
use Rattle.caf_events.specs.declared.round.Arriving.TheVariants as arrivings
use Rattle.caf_events.specs.declared.reply.FormedTeam.{FormedTeam}
use Rattle.caf_text.specs.Numbers.{decimal_text}
use Rattle.trace_theory.specs.Entries.{Each}
use Rattle.trace_text.specs.TraceText.{behind, joined, number_text, image_text, name_text, bounds_text, shape_text}
use Rattle.trace_text.specs.TraceText.{cobound_text, allotted_text, arriving_text, team_text, teams_text}
use Rattle.trace_forms.specs.Names.{is_digit_byte, is_name_byte, AreNames}
use Rattle.trace_forms.specs.Ranges.{IsSigned, IsImageNumber, HasName, AreBounds, AllottedHasText, ArrivingHasText}
use Rattle.trace_forms.specs.Ranges.{FormedHasText}
use Rattle.trace_forms.proofs.Cuts.{stops, span_same, all_append, Items, flat_same, joined_same, joined_inside}
use Rattle.trace_forms.proofs.Decimals.{is_dec, digits_of_number, same_number, signed_dec, same_signed}
use Rattle.trace_forms.proofs.Pieces.{image_items, image_some, name_inside, name_same, name_some, is_bounds}
use Rattle.trace_forms.proofs.Pieces.{bounds_list_inside, shape_same, co_same, begins}
use Rattle.trace_forms.proofs.Fields.{Field, is_field, field_byte, field_of, cut, signed_field, name_field}
use Rattle.trace_forms.proofs.Fields.{fields_same}

-- ---- allocated coarrays
pub allot_text : List (List ℕ) → Allotted → List ℕ
allot_text names a = name_text names a.coarray
    ++ (shape_text a.dims ++ (91 ∷ (flat_map cobound_text a.codims ++ (decimal_text a.last ++ (58 ∷ 42 ∷ 93 ∷ [])))))

pub allot_is : (names : List (List ℕ)) (a : Allotted) → allotted_text names a ≡ behind (32 ∷ []) (allot_text names) a
unfolding allot_text
allot_is names a = simp append_assoc

shape_inside : (ds : List (ℤ × ℤ)) → Each AreBounds ds → list_all is_field (shape_text ds) ≡ true
shape_inside [] h = refl
shape_inside (d ∷ ds) h =
    all_append is_field (joined (44 ∷ []) bounds_text (d ∷ ds)) (codes ")")
    (field_of is_bounds refl refl (joined (44 ∷ []) bounds_text (d ∷ ds)) (bounds_list_inside (d ∷ ds) h)) refl

co_inside : (ds : List (ℤ × ℤ)) → Each AreBounds ds → list_all is_field (flat_map cobound_text ds) ≡ true
co_inside [] h = refl
co_inside (d ∷ ds) h =
    all_append is_field (cobound_text d) (flat_map cobound_text ds)
    (all_append is_field (bounds_text d) (codes ",")
    (ap (list_all is_field) (sym (append-nil (bounds_text d)))
    ∙ field_of is_bounds refl refl (joined (44 ∷ []) bounds_text (d ∷ []))
    (bounds_list_inside (d ∷ []) (h.0, tt))) refl)
    (co_inside ds h.1)

shape_stop : (ds : List (ℤ × ℤ)) (r : List ℕ) → stops is_name_byte (shape_text ds ++ (91 ∷ r)) ≡ true
shape_stop [] r = refl
shape_stop (d ∷ ds) r = refl

module _ (names : List (List ℕ)) (are : AreNames names) where
  pub allot_inside : (a : Allotted) → AllottedHasText names a → list_all is_field (allot_text names a) ≡ true
  unfolding allot_text
  allot_inside a h =
      all_append is_field (name_text names a.coarray) _
      (field_of is_name_byte refl refl (name_text names a.coarray) (name_inside names are a.coarray h.named))
      (all_append is_field (shape_text a.dims) _ (shape_inside a.dims h.dims)
      (all_append is_field (flat_map cobound_text a.codims) _ (co_inside a.codims h.codims)
      (all_append is_field (decimal_text a.last) (58 ∷ 42 ∷ 93 ∷ [])
      (field_of is_dec refl refl (decimal_text a.last) (signed_dec a.last h.last)) refl)))

  pub allot_some : (a : Allotted) → AllottedHasText names a → 0 < length (allot_text names a)
  unfolding allot_text
  allot_some a h = let k = name_some names are a.coarray h.named in
      omega (
        arith,
        length-append (name_text names a.coarray)
            (shape_text a.dims ++ (91 ∷ (flat_map cobound_text a.codims
            ++ (decimal_text a.last ++ (58 ∷ 42 ∷ 93 ∷ []))))),
      )

  allot_same : (a b : Allotted) → AllottedHasText names a → AllottedHasText names b
      → allot_text names a ≡ allot_text names b → a ≡ b
  unfolding allot_text
  allot_same a b p q e =
      let k = span_same is_name_byte (name_text names a.coarray) (name_text names b.coarray) _ _
      (name_inside names are a.coarray p.named) (name_inside names are b.coarray q.named) (shape_stop a.dims _)
      (shape_stop b.dims _) e in
      let c = name_same names are a.coarray b.coarray p.named q.named k.0 in
      let m = shape_same a.dims b.dims p.dims q.dims _ _ k.1 in
      let n = co_same a.codims b.codims a.last b.last p.codims q.codims p.last q.last _ _ m.1 in
      (λ i. record { coarray = c i; dims = m.0 i; codims = n.0 i; last = n.1 i })

  allot_field : Field (AllottedHasText names) (allot_text names)
  allot_field = record { inside = allot_inside; same = allot_same }

  -- the same lists, item by item
  allots_is : (xs : List Allotted) → flat_map (allotted_text names) xs ≡ flat_map
      (behind (32 ∷ []) (allot_text names)) xs
  allots_is [] = refl
  allots_is (x ∷ xs) = (λ i. allot_is names x i ++ allots_is xs i)

  -- what an image brings, before a blank and `>`
  pub arriving_starts : (x : Arriving) (r : List ℕ) → (u : List ℕ) × (arriving_text names x ++ (32 ∷ r) ≡ 32 ∷ u)
  arriving_starts arrivings.Sync r = (_, refl)
  arriving_starts (arrivings.Form number new_index) r = (_, refl)
  arriving_starts arrivings.Change r = (_, refl)
  arriving_starts arrivings.End r = (_, refl)
  arriving_starts (arrivings.Allocate list) r = (_, refl)
  arriving_starts (arrivings.Deallocate list) r = (_, refl)

  by_byte : (k c : ℕ) (xs ys : List ℕ) → begins c (drop k xs) ≡ true → begins c (drop k ys) ≡ false → xs ≡ ys → ⊥
  by_byte k c xs ys p q e = true≢false (sym p ∙ ap (λ l. begins c (drop k l)) e ∙ q)

  pub arriving_same : (x y : Arriving) → ArrivingHasText names x → ArrivingHasText names y → (r s : List ℕ)
      → arriving_text names x ++ (32 ∷ 62 ∷ r) ≡ arriving_text names y ++ (32 ∷ 62 ∷ s) → (x ≡ y) × (r ≡ s)
  arriving_same arrivings.Sync arrivings.Sync p q r s e = (refl, ap (drop 7) e)
  arriving_same arrivings.Change arrivings.Change p q r s e = (refl, ap (drop 9) e)
  arriving_same arrivings.End arrivings.End p q r s e = (refl, ap (drop 6) e)
  arriving_same (arrivings.Form a b) (arrivings.Form c d) p q r s e =
      let k = cut IsSigned decimal_text signed_field a c p.0 q.0 (decimal_text b ++ (32 ∷ 62 ∷ r))
      (decimal_text d ++ (32 ∷ 62 ∷ s)) (sym (form_is a b r) ∙ ap (drop 6) e ∙ form_is c d s) in
      let m = cut IsSigned decimal_text signed_field b d p.1 q.1 (62 ∷ r) (62 ∷ s) k.1 in
      ((λ i. arrivings.Form (k.0 i) (m.0 i)), ap (drop 1) m.1)
    where
      form_is : (a b : ℤ) (r : List ℕ) → ((decimal_text a ++ codes " ") ++ decimal_text b)
          ++ (32 ∷ 62 ∷ r) ≡ decimal_text a ++ (32 ∷ (decimal_text b ++ (32 ∷ 62 ∷ r)))
      form_is a b r = simp append_assoc
  arriving_same (arrivings.Allocate xs) (arrivings.Allocate ys) p q r s e =
      let k = fields_same (AllottedHasText names) (allot_text names) allot_field allot_some xs ys p q r s
      (sym (ap (λ l. l ++ (32 ∷ 62 ∷ r)) (allots_is xs)) ∙ ap (drop 9) e
      ∙ ap (λ l. l ++ (32 ∷ 62 ∷ s)) (allots_is ys)) in
      (ap arrivings.Allocate k.0, k.1)
  arriving_same (arrivings.Deallocate xs) (arrivings.Deallocate ys) p q r s e =
      let k = fields_same (HasName names) (name_text names) (name_field names are) (name_some names are) xs ys p q r s
      (ap (drop 11) e) in
      (ap arrivings.Deallocate k.0, k.1)
  arriving_same arrivings.Sync (arrivings.Form c d) p q r s e = absurd (by_byte 1 115 _ _ refl refl e)
  arriving_same arrivings.Sync arrivings.Change p q r s e = absurd (by_byte 1 115 _ _ refl refl e)
  arriving_same arrivings.Sync arrivings.End p q r s e = absurd (by_byte 1 115 _ _ refl refl e)
  arriving_same arrivings.Sync (arrivings.Allocate ys) p q r s e = absurd (by_byte 1 115 _ _ refl refl e)
  arriving_same arrivings.Sync (arrivings.Deallocate ys) p q r s e = absurd (by_byte 1 115 _ _ refl refl e)
  arriving_same (arrivings.Form a b) arrivings.Sync p q r s e = absurd (by_byte 1 102 _ _ refl refl e)
  arriving_same (arrivings.Form a b) arrivings.Change p q r s e = absurd (by_byte 1 102 _ _ refl refl e)
  arriving_same (arrivings.Form a b) arrivings.End p q r s e = absurd (by_byte 1 102 _ _ refl refl e)
  arriving_same (arrivings.Form a b) (arrivings.Allocate ys) p q r s e = absurd (by_byte 1 102 _ _ refl refl e)
  arriving_same (arrivings.Form a b) (arrivings.Deallocate ys) p q r s e = absurd (by_byte 1 102 _ _ refl refl e)
  arriving_same arrivings.Change arrivings.Sync p q r s e = absurd (by_byte 1 99 _ _ refl refl e)
  arriving_same arrivings.Change (arrivings.Form c d) p q r s e = absurd (by_byte 1 99 _ _ refl refl e)
  arriving_same arrivings.Change arrivings.End p q r s e = absurd (by_byte 1 99 _ _ refl refl e)
  arriving_same arrivings.Change (arrivings.Allocate ys) p q r s e = absurd (by_byte 1 99 _ _ refl refl e)
  arriving_same arrivings.Change (arrivings.Deallocate ys) p q r s e = absurd (by_byte 1 99 _ _ refl refl e)
  arriving_same arrivings.End arrivings.Sync p q r s e = absurd (by_byte 1 101 _ _ refl refl e)
  arriving_same arrivings.End (arrivings.Form c d) p q r s e = absurd (by_byte 1 101 _ _ refl refl e)
  arriving_same arrivings.End arrivings.Change p q r s e = absurd (by_byte 1 101 _ _ refl refl e)
  arriving_same arrivings.End (arrivings.Allocate ys) p q r s e = absurd (by_byte 1 101 _ _ refl refl e)
  arriving_same arrivings.End (arrivings.Deallocate ys) p q r s e = absurd (by_byte 1 101 _ _ refl refl e)
  arriving_same (arrivings.Allocate xs) arrivings.Sync p q r s e = absurd (by_byte 1 97 _ _ refl refl e)
  arriving_same (arrivings.Allocate xs) (arrivings.Form c d) p q r s e = absurd (by_byte 1 97 _ _ refl refl e)
  arriving_same (arrivings.Allocate xs) arrivings.Change p q r s e = absurd (by_byte 1 97 _ _ refl refl e)
  arriving_same (arrivings.Allocate xs) arrivings.End p q r s e = absurd (by_byte 1 97 _ _ refl refl e)
  arriving_same (arrivings.Allocate xs) (arrivings.Deallocate ys) p q r s e = absurd (by_byte 1 97 _ _ refl refl e)
  arriving_same (arrivings.Deallocate xs) arrivings.Sync p q r s e = absurd (by_byte 1 100 _ _ refl refl e)
  arriving_same (arrivings.Deallocate xs) (arrivings.Form c d) p q r s e = absurd (by_byte 1 100 _ _ refl refl e)
  arriving_same (arrivings.Deallocate xs) arrivings.Change p q r s e = absurd (by_byte 1 100 _ _ refl refl e)
  arriving_same (arrivings.Deallocate xs) arrivings.End p q r s e = absurd (by_byte 1 100 _ _ refl refl e)
  arriving_same (arrivings.Deallocate xs) (arrivings.Allocate ys) p q r s e = absurd (by_byte 1 100 _ _ refl refl e)

-- ---- teams
pub form_text : FormedTeam → List ℕ
form_text t = number_text t.team.0 ++ (47 ∷ (decimal_text t.number ++ (58 ∷ joined (46 ∷ []) image_text t.members)))

pub form_is : (t : FormedTeam) → team_text t ≡ behind (32 ∷ []) form_text t
unfolding form_text
form_is t = simp append_assoc

members_inside : (xs : List ImageNo) → Each IsImageNumber xs
    → list_all is_field (joined (46 ∷ []) image_text xs) ≡ true
members_inside xs h = joined_inside IsImageNumber is_digit_byte 46 image_text (image_items 46 refl) is_field refl
    (field_byte is_digit_byte refl refl) xs h

pub form_inside : (t : FormedTeam) → FormedHasText t → list_all is_field (form_text t) ≡ true
unfolding form_text
form_inside t h =
    let small = h.team in
    all_append is_field (number_text t.team.0) _
    (field_of is_digit_byte refl refl (number_text t.team.0) (digits_of_number t.team.0 (omega arith)))
    (all_append is_field (decimal_text t.number) _
    (field_of is_dec refl refl (decimal_text t.number) (signed_dec t.number h.number))
    (members_inside t.members h.members))

form_same : (t u : FormedTeam) → FormedHasText t → FormedHasText u → form_text t ≡ form_text u → t ≡ u
unfolding form_text
form_same t u p q e =
    let ps = p.team in
    let qs = q.team in
    let k = span_same is_digit_byte (number_text t.team.0) (number_text u.team.0) _ _
    (digits_of_number t.team.0 (omega arith)) (digits_of_number u.team.0 (omega arith)) refl refl e in
    let a : t.team.0 ≡ u.team.0 = same_number t.team.0 u.team.0 (omega arith) (omega arith) k.0 in
    let m = span_same is_dec (decimal_text t.number) (decimal_text u.number) _ _ (signed_dec t.number p.number)
    (signed_dec u.number q.number) refl refl (ap (drop 1) k.1) in
    let b = same_signed t.number u.number p.number q.number m.0 in
    let c = joined_same IsImageNumber is_digit_byte 46 image_text (image_items 46 refl) image_some t.members u.members
    p.members q.members (ap (drop 1) m.1) in
    (λ i. record { team = record { 0 = a i }; number = b i; members = c i })

form_items : Items FormedHasText is_field 32 form_text
form_items = record { outside = refl; inside = form_inside; same = form_same }

pub forms_is : (xs : List FormedTeam) → flat_map team_text xs ≡ flat_map (behind (32 ∷ []) form_text) xs
forms_is [] = refl
forms_is (x ∷ xs) = (λ i. form_is x i ++ forms_is xs i)

pub teams_stop : (ts : List FormedTeam) → stops is_dec (teams_text ts) ≡ true
teams_stop [] = refl
teams_stop (t ∷ ts) = refl

pub teams_same : (ts us : List FormedTeam) → Each FormedHasText ts → Each FormedHasText us
    → teams_text ts ≡ teams_text us → ts ≡ us
teams_same [] [] p q e = refl
teams_same [] (u ∷ us) p q e = absurd (true≢false (sym (ap (begins 32) e)))
teams_same (t ∷ ts) [] p q e = absurd (true≢false (ap (begins 32) e))
teams_same (t ∷ ts) (u ∷ us) p q e = flat_same FormedHasText is_field 32 form_text form_items (t ∷ ts) (u ∷ us) p q
    (sym (forms_is (t ∷ ts)) ∙ ap (drop 6) e ∙ forms_is (u ∷ us))
