-- The asks of accesses: the image that is accessed stands on top, and beneath it the place of the cells.
use Rattle.std.proofs.Common.{◌≡◌, ℕ, ◌+◌, ◌<◌, ◌≤◌, ℤ, List, [], ◌∷◌, length, drop, refl, sym, subst, inl, inr, arith}
use Rattle.std.specs.Prelude.{map, replicate}
use Rattle.std.proofs.lemmas.Bool.{cases_lt}
use Rattle.std.proofs.lemmas.List.{length-drop}
use Rattle.caf_base.specs.declared.place.ImageNo.{ImageNo}
use Rattle.caf_base.specs.declared.place.Place as at
use Rattle.caf_base.specs.declared.place.Place.TheVariants as places
use Rattle.caf_base.specs.declared.value.Kind.{Kind}
use Rattle.caf_base.specs.Arithmetic.{value_of}
use Rattle.caf_events.specs.declared.ask.Ask.{Ask}
use Rattle.caf_events.specs.declared.ask.Ask.TheVariants as asks
use Rattle.caf_events.specs.declared.reply.Reply.{Reply}
use Rattle.walk_theory.specs.Language.{asking, stuck}
use Rattle.image_acts.specs.Core.{Core, Array, with_values}
use Rattle.image_acts.specs.Places.{Place, place_in, place_size, cells_of}
use Rattle.image_acts.specs.Replies.{read_reply, with_status}
use Rattle.image_acts.specs.Taking.{Acted, taking_one, taking, taking_array}
use Rattle.image_acts.specs.Operate.Asking.{span_of}
use Rattle.image_code.specs.declared.step.AskStep.TheVariants as asked
use Rattle.array_values.specs.Values.{elements_on_top}
use Rattle.image_state.specs.Kept.{Kept}
use Rattle.image_state.specs.Acting.{with_core}
use Rattle.image_state.specs.Places.{place_at}
use Rattle.image_asks.specs.declared.asks.Asking.TheVariants as askings
use Rattle.image_asks.specs.Asking.{ask_here, ComesTo, IsAsking, IsAsked, IsAskedAt, GoesOnWith}
use Rattle.image_asks.specs.Operands.{number_beneath, top_array, image_of}
use Rattle.image_asks.proofs.OperandLaws.{beneath_dropped, dropped_twice, one_is, one_in, one_not, some_is, some_in, some_not, array_is, array_in, array_not}

-- an access to a place
module _ (c : Core) (rank : ℕ) (f : ImageNo → Place → Core → Acted) where
  abbrev behind : ℤ → Core → Acted
  behind o d = taking (place_size rank) d (λ ns e. f (image_of o) (place_in ns) e)

  abbrev inside : ℤ → List ℤ → Core → Acted
  inside o ns e = f (image_of o) (place_in ns) e

  abbrev accessing : Acted
  accessing = taking_one c behind

  abbrev accessed : Acted
  accessed = f (image_of (number_beneath 0 c.values)) (place_in (place_at 1 rank c.values)) (with_values c (drop (place_size rank + 1) c.values))

  shorter : drop (place_size rank) (drop 1 c.values) ≡ drop (place_size rank + 1) c.values
  shorter = dropped_twice (place_size rank) 1 (place_size rank + 1) c.values (omega arith)

  pub access_is : (P : Acted → Type 0) → place_size rank + 1 ≤ length c.values → P accessed → P accessing
  access_is P h p =
      let o = number_beneath 0 c.values in
      let l = length-drop 1 c.values in
      one_is c P behind (omega arith) (some_is (with_values c (drop 1 c.values)) P (place_size rank) (inside o) (omega arith)
      (subst (λ ws. P (f (image_of o) (place_in (place_at 1 rank c.values)) (with_values c ws))) (sym shorter) p))

  pub access_in : IsAsking accessing → (place_size rank + 1 ≤ length c.values) × IsAsking accessed
  access_in h =
      let o = number_beneath 0 c.values in
      let l = length-drop 1 c.values in
      let one = one_in c behind h in
      let some = some_in (with_values c (drop 1 c.values)) (place_size rank) (inside o) one.1 in
      let first : 1 ≤ length c.values = one.0 in
      let others : place_size rank ≤ length (drop 1 c.values) = some.0 in
      (omega arith, subst (λ ws. IsAsking (f (image_of o) (place_in (place_at 1 rank c.values)) (with_values c ws))) shorter some.1)

  missing_of : (P : Acted → Type 0) (ws : List ℤ) → length ws < place_size rank + 1 → P stuck → P (elim ws [ [] ↦ stuck | o ∷ vs ↦ behind o (with_values c vs) ])
  missing_of P [] h p = p
  missing_of P (o ∷ vs) h p = some_not (with_values c vs) P (place_size rank) (inside o) (omega arith) p

  pub access_not : (P : Acted → Type 0) → length c.values < place_size rank + 1 → P stuck → P accessing
  access_not P h p = missing_of P c.values h p

-- a read
module _ (m : Kept) (k rank : ℕ) where
  abbrev reading : ImageNo → Place → Core → Acted
  reading o p d = asking (asks.Read o (span_of k p)) (read_reply p d)

  pub read_there : IsAsking (ask_here m (asked.Read k rank)) → place_size rank + 1 ≤ length m.core.values
  read_there h = (access_in m.core rank reading h).0

  pub read_asks : place_size rank + 1 ≤ length m.core.values → ComesTo (ask_here m (asked.Read k rank)) askings.Asks
  read_asks h = access_is m.core rank reading (λ x. ComesTo x askings.Asks) h refl

  pub read_missing : length m.core.values < place_size rank + 1 → ComesTo (ask_here m (asked.Read k rank)) askings.Stuck
  read_missing h = access_not m.core rank reading (λ x. ComesTo x askings.Stuck) h refl

  pub read_placed : (p : at.Place) → IsAsking (ask_here m (asked.Read k rank)) → p ≡ places.Memory (image_of (number_beneath 0 m.core.values)) → IsAskedAt (ask_here m (asked.Read k rank)) p
  read_placed p h e = access_is m.core rank reading (λ x. IsAskedAt x p) (read_there h) e

  pub read_asked : (q : Ask) → IsAsking (ask_here m (asked.Read k rank)) → q ≡ asks.Read (image_of (number_beneath 0 m.core.values)) (span_of k (place_in (place_at 1 rank m.core.values))) → IsAsked (ask_here m (asked.Read k rank)) q
  read_asked q h e = access_is m.core rank reading (λ x. IsAsked x q) (read_there h) e

  pub read_heard : (e : Kept) (r : Reply) → IsAsking (ask_here m (asked.Read k rank)) → e ≡ with_core m (read_reply (place_in (place_at 1 rank m.core.values)) (with_values m.core (drop (place_size rank + 1) m.core.values)) r) → GoesOnWith m (ask_here m (asked.Read k rank)) r e
  read_heard e r h g = access_is m.core rank reading (λ x. GoesOnWith m x r e) (read_there h) g

-- a write of one value to each cell
module _ (m : Kept) (k rank : ℕ) (kind : Kind) where
  abbrev written : ImageNo → Place → ℤ → Core → Acted
  written o p v e = asking (asks.Write o (span_of k p) (replicate (cells_of p) (value_of kind v))) (λ r. with_status r e)

  abbrev writing : ImageNo → Place → Core → Acted
  writing o p d = taking_one d (written o p)

  abbrev owner : ImageNo
  owner = image_of (number_beneath 0 m.core.values)

  abbrev place : Place
  place = place_in (place_at 1 rank m.core.values)

  abbrev rest : Core
  rest = with_values m.core (drop (place_size rank + 1) m.core.values)

  abbrev write_effect : Acted
  write_effect = written owner place (number_beneath (place_size rank + 1) m.core.values) (with_values m.core (drop (place_size rank + 2) m.core.values))

  write_is : (P : Acted → Type 0) → place_size rank + 2 ≤ length m.core.values → P write_effect → P (ask_here m (asked.Write k rank kind))
  write_is P h p =
      let l = length-drop (place_size rank + 1) m.core.values in
      access_is m.core rank writing P (omega arith) (one_is rest P (written owner place) (omega arith)
      (subst (λ v. P (written owner place v (with_values m.core (drop 1 (drop (place_size rank + 1) m.core.values))))) (sym (beneath_dropped (place_size rank + 1) 0 (place_size rank + 1) m.core.values (omega arith)))
      (subst (λ ws. P (written owner place (number_beneath (place_size rank + 1) m.core.values) (with_values m.core ws))) (sym (dropped_twice 1 (place_size rank + 1) (place_size rank + 2) m.core.values (omega arith))) p)))

  pub write_there : IsAsking (ask_here m (asked.Write k rank kind)) → place_size rank + 2 ≤ length m.core.values
  write_there h =
      let l = length-drop (place_size rank + 1) m.core.values in
      let access = access_in m.core rank writing h in
      let one = one_in rest (written owner place) access.1 in
      let first : place_size rank + 1 ≤ length m.core.values = access.0 in
      let others : 1 ≤ length (drop (place_size rank + 1) m.core.values) = one.0 in
      omega arith

  pub write_asks : place_size rank + 2 ≤ length m.core.values → ComesTo (ask_here m (asked.Write k rank kind)) askings.Asks
  write_asks h = write_is (λ x. ComesTo x askings.Asks) h refl

  pub write_missing : length m.core.values < place_size rank + 2 → ComesTo (ask_here m (asked.Write k rank kind)) askings.Stuck
  write_missing h =
      let l = length-drop (place_size rank + 1) m.core.values in
      elim (cases_lt (length m.core.values) (place_size rank + 1)) [
        | inl j ↦ access_not m.core rank writing (λ x. ComesTo x askings.Stuck) j refl
        | inr j ↦ access_is m.core rank writing (λ x. ComesTo x askings.Stuck) j (one_not rest (λ x. ComesTo x askings.Stuck) (written owner place) (omega arith) refl)
      ]

  pub write_placed : (p : at.Place) → IsAsking (ask_here m (asked.Write k rank kind)) → p ≡ places.Memory owner → IsAskedAt (ask_here m (asked.Write k rank kind)) p
  write_placed p h e = write_is (λ x. IsAskedAt x p) (write_there h) e

  pub write_asked : (q : Ask) → IsAsking (ask_here m (asked.Write k rank kind)) → q ≡ asks.Write owner (span_of k place) (replicate (cells_of place) (value_of kind (number_beneath (place_size rank + 1) m.core.values))) → IsAsked (ask_here m (asked.Write k rank kind)) q
  write_asked q h e = write_is (λ x. IsAsked x q) (write_there h) e

  pub write_heard : (e : Kept) (r : Reply) → IsAsking (ask_here m (asked.Write k rank kind)) → e ≡ with_core m (with_status r (with_values m.core (drop (place_size rank + 2) m.core.values))) → GoesOnWith m (ask_here m (asked.Write k rank kind)) r e
  write_heard e r h g = write_is (λ x. GoesOnWith m x r e) (write_there h) g

-- a write of the elements of the top array value
module _ (m : Kept) (k rank : ℕ) (kind : Kind) where
  abbrev row_written : ImageNo → Place → Array → Core → Acted
  row_written o p x e = asking (asks.Write o (span_of k p) (map (value_of kind) x.elements)) (λ r. with_status r e)

  abbrev row_writing : ImageNo → Place → Core → Acted
  row_writing o p d = taking_array d (row_written o p)

  abbrev row_owner : ImageNo
  row_owner = image_of (number_beneath 0 m.core.values)

  abbrev row_place : Place
  row_place = place_in (place_at 1 rank m.core.values)

  abbrev row_rest : Core
  row_rest = with_values m.core (drop (place_size rank + 1) m.core.values)

  abbrev row_effect : Acted
  row_effect = row_written row_owner row_place (top_array m.core.arrays) (record m.core { values = drop (place_size rank + 1) m.core.values; arrays = drop 1 m.core.arrays })

  row_is : (P : Acted → Type 0) → place_size rank + 1 ≤ length m.core.values → 1 ≤ length m.core.arrays → P row_effect → P (ask_here m (asked.WriteArray k rank kind))
  row_is P h j p = access_is m.core rank row_writing P h (array_is row_rest P (row_written row_owner row_place) j p)

  pub row_there : IsAsking (ask_here m (asked.WriteArray k rank kind)) → place_size rank + 1 ≤ length m.core.values
  row_there h = (access_in m.core rank row_writing h).0

  pub row_array_there : IsAsking (ask_here m (asked.WriteArray k rank kind)) → 1 ≤ length m.core.arrays
  row_array_there h = array_in row_rest (row_written row_owner row_place) (access_in m.core rank row_writing h).1

  pub row_asks : place_size rank + 1 ≤ length m.core.values → 1 ≤ length m.core.arrays → ComesTo (ask_here m (asked.WriteArray k rank kind)) askings.Asks
  row_asks h j = row_is (λ x. ComesTo x askings.Asks) h j refl

  pub row_missing : length m.core.values < place_size rank + 1 → ComesTo (ask_here m (asked.WriteArray k rank kind)) askings.Stuck
  row_missing h = access_not m.core rank row_writing (λ x. ComesTo x askings.Stuck) h refl

  pub row_without : length m.core.arrays < 1 → ComesTo (ask_here m (asked.WriteArray k rank kind)) askings.Stuck
  row_without h = elim (cases_lt (length m.core.values) (place_size rank + 1)) [
    | inl j ↦ row_missing j
    | inr j ↦ access_is m.core rank row_writing (λ x. ComesTo x askings.Stuck) j (array_not row_rest (λ x. ComesTo x askings.Stuck) (row_written row_owner row_place) h refl)
  ]

  pub row_placed : (p : at.Place) → IsAsking (ask_here m (asked.WriteArray k rank kind)) → p ≡ places.Memory row_owner → IsAskedAt (ask_here m (asked.WriteArray k rank kind)) p
  row_placed p h e = row_is (λ x. IsAskedAt x p) (row_there h) (row_array_there h) e

  pub row_asked : (q : Ask) → IsAsking (ask_here m (asked.WriteArray k rank kind)) → q ≡ asks.Write row_owner (span_of k row_place) (map (value_of kind) (elements_on_top m.core.arrays)) → IsAsked (ask_here m (asked.WriteArray k rank kind)) q
  row_asked q h e = row_is (λ x. IsAsked x q) (row_there h) (row_array_there h) e

  pub row_heard : (e : Kept) (r : Reply) → IsAsking (ask_here m (asked.WriteArray k rank kind)) → e ≡ with_core m (with_status r (record m.core { values = drop (place_size rank + 1) m.core.values; arrays = drop 1 m.core.arrays })) → GoesOnWith m (ask_here m (asked.WriteArray k rank kind)) r e
  row_heard e r h g = row_is (λ x. GoesOnWith m x r e) (row_there h) (row_array_there h) g
