-- What is put down of replies.
use Rattle.std.proofs.Common.{◌≡◌, ℕ, ◌+◌, ◌-◌, ◌^◌, ◌<◌, ◌≤◌, ℤ, pos, List, [], ◌∷◌, length, take, drop, replicate, refl, ap, sym, ◌∙◌, subst, arith}
use Rattle.std.specs.Prelude.{map, min}
use Rattle.std.proofs.lemmas.List.{length-drop, length-take, length-map}
use Rattle.caf_base.specs.declared.value.Value.{Value}
use Rattle.caf_base.specs.Arithmetic.{number_of}
use Rattle.caf_events.specs.declared.reply.Reply.{Reply}
use Rattle.caf_events.specs.declared.reply.Reply.TheVariants as replies
use Rattle.image_acts.specs.Core.{Array, with_values, with_array, pushed, row, elements_in}
use Rattle.image_acts.specs.Places.{Place, cells_of, extents_of}
use Rattle.image_acts.specs.Replies.{with_status, spare, values_in, read_reply}
use Rattle.image_state.specs.Kept.{Kept}
use Rattle.image_state.specs.Acting.{with_core}
use Rattle.image_asks.specs.Heard.{values_heard}

-- numbers that are dropped, and one that is put down
pub put_for : (m i e : Kept) (n : ℕ) (v : ℤ) → i ≡ with_core m (with_values m.core (drop n m.core.values)) → e ≡ with_core i (pushed v i.core) → e ≡ with_core m (pushed v (with_values m.core (drop n m.core.values)))
put_for m i e n v f g = g ∙ ap (λ (j : Kept). with_core j (pushed v j.core)) f

pub status_put : (m i e : Kept) (n : ℕ) (r : Reply) → i ≡ with_core m (with_values m.core (drop n m.core.values)) → e ≡ with_core i (with_status r i.core) → e ≡ with_core m (with_status r (with_values m.core (drop n m.core.values)))
status_put m i e n r f g = g ∙ ap (λ (j : Kept). with_core j (with_status r j.core)) f

pub room_left : (m i : Kept) (n : ℕ) → length m.core.values < m.rooms.numbers → i ≡ with_core m (with_values m.core (drop n m.core.values)) → length i.core.values < i.rooms.numbers
room_left m i n h f = (let l = length-drop n m.core.values in subst (λ (j : Kept). length j.core.values < j.rooms.numbers) (sym f) (omega arith))

pub two_put : (m i j e : Kept) (n : ℕ) (v w : ℤ) → i ≡ with_core m (with_values m.core (drop n m.core.values)) → j ≡ with_core i (pushed v i.core) → e ≡ with_core j (pushed w j.core) → e ≡ with_core m (with_values m.core (w ∷ v ∷ drop n m.core.values))
two_put m i j e n v w f g h = h ∙ ap (λ (k : Kept). with_core k (pushed w k.core)) (put_for m i j n v f g)

pub room_for_two : (m i j : Kept) (n : ℕ) (v : ℤ) → 2 ≤ n → n ≤ length m.core.values → length m.core.values < m.rooms.numbers → i ≡ with_core m (with_values m.core (drop n m.core.values)) → j ≡ with_core i (pushed v i.core) → length j.core.values < j.rooms.numbers
room_for_two m i j n v s t h f g = (let l = length-drop n m.core.values in subst (λ (k : Kept). length k.core.values < k.rooms.numbers) (sym (put_for m i j n v f g)) (omega arith))

-- the values of a read, for which there is never room for more than 262,144
fewer : (n k : ℕ) → n ≤ 524288 → min n (min k (2 ^ 64 - 1)) ≡ min n k
fewer n k h = omega arith

pub values_are : (n : ℕ) (p : Place) (r : Reply) → n ≤ 524288 → values_heard n (min (cells_of p) (2 ^ 64 - 1)) r ≡ values_in n p r
values_are n p (replies.Values vs) h = refl
values_are n p replies.Done h = ap (λ k. replicate k (pos 0)) (fewer n (cells_of p) h)
values_are n p replies.Dead h = ap (λ k. replicate k (pos 0)) (fewer n (cells_of p) h)
values_are n p replies.Absent h = ap (λ k. replicate k (pos 0)) (fewer n (cells_of p) h)
values_are n p replies.Overflow h = ap (λ k. replicate k (pos 0)) (fewer n (cells_of p) h)
values_are n p replies.Busy h = ap (λ k. replicate k (pos 0)) (fewer n (cells_of p) h)
values_are n p (replies.Old v) h = ap (λ k. replicate k (pos 0)) (fewer n (cells_of p) h)
values_are n p (replies.Number s) h = ap (λ k. replicate k (pos 0)) (fewer n (cells_of p) h)
values_are n p (replies.Count i) h = ap (λ k. replicate k (pos 0)) (fewer n (cells_of p) h)
values_are n p (replies.Round i) h = ap (λ k. replicate k (pos 0)) (fewer n (cells_of p) h)
values_are n p (replies.Clash i l) h = ap (λ k. replicate k (pos 0)) (fewer n (cells_of p) h)
values_are n p (replies.Indices ns) h = ap (λ k. replicate k (pos 0)) (fewer n (cells_of p) h)
values_are n p (replies.Taken s vs) h = ap (λ k. replicate k (pos 0)) (fewer n (cells_of p) h)
values_are n p (replies.Left s ts) h = ap (λ k. replicate k (pos 0)) (fewer n (cells_of p) h)

-- a read that is heard: its numbers are dropped, and its values and its status put down
pub read_put : (m i j e : Kept) (n cells : ℕ) (es : List ℕ) (p : Place) (r : Reply) → es ≡ extents_of p → cells ≡ min (cells_of p) (2 ^ 64 - 1)
    → i ≡ with_core m (with_values m.core (drop n m.core.values)) → j ≡ with_core i (with_array (record { extents = es; elements = values_heard (spare i.core) cells r }) i.core) → e ≡ with_core j (with_status r j.core)
    → e ≡ with_core m (read_reply p (with_values m.core (drop n m.core.values)) r)
read_put m i j e n cells es p r x y f g h =
    let d = with_values m.core (drop n m.core.values) in
    let few : spare d ≤ 524288 = omega arith in
    h ∙ ap (λ (k : Kept). with_core k (with_status r k.core)) (g ∙ ap (λ (k : Kept). with_core k (with_array (record { extents = es; elements = values_heard (spare k.core) cells r }) k.core)) f)
    ∙ ap (λ ns. with_core m (with_status r (with_array (record { extents = ns; elements = values_heard (spare d) cells r }) d))) x
    ∙ ap (λ k. with_core m (with_status r (with_array (record { extents = extents_of p; elements = values_heard (spare d) k r }) d))) y
    ∙ ap (λ ws. with_core m (with_status r (with_array (record { extents = extents_of p; elements = ws }) d))) (values_are (spare d) p r few)

-- the status in a reply, and the array value beneath it
pub array_put : (m i e : Kept) (x : Array) (r : Reply) → i ≡ with_core m (with_array x m.core) → e ≡ with_core i (with_status r i.core) → e ≡ with_core m (with_status r (with_array x m.core))
array_put m i e x r f g = g ∙ ap (λ (k : Kept). with_core k (with_status r k.core)) f

-- as many values as there is room for
row_long : (n : ℕ) (vs : List Value) → length (take n (map number_of vs)) ≡ min n (length vs)
row_long n vs = simp (length-take, length-map) refl

pub row_put : (m e : Kept) (n s : ℕ) (vs : List Value) → s + elements_in m.core.arrays ≡ 524288 → n ≡ min (length vs) s → e ≡ with_core m (with_array (record { extents = n ∷ []; elements = take (spare m.core) (map number_of vs) }) m.core)
    → e ≡ with_core m (with_array (row (take (spare m.core) (map number_of vs)) (length (take (spare m.core) (map number_of vs)))) m.core)
row_put m e n s vs f g h =
    let l = row_long (spare m.core) vs in
    let q : n ≡ length (take (spare m.core) (map number_of vs)) = omega arith in
    h ∙ ap (λ i. with_core m (with_array (record { extents = i ∷ []; elements = take (spare m.core) (map number_of vs) }) m.core)) q
