-- Counts of what has happened stay below the length of the history.
use Rattle.std.proofs.Common.{◌≡◌, ℕ, suc, ◌≤◌, Bool, true, false, cond, List, [], ◌∷◌, ◌++◌, length, refl, arith}
use Rattle.std.specs.Prelude.{Option, Some, None}
use Rattle.caf_events.specs.Histories.{last_stamp_from, last_stamp_of}
use Rattle.caf_events.specs.declared.event.Entry.{Entry}
use Rattle.object_rules.specs.Happenings.{Happening, Class, happens, happened}
use Rattle.object_rules.specs.TeamRounds.{is_arrival, arrivals}
use Rattle.object_rules.specs.ImagePairs.{is_pair, pairs_of}

one_most : (b : Bool) → cond b 1 0 ≤ 1
one_most true = omega arith
one_most false = omega arith

arrivals_few : (t i : ℕ) (hs : List Happening) → arrivals t i hs ≤ length hs
arrivals_few t i [] = omega arith
arrivals_few t i (x ∷ xs) = let a = arrivals_few t i xs in let b = one_most (is_arrival t i x) in omega arith

pairs_few : (i : ℕ) (hs : List Happening) → pairs_of i hs ≤ length hs
pairs_few i [] = omega arith
pairs_few i (x ∷ xs) = let a = pairs_few i xs in let b = one_most (is_pair i x) in omega arith

happened_few : (c : Class) (h : List Entry) → length (happened c h) ≤ length h
happened_few c [] = omega arith
happened_few c (e ∷ es) = by (happens c e.image.0 e.event.line e.event.ask e.event.reply) refl (happened_few c es)
  where
    by : (o : Option Happening) → happens c e.image.0 e.event.line e.event.ask e.event.reply ≡ o → length (happened c es) ≤ length es → length (happened c (e ∷ es)) ≤ suc (length es)
    by None q f = rw q (omega arith)
    by (Some x) q f = rw q (omega arith)

pub rounds_joined : (c : Class) (t i : ℕ) (h : List Entry) → arrivals t i (happened c h) ≤ length h
rounds_joined c t i h = let a = arrivals_few t i (happened c h) in let b = happened_few c h in omega arith

pub pairs_begun : (c : Class) (i : ℕ) (h : List Entry) → pairs_of i (happened c h) ≤ length h
pairs_begun c i h = let a = pairs_few i (happened c h) in let b = happened_few c h in omega arith

last_from : (n : ℕ) (h : List Entry) (e : Entry) → last_stamp_from n (h ++ e ∷ []) ≡ e.event.stamp
last_from n [] e = refl
last_from n (x ∷ xs) e = last_from x.event.stamp xs e

pub last_more : (h : List Entry) (e : Entry) → last_stamp_of (h ++ e ∷ []) ≡ e.event.stamp
last_more h e = last_from 0 h e
