-- The scan for the first partner.
use Rattle.std.proofs.Common.{◌≡◌, ℕ, ◌+◌, ◌<◌, ◌≤◌, List, [], ◌∷◌, ◌++◌, length, get_or, take, drop, inl, inr, ap, sym, ◌∙◌, subst, arith, append_assoc, length-append}
use Rattle.std.proofs.lemmas.Bool.{cases_lt}
use Rattle.std.proofs.lemmas.List.{take_more, length-take-le, take-append-drop, drop_more}
use Rattle.caf_events.specs.declared.event.Entry.{Entry}
use Rattle.order_theory.specs.Races.{Cell, Stands, place}
use Rattle.order_theory.proofs.Splits.{same_fronts}
use Rattle.race_watch.specs.Marked.{MayNote}
use Rattle.race_search.specs.declared.told.Watcher.{Watcher}
use Rattle.race_search.specs.Failures.{IsWatched}
use Rattle.race_search.specs.Known.{Fits, AllFit, AllNoted}
use Rattle.race_search.specs.Partners.{RacesWith, LeastShared, NoneBelow, IsPartner}

pub split_at : {X : Type 0} (t : List X) (at : ℕ) (x : X) → at < length t → x ≡ get_or t at x → t ≡ take at t ++ x ∷ drop (at + 1) t
split_at t at x h e = sym (take-append-drop at t) ∙ ap (λ z. take at t ++ z) (drop_more t at x h) ∙ ap (λ z. take at t ++ z ∷ drop (at + 1) t) (sym e)

-- the entry at a place
abbrev pub stands_at : (t : List Entry) (p : ℕ) (x : Entry) → p < length t → x ≡ get_or t p x → Stands t
stands_at t p x h e = record { before = take p t; event = x; rest = drop (p + 1) t; split = split_at t p x h e }

pub fit_at : (n : ℕ) (t : List Entry) → AllFit n t → (p : ℕ) (x : Entry) → p < length t → x ≡ get_or t p x → Fits n (take p t) x
fit_at n t fits p x h e = fits (stands_at t p x h e)

pub note_at : (n : ℕ) (t : List Entry) → AllNoted n t → (p : ℕ) (x : Entry) → p < length t → x ≡ get_or t p x → MayNote n (take p t) x
note_at n t noted p x h e = noted (stands_at t p x h e)

-- an entry of a front, in the whole
abbrev pub in_all : (t : List Entry) (at : ℕ) → Stands (take at t) → Stands t
in_all t at y = record { before = y.before; event = y.event; rest = y.rest ++ drop at t; split = sym (take-append-drop at t) ∙ ap (λ z. z ++ drop at t) y.split ∙ append_assoc y.before (y.event ∷ y.rest) (drop at t) }

pub front_fits : (n : ℕ) (t : List Entry) (at : ℕ) → AllFit n t → AllFit n (take at t)
front_fits n t at fits y = fits (in_all t at y)

pub front_noted : (n : ℕ) (t : List Entry) (at : ℕ) → at ≤ length t → ((y : Stands t) → place y < at → MayNote n y.before y.event) → AllNoted n (take at t)
front_noted n t at l noted y = noted (in_all t at y) (let a = length-take-le at t l in let b = ap length y.split ∙ length-append y.before (y.event ∷ y.rest) in omega arith)

pub watched_next : (n : ℕ) (t : List Entry) (at : ℕ) (e : Entry) (s : Watcher) → at < length t → e ≡ get_or t at e → IsWatched n (take at t ++ e ∷ []) s → IsWatched n (take (at + 1) t) s
watched_next n t at e s l is r = subst (λ z. IsWatched n z s) (sym (take_more t at e l ∙ ap (λ z. take at t ++ z ∷ []) (sym is))) r

-- what holds of the entry at a place and of those before it, holds up to the next place
pub below_more : (P : List Entry → Entry → Type 0) (t : List Entry) (at : ℕ) (e : Entry) → at < length t → e ≡ get_or t at e → P (take at t) e → ((y : Stands t) → place y < at → P y.before y.event) → (y : Stands t) → place y < at + 1 → P y.before y.event
below_more P t at e l is here old y less =
    elim (cases_lt (place y) at) [
      | inl m ↦ old y m
      | inr m ↦ (
          let q : place y ≡ at = omega arith in
          let f = same_fronts Entry y.before (y.event ∷ y.rest) (take at t) (e ∷ drop (at + 1) t) (sym y.split ∙ split_at t at e l is) (q ∙ sym (length-take-le at t (omega arith))) in
          let heads : y.event ≡ e = (let z = f.1 in cc) in
          subst (λ z. P y.before z) (sym heads) (subst (λ z. P z e) (sym f.0) here))
    ]

module _ (n : ℕ) (g : List Entry) (e : Entry) (p : ℕ) (x : Entry) (within : p < length g) (is : x ≡ get_or g p x) where
  pub found : (c : Cell) → RacesWith n (take p g) x g e → LeastShared (take p g) x g e c → NoneBelow n g e p → IsPartner n g e p c
  found c r s none = record { at = stands_at g p x within is; place_is = length-take-le p g (omega arith); races = r; shared = s; first = none }

  pub none_more : (RacesWith n (take p g) x g e → ⊥) → NoneBelow n g e p → NoneBelow n g e (p + 1)
  none_more h old = below_more (λ b y. RacesWith n b y g e → ⊥) g p x within is h old
