-- Where FORM TEAM is of the initial team alone, no other team makes teams (ISO/IEC 1539-1:2018, 11.6.9).
use Rattle.std.proofs.Common.{◌≡◌, ℕ, suc, ◌≤◌, Bool, true, false, nat_eq, ◌&&◌, ◌||◌, not, List, [], ◌∷◌, ◌++◌, inl, inr, refl, ap, ◌∙◌, arith}
use Rattle.std.specs.Prelude.{Option, Some, None}
use Rattle.std.specs.List.{cons_option}
use Rattle.std.proofs.lemmas.Bool.{cases_Bool, and_parts, or_left, or_right, eqb-true, ne_eqb}
use Rattle.trace_theory.specs.Entries.{Each}
use Rattle.caf_events.specs.declared.ask.Ask.{Ask}
use Rattle.caf_events.specs.declared.ask.Ask.TheVariants as asks
use Rattle.caf_events.specs.declared.reply.Reply.{Reply}
use Rattle.caf_events.specs.declared.reply.Reply.TheVariants as replies
use Rattle.caf_events.specs.declared.round.Arriving.{Arriving}
use Rattle.caf_events.specs.declared.round.Arriving.TheVariants as arrivings
use Rattle.caf_events.specs.declared.event.Entry.{Entry}
use Rattle.object_rules.specs.Scans.{or_else, first_told_from}
use Rattle.object_rules.specs.Happenings.{Happening, arrives, control, kind_of, happens, happened}
use Rattle.object_rules.specs.TeamRounds.{arrivals, joins_round, opening_of, Opening}
use Rattle.object_rules.specs.BoardTeams.{Team, teams_made, made_in_rounds, made_by, is_form, is_form_kind}
use Rattle.every_order.specs.Decided.{is_free, is_flat}
use Rattle.free_replies.proofs.Alike.{IsFree}

-- an arrival at FORM TEAM is at the initial team
abbrev IsFlat : Happening → Type 0
IsFlat (arrives t i k l) = (nat_eq t 1 || not (is_form_kind k)) ≡ true
IsFlat x = Unit {0}

abbrev IsFlatIf : Option Happening → Type 0
IsFlatIf None = Unit {0}
IsFlatIf (Some x) = IsFlat x

flat_kind : (t : ℕ) (arriving : Arriving) → is_flat t arriving ≡ true → (nat_eq t 1 || not (is_form_kind (kind_of arriving))) ≡ true
flat_kind t (arrivings.Form number new_index) h = or_left (nat_eq t 1) false h
flat_kind t arriving h = or_right (nat_eq t 1) true refl

happens_flat : (i line : ℕ) (a : Ask) (r : Reply) → is_free a r ≡ true → IsFlatIf (happens control i line a r)
happens_flat i line (asks.Arrive team arriving) (replies.Round k) h = flat_kind team.0 arriving h
happens_flat i line (asks.Arrive team arriving) r h = absurd (cc)
happens_flat i line (asks.Stop code) r h = tt
happens_flat i line asks.Gone r h = tt
happens_flat i line a r h = tt

each_first : (o : Option Happening) (hs : List Happening) → IsFlatIf o → Each IsFlat hs → Each IsFlat (cons_option o hs)
each_first None hs h r = r
each_first (Some x) hs h r = (h, r)

happened_flat : (g : List Entry) → Each IsFree g → Each IsFlat (happened control g)
happened_flat [] h = tt
happened_flat (x ∷ g) h =
    each_first (happens control x.image.0 x.event.line x.event.ask x.event.reply) (happened control g) (happens_flat x.image.0 x.event.line x.event.ask x.event.reply h.0) (happened_flat g h.1)

no_form : (b c : Bool) → (b || not c) ≡ true → b ≡ false → c ≡ false
no_form true c h e = absurd (cc)
no_form false true h e = absurd (cc)
no_form false false h e = refl

or_other : (x y : Option Opening) → is_form x ≡ false → is_form y ≡ false → is_form (or_else x y) ≡ false
or_other None y h k = k
or_other (Some o) y h k = h

module _ (team : ℕ) (other : nat_eq team 1 ≡ false) where
  joins_flat : (r : ℕ) (before : List Happening) (x : Happening) → IsFlat x → is_form (joins_round team r before x) ≡ false
  joins_flat r before (arrives t i k l) h = elim (cases_Bool (nat_eq t team && nat_eq (suc (arrivals team i before)) r)) [
    | inl y ↦ (
        let e = eqb-true t team (and_parts (nat_eq t team) (nat_eq (suc (arrivals team i before)) r) y).0 in
        rw y (no_form (nat_eq t 1) (is_form_kind k) h (ap (λ z. nat_eq z 1) e ∙ other)))
    | inr f ↦ rw f refl
  ]
  joins_flat r before x h = refl

  opening_from : (r : ℕ) (before hs : List Happening) → Each IsFlat hs → is_form (first_told_from (joins_round team r) before hs) ≡ false
  opening_from r before [] h = refl
  opening_from r before (x ∷ hs) h =
      or_other (joins_round team r before x) (first_told_from (joins_round team r) (before ++ x ∷ []) hs) (joins_flat r before x h.0) (opening_from r (before ++ x ∷ []) hs h.1)

  -- its rounds aren't of FORM TEAM
  opening_flat : (r : ℕ) (g : List Entry) → Each IsFree g → is_form (opening_of team r (happened control g)) ≡ false
  opening_flat r g h = opening_from r [] (happened control g) (happened_flat g h)

  rounds_none : (ms : List ℕ) (f : List Entry) (rs : List ℕ) → Each IsFree f → made_in_rounds team ms f rs ≡ []
  rounds_none ms f [] h = refl
  rounds_none ms f (r ∷ rs) h =
      let q = opening_flat r f h in
      let none : teams_made team r ms f ≡ [] = rw q refl in
      ap (λ ts. ts ++ made_in_rounds team ms f rs) none ∙ rounds_none ms f rs h

-- No team behind the initial one makes teams.
pub later_none : (t : ℕ) (xs : List Team) (before : List Entry) (e : Entry) → 2 ≤ t → Each IsFree (before ++ e ∷ []) → made_by t xs before e ≡ []
later_none t [] before e low free = refl
later_none t (x ∷ xs) before e low free =
    let other : nat_eq t 1 ≡ false = ne_eqb t 1 (λ q. absurd (omega arith)) in
    ap (λ ts. ts ++ made_by (suc t) xs before e) (rounds_none t other x.members (before ++ e ∷ []) _ free) ∙ later_none (suc t) xs before e (omega arith) free
