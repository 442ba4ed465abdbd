-- Each act but one that reads a coarray or asks for a lock, an event or an atom fits, and keeps the invariant.
use Rattle.std.proofs.Common.{◌≡◌, ℕ, zero, suc, ◌*◌, Bool, true, false, cond, List, [], ◌∷◌, ◌++◌, map, length, refl, sym, subst}
use Rattle.std.specs.Prelude.{ℤ, pos, ◌-◌, nat_lt, slice_set, Option, None, Some}
use Rattle.trace_theory.specs.Entries.{Each}
use Rattle.caf_base.specs.declared.place.ImageNo.{ImageNo}
use Rattle.caf_events.specs.declared.ask.Ask.{Ask}
use Rattle.caf_events.specs.declared.ask.Ask.TheVariants as asking
use Rattle.caf_events.specs.declared.reply.FormedTeam.{FormedTeam}
use Rattle.caf_events.specs.declared.reply.Reply.{Reply}
use Rattle.caf_events.specs.declared.reply.Reply.TheVariants as replies
use Rattle.walk_theory.specs.Language as language
use Rattle.object_rules.specs.Cells.{Declared}
use Rattle.core_runs.specs.Beginnings.{IsOneOf}
use Rattle.image_acts.specs.Words.{word}
use Rattle.image_acts.specs.Acts as a
use Rattle.image_acts.specs.Acts.{Act, constant, stack, variable, operator, bounded, allocation, selector, team, call, print, ask}
use Rattle.image_acts.specs.Core.{Core, Team, with_values}
use Rattle.image_acts.specs.Frames.{with_cell}
use Rattle.image_acts.specs.Teams.{is_in, current_team}
use Rattle.image_acts.specs.Replies.{leave_reply, fitting}
use Rattle.image_acts.specs.Taking.{Acted, given}
use Rattle.image_acts.specs.Meaning.{settled, effect_of}
use Rattle.image_code.specs.Levels.{of_numbers, taken_of, left_of}
use Rattle.stack_laws.specs.Exact.{Stand, Kept, kept_of, KeptBy, AsksBy, Exactly, is_plain}
use Rattle.stack_laws.proofs.Standing.{framed}
use Rattle.stack_laws.proofs.Acts.{exact_act}
use Rattle.told_walks.specs.Asked.{sizes_by}
use Rattle.cell_walks.specs.Fitting.{Sizes, TellsImages, IsSound, Sounds, FitsCell, EffectFits}

-- an act that reads no coarray, asks for no lock, no event and no atom, and neither allocates nor deallocates a coarray
abbrev pub IsFree : Act → Type 0
IsFree (ask (a.read j rank)) = ⊥
IsFree (ask (a.create j depth rank)) = ⊥
IsFree (ask (a.delete j)) = ⊥
IsFree (ask (a.lock j)) = ⊥
IsFree (ask (a.try_lock j)) = ⊥
IsFree (ask (a.unlock j)) = ⊥
IsFree (ask (a.post j)) = ⊥
IsFree (ask (a.wait j)) = ⊥
IsFree (ask (a.query j)) = ⊥
IsFree (ask (a.atomic op j kind)) = ⊥
IsFree (allocation (a.note_made k depth rank corank)) = ⊥
IsFree (allocation (a.note_freed k)) = ⊥
IsFree x = Unit {0}

-- ---- lists
as_far : (P : FormedTeam → Type 0) (b : Bool) (x : FormedTeam) (xs : List FormedTeam) → P x → Each P xs → Each P (cond b (x ∷ xs) [])
as_far P true x xs h g = (h, g)
as_far P false x xs h g = tt

each_fitting : (P : FormedTeam → Type 0) (k : ℕ) (xs : List FormedTeam) → Each P xs → Each P (fitting k xs)
each_fitting P k [] h = tt
each_fitting P k (x ∷ xs) h = as_far P (nat_lt (length x.members) k) x (fitting (k - suc (length x.members)) xs) h.0 (each_fitting P (k - suc (length x.members)) xs h.1)

each_on : {A : Type 0} (P : A → Type 0) (xs ys : List A) → Each P xs → Each P ys → Each P (xs ++ ys)
each_on P [] ys h g = g
each_on P (x ∷ xs) ys h g = (h.0, each_on P xs ys h.1 g)

each_number : (P : ℕ → Type 0) (is : List ImageNo) → Each (λ (i : ImageNo). P i.0) is → Each P (map (λ i. i.0) is)
each_number P [] h = tt
each_number P (i ∷ is) h = (h.0, each_number P is h.1)

pub each_set : {A : Type 0} (P : A → Type 0) (xs : List A) (k : ℕ) (x : A) → Each P xs → P x → Each P (slice_set xs k x)
each_set P [] k x h g = tt
each_set P (y ∷ ys) zero x h g = (g, h.1)
each_set P (y ∷ ys) (suc k) x h g = (h.0, each_set P ys k x h.1 g)

module _ (n me : ℕ) (coarrays : List Declared) (readable : ℕ → Bool) where
  -- ---- asks
  fits_plain : (z : Sizes) (q : Ask) → is_plain q ≡ true → FitsCell n me coarrays readable z q × (sizes_by z q ≡ z)
  fits_plain z (asking.Read owner span) h = absurd (cc)
  fits_plain z (asking.Create owner coarray cells) h = absurd (cc)
  fits_plain z (asking.Delete owner coarray) h = absurd (cc)
  fits_plain z (asking.Lock owner span) h = absurd (cc)
  fits_plain z (asking.TryLock owner span) h = absurd (cc)
  fits_plain z (asking.Unlock owner span) h = absurd (cc)
  fits_plain z (asking.Post owner span) h = absurd (cc)
  fits_plain z (asking.Wait owner span threshold) h = absurd (cc)
  fits_plain z (asking.Query owner span) h = absurd (cc)
  fits_plain z (asking.Atomic owner op span x y) h = absurd (cc)
  fits_plain z q h = (tt, refl)

  asks_fit : (x : Act) → IsFree x → (z : Sizes) (q : Ask) → AsksBy x q → FitsCell n me coarrays readable z q × (sizes_by z q ≡ z)
  asks_fit (ask (a.read j rank)) f z q h = absurd f
  asks_fit (ask (a.create j depth rank)) f z q h = absurd f
  asks_fit (ask (a.delete j)) f z q h = absurd f
  asks_fit (ask (a.lock j)) f z q h = absurd f
  asks_fit (ask (a.try_lock j)) f z q h = absurd f
  asks_fit (ask (a.unlock j)) f z q h = absurd f
  asks_fit (ask (a.post j)) f z q h = absurd f
  asks_fit (ask (a.wait j)) f z q h = absurd f
  asks_fit (ask (a.query j)) f z q h = absurd f
  asks_fit (ask (a.atomic op j kind)) f z q h = absurd f
  asks_fit (ask x) f z q h = fits_plain z q h
  asks_fit x f z q h = absurd h

  abbrev Holds : Sizes → Core → Type 0
  Holds z c = IsSound n me z c

  -- wherever it goes on it holds, whatever the reply is that tells of images of the run
  abbrev Keeps : Sizes → Acted → Type 0
  Keeps z (language.goes_to d) = Holds z d
  Keeps z (language.faults k) = Unit {0}
  Keeps z (language.asking q f) = (r : Reply) → TellsImages n r → Holds z (f r)
  Keeps z (language.ends_with q) = Unit {0}
  Keeps z language.stuck = Unit {0}

  holds_by : (z : Sizes) (c d : Core) → kept_of d ≡ kept_of c → Holds z c → Holds z d
  holds_by z c d e h = subst (λ (k : Kept). Sounds n me z k.0 k.1.0 k.1.1.0 k.1.1.1) (sym e) h

  keeps_by : (Q : Ask → Type 0) (z : Sizes) (c : Core) (m : ℕ) (vs : List ℤ) (e : Acted) → Holds z c → Exactly Q (λ d. kept_of d ≡ kept_of c) m vs e → Keeps z e
  keeps_by Q z c m vs (language.goes_to d) h x = holds_by z c d x.1 h
  keeps_by Q z c m vs (language.faults k) h x = tt
  keeps_by Q z c m vs (language.asking q f) h x = λ r t. holds_by z c (f r) (x.1 r).1 h
  keeps_by Q z c m vs (language.ends_with q) h x = tt
  keeps_by Q z c m vs language.stuck h x = tt

  -- ---- a departure tells of teams
  left_formed : (z : Sizes) (c : Core) (r : Reply) → TellsImages n r → IsSound n me z c → IsSound n me z (leave_reply c r)
  left_formed z c (replies.Left s xs) t h = record {
    own = h.own;
    image = h.image;
    known = h.known;
    formed = each_fitting (λ (x : FormedTeam). Each (λ i. IsOneOf n i.0) x.members) (2 * c.images) xs t;
    coarrays = h.coarrays;
    sizes = h.sizes;
  }
  left_formed z c r t h = record { own = h.own; image = h.image; known = h.known; formed = h.formed; coarrays = h.coarrays; sizes = h.sizes }

  leave_keeps : (z : Sizes) (c : Core) → Holds z c → Keeps z (effect_of (ask a.leave) c)
  leave_keeps z c h = by_values c.values
    where
      by_round : (o : Option ℕ) (v : ℤ) (vs : List ℤ) → Keeps z (settled (ask a.leave) (given o (λ r. language.asking (asking.Leave (record { 0 = word v }) r) (leave_reply (with_values c vs)))))
      by_round None v vs = tt
      by_round (Some k) v vs = λ r t. left_formed z (with_values c vs) r t h

      by_values : (vs : List ℤ)
          → Keeps z (settled (ask a.leave) (elim vs [ [] ↦ language.stuck | w ∷ ws ↦ given c.round (λ r. language.asking (asking.Leave (record { 0 = word w }) r) (leave_reply (with_values c ws))) ]))
      by_values [] = tt
      by_values (v ∷ vs) = by_round c.round v vs

  -- ---- teams are noted
  abbrev known_as : (parent round : ℕ) → FormedTeam → Team
  known_as p r f = record { team = f.team.0; parent = p; round = r; number = f.number; members = map (λ i. i.0) f.members }

  abbrev team_of : ℕ → List Team → Option Team
  team_of m [] = None
  team_of m (k ∷ ks) = cond (is_in m k.members) (Some k) (team_of m ks)

  abbrev with_own_team : a.Scope → ℕ → Option Team → Core → Core
  with_own_team s x None c = c
  with_own_team s x (Some k) c = with_cell s x (pos k.team) c

  abbrev teams_noted : a.Scope → ℕ → List Team → Core → Core
  teams_noted s x ks c = with_own_team s x (team_of c.me ks) (record c { known = ks ++ c.known; formed = [] })

  own_noted : (s : a.Scope) (x : ℕ) (o : Option Team) (c : Core) → kept_of (with_own_team s x o c) ≡ kept_of c
  own_noted s x None c = refl
  own_noted s x (Some k) c = framed s _ c

  known_images : (p r : ℕ) (fs : List FormedTeam) → Each (λ (x : FormedTeam). Each (λ i. IsOneOf n i.0) x.members) fs → Each (λ (x : Team). Each (IsOneOf n) x.members) (map (known_as p r) fs)
  known_images p r [] h = tt
  known_images p r (f ∷ fs) h = (each_number (IsOneOf n) f.members h.0, known_images p r fs h.1)

  note_keeps : (s : a.Scope) (x : ℕ) (z : Sizes) (c : Core) → Holds z c → Keeps z (effect_of (team (a.note_teams s x)) c)
  note_keeps s x z c h = by_round c.round
    where
      by_round : (o : Option ℕ) → Keeps z (settled (team (a.note_teams s x)) (given o (λ r. language.goes_to (teams_noted s x (map (known_as (current_team c) r) c.formed) c))))
      by_round None = tt
      by_round (Some r) =
          let ks = map (known_as (current_team c) r) c.formed in
          let d = record c { known = ks ++ c.known; formed = [] } in
          let g : IsSound n me z d = record { own = h.own; image = h.image; known = each_on (λ (t : Team). Each (IsOneOf n) t.members) ks c.known (known_images (current_team c) r c.formed h.formed) h.known; formed = tt; coarrays = h.coarrays; sizes = h.sizes } in
          holds_by z d (teams_noted s x ks c) (own_noted s x (team_of c.me ks) d) g

  -- ---- every act
  kept_act : (x : Act) (z : Sizes) (c : Core) (xs vs : List ℤ) → Holds z c → Exactly (AsksBy x) (λ d. kept_of d ≡ kept_of c) (left_of of_numbers x) vs (effect_of x (with_values c (xs ++ vs)))
      → Keeps z (effect_of x (with_values c (xs ++ vs)))
  kept_act x z c xs vs h e = keeps_by (AsksBy x) z c (left_of of_numbers x) vs (effect_of x (with_values c (xs ++ vs))) h e

  act_keeps : (x : Act) → IsFree x → (z : Sizes) (c : Core) (xs vs : List ℤ) → length xs ≡ taken_of of_numbers x → Holds z c → Keeps z (effect_of x (with_values c (xs ++ vs)))
  act_keeps (ask a.leave) f z c xs vs e h = leave_keeps z (with_values c (xs ++ vs)) h
  act_keeps (ask x) f z c xs vs e h = kept_act (ask x) z c xs vs h (exact_act (ask x) c xs vs e)
  act_keeps (team (a.note_teams s x)) f z c xs vs e h = note_keeps s x z (with_values c (xs ++ vs)) h
  act_keeps (team x) f z c xs vs e h = kept_act (team x) z c xs vs h (exact_act (team x) c xs vs e)
  act_keeps (allocation (a.note_made k depth rank corank)) f z c xs vs e h = absurd f
  act_keeps (allocation (a.note_freed k)) f z c xs vs e h = absurd f
  act_keeps (allocation x) f z c xs vs e h = kept_act (allocation x) z c xs vs h (exact_act (allocation x) c xs vs e)
  act_keeps x f z c xs vs e h = kept_act x z c xs vs h (exact_act x c xs vs e)

  joined_so : (z : Sizes) (Q : Ask → Type 0) (K : Core → Type 0) (m : ℕ) (vs : List ℤ) (e : Acted) → Exactly Q K m vs e → Keeps z e
      → ((q : Ask) → Q q → FitsCell n me coarrays readable z q × (sizes_by z q ≡ z)) → EffectFits n me coarrays readable e (λ y d. Holds y d × Stand m vs d.values) z
  joined_so z Q K m vs (language.goes_to d) x k f = (k, x.0)
  joined_so z Q K m vs (language.faults j) x k f = tt
  joined_so z Q K m vs (language.asking q g) x k f = ((f q x.0).0, λ r t. (subst (λ y. Holds y (g r)) (sym (f q x.0).1) (k r t), (x.1 r).0))
  joined_so z Q K m vs (language.ends_with q) x k f = (f q x).0
  joined_so z Q K m vs language.stuck x k f = tt

  pub act_fits : (x : Act) → IsFree x → (z : Sizes) (c : Core) (xs vs : List ℤ) → length xs ≡ taken_of of_numbers x → Holds z c
      → EffectFits n me coarrays readable (effect_of x (with_values c (xs ++ vs))) (λ y d. Holds y d × Stand (left_of of_numbers x) vs d.values) z
  act_fits x f z c xs vs e h =
      joined_so z (AsksBy x) (KeptBy x c) (left_of of_numbers x) vs (effect_of x (with_values c (xs ++ vs))) (exact_act x c xs vs e) (act_keeps x f z c xs vs e h) (asks_fit x f z)
