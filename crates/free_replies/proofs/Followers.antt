-- What is needed of a run to compare the values of its cells with those of the trace that it follows.
use Rattle.std.proofs.Common.{◌≡◌, ℕ, Bool, true, false, nat_eq, List, [], ◌∷◌, ◌++◌, inl, inr, refl, ap, sym, ◌∙◌, subst}
use Rattle.std.specs.Prelude.{Option, map}
use Rattle.std.specs.List.{flat_map}
use Rattle.trace_theory.specs.Entries.{Each}
use Rattle.trace_theory.specs.Machines.{Said}
use Rattle.caf_base.specs.declared.value.Value.{Value}
use Rattle.caf_events.specs.declared.ask.Ask.{Ask}
use Rattle.caf_events.specs.declared.ask.Ask.TheVariants as asks
use Rattle.caf_events.specs.declared.reply.Reply.{Reply}
use Rattle.caf_events.specs.declared.event.Entry.{Entry}
use Rattle.object_rules.specs.Cells.{Declared}
use Rattle.object_rules.specs.MemoryRules.{value_there}
use Rattle.core_runs.specs.CoreRuns.{of_memory}
use Rattle.core_runs.specs.Lawful.{IsLawfulTrace, made_memory}
use Rattle.order_theory.specs.Order.{Segment, Within, done}
use Rattle.order_theory.specs.Races.{Cell, Class, writes, makes, signals, is_access, defines, meets, Stands}
use Rattle.order_theory.specs.Acts.{completing, released, spoken, taken, taken_from, taken_turned, takes, others, handed_to, last_set, entries}
use Rattle.order_theory.specs.Facts.{AccessesCell, Pauses}
use Rattle.order_theory.proofs.Withins.{within_append, within_left}
use Rattle.order_axioms.specs.Views.{view, edges, act_of}
use Rattle.order_axioms.specs.Touching.{touches, accesses, class_of, class_by, cells_of, cells_by, sees_by, is_plain_definition}
use Rattle.order_axioms.specs.FirstRaces.{HasNoRace}
use Rattle.order_axioms.proofs.OwnFacts.{accesses_pause}
use Rattle.order_axioms.proofs.Quiet.{lawful_quiet}
use Rattle.order_cuts.specs.Cuts.{Follows, IsSame, KeepsSources, NoneSpeaks}
use Rattle.order_cuts.proofs.OwnParts.{same_marks, same_segment}
use Rattle.order_cuts.proofs.SameValues.{Writing, Runs}
use Rattle.every_order.specs.Decided.{is_free}
use Rattle.every_order.specs.Likes.{likes}
use Rattle.free_replies.proofs.Alike.{IsFree, each_stands, each_front, none_speaks, said_same, carried}
use Rattle.free_replies.proofs.OwnSizes.{SizesOwn, sizes_own, cells_same}
use Rattle.free_replies.proofs.CellsKept.{kept_is}
use Rattle.free_replies.proofs.Written.{left_by, leaves_told}

-- a definition by a free step isn't atomic, so it meets each access
pub plain_by : (a : Ask) (r : Reply) → is_free a r ≡ true → defines (class_by a) ≡ true → is_plain_definition (class_by a) ≡ true
plain_by (asks.Write owner span vs) r f d = refl
plain_by (asks.Create owner k cells) r f d = refl
plain_by (asks.Delete owner k) r f d = refl
plain_by a r f d = absurd (cc)

pub plain_meets : (k m : Class) → is_plain_definition k ≡ true → is_access m ≡ true → (meets k m ≡ true) × (meets m k ≡ true)
plain_meets writes m p a = by m a
  where
    by : (m : Class) → is_access m ≡ true → (meets writes m ≡ true) × (meets m writes ≡ true)
    by signals a = absurd (cc)
    by m a = (refl, refl)
plain_meets makes m p a = by m a
  where
    by : (m : Class) → is_access m ≡ true → (meets makes m ≡ true) × (meets m makes ≡ true)
    by signals a = absurd (cc)
    by m a = (refl, refl)
plain_meets k m p a = absurd (cc)

pub defines_accesses : (k : Class) → defines k ≡ true → is_access k ≡ true
defines_accesses signals d = absurd (cc)
defines_accesses k d = refl

-- an image of a free run takes nothing by flags
no_sight : (a : Ask) (r : Reply) → is_free a r ≡ true → sees_by a r ≡ []
no_sight (asks.Atomic owner op span x y) r f = absurd (cc)
no_sight a r f = refl

none_taken : (n j : ℕ) (b es : List Entry) → Each IsFree es → taken_from (view n) j b [] es ≡ []
none_taken n j b [] f = refl
none_taken n j b (e ∷ es) f = rw none (none_taken n j (b ++ e ∷ []) es f.1)
  where
    nothing : (x y : Bool) (q : List Segment) → q ≡ [] → taken_turned x y q [] ≡ []
    nothing true true q h = refl
    nothing true false q h = h
    nothing false y q h = refl

    none : taken_turned (nat_eq e.image.0 j) (completing (act_of e)) (takes (view n) b e) [] ≡ []
    none = nothing (nat_eq e.image.0 j) (completing (act_of e)) (takes (view n) b e) (ap (flat_map (λ c. handed_to e.image.0 (last_set (view n) c b))) (no_sight e.event.ask e.event.reply f.0))

module _ (n : ℕ) (t g : List Entry) (fol : Follows (view n) (likes n) t g) (silent : NoneSpeaks (view n) (likes n) t) (free : Each IsFree t) where
  -- A run keeps the sources of a free trace where it keeps what is released.
  pub keeps_by : ((x : Stands t) (y : Stands g) (a : Segment) → IsSame (view n) (likes n) x y → completing (act_of x.event) ≡ true
      → Within a (released (view n) x.before x.event.image.0 (act_of x.event)) → Within a (released (view n) y.before y.event.image.0 (act_of y.event)))
      → KeepsSources (view n) (likes n) t g
  keeps_by release x y a same full (inl own) = inl (own ∙ same_segment Entry (Said Ask Reply) (view n) (likes n) t g fol x y same)
  keeps_by release x y a same full (inr w) = elim (within_append Segment a (released (view n) x.before x.event.image.0 (act_of x.event)) (others (view n) x.before x.event) w) [
    | inl r ↦ inr (within_left Segment a _ _ (release x y a same full r))
    | inr o ↦ elim (within_append Segment a (spoken (view n) x.before x.event) (taken (view n) x.event.image.0 x.before) o) [
      | inl s ↦ absurd (subst (λ is. Within a (map (λ i. record { image = i; number = done (entries (view n)) i x.before }) is)) (silent x) s)
      | inr k ↦ absurd (subst (Within a) (none_taken n x.event.image.0 [] x.before (each_front IsFree x.before (x.event ∷ x.rest) (subst (Each IsFree) x.split free))) k)
    ]
  ]

module _ (s : List Declared) (n : ℕ) (t : List Entry) (lawful_t : IsLawfulTrace s n t) (free_t : Each IsFree t) (clean : HasNoRace (edges n) touches t) where
  -- the value of a cell after some entries
  abbrev pub value : List Entry → Cell → Option Value
  value g c = value_there (made_memory s c.owner) (of_memory c.owner g) c.coarray c.offset

  abbrev pub quiet : Pauses (view n) (AccessesCell touches) t
  quiet = accesses_pause n t (lawful_quiet s n t lawful_t)

  -- what is compared
  abbrev pub IsRun : List Entry → Type 0
  IsRun g = Runs Entry (Said Ask Reply) (Option Value) (view n) (likes n) (accesses (made_memory s)) value (AccessesCell touches) t quiet clean g

  pub acting : (g : List Entry) (y : Stands g) (c : Cell) → Writing Entry (Option Value) (accesses (made_memory s)) value y c → AccessesCell touches y.before y.event
  acting g y c w = (c, w.0, defines_accesses (class_of y.event) w.1)

  module _ (g : List Entry) (lawful : IsLawfulTrace s n g) (fol : Follows (view n) (likes n) t g) where
    pub free_run : Each IsFree g
    free_run = carried n t g fol (λ w. is_free w.ask w.reply ≡ true) free_t

    cells_alike : (x : Stands t) (y : Stands g) → IsSame (view n) (likes n) x y → cells_of x.before x.event ≡ cells_of y.before y.event
    cells_alike x y same =
        let own_t = sizes_own s n t lawful_t in
        let own_g = sizes_own s n g lawful in
        let e = said_same n t g fol x y same in
        cells_same x.before y.before x.event.image.0 x.event.event.ask x.event.event.reply (each_stands SizesOwn t own_t x)
        (each_front SizesOwn x.before (x.event ∷ x.rest) (subst (Each SizesOwn) x.split own_t)) (each_front SizesOwn y.before (y.event ∷ y.rest) (subst (Each SizesOwn) y.split own_g))
        (same_marks Entry (Said Ask Reply) (view n) (likes n) t g fol x y same).0
        ∙ ap (λ w. cells_by y.before w.ask w.reply) e

    leaves_alike : (x : Stands t) (y : Stands g) (c : Cell) → IsSame (view n) (likes n) x y → Writing Entry (Option Value) (accesses (made_memory s)) value x c
        → value (x.before ++ x.event ∷ []) c ≡ value (y.before ++ y.event ∷ []) c
    leaves_alike x y c same w =
        let e = said_same n t g fol x y same in
        let w' = subst (Within c) (cells_alike x y same) w.0 in
        let d' = subst (λ q. defines (class_by q.ask) ≡ true) e w.1 in
        leaves_told s n t lawful_t free_t x c w.0 w.1 ∙ ap (λ q. left_by (made_memory s c.owner) c q.ask) e ∙ sym (leaves_told s n g lawful free_run y c w' d')

    pub is_run : KeepsSources (view n) (likes n) t g → IsRun g
    is_run keeps = record {
      follows = fol;
      keeps = keeps;
      silent = none_speaks n g (lawful_quiet s n g lawful) free_run;
      still = accesses_pause n g (lawful_quiet s n g lawful);
      has = record { leaves_is = λ b h e c split. refl; first_is = λ c. refl; kept = λ b h e c split still. kept_is s n g lawful b h e c split still };
      acting = acting g;
      alike_cells = cells_alike;
      alike_class = λ x y same. ap (λ q. class_by q.ask) (said_same n t g fol x y same);
      alike_leaves = leaves_alike;
    }
