-- The law forward and the law on reads, of the edges of the table.
use Rattle.std.proofs.Common.{◌≡◌, ℕ, ◌<◌, Bool, true, List, ◌∷◌, ◌++◌, length, arith}
use Rattle.order_theory.specs.Order.{segment_of, Precedes}
use Rattle.order_theory.specs.Races.{Touching, Accesses, reads, Stands, place, Ahead, Forward, ReadsLast, NoRace, Justified}
use Rattle.order_theory.specs.Acts.{View, entries, edge_rules}
use Rattle.order_theory.specs.Facts.{OwnFacts, Pauses, AccessesCell}
use Rattle.order_theory.proofs.Pausing.{own_pauses}
use Rattle.order_theory.proofs.Paths.{forward}
use Rattle.order_theory.proofs.Sources.{sound, quiet}
use Rattle.order_theory.proofs.LawReads.{reads_by_any_edges}

module _ (E : Type 0) (v : View E) where
  -- where fewer entries act the same is known of them
  fewer_act : (acts fewer : List E → E → Type 0) (t : List E) → ((g : List E) (e : E) → fewer g e → acts g e) → Pauses v acts t → Pauses v fewer t
  fewer_act acts fewer t h p = record {
    pauses = λ g k g' k' x f s s' u a same. p.pauses g k g' k' x f s s' u (h g' f a) same;
    silent = λ g k g' k' x f s s' w a. p.silent g k g' k' x f s s' w (h g' f a);
  }

  -- what each image's own list says suffices for its accesses
  pub access_pauses : (a : Touching E) (acts fails : E → Bool) (t : List E) → OwnFacts v acts fails t → ((g : List E) (e : E) → AccessesCell a g e → acts e ≡ true) → Pauses v (AccessesCell a) t
  access_pauses a acts fails t facts h = fewer_act (λ g e. acts e ≡ true) (AccessesCell a) t h (own_pauses E v acts fails t facts)

  -- an entry that acts stands before each entry of a segment that its own precedes
  pub acts_forward : (acts : List E → E → Type 0) (t : List E) → Pauses v acts t → (g h g' h' : List E) (e f : E) → t ≡ g ++ e ∷ h → t ≡ g' ++ f ∷ h' → acts g e
      → Precedes (edge_rules v) t (segment_of (entries v) g e) (segment_of (entries v) g' f) → length g < length g'
  acts_forward acts t p g h g' h' e f s s' a b = forward E (edge_rules v) (sound E v) acts t (quiet E v acts t p) g h g' h' e f s s' a b

  -- no entry before one that acts stands in a segment that its own precedes
  pub ahead : (a : Touching E) (acts : List E → E → Type 0) (t : List E) → Pauses v acts t → (y : Stands t) → acts y.before y.event → Ahead (edge_rules v) a t y
  ahead a acts t p y h x short b = let l = acts_forward acts t p y.before y.rest x.before x.rest y.event x.event y.split x.split h b in absurd (omega arith)

  -- an access in a segment that precedes another access's stands before it
  pub law_forward : (a : Touching E) (t : List E) → Pauses v (AccessesCell a) t → Forward (edge_rules v) a t
  law_forward a t p x y c d ax ay tx ty b = acts_forward (AccessesCell a) t p x.before x.rest y.before y.rest x.event y.event x.split y.split (c, tx, ax) b

  -- each read among the first m entries is justified, where these have no race
  pub law_reads : (V : Type 0) (a : Accesses E V) (t : List E) → Pauses v (AccessesCell a.touching) t → ReadsLast (edge_rules v) a t
      → (m : ℕ) → NoRace (edge_rules v) a.touching t m → (x : Stands t) → a.touching.class_of x.event ≡ reads → place x < m → Justified (edge_rules v) a t x
  law_reads V a t p memory m clean x k l = reads_by_any_edges E V (edge_rules v) (sound E v) a t (law_forward a.touching t p) memory m clean x k l
