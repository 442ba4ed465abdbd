-- A crew from its start to its end.
use Rattle.std.proofs.Common.{◌≡◌, ℕ, zero, suc, List, [], ◌∷◌, length, map, ap, sym, ◌∙◌, subst}
use Rattle.std.specs.Prelude.{replicate}
use Rattle.std.proofs.lemmas.List.{length-map}
use Rattle.trace_theory.specs.Entries.{Each}
use Rattle.caf_events.specs.declared.object.Object as objects
use Rattle.caf_events.specs.declared.walker.Walker as walker
use Rattle.core_runs.specs.Moments.{rules}
use Rattle.core_runs.specs.Beginnings.{Beginning}
use Rattle.core_runs.specs.Kept.{IsKept}
use Rattle.image_core.specs.declared.parts.PartsOf.{PartsOf}
use Rattle.image_core.specs.Parts.{moment, AreSound}
use Rattle.turn_gate.specs.Gates.{At}
use Rattle.turn_gate.specs.Passes.{Opened}
use Rattle.image_gate.specs.declared.passes.Passes.{Passes}
use Rattle.image_gate.specs.Fabrics.{AreOf, IsNewFabric, images_to}
use Rattle.image_gate.specs.Closings.{closing_of, with_back, board_column, column, EndsWith}
use Rattle.crew.specs.declared.member.Member.{Member}
use Rattle.crew.specs.declared.member.Worker.{Worker}
use Rattle.crew.specs.Crews.{GoOn, HavePasses, members_of, AllHavePasses, IsThrough}
use Rattle.crew.specs.Dealt.{run_of, passes_of}
use Rattle.crew.specs.Left.{HasNoStep, AreLeft}
use Rattle.crew.proofs.Lists.{mapped_at}
use Rattle.crew.proofs.Going.{go_on_both, ready_workers}
use Rattle.crew.proofs.Closing as closing
use Rattle.crew.proofs.Leaving as leaving

-- lists that are seen as empty ones
pub each_empty : {A B : Type 0} (f : A → List B) (xs : List A) (n : ℕ) → map f xs ≡ replicate n [] → Each (λ x. f x ≡ []) xs
each_empty f [] n h = tt
each_empty f (x ∷ xs) zero h = absurd (cc)
each_empty f (x ∷ xs) (suc n) h = ((let e : f x ≡ [] = cc in e), each_empty f xs n (let e : map f xs ≡ replicate n [] = cc in e))

module _ {M O B : Type 0} (walks : walker.Ghosts M) (memory : objects.Ghosts O) (control : objects.Ghosts B) (p : PartsOf M O B) (sound : AreSound walks memory control p) (none : HasNoStep (moment walks memory control p))
    (gate : Opened B) (gates : List (Opened O)) (passes : List Passes) (fabric : IsNewFabric p.memories.items p.board gate gates passes)
    (members : List (Member M)) (runs_are : map run_of members ≡ p.images.items) (passes_are : map passes_of members ≡ passes) (ws : List (Worker M)) (dealt : members_of ws ≡ members) where
  pub ready_first : AllHavePasses gate gates ws
  ready_first =
      ready_workers walks gate gates ws
      (subst (λ (l : List (Member M)). HavePasses gate gates l) (sym dealt) (closing.all_first gate gates passes members p.images.items p.memories.items p.board fabric runs_are passes_are sound.numbered))

  -- the images that come back are those that the workers ran, and each has gone on since
  pub gone_on : (vs : List (Worker M)) (back back' : List (Member M)) → GoOn walks gate gates (members_of ws) (members_of vs) → back ≡ members_of vs → GoOn walks gate gates back back' → GoOn walks gate gates members back'
  gone_on vs back back' h are i =
      go_on_both walks gate gates members back back' (subst (λ l. GoOn walks gate gates l back) dealt (subst (λ l. GoOn walks gate gates (members_of ws) l) (sym are) h)) i

  module _ (back : List (Member M)) (goes : GoOn walks gate gates members back) where
    pub count_back : (ps : List Passes) → ps ≡ map passes_of back → length ps ≡ length gates
    count_back ps are =
        ap length are ∙ length-map back passes_of ∙ closing.so_many walks memory control p gate gates passes members back sound.kept.0 fabric runs_are passes_are goes sound.numbered none sound.kept.1
        ∙ sym (closing.so_many_gates walks memory control p gate gates passes members back sound.kept.0 fabric runs_are passes_are goes sound.numbered none sound.kept.1)

    pub passes_back : (ps : List Passes) → ps ≡ map passes_of back → (k : ℕ) (q : Passes) → At ps k q → AreOf gate gates (suc k) q.board q.memories.items
    passes_back ps are k q at =
        let n = mapped_at passes_of back k q (subst (λ l. At l k q) are at) in
        let h = closing.has_gone walks memory control p gate gates passes members back sound.kept.0 fabric runs_are passes_are goes sound.numbered none sound.kept.1 k n.0 n.1 in
        subst (λ (x : Passes). AreOf gate gates (suc k) x.board x.memories.items) n.2 (subst (λ i. AreOf gate gates i n.0.passes.board n.0.passes.memories.items) h.number h.passes.passes)

    module _ (p' : PartsOf M O B) (ps : List Passes) (are : ps ≡ map passes_of back) (images_after : p'.images.items ≡ map run_of back)
        (ends_board : EndsWith control (with_back (board_column ps) (closing_of (images_to (length gates)) gate)) p'.board) (so_many : length p'.memories.items ≡ length gates)
        (ends : (k : ℕ) (g : Opened O) (o : O) → At gates k g → At p'.memories.items k o → EndsWith memory (with_back (column k ps) (closing_of (images_to (length gates)) g)) o) where
      board_ends : EndsWith control (with_back (board_column (map passes_of back)) (closing_of (images_to (length gates)) gate)) p'.board
      board_ends = subst (λ l. EndsWith control (with_back (board_column l) (closing_of (images_to (length gates)) gate)) p'.board) are ends_board

      memories_end : (k : ℕ) (g : Opened O) (o : O) → At gates k g → At p'.memories.items k o → EndsWith memory (with_back (column k (map passes_of back)) (closing_of (images_to (length gates)) g)) o
      memories_end k g o a b = subst (λ l. EndsWith memory (with_back (column k l) (closing_of (images_to (length gates)) g)) o) are (ends k g o a b)

      pub sound_back : AreSound walks memory control p'
      sound_back = leaving.sound_after walks memory control p p' gate gates passes members back fabric runs_are passes_are goes sound none board_ends so_many memories_end images_after

      pub kept_back : (b : Beginning walks.Config memory.Made control.Made) → IsKept (rules walks memory control) b (moment walks memory control p) → IsKept (rules walks memory control) b (moment walks memory control p')
      kept_back = leaving.kept_after walks memory control p p' gate gates passes members back fabric runs_are passes_are goes sound none board_ends so_many memories_end images_after

      pub left_back : IsThrough memory control gate gates walks back → AreLeft (rules walks memory control) (moment walks memory control p')
      left_back through = leaving.left_after walks memory control p p' gate gates passes members back fabric runs_are passes_are goes sound none board_ends so_many memories_end images_after through

      pub number_back : length p'.images.items ≡ length p.images.items
      number_back = leaving.count_after walks memory control p p' gate gates passes members back fabric runs_are passes_are goes sound none board_ends so_many memories_end images_after
