-- In a core run of a program each next ask of an image for a lock or an event is one of a declared cell, and each next
-- read is of a coarray that may be read.
use Rattle.std.proofs.Common.{◌≡◌, ℕ, zero, suc, ◌+◌, ◌<◌, ◌≤◌, Bool, true, false, List, [], ◌∷◌, ◌++◌, inl, inr, refl, sym, ◌∙◌, subst, arith}
use Rattle.std.specs.Prelude.{map, nat_eq, ◌||◌}
use Rattle.std.specs.List.{list_all, list_any}
use Rattle.std.proofs.lemmas.Bool.Decides.{eqb_tells}
use Rattle.trace_theory.specs.Entries.{Each}
use Rattle.trace_theory.specs.Machines.{Move, goes, asks, over, Said, WalkTo}
use Rattle.trace_theory.proofs.Machines.{walk_to_more}
use Rattle.caf_base.specs.declared.place.ImageNo.{ImageNo}
use Rattle.caf_events.specs.Walkers.{AsksNext}
use Rattle.caf_events.specs.declared.ask.Ask.{Ask}
use Rattle.caf_events.specs.declared.reply.Reply.{Reply}
use Rattle.caf_events.specs.declared.reply.Reply.TheVariants as replies
use Rattle.caf_events.specs.declared.reply.FormedTeam.{FormedTeam}
use Rattle.caf_events.specs.declared.event.Entry.{Entry}
use Rattle.walk_theory.specs.Syntax.{body_of}
use Rattle.walk_theory.specs.Walks.{Config}
use Rattle.checked_tree.specs.Statements as s
use Rattle.image_acts.specs.Acts.{Act}
use Rattle.image_acts.specs.Core.{Core}
use Rattle.tree_meaning.specs.Forms.{bodies}
use Rattle.tree_meaning.specs.Start.{first_core, start_of, walk_step, own_coarrays, images_from}
use Rattle.made_code.specs.Ranks.{IsRankedProgram}
use Rattle.object_rules.specs.Cells.{Declared}
use Rattle.object_rules.specs.Happenings.{numbers_of}
use Rattle.object_rules.specs.ImagePairs.{names}
use Rattle.object_rules.specs.BoardTeams.{teams_after, members_at}
use Rattle.object_rules.specs.MemoryRules.{has_first_values}
use Rattle.core_runs.specs.Beginnings.{IsOneOf}
use Rattle.core_runs.specs.CoreRuns.{IsCoreRun, said_by, at_board}
use Rattle.core_runs.specs.Lawful.{IsLawfulTrace}
use Rattle.core_runs.proofs.Lawfuls.{core_run_lawful}
use Rattle.team_laws.specs.Named.{IsNamed}
use Rattle.team_laws.proofs.Teams.{members_of_team}
use Rattle.answer_laws.proofs.KnownTeams.{TellsTeams}
use Rattle.answer_laws.proofs.HeardTeams.{heard_teams}
use Rattle.wait_chain.proofs.Images.{member_one}
use Rattle.image_lanes.specs.Lanes.{OnLane, lane_step, lane_start}
use Rattle.program_walks.specs.Runs.{program_rules, program_begins}
use Rattle.program_walks.proofs.Fits.{program_fit}
use Rattle.told_walks.specs.Asked.{own_cells}
use Rattle.told_programs.specs.First.{told_first}
use Rattle.walk_laws.specs.Fits.{StandsAt}
use Rattle.walk_laws.proofs.Members.{told_by}
use Rattle.cell_walks.specs.Fitting.{IsSmall, IsSound, TellsImages, FitsCell}
use Rattle.cell_walks.proofs.Walks.{walks_fit}
use Rattle.cell_statements.specs.Typed.{IsTypedProgram}
use Rattle.cell_statements.specs.Reading.{ProgramReads}
use Rattle.cell_statements.proofs.Blocks.{bodies_fit}
use Rattle.memory_fits.proofs.Lanes.{WalksFit, lane_fits, fit_last}

-- ---- what an image heard names images of the run
each_member : (n : ℕ) (ms : List ImageNo) → ((j : ℕ) → names j (numbers_of ms) ≡ true → IsOneOf n j) → Each (λ (i : ImageNo). IsOneOf n i.0) ms
each_member n [] h = tt
each_member n (m ∷ ms) h = (h m.0 (elim (eqb_tells m.0 m.0) [ inl y ↦ rw y.0 refl | inr f ↦ absurd (f.1 refl) ]), each_member n ms (λ j w. h j (or_later (nat_eq j m.0) (list_any (nat_eq j) (numbers_of ms)) w)))
  where
    or_later : (b c : Bool) → c ≡ true → (b || c) ≡ true
    or_later true c e = refl
    or_later false c e = e

module _ (n : ℕ) (h : List Entry) where
  named_images : (xs : List FormedTeam) → Each (IsNamed (teams_after n h)) xs → Each (λ (x : FormedTeam). Each (λ i. IsOneOf n i.0) x.members) xs
  named_images [] g = tt
  named_images (x ∷ xs) g =
      let e : numbers_of x.members ≡ members_at (teams_after n h) (suc g.0.place) = g.0.members ∙ sym (members_of_team (teams_after n h) g.0.place g.0.team g.0.there) in
      (each_member n x.members (λ j w. member_one n h (suc g.0.place) j (subst (λ ms. names j ms ≡ true) e w)), named_images xs g.1)

  told_images : (r : Reply) → TellsTeams (teams_after n h) r → TellsImages n r
  told_images (replies.Left status teams) g = named_images teams g
  told_images r g = tt

  all_images : (es : List (Said Ask Reply)) → Each (λ (e : Said Ask Reply). TellsTeams (teams_after n h) e.reply) es → Each (λ (e : Said Ask Reply). TellsImages n e.reply) es
  all_images [] g = tt
  all_images (e ∷ es) g = (told_images e.reply g.0, all_images es g.1)

one_more : (n : ℕ) (xs : List (Said Ask Reply)) (e : Said Ask Reply) → Each (λ (x : Said Ask Reply). TellsImages n x.reply) xs → TellsImages n e.reply → Each (λ (x : Said Ask Reply). TellsImages n x.reply) (xs ++ e ∷ [])
one_more n [] e h g = (g, tt)
one_more n (x ∷ xs) e h g = (h.0, one_more n xs e h.1 g)

-- the initial team
first_images : (n i m : ℕ) → 0 < i → i + m ≤ suc n → Each (IsOneOf n) (images_from i m)
first_images n i zero low high = tt
first_images n i (suc m) low high = ((low, omega arith), first_images n (suc i) m (omega arith) (omega arith))

module _ (p : s.Program) (limit : ℕ) (coarrays : List Declared) (n : ℕ) (fails_at : ℕ → ℕ) (words : ℕ) (t : List Entry) (declared : list_all has_first_values coarrays ≡ true)
    (core : IsCoreRun (program_rules p limit) (program_begins p coarrays n fails_at words) t) where
  pub lawful : IsLawfulTrace coarrays n t
  lawful =
      let r = program_rules p limit in
      let b = program_begins p coarrays n fails_at words in
      core_run_lawful r.step r.hears coarrays n b.first t declared (program_fit p limit coarrays n fails_at words) core

  module _ (readable : ℕ → Bool) (ranked : IsRankedProgram p) (typed : IsTypedProgram coarrays p) (reads : ProgramReads readable p) (small : Each IsSmall (own_coarrays p)) where
    sound_first : (i : ℕ) → IsOneOf n i → IsSound n i (map own_cells (own_coarrays p)) (first_core p i n)
    sound_first i there = record { own = refl; image = there; known = (first_images n 1 n (omega arith) (omega arith), tt); formed = tt; coarrays = small; sizes = refl }

    program_fits : (i : ℕ) → IsOneOf n i → WalksFit n i coarrays readable (map own_cells (own_coarrays p)) (walk_step p limit) (start_of p i n)
    program_fits i there es c tells w =
        walks_fit n i coarrays readable (body_of (bodies p)) limit (bodies_fit n i coarrays readable there p ranked typed reads) p.end_line (map own_cells (own_coarrays p)) (first_core p i n) (sound_first i there) refl es w.0 tells w.1

    abbrev Lane : Type 0
    Lane = OnLane (Config Act Core)

    abbrev steps : Lane → Move Lane Ask Reply
    steps = lane_step (walk_step p limit)

    abbrev Fits : ℕ → Ask → Type 0
    Fits i a = FitsCell n i coarrays readable (told_by (told_first p i n) (said_by i t)).sizes a

    next_fits : (i : ℕ) → IsOneOf n i → (c : Lane) → WalkTo steps (lane_start i (fails_at i) words (start_of p i n)) (said_by i t) c → (a : Ask) (line : ℕ) (k : Reply → Lane) → steps c ≡ asks a line k → Fits i a
    next_fits i there c w a line k at =
        let e : Said Ask Reply = record { ask = a; reply = replies.Done; line = line } in
        let more = walk_to_more Lane Ask Reply steps (lane_start i (fails_at i) words (start_of p i n)) c (k replies.Done) (said_by i t) e k w at 0 refl in
        fit_last n i coarrays readable (said_by i t) (told_first p i n) e
        (lane_fits n i coarrays readable (map own_cells (own_coarrays p)) (walk_step p limit) (start_of p i n) (program_fits i there) i (fails_at i) words (said_by i t ++ e ∷ []) (k replies.Done)
        (one_more n (said_by i t) e (all_images n (at_board t) (said_by i t) (heard_teams coarrays n t lawful i)) tt) more)

    fits_next : (i : ℕ) → IsOneOf n i → (c : Lane) → WalkTo steps (lane_start i (fails_at i) words (start_of p i n)) (said_by i t) c → (a : Ask) (m : Move Lane Ask Reply) → steps c ≡ m → AsksNext m a → Fits i a
    fits_next i there c w a (goes d) at next = absurd next
    fits_next i there c w a (asks b line k) at next = subst (Fits i) (sym next) (next_fits i there c w b line k at)
    fits_next i there c w a over at next = absurd next

    pub stands_fit : (i : ℕ) (a : Ask) → StandsAt p limit coarrays n fails_at words t i a → Fits i a
    stands_fit i a h = fits_next i h.image h.config h.walks a (steps h.config) refl h.asks
