-- A call of EVENT_QUERY, whose cell is found again among its arguments.
use Rattle.std.proofs.Common.{◌≡◌, ◌∙◌, ℕ, zero, suc, ◌+◌, ◌<◌, ◌≤◌, true, List, [], ◌∷◌, ◌++◌, length, refl, sym, subst, append_assoc, arith, Bool}
use Rattle.std.specs.Prelude.{ℤ, pos, slice_get}
use Rattle.caf_events.specs.declared.ask.Ask.TheVariants as asks
use Rattle.walk_theory.specs.Syntax.{Parts}
use Rattle.checked_tree.specs.declared.data.Object.TheVariants as objects
use Rattle.checked_tree.specs.Expressions as t
use Rattle.checked_tree.specs.Statements as s
use Rattle.object_rules.specs.Cells.{Declared}
use Rattle.object_rules.specs.MemoryRules.{holds, is_event}
use Rattle.core_runs.specs.Beginnings.{IsOneOf}
use Rattle.image_acts.specs.Statuses.{most_cells}
use Rattle.image_acts.specs.Acts as a
use Rattle.image_acts.specs.Acts.{Act, stack, ask}
use Rattle.image_acts.specs.Core.{Core, with_values}
use Rattle.image_acts.specs.Replies.{count_in, count_reply}
use Rattle.image_acts.specs.Operate.Asking.{cell_span}
use Rattle.image_acts.specs.Meaning.{effect_of}
use Rattle.image_code.specs.Sizes.{numbers}
use Rattle.tree_meaning.specs.Environment.{Environment}
use Rattle.tree_meaning.specs.Sequences.{◌▸◌, doing, dropping, pushing}
use Rattle.tree_meaning.specs.Settling.{settling}
use Rattle.tree_meaning.specs.Pieces.{Piece, piece_of, sizes, depth, fetching}
use Rattle.tree_meaning.specs.Expressions as view
use Rattle.tree_meaning.specs.Subroutines as sub
use Rattle.made_code.specs.Ranks as ranks
use Rattle.made_code.specs.Ranks.{times}
use Rattle.made_code.proofs.Turns.{Turns, closes, ◌⨾◌, part}
use Rattle.made_code.proofs.Forms.{idle, dropped, pushed as number_pushed, stored}
use Rattle.made_code.proofs.Expressions.{result_turns}
use Rattle.made_code.proofs.Assignments.{settled as status_settled}
use Rattle.made_code.proofs.ImageControl.{cell_turns}
use Rattle.stack_laws.proofs.Standing.{stand_of}
use Rattle.cell_walks.specs.Fitting.{Sizes, IsSound, EffectFits, PartsFit, Leave}
use Rattle.cell_walks.proofs.Quieting.{Safe, no_parts, one, both}
use Rattle.cell_statements.specs.Typed.{IsTypedCall}
use Rattle.cell_statements.proofs.Points.{asked_there, cell_fits, two_copied}
use Rattle.cell_statements.specs.Reading.{PlaceReads, ResultReads, StatReads, SubroutineReads}
use Rattle.cell_statements.proofs.Quiet.{quiet_subscripts, quiet_owner, quiet_result, quiet_dropping, quiet_storing}
use Rattle.cell_statements.proofs.QuietStatements.{quiet_settling, quiet_stat}
use Rattle.cell_statements.proofs.Cells.{Done, ending}
use Rattle.cell_statements.proofs.Arguments.{within, stat_placed, stat_below, IsFound, found}

module _ (n me : ℕ) (coarrays : List Declared) (readable : ℕ → Bool) (there : IsOneOf n me) (e : Environment) (k : ℕ) (ss : t.Subscripts) (sel : t.Selector) (count : t.ResultVariable) (stat : t.OptionalResult)
    (h : ranks.IsPart e.program.procedures (t.part (objects.Coarray k) ss sel) 0) (hc : ranks.IsResult e.program.procedures count) (typed : holds is_event (slice_get coarrays k) ≡ true)
    (reads : PlaceReads readable (t.part (objects.Coarray k) ss sel)) (reads_count : ResultReads readable count) where
  abbrev atom : t.Designator
  atom = t.part (objects.Coarray k) ss sel

  abbrev pieces : List Piece
  pieces = sub.pieces_of e (s.event_query atom count stat)

  abbrev On : Parts Act → (Sizes → Core → Type 0) → Sizes → Core → Type 0
  On p After y c = PartsFit n me coarrays readable p After y c

  -- ---- the pieces
  pieces_turn : (hs : Turns (numbers 0 (view.optional_size stat)) (view.optional_place e stat)) (d : ℕ) → Turns (numbers 0 (piece_of pieces d).size) (piece_of pieces d).parts
  pieces_turn hs zero = cell_turns e atom h
  pieces_turn hs (suc zero) = result_turns e count hc
  pieces_turn hs (suc (suc zero)) = hs
  pieces_turn hs (suc (suc (suc d))) = idle

  pieces_quiet : Safe readable (view.optional_place e stat) → (d : ℕ) → Safe readable (piece_of pieces d).parts
  pieces_quiet q zero = both (quiet_subscripts readable e ss h.0 reads.0) (both (one tt) (quiet_owner readable e k 0 sel h.2 reads.1))
  pieces_quiet q (suc zero) = quiet_result readable e count hc reads_count
  pieces_quiet q (suc (suc zero)) = q
  pieces_quiet q (suc (suc (suc d))) = no_parts

  -- ---- the ask, and what is behind it
  module _ (ds : List ℕ) (at : depth pieces ds 1 + view.result_size count ≤ sizes pieces ds) (below : depth pieces ds 2 + view.optional_size stat ≤ sizes pieces ds) (vs : List ℤ) where
    abbrev rest : Parts Act
    rest = view.storing (depth pieces ds 1 + 1) count ▸ pushing (pos 0) ▸ settling stat (depth pieces ds 2 + 1) [] ▸ dropping (sizes pieces ds)

    rest_turns : Turns (numbers (1 + sizes pieces ds) 0) rest
    rest_turns =
        closes (part (stored (depth pieces ds 1 + 1) (depth pieces ds 1 + view.result_size count) count (omega arith) (omega arith)) ⨾ part (number_pushed (pos 0))
        ⨾ part (status_settled stat (depth pieces ds 2 + 1) (depth pieces ds 2 + view.optional_size stat) [] (omega arith) (omega arith)) ⨾ part (dropped (sizes pieces ds))) (omega arith)

    rest_quiet : Safe readable rest
    rest_quiet = both (quiet_storing (depth pieces ds 1 + 1) count) (both (one tt) (both (quiet_settling stat (depth pieces ds 2 + 1) []) (quiet_dropping (sizes pieces ds))))

    asked_here : (y : Sizes) (c : Core) (j : ℕ) (xs : List ℤ) → IsSound n me y c → j < most_cells → length xs ≡ sizes pieces ds
        → EffectFits n me coarrays readable (effect_of (ask (a.query k)) (with_values c (pos j ∷ (xs ++ vs)))) (On rest (Done n me coarrays readable vs)) y
    asked_here y c j xs i small l =
        asked_there n me coarrays readable (a.query k) k j (asks.Query (record { 0 = c.me }) (cell_span k (pos j))) (count_reply (with_values c (xs ++ vs))) (On rest (Done n me coarrays readable vs)) y c i
        (λ there'. (
          (i.own, cell_fits coarrays c.me is_event k j small typed, there'),
          λ r x.
              ending n me coarrays readable rest_turns rest_quiet vs y (count_reply (with_values c (xs ++ vs)) r) i (stand_of (1 + sizes pieces ds) (count_in r ∷ xs) vs (let m : length (count_in r ∷ xs) ≡ suc (length xs) = refl in omega arith)),
        ))

    fetched : (y : Sizes) (c : Core) → IsSound n me y c → (f : IsFound n pieces 0 ds vs c) → On (fetching pieces ds 0 0 2 ▸ dropping 1 ▸ doing (ask (a.query k) ∷ []) ▸ rest) (Done n me coarrays readable vs) y c
    fetched y c i f =
        let xs = f.above ++ (pos f.owner ∷ pos f.start ∷ f.behind) in
        let beneath = f.behind ++ vs in
        let m = depth pieces ds 0 + 0 in
        let v : c.values ≡ f.above ++ (pos f.owner ∷ pos f.start ∷ beneath) = f.values ∙ append_assoc f.above (pos f.owner ∷ pos f.start ∷ f.behind) vs in
        subst (λ z. EffectFits n me coarrays readable (effect_of (stack (a.copy m 2)) (with_values c z)) (On (dropping 1 ▸ doing (ask (a.query k) ∷ []) ▸ rest) (Done n me coarrays readable vs)) y) (sym v)
        (two_copied n me coarrays readable m y c f.above (pos f.owner) (pos f.start) beneath (f.deep ∙ omega arith) (On (dropping 1 ▸ doing (ask (a.query k) ∷ []) ▸ rest) (Done n me coarrays readable vs))
        (subst (λ z. EffectFits n me coarrays readable (effect_of (ask (a.query k)) (with_values c (pos f.start ∷ z))) (On rest (Done n me coarrays readable vs)) y) (append_assoc f.above (pos f.owner ∷ pos f.start ∷ f.behind) vs)
        (asked_here y c f.start xs i f.small f.many)))

  pub call_fits : (ds : List ℕ) → times 0 ds ≡ 1 → times 1 ds ≡ 1 → ranks.IsStat e.program.procedures ds stat 2 → StatReads readable stat → Leave n me coarrays readable 0 (sub.query e pieces ds atom count stat)
  call_fits ds zeroth first g w vs y c i v =
      let hs = stat_placed e ds stat 2 g in
      found n me coarrays readable there e k ss sel h reads pieces 0 refl (pieces_turn hs) (pieces_quiet (quiet_stat readable e stat ds 2 g w)) ds zeroth vs _ y c i v
      (λ u d j f. fetched ds (within pieces ds 1 first) (stat_below e ds stat 2 pieces refl g) vs u d j f)

module _ (n me : ℕ) (coarrays : List Declared) (readable : ℕ → Bool) (there : IsOneOf n me) (e : Environment) where
  pub query_fits : (d : t.Designator) (count : t.ResultVariable) (stat : t.OptionalResult) (ds : List ℕ) → ranks.IsSubroutine e.program.procedures (s.event_query d count stat) ds → IsTypedCall coarrays (s.event_query d count stat) → SubroutineReads readable (s.event_query d count stat) → Leave n me coarrays readable 0 (sub.subroutine e (s.event_query d count stat) (sub.pieces_of e (s.event_query d count stat)) ds)
  query_fits (t.part (objects.Coarray k) ss sel) count stat ds h y w = call_fits n me coarrays readable there e k ss sel count stat h.0 h.2 y w.0 w.1 ds h.1 h.3 h.4 w.2
  query_fits (t.part (objects.Local v) ss sel) count stat ds h y w = absurd y
  query_fits (t.part (objects.Constant k) ss sel) count stat ds h y w = absurd y
