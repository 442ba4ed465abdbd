-- A collective on a coarray (ISO/IEC 1539-1:2018, 16.6): the place of its argument is found again among the arguments,
-- and its values are read there.
use Rattle.std.proofs.Common.{◌≡◌, ◌∙◌, ℕ, zero, suc, ◌+◌, ◌≤◌, Bool, true, false, cond, List, [], ◌∷◌, ◌++◌, length, refl, ap, sym, subst, append_assoc, arith}
use Rattle.std.specs.Prelude.{ℤ, pos, ◌==◌, drop}
use Rattle.std.proofs.lemmas.Bool.{eqb-true}
use Rattle.caf_base.specs.Arithmetic.{truth}
use Rattle.caf_base.specs.declared.value.Kind.{Kind}
use Rattle.caf_events.specs.declared.round.GatherOp.{GatherOp}
use Rattle.caf_events.specs.declared.round.GatherOp.TheVariants as gathers
use Rattle.walk_theory.specs.Language as language
use Rattle.walk_theory.specs.Syntax.{Parts, end_parts}
use Rattle.checked_tree.specs.declared.data.Object.TheVariants as objects
use Rattle.checked_tree.specs.Expressions as t
use Rattle.checked_tree.specs.Statements as s
use Rattle.object_rules.specs.Cells.{Declared}
use Rattle.core_runs.specs.Beginnings.{IsOneOf}
use Rattle.image_acts.specs.Statuses.{bad_argument}
use Rattle.image_acts.specs.Places.{Place, place_size, place_numbers}
use Rattle.image_acts.specs.Acts as a
use Rattle.image_acts.specs.Acts.{Act, stack, bounded, selector, ask}
use Rattle.image_acts.specs.Core.{Core, with_values}
use Rattle.image_acts.specs.Teams.{current_team, members, is_index_of}
use Rattle.image_acts.specs.Taking.{given, taken, put_down}
use Rattle.image_acts.specs.Meaning.{settled, effect_of}
use Rattle.image_code.specs.Sizes.{numbers, with_arrays}
use Rattle.tree_meaning.specs.Environment.{Environment}
use Rattle.tree_meaning.specs.Sequences.{◌▸◌, doing, pushing, dropping, copying, choosing}
use Rattle.tree_meaning.specs.Pieces.{Piece, evaluating, sizes, depth, fetching}
use Rattle.tree_meaning.specs.Expressions as view
use Rattle.tree_meaning.specs.Subroutines as sub
use Rattle.made_code.specs.Ranks as ranks
use Rattle.made_code.specs.Ranks.{times}
use Rattle.made_code.proofs.Digits.{section_numbers, section_rank}
use Rattle.made_code.proofs.Turns.{Turns, closes, ended, acts, ◌⨾◌, part, chosen}
use Rattle.made_code.proofs.Forms.{idle, one_act, copied, dropped, pushed, co_sectioned, own_needed}
use Rattle.made_code.proofs.Expressions.{scalar_turns, subscripts_turns}
use Rattle.made_code.proofs.Assignments.{settled as status_settled, wrote}
use Rattle.stack_laws.specs.Exact.{Stand}
use Rattle.stack_laws.proofs.Standing.{stand_of, taken_of, put_down_on, put_down_long}
use Rattle.cell_walks.specs.Fitting.{Sizes, IsSound, EffectFits, PartsFit, Leave}
use Rattle.cell_walks.proofs.Parts.{test_fits}
use Rattle.cell_walks.proofs.References.{IsSpanned, Owns, put_back, sectioned, own_imaged, reading_fits}
use Rattle.cell_walks.proofs.Quieting.{Safe, no_parts, one, both}
use Rattle.cell_statements.specs.Reading.{SubscriptsRead, OptionalReads, ExpressionReads, StatReads, PartReads, SubroutineReads}
use Rattle.cell_statements.proofs.Quiet.{quiet_own, quiet_dropping, quiet_ranked, quiet_subscripts, same_reading}
use Rattle.cell_statements.proofs.QuietStatements.{quiet_piece, quiet_fetching, quiet_round, quiet_root_test, quiet_settled, quiet_stat}
use Rattle.cell_statements.proofs.Cells.{Done, no_numbers, passed, ending}
use Rattle.cell_statements.proofs.Arguments.{within, each_turns, stat_placed, stat_below, IsAmong, Puts, among}
use Rattle.cell_statements.proofs.Atomics.{an_operand}

drop_front : (qs zs : List ℤ) → drop (length qs) (qs ++ zs) ≡ zs
drop_front [] zs = refl
drop_front (q ∷ qs) zs = drop_front qs zs

module _ (n me : ℕ) (coarrays : List Declared) (readable : ℕ → Bool) where
  abbrev On : Parts Act → (Sizes → Core → Type 0) → Sizes → Core → Type 0
  On p After y c = PartsFit n me coarrays readable p After y c

  -- numbers beneath some others are put down once more
  copied_here : (o m : ℕ) (y : Sizes) (c : Core) (above here rest : List ℤ) → length above ≡ o → length here ≡ m → IsSound n me y c → c.values ≡ above ++ (here ++ rest) → (After : Sizes → Core → Type 0)
      → ((d : Core) → IsSound n me y d → d.values ≡ here ++ (above ++ (here ++ rest)) → After y d) → On (copying o m) After y c
  copied_here o m y c above here rest la lh i v After more = by_none (m == 0) refl
    where
      whole : List ℤ
      whole = above ++ (here ++ rest)

      beneath : drop o whole ≡ here ++ rest
      beneath = subst (λ k. drop k whole ≡ here ++ rest) la (drop_front above (here ++ rest))

      copy : EffectFits n me coarrays readable (effect_of (stack (a.copy o m)) (with_values c whole)) After y
      copy =
          subst (λ z. EffectFits n me coarrays readable (settled (stack (a.copy o m)) (given (taken m z []) (λ p. language.goes_to (with_values c (put_down p.0 whole))))) After y) (sym beneath)
          (subst (λ z. EffectFits n me coarrays readable (settled (stack (a.copy o m)) (given z (λ p. language.goes_to (with_values c (put_down p.0 whole))))) After y) (sym (taken_of m here rest lh))
          (more (with_values c (put_down (put_down here []) whole)) i (put_back here [] whole)))

      by_none : (b : Bool) → (m == 0) ≡ b → On (cond b end_parts (doing (stack (a.copy o m) ∷ []))) After y c
      by_none true e = more c i (v ∙ ap (λ z. z ++ (above ++ (here ++ rest))) (sym (no_numbers here (lh ∙ eqb-true m 0 e))))
      by_none false e = subst (λ z. EffectFits n me coarrays readable (effect_of (stack (a.copy o m)) (with_values c z)) After y) (sym v) copy

-- n numbers of an argument once more
fetched_more : (ps : List Piece) (ds : List ℕ) (d above m : ℕ) → depth ps ds d + m ≤ sizes ps ds → Turns (numbers (sizes ps ds + above) (sizes ps ds + above + m)) (fetching ps ds d above m)
fetched_more ps ds d above m h = closes (part (copied (depth ps ds d + above) m)) (omega arith)

tested_0 : Turns (numbers 1 2) (sub.succeeded 0)
tested_0 = closes (part (copied 0 1) ⨾ acts (acts ended)) (omega arith)

-- ---- a coarray's place, its round and its change
module _ (n me : ℕ) (coarrays : List Declared) (readable : ℕ → Bool) (there : IsOneOf n me) (e : Environment) (c rank : ℕ) (ss : t.Subscripts) (kind : Kind) (h : ranks.IsCollected e.program.procedures (t.part (objects.Coarray c) ss t.no_selector) rank)
    (holds : readable c ≡ true) (reads : SubscriptsRead readable ss) where
  abbrev collected : s.Collected
  collected = record { variable = t.part (objects.Coarray c) ss t.no_selector; kind = kind; rank = rank }

  abbrev piece : Piece
  piece = sub.collected_piece e (t.part (objects.Coarray c) ss t.no_selector) rank

  -- the owner on top of a place
  abbrev IsPlace : List ℤ → Type 0
  IsPlace here = (p : Place) × (o : ℕ) × IsSpanned c rank p × Owns n me coarrays readable o p × (here ≡ pos o ∷ put_down (place_numbers p) [])

  placed : Puts n me coarrays readable IsPlace (place_size rank + 1) piece.parts
  placed vs After y d0 i v more =
      let form = view.form_of ss rank in
      let x = bounded (a.co_section c form) in
      let w = selector (a.own_image rank) in
      passed n me coarrays readable (subscripts_turns e ss h.0) (quiet_subscripts readable e ss h.0 reads) vs (PartsFit n me coarrays readable (doing (x ∷ []) ▸ doing (w ∷ [])) After) y d0 i v
      (λ u d xs j l r. subst (λ z. EffectFits n me coarrays readable (effect_of x (with_values d z)) (PartsFit n me coarrays readable (doing (w ∷ [])) After) u) (sym r)
      (sectioned n me coarrays readable c form rank u d xs vs (l ∙ sym (section_numbers ss rank h.1)) (section_rank ss rank h.1) j (PartsFit n me coarrays readable (doing (w ∷ [])) After)
      (λ p q. own_imaged n me coarrays readable c rank u d p vs q j After
      (λ o. more u (with_values d (pos d.me ∷ put_down (place_numbers p) vs)) (pos d.me ∷ put_down (place_numbers p) []) j (p, d.me, q, o, refl) (many p q) (ap (λ z. pos d.me ∷ z) (put_down_on (place_numbers p) [] vs))))))
    where
      many : (p : Place) → IsSpanned c rank p → suc (length (put_down (place_numbers p) [])) ≡ place_size rank + 1
      many p q = (let f = put_down_long (place_numbers p) [] in let g = q.numbers in omega arith)

  module _ (other : Piece) (other_turns : Turns (numbers 0 other.size) other.parts) (other_quiet : Safe readable other.parts) (stat : t.OptionalResult) (ds : List ℕ) (once : times 0 ds ≡ 1)
      (has_stat : ranks.IsStat e.program.procedures ds stat 2) (stat_reads : StatReads readable stat) (op : GatherOp) (vs : List ℤ) where
    abbrev pieces : List Piece
    pieces = piece ∷ other ∷ sub.stat_piece e stat ∷ []

    abbrev On' : Parts Act → (Sizes → Core → Type 0) → Sizes → Core → Type 0
    On' p After y d = PartsFit n me coarrays readable p After y d

    abbrev Ends : Sizes → Core → Type 0
    Ends = Done n me coarrays readable vs

    -- ---- what is behind the read
    behind_turns : Turns (numbers (sizes pieces ds + 1) 0) (sub.settled e pieces ds stat)
    behind_turns =
        let b = stat_below e ds stat 2 pieces refl has_stat in
        closes (part (status_settled stat (depth pieces ds 2 + 1) (depth pieces ds 2 + view.optional_size stat) [] (omega arith) (omega arith)) ⨾ part (dropped (sizes pieces ds))) (omega arith)

    put_turns : Turns (with_arrays (sizes pieces ds + 1) (sizes pieces ds + 1) 1 0) (sub.collected_put e (t.part (objects.Coarray c) ss t.no_selector) kind rank (sub.place_in e collected pieces ds 1))
    put_turns = closes (part (fetched_more pieces ds 0 1 (place_size rank + 1) (within pieces ds 0 once)) ⨾ part (wrote 1 c rank kind) ⨾ acts ended ⨾ part (dropped 1)) (omega arith)

    abbrev round : Parts Act → Parts Act → Parts Act
    round root comes =
        root ▸ doing (ask (a.gather op kind) ∷ ask a.take ∷ []) ▸ sub.succeeded 0
        ▸ choosing (comes ▸ choosing (sub.collected_put e (t.part (objects.Coarray c) ss t.no_selector) kind rank (sub.place_in e collected pieces ds 1)) (doing (stack a.drop_array ∷ []))) (doing (stack a.drop_array ∷ []))

    round_turns : {root comes : Parts Act} → Turns (numbers (sizes pieces ds) (sizes pieces ds + 1)) root → Turns (numbers (sizes pieces ds + 1) (sizes pieces ds + 2)) comes
        → Turns (with_arrays (sizes pieces ds) (sizes pieces ds + 1) 1 0) (round root comes)
    round_turns hr hc =
        let m = sizes pieces ds in
        closes (part hr ⨾ acts (acts ended) ⨾ part tested_0
        ⨾ chosen {z = with_arrays (m + 1) (m + 1) 1 0} (closes (part hc ⨾ chosen {z = with_arrays (m + 1) (m + 1) 1 0} put_turns (closes (acts ended) (omega arith))) (omega arith)) (closes (acts ended) (omega arith))) (omega arith)

    cells_taken_here : (r : ℕ) → Turns (with_arrays 0 0 1 1) (sub.taking_cells e r)
    cells_taken_here zero = closes ended (omega arith)
    cells_taken_here (suc r) = one_act

    cells_quiet : (r : ℕ) → Safe readable (sub.taking_cells e r)
    cells_quiet zero = no_parts
    cells_quiet (suc r) = one tt

    abbrev taken_up : Parts Act
    taken_up = doing (stack a.accessed ∷ []) ▸ dropping 1 ▸ sub.taking_cells e rank

    rest_turns : {root comes : Parts Act} → Turns (numbers (sizes pieces ds) (sizes pieces ds + 1)) root → Turns (numbers (sizes pieces ds + 1) (sizes pieces ds + 2)) comes
        → Turns (with_arrays (sizes pieces ds + 1) 0 1 0) (taken_up ▸ round root comes ▸ sub.settled e pieces ds stat)
    rest_turns hr hc = closes ((acts ended ⨾ part (dropped 1) ⨾ part (cells_taken_here rank)) ⨾ part (round_turns hr hc) ⨾ part behind_turns) (omega arith)

    rest_quiet : (root comes : Parts Act) → Safe readable root → Safe readable comes → Safe readable (taken_up ▸ round root comes ▸ sub.settled e pieces ds stat)
    rest_quiet root comes q k =
        both (both (one tt) (both (quiet_dropping 1) (cells_quiet rank))) (both (quiet_round readable e collected op pieces ds root comes q k) (quiet_settled readable e pieces ds stat))

    abbrev Behind : Parts Act → Parts Act → Sizes → Core → Type 0
    Behind root comes y k = On' (round root comes ▸ sub.settled e pieces ds stat) Ends y k

    -- ---- the read, and all behind it
    combines : (root comes : Parts Act) → Turns (numbers (sizes pieces ds) (sizes pieces ds + 1)) root → Turns (numbers (sizes pieces ds + 1) (sizes pieces ds + 2)) comes → Safe readable root → Safe readable comes
        → (u : Sizes) (d : Core) → IsSound n me u d → IsAmong IsPlace pieces 0 ds vs d → On' (sub.combined e collected op pieces ds root comes) (On' (sub.settled e pieces ds stat) Ends) u d
    combines root comes hr hc qr qc u d i f =
        let need = view.needing_own c (view.is_scalar ss rank) t.no_selector in
        passed n me coarrays readable (own_needed c (view.is_scalar ss rank) t.no_selector) (quiet_own c (view.is_scalar ss rank) t.no_selector) (whole ++ vs) (On' (place ▸ view.reading c rank ▸ taken_up) (Behind root comes)) u d i f.values
        (λ u2 g xs j l r. copied_here n me coarrays readable (depth pieces ds 0 + 0) (place_size rank + 1) u2 g f.above f.here (f.behind ++ vs) (f.deep ∙ omega arith) (many f.good) j
        (r ∙ (ap (λ z. z ++ (whole ++ vs)) (no_numbers xs l) ∙ apart)) (On' (view.reading c rank ▸ taken_up) (Behind root comes))
        (λ k j2 w. read f.good u2 k j2 (w ∙ ap (λ z. f.here ++ z) (sym apart))))
      where
        whole : List ℤ
        whole = f.above ++ (f.here ++ f.behind)

        place : Parts Act
        place = sub.place_in e collected pieces ds 0

        apart : whole ++ vs ≡ f.above ++ (f.here ++ (f.behind ++ vs))
        apart = append_assoc f.above (f.here ++ f.behind) vs ∙ ap (λ z. f.above ++ z) (append_assoc f.here f.behind vs)

        many : IsPlace f.here → length f.here ≡ place_size rank + 1
        many (p, o, q, w, is) = ap length is ∙ (let g = put_down_long (place_numbers p) [] in let k = q.numbers in let z : length (pos o ∷ put_down (place_numbers p) []) ≡ suc (length (put_down (place_numbers p) [])) = refl in omega arith)

        rests : (y : Sizes) (k : Core) (st : ℤ) → IsSound n me y k → k.values ≡ st ∷ (whole ++ vs) → On' taken_up (Behind root comes) y k
        rests y k st j w =
            passed n me coarrays readable (rest_turns hr hc) (rest_quiet root comes qr qc) vs Ends y k j
            (subst (Stand (sizes pieces ds + 1) vs) (sym w) (stand_of (sizes pieces ds + 1) (st ∷ whole) vs (let m = f.many in let z : length (st ∷ whole) ≡ suc (length whole) = refl in omega arith)))
            (λ y2 g xs j2 l r. (j2, r ∙ ap (λ z. z ++ vs) (no_numbers xs l)))

        read : IsPlace f.here → (y : Sizes) (k : Core) → IsSound n me y k → k.values ≡ f.here ++ (whole ++ vs) → On' (view.reading c rank ▸ taken_up) (Behind root comes) y k
        read (p, o, q, w, is) y k j r =
            let v : k.values ≡ pos o ∷ put_down (place_numbers p) (whole ++ vs) = r ∙ (ap (λ z. z ++ (whole ++ vs)) is ∙ ap (λ z. pos o ∷ z) (sym (put_down_on (place_numbers p) [] (whole ++ vs)))) in
            subst (λ z. On' z (On' taken_up (Behind root comes)) y k) (same_reading c rank)
            (reading_fits n me coarrays readable c rank holds y k o p (whole ++ vs) q w j v (On' taken_up (Behind root comes)) (λ g st j2 x. rests y g st j2 x))

    -- a root that is no index of the team is a bad argument, and no step is made
    roots : (root comes : Parts Act) → Turns (numbers (sizes pieces ds) (sizes pieces ds + 1)) root → Turns (numbers (sizes pieces ds + 1) (sizes pieces ds + 2)) comes → Safe readable root → Safe readable comes
        → other.size ≡ 1 → times 1 ds ≡ 1 → (u : Sizes) (d : Core) → IsSound n me u d → IsAmong IsPlace pieces 0 ds vs d
        → On' (sub.rooted e collected pieces ds (sub.combined e collected op pieces ds root comes)) (On' (sub.settled e pieces ds stat) Ends) u d
    roots root comes hr hc qr qc size once' u d i f =
        subst (λ z. On' (fetching pieces ds 1 0 1) Tested u (with_values d z)) (sym f.values)
        (an_operand n me coarrays readable there e pieces ds 1 0 size once' whole vs Tested u d (f.many ∙ (let z : sizes pieces ds ≡ 0 + sizes pieces ds = omega arith in z))
        (λ v. test_fits n me coarrays readable 0 (whole ++ vs) (with_values d (found v ∷ (whole ++ vs))) (On' combined (On' (sub.settled e pieces ds stat) Ends) u) (On' refused (On' (sub.settled e pieces ds stat) Ends) u) refl
        (λ ws w. combines root comes hr hc qr qc u (with_values d ws) i (record { above = f.above; here = f.here; behind = f.behind; good = f.good; deep = f.deep; many = f.many; values = w }))
        (λ ws w. ending n me coarrays readable behind_turns (quiet_settled readable e pieces ds stat) vs u (with_values d (bad_argument ∷ ws)) i
        (subst (λ z. Stand (sizes pieces ds + 1) vs (bad_argument ∷ z)) (sym w)
        (stand_of (sizes pieces ds + 1) (bad_argument ∷ whole) vs (let m = f.many in let z : length (bad_argument ∷ whole) ≡ suc (length whole) = refl in omega arith))))))
      where
        whole : List ℤ
        whole = f.above ++ (f.here ++ f.behind)

        combined : Parts Act
        combined = sub.combined e collected op pieces ds root comes

        refused : Parts Act
        refused = sub.dropping_collected e (t.part (objects.Coarray c) ss t.no_selector) ▸ pushing bad_argument

        Tested : Sizes → Core → Type 0
        Tested = On' (doing (bounded a.is_index ∷ []) ▸ choosing combined refused) (On' (sub.settled e pieces ds stat) Ends)

        found : ℤ → ℤ
        found v = truth (is_index_of (length (members (with_values d (whole ++ vs)) (current_team (with_values d (whole ++ vs))))) v)

    -- all of it
    piece_turns : Turns (numbers 0 (place_size rank + 1)) piece.parts
    piece_turns = closes (part (subscripts_turns e ss h.0) ⨾ part (co_sectioned ss rank h.1 c) ⨾ acts ended) (omega arith)

    evaluates : (p : Parts Act) → ((u : Sizes) (d : Core) → IsSound n me u d → IsAmong IsPlace pieces 0 ds vs d → On' p (On' (sub.settled e pieces ds stat) Ends) u d)
        → (y : Sizes) (d : Core) → IsSound n me y d → d.values ≡ vs → On' (evaluating pieces ds ▸ p ▸ sub.settled e pieces ds stat) Ends y d
    evaluates p more y d i v =
        among n me coarrays readable IsPlace pieces 0 placed (each_turns pieces (piece_turns, (other_turns, (stat_placed e ds stat 2 has_stat, tt))))
        (λ k. quiet_piece readable e pieces k (both (quiet_subscripts readable e ss h.0 reads) (both (one tt) (one tt)), (other_quiet, (quiet_stat readable e stat ds 2 has_stat stat_reads, tt)))) ds once vs
        (On' (p ▸ sub.settled e pieces ds stat) Ends) y d i v more

    rootless_fits : (y : Sizes) (d : Core) → IsSound n me y d → d.values ≡ vs
        → On' (evaluating pieces ds ▸ sub.combined e collected op pieces ds (pushing (pos 0)) (pushing (pos 1)) ▸ sub.settled e pieces ds stat) Ends y d
    rootless_fits y d i v =
        evaluates (sub.combined e collected op pieces ds (pushing (pos 0)) (pushing (pos 1)))
        (combines (pushing (pos 0)) (pushing (pos 1)) (closes (part (pushed (pos 0))) (omega arith)) (closes (part (pushed (pos 1))) (omega arith)) (one tt) (one tt)) y d i v

    rooted_fits : other.size ≡ 1 → times 1 ds ≡ 1 → (comes : Parts Act) → Turns (numbers (sizes pieces ds + 1) (sizes pieces ds + 2)) comes → Safe readable comes → (y : Sizes) (d : Core) → IsSound n me y d → d.values ≡ vs
        → On' (evaluating pieces ds ▸ sub.rooted e collected pieces ds (sub.combined e collected op pieces ds (fetching pieces ds 1 0 1) comes) ▸ sub.settled e pieces ds stat) Ends y d
    rooted_fits size once' comes hc qc y d i v =
        let w = within pieces ds 1 once' in
        evaluates (sub.rooted e collected pieces ds (sub.combined e collected op pieces ds (fetching pieces ds 1 0 1) comes))
        (roots (fetching pieces ds 1 0 1) comes (closes (part (fetched_more pieces ds 1 0 1 (omega arith))) (omega arith)) hc (quiet_fetching readable e pieces ds 1 0 1) qc size once') y d i v

    root_turns : depth pieces ds 1 + 1 ≤ sizes pieces ds → Turns (numbers (sizes pieces ds + 1) (sizes pieces ds + 2)) (sub.root_test e pieces ds)
    root_turns at = closes (part (fetched_more pieces ds 1 1 1 at) ⨾ acts ended) (omega arith)

-- ---- the statements
-- the argument is a coarray
abbrev pub IsCoarrayPart : t.Designator → Type 0
IsCoarrayPart (t.part (objects.Coarray c) ss sel) = Unit {0}
IsCoarrayPart (t.part (objects.Local v) ss sel) = ⊥
IsCoarrayPart (t.part (objects.Constant m) ss sel) = ⊥

module _ (n me : ℕ) (coarrays : List Declared) (readable : ℕ → Bool) (there : IsOneOf n me) (e : Environment) where
  combine_of : (d : t.Designator) (kind : Kind) (rank : ℕ) (op : GatherOp) (root : t.OptionalExpression) (stat : t.OptionalResult) (ds : List ℕ) → IsCoarrayPart d → ranks.IsCollected e.program.procedures d rank → times 0 ds ≡ 1
      → ranks.IsOnceIfGiven e.program.procedures ds root 1 → ranks.IsStat e.program.procedures ds stat 2 → PartReads readable d → OptionalReads readable root → StatReads readable stat
      → Leave n me coarrays readable 0 (sub.combine e (sub.collected_piece e d rank ∷ sub.optional_piece e root ∷ sub.stat_piece e stat ∷ []) ds (record { variable = d; kind = kind; rank = rank }) op root stat)
  combine_of (t.part (objects.Coarray c) ss t.no_selector) kind rank op t.missing stat ds f h once g k w x r vs y d i v =
      rootless_fits n me coarrays readable there e c rank ss kind h w.0 w.1 (sub.optional_piece e t.missing) idle no_parts stat ds once k r op vs y d i v
  combine_of (t.part (objects.Coarray c) ss t.no_selector) kind rank op (t.given z) stat ds f h once g k w x r vs y d i v =
      let other = sub.optional_piece e (t.given z) in
      let ps = pieces n me coarrays readable there e c rank ss kind h w.0 w.1 other (scalar_turns e z g.0) (quiet_ranked readable e z 0 g.0 x) stat ds once k r op vs in
      rooted_fits n me coarrays readable there e c rank ss kind h w.0 w.1 other (scalar_turns e z g.0) (quiet_ranked readable e z 0 g.0 x) stat ds once k r op vs refl g.1 (sub.root_test e ps ds)
      (root_turns n me coarrays readable there e c rank ss kind h w.0 w.1 other (scalar_turns e z g.0) (quiet_ranked readable e z 0 g.0 x) stat ds once k r op vs (within ps ds 1 g.1)) (quiet_root_test readable e ps ds) y d i v
  combine_of (t.part (objects.Coarray c) ss (t.selector cs which st)) kind rank op root stat ds f h once g k w x r vs y d i v = absurd h
  combine_of (t.part (objects.Local v') ss sel) kind rank op root stat ds f h once g k w x r vs y d i v = absurd f
  combine_of (t.part (objects.Constant m) ss sel) kind rank op root stat ds f h once g k w x r vs y d i v = absurd f

  broadcast_of : (d : t.Designator) (kind : Kind) (rank : ℕ) (root : t.Expression) (stat : t.OptionalResult) (ds : List ℕ) → IsCoarrayPart d → ranks.IsCollected e.program.procedures d rank → times 0 ds ≡ 1
      → ranks.IsOfRank e.program.procedures root 0 → times 1 ds ≡ 1 → ranks.IsStat e.program.procedures ds stat 2 → PartReads readable d → ExpressionReads readable root → StatReads readable stat
      → Leave n me coarrays readable 0 (sub.broadcast e (sub.collected_piece e d rank ∷ sub.value_piece e root ∷ sub.stat_piece e stat ∷ []) ds (record { variable = d; kind = kind; rank = rank }) stat)
  broadcast_of (t.part (objects.Coarray c) ss t.no_selector) kind rank root stat ds f h once g once' k w x r vs y d i v =
      rooted_fits n me coarrays readable there e c rank ss kind h w.0 w.1 (sub.value_piece e root) (scalar_turns e root g) (quiet_ranked readable e root 0 g x) stat ds once k r gathers.Broadcast vs refl once' (pushing (pos 1))
      (closes (part (pushed (pos 1))) (omega arith)) (one tt) y d i v
  broadcast_of (t.part (objects.Coarray c) ss (t.selector cs which st)) kind rank root stat ds f h once g once' k w x r vs y d i v = absurd h
  broadcast_of (t.part (objects.Local v') ss sel) kind rank root stat ds f h once g once' k w x r vs y d i v = absurd f
  broadcast_of (t.part (objects.Constant m) ss sel) kind rank root stat ds f h once g once' k w x r vs y d i v = absurd f

  -- a collective on a coarray
  abbrev pub IsShared : s.IntrinsicSubroutine → Type 0
  IsShared (s.combine cc x root stat) = IsCoarrayPart x.variable
  IsShared (s.broadcast x root stat) = IsCoarrayPart x.variable
  IsShared i = ⊥

  pub shared_fits : (i : s.IntrinsicSubroutine) (ds : List ℕ) → IsShared i → ranks.IsSubroutine e.program.procedures i ds → SubroutineReads readable i → Leave n me coarrays readable 0 (sub.subroutine e i (sub.pieces_of e i) ds)
  shared_fits (s.combine cc x root stat) ds f h w = combine_of x.variable x.kind x.rank (sub.combination_of cc) root stat ds f h.0 h.1 h.2 h.3 w.0 w.1 w.2
  shared_fits (s.broadcast x root stat) ds f h w = broadcast_of x.variable x.kind x.rank root stat ds f h.0 h.1 h.2 h.3 h.4 w.0 w.1 w.2
  shared_fits i ds f h w = absurd f
