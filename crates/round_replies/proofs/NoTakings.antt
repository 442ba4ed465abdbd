-- A run of memories and rounds ends no SYNC IMAGES and takes no posts.
use Rattle.std.proofs.Common.{◌≡◌, ℕ, Bool, true, false, IsTrue, nat_eq, nat_le, ◌&&◌, cond, List, [], ◌∷◌, refl, ap, ◌∙◌, subst, arith}
use Rattle.std.specs.Prelude.{Option, Some, None}
use Rattle.std.specs.List.{cons_option}
use Rattle.std.proofs.lemmas.Bool.{and_parts, leb-true}
use Rattle.trace_theory.specs.Entries.{Each}
use Rattle.trace_theory.proofs.Filters.{each_filter}
use Rattle.caf_base.specs.declared.place.ImageNo.{ImageNo}
use Rattle.caf_base.specs.declared.span.Span.{Span}
use Rattle.caf_events.specs.declared.ask.Ask.{Ask}
use Rattle.caf_events.specs.declared.ask.Ask.TheVariants as asks
use Rattle.caf_events.specs.declared.reply.Reply.{Reply}
use Rattle.caf_events.specs.declared.event.Entry.{Entry}
use Rattle.object_rules.specs.Locks.{event_turn, event_from, event_after}
use Rattle.object_rules.specs.Cells.{MadeMemory, is_within}
use Rattle.object_rules.specs.MemoryRules.{is_event, is_cell_of, is_own, memory_ready}
use Rattle.object_rules.specs.Happenings.{Happening, images, happens, happened}
use Rattle.object_rules.specs.ImagePairs.{is_pair, pairs_of}
use Rattle.object_rules.specs.BoardRules.{is_image, can_come, board_ready}
use Rattle.core_runs.specs.CoreRuns.{at_board, of_memory}
use Rattle.round_replies.specs.Subsets.{is_of_rounds}
use Rattle.round_words.proofs.BoardWords.{happened_board}

abbrev pub IsOfRound : Entry → Type 0
IsOfRound x = is_of_rounds x.event.ask ≡ true

abbrev pairs_in : ℕ → Option Happening → Bool
pairs_in i None = false
pairs_in i (Some x) = is_pair i x

pair_at : (i j line : ℕ) (a : Ask) (r : Reply) → is_of_rounds a ≡ true → pairs_in j (happens images i line a r) ≡ false
pair_at i j line (asks.Pair named) r h = absurd (cc)
pair_at i j line (asks.Stop code) r h = refl
pair_at i j line asks.Gone r h = refl
pair_at i j line a r h = refl

pair_first : (i : ℕ) (o : Option Happening) (hs : List Happening) → pairs_in i o ≡ false → pairs_of i (cons_option o hs) ≡ pairs_of i hs
pair_first i None hs f = refl
pair_first i (Some x) hs f = rw f (omega arith)

no_pairs : (i : ℕ) (g : List Entry) → Each IsOfRound g → pairs_of i (happened images g) ≡ 0
no_pairs i [] h = refl
no_pairs i (e ∷ g) h = pair_first i (happens images e.image.0 e.event.line e.event.ask e.event.reply) (happened images g) (pair_at e.image.0 i e.event.line e.event.ask e.event.reply h.0) ∙ no_pairs i g h.1

both_zero : (b : Bool) (z : ℕ) → cond b z z ≡ z
both_zero true z = refl
both_zero false z = refl

-- neither EVENT POST nor EVENT WAIT
abbrev pub is_no_event : Ask → Bool
is_no_event (asks.Post owner span) = false
is_no_event (asks.Wait owner span threshold) = false
is_no_event a = true

event_turned : (c o : ℕ) (a : Ask) (r : Reply) → is_no_event a ≡ true → event_turn c o 0 a r ≡ 0
event_turned c o (asks.Post owner span) r h = absurd (cc)
event_turned c o (asks.Wait owner span threshold) r h = absurd (cc)
event_turned c o (asks.Create owner k cells) r h = both_zero (nat_eq k c) 0
event_turned c o (asks.Delete owner k) r h = both_zero (nat_eq k c) 0
event_turned c o a r h = refl

unposted : (c o : ℕ) (g : List Entry) → Each (λ x. is_no_event x.event.ask ≡ true) g → event_from c o 0 g ≡ 0
unposted c o [] h = refl
unposted c o (e ∷ g) h = ap (λ z. event_from c o z g) (event_turned c o e.event.ask e.event.reply h.0) ∙ unposted c o g h.1

too_low : (k : ℕ) → nat_le 1 k ≡ true → nat_le k 0 ≡ true → ⊥
too_low k low high = let a = leb-true 1 k low in let b = leb-true k 0 high in omega arith

module _ (w : List Entry) (of_w : Each IsOfRound w) (i : ℕ) where
  -- the end of SYNC IMAGES can't come
  pub no_unpair : (n : ℕ) → IsTrue (board_ready n (at_board w) i asks.Unpair) → ⊥
  no_unpair n h =
      let p = and_parts (is_image n i && nat_le 1 (pairs_of i (happened images (at_board w)))) (can_come n (at_board w) i asks.Unpair) h in
      let low = (and_parts (is_image n i) (nat_le 1 (pairs_of i (happened images (at_board w)))) p.0).1 in
      let none : nat_le 1 0 ≡ true = subst (λ z. nat_le 1 z ≡ true) (ap (pairs_of i) (happened_board images w) ∙ no_pairs i w of_w) low in
      let l = leb-true 1 0 none in
      omega arith

-- where no event is posted EVENT WAIT can't come
module _ (w : List Entry) (of_w : Each (λ x. is_no_event x.event.ask ≡ true) w) (i : ℕ) where
  pub no_wait : (m : MadeMemory) (owner : ℕ) (o : ImageNo) (span : Span) (threshold : ℕ) → IsTrue (memory_ready m (of_memory owner w) i (asks.Wait o span threshold)) → ⊥
  no_wait m owner o span threshold h =
      let p = of_memory owner w in
      let fits = is_own m i o && is_cell_of m is_event span && is_within m p span && nat_le 1 threshold in
      let parts = and_parts fits (nat_le threshold (event_after span.coarray span.start p)) h in
      let low = (and_parts (is_own m i o && is_cell_of m is_event span && is_within m p span) (nat_le 1 threshold) parts.0).1 in
      too_low threshold low (subst (λ z. nat_le threshold z ≡ true) (unposted span.coarray span.start p (each_filter (λ x. is_no_event x.event.ask ≡ true) _ w of_w)) parts.1)
