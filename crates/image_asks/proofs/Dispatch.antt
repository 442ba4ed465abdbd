-- What ask steps come to, and where they are made, step by step.
use Rattle.std.proofs.Common.{◌≡◌, ℕ, zero, suc, ◌+◌, ◌<◌, ◌≤◌, List, [], ◌∷◌, length, false, refl, ap, sym, ◌∙◌, arith}
use Rattle.std.specs.Prelude.{cond, ◌==◌}
use Rattle.caf_base.specs.declared.place.Place.{Place}
use Rattle.caf_base.specs.declared.place.Place.TheVariants as places
use Rattle.caf_events.specs.declared.ask.Ask.TheVariants as asks
use Rattle.caf_events.specs.declared.reply.Reply.TheVariants as replies
use Rattle.walk_theory.specs.Language.{asking, stuck}
use Rattle.walk_theory.specs.Terms.{Found, found, at_fault}
use Rattle.image_acts.specs.Core.{Core, Array, Printing}
use Rattle.image_acts.specs.Taking.{Acted, found_in}
use Rattle.image_acts.specs.Teams.{current_team, members}
use Rattle.image_acts.specs.Operate.Asking.{cell_span, named}
use Rattle.image_acts.specs.Operate.Allocating.{bounds_size}
use Rattle.image_acts.specs.Operate.Printing.{text_of}
use Rattle.image_code.specs.declared.step.AskStep.{AskStep}
use Rattle.image_code.specs.declared.step.AskStep.TheVariants as asked
use Rattle.image_state.specs.Kept.{Kept}
use Rattle.image_asks.specs.declared.asks.Asking.TheVariants as askings
use Rattle.image_asks.specs.Asking.{ask_here, ComesTo, IsAsking, IsAskedAt}
use Rattle.image_asks.specs.Operands.{TakesNumbers, numbers_for, number_beneath, image_of}
use Rattle.image_asks.proofs.OperandLaws.{array_is, array_in}
use Rattle.image_asks.proofs.AccessAsks.{read_asks, read_missing, read_placed, row_missing, row_placed, write_asks, write_missing, write_placed}
use Rattle.image_asks.proofs.AllocationAsks.{allocate_asks, allocate_missing, allocate_placed, create_asks, create_missing, create_placed, deallocate_asks, deallocate_missing, deallocate_placed}
use Rattle.image_asks.proofs.AskLaws.{leave_missing, leave_placed}
use Rattle.image_asks.proofs.CellAsks.{atomic_comes, atomic_missing, atomic_placed, cell_comes, cell_missing, cell_placed, query_missing, query_placed, try_comes, try_missing, try_placed, wait_missing, wait_placed}
use Rattle.image_asks.proofs.CollectiveAsks.{gather_missing, gather_placed, take_placed}
use Rattle.image_asks.proofs.EndAsks.{error_stop_asks, error_stop_missing, error_stop_placed, stop_asks, stop_missing, stop_placed}
use Rattle.image_asks.proofs.TeamAsks.{change_asks, change_missing, change_placed, end_asks, end_missing, end_placed, failed_asks, failed_missing, failed_placed, form_asks, form_missing, form_placed, status_missing, status_placed, stopped_asks, stopped_missing, stopped_placed, sync_asks, sync_missing, sync_placed}

none_needed : (rank depth : ℕ) → cond (bounds_size rank == 0) 0 (depth + bounds_size rank) ≡ cond (rank == 0) 0 (depth + bounds_size rank)
none_needed zero depth = refl
none_needed (suc rank) depth =
    let all : (bounds_size (suc rank) == 0) ≡ false = grind (arith) in
    let some : (suc rank == 0) ≡ false = grind (arith) in
    ap (λ b. cond b 0 (depth + bounds_size (suc rank))) (all ∙ sym some)

-- operands that aren't there
pub missing : (m : Kept) (k : AskStep) → length m.core.values < numbers_for k → ComesTo (ask_here m k) askings.Stuck
missing m (asked.Read coarray rank) h = read_missing m coarray rank h
missing m (asked.Write coarray rank kind) h = write_missing m coarray rank kind h
missing m (asked.WriteArray coarray rank kind) h = row_missing m coarray rank kind h
missing m (asked.Create coarray depth rank) h = create_missing m coarray depth rank (rw (none_needed rank depth) h)
missing m (asked.Delete coarray) h = absurd (omega arith)
missing m (asked.Atomic op coarray kind) h = atomic_missing m op coarray kind h
missing m (asked.Lock coarray) h = cell_missing m (λ o start. asks.Lock o (cell_span coarray start)) h
missing m (asked.TryLock coarray) h = try_missing m coarray h
missing m (asked.Unlock coarray) h = cell_missing m (λ o start. asks.Unlock o (cell_span coarray start)) h
missing m (asked.Post coarray) h = cell_missing m (λ o start. asks.Post o (cell_span coarray start)) h
missing m (asked.Wait coarray) h = wait_missing m coarray h
missing m (asked.Query coarray) h = query_missing m coarray h
missing m asked.ArriveSync h = sync_missing m h
missing m asked.ArriveForm h = form_missing m h
missing m asked.ArriveChange h = change_missing m h
missing m asked.ArriveEnd h = end_missing m h
missing m (asked.ArriveAllocate n) h = allocate_missing m n h
missing m (asked.ArriveDeallocate n) h = deallocate_missing m n h
missing m asked.Leave h = leave_missing m m replies.Done h
missing m (asked.Gather op kind) h = gather_missing m op kind h
missing m asked.Take h = absurd (omega arith)
missing m asked.Pair h = absurd (omega arith)
missing m asked.Unpair h = absurd (omega arith)
missing m (asked.EnterCritical construct) h = absurd (omega arith)
missing m (asked.ExitCritical construct) h = absurd (omega arith)
missing m asked.Failed h = failed_missing m h
missing m asked.Stopped h = stopped_missing m h
missing m asked.Status h = status_missing m h
missing m asked.Say h = absurd (omega arith)
missing m asked.Memory h = absurd (omega arith)
missing m asked.Fail h = absurd (omega arith)
missing m asked.Stop h = stop_missing m h
missing m asked.ErrorStop h = error_stop_missing m h
missing m asked.EndProgram h = absurd (omega arith)

-- and that are
pub there : (m : Kept) (k : AskStep) → numbers_for k ≤ length m.core.values → TakesNumbers k → ComesTo (ask_here m k) askings.Asks
there m (asked.Read coarray rank) h p = read_asks m coarray rank h
there m (asked.Write coarray rank kind) h p = write_asks m coarray rank kind h
there m (asked.WriteArray coarray rank kind) h p = absurd p
there m (asked.Create coarray depth rank) h p = create_asks m coarray depth rank (rw (none_needed rank depth) h)
there m (asked.Delete coarray) h p = refl
there m (asked.Atomic op coarray kind) h p = atomic_comes m op coarray kind h
there m (asked.Lock coarray) h p = cell_comes m (λ o start. asks.Lock o (cell_span coarray start)) h
there m (asked.TryLock coarray) h p = try_comes m coarray h
there m (asked.Unlock coarray) h p = cell_comes m (λ o start. asks.Unlock o (cell_span coarray start)) h
there m (asked.Post coarray) h p = cell_comes m (λ o start. asks.Post o (cell_span coarray start)) h
there m (asked.Wait coarray) h p = absurd p
there m (asked.Query coarray) h p = absurd p
there m asked.ArriveSync h p = sync_asks m h
there m asked.ArriveForm h p = form_asks m h
there m asked.ArriveChange h p = change_asks m h
there m asked.ArriveEnd h p = end_asks m h
there m (asked.ArriveAllocate n) h p = allocate_asks m n h
there m (asked.ArriveDeallocate n) h p = deallocate_asks m n h
there m asked.Leave h p = absurd p
there m (asked.Gather op kind) h p = absurd p
there m asked.Take h p = absurd p
there m asked.Pair h p = absurd p
there m asked.Unpair h p = refl
there m (asked.EnterCritical construct) h p = refl
there m (asked.ExitCritical construct) h p = refl
there m asked.Failed h p = failed_asks m h
there m asked.Stopped h p = stopped_asks m h
there m asked.Status h p = absurd p
there m asked.Say h p = absurd p
there m asked.Memory h p = refl
there m asked.Fail h p = refl
there m asked.Stop h p = stop_asks m h
there m asked.ErrorStop h p = error_stop_asks m h
there m asked.EndProgram h p = refl

-- the places of asks
abbrev pub place_for : Kept → AskStep → Place
place_for m (asked.Read coarray rank) = places.Memory (image_of (number_beneath 0 m.core.values))
place_for m (asked.Write coarray rank kind) = places.Memory (image_of (number_beneath 0 m.core.values))
place_for m (asked.WriteArray coarray rank kind) = places.Memory (image_of (number_beneath 0 m.core.values))
place_for m (asked.Create coarray depth rank) = places.Memory (record { 0 = m.core.me })
place_for m (asked.Delete coarray) = places.Memory (record { 0 = m.core.me })
place_for m (asked.Atomic op coarray kind) = places.Memory (image_of (number_beneath 2 m.core.values))
place_for m (asked.Lock coarray) = places.Memory (image_of (number_beneath 0 m.core.values))
place_for m (asked.TryLock coarray) = places.Memory (image_of (number_beneath 0 m.core.values))
place_for m (asked.Unlock coarray) = places.Memory (image_of (number_beneath 0 m.core.values))
place_for m (asked.Post coarray) = places.Memory (image_of (number_beneath 0 m.core.values))
place_for m (asked.Wait coarray) = places.Memory (record { 0 = m.core.me })
place_for m (asked.Query coarray) = places.Memory (record { 0 = m.core.me })
place_for m asked.ArriveSync = places.Board
place_for m asked.ArriveForm = places.Board
place_for m asked.ArriveChange = places.Board
place_for m asked.ArriveEnd = places.Board
place_for m (asked.ArriveAllocate n) = places.Board
place_for m (asked.ArriveDeallocate n) = places.Board
place_for m asked.Leave = places.Board
place_for m (asked.Gather op kind) = places.Board
place_for m asked.Take = places.Board
place_for m asked.Pair = places.Board
place_for m asked.Unpair = places.Board
place_for m (asked.EnterCritical construct) = places.Board
place_for m (asked.ExitCritical construct) = places.Board
place_for m asked.Failed = places.Board
place_for m asked.Stopped = places.Board
place_for m asked.Status = places.Board
place_for m asked.Say = places.Own
place_for m asked.Memory = places.Own
place_for m asked.Fail = places.Own
place_for m asked.Stop = places.Board
place_for m asked.ErrorStop = places.Own
place_for m asked.EndProgram = places.Board

pair_placed : (m : Kept) (p : Place) → IsAsking (ask_here m asked.Pair) → p ≡ places.Board → IsAskedAt (ask_here m asked.Pair) p
pair_placed m p h e =
    let f : Array → Core → Acted = λ x d. asking (asks.Pair (named (members d (current_team d)) x.elements)) (λ r. d) in
    array_is m.core (λ x. IsAskedAt x p) f (array_in m.core f h) e

text_placed : (p : Place) (ps : List Printing) (c : Core) (o : Found (List ℕ)) → p ≡ places.Own → IsAsking (found_in o (λ text. asking (asks.Print text) (λ r. record c { printing = ps }))) → IsAskedAt (found_in o (λ text. asking (asks.Print text) (λ r. record c { printing = ps }))) p
text_placed p ps c (found text) e h = e
text_placed p ps c (at_fault k) e h = absurd h

abbrev said : List Printing → Core → Acted
said [] c = stuck
said (p ∷ ps) c = found_in (text_of p) (λ text. asking (asks.Print text) (λ r. record c { printing = ps }))

say_placed : (p : Place) (qs : List Printing) (c : Core) → p ≡ places.Own → IsAsking (said qs c) → IsAskedAt (said qs c) p
say_placed p [] c e h = absurd h
say_placed p (q ∷ ps) c e h = text_placed p ps c (text_of q) e h

pub placed : (m : Kept) (k : AskStep) (p : Place) → IsAsking (ask_here m k) → p ≡ place_for m k → IsAskedAt (ask_here m k) p
placed m (asked.Read coarray rank) p h e = read_placed m coarray rank p h e
placed m (asked.Write coarray rank kind) p h e = write_placed m coarray rank kind p h e
placed m (asked.WriteArray coarray rank kind) p h e = row_placed m coarray rank kind p h e
placed m (asked.Create coarray depth rank) p h e = create_placed m coarray depth rank p h e
placed m (asked.Delete coarray) p h e = e
placed m (asked.Atomic op coarray kind) p h e = atomic_placed m op coarray kind p h e
placed m (asked.Lock coarray) p h e = cell_placed m (λ o start. asks.Lock o (cell_span coarray start)) p h e
placed m (asked.TryLock coarray) p h e = try_placed m coarray p h e
placed m (asked.Unlock coarray) p h e = cell_placed m (λ o start. asks.Unlock o (cell_span coarray start)) p h e
placed m (asked.Post coarray) p h e = cell_placed m (λ o start. asks.Post o (cell_span coarray start)) p h e
placed m (asked.Wait coarray) p h e = wait_placed m coarray p h e
placed m (asked.Query coarray) p h e = query_placed m coarray p h e
placed m asked.ArriveSync p h e = sync_placed m p h e
placed m asked.ArriveForm p h e = form_placed m p e h
placed m asked.ArriveChange p h e = change_placed m p h e
placed m asked.ArriveEnd p h e = end_placed m p h e
placed m (asked.ArriveAllocate n) p h e = allocate_placed m n p h e
placed m (asked.ArriveDeallocate n) p h e = deallocate_placed m n p h e
placed m asked.Leave p h e = leave_placed m m replies.Done p h e
placed m (asked.Gather op kind) p h e = gather_placed m op kind p h e
placed m asked.Take p h e = take_placed m p h e
placed m asked.Pair p h e = pair_placed m p h e
placed m asked.Unpair p h e = e
placed m (asked.EnterCritical construct) p h e = e
placed m (asked.ExitCritical construct) p h e = e
placed m asked.Failed p h e = failed_placed m p h e
placed m asked.Stopped p h e = stopped_placed m p h e
placed m asked.Status p h e = status_placed m p e h
placed m asked.Say p h e = say_placed p m.core.printing m.core e h
placed m asked.Memory p h e = e
placed m asked.Fail p h e = e
placed m asked.Stop p h e = stop_placed m p h e
placed m asked.ErrorStop p h e = error_stop_placed m p h e
placed m asked.EndProgram p h e = e
