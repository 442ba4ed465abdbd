-- An inert step at the board leaves all other images' asks as ready as they were.
use Rattle.std.proofs.Common.{◌≡◌, ℕ, zero, suc, ◌-◌, ◌<◌, List, [], ◌∷◌, ◌++◌, length, refl, ap, sym, ◌∙◌, subst, arith, IsTrue, length-set}
use Rattle.std.specs.Prelude.{slice_index_or, slice_get, Some}
use Rattle.caf_base.specs.declared.place.Place.{Place}
use Rattle.caf_base.specs.declared.place.Place.TheVariants as places
use Rattle.caf_events.specs.declared.ask.Ask.{Ask}
use Rattle.caf_events.specs.declared.event.Event.{Event}
use Rattle.caf_events.specs.declared.event.Entry.{Entry}
use Rattle.caf_events.specs.Asks.{place_of}
use Rattle.inert_steps.specs.Inert.{IsInert}
use Rattle.core_runs.specs.Lists.{entry, list_at}
use Rattle.core_runs.specs.Moments.{Rules, Moment, with_item, ready_there, reply_there, board_with, Steps}
use Rattle.core_runs.proofs.Elsewhere.{ready_elsewhere}
use Rattle.image_core.specs.Outlooks.{LeavesOthers}
use Rattle.image_core.proofs.Turns.{new_event}

length_more : {A : Type 0} (xs : List A) (x : A) → length (xs ++ x ∷ []) ≡ suc (length xs)
length_more [] x = refl
length_more (y ∷ ys) x = ap suc (length_more ys x)

behind : {A : Type 0} (xs : List A) (x : A) → slice_get (xs ++ x ∷ []) (length xs) ≡ Some x
behind [] x = refl
behind (y ∷ ys) x = behind ys x

-- the last item of a list with one more
last_there : {A : Type 0} (xs : List A) (x : A) → slice_get (xs ++ x ∷ []) (length (xs ++ x ∷ []) - 1) ≡ Some x
last_there xs x =
    let q : length (xs ++ x ∷ []) - 1 ≡ length xs = (let l = length_more xs x in omega arith) in
    ap (slice_get (xs ++ x ∷ [])) q ∙ behind xs x

some_same : {A : Type 0} (x y : A) → Some x ≡ Some y → x ≡ y
some_same x y h = cc

pub length_with : {A : Type 0} (xs : List A) (n : ℕ) (x : A) → length (with_item xs n x) ≡ length xs
length_with xs zero x = refl
length_with xs (suc k) x = length-set xs k x

-- the last event of an image is that of the step that it made last
pub last_event : {C M B : Type 0} (r : Rules C M B) (m' : Moment C M B) (i : ℕ) (last : Event) → length m'.events ≡ length m'.configs → 0 < i
    → Some last ≡ slice_get (slice_index_or m'.events (i - 1) []) (length (slice_index_or m'.events (i - 1) []) - 1)
    → (m : Moment C M B) (e : Event) → Steps r m i e m' → last ≡ e
last_event r m' i last many low at_end m e s =
    let many_before : length m.events ≡ length m.configs = sym (ap length s.events ∙ length_with m.events i _) ∙ many ∙ ap length s.configs ∙ length_with m.configs i s.to in
    let q : i ≡ suc (i - 1) = omega arith in
    let now = new_event r m m' (i - 1) e many_before (subst (λ n. Steps r m n e m') q s) in
    some_same last e (at_end ∙ ap (λ es. slice_get es (length es - 1)) now ∙ last_there (list_at m.events (suc (i - 1))) e)

module _ {C M B : Type 0} (r : Rules C M B) (m' : Moment C M B) (i : ℕ) (last : Event) (many : length m'.events ≡ length m'.configs) (low : 0 < i)
    (at_end : Some last ≡ slice_get (slice_index_or m'.events (i - 1) []) (length (slice_index_or m'.events (i - 1) []) - 1))
    (inert : (h : List Entry) → m'.board_history ≡ h ++ entry i last ∷ [] → IsTrue (r.board_ready m'.board h i last.ask) → last.reply ≡ r.board_reply m'.board h i last.ask → IsInert r.board_ready m'.board h (entry i last)) where
  module _ (m : Moment C M B) (e : Event) (s : Steps r m i e m') (at_board : place_of e.ask ≡ places.Board) where
    is_last : last ≡ e
    is_last = last_event r m' i last many low at_end m e s

    history : m'.board_history ≡ m.board_history ++ entry i e ∷ []
    history = s.board_history ∙ ap (λ p. board_with p m.board_history (entry i e)) at_board

    inert_here : IsInert r.board_ready m'.board m.board_history (entry i e)
    inert_here =
        subst (λ f. IsInert r.board_ready m'.board m.board_history (entry i f)) is_last
        (inert m.board_history
        (subst (λ f. m'.board_history ≡ m.board_history ++ entry i f ∷ []) (sym is_last) history)
        (subst (λ f. IsTrue (r.board_ready m'.board m.board_history i f.ask)) (sym is_last)
        (subst (λ b. IsTrue (r.board_ready b m.board_history i e.ask)) (sym s.board) (subst (λ p. IsTrue (ready_there r m i e.ask p)) at_board s.due.ready)))
        (subst (λ f. f.reply ≡ r.board_reply m'.board m.board_history i f.ask) (sym is_last)
        (s.due.reply ∙ ap (reply_there r m i e.ask) at_board ∙ ap (λ b. r.board_reply b m.board_history i e.ask) (sym s.board))))

    beside : (j : ℕ) → (j ≡ i → ⊥) → (a : Ask) (q : Place) → ready_there r m' j a q ≡ ready_there r m j a q
    beside j apart a places.Own = refl
    beside j apart a places.Board =
        ap (λ h. r.board_ready m'.board h j a) history ∙ inert_here j a apart ∙ ap (λ b. r.board_ready b m.board_history j a) s.board
    beside j apart a (places.Memory owner) = ready_elsewhere r m m' i e s j a (places.Memory owner) (λ x. absurd (let z : places.Memory owner ≡ places.Board = x ∙ at_board in cc))

  pub leaves_others : LeavesOthers r i places.Board m'
  leaves_others = beside
