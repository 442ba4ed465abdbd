-- Files, lines and replies, written by hand and computed.
use Rattle.std.proofs.Common.{◌≡◌, ℕ, pos, true, false, List, [], ◌∷◌, ◌++◌, codes, refl, sym, true≢false}
use Rattle.std.specs.Fmt.{digits}
use Rattle.caf_base.specs.declared.span.Span.{Span}
use Rattle.caf_base.specs.declared.value.Value.TheVariants as values
use Rattle.caf_events.specs.declared.ask.Ask.{Ask}
use Rattle.caf_events.specs.declared.ask.Ask.TheVariants as asks
use Rattle.caf_events.specs.declared.reply.Reply.{Reply}
use Rattle.caf_events.specs.declared.reply.Reply.TheVariants as replies
use Rattle.caf_events.specs.declared.event.Entry.{Entry}
use Rattle.caf_events.specs.declared.round.Arriving.TheVariants as arrivings
use Rattle.trace_text.specs.Forms.{First, Second, trace_lines}
use Rattle.trace_forms.specs.Replies.{HasForm, IsStatusOf}
use Rattle.trace_forms.specs.Shown.{HasNumber}
use Rattle.trace_forms.specs.Files.{lines_of, is_trace_line, traced_lines, says_second, form_of}

-- ---- lines
two_lines : lines_of (codes "ab\nc\n") ≡ codes "ab\n" ∷ codes "c\n" ∷ []
two_lines = refl

last_without_its_end : lines_of (codes "\nab") ≡ codes "\n" ∷ codes "ab" ∷ []
last_without_its_end = refl

no_line : lines_of [] ≡ []
no_line = refl

with_a_blank : is_trace_line (codes "17 x\n") ≡ true
with_a_blank = refl

with_a_tab : is_trace_line (codes "1\t") ≡ true
with_a_tab = refl

digits_alone : is_trace_line (codes "17\n") ≡ false
digits_alone = refl

printed_line : is_trace_line (codes "1: 2\n") ≡ false
printed_line = refl

blank_in_front : is_trace_line (codes " 1 x\n") ≡ false
blank_in_front = refl

-- ---- the form of a file
says_256 : says_second (codes "trace 2 images 256\n") ≡ true
unfolding digits
says_256 = refl

says_257 : says_second (codes "trace 2 images 257\n") ≡ false
unfolding digits
says_257 = refl

says_0 : says_second (codes "trace 2 images 0\n") ≡ false
unfolding digits
says_0 = refl

leading_zero : says_second (codes "trace 2 images 02\n") ≡ false
unfolding digits
leading_zero = refl

line_in_front : form_of (codes "1: 2\n" ∷ codes "trace 2 images 2\n" ∷ codes "1 1 3 own memory > ok\n" ∷ []) ≡ Second
unfolding digits
line_in_front = refl

line_behind : form_of (codes "1 1 3 own memory > ok\n" ∷ codes "trace 2 images 2\n" ∷ []) ≡ First
unfolding digits
line_behind = refl

-- ---- a trace of two images that meet, after one of them wrote to its own cell
abbrev cell : Span
cell = record { coarray = 0; start = 0; dims = [] }

abbrev step : ℕ → ℕ → ℕ → Ask → Reply → Entry
step stamp image at ask reply =
    record { image = record { 0 = image }; event = record { ask = ask; reply = reply; stamp = stamp; line = at } }

abbrev trace : List Entry
trace =
    step 1 1 2 (asks.Write (record { 0 = 1 }) cell (values.Int (pos 1) ∷ [])) replies.Done
    ∷ step 2 1 3 (asks.Arrive (record { 0 = 1 }) arrivings.Sync) (replies.Round 1)
    ∷ step 3 2 3 (asks.Arrive (record { 0 = 1 }) arrivings.Sync) (replies.Round 1)
    ∷ step 4 1 3 (asks.Leave (record { 0 = 1 }) 1) (replies.Left (pos 0) [])
    ∷ []

abbrev names : List (List ℕ)
names = codes "x" ∷ []

first_form : trace_lines First names trace ≡ traced_lines (lines_of (
    codes "1: 2\n1 1 2 m1 write x:0 1 > ok\n2 1 3 board arrive 1 sync > round 1\n"
    ++ codes "3 2 3 board arrive 1 sync > round 1\n4 1 3 board leave 1 1 > 0\nend\n"))
unfolding digits
first_form = refl

second_form : trace_lines Second names trace ≡ traced_lines (lines_of (
    codes "trace 2 images 2\n1 1 2 m1 write x:0 1 > ok\n2 1 3 board arrive 1/-1 sync > round 1\n"
    ++ codes "3 2 3 board arrive 1/-1 sync > round 1\n4 1 3 board leave 1/-1 1 > 0\n"))
unfolding digits
second_form = refl

-- ---- teams with a team number
initial_team : HasNumber [] 1
initial_team = refl

team_never_formed : HasNumber trace 2 → ⊥
team_never_formed h = true≢false (sym h)

-- ---- replies
lock_got : HasForm (asks.Lock (record { 0 = 1 }) cell) (replies.Number (pos 0))
lock_got = record { answers = tt; status = refl }

lock_with_another_status : HasForm (asks.Lock (record { 0 = 1 }) cell) (replies.Number (pos 7)) → ⊥
lock_with_another_status h = true≢false (sym h.status)

wait_that_fails : IsStatusOf (asks.Wait (record { 0 = 1 }) cell 1) (pos 6001) → ⊥
wait_that_fails h = true≢false (sym h)

critical_of_a_failed_image : IsStatusOf (asks.Enter 1) (pos 6001)
critical_of_a_failed_image = refl

values_beside_a_status : HasForm (asks.Take (record { 0 = 1 }) 1) (replies.Taken (pos 6001) (values.Int (pos 1) ∷ []))
    → ⊥
values_beside_a_status h = (let none = h.status.1 in cc)
