-- What a line can show, as tests: each is true exactly where what Ranges and Replies say of it holds.
use Rattle.std.specs.Prelude.{ℕ, ℤ, pos, negsuc, Bool, true, false, ◌&&◌, ◌||◌, nat_eq, nat_le, nat_lt, List, length}
use Rattle.std.specs.List.{list_all, list_any}
use Rattle.std.specs.Ordering.{int_eq}
use Rattle.caf_base.specs.declared.place.ImageNo.{ImageNo}
use Rattle.caf_base.specs.declared.span.Span.{Span}
use Rattle.caf_base.specs.declared.value.Value.{Value}
use Rattle.caf_base.specs.declared.value.Value.TheVariants as values
use Rattle.caf_events.specs.declared.ask.Ask.{Ask}
use Rattle.caf_events.specs.declared.ask.Ask.TheVariants as asks
use Rattle.caf_events.specs.declared.event.Entry.{Entry}
use Rattle.caf_events.specs.declared.reply.FormedTeam.{FormedTeam}
use Rattle.caf_events.specs.declared.reply.Reply.{Reply}
use Rattle.caf_events.specs.declared.reply.Reply.TheVariants as replies
use Rattle.caf_events.specs.declared.round.Allotted.{Allotted}
use Rattle.caf_events.specs.declared.round.Arriving.{Arriving}
use Rattle.caf_events.specs.declared.round.Arriving.TheVariants as arrivings
use Rattle.object_rules.specs.SpanTests.{is_span}
use Rattle.trace_forms.specs.Replies.{statuses_of}
use Rattle.trace_reader.specs.Kinds.{kind_of, is_of_kind}

-- ---- numbers, names and what is made of them
abbrev pub is_half : ℕ → Bool
is_half n = nat_le n 4294967295

abbrev pub is_long : ℕ → Bool
is_long n = nat_le n 18446744073709551615

abbrev pub is_signed : ℤ → Bool
is_signed (pos n) = nat_le n 9223372036854775807
is_signed (negsuc n) = nat_le n 9223372036854775807

abbrev pub is_signed_half : ℤ → Bool
is_signed_half (pos n) = nat_le n 2147483647
is_signed_half (negsuc n) = nat_le n 2147483647

abbrev pub is_image : ImageNo → Bool
is_image image = is_half image.0

abbrev pub is_value : Value → Bool
is_value (values.Int v) = is_signed v
is_value (values.Bool b) = true

abbrev pub are_bounds : ℤ × ℤ → Bool
are_bounds b = is_signed b.0 && is_signed b.1

abbrev pub is_dimension : ℕ × ℤ → Bool
is_dimension d = is_half d.0 && is_signed_half d.1

abbrev pub has_name : List (List ℕ) → ℕ → Bool
has_name names coarray = is_half coarray && nat_lt coarray (length names)

abbrev pub shows_span : List (List ℕ) → Span → Bool
shows_span names span =
    nat_le (length span.dims) 3 && is_half span.start && has_name names span.coarray
    && list_all is_dimension span.dims && is_span span

-- ---- asks
abbrev pub shows_allotted : List (List ℕ) → Allotted → Bool
shows_allotted names a =
    nat_le (length a.dims) 3 && nat_le (length a.codims) 2 && has_name names a.coarray
    && list_all are_bounds a.dims && list_all are_bounds a.codims && is_signed a.last

abbrev pub shows_arriving : List (List ℕ) → Arriving → Bool
shows_arriving names (arrivings.Form number new_index) = is_signed number && is_signed new_index
shows_arriving names (arrivings.Allocate list) = list_all (shows_allotted names) list
shows_arriving names (arrivings.Deallocate list) = list_all (has_name names) list
shows_arriving names arriving = true

abbrev pub shows_ask : List (List ℕ) → Ask → Bool
shows_ask names (asks.Read owner span) = is_half owner.0 && shows_span names span
shows_ask names (asks.Write owner span vs) = is_half owner.0 && shows_span names span && list_all is_value vs
shows_ask names (asks.Create owner coarray cells) = is_half owner.0 && has_name names coarray && is_half cells
shows_ask names (asks.Delete owner coarray) = is_half owner.0 && has_name names coarray
shows_ask names (asks.Atomic owner op span x y) =
    is_half owner.0 && shows_span names span && is_value x && is_value y
shows_ask names (asks.Lock owner span) = is_half owner.0 && shows_span names span
shows_ask names (asks.TryLock owner span) = is_half owner.0 && shows_span names span
shows_ask names (asks.Unlock owner span) = is_half owner.0 && shows_span names span
shows_ask names (asks.Post owner span) = is_half owner.0 && shows_span names span
shows_ask names (asks.Wait owner span threshold) = is_half owner.0 && shows_span names span && is_long threshold
shows_ask names (asks.Query owner span) = is_half owner.0 && shows_span names span
shows_ask names (asks.Mark owner) = is_half owner.0
shows_ask names (asks.Free owner span) = is_half owner.0 && shows_span names span
shows_ask names (asks.Arrive team arriving) = is_half team.0 && shows_arriving names arriving
shows_ask names (asks.Leave team round) = is_half team.0 && is_long round
shows_ask names (asks.Gather team op root kind vs) = is_half team.0 && is_half root && list_all is_value vs
shows_ask names (asks.Take team round) = is_half team.0 && is_long round
shows_ask names (asks.Pair images) = list_all is_image images
shows_ask names (asks.Enter construct) = is_half construct
shows_ask names (asks.Exit construct) = is_half construct
shows_ask names (asks.Stop code) = is_signed code
shows_ask names (asks.Failed team) = is_half team.0
shows_ask names (asks.Stopped team) = is_half team.0
shows_ask names (asks.Status team index) = is_half team.0 && is_half index
shows_ask names (asks.ErrorStop code) = is_signed code
shows_ask names (asks.LimitStatements number) = is_long number
shows_ask names (asks.LimitWords number) = is_long number
shows_ask names (asks.LimitStamp number) = is_long number
shows_ask names ask = true

-- ---- replies
abbrev pub shows_team : FormedTeam → Bool
shows_team t = is_half t.team.0 && is_signed t.number && list_all is_image t.members

abbrev pub shows_reply : Reply → Bool
shows_reply (replies.Values vs) = list_all is_value vs
shows_reply (replies.Old value) = is_value value
shows_reply (replies.Number status) = is_signed_half status
shows_reply (replies.Count count) = is_long count
shows_reply (replies.Round round) = is_long round
shows_reply (replies.Clash image line) = is_half image.0 && is_half line
shows_reply (replies.Indices indices) = list_all is_half indices
shows_reply (replies.Taken status vs) = is_signed_half status && list_all is_value vs
shows_reply (replies.Left status teams) = is_signed_half status && list_all shows_team teams
shows_reply reply = true

-- ---- the forms of replies
-- the ask is answered that there is nothing to tell
abbrev pub is_done : Ask → Bool
is_done (asks.Write owner span vs) = true
is_done (asks.Create owner coarray cells) = true
is_done (asks.Delete owner coarray) = true
is_done (asks.Mark owner) = true
is_done (asks.Free owner span) = true
is_done (asks.Pair images) = true
is_done (asks.Exit construct) = true
is_done asks.Gone = true
is_done (asks.Stop code) = true
is_done (asks.Print text) = true
is_done asks.Memory = true
is_done asks.Fail = true
is_done (asks.ErrorStop code) = true
is_done (asks.Fault kind) = true
is_done (asks.LimitStatements number) = true
is_done (asks.LimitWords number) = true
is_done (asks.LimitStamp number) = true
is_done ask = false

-- it can be answered that the owner of the memory has failed
abbrev pub may_be_dead : Ask → Bool
may_be_dead (asks.Read owner span) = true
may_be_dead (asks.Write owner span vs) = true
may_be_dead (asks.Atomic owner op span x y) = true
may_be_dead (asks.Free owner span) = true
may_be_dead ask = false

-- it can be answered that the coarray isn't there
abbrev pub may_be_absent : Ask → Bool
may_be_absent (asks.Read owner span) = true
may_be_absent (asks.Write owner span vs) = true
may_be_absent (asks.Atomic owner op span x y) = true
may_be_absent (asks.Lock owner span) = true
may_be_absent (asks.TryLock owner span) = true
may_be_absent (asks.Unlock owner span) = true
may_be_absent (asks.Post owner span) = true
may_be_absent (asks.Free owner span) = true
may_be_absent ask = false

abbrev pub is_atomic : Ask → Bool
is_atomic (asks.Atomic owner op span x y) = true
is_atomic ask = false

abbrev pub is_try_lock : Ask → Bool
is_try_lock (asks.TryLock owner span) = true
is_try_lock ask = false

-- the reply has one of the forms that answer the ask
abbrev pub is_answered : Ask → Reply → Bool
is_answered ask replies.Done = is_done ask
is_answered ask replies.Dead = may_be_dead ask
is_answered ask replies.Absent = may_be_absent ask
is_answered ask replies.Overflow = is_atomic ask
is_answered ask replies.Busy = is_try_lock ask
is_answered ask reply = is_of_kind (kind_of ask) reply

abbrev pub is_status_of : Ask → ℤ → Bool
is_status_of ask status = list_any (int_eq status) (statuses_of ask)

abbrev pub comes_with : ℤ → List Value → Bool
comes_with status vs = int_eq status (pos 0) || nat_eq (length vs) 0

abbrev pub has_status_of : Ask → Reply → Bool
has_status_of ask (replies.Number status) = is_status_of ask status
has_status_of ask (replies.Taken status vs) = is_status_of ask status && comes_with status vs
has_status_of ask (replies.Left status teams) = is_status_of ask status
has_status_of ask reply = true

abbrev pub has_form : Ask → Reply → Bool
has_form ask reply = is_answered ask reply && has_status_of ask reply

-- ---- entries
abbrev pub shows_exchange : List (List ℕ) → Ask → Reply → Bool
shows_exchange names ask reply = shows_ask names ask && shows_reply reply && has_form ask reply

abbrev pub shows_entry : List (List ℕ) → Entry → Bool
shows_entry names e =
    is_long e.event.stamp && is_half e.image.0 && is_half e.event.line
    && shows_exchange names e.event.ask e.event.reply
