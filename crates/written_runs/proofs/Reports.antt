-- The text of a report with its trace is written for that trace.
use Rattle.std.proofs.Common.{◌≡◌, ◌∙◌, ℕ, zero, suc, ◌+◌, ◌≤◌, true, false, not, ◌==◌, cond, List, [], ◌∷◌, ◌++◌, length, take}
use Rattle.std.proofs.Common.{flat_map, refl, ap, sym, subst, arith, append_assoc, codes}
use Rattle.std.specs.Prelude.{Option, None, Some, slice_get, count_by, bytes_eq, ◌||◌, ◌&&◌}
use Rattle.std.specs.List.{list_all, concat, filter, slice_split}
use Rattle.std.proofs.lemmas.Slice.Eq.{bytes_eq-Decides}
use Rattle.std.proofs.lemmas.Bool.{and_parts, and_from}
use Rattle.std.proofs.lemmas.Bool.Decides.{nat_tests}
use Rattle.std.proofs.lemmas.List.Elements.{filter-append}
use Rattle.caf_text.specs.Numbers.{decimal_text}
use Rattle.caf_events.specs.declared.ask.Ask.{Ask}
use Rattle.caf_events.specs.declared.ask.Ask.TheVariants as asks
use Rattle.caf_events.specs.declared.event.Entry.{Entry}
use Rattle.caf_events.specs.declared.reply.Reply.{Reply}
use Rattle.caf_events.specs.declared.reply.Reply.TheVariants as replies
use Rattle.caf_events.specs.Asks.{place_of}
use Rattle.caf_report.specs.declared.report.End.{End}
use Rattle.caf_report.specs.declared.report.End.TheVariants as ends
use Rattle.caf_report.specs.declared.report.Final.{Final}
use Rattle.caf_report.specs.declared.report.Race.{Race}
use Rattle.caf_report.specs.declared.report.Report.{Report}
use Rattle.caf_report.specs.declared.report.Shown.{Shown}
use Rattle.caf_report.specs.declared.report.Waiting.{Waiting}
use Rattle.caf_report.specs.Ends.{status_of}
use Rattle.caf_report.specs.ReportText.{printed_line, printed_text, printed_by, printed_at, is_of, printed_from, place_text, against_text, ending_line, event_line, stuck_line, numbered_text, step_text, cell_text, race_line, end_text, final_text, final_line, summary_text, summary_line, trace_head, report_text}
use Rattle.trace_theory.specs.Entries.{Each}
use Rattle.trace_text.specs.Forms.{Form, First, Second, asked_team, lines_behind, trace_lines}
use Rattle.trace_text.specs.TraceText.{spaced, number_text, values_text, image_text, name_text, ask_text, reply_text, place_word, entry_line}
use Rattle.trace_text.specs.Words.{fault_word, ask_word}
use Rattle.trace_forms.specs.Names.{is_name_byte, IsName}
use Rattle.trace_forms.specs.Ranges.{HasText}
use Rattle.trace_forms.specs.Shown.{HaveTexts}
use Rattle.trace_forms.specs.Files.{lines_of, is_trace_line, traced_lines, images_line, says_images, says_second, is_second, form_of, LinesWritten, Written}
use Rattle.trace_forms.proofs.Decimals.{digits_of_number, some_of_number}
use Rattle.trace_forms.proofs.Lines.{line_is}
use Rattle.written_runs.specs.Shown.{ShowsTrace}
use Rattle.written_runs.proofs.Clean.{no_feed, Clean, clean_both, clean_cond, decimal_late, clean_number, clean_signed, split_clean}
use Rattle.written_runs.proofs.Pieces.{clean_fault, clean_word, clean_values, clean_name, clean_team, clean_ask, clean_reply, clean_place}
use Rattle.written_runs.proofs.Lines.{IsLineOf, lines_behind as lines_behind_all, Lined, lined_none, lined_one, lined_both, lined_flat, lined_each, lined_cond, not_traced, is_traced, none_traced, all_traced, second_behind, any_within, one_first, append_none}

-- ---- what images printed
line_printed : (image : ℕ) (line : List ℕ) → Clean line → Lined false (printed_line image line)
line_printed image line h =
    let number = number_text image in
    let front = number ++ codes ": " in
    let body = front ++ line in
    let shape : body ++ 10 ∷ [] ≡ number ++ 58 ∷ 32 ∷ (line ++ 10 ∷ []) =
    append_assoc front line (10 ∷ []) ∙ append_assoc number (codes ": ") (line ++ 10 ∷ []) in
    let is = ap is_trace_line shape ∙ not_traced number 58 (32 ∷ (line ++ 10 ∷ [])) (decimal_late image) refl refl in
    lined_one false body (clean_both front line (clean_both number (codes ": ") (clean_number image) refl) h) is

text_printed : (image : ℕ) (text : List ℕ) → Lined false (printed_text image text)
text_printed image text = lined_each false Clean (printed_line image) (line_printed image) (slice_split (λ b. b == 10) text) (split_clean text)

by_ask : (image : ℕ) (ask : Ask) → Lined false (printed_by image ask)
by_ask image (asks.Print text) = text_printed image text
by_ask image ask = lined_none false

at_entry : (image : ℕ) (e : Entry) → Lined false (printed_at image e)
at_entry image e = lined_cond false (e.image.0 == image) (printed_by image e.event.ask) (by_ask image e.event.ask)

all_printed : (image count : ℕ) (es : List Entry) → Lined false (printed_from image count es)
all_printed image zero es = lined_none false
all_printed image (suc count) es =
    lined_both false (flat_map (printed_at image) es) (printed_from (image + 1) count es) (lined_flat false (printed_at image) (at_entry image) es)
    (all_printed (image + 1) count es)

-- ---- final values
clean_final : (f : Final) → Clean (final_text f)
clean_final f = clean_cond f.is_allocated (values_text f.values) (codes "unallocated") (clean_values f.values) refl

line_final : (f : Final) → Clean f.name → Lined false (final_line f)
line_final f h =
    let one = codes "var" ++ spaced (number_text f.image.0) in
    let two = one ++ codes " " in
    let three = two ++ f.name in
    let four = three ++ codes " = " in
    let body = four ++ final_text f in
    lined_one false body
    (clean_both four (final_text f)
    (clean_both three (codes " = ")
    (clean_both two f.name (clean_both one (codes " ") (clean_both (codes "var") (spaced (number_text f.image.0)) refl (clean_number f.image.0)) refl) h) refl)
    (clean_final f)) refl

-- ---- the end
clean_at : (image line : ℕ) → Clean (place_text image line)
clean_at image line =
    let front = codes "image " ++ number_text image in
    clean_both (front ++ codes " line ") (number_text line)
    (clean_both front (codes " line ") (clean_both (codes "image ") (number_text image) refl (clean_number image)) refl) (clean_number line)

clean_against : (r : Reply) → Clean (against_text r)
clean_against (replies.Clash image line) = clean_at image.0 line
clean_against r = refl

-- two words, a place between them, and a text behind
clean_told : (word what text : List ℕ) (image line : ℕ) → Clean word → Clean what → Clean text → Clean (((word ++ place_text image line) ++ what) ++ text)
clean_told word what text image line p q r =
    let front = word ++ place_text image line in
    clean_both (front ++ what) text (clean_both front what (clean_both word (place_text image line) p (clean_at image line)) q) r

line_clash : (image line : ℕ) (r : Reply) → Lined false (codes "clash " ++ place_text image line ++ codes " against " ++ against_text r ++ codes "\n")
line_clash image line r = lined_one false (codes "clash " ++ place_text image line ++ codes " against " ++ against_text r)
    (clean_told (codes "clash ") (codes " against ") (against_text r) image line refl refl (clean_against r)) refl

line_ending : (image line : ℕ) (r : Reply) (a : Ask) → Lined false (ending_line image line r a)
line_ending image line r (asks.ErrorStop code) = lined_one false (codes "error stop " ++ place_text image line ++ codes " code " ++ decimal_text code)
    (clean_told (codes "error stop ") (codes " code ") (decimal_text code) image line refl refl (clean_signed code)) refl
line_ending image line r (asks.Fault kind) = lined_one false (codes "fault " ++ place_text image line ++ codes " " ++ fault_word kind)
    (clean_told (codes "fault ") (codes " ") (fault_word kind) image line refl refl (clean_fault kind)) refl
line_ending image line r (asks.LimitStatements number) = lined_one false (codes "limit " ++ place_text image line ++ codes " statements " ++ number_text number)
    (clean_told (codes "limit ") (codes " statements ") (number_text number) image line refl refl (clean_number number)) refl
line_ending image line r (asks.LimitWords number) = lined_one false (codes "limit " ++ place_text image line ++ codes " words " ++ number_text number)
    (clean_told (codes "limit ") (codes " words ") (number_text number) image line refl refl (clean_number number)) refl
line_ending image line r (asks.LimitStamp number) = lined_one false (codes "limit " ++ place_text image line ++ codes " stamp " ++ number_text number)
    (clean_told (codes "limit ") (codes " stamp ") (number_text number) image line refl refl (clean_number number)) refl
line_ending image line r a = line_clash image line r

line_event : (o : Option Entry) → Lined false (event_line o)
line_event None = lined_none false
line_event (Some e) = line_ending e.image.0 e.event.line e.event.reply e.event.ask

line_stuck : (w : Waiting) → Lined false (stuck_line w)
line_stuck w = lined_one false (codes "stuck " ++ place_text w.image.0 w.line ++ codes " " ++ ask_word w.ask)
    (clean_told (codes "stuck ") (codes " ") (ask_word w.ask) w.image.0 w.line refl refl (clean_word w.ask)) refl

clean_numbered : (image number line : ℕ) → Clean (numbered_text image number line)
clean_numbered image number line =
    let one = codes "image " ++ number_text image in
    let two = one ++ codes " event " in
    let three = two ++ number_text number in
    let four = three ++ codes " line " in
    clean_both four (number_text line)
    (clean_both three (codes " line ")
    (clean_both two (number_text number) (clean_both one (codes " event ") (clean_both (codes "image ") (number_text image) refl (clean_number image)) refl) (clean_number number)) refl)
    (clean_number line)

clean_step : (es : List Entry) (k : ℕ) (o : Option Entry) → Clean (step_text es k o)
clean_step es k None = refl
clean_step es k (Some e) = clean_numbered e.image.0 (count_by (is_of e.image.0) (take (k + 1) es)) e.event.line

module _ (names : List (List ℕ)) (clean : Each Clean names) where
  clean_cell : (r : Race) → Clean (cell_text names r)
  clean_cell r =
      let name = name_text names r.coarray in
      let one = name ++ codes ":" in
      let two = one ++ number_text r.offset in
      clean_both (two ++ codes " of image ") (number_text r.owner.0)
      (clean_both two (codes " of image ")
      (clean_both one (number_text r.offset) (clean_both name (codes ":") (clean_name names clean r.coarray) refl) (clean_number r.offset)) refl)
      (clean_number r.owner.0)

  line_race : (es : List Entry) (r : Race) → Lined false (race_line names es r)
  line_race es r =
      let first = step_text es r.first (slice_get es r.first) in
      let second = step_text es r.second (slice_get es r.second) in
      let one = codes "race on " ++ cell_text names r in
      let two = one ++ codes ": " in
      let three = two ++ first in
      let four = three ++ codes ", " in
      lined_one false (four ++ second)
      (clean_both four second
      (clean_both three (codes ", ")
      (clean_both two first (clean_both one (codes ": ") (clean_both (codes "race on ") (cell_text names r) refl (clean_cell r)) refl)
      (clean_step es r.first (slice_get es r.first))) refl) (clean_step es r.second (slice_get es r.second))) refl

  line_end : (es : List Entry) (end : End) → Lined false (end_text names es end)
  line_end es (ends.Raced r) = line_race es r
  line_end es ends.Finished = lined_none false
  line_end es (ends.ErrorStop k) = line_event (slice_get es k)
  line_end es (ends.RunFault k) = line_event (slice_get es k)
  line_end es (ends.Clash k) = line_event (slice_get es k)
  line_end es (ends.Limit k) = line_event (slice_get es k)
  line_end es (ends.Stuck waits) = lined_flat false stuck_line line_stuck waits

  -- ---- the lines of the trace
  entry_traced : (form : Form) (before : List Entry) (e : Entry) → HasText names e → IsLineOf true (entry_line (asked_team form before) names e)
  entry_traced form before e h =
      let of_team = asked_team form before in
      let st = number_text e.event.stamp in
      let im = image_text e.image in
      let ln = number_text e.event.line in
      let pl = place_word (place_of e.event.ask) in
      let a = ask_text of_team names e.event.ask in
      let r = reply_text e.event.reply in
      let one = st ++ 32 ∷ im in
      let two = one ++ 32 ∷ ln in
      let three = two ++ 32 ∷ pl in
      let four = three ++ 32 ∷ a in
      let five = four ++ codes " > " in
      let stamp = h.stamp in
      record {
        body = five ++ r;
        clean = clean_both five r
            (clean_both four (codes " > ")
            (clean_both three (32 ∷ a)
            (clean_both two (32 ∷ pl)
            (clean_both one (32 ∷ ln) (clean_both st (32 ∷ im) (clean_number e.event.stamp) (clean_number e.image.0)) (clean_number e.event.line))
            (clean_place (place_of e.event.ask))) (clean_ask of_team (clean_team form before) names clean e.event.ask)) refl)
            (clean_reply e.event.reply);
        whole = refl;
        is = ap is_trace_line (line_is st im ln pl a r)
            ∙ is_traced st _ (some_of_number e.event.stamp (omega arith)) (digits_of_number e.event.stamp (omega arith));
      }

  entries_traced : (form : Form) (before es : List Entry) → HaveTexts form names before es → Each (IsLineOf true) (lines_behind form names before es)
  entries_traced form before [] h = tt
  entries_traced form before (e ∷ es) h = (entry_traced form before e h.0, entries_traced form (before ++ e ∷ []) es h.2)

-- ---- the line before them
head_line : (n : ℕ) → IsLineOf false (trace_head n)
head_line n = record {
  body = codes "trace 2 images " ++ number_text n;
  clean = clean_both (codes "trace 2 images ") (number_text n) refl (clean_number n);
  whole = refl;
  is = refl;
}

says_itself : (n : ℕ) → says_images (trace_head n) n ≡ true
says_itself n = ap (λ b. b || bytes_eq (trace_head n) (images_line n)) ((bytes_eq-Decides (trace_head n) (images_line n ++ codes "\n")).1 refl)

head_second : (n : ℕ) → 1 ≤ n → n ≤ 256 → says_second (trace_head n) ≡ true
head_second n low high = any_within (says_images (trace_head n)) 1 256 n low (omega arith) (says_itself n)

-- ---- a file of lines of no trace, that line, the lines of a trace, and lines of no trace again
written_lines : (names : List (List ℕ)) (t : List Entry) (front back : List (List ℕ)) (head : List ℕ) → HaveTexts Second names [] t
    → Each (IsLineOf false) front → Each (IsLineOf true) (trace_lines Second names t) → Each (IsLineOf false) back → IsLineOf false head
    → says_second head ≡ true → LinesWritten (front ++ head ∷ (trace_lines Second names t ++ back)) names t
written_lines names t front back head h f m b k s =
    let lines = trace_lines Second names t in
    let rest = head ∷ (lines ++ back) in
    let ls = front ++ rest in
    let second : is_second ls ≡ true = second_behind front rest f (ap (λ c. c || (not (is_trace_line head) && is_second (lines ++ back))) s) in
    let form : Second ≡ form_of ls = sym (ap (λ c. cond c Second First) second) in
    let behind : traced_lines (lines ++ back) ≡ lines =
    filter-append is_trace_line lines back ∙ (λ i. all_traced lines m i ++ none_traced back b i) ∙ no_more lines in
    let headed : traced_lines rest ≡ lines = ap (λ c. cond c (head ∷ traced_lines (lines ++ back)) (traced_lines (lines ++ back))) k.is ∙ behind in
    let all : traced_lines ls ≡ lines = filter-append is_trace_line front rest ∙ ap (λ z. z ++ traced_lines rest) (none_traced front f) ∙ headed in
    record {
      lines = all ∙ ap (λ z. trace_lines z names t) form;
      texts = subst (λ z. HaveTexts z names [] t) form h;
    }
  where
    no_more : (ls : List (List ℕ)) → ls ++ [] ≡ ls
    no_more [] = refl
    no_more (l ∷ more) = ap (λ k. l ∷ k) (no_more more)

no_name_byte : (b : ℕ) → is_name_byte b ≡ true → no_feed b ≡ true
no_name_byte b e = grind (arith, nat_tests)

name_clean : (n : List ℕ) → list_all is_name_byte n ≡ true → Clean n
name_clean [] e = refl
name_clean (b ∷ bs) e =
    let k = and_parts (is_name_byte b) (list_all is_name_byte bs) e in
    and_from (no_feed b) (list_all no_feed bs) (no_name_byte b k.0) (name_clean bs k.1)

names_clean : (names : List (List ℕ)) → Each IsName names → Each Clean names
names_clean [] h = tt
names_clean (n ∷ ns) h = (name_clean n h.0.bytes, names_clean ns h.1)

finals_lined : (fs : List Final) → Each (λ f. IsName f.name) fs → Lined false (flat_map final_line fs)
finals_lined fs h = lined_each false (λ f. IsName f.name) final_line (λ f k. line_final f (name_clean f.name k.bytes)) fs h

summary_lined : (images events status : ℕ) → Lined false (summary_text images events status)
summary_lined images events status =
    let one = codes "images" ++ spaced (number_text images) in
    let two = one ++ codes " events" in
    let counts = two ++ spaced (number_text events) in
    let front = codes "summary " ++ counts in
    let three = front ++ codes " status" in
    lined_one false (three ++ spaced (number_text status))
    (clean_both three (spaced (number_text status))
    (clean_both front (codes " status")
    (clean_both (codes "summary ") counts refl
    (clean_both two (spaced (number_text events))
    (clean_both one (codes " events") (clean_both (codes "images") (spaced (number_text images)) refl (clean_number images)) refl)
    (clean_number events))) refl) (clean_number status)) refl

-- the lines of such a file
file_lines : (front back head : List ℕ) (lines : List (List ℕ)) (f : Lined false front) (b : Lined false back) → IsLineOf false head
    → Each (IsLineOf true) lines → lines_of (front ++ (head ++ (concat lines ++ back))) ≡ f.lines ++ head ∷ (lines ++ b.lines)
file_lines front back head lines f b k m =
    let last : lines_of back ≡ b.lines =
    ap lines_of (b.whole ∙ sym (append_none (concat b.lines))) ∙ lines_behind_all false b.lines [] b.each ∙ none_more b.lines in
    let inner : lines_of (concat lines ++ back) ≡ lines ++ b.lines = lines_behind_all true lines back m ∙ ap (λ z. lines ++ z) last in
    let rest = head ++ (concat lines ++ back) in
    ap (λ z. lines_of (z ++ rest)) f.whole ∙ lines_behind_all false f.lines rest f.each
    ∙ ap (λ z. f.lines ++ z) (one_first false head (concat lines ++ back) k ∙ ap (λ z. head ∷ z) inner)
  where
    none_more : (ls : List (List ℕ)) → ls ++ lines_of [] ≡ ls
    none_more [] = refl
    none_more (l ∷ more) = ap (λ z. l ∷ z) (none_more more)

pub written_report : (shown : Shown) (r : Report) → ShowsTrace shown r → Written (report_text shown r) r.names r.trace.entries
written_report shown r h =
    let es = r.trace.entries in
    let clean = names_clean r.names h.names.each in
    let printed = printed_from 1 r.images es in
    let finals = cond shown.vars (flat_map final_line r.finals) [] in
    let front = printed ++ finals in
    let lines = trace_lines Second r.names es in
    let head = trace_head r.images in
    let traced = head ++ concat lines in
    let end = end_text r.names es r.end in
    let summary = cond shown.summary (summary_line r) [] in
    let back = end ++ summary in
    let f = lined_both false printed finals (all_printed 1 r.images es) (lined_cond false shown.vars (flat_map final_line r.finals) (finals_lined r.finals h.finals)) in
    let b = lined_both false end summary (line_end r.names clean es r.end) (lined_cond false shown.summary (summary_line r) (summary_lined r.images (length es) (status_of r.end))) in
    let m = entries_traced r.names clean Second [] es h.texts in
    let whole : report_text shown r ≡ front ++ (head ++ (concat lines ++ back)) =
    ap (λ c. ((front ++ cond c traced []) ++ end) ++ summary) h.trace ∙ append_assoc (front ++ traced) end summary
    ∙ append_assoc front traced back ∙ ap (λ z. front ++ z) (append_assoc head (concat lines) back) in
    let ls = ap lines_of whole ∙ file_lines front back head lines f b (head_line r.images) m in
    subst (λ z. LinesWritten z r.names es) (sym ls)
    (written_lines r.names es f.lines b.lines head h.texts f.each m b.each (head_line r.images) (head_second r.images h.some h.most))
