-- What a scan has read stands in the content, up to where it has come.
use Rattle.std.proofs.Common.{inl, inr, ◌≡◌, ℕ, zero, suc, ◌+◌, ◌-◌, ◌<◌, Bool, true, false, cond, ◌&&◌, List, [], ◌∷◌, ◌++◌, Option, None, Some, length}
use Rattle.std.proofs.Common.{take, drop, fold, refl, sym, ap, ◌∙◌, subst, arith}
use Rattle.parse_written.proofs.Prelude.{and_parts, AreCodes, AreWritten, AsCall, AsLinked, begins_with, bytes_eq-Decides, codes, codes_of, common_steps}
use Rattle.parse_written.proofs.Prelude.{cond_both, Constructs, Data, Delimiters, drop-codes_of, EndsLinked, eqb-true, Found, has_span_size, here_fits}
use Rattle.parse_written.proofs.Prelude.{InlineCode, InlineContext, is_eol, is_marker, Item, Leaf, leaf_here, leaf_tokens, linked_start, LinkTail, of_marker}
use Rattle.parse_written.proofs.Prelude.{or_cases, ParseOptions, Run, run_size, spans_from, text_before, Token, WhereSome, with_spans, ◌==◌}
use Rattle.std.specs.Option.{option_map}
use Rattle.definition_inline.specs.Attention.{run_at}
use Rattle.definition_inline.specs.GfmLabelStartFootnote.{starts_call, called_label, call_or_link}
use Rattle.definition_inline.specs.LabelEnd.{label_end_at, LinkOrCall, Leads, Calls, link_or_image}
use Rattle.definition_inline.specs.Scan.{LabelStart, LinkStart, ImageStart, starts_image, starts_link, label_start_at}
use Rattle.definition_inline.specs.Scan.{start_bytes, start_more, start_tokens, may_form, started_kind, formed_part, Text, text, OpenLabel, Reading, reading}
use Rattle.definition_inline.specs.Scan.{with_plain_start, Step, Next, data_step, ended_step, formed_at, ended_by, label_end_step, last_step, label_step}
use Rattle.definition_inline.specs.Scan.{run_step, leaf_step, step, and_then, scan, whole_text}
use Rattle.parse_written.proofs.Codes.{codes_both, codes_dropped, text_between, size_of_one, run_marks, run_stops}
use Rattle.parse_written.proofs.Between.{byte_written, IsRunBetween, AreRead, NoTokens, OneRun, reads_both, one_part, token_codes}
use Rattle.parse_written.proofs.Leaves.{codes_of_take, bytes_read, LiteralsRead, leaf_read, bare_inline}
use Rattle.parse_written.proofs.Spans.{spans_written}

-- what is taken of a content, of which the first code is taken already
taken_more : (n : ℕ) (c : InlineCode) (cs : List InlineCode) → 0 < n → drop n (c ∷ cs) ≡ drop (n - 1) cs
taken_more zero c cs some = absurd (omega arith)
taken_more (suc n) c cs some = ap (λ k. drop k cs) (omega arith)

-- ---- label starts

begins_codes : (front : List ℕ) (content : List InlineCode) → begins_with front (codes_of content) ≡ true → AreCodes front content (drop (length front) content)
begins_codes front content begins =
    let n = length front in
    let same : front ≡ take n (codes_of content) = (bytes_eq-Decides front (take n (codes_of content))).0 begins in
    subst (λ xs. AreCodes xs content (drop n content)) (codes_of_take n content ∙ sym same) (codes_dropped n content)

bracket_first : (content to : List InlineCode) → AreCodes (codes "[^") content to → AreCodes (codes "[") content (drop 1 content)
bracket_first [] to p = absurd p
bracket_first (c ∷ cs) to p = (p.0, refl)

image_begins : (on : Constructs) (content : List ℕ) → starts_image on content ≡ true → begins_with (codes "![") content ≡ true
image_begins on content starts = grind (arith, common_steps)

call_begins : (on : Constructs) (content : List ℕ) → starts_call on content ≡ true → begins_with (codes "[^") content ≡ true
call_begins on content starts = grind (arith, common_steps)

link_begins : (on : Constructs) (content : List InlineCode) → starts_link on (codes_of content) ≡ true → AreCodes (codes "[") content (drop 1 content)
link_begins on content starts =
    elim (or_cases (on.label_start_link && begins_with (codes "[") (codes_of content)) (starts_call on (codes_of content)) starts) [
      | inl link ↦ begins_codes (codes "[") content (and_parts on.label_start_link (begins_with (codes "[") (codes_of content)) link).1
      | inr call ↦ bracket_first content (drop 2 content) (begins_codes (codes "[^") content (call_begins on (codes_of content) call))
    ]

-- the codes of a label start
start_codes : (on : Constructs) (content : List InlineCode)
    → WhereSome (λ start. AreCodes (start_bytes start) content (drop (1 + start_more start) content)) (label_start_at on (codes_of content))
start_codes on content =
    let Stands : Option LabelStart → Type 0 =
    WhereSome (λ (start : LabelStart). AreCodes (start_bytes start) content (drop (1 + start_more start) content)) in
    let cs = codes_of content in
    cond_both (starts_image on cs) (Some ImageStart) (cond (starts_link on cs) (Some LinkStart) None) Stands
    (λ e. begins_codes (codes "![") content (image_begins on cs e))
    (λ _. cond_both (starts_link on cs) (Some LinkStart) None Stands (λ e. link_begins on content e) (λ _. tt))

-- the same of the link or the image that it starts
linked_codes : (start : LabelStart) (a b : List InlineCode) → AreCodes (start_bytes start) a b → AreCodes (linked_start (started_kind start)) a b
linked_codes LinkStart a b is = is
linked_codes ImageStart a b is = is

-- a label start as text
start_read : (context : InlineContext) (start : LabelStart) (a b : List InlineCode) → AreCodes (start_bytes start) a b
    → AreRead context (start_tokens start) a b
start_read context LinkStart a b is = bytes_read context (codes "[") a b is (refl, tt)
start_read context ImageStart a b is = bytes_read context (codes "![") a b is (refl, (refl, tt))

-- ---- runs

run_here : (options : ParseOptions) (c : InlineCode) (cs : List InlineCode)
    → WhereSome (λ run. IsRunBetween options run (c ∷ cs) (drop run.left (c ∷ cs)) × (0 < run.left)) (run_at options (c ∷ cs))
run_here options c cs =
    let one : run_size c.code (c ∷ cs) ≡ suc (run_size c.code cs) = size_of_one c.code c cs refl in
    cond_both (is_marker options c.code) (Some _) None
    (WhereSome (λ (run : Run). IsRunBetween options run (c ∷ cs) (drop run.left (c ∷ cs)) × (0 < run.left)))
    (λ marker. (
      record {
        marks = run_marks c.code (c ∷ cs);
        stops = run_stops c.code (c ∷ cs);
        inline = of_marker options (λ code. is_eol code ≡ false) (λ _. refl) (λ _. refl) (λ _. refl) (λ _. refl) c.code marker;
        marker = marker;
        fits = λ opens. (and_parts (has_span_size options c.code (run_size c.code (c ∷ cs))) _ opens).0;
      },
      omega arith,
    )) (λ _. tt)

-- ---- what a `]` forms

-- what is formed by a text with what follows it
abbrev Forms : InlineContext → LabelStart → List ℕ → List ℕ → LinkOrCall → Type 0
Forms context start between rest (Leads tail) = label_end_at context.is_defined between rest ≡ Some tail
Forms context start between rest (Calls label) = (start ≡ LinkStart) × (between ≡ 94 ∷ label)

tail_forms : (context : InlineContext) (start : LabelStart) (between rest : List ℕ) (o : Option LinkTail) → label_end_at context.is_defined between rest ≡ o
    → WhereSome (Forms context start between rest) (option_map Leads o)
tail_forms context start between rest None is = tt
tail_forms context start between rest (Some tail) is = is

called_after : (on : Constructs) (is_footnote : List ℕ → Bool) (between : List ℕ)
    → WhereSome (λ label. between ≡ 94 ∷ label) (called_label on is_footnote between)
called_after on is_footnote [] = tt
called_after on is_footnote (c ∷ label) =
    cond_both _ (Some label) None (WhereSome (λ (text : List ℕ). c ∷ label ≡ 94 ∷ text))
    (λ e. ap (λ code. code ∷ label) (let is : c ≡ 94 = grind (arith, common_steps, e) in is)) (λ _. tt)

call_forms : (context : InlineContext) (between rest : List ℕ) (o : Option (List ℕ)) → WhereSome (λ label. between ≡ 94 ∷ label) o
    → WhereSome (Forms context LinkStart between rest) (call_or_link context.options.constructs context.is_defined between rest o)
call_forms context between rest (Some label) is = (refl, is)
call_forms context between rest None is =
    cond_both context.options.constructs.label_start_link (link_or_image context.is_defined between rest) None
    (WhereSome (Forms context LinkStart between rest))
    (λ _. tail_forms context LinkStart between rest (label_end_at context.is_defined between rest) refl) (λ _. tt)

all_form : (context : InlineContext) (start : LabelStart) (between rest : List ℕ)
    → WhereSome (Forms context start between rest) (formed_at context start between rest)
all_form context LinkStart between rest =
    call_forms context between rest (called_label context.options.constructs context.is_footnote between)
    (called_after context.options.constructs context.is_footnote between)
all_form context ImageStart between rest = tail_forms context ImageStart between rest (label_end_at context.is_defined between rest) refl

-- ---- the scan

module _ (context : InlineContext) (literals : LiteralsRead context) (start : List InlineCode) where
  -- what is read from the start to a place: the tokens after the innermost label start that is open, and those before it
  abbrev IsOpen : List OpenLabel → List Token → List InlineCode → Type 0
  IsOpen [] ts here = AreRead context ts start here
  IsOpen (label ∷ others) ts here =
      (at : List InlineCode) × (inside : List InlineCode) × AreCodes (start_bytes label.start) at inside × (label.from ≡ codes_of inside)
      × IsOpen others label.outer.tokens at × AreRead context ts inside here

  more_open : (labels : List OpenLabel) (ts more : List Token) (a b : List InlineCode) → IsOpen labels ts a → AreRead context more a b
      → IsOpen labels (ts ++ more) b
  more_open [] ts more a b h p = reads_both context ts more start a b h p
  more_open (label ∷ others) ts more a b (at, inside, first, from, around, here) p =
      (at, inside, first, from, around, reads_both context ts more inside a b here p)

  module _ (c : InlineCode) (cs : List InlineCode) where
    abbrev StepFits : Step → Type 0
    StepFits (Next k next) = IsOpen next.open_labels next.now.tokens (drop k cs)

    -- a label start that forms nothing, and the text after it
    plain_start : (label : OpenLabel) (others : List OpenLabel) (ts : List Token) (at inside b : List InlineCode) → AreCodes (start_bytes label.start) at inside
        → IsOpen others label.outer.tokens at → AreRead context ts inside b → IsOpen others (label.outer.tokens ++ (start_tokens label.start ++ ts)) b
    plain_start label others ts at inside b first around here =
        more_open others label.outer.tokens (start_tokens label.start ++ ts) at b around
        (reads_both context (start_tokens label.start) ts at inside b (start_read context label.start at inside first) here)

    bracket : c.code ≡ 93 → AreRead context (Item (Leaf (Data 93)) ∷ []) (c ∷ cs) cs
    bracket is = bytes_read context (93 ∷ []) (c ∷ cs) cs (is, refl) (refl, tt)

    module _ (closes : c.code ≡ 93) (label : OpenLabel) (others : List OpenLabel) (inner : Text) (at inside : List InlineCode)
        (first : AreCodes (start_bytes label.start) at inside) (around : IsOpen others label.outer.tokens at)
        (here : AreRead context inner.tokens inside (c ∷ cs)) where
      formed_fits : (found : LinkOrCall) → Forms context label.start (text_before (codes_of inside) (codes_of (c ∷ cs))) (codes_of cs) found
          → StepFits (ended_step label others inner (Some found))
      formed_fits (Leads tail) forms =
          let kids = spans_written context inner.tokens inside (c ∷ cs) here in
          let ends : EndsLinked context tail.target inside (c ∷ cs) (drop tail.size cs) =
          record { rest = cs; bracket = (closes, refl); size = tail.size; tail = forms; after = refl } in
          let opening = linked_codes label.start at inside first in
          let linked =
          AsLinked (started_kind label.start) tail.target (with_spans inner.tokens) at inside (c ∷ cs) (drop tail.size cs) opening kids ends in
          more_open others label.outer.tokens (Item (formed_part label.start (Leads tail) inner.tokens) ∷ []) at (drop tail.size cs) around
          (one_part context (formed_part label.start (Leads tail) inner.tokens) at (drop tail.size cs) linked)
      formed_fits (Calls name) forms =
          let (between, is) = token_codes context inner.tokens inside (c ∷ cs) here in
          let same : between ≡ 94 ∷ name = sym (text_between between inside (c ∷ cs) is) ∙ forms.1 in
          let named : AreCodes (94 ∷ name) inside (c ∷ cs) = subst (λ xs. AreCodes xs inside (c ∷ cs)) same is in
          let opening : AreCodes (codes "[") at inside = subst (λ s. AreCodes (start_bytes s) at inside) forms.0 first in
          let all : AreCodes (91 ∷ 94 ∷ (name ++ 93 ∷ [])) at cs =
          codes_both (91 ∷ 94 ∷ name) (93 ∷ []) at (c ∷ cs) cs (codes_both (91 ∷ []) (94 ∷ name) at inside (c ∷ cs) opening named) (closes, refl) in
          more_open others label.outer.tokens (Item (formed_part label.start (Calls name) inner.tokens) ∷ []) at cs around
          (one_part context (formed_part label.start (Calls name) inner.tokens) at cs (AsCall name at cs all))

      ended_fits : (o : Option LinkOrCall) → WhereSome (Forms context label.start (text_before (codes_of inside) (codes_of (c ∷ cs))) (codes_of cs)) o
          → StepFits (ended_step label others inner o)
      ended_fits None forms =
          more_open others (label.outer.tokens ++ (start_tokens label.start ++ inner.tokens)) (Item (Leaf (Data 93)) ∷ []) (c ∷ cs) cs
          (plain_start label others inner.tokens at inside (c ∷ cs) first around here) (bracket closes)
      ended_fits (Some found) forms = formed_fits found forms

    forms_here : (label : OpenLabel) (inner : Text) (inside : List InlineCode) → label.from ≡ codes_of inside
        → WhereSome (Forms context label.start (text_before (codes_of inside) (codes_of (c ∷ cs))) (codes_of cs))
        (ended_by context (codes_of (c ∷ cs)) label inner)
    forms_here label inner inside from =
        let content = codes_of (c ∷ cs) in
        let Stands : Option LinkOrCall → Type 0 = WhereSome (Forms context label.start (text_before (codes_of inside) content) (codes_of cs)) in
        cond_both (may_form label.start inner.holds_link) (formed_at context label.start (text_before label.from content) (drop 1 content)) None Stands
        (λ _. subst (λ xs. Stands (formed_at context label.start (text_before xs content) (drop 1 content))) (sym from)
        (all_form context label.start (text_before (codes_of inside) content) (codes_of cs))) (λ _. tt)

    label_end_fits : (inner : Text) (labels : List OpenLabel) → c.code ≡ 93 → IsOpen labels inner.tokens (c ∷ cs)
        → StepFits (label_end_step context (codes_of (c ∷ cs)) inner labels)
    label_end_fits inner [] closes h = more_open [] inner.tokens (Item (Leaf (Data 93)) ∷ []) (c ∷ cs) cs h (bracket closes)
    label_end_fits inner (label ∷ others) closes (at, inside, first, from, around, here) =
        ended_fits closes label others inner at inside first around here (ended_by context (codes_of (c ∷ cs)) label inner) (forms_here label inner inside from)

    module _ (r : Reading) (so : IsOpen r.open_labels r.now.tokens (c ∷ cs)) where
      byte_fits : is_eol c.code ≡ false → StepFits (data_step c.code r)
      byte_fits inline =
          more_open r.open_labels r.now.tokens (Item (Leaf (Data c.code)) ∷ []) (c ∷ cs) cs so
          (one_part context (Leaf (Data c.code)) (c ∷ cs) cs (byte_written context c.code c cs refl inline))

      last_fits : leaf_here context (c ∷ cs) ≡ None → StepFits (last_step context c.code (codes_of (c ∷ cs)) r)
      last_fits none =
          let on = context.options.constructs.label_end in
          cond_both (on && (c.code == 93)) (label_end_step context (codes_of (c ∷ cs)) r.now r.open_labels) (data_step c.code r) StepFits
          (λ e. label_end_fits r.now r.open_labels (eqb-true c.code 93 (and_parts on (c.code == 93) e).1) so) (λ _. byte_fits (bare_inline context c cs none))

      label_fits : (o : Option LabelStart) → WhereSome (λ s. AreCodes (start_bytes s) (c ∷ cs) (drop (1 + start_more s) (c ∷ cs))) o
          → leaf_here context (c ∷ cs) ≡ None → StepFits (label_step context c.code (codes_of (c ∷ cs)) r o)
      label_fits None stands none = last_fits none
      label_fits (Some s) stands none =
          let inside = drop (1 + start_more s) (c ∷ cs) in
          let next : inside ≡ drop (start_more s) cs = taken_more (1 + start_more s) c cs (omega arith) ∙ ap (λ n. drop n cs) (omega arith) in
          let from : drop (1 + start_more s) (codes_of (c ∷ cs)) ≡ codes_of inside = sym (drop-codes_of (1 + start_more s) (c ∷ cs)) in
          subst (λ place. IsOpen (record { start = s; from = drop (1 + start_more s) (codes_of (c ∷ cs)); outer = r.now } ∷ r.open_labels) [] place) next
          (c ∷ cs, inside, stands, from, so, NoTokens inside)

      run_fits : (o : Option Run) → WhereSome (λ run. IsRunBetween context.options run (c ∷ cs) (drop run.left (c ∷ cs)) × (0 < run.left)) o
          → leaf_here context (c ∷ cs) ≡ None → StepFits (run_step context c.code (codes_of (c ∷ cs)) r o)
      run_fits None stands none =
          label_fits (label_start_at context.options.constructs (codes_of (c ∷ cs))) (start_codes context.options.constructs (c ∷ cs)) none
      run_fits (Some run) stands none =
          let to = drop run.left (c ∷ cs) in
          subst (IsOpen r.open_labels (r.now.tokens ++ Delimiters run ∷ [])) (taken_more run.left c cs stands.1)
          (more_open r.open_labels r.now.tokens (Delimiters run ∷ []) (c ∷ cs) to so (OneRun run [] (c ∷ cs) to to stands.0 (NoTokens to)))

      leaf_fits : (o : Option Found) → leaf_here context (c ∷ cs) ≡ o
          → StepFits (leaf_step context c.code (codes_of (c ∷ cs)) r (run_at context.options (c ∷ cs)) o)
      leaf_fits None none = run_fits (run_at context.options (c ∷ cs)) (run_here context.options c cs) none
      leaf_fits (Some found) is =
          subst (IsOpen r.open_labels (r.now.tokens ++ leaf_tokens found)) (taken_more found.size c cs (here_fits context (c ∷ cs) found is).some)
          (more_open r.open_labels r.now.tokens (leaf_tokens found) (c ∷ cs) (drop found.size (c ∷ cs)) so (leaf_read context literals (c ∷ cs) found is))

      step_fits : StepFits (step context r c cs)
      step_fits = leaf_fits (leaf_here context (c ∷ cs)) refl

    then_fits : (s : Step) (rest : ℕ → Reading → Reading) → StepFits s
        → ((k : ℕ) (next : Reading) → IsOpen next.open_labels next.now.tokens (drop k cs) → IsOpen (rest k next).open_labels (rest k next).now.tokens [])
        → IsOpen (and_then s rest).open_labels (and_then s rest).now.tokens []
    then_fits (Next k next) rest p h = h k next p

  scan_fits : (k : ℕ) (r : Reading) (content : List InlineCode) → IsOpen r.open_labels r.now.tokens (drop k content)
      → IsOpen (scan context k r content).open_labels (scan context k r content).now.tokens []
  scan_fits zero r [] so = so
  scan_fits (suc k) r [] so = so
  scan_fits zero r (c ∷ cs) so =
      then_fits c cs (step context r c cs) (λ k next. scan context k next cs) (step_fits c cs r so) (λ k next p. scan_fits k next cs p)
  scan_fits (suc k) r (c ∷ cs) so = scan_fits k r cs so

  whole_fits : (inner : Text) (labels : List OpenLabel) → IsOpen labels inner.tokens []
      → AreRead context (fold (λ inner label. with_plain_start label inner) inner labels).tokens start []
  whole_fits inner [] h = h
  whole_fits inner (label ∷ others) (at, inside, first, from, around, here) =
      whole_fits (with_plain_start label inner) others
      (more_open others label.outer.tokens (start_tokens label.start ++ inner.tokens) at [] around
      (reads_both context (start_tokens label.start) inner.tokens at inside [] (start_read context label.start at inside first) here))

-- the spans of a content are written in it, where literals are read
pub scan_written : (context : InlineContext) → LiteralsRead context → (content : List InlineCode) → AreWritten context (spans_from context content) content []
scan_written context literals content =
    let r = scan context 0 (reading (text [] false) []) content in
    let so = scan_fits context literals content 0 (reading (text [] false) []) content (NoTokens content) in
    spans_written context (whole_text r).tokens content [] (whole_fits context literals content r.now r.open_labels so)
