-- The inline structure of a content, from left to right (CommonMark 6 and appendix, phase 2). This is an algorithm: which label starts and `]` go
-- together is said as a relation in LabelPairs.antt, and proved of it.
use Rattle.std.specs.Prelude.{ℕ, zero, suc, ◌+◌, ◌-◌, Bool, true, false, not, if◌then◌else◌, ◌==◌, ◌&&◌, ◌||◌, List, [], ◌∷◌, ◌++◌, Option, None, Some, codes}
use Rattle.std.specs.Prelude.{map, drop}
use Rattle.std.specs.List.{fold, prefix_len}
use Rattle.markdown_options.specs.declared.configuration.Constructs.{Constructs}
use Rattle.markdown_options.specs.declared.configuration.ParseOptions.{ParseOptions}
use Rattle.definition_text.specs.Ascii.{right_bracket}
use Rattle.definition_text.specs.Columns.{Code, is_white}
use Rattle.definition_text.specs.Bytes.{begins_with}
use Rattle.definition_text.specs.Content.{text_before}
use Rattle.definition_text.specs.InlineCode.{InlineCode, codes_of}
use Rattle.definition_inline.specs.Inline.{Target, LinkedKind, Link, Image, Inline, Leaf, Data, Linked, Call, Inlines, Found, or_else}
use Rattle.definition_inline.specs.CharacterEscape.{escape_at}
use Rattle.definition_inline.specs.CharacterReference.{Names, reference_at}
use Rattle.definition_inline.specs.CodeText.{code_text_at}
use Rattle.definition_inline.specs.MathText.{math_text_at}
use Rattle.definition_inline.specs.Autolink.{autolink_at}
use Rattle.definition_inline.specs.HtmlText.{html_text_at}
use Rattle.definition_inline.specs.HardBreak.{escaped_break_at, line_end_at, line_spaces_at}
use Rattle.definition_inline.specs.GfmAutolinkLiteral.{literal_at, linked_literals}
use Rattle.definition_inline.specs.LabelEnd.{LinkOrCall, Leads, Calls, formed_size, link_or_image}
use Rattle.definition_inline.specs.GfmLabelStartFootnote.{starts_call, starts_marked_call, called_label, call_or_link}
use Rattle.definition_inline.specs.Attention.{Run, run_at}
use Rattle.definition_inline.specs.Spans.{Token, Item, Delimiters, with_spans}

-- what a content is read by: the options, the texts of named characters, and whether a label is that of a link reference definition, and of a footnote
-- definition, of the document
pub record InlineContext : Type 0 where
  pub options : ParseOptions
  pub names : Names
  pub is_defined : List Code → Bool
  pub is_footnote : List Code → Bool

-- ---- constructs that hold no other

-- the construct that a content begins with, if it holds no other; two of them begin with one byte only where the first of them goes first: an escape and a
-- break, an autolink and HTML
abbrev pub leaf_at : InlineContext → List Code → Option Found
leaf_at context content =
    or_else (escape_at context.options.constructs content)
    (or_else (escaped_break_at context.options.constructs content)
    (or_else (reference_at context.options.constructs context.names content)
    (or_else (code_text_at context.options.constructs content)
    (or_else (math_text_at context.options content)
    (or_else (autolink_at context.options.constructs content)
    (or_else (html_text_at context.options.constructs content)
    (or_else (line_end_at content)
    (line_spaces_at context.options.constructs content))))))))

-- the same of codes that know what stands beside them, with a literal, which no other of these begins like (CommonMark 6 and GFM 6.9)
abbrev pub leaf_here : InlineContext → List InlineCode → Option Found
leaf_here context content = or_else (leaf_at context (codes_of content)) (literal_at context.options.constructs content)

-- ---- labels

-- what starts the text of a link or an image (CommonMark 6.3 and 6.4); a call of a footnote starts as a link does
pub data LabelStart : Type 0 where
  LinkStart : LabelStart
  ImageStart : LabelStart

-- `![` starts an image (CommonMark 6.4), unless `!` stands before a call
abbrev pub starts_image : Constructs → List Code → Bool
starts_image on content = on.label_start_image && begins_with (codes "![") content && not (starts_marked_call on content)

-- `[` starts a link (CommonMark 6.3), and `[^` a call
abbrev pub starts_link : Constructs → List Code → Bool
starts_link on content = (on.label_start_link && begins_with (codes "[") content) || starts_call on content

-- what a content begins with, if it starts a label (CommonMark 6.3 and 6.4)
abbrev pub label_start_at : Constructs → List Code → Option LabelStart
label_start_at on content = if starts_image on content then Some ImageStart else (if starts_link on content then Some LinkStart else None)

-- the bytes of a label start
abbrev pub start_bytes : LabelStart → List ℕ
start_bytes LinkStart = codes "["
start_bytes ImageStart = codes "!["

-- how many codes a label start takes after its first
abbrev pub start_more : LabelStart → ℕ
start_more LinkStart = 0
start_more ImageStart = 1

-- the tokens of a construct that holds no other
abbrev pub leaf_tokens : Found → List Token
leaf_tokens found = map (λ part. Item (Leaf part)) found.parts

-- a label start that forms nothing is text
abbrev pub start_tokens : LabelStart → List Token
start_tokens start = map (λ b. Item (Leaf (Data b))) (start_bytes start)

-- whether a label start may form something, given whether its text holds a link: no link holds another (CommonMark 6.3)
abbrev pub may_form : LabelStart → Bool → Bool
may_form LinkStart holds_link = not holds_link
may_form ImageStart holds_link = true

-- what a label start may form
abbrev pub started_kind : LabelStart → LinkedKind
started_kind LinkStart = Link
started_kind ImageStart = Image

-- a link or an image with its text
abbrev pub label_part : LabelStart → Target → Inlines → Inline
label_part start target kids = Linked (started_kind start) target kids

-- whether this is a link or a call, or its text holds one
abbrev pub makes_link : LabelStart → Bool → Bool
makes_link LinkStart holds_link = true
makes_link ImageStart holds_link = holds_link

-- what is formed of a text; a call prints a number in place of its own
abbrev pub formed_part : LabelStart → LinkOrCall → List Token → Inline
formed_part start (Leads end) tokens = label_part start end.target (with_spans tokens)
formed_part start (Calls label) tokens = Call label

-- ---- what is read so far

-- the tokens of a text, and whether a link or a call is among them or inside of an image among them
pub record Text : Type 0 where
  pub tokens : List Token
  pub holds_link : Bool

abbrev pub text : List Token → Bool → Text
text tokens holds_link = record { tokens = tokens; holds_link = holds_link }

-- a label start that is open: what it starts, the codes of the content after it, and the text before it
pub record OpenLabel : Type 0 where
  pub start : LabelStart
  pub from : List Code
  pub outer : Text

-- the text after the innermost label start that is open, and the open label starts, the innermost first
pub record Reading : Type 0 where
  pub now : Text
  pub open_labels : List OpenLabel

abbrev pub reading : Text → List OpenLabel → Reading
reading now open_labels = record { now = now; open_labels = open_labels }

-- more tokens of a text
abbrev pub with_tokens : Text → List Token → Text
with_tokens t more = text (t.tokens ++ more) t.holds_link

abbrev pub read_tokens : List Token → Reading → Reading
read_tokens more r = reading (with_tokens r.now more) r.open_labels

-- a label start that forms nothing, and the text after it
abbrev pub with_plain_start : OpenLabel → Text → Text
with_plain_start label inner = text (label.outer.tokens ++ (start_tokens label.start ++ inner.tokens)) (label.outer.holds_link || inner.holds_link)

-- a link, an image or a call of the text after its start (CommonMark 6.3 and 6.4)
abbrev pub with_link_or_call : OpenLabel → LinkOrCall → Text → Text
with_link_or_call label found inner =
    text (label.outer.tokens ++ Item (formed_part label.start found inner.tokens) ∷ [])
    (label.outer.holds_link || makes_link label.start inner.holds_link)

-- ---- one place

-- how many codes are taken after the first, and what is read then
pub data Step : Type 0 where
  Next : ℕ → Reading → Step

-- a byte of text
abbrev pub data_step : Code → Reading → Step
data_step code r = Next 0 (read_tokens (Item (Leaf (Data code)) ∷ []) r)

-- a `]` after the innermost label start that is open: that one is used up, and both are text where nothing is formed (CommonMark 6.3)
abbrev pub ended_step : OpenLabel → List OpenLabel → Text → Option LinkOrCall → Step
ended_step label others inner None = Next 0 (read_tokens (Item (Leaf (Data right_bracket)) ∷ []) (reading (with_plain_start label inner) others))
ended_step label others inner (Some found) = Next (formed_size found) (reading (with_link_or_call label found inner) others)

-- what the text between a label start and a `]` forms, given what follows that
abbrev pub formed_at : InlineContext → LabelStart → List Code → List Code → Option LinkOrCall
formed_at context LinkStart between rest =
    call_or_link context.options.constructs context.is_defined between rest (called_label context.options.constructs context.is_footnote between)
formed_at context ImageStart between rest = link_or_image context.is_defined between rest

-- what a `]` forms with a label start that is open (CommonMark 6.3)
abbrev pub ended_by : InlineContext → List Code → OpenLabel → Text → Option LinkOrCall
ended_by context content label inner =
    if may_form label.start inner.holds_link then formed_at context label.start (text_before label.from content) (drop 1 content) else None

-- a `]`, where these label starts are open
abbrev pub label_end_step : InlineContext → List Code → Text → List OpenLabel → Step
label_end_step context content inner [] = data_step right_bracket (reading inner [])
label_end_step context content inner (label ∷ others) = ended_step label others inner (ended_by context content label inner)

-- a place at which nothing starts: a `]`, or a byte of text
abbrev pub last_step : InlineContext → Code → List Code → Reading → Step
last_step context code content r =
    if context.options.constructs.label_end && (code == right_bracket) then label_end_step context content r.now r.open_labels else data_step code r

-- a label start, or another place
abbrev pub label_step : InlineContext → Code → List Code → Reading → Option LabelStart → Step
label_step context code content r None = last_step context code content r
label_step context code content r (Some start) =
    Next (start_more start)
    (reading (text [] false) (record { start = start; from = drop (1 + start_more start) content; outer = r.now } ∷ r.open_labels))

-- a run, or another place
abbrev pub run_step : InlineContext → Code → List Code → Reading → Option Run → Step
run_step context code content r None = label_step context code content r (label_start_at context.options.constructs content)
run_step context code content r (Some run) = Next (run.left - 1) (read_tokens (Delimiters run ∷ []) r)

-- a construct that holds no other, or another place
abbrev pub leaf_step : InlineContext → Code → List Code → Reading → Option Run → Option Found → Step
leaf_step context code content r run None = run_step context code content r run
leaf_step context code content r run (Some found) = Next (found.size - 1) (read_tokens (leaf_tokens found) r)

-- what is read of the codes that come next
abbrev pub step : InlineContext → Reading → InlineCode → List InlineCode → Step
step context r c cs =
    let content = codes_of (c ∷ cs) in
    leaf_step context c.code content r (run_at context.options (c ∷ cs)) (leaf_here context (c ∷ cs))

-- ---- the whole

-- a step, and what is read after it
abbrev pub and_then : Step → (ℕ → Reading → Reading) → Reading
and_then (Next more r) rest = rest more r

-- what is read of a content, of which so many codes are taken already
abbrev pub scan : InlineContext → ℕ → Reading → List InlineCode → Reading
scan context k r [] = r
scan context zero r (c ∷ cs) = and_then (step context r c cs) (λ k next. scan context k next cs)
scan context (suc k) r (c ∷ cs) = scan context k r cs

-- the text where no `]` is left: label starts that are open form nothing
abbrev pub whole_text : Reading → Text
whole_text r = fold (λ inner label. with_plain_start label inner) r.now r.open_labels

-- what the scan of a content finds that begins here, with its runs paired, where links may still hold literals, and addresses are text
abbrev pub spans_from : InlineContext → List InlineCode → Inlines
spans_from context content = with_spans (whole_text (scan context 0 (reading (text [] false) []) content)).tokens

-- the inline structure of a content that begins here, without the spaces and tabs at its end (CommonMark 6)
abbrev pub inlines_from : InlineContext → List InlineCode → Inlines
inlines_from context content = linked_literals context.options.constructs (spans_from context content)

-- a content without the spaces and tabs at its start
abbrev pub without_indent : List InlineCode → List InlineCode
without_indent content = drop (prefix_len (λ (c : InlineCode). is_white c.code) content) content

-- the inline structure of a content, without the spaces and tabs at its ends (CommonMark 6)
abbrev pub inlines : InlineContext → List InlineCode → Inlines
inlines context content = inlines_from context (without_indent content)
