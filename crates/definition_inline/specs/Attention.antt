-- Runs of `*`, `_`, `~` and `=`, which may open and close spans (CommonMark 6.2, GFM 6.5, and marked text).
use Rattle.std.specs.Prelude.{ℕ, ◌-◌, Bool, true, false, not, if◌then◌else◌, ◌==◌, ◌&&◌, ◌||◌, List, [], ◌∷◌, Option, None, Some, slice_index_or}
use Rattle.std.specs.List.{prefix_len}
use Rattle.markdown_options.specs.declared.configuration.ParseOptions.{ParseOptions}
use Rattle.definition_text.specs.Ascii.{asterisk, underscore}
use Rattle.definition_text.specs.Columns.{Code}
use Rattle.markdown_options.specs.declared.beside.Kind.{Kind}
use Rattle.markdown_options.specs.declared.beside.Kind.TheVariants.{Whitespace, Punctuation, Other}
use Rattle.definition_text.specs.InlineCode.{InlineCode}
use Rattle.definition_inline.specs.GfmStrikethrough.{is_tilde, is_strikethrough_size}
use Rattle.definition_inline.specs.Mark.{is_equals, is_mark_size}

-- a run of one byte: the byte, how many of it are left, and whether it may open and close (CommonMark 6.2)
pub record Run : Type 0 where
  pub marker : ℕ
  pub left : ℕ
  pub may_open : Bool
  pub may_close : Bool

abbrev pub is_other : Kind → Bool
is_other Other = true
is_other Punctuation = false
is_other Whitespace = false

abbrev pub is_punctuation_kind : Kind → Bool
is_punctuation_kind Punctuation = true
is_punctuation_kind Other = false
is_punctuation_kind Whitespace = false

-- between these kinds a run is left-flanking: no whitespace follows, and where punctuation does, whitespace or punctuation stands before (CommonMark 6.2)
abbrev pub is_left_flanking : Kind → Kind → Bool
is_left_flanking before Other = true
is_left_flanking before Punctuation = not (is_other before)
is_left_flanking before Whitespace = false

-- the same the other way round (CommonMark 6.2)
abbrev pub is_right_flanking : Kind → Kind → Bool
is_right_flanking before after = is_left_flanking after before

-- a left-flanking run may open; of `_` only if it isn't right-flanking too, or punctuation stands before (CommonMark 6.2)
abbrev pub opens : ℕ → Kind → Kind → Bool
opens marker before after =
    is_left_flanking before after && (not (marker == underscore) || (not (is_right_flanking before after) || is_punctuation_kind before))

-- the same the other way round (CommonMark 6.2)
abbrev pub closes : ℕ → Kind → Kind → Bool
closes marker before after = opens marker after before

-- a byte whose runs may form spans: `*` or `_` (CommonMark 6.2), `~` (GFM 6.5), or `=`
abbrev pub is_marker : ParseOptions → Code → Bool
is_marker options code =
    (options.constructs.attention && ((code == asterisk) || (code == underscore)))
    || ((options.constructs.gfm_strikethrough && is_tilde code) || (options.constructs.mark && is_equals code))

-- a byte whose runs go with runs of as many alone: `~` (GFM 6.5) or `=`; those of the others are taken apart (CommonMark 6.2)
abbrev pub is_whole : ℕ → Bool
is_whole marker = is_tilde marker || is_equals marker

-- runs of these sizes may go together
abbrev pub are_fitting : ℕ → ℕ → ℕ → Bool
are_fitting marker one other = not (is_whole marker) || (one == other)

-- a run of so many of a byte may form a span
abbrev pub has_span_size : ParseOptions → ℕ → ℕ → Bool
has_span_size options marker size =
    if is_tilde marker then is_strikethrough_size options size else (if is_equals marker then is_mark_size size else true)

-- a run of so many of this byte between these kinds
abbrev pub run_between : ParseOptions → ℕ → ℕ → Kind → Kind → Run
run_between options marker size before after =
    record {
      marker = marker;
      left = size;
      may_open = has_span_size options marker size && opens marker before after;
      may_close = has_span_size options marker size && closes marker before after;
    }

-- how many of the byte that comes first stand ahead
abbrev pub run_size : ℕ → List InlineCode → ℕ
run_size marker content = prefix_len (λ (c : InlineCode). c.code == marker) content

-- the run that a content begins with (CommonMark 6.2)
abbrev pub run_at : ParseOptions → List InlineCode → Option Run
run_at options [] = None
run_at options (c ∷ cs) =
    let size = run_size c.code (c ∷ cs) in
    let last = slice_index_or (c ∷ cs) (size - 1) c in
    if is_marker options c.code then Some (run_between options c.code size c.before last.after) else None
