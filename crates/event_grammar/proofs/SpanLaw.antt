-- The names of spans in the grammar: the event of a span holds a sequence, a text and a sequence, and its name tells the span.
use Rattle.std.proofs.Common.{◌≡◌, true, refl}
use Rattle.std.specs.Prelude.{Some}
use Rattle.definition_inline.specs.Inline.{SpanKind, Emphasis}
use Rattle.event_grammar.proofs.Prelude.{Form, is_void, row}
use Rattle.event_grammar.specs.declared.spans.SpanNames.{SpanNames}
use Rattle.event_grammar.specs.Grammar.{enclosed, text_row}
use Rattle.event_grammar.specs.Spans.{span_names, span_of}

-- names that hold one another as those of a span do
pub record HoldOneAnother (names : SpanNames) : Type 0 where
  pub event : (form : Form) → row names.event form ≡ enclosed names.sequence names.text
  pub sequence : is_void names.sequence ≡ true
  pub text : (form : Form) → row names.text form ≡ text_row

pub hold_one_another : (kind : SpanKind) → HoldOneAnother (span_names kind)
hold_one_another Emphasis = record { event = λ form. refl; sequence = refl; text = λ form. refl }
hold_one_another other = record { event = λ form. refl; sequence = refl; text = λ form. refl }

pub span_again : (kind : SpanKind) → span_of (span_names kind).event ≡ Some kind
span_again Emphasis = refl
span_again other = refl
