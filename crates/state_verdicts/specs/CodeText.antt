-- What the states of a code span come to (CommonMark 6.1).
use Rattle.std.specs.Prelude.{◌<◌, ◌^◌, length}
use Rattle.definition_text.specs.Ascii.{backtick}
use Rattle.definition_inline.specs.CodeText.{code_text_at}
use Rattle.engine_events.specs.declared.event.Name.TheVariants as names
use Rattle.engine_states.specs.declared.state.Inline.TheVariants as state_inline
use Rattle.state_verdicts.specs.Beginnings.{Beginning, AtByte, BeforeByte, AreSeen, ComesNext, all_codes, attempt, choice}
use Rattle.state_verdicts.specs.RawText.{ReadsSpan, SpanNames}
use Rattle.state_verdicts.specs.Verdicts.{Comes}

abbrev pub code_names : SpanNames
code_names = record { whole = names.CodeText; sequence = names.CodeTextSequence; content = names.CodeTextData }

-- an attempt there reads a code span exactly where a run begins and the definition has a span
abbrev pub ReadsCode : {T : Type 0} → Beginning T → Comes → Type 0
ReadsCode here comes = ReadsSpan code_names (code_text_at here.context.options.constructs (all_codes here)) here comes

-- at a backtick, after which these codes are seen, a code span is read exactly where a run begins and the definition has a span
abbrev pub CodeTextVerdict : Type 0 → Type 0
CodeTextVerdict T = AtByte T backtick (λ here. length (all_codes here) < 2 ^ 64 → AreSeen here → ReadsCode here (attempt here state_inline.RawTextStart))

-- before a part of a text that begins so, reading goes on after a code span exactly where a run begins and the definition has a span, and otherwise with data
abbrev pub CodeTextChoice : Type 0 → Type 0
CodeTextChoice T = BeforeByte T backtick (λ here. length (all_codes here) < 2 ^ 64 → ComesNext here → AreSeen here
    → ReadsCode here (choice here state_inline.TextBefore state_inline.TextBeforeData))
