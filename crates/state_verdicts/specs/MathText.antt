-- What the states of math come to (in neither standard).
use Rattle.std.specs.Prelude.{◌<◌, ◌^◌, length}
use Rattle.definition_text.specs.Ascii.{dollar}
use Rattle.definition_inline.specs.MathText.{math_text_at}
use Rattle.engine_events.specs.declared.event.Name.TheVariants as names
use Rattle.engine_states.specs.declared.state.Inline.TheVariants as state_inline
use Rattle.state_verdicts.specs.Beginnings.{Beginning, AtByte, BeforeByte, AreSeen, ComesNext, all_codes, attempt, choice}
use Rattle.state_verdicts.specs.RawText.{ReadsSpan, SpanNames}
use Rattle.state_verdicts.specs.Verdicts.{Comes}

abbrev pub math_names : SpanNames
math_names = record { whole = names.MathText; sequence = names.MathTextSequence; content = names.MathTextData }

-- an attempt there reads math exactly where a run begins and the definition has a span
abbrev pub ReadsMath : {T : Type 0} → Beginning T → Comes → Type 0
ReadsMath here comes = ReadsSpan math_names (math_text_at here.context.options (all_codes here)) here comes

-- at a dollar, after which these codes are seen, math is read exactly where a run begins and the definition has a span
abbrev pub MathTextVerdict : Type 0 → Type 0
MathTextVerdict T = AtByte T dollar (λ here. length (all_codes here) < 2 ^ 64 → AreSeen here → ReadsMath here (attempt here state_inline.RawTextStart))

-- before a part of a text that begins so, reading goes on after math exactly where a run begins and the definition has a span, and otherwise with data
abbrev pub MathTextChoice : Type 0 → Type 0
MathTextChoice T = BeforeByte T dollar (λ here. length (all_codes here) < 2 ^ 64 → ComesNext here → AreSeen here
    → ReadsMath here (choice here state_inline.TextBefore state_inline.TextBeforeData))
