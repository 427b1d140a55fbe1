-- What the states of a hard break by a backslash come to (CommonMark 6.7).
use Rattle.std.specs.Prelude.{◌≡◌, ℕ, Bool, true, not, List, [], ◌∷◌, None}
use Rattle.definition_text.specs.Ascii.{backslash}
use Rattle.definition_text.specs.Content.{is_eol}
use Rattle.definition_inline.specs.HardBreak.{escaped_break_at}
use Rattle.engine_events.specs.Events.{event}
use Rattle.engine_events.specs.declared.event.Event.{Event}
use Rattle.engine_events.specs.declared.event.Kind.TheVariants.{Enter, Exit}
use Rattle.engine_events.specs.declared.event.Name.TheVariants as names
use Rattle.engine_events.specs.declared.place.Point.{Point}
use Rattle.engine_states.specs.declared.state.Inline.TheVariants as state_inline
use Rattle.markdown_engine.specs.Reading.{Config}
use Rattle.state_inline.specs.declared.inlines.Inlines.{Inlines}
use Rattle.state_verdicts.specs.Beginnings.{Beginning, AtByte, BeforeByte, AreSeen, ComesNext, all_codes, at_hand, attempt, choice}
use Rattle.state_verdicts.specs.Verdicts.{Comes, Verdict}

-- the events of a hard break between two places
abbrev pub break_events : Point → Point → List Event
break_events p q = event Enter names.HardBreakEscape p None ∷ event Exit names.HardBreakEscape q None ∷ []

-- codes don't end in a line ending, as those of a content don't
abbrev pub ends_apart : List ℕ → Bool
ends_apart [] = true
ends_apart (c ∷ []) = not (is_eol c)
ends_apart (c ∷ next ∷ cs) = ends_apart (next ∷ cs)

-- an attempt there, at a configuration, reads a hard break exactly where the definition has one; reading then stands where the line ending is read from
abbrev pub ReadsBreak : {T : Type 0} → Beginning T → Config Inlines → Comes → Type 0
ReadsBreak here at comes =
    Verdict here.text comes at (all_codes here) (λ end. break_events here.place (here.text.start end)) here.text.start
    (escaped_break_at here.context.options.constructs (all_codes here))

-- at a backslash, after which these codes are seen, a hard break is read exactly where the definition has one
abbrev pub BreakVerdict : Type 0 → Type 0
BreakVerdict T =
    AtByte T backslash (λ here. AreSeen here → ends_apart here.rest ≡ true → ReadsBreak here (at_hand here) (attempt here state_inline.HardBreakEscapeStart))

-- after an escape was attempted there in vain, reading goes on after a hard break exactly where the definition has one, and otherwise with data
abbrev pub BreakChoice : Type 0 → Type 0
BreakChoice T = BeforeByte T backslash (λ here. ComesNext here → AreSeen here → ends_apart here.rest ≡ true
    → ReadsBreak here (at_hand here) (choice here state_inline.TextBeforeHardBreakEscape state_inline.TextBeforeData))
