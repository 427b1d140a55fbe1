-- What the states of a check of a task list item come to (GFM 5.3).
use Rattle.std.specs.Prelude.{◌≡◌, ℕ, ◌^◌, ◌<◌, Bool, true, false, not, ◌==◌, ◌&&◌, ◌||◌, List, [], ◌∷◌, drop, length, Option, None, Some}
use Rattle.std.specs.List.{list_all}
use Rattle.definition_inline.specs.GfmTaskListItem.{check_at, check_size}
use Rattle.definition_text.specs.Ascii.{left_bracket, tab}
use Rattle.definition_text.specs.Content.{is_eol, is_space}
use Rattle.engine_events.specs.Events.{event}
use Rattle.engine_events.specs.declared.event.Event.{Event}
use Rattle.engine_events.specs.declared.event.Kind.TheVariants.{Enter, Exit}
use Rattle.engine_events.specs.declared.event.Name.{Name as EventName}
use Rattle.engine_events.specs.declared.event.Name.TheVariants as names
use Rattle.engine_events.specs.declared.place.Point.{Point}
use Rattle.engine_states.specs.declared.state.Inline.TheVariants as state_inline
use Rattle.markdown_engine.specs.Reading.{Config}
use Rattle.markdown_engine.specs.VirtualText.{Text, as_byte}
use Rattle.state_inline.specs.declared.inlines.Inlines.{Inlines}
use Rattle.state_verdicts.specs.Beginnings.{AtByte, AreSeen, Beginning, all_codes, at_hand, attempt}
use Rattle.state_verdicts.specs.Codes.{Sees}
use Rattle.state_verdicts.specs.Lines.{SkipsOnce}
use Rattle.state_verdicts.specs.Verdicts.{Leaves}

-- the name of the event round what stands between the brackets
abbrev pub value_name : Bool → EventName
value_name true = names.GfmTaskListItemValueChecked
value_name false = names.GfmTaskListItemValueUnchecked

-- the events of a check: its `[` is from p to q, its value from a third place to a fourth, and its `]` from a fifth up to the end
abbrev pub check_events : Bool → Point → Point → Point → Point → Point → Point → List Event
check_events done p q from to closing end =
    event Enter names.GfmTaskListItemCheck p None ∷ event Enter names.GfmTaskListItemMarker p None ∷ event Exit names.GfmTaskListItemMarker q None
    ∷ event Enter (value_name done) from None ∷ event Exit (value_name done) to None ∷ event Enter names.GfmTaskListItemMarker closing None
    ∷ event Exit names.GfmTaskListItemMarker end None ∷ event Exit names.GfmTaskListItemCheck end None ∷ []

-- something other than white space comes after each line ending, as in each content
abbrev pub goes_on_after_lines : List ℕ → Bool
goes_on_after_lines [] = true
goes_on_after_lines (c ∷ cs) = (not (is_eol c) || not (list_all is_space cs)) && goes_on_after_lines cs

abbrev pub begins_with_tab : List ℕ → Bool
begins_with_tab [] = false
begins_with_tab (c ∷ cs) = c == tab

-- the place after the byte at a place is not within a tab
abbrev pub ApartFromTabs : Text → Point → Type 0
ApartFromTabs text p = (b : ℕ) (q : Point) → text.byte (text.start p) ≡ Some (as_byte b q) → (text.start q).vs ≡ 0

-- the attempt fails where there is no check; otherwise it goes well, with its events, and reading stands where the code after the `]` is read from
abbrev pub CheckVerdict : {T : Type 0} → Beginning T → Option Bool → Type 0
CheckVerdict here None = (d : Config Inlines) × attempt here state_inline.GfmTaskListItemCheckStart d false
CheckVerdict here (Some done) =
    (d : Config Inlines) × (columns : ℕ) × (to : Point) × (end : Point) × attempt here state_inline.GfmTaskListItemCheckStart d true
    × Leaves (at_hand here) d (record here.config.tokenize_state { size_c = columns })
    (check_events done here.place here.after (here.text.start here.after) to (here.text.start to) end) (here.text.start end)
    × Sees here.text end (drop check_size (all_codes here))

-- at a `[` with which the first paragraph of an item begins, and after which these codes are seen, a check is read exactly where the definition has one, if
-- no tab stands between the brackets, in a text that skips nothing twice
abbrev pub TaskCheckVerdict : Type 0 → Type 0
TaskCheckVerdict T = AtByte T left_bracket (λ here. AreSeen here → SkipsOnce here.text → here.config.tokenize_state.connect ≡ false
    → length here.rest < 2 ^ 62 → begins_with_tab here.rest ≡ false → ApartFromTabs here.text here.after → goes_on_after_lines here.rest ≡ true
    → CheckVerdict here (check_at here.context.options.constructs true (all_codes here)))
