-- What the states of `partial_title` do.
use Rattle.std.specs.Prelude.{ℕ, Bool, true, false, refl, ◌==◌, ◌&&◌, ◌||◌}
use Rattle.engine_events.specs.declared.event.Name.TheVariants as names
use Rattle.engine_states.specs.declared.state.Inline.TheVariants as state_inline
use Rattle.engine_states.specs.declared.state.State.TheVariants as states
use Rattle.engine_programs.specs.Bodies.{FixedName, HeldName, Body, Answer, Consume, Enter, EnterLink, Exit, Keep, Tries, Byte, On, Test, around, has}
use Rattle.state_table.specs.Words.{next, retry, at_marker}
use Rattle.state_labels.specs.Chunk.{part_link}
use Rattle.definition_text.specs.Ascii.{line_feed, double_quote, single_quote, left_parenthesis, right_parenthesis, backslash}

-- after a first marker
abbrev pub title_open : {M : Type 0} → ℕ → Body M
title_open marker = Keep (λ c. record c.tokenize_state { marker = marker; connect = true }) (λ c i. refl)
    (Enter (HeldName 1) (around (HeldName 2) (Answer (next state_inline.TitleBegin))))

-- no title is here
abbrev pub title_fails : {M : Type 0} → Body M
title_fails = Keep (λ c. record c.tokenize_state { connect = false }) (λ c i. refl) (Answer states.Nok)

-- over a byte of the text
abbrev pub title_byte : {M : Type 0} → Body M
title_byte = On (λ b. b == backslash) (Consume (Answer (next state_inline.TitleEscape))) (Consume (Answer (next state_inline.TitleInside)))

-- no title between parentheses has a parenthesis that isn't escaped
abbrev pub is_nested : ℕ → ℕ → Bool
is_nested marker b = (marker == right_parenthesis) && (b == left_parenthesis)

-- a part of the text
abbrev pub title_part : {M : Type 0} → Body M
title_part =
    On (λ b. b == line_feed) (Tries false (next state_inline.TitleAfterEol) (next state_inline.TitleNok) (retry state_inline.SpaceOrTabEolStart))
    (Test (λ c. has (is_nested c.tokenize_state.marker) c.current) title_fails
    (EnterLink (FixedName names.Data) part_link title_byte))

module _ {M : Type 0} where
  -- at a first marker
  abbrev pub title_start : Body M
  title_start =
      Byte (Answer states.Nok)
      (On (λ b. b == double_quote) (title_open 34) (On (λ b. b == single_quote) (title_open 39)
      (On (λ b. b == left_parenthesis) (title_open 41) (Answer states.Nok))))

  -- after the first marker, or at the last
  abbrev pub title_begin : Body M
  title_begin =
      Byte title_fails
      (Test at_marker (around (HeldName 2) (Exit (HeldName 1) (Keep (λ c. record c.tokenize_state { connect = false }) (λ c i. refl) (Answer states.Ok))))
      (Enter (HeldName 3) title_part))

  -- between the parts of the text
  abbrev pub title_at_break : Body M
  title_at_break =
      Byte (Answer (retry state_inline.TitleNok)) (Test at_marker (Exit (HeldName 3) (Answer (retry state_inline.TitleBegin))) title_part)

  -- after a line ending
  abbrev pub title_after_eol : Body M
  title_after_eol =
      Answer (retry state_inline.TitleAtBreak)

  -- where no title is
  abbrev pub title_nok : Body M
  title_nok =
      title_fails

  -- in data
  abbrev pub title_inside : Body M
  title_inside =
      Byte (Exit (FixedName names.Data) (Answer (retry state_inline.TitleAtBreak)))
      (Test (λ c. has (λ b. (b == line_feed) || (b == c.tokenize_state.marker) || is_nested c.tokenize_state.marker b) c.current)
      (Exit (FixedName names.Data) (Answer (retry state_inline.TitleAtBreak)))
      title_byte)

  -- after a backslash
  abbrev pub title_escape : Body M
  title_escape =
      Byte (Answer (retry state_inline.TitleInside))
      (Test (λ c. has (λ b. (b == c.tokenize_state.marker) || (b == left_parenthesis) || (b == backslash)) c.current)
      (Consume (Answer (next state_inline.TitleInside)))
      (Answer (retry state_inline.TitleInside)))
