-- What the states of `autolink` do.
use Rattle.std.specs.Prelude.{ℕ, Bool, nat_lt, nat_le, refl, ◌==◌, ◌||◌}
use Rattle.std.specs.Int.{is_in_range}
use Rattle.std.specs.Char.{is_ascii_alphabetic, is_ascii_alphanumeric}
use Rattle.engine_events.specs.declared.event.Name.TheVariants as names
use Rattle.engine_states.specs.declared.state.Inline.TheVariants as state_inline
use Rattle.engine_states.specs.declared.state.State.TheVariants as states
use Rattle.engine_programs.specs.Bodies.{FixedName, Body, Answer, Consume, Enter, Exit, Keep, Byte, On, Test, around}
use Rattle.state_table.specs.Words.{next, retry, count_anew, count_one}
use Rattle.definition_text.specs.Ascii.{exclamation_mark, asterisk, plus, hyphen, dot, colon, less_than, equals, greater_than, question_mark, at_sign, delete}

-- a byte of the name of an email
abbrev pub is_atext : ℕ → Bool
is_atext b =
    is_ascii_alphanumeric b || (b == exclamation_mark) || is_in_range 35 39 b || (b == asterisk) || (b == plus) || is_in_range 45 47 b || (b == equals)
    || (b == question_mark) || is_in_range 94 96 b || is_in_range 123 126 b

-- a byte that can't stand in a URL
abbrev pub ends_url : ℕ → Bool
ends_url b = nat_le b 32 || ((b == less_than) || (b == delete))

-- over the `>` after an address
abbrev pub autolink_end : {M : Type 0} → Body M
autolink_end = Exit (FixedName names.AutolinkProtocol) (around (FixedName names.AutolinkMarker) (Exit (FixedName names.Autolink) (Answer states.Ok)))

module _ {M : Type 0} where
  -- at a `<`
  abbrev pub autolink_start : Bool → Body M
  autolink_start on =
      Byte (Answer states.Nok)
      (On (λ b. b == less_than)
      (Test (λ c. on)
      (Enter (FixedName names.Autolink)
      (around (FixedName names.AutolinkMarker) (Enter (FixedName names.AutolinkProtocol) (Answer (next state_inline.AutolinkOpen)))))
      (Answer states.Nok))
      (Answer states.Nok))

  -- after the `<`
  abbrev pub autolink_open : Body M
  autolink_open =
      Byte (Answer states.Nok)
      (On is_ascii_alphabetic (Consume (Answer (next state_inline.AutolinkSchemeOrEmailAtext)))
      (On (λ b. b == at_sign) (Answer states.Nok) (Answer (retry state_inline.AutolinkEmailAtext))))

  -- after the first letter
  abbrev pub autolink_scheme_or_email_atext : Body M
  autolink_scheme_or_email_atext =
      Byte (Answer states.Nok)
      (On (λ b. (b == plus) || (b == hyphen) || (b == dot) || is_ascii_alphanumeric b)
      (Keep (λ c. record c.tokenize_state { size = 1 }) (λ c i. refl) (Answer (retry state_inline.AutolinkSchemeInsideOrEmailAtext)))
      (Answer (retry state_inline.AutolinkEmailAtext)))

  -- in a scheme or in the name of an email, after two bytes at least
  abbrev pub autolink_scheme_inside_or_email_atext : Body M
  autolink_scheme_inside_or_email_atext =
      Byte (Answer states.Nok)
      (On (λ b. b == colon) (Consume (Answer (next state_inline.AutolinkUrlInside)))
      (On (λ b. (b == plus) || (b == hyphen) || (b == dot) || is_ascii_alphanumeric b)
      (Test (λ c. nat_lt c.tokenize_state.size 32)
      (count_one (Consume (Answer (next state_inline.AutolinkSchemeInsideOrEmailAtext))))
      (Answer (retry state_inline.AutolinkEmailAtext)))
      (Answer (retry state_inline.AutolinkEmailAtext))))

  -- in a URL
  abbrev pub autolink_url_inside : Body M
  autolink_url_inside =
      Byte (Answer states.Nok)
      (On (λ b. b == greater_than) autolink_end (On ends_url (Answer states.Nok) (Consume (Answer (next state_inline.AutolinkUrlInside)))))

  -- in the name of an email
  abbrev pub autolink_email_atext : Body M
  autolink_email_atext =
      Byte (Answer states.Nok)
      (On (λ b. b == at_sign)
      (count_anew (Consume (Answer (next state_inline.AutolinkEmailAtSignOrDot))))
      (On is_atext (Consume (Answer (next state_inline.AutolinkEmailAtext))) (Answer states.Nok)))

  -- after the `@` or a dot
  abbrev pub autolink_email_at_sign_or_dot : Body M
  autolink_email_at_sign_or_dot =
      Byte (Answer states.Nok) (On is_ascii_alphanumeric (Answer (retry state_inline.AutolinkEmailValue)) (Answer states.Nok))

  -- in a label, after a letter or a digit
  abbrev pub autolink_email_label : Body M
  autolink_email_label =
      Byte (Answer states.Nok)
      (On (λ b. b == dot)
      (count_anew (Consume (Answer (next state_inline.AutolinkEmailAtSignOrDot))))
      (On (λ b. b == greater_than) autolink_end (Answer (retry state_inline.AutolinkEmailValue))))

  -- in a label, at any byte
  abbrev pub autolink_email_value : Body M
  autolink_email_value =
      Byte (Answer states.Nok)
      (On (λ b. b == hyphen)
      (Test (λ c. nat_lt c.tokenize_state.size 63)
      (count_one (Consume (Answer (next state_inline.AutolinkEmailValue))))
      (Answer states.Nok))
      (On is_ascii_alphanumeric
      (Test (λ c. nat_lt c.tokenize_state.size 63)
      (count_one (Consume (Answer (next state_inline.AutolinkEmailLabel))))
      (Answer states.Nok))
      (Answer states.Nok)))
