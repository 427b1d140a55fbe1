-- What the states of `gfm_autolink_literal` do.
use Rattle.std.specs.Prelude.{ℕ, Bool, true, false, not, nat_le, nat_lt, is_none, if◌then◌else◌, ◌==◌, ◌&&◌, ◌||◌, List, take, drop}
use Rattle.std.specs.Prelude.{refl}
use Rattle.std.specs.Char.{is_ascii_alphabetic, is_ascii_alphanumeric}
use denote.Enum.Bare.{sameb}
use Rattle.markdown_options.specs.contracts.beside.Kind.{the_type}
use Rattle.markdown_options.specs.declared.beside.Kind.TheVariants.{Other}
use Rattle.engine_events.specs.declared.event.Name.TheVariants as names
use Rattle.engine_states.specs.declared.state.Inline.TheVariants as state_inline
use Rattle.engine_states.specs.declared.state.State.TheVariants as states
use Rattle.engine_text.specs.Bytes.{first_code, goes_on, width}
use Rattle.engine_text.specs.Characters.{kind_of_any}
use Rattle.markdown_engine.specs.Reading.{Config}
use Rattle.engine_programs.specs.Bodies.{FixedName, Body, Answer, Consume, Enter, Exit, Keep, Tries, Byte, On, Test, has}
use Rattle.state_table.specs.Words.{next, retry, more}
use Rattle.definition_text.specs.Ascii.{tab, line_feed, space, exclamation_mark, double_quote, ampersand, single_quote, left_parenthesis, right_parenthesis}
use Rattle.definition_text.specs.Ascii.{asterisk, hyphen, dot, slash, colon, semicolon, less_than, question_mark, left_bracket, right_bracket, underscore}
use Rattle.definition_text.specs.Ascii.{tilde, delete}

-- ---- characters

-- the character at an index begins with this byte, and is neither white space nor punctuation
abbrev pub is_plain : (ℕ → Bool) → List ℕ → ℕ → ℕ → Bool
is_plain is_punctuation bytes index b = sameb the_type (kind_of_any is_punctuation (first_code (take (width b) (drop index bytes)))) Other

abbrev pub is_control : ℕ → Bool
is_control b = nat_lt b 32 || (b == delete)

-- a literal that begins with `www.` may follow this byte
abbrev pub is_before_www : ℕ → Bool
is_before_www b = (b == tab) || (b == line_feed) || (b == space) || (b == left_parenthesis) || (b == asterisk) || (b == left_bracket) || (b == right_bracket)
    || (b == underscore) || (b == tilde)

-- a literal ends before these
abbrev pub is_hard_end : ℕ → Bool
is_hard_end b = (b == tab) || (b == line_feed) || (b == space) || (b == less_than)

-- what is cut from the end of a literal, but for `)` and references
abbrev pub is_trail : ℕ → Bool
is_trail b = (b == exclamation_mark) || (b == double_quote) || (b == single_quote) || (b == asterisk) || (b == 44) || (b == dot) || (b == colon)
    || (b == semicolon) || (b == question_mark) || (b == underscore) || (b == tilde)

-- a trail may begin with this byte
abbrev pub may_trail : ℕ → Bool
may_trail b = (b == ampersand) || (b == right_parenthesis) || (b == right_bracket) || is_trail b

-- after a `]` that a literal ends before
abbrev pub is_after_bracket : ℕ → Bool
is_after_bracket b = (b == tab) || (b == line_feed) || (b == space) || (b == left_parenthesis) || (b == left_bracket)

-- the byte of `https`, in either case, after so many
abbrev pub is_scheme_byte : ℕ → ℕ → Bool
is_scheme_byte size b =
    if size == 0 then (b == 72) || (b == 104)
    else if (size == 1) || (size == 2) then (b == 84) || (b == 116)
    else if size == 3 then (b == 80) || (b == 112)
    else (size == 4) && ((b == 83) || (b == 115))

module _ {M : Type 0} where
  -- no `_` is in the last two parts of a domain: `size_c` is after the last one, and `size_b` counts dots since
  abbrev pub is_domain : Config M → Bool
  is_domain c = (c.tokenize_state.size_c == 0) || nat_le 2 c.tokenize_state.size_b

  -- up to `end` it is known that no trail begins, and no literal that begins with `www.`
  abbrev pub is_known : Config M → Bool
  is_known c = nat_lt c.point.index c.tokenize_state.end

  -- what begins here is no trail
  abbrev pub no_trail : Body M
  no_trail = Keep (λ c. record c.tokenize_state { end = c.point.index }) (λ c i. refl) (Answer states.Nok)

  abbrev pub is_plain_here : (ℕ → Bool) → List ℕ → Config M → Bool
  is_plain_here is_punctuation bytes c = has (is_plain is_punctuation bytes c.point.index) c.current

  -- where a domain may begin
  abbrev pub begin_domain : (ℕ → Bool) → List ℕ → Body M
  begin_domain is_punctuation bytes =
      Byte (Answer states.Nok)
      (On is_control (Answer states.Nok)
      (Test (is_plain_here is_punctuation bytes)
      (Keep (λ c. record c.tokenize_state { size = 0; size_b = 0; size_c = 0 }) (λ c i. refl) (Answer (retry state_inline.GfmAutolinkLiteralDomainInside)))
      (Answer states.Nok)))

  -- at an `h`
  abbrev pub gfm_autolink_literal_protocol_start : Bool → Body M
  gfm_autolink_literal_protocol_start on =
      Test (λ c. on && not (has is_ascii_alphabetic c.previous))
      (Enter (FixedName names.GfmAutolinkLiteralProtocol)
      (Keep (λ c. record c.tokenize_state { size = 0 }) (λ c i. refl)
      (Tries false (next state_inline.GfmAutolinkLiteralProtocolAfter) states.Nok (retry state_inline.GfmAutolinkLiteralProtocolPrefixInside))))
      (Answer states.Nok)

  -- after the literal
  abbrev pub gfm_autolink_literal_protocol_after : Body M
  gfm_autolink_literal_protocol_after = Exit (FixedName names.GfmAutolinkLiteralProtocol) (Answer states.Ok)

  -- in `http` or `https`
  abbrev pub gfm_autolink_literal_protocol_prefix_inside : Body M
  gfm_autolink_literal_protocol_prefix_inside =
      Byte (Answer states.Nok)
      (On (λ b. b == colon)
      (Test (λ c. (c.tokenize_state.size == 4) || (c.tokenize_state.size == 5))
      (Keep (λ c. record c.tokenize_state { size = 0 }) (λ c i. refl) (Consume (Answer (next state_inline.GfmAutolinkLiteralProtocolSlashesInside))))
      (Answer states.Nok))
      (Test (λ c. has (is_scheme_byte c.tokenize_state.size) c.current)
      (Keep (λ c. record c.tokenize_state { size = more c.tokenize_state.size }) (λ c i. refl)
      (Consume (Answer (next state_inline.GfmAutolinkLiteralProtocolPrefixInside))))
      (Answer states.Nok)))

  -- in `//`, or after it
  abbrev pub gfm_autolink_literal_protocol_slashes_inside : (ℕ → Bool) → List ℕ → Body M
  gfm_autolink_literal_protocol_slashes_inside is_punctuation bytes =
      Test (λ c. nat_lt c.tokenize_state.size 2)
      (On (λ b. b == slash)
      (Keep (λ c. record c.tokenize_state { size = more c.tokenize_state.size }) (λ c i. refl)
      (Consume (Answer (next state_inline.GfmAutolinkLiteralProtocolSlashesInside))))
      (Answer states.Nok))
      (begin_domain is_punctuation bytes)

  -- at a `w`
  abbrev pub gfm_autolink_literal_www_start : Bool → Body M
  gfm_autolink_literal_www_start on =
      Test (λ c. on && ((is_none c.previous || has is_before_www c.previous) && not (is_known c)))
      (Enter (FixedName names.GfmAutolinkLiteralWww)
      (Keep (λ c. record c.tokenize_state { size = 0 }) (λ c i. refl)
      (Tries false (next state_inline.GfmAutolinkLiteralWwwAfter) states.Nok (retry state_inline.GfmAutolinkLiteralWwwPrefixInside))))
      (Answer states.Nok)

  -- after the literal
  abbrev pub gfm_autolink_literal_www_after : Body M
  gfm_autolink_literal_www_after = Exit (FixedName names.GfmAutolinkLiteralWww) (Answer states.Ok)

  -- in `www.`
  abbrev pub gfm_autolink_literal_www_prefix_inside : Body M
  gfm_autolink_literal_www_prefix_inside =
      Byte (Answer states.Nok)
      (On (λ b. b == dot)
      (Test (λ c. c.tokenize_state.size == 3) (Consume (Answer (next state_inline.GfmAutolinkLiteralWwwPrefixAfter))) (Answer states.Nok))
      (On (λ b. (b == 87) || (b == 119))
      (Test (λ c. nat_lt c.tokenize_state.size 3)
      (Keep (λ c. record c.tokenize_state { size = more c.tokenize_state.size }) (λ c i. refl)
      (Consume (Answer (next state_inline.GfmAutolinkLiteralWwwPrefixInside))))
      (Answer states.Nok))
      (Answer states.Nok)))

  -- after `www.`, of which no part has a `_`
  abbrev pub gfm_autolink_literal_www_prefix_after : (ℕ → Bool) → List ℕ → Body M
  gfm_autolink_literal_www_prefix_after is_punctuation bytes = begin_domain is_punctuation bytes

  -- in a domain
  abbrev pub gfm_autolink_literal_domain_inside : (ℕ → Bool) → List ℕ → Body M
  gfm_autolink_literal_domain_inside is_punctuation bytes =
      Byte (Answer (retry state_inline.GfmAutolinkLiteralDomainAfter))
      (On (λ b. (b == dot) || (b == underscore))
      (Test is_known (Answer (retry state_inline.GfmAutolinkLiteralDomainAtPunctuation))
      (Tries true (next state_inline.GfmAutolinkLiteralDomainAfter) (next state_inline.GfmAutolinkLiteralDomainAtPunctuation)
      (retry state_inline.GfmAutolinkLiteralTrail)))
      (On (λ b. (b == hyphen) || goes_on b) (Consume (Answer (next state_inline.GfmAutolinkLiteralDomainInside)))
      (Test (is_plain_here is_punctuation bytes)
      (Consume (Answer (next state_inline.GfmAutolinkLiteralDomainInside)))
      (Answer (retry state_inline.GfmAutolinkLiteralDomainAfter)))))

  -- at a `.` or `_` of a domain
  abbrev pub gfm_autolink_literal_domain_at_punctuation : Body M
  gfm_autolink_literal_domain_at_punctuation =
      Byte (Answer states.Nok)
      (On (λ b. b == underscore)
      (Keep (λ c. record c.tokenize_state { size_b = 0; size_c = more c.point.index }) (λ c i. refl)
      (Consume (Answer (next state_inline.GfmAutolinkLiteralDomainInside))))
      (Keep (λ c. record c.tokenize_state { size_b = more c.tokenize_state.size_b }) (λ c i. refl)
      (Consume (Answer (next state_inline.GfmAutolinkLiteralDomainInside)))))

  -- where a domain ends: if it is none, no other literal begins up to its last `_`
  abbrev pub gfm_autolink_literal_domain_after : Body M
  gfm_autolink_literal_domain_after =
      Test is_domain
      (Keep (λ c. record c.tokenize_state { size = 0; size_b = 0 }) (λ c i. refl) (Answer (retry state_inline.GfmAutolinkLiteralPathInside)))
      (Keep (λ c. record c.tokenize_state { end = c.tokenize_state.size_c }) (λ c i. refl) (Answer states.Nok))

  -- after the domain: `size` counts `(`, and `size_b` counts `)`
  abbrev pub gfm_autolink_literal_path_inside : Body M
  gfm_autolink_literal_path_inside =
      Byte (Answer (retry state_inline.GfmAutolinkLiteralPathAfter))
      (On is_hard_end (Answer (retry state_inline.GfmAutolinkLiteralPathAfter))
      (On may_trail
      (Test is_known (Answer (retry state_inline.GfmAutolinkLiteralPathAtPunctuation))
      (Tries true (next state_inline.GfmAutolinkLiteralPathAfter) (next state_inline.GfmAutolinkLiteralPathAtPunctuation)
      (retry state_inline.GfmAutolinkLiteralTrail)))
      (On (λ b. b == left_parenthesis)
      (Keep (λ c. record c.tokenize_state { size = more c.tokenize_state.size }) (λ c i. refl)
      (Consume (Answer (next state_inline.GfmAutolinkLiteralPathInside))))
      (Consume (Answer (next state_inline.GfmAutolinkLiteralPathInside))))))

  -- at punctuation that isn't cut
  abbrev pub gfm_autolink_literal_path_at_punctuation : Body M
  gfm_autolink_literal_path_at_punctuation =
      Byte (Answer states.Nok)
      (On (λ b. b == right_parenthesis)
      (Keep (λ c. record c.tokenize_state { size_b = more c.tokenize_state.size_b }) (λ c i. refl)
      (Consume (Answer (next state_inline.GfmAutolinkLiteralPathInside))))
      (Consume (Answer (next state_inline.GfmAutolinkLiteralPathInside))))

  -- where the literal ends
  abbrev pub gfm_autolink_literal_path_after : Body M
  gfm_autolink_literal_path_after = Answer states.Ok

  -- in what is cut, if only such follows up to the end
  abbrev pub gfm_autolink_literal_trail : Body M
  gfm_autolink_literal_trail =
      Byte (Answer states.Ok)
      (On is_hard_end (Answer states.Ok)
      (On (λ b. b == ampersand) (Consume (Answer (next state_inline.GfmAutolinkLiteralTrailCharRefStart)))
      (On (λ b. b == right_parenthesis)
      (Test (λ c. nat_lt c.tokenize_state.size_b c.tokenize_state.size) no_trail (Consume (Answer (next state_inline.GfmAutolinkLiteralTrail))))
      (On (λ b. b == right_bracket) (Consume (Answer (next state_inline.GfmAutolinkLiteralTrailBracketAfter)))
      (On is_trail (Consume (Answer (next state_inline.GfmAutolinkLiteralTrail))) no_trail)))))

  -- after a `]`
  abbrev pub gfm_autolink_literal_trail_bracket_after : Body M
  gfm_autolink_literal_trail_bracket_after =
      Byte (Answer states.Ok)
      (On is_after_bracket (Answer states.Ok) no_trail)

  -- after an `&`
  abbrev pub gfm_autolink_literal_trail_char_ref_start : Body M
  gfm_autolink_literal_trail_char_ref_start =
      On is_ascii_alphanumeric (Consume (Answer (next state_inline.GfmAutolinkLiteralTrailCharRefInside))) no_trail

  -- in letters and digits after an `&`
  abbrev pub gfm_autolink_literal_trail_char_ref_inside : Body M
  gfm_autolink_literal_trail_char_ref_inside =
      On is_ascii_alphanumeric (Consume (Answer (next state_inline.GfmAutolinkLiteralTrailCharRefInside)))
      (On (λ b. b == semicolon) (Consume (Answer (next state_inline.GfmAutolinkLiteralTrail))) no_trail)
