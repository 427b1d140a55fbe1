-- What the states of character references do at each byte.
use Rattle.std.proofs.Common.{◌≡◌, ℕ, Bool, false, ◌==◌, ◌&&◌, ◌||◌, if◌then◌else◌, List, Option, Some, None, refl}
use Rattle.state_verdicts.proofs.Prelude.{Config, Context, goes_on, Inlines, is_ascii_alphanumeric, is_ascii_digit, is_value_known, more, next, past_byte}
use Rattle.state_verdicts.proofs.Prelude.{plain, referring, run, with_enter, with_exit}
use Rattle.engine_events.specs.declared.event.Name.TheVariants as names
use Rattle.engine_states.specs.declared.state.Inline.TheVariants as state_inline
use Rattle.engine_states.specs.declared.state.Name.TheVariants.{Inline}
use Rattle.engine_states.specs.declared.state.State.TheVariants as states
use Rattle.state_inline.specs.Inlines.{bodies}

-- over the `&`
abbrev pub reference_begun : Config Inlines → Config Inlines
reference_begun c =
    with_exit names.CharacterReferenceMarker (past_byte (with_enter names.CharacterReferenceMarker None (with_enter names.CharacterReference None c)))

-- over the `#`
abbrev pub numeric_begun : Config Inlines → Config Inlines
numeric_begun c = with_exit names.CharacterReferenceMarkerNumeric (past_byte (with_enter names.CharacterReferenceMarkerNumeric None c))

abbrev pub referred : ℕ → ℕ → Config Inlines → Config Inlines
referred marker size c = record c { tokenize_state = referring marker size c.tokenize_state }

-- over the `x`
abbrev pub hexadecimal_begun : Config Inlines → Config Inlines
hexadecimal_begun c =
    with_enter names.CharacterReferenceValue None
    (with_exit names.CharacterReferenceMarkerHexadecimal (past_byte (with_enter names.CharacterReferenceMarkerHexadecimal None (referred 120 0 c))))

-- over the first byte of a value
abbrev pub value_begun : ℕ → Config Inlines → Config Inlines
value_begun marker c = past_byte (with_enter names.CharacterReferenceValue None (referred marker 1 c))

-- over a further one
abbrev pub value_longer : Config Inlines → Config Inlines
value_longer c = past_byte (record c { tokenize_state = record c.tokenize_state { size = more c.tokenize_state.size } })

-- over the `;`
abbrev pub value_closed : Config Inlines → Config Inlines
value_closed c =
    with_exit names.CharacterReference
    (with_exit names.CharacterReferenceMarkerSemi (past_byte (with_enter names.CharacterReferenceMarkerSemi None (with_exit names.CharacterReferenceValue c))))

module _ {T : Type 0} (texts : List ℕ → Option (List ℕ)) (is_punctuation : ℕ → Bool) (x : Context T) where
  pub starts : (c : Config Inlines) (on : Bool) → c.current ≡ Some 38 → x.options.constructs.character_reference ≡ on
      → run (bodies texts is_punctuation x (Inline state_inline.CharacterReferenceStart)) c
      ≡ (if on then plain (reference_begun c) (next state_inline.CharacterReferenceOpen) else plain c states.Nok)
  unfolding bodies
  starts c on h k = rw (h, k) refl

  pub open_ends : (c : Config Inlines) → c.current ≡ None → run (bodies texts is_punctuation x (Inline state_inline.CharacterReferenceOpen)) c
      ≡ plain c states.Nok
  unfolding bodies
  open_ends c h = rw h refl

  pub open_number : (c : Config Inlines) → c.current ≡ Some 35
      → run (bodies texts is_punctuation x (Inline state_inline.CharacterReferenceOpen)) c
      ≡ plain (numeric_begun c) (next state_inline.CharacterReferenceNumeric)
  unfolding bodies
  open_number c h = rw h refl

  pub open_by : (b : ℕ) (c : Config Inlines) (letter : Bool) → c.current ≡ Some b → (b == 35) ≡ false → is_ascii_alphanumeric b ≡ letter
      → run (bodies texts is_punctuation x (Inline state_inline.CharacterReferenceOpen)) c
      ≡ (if letter then plain (value_begun 38 c) (next state_inline.CharacterReferenceValue) else plain c states.Nok)
  unfolding bodies
  open_by b c letter h k l = rw (h, k, l) refl

  pub numeric_ends : (c : Config Inlines) → c.current ≡ None → run (bodies texts is_punctuation x (Inline state_inline.CharacterReferenceNumeric)) c
      ≡ plain c states.Nok
  unfolding bodies
  numeric_ends c h = rw h refl

  pub numeric_by : (b : ℕ) (c : Config Inlines) (hexadecimal digit : Bool) → c.current ≡ Some b → ((b == 120) || (b == 88)) ≡ hexadecimal
      → is_ascii_digit b ≡ digit
      → run (bodies texts is_punctuation x (Inline state_inline.CharacterReferenceNumeric)) c
      ≡ (if hexadecimal then plain (hexadecimal_begun c) (next state_inline.CharacterReferenceValue) else if digit
      then plain (value_begun 35 c) (next state_inline.CharacterReferenceValue) else plain c states.Nok)
  unfolding bodies
  numeric_by b c hexadecimal digit h k l = rw (h, k, l) refl

  pub value_ends : (c : Config Inlines) → c.current ≡ None → run (bodies texts is_punctuation x (Inline state_inline.CharacterReferenceValue)) c
      ≡ plain c states.Nok
  unfolding bodies
  value_ends c h = rw h refl

  pub value_by : (b : ℕ) (c : Config Inlines) (ends longer : Bool) → c.current ≡ Some b → ((b == 59) && is_value_known texts x.bytes c) ≡ ends
      → goes_on c.tokenize_state.marker c.tokenize_state.size b ≡ longer
      → run (bodies texts is_punctuation x (Inline state_inline.CharacterReferenceValue)) c
      ≡ (if ends then plain (value_closed c) states.Ok else if longer then plain (value_longer c) (next state_inline.CharacterReferenceValue)
      else plain c states.Nok)
  unfolding bodies
  value_by b c ends longer h k l = rw (h, k, l) refl
