-- What the states of a character reference come to (CommonMark 2.5).
--
--     character_reference ::= '&' (name | numeric) ';'
--     name ::= 1*31(letter | digit), one that the tables have
--     numeric ::= '#' (1*7digit | ('x' | 'X') 1*6hexadecimal_digit)
use Rattle.std.specs.Prelude.{◌≡◌, ℕ, ◌<◌, ◌≤◌, Bool, true, false, ◌==◌, ◌||◌, List, [], ◌∷◌, ◌++◌, drop, Option, None, Some}
use Rattle.std.specs.Char.{is_ascii_alphanumeric, is_ascii_digit, is_ascii_hexdigit}
use Rattle.definition_text.specs.Ascii.{ampersand, capital_x, number_sign, semicolon, small_x}
use Rattle.definition_inline.specs.CharacterReference.{reference_at}
use Rattle.definition_inline.specs.Inline.{Found}
use Rattle.engine_events.specs.Events.{event}
use Rattle.engine_events.specs.declared.event.Event.{Event}
use Rattle.engine_events.specs.declared.event.Kind.TheVariants.{Enter, Exit}
use Rattle.engine_events.specs.declared.event.Name.TheVariants as names
use Rattle.engine_events.specs.declared.place.Point.{Point}
use Rattle.engine_states.specs.declared.state.Inline.TheVariants as state_inline
use Rattle.markdown_engine.specs.KeptState.{KeptState}
use Rattle.markdown_engine.specs.Reading.{Config}
use Rattle.markdown_engine.specs.VirtualText.{Text, as_byte}
use Rattle.state_inline.specs.declared.inlines.Inlines.{Inlines}
use Rattle.state_verdicts.specs.Codes.{Sees}
use Rattle.state_verdicts.specs.TextBytes.{Shows}
use Rattle.state_verdicts.specs.Beginnings.{Beginning, AtByte, BeforeByte, AreSeen, ComesNext, all_codes, at_hand, attempt, choice}
use Rattle.state_verdicts.specs.RawText.{piece}
use Rattle.state_verdicts.specs.Stretch.{Stretch}
use Rattle.state_verdicts.specs.Verdicts.{Comes, Leaves}

-- the events of a reference: its `&` is from p to q, and these events follow; its value is between the next two places, and its `;` goes on to the end
abbrev pub reference_events : Point → Point → List Event → Point → Point → Point → List Event
reference_events p q kind from to end =
    event Enter names.CharacterReference p None ∷ piece names.CharacterReferenceMarker p q (kind
    ++ piece names.CharacterReferenceValue from to (piece names.CharacterReferenceMarkerSemi to end (event Exit names.CharacterReference end None ∷ [])))

-- the events of what tells that a value is a number, and that it is hexadecimal
abbrev pub numeric_events : Point → Point → List Event
numeric_events p q = piece names.CharacterReferenceMarkerNumeric p q []

abbrev pub hexadecimal_events : Point → Point → Point → Point → List Event
hexadecimal_events p q r s = piece names.CharacterReferenceMarkerNumeric p q (piece names.CharacterReferenceMarkerHexadecimal r s [])

-- so many bytes of a sort, one at least and at most so many, and then a `;` from a place to another
pub record IsValue (text : Text) (is : ℕ → Bool) (most size : ℕ) (from to end : Point) : Type 0 where
  pub some : 0 < size
  pub few : size ≤ most
  pub value : Stretch text is size from to
  pub semicolon : text.byte (text.start to) ≡ Some (as_byte semicolon end)

-- these are the events of a reference after whose `&` is a place, with the byte that tells its kind and the size of its value
pub data IsReference (text : Text) (p q : Point) : ℕ → ℕ → List Event → Point → Type 0 where
  named : {size : ℕ} {to end : Point} → IsValue text is_ascii_alphanumeric 31 size q to end
      → IsReference text p q ampersand size (reference_events p q [] (text.start q) (text.start to) end) end
  decimal : {size : ℕ} {r to end : Point} → text.byte (text.start q) ≡ Some (as_byte number_sign r) → IsValue text is_ascii_digit 7 size r to end
      → IsReference text p q number_sign size (reference_events p q (numeric_events (text.start q) r) (text.start r) (text.start to) end) end
  hexadecimal : {b size : ℕ} {r s to end : Point} → text.byte (text.start q) ≡ Some (as_byte number_sign r) → ((b == small_x) || (b == capital_x)) ≡ true
      → text.byte (text.start r) ≡ Some (as_byte b s) → IsValue text is_ascii_hexdigit 6 size s to end
      → IsReference text p q small_x size (reference_events p q (hexadecimal_events (text.start q) r (text.start r) s) s (text.start to) end) end

-- what is kept once a reference was read
abbrev pub referring : ℕ → ℕ → KeptState → KeptState
referring marker size k = record k { marker = marker; size = size }

-- the attempt fails where there is no reference; otherwise it goes well, with the reference's events, up to where what it leaves of the codes is seen
abbrev pub ReferenceVerdict : Text → Comes → Config Inlines → Point → Point → List ℕ → Option Found → Type 0
ReferenceVerdict text comes c p q codes None = (d : Config Inlines) × comes d false
ReferenceVerdict text comes c p q codes (Some leaf) =
    (d : Config Inlines) × (marker : ℕ) × (size : ℕ) × (added : List Event) × (end : Point) × comes d true × IsReference text p q marker size added end
    × Leaves c d (referring marker size c.tokenize_state) added end × Sees text end (drop leaf.size codes)

-- an attempt there reads a reference exactly where the definition has one by the same texts of names
abbrev pub ReadsReference : {T : Type 0} → Beginning T → Comes → Type 0
ReadsReference here comes =
    ReferenceVerdict here.text comes (at_hand here) here.place here.after (all_codes here)
    (reference_at here.context.options.constructs here.texts (all_codes here))

-- at an `&`, after which these codes are seen, a reference is read exactly where the definition has one by the same texts of names,
-- if the letters and digits of the text stand in the bytes in which names are looked up
abbrev pub CharacterReferenceVerdict : Type 0 → Type 0
CharacterReferenceVerdict T = AtByte T ampersand (λ here. Shows here.context.bytes here.text → 0 < (here.text.start here.after).column → AreSeen here
    → ReadsReference here (attempt here state_inline.CharacterReferenceStart))

-- before a part of a text that begins so, reading goes on after a reference exactly where the definition has one, and otherwise with data
abbrev pub CharacterReferenceChoice : Type 0 → Type 0
CharacterReferenceChoice T =
    BeforeByte T ampersand (λ here. Shows here.context.bytes here.text → 0 < (here.text.start here.after).column → ComesNext here → AreSeen here
    → ReadsReference here (choice here state_inline.TextBefore state_inline.TextBeforeData))
