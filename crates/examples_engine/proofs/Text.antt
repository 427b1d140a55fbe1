-- Lines, slices, runs of events and characters.
use Rattle.std.specs.Prelude.{◌≡◌, ℕ, true, false, List, ◌∷◌, [], ◌++◌, take, drop, codes, Option, None, Some, slice_get}
use Rattle.std.specs.Char.{encode_utf8, is_ascii_punctuation}
use Rattle.std.specs.Str.{chars, is_utf8}
use Rattle.std.proofs.Common.{refl}
use Rattle.markdown_options.specs.declared.beside.Kind.{Kind}
use Rattle.markdown_options.specs.declared.beside.Kind.TheVariants.{Whitespace, Punctuation, Other}
use Rattle.markdown_options.specs.declared.unist.Point as unist
use Rattle.definition_text.specs.InlineCode.{character_kind}
use Rattle.engine_events.specs.declared.event.Event.{Event}
use Rattle.engine_events.specs.declared.event.Kind.TheVariants.{Enter, Exit}
use Rattle.engine_events.specs.declared.event.Name.TheVariants.{Data, Strong}
use Rattle.engine_events.specs.Columns.{between}
use Rattle.engine_text.specs.Bytes.{code_after, code_before, first_code, goes_on, width}
use Rattle.engine_text.specs.Characters.{IsLast, kind_of_any}
use Rattle.engine_text.specs.CharacterTexts.{character_text, text_or_end}
use Rattle.engine_text.specs.Locations.{point_at}
use Rattle.engine_text.specs.Skips.{whole, whole_back, first_named, last_named}
use Rattle.engine_text.specs.Slices.{last_enter, index_past, spaces_before, spaces_after}
use Rattle.engine_text.specs.Stops.{absolute}
use Rattle.examples_engine.proofs.Given.{place, at}

-- `unfolding text` lets `refl` compute the characters of bytes
unfoldable text : Unit {0}
unfolding encode_utf8 chars is_utf8
text = tt

-- ---- lines and columns

abbrev point : ℕ → ℕ → ℕ → Option unist.Point
point line column offset = let p : unist.Point = record { line = line; column = column; offset = offset } in
    Some p

abbrev two_lines : List ℕ
two_lines = codes "ab\r\nc"

within_ending : point_at two_lines 3 ≡ point 1 4 3
within_ending = refl

after_ending : point_at two_lines 4 ≡ point 2 1 4
after_ending = refl

at_end : point_at two_lines 5 ≡ point 2 2 5
at_end = refl

past_end : point_at two_lines 6 ≡ None
past_end = refl

from_part : absolute ((0, 1) ∷ (2, 4) ∷ []) 2 ≡ Some 4
from_part = refl

before_stops : absolute ((1, 4) ∷ (3, 9) ∷ []) 0 ≡ None
before_stops = refl

past_first_stop : absolute ((1, 4) ∷ (3, 9) ∷ []) 2 ≡ Some 5
past_first_stop = refl

past_last_stop : absolute ((1, 4) ∷ (3, 9) ∷ []) 4 ≡ Some 10
past_last_stop = refl

-- ---- slices: from the third column of a tab to the second of another

cut : between (index_past (place 3 0 2)) (index_past (place 8 2 2)) (codes "\ta\tb") ≡ codes "a\t"
cut = refl

cut_before : spaces_before (place 3 0 2) (place 8 2 2) ≡ 2
cut_before = refl

cut_after : spaces_after (place 3 0 2) (place 8 2 2) ≡ 1
cut_after = refl

by_indices : between 1 3 (codes "\ta\tb") ≡ codes "a\t"
by_indices = refl

-- ---- runs of events

abbrev nested : List Event
nested = at Enter Strong 0 None ∷ at Enter Data 0 None ∷ at Exit Data 0 None ∷ at Exit Strong 0 None ∷ []

abbrev events : List Event
events = nested ++ at Enter Data 0 None ∷ at Exit Data 0 None ∷ []

one_whole : whole (Strong ∷ []) events ≡ 4
one_whole = refl

both_whole : whole (Strong ∷ Data ∷ []) events ≡ 6
both_whole = refl

one_back : whole_back (Data ∷ []) 5 events ≡ 3
one_back = refl

both_back : whole_back (Strong ∷ Data ∷ []) 5 events ≡ 0
both_back = refl

found : first_named (Data ∷ []) 0 events ≡ 1
found = refl

found_back : last_named (Data ∷ []) 3 nested ≡ 2
found_back = refl

found_first : last_named (Data ∷ Strong ∷ []) 0 nested ≡ 0
found_first = refl

entered : last_enter Strong (take 3 nested) ≡ Some (at Enter Strong 0 None)
entered = refl

-- ---- characters as they are shown

letter : character_text 97 ≡ codes "`a` (U+0061)"
letter = refl

backtick : character_text 96 ≡ codes "`` ` `` (U+0060)"
backtick = refl

face : character_text 128512 ≡ codes "U+1F600"
face = refl

line_feed : character_text 10 ≡ codes "U+000A"
line_feed = refl

some_character : text_or_end (Some 233) ≡ codes "U+00E9"
some_character = refl

no_character : text_or_end None ≡ codes "end of file"
no_character = refl

-- ---- kinds of characters (CommonMark 2.1)

kind_of_letter : character_kind is_ascii_punctuation 233 ≡ Other
kind_of_letter = refl

kind_of_star : character_kind is_ascii_punctuation 42 ≡ Punctuation
kind_of_star = refl

kind_of_space : character_kind is_ascii_punctuation 160 ≡ Whitespace
kind_of_space = refl

kind_of_some : kind_of_any is_ascii_punctuation (Some 97) ≡ Other
kind_of_some = refl

kind_of_none : kind_of_any is_ascii_punctuation None ≡ Whitespace
kind_of_none = refl

-- é and an exclamation mark
abbrev marked : List ℕ
marked = 195 ∷ 169 ∷ 33 ∷ []

before_mark : IsLast (take 2 marked) (Some 233)
unfolding text
before_mark = ([], refl)

after_letter_of_two : slice_get (chars (drop 2 marked)) 0 ≡ Some 33
unfolding text
after_letter_of_two = refl

kind_after_letter : kind_of_any is_ascii_punctuation (slice_get (chars (drop 2 marked)) 0) ≡ Punctuation
unfolding text
kind_after_letter = refl

kind_at_end : kind_of_any is_ascii_punctuation (slice_get (chars (drop 3 marked)) 0) ≡ Whitespace
unfolding text
kind_at_end = refl

-- ---- characters of bytes: a letter, é and a byte that is in no character

abbrev bytes : List ℕ
bytes = 97 ∷ 195 ∷ 169 ∷ 255 ∷ []

after_start : code_after bytes 0 ≡ Some 97
unfolding text
after_start = refl

after_letter : code_after bytes 1 ≡ Some 233
unfolding text
after_letter = refl

after_middle : code_after bytes 2 ≡ None
unfolding text
after_middle = refl

after_last : code_after bytes 3 ≡ None
unfolding text
after_last = refl

after_end : code_after bytes 4 ≡ None
unfolding text
after_end = refl

before_start : code_before bytes 0 ≡ None
unfolding text
before_start = refl

before_second : code_before bytes 1 ≡ Some 97
unfolding text
before_second = refl

before_middle : code_before bytes 2 ≡ None
unfolding text
before_middle = refl

before_last : code_before bytes 3 ≡ Some 233
unfolding text
before_last = refl

before_end : code_before bytes 4 ≡ None
unfolding text
before_end = refl

before_past_end : code_before bytes 5 ≡ None
unfolding text
before_past_end = refl

a_part : take 2 (drop 1 bytes) ≡ 195 ∷ 169 ∷ []
a_part = refl

no_first : first_code bytes ≡ None
unfolding text
no_first = refl

first : first_code (195 ∷ 169 ∷ []) ≡ Some 233
unfolding text
first = refl

width_of_letter : width 97 ≡ 1
width_of_letter = refl

width_of_two : width 195 ≡ 2
width_of_two = refl

first_of_two : goes_on 195 ≡ false
first_of_two = refl

second_of_two : goes_on 169 ≡ true
second_of_two = refl
