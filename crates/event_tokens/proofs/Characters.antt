-- The bytes of a token are whole characters.
use Rattle.std.proofs.Common.{◌≡◌, ◌<◌, ℕ, zero, suc, Bool, true, ◌==◌, ◌||◌, not, List, [], ◌∷◌, inl, inr, refl, sym, ap, ◌∙◌, arith}
use Rattle.std.specs.Prelude.{codes, leb, length, nat_lt}
use Rattle.std.specs.Char.{is_ascii_alphanumeric, is_ascii_digit, is_ascii_punctuation}
use Rattle.std.specs.List.{list_all}
use Rattle.std.specs.Str.{IsAscii, bytes_eq, chars, is_utf8}
use Rattle.std.proofs.Math.Utf8.{encode}
use Rattle.std.proofs.lemmas.Bool.{and_parts, eqb-true, ltb-true, or_cases, true≢false}
use Rattle.std.proofs.lemmas.Bool.Decides.{nat_tests}
use Rattle.std.proofs.lemmas.Slice.Eq.{bytes_eq-Decides}
use Rattle.std.proofs.lemmas.Str.{IsUtf8-from_ascii, IsUtf8-nil, is_utf8-from_IsUtf8}
use Rattle.definition_text.specs.Columns.{is_white}
use Rattle.definition_text.specs.Lines.{ends_line}
use Rattle.engine_events.specs.declared.event.Name.{Name}
use Rattle.engine_events.specs.declared.event.Name.TheVariants as n
use Rattle.event_grammar.specs.Facts.{is_size}
use Rattle.event_tokens.specs.Laws.{AreBytes, TokensAreCharacters}
use Rattle.event_tokens.specs.Tokens.{Form, fits, is_among, is_run, one_of, token_form, Characters, Ending, Number, All, Most, Run, Only, Least, Such}
use Rattle.event_tokens.specs.Tokens.{Either, Both, begins_address, begins_link, is_address, is_email, is_uri}

-- ---- bytes of a kind

-- bytes of a kind are ASCII
IsAsciiKind : (ℕ → Bool) → Type 0
IsAsciiKind kind = (b : ℕ) → b < 256 → kind b ≡ true → b < 128

first_ascii : (b : ℕ) (bs : List ℕ) → b < 128 → IsAscii bs → IsAscii (b ∷ bs)
first_ascii b bs first others zero = first
first_ascii b bs first others (suc i) = others i

all_ascii : (kind : ℕ → Bool) (bytes : List ℕ) → IsAsciiKind kind → AreBytes bytes → list_all kind bytes ≡ true → IsAscii bytes
unfolding IsAsciiKind
all_ascii kind [] ascii are all = λ i. omega arith
all_ascii kind (b ∷ bs) ascii are all =
    let parts = and_parts (kind b) (list_all kind bs) all in
    first_ascii b bs (ascii b (are 0) parts.0) (all_ascii kind bs ascii (λ k. are (suc k)) parts.1)

ascii_characters : (kind : ℕ → Bool) (bytes : List ℕ) → IsAsciiKind kind → AreBytes bytes → list_all kind bytes ≡ true → is_utf8 bytes ≡ true
ascii_characters kind bytes ascii are all = is_utf8-from_IsUtf8 bytes (IsUtf8-from_ascii bytes (all_ascii kind bytes ascii are all))

white_ascii : IsAsciiKind is_white
unfolding IsAsciiKind
white_ascii b byte is = grind (arith, nat_tests, byte, is)

digit_ascii : IsAsciiKind is_ascii_digit
unfolding IsAsciiKind
digit_ascii b byte is = grind (arith, nat_tests, is)

alphanumeric_ascii : IsAsciiKind is_ascii_alphanumeric
unfolding IsAsciiKind
alphanumeric_ascii b byte is = grind (arith, nat_tests, is)

punctuation_ascii : IsAsciiKind is_ascii_punctuation
unfolding IsAsciiKind
punctuation_ascii b byte is = grind (arith, nat_tests, is)

among_ascii : (marks : List ℕ) → list_all (λ c. nat_lt c 128) marks ≡ true → IsAsciiKind (is_among marks)
unfolding IsAsciiKind
among_ascii [] low b byte is = absurd (true≢false (sym is))
among_ascii (c ∷ marks) low b byte is =
    let parts = and_parts (nat_lt c 128) (list_all (λ d. nat_lt d 128) marks) low in
    elim (or_cases (b == c) (is_among marks b) is) [
      | inl same ↦ let at = eqb-true b c same in let small = ltb-true c 128 parts.0 in omega (arith, at, small)
      | inr other ↦ among_ascii marks parts.1 b byte other
    ]

-- ---- forms

-- bytes of a form are whole characters
HasCharacters : Form → Type 0
HasCharacters form = (bytes : List ℕ) → AreBytes bytes → fits form bytes ≡ true → is_utf8 bytes ≡ true

same_characters : (bytes text : List ℕ) → is_utf8 text ≡ true → bytes_eq bytes text ≡ true → is_utf8 bytes ≡ true
same_characters bytes text are same = ap is_utf8 ((bytes_eq-Decides bytes text).0 same) ∙ are

feed : is_utf8 (10 ∷ []) ≡ true
unfolding is_utf8 chars encode
feed = refl

return : is_utf8 (13 ∷ []) ≡ true
unfolding is_utf8 chars encode
return = refl

return_and_feed : is_utf8 (13 ∷ 10 ∷ []) ≡ true
unfolding is_utf8 chars encode
return_and_feed = refl

byte_order_mark : is_utf8 (239 ∷ 187 ∷ 191 ∷ []) ≡ true
unfolding is_utf8 chars encode
byte_order_mark = refl

ending : HasCharacters Ending
unfolding HasCharacters
ending bytes are is =
    elim (or_cases (bytes_eq bytes (10 ∷ []) || bytes_eq bytes (13 ∷ 10 ∷ [])) (bytes_eq bytes (13 ∷ [])) is) [
      | inl others ↦ elim (or_cases (bytes_eq bytes (10 ∷ [])) (bytes_eq bytes (13 ∷ 10 ∷ [])) others) [
        | inl one ↦ same_characters bytes (10 ∷ []) feed one
        | inr both ↦ same_characters bytes (13 ∷ 10 ∷ []) return_and_feed both
      ]
      | inr last ↦ same_characters bytes (13 ∷ []) return last
    ]

number : (most : ℕ) → HasCharacters (Number most)
unfolding HasCharacters
number most bytes are is = ascii_characters is_ascii_digit bytes digit_ascii are (and_parts (is_size most bytes) (list_all is_ascii_digit bytes) is).1

all : (kind : ℕ → Bool) → IsAsciiKind kind → HasCharacters (All kind)
unfolding HasCharacters
all kind ascii bytes are is = ascii_characters kind bytes ascii are is

most : (size : ℕ) (kind : ℕ → Bool) → IsAsciiKind kind → HasCharacters (Most size kind)
unfolding HasCharacters
most size kind ascii bytes are is = ascii_characters kind bytes ascii are (and_parts (is_size size bytes) (list_all kind bytes) is).1

run : (marks : List ℕ) → list_all (λ c. nat_lt c 128) marks ≡ true → HasCharacters (Run marks)
unfolding HasCharacters
run marks low bytes are is = ascii_characters (is_among marks) bytes (among_ascii marks low) are (and_parts (is_run bytes) (list_all (is_among marks) bytes) is).1

mark : (marks : List ℕ) → list_all (λ c. nat_lt c 128) marks ≡ true → HasCharacters (one_of marks)
mark marks low = most 1 (is_among marks) (among_ascii marks low)

only : (text : List ℕ) → is_utf8 text ≡ true → HasCharacters (Only text)
unfolding HasCharacters
only text utf8 bytes are is = same_characters bytes text utf8 is

least : (size : ℕ) (kind : ℕ → Bool) → IsAsciiKind kind → HasCharacters (Least size kind)
unfolding HasCharacters
least size kind ascii bytes are is = ascii_characters kind bytes ascii are (and_parts (leb size (length bytes)) (list_all kind bytes) is).1

either : (one other : Form) → HasCharacters one → HasCharacters other → HasCharacters (Either one other)
unfolding HasCharacters
either one other first second bytes are is =
    elim (or_cases (fits one bytes) (fits other bytes) is) [
      | inl fit ↦ first bytes are fit
      | inr fit ↦ second bytes are fit
    ]

text : (form : Form) → HasCharacters (Both Characters form)
unfolding HasCharacters
text form bytes are is = (and_parts (is_utf8 bytes) (fits form bytes) is).0

-- ---- the table

pair : is_utf8 (codes "**") ≡ true
unfolding is_utf8 chars encode
pair = refl

underscores : is_utf8 (codes "__") ≡ true
unfolding is_utf8 chars encode
underscores = refl

equals : is_utf8 (codes "==") ≡ true
unfolding is_utf8 chars encode
equals = refl

hyphens : is_utf8 (codes "---") ≡ true
unfolding is_utf8 chars encode
hyphens = refl

pluses : is_utf8 (codes "+++") ≡ true
unfolding is_utf8 chars encode
pluses = refl

token_characters : (name : Name) → HasCharacters (token_form name)
token_characters n.SpaceOrTab = all is_white white_ascii
token_characters n.LineEnding = ending
token_characters n.BlankLineEnding = ending
token_characters n.ByteOrderMark = only (239 ∷ 187 ∷ 191 ∷ []) byte_order_mark
token_characters n.Data = text (All (λ b. not (ends_line b)))
token_characters n.BlockQuoteMarker = mark (codes ">") refl
token_characters n.ListItemValue = number 9
token_characters n.ListItemMarker = mark (codes "-+*.)") refl
token_characters n.GfmFootnoteDefinitionLabelMarker = mark (codes "[]") refl
token_characters n.GfmFootnoteDefinitionMarker = mark (codes "^") refl
token_characters n.DefinitionMarker = mark (codes ":") refl
token_characters n.FrontmatterSequence = either (Only (codes "---")) (Only (codes "+++")) (only (codes "---") hyphens) (only (codes "+++") pluses)
token_characters n.FrontmatterChunk = text (All (λ b. not (ends_line b)))
token_characters n.ThematicBreakSequence = run (codes "*-_") refl
token_characters n.CodeFencedFenceSequence = run (codes "`~") refl
token_characters n.CodeFlowChunk = text (All (λ b. not (ends_line b)))
token_characters n.MathFlowFenceSequence = run (codes "$") refl
token_characters n.MathFlowChunk = text (All (λ b. not (ends_line b)))
token_characters n.HtmlFlowData = text (All (λ b. not (ends_line b)))
token_characters n.HeadingAtxSequence = run (codes "#") refl
token_characters n.HeadingSetextUnderlineSequence = run (codes "=-") refl
token_characters n.DefinitionLabelMarker = mark (codes "[]") refl
token_characters n.DefinitionDestinationLiteralMarker = mark (codes "<>") refl
token_characters n.DefinitionTitleMarker = mark (codes "\"'()") refl
token_characters n.GfmTableCellDivider = mark (codes "|") refl
token_characters n.GfmTableDelimiterFiller = run (codes "-") refl
token_characters n.GfmTableDelimiterMarker = mark (codes ":") refl
token_characters n.CharacterEscapeMarker = mark (codes "\\") refl
token_characters n.CharacterEscapeValue = most 1 is_ascii_punctuation punctuation_ascii
token_characters n.CharacterReferenceMarker = mark (codes "&") refl
token_characters n.CharacterReferenceMarkerNumeric = mark (codes "#") refl
token_characters n.CharacterReferenceMarkerHexadecimal = mark (codes "xX") refl
token_characters n.CharacterReferenceMarkerSemi = mark (codes ";") refl
token_characters n.CharacterReferenceValue = most 31 is_ascii_alphanumeric alphanumeric_ascii
token_characters n.AutolinkMarker = mark (codes "<>") refl
token_characters n.AutolinkProtocol = text (Such is_uri)
token_characters n.AutolinkEmail = text (Such is_email)
token_characters n.GfmAutolinkLiteralWww = text (Such (begins_link (codes "www.")))
token_characters n.GfmAutolinkLiteralProtocol = text (Either (Such (begins_link (codes "http://"))) (Such (begins_link (codes "https://"))))
token_characters n.GfmAutolinkLiteralEmail = text (Such is_address)
token_characters n.GfmAutolinkLiteralMailto = text (Such (begins_address (codes "mailto:")))
token_characters n.GfmAutolinkLiteralXmpp = text (Such (begins_address (codes "xmpp:")))
token_characters n.CodeTextSequence = run (codes "`") refl
token_characters n.CodeTextData = text (All (λ b. not (ends_line b)))
token_characters n.MathTextSequence = run (codes "$") refl
token_characters n.MathTextData = text (All (λ b. not (ends_line b)))
token_characters n.HtmlTextData = text (All (λ b. not (ends_line b)))
token_characters n.EmphasisSequence = mark (codes "*_") refl
token_characters n.StrongSequence = either (Only (codes "**")) (Only (codes "__")) (only (codes "**") pair) (only (codes "__") underscores)
token_characters n.GfmStrikethroughSequence = most 2 (is_among (codes "~")) (among_ascii (codes "~") refl)
token_characters n.MarkSequence = only (codes "==") equals
token_characters n.HardBreakEscape = mark (codes "\\") refl
token_characters n.HardBreakTrailing = least 2 (is_among (codes " ")) (among_ascii (codes " ") refl)
token_characters n.LabelMarker = mark (codes "[]") refl
token_characters n.LabelImageMarker = mark (codes "!") refl
token_characters n.GfmFootnoteCallMarker = mark (codes "^") refl
token_characters n.GfmTaskListItemMarker = mark (codes "[]") refl
token_characters n.GfmTaskListItemValueChecked = mark (codes "xX") refl
token_characters n.GfmTaskListItemValueUnchecked = either Ending (Most 1 is_white) ending (most 1 is_white white_ascii)
token_characters n.ReferenceMarker = mark (codes "[]") refl
token_characters n.ResourceMarker = mark (codes "()") refl
token_characters n.ResourceDestinationLiteralMarker = mark (codes "<>") refl
token_characters n.ResourceTitleMarker = mark (codes "\"'()") refl
token_characters name = only [] (is_utf8-from_IsUtf8 [] IsUtf8-nil)

pub tokens_are_characters : TokensAreCharacters
unfolding HasCharacters
tokens_are_characters name bytes are is = token_characters name bytes are is
