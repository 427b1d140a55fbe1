-- The form of each leaf as it is written (CommonMark 2.4, 2.5, 6.1 and 6.5 to 6.8): which codes stand there, and where it ends.
use Rattle.std.specs.Prelude.{◌≡◌, ◌<◌, ◌≤◌, ◌==◌, ℕ, Bool, true, false, List, [], ◌∷◌, ◌++◌, Some, drop, length, replicate}
use Rattle.std.specs.Char.{is_ascii_punctuation}
use Rattle.definition_text.specs.Ascii.{backslash, backtick, dollar, greater_than, less_than, semicolon, space}
use Rattle.definition_text.specs.Bytes.{begins_with}
use Rattle.definition_text.specs.Columns.{Code as ContentCode, indent}
use Rattle.definition_text.specs.Content.{is_eol, text_before}
use Rattle.definition_text.specs.InlineCode.{InlineCode, codes_of}
use Rattle.definition_text.specs.Runs.{run}
use Rattle.definition_inline.specs.CharacterReference.{CharacterName, character_reference, reference_form, reference_text}
use Rattle.definition_inline.specs.CodeText.{code_text, run_of}
use Rattle.definition_inline.specs.Inline.{InlineLeaf, Data, Escape, Character, Code, Math, Autolink, Literal, Html, EscapedBreak, TrailingBreak, LineEnd}
use Rattle.definition_inline.specs.Inline.{TaskCheck}
use Rattle.definition_inline.specs.Scan.{InlineContext}
use Rattle.event_tokens.specs.Tokens.{is_email, is_uri}
use Rattle.parse_written.specs.Written.{AreCodes, EndNoLine, IsLiteral, IsText}

-- this code isn't among codes
abbrev pub Lacks : ContentCode → List ContentCode → Type 0
Lacks code [] = Unit {0}
Lacks code (c ∷ cs) = ((c == code) ≡ false) × Lacks code cs

-- a backslash, and ASCII punctuation (CommonMark 2.4)
pub record IsEscape (byte : ContentCode) (from to : List InlineCode) : Type 0 where
  pub text : IsText (backslash ∷ byte ∷ []) from to
  pub mark : is_ascii_punctuation byte ≡ true

-- a reference: it ends at the first `;`, and its name or number stands for this text (CommonMark 2.5)
pub record IsReference (context : InlineContext) (text : List ℕ) (from to : List InlineCode) : Type 0 where
  pub written : List ContentCode
  pub codes : AreCodes (written ++ semicolon ∷ []) from to
  pub first : Lacks semicolon written
  pub inline : EndNoLine written
  pub name : CharacterName
  pub form : reference_form (codes_of from) ≡ Some (character_reference name (codes_of to))
  pub known : reference_text context.names name ≡ Some text

-- a text between two runs of a byte: the first is a whole run, the second the next whole run of as many (CommonMark 6.1)
pub record IsRaw (marker : ℕ) (text : List ℕ) (from to : List InlineCode) : Type 0 where
  pub size : ℕ
  pub some : 0 < size
  pub whole : run marker (codes_of from) ≡ size
  pub inside : List InlineCode
  pub opening : AreCodes (replicate size marker) from inside
  pub end : List InlineCode
  pub next : run_of marker size false (codes_of inside) ≡ Some (codes_of end)
  pub closing : AreCodes (replicate size marker) end to
  pub read : code_text (text_before (codes_of inside) (codes_of end)) ≡ text

-- an address, or a URI (CommonMark 6.5)
abbrev pub is_target : Bool → List ContentCode → Bool
is_target true text = is_email text
is_target false text = is_uri text

-- an address or a URI between `<` and `>`, which has a code at least (CommonMark 6.5)
pub record IsAutolink (email : Bool) (text : List ContentCode) (from to : List InlineCode) : Type 0 where
  pub codes : AreCodes (less_than ∷ (text ++ greater_than ∷ [])) from to
  pub some : 0 < length text
  pub inline : EndNoLine text
  pub target : is_target email text ≡ true

-- raw HTML, which begins with `<` and ends with `>` (CommonMark 6.6)
pub record IsHtml (text : List ContentCode) (from to : List InlineCode) : Type 0 where
  pub codes : AreCodes text from to
  pub opened : begins_with (less_than ∷ []) text ≡ true
  pub front : List ContentCode
  pub closed : text ≡ front ++ greater_than ∷ []

-- all spaces that come next, of which there are two at least (CommonMark 6.7)
pub record AreAllSpaces (from to : List InlineCode) : Type 0 where
  pub size : ℕ
  pub some : 2 ≤ size
  pub all : size ≡ indent (codes_of from)
  pub codes : AreCodes (replicate size space) from to

-- a line ending, with all spaces and tabs after it (CommonMark 6.8)
pub record IsLineEnd (code : ContentCode) (from to : List InlineCode) : Type 0 where
  pub rest : List InlineCode
  pub ends : is_eol code ≡ true
  pub ending : AreCodes (code ∷ []) from rest
  pub after : to ≡ drop (indent (codes_of rest)) rest

-- the form of a leaf; no content has a check
abbrev pub HasForm : InlineContext → InlineLeaf → List InlineCode → List InlineCode → Type 0
HasForm context (Data b) from to = IsText (b ∷ []) from to
HasForm context (Escape b) from to = IsEscape b from to
HasForm context (Character text) from to = IsReference context text from to
HasForm context (Code text) from to = IsRaw backtick text from to
HasForm context (Math text) from to = IsRaw dollar text from to
HasForm context (Autolink email text) from to = IsAutolink email text from to
HasForm context (Literal kind text) from to = IsLiteral context.options.constructs kind text from to
HasForm context (Html text) from to = IsHtml text from to
HasForm context EscapedBreak from to = IsText (backslash ∷ []) from to
HasForm context TrailingBreak from to = AreAllSpaces from to
HasForm context (LineEnd code) from to = IsLineEnd code from to
HasForm context (TaskCheck done) from to = ⊥
