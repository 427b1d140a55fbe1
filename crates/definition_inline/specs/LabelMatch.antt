-- Labels as they are matched (CommonMark 4.7 and 6.3).
use Rattle.std.specs.Prelude.{ℕ, Bool, true, false, List, [], ◌∷◌, map, Option}
use Rattle.std.specs.List.{filter, join_by, position, slice_split}
use Rattle.std.specs.Str.{bytes_eq, chars, encode_utf8_all}
use Rattle.std.specs.Str.Lossy.{utf8_lossy}
use Rattle.caseless.specs.Caseless.{default_case_fold}
use Rattle.definition_text.specs.Ascii.{space}
use Rattle.definition_text.specs.Columns.{Code}
use Rattle.definition_text.specs.Content.{is_space}

-- what stands between two spaces, tabs or line endings is a word if it isn't empty
abbrev pub is_word : List Code → Bool
is_word [] = false
is_word (c ∷ cs) = true

-- the words of a content: what stands between its spaces, tabs and line endings (CommonMark 2.1)
abbrev pub words : List Code → List (List Code)
words content = filter is_word (slice_split is_space content)

-- the bytes of a text with its case folded in full (CommonMark 6.3)
abbrev pub case_fold : List ℕ → List ℕ
case_fold text = encode_utf8_all (default_case_fold (chars text))

-- a word with its case folded; bytes that are no text, which no label has, count as U+FFFD
abbrev pub fold_word : List ℕ → List ℕ
fold_word word = case_fold (utf8_lossy word)

-- the bytes of a label as it is matched: its case folded, no white space at the ends, and one space for white space inside (CommonMark 6.3)
abbrev pub normal_label : List Code → List ℕ
normal_label label = join_by fold_word (space ∷ []) (words label)

-- the place of the first label with these bytes, among labels as they are matched
abbrev pub place_of : List ℕ → List (List ℕ) → Option ℕ
place_of normal labels = position (bytes_eq normal) labels

-- the place of the first of these labels that matches one (CommonMark 4.7 and 6.3)
abbrev pub first_match : List Code → List (List Code) → Option ℕ
first_match label labels = place_of (normal_label label) (map normal_label labels)
