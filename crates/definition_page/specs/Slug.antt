-- Slugs, of which the ids of headings are made (in no standard; as GitHub makes them).
use Rattle.std.specs.Prelude.{ℕ, zero, suc, Bool, not, ◌&&◌, ◌||◌, ◌==◌, if◌then◌else◌, List, [], ◌∷◌, ◌++◌, length, map, unwrap_or, chars, encode_utf8_all}
use Rattle.std.specs.Char.Unicode.ToLowercase.{to_lowercase}
use Rattle.std.specs.Fmt.{decimal}
use Rattle.std.specs.List.{find, flat_map, fold, list_any, range_with_len}
use Rattle.std.specs.Str.{bytes_eq}
use Rattle.ucd_perl.specs.Perl.{is_word_char}
use Rattle.ucd_props.specs.Binary.{is_join_control}
use Rattle.definition_text.specs.Ascii.{space, hyphen}

-- ---- the slug of a text

-- a character that is kept: a hyphen, or a letter, mark, decimal number or connector punctuation of Unicode
abbrev pub is_kept : ℕ → Bool
is_kept c = (c == hyphen) || (is_word_char c && not (is_join_control c))

-- a character in lower case, as it is in a slug: a hyphen for a space, and nothing for one that isn't kept
abbrev pub slug_char : ℕ → List ℕ
slug_char c = if c == space then hyphen ∷ [] else (if is_kept c then c ∷ [] else [])

-- characters in lower case, each by itself: none depends on those beside it
abbrev pub lowered : List ℕ → List ℕ
lowered text = flat_map to_lowercase text

-- the slug of a text, which is UTF-8
abbrev pub slug_of : List ℕ → List ℕ
slug_of text = encode_utf8_all (flat_map slug_char (lowered (chars text)))

-- ---- slugs that differ

-- a slug with a number at its end, from 1 on
abbrev pub numbered : List ℕ → ℕ → List ℕ
numbered slug zero = slug
numbered slug (suc n) = slug ++ hyphen ∷ decimal (suc n)

-- whether a text before has this slug
abbrev pub is_taken : List (List ℕ) → List ℕ → Bool
is_taken taken slug = list_any (bytes_eq slug) taken

-- so many slugs: the one without a number, and those with 1, 2, ..
abbrev pub first_numbered : ℕ → List ℕ → List (List ℕ)
first_numbered count slug = map (numbered slug) (range_with_len 0 count)

-- the first of a slug, and of that slug with 1, 2, .., that isn't taken: of one more than are taken, one isn't
abbrev pub first_free : List (List ℕ) → List ℕ → List ℕ
first_free taken slug = unwrap_or (find (λ s. not (is_taken taken s)) (first_numbered (suc (length taken)) slug)) slug

-- the slug of a text, where those before it took these
abbrev pub next_slug : List (List ℕ) → List ℕ → List ℕ
next_slug taken text = first_free taken (slug_of text)

-- slugs, and that of a further text
abbrev pub with_slug : List (List ℕ) → List ℕ → List (List ℕ)
with_slug taken text = taken ++ next_slug taken text ∷ []

-- the slugs of texts, in order
abbrev pub slugs_of : List (List ℕ) → List (List ℕ)
slugs_of texts = fold with_slug [] texts
