-- The letters of a page: bytes as they are, and references.
use Rattle.std.specs.Prelude.{ℕ, if◌then◌else◌, ◌==◌, List, [], ◌∷◌, ◌++◌, Option, None, Some, codes}
use Rattle.std.specs.Option.{option_and_then, option_map, option_or}
use Rattle.definition_text.specs.Ascii.{double_quote, ampersand, less_than, greater_than}

-- ---- as they are spelled

-- the four bytes that are spelled as references, and the others
pub data Kind : Type 0 where
  And : Kind
  Quote : Kind
  Less : Kind
  Greater : Kind
  Plain : Kind

abbrev pub kind : ℕ → Kind
kind b = if b == ampersand then And else (if b == double_quote then Quote
    else (if b == less_than then Less else (if b == greater_than then Greater else Plain)))

abbrev pub spell_kind : Kind → ℕ → List ℕ
spell_kind And b = codes "&amp;"
spell_kind Quote b = codes "&quot;"
spell_kind Less b = codes "&lt;"
spell_kind Greater b = codes "&gt;"
spell_kind Plain b = b ∷ []

-- a byte of a text, as a page spells it: one of the four as its reference, any other as itself
abbrev pub spell_letter : ℕ → List ℕ
spell_letter b = spell_kind (kind b) b

-- a text, before other bytes
abbrev pub spell_text : List ℕ → List ℕ → List ℕ
spell_text [] after = after
spell_text (b ∷ bs) after = spell_letter b ++ spell_text bs after

-- ---- as they are read

-- what follows these bytes, if a text begins with them
abbrev pub strip : List ℕ → List ℕ → Option (List ℕ)
strip [] bs = Some bs
strip (p ∷ ps) [] = None
strip (p ∷ ps) (b ∷ bs) = if b == p then strip ps bs else None

-- a text with a letter in place of the rest of its reference
abbrev pub replace : ℕ → Option (List ℕ) → Option (List ℕ)
replace b rest = option_map (λ bs. b ∷ bs) rest

-- the text that follows `&`, with what that begins
abbrev pub join_reference : List ℕ → Option (List ℕ)
join_reference text =
    option_or (replace ampersand (strip (codes "amp;") text))
    (option_or (replace double_quote (strip (codes "quot;") text))
    (option_or (replace less_than (strip (codes "lt;") text))
    (replace greater_than (strip (codes "gt;") text))))

abbrev pub join_kind : Kind → ℕ → List ℕ → Option (List ℕ)
join_kind And b text = join_reference text
join_kind Quote b text = None
join_kind Less b text = None
join_kind Greater b text = None
join_kind Plain b text = Some (b ∷ text)

-- what a text stands for
abbrev pub read_text : List ℕ → Option (List ℕ)
read_text [] = Some []
read_text (b ∷ bs) = option_and_then (join_kind (kind b) b) (read_text bs)
