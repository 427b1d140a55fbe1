-- The parts of a safe page in which raw HTML stands as text in elements without a name (`<>&lt;b&gt;</>`).
use Rattle.std.specs.Prelude.{ℕ, zero, suc, ◌+◌, ◌-◌, Bool, not, if◌then◌else◌, ◌==◌, List, [], ◌∷◌, ◌++◌, codes, drop, length, unwrap_or}
use Rattle.std.specs.List.{take_while}
use Rattle.definition_text.specs.Ascii.{less_than, greater_than}
use Rattle.definition_text.specs.Bytes.{is_letter_or_digit, begins_with, after_all}
use Rattle.definition_text.specs.Content.{Part, part}
use Rattle.definition_text.specs.Lines.{ends_line}
use Rattle.definition_inline.specs.GfmAutolinkLiteral.{ends_with}
use Rattle.definition_html.specs.Letters.{read_text}

-- a start tag and a void tag of the page's own by their bytes and names, an end tag, raw HTML, and another byte
pub data PagePart : Type 0 where
  Own : List ℕ → List ℕ → PagePart
  OwnVoid : List ℕ → List ℕ → PagePart
  OwnEnd : List ℕ → PagePart
  Raw : List ℕ → PagePart
  Byte : ℕ → PagePart

-- a part, and how many bytes it has
pub record FoundPart : Type 0 where
  pub part : PagePart
  pub size : ℕ

abbrev pub found_part : PagePart → ℕ → FoundPart
found_part p size = record { part = p; size = size }

-- ---- raw HTML

-- a byte of a text: no tag begins
abbrev pub is_in_text : ℕ → Bool
is_in_text b = not (b == less_than)

-- a byte of a tag: it doesn't end here
abbrev pub is_in_tag : ℕ → Bool
is_in_tag b = not (b == greater_than)

-- what follows the tag that bytes are in
abbrev pub after_tag : List ℕ → List ℕ
after_tag bytes = drop 1 (after_all is_in_tag bytes)

-- what follows the element without a name that bytes begin with, which the next tag ends
abbrev pub after_element : List ℕ → List ℕ
after_element bytes = after_tag (after_all is_in_text (drop 2 bytes))

-- the text of elements without a name that have nothing but line endings between them, which are part of it, and what follows; at most so many elements
abbrev pub raw_run : ℕ → List ℕ → Part
raw_run zero bytes = part [] bytes
raw_run (suc most) bytes =
    let text = take_while is_in_text (drop 2 bytes) in
    let rest = after_element bytes in
    if begins_with (codes "<>") (after_all ends_line rest)
    then (let others = raw_run most (after_all ends_line rest) in part (text ++ take_while ends_line rest ++ others.text) others.rest)
    else part text rest

-- such elements as one, up to what follows them
abbrev pub raw_found : List ℕ → Part → FoundPart
raw_found bytes run = found_part (Raw (unwrap_or (read_text run.text) [])) (length bytes - length run.rest)

-- ---- tags

-- a tag of the page's own, by what stands between its `<` and `>`
abbrev pub own_part : List ℕ → PagePart
own_part inside =
    let bytes = codes "<" ++ inside ++ codes ">" in
    if begins_with (codes "/") inside then OwnEnd bytes
    else (if ends_with (codes " /") inside then OwnVoid bytes (take_while is_letter_or_digit inside) else Own bytes (take_while is_letter_or_digit inside))

-- such a tag, and how many bytes it has
abbrev pub own_found : List ℕ → FoundPart
own_found inside = found_part (own_part inside) (length inside + 2)

-- ---- pages

-- what a page begins with
abbrev pub found_at : ℕ → List ℕ → FoundPart
found_at b bs =
    if begins_with (codes "<>") (b ∷ bs) then raw_found (b ∷ bs) (raw_run (length bs) (b ∷ bs))
    else (if b == less_than then own_found (take_while is_in_tag bs) else found_part (Byte b) 1)

-- the parts of a page, of which so many bytes are taken already
abbrev pub page_parts_after : ℕ → List ℕ → List PagePart
page_parts_after taken [] = []
page_parts_after (suc taken) (b ∷ bs) = page_parts_after taken bs
page_parts_after zero (b ∷ bs) = let found = found_at b bs in found.part ∷ page_parts_after (found.size - 1) bs

-- the parts of a page
abbrev pub page_parts : List ℕ → List PagePart
page_parts page = page_parts_after 0 page
