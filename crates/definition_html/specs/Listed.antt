-- A safe page in which raw HTML stands as text in elements without a name, to one in which listed tags are tags. It knows nothing of Markdown.
use Rattle.std.specs.Prelude.{ℕ, zero, suc, if◌then◌else◌, nat_le, List, [], ◌∷◌, length}
use Rattle.std.specs.List.{fold}
use Rattle.markdown_compile_options.specs.RawHtml.{keeps_listed_html}
use Rattle.markdown_compile_options.specs.declared.configuration.CompileOptions.{CompileOptions}
use Rattle.definition_inline.specs.CharacterReference.{Names}
use Rattle.definition_page.specs.Tags.{Tag, void_tag}
use Rattle.definition_html.specs.Listing.{is_in, is_part, parents_of, heading_names, deepest}
use Rattle.definition_html.specs.Raw.{RawPart, Text, Begin, Empty, End, Single, raw_parts}
use Rattle.definition_html.specs.State.{State, nothing_open, says, opened, ended, ended_to, all_ended, count_to, with_room, entered, left}
use Rattle.definition_html.specs.PageParts.{PagePart, Own, OwnVoid, OwnEnd, Raw, Byte, page_parts}

-- ---- the parts of raw HTML

-- an element begins where there is a place for it, and then this is done, unless too many are open
abbrev pub begun : (State → State) → Tag → State → State
begun next t s = if nat_le deepest (length s.level.names) then s else next (opened t s)

-- a part begins in the last element that may hold it, given how many are open up to that one: what is above ends first; in none nothing is printed
abbrev pub begun_in : (State → State) → ℕ → Tag → State → State
begun_in next zero t s = s
begun_in next (suc above) t s = begun next t (ended above s)

-- a heading prints nothing in another
abbrev pub begun_heading : (State → State) → Tag → State → State
begun_heading next t s = if s.level.in_heading then s else begun next t s

-- an element begins, and then this is done
abbrev pub begins : (State → State) → Tag → State → State
begins next t s =
    if is_part t.name then begun_in next (count_to (parents_of t.name) s.level.names) t s
    else (if is_in heading_names t.name then begun_heading next t (with_room t.name s) else begun next t (with_room t.name s))

-- a part of raw HTML is printed
abbrev pub raw_part : State → RawPart → State
raw_part s (Text bytes) = says bytes s
raw_part s (Begin t) = begins (λ s'. s') t s
raw_part s (Empty t) = begins (ended 1) t s
raw_part s (End name) = ended_to (name ∷ []) s
raw_part s (Single t) = says (void_tag t) (with_room t.name s)

-- ---- the page

-- an element of the page's own begins in the raw elements that are open, and those that are open in it end with it
abbrev pub page_part : Names → CompileOptions → State → PagePart → State
page_part names options s (Own bytes name) = entered name (says bytes (with_room name s))
page_part names options s (OwnVoid bytes name) = says bytes (with_room name s)
page_part names options s (OwnEnd bytes) = says bytes (left (all_ended s))
page_part names options s (Raw html) = fold raw_part s (raw_parts names options html)
page_part names options s (Byte b) = says (b ∷ []) s

-- a page with its raw HTML by the list
abbrev pub listed : Names → CompileOptions → List ℕ → List ℕ
listed names options page = let s = all_ended (fold (page_part names options) nothing_open (page_parts page)) in s.out

-- a page as it is printed by these options, with its raw HTML by the list where they keep it
abbrev pub with_listed : Names → CompileOptions → List ℕ → List ℕ
with_listed names options page = if keeps_listed_html options then listed names options page else page

-- ---- any HTML

-- any HTML by the list: the page that is this HTML as text in one element without a name
abbrev pub sanitized : Names → CompileOptions → List ℕ → List ℕ
sanitized names options html = let s = all_ended (fold raw_part nothing_open (raw_parts names options html)) in s.out
