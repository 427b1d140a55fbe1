-- Which elements are open, and how they end.
use Rattle.std.specs.Prelude.{ℕ, zero, suc, ◌+◌, Bool, false, not, if◌then◌else◌, ◌||◌, nat_lt, List, [], ◌∷◌, ◌++◌, codes, length}
use Rattle.std.specs.List.{list_any, prefix_len}
use Rattle.definition_page.specs.Tags.{Tag, start_tag, end_tag}
use Rattle.definition_html.specs.Listing.{is_in, heading_names, frame_names}

-- an element of the page: whether it is a heading or in one, and the raw elements that are open in it, the last one first
pub record Level : Type 0 where
  pub in_heading : Bool
  pub names : List (List ℕ)

abbrev pub level : Bool → List (List ℕ) → Level
level in_heading names = record { in_heading = in_heading; names = names }

-- after so much of a page: what is printed, the innermost level, and those around it
pub record State : Type 0 where
  pub out : List ℕ
  pub level : Level
  pub around : List Level

abbrev pub state : List ℕ → Level → List Level → State
state out innermost around = record { out = out; level = innermost; around = around }

-- nothing is printed, and nothing is open
abbrev pub nothing_open : State
nothing_open = state [] (level false []) []

-- this is printed, too
abbrev pub says : List ℕ → State → State
says bytes s = state (s.out ++ bytes) s.level s.around

-- these raw elements are open
abbrev pub with_open : List (List ℕ) → State → State
with_open names s = state s.out (level s.level.in_heading names) s.around

-- ---- raw elements

-- a raw element begins
abbrev pub opened : Tag → State → State
opened t s = with_open (t.name ∷ s.level.names) (says (start_tag t) s)

-- the last so many of these raw elements end
abbrev pub ended_of : ℕ → List (List ℕ) → State → State
ended_of zero names s = with_open names s
ended_of (suc n) [] s = with_open [] s
ended_of (suc n) (name ∷ names) s = ended_of n names (says (end_tag name) s)

-- the last so many raw elements of a level end
abbrev pub ended : ℕ → State → State
ended n s = ended_of n s.level.names s

-- all raw elements of a level end
abbrev pub all_ended : State → State
all_ended s = ended (length s.level.names) s

-- how many are open up to the last one of these names, with it; 0 if none is
abbrev pub count_to : List (List ℕ) → List (List ℕ) → ℕ
count_to wanted names =
    let above = prefix_len (λ name. not (is_in wanted name)) names in if nat_lt above (length names) then above + 1 else 0

-- the last one of these names ends, with what is in it
abbrev pub ended_to : List (List ℕ) → State → State
ended_to wanted s = ended (count_to wanted s.level.names) s

-- ---- room for an element

-- the last raw element is one that holds nothing but its parts and text
abbrev pub begins_with_frame : List (List ℕ) → Bool
begins_with_frame [] = false
begins_with_frame (name ∷ names) = is_in frame_names name

-- a table that would hold something else than its parts ends
abbrev pub without_frame : State → State
without_frame s = if begins_with_frame s.level.names then ended_to (codes "table" ∷ []) s else s

-- and a heading that would hold another
abbrev pub with_room : List ℕ → State → State
with_room name s = if is_in heading_names name then ended_to heading_names (without_frame s) else without_frame s

-- ---- levels

-- an element of the page of this name begins
abbrev pub entered : List ℕ → State → State
entered name s =
    let in_heading = s.level.in_heading || is_in heading_names name || list_any (is_in heading_names) s.level.names in
    state s.out (level in_heading []) (s.level ∷ s.around)

-- these levels are left of an element that ends
abbrev pub left_to : List Level → State → State
left_to [] s = s
left_to (l ∷ ls) s = state s.out l ls

-- an element of the page ends
abbrev pub left : State → State
left s = left_to s.around s
