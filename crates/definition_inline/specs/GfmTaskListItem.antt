-- Checks of task list items (GFM 5.3): `[ ]` or `[x]` where the first paragraph of an item begins.
use Rattle.std.specs.Prelude.{ℕ, ◌==◌, ◌&&◌, ◌||◌, not, Bool, true, false, if◌then◌else◌, List, [], ◌∷◌, Option, None, Some}
use Rattle.std.specs.List.{list_all}
use Rattle.markdown_options.specs.declared.configuration.Constructs.{Constructs}
use Rattle.definition_text.specs.Ascii.{capital_x, left_bracket, right_bracket, small_x}
use Rattle.definition_text.specs.Columns.{Code}
use Rattle.definition_text.specs.Content.{is_space}

-- whether an item is done, by what stands between the brackets: white space, or an `x`
abbrev pub is_done : Code → Option Bool
is_done mark = if is_space mark then Some false else (if (mark == small_x) || (mark == capital_x) then Some true else None)

-- white space, and something else after it
abbrev pub is_apart : List Code → Bool
is_apart [] = false
is_apart (c ∷ cs) = is_space c && not (list_all is_space cs)

-- a check that a content begins with, and whether the item is done
abbrev pub check_of : List Code → Option Bool
check_of (opening ∷ mark ∷ closing ∷ others) = if (opening == left_bracket) && ((closing == right_bracket) && is_apart others) then is_done mark else None
check_of content = None

-- how many codes a check takes
abbrev pub check_size : ℕ
check_size = 3

-- the check of a paragraph without the spaces and tabs at its start: only the first paragraph of an item has one, where no block stands before it
abbrev pub check_at : Constructs → Bool → List Code → Option Bool
check_at on first content = if first && on.gfm_task_list_item then check_of content else None
