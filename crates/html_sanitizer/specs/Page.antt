-- A page up to a place, as the state of the pass.
use Rattle.std.specs.Prelude.{List, [], ◌∷◌, string_bytes}
use Rattle.definition_html.specs.State.{State, state, level}
use Rattle.definition_html.specs.State as listed
use Rattle.html_safe_page.specs.Views.{open_names}
use Rattle.html_sanitizer.specs.declared.page.Level.{Level}
use Rattle.html_sanitizer.specs.declared.page.Page.{Page}

-- an open element of the page's own, or the page
abbrev pub level_of : {A : Type 0} → Level A → listed.Level
level_of l = level l.in_heading (open_names l.names.items)

-- levels in front of others, the last first
abbrev pub levels_onto : {A : Type 0} → List (Level A) → List listed.Level → List listed.Level
levels_onto [] others = others
levels_onto (l ∷ ls) others = levels_onto ls (level_of l ∷ others)

-- levels, the innermost first
abbrev pub levels_of : {A : Type 0} → List (Level A) → List listed.Level
levels_of levels = levels_onto levels []

-- what is printed, and the levels that are open in it
abbrev pub page_state : {A : Type 0} → Page A → State
page_state page = state (string_bytes page.out) (level_of page.level) (levels_of page.around.items)
