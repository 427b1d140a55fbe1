-- Events before they have their places.
use Rattle.std.specs.Prelude.{◌≡◌, true, List, [], ◌∷◌, ◌++◌}
use Rattle.std.specs.List.{fold}
use Rattle.parse_output.specs.declared.draft.Draft.{Draft}
use Rattle.parse_output.specs.declared.draft.Draft.TheVariants as draft
use Rattle.parse_output.specs.Open.{Mark, Entered, Exited, then_mark}
use Rattle.parse_output.specs.Children.{are_children}

-- what a draft enters and exits
abbrev pub draft_marks : Draft → List Mark
draft_marks (draft.Enter name) = Entered name ∷ []
draft_marks (draft.Exit name) = Exited name ∷ []
draft_marks (draft.Void name owed index) = Entered name ∷ Exited name ∷ []

-- what drafts enter and exit
abbrev pub marks_of : List Draft → List Mark
marks_of [] = []
marks_of (d ∷ ds) = draft_marks d ++ marks_of ds

-- those that have no partner, the last first
abbrev pub unmatched_in : List Draft → List Mark
unmatched_in ds = fold then_mark [] (marks_of ds)

-- each that is entered may stand in the innermost that is open there
abbrev pub AreChildren : List Draft → Type 0
AreChildren ds = are_children [] (marks_of ds) ≡ true
