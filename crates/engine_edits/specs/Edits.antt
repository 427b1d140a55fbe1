-- Edits of a list.
use Rattle.std.specs.Prelude.{ℕ, Bool, if◌then◌else◌, ◌==◌, nat_lt, List, [], ◌∷◌, ◌++◌, map}
use Rattle.std.specs.List.{list_any}
use Rattle.engine_edits.specs.Counts.{together}
use Rattle.engine_events.specs.declared.event.Event.{Event}
use Rattle.engine_edits.specs.declared.edit.Edit.{Edit}
use Rattle.engine_edits.specs.declared.edit_map.EditMap.{EditMap}

-- an edit: at a place so many events go, and these come
pub record EditAt : Type 0 where
  pub at : ℕ
  pub remove : ℕ
  pub add : List Event

abbrev pub edit_at : ℕ → ℕ → List Event → EditAt
edit_at at remove add = record { at = at; remove = remove; add = add }

module _ {A : Type 0} where
  abbrev pub edit_of : ℕ × Edit A → EditAt
  edit_of e = edit_at e.0 e.1.remove e.1.add.items

  -- the edits by their places
  abbrev pub edits_of : EditMap A → List EditAt
  edits_of m = map edit_of m.edits.entries

-- what comes with other events, before or after those there
abbrev pub both_additions : Bool → List Event → List Event → List Event
both_additions before add there = if before then add ++ there else there ++ add

-- two edits of one place as one: removals add up, and additions go after or before those there
abbrev pub merge : Bool → ℕ → List Event → EditAt → EditAt
merge before remove add e = edit_at e.at (together e.remove remove) (both_additions before add e.add)

-- the edits, with the one of this place merged
abbrev pub with_merge : Bool → ℕ → ℕ → List Event → List EditAt → List EditAt
with_merge before at remove add [] = []
with_merge before at remove add (e ∷ es) =
    if at == e.at then merge before remove add e ∷ es else e ∷ with_merge before at remove add es

-- the edits, with a new one before those of later places
abbrev pub with_new : ℕ → ℕ → List Event → List EditAt → List EditAt
with_new at remove add [] = edit_at at remove add ∷ []
with_new at remove add (e ∷ es) =
    if nat_lt at e.at then edit_at at remove add ∷ e ∷ es else e ∷ with_new at remove add es

abbrev pub has_place : ℕ → List EditAt → Bool
has_place at = list_any (λ e. at == e.at)

-- the edits with another one
abbrev pub with_edit : Bool → ℕ → ℕ → List Event → List EditAt → List EditAt
with_edit before at remove add es =
    if has_place at es then with_merge before at remove add es else with_new at remove add es
