-- What the answers on a label end stand for.
use Rattle.std.specs.Prelude.{◌≡◌, ◌-◌, ℕ, ⊤, Bool, if◌then◌else◌, ◌&&◌, List, Option, None, Some, is_some, drop, length}
use Rattle.definition_text.specs.Content.{content_codes}
use Rattle.definition_inline.specs.Inline.{Target, link_texts}
use Rattle.definition_inline.specs.Inline as inline
use Rattle.definition_inline.specs.LabelEnd.{LinkTail, is_label_text, label_end_at}
use Rattle.definition_inline.specs.LabelEnd as ends
use Rattle.definition_inline.specs.LabelMatch.{first_match}
use Rattle.inline_links.specs.Codes.{IsCut, IsRest}
use Rattle.inline_leaves.specs.Leaves.{size_before}
use Rattle.inline_rows.specs.declared.row.LinkTarget.{LinkTarget}
use Rattle.inline_rows.specs.declared.row.LinkTarget.TheVariants.{Resource, Definition}
use Rattle.inline_links.specs.View.{link_texts_view}
use Rattle.inline_label_ends.specs.declared.forms.LabelEnd.{LabelEnd}
use Rattle.inline_label_ends.specs.declared.gfm_label_start_footnote.LabelForm.{LabelForm}
use Rattle.inline_label_ends.specs.declared.gfm_label_start_footnote.LabelForm.TheVariants.{Leads, Calls}

-- whether a label matches one of these
abbrev pub is_among : List (List ℕ) → List ℕ → Bool
is_among ls label = is_some (first_match label ls)

-- a text, where it may be a label and matches one of these
abbrev pub label_among : List (List ℕ) → List ℕ → Option (List ℕ)
label_among ls text = if is_label_text text && is_among ls text then Some text else None

-- a target of the definition, where these are the labels of the definitions: the same destination and title, or the place of the first label that matches
abbrev pub IsTarget : List (List ℕ) → LinkTarget → Target → Type 0
IsTarget ls (Resource found) (inline.Resource destination title) = link_texts_view found ≡ link_texts destination title
IsTarget ls (Resource found) (inline.Reference label) = ⊥
IsTarget ls (Definition place) (inline.Resource destination title) = ⊥
IsTarget ls (Definition place) (inline.Reference label) = first_match label ls ≡ Some place

-- an end of the definition: its target, and how many codes belong to it
pub record IsEnd (ls : List (List ℕ)) (rest : List ℕ) (found : LabelEnd) (end : LinkTail) : Type 0 where
  pub target : IsTarget ls found.target end.target
  pub size : end.size ≡ size_before rest found.after.now
  pub after : content_codes found.after.now ≡ drop end.size (content_codes rest)

-- the end that the definition has, if it has one
abbrev pub IsEnded : List (List ℕ) → List ℕ → Option LabelEnd → Option LinkTail → Type 0
IsEnded ls rest None None = ⊤
IsEnded ls rest None (Some end) = ⊥
IsEnded ls rest (Some found) None = ⊥
IsEnded ls rest (Some found) (Some end) = IsEnd ls rest found end

-- what a `]` after a text forms before a rest, where these are the labels of the definitions
abbrev pub EndsAs : List (List ℕ) → List ℕ → List ℕ → Option LabelEnd → Type 0
EndsAs ls text rest found = IsEnded ls rest found (label_end_at (is_among ls) (content_codes text) (content_codes rest))

-- what follows the first codes of a content
pub record IsAfterEnd (content rest : List ℕ) : Type 0 where
  pub place : IsRest content rest
  pub cut : IsCut content (length content - length rest)
  pub codes : content_codes rest ≡ drop (size_before content rest) (content_codes content)

-- what follows what is formed, where this follows the `]`
abbrev pub IsAfterFormed : List ℕ → LabelForm → Type 0
IsAfterFormed rest (Leads found) = IsAfterEnd rest found.after.now
IsAfterFormed rest (Calls found) = ⊤

-- the first definition whose label matches this one, if there is one
abbrev pub IsReference : List (List ℕ) → List ℕ → Option LabelEnd → Type 0
IsReference ls label None = first_match label ls ≡ None
IsReference ls label (Some found) = IsTarget ls found.target (inline.Reference label)

-- the same thing is formed as in the definition, where these are the labels of the link reference definitions
abbrev pub IsFormed : List (List ℕ) → List ℕ → Option LabelForm → Option ends.LinkOrCall → Type 0
IsFormed ls rest None None = ⊤
IsFormed ls rest None (Some formed) = ⊥
IsFormed ls rest (Some found) None = ⊥
IsFormed ls rest (Some (Leads found)) (Some (ends.Leads end)) = IsEnd ls rest found end
IsFormed ls rest (Some (Leads found)) (Some (ends.Calls label)) = ⊥
IsFormed ls rest (Some (Calls found)) (Some (ends.Leads end)) = ⊥
IsFormed ls rest (Some (Calls found)) (Some (ends.Calls label)) = content_codes found.now ≡ label
