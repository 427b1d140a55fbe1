-- Links lead where the definitions do, at each place, and so rows that lead by either are the same.
use Rattle.std.proofs.Common.{◌≡◌, ℕ, List, [], ◌∷◌, ◌++◌, refl, sym, ap, ◌∙◌, map, slice_index_or}
use Rattle.html_contents.proofs.Prelude.{flat_map-cons, linked_at, place_target, rows_view}
use Rattle.std.proofs.Math.ListN.{get_or-map}
use Rattle.definition_inline.specs.Inline as inline
use Rattle.definition_inline.specs.Definition.{Definition}
use Rattle.definition_inline.specs.Targets.{no_definition}
use Rattle.inline_links.specs.declared.text.LinkTexts.{LinkTexts}
use Rattle.inline_rows.specs.declared.row.LinkTarget.{LinkTarget}
use Rattle.inline_rows.specs.declared.row.LinkTarget.TheVariants.{Resource, Definition as ByPlace}
use Rattle.inline_rows.specs.declared.row.InlineRow.{InlineRow}
use Rattle.inline_rows.specs.declared.row.InlineRow.TheVariants.{Text, Verbatim, Leaf, Spelled, EnterSpan, EnterLink, EnterImage, Call, Exit}
use Rattle.inline_links.specs.View.{link_texts_view}
use Rattle.inline_rows.specs.View.{target_texts, row_view}
use Rattle.inline_rows.specs.InlineRows as rows
use Rattle.html_inline.specs.Opens.{nowhere}

abbrev leads_to_one : Definition → inline.LinkTexts
leads_to_one d = inline.link_texts d.destination d.title

pub same_place : (links : List LinkTexts) (ds : List Definition) → map link_texts_view links ≡ map leads_to_one ds → (place : ℕ)
    → place_target links place ≡ linked_at ds place
same_place links ds is place = ap (λ l. slice_index_or l place nowhere) is ∙ get_or-map leads_to_one ds place no_definition

module _ (at beside : ℕ → inline.LinkTexts) (same : (place : ℕ) → at place ≡ beside place) where
  same_target : (t : LinkTarget) → target_texts at t ≡ target_texts beside t
  same_target (Resource l) = refl
  same_target (ByPlace place) = same place

  same_row : (r : InlineRow) → row_view at r ≡ row_view beside r
  same_row (Text text) = refl
  same_row (Verbatim verbatim) = refl
  same_row (Leaf part) = refl
  same_row (Spelled leaf) = refl
  same_row (EnterSpan span) = refl
  same_row (EnterLink target) = ap (λ l. rows.EnterLinked inline.Link l ∷ []) (same_target target)
  same_row (EnterImage target) = ap (λ l. rows.EnterLinked inline.Image l ∷ []) (same_target target)
  same_row (Call label) = refl
  same_row Exit = refl

  pub same_rows : (rs : List InlineRow) → rows_view at rs ≡ rows_view beside rs
  same_rows [] = refl
  same_rows (r ∷ rs) = flat_map-cons (row_view at) r rs ∙ ap (λ x. x ++ rows_view at rs) (same_row r) ∙ ap (λ x. row_view beside r ++ x) (same_rows rs)
      ∙ sym (flat_map-cons (row_view beside) r rs)
