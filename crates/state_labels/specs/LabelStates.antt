-- The states of this crate by their names, and that they fit the table.
use Rattle.std.specs.Prelude.{◌≡◌, true, refl}
use Rattle.engine_states.specs.declared.state.Inline.{Inline as InlineName}
use Rattle.engine_states.specs.declared.state.Inline.TheVariants as state_inline
use Rattle.engine_states.specs.declared.state.Name.TheVariants.{Inline}
use Rattle.engine_states.specs.declared.state.State.TheVariants as states
use Rattle.markdown_engine.specs.Context.{Context}
use Rattle.state_table.specs.declared.Group.TheVariants as groups
use Rattle.engine_programs.specs.Bodies.{Body, Answer}
use Rattle.engine_programs.specs.Sorts.{fits, implies}
use Rattle.state_table.specs.Table.{is_in, sorts}
use Rattle.state_labels.specs.LabelStartImage.{label_start_image_start, label_start_image_open, label_start_image_after}
use Rattle.state_labels.specs.LabelStartLink.{label_start_link_start}
use Rattle.state_labels.specs.Label.{label_start, label_at_break, label_eol_after, label_nok, label_inside, label_escape}
use Rattle.state_labels.specs.Title.{title_start, title_begin, title_at_break, title_after_eol, title_nok, title_inside, title_escape}
use Rattle.state_labels.specs.Destination.{destination_start, destination_enclosed_before, destination_enclosed, destination_enclosed_escape}
use Rattle.state_labels.specs.Destination.{destination_raw, destination_raw_escape}
use Rattle.state_labels.specs.SpaceOrTab.{space_or_tab_start, space_or_tab_inside, space_or_tab_after}
use Rattle.state_labels.specs.SpaceOrTabEol.{space_or_tab_eol_start, space_or_tab_eol_after_first, space_or_tab_eol_at_eol, space_or_tab_eol_after_eol}
use Rattle.state_labels.specs.SpaceOrTabEol.{space_or_tab_eol_after_more}

module _ {T M : Type 0} (x : Context T) where
  abbrev pub label_body : InlineName → Body M
  label_body state_inline.LabelStartImageStart = label_start_image_start x.options.constructs.label_start_image
  label_body state_inline.LabelStartImageOpen = label_start_image_open
  label_body state_inline.LabelStartImageAfter = label_start_image_after x.options.constructs.gfm_label_start_footnote
  label_body state_inline.LabelStartLinkStart = label_start_link_start x.options.constructs.label_start_link
  label_body state_inline.LabelStart = label_start
  label_body state_inline.LabelAtBreak = label_at_break
  label_body state_inline.LabelEolAfter = label_eol_after
  label_body state_inline.LabelNok = label_nok
  label_body state_inline.LabelInside = label_inside
  label_body state_inline.LabelEscape = label_escape
  label_body state_inline.TitleStart = title_start
  label_body state_inline.TitleBegin = title_begin
  label_body state_inline.TitleAtBreak = title_at_break
  label_body state_inline.TitleAfterEol = title_after_eol
  label_body state_inline.TitleNok = title_nok
  label_body state_inline.TitleInside = title_inside
  label_body state_inline.TitleEscape = title_escape
  label_body state_inline.DestinationStart = destination_start
  label_body state_inline.DestinationEnclosedBefore = destination_enclosed_before
  label_body state_inline.DestinationEnclosed = destination_enclosed
  label_body state_inline.DestinationEnclosedEscape = destination_enclosed_escape
  label_body state_inline.DestinationRaw = destination_raw
  label_body state_inline.DestinationRawEscape = destination_raw_escape
  label_body state_inline.SpaceOrTabStart = space_or_tab_start
  label_body state_inline.SpaceOrTabInside = space_or_tab_inside
  label_body state_inline.SpaceOrTabAfter = space_or_tab_after
  label_body state_inline.SpaceOrTabEolStart = space_or_tab_eol_start
  label_body state_inline.SpaceOrTabEolAfterFirst = space_or_tab_eol_after_first
  label_body state_inline.SpaceOrTabEolAtEol = space_or_tab_eol_at_eol
  label_body state_inline.SpaceOrTabEolAfterEol = space_or_tab_eol_after_eol
  label_body state_inline.SpaceOrTabEolAfterMore = space_or_tab_eol_after_more
  label_body n = Answer states.Nok

-- they fit the table
pub labels_fit : (M : Type 0) {T : Type 0} (x : Context T) (n : InlineName)
    → implies (is_in groups.Labels n) (fits sorts 64 (Inline n) (label_body {M = M} x n)) ≡ true
labels_fit M x state_inline.LabelStartImageStart = refl
labels_fit M x n = refl
