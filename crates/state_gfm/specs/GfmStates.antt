-- The states of this crate by their names, and that they fit the table.
use Rattle.std.specs.Prelude.{◌≡◌, ℕ, Bool, true, refl}
use Rattle.engine_states.specs.declared.state.Inline.{Inline as InlineName}
use Rattle.engine_states.specs.declared.state.Inline.TheVariants as state_inline
use Rattle.engine_states.specs.declared.state.Name.TheVariants.{Inline}
use Rattle.engine_states.specs.declared.state.State.TheVariants as states
use Rattle.markdown_engine.specs.Context.{Context}
use Rattle.state_table.specs.declared.Group.TheVariants as groups
use Rattle.engine_programs.specs.Bodies.{Body, Answer}
use Rattle.engine_programs.specs.Sorts.{fits, implies}
use Rattle.state_table.specs.Table.{is_in, sorts}
use Rattle.state_gfm.specs.GfmAutolinkLiteral.{gfm_autolink_literal_protocol_start, gfm_autolink_literal_protocol_after}
use Rattle.state_gfm.specs.GfmAutolinkLiteral.{gfm_autolink_literal_protocol_prefix_inside, gfm_autolink_literal_protocol_slashes_inside}
use Rattle.state_gfm.specs.GfmAutolinkLiteral.{gfm_autolink_literal_www_start, gfm_autolink_literal_www_after, gfm_autolink_literal_www_prefix_inside}
use Rattle.state_gfm.specs.GfmAutolinkLiteral.{gfm_autolink_literal_www_prefix_after, gfm_autolink_literal_domain_inside}
use Rattle.state_gfm.specs.GfmAutolinkLiteral.{gfm_autolink_literal_domain_at_punctuation, gfm_autolink_literal_domain_after}
use Rattle.state_gfm.specs.GfmAutolinkLiteral.{gfm_autolink_literal_path_inside, gfm_autolink_literal_path_at_punctuation}
use Rattle.state_gfm.specs.GfmAutolinkLiteral.{gfm_autolink_literal_path_after, gfm_autolink_literal_trail, gfm_autolink_literal_trail_bracket_after}
use Rattle.state_gfm.specs.GfmAutolinkLiteral.{gfm_autolink_literal_trail_char_ref_start, gfm_autolink_literal_trail_char_ref_inside}
use Rattle.state_gfm.specs.GfmLabelStartFootnote.{gfm_label_start_footnote_start, gfm_label_start_footnote_open}
use Rattle.state_gfm.specs.GfmTaskListItemCheck.{gfm_task_list_item_check_start, gfm_task_list_item_check_inside, gfm_task_list_item_check_close}
use Rattle.state_gfm.specs.GfmTaskListItemCheck.{gfm_task_list_item_check_after, gfm_task_list_item_check_after_space_or_tab}

module _ {T M : Type 0} (is_punctuation : ℕ → Bool) (x : Context T) where
  abbrev pub gfm_body : InlineName → Body M
  gfm_body state_inline.GfmAutolinkLiteralProtocolStart = gfm_autolink_literal_protocol_start x.options.constructs.gfm_autolink_literal
  gfm_body state_inline.GfmAutolinkLiteralProtocolAfter = gfm_autolink_literal_protocol_after
  gfm_body state_inline.GfmAutolinkLiteralProtocolPrefixInside = gfm_autolink_literal_protocol_prefix_inside
  gfm_body state_inline.GfmAutolinkLiteralProtocolSlashesInside = gfm_autolink_literal_protocol_slashes_inside is_punctuation x.bytes
  gfm_body state_inline.GfmAutolinkLiteralWwwStart = gfm_autolink_literal_www_start x.options.constructs.gfm_autolink_literal
  gfm_body state_inline.GfmAutolinkLiteralWwwAfter = gfm_autolink_literal_www_after
  gfm_body state_inline.GfmAutolinkLiteralWwwPrefixInside = gfm_autolink_literal_www_prefix_inside
  gfm_body state_inline.GfmAutolinkLiteralWwwPrefixAfter = gfm_autolink_literal_www_prefix_after is_punctuation x.bytes
  gfm_body state_inline.GfmAutolinkLiteralDomainInside = gfm_autolink_literal_domain_inside is_punctuation x.bytes
  gfm_body state_inline.GfmAutolinkLiteralDomainAtPunctuation = gfm_autolink_literal_domain_at_punctuation
  gfm_body state_inline.GfmAutolinkLiteralDomainAfter = gfm_autolink_literal_domain_after
  gfm_body state_inline.GfmAutolinkLiteralPathInside = gfm_autolink_literal_path_inside
  gfm_body state_inline.GfmAutolinkLiteralPathAtPunctuation = gfm_autolink_literal_path_at_punctuation
  gfm_body state_inline.GfmAutolinkLiteralPathAfter = gfm_autolink_literal_path_after
  gfm_body state_inline.GfmAutolinkLiteralTrail = gfm_autolink_literal_trail
  gfm_body state_inline.GfmAutolinkLiteralTrailBracketAfter = gfm_autolink_literal_trail_bracket_after
  gfm_body state_inline.GfmAutolinkLiteralTrailCharRefStart = gfm_autolink_literal_trail_char_ref_start
  gfm_body state_inline.GfmAutolinkLiteralTrailCharRefInside = gfm_autolink_literal_trail_char_ref_inside
  gfm_body state_inline.GfmLabelStartFootnoteStart = gfm_label_start_footnote_start x.options.constructs.gfm_label_start_footnote
  gfm_body state_inline.GfmLabelStartFootnoteOpen = gfm_label_start_footnote_open
  gfm_body state_inline.GfmTaskListItemCheckStart = gfm_task_list_item_check_start x.options.constructs.gfm_task_list_item
  gfm_body state_inline.GfmTaskListItemCheckInside = gfm_task_list_item_check_inside
  gfm_body state_inline.GfmTaskListItemCheckClose = gfm_task_list_item_check_close
  gfm_body state_inline.GfmTaskListItemCheckAfter = gfm_task_list_item_check_after
  gfm_body state_inline.GfmTaskListItemCheckAfterSpaceOrTab = gfm_task_list_item_check_after_space_or_tab
  gfm_body n = Answer states.Nok

-- they fit the table
pub gfm_fits : (M : Type 0) {T : Type 0} (is_punctuation : ℕ → Bool) (x : Context T) (n : InlineName)
    → implies (is_in groups.Gfm n) (fits sorts 64 (Inline n) (gfm_body {M = M} is_punctuation x n)) ≡ true
gfm_fits M is_punctuation x state_inline.GfmLabelStartFootnoteStart = refl
gfm_fits M is_punctuation x n = refl
