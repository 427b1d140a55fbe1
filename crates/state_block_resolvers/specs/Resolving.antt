-- What the resolvers of blocks do: each makes its edits, if these leave whole events.
use Rattle.std.specs.Prelude.{ℕ, List, length}
use Rattle.markdown_engine.specs.Reading.{Config}
use Rattle.state_edits_blocks.specs.GfmTable.{table_edits}
use Rattle.state_edits_blocks.specs.HeadingAtx.{atx_edits}
use Rattle.state_edits_blocks.specs.HeadingSetext.{setext_edits}
use Rattle.state_edits_blocks.specs.ListItem.{list_edits}
use Rattle.state_resolvers.specs.EditedEvents.{with_edited_events}

module _ {M : Type 0} where
  -- the text of each ATX heading is one chunk (CommonMark 4.2)
  abbrev pub resolve_heading_atx : Config M → Config M
  resolve_heading_atx c = with_edited_events (atx_edits c.events (length c.events)) c

  -- each paragraph with an underline is a heading (CommonMark 4.3)
  abbrev pub resolve_heading_setext : Config M → Config M
  resolve_heading_setext c = with_edited_events (setext_edits c.events (length c.events)) c

  -- items side by side with one marker are a list (CommonMark 5.3)
  abbrev pub resolve_list_item : List ℕ → Config M → Config M
  resolve_list_item bytes c = with_edited_events (list_edits bytes c.events) c

  -- heads, and the rows of bodies behind them, are tables with cells (GFM 4.10)
  abbrev pub resolve_gfm_table : Config M → Config M
  resolve_gfm_table c = with_edited_events (table_edits c.events) c
