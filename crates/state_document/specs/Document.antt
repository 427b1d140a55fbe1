-- What the states of `document` do.
use Rattle.std.specs.Prelude.{Bool, false, refl, ◌==◌, if◌then◌else◌, List, length, take}
use Rattle.definition_text.specs.Ascii.{line_feed}
use Rattle.engine_states.specs.declared.container.Container.TheVariants as containers
use Rattle.engine_states.specs.declared.container.ContainerState.{ContainerState}
use Rattle.engine_events.specs.declared.event.Name.TheVariants as names
use Rattle.engine_states.specs.declared.state.Block.TheVariants as state_block
use Rattle.engine_states.specs.declared.state.Inline.TheVariants as state_inline
use Rattle.engine_states.specs.declared.state.State.TheVariants as states
use Rattle.markdown_engine.specs.Context.{Context}
use Rattle.markdown_engine.specs.Reading.{Config}
use Rattle.engine_programs.specs.Bodies.{FixedName, Body, Answer, Consume, EnterLink, Exit, Flag, Flags, Keep, Tries, Byte, On, Test, Move}
use Rattle.state_table.specs.Words.{more}
use Rattle.state_table.specs.BlockWords.{next, retry, part, free, flow_link}
use Rattle.state_containers.specs.Open.{is_more_open, is_open, begun_containers}
use Rattle.state_document.specs.Readers.{Calls}

-- ---- states that don't ask the reader

module _ {M : Type 0} where
  -- at the start of a text
  abbrev pub document_start : Body M
  document_start =
      Tries false (next state_block.DocumentBeforeFrontmatter) (next state_block.DocumentBeforeFrontmatter) (retry state_block.BomStart)

  -- after a byte order mark
  abbrev pub document_before_frontmatter : Body M
  document_before_frontmatter =
      Tries false (next state_block.DocumentContainerNewBefore) (next state_block.DocumentContainerNewBefore) (retry state_block.FrontmatterStart)

  -- before a container that is open
  abbrev pub document_container_existing_before : Body M
  document_container_existing_before =
      Test (λ c. is_more_open c.tokenize_state)
      (Test (λ c. is_open c.tokenize_state containers.BlockQuote)
      (Tries false (next state_block.DocumentContainerExistingAfter) (next state_block.DocumentContainerNewBefore) (retry state_block.BlockQuoteContStart))
      (Test (λ c. is_open c.tokenize_state containers.ListItem)
      (Tries false (next state_block.DocumentContainerExistingAfter) (next state_block.DocumentContainerNewBefore) (retry state_block.ListItemContStart))
      (Tries false (next state_block.DocumentContainerExistingAfter) (next state_block.DocumentContainerNewBefore)
      (retry state_block.GfmFootnoteDefinitionContStart))))
      (Answer (retry state_block.DocumentContainerNewBefore))

  -- where no quote begins
  abbrev pub document_container_new_before_not_block_quote : Body M
  document_container_new_before_not_block_quote =
      Keep (λ c. record c.tokenize_state { marker_b = 1 }) (λ c i. refl)
      (Tries false (next state_block.DocumentContainerNewAfter) (next state_block.DocumentContainerNewBeforeNotList) (retry state_block.ListItemStart))

  -- where no item begins
  abbrev pub document_container_new_before_not_list : Body M
  document_container_new_before_not_list =
      Keep (λ c. record c.tokenize_state { marker_b = 2 }) (λ c i. refl)
      (Tries false (next state_block.DocumentContainerNewAfter) (next state_block.DocumentContainerNewBeforeNotGfmFootnoteDefinition)
      (retry state_block.GfmFootnoteDefinitionStart))

  -- where no footnote definition begins: over the columns of a blank line that belong to containers
  abbrev pub document_container_new_before_not_gfm_footnote_definition : Body M
  document_container_new_before_not_gfm_footnote_definition =
      Test (λ c. c.tokenize_state.end == 0) (Answer (retry state_block.DocumentContainersAfter))
      (Keep (λ c. record c.tokenize_state { size_c = c.tokenize_state.end; end = 0 }) (λ c i. refl)
      (Tries false (next state_block.DocumentContainersAfter) (next state_block.DocumentContainersAfter) (part state_inline.SpaceOrTabStart)))

  -- in a line: its ending belongs to it
  abbrev pub in_line : Body M
  in_line =
      On (λ b. b == line_feed) (Consume (Exit (FixedName names.Data) (Answer (next state_block.DocumentFlowEnd))))
      (Consume (Answer (next state_block.DocumentFlowInside)))

  -- at the first byte of a line's flow
  abbrev pub start_line : Body M
  start_line = EnterLink (FixedName names.Data) flow_link in_line

-- ---- states that do

module _ {T V : Type 0} (calls : Calls T V) (x : Context T) where
  -- what comes next interrupts a paragraph, or doesn't
  abbrev pub interrupting_if : (Config V → Bool) → Body V → Body V
  interrupting_if t b = Flag (λ c. let f : Flags = record { interrupt = t c; lazy = c.lazy; concrete = c.concrete; pierce = c.pierce } in f) b

  -- the text ends here
  abbrev pub ended : Body V
  ended = Move (λ c. calls.ended x c.machine c.tokenize_state c.point) (Answer states.Ok)

  -- after a container that goes on
  abbrev pub document_container_existing_after : Body V
  document_container_existing_after =
      Move (λ c. calls.went_on c.machine c.tokenize_state c.point)
      (Keep (λ c. record c.tokenize_state { space_or_tab_max = more c.tokenize_state.space_or_tab_max }) (λ c i. refl)
      (Answer (retry state_block.DocumentContainerExistingBefore)))

  -- before a new container
  abbrev pub document_container_new_before : Body V
  document_container_new_before =
      Move (λ c. calls.marked c.machine (length c.events))
      (Keep (λ c. record c.tokenize_state { start = c.point.column; marker_b = 0 }) (λ c i. refl)
      (interrupting_if (λ c. calls.interrupts c.machine c.tokenize_state)
      (Test (λ c. calls.is_concrete c.machine c.tokenize_state)
      (Answer (retry state_block.DocumentContainerNewBeforeNotGfmFootnoteDefinition))
      (Tries false (next state_block.DocumentContainerNewAfter) (next state_block.DocumentContainerNewBeforeNotBlockQuote)
      (retry state_block.BlockQuoteStart)))))

  -- after a container that begins
  abbrev pub document_container_new_after : Body V
  document_container_new_after =
      Move (λ c. calls.begun x c.machine c.tokenize_state c.point)
      (Keep (λ c. record c.tokenize_state
      { containers = begun_containers c.tokenize_state; space_or_tab_max = more c.tokenize_state.space_or_tab_max }) (λ c i. refl)
      (free (Answer (retry state_block.DocumentContainerNewBefore))))

  -- after the containers of a line
  abbrev pub document_containers_after : Body V
  document_containers_after =
      Byte ended
      (Move (λ c. calls.flow_begun x c.machine c.tokenize_state c.point) start_line)

  -- in a line
  abbrev pub document_flow_inside : Body V
  document_flow_inside = Byte (Exit (FixedName names.Data) ended) in_line

  -- the containers that stay open after a line: those that went on, or all where a paragraph goes on
  abbrev pub still_open : Config V → List ContainerState
  still_open c =
      if calls.stays_open c.machine then c.tokenize_state.containers else take c.tokenize_state.space_or_tab_max c.tokenize_state.containers

  -- after a line
  abbrev pub document_flow_end : Body V
  document_flow_end =
      Byte ended
      (Move (λ c. calls.flow_read x c.machine c.tokenize_state c.point)
      (Keep (λ c. record c.tokenize_state { containers = still_open c; space_or_tab_max = 0 }) (λ c i. refl)
      (Answer (retry state_block.DocumentContainerExistingBefore))))
