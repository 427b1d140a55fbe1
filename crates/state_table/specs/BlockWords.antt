-- Words of the block states.
use Rattle.std.specs.Prelude.{ℕ, ◌-◌, ◌^◌, Bool, true, false, nat_lt, refl, ◌==◌, ◌||◌, if◌then◌else◌, List, length, slice_get, Option, None, Some}
use denote.Enum.Bare.{sameb}
use Rattle.markdown_options.specs.declared.configuration.Constructs.{Constructs}
use Rattle.definition_text.specs.Ascii.{line_feed}
use Rattle.engine_events.specs.contracts.event.Kind.{the_type}
use Rattle.engine_events.specs.declared.event.Content.{Content}
use Rattle.engine_events.specs.declared.event.Content.TheVariants as contents
use Rattle.engine_events.specs.declared.event.Event.{Event}
use Rattle.engine_events.specs.declared.event.Kind.TheVariants as kinds
use Rattle.engine_events.specs.declared.event.Link.{Link}
use Rattle.engine_events.specs.declared.event.Name.{Name as EventName}
use Rattle.engine_states.specs.declared.state.Block.{Block as BlockName}
use Rattle.engine_states.specs.declared.state.Inline.{Inline as InlineName}
use Rattle.engine_states.specs.declared.state.Inline.TheVariants as state_inline
use Rattle.engine_states.specs.declared.state.Name.TheVariants.{Block, Inline}
use Rattle.engine_states.specs.declared.state.State.{State}
use Rattle.engine_states.specs.declared.state.State.TheVariants as states
use Rattle.markdown_engine.specs.Reading.{Config}
use Rattle.engine_programs.specs.Bodies.{FixedName, Body, Answer, Consume, Byte, Flag, Flags, Keep, On, Tries, around}
use Rattle.state_table.specs.Words.{is_space_or_tab}

-- the block state that reads the next byte, or the same one
abbrev pub next : BlockName → State
next n = states.Next (Block n)

abbrev pub retry : BlockName → State
retry n = states.Retry (Block n)

-- an inline state that blocks share, at the same byte
abbrev pub part : InlineName → State
part n = states.Retry (Inline n)

-- a space, a tab or a line ending
abbrev pub is_white : ℕ → Bool
is_white b = is_space_or_tab b || (b == line_feed)

-- the most that a number of the program holds
abbrev pub no_limit : ℕ
no_limit = 2 ^ 64 - 1

-- how many columns the first line of a block may be indented: 3 if more begin indented code
abbrev pub indent_max : Bool → ℕ
indent_max code_indented = if code_indented then 3 else no_limit

abbrev pub chunk_of : Content → Link
chunk_of content = let link : Link = record { previous = None; next = None; content = content } in link

-- whether an event is the end of one
abbrev pub ends_one : Option Event → Bool
ends_one None = false
ends_one (Some e) = sameb the_type e.kind kinds.Exit

-- a chunk of text that ends with these events is the one before
unfoldable pub link_after : List Event → Link
link_after es = let link : Link =
    record { previous = if ends_one (slice_get es (length es - 1)) then Some (length es - 2) else None; next = None; content = contents.Text } in link

module _ {M : Type 0} where
  -- at the end of a line or of the text, or elsewhere
  abbrev pub at_line_end : Body M → Body M → Body M
  at_line_end a b = Byte a (On (λ b. b == line_feed) a b)

  -- over the byte if it is this one; otherwise another state
  abbrev pub consume_if : ℕ → BlockName → State → Body M
  consume_if byte n other = On (λ b. b == byte) (Consume (Answer (next n))) (Answer other)

  -- an event round the byte if it is this one; otherwise another state
  abbrev pub around_if : ℕ → EventName → BlockName → State → Body M
  around_if byte name n other = On (λ b. b == byte) (around (FixedName name) (Answer (next n))) (Answer other)

  -- the indent of the line is that of code
  abbrev pub is_indented : Constructs → Config M → Bool
  is_indented constructs c = nat_lt (indent_max constructs.code_indented) c.tokenize_state.space_or_tab_size

  -- over spaces and tabs, of at most so many columns, and then to a state
  abbrev pub white_to : ℕ → BlockName → Body M
  white_to most n = Keep (λ c. record c.tokenize_state { size_c = most }) (λ c i. refl) (Tries false (next n) states.Nok (part state_inline.SpaceOrTabStart))

  -- the same, where there need be none
  abbrev pub over_white : ℕ → BlockName → Body M
  over_white most n = On is_space_or_tab (white_to most n) (Answer (retry n))

  -- over the indent of a block's first line
  abbrev pub over_indent : Constructs → BlockName → Body M
  over_indent constructs n = over_white (indent_max constructs.code_indented) n

  abbrev pub flow_link : Config M → Option Link
  flow_link c = Some (chunk_of contents.Flow)

  abbrev pub content_link : Config M → Option Link
  content_link c = Some (chunk_of contents.Content)

  abbrev pub string_link : Config M → Option Link
  string_link c = Some (chunk_of contents.String)

  abbrev pub text_link : Config M → Option Link
  text_link c = Some (chunk_of contents.Text)

  abbrev pub text_after : Config M → Option Link
  text_after c = Some (link_after c.events)

  -- what comes next interrupts no paragraph
  abbrev pub free : Body M → Body M
  free b = Flag (λ c. let f : Flags = record { interrupt = false; lazy = c.lazy; concrete = c.concrete; pierce = c.pierce } in f) b

  -- what comes next interrupts a paragraph
  abbrev pub interrupting : Body M → Body M
  interrupting b = Flag (λ c. let f : Flags = record { interrupt = true; lazy = c.lazy; concrete = c.concrete; pierce = c.pierce } in f) b

  -- no container begins in what is read
  abbrev pub concrete : Body M → Body M
  concrete b = Flag (λ c. let f : Flags = record { interrupt = c.interrupt; lazy = c.lazy; concrete = true; pierce = c.pierce } in f) b

  -- a block ended in which no container begins
  abbrev pub all_free : Body M → Body M
  all_free b = Flag (λ c. let f : Flags = record { interrupt = false; lazy = c.lazy; concrete = false; pierce = c.pierce } in f) b
