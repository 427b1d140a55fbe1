-- The machine of texts and strings may begin each chain of texts, and each of strings.
use Rattle.std.proofs.Common.{ℕ, ◌+◌, Bool, true, false, ◌&&◌, if◌then◌else◌, List, [], ◌∷◌, Option, None, Some, is_some, not}
use denote.Enum.Bare.{sameb}
use Rattle.engine_events.specs.contracts.event.Content.{the_type}
use Rattle.engine_events.specs.declared.event.Content.{Content}
use Rattle.engine_events.specs.declared.event.Content.TheVariants as contents
use Rattle.engine_events.specs.declared.event.Event.{Event}
use Rattle.engine_events.specs.declared.event.Link.{Link}
use Rattle.engine_events.specs.Events.{link_of}
use Rattle.markdown_engine.specs.Chains.{Chain, MayBegin, chains, chains_from, first_content, place_at, with_chain}
use Rattle.engine_programs.specs.Stacks.{program_valid}
use Rattle.state_table.specs.Table.{sorts}
use Rattle.state_inline.specs.declared.inlines.Inlines.{Inlines}
use Rattle.state_inline.specs.InlineLaws.{string_begins, text_begins}

module _ (size : ℕ) (machine : Inlines) (events : List Event) where
  abbrev Begin : List Chain → Type 0
  Begin = MayBegin (program_valid sorts 64 size) machine events

  -- a chunk that a filter finds
  text : (first : Bool) (content : Content) (at : ℕ) (cs : List Chain) → Begin cs
      → Begin (with_chain at (if first && sameb the_type contents.Text content then Some content else None) cs)
  text false _ at cs h = h
  text true contents.Text at cs h = (text_begins size machine (place_at events at), h)
  text true contents.Content at cs h = h
  text true contents.String at cs h = h
  text true contents.Flow at cs h = h

  string : (first : Bool) (content : Content) (at : ℕ) (cs : List Chain) → Begin cs
      → Begin (with_chain at (if first && sameb the_type contents.String content then Some content else None) cs)
  string false _ at cs h = h
  string true contents.String at cs h = (string_begins size machine (place_at events at), h)
  string true contents.Content at cs h = h
  string true contents.Text at cs h = h
  string true contents.Flow at cs h = h

  text_link : (l : Option Link) (at : ℕ) (cs : List Chain) → Begin cs → Begin (with_chain at (first_content (Some contents.Text) l) cs)
  text_link None at cs h = h
  text_link (Some l) at cs h = text (not (is_some l.previous)) l.content at cs h

  string_link : (l : Option Link) (at : ℕ) (cs : List Chain) → Begin cs → Begin (with_chain at (first_content (Some contents.String) l) cs)
  string_link None at cs h = h
  string_link (Some l) at cs h = string (not (is_some l.previous)) l.content at cs h

  texts_from : (at : ℕ) (es : List Event) → Begin (chains_from (Some contents.Text) at es)
  texts_from at [] = tt
  texts_from at (e ∷ es) = text_link (link_of e) at (chains_from (Some contents.Text) (at + 1) es) (texts_from (at + 1) es)

  strings_from : (at : ℕ) (es : List Event) → Begin (chains_from (Some contents.String) at es)
  strings_from at [] = tt
  strings_from at (e ∷ es) = string_link (link_of e) at (chains_from (Some contents.String) (at + 1) es) (strings_from (at + 1) es)

pub texts_begin : (size : ℕ) (machine : Inlines) (events : List Event)
    → MayBegin (program_valid sorts 64 size) machine events (chains (Some contents.Text) events)
texts_begin size machine events = texts_from size machine events 0 events

pub strings_begin : (size : ℕ) (machine : Inlines) (events : List Event)
    → MayBegin (program_valid sorts 64 size) machine events (chains (Some contents.String) events)
strings_begin size machine events = strings_from size machine events 0 events
