-- Chains of chunks, each read as one text.
use Rattle.std.specs.Prelude.{◌≡◌, ℕ, ◌+◌, ◌≤◌, ◌<◌, zero, suc, Bool, true, false, ◌==◌, ◌&&◌, ◌||◌, nat_lt, if◌then◌else◌, List, [], ◌∷◌, ◌++◌, length, Option}
use Rattle.std.specs.Prelude.{None, Some, is_some, not}
use denote.Enum.Bare.{sameb}
use Rattle.engine_events.specs.contracts.event.Content.{the_type}
use Rattle.engine_events.specs.declared.event.Content.{Content}
use Rattle.engine_events.specs.declared.event.Content.TheVariants as contents
use Rattle.engine_events.specs.declared.event.Event.{Event}
use Rattle.engine_events.specs.declared.event.Link.{Link}
use Rattle.engine_events.specs.declared.place.Point.{Point}
use Rattle.engine_states.specs.declared.state.Name.{Name}
use Rattle.engine_states.specs.declared.state.Name.TheVariants.{Inline, Block}
use Rattle.engine_states.specs.declared.state.Inline.TheVariants as state_inline
use Rattle.engine_states.specs.declared.state.Block.TheVariants as block_states
use Rattle.engine_states.specs.declared.state.State.TheVariants as states
use Rattle.engine_events.specs.Events.{link_of, point_of}
use Rattle.engine_edits.specs.Edits.{EditAt}
use Rattle.engine_edits.specs.Replacement.{events_after}
use Rattle.engine_chunks.specs.Chunks.{chunks}
use Rattle.engine_chunks.specs.Parts.{counts, with_division}
use Rattle.markdown_engine.specs.Context.{Context}
use Rattle.markdown_engine.specs.Laws.{HoldsAt}
use Rattle.markdown_engine.specs.declared.tokenizer.Tokenizer.{Tokenizer}
use Rattle.markdown_engine.specs.Machine.{NothingWaits, config, fresh_config}
use Rattle.markdown_engine.specs.Reading.{Config, Steps, Runs}
use Rattle.markdown_engine.specs.Resolving.{FoundLabels, Resolves, found_both, nothing_found, resolve_all}
use Rattle.markdown_engine.specs.VirtualText.{IsCut, Source, Text, line_start, text_to, without_skips, with_skip}

-- whether a content is asked for; without a filter each is
abbrev pub is_asked : Option Content → Content → Bool
is_asked None found = true
is_asked (Some asked) found = sameb the_type asked found

abbrev pub first_content : Option Content → Option Link → Option Content
first_content filter None = None
first_content filter (Some l) = if not (is_some l.previous) && is_asked filter l.content then Some l.content else None

-- the content of the chain that an event begins, if that is asked for
abbrev pub chain_content : Option Content → Event → Option Content
chain_content filter e = first_content filter (link_of e)

-- a chain: the index of its first chunk, and its content
abbrev pub Chain : Type 0
Chain = ℕ × Content

abbrev pub with_chain : ℕ → Option Content → List Chain → List Chain
with_chain at None chains = chains
with_chain at (Some content) chains = (at, content) ∷ chains

-- the chains that are asked for, of the events from an index on
abbrev pub chains_from : Option Content → ℕ → List Event → List Chain
chains_from filter at [] = []
chains_from filter at (e ∷ es) = with_chain at (chain_content filter e) (chains_from filter (at + 1) es)

abbrev pub chains : Option Content → List Event → List Chain
chains filter events = chains_from filter 0 events

-- the chunks of these chains
abbrev pub chunks_of : List Event → List Chain → List ℕ
chunks_of events [] = []
chunks_of events (c ∷ cs) = chunks events c.0 ++ chunks_of events cs

-- chunks stand one after another, each with the exit that follows it, from an index on in a list of so many events
abbrev pub AreApart : ℕ → List ℕ → ℕ → Type 0
AreApart from [] count = from ≤ count
AreApart from (k ∷ ks) count = (from ≤ k) × AreApart (k + 2) ks count

-- a place of a text
abbrev pub IsPlace : List ℕ → Point → Type 0
IsPlace bytes p = IsCut bytes (p.index, p.vs)

-- where the event at an index is; past the last one, at the text's start
abbrev pub place_at : List Event → ℕ → Point
place_at [] k = record { line = 1; column = 1; index = 0; vs = 0 }
place_at (e ∷ es) zero = point_of e
place_at (e ∷ es) (suc k) = place_at es k

-- each event is at a place of the text
abbrev pub ArePlaces : List ℕ → List Event → Type 0
ArePlaces bytes events = (k : ℕ) → k < length events → IsPlace bytes (place_at events k)

-- at a place of its text, with nothing read, nothing that waits and nothing to skip
pub record IsFresh {M T A : Type 0} (p : Point) (t : Tokenizer M T A) : Type 0 where
  pub config : config t ≡ fresh_config p t.machine
  pub attempts : NothingWaits t
  pub skips : t.skips.entries ≡ []

-- the chains that are asked for can be read
pub record AreReadable (bytes : List ℕ) (filter : Option Content) (events : List Event) : Type 0 where
  pub places : ArePlaces bytes events
  pub apart : AreApart 0 (chunks_of events (chains filter events)) (length events)

-- a chunk whose line starts at or after the end of the chunk before
abbrev pub starts_line : List ℕ → Point → Point → Bool
starts_line bytes end p = let start = line_start bytes p.index in nat_lt end.index start || ((end.index == start) && (end.vs == 0))

-- of a text in which a chunk follows that ends at a place: its line is read from there
abbrev pub after_chunk : Point → Point → Source → Source
after_chunk end p s = if starts_line s.bytes end p then with_skip s p else s

-- the text with what is skipped before chunks, the first of which follows one that ends at a place
abbrev pub with_chunks : List Event → Point → List ℕ → Source → Source
with_chunks events end [] s = s
with_chunks events end (k ∷ ks) s = with_chunks events (place_at events (k + 1)) ks (after_chunk end (place_at events k) s)

-- where the last of these chunks ends
abbrev pub end_of : List Event → Point → List ℕ → Point
end_of events end [] = end
end_of events end (k ∷ ks) = end_of events (place_at events (k + 1)) ks

-- a chain's text: up to its last chunk's end, without what stands before chunks on their lines
abbrev pub chain_text : List ℕ → List Event → ℕ → Text
chain_text bytes events k =
    let first = place_at events k in
    let end = end_of events first (chunks events k) in
    text_to (with_chunks events first (chunks events k) (without_skips bytes)) (end.index, end.vs)

-- the state that a content is read by
abbrev pub first_state : Content → Name
first_state contents.Content = Block block_states.ContentDefinitionBefore
first_state contents.String = Inline state_inline.StringStart
first_state contents.Flow = Inline state_inline.TextStart
first_state contents.Text = Inline state_inline.TextStart

module _ {M : Type 0} (step : Steps M) (resolve : Resolves M) (bytes : List ℕ) (machine : M) (events : List Event) where
  -- these are the events that reading a chain's text gives once resolvers have run, and what these found
  pub record ReadsChain (chain : Chain) (children : List Event) (found : FoundLabels) : Type 0 where
    pub read : Config M
    pub runs : Runs (chain_text bytes events chain.0) step (fresh_config (place_at events chain.0) machine) [] (states.Next (first_state chain.1)) read true
    pub added : children ≡ (resolve_all resolve read).config.events
    pub labels : found ≡ (resolve_all resolve read).found

  -- chain by chain, each chunk is replaced by its part of the events that were read of its chain
  abbrev pub Divides : List Chain → ℕ × ℕ → List EditAt → List EditAt → FoundLabels → FoundLabels → Type 0
  Divides [] acc edits all found total = (edits ≡ all) × (found ≡ total)
  Divides (c ∷ cs) acc edits all found total =
      (children : List Event) × (more : FoundLabels) × ReadsChain c children more
      × Divides cs (counts events (chunks events c.0) children 0 acc.0 acc.1) (with_division events c.0 children acc edits) all (found_both found more) total

-- each chain that is asked for is read, and what was read of it stands in its place
pub record Subtokenizes {M : Type 0} (step : Steps M) (resolve : Resolves M) (bytes : List ℕ) (machine : M) (filter : Option Content) (old new : List Event)
    (found : FoundLabels) : Type 0 where
  pub edits : List EditAt
  pub divides : Divides step resolve bytes machine old (chains filter old) (0, 0) [] edits nothing_found found
  pub edited : new ≡ events_after edits old

-- the same, with what a text is read with
module _ {T M : Type 0} (step : Context T → Steps M) (resolve : Context T → Resolves M) (x : Context T) (machine : M) where
  abbrev pub ReadsChainIn : List Event → Chain → List Event → FoundLabels → Type 0
  ReadsChainIn events chain children found = ReadsChain (step x) (resolve x) x.bytes machine events chain children found

  abbrev pub DividesIn : Option Content → List Event → List EditAt → List EditAt → FoundLabels → Type 0
  DividesIn filter events edits all total = Divides (step x) (resolve x) x.bytes machine events (chains filter events) (0, 0) edits all nothing_found total

  abbrev pub SubtokenizesIn : Option Content → List Event → List Event → FoundLabels → Type 0
  SubtokenizesIn filter old new found = Subtokenizes (step x) (resolve x) x.bytes machine filter old new found

-- the machine may begin each of these chains
abbrev pub MayBegin : {M : Type 0} → HoldsAt M → M → List Event → List Chain → Type 0
MayBegin valid machine events [] = Unit {0}
MayBegin valid machine events (c ∷ cs) = valid (fresh_config (place_at events c.0) machine) [] (states.Next (first_state c.1))
    × MayBegin valid machine events cs

abbrev pub is_empty : List Chain → Bool
is_empty [] = true
is_empty (c ∷ cs) = false
