-- Lines may be read by `Contents`, and in one way.
use Rattle.std.proofs.Common.{◌≡◌, ◌∙◌, ℕ, ◌+◌, Bool, true, false, ◌&&◌, not, if◌then◌else◌, List, [], ◌∷◌, length, Option, None, Some, is_some, MatchBool, refl, sym, ap, subst}
use Rattle.std.proofs.lemmas.Bool.{and_parts}
use denote.Enum.Bare.{same_true}
use Rattle.engine_events.specs.contracts.event.Content.{the_type}
use Rattle.engine_events.specs.declared.event.Content.{Content}
use Rattle.engine_events.specs.declared.event.Content.TheVariants as contents
use Rattle.engine_events.specs.declared.event.Event.{Event}
use Rattle.engine_events.specs.declared.event.Link.{Link}
use Rattle.engine_events.specs.declared.place.Point.{Point}
use Rattle.engine_states.specs.declared.state.State.TheVariants as states
use Rattle.engine_events.specs.Events.{link_of}
use Rattle.engine_edits.specs.Edits.{EditAt}
use Rattle.engine_edits.specs.Replacement.{events_after}
use Rattle.engine_programs.specs.Stacks.{program_rank, program_valid}
use Rattle.markdown_engine.specs.Chains.{Chain, MayBegin, SubtokenizesIn, chains, chains_from, first_content, first_state, is_asked, place_at, with_chain}
use Rattle.markdown_engine.specs.Context.{Context}
use Rattle.markdown_engine.specs.Evaluation.{AreReadingOf}
use Rattle.markdown_engine.specs.Machine.{fresh_config}
use Rattle.markdown_engine.specs.Resolving.{FoundLabels, resolves_nothing}
use Rattle.markdown_engine.specs.Standing.{LinksLeadIn}
use Rattle.markdown_engine.proofs.Computing.{chains_read}
use Rattle.state_content.specs.declared.contents.Contents.{Contents}
use Rattle.state_content.specs.Contents.{contents_sorts}
use Rattle.state_content.specs.ContentsLaws.{contents_begin, contents_lawful}
use Rattle.state_edits_blocks.specs.Content.{CanJoin, joined}
use Rattle.state_resolvers.specs.Whole.{is_whole}
use Rattle.state_block_resolvers.specs.Content.{AreLinesReadable, ReadsContents, contents_step}

module _ (size : ℕ) (machine : Contents) (events : List Event) where
  abbrev Begin : List Chain → Type 0
  Begin cs = MayBegin (program_valid contents_sorts 64 size) machine events cs

  begin_if : (b : Bool) (found : Content) (at : ℕ) (cs : List Chain) → (b ≡ true → contents.Content ≡ found) → Begin cs
      → Begin (with_chain at (if b then Some found else None) cs)
  begin_if false found at cs h k = k
  begin_if true found at cs h k =
      let P : Content → Type 0 = λ z. program_valid contents_sorts 64 size (fresh_config (place_at events at) machine) [] (states.Next (first_state z)) in
      (subst P (h refl) (contents_begin size machine (place_at events at)), k)

  begin_at : (link : Option Link) (at : ℕ) (cs : List Chain) → Begin cs → Begin (with_chain at (first_content (Some contents.Content) link) cs)
  begin_at None at cs k = k
  begin_at (Some l) at cs k = begin_if (not (is_some l.previous) && is_asked (Some contents.Content) l.content) l.content at cs
      (λ e. same_true the_type tt contents.Content l.content (and_parts _ _ e).1) k

  begin_from : (at : ℕ) (es : List Event) → Begin (chains_from (Some contents.Content) at es)
  begin_from at [] = tt
  begin_from at (e ∷ es) = begin_at (link_of e) at (chains_from (Some contents.Content) (at + 1) es) (begin_from (at + 1) es)

  -- each chain of lines may be read
  pub may_begin : Begin (chains (Some contents.Content) events)
  may_begin = begin_from 0 events

abbrev edits_in : Option (List EditAt × FoundLabels) → List EditAt
edits_in None = []
edits_in (Some found) = found.0

module _ {T : Type 0} (x : Context T) (old : List Event) where
  -- the joined lines are read
  pub read_of : (all new : List Event) (found : FoundLabels) → CanJoin old × (all ≡ joined old) → AreLinesReadable x.bytes all
      → SubtokenizesIn contents_step (λ y. resolves_nothing) x (record {}) (Some contents.Content) all new found
      → LinksLeadIn contents_step (λ y. resolves_nothing) x (record {}) (Some contents.Content) all new found → ReadsContents x old new
  read_of all new found joins readable read links = record {
    joins = joins.0;
    readable = subst (λ z. AreLinesReadable x.bytes z) joins.1 readable;
    found = found;
    read = subst (λ z. SubtokenizesIn contents_step (λ y. resolves_nothing) x (record {}) (Some contents.Content) z new found) joins.1 read;
    links = subst (λ z. LinksLeadIn contents_step (λ y. resolves_nothing) x (record {}) (Some contents.Content) z new found) joins.1 links;
  }

  computed : (new : List Event) (k : ReadsContents x old new)
      → AreReadingOf contents_step (λ y. program_rank contents_sorts 64 (length y.bytes)) (λ y. resolves_nothing) x (record {}) (Some contents.Content) (joined old)
      new k.found
  computed new k =
      chains_read x (λ y. program_valid contents_sorts 64 (length y.bytes)) contents_step (λ y. program_rank contents_sorts 64 (length y.bytes))
      (λ y. resolves_nothing) (record {}) (Some contents.Content) (joined old) new k.found (contents_lawful x) k.readable
      (may_begin (length x.bytes) (record {}) (joined old)) k.read

  -- what is read is a function of the events
  same_reading : (new other : List Event) → ReadsContents x old new → ReadsContents x old other → new ≡ other
  same_reading new other h k =
      let a = computed new h in
      let b = computed other k in
      a.2 ∙ (ap (λ z. events_after (edits_in z) (joined old)) (sym a.1 ∙ b.1) ∙ sym b.2)

  -- what is read is whole, or nothing that is read is
  pub told : (to : Point) (new : List Event) (b : Bool) → b ≡ is_whole new to → ReadsContents x old new
      → MatchBool b (ReadsContents x old new × (is_whole new to ≡ true)) ((all : List Event) → ReadsContents x old all → is_whole all to ≡ false)
  told to new true e h = (h, sym e)
  told to new false e h = λ all k. ap (λ z. is_whole z to) (same_reading all new k h) ∙ sym e
