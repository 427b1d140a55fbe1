-- The resolvers leave whole events.
use Rattle.std.proofs.Common.{◌≡◌, refl, ℕ, Bool, true, false, ◌&&◌, if◌then◌else◌, List, [], ◌∷◌, length}
use Rattle.engine_events.specs.declared.event.Event.{Event}
use Rattle.engine_events.specs.declared.place.Point.{Point}
use Rattle.engine_states.specs.declared.resolve.Name.{Name as Resolver}
use Rattle.engine_states.specs.declared.resolve.Name.TheVariants as resolvers
use Rattle.engine_edits.specs.Edits.{EditAt}
use Rattle.engine_edits.specs.Replacement.{events_after}
use Rattle.markdown_engine.specs.Context.{Context}
use Rattle.markdown_engine.specs.Laws.{HoldsAt}
use Rattle.markdown_engine.specs.Order.{AreWhole}
use Rattle.markdown_engine.specs.Reading.{Config}
use Rattle.markdown_engine.specs.Resolving.{ResolvesAt, resolves_nothing, settles_whole}
use Rattle.state_edits_attention.specs.Attention.{attention_edits}
use Rattle.state_edits_data.specs.Data.{data_edits}
use Rattle.state_edits_data.specs.RawText.{span_edits}
use Rattle.state_edits_data.specs.Whitespace.{white_edits}
use Rattle.state_edits_links.specs.Autolink.{email_edits}
use Rattle.state_edits_links.specs.GfmAutolinkLiteral.{address_edits}
use Rattle.state_edits_links.specs.LabelEnd.{label_edits}
use Rattle.state_resolvers.specs.ChainLaws.{chained_whole}
use Rattle.state_resolvers.specs.EditedEvents.{edited_events, is_ordered, with_edited_events}
use Rattle.state_resolvers.specs.Resolving.{inline_resolved, join_chunks, link_text, resolved_config, name_emails, name_text, trim_string}
use Rattle.state_resolvers.specs.Resolving.{trim_text}
use Rattle.state_resolvers.specs.Whole.{is_whole}
use Rattle.state_resolvers.specs.WholeLaws.{whole}

either : (a b : Bool) (all events : List Event) (to : Point) → (b ≡ true → AreWhole all to) → AreWhole events to → AreWhole (if a && b then all else events) to
either true true all events to h k = h refl
either true false all events to h k = k
either false b all events to h k = k

edited_whole : (edits : List EditAt) (to : Point) (events : List Event) → AreWhole events to → AreWhole (edited_events edits to events) to
unfolding edited_events
edited_whole edits to events h = either (is_ordered 0 edits (length events)) (is_whole (events_after edits events) to) (events_after edits events) events to
    (whole (events_after edits events) to) h

module _ {T M : Type 0} (is_punctuation : ℕ → Bool) (x : Context T) where
  linked_settled : (b : Bool) (c : Config M) → settles_whole c []
      → settles_whole (if b then with_edited_events (address_edits x.bytes c.events (length c.events)) c else c) []
  linked_settled true c h = (h.0, edited_whole (address_edits x.bytes c.events (length c.events)) c.point c.events h.1)
  linked_settled false c h = h

  joined_settled : (c : Config M) → settles_whole c [] → settles_whole (join_chunks c) []
  joined_settled c h = (h.0, chained_whole c.events c.point h.1)

  named_settled : (c : Config M) → settles_whole c [] → settles_whole (name_text is_punctuation x c) []
  named_settled c h =
      let named = name_emails is_punctuation x c in
      let k = edited_whole (email_edits x.bytes c.events (length c.events)) c.point c.events h.1 in
      (h.0, edited_whole (span_edits named.events (length named.events)) c.point named.events k)

  trimmed_settled : (c : Config M) → settles_whole c [] → settles_whole (trim_text is_punctuation x c) []
  trimmed_settled c h = (h.0, edited_whole (white_edits true x.options.constructs.hard_break_trailing x.bytes c.events (length c.events)) c.point c.events h.1)

  settled : (c : Config M) (n : Resolver) → settles_whole c [] → settles_whole (resolved_config is_punctuation x c n) []
  settled c resolvers.Data h = (h.0, edited_whole (data_edits c.events (length c.events)) c.point c.events h.1)
  settled c resolvers.Label h = (h.0, edited_whole (label_edits c.events c.tokenize_state) c.point c.events h.1)
  settled c resolvers.Attention h = (h.0, edited_whole (attention_edits is_punctuation x c.events) c.point c.events h.1)
  settled c resolvers.Text h =
      let trimmed = trim_text is_punctuation x (name_text is_punctuation x c) in
      joined_settled (link_text is_punctuation x trimmed)
      (linked_settled x.options.constructs.gfm_autolink_literal trimmed (trimmed_settled (name_text is_punctuation x c) (named_settled c h)))
  settled c resolvers.String h =
      joined_settled (trim_string is_punctuation x c) (h.0, edited_whole (white_edits false false x.bytes c.events (length c.events)) c.point c.events h.1)
  settled c n h = h

  kept_settled : (c : Config M) (n : Resolver) (ns : List Resolver) → settles_whole c (n ∷ ns) → settles_whole (inline_resolved is_punctuation x c n).config ns
  unfolding inline_resolved
  kept_settled c n ns h = settled c n h

  -- where resolvers that change nothing are lawful, these are
  pub resolves_whole : (valid : HoldsAt M) → ResolvesAt valid resolves_nothing settles_whole → ResolvesAt valid (inline_resolved is_punctuation x) settles_whole
  resolves_whole valid r = record { well = r.well; begins = r.begins; keeps = kept_settled; ordered = r.ordered; whole = r.whole }
