-- What the resolvers of texts and strings do: each makes its edits, if these leave whole events.
use Rattle.std.specs.Prelude.{◌≡◌, ℕ, Bool, true, false, if◌then◌else◌, List, length}
use Rattle.engine_chunks.specs.Joins.{link_all}
use Rattle.engine_states.specs.declared.resolve.Name.{Name as Resolver}
use Rattle.engine_states.specs.declared.resolve.Name.TheVariants as resolvers
use Rattle.markdown_engine.specs.declared.tokenizer.Tokenizer.{Tokenizer}
use Rattle.markdown_engine.specs.Context.{Context}
use Rattle.markdown_engine.specs.Machine.{config, read_with}
use Rattle.markdown_engine.specs.Reading.{Config}
use Rattle.markdown_engine.specs.Resolving.{Resolves, nothing_found}
use Rattle.state_edits_attention.specs.Attention.{attention_edits}
use Rattle.state_edits_data.specs.Data.{data_edits}
use Rattle.state_edits_data.specs.RawText.{span_edits}
use Rattle.state_edits_data.specs.Whitespace.{white_edits}
use Rattle.state_edits_links.specs.Autolink.{email_edits}
use Rattle.state_edits_links.specs.GfmAutolinkLiteral.{address_edits}
use Rattle.state_edits_links.specs.LabelEnd.{label_edits}
use Rattle.state_resolvers.specs.EditedEvents.{with_edited_events}

module _ {M : Type 0} where
  abbrev pub resolve_data : Config M → Config M
  resolve_data c = with_edited_events (data_edits c.events (length c.events)) c

  abbrev pub resolve_label : Config M → Config M
  resolve_label c = with_edited_events (label_edits c.events c.tokenize_state) c

  -- runs within code and math get the name of its text
  abbrev pub name_spans : Config M → Config M
  name_spans c = with_edited_events (span_edits c.events (length c.events)) c

  -- lines of data lose white space at their ends, and with `whole` the data does, too; with `hard` two spaces before a line ending break the line
  abbrev pub resolve_whitespace : Bool → Bool → List ℕ → Config M → Config M
  resolve_whitespace hard whole bytes c = with_edited_events (white_edits whole hard bytes c.events (length c.events)) c

  -- each chunk that is named as the one before another names that as the one after it
  abbrev pub join_chunks : Config M → Config M
  join_chunks c = record c { events = link_all c.events }

module _ {T M : Type 0} (is_punctuation : ℕ → Bool) (x : Context T) where
  abbrev pub resolve_attention : Config M → Config M
  resolve_attention c = with_edited_events (attention_edits is_punctuation x c.events) c

  -- email addresses in autolinks get their name
  abbrev pub name_emails : Config M → Config M
  name_emails c = with_edited_events (email_edits x.bytes c.events (length c.events)) c

  -- the names that states can't tell yet
  abbrev pub name_text : Config M → Config M
  name_text c = name_spans (name_emails c)

  -- texts lose white space at their ends, too
  abbrev pub trim_text : Config M → Config M
  trim_text c = resolve_whitespace x.options.constructs.hard_break_trailing true x.bytes c

  -- where literals are on, email addresses are found
  abbrev pub link_text : Config M → Config M
  link_text c = if x.options.constructs.gfm_autolink_literal then with_edited_events (address_edits x.bytes c.events (length c.events)) c else c

  abbrev pub resolve_text : Config M → Config M
  resolve_text c = join_chunks (link_text (trim_text (name_text c)))

  -- strings lose white space at the ends of their lines
  abbrev pub trim_string : Config M → Config M
  trim_string c = resolve_whitespace false false x.bytes c

  abbrev pub resolve_string : Config M → Config M
  resolve_string c = join_chunks (trim_string c)

  abbrev pub resolved_config : Config M → Resolver → Config M
  resolved_config c resolvers.Data = resolve_data c
  resolved_config c resolvers.Label = resolve_label c
  resolved_config c resolvers.Attention = resolve_attention c
  resolved_config c resolvers.Text = resolve_text c
  resolved_config c resolvers.String = resolve_string c
  resolved_config c n = c

  unfoldable pub inline_resolved : Resolves M
  inline_resolved c n = record { config = resolved_config c n; found = nothing_found }

-- what a tokenizer comes to is what these edits make of it, by the table of punctuation and by what it reads with
abbrev pub HasEdited : {M T A : Type 0} → (T → ℕ → Bool) → ((ℕ → Bool) → Context T → Config M → Config M) → Tokenizer M T A → Tokenizer M T A → Type 0
HasEdited punctuation_of edit old new = config new ≡ edit (punctuation_of (read_with old).tables) (read_with old) (config old)
