-- Email addresses among data outside links (GFM 6.9).
use Rattle.std.specs.Prelude.{ℕ, zero, suc, ◌+◌, ◌-◌, Bool, false, ◌==◌, ◌&&◌, ◌||◌, if◌then◌else◌, nat_lt, List, [], ◌∷◌, ◌++◌, codes, length, slice_get}
use Rattle.std.specs.Prelude.{Option, None, Some}
use Rattle.std.specs.List.{fold, list_any}
use denote.Enum.Bare.{sameb}
use Rattle.definition_text.specs.Ascii.{at_sign}
use Rattle.definition_text.specs.Bytes.{begins_with}
use Rattle.definition_inline.specs.Inline.{InlineLeaf, Data, Email, Literal, LiteralKind}
use Rattle.definition_inline.specs.GfmAutolinkLiteral.{with_addresses}
use Rattle.engine_events.specs.contracts.event.Kind.{the_type}
use Rattle.engine_events.specs.declared.event.Event.{Event}
use Rattle.engine_events.specs.declared.event.Kind.{Kind}
use Rattle.engine_events.specs.declared.event.Kind.TheVariants.{Enter, Exit}
use Rattle.engine_events.specs.declared.event.Name.{Name}
use Rattle.engine_events.specs.declared.event.Name.TheVariants as names
use Rattle.engine_events.specs.declared.place.Point.{Point}
use Rattle.engine_events.specs.Names.{same_name}
use Rattle.engine_edits.specs.Edits.{EditAt, with_edit}
use Rattle.state_edits_data.specs.Data.{is_data}
use Rattle.state_edits_data.specs.Each.{around, around_if, data_part, later, place_at, place_past}

-- the name of an address, by what it begins with
abbrev pub address_name : LiteralKind → List ℕ → Name
address_name Email text = names.GfmAutolinkLiteralEmail
address_name kind text = if begins_with (codes "mailto:") text then names.GfmAutolinkLiteralMailto else names.GfmAutolinkLiteralXmpp

-- events in place of data, where they end, and the bytes from there on that are data
pub record Linking : Type 0 where
  pub events : List Event
  pub point : Point
  pub run : List ℕ

abbrev pub linking : List Event → Point → List ℕ → Linking
linking events point run = record { events = events; point = point; run = run }

-- the bytes become data
abbrev pub with_data : Linking → Linking
with_data l =
    let end = place_past l.point l.run in
    linking (l.events ++ around_if (nat_lt 0 (length l.run)) names.Data l.point end) end []

-- an address comes next
abbrev pub with_address : LiteralKind → List ℕ → Linking → Linking
with_address kind text l =
    let end = place_past l.point text in
    linking (l.events ++ around (address_name kind text) l.point end) end []

abbrev pub with_part : Linking → InlineLeaf → Linking
with_part l (Data b) = linking l.events l.point (l.run ++ b ∷ [])
with_part l (Literal kind text) = with_address kind text (with_data l)
with_part l i = l

-- what becomes of so much of data, and the text after it
abbrev pub with_links : Linking → List ℕ → Linking
with_links l run = with_data (fold with_part l (with_addresses run))

-- the events in place of data at a place
abbrev pub address_events : Point → List ℕ → List Event
address_events p run = (with_links (linking [] p []) run).events

-- a link, or a call, begins or ends
abbrev pub is_link : Kind → Option Event → Bool
is_link kind None = false
is_link kind (Some e) = sameb the_type e.kind kind && (same_name e.name names.Link || same_name e.name names.GfmFootnoteCall)

-- how many are open after an event
abbrev pub links_after : Option Event → ℕ → ℕ
links_after e links = if is_link Enter e then later 1 links else (if is_link Exit e then links - 1 else links)

module _ (events : List Event) where
  -- how many links are open before an index
  unfoldable pub links_before : ℕ → ℕ
  links_before zero = 0
  links_before (suc i) = links_after (slice_get events i) (links_before i)

  -- data stands at an index
  abbrev pub is_data_at : ℕ → Bool
  is_data_at i = is_data Enter (slice_get events i) && is_data Exit (slice_get events (i + 1))

module _ (bytes : List ℕ) (events : List Event) where
  -- data with an `@` stands at an index
  abbrev pub may_link : ℕ → Bool
  may_link i = is_data_at events i && list_any (λ b. b == at_sign) (data_part bytes events i)

  -- what an index adds to the edits, in so many links
  abbrev pub address_edit : ℕ → ℕ → List EditAt → List EditAt
  address_edit links i edits =
      if (links == 0) && may_link i then with_edit false i 2 (address_events (place_at events i) (data_part bytes events i)) edits else edits

  -- the edits of email addresses, up to an index
  unfoldable pub address_edits : ℕ → List EditAt
  address_edits zero = []
  address_edits (suc i) = address_edit (links_before events i) i (address_edits i)
