-- The address of an autolink is an email address where no scheme begins it (CommonMark 6.5).
--
--     uri ::= letter 1*31(letter | digit | '+' | '-' | '.') ':' *byte
--     email ::= 1*email_byte '@' label *('.' label)
--
-- No byte of an email address is a colon, and a URI has one after its scheme.
use Rattle.std.specs.Prelude.{ℕ, zero, suc, ◌+◌, Bool, false, not, ◌&&◌, ◌==◌, if◌then◌else◌, List, [], slice_get, Option, None, Some}
use Rattle.std.specs.List.{list_any}
use denote.Enum.Bare.{sameb}
use Rattle.engine_events.specs.contracts.event.Kind.{the_type}
use Rattle.engine_events.specs.declared.event.Event.{Event}
use Rattle.engine_events.specs.declared.event.Kind.{Kind}
use Rattle.engine_events.specs.declared.event.Kind.TheVariants.{Enter, Exit}
use Rattle.engine_events.specs.declared.event.Name.TheVariants as names
use Rattle.engine_events.specs.Names.{same_name}
use Rattle.engine_edits.specs.Edits.{EditAt, with_edit}
use Rattle.state_edits_data.specs.Each.{around, data_part, place_at}
use Rattle.definition_text.specs.Ascii.{colon}

-- what an autolink leads to begins, or ends
abbrev pub is_address : Kind → Option Event → Bool
is_address kind None = false
is_address kind (Some e) = sameb the_type e.kind kind && same_name e.name names.AutolinkProtocol

-- it stands at an index
abbrev pub is_address_at : List Event → ℕ → Bool
is_address_at events i = is_address Enter (slice_get events i) && is_address Exit (slice_get events (i + 1))

abbrev pub has_colon : List ℕ → Bool
has_colon text = list_any (λ b. b == colon) text

module _ (bytes : List ℕ) (events : List Event) where
  -- it is an email address
  abbrev pub is_email : ℕ → Bool
  is_email i = is_address_at events i && not (has_colon (data_part bytes events i))

  -- what an index adds to the edits
  abbrev pub email_edit : ℕ → List EditAt → List EditAt
  email_edit i edits =
      if is_email i then with_edit false i 2 (around names.AutolinkEmail (place_at events i) (place_at events (i + 1))) edits else edits

  -- the edits that name email addresses, up to an index
  unfoldable pub email_edits : ℕ → List EditAt
  email_edits zero = []
  email_edits (suc i) = email_edit i (email_edits i)
