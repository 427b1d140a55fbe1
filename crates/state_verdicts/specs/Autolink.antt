-- What the states of an autolink come to (CommonMark 6.5).
--
--     autolink ::= '<' (uri | email) '>'
--     uri ::= letter 1*31(letter | digit | '+' | '-' | '.') ':' *byte, of which none is a control character, a space, '<' or '>'
--     email ::= 1*email_byte '@' label *('.' label)
--     label ::= 1 to 63 letters, digits and '-', with no '-' at either end
use Rattle.std.specs.Prelude.{◌≡◌, ℕ, true, false, List, [], ◌∷◌, drop, Option, None, Some}
use Rattle.std.specs.List.{list_all}
use Rattle.definition_text.specs.Ascii.{greater_than, less_than}
use Rattle.definition_inline.specs.Autolink.{autolink_at}
use Rattle.definition_inline.specs.Inline.{Found}
use Rattle.engine_events.specs.Events.{event}
use Rattle.engine_events.specs.declared.event.Event.{Event}
use Rattle.engine_events.specs.declared.event.Kind.TheVariants.{Enter, Exit}
use Rattle.engine_events.specs.declared.event.Name.TheVariants as names
use Rattle.engine_events.specs.declared.place.Point.{Point}
use Rattle.engine_states.specs.declared.state.Inline.TheVariants as state_inline
use Rattle.markdown_engine.specs.Reading.{Config}
use Rattle.markdown_engine.specs.VirtualText.{Text, as_byte}
use Rattle.state_inline.specs.declared.inlines.Inlines.{Inlines}
use Rattle.state_verdicts.specs.Codes.{Sees, is_code}
use Rattle.state_verdicts.specs.Beginnings.{Beginning, AtByte, BeforeByte, AreSeen, ComesNext, all_codes, at_hand, attempt, choice}
use Rattle.state_verdicts.specs.RawText.{piece}
use Rattle.state_verdicts.specs.Verdicts.{Comes, Leaves}

-- the events of an autolink: its `<` is from p to q, what it leads to goes on from there to a third place, and its `>` from there to the end
abbrev pub autolink_events : Point → Point → Point → Point → List Event
autolink_events p q to end =
    event Enter names.Autolink p None ∷ piece names.AutolinkMarker p q (piece names.AutolinkProtocol q to
    (piece names.AutolinkMarker to end (event Exit names.Autolink end None ∷ [])))

-- the attempt fails where there is no autolink; otherwise it goes well, with the autolink's events, up to where what it leaves of the codes is seen
abbrev pub AddressVerdict : Text → Comes → Config Inlines → Point → Point → List ℕ → Option Found → Type 0
AddressVerdict text comes c p q codes None = (d : Config Inlines) × comes d false
AddressVerdict text comes c p q codes (Some leaf) =
    (d : Config Inlines) × (size : ℕ) × (to : Point) × (end : Point) × comes d true × (text.byte (text.start to) ≡ Some (as_byte greater_than end))
    × Leaves c d (record c.tokenize_state { size = size }) (autolink_events p q (text.start to) end) end × Sees text end (drop leaf.size codes)

-- an attempt there reads an autolink exactly where the definition has one
abbrev pub ReadsAutolink : {T : Type 0} → Beginning T → Comes → Type 0
ReadsAutolink here comes =
    AddressVerdict here.text comes (at_hand here) here.place here.after (all_codes here) (autolink_at here.context.options.constructs (all_codes here))

-- at a `<`, after which these codes are seen, an autolink is read exactly where the definition has one
abbrev pub AutolinkVerdict : Type 0 → Type 0
AutolinkVerdict T =
    AtByte T less_than (λ here. list_all is_code here.rest ≡ true → AreSeen here → ReadsAutolink here (attempt here state_inline.AutolinkStart))

-- before a part of a text that begins so, reading goes on after an autolink exactly where the definition has one, and otherwise with HTML
abbrev pub AutolinkChoice : Type 0 → Type 0
AutolinkChoice T = BeforeByte T less_than (λ here. list_all is_code here.rest ≡ true → ComesNext here → AreSeen here
    → ReadsAutolink here (choice here state_inline.TextBefore state_inline.TextBeforeHtml))
