-- Which message a call answers, and how messages are printed.
use Rattle.std.specs.Prelude.{◌≡◌, ℕ, List, [], ◌++◌, codes, Option, Some, None}
use Rattle.markdown_options.specs.Places.{point_text, position_text}
use Rattle.markdown_options.specs.declared.message.Message.{Message}
use Rattle.markdown_options.specs.declared.message.Place.{Place}
use Rattle.markdown_options.specs.declared.message.Place.TheVariants.{Position, Point}

-- memory was refused
abbrev pub IsOutOfMemory : Message → Type 0
IsOutOfMemory message =
    (message.reason.now ≡ codes "Out of memory")
    × (message.rule_id.now ≡ codes "memory")
    × (message.source.now ≡ codes "markdown")
    × (message.place ≡ None)

-- `line:column-line:column` or `line:column`
abbrev pub place_text : Place → List ℕ
place_text (Position position) = position_text position
place_text (Point point) = point_text point

-- a place and `: `, or nothing where there is none
abbrev pub place_prefix : Option Place → List ℕ
place_prefix None = []
place_prefix (Some place) = place_text place ++ codes ": "

-- the place, the reason, the source and the rule
abbrev pub message_text : Message → List ℕ
message_text message =
    place_prefix message.place ++ message.reason.now
    ++ codes " (" ++ message.source.now ++ codes ":" ++ message.rule_id.now ++ codes ")"
