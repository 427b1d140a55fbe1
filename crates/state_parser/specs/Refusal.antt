-- Why a text has no events by the machines.
use Rattle.std.specs.Prelude.{◌≡◌, codes, None, ◌⊎◌}
use Rattle.markdown_options.specs.declared.message.Message.{Message}
use Rattle.markdown_options.specs.Messages.{IsOutOfMemory}

-- what was read couldn't be put together
abbrev pub IsUnreadable : Message → Type 0
IsUnreadable message =
    (message.reason.now ≡ codes "Events that can't be read")
    × (message.rule_id.now ≡ codes "events")
    × (message.source.now ≡ codes "markdown")
    × (message.place ≡ None)

abbrev pub IsRefusal : Message → Type 0
IsRefusal message = IsOutOfMemory message ⊎ IsUnreadable message
