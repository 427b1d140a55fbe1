use Rattle.std.proofs.Common.{◌≡◌, ◌<◌, ◌^◌, take}
use Rattle.definition_block.specs.ListItem.{number_of}
use Rattle.block_starts.proofs.list_item.number_of.Given as goal

-- the number of the digits so far, which has as many
abbrev pub invariant-loop-digit : goal.invariant-loop-digit
invariant-loop-digit l = record {
  same : l.number ≡ number_of (take l.digit-index l.digits);
  few : l.number < 10 ^ l.digit-index;
}
