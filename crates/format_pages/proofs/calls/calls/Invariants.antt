use Rattle.std.proofs.Common.{◌≡◌, map, string_bytes, take}
use Rattle.std.specs.List.{flat_map}
use Rattle.format_pages.specs.Calls.{call}
use Rattle.format_pages.proofs.calls.calls.Given as goal

-- the calls of the labels so far are there
abbrev pub invariant-loop-label : goal.invariant-loop-label
invariant-loop-label l = string_bytes l.calls ≡ flat_map call (map string_bytes (take l.label-index l.labels))
