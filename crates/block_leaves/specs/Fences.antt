-- The fence that opens on a rest.
use Rattle.std.specs.Prelude.{Option}
use Rattle.std.specs.Option.{option_or}
use Rattle.markdown_options.specs.declared.configuration.Constructs.{Constructs}
use Rattle.definition_text.specs.Columns.{Rest}
use Rattle.definition_block.specs.CodeFenced.{Fence, fence_start}
use Rattle.definition_block.specs.MathFlow.{math_start}

-- that of code, or else that of math
abbrev pub opening_fence : Constructs → Rest → Option Fence
opening_fence on rest = option_or (fence_start on rest) (math_start on rest)
