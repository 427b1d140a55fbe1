-- What a fence stands for, and the lines that may close it.
use Rattle.std.specs.Prelude.{ℕ, Bool, ◌==◌, ◌||◌, ◌-◌, List, Option, None, Some, length, slice_index}
use Rattle.definition_text.specs.Columns.{is_white}
use Rattle.definition_block.specs.CodeFenced.{Fence}
use Rattle.block_starts.specs.declared.code_fenced.Fence.{Fence as CodeFence}

abbrev pub fence_view : CodeFence → Fence
fence_view f = record { byte = f.byte; run = f.run; indent = f.indent; info = f.info.now }

abbrev pub fence_if : Option CodeFence → Option Fence
fence_if None = None
fence_if (Some f) = Some (fence_view f)

-- a line that closes a fence of this byte is empty, or ends in the byte or in white space
abbrev pub may_close : ℕ → List ℕ → Bool
may_close byte content = (length content == 0) || (let last = slice_index content (length content - 1) in (last == byte) || is_white last)
