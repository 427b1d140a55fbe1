-- What is found of email addresses.
use Rattle.std.specs.Prelude.{◌-◌, ◌<◌, ◌≤◌, ℕ, List, ◌∷◌, ◌++◌, drop, take, length, map, slice_index}
use Rattle.definition_inline.specs.GfmAutolinkLiteral as literal
use Rattle.definition_inline.specs.GfmAutolinkLiteral.{address, with_addresses}
use Rattle.definition_inline.specs.Inline.{InlineLeaf, Data, Literal}
use Rattle.inline_leaves.specs.Leaves.{kind_view}
use Rattle.inline_literals.specs.declared.address.Address.{Address}
use Rattle.inline_literals.specs.declared.address.FoundAddress.{FoundAddress}

-- an address around an `@`
abbrev pub address_view : Address → literal.Address
address_view found = address (kind_view found.kind) found.before found.after

-- a run of text before an address, the address, and what comes after it
abbrev pub found_parts : List ℕ → FoundAddress → List InlineLeaf
found_parts text found =
    map Data (take found.start text)
    ++ Literal (kind_view found.kind) (take (found.end - found.start) (drop found.start text)) ∷ with_addresses (drop found.end text)

-- bytes around an `@` that are ASCII at both ends
pub record IsAddress (before after : List ℕ) (user host : ℕ) : Type 0 where
  pub some : 0 < user
  pub user_within : user ≤ length before
  pub host_some : 0 < host
  pub host_within : host ≤ length after
  pub first : slice_index before (length before - user) < 128
  pub last : slice_index after (host - 1) < 128

-- bytes of a text that are ASCII at both ends
pub record IsFound (text : List ℕ) (found : FoundAddress) : Type 0 where
  pub some : found.start < found.end
  pub within : found.end ≤ length text
  pub first : slice_index text found.start < 128
  pub last : slice_index text (found.end - 1) < 128
