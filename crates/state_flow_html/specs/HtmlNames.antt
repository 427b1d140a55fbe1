-- Names that tell the kind of an HTML block.
use Rattle.std.specs.Prelude.{ℕ, ◌-◌, ◌==◌, ◌||◌, Bool, not, nat_lt, if◌then◌else◌, List, [], take, drop, length, slice_get, codes}
use Rattle.definition_block.specs.HtmlNames.{is_one_of, raw_names, block_names}
use Rattle.engine_programs.specs.Bodies.{has}
use Rattle.markdown_engine.specs.Reading.{Config}

-- the kinds of HTML blocks, in the order of CommonMark 4.6
abbrev pub kind_raw : ℕ
kind_raw = 1

abbrev pub kind_comment : ℕ
kind_comment = 2

abbrev pub kind_instruction : ℕ
kind_instruction = 3

abbrev pub kind_declaration : ℕ
kind_declaration = 4

abbrev pub kind_cdata : ℕ
kind_cdata = 5

abbrev pub kind_basic : ℕ
kind_basic = 6

abbrev pub kind_complete : ℕ
kind_complete = 7

-- a byte stands at an index of `CDATA[`
abbrev pub is_cdata : ℕ → ℕ → Bool
is_cdata index byte = has (λ b. b == byte) (slice_get (codes "CDATA[") index)

module _ {M : Type 0} where
  -- a block of this kind ends before a blank line
  abbrev pub ends_before_blank : Config M → Bool
  ends_before_blank c = not (nat_lt c.tokenize_state.marker kind_basic)

  -- the bytes from `start` on
  abbrev pub name_so_far : List ℕ → Config M → List ℕ
  name_so_far bytes c = if nat_lt c.point.index c.tokenize_state.start || nat_lt (length bytes) c.point.index then []
      else take (c.point.index - c.tokenize_state.start) (drop c.tokenize_state.start bytes)

  abbrev pub is_raw_name : List ℕ → Config M → Bool
  is_raw_name bytes c = is_one_of raw_names (name_so_far bytes c)

  abbrev pub is_block_name : List ℕ → Config M → Bool
  is_block_name bytes c = is_one_of block_names (name_so_far bytes c)

  -- a name of kind 1 has at most 8 bytes: one more may belong to it
  abbrev pub is_short_name : Config M → Bool
  is_short_name c = nat_lt (c.point.index - c.tokenize_state.start) 8
