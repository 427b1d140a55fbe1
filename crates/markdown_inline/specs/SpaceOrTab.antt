-- What is kept for the states that read spaces and tabs.
use Rattle.std.specs.Prelude.{ℕ, Bool, false, ◌^◌, ◌-◌}
use Rattle.markdown_engine.specs.Reading.{Config}

module _ {M : Type 0} where
  -- spaces and tabs belong to a string's chunks, or don't
  abbrev pub connected : Bool → Config M → Config M
  connected connect c = record c { tokenize_state = record c.tokenize_state { connect = connect } }

  abbrev pub unconnected : Config M → Config M
  unconnected = connected false

  -- at most so many columns of spaces and tabs are read
  abbrev pub with_white : ℕ → Bool → Config M → Config M
  with_white max connect c = record c { tokenize_state = record c.tokenize_state { connect = connect; size_c = max } }

  -- any number of spaces and tabs is read
  abbrev pub with_any_white : Config M → Config M
  with_any_white = with_white (2 ^ 64 - 1) false
