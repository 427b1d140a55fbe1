-- Runs of one byte at the front of a text, which is of bytes or codes.
use Rattle.std.specs.Prelude.{ℕ, Bool, ◌==◌, ◌&&◌, leb, List, drop}
use Rattle.std.specs.List.{prefix_len, list_all}
use Rattle.definition_text.specs.Columns.{is_white}

-- how many of this byte a text begins with
abbrev pub run : ℕ → List ℕ → ℕ
run byte text = prefix_len (λ b. b == byte) text

abbrev pub after_run : ℕ → List ℕ → List ℕ
after_run byte text = drop (run byte text) text

-- at least this many of the byte, then only spaces and tabs
abbrev pub is_run : ℕ → ℕ → List ℕ → Bool
is_run least byte text = leb least (run byte text) && list_all is_white (after_run byte text)
