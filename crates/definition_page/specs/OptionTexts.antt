-- Texts of the options.
use Rattle.std.specs.Prelude.{ℕ, List, Option, None, Some, String, string_bytes}

-- a text of the options, or this one
abbrev pub text_or : {A : Type 0} → Option (String A) → List ℕ → List ℕ
text_or None default = default
text_or (Some text) default = string_bytes text
