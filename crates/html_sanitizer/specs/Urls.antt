-- URLs, and texts in which a byte is printed as something else.
use Rattle.std.specs.Prelude.{ℕ, Bool, if◌then◌else◌, ◌==◌, List, [], ◌∷◌, Option}
use Rattle.std.specs.List.{flat_map}
use Rattle.std.specs.Option.{option_map}
use Rattle.definition_page.specs.InlinePieces.{permitted_url}
use Rattle.definition_page.specs.Tags.{Attribute}
use Rattle.definition_html.specs.Attributes.{if_written, url_bytes}

abbrev pub replaced_byte : ℕ → List ℕ → ℕ → List ℕ
replaced_byte c other b = if b == c then other else b ∷ []

-- a text in which a byte is replaced by another text
abbrev pub replaced : ℕ → List ℕ → List ℕ → List ℕ
replaced c other text = flat_map (replaced_byte c other) text

-- an attribute with a URL, if it is written: with one of these protocols or none, or, if all are permitted, with any
abbrev pub url_if_written : Bool → List (List ℕ) → List ℕ → Option (List ℕ) → List Attribute
url_if_written all protocols name value = if_written name (option_map (λ v. permitted_url all protocols (url_bytes v)) value)
