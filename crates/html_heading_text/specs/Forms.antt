-- How a text is printed.
use Rattle.std.specs.Prelude.{ℕ, List, [], ◌∷◌}
use Rattle.std.specs.List.{flat_map}
use Rattle.definition_text.specs.Encode.{encoded_byte, plain_byte}
use Rattle.html_heading_text.specs.declared.form.Form.{Form}
use Rattle.html_heading_text.specs.declared.form.Form.TheVariants.{Bytes, Plain, Encoded}

abbrev pub form_byte : Form → ℕ → List ℕ
form_byte Bytes b = b ∷ []
form_byte Plain b = plain_byte b
form_byte Encoded b = encoded_byte b

abbrev pub form_bytes : Form → List ℕ → List ℕ
form_bytes form text = flat_map (form_byte form) text
