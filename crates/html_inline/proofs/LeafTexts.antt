-- Bytes as leaves, and what these print.
use Rattle.std.proofs.Common.{◌≡◌, Bool, true, false, ℕ, List, [], ◌∷◌, ◌++◌, eqb, inl, inr, refl, sym, ap, ◌∙◌}
use Rattle.html_inline.proofs.Prelude.{append-nil, cases_Bool, CompileOptions, cond-true, Data, encode, encoded_byte, eqb-true, Escape, flat_map}
use Rattle.html_inline.proofs.Prelude.{InlineLeaf, leaf_description, leaf_html, leaf_in, leaves_bytes, line_leaf, map, PrintedPart, said_bytes, say_bytes}
use Rattle.definition_inline.specs.Inline.{LineEnd}
use Rattle.inline_rows.proofs.LineEnding.{byte_leaf}
use Rattle.definition_page.specs.Pieces.{Says}
use Rattle.html_bytes.specs.Pieces.{piece_html}

-- leaves of a byte each that print this byte
bytes_shown : (cell : Bool) (shown : InlineLeaf → List ℕ) (leaf : ℕ → InlineLeaf) → ((b : ℕ) → shown (leaf_in cell (leaf b)) ≡ encode (b ∷ []) ++ [])
    → (text : List ℕ) → flat_map shown (map (leaf_in cell) (map leaf text)) ≡ encode text
bytes_shown cell shown leaf same [] = refl
bytes_shown cell shown leaf same (b ∷ bs) =
    ap (λ s. s ++ flat_map shown (map (leaf_in cell) (map leaf bs))) (same b ∙ append-nil (encode (b ∷ [])) ∙ append-nil (encoded_byte b))
    ∙ ap (λ s. encoded_byte b ++ s) (bytes_shown cell shown leaf same bs)

-- a byte of verbatim text prints itself, a soft line break, too
line_shown : (cell : Bool) (shown : InlineLeaf → List ℕ) → ((b : ℕ) → shown (leaf_in cell (Data b)) ≡ encode (b ∷ []) ++ [])
    → shown (leaf_in cell (LineEnd 10)) ≡ encode (10 ∷ []) ++ [] → (b : ℕ) → shown (leaf_in cell (line_leaf b)) ≡ encode (b ∷ []) ++ []
line_shown cell shown byte ending b = elim (cases_Bool (eqb b 10)) [
  | inl h ↦
      ap (λ (leaf : InlineLeaf). shown (leaf_in cell leaf)) (cond-true (eqb b 10) (LineEnd 10) (Data b) h)
      ∙ ending ∙ ap (λ (n : ℕ). encode (n ∷ []) ++ []) (sym (eqb-true b 10 h))
  | inr h ↦ ap (λ (leaf : InlineLeaf). shown (leaf_in cell leaf)) (byte_leaf b h) ∙ byte b
]

module _ (cell : Bool) (options : CompileOptions) where
  pub escapes_described : (text : List ℕ) → flat_map (leaf_description options) (map (leaf_in cell) (map Escape text)) ≡ encode text
  escapes_described text = bytes_shown cell (leaf_description options) Escape (λ b. refl) text

  pub data_described : (text : List ℕ) → flat_map (leaf_description options) (map (leaf_in cell) (map Data text)) ≡ encode text
  data_described text = bytes_shown cell (leaf_description options) Data (λ b. refl) text

  pub escapes_html : (text : List ℕ) → flat_map (leaf_html options) (map (leaf_in cell) (map Escape text)) ≡ encode text
  escapes_html text = bytes_shown cell (leaf_html options) Escape (λ b. refl) text

  pub data_html : (text : List ℕ) → flat_map (leaf_html options) (map (leaf_in cell) (map Data text)) ≡ encode text
  data_html text = bytes_shown cell (leaf_html options) Data (λ b. refl) text

  -- wherever they stand
  pub data_shown : (described : Bool) (text : List ℕ) → leaves_bytes options described (map (leaf_in cell) (map Data text)) ≡ encode text
  data_shown true text = data_described text
  data_shown false text = data_html text

  -- verbatim text, too
  pub lines_shown : (described : Bool) (text : List ℕ) → leaves_bytes options described (map (leaf_in cell) (map line_leaf text)) ≡ encode text
  lines_shown true text =
      bytes_shown cell (leaf_description options) line_leaf (line_shown cell (leaf_description options) (λ b. refl) refl) text
  lines_shown false text = bytes_shown cell (leaf_html options) line_leaf (line_shown cell (leaf_html options) (λ b. refl) refl) text

-- what a text says
pub says_html : (parts : List PrintedPart) → flat_map piece_html (map Says parts) ≡ say_bytes parts
says_html [] = refl
says_html (part ∷ parts) = ap (λ s. said_bytes part ++ s) (says_html parts)
