-- What events of raw blocks are, by their names.
use Rattle.std.proofs.Common.{◌≡◌, ◌<◌, ℕ, true, false, List, [], ◌∷◌, ◌++◌, refl, ap, ◌∙◌, get_or}
use Rattle.compile_raw.proofs.Prelude.{append-nil, Chunk, CompileOptions, html_of, Name, Node, raw_lines, raw_part, same_name, text_of}
use Rattle.engine_events.specs.declared.event.Name.TheVariants as n
use Rattle.definition_text.specs.Columns.{bytes_of}
use Rattle.html_bytes.specs.RawHtml.{raw_bytes}
use Rattle.text_pieces.proofs.Pieces.{only_bytes}

module _ (bytes : List ℕ) (node : Node) where
  -- data of HTML
  pub html_part : (name : Name) → same_name name n.HtmlFlowData ≡ true → raw_part bytes name node ≡ Chunk (text_of bytes node) ∷ []
  html_part n.HtmlFlowData h = refl
  html_part name h = let wrong : false ≡ true = h in cc

-- ---- HTML

pub chunk_html : (options : CompileOptions) (text : List ℕ) → ((k : ℕ) → get_or text k 0 < 256)
    → html_of options (raw_lines (Chunk text ∷ [])) ≡ raw_bytes false options text
chunk_html options text bytes =
    append-nil (raw_bytes false options (bytes_of text) ++ []) ∙ append-nil (raw_bytes false options (bytes_of text))
    ∙ ap (raw_bytes false options) (only_bytes text bytes)
