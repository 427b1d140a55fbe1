-- What is made of HTML, by the definition, a small table and the default options.
use Rattle.std.specs.Prelude.{ℕ, if◌then◌else◌, List, [], ◌∷◌, Option, None, Some, codes}
use Rattle.std.specs.Str.{bytes_eq}
use Rattle.markdown_compile_options.specs.Defaults.{default_compile_options}
use Rattle.definition_html.specs.Listed.{listed, sanitized}

-- the texts of some names of references
abbrev pub names : List ℕ → Option (List ℕ)
names name =
    if bytes_eq name (codes "amp") then Some (codes "&")
    else (if bytes_eq name (codes "lt") then Some (codes "<")
    else (if bytes_eq name (codes "gt") then Some (codes ">")
    else (if bytes_eq name (codes "quot") then Some (codes "\"")
    else None)))

-- any HTML
abbrev pub kept : List ℕ → List ℕ
kept html = sanitized names default_compile_options html

-- a page with raw HTML as text in elements without a name
abbrev pub page_of : List ℕ → List ℕ
page_of page = listed names default_compile_options page
