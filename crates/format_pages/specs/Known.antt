-- What is known of a text that others are compared with.
use Rattle.std.specs.Prelude.{◌≡◌, ℕ, List, [], Option, None, Some, IfSome, String, string_bytes}
use Rattle.markdown_compile_options.specs.declared.configuration.Options.{Options}
use Rattle.markdown_definition.specs.Html.{html}
use Rattle.markdown_tables.specs.Builtin.{builtin_tables}
use Rattle.format_pages.specs.Constructs.{by_every, by_plain}
use Rattle.format_pages.specs.Front as before
use Rattle.format_pages.specs.Hidden.{HasHidden, footnotes, text_rows}
use Rattle.format_pages.specs.Calls.{calls, with_calls}
use Rattle.format_pages.specs.SameDocument.{IsSameWhole}
use Rattle.format_pages.specs.declared.known.Known.{Known}

-- a text with these calls has this page, if there is one; otherwise there are no calls
abbrev pub HasCalled : {A : Type 0} → Option (String A) → List ℕ → List ℕ → Options → Type 0
HasCalled None calls text options = calls ≡ []
HasCalled (Some page) calls text options = string_bytes page ≡ html builtin_tables (with_calls calls text) (by_every options)

-- a text has these pages
pub record HasPages (known : Known) (text : List ℕ) (options : Options) : Type 0 where
  pub page : html builtin_tables text options ≡ string_bytes known.page
  pub every : html builtin_tables text (by_every options) ≡ string_bytes known.every
  pub plain : html builtin_tables text (by_plain options) ≡ string_bytes known.plain

-- what is known of a text: its frontmatter, its pages, and what these may not show
pub record IsKnown (known : Known) (text : List ℕ) (options : Options) : Type 0 where
  pub front : known.front.items ≡ before.front text
  pub page : string_bytes known.page ≡ html builtin_tables text options
  pub every : string_bytes known.every ≡ html builtin_tables text (by_every options)
  pub plain : string_bytes known.plain ≡ html builtin_tables text (by_plain options)
  pub hidden : HasHidden known.hidden (text_rows text)
  pub calls : string_bytes known.calls ≡ calls (footnotes text)
  pub called : IfSome known.called (λ it. string_bytes it ≡ html builtin_tables (with_calls (string_bytes known.calls) text) (by_every options))

-- a text was found to be the same document as whatever text this is known of
abbrev pub IsKept : Known → List ℕ → Options → Type 0
IsKept known text options = (other : List ℕ) → IsKnown known other options → IsSameWhole text other options
