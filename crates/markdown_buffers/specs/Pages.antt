-- What a call for a page leaves in the caller's buffer.
use Rattle.std.specs.Prelude.{◌≡◌, ◌≤◌, ◌<◌, ◌↔◌, ◌++◌, ℕ, List, length, drop}
use Rattle.markdown_compile_options.specs.declared.configuration.Options.{Options}
use Rattle.markdown_definition.specs.Html.{html}
use Rattle.markdown_tables.specs.Builtin.{builtin_tables}

-- a buffer begins with a page, and goes on as it was
abbrev pub HoldsPage : List ℕ → List ℕ → List ℕ → Type 0
HoldsPage page old new = new ≡ page ++ drop (length page) old

-- something holds of the page of a text, by the options that are meant
pub record OfPage (Meant : Options → Type 0) (text : List ℕ) (P : List ℕ → Type 0) : Type 0 where
  pub options : Options
  pub meant : Meant options
  pub holds : P (html builtin_tables text options)

-- with the status 0 the buffer begins with the page; with any other it is unchanged. With 0 and 1 the size of the page is stored, otherwise 0
pub record StoresPage (Meant : Options → Type 0) (text old new : List ℕ) (size status : ℕ) : Type 0 where
  pub ok : status ≡ 0 → OfPage Meant text (λ page. HoldsPage page old new)
  pub unchanged : ¬ (status ≡ 0) → new ≡ old
  pub stored : status ≤ 1 → OfPage Meant text (λ page. size ≡ length page)
  pub room : status ≤ 1 → ((status ≡ 0) ↔ (size ≤ length old))
  pub none : 1 < status → size ≡ 0
