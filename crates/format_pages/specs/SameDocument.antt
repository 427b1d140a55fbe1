-- When two texts are the same document.
use Rattle.std.specs.Prelude.{◌≡◌, ℕ, List}
use Rattle.markdown_compile_options.specs.declared.configuration.Options.{Options}
use Rattle.markdown_definition.specs.Html.{html}
use Rattle.markdown_tables.specs.Builtin.{builtin_tables}
use Rattle.format_pages.specs.Constructs.{by_every, by_plain}
use Rattle.format_pages.specs.Calls.{calls, with_calls}
use Rattle.format_pages.specs.Front as before
use Rattle.format_pages.specs.Hidden as hidden

-- One text is the same document as another, with these options:
pub record IsSameDocument (one other : List ℕ) (options : Options) : Type 0 where
  -- who reads every construct sees no change
  pub every : html builtin_tables one (by_every options) ≡ html builtin_tables other (by_every options)
  -- nor does who reads CommonMark alone, with tables and footnotes if the options have these
  pub plain : html builtin_tables one (by_plain options) ≡ html builtin_tables other (by_plain options)
  -- the byte order mark and the frontmatter are the same, byte for byte
  pub front : before.front one ≡ before.front other
  -- the same footnotes are defined, in the same order
  pub footnotes : hidden.footnotes one ≡ hidden.footnotes other
  -- and with a call of each of them in front of both texts, who reads every construct sees no change
  pub called :
      let added = calls (hidden.footnotes other) in
      html builtin_tables (with_calls added one) (by_every options) ≡ html builtin_tables (with_calls added other) (by_every options)
  -- all link reference definitions have the same labels, destinations and titles, in the same order
  pub defined : hidden.definitions one ≡ hidden.definitions other
  -- all infos of fenced code and math are the same, in the same order
  pub infos : hidden.infos one ≡ hidden.infos other

-- and it has its page by the options, too
pub record IsSameWhole (one other : List ℕ) (options : Options) : Type 0 where
  pub page : html builtin_tables one options ≡ html builtin_tables other options
  pub document : IsSameDocument one other options
