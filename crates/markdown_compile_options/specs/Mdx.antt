-- Options without the constructs of MDX, which no call reads.
use Rattle.std.specs.Prelude.{◌≡◌, false}
use Rattle.markdown_options.specs.Mdx.{has_mdx}
use Rattle.markdown_compile_options.specs.declared.configuration.Options.{Options}

-- all constructs of MDX are off
abbrev pub HasNoMdx : Options → Type 0
HasNoMdx options = has_mdx options.parse.constructs ≡ false
