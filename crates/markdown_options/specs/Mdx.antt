-- The constructs of MDX, which no call reads.
use Rattle.std.specs.Prelude.{Bool, ◌||◌}
use Rattle.markdown_options.specs.declared.configuration.Constructs.{Constructs}

-- some of the constructs of MDX are on
abbrev pub has_mdx : Constructs → Bool
has_mdx on =
    on.mdx_esm || on.mdx_expression_flow || on.mdx_expression_text || on.mdx_jsx_flow
    || on.mdx_jsx_text
