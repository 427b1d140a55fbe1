-- Texts with blocks of math, and their HTML, which the definition computes.
use Rattle.std.specs.Prelude.{◌≡◌, true, [], ◌∷◌, ◌++◌, codes}
use Rattle.std.proofs.Common.{refl}
use Rattle.markdown_compile_options.specs.declared.configuration.Options.{Options}
use Rattle.markdown_options.specs.Defaults.{no_constructs, default_parse_options}
use Rattle.markdown_compile_options.specs.Defaults.{default_options}
use Rattle.markdown_definition.specs.Html.{html}
use Rattle.examples_block.proofs.SmallTables.{small}

abbrev on : Options
on = record default_options {
  parse = record default_parse_options {
    constructs = record no_constructs {
      block_quote = true;
      code_fenced = true;
      code_indented = true;
      heading_atx = true;
      list_item = true;
      math_flow = true;
    };
  };
}

row_0 : html small (codes "$$" ++ (10 ∷ []) ++ codes "a" ++ (10 ∷ []) ++ codes "$$") on
    ≡ codes "<pre><code class=\"language-math math-display\">a" ++ (10 ∷ []) ++ codes "</code></pre>"
row_0 = refl

row_1 : html small (codes "$$ x" ++ (10 ∷ []) ++ codes "a" ++ (10 ∷ []) ++ codes "$$") on
    ≡ codes "<pre><code class=\"language-math math-display\">a" ++ (10 ∷ []) ++ codes "</code></pre>"
row_1 = refl

row_2 : html small (codes "$$ x $" ++ (10 ∷ []) ++ codes "a") on ≡ codes "<p>$$ x $" ++ (10 ∷ []) ++ codes "a</p>"
row_2 = refl

row_3 : html small (codes "$" ++ (10 ∷ []) ++ codes "a" ++ (10 ∷ []) ++ codes "$") on ≡ codes "<p>$" ++ (10 ∷ []) ++ codes "a" ++ (10 ∷ []) ++ codes "$</p>"
row_3 = refl

row_4 : html small (codes "$$" ++ (10 ∷ []) ++ codes "a") on ≡ codes "<pre><code class=\"language-math math-display\">a" ++ (10 ∷ []) ++ codes "</code></pre>"
    ++ (10 ∷ [])
row_4 = refl

row_5 : html small (codes "$$$" ++ (10 ∷ []) ++ codes "a" ++ (10 ∷ []) ++ codes "$$" ++ (10 ∷ []) ++ codes "$$$") on
    ≡ codes "<pre><code class=\"language-math math-display\">a" ++ (10 ∷ []) ++ codes "$$" ++ (10 ∷ []) ++ codes "</code></pre>"
row_5 = refl

row_6 : html small (codes "  $$" ++ (10 ∷ []) ++ codes "  a" ++ (10 ∷ []) ++ codes " b" ++ (10 ∷ []) ++ codes "$$ " ++ (9 ∷ [])) on
    ≡ codes "<pre><code class=\"language-math math-display\">a" ++ (10 ∷ []) ++ codes "b" ++ (10 ∷ []) ++ codes "</code></pre>"
row_6 = refl

row_7 : html small (codes "    $$" ++ (10 ∷ []) ++ codes "a") on ≡ codes "<pre><code>$$" ++ (10 ∷ []) ++ codes "</code></pre>" ++ (10 ∷ []) ++ codes "<p>a</p>"
row_7 = refl

row_8 : html small (codes "b" ++ (10 ∷ []) ++ codes "$$" ++ (10 ∷ []) ++ codes "a" ++ (10 ∷ []) ++ codes "$$" ++ (10 ∷ []) ++ codes "b") on
    ≡ codes "<p>b</p>" ++ (10 ∷ []) ++ codes "<pre><code class=\"language-math math-display\">a" ++ (10 ∷ []) ++ codes "</code></pre>" ++ (10 ∷ [])
    ++ codes "<p>b</p>"
row_8 = refl

row_9 : html small (codes "> $$" ++ (10 ∷ []) ++ codes "> a" ++ (10 ∷ []) ++ codes "b") on
    ≡ codes "<blockquote>" ++ (10 ∷ []) ++ codes "<pre><code class=\"language-math math-display\">a" ++ (10 ∷ []) ++ codes "</code></pre>" ++ (10 ∷ [])
    ++ codes "</blockquote>" ++ (10 ∷ []) ++ codes "<p>b</p>"
row_9 = refl

row_10 : html small (codes "$$" ++ (10 ∷ []) ++ codes "```" ++ (10 ∷ []) ++ codes "$$") on
    ≡ codes "<pre><code class=\"language-math math-display\">```" ++ (10 ∷ []) ++ codes "</code></pre>"
row_10 = refl

row_11 : html small (codes "```" ++ (10 ∷ []) ++ codes "$$" ++ (10 ∷ []) ++ codes "```") on ≡ codes "<pre><code>$$" ++ (10 ∷ []) ++ codes "</code></pre>"
row_11 = refl
