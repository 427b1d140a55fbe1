-- Texts and their HTML, which the definition computes.
use Rattle.std.specs.Prelude.{◌≡◌, true, [], ◌∷◌, ◌++◌, codes}
use Rattle.std.proofs.Common.{refl}
use Rattle.markdown_compile_options.specs.declared.configuration.Options.{Options}
use Rattle.markdown_options.specs.Defaults.{no_constructs, default_parse_options}
use Rattle.markdown_compile_options.specs.Defaults.{default_options}
use Rattle.markdown_definition.specs.Html.{html}
use Rattle.examples_block.proofs.SmallTables.{small}

abbrev on : Options
on = record default_options {
  parse = record default_parse_options {
    constructs = record no_constructs {
      block_quote = true;
      code_indented = true;
      code_fenced = true;
      heading_atx = true;
      list_item = true;
      thematic_break = true;
    };
  };
}

row_0 : html small (codes "> a" ++ (10 ∷ []) ++ codes "b") on ≡ codes "<blockquote>" ++ (10 ∷ []) ++ codes "<p>a" ++ (10 ∷ []) ++ codes "b</p>" ++ (10 ∷ [])
    ++ codes "</blockquote>"
row_0 = refl

row_1 : html small (codes "> - a" ++ (10 ∷ []) ++ codes "> - b") on ≡ codes "<blockquote>" ++ (10 ∷ []) ++ codes "<ul>" ++ (10 ∷ []) ++ codes "<li>a</li>"
    ++ (10 ∷ []) ++ codes "<li>b</li>" ++ (10 ∷ []) ++ codes "</ul>" ++ (10 ∷ []) ++ codes "</blockquote>"
row_1 = refl

row_2 : html small (codes "- a" ++ (10 ∷ []) ++ (10 ∷ []) ++ codes "  b" ++ (10 ∷ []) ++ codes "- c") on
    ≡ codes "<ul>" ++ (10 ∷ []) ++ codes "<li>" ++ (10 ∷ []) ++ codes "<p>a</p>" ++ (10 ∷ []) ++ codes "<p>b</p>" ++ (10 ∷ []) ++ codes "</li>" ++ (10 ∷ [])
    ++ codes "<li>" ++ (10 ∷ []) ++ codes "<p>c</p>" ++ (10 ∷ []) ++ codes "</li>" ++ (10 ∷ []) ++ codes "</ul>"
row_2 = refl

row_3 : html small (codes "* a" ++ (10 ∷ []) ++ codes "*" ++ (10 ∷ []) ++ (10 ∷ []) ++ codes "* c") on
    ≡ codes "<ul>" ++ (10 ∷ []) ++ codes "<li>" ++ (10 ∷ []) ++ codes "<p>a</p>" ++ (10 ∷ []) ++ codes "</li>" ++ (10 ∷ []) ++ codes "<li></li>" ++ (10 ∷ [])
    ++ codes "<li>" ++ (10 ∷ []) ++ codes "<p>c</p>" ++ (10 ∷ []) ++ codes "</li>" ++ (10 ∷ []) ++ codes "</ul>"
row_3 = refl

row_4 : html small (codes "-" ++ (10 ∷ []) ++ codes "- a") on ≡ codes "<ul>" ++ (10 ∷ []) ++ codes "<li></li>" ++ (10 ∷ []) ++ codes "<li>a</li>" ++ (10 ∷ [])
    ++ codes "</ul>"
row_4 = refl

row_5 : html small (codes "- a" ++ (13 ∷ []) ++ (10 ∷ []) ++ codes "  # b" ++ (13 ∷ []) ++ (10 ∷ [])) on
    ≡ codes "<ul>" ++ (13 ∷ []) ++ (10 ∷ []) ++ codes "<li>a" ++ (13 ∷ []) ++ (10 ∷ []) ++ codes "<h1>b</h1>" ++ (13 ∷ []) ++ (10 ∷ []) ++ codes "</li>"
    ++ (13 ∷ []) ++ (10 ∷ []) ++ codes "</ul>" ++ (13 ∷ []) ++ (10 ∷ [])
row_5 = refl

row_6 : html small (codes "a" ++ (13 ∷ []) ++ (10 ∷ []) ++ (13 ∷ []) ++ (10 ∷ []) ++ codes "> b") on
    ≡ codes "<p>a</p>" ++ (13 ∷ []) ++ (10 ∷ []) ++ codes "<blockquote>" ++ (13 ∷ []) ++ (10 ∷ []) ++ codes "<p>b</p>" ++ (13 ∷ []) ++ (10 ∷ [])
    ++ codes "</blockquote>"
row_6 = refl

row_7 : html small (codes "> ```" ++ (10 ∷ []) ++ codes "> a" ++ (10 ∷ []) ++ codes "b") on
    ≡ codes "<blockquote>" ++ (10 ∷ []) ++ codes "<pre><code>a" ++ (10 ∷ []) ++ codes "</code></pre>" ++ (10 ∷ []) ++ codes "</blockquote>" ++ (10 ∷ [])
    ++ codes "<p>b</p>"
row_7 = refl

row_8 : html small (codes "```x y" ++ (10 ∷ []) ++ codes "a" ++ (10 ∷ [])) on
    ≡ codes "<pre><code class=\"language-x\">a" ++ (10 ∷ []) ++ codes "</code></pre>" ++ (10 ∷ [])
row_8 = refl

row_9 : html small (codes "```" ++ (10 ∷ []) ++ codes "a") on ≡ codes "<pre><code>a" ++ (10 ∷ []) ++ codes "</code></pre>" ++ (10 ∷ [])
row_9 = refl

row_10 : html small (codes "> ```" ++ (10 ∷ []) ++ codes "> a") on ≡ codes "<blockquote>" ++ (10 ∷ []) ++ codes "<pre><code>a" ++ (10 ∷ [])
    ++ codes "</code></pre>" ++ (10 ∷ []) ++ codes "</blockquote>"
row_10 = refl

row_11 : html small (codes "    a" ++ (10 ∷ []) ++ (10 ∷ []) ++ codes "    b" ++ (10 ∷ []) ++ (10 ∷ [])) on
    ≡ codes "<pre><code>a" ++ (10 ∷ []) ++ (10 ∷ []) ++ codes "b" ++ (10 ∷ []) ++ codes "</code></pre>" ++ (10 ∷ [])
row_11 = refl

row_12 : html small (codes "- a" ++ (10 ∷ []) ++ codes "  > b" ++ (10 ∷ []) ++ codes "  ```" ++ (10 ∷ []) ++ codes "  c" ++ (10 ∷ [])) on
    ≡ codes "<ul>" ++ (10 ∷ []) ++ codes "<li>a" ++ (10 ∷ []) ++ codes "<blockquote>" ++ (10 ∷ []) ++ codes "<p>b</p>" ++ (10 ∷ []) ++ codes "</blockquote>"
    ++ (10 ∷ []) ++ codes "<pre><code>c" ++ (10 ∷ []) ++ codes "</code></pre>" ++ (10 ∷ []) ++ codes "</li>" ++ (10 ∷ []) ++ codes "</ul>" ++ (10 ∷ [])
row_12 = refl

row_13 : html small (codes "* * *" ++ (10 ∷ []) ++ codes "***") on ≡ codes "<hr />" ++ (10 ∷ []) ++ codes "<hr />"
row_13 = refl

row_14 : html small (codes "###### x ##" ++ (10 ∷ []) ++ codes "# #") on ≡ codes "<h6>x</h6>" ++ (10 ∷ []) ++ codes "<h1></h1>"
row_14 = refl

row_15 : html small (codes "> a" ++ (10 ∷ []) ++ codes ">" ++ (10 ∷ []) ++ (10 ∷ []) ++ codes "- b" ++ (10 ∷ []) ++ (10 ∷ []) ++ (10 ∷ []) ++ codes "- c") on
    ≡ codes "<blockquote>" ++ (10 ∷ []) ++ codes "<p>a</p>" ++ (10 ∷ []) ++ codes "</blockquote>" ++ (10 ∷ []) ++ codes "<ul>" ++ (10 ∷ []) ++ codes "<li>"
    ++ (10 ∷ []) ++ codes "<p>b</p>" ++ (10 ∷ []) ++ codes "</li>" ++ (10 ∷ []) ++ codes "<li>" ++ (10 ∷ []) ++ codes "<p>c</p>" ++ (10 ∷ []) ++ codes "</li>"
    ++ (10 ∷ []) ++ codes "</ul>"
row_15 = refl

row_16 : html small ((9 ∷ []) ++ (9 ∷ []) ++ codes "a" ++ (10 ∷ []) ++ codes " > x") on
    ≡ codes "<pre><code>" ++ (9 ∷ []) ++ codes "a" ++ (10 ∷ []) ++ codes "</code></pre>" ++ (10 ∷ []) ++ codes "<blockquote>" ++ (10 ∷ []) ++ codes "<p>x</p>"
    ++ (10 ∷ []) ++ codes "</blockquote>"
row_16 = refl

row_17 : html small (codes "- a" ++ (10 ∷ []) ++ codes " - b" ++ (10 ∷ []) ++ codes "  - c" ++ (10 ∷ []) ++ codes "   - d" ++ (10 ∷ []) ++ codes "    - e") on
    ≡ codes "<ul>" ++ (10 ∷ []) ++ codes "<li>a</li>" ++ (10 ∷ []) ++ codes "<li>b</li>" ++ (10 ∷ []) ++ codes "<li>c</li>" ++ (10 ∷ []) ++ codes "<li>d"
    ++ (10 ∷ []) ++ codes "- e</li>" ++ (10 ∷ []) ++ codes "</ul>"
row_17 = refl

row_18 : html small (codes "1. a" ++ (10 ∷ []) ++ (10 ∷ []) ++ (10 ∷ []) ++ codes "   b") on
    ≡ codes "<ol>" ++ (10 ∷ []) ++ codes "<li>" ++ (10 ∷ []) ++ codes "<p>a</p>" ++ (10 ∷ []) ++ codes "<p>b</p>" ++ (10 ∷ []) ++ codes "</li>" ++ (10 ∷ [])
    ++ codes "</ol>"
row_18 = refl

row_19 : html small (codes "> > a" ++ (10 ∷ []) ++ codes ">" ++ (10 ∷ []) ++ codes "> b") on
    ≡ codes "<blockquote>" ++ (10 ∷ []) ++ codes "<blockquote>" ++ (10 ∷ []) ++ codes "<p>a</p>" ++ (10 ∷ []) ++ codes "</blockquote>" ++ (10 ∷ [])
    ++ codes "<p>b</p>" ++ (10 ∷ []) ++ codes "</blockquote>"
row_19 = refl

row_20 : html small (codes "- > a" ++ (10 ∷ []) ++ codes "  >" ++ (10 ∷ []) ++ codes "- b") on
    ≡ codes "<ul>" ++ (10 ∷ []) ++ codes "<li>" ++ (10 ∷ []) ++ codes "<blockquote>" ++ (10 ∷ []) ++ codes "<p>a</p>" ++ (10 ∷ []) ++ codes "</blockquote>"
    ++ (10 ∷ []) ++ codes "</li>" ++ (10 ∷ []) ++ codes "<li>b</li>" ++ (10 ∷ []) ++ codes "</ul>"
row_20 = refl

row_21 : html small (codes "  ```" ++ (10 ∷ []) ++ (9 ∷ []) ++ codes "foo" ++ (10 ∷ []) ++ codes "  ```") on
    ≡ codes "<pre><code>  foo" ++ (10 ∷ []) ++ codes "</code></pre>"
row_21 = refl

row_22 : html small (codes "``` a`b" ++ (10 ∷ [])) on ≡ codes "<p>``` a`b</p>" ++ (10 ∷ [])
row_22 = refl

row_23 : html small (codes "-" ++ (10 ∷ []) ++ (10 ∷ []) ++ codes "  a") on
    ≡ codes "<ul>" ++ (10 ∷ []) ++ codes "<li></li>" ++ (10 ∷ []) ++ codes "</ul>" ++ (10 ∷ []) ++ codes "<p>a</p>"
row_23 = refl

row_24 : html small ([]) on ≡ []
row_24 = refl

row_25 : html small ((10 ∷ [])) on ≡ []
row_25 = refl

row_26 : html small (codes "- ```" ++ (10 ∷ []) ++ (10 ∷ []) ++ codes "- b") on
    ≡ codes "<ul>" ++ (10 ∷ []) ++ codes "<li>" ++ (10 ∷ []) ++ codes "<pre><code>" ++ (10 ∷ []) ++ codes "</code></pre>" ++ (10 ∷ []) ++ codes "</li>"
    ++ (10 ∷ []) ++ codes "<li>b</li>" ++ (10 ∷ []) ++ codes "</ul>"
row_26 = refl

row_27 : html small (codes ">     a" ++ (10 ∷ []) ++ codes "    b") on ≡ codes "<blockquote>" ++ (10 ∷ []) ++ codes "<pre><code>a" ++ (10 ∷ [])
    ++ codes "</code></pre>" ++ (10 ∷ []) ++ codes "</blockquote>" ++ (10 ∷ []) ++ codes "<pre><code>b" ++ (10 ∷ []) ++ codes "</code></pre>"
row_27 = refl

row_28 : html small (codes "1) a" ++ (10 ∷ []) ++ (10 ∷ []) ++ codes "11) b") on
    ≡ codes "<ol>" ++ (10 ∷ []) ++ codes "<li>" ++ (10 ∷ []) ++ codes "<p>a</p>" ++ (10 ∷ []) ++ codes "</li>" ++ (10 ∷ []) ++ codes "<li>" ++ (10 ∷ [])
    ++ codes "<p>b</p>" ++ (10 ∷ []) ++ codes "</li>" ++ (10 ∷ []) ++ codes "</ol>"
row_28 = refl

row_29 : html small (codes "- # a" ++ (10 ∷ []) ++ codes "- b" ++ (10 ∷ []) ++ (10 ∷ []) ++ (10 ∷ []) ++ codes "c") on
    ≡ codes "<ul>" ++ (10 ∷ []) ++ codes "<li>" ++ (10 ∷ []) ++ codes "<h1>a</h1>" ++ (10 ∷ []) ++ codes "</li>" ++ (10 ∷ []) ++ codes "<li>b</li>" ++ (10 ∷ [])
    ++ codes "</ul>" ++ (10 ∷ []) ++ codes "<p>c</p>"
row_29 = refl

row_30 : html small (codes "# a" ++ (10 ∷ []) ++ codes "- " ++ (10 ∷ [])) on
    ≡ codes "<h1>a</h1>" ++ (10 ∷ []) ++ codes "<ul>" ++ (10 ∷ []) ++ codes "<li></li>" ++ (10 ∷ []) ++ codes "</ul>" ++ (10 ∷ [])
row_30 = refl

row_31 : html small (codes "```" ++ (10 ∷ []) ++ (10 ∷ []) ++ (10 ∷ [])) on
    ≡ codes "<pre><code>" ++ (10 ∷ []) ++ (10 ∷ []) ++ codes "</code></pre>" ++ (10 ∷ [])
row_31 = refl

row_32 : html small (codes "- a" ++ (10 ∷ []) ++ codes "-") on ≡ codes "<ul>" ++ (10 ∷ []) ++ codes "<li>a</li>" ++ (10 ∷ []) ++ codes "<li></li>" ++ (10 ∷ [])
    ++ codes "</ul>"
row_32 = refl
