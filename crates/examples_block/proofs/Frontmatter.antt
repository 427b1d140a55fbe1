-- Texts with frontmatter, and their HTML, which the definition computes.
use Rattle.std.specs.Prelude.{◌≡◌, true, [], ◌∷◌, ◌++◌, codes}
use Rattle.std.proofs.Common.{refl}
use Rattle.markdown_compile_options.specs.declared.configuration.Options.{Options}
use Rattle.markdown_options.specs.Defaults.{no_constructs, default_parse_options}
use Rattle.markdown_compile_options.specs.Defaults.{default_options}
use Rattle.markdown_definition.specs.Html.{html}
use Rattle.examples_block.proofs.SmallTables.{small}

abbrev on : Options
on = record default_options {
  parse = record default_parse_options {
    constructs = record no_constructs {
      block_quote = true;
      heading_atx = true;
      heading_setext = true;
      list_item = true;
      thematic_break = true;
      frontmatter = true;
    };
  };
}

row_0 : html small (codes "---" ++ (10 ∷ []) ++ codes "x" ++ (10 ∷ []) ++ codes "---" ++ (10 ∷ []) ++ codes "# a") on ≡ codes "<h1>a</h1>"
row_0 = refl

row_1 : html small (codes "---" ++ (10 ∷ []) ++ codes "a") on ≡ codes "<hr />" ++ (10 ∷ []) ++ codes "<p>a</p>"
row_1 = refl

row_2 : html small (codes "--- " ++ (9 ∷ []) ++ (10 ∷ []) ++ codes "x" ++ (10 ∷ []) ++ codes "---" ++ (10 ∷ []) ++ codes "a") on ≡ codes "<p>a</p>"
row_2 = refl

row_3 : html small (codes "+++" ++ (10 ∷ []) ++ codes "x" ++ (10 ∷ []) ++ codes "+++" ++ (10 ∷ []) ++ codes "a") on ≡ codes "<p>a</p>"
row_3 = refl

row_4 : html small (codes "---" ++ (10 ∷ []) ++ codes "x" ++ (10 ∷ []) ++ codes "+++" ++ (10 ∷ []) ++ codes "a") on
    ≡ codes "<hr />" ++ (10 ∷ []) ++ codes "<p>x" ++ (10 ∷ []) ++ codes "+++" ++ (10 ∷ []) ++ codes "a</p>"
row_4 = refl

row_5 : html small (codes "----" ++ (10 ∷ []) ++ codes "x" ++ (10 ∷ []) ++ codes "----" ++ (10 ∷ []) ++ codes "a") on
    ≡ codes "<hr />" ++ (10 ∷ []) ++ codes "<h2>x</h2>" ++ (10 ∷ []) ++ codes "<p>a</p>"
row_5 = refl

row_6 : html small (codes " ---" ++ (10 ∷ []) ++ codes "x" ++ (10 ∷ []) ++ codes "---" ++ (10 ∷ []) ++ codes "a") on
    ≡ codes "<hr />" ++ (10 ∷ []) ++ codes "<h2>x</h2>" ++ (10 ∷ []) ++ codes "<p>a</p>"
row_6 = refl

row_7 : html small (codes "---" ++ (10 ∷ []) ++ codes "---" ++ (10 ∷ []) ++ codes "a") on ≡ codes "<p>a</p>"
row_7 = refl

row_8 : html small (codes "---" ++ (10 ∷ []) ++ codes "x" ++ (10 ∷ []) ++ codes "---" ++ (10 ∷ [])) on ≡ []
row_8 = refl

row_9 : html small (codes "---" ++ (10 ∷ []) ++ codes "x" ++ (10 ∷ []) ++ codes " ---" ++ (10 ∷ []) ++ codes "---" ++ (10 ∷ []) ++ codes "- a") on
    ≡ codes "<ul>" ++ (10 ∷ []) ++ codes "<li>a</li>" ++ (10 ∷ []) ++ codes "</ul>"
row_9 = refl

row_10 : html small ((10 ∷ []) ++ codes "---" ++ (10 ∷ []) ++ codes "x" ++ (10 ∷ []) ++ codes "---" ++ (10 ∷ []) ++ codes "a") on
    ≡ codes "<hr />" ++ (10 ∷ []) ++ codes "<h2>x</h2>" ++ (10 ∷ []) ++ codes "<p>a</p>"
row_10 = refl
