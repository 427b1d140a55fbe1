-- Pages that have what options print: the attributes of their table, and marks.
use Rattle.std.proofs.Common.{◌≡◌, Bool, true, ◌||◌, refl}
use Rattle.std.specs.Option.{is_some}
use Rattle.std.proofs.lemmas.Bool.{cond-true, or_left, or_right}
use Rattle.markdown_compile_options.specs.declared.configuration.CompileOptions.{CompileOptions}
use Rattle.markdown_compile_options.specs.RawHtml.{keeps_listed_html}
use Rattle.markdown_compile_options.specs.Defaults.{default_compile_options, gfm_compile_options}
use Rattle.html_safe_page.specs.declared.table.TagTable.{TagTable}
use Rattle.html_safe_page.specs.declared.table.TagTable.TheVariants.{Basic, Extended}
use Rattle.laws_safe_page.specs.SafeHtml.{table_of}

pub record Fits (marks : Bool) (options : CompileOptions) (table : TagTable) : Type 0 where
  pub raw : keeps_listed_html options ≡ true → marks ≡ true
  pub ids : options.heading_ids ≡ true → table ≡ Extended
  pub rel : is_some options.link_rel ≡ true → table ≡ Extended
  pub lazy : options.lazy_images ≡ true → table ≡ Extended

pub own_fits : (marks : Bool) (options : CompileOptions) → (keeps_listed_html options ≡ true → marks ≡ true) → Fits marks options (table_of options)
own_fits marks options raw =
    let ids = options.heading_ids in
    let rel = is_some options.link_rel in
    let lazy = options.lazy_images in
    record {
      raw = raw;
      ids = λ h. cond-true (ids || (rel || lazy)) Extended Basic (or_left ids (rel || lazy) h);
      rel = λ h. cond-true (ids || (rel || lazy)) Extended Basic (or_right ids (rel || lazy) (or_left rel lazy h));
      lazy = λ h. cond-true (ids || (rel || lazy)) Extended Basic (or_right ids (rel || lazy) (or_right rel lazy h));
    }

pub extended_fits : (marks : Bool) (options : CompileOptions) → (keeps_listed_html options ≡ true → marks ≡ true) → Fits marks options Extended
extended_fits marks options raw = record { raw = raw; ids = λ h. refl; rel = λ h. refl; lazy = λ h. refl }

-- pages under default options have basic tags
pub default_table : table_of default_compile_options ≡ Basic
default_table = refl

pub gfm_table : table_of gfm_compile_options ≡ Basic
gfm_table = refl
