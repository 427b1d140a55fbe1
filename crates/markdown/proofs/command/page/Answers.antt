use Rattle.std.proofs.Common.{List, Option, ap, refl, subst, sym, ℕ}
use Rattle.std.specs.Prelude.{is_ok, string_bytes}
use Rattle.std.specs.Option.{option_map}
use Rattle.std.proofs.lemmas.Result.{err_from_is_err_and}
use Rattle.markdown_definition.specs.TextTables.{text_tables}
use Rattle.markdown_tables.specs.Builtin.{builtin_tables}
use Rattle.markdown_tables.specs.Punctuation.{builtin_punctuation}
use Rattle.markdown_tables.specs.Rows.{names_of}
use Rattle.markdown_devices.specs.Endings.{EndsBy}
use Rattle.markdown_devices.proofs.Early.{early}
use Rattle.markdown.proofs.command.page.Goals as goal

pub returns-in_err-rows-in-Some-clause-page : goal.returns-in_err-rows-in-Some-clause-page
returns-in_err-rows-in-Some-clause-page g c =
    let settings = c.args.settings.now in
    let p = err_from_is_err_and c.from_residual.result c.from_residual.ensures.1 in
    rw (p.1) (early (option_map string_bytes settings.file) (option_map string_bytes settings.references) settings.options g.S.File.Read.remaining
    g.R.Read.remaining g.W.Write.contents c.args.reader.now c.args.writer.now c.requires.reader c.requires.writer)

pub returns-in-None-clause-page : goal.returns-in-None-clause-page
returns-in-None-clause-page g c =
    subst (λ (path : Option (List ℕ)). EndsBy (option_map string_bytes c.args.settings.now.file) path c.args.settings.now.options
    g.S.File.Read.remaining g.R.Read.remaining g.W.Write.contents c.args.reader.now c.print_by.new.reader c.args.writer.now c.print_by.new.writer
    (is_ok c.print_by.result))
    (sym (ap (option_map string_bytes) c.in-None.is)) (builtin_tables, refl, c.print_by.ensures.page)

pub returns-in_ok-rows-in-Some-clause-page : goal.returns-in_ok-rows-in-Some-clause-page
returns-in_ok-rows-in-Some-clause-page g c =
    let file = c.in_ok-rows-in-Some.ensures.rows in
    subst (λ (path : Option (List ℕ)). EndsBy (option_map string_bytes c.args.settings.now.file) path c.args.settings.now.options
    g.S.File.Read.remaining g.R.Read.remaining g.W.Write.contents c.args.reader.now c.print_by-in-Some.new.reader c.args.writer.now
    c.print_by-in-Some.new.writer (is_ok c.print_by-in-Some.result))
    (sym (ap (option_map string_bytes) c.in-Some.is)) (
      text_tables (names_of c.in_ok-rows-in-Some.rows) builtin_punctuation,
      (file.0, record { faultless = file.1; names = file.2; punctuation = refl }),
      c.print_by-in-Some.ensures.page,
    )
