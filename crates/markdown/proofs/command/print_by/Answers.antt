use Rattle.std.proofs.Common.{ap, inl, inr, refl}
use Rattle.std.specs.Prelude.{string_bytes}
use Rattle.std.specs.Option.{option_map}
use Rattle.std.proofs.lemmas.Result.{err_from_is_err_and}
use Rattle.markdown.proofs.command.print_by.Goals as goal

pub returns-in-None-clause-page : goal.returns-in-None-clause-page
returns-in-None-clause-page g c = rw (ap (option_map string_bytes) c.in-None.is) c.print.ensures.page

pub returns-in_err-file-in-Some-clause-page : goal.returns-in_err-file-in-Some-clause-page
returns-in_err-file-in-Some-clause-page g c =
    let p = err_from_is_err_and c.from_residual.result c.from_residual.ensures.1 in
    rw (p.1, ap (option_map string_bytes) c.in-Some.is) (refl, inl (refl, refl))

pub returns-in_ok-file-in-Some-clause-page : goal.returns-in_ok-file-in-Some-clause-page
returns-in_ok-file-in-Some-clause-page g c =
    rw (ap (option_map string_bytes) c.in-Some.is)
    (refl, inr (c.in_ok-file-in-Some.file, c.print-in-Some.new.reader, c.in_ok-file-in-Some.ensures.unread, c.print-in-Some.ensures.page))
