use Rattle.format_pages.proofs.reader.ByOptionsReader.is_same.Goals as goal

pub returns-in-Ok : goal.returns-in-Ok
returns-in-Ok c = λ same other known. c.in-Ok.ensures.document other known same
