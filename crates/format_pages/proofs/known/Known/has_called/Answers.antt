use Rattle.std.proofs.Common.{sym, ◌∙◌}
use Rattle.format_pages.proofs.Whole.{called_of}
use Rattle.format_pages.proofs.known.Known.has_called.Goals as goal

pub returns-in-Some-2-clause-called : goal.returns-in-Some-2-clause-called
returns-in-Some-2-clause-called c = λ same.
    called_of _ _ _ _ _ _ _ _ c.in-Some.is c.in-Some-2.is c.deref.ensures c.in_ok-called.ensures.page (sym c.eq-same.ensures ∙ same)
