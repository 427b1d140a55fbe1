use Rattle.std.proofs.Common.{◌∙◌, ap}
use Rattle.compile_written.proofs.Prelude.{written_byte}
use Rattle.compile_written.proofs.FormedTexts.{written_tab, written_feed, written_return, written_space, written_ampersand, written_backslash}
use Rattle.compile_written.proofs.string.told_text.Goals as goal

pub returns-in-9-clause-written : goal.returns-in-9-clause-written
returns-in-9-clause-written c = ap written_byte c.in-9.is ∙ written_tab

pub returns-in-10-clause-written : goal.returns-in-10-clause-written
returns-in-10-clause-written c = ap written_byte c.in-10.is ∙ written_feed

pub returns-in-13-clause-written : goal.returns-in-13-clause-written
returns-in-13-clause-written c = ap written_byte c.in-13.is ∙ written_return

pub returns-in-32-clause-written : goal.returns-in-32-clause-written
returns-in-32-clause-written c = ap written_byte c.in-32.is ∙ written_space

pub returns-in-38-clause-written : goal.returns-in-38-clause-written
returns-in-38-clause-written c = ap written_byte c.in-38.is ∙ written_ampersand

pub returns-in-92-clause-written : goal.returns-in-92-clause-written
returns-in-92-clause-written c = ap written_byte c.in-92.is ∙ written_backslash
