use Rattle.std.proofs.Common.{◌∙◌, sym}
use Rattle.event_references.proofs.Prelude.{media_view, text_at}
use Rattle.event_references.proofs.Parts.{noted_none}
use Rattle.event_references.proofs.lost.Media.note.Goals as goal

pub returns-else-is_part : goal.returns-else-is_part
returns-else-is_part c bytes events =
    sym (noted_none c.args.name (text_at bytes events c.args.index) (media_view bytes events c.args.self.now) (sym c.is_part.ensures ∙ c.if-is_part.false))
