-- What a heading on one line stands for.
use Rattle.std.specs.Prelude.{Option, None, Some}
use Rattle.definition_block.specs.HeadingAtx.{Atx, atx}
use Rattle.block_starts.specs.declared.heading_atx.Atx.{Atx as CodeAtx}

abbrev pub atx_if : Option CodeAtx → Option Atx
atx_if None = None
atx_if (Some heading) = Some (atx heading.rank heading.content.now)
