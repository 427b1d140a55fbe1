use Rattle.std.proofs.Common.{sym}
use Rattle.block_starts.proofs.Views.{owed_view, codes_view}
use Rattle.block_starts.proofs.cursor.Cursor.tab_columns.Goals as goal

pub returns-clause-same : goal.returns-clause-same
returns-clause-same c = sym (owed_view c.args.self c.bytes_only-bytes.ensures.bytes)

pub returns-clause-codes : goal.returns-clause-codes
returns-clause-codes c = codes_view c.args.self c.bytes_only-bytes.ensures.bytes
