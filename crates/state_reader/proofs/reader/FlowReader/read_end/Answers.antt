use Rattle.std.proofs.Common.{sym, subst}
use Rattle.markdown_engine.specs.Context.{context}
use Rattle.state_reader.specs.Reader.{ReaderHolds, ReaderSeen, reader_seen}
use Rattle.state_reader.specs.ReaderLaws.{line_end}
use Rattle.state_reader.proofs.reader.FlowReader.read_end.Goals as goal

pub finish-requires : goal.finish-requires
finish-requires g c =
    let x = context c.args.parse_state.now in
    subst (λ (v : ReaderSeen). ReaderHolds x v) (sym c.in_ok-read_line.ensures.read) (line_end x (reader_seen c.args.self.now) c.args.point c.requires)
