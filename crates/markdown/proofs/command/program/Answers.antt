use Rattle.std.proofs.Common.{Bool, map, string_bytes, subst}
use Rattle.markdown_settings.specs.Settings.{faults_of}
use Rattle.markdown_devices.specs.Program.{EndsForWords, WritesAnswer}
use Rattle.markdown_devices.proofs.Programs.{complains, silent, succeeds}
use Rattle.markdown.proofs.command.program.Goals as goal

pub returns : goal.returns
returns g c =
    let words = map string_bytes c.args.words.now in
    let told = c.end.ensures in
    let lines = g.F.Write.contents in
    let same = succeeds lines _ _ _ c.obey-outcome.result told in
    record {
      page = λ h.
          subst (λ (ok : Bool). EndsForWords words g.S.File.Read.remaining g.R.Read.remaining g.W.Write.contents
          c.args.reader.now c.obey-outcome.new.reader c.args.writer.now c.obey-outcome.new.writer ok) same (c.obey-outcome.ensures.page h);
      answer = λ h.
          subst (λ (ok : Bool). WritesAnswer (faults_of words) g.W.Write.contents c.args.writer.now c.obey-outcome.new.writer ok) same (c.obey-outcome.ensures.answer h);
      unread = c.obey-outcome.ensures.unread;
      silent = silent lines _ _ _ c.obey-outcome.result told;
      complaint = complains _ lines _ _ _ c.obey-outcome.result c.obey-outcome.ensures.fault told;
    }
