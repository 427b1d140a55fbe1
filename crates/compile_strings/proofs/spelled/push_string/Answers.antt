use Rattle.std.proofs.Common.{◌∙◌}
use Rattle.compile_strings.proofs.spelled.push_string.Goals as goal

pub returns : goal.returns
returns g c = λ string found.
    record {
      text = c.in_ok-push_string_at.ensures string found;
      start = c.len-start.ensures ∙ c.args.text.now.bytes.ok.0;
      end = c.len-end.ensures ∙ c.push_string_at.new.text.bytes.ok.0;
    }
