use Rattle.std.proofs.Common.{sym, ap, ◌∙◌}
use Rattle.inline_content.proofs.Prelude.{without_last}
use Rattle.inline_content.proofs.Utf8Bytes.{utf8_bytes}
use Rattle.inline_content.proofs.WholeLines.{whole_content_is}
use Rattle.inline_content.proofs.whole.without_ending.Goals as goal

pub returns : goal.returns
returns c = c.without_return.ensures ∙ ap (without_last 13) c.without_feed.ensures
    ∙ sym (whole_content_is c.args.text.now (utf8_bytes c.args.text.now c.utf8.text))
